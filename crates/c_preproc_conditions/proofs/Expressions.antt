-- Worked rows of the expressions of a condition.
use Rattle.std.proofs.Common.{◌≡◌, List, [], ◌∷◌, Option, Some, None, pos, refl}
use Rattle.c_preproc_conditions.specs.declared.condition_symbols.Symbol.{Symbol}
use Rattle.c_preproc_conditions.specs.declared.condition_symbols.Symbol.TheVariants.{Constant, Open, Close, Question, Colon, Plus, Minus, Infix}
use Rattle.c_preproc_conditions.specs.declared.condition_value.Number.TheVariants.{Signed}
use Rattle.c_preproc_conditions.specs.declared.condition_value.Value.{Value}
use Rattle.c_preproc_conditions.specs.declared.operations.Binary.TheVariants.{Multiply}
use Rattle.c_preproc_conditions.specs.ConditionValues.{defined}
use Rattle.c_preproc_conditions.specs.Reading.{run}

abbrev value : List Symbol → Option Value
value ts = run ts (record { stack = []; operand = None })

abbrev two : Symbol
two = Constant (Signed (pos 2))

abbrev three : Symbol
three = Constant (Signed (pos 3))

-- 2 - 3 - 2 is (2 - 3) - 2, and 2 * 3 goes before 3 - ..
from_the_left : value (three ∷ (Minus ∷ (two ∷ (Minus ∷ (two ∷ []))))) ≡ value (Open ∷ (three ∷ (Minus ∷ (two ∷ (Close ∷ (Minus ∷ (two ∷ [])))))))
from_the_left = refl

tighter : value (three ∷ (Plus ∷ (two ∷ (Infix Multiply ∷ (three ∷ []))))) ≡ Some (defined (Signed (pos 9)))
tighter = refl

-- 2 ? 3 : 2 ? 2 : 2
from_the_right : value (two ∷ (Question ∷ (three ∷ (Colon ∷ (two ∷ (Question ∷ (two ∷ (Colon ∷ (two ∷ []))))))))) ≡ Some (defined (Signed (pos 3)))
from_the_right = refl

not_whole : value (Open ∷ (two ∷ [])) ≡ None
not_whole = refl

two_operands : value (two ∷ (three ∷ [])) ≡ None
two_operands = refl
