-- The expressions of a condition (6.5.3 to 6.5.15 and 6.6), as a grammar with values.
use Rattle.std.specs.Prelude.{◌≡◌, ℕ, ◌<◌, ◌≤◌, List, [], ◌∷◌, ◌++◌, Option, Some, None}
use Rattle.c_preproc_conditions.specs.declared.condition_symbols.Symbol.{Symbol}
use Rattle.c_preproc_conditions.specs.declared.condition_symbols.Symbol.TheVariants.{Constant, Open, Close, Question, Colon, Plus, Minus, Prefix, Infix}
use Rattle.c_preproc_conditions.specs.declared.condition_value.Number.{Number}
use Rattle.c_preproc_conditions.specs.declared.condition_value.Value.{Value}
use Rattle.c_preproc_conditions.specs.declared.operations.Unary.{Unary}
use Rattle.c_preproc_conditions.specs.declared.operations.Unary.TheVariants as unary
use Rattle.c_preproc_conditions.specs.declared.operations.Binary.{Binary}
use Rattle.c_preproc_conditions.specs.declared.operations.Binary.TheVariants as binary
use Rattle.c_preproc_conditions.specs.ConditionValues.{defined, choice}
use Rattle.c_preproc_conditions.specs.Arithmetic.{apply_unary, apply_binary}
use Rattle.c_preproc_conditions.specs.Symbols.{precedence}

-- the operator with one operand that a token is
abbrev pub prefix_of : Symbol → Option Unary
prefix_of Plus = Some unary.Plus
prefix_of Minus = Some unary.Minus
prefix_of (Prefix op) = Some op
prefix_of x = None

-- the operator with two operands that a token is
abbrev pub infix_of : Symbol → Option Binary
infix_of Plus = Some binary.Add
infix_of Minus = Some binary.Subtract
infix_of (Infix op) = Some op
infix_of x = None

-- `Derives level tokens value`: the tokens are an expression of this level with this value. Level 11 has the unary
-- expressions, 10 to 1 those whose last operator binds so tightly, and 0 the conditional ones. Operators with two
-- operands are left associative.
pub data Derives : ℕ → List Symbol → Value → Type 0 where
  constant : (n : Number) → Derives 11 (Constant n ∷ []) (defined n)
  parenthesized : {p : ℕ} {ts : List Symbol} {v : Value} → Derives p ts v → Derives 11 (Open ∷ (ts ++ Close ∷ [])) v
  prefixed : {ts : List Symbol} {v : Value} → (x : Symbol) → (op : Unary) → prefix_of x ≡ Some op → Derives 11 ts v → Derives 11 (x ∷ ts) (apply_unary op v)
  joined : {p q : ℕ} {ls rs : List Symbol} {l r : Value} → (x : Symbol) → (op : Binary) → infix_of x ≡ Some op → precedence op ≤ p → precedence op < q → Derives p ls l → Derives q rs r
      → Derives (precedence op) (ls ++ x ∷ rs) (apply_binary op l r)
  chosen : {p q k : ℕ} {cs ls rs : List Symbol} {c l r : Value} → 0 < p → Derives p cs c → Derives q ls l → Derives k rs r → Derives 0 (cs ++ Question ∷ (ls ++ Colon ∷ rs)) (choice c l r)

-- the tokens are an expression with this value
abbrev pub IsExpression : List Symbol → Value → Type 0
IsExpression ts v = (p : ℕ) × Derives p ts v
