-- What the code says of a reading, unless memory ran out.
use Rattle.std.specs.Prelude.{◌≡◌, List, Option, Some, None, Result, Ok, Err}
use Rattle.c_preproc_conditions.specs.declared.condition_symbols.Symbol.{Symbol}
use Rattle.c_preproc_conditions.specs.declared.condition_value.Value.{Value}
use Rattle.c_preproc_conditions.specs.declared.evaluation.ConditionFault.{ConditionFault}
use Rattle.c_preproc_conditions.specs.declared.evaluation.ConditionFault.TheVariants.{NumberForm, Malformed, Memory}
use Rattle.c_preproc_conditions.specs.declared.evaluation.Frame.{Frame}
use Rattle.c_preproc_conditions.specs.Reading.{Reading}
use Rattle.c_preproc_conditions.specs.Expressions.{IsExpression}

-- a reading goes on so
abbrev pub Reads : Option Reading → List Frame → Result (Option Value) ConditionFault → Type 0
Reads next stack (Ok operand) = next ≡ Some (record { stack = stack; operand = operand })
Reads next stack (Err Malformed) = next ≡ None
Reads next stack (Err (NumberForm place)) = ⊥
Reads next stack (Err Memory) = Unit {0}

-- a value is answered where there is one
abbrev pub Answers : Option Value → Result Value ConditionFault → Type 0
Answers found (Ok v) = found ≡ Some v
Answers found (Err Malformed) = found ≡ None
Answers found (Err (NumberForm place)) = ⊥
Answers found (Err Memory) = Unit {0}

-- the value of an expression, or none where the tokens are no expression
abbrev pub Evaluates : List Symbol → Result Value ConditionFault → Type 0
Evaluates ts (Ok v) = IsExpression ts v
Evaluates ts (Err Malformed) = (v : Value) → IsExpression ts v → ⊥
Evaluates ts (Err (NumberForm place)) = ⊥
Evaluates ts (Err Memory) = Unit {0}
