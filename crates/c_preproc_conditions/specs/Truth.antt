-- The truth of a condition's line, as it is computed.
use Rattle.std.specs.Prelude.{◌≡◌, Bool, List, [], Option, Some, None, Result, Ok, Err}
use Rattle.cc_base.specs.declared.diagnostics.Place.{Place}
use Rattle.c_preproc_conditions.specs.declared.condition_symbols.Symbol.{Symbol}
use Rattle.c_preproc_conditions.specs.declared.condition_value.Value.{Value}
use Rattle.c_preproc_conditions.specs.declared.evaluation.ConditionFault.{ConditionFault}
use Rattle.c_preproc_conditions.specs.declared.evaluation.ConditionFault.TheVariants.{NumberForm, Malformed, Memory}
use Rattle.c_preproc_conditions.specs.Reading.{run}
use Rattle.c_preproc_conditions.specs.Lines.{decided}

abbrev pub decided_if : Option Value → Result Bool ConditionFault
decided_if None = Err Malformed
decided_if (Some v) = decided v

-- whether an expression is not 0, where its computation is defined
abbrev pub truth : List Symbol → Result Bool ConditionFault
truth ts = decided_if (run ts (record { stack = []; operand = None }))

-- the first token whose form is not in goes before all else
abbrev pub line_truth : Result (List Symbol) Place → Result Bool ConditionFault
line_truth (Ok ts) = truth ts
line_truth (Err place) = Err (NumberForm place)

-- an answer is this one, unless memory ran out
abbrev pub IsTruth : Result Bool ConditionFault → Result Bool ConditionFault → Type 0
IsTruth wanted (Ok b) = wanted ≡ Ok b
IsTruth wanted (Err Malformed) = wanted ≡ Err Malformed
IsTruth wanted (Err (NumberForm place)) = wanted ≡ Err (NumberForm place)
IsTruth wanted (Err Memory) = Unit {0}
