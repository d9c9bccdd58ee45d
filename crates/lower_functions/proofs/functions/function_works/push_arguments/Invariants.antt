use Rattle.std.proofs.Common.{◌≡◌, drop}
use Rattle.c_layout.specs.CheckedUnits.{function_view}
use Rattle.lower_templates.specs.Worklist.Plans.{plan}
use Rattle.lower_functions.specs.Functions.Functions as spec
use Rattle.lower_functions.proofs.functions.function_works.push_arguments.Given as goal

abbrev pub invariant-loop-number : goal.invariant-loop-number
invariant-loop-number l = spec.arguments l.place (function_view l.function) (drop l.number-index l.numbers) (plan l.builder) ≡ spec.arguments l.place (function_view l.function) l.numbers (plan l.initial.builder)
