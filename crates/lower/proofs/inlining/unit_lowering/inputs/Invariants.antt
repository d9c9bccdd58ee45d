use Rattle.std.proofs.Common.{◌≡◌}
use Rattle.c_layout.specs.CheckedUnits.{function_view}
use Rattle.lower.specs.Inlining.Lowerings.{inputs}
use Rattle.lower.proofs.inlining.unit_lowering.inputs.Given as goal

abbrev pub invariant-loop-base : goal.invariant-loop-base
invariant-loop-base l = l.list.items ≡ inputs (function_view l.entry) l.base
