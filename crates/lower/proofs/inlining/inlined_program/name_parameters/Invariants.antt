use Rattle.std.proofs.Common.{◌≡◌}
use Rattle.c_layout.specs.CheckedUnits.{unit_view}
use Rattle.lower.specs.Inlining.Inlinings.{made, copy_view, placed, with_parameters}
use Rattle.lower.proofs.inlining.inlined_program.name_parameters.Given as goal

abbrev pub invariant-loop-number : goal.invariant-loop-number
invariant-loop-number l = placed (made l.making) (copy_view l.copy) ≡ with_parameters (unit_view l.unit) l.number (placed (made l.initial.making) (copy_view l.initial.copy))
