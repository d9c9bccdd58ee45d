use Rattle.std.proofs.Common.{◌≡◌, vec_len}
use Rattle.c_layout.specs.CheckedUnits.{UnitView}
use Rattle.interp_stack.specs.StackViews.{standing}
use Rattle.interp_statements.specs.Choices.{followed}
use Rattle.interp_statements.proofs.choices.follow.Given as goal

abbrev pub invariant-loop-item : goal.invariant-loop-item
invariant-loop-item l = (u : UnitView) → followed l.held (standing u l.control.items) ≡ followed l.holds (standing u l.initial.control.items)

abbrev pub decreases-loop-item : goal.decreases-loop-item
decreases-loop-item l = vec_len l.control
