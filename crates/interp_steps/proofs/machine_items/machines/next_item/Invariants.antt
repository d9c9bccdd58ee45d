use Rattle.std.proofs.Common.{◌≡◌, vec_len}
use Rattle.c_layout.specs.CheckedUnits.{UnitView}
use Rattle.interp_stack.specs.StackViews.{standing}
use Rattle.interp_steps.proofs.machine_items.machines.next_item.Given as goal

abbrev pub invariant-loop-item : goal.invariant-loop-item
invariant-loop-item l = (u : UnitView) → (standing u l.control.items).items ≡ (standing u l.initial.control.items).items

abbrev pub decreases-loop-item : goal.decreases-loop-item
decreases-loop-item l = vec_len l.control
