use Rattle.std.proofs.Common.{◌≡◌, ◌≤◌, length, take}
use Rattle.c_layout.specs.CheckedUnits.{UnitView}
use Rattle.interp_stack.specs.StackViews.{standing}
use Rattle.interp.proofs.machine.sizes.first_below.Given as goal

abbrev pub invariant-back : goal.invariant-back
invariant-back l = (l.k ≤ length l.control) × ((u : UnitView) → (standing u (take l.k l.control)).objects ≡ (standing u l.control).objects)

abbrev pub decreases-back : goal.decreases-back
decreases-back l = l.k
