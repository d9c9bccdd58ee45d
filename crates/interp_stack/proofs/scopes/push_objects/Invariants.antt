use Rattle.std.proofs.Common.{◌≡◌, ◌≤◌, ◌++◌, length, drop}
use Rattle.c_layout.specs.CheckedUnits.{UnitView}
use Rattle.interp_stack.specs.StackViews.{standing}
use Rattle.interp_stack.proofs.scopes.push_objects.Given as goal

abbrev pub invariant-back : goal.invariant-back
invariant-back l = (l.k ≤ length l.objects) × ((u : UnitView) → ((standing u l.control.items).items ≡ (standing u l.initial.control.items).items) × ((standing u l.control.items).objects ≡ drop l.k l.objects ++ (standing u l.initial.control.items).objects))

abbrev pub decreases-back : goal.decreases-back
decreases-back l = l.k
