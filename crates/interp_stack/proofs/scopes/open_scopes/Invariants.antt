use Rattle.std.proofs.Common.{take}
use Rattle.c_layout.specs.CheckedUnits.{UnitView}
use Rattle.interp_stack.specs.Scans.{Scans}
use Rattle.interp_stack.specs.StackViews.{standing}
use Rattle.interp_stack.proofs.scopes.open_scopes.Given as goal

abbrev pub invariant-loop-item : goal.invariant-loop-item
invariant-loop-item l = (u : UnitView) → Scans l.scopes.items l.below.items (standing u (take l.item-index l.control))
