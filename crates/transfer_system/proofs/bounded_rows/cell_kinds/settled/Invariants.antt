use Rattle.std.proofs.Common.{◌≡◌, ◌-◌, length}
use Rattle.transfer_system.specs.BoundedRows.CellKinds.{kinds_in}
use Rattle.transfer_system.proofs.bounded_rows.cell_kinds.settled.Given as goal

abbrev pub invariant-loop-left : goal.invariant-loop-left
invariant-loop-left l = kinds_in l.bases l.left ≡ kinds_in l.bases l.fn.left

abbrev pub decreases-loop-left : goal.decreases-loop-left
decreases-loop-left l = length l.bases - l.left.next
