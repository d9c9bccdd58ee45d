use Rattle.std.proofs.Common.{◌≡◌, ◌++◌, take, drop, map}
use Rattle.store_objects.specs.Allocations.{renamed_cell}
use Rattle.store_objects.proofs.allocation.rename_pointers.Given as goal

abbrev pub invariant-loop-at : goal.invariant-loop-at
invariant-loop-at g l = record {
  row : take l.at l.row ++ map (renamed_cell l.site) (drop l.at l.fn.row) ≡ map (renamed_cell l.site) l.fn.row;
  rest : drop l.at l.row ≡ drop l.at l.fn.row;
}
