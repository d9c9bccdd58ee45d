use Rattle.std.proofs.Common.{◌≡◌, ◌++◌, take, drop, map}
use Rattle.store_objects.specs.ObjectLives.{ended_cell}
use Rattle.store_objects.proofs.object_lives.end_pointers.Given as goal

abbrev pub invariant-loop-at : goal.invariant-loop-at
invariant-loop-at g l = record {
  row : take l.at l.row ++ map (ended_cell g.I.Lattice.lattice l.base) (drop l.at l.fn.row) ≡ map (ended_cell g.I.Lattice.lattice l.base) l.fn.row;
  rest : drop l.at l.row ≡ drop l.at l.fn.row;
}
