use Rattle.std.proofs.Common.{◌≡◌, drop}
use Rattle.cc_base.specs.Rows.{row_leq}
use Rattle.certificate_check.proofs.closed_maps.closed_maps.row_leq.Given as goal

abbrev pub invariant-loop-at : goal.invariant-loop-at
invariant-loop-at g l = row_leq g.C.Lattice.lattice (drop l.at l.row) (drop l.at l.other) ≡ row_leq g.C.Lattice.lattice l.row l.other
