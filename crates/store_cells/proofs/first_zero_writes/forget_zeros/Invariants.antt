use Rattle.std.proofs.Common.{◌≡◌, drop}
use Rattle.store_cells.specs.Walks.{walk}
use Rattle.store_cells.specs.FirstZeroWrites.{forget_part}
use Rattle.store_cells.proofs.first_zero_writes.forget_zeros.Given as goal

abbrev pub invariant-loop-at : goal.invariant-loop-at
invariant-loop-at g l = walk (forget_part g.I.Lattice.lattice g.I.IntDomain.numbers l.base l.window) l.at (drop l.at l.parts) l.row
    ≡ walk (forget_part g.I.Lattice.lattice g.I.IntDomain.numbers l.base l.window) 0 l.parts l.initial.row
