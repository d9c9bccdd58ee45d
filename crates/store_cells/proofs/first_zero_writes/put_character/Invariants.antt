use Rattle.std.proofs.Common.{◌≡◌, drop}
use Rattle.store_cells.specs.Walks.{walk}
use Rattle.store_cells.specs.FirstZeroWrites.{put_part}
use Rattle.store_cells.proofs.first_zero_writes.put_character.Given as goal

abbrev pub invariant-loop-at : goal.invariant-loop-at
invariant-loop-at g l = walk (put_part g.I.Lattice.lattice g.I.IntDomain.numbers l.base l.window l.zero l.alone) l.at (drop l.at l.parts) l.row
    ≡ walk (put_part g.I.Lattice.lattice g.I.IntDomain.numbers l.base l.window l.zero l.alone) 0 l.parts l.initial.row
