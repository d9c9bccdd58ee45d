use Rattle.std.proofs.Common.{◌≡◌, drop}
use Rattle.store_cells.specs.Walks.{walk}
use Rattle.store_structs.specs.PaddingWrites.{padded_view, pad_part}
use Rattle.store_structs.proofs.padding_writes.pad_zeros.Given as goal

abbrev pub invariant-loop-at : goal.invariant-loop-at
invariant-loop-at g l = walk (pad_part g.I.Lattice.lattice g.I.IntDomain.numbers l.model l.base (padded_view l.padded)) l.at (drop l.at l.parts) l.row ≡ walk (pad_part g.I.Lattice.lattice g.I.IntDomain.numbers l.model l.base (padded_view l.padded)) 0 l.parts l.initial.row
