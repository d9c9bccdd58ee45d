use Rattle.std.proofs.Common.{◌≡◌, drop}
use Rattle.std.specs.Option.{option_map}
use Rattle.store_cells.specs.Walks.{walk}
use Rattle.store_structs.specs.CopyZeros.{copy_part, exact_view}
use Rattle.store_structs.proofs.copy_zeros.copy_zeros.Given as goal

abbrev pub invariant-loop-at : goal.invariant-loop-at
invariant-loop-at g l = walk (copy_part g.I.Lattice.lattice g.I.IntDomain.numbers l.base l.window (option_map exact_view l.exact)) l.at (drop l.at l.parts) l.row ≡ walk (copy_part g.I.Lattice.lattice g.I.IntDomain.numbers l.base l.window (option_map exact_view l.exact)) 0 l.parts l.initial.row
