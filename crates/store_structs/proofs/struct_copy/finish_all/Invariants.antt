use Rattle.std.proofs.Common.{◌≡◌, drop}
use Rattle.std.specs.Option.{option_map}
use Rattle.store_cells.specs.Walks.{walk}
use Rattle.store_structs.specs.CopyZeros.{exact_view}
use Rattle.store_structs.specs.PaddingWrites.{padded_view}
use Rattle.store_structs.specs.StructCopies.{route_view, finish_at}
use Rattle.store_structs.proofs.struct_copy.finish_all.Given as goal

abbrev pub invariant-loop-n : goal.invariant-loop-n
invariant-loop-n g l = walk (finish_at g.I.Lattice.lattice g.I.IntDomain.numbers (route_view l.route) (padded_view l.padded) (option_map exact_view l.exact) l.padding) l.n (drop l.n l.bases) l.row ≡ walk (finish_at g.I.Lattice.lattice g.I.IntDomain.numbers (route_view l.route) (padded_view l.padded) (option_map exact_view l.exact) l.padding) 0 l.bases l.initial.row
