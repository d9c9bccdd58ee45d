use Rattle.std.proofs.Common.{◌≡◌, Some}
use Rattle.store_cells.specs.Walks.{turns}
use Rattle.store_structs.specs.StructCopies.{route_view, copy_batch, reached_row}
use Rattle.store_structs.proofs.struct_copy.copy_all.Given as goal

abbrev pub invariant-loop-turn : goal.invariant-loop-turn
invariant-loop-turn g l = reached_row l.goes_on l.row ≡ turns (copy_batch g.I.Lattice.lattice g.I.IntDomain.numbers (route_view l.route) l.count) l.turn (Some l.initial.row)
