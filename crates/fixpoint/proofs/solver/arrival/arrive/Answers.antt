use Rattle.std.proofs.Common.{◌≡◌, ◌<◌, Some, length, slice_index_or, None, refl, arith}
use Rattle.fixpoint.specs.Pool.Pool.{row_of}
use Rattle.fixpoint.specs.Solver.SolverState.{arrived}
use Rattle.fixpoint.specs.Solver.RowMap.{slot_row}
use Rattle.fixpoint.proofs.solver.MapLaws.{map-changed, map-state}
use Rattle.fixpoint.proofs.solver.arrival.arrive.Goals as goal

pub returns-clause-changed : goal.returns-clause-changed
returns-clause-changed g c =
    let lt : c.args.block < length c.args.map.now = omega arith in
    map-changed c.args.pool.now c.arrive_at.new.pool c.args.map.now c.args.block (slice_index_or c.args.map.now c.args.block None) c.arrive_at.new.slot c.args.spare.now.index
    lt refl c.requires.held c.arrive_at.ensures.changed

pub returns-clause-state : goal.returns-clause-state
returns-clause-state g c =
    let lt : c.args.block < length c.args.map.now = omega arith in
    let slot = slice_index_or c.args.map.now c.args.block None in
    let row : slot_row c.arrive_at.new.pool c.arrive_at.new.slot ≡ Some (arrived g.S.Cell.Lattice.lattice (g.S.System.machine c.args.system.now).list ((g.S.System.machine c.args.system.now).head c.args.block) (slot_row c.args.pool.now (slice_index_or c.args.map.now c.args.block None)) (row_of c.args.pool.now c.args.spare.now.index)) =
    cc (c.arrive_at.ensures.row, c.thresholds.ensures, c.is_head.ensures) in
    map-state c.args.pool.now c.arrive_at.new.pool c.args.map.now c.args.block (slice_index_or c.args.map.now c.args.block None) c.arrive_at.new.slot c.args.spare.now.index
    lt refl c.requires.held c.arrive_at.ensures.changed
    g.S.Cell.Lattice.lattice (g.S.System.machine c.args.system.now) (row_of c.args.pool.now c.args.spare.now.index) row c.arrive_at.ensures.mark
