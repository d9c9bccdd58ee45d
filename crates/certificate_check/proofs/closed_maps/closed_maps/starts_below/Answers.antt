use Rattle.std.proofs.Common.{◌≡◌, ◌∙◌, length, Some, None, slice_index_or, ap, arith}
use Rattle.cc_base.specs.Rows.{reached_leq}
use Rattle.fixpoint.specs.Pool.Pool.{with_row}
use Rattle.fixpoint.specs.Pool.PoolLaws.{SameBut-with_row, row_of-same}
use Rattle.fixpoint.specs.Solver.RowMap.{slot_row}
use Rattle.certificate_check.proofs.closed_maps.SpareRows.{kept-slot}
use Rattle.certificate_check.proofs.closed_maps.closed_maps.starts_below.Goals as goal

pub returns-clause-same_but : goal.returns-clause-same_but
returns-clause-same_but g c =
    let len : length c.start.new.row ≡ c.args.pool.now.width = omega (arith, c.start.auto.row, c.row_mut.ensures.len) in
    SameBut-with_row c.args.pool.now c.args.spare.now.index c.start.new.row c.requires.held.whole c.requires.held.in_use len

pub returns-clause-below : goal.returns-clause-below
returns-clause-below g c =
    let len : length c.start.new.row ≡ c.args.pool.now.width = omega (arith, c.start.auto.row, c.row_mut.ensures.len) in
    let pool = with_row c.args.pool.now c.args.spare.now.index c.start.new.row in
    let same = SameBut-with_row c.args.pool.now c.args.spare.now.index c.start.new.row c.requires.held.whole c.requires.held.in_use len in
    let order = g.S.Cell.Lattice.lattice in
    c.is_below.ensures
    ∙ ap (λ r. reached_leq order (Some r) (slot_row pool (slice_index_or c.args.map.now 0 None))) (row_of-same c.args.pool.now c.args.spare.now.index c.start.new.row c.requires.held.whole c.requires.held.in_use len ∙ c.start.ensures)
    ∙ ap (λ r. reached_leq order (Some (g.S.System.machine c.args.system.now).start) r) (kept-slot c.args.pool.now pool c.args.map.now c.args.spare.now.index c.requires.held same 0)
