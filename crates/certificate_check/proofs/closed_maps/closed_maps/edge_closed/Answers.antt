use Rattle.std.proofs.Common.{◌≡◌, ◌∙◌, Some, None, slice_index_or, ap, sym, subst}
use Rattle.cc_base.specs.Rows.{reached_leq}
use Rattle.cc_base.specs.InductiveMap.{row_at, step, IsOwn}
use Rattle.fixpoint.specs.Pool.Pool.{row_of}
use Rattle.fixpoint.specs.Solver.RowMap.{rows_in, slot_row}
use Rattle.fixpoint.proofs.solver.MapLaws.{row_at-rows_in}
use Rattle.certificate_check.proofs.closed_maps.SpareRows.{kept-slot}
use Rattle.certificate_check.proofs.closed_maps.closed_maps.edge_closed.Goals as goal

pub pass_any-requires-clause-own : goal.pass_any-requires-clause-own
pass_any-requires-clause-own g c =
    subst (IsOwn (g.S.System.machine c.args.system.now)) (row_at-rows_in c.args.pool.now c.args.map.now c.edge_from-from.result) (c.requires.own c.edge_from-from.result)

pub returns-then-pass_any-clause-closed : goal.returns-then-pass_any-clause-closed
returns-then-pass_any-clause-closed g c =
    let order = g.S.Cell.Lattice.lattice in
    let m = g.S.System.machine c.args.system.now in
    let rows = rows_in c.args.pool.now c.args.map.now in
    let passed : Some (row_of c.pass_any.new.pool c.args.spare.now.index) ≡ step m c.args.edge (row_at rows (m.source c.args.edge)) =
    sym (c.pass_any.ensures.reached c.if-pass_any.true)
    ∙ ap (step m c.args.edge) (sym (row_at-rows_in c.args.pool.now c.args.map.now c.edge_from-from.result))
    ∙ ap (λ b. step m c.args.edge (row_at rows b)) c.edge_from-from.ensures in
    c.is_below.ensures
    ∙ ap (λ r. reached_leq order r (slot_row c.pass_any.new.pool (slice_index_or c.args.map.now c.edge_to-to.result None))) passed
    ∙ ap (λ r. reached_leq order (step m c.args.edge (row_at rows (m.source c.args.edge))) r)
    (kept-slot c.args.pool.now c.pass_any.new.pool c.args.map.now c.args.spare.now.index c.requires.held c.pass_any.ensures.same_but c.edge_to-to.result
    ∙ ap (row_at rows) c.edge_to-to.ensures)
