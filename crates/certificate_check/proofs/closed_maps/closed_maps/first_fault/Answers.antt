use Rattle.std.proofs.Common.{◌≡◌, ◌∙◌, ◌<◌, ℕ, true, false, None, Some, sym, subst, ap}
use Rattle.cc_base.specs.InductiveMap.{IsOwn, row_at}
use Rattle.fixpoint.specs.Solver.RowMap.{rows_in}
use Rattle.certificate_check.specs.ClosedMaps.MapFaults.{starts_below, edge_closed, EdgesClosed}
use Rattle.certificate_check.proofs.closed_maps.SpareRows.{kept-own, kept-rows}
use Rattle.certificate_check.proofs.closed_maps.closed_maps.first_fault.Goals as goal

pub open_edge-requires-clause-own : goal.open_edge-requires-clause-own
open_edge-requires-clause-own g c =
    kept-own c.args.pool.now c.starts_below.new.pool c.args.map.now c.args.spare.now.index c.requires.held c.starts_below.ensures.same_but (g.S.System.machine c.args.system.now) c.requires.own

pub returns-in-None-clause-fault : goal.returns-in-None-clause-fault
returns-in-None-clause-fault g c =
    let order = g.S.Cell.Lattice.lattice in
    let m = g.S.System.machine c.args.system.now in
    let kept = kept-rows c.args.pool.now c.starts_below.new.pool c.args.map.now c.args.spare.now.index c.requires.held c.starts_below.ensures.same_but in
    (sym c.starts_below.ensures.below ∙ c.if-not-starts_below.false, subst (λ rows. EdgesClosed order m rows m.edges) kept (c.open_edge.ensures.none c.in-None.is))

pub returns-in-Some-clause-fault : goal.returns-in-Some-clause-fault
returns-in-Some-clause-fault g c =
    let order = g.S.Cell.Lattice.lattice in
    let m = g.S.System.machine c.args.system.now in
    let kept = kept-rows c.args.pool.now c.starts_below.new.pool c.args.map.now c.args.spare.now.index c.requires.held c.starts_below.ensures.same_but in
    let first = c.open_edge.ensures.first c.in-Some.edge c.in-Some.is in (
      sym c.starts_below.ensures.below ∙ c.if-not-starts_below.false,
      first.0,
      ap (λ rows. edge_closed order m rows c.in-Some.edge) (sym kept) ∙ first.1,
      subst (λ rows. EdgesClosed order m rows c.in-Some.edge) kept first.2,
    )
