use Rattle.std.proofs.Common.{◌≡◌, ◌∙◌, ◌<◌, ℕ, true, false, Some, sym, subst, ap, arith}
use Rattle.fixpoint.specs.Pool.PoolLaws.{SameBut-trans}
use Rattle.fixpoint.specs.Solver.RowMap.{rows_in}
use Rattle.certificate_check.specs.ClosedMaps.MapFaults.{edge_closed, EdgesClosed}
use Rattle.certificate_check.proofs.closed_maps.SpareRows.{kept-own, kept-rows, closed-more}
use Rattle.certificate_check.proofs.closed_maps.closed_maps.open_edge.Goals as goal

pub edge_closed-requires-clause-own : goal.edge_closed-requires-clause-own
edge_closed-requires-clause-own g c =
    kept-own c.args.pool.now c.loop-edge.pool c.args.map.now c.args.spare.now.index c.requires.held c.loop-edge.invariant.same_but (g.S.System.machine c.args.system.now) c.requires.own

pub returns-then-not-edge_closed-clause-first : goal.returns-then-not-edge_closed-clause-first
returns-then-not-edge_closed-clause-first g c = λ e is.
    let order = g.S.Cell.Lattice.lattice in
    let m = g.S.System.machine c.args.system.now in
    let rows = rows_in c.args.pool.now c.args.map.now in
    let same : c.loop-edge.edge ≡ e = cc in
    let lt : c.loop-edge.edge < m.edges = omega (arith, c.loop-edge-test.true, c.edges-edge-end.ensures) in
    let fails : edge_closed order m rows c.loop-edge.edge ≡ false =
    ap (λ rs. edge_closed order m rs c.loop-edge.edge) (sym (kept-rows c.args.pool.now c.loop-edge.pool c.args.map.now c.args.spare.now.index c.requires.held c.loop-edge.invariant.same_but))
    ∙ sym c.edge_closed.ensures.closed ∙ c.if-not-edge_closed.true in
    subst (λ d. (d < m.edges) × (edge_closed order m rows d ≡ false) × EdgesClosed order m rows d) same (lt, fails, c.loop-edge.invariant.closed)

pub loop-edge-preserved : goal.loop-edge-preserved
loop-edge-preserved g c =
    let order = g.S.Cell.Lattice.lattice in
    let m = g.S.System.machine c.args.system.now in
    let rows = rows_in c.args.pool.now c.args.map.now in
    record {
      same_but = SameBut-trans c.args.pool.now c.loop-edge.pool c.edge_closed.new.pool c.args.spare.now.index c.loop-edge.invariant.same_but c.edge_closed.ensures.same_but;
      closed =
          closed-more order m rows c.loop-edge.edge c.loop-edge.invariant.closed
          (ap (λ rs. edge_closed order m rs c.loop-edge.edge) (sym (kept-rows c.args.pool.now c.loop-edge.pool c.args.map.now c.args.spare.now.index c.requires.held c.loop-edge.invariant.same_but))
          ∙ sym c.edge_closed.ensures.closed ∙ c.if-not-edge_closed.false);
    }
