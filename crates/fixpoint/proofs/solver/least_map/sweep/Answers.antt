use Rattle.std.proofs.Common.{◌≡◌, ◌<◌, ◌≤◌, false, if◌then◌else◌, count_by, sym, subst, arith}
use Rattle.cc_base.specs.InductiveMap.{IsOwn, row_at}
use Rattle.fixpoint.specs.Pool.Pool.{free_count}
use Rattle.fixpoint.specs.Solver.SolverState.{advance, head_grows}
use Rattle.fixpoint.specs.Solver.Entering.{entered_map}
use Rattle.fixpoint.specs.Solver.RowMap.{is_vacant, state_in, rows_in, IsHeldBeside, Changed}
use Rattle.fixpoint.proofs.solver.SweepLaws.{Sweeping, turn-changed, turn-own, sweep-turn, sweep-inductive}
use Rattle.fixpoint.proofs.solver.least_map.sweep.Goals as goal

pub follow_if-grew-requires-clause-held : goal.follow_if-grew-requires-clause-held
follow_if-grew-requires-clause-held g c =
    let lt : c.loop-edge.edge < (g.S.System.machine c.args.system.now).edges = omega (arith, c.loop-edge-test.true, c.edges-edge-end.ensures) in
    let ch : Changed c.loop-edge.pool c.loop-edge.map c.args.spare.now.index c.loop-edge.pool (entered_map (g.S.System.machine c.args.system.now) c.loop-edge.edge c.loop-edge.map) =
    turn-changed g.S.Cell.Lattice.lattice g.met.S.Cell.Lattice.order g.met.S.Cell.Lattice.rounding (g.S.System.machine c.args.system.now) (g.met.S.System.lawful c.args.system.now c.requires.valid)
    c.args.pool.now c.args.map.now c.args.spare.now.index c.loop-edge.pool c.loop-edge.map c.loop-edge.following c.loop-edge.edge c.loop-edge.grew lt c.loop-edge.invariant.sweeping in
    subst (λ slots. IsHeldBeside c.loop-edge.pool slots c.args.spare.now.index) (sym c.enter-following.ensures.map) ch.held

pub follow_if-grew-requires-clause-room : goal.follow_if-grew-requires-clause-room
follow_if-grew-requires-clause-room g c =
    let lt : c.loop-edge.edge < (g.S.System.machine c.args.system.now).edges = omega (arith, c.loop-edge-test.true, c.edges-edge-end.ensures) in
    let ch : Changed c.loop-edge.pool c.loop-edge.map c.args.spare.now.index c.loop-edge.pool (entered_map (g.S.System.machine c.args.system.now) c.loop-edge.edge c.loop-edge.map) =
    turn-changed g.S.Cell.Lattice.lattice g.met.S.Cell.Lattice.order g.met.S.Cell.Lattice.rounding (g.S.System.machine c.args.system.now) (g.met.S.System.lawful c.args.system.now c.requires.valid)
    c.args.pool.now c.args.map.now c.args.spare.now.index c.loop-edge.pool c.loop-edge.map c.loop-edge.following c.loop-edge.edge c.loop-edge.grew lt c.loop-edge.invariant.sweeping in
    subst (λ slots. count_by is_vacant slots ≤ free_count c.loop-edge.pool) (sym c.enter-following.ensures.map)
    (omega (arith, ch.room, c.loop-edge.invariant.sweeping.changed.room, c.requires.room))

pub follow_if-grew-requires-clause-own : goal.follow_if-grew-requires-clause-own
follow_if-grew-requires-clause-own g c = λ b.
    let lt : c.loop-edge.edge < (g.S.System.machine c.args.system.now).edges = omega (arith, c.loop-edge-test.true, c.edges-edge-end.ensures) in
    subst (λ slots. IsOwn (g.S.System.machine c.args.system.now) (row_at (rows_in c.loop-edge.pool slots) b)) (sym c.enter-following.ensures.map)
    (turn-own g.S.Cell.Lattice.lattice g.met.S.Cell.Lattice.order g.met.S.Cell.Lattice.rounding (g.S.System.machine c.args.system.now) (g.met.S.System.lawful c.args.system.now c.requires.valid)
    c.args.pool.now c.args.map.now c.args.spare.now.index c.loop-edge.pool c.loop-edge.map c.loop-edge.following c.loop-edge.edge c.loop-edge.grew lt c.loop-edge.invariant.sweeping b)

pub loop-edge-preserved : goal.loop-edge-preserved
loop-edge-preserved g c =
    let lt : c.loop-edge.edge < (g.S.System.machine c.args.system.now).edges = omega (arith, c.loop-edge-test.true, c.edges-edge-end.ensures) in
    record {
      sweeping =
          sweep-turn g.S.Cell.Lattice.lattice g.met.S.Cell.Lattice.order g.met.S.Cell.Lattice.rounding (g.S.System.machine c.args.system.now) (g.met.S.System.lawful c.args.system.now c.requires.valid)
          c.args.pool.now c.args.map.now c.args.spare.now.index c.loop-edge.pool c.loop-edge.map c.loop-edge.following c.loop-edge.edge c.loop-edge.grew lt c.loop-edge.invariant.sweeping
          c.follow_if-grew.new.pool c.follow_if-grew.new.map c.enter-following.result c.follow_if-grew.result
          c.enter-following.ensures.follows
          (subst (λ slots. Changed c.loop-edge.pool slots c.args.spare.now.index c.follow_if-grew.new.pool c.follow_if-grew.new.map) c.enter-following.ensures.map c.follow_if-grew.ensures.changed)
          (subst (λ slots. state_in c.follow_if-grew.new.pool c.follow_if-grew.new.map ≡ (if c.enter-following.result then advance g.S.Cell.Lattice.lattice (g.S.System.machine c.args.system.now) c.loop-edge.edge (state_in c.loop-edge.pool slots) else state_in c.loop-edge.pool slots)) c.enter-following.ensures.map c.follow_if-grew.ensures.state)
          (subst (λ slots. c.follow_if-grew.result ≡ (if c.enter-following.result then head_grows g.S.Cell.Lattice.lattice (g.S.System.machine c.args.system.now) c.loop-edge.edge (state_in c.loop-edge.pool slots) else false)) c.enter-following.ensures.map c.follow_if-grew.ensures.grew);
      ticks = omega (arith, c.follow_if-grew.ensures.ticks, c.loop-edge.invariant.ticks);
    }

pub returns-clause-inductive : goal.returns-clause-inductive
returns-clause-inductive g c = λ none.
    let same : c.loop-edge.edge ≡ (g.S.System.machine c.args.system.now).edges = omega (arith, c.loop-edge-test.false, c.edges-edge-end.ensures, c.loop-edge.auto.edge-end) in
    sweep-inductive g.S.Cell.Lattice.lattice g.met.S.Cell.Lattice.order g.met.S.Cell.Lattice.rounding (g.S.System.machine c.args.system.now) (g.met.S.System.lawful c.args.system.now c.requires.valid)
    c.args.pool.now c.args.map.now c.args.spare.now.index c.loop-edge.pool c.loop-edge.map c.loop-edge.following c.loop-edge.grew
    (subst (λ e. Sweeping g.S.Cell.Lattice.lattice (g.S.System.machine c.args.system.now) c.args.pool.now c.args.map.now c.args.spare.now.index c.loop-edge.pool c.loop-edge.map c.loop-edge.following e c.loop-edge.grew) same c.loop-edge.invariant.sweeping)
    none
