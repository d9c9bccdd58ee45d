use Rattle.std.proofs.Common.{◌&&◌, ◌∙◌, ap, sym, subst, Some, None}
use Rattle.cc_base.specs.InductiveMap.{IsOwn, row_at}
use Rattle.fixpoint.specs.Pool.Pool.{row_of}
use Rattle.fixpoint.specs.Solver.SolverState.{arrive, grows}
use Rattle.fixpoint.specs.Solver.RowMap.{state_in, rows_in}
use Rattle.fixpoint.proofs.solver.MapLaws.{row_at-rows_in}
use Rattle.fixpoint.proofs.solver.SpareLaws.{spare-changed, spare-rows, spare-state, advance-is, head_grows-is, Changed-trans}
use Rattle.fixpoint.proofs.solver.following.revisit.Goals as goal

pub leave-requires-clause-own : goal.leave-requires-clause-own
leave-requires-clause-own g c =
    subst (IsOwn (g.S.System.machine c.args.system.now)) (row_at-rows_in c.args.pool.now c.args.map.now c.edge_from-from.result) (c.requires.own c.edge_from-from.result)

pub returns-then-not-leave-clause-changed : goal.returns-then-not-leave-clause-changed
returns-then-not-leave-clause-changed g c = spare-changed c.args.pool.now c.leave.new.pool c.args.map.now c.args.spare.now.index c.requires.held c.leave.ensures.same_but

pub returns-then-not-leave-clause-state : goal.returns-then-not-leave-clause-state
returns-then-not-leave-clause-state g c =
    spare-state c.args.pool.now c.leave.new.pool c.args.map.now c.args.spare.now.index c.requires.held c.leave.ensures.same_but
    ∙ sym (advance-is g.S.Cell.Lattice.lattice (g.S.System.machine c.args.system.now) c.args.edge c.edge_from-from.result c.args.pool.now c.args.map.now None
    c.edge_from-from.ensures (c.leave.ensures.unreached c.if-not-leave.true))

pub returns-clause-changed : goal.returns-clause-changed
returns-clause-changed g c =
    Changed-trans c.args.pool.now c.leave.new.pool c.arrive.new.pool c.args.map.now c.args.map.now c.arrive.new.map c.args.spare.now.index
    (spare-changed c.args.pool.now c.leave.new.pool c.args.map.now c.args.spare.now.index c.requires.held c.leave.ensures.same_but)
    c.arrive.ensures.changed

pub returns-clause-state : goal.returns-clause-state
returns-clause-state g c =
    c.arrive.ensures.state
    ∙ ap (arrive g.S.Cell.Lattice.lattice (g.S.System.machine c.args.system.now) c.edge_to-to.result (row_of c.leave.new.pool c.args.spare.now.index))
    (spare-state c.args.pool.now c.leave.new.pool c.args.map.now c.args.spare.now.index c.requires.held c.leave.ensures.same_but)
    ∙ ap (λ t. arrive g.S.Cell.Lattice.lattice (g.S.System.machine c.args.system.now) t (row_of c.leave.new.pool c.args.spare.now.index) (state_in c.args.pool.now c.args.map.now)) c.edge_to-to.ensures
    ∙ sym (advance-is g.S.Cell.Lattice.lattice (g.S.System.machine c.args.system.now) c.args.edge c.edge_from-from.result c.args.pool.now c.args.map.now (Some (row_of c.leave.new.pool c.args.spare.now.index))
    c.edge_from-from.ensures (c.leave.ensures.reached c.if-not-leave.false))

pub returns-clause-grew : goal.returns-clause-grew
returns-clause-grew g c =
    ap (λ b. b && c.is_head.result) c.arrive.ensures.grew
    ∙ ap (λ rows. grows g.S.Cell.Lattice.lattice (row_at rows c.edge_to-to.result) (row_of c.leave.new.pool c.args.spare.now.index) && c.is_head.result)
    (spare-rows c.args.pool.now c.leave.new.pool c.args.map.now c.args.spare.now.index c.requires.held c.leave.ensures.same_but)
    ∙ ap (λ h. grows g.S.Cell.Lattice.lattice (row_at (rows_in c.args.pool.now c.args.map.now) c.edge_to-to.result) (row_of c.leave.new.pool c.args.spare.now.index) && h) c.is_head.ensures
    ∙ ap (λ t. grows g.S.Cell.Lattice.lattice (row_at (rows_in c.args.pool.now c.args.map.now) t) (row_of c.leave.new.pool c.args.spare.now.index) && (g.S.System.machine c.args.system.now).head t) c.edge_to-to.ensures
    ∙ sym (head_grows-is g.S.Cell.Lattice.lattice (g.S.System.machine c.args.system.now) c.args.edge c.edge_from-from.result c.args.pool.now c.args.map.now (Some (row_of c.leave.new.pool c.args.spare.now.index))
    c.edge_from-from.ensures (c.leave.ensures.reached c.if-not-leave.false))
