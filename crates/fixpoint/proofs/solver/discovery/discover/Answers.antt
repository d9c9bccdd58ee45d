use Rattle.std.proofs.Common.{◌≡◌, ◌<◌, ◌∙◌, true, false, length, slice_index_or, Some, None, refl, ap, sym, subst, arith}
use Rattle.cc_base.specs.Rows.{row_rounded_if}
use Rattle.cc_base.specs.InductiveMap.{IsOwn, step}
use Rattle.fixpoint.specs.Pool.Pool.{row_of, with_mark, with_taken, SameBut}
use Rattle.fixpoint.specs.Pool.PoolLaws.{SameBut-trans}
use Rattle.fixpoint.specs.declared.pool.row_name.Row.{Row}
use Rattle.fixpoint.specs.Solver.RowMap.{slot_row, state_in, Changed}
use Rattle.fixpoint.proofs.solver.MapLaws.{row_at-rows_in}
use Rattle.fixpoint.proofs.solver.DiscoveryLaws.{vacant-none, taken-row, given-same_but, free-changed, free-state, settled-changed, settled-state, discovered-state, discovered-grows, missed-state, missed-grows}
use Rattle.fixpoint.proofs.solver.discovery.discover.Goals as goal

pub leave-requires-clause-taken : goal.leave-requires-clause-taken
leave-requires-clause-taken g c = λ i e. c.take_row-row.ensures.others i (c.requires.held.held.taken c.edge_from-from.result i e)

pub leave-requires-clause-own : goal.leave-requires-clause-own
leave-requires-clause-own g c =
    subst (IsOwn (g.S.System.machine c.args.system.now))
    (row_at-rows_in c.args.pool.now c.args.map.now c.edge_from-from.result
    ∙ sym (taken-row c.args.pool.now c.take_row-row.new.pool c.take_row-row.result.index (slice_index_or c.args.map.now c.edge_from-from.result None) c.requires.held.whole (c.requires.held.held.taken c.edge_from-from.result) c.take_row-row.ensures.taken))
    (c.requires.own c.edge_from-from.result)

pub returns-then-leave-clause-changed : goal.returns-then-leave-clause-changed
returns-then-leave-clause-changed g c =
    let target : (g.S.System.machine c.args.system.now).target c.args.edge < (g.S.System.machine c.args.system.now).blocks =
    (g.met.S.System.lawful c.args.system.now c.requires.valid).target_below c.args.edge c.requires.edge in
    let lt : c.args.to < length c.args.map.now = omega (arith, c.requires.to, c.requires.size) in
    let made : SameBut (with_taken c.args.pool.now c.take_row-row.result.index) c.leave.new.pool c.take_row-row.result.index =
    subst (λ u. SameBut u c.leave.new.pool c.take_row-row.result.index) c.take_row-row.ensures.taken c.leave.ensures.same_but in
    subst (Changed c.args.pool.now c.args.map.now c.args.spare.now.index c.settle.new.pool) (sym c.settle.ensures.map)
    (settled-changed c.args.pool.now c.settle.new.pool c.args.map.now c.args.to c.args.spare.now.index (record c.take_row-row.result { marked = true }) lt
    (vacant-none (slice_index_or c.args.map.now c.args.to None) c.requires.vacant) c.requires.held c.take_row-row.ensures.free
    (SameBut-trans (with_taken c.args.pool.now c.take_row-row.result.index) c.leave.new.pool c.settle.new.pool c.take_row-row.result.index made c.settle.ensures.same_but))

pub returns-then-leave-clause-state : goal.returns-then-leave-clause-state
returns-then-leave-clause-state g c =
    let target : (g.S.System.machine c.args.system.now).target c.args.edge < (g.S.System.machine c.args.system.now).blocks =
    (g.met.S.System.lawful c.args.system.now c.requires.valid).target_below c.args.edge c.requires.edge in
    let lt : c.args.to < length c.args.map.now = omega (arith, c.requires.to, c.requires.size) in
    let made : SameBut (with_taken c.args.pool.now c.take_row-row.result.index) c.leave.new.pool c.take_row-row.result.index =
    subst (λ u. SameBut u c.leave.new.pool c.take_row-row.result.index) c.take_row-row.ensures.taken c.leave.ensures.same_but in
    let gives : step (g.S.System.machine c.args.system.now) c.args.edge (slot_row c.args.pool.now (slice_index_or c.args.map.now c.edge_from-from.result None)) ≡ Some (row_of c.leave.new.pool c.take_row-row.result.index) =
    ap (step (g.S.System.machine c.args.system.now) c.args.edge)
    (sym (taken-row c.args.pool.now c.take_row-row.new.pool c.take_row-row.result.index (slice_index_or c.args.map.now c.edge_from-from.result None) c.requires.held.whole (c.requires.held.held.taken c.edge_from-from.result) c.take_row-row.ensures.taken))
    ∙ c.leave.ensures.reached c.if-leave.true in
    ap (state_in c.settle.new.pool) c.settle.ensures.map
    ∙ settled-state c.args.pool.now c.settle.new.pool c.args.map.now c.args.to c.args.spare.now.index (record c.take_row-row.result { marked = true }) lt
    (vacant-none (slice_index_or c.args.map.now c.args.to None) c.requires.vacant) c.requires.held c.take_row-row.ensures.free
    (SameBut-trans (with_taken c.args.pool.now c.take_row-row.result.index) c.leave.new.pool c.settle.new.pool c.take_row-row.result.index made c.settle.ensures.same_but)
    g.S.Cell.Lattice.lattice (g.S.System.machine c.args.system.now) (row_of c.leave.new.pool c.take_row-row.result.index) c.settle.ensures.row refl
    ∙ discovered-state g.S.Cell.Lattice.lattice (g.S.System.machine c.args.system.now) c.args.edge c.edge_from-from.result c.args.to c.args.pool.now c.args.map.now (row_of c.leave.new.pool c.take_row-row.result.index)
    c.edge_from-from.ensures c.requires.to (vacant-none (slice_index_or c.args.map.now c.args.to None) c.requires.vacant) gives

pub returns-then-leave-clause-grew : goal.returns-then-leave-clause-grew
returns-then-leave-clause-grew g c =
    let gives : step (g.S.System.machine c.args.system.now) c.args.edge (slot_row c.args.pool.now (slice_index_or c.args.map.now c.edge_from-from.result None)) ≡ Some (row_of c.leave.new.pool c.take_row-row.result.index) =
    ap (step (g.S.System.machine c.args.system.now) c.args.edge)
    (sym (taken-row c.args.pool.now c.take_row-row.new.pool c.take_row-row.result.index (slice_index_or c.args.map.now c.edge_from-from.result None) c.requires.held.whole (c.requires.held.held.taken c.edge_from-from.result) c.take_row-row.ensures.taken))
    ∙ c.leave.ensures.reached c.if-leave.true in
    c.settle.ensures.head
    ∙ discovered-grows g.S.Cell.Lattice.lattice (g.S.System.machine c.args.system.now) c.args.edge c.edge_from-from.result c.args.to c.args.pool.now c.args.map.now (row_of c.leave.new.pool c.take_row-row.result.index)
    c.edge_from-from.ensures c.requires.to (vacant-none (slice_index_or c.args.map.now c.args.to None) c.requires.vacant) gives

pub returns-else-leave-clause-changed : goal.returns-else-leave-clause-changed
returns-else-leave-clause-changed g c =
    let made : SameBut (with_taken c.args.pool.now c.take_row-row.result.index) c.leave.new.pool c.take_row-row.result.index =
    subst (λ u. SameBut u c.leave.new.pool c.take_row-row.result.index) c.take_row-row.ensures.taken c.leave.ensures.same_but in
    subst (λ u. Changed c.args.pool.now c.args.map.now c.args.spare.now.index u c.args.map.now) (sym c.give.ensures.free)
    (free-changed c.args.pool.now (with_mark c.leave.new.pool c.take_row-row.result.index false) c.args.map.now c.args.spare.now.index c.take_row-row.result.index c.requires.held c.take_row-row.ensures.free
    (given-same_but c.args.pool.now c.leave.new.pool c.take_row-row.result.index c.requires.held.whole c.take_row-row.ensures.free made))

pub returns-else-leave-clause-state : goal.returns-else-leave-clause-state
returns-else-leave-clause-state g c =
    let made : SameBut (with_taken c.args.pool.now c.take_row-row.result.index) c.leave.new.pool c.take_row-row.result.index =
    subst (λ u. SameBut u c.leave.new.pool c.take_row-row.result.index) c.take_row-row.ensures.taken c.leave.ensures.same_but in
    let gives : step (g.S.System.machine c.args.system.now) c.args.edge (slot_row c.args.pool.now (slice_index_or c.args.map.now c.edge_from-from.result None)) ≡ None =
    ap (step (g.S.System.machine c.args.system.now) c.args.edge)
    (sym (taken-row c.args.pool.now c.take_row-row.new.pool c.take_row-row.result.index (slice_index_or c.args.map.now c.edge_from-from.result None) c.requires.held.whole (c.requires.held.held.taken c.edge_from-from.result) c.take_row-row.ensures.taken))
    ∙ c.leave.ensures.unreached c.if-leave.false in
    ap (λ u. state_in u c.args.map.now) c.give.ensures.free
    ∙ free-state c.args.pool.now (with_mark c.leave.new.pool c.take_row-row.result.index false) c.args.map.now c.args.spare.now.index c.take_row-row.result.index c.requires.held c.take_row-row.ensures.free
    (given-same_but c.args.pool.now c.leave.new.pool c.take_row-row.result.index c.requires.held.whole c.take_row-row.ensures.free made)
    ∙ missed-state g.S.Cell.Lattice.lattice (g.S.System.machine c.args.system.now) c.args.edge c.edge_from-from.result c.args.pool.now c.args.map.now c.edge_from-from.ensures gives

pub returns-else-leave-clause-grew : goal.returns-else-leave-clause-grew
returns-else-leave-clause-grew g c =
    let gives : step (g.S.System.machine c.args.system.now) c.args.edge (slot_row c.args.pool.now (slice_index_or c.args.map.now c.edge_from-from.result None)) ≡ None =
    ap (step (g.S.System.machine c.args.system.now) c.args.edge)
    (sym (taken-row c.args.pool.now c.take_row-row.new.pool c.take_row-row.result.index (slice_index_or c.args.map.now c.edge_from-from.result None) c.requires.held.whole (c.requires.held.held.taken c.edge_from-from.result) c.take_row-row.ensures.taken))
    ∙ c.leave.ensures.unreached c.if-leave.false in
    missed-grows g.S.Cell.Lattice.lattice (g.S.System.machine c.args.system.now) c.args.edge c.edge_from-from.result c.args.pool.now c.args.map.now c.edge_from-from.ensures gives
