use Rattle.std.proofs.Common.{◌≡◌, ◌∙◌, length, sym, subst, arith}
use Rattle.fixpoint.specs.Pool.Pool.{with_row, SameBut}
use Rattle.fixpoint.specs.Pool.PoolLaws.{SameBut-with_row, row_of-same}
use Rattle.fixpoint.specs.Solver.SolverState.{State}
use Rattle.fixpoint.specs.Solver.Progress.{IsSound, HasEntry, IsMarked}
use Rattle.fixpoint.specs.Solver.RowMap.{IsHeldBeside, Changed}
use Rattle.fixpoint.proofs.solver.SpareLaws.{spare-changed, Changed-trans}
use Rattle.fixpoint.proofs.solver.StartLaws.{vacant_held, start-state, begin-sound, begin-entry, begin-marked}
use Rattle.fixpoint.proofs.solver.least_map.begin.Goals as goal

pub arrive-grew-requires-clause-held : goal.arrive-grew-requires-clause-held
arrive-grew-requires-clause-held g c =
    let len : length c.start.new.row ≡ c.args.pool.now.width = omega (arith, c.start.auto.row, c.row_mut.ensures.len) in
    let same : SameBut c.args.pool.now (with_row c.args.pool.now c.args.spare.now.index c.start.new.row) c.args.spare.now.index =
    SameBut-with_row c.args.pool.now c.args.spare.now.index c.start.new.row c.requires.whole c.requires.spare len in
    let held : IsHeldBeside c.args.pool.now c.args.map.now c.args.spare.now.index =
    vacant_held c.args.pool.now c.args.map.now (g.S.System.machine c.args.system.now).blocks c.args.spare.now.index c.requires.vacant c.requires.whole c.requires.spare in
    let ch : Changed c.args.pool.now c.args.map.now c.args.spare.now.index (with_row c.args.pool.now c.args.spare.now.index c.start.new.row) c.args.map.now =
    spare-changed c.args.pool.now (with_row c.args.pool.now c.args.spare.now.index c.start.new.row) c.args.map.now c.args.spare.now.index held same in
    ch.held

pub returns-clause-changed : goal.returns-clause-changed
returns-clause-changed g c =
    let len : length c.start.new.row ≡ c.args.pool.now.width = omega (arith, c.start.auto.row, c.row_mut.ensures.len) in
    let same : SameBut c.args.pool.now (with_row c.args.pool.now c.args.spare.now.index c.start.new.row) c.args.spare.now.index =
    SameBut-with_row c.args.pool.now c.args.spare.now.index c.start.new.row c.requires.whole c.requires.spare len in
    let held : IsHeldBeside c.args.pool.now c.args.map.now c.args.spare.now.index =
    vacant_held c.args.pool.now c.args.map.now (g.S.System.machine c.args.system.now).blocks c.args.spare.now.index c.requires.vacant c.requires.whole c.requires.spare in
    Changed-trans c.args.pool.now (with_row c.args.pool.now c.args.spare.now.index c.start.new.row) c.arrive-grew.new.pool c.args.map.now c.args.map.now c.arrive-grew.new.map c.args.spare.now.index
    (spare-changed c.args.pool.now (with_row c.args.pool.now c.args.spare.now.index c.start.new.row) c.args.map.now c.args.spare.now.index held same)
    c.arrive-grew.ensures.changed

pub returns-clause-sound : goal.returns-clause-sound
returns-clause-sound g c =
    let len : length c.start.new.row ≡ c.args.pool.now.width = omega (arith, c.start.auto.row, c.row_mut.ensures.len) in
    subst (λ (st : State g.row.S-Cell.Denot). IsSound g.S.Cell.Lattice.lattice (g.S.System.machine c.args.system.now) st.rows)
    (sym (start-state g.S.Cell.Lattice.lattice (g.S.System.machine c.args.system.now) c.args.pool.now (with_row c.args.pool.now c.args.spare.now.index c.start.new.row) c.arrive-grew.new.pool c.args.map.now c.arrive-grew.new.map c.args.spare.now.index
    (vacant_held c.args.pool.now c.args.map.now (g.S.System.machine c.args.system.now).blocks c.args.spare.now.index c.requires.vacant c.requires.whole c.requires.spare)
    (SameBut-with_row c.args.pool.now c.args.spare.now.index c.start.new.row c.requires.whole c.requires.spare len)
    (row_of-same c.args.pool.now c.args.spare.now.index c.start.new.row c.requires.whole c.requires.spare len ∙ c.start.ensures)
    c.arrive-grew.ensures.state))
    (begin-sound g.S.Cell.Lattice.lattice g.met.S.Cell.Lattice.order g.met.S.Cell.Lattice.rounding (g.S.System.machine c.args.system.now) (g.met.S.System.lawful c.args.system.now c.requires.valid)
    c.args.pool.now c.args.map.now c.requires.vacant)

pub returns-clause-entry : goal.returns-clause-entry
returns-clause-entry g c =
    let len : length c.start.new.row ≡ c.args.pool.now.width = omega (arith, c.start.auto.row, c.row_mut.ensures.len) in
    subst (λ (st : State g.row.S-Cell.Denot). HasEntry g.S.Cell.Lattice.lattice (g.S.System.machine c.args.system.now) st.rows)
    (sym (start-state g.S.Cell.Lattice.lattice (g.S.System.machine c.args.system.now) c.args.pool.now (with_row c.args.pool.now c.args.spare.now.index c.start.new.row) c.arrive-grew.new.pool c.args.map.now c.arrive-grew.new.map c.args.spare.now.index
    (vacant_held c.args.pool.now c.args.map.now (g.S.System.machine c.args.system.now).blocks c.args.spare.now.index c.requires.vacant c.requires.whole c.requires.spare)
    (SameBut-with_row c.args.pool.now c.args.spare.now.index c.start.new.row c.requires.whole c.requires.spare len)
    (row_of-same c.args.pool.now c.args.spare.now.index c.start.new.row c.requires.whole c.requires.spare len ∙ c.start.ensures)
    c.arrive-grew.ensures.state))
    (begin-entry g.S.Cell.Lattice.lattice g.met.S.Cell.Lattice.order g.met.S.Cell.Lattice.rounding (g.S.System.machine c.args.system.now) (g.met.S.System.lawful c.args.system.now c.requires.valid)
    c.args.pool.now c.args.map.now c.requires.vacant)

pub returns-clause-marked : goal.returns-clause-marked
returns-clause-marked g c =
    let len : length c.start.new.row ≡ c.args.pool.now.width = omega (arith, c.start.auto.row, c.row_mut.ensures.len) in
    subst (λ (st : State g.row.S-Cell.Denot). IsMarked g.S.Cell.Lattice.lattice (g.S.System.machine c.args.system.now) st)
    (sym (start-state g.S.Cell.Lattice.lattice (g.S.System.machine c.args.system.now) c.args.pool.now (with_row c.args.pool.now c.args.spare.now.index c.start.new.row) c.arrive-grew.new.pool c.args.map.now c.arrive-grew.new.map c.args.spare.now.index
    (vacant_held c.args.pool.now c.args.map.now (g.S.System.machine c.args.system.now).blocks c.args.spare.now.index c.requires.vacant c.requires.whole c.requires.spare)
    (SameBut-with_row c.args.pool.now c.args.spare.now.index c.start.new.row c.requires.whole c.requires.spare len)
    (row_of-same c.args.pool.now c.args.spare.now.index c.start.new.row c.requires.whole c.requires.spare len ∙ c.start.ensures)
    c.arrive-grew.ensures.state))
    (begin-marked g.S.Cell.Lattice.lattice g.met.S.Cell.Lattice.order g.met.S.Cell.Lattice.rounding (g.S.System.machine c.args.system.now) (g.met.S.System.lawful c.args.system.now c.requires.valid)
    c.args.pool.now c.args.map.now c.requires.vacant)
