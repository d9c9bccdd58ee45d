use Rattle.std.proofs.Common.{◌∙◌}
use Rattle.cc_base.specs.RowLaws.{length-row_absorbed}
use Rattle.fixpoint.specs.Pool.Pool.{row_of}
use Rattle.fixpoint.specs.Pool.PoolLaws.{length-row_of}
use Rattle.fixpoint.proofs.solver.SlotLaws.{write-same_but, write-row}
use Rattle.fixpoint.proofs.solver.arrival.absorb_at.Goals as goal

pub returns-clause-same_but : goal.returns-clause-same_but
returns-clause-same_but g c =
    write-same_but c.args.pool.now c.absorb-grew.new.self c.args.row.now.index _ c.absorb-grew.ensures.row c.requires.whole c.requires.taken
    (length-row_absorbed g.C.Lattice.lattice c.args.list.now c.args.rounding (row_of c.args.pool.now c.args.row.now.index) (row_of c.args.pool.now c.args.spare.now.index)
    ∙ length-row_of c.args.pool.now c.args.row.now.index c.requires.whole c.requires.taken)

pub returns-clause-row : goal.returns-clause-row
returns-clause-row g c =
    write-row c.args.pool.now c.absorb-grew.new.self c.args.row.now.index _ c.absorb-grew.ensures.row c.requires.whole c.requires.taken
    (length-row_absorbed g.C.Lattice.lattice c.args.list.now c.args.rounding (row_of c.args.pool.now c.args.row.now.index) (row_of c.args.pool.now c.args.spare.now.index)
    ∙ length-row_of c.args.pool.now c.args.row.now.index c.requires.whole c.requires.taken)
