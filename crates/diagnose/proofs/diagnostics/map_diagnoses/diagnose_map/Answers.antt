use Rattle.std.specs.Prelude.{None}
use Rattle.diagnose.proofs.diagnostics.MapSteps.{next_entry}
use Rattle.diagnose.proofs.diagnostics.map_diagnoses.diagnose_map.Goals as goal

pub loop-block-preserved : goal.loop-block-preserved
loop-block-preserved g c =
    next_entry g.I.Lattice.lattice g.I.IntDomain.numbers c.args.flow.now c.args.pool.now c.args.map.now c.loop-block.block None c.loop-block.out.items c.diagnose_entry.new.out.items _ c.loop-block-test.true c.in_ok-diagnose_entry.ensures c.loop-block.invariant
