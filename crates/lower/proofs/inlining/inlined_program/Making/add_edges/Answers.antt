use Rattle.c_layout.specs.CheckedUnits.{unit_view}
use Rattle.lower.specs.Inlining.Inlinings.{made, copy_view, placed}
use Rattle.lower.proofs.inlining.ExitTurns.{one_exit}
use Rattle.lower.proofs.inlining.inlined_program.Making.add_edges.Goals as goal

pub loop-exit-preserved : goal.loop-exit-preserved
loop-exit-preserved c =
    one_exit (unit_view c.args.unit.now) c.args.from c.args.exits.now c.loop-exit.exit-index c.exit-item.result (placed (made c.loop-exit.self) (copy_view c.loop-exit.copy)) (placed (made c.add_edge.new.self) (copy_view c.add_edge.new.copy)) _ c.loop-exit-test.true c.exit-item.is c.in_ok-add_edge.ensures c.loop-exit.invariant
