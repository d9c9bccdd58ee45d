use Rattle.certificate_programs.proofs.types.CutSteps.{objects_more}
use Rattle.certificate_programs.proofs.types.cut_rows.cut_objects.Goals as goal

pub loop-at-preserved : goal.loop-at-preserved
loop-at-preserved c = objects_more c.args.model.now c.args.bases.now c.loop-at.at c.index-bases-at.result c.loop-at.row c.cut_base.new.row _ c.loop-at-test.true c.index-bases-at.is c.cut_base.ensures.row c.loop-at.invariant
