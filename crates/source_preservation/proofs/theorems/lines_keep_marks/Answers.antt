use Rattle.source_preservation.proofs.operations.Performing.{line_keeps_marks}
use Rattle.source_preservation.proofs.theorems.lines_keep_marks.Goals as goal

pub returns : goal.returns
returns c = line_keeps_marks c.lines_have_steps.ensures
