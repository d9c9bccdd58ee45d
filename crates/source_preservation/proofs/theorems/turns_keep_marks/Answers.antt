use Rattle.source_preservation.proofs.small_steps.Turns.{turns_keep}
use Rattle.source_preservation.proofs.theorems.turns_keep_marks.Goals as goal

pub returns : goal.returns
returns c = turns_keep (record { operations = c.operations_keep_marks.ensures; lines = c.lines_keep_marks.ensures })
