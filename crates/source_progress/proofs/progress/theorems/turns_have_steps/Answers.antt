use Rattle.source_progress.proofs.progress.Turns.{turn_steps}
use Rattle.source_progress.proofs.progress.theorems.turns_have_steps.Goals as goal

pub returns : goal.returns
returns c = turn_steps (record {
  operations = c.operations_have_steps.ensures;
  stores = c.stores_have_steps.ensures;
  lines = c.lines_have_steps.ensures;
})
