use Rattle.source_items.proofs.returns.Runs.{leave_all}
use Rattle.source_items.proofs.returns.theorems.called_functions_leave_all.Goals as goal

pub returns : goal.returns
returns c = leave_all
