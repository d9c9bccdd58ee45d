use Rattle.typed_lowering.proofs.worklists.AllWorks.{works_typed}
use Rattle.typed_lowering.proofs.theorems.works_are_typed.Goals as goal

pub returns : goal.returns
returns c = works_typed
