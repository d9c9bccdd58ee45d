use Rattle.typed_programs.proofs.memory.Tests.{cases}
use Rattle.typed_programs.proofs.theorems.cases_keep_types.Goals as goal

pub returns : goal.returns
returns c = cases
