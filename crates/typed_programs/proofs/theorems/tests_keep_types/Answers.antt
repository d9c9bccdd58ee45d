use Rattle.typed_programs.proofs.memory.Tests.{tests}
use Rattle.typed_programs.proofs.theorems.tests_keep_types.Goals as goal

pub returns : goal.returns
returns c = tests
