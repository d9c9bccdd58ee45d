use Rattle.typed_programs.proofs.runs.AllLaws.{all_laws}
use Rattle.typed_programs.proofs.runs.TypedPrograms.{typed_accesses}
use Rattle.typed_programs.proofs.theorems.typed_programs_have_typed_accesses.Goals as goal

pub returns : goal.returns
returns c = typed_accesses all_laws
