use Rattle.typed_lowering.proofs.inlined_programs.TypedPrograms.{typed_inlinings}
use Rattle.typed_lowering.proofs.theorems.typed_names_make_typed_inlinings.Goals as goal

pub returns : goal.returns
returns c = typed_inlinings
