use Rattle.typed_programs.proofs.leaves.StructLeaves.{structures_have_leaves}
use Rattle.typed_programs.proofs.theorems.structures_have_leaves.Goals as goal

pub returns : goal.returns
returns c = λ flow outer base index offset view laid object found stands. structures_have_leaves flow outer base index offset view laid object found stands
