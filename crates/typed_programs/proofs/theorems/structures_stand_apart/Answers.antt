use Rattle.typed_programs.proofs.layouts.StructuresApart.{apart}
use Rattle.typed_programs.proofs.theorems.structures_stand_apart.Goals as goal

pub returns : goal.returns
returns c = λ structs pointer_size outer index a b x p q less lo hi low high. apart structs pointer_size index less outer a b x p q lo hi low high
