use Rattle.typed_programs.proofs.leaves.ScalarLeaves.{scalars_are_leaves, leaves_are_scalars}
use Rattle.typed_programs.proofs.theorems.leaves_are_scalars.Goals as goal

pub returns : goal.returns
returns c = record { scalars = λ m structs laid t kind short x k scalar e. scalars_are_leaves m structs laid t kind short x k scalar e; leaves = λ m structs laid t kind short number leaf e. leaves_are_scalars m structs laid t kind short number leaf e }
