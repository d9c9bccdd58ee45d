use Rattle.std.proofs.Common.{length}
use Rattle.c_types_declarations.proofs.declarators.+typed_steps.Given as goal

abbrev pub decreases-typed_steps : goal.decreases-typed_steps
decreases-typed_steps l = length l.layers.now
