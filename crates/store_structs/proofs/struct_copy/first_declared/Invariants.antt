use Rattle.std.proofs.Common.{◌≡◌, drop}
use Rattle.store_structs.specs.StructCopies.{first_declared}
use Rattle.store_structs.proofs.struct_copy.first_declared.Given as goal

abbrev pub invariant-loop-n : goal.invariant-loop-n
invariant-loop-n l = first_declared l.set l.n (drop l.n l.bases) ≡ first_declared l.set 0 l.bases
