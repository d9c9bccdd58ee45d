use Rattle.std.proofs.Common.{◌≡◌, drop}
use Rattle.c_preproc_directives.specs.Definitions.{same_rest}
use Rattle.c_preproc_directives.proofs.macro_definitions.same_rest.Given as goal

abbrev pub invariant-loop-a : goal.invariant-loop-a
invariant-loop-a l = same_rest (drop l.a-index l.x) l.others ≡ same_rest l.x l.y
