use Rattle.std.proofs.Common.{◌≡◌, ◌++◌, drop, map}
use Rattle.c_preproc_directives.specs.Definitions.{part_in}
use Rattle.c_preproc_directives.proofs.macro_definitions.body_of.Given as goal

abbrev pub invariant-loop-x : goal.invariant-loop-x
invariant-loop-x l = l.body.items ++ map (part_in l.names.keys) (drop l.x-index l.list) ≡ map (part_in l.names.keys) l.list
