use Rattle.std.proofs.Common.{◌≡◌, drop}
use Rattle.c_types_primary.specs.Lists.{behind}
use Rattle.c_types_primary.specs.TypeNames.{constant_lengths}
use Rattle.c_types_primary.proofs.type_names.constant_lengths.Given as goal

abbrev pub invariant-loop-length : goal.invariant-loop-length
invariant-loop-length l = behind l.made.items (constant_lengths l.place (drop l.length-index l.lengths)) ≡ constant_lengths l.place l.lengths
