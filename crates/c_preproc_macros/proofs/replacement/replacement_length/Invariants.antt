use Rattle.std.proofs.Common.{◌≡◌, ◌+◌, drop, length, map, vec_items}
use Rattle.c_preproc_macros.specs.Expanding.{put}
use Rattle.c_preproc_macros.proofs.replacement.replacement_length.Given as goal

abbrev pub invariant-loop-part : goal.invariant-loop-part
invariant-loop-part l = l.total + length (put (map vec_items l.arguments) (drop l.part-index l.body)) ≡ length (put (map vec_items l.arguments) l.body)
