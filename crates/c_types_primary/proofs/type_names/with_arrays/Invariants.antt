use Rattle.std.proofs.Common.{◌≡◌, drop}
use Rattle.c_types_primary.specs.TypeNames.{with_arrays, steps_view}
use Rattle.c_types_primary.proofs.type_names.with_arrays.Given as goal

abbrev pub invariant-loop-brackets : goal.invariant-loop-brackets
invariant-loop-brackets l = with_arrays (steps_view l.steps l.rest) (drop l.brackets-index l.arrays) ≡ with_arrays (steps_view l.fn.steps l.lengths) l.arrays
