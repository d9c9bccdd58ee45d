use Rattle.std.proofs.Common.{◌≡◌, drop}
use Rattle.c_types_primary.specs.TypeNames.{with_stars}
use Rattle.c_types_primary.proofs.type_names.with_stars.Given as goal

abbrev pub invariant-loop-star : goal.invariant-loop-star
invariant-loop-star l = with_stars l.steps.items (drop l._star-index l.stars) ≡ with_stars l.fn.steps.items l.stars
