use Rattle.std.proofs.Common.{◌≡◌, ◌++◌, ◌-◌}
use Rattle.c_types_declarations.specs.Declarators.{pointers}
use Rattle.c_types_declarations.proofs.declarators.add_pointers.Given as goal

abbrev pub invariant-loop-star : goal.invariant-loop-star
invariant-loop-star l = l.steps.items ++ pointers (l.stars - l._star) ≡ l.initial.steps.items ++ pointers l.stars
