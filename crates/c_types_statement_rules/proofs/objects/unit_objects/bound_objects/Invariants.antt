use Rattle.std.proofs.Common.{◌≡◌}
use Rattle.c_types_scopes.specs.States.{state}
use Rattle.c_types_statement_rules.specs.Objects.UnitObjects.{with_statics, bounded_object}
use Rattle.c_types_statement_rules.specs.Objects.Changes.{done}
use Rattle.c_types_statement_rules.proofs.objects.unit_objects.bound_objects.Given as goal

abbrev pub invariant-loop-at : goal.invariant-loop-at
invariant-loop-at l = state l.cx ≡ with_statics (state l.initial.cx) (done (bounded_object l.sizes) l.at (state l.initial.cx).statics)
