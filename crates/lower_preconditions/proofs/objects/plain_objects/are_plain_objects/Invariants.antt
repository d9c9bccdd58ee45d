use Rattle.std.proofs.Common.{◌≡◌, drop, map}
use Rattle.std.specs.List.{list_all}
use Rattle.c_layout.specs.CheckedUnits.{static_view}
use Rattle.lower_preconditions.specs.Objects.PlainObjects as spec
use Rattle.lower_preconditions.proofs.objects.plain_objects.are_plain_objects.Given as goal

abbrev pub invariant-loop-at : goal.invariant-loop-at
invariant-loop-at l = list_all (spec.is_plain_object l.model) (map static_view (drop l.at l.objects)) ≡ list_all (spec.is_plain_object l.model) (map static_view l.objects)
