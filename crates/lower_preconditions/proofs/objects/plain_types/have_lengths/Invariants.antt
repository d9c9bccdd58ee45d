use Rattle.std.proofs.Common.{◌≡◌, drop, map}
use Rattle.std.specs.List.{list_all}
use Rattle.c_layout.specs.StructViews.{field_view}
use Rattle.lower_preconditions.specs.Objects.PlainObjects as spec
use Rattle.lower_preconditions.proofs.objects.plain_types.have_lengths.Given as goal

abbrev pub invariant-loop-at : goal.invariant-loop-at
invariant-loop-at l = list_all (λ f. spec.has_length f.ctype) (map field_view (drop l.at l.members)) ≡ list_all (λ f. spec.has_length f.ctype) (map field_view l.members)
