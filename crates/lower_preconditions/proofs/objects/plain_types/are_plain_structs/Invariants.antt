use Rattle.std.proofs.Common.{◌≡◌, drop, map}
use Rattle.std.specs.List.{list_all}
use Rattle.c_layout.specs.StructViews.{struct_view}
use Rattle.lower_preconditions.specs.Objects.PlainObjects as spec
use Rattle.lower_preconditions.proofs.objects.plain_types.are_plain_structs.Given as goal

abbrev pub invariant-loop-at : goal.invariant-loop-at
invariant-loop-at l = list_all spec.is_plain_struct (map struct_view (drop l.at l.structs)) ≡ list_all spec.is_plain_struct (map struct_view l.structs)
