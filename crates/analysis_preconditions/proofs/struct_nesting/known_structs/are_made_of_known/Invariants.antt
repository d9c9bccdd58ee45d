use Rattle.std.proofs.Common.{◌≡◌, drop, map}
use Rattle.c_layout.specs.StructViews.{field_view}
use Rattle.analysis_preconditions.specs.StructNesting.OrderedStructs.{are_made_of}
use Rattle.analysis_preconditions.specs.StructNesting.KnownStructs.{is_known}
use Rattle.analysis_preconditions.proofs.struct_nesting.known_structs.are_made_of_known.Given as goal

abbrev pub invariant-loop-at : goal.invariant-loop-at
invariant-loop-at l = are_made_of (is_known l.known) (map field_view (drop l.at l.members)) ≡ are_made_of (is_known l.known) (map field_view l.members)
