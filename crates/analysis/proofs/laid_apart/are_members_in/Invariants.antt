use Rattle.std.proofs.Common.{◌≡◌, drop, map}
use Rattle.c_layout.specs.StructViews.{structs_view, field_view}
use Rattle.store_structs.specs.LaidApart as spec
use Rattle.analysis.proofs.laid_apart.are_members_in.Given as goal

abbrev pub invariant-loop-at : goal.invariant-loop-at
invariant-loop-at l = spec.are_members_in l.model (structs_view l.structs) l.room l.from (map field_view (drop l.at l.members)) ≡ spec.are_members_in l.model (structs_view l.structs) l.room 0 (map field_view l.members)
