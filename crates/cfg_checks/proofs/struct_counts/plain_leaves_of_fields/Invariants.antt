use Rattle.std.proofs.Common.{◌≡◌, ◌+◌, drop, map}
use Rattle.c_layout.specs.StructViews.{structs_view, field_view}
use Rattle.cfg.specs.StructCounts as spec
use Rattle.cfg_checks.proofs.struct_counts.plain_leaves_of_fields.Given as goal

abbrev pub invariant-loop-at : goal.invariant-loop-at
invariant-loop-at l = l.count + spec.plain_leaves_of_fields (structs_view l.structs) (map field_view (drop l.at l.fields)) ≡ spec.plain_leaves_of_fields (structs_view l.structs) (map field_view l.fields)
