use Rattle.std.proofs.Common.{◌≡◌, ◌++◌, map, drop}
use Rattle.c_layout.specs.StructViews.{field_view}
use Rattle.lower_templates.proofs.views.copied_structs.field_copies.Given as goal

abbrev pub invariant-loop-field : goal.invariant-loop-field
invariant-loop-field l = map field_view l.list.items ++ map field_view (drop l.field-index l.fields) ≡ map field_view l.fields
