use Rattle.std.proofs.Common.{◌≡◌, ◌++◌, map, drop}
use Rattle.c_layout.specs.StructViews.{struct_view}
use Rattle.lower_templates.proofs.views.copied_structs.item_copies.Given as goal

abbrev pub invariant-loop-found : goal.invariant-loop-found
invariant-loop-found l = map struct_view l.list.items ++ map struct_view (drop l.found-index l.structs) ≡ map struct_view l.structs
