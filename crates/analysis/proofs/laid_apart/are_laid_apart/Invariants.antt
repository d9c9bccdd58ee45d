use Rattle.std.proofs.Common.{◌≡◌, drop, map}
use Rattle.std.specs.List.{list_all}
use Rattle.c_layout.specs.StructViews.{structs_view, struct_view}
use Rattle.store_structs.specs.LaidApart as spec
use Rattle.analysis.proofs.laid_apart.are_laid_apart.Given as goal

abbrev pub invariant-loop-at : goal.invariant-loop-at
invariant-loop-at l = list_all (spec.is_laid_apart l.model (structs_view l.structs)) (map struct_view (drop l.at l.structs.items.items)) ≡ spec.are_laid_apart l.model (structs_view l.structs)
