use Rattle.std.proofs.Common.{◌≡◌, drop, map}
use Rattle.std.specs.List.{list_all}
use Rattle.c_layout.specs.StructViews.{structs_view, struct_view}
use Rattle.cfg.specs.StructCounts as spec
use Rattle.cfg_checks.proofs.struct_counts.are_counted.Given as goal

abbrev pub invariant-loop-at : goal.invariant-loop-at
invariant-loop-at l = list_all (spec.is_counted (structs_view l.structs)) (map struct_view (drop l.at l.structs.items.items)) ≡ spec.are_counted (structs_view l.structs)
