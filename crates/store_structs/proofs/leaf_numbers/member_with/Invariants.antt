use Rattle.std.proofs.Common.{◌≡◌, drop, map}
use Rattle.c_layout.specs.StructViews.{field_view, structs_view}
use Rattle.store_structs.specs.LeafNumbers.{member_with}
use Rattle.store_structs.proofs.leaf_numbers.member_with.Given as goal

abbrev pub invariant-loop-at : goal.invariant-loop-at
invariant-loop-at l = member_with (structs_view l.table.structs.now) l.folded (map field_view (drop l.at l.fields)) l.at l.left ≡ member_with (structs_view l.table.structs.now) l.folded (map field_view l.fields) 0 l.number
