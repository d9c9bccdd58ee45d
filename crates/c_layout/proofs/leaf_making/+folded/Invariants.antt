use Rattle.std.proofs.Common.{◌≡◌, ◌++◌, ◌+◌, ◌*◌, ◌-◌, drop, map}
use Rattle.c_layout.specs.Types.{view}
use Rattle.c_layout.specs.StructViews.{field_view, structs_view}
use Rattle.c_layout.specs.Leaves.{repeated, folded_unit, folded_leaves, of_fields}
use Rattle.c_layout.proofs.leaf_making.+folded.Given as goal

abbrev pub decreases-push_folded : goal.decreases-push_folded
decreases-push_folded l = 3 * l.depth + 1

abbrev pub decreases-push_folded_fields : goal.decreases-push_folded_fields
decreases-push_folded_fields l = 3 * l.depth + 2

abbrev pub decreases-push_folded_unit : goal.decreases-push_folded_unit
decreases-push_folded_unit l = 3 * l.depth

abbrev pub invariant-push_folded-loop-turn : goal.invariant-push_folded-loop-turn
invariant-push_folded-loop-turn l =
    let structs = structs_view l.table.structs.now in
    let unit = folded_unit l.depth structs l.table.pointer (folded_leaves (l.depth - 1) structs l.table.pointer) (view l.unit) in
    l.out.items ++ repeated (l.count - l._turn) l.from l.step unit ≡ l.initial.out.items ++ repeated l.count l.at l.step unit

abbrev pub invariant-push_folded_fields-loop-index : goal.invariant-push_folded_fields-loop-index
invariant-push_folded_fields-loop-index l =
    let structs = structs_view l.table.structs.now in
    let field = folded_leaves l.depth structs l.table.pointer in
    l.out.items ++ of_fields (map field_view (drop l.index l.fields)) l.at field ≡ l.initial.out.items ++ of_fields (map field_view l.fields) l.at field
