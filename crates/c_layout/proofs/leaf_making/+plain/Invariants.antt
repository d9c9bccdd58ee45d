use Rattle.std.proofs.Common.{◌≡◌, ◌++◌, ◌+◌, ◌*◌, ◌-◌, drop, map}
use Rattle.c_layout.specs.Types.{view}
use Rattle.c_layout.specs.StructViews.{field_view, structs_view}
use Rattle.c_layout.specs.Leaves.{repeated, plain_unit, plain_leaves, of_fields}
use Rattle.c_layout.proofs.leaf_making.+plain.Given as goal

abbrev pub decreases-push_plain : goal.decreases-push_plain
decreases-push_plain l = 3 * l.depth

abbrev pub decreases-push_plain_fields : goal.decreases-push_plain_fields
decreases-push_plain_fields l = 3 * l.depth + 1

abbrev pub decreases-push_plain_unit : goal.decreases-push_plain_unit
decreases-push_plain_unit l = 3 * l.depth + 2

abbrev pub invariant-push_plain-loop-turn : goal.invariant-push_plain-loop-turn
invariant-push_plain-loop-turn l =
    let structs = structs_view l.table.structs.now in
    let unit = plain_unit structs l.places (plain_leaves (l.depth - 1) structs l.table.pointer l.places) (view l.unit) in
    l.out.items ++ repeated (l.count - l._turn) l.from l.step unit ≡ l.initial.out.items ++ repeated l.count l.at l.step unit

abbrev pub invariant-push_plain_fields-loop-index : goal.invariant-push_plain_fields-loop-index
invariant-push_plain_fields-loop-index l =
    let structs = structs_view l.table.structs.now in
    let field = plain_leaves l.depth structs l.table.pointer l.places in
    l.out.items ++ of_fields (map field_view (drop l.index l.fields)) l.at field ≡ l.initial.out.items ++ of_fields (map field_view l.fields) l.at field
