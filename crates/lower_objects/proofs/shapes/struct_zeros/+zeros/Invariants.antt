use Rattle.std.proofs.Common.{◌≡◌, ◌++◌, ◌+◌, ◌*◌, ◌-◌, drop, map}
use Rattle.c_layout.specs.Types.{view}
use Rattle.c_layout.specs.StructViews.{field_view, structs_view}
use Rattle.c_layout.specs.Leaves.{repeats}
use Rattle.lower_objects.specs.Shapes.FirstZeros.{unit_zeros, zeros_within, of_fields}
use Rattle.lower_objects.proofs.shapes.struct_zeros.+zeros.Given as goal

abbrev pub decreases-push_zeros : goal.decreases-push_zeros
decreases-push_zeros l = 3 * l.depth

abbrev pub decreases-push_fields : goal.decreases-push_fields
decreases-push_fields l = 3 * l.depth + 1

abbrev pub decreases-push_unit : goal.decreases-push_unit
decreases-push_unit l = 3 * l.depth + 2

abbrev pub invariant-push_zeros-loop-turn : goal.invariant-push_zeros-loop-turn
invariant-push_zeros-loop-turn l =
    let structs = structs_view l.structs in
    let unit = unit_zeros structs (zeros_within (l.depth - 1) structs l.pointer) (view l.unit) in
    l.out.items ++ repeats (l.count - l._turn) l.from l.step unit ≡ l.initial.out.items ++ repeats l.count l.at l.step unit

abbrev pub invariant-push_fields-loop-index : goal.invariant-push_fields-loop-index
invariant-push_fields-loop-index l =
    let structs = structs_view l.structs in
    let field = zeros_within l.depth structs l.pointer in
    l.out.items ++ of_fields (map field_view (drop l.index l.fields)) l.at field ≡ l.initial.out.items ++ of_fields (map field_view l.fields) l.at field
