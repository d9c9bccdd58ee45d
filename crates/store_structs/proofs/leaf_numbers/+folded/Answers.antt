use Rattle.std.proofs.Common.{arith, ◌-◌, ◌∙◌, sym, ap}
use Rattle.c_layout.specs.StructViews.{structs_view}
use Rattle.store_structs.specs.LeafNumbers.{at_element, folded_leaf_by, folded_member, folded_leaf}
use Rattle.store_structs.proofs.MemberDepths.{folded_deep}
use Rattle.store_structs.proofs.leaf_numbers.+folded.Goals as goal

pub folded_member-returns-in-Some : goal.folded_member-returns-in-Some
unfolding folded_leaf
folded_member-returns-in-Some t c =
    let structs = structs_view c.args.table.structs.now in
    c.folded_leaf.ensures
    ∙ ap (at_element (folded_leaf_by (c.args.depth - 1) (folded_member (c.args.depth - 1) structs c.args.table.pointer) structs c.args.table.pointer)) c.in-Some.ensures
    ∙ sym (folded_deep c.args.depth structs c.args.table.pointer c.args.index c.args.number c.args.at (omega arith))
