use Rattle.std.proofs.Common.{arith, ◌-◌, ◌∙◌, sym, ap}
use Rattle.c_layout.specs.StructViews.{structs_view}
use Rattle.store_structs.specs.LeafNumbers.{at_element, plain_leaf_by, plain_member, plain_leaf}
use Rattle.store_structs.proofs.MemberDepths.{plain_deep}
use Rattle.store_structs.proofs.leaf_numbers.+plain.Goals as goal

pub plain_member-returns-in-Some : goal.plain_member-returns-in-Some
unfolding plain_leaf
plain_member-returns-in-Some t c =
    let structs = structs_view c.args.table.structs.now in
    c.plain_leaf.ensures
    ∙ ap (at_element (plain_leaf_by (plain_member (c.args.depth - 1) structs c.args.table.pointer c.args.places) structs c.args.table.pointer c.args.places)) c.in-Some.ensures
    ∙ sym (plain_deep c.args.depth structs c.args.table.pointer c.args.places c.args.index c.args.number c.args.at (omega arith))
