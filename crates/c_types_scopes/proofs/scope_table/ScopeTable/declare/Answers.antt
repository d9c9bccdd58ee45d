use Rattle.std.proofs.Common.{◌≡◌, ◌∙◌, ap, None, get_or, length, arith}
use Rattle.std.proofs.lemmas.Grind.{common_steps}
use Rattle.c_types_scopes.proofs.Newest.{indexed_more, indexed_same}
use Rattle.c_types_scopes.proofs.scope_table.ScopeTable.declare.Goals as goal

pub invariant_of-self-2 : goal.invariant_of-self-2
invariant_of-self-2 c =
    let is : c.in_ok-at.at ≡ length c.self.inside.entries.items = grind (arith, common_steps, c.in_ok-at.ensures, c.len.ensures) in
    indexed_more c.self.inside.entries.items c.push.new.self.items c.make_room.new.newest.items c.set_newest.new.newest.items
    (record { declared = record { name = c.args.name; meaning = c.args.meaning }; hidden = c.position_in-hidden.result })
    c.in_ok-at.at
    (indexed_same c.self.inside.entries.items c.self.inside.newest.items c.make_room.new.newest.items c.self.invariant c.make_room.ensures.same)
    c.in_ok-make_room.ensures.room
    (c.position_in-hidden.ensures ∙ ap (λ l. get_or l c.args.name None) c.as_slice.ensures.value)
    is c.in_ok-push.ensures.items c.set_newest.ensures
