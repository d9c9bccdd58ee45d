use Rattle.std.proofs.Common.{refl}
use Rattle.interp_terms.proofs.assigned_items.push_sides.Goals as goal

pub returns : goal.returns
returns c = λ u. rw (c.in_ok-push_item-2.ensures u, c.in_ok-push_item.ensures u, c.in_ok-push_on_lvalue.ensures u) refl
