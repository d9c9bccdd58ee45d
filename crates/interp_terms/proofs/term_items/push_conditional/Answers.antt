use Rattle.std.proofs.Common.{refl}
use Rattle.interp_terms.proofs.term_items.push_conditional.Goals as goal

pub returns : goal.returns
returns c = λ u. rw (c.in_ok-push_condition.ensures u, c.in_ok-push_item-2.ensures u, c.in_ok-push_item.ensures u) refl
