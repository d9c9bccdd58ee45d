use Rattle.std.proofs.Common.{refl}
use Rattle.interp_terms.proofs.operated_items.push_at.Goals as goal

pub returns : goal.returns
returns c = λ u. rw (c.in_ok-push_item.ensures u, c.in_ok-push_on_lvalue.ensures u) refl
