use Rattle.std.proofs.Common.{refl}
use Rattle.interp_terms.proofs.term_items.push_comma.Goals as goal

pub returns : goal.returns
returns c = λ u. rw (c.in_ok-push_item.ensures u, c.in_ok-push_arm.ensures u) refl
