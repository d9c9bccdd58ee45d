use Rattle.std.proofs.Common.{refl}
use Rattle.interp_statements.proofs.loop_items.push_while_turn.Goals as goal

pub returns : goal.returns
returns c = λ u. rw (c.in_ok-push_item-3.ensures u, c.in_ok-push_item-2.ensures u, c.in_ok-push_item.ensures u) refl
