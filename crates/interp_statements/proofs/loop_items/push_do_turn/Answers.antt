use Rattle.std.proofs.Common.{refl}
use Rattle.interp_statements.proofs.loop_items.push_do_turn.Goals as goal

pub returns : goal.returns
returns c = λ u. rw (c.in_ok-push_item.ensures u, c.in_ok-push_do_test.ensures u) refl
