use Rattle.std.proofs.Common.{refl}
use Rattle.interp_statements.proofs.loop_items.push_do_test.Goals as goal

pub returns : goal.returns
returns c = λ u. rw (c.in_ok-push_item.ensures u, c.in_ok-push_turn_test.ensures u) refl
