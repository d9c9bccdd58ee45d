use Rattle.std.proofs.Common.{append_assoc}
use Rattle.interp_statements.proofs.loop_items.push_for_step.Goals as goal

pub returns : goal.returns
returns c = λ u. rw (c.in_ok-push_item-3.ensures u, c.in_ok-push_clause.ensures u, c.in_ok-push_item-2.ensures u, c.in_ok-push_item.ensures u) (simp append_assoc)
