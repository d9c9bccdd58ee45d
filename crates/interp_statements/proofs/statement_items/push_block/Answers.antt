use Rattle.std.proofs.Common.{append_assoc}
use Rattle.interp_statements.proofs.statement_items.push_block.Goals as goal

pub returns : goal.returns
returns c = λ u. rw (c.in_ok-push_item-2.ensures u, c.in_ok-push_statements.ensures u, c.in_ok-push_item.ensures u) (simp append_assoc)
