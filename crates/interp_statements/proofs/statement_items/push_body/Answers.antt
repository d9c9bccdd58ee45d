use Rattle.std.proofs.Common.{append_assoc}
use Rattle.interp_statements.proofs.statement_items.push_body.Goals as goal

pub returns : goal.returns
returns c = λ u. rw (c.in_ok-push_item-3.ensures u, c.in_ok-push_statements.ensures u, c.in_ok-push_item-2.ensures u, c.in_ok-push_item.ensures u, c.as_slice.ensures.value, c.as_slice-2.ensures.value, c.as_slice-3.ensures.value) (simp append_assoc)
