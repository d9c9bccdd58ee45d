use Rattle.std.proofs.Common.{append_assoc}
use Rattle.interp_terms.proofs.assigned_items.push_moved.Goals as goal

pub returns : goal.returns
returns c = λ u. rw (c.in_ok-push_at.ensures u, c.in_ok-push_kept.ensures u, c.in_ok-push_do.ensures u, c.in_ok-push_store_step.ensures u, c.is_backward.ensures) (simp append_assoc)
