use Rattle.std.proofs.Common.{refl}
use Rattle.interp_statements.proofs.loop_items.push_for_body.Goals as goal

pub returns : goal.returns
returns c = λ u. rw (c.in_ok-push_item.ensures u, c.in_ok-push_for_step.ensures u) refl
