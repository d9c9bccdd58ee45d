use Rattle.std.proofs.Common.{refl}
use Rattle.interp_statements.proofs.statement_items.push_looped.Goals as goal

pub returns : goal.returns
returns c = λ u. rw (c.in_ok-push_item-2.ensures u, c.in_ok-push_item.ensures u) refl
