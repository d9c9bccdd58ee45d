use Rattle.std.proofs.Common.{refl}
use Rattle.interp_statements.proofs.statement_items.push_start.Goals as goal

pub returns : goal.returns
returns c = λ u. rw (c.in_ok-push_item.ensures u, c.in_ok-push_store.ensures u) refl
