use Rattle.cfg.proofs.Ordered.{ordered_ascends, ordered_kept, ordered_made}
use Rattle.cfg.proofs.number_lists.ordered.Goals as goal

pub returns-clause-ascending : goal.returns-clause-ascending
returns-clause-ascending c = ordered_ascends _ _ c.sort_unstable.ensures.sorted c.dedup.ensures.filtered

pub returns-clause-kept : goal.returns-clause-kept
returns-clause-kept c = ordered_kept _ _ _ c.sort_unstable.ensures.permutation c.dedup.ensures.filtered

pub returns-clause-made : goal.returns-clause-made
returns-clause-made c = ordered_made _ _ _ c.sort_unstable.ensures.permutation c.dedup.ensures.filtered
