use Rattle.cc_base.proofs.Sorting.{ordered_ascends, ordered_kept, ordered_made}
use Rattle.cc_base.proofs.sorted_lists.ordered.Goals as goal

pub returns-clause-ascending : goal.returns-clause-ascending
returns-clause-ascending g c = ordered_ascends g.T.PartialEq.eq g.T.Ord.cmp g.met.T.Ord.total g.met.T.Ord.matches_eq _ _ c.sort_unstable.ensures.sorted c.dedup.ensures.filtered

pub returns-clause-made : goal.returns-clause-made
returns-clause-made g c = ordered_made g.T.PartialEq.eq _ _ _ c.sort_unstable.ensures.permutation c.dedup.ensures.filtered

pub returns-clause-kept : goal.returns-clause-kept
returns-clause-kept g c = ordered_kept g.T.PartialEq.eq g.met.T.Eq.laws _ _ _ c.sort_unstable.ensures.permutation c.dedup.ensures.filtered
