use Rattle.lower_tables.proofs.counts.OneCount.{one_count, one_normalized}
use Rattle.lower_tables.proofs.counts.theorems.one_count.Goals as goal

pub returns : goal.returns
returns c = record { counts = λ u n x y a b. one_count u n x y a b; normalized = λ u n s t a b. one_normalized u n s t a b }
