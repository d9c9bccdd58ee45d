use Rattle.store_monotone.proofs.structs.ShapedSpans.{shaped_reaches}
use Rattle.store_monotone.proofs.structs.theorems.larger_spans_reach_more.Goals as goal

pub returns : goal.returns
returns c = λ m model base h. shaped_reaches m model base h
