use Rattle.store_monotone.proofs.shapes.ShapedBases.{shaped_regular}
use Rattle.store_monotone.proofs.shapes.theorems.shaped_bases_are_regular.Goals as goal

pub returns : goal.returns
returns c = λ m model base h. shaped_regular m model base h
