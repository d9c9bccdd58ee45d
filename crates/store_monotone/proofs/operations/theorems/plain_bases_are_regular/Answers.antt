use Rattle.store_monotone.proofs.operations.PlainShapes.{plain_room}
use Rattle.store_monotone.proofs.operations.Regular.{regular}
use Rattle.store_monotone.proofs.operations.theorems.plain_bases_are_regular.Goals as goal

pub returns : goal.returns
returns c = λ m base h. regular m base (plain_room m base h)
