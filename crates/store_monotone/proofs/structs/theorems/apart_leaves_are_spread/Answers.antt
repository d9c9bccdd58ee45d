use Rattle.store_monotone.proofs.structs.SpreadStructs.{apart_spread}
use Rattle.store_monotone.proofs.structs.theorems.apart_leaves_are_spread.Goals as goal

pub returns : goal.returns
returns c = λ m model structs index s h. apart_spread m model structs index s h
