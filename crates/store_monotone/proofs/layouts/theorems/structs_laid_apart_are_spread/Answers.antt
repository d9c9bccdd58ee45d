use Rattle.store_monotone.proofs.layouts.LaidApart.{apart_spread}
use Rattle.store_monotone.proofs.layouts.theorems.structs_laid_apart_are_spread.Goals as goal

pub returns : goal.returns
returns c = λ m model structs h index s e. apart_spread m model structs h index s e
