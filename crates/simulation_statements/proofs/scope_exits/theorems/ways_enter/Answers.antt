use Rattle.simulation_statements.proofs.scope_exits.WaysBetween.{enters_is}
use Rattle.simulation_statements.proofs.scope_exits.theorems.ways_enter.Goals as goal

pub returns : goal.returns
returns c = λ s from to xs ys between enough also. enters_is s s.scopes.scopes from to xs ys between enough also
