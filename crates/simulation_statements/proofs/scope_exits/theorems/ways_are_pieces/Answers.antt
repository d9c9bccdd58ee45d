use Rattle.simulation_statements.proofs.scope_exits.WaysBetween.{way_is}
use Rattle.simulation_statements.proofs.scope_exits.theorems.ways_are_pieces.Goals as goal

pub returns : goal.returns
returns c = λ s from to xs ys between enough also p. way_is s s.scopes.scopes from to xs ys between enough also p
