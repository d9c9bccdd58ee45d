use Rattle.simulation_statements.proofs.scope_exits.WaysBetween.{jump_is}
use Rattle.simulation_statements.proofs.scope_exits.theorems.jumps_are_ways.Goals as goal

pub returns : goal.returns
returns c = λ xs ys both known there inwards is new stays inward_is new_there here_too. jump_is xs ys both known there inwards is new stays inward_is new_there here_too
