use Rattle.std.proofs.Common.{refl}
use Rattle.simulation_terms.proofs.scopes.Positions.{position}
use Rattle.simulation_statements.proofs.bodies.Statements.{about}
use Rattle.simulation_statements.proofs.bodies.theorems.statements_simulate.Goals as goal

pub returns : goal.returns
returns c = λ t s fits f has ends i n around enclosed known suits p scopes choices ps r m none known_r items rest stands k simulates.
    (about s t fits f has ends i n around enclosed known (position p) suits (scopes, choices)).from p none refl ps r m known_r items rest stands k simulates
