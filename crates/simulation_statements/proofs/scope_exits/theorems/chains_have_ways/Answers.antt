use Rattle.simulation_statements.proofs.scope_exits.WaysOfChains.{way_of}
use Rattle.simulation_statements.proofs.scope_exits.theorems.chains_have_ways.Goals as goal

pub returns : goal.returns
returns c = λ s apart from to here there one other. way_of s apart from to here there one other
