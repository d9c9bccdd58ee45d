use Rattle.simulation_statements.proofs.switch_tables.NotedChoices.{noted}
use Rattle.simulation_statements.proofs.switch_tables.theorems.choices_are_noted.Goals as goal

pub returns : goal.returns
returns c = λ s u f enclosed known is suits labelled few. noted s u f enclosed known is suits labelled few
