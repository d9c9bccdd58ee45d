use Rattle.cli_examples.proofs.units.Parsing.{parsed_to}
use Rattle.cli_examples.proofs.theorems.tokens_are_parsed.Goals as goal

pub returns : goal.returns
returns c = parsed_to c.one_tree.ensures
