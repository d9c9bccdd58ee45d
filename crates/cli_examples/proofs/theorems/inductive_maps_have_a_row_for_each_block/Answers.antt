use Rattle.cli_examples.proofs.analyses.WorkedProgram.{no_longer_map}
use Rattle.cli_examples.proofs.theorems.inductive_maps_have_a_row_for_each_block.Goals as goal

pub returns : goal.returns
returns c = no_longer_map
