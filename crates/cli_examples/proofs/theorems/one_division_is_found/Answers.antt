use Rattle.cli_examples.proofs.analyses.WorkedProgram.{program, larger, well_formed, larger_map, found_alone}
use Rattle.cli_examples.proofs.analyses.WorkedSingle.{single}
use Rattle.cli_examples.proofs.analyses.WorkedThresholds.{list_of}
use Rattle.cli_examples.proofs.analyses.Lowering.{lowered_to}
use Rattle.cli_examples.proofs.theorems.one_division_is_found.Goals as goal

pub returns : goal.returns
returns c = λ some. (
  program some,
  larger some,
  record {
    lowered = lowered_to c.one_template.ensures c.one_lowering.ensures.program some;
    well_formed = well_formed some;
    listed = list_of some;
    found = found_alone some c.two_solvers_agree.ensures.answers;
    larger_map = larger_map some;
    single = single some;
  },
)
