use Rattle.cli_theorems.proofs.units.OneParse.{one_parse, one_checked, one_program_of}
use Rattle.cli_theorems.proofs.theorems.one_parse.Goals as goal

pub returns : goal.returns
returns c = record { tree = one_parse; checked = one_checked; program = one_program_of }
