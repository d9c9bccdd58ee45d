use Rattle.c_types_well_formed.proofs.decided_tests.SwitchOperands.{selects}
use Rattle.c_types_well_formed.proofs.theorems.switches_select.Goals as goal

pub returns : goal.returns
returns c = selects
