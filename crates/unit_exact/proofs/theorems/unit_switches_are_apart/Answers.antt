use Rattle.unit_exact.proofs.switches.UnitSwitches.{switches_apart}
use Rattle.unit_exact.proofs.theorems.unit_switches_are_apart.Goals as goal

pub returns : goal.returns
returns c = switches_apart c.checked_cases_are_distinct.ensures c.programs_switch_apart.ensures
