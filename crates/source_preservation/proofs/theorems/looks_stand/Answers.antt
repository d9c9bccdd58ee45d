use Rattle.source_preservation.proofs.unit_checks.LookedUnits.{looks_stand}
use Rattle.source_preservation.proofs.theorems.looks_stand.Goals as goal

pub returns : goal.returns
returns c = looks_stand c.regular_jumps_stand.ensures
