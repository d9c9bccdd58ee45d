use Rattle.source_preservation.proofs.unit_checks.LookedUnits.{looks_mark}
use Rattle.source_preservation.proofs.theorems.looks_mark.Goals as goal

pub returns : goal.returns
returns c = looks_mark
