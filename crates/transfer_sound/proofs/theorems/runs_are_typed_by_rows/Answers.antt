use Rattle.transfer_sound.proofs.induction.Covering.{runs_covered_by_rows, runs_typed_by_rows}
use Rattle.transfer_sound.proofs.theorems.runs_are_typed_by_rows.Goals as goal

pub returns : goal.returns
returns g c = λ flow limits good steps ends u rows begins carries types. (runs_covered_by_rows _ _ _ flow limits good steps ends u rows begins carries types, runs_typed_by_rows _ _ _ flow limits good steps ends u rows begins carries types)
