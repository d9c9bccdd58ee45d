use Rattle.transfer_sound.proofs.induction.Covering.{runs_covered_by_rows, runs_typed_by_rows}
use Rattle.transfer_sound.proofs.operands.TypedMaps.{map_types}
use Rattle.transfer_sound.proofs.theorems.typed_maps_type_runs.Goals as goal

pub returns : goal.returns
returns g c = λ flow limits good steps ends u rows begins carries typed.
    let types = map_types g.met.I.IntDomain.bounding flow rows typed in
    (runs_covered_by_rows _ _ _ flow limits good steps ends u rows begins carries types, runs_typed_by_rows _ _ _ flow limits good steps ends u rows begins carries types)
