use Rattle.certificate_theorems.proofs.sound.FittedRows.{fitted_stands}
use Rattle.certificate_theorems.proofs.theorems.fitted_rows_stand_for_more.Goals as goal

pub returns : goal.returns
returns g c = λ flow list wide laid few row naming s long h. fitted_stands g.met.I.IntDomain.bounding list wide flow laid few row long naming s h
