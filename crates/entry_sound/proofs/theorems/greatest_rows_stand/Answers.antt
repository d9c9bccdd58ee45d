use Rattle.entry_sound.proofs.cells.GreatestRows.{greatest_stands}
use Rattle.entry_sound.proofs.theorems.greatest_rows_stand.Goals as goal

pub returns : goal.returns
returns g c = λ flow all row greatest naming memory entered sane lives. greatest_stands g.met.I.Lattice.order g.met.I.IntDomain.bounding flow all row greatest naming memory sane entered lives
