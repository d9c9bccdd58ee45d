use Rattle.transfer_sound.proofs.invariant_maps.LargerRows.{row_larger}
use Rattle.transfer_sound.proofs.theorems.larger_rows_stand_for_more.Goals as goal

pub returns : goal.returns
returns g c = λ flow naming row larger s more unmixed h. row_larger g.met.I.Lattice.order g.met.I.IntDomain.bounding flow row larger more unmixed naming s h
