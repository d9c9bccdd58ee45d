use Rattle.entry_sound.proofs.starts.StartedRows as started
use Rattle.entry_sound.proofs.theorems.start_rows_stand.Goals as goal

pub returns : goal.returns
returns g c = λ sound flow. started.start_rows_stand g.met.I.Lattice.order g.met.I.IntDomain.bounding sound g.met.I.IntDomain.ranges flow
