use Rattle.entry_sound.proofs.starts.StartedRows as started
use Rattle.entry_sound.proofs.theorems.runs_begin_in_start_rows.Goals as goal

pub returns : goal.returns
returns g c = λ sound flow. started.runs_begin g.met.I.Lattice.order g.met.I.IntDomain.bounding sound g.met.I.IntDomain.ranges flow
