use Rattle.entry_sound.proofs.starts.StaticSteps as objects
use Rattle.entry_sound.proofs.theorems.static_objects_stand.Goals as goal

pub returns : goal.returns
returns g c = λ sound flow. objects.static_objects_stand g.met.I.Lattice.order g.met.I.IntDomain.bounding sound g.met.I.IntDomain.ranges flow
