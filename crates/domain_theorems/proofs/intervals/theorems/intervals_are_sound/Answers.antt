use Rattle.domain_theorems.specs.Intervals.Operations.{interval_sound}
use Rattle.domain_theorems.proofs.intervals.theorems.intervals_are_sound.Goals as goal

pub returns : goal.returns
returns c = interval_sound
