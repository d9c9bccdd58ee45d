use Rattle.entry_sound.proofs.checked.CheckedStarts.{unit_starts, sound_structs}
use Rattle.entry_sound.proofs.theorems.checked_units_begin.Goals as goal

pub returns : goal.returns
returns c = λ u flow list regular ordered is. unit_starts u flow (sound_structs flow list regular ordered) is
