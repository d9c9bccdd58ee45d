use Rattle.entry_sound.proofs.memory.FirstMemory.{run_first}
use Rattle.entry_sound.proofs.theorems.runs_begin_in_memory.Goals as goal

pub returns : goal.returns
returns c = λ u f draws s run. run_first u f draws s run
