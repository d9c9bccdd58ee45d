use Rattle.store_sound.proofs.operations.MemorySound.{loads_keep, stores_keep}
use Rattle.store_sound.proofs.operations.theorems.memory_stays_sound.Goals as goal

pub returns : goal.returns
returns c = record {
  loads = λ m bases. loads_keep m bases;
  stores = λ m bases shaped. stores_keep m bases shaped;
}
