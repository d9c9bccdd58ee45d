use Rattle.store_sound.proofs.operations.Padding.{padding_seen}
use Rattle.store_sound.proofs.operations.theorems.padding_is_seen.Goals as goal

pub returns : goal.returns
returns c = λ m bases shaped once. padding_seen m bases shaped once
