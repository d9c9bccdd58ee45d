use Rattle.entry_sound.proofs.initializers.CheckedInitializers.{checked_typed}
use Rattle.entry_sound.proofs.theorems.checked_initializers_are_typed.Goals as goal

pub returns : goal.returns
returns c = λ m name es u is model look apart ordered. checked_typed m name es u is model look apart ordered
