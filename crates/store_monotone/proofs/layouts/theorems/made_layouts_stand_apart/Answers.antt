use Rattle.store_monotone.proofs.layouts.MadeLayouts.{made_apart}
use Rattle.store_monotone.proofs.layouts.theorems.made_layouts_stand_apart.Goals as goal

pub returns : goal.returns
returns c = λ m model structs members h s e. made_apart m model structs members h s e
