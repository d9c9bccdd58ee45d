use Rattle.typed_programs.proofs.memory.Stores.{stores}
use Rattle.typed_programs.proofs.theorems.stores_keep_types.Goals as goal

pub returns : goal.returns
returns c = stores
