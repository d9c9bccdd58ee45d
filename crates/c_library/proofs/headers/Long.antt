-- The size of long, from whether it is 8.
use Rattle.std.proofs.Common.{◌≡◌, ℕ, true, false, refl, ◌==◌, ◌||◌, arith}
use Rattle.c_layout.specs.declared.data_model.Model.{Model}
use Rattle.c_layout.specs.Models.{is_model}
use Rattle.c_library.specs.Headers.Headers.{long_bytes}

pub long_is : (m : Model) → is_model m ≡ true → long_bytes (m.long == 8) ≡ m.long
long_is m h = grind arith
