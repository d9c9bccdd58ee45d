-- Bytes that are written with other labels.
use Rattle.std.proofs.Common.{◌≡◌, ℕ, zero, suc, List, [], ◌∷◌, ◌++◌, take, drop, refl, ap}
use Rattle.memory_model.specs.Memory.Labels.{Labels}
use Rattle.memory_model.specs.Memory.Bytes.{Byte}
use Rattle.memory_model.specs.Effects.ScalarBytes.{contents, filled}
use Rattle.memory_model.specs.Effects.Tests.{byte_relabelled, all_relabelled}

filled_none : (bs : List Byte) → filled bs [] ≡ bs
filled_none [] = refl
filled_none (b ∷ bs) = refl

pub filled_relabelled : (f : Labels → Labels) (n : ℕ) (bytes : List Byte) → filled bytes (contents (all_relabelled f (take n bytes))) ≡ all_relabelled f (take n bytes) ++ drop n bytes
filled_relabelled f zero bytes = filled_none bytes
filled_relabelled f (suc n) [] = refl
filled_relabelled f (suc n) (b ∷ bytes) = ap (λ bs. byte_relabelled f b ∷ bs) (filled_relabelled f n bytes)
