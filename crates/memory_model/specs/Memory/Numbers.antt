-- The numbers that bytes are, the least significant byte first (6.2.6).
use Rattle.std.specs.Prelude.{ℕ, ◌+◌, ◌-ℤ◌, ◌*◌, ◌^◌, ℤ, pos, Bool, true, false, nat_lt, cond, List, [], ◌∷◌, length}
use Rattle.memory_model.specs.Memory.Labels.{Labels}

-- a byte that is a number, with its labels
pub record Labelled : Type 0 where
  pub number : ℕ
  pub labels : Labels

abbrev pub unsigned_of : List Labelled → ℕ
unsigned_of [] = 0
unsigned_of (n ∷ ns) = n.number + 256 * unsigned_of ns

-- two's complement (6.2.6.2)
abbrev pub signed_of : ℕ → ℕ → ℤ
signed_of bits n = cond (nat_lt (2 * n) (2 ^ bits)) (pos n) (pos n -ℤ pos (2 ^ bits))

abbrev pub number_of : Bool → List Labelled → ℤ
number_of true ns = signed_of (8 * length ns) (unsigned_of ns)
number_of false ns = pos (unsigned_of ns)
