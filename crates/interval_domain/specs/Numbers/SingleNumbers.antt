-- What operators make of single numbers.
use Rattle.std.specs.Prelude.{ℕ, ℤ, pos, ◌-◌, ◌^◌, ◌*ℤ◌, ◌<ℤ◌, ◌⊎◌, unsigned_abs}
use Rattle.std.specs.Int.{int_shr, leading_zeros, w128}

abbrev pub ApartFromZero : ℤ → Type 0
ApartFromZero n = (n <ℤ pos 0) ⊎ (pos 0 <ℤ n)

-- 2^j - 1 for the least j with n below 2^j
abbrev pub ones_above : ℕ → ℤ
ones_above n = pos (2 ^ (128 - leading_zeros w128 n) - 1)

-- z times 2 to the power n
abbrev pub scaled : ℤ → ℤ → ℤ
scaled z n = z *ℤ pos (2 ^ unsigned_abs n)

-- z divided by 2 to the power n, rounded down
abbrev pub halved : ℤ → ℤ → ℤ
halved z n = int_shr z (unsigned_abs n)
