-- Ranges and sets of bases that a certificate may have.
use Rattle.std.specs.Prelude.{◌≡◌, ◌+◌, ◌*◌, ◌-◌, ◌^◌, ◌<◌, ◌≤◌, ◌⊎◌, ℕ, ℤ, pos, negsuc, ◌≤ℤ◌}
use Rattle.std.specs.Int.{bit_at}
use Rattle.pointer_domain.specs.declared.base_sets.Bases.{Bases}
use Rattle.pointer_domain.specs.BaseSets.{word_of}
use Rattle.interval_domain.specs.declared.intervals.intervals.Interval.{Interval}
use Rattle.interval_domain.specs.declared.intervals.intervals.Interval.TheVariants.{Bottom, Of}

-- from -2^64 to 2^64
pub record IsNearNumber (z : ℤ) : Type 0 where
  pub least : negsuc (2 ^ 64 - 1) ≤ℤ z
  pub greatest : z ≤ℤ pos (2 ^ 64)

-- so are its bounds
abbrev pub IsNearRange : Interval → Type 0
IsNearRange Bottom = Unit {0}
IsNearRange (Of s) = IsNearNumber s.lo × IsNearNumber s.hi

-- the bit of no base below 1,016
abbrev pub IsOutside : ℕ → ℕ → Type 0
IsOutside i k = (128 ≤ k) ⊎ (1016 ≤ i * 128 + k)

-- no other base is in the set
abbrev pub AreFew : Bases → Type 0
AreFew s = (i k : ℕ) → i < 8 → IsOutside i k → bit_at (word_of s i) k ≡ 0
