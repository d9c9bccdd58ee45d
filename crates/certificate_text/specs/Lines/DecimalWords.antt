-- Decimal numbers that words give. A word that is no number gives some number all the same: a line
-- is read by the text of what it gives.
use Rattle.std.specs.Prelude.{ℕ, ◌+◌, ◌-◌, ◌*◌, ◌^◌, min, ℤ, pos, ◌-ℤ◌, cond, ◌==◌, nat_lt, List, [], ◌∷◌, length}
use Rattle.interval_domain.specs.declared.intervals.intervals.Interval.{Interval}
use Rattle.interval_domain.specs.declared.intervals.intervals.Interval.TheVariants.{Bottom}
use Rattle.interval_domain.specs.Intervals.IntervalLattice.{interval_lattice}
use Rattle.interval_domain.specs.Intervals.IntervalNumbers.{interval_numbers}
use Rattle.cc_base.specs.IntegerDomains.{between_or_least}
use Rattle.certificate_text.specs.Lines.LineWords.{Bytes, until, behind, first_byte}

-- above every number of a certificate
unfoldable pub cap : ℕ
cap = 2 ^ 68

-- a number with one digit more
unfoldable pub grown : ℕ → ℕ → ℕ
grown number digit = min number cap * 10 + (digit - 48)

-- a number with more digits
abbrev pub magnitude : ℕ → Bytes → ℕ
magnitude number [] = number
magnitude number (c ∷ cs) = magnitude (grown number c) cs

-- of a position or a count
unfoldable pub small : Bytes → ℕ
small word = min (magnitude 0 word) (2 ^ 32 - 1)

unfoldable pub capped : Bytes → ℤ
capped word = pos (min (magnitude 0 word) cap)

-- with a sign where it is negative
unfoldable pub number_of : Bytes → ℤ
number_of word = cond (first_byte word == 45) (pos 0 -ℤ capped (behind 45 word)) (capped word)

-- the numbers from one to another, with a colon between them; fewer than three bytes give none
unfoldable pub range_of : Bytes → Interval
range_of word = cond (nat_lt (length word) 3) Bottom (between_or_least interval_lattice interval_numbers (number_of (until 58 word)) (number_of (behind 58 word)))
