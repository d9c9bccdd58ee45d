-- First zeros under writes, and scans. `l` and `n` are the lattice and the integers of the offsets' domain.
use Rattle.std.specs.Prelude.{ℤ, pos, ◌+ℤ◌, ◌-ℤ◌, Bool, true, cond, not, ◌&&◌, ◌||◌, int_le, int_lt, Option, Some, None}
use Rattle.std.specs.Int.{int_min}
use Rattle.std.specs.Ordering.{int_eq}
use Rattle.cc_base.specs.Lattices.{LatticeOf}
use Rattle.cc_base.specs.IntegerDomains.{IntegersOf, of_range}
use Rattle.cc_base.specs.NumberRanges.{Range, range_difference, range_met}
use Rattle.cc_base.specs.declared.integer_operators.Tri.{Tri}
use Rattle.cc_base.specs.declared.integer_operators.Tri.TheVariants.{No, Yes, Both, Never}
use Rattle.value_domain.specs.declared.strings.first_zeros.FirstZero.{FirstZero}
use Rattle.value_domain.specs.Strings.FirstZeros.{the_end, zero_of, zero_lattice}

-- a char that must be 0 was written: the first zero is no later, and where there was none the byte itself may be
-- behind an indeterminate one
abbrev pub must_be_zero : (ℤ × ℤ) → (ℤ × ℤ) → (ℤ × ℤ)
must_be_zero f o = cond (not (int_eq f.1 the_end)) (int_min f.0 o.0, int_min f.1 o.1)
    (cond (int_eq o.0 (pos 0) && int_eq o.1 (pos 0)) (int_min f.0 o.0, pos 0) (int_min f.0 o.0, the_end))

-- a char that cannot be 0 was written: past the first zero or before it nothing changes; else the zero may be gone
abbrev pub cannot_be_zero : (ℤ × ℤ) → (ℤ × ℤ) → (ℤ × ℤ)
cannot_be_zero f o = cond (int_eq f.1 the_end) (int_min f.0 (o.0 +ℤ pos 1), the_end)
    (cond (int_lt o.1 f.0 || int_lt f.1 o.0) f (f.0, the_end))

-- the offset is 0 alone
abbrev pub is_start : (ℤ × ℤ) → Bool
is_start o = int_eq o.0 (pos 0) && int_eq o.1 (pos 0)

-- no offset is behind the first zero, and there is one
abbrev pub is_before : (ℤ × ℤ) → (ℤ × ℤ) → Bool
is_before f o = int_le o.1 f.0 && not (int_eq f.1 the_end)

-- a text of length L was written at the offsets O: its end, where nothing before it hides it
abbrev pub ends_text_behind : (ℤ × ℤ) → (ℤ × ℤ) → (ℤ × ℤ) → (ℤ × ℤ)
ends_text_behind f o t = cond (int_eq o.0 o.1 && is_before f o) (int_min (o.0 +ℤ t.0) the_end, int_min (o.1 +ℤ t.1) the_end) (int_min f.0 o.0, the_end)

abbrev pub ends_text : (ℤ × ℤ) → (ℤ × ℤ) → (ℤ × ℤ) → (ℤ × ℤ)
ends_text f o t = cond (is_start o) (int_min t.0 the_end, int_min t.1 the_end) (ends_text_behind f o t)

abbrev pub in_both : ((ℤ × ℤ) → (ℤ × ℤ) → (ℤ × ℤ)) → Range → Range → Range
in_both g None y = None
in_both g (Some f) None = None
in_both g (Some f) (Some o) = Some (g f o)

abbrev pub in_three : ((ℤ × ℤ) → (ℤ × ℤ) → (ℤ × ℤ) → (ℤ × ℤ)) → Range → Range → Range → Range
in_three g None y z = None
in_three g (Some f) None z = None
in_three g (Some f) (Some o) None = None
in_three g (Some f) (Some o) (Some t) = Some (g f o t)

-- the offsets at which the scan can start lie before the first zero, and the zero within the bounds
abbrev pub is_known_at : Bool → (ℤ × ℤ) → (ℤ × ℤ) → (ℤ × ℤ) → Bool
is_known_at part f o r = is_before f o && (not part || int_lt (f.1 -ℤ o.0) r.0)

abbrev pub is_known : Bool → Range → Range → Range → Bool
is_known part None o r = true
is_known part (Some f) None r = true
is_known part (Some f) (Some o) None = true
is_known part (Some f) (Some o) (Some r) = is_known_at part f o r

-- how far the first zero is, within the bounds
abbrev pub lengths : Range → Range → Range → Range
lengths f o None = None
lengths f o (Some r) = range_met (range_difference f o) (pos 0) (r.1 -ℤ pos 1)

module _ {I : Type 0} where
  abbrev pub zero_written : LatticeOf I → IntegersOf I → FirstZero I → I → FirstZero I
  zero_written l n f at = zero_of (of_range l n (in_both must_be_zero (n.bounds f.at) (n.bounds at)))

  abbrev pub other_written : LatticeOf I → IntegersOf I → FirstZero I → I → FirstZero I
  other_written l n f at = zero_of (of_range l n (in_both cannot_be_zero (n.bounds f.at) (n.bounds at)))

  -- a char was written at the offsets `at`
  abbrev pub put_at : LatticeOf I → IntegersOf I → FirstZero I → I → Tri → FirstZero I
  put_at l n f at Yes = zero_written l n f at
  put_at l n f at No = other_written l n f at
  put_at l n f at Both = (zero_lattice l).join (zero_written l n f at) (other_written l n f at)
  put_at l n f at Never = (zero_lattice l).least

  -- a text was written at the offsets `at`
  abbrev pub text_at : LatticeOf I → IntegersOf I → FirstZero I → I → I → FirstZero I
  text_at l n f at len = zero_of (of_range l n (in_three ends_text (n.bounds f.at) (n.bounds at) (n.bounds len)))

  -- the length of the string at `at`, with `room` bytes to its upper bound
  abbrev pub scanned : LatticeOf I → IntegersOf I → FirstZero I → I → I → Bool → Option I
  scanned l n f at room part = cond (is_known part (n.bounds f.at) (n.bounds at) (n.bounds room)) (Some (of_range l n (lengths (n.bounds f.at) (n.bounds at) (n.bounds room)))) None
