-- Numbers of an integer type, and conversion into it.
use Rattle.std.proofs.Common.{◌≡◌, ℕ, zero, ◌<◌, Bool, true, false, arith, refl, ap}
use Rattle.std.specs.Prelude.{ℤ, pos, negsuc, ◌≤ℤ◌, ◌<ℤ◌, ◌+ℤ◌, ◌-ℤ◌}
use Rattle.std.specs.Int.{int_rem_euclid}
use Rattle.std.proofs.lemmas.Int.{ints}
use Rattle.std.proofs.Math.Nat.{mod-eq_of_lt}
use Rattle.cc_base.specs.IntegerTypes.{is_size, modulus, least_of, greatest_of, in_type, wrap_into}
use Rattle.cc_base.specs.declared.int_types.IntType.{IntType}
use Rattle.interval_domain.specs.Intervals.IntervalNumbers.{by_size, size_of_range, wrap_in}
use Rattle.domain_theorems.specs.Intervals.Kit.{of_type, in_type_between}
use Rattle.source_preservation.specs.ValueTyping.MarkOperations.{IsWider, HasTruths, number_of_truth}

-- ---- what lies in a type

pub between_ends : (kind : IntType) (a n b : ℤ) → in_type kind a ≡ true → in_type kind b ≡ true → a ≤ℤ n → n ≤ℤ b → in_type kind n ≡ true
between_ends kind a n b p q h i =
    let lo = (of_type kind a p).0 in
    let hi = (of_type kind b q).1 in
    in_type_between kind n (omega (arith, ints)) (omega (arith, ints))

pub of_wider : (narrow wide : IntType) (n : ℤ) → IsWider narrow wide → in_type narrow n ≡ true → in_type wide n ≡ true
of_wider narrow wide n w i = let o = of_type narrow n i in between_ends wide (least_of narrow) n (greatest_of narrow) w.least w.greatest o.0 o.1

pub truth_in : (kind : IntType) (b : Bool) → HasTruths kind → in_type kind (number_of_truth b) ≡ true
truth_in kind true h = h.one
truth_in kind false h = h.zero

one_at : (n : ℕ) (s : Bool) → is_size n ≡ true → in_type (record { bytes = n; signed = s; rank = 0 }) (pos 1) ≡ true
one_at n true h = by_size (λ n. in_type (record { bytes = n; signed = true; rank = 0 }) (pos 1) ≡ true) refl refl refl refl n h
one_at n false h = by_size (λ n. in_type (record { bytes = n; signed = false; rank = 0 }) (pos 1) ≡ true) refl refl refl refl n h

-- 1 is a number of each type
pub one_in : (kind : IntType) → is_size kind.bytes ≡ true → in_type kind (pos 1) ≡ true
one_in kind h = one_at kind.bytes kind.signed h

zero_at : (n : ℕ) (s : Bool) → is_size n ≡ true → in_type (record { bytes = n; signed = s; rank = 0 }) (pos 0) ≡ true
zero_at n true h = by_size (λ n. in_type (record { bytes = n; signed = true; rank = 0 }) (pos 0) ≡ true) refl refl refl refl n h
zero_at n false h = by_size (λ n. in_type (record { bytes = n; signed = false; rank = 0 }) (pos 0) ≡ true) refl refl refl refl n h

pub zero_in : (kind : IntType) → is_size kind.bytes ≡ true → in_type kind (pos 0) ≡ true
zero_in kind h = zero_at kind.bytes kind.signed h

-- ---- conversion

pub wrapped_in : (kind : IntType) (n : ℤ) → is_size kind.bytes ≡ true → in_type kind (wrap_into kind n) ≡ true
wrapped_in kind n h = let w = wrap_in kind n h in in_type_between kind (wrap_into kind n) w.0 w.1

rem_own : (z : ℤ) (m : ℕ) → pos 0 ≤ℤ z → z <ℤ pos m → int_rem_euclid z (pos m) ≡ z
rem_own (pos n) m p q = let r : n < m = omega (arith, ints, q) in ap pos (mod-eq_of_lt r)
rem_own (negsuc n) m p q = absurd (omega (arith, ints, p))

-- a number of the type stays as it is
pub wrapped_own : (kind : IntType) (n : ℤ) → is_size kind.bytes ≡ true → in_type kind n ≡ true → wrap_into kind n ≡ n
wrapped_own kind n h i =
    let o = of_type kind n i in
    let lo = o.0 in
    let hi = o.1 in
    let e : (least_of kind +ℤ pos (modulus kind)) ≡ (greatest_of kind +ℤ pos 1) = size_of_range kind.bytes kind.signed h in
    let r : int_rem_euclid (n -ℤ least_of kind) (pos (modulus kind)) ≡ (n -ℤ least_of kind) = rem_own (n -ℤ least_of kind) (modulus kind) (omega (arith, ints, lo)) (omega (arith, ints, hi, e)) in
    omega (arith, ints, r)
