-- Wrapping a run of numbers: within one block it is a shift, and past the end of a block it gives both ends of the type.
use Rattle.std.specs.Prelude.{◌≡◌, ℕ, ◌+◌, ◌-◌, ◌*◌, ◌/◌, ◌%◌, ◌<◌, ◌≤◌, ◌^◌, zero, suc, ℤ, pos, negsuc, ◌+ℤ◌, ◌-ℤ◌, ◌≤ℤ◌, ◌<ℤ◌, true, refl, ◌⊎◌}
use Rattle.std.specs.Int.{int_div_euclid, int_rem_euclid}
use Rattle.std.proofs.Common.{arith, ap, ap₂, ◌∙◌, sym, subst, inl, inr}
use Rattle.std.proofs.lemmas.Int.{ints, clamps, by_lt_z}
use Rattle.std.proofs.lemmas.Bool.{cases_lt}
use Rattle.std.proofs.lemmas.Nat.{div-add-mod', div-mul-add, mod-mul-add, mod_below, pow_pos}
use Rattle.cc_base.specs.IntegerTypes.{is_size, modulus, least_of, greatest_of, wrap_into, block_of}
use Rattle.cc_base.specs.declared.int_types.IntType.{IntType}
use Rattle.interval_domain.specs.Intervals.IntervalNumbers.{size_of_range, rem_range, wrap_in}
use Rattle.interval_domain.specs.Intervals.Blocks.{block_rises, wrap_shifts}

-- ---- a step within a block

on_divides : (a d m : ℕ) → 0 < m → a % m + d < m → (a + d) / m ≡ a / m
on_divides a d m h k =
    let e = div-add-mod' a m in
    let p : (a / m) * m + (a % m + d) ≡ a + d = omega arith in
    subst (λ x. x / m ≡ a / m) p (div-mul-add (a / m) m (a % m + d) k)

back_divides : (a d m : ℕ) → 0 < m → d ≤ a % m → (a - d) / m ≡ a / m
back_divides a d m h k =
    let e = div-add-mod' a m in
    let r = mod_below a m h in
    let p : (a / m) * m + (a % m - d) ≡ a - d = omega arith in
    subst (λ x. x / m ≡ a / m) p (div-mul-add (a / m) m (a % m - d) (omega arith))

minus_is : (a d : ℕ) → d ≤ a → (negsuc a +ℤ pos d) ≡ negsuc (a - d)
minus_is a d h = omega (arith, ints)

pub quotient_stays : (z : ℤ) (d m : ℕ) → 0 < m → (int_rem_euclid z (pos m) +ℤ pos d) <ℤ pos m → int_div_euclid (z +ℤ pos d) (pos m) ≡ int_div_euclid z (pos m)
quotient_stays (pos a) d m h k = ap pos (on_divides a d m h (omega (arith, ints)))
quotient_stays (negsuc a) d m h k =
    let r = mod_below a m h in
    let e = div-add-mod' a m in
    let q : d ≤ a % m = omega (arith, ints) in
    let s : d ≤ a = omega arith in
    subst (λ x. int_div_euclid x (pos m) ≡ negsuc (a / m)) (sym (minus_is a d s)) (ap negsuc (back_divides a d m h q))

-- ---- the end of a block

pub start_of_next : (z : ℤ) (m : ℕ) → 0 < m → (int_rem_euclid z (pos m) +ℤ pos 1) ≡ pos m → int_rem_euclid (z +ℤ pos 1) (pos m) ≡ pos 0
start_of_next (pos a) m h k =
    let e = div-add-mod' a m in
    let f : a % m + 1 ≡ m = omega (arith, ints) in
    let q : (a / m + 1) * m ≡ (a / m) * m + m = omega arith in
    let p : (a / m + 1) * m + 0 ≡ a + 1 = omega arith in
    ap pos (subst (λ x. x % m ≡ 0) p (mod-mul-add (a / m + 1) m 0 h))
start_of_next (negsuc zero) m h k = let r = mod_below 0 m h in let e = div-add-mod' 0 m in let v : 0 % m ≡ 0 = omega arith in ap pos v
start_of_next (negsuc (suc b)) m h k =
    let r = mod_below (suc b) m h in
    let f : suc b % m ≡ 0 = omega (arith, ints) in
    let e = div-add-mod' (suc b) m in
    let s = mod_below b m h in
    let g = div-add-mod' b m in
    elim (cases_lt (b % m + 1) m) [
      | inl l ↦ absurd (let t : (b / m) * m + (b % m + 1) ≡ suc b = omega arith in let u : suc b % m ≡ b % m + 1 = subst (λ x. x % m ≡ b % m + 1) t (mod-mul-add (b / m) m (b % m + 1) l) in omega arith)
      | inr l ↦ (let v : m - 1 - b % m ≡ 0 = omega arith in let w : (negsuc (suc b) +ℤ pos 1) ≡ negsuc b = omega (arith, ints) in subst (λ x. int_rem_euclid x (pos m) ≡ pos 0) (sym w) (ap pos v))
    ]

-- ---- in a type

pub block_stays : (k : IntType) (z : ℤ) (d : ℕ) → is_size k.bytes ≡ true → (wrap_into k z +ℤ pos d) ≤ℤ greatest_of k → block_of k (z +ℤ pos d) ≡ block_of k z
block_stays k z d h g =
    let e : (least_of k +ℤ pos (modulus k)) ≡ (greatest_of k +ℤ pos 1) = size_of_range k.bytes k.signed h in
    let p = quotient_stays (z -ℤ least_of k) d (modulus k) (pow_pos (8 * k.bytes)) (omega (arith, ints)) in
    let q : ((z -ℤ least_of k) +ℤ pos d) ≡ ((z +ℤ pos d) -ℤ least_of k) = omega (arith, ints) in
    subst (λ x. int_div_euclid x (pos (modulus k)) ≡ block_of k z) q p

-- numbers up to the end of the block are shifted alike
pub wrap_stays : (k : IntType) (z : ℤ) (d : ℕ) → is_size k.bytes ≡ true → (wrap_into k z +ℤ pos d) ≤ℤ greatest_of k → wrap_into k (z +ℤ pos d) ≡ (wrap_into k z +ℤ pos d)
wrap_stays k z d h g = let p = wrap_shifts k (z +ℤ pos d) z (block_stays k z d h g) in omega (arith, ints)

-- the number behind the end of a block wraps to the least one
pub wrap_next : (k : IntType) (z : ℤ) → is_size k.bytes ≡ true → wrap_into k z ≡ greatest_of k → wrap_into k (z +ℤ pos 1) ≡ least_of k
wrap_next k z h e =
    let f : (least_of k +ℤ pos (modulus k)) ≡ (greatest_of k +ℤ pos 1) = size_of_range k.bytes k.signed h in
    let p = start_of_next (z -ℤ least_of k) (modulus k) (pow_pos (8 * k.bytes)) (omega (arith, ints)) in
    let q : ((z -ℤ least_of k) +ℤ pos 1) ≡ ((z +ℤ pos 1) -ℤ least_of k) = omega (arith, ints) in
    let r : int_rem_euclid ((z +ℤ pos 1) -ℤ least_of k) (pos (modulus k)) ≡ pos 0 = subst (λ x. int_rem_euclid x (pos (modulus k)) ≡ pos 0) q p in
    omega (arith, ints)
