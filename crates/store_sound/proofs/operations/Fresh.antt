-- What the bytes of a stored scalar are, and what its value stands for.
use Rattle.std.proofs.Common.{◌≡◌, ℕ, zero, suc, ◌+◌, ◌-◌, ◌*◌, ◌/◌, ◌%◌, ◌^◌, ◌<◌, Bool, true, false, Some, List, [], ◌∷◌, length, arith, subst, sym, refl, ap, ◌∙◌, inl, inr}
use Rattle.std.specs.Prelude.{slice_get, ℤ, pos, negsuc, ◌+ℤ◌, ◌-ℤ◌, unsigned_abs}
use Rattle.std.specs.Int.{int_rem_euclid}
use Rattle.std.proofs.lemmas.Int.{ints, int_rem_euclid_is}
use Rattle.std.proofs.lemmas.Nat.{pow-add, pow_pos}
use Rattle.std.proofs.Math.Nat.{mod-lt, add-mul-mod_self_right}
use Rattle.std.proofs.lemmas.Bool.{cases_Bool}
use Rattle.cc_base.specs.declared.int_types.IntType.{IntType}
use Rattle.cc_base.specs.IntegerTypes.{least_of, modulus, wrap_into}
use Rattle.memory_model.specs.Memory.Labels.{Labels}
use Rattle.memory_model.specs.Memory.Bytes.{MachinePointer, Content, number, part}
use Rattle.memory_model.specs.Memory.Numbers.{Labelled, unsigned_of, number_of}
use Rattle.store_sound.specs.Concretization.Matching.{number_in}
use Rattle.memory_model.specs.Effects.ScalarBytes.{number_bytes, parts_from, bits_in}
use Rattle.store_sound.proofs.operations.Rereading.{IsSame, wrapped_signed, wrapped_unsigned, halves}

pub number_content : (size n : ℕ) (labels : Labels) (k : ℕ) (c : Content) → slice_get (number_bytes size n labels) k ≡ Some c → (d : ℕ) × (c ≡ number d labels) × (d < 256)
number_content zero n labels k c e = cc
number_content (suc s) n labels zero c e = (n % 256, cc, omega arith)
number_content (suc s) n labels (suc k) c e = number_content s (n / 256) labels k c e

pub part_content : (p : MachinePointer) (at size k j : ℕ) (c : Content) → slice_get (parts_from p at size) k ≡ Some c → j ≡ at + k → c ≡ part p j
part_content p at zero k j c e d = cc
part_content p at (suc s) zero j c e d = let f : at ≡ j = omega arith in let g : part p at ≡ c = cc in sym g ∙ ap (part p) f
part_content p at (suc s) (suc k) j c e d = part_content p (suc at) s k j c e (omega arith)

pub read_back : (ns : List Labelled) (size u : ℕ) (labels : Labels) → length ns ≡ size → ((k : ℕ) (y : Labelled) → slice_get ns k ≡ Some y → slice_get (number_bytes size u labels) k ≡ Some (number_in y)) → u < 2 ^ (8 * size) → unsigned_of ns ≡ u
read_back [] zero u labels e h k = omega arith
read_back [] (suc s) u labels e h k = absurd (omega arith)
read_back (y ∷ ys) zero u labels e h k = absurd (omega arith)
read_back (y ∷ ys) (suc s) u labels e h k =
    let f = h 0 y refl in
    let g : u % 256 ≡ y.number = cc in
    let d : 8 * suc s ≡ 8 + 8 * s = omega arith in
    let p : 2 ^ (8 * suc s) ≡ 256 * 2 ^ (8 * s) = ap (λ x. 2 ^ x) d ∙ pow-add 2 8 (8 * s) in
    let i = read_back ys s (u / 256) labels (omega arith) (λ j z w. h (suc j) z w) (omega arith) in
    omega arith

-- ---- the bits of a number

bits_below : (m : ℕ) (z : ℤ) → 0 < m → unsigned_abs (int_rem_euclid z (pos m)) < m
bits_below m (pos a) h = mod-lt a h
bits_below m (negsuc a) h = omega arith

-- the bits of a number are it, but for so many times the modulus
same_bits : (m d : ℕ) (least z : ℤ) → 0 < m → least ≡ (pos 0 -ℤ pos d) → int_rem_euclid (z -ℤ least) (pos m) ≡ pos ((unsigned_abs (int_rem_euclid z (pos m)) + d) % m)
same_bits m d least (pos a) p e =
    let f : a ≡ a % m + (a / m) * m = omega arith in
    let g : (a + d) ≡ (a % m + d) + (a / m) * m = omega arith in
    int_rem_euclid_is (pos a -ℤ least) (pos m) m 0 (a + d) p refl (omega (arith, ints)) ∙ ap pos (ap (λ x. x % m) g ∙ add-mul-mod_self_right (a % m + d) (a / m) m)
same_bits m d least (negsuc a) p e =
    let f : a ≡ a % m + (a / m) * m = omega arith in
    let h : a % m < m = mod-lt a p in
    let g : (a / m + 1) * m ≡ (a / m) * m + m = omega arith in
    int_rem_euclid_is (negsuc a -ℤ least) (pos m) m (a / m + 1) (((m - 1) - a % m) + d) p refl (omega (arith, ints))

wrapped_bits : (m d u : ℕ) (least z : ℤ) → 0 < m → least ≡ (pos 0 -ℤ pos d) → u ≡ unsigned_abs (int_rem_euclid z (pos m)) → u < m → int_rem_euclid (z -ℤ least) (pos m) ≡ int_rem_euclid (pos u -ℤ least) (pos m)
wrapped_bits m d u least z p e f h =
    let a = same_bits m d least z p e in
    let b : int_rem_euclid (pos u -ℤ least) (pos m) ≡ pos ((u + d) % m) = int_rem_euclid_is (pos u -ℤ least) (pos m) m 0 (u + d) p refl (omega (arith, ints)) in
    a ∙ (ap (λ x. pos ((x + d) % m)) (sym f) ∙ sym b)

least_is : (k : IntType) → (d : ℕ) × (least_of k ≡ (pos 0 -ℤ pos d))
least_is k = elim (cases_Bool k.signed) [
  | inl e ↦ (2 ^ (8 * k.bytes - 1), let c = pow_pos (8 * k.bytes - 1) in rw e (omega (arith, ints)))
  | inr e ↦ (0, rw e refl)
]

-- conversion sees of a number its bits alone
pub wrap_bits : (k : IntType) (z : ℤ) → wrap_into k z ≡ wrap_into k (pos (bits_in k.bytes z))
wrap_bits k z =
    let d = least_is k in
    let c = pow_pos (8 * k.bytes) in
    ap (λ x. least_of k +ℤ x) (wrapped_bits (modulus k) d.0 (bits_in k.bytes z) (least_of k) z c d.1 refl (bits_below (modulus k) z c))

by_sign : (t : Bool) (ns : List Labelled) (to : IntType) (size : ℕ) (n : ℤ) → to.signed ≡ t → 0 < size → to.bytes ≡ size → length ns ≡ size → unsigned_of ns < 2 ^ (8 * size) → IsSame (2 ^ (8 * size)) (unsigned_of ns) n → wrap_into to n ≡ number_of t ns
by_sign true ns to size n d s e f u b = rw (d, e, f) (wrapped_signed (2 ^ (8 * size)) (2 ^ (8 * size - 1)) (unsigned_of ns) n (halves (8 * size) (omega arith)) (pow_pos (8 * size - 1)) u b)
by_sign false ns to size n d s e f u b = rw (d, e) (wrapped_unsigned (2 ^ (8 * size)) (unsigned_of ns) n u b)

-- the numbers of the bytes of a number, read back under a signedness, are what conversion makes of it
pub converted_back : (ns : List Labelled) (to : IntType) (n : ℤ) (labels : Labels) → 0 < to.bytes → length ns ≡ to.bytes → ((k : ℕ) (y : Labelled) → slice_get ns k ≡ Some y → slice_get (number_bytes to.bytes (bits_in to.bytes n) labels) k ≡ Some (number_in y)) → wrap_into to n ≡ number_of to.signed ns
converted_back ns to n labels s f g =
    let b = bits_below (2 ^ (8 * to.bytes)) n (pow_pos (8 * to.bytes)) in
    let u = read_back ns to.bytes (bits_in to.bytes n) labels f g b in
    wrap_bits to n ∙ by_sign to.signed ns to to.bytes (pos (bits_in to.bytes n)) refl s refl f (subst (λ x. x < 2 ^ (8 * to.bytes)) (sym u) b) (inl (ap pos (sym u)))
