-- The numbers that bytes are as scalars of an integer type lie in it.
use Rattle.std.proofs.Common.{◌≡◌, ℕ, zero, suc, ◌-◌, ◌*◌, ◌^◌, ◌<◌, ◌≤◌, Bool, true, false, Option, Some, None, List, length, arith, subst, sym, refl, ap, ◌∙◌, inl, inr}
use Rattle.std.specs.Prelude.{ℤ, pos, negsuc, ◌≤ℤ◌, slice_get, nat_lt}
use Rattle.std.proofs.lemmas.Int.{ints}
use Rattle.std.proofs.lemmas.Bool.{cases_Bool, ltb-true, ltb-false}
use Rattle.std.proofs.lemmas.Nat.{pow_pos}
use Rattle.std.proofs.Math.Nat.{pow-le-pow_right}
use Rattle.cc_base.specs.IntegerTypes.{is_size, in_type}
use Rattle.cc_base.specs.declared.int_types.IntType.{IntType}
use Rattle.c_layout.specs.declared.data_model.Model.{Model}
use Rattle.cfg.specs.declared.machine_instructions.Scalar.TheVariants as of
use Rattle.memory_model.specs.Memory.Labels.{Labels}
use Rattle.memory_model.specs.Memory.Bytes.{Content, number}
use Rattle.memory_model.specs.Memory.Numbers.{Labelled, unsigned_of, signed_of, number_of}
use Rattle.memory_model.specs.Memory.Scalars.{Scalar, integer}
use Rattle.memory_model.specs.Effects.Accesses.{numbers_in, joined_labels, integer_in, scalar_in}
use Rattle.domain_theorems.specs.Intervals.Kit.{in_type_between}
use Rattle.store_sound.proofs.operations.Reading.{numbers_length, numbers_at}
use Rattle.store_sound.proofs.operations.Rereading.{unsigned_below, halves}
use Rattle.source_preservation.specs.ValueTyping.ProperMemory.{IsProper}

-- contents of proper memory, one by one
abbrev pub AreProper : Model → List Content → Type 0
AreProper m cs = (k : ℕ) (c : Content) → slice_get cs k ≡ Some c → IsProper m c

power_up : (a b : ℕ) → a ≤ b → 2 ^ a ≤ 2 ^ b
power_up a b h = pow-le-pow_right {n = 2} (omega arith) h

doubled : (n : ℕ) → 2 ^ suc n ≡ 2 * 2 ^ n
doubled n = let e : suc n - 1 ≡ n = omega arith in halves (suc n) (omega arith) ∙ ap (λ k. 2 * 2 ^ k) e

-- ---- the number of so many bits

signed_low : (bits wide n : ℕ) → bits ≤ wide → 0 < wide → n < 2 ^ bits → negsuc (2 ^ (wide - 1) - 1) ≤ℤ signed_of bits n
signed_low zero wide n h p i = let e : n ≡ 0 = omega arith in rw e (omega (arith, ints))
signed_low (suc bits) wide n h p i =
    let e : 2 ^ suc bits ≡ 2 * 2 ^ bits = doubled bits in
    let u : 2 ^ bits ≤ 2 ^ (wide - 1) = power_up bits (wide - 1) (omega arith) in
    let a : 0 < 2 ^ bits = pow_pos bits in
    elim (cases_Bool (nat_lt (2 * n) (2 ^ suc bits))) [
      | inl f ↦ rw f (omega (arith, ints))
      | inr f ↦ (let k = ltb-false _ _ f in rw f (omega (arith, ints, e, u, a, k)))
    ]

signed_high : (bits wide n : ℕ) → bits ≤ wide → 0 < wide → n < 2 ^ bits → signed_of bits n ≤ℤ pos (2 ^ (wide - 1) - 1)
signed_high zero wide n h p i = let e : n ≡ 0 = omega arith in rw e (omega (arith, ints))
signed_high (suc bits) wide n h p i =
    let e : 2 ^ suc bits ≡ 2 * 2 ^ bits = doubled bits in
    let u : 2 ^ bits ≤ 2 ^ (wide - 1) = power_up bits (wide - 1) (omega arith) in
    let a : 0 < 2 ^ bits = pow_pos bits in
    elim (cases_Bool (nat_lt (2 * n) (2 ^ suc bits))) [
      | inl f ↦ (let k = ltb-true _ _ f in rw f (omega (arith, ints, e, u, a, k)))
      | inr f ↦ rw f (omega (arith, ints, i))
    ]

size_some : (n : ℕ) → is_size n ≡ true → 0 < n
size_some zero h = cc
size_some (suc n) h = omega arith

number_by_sign : (signed : Bool) (kind : IntType) (ns : List Labelled) → kind.signed ≡ signed → 0 < kind.bytes → length ns ≤ kind.bytes → unsigned_of ns < 2 ^ (8 * length ns) → in_type kind (number_of signed ns) ≡ true
number_by_sign true kind ns e p h i =
    let lo = signed_low (8 * length ns) (8 * kind.bytes) (unsigned_of ns) (omega arith) (omega arith) i in
    let hi = signed_high (8 * length ns) (8 * kind.bytes) (unsigned_of ns) (omega arith) (omega arith) i in
    in_type_between kind (number_of true ns) (rw e lo) (rw e hi)
number_by_sign false kind ns e p h i =
    let u : 2 ^ (8 * length ns) ≤ 2 ^ (8 * kind.bytes) = power_up (8 * length ns) (8 * kind.bytes) (omega arith) in
    in_type_between kind (number_of false ns) (rw e (omega (arith, ints))) (rw e (omega (arith, ints, u, i)))

-- bytes below 256, no more than the type has
number_in_type : (kind : IntType) (ns : List Labelled) → is_size kind.bytes ≡ true → length ns ≤ kind.bytes → ((k : ℕ) (n : Labelled) → slice_get ns k ≡ Some n → n.number < 256) → in_type kind (number_of kind.signed ns) ≡ true
number_in_type kind ns h l each = number_by_sign kind.signed kind ns refl (size_some kind.bytes h) l (unsigned_below ns each)

-- ---- scalars

-- where contents are an integer, they are these numbers
integer_is : (kind : IntType) (o : Option (List Labelled)) (v : Scalar) → integer_in kind o ≡ Some v → (ns : List Labelled) × (o ≡ Some ns) × (labels : Labels) × (v ≡ integer (number_of kind.signed ns) labels)
integer_is kind None v e = cc
integer_is kind (Some ns) v e = (ns, refl, joined_labels ns, cc)

abbrev number_of_scalar : Scalar → ℤ
number_of_scalar (integer n labels) = n
number_of_scalar v = pos 0

-- an integer that is loaded out of proper memory
pub loaded_in : (m : Model) (kind : IntType) (cs : List Content) (n : ℤ) (labels : Labels) → is_size kind.bytes ≡ true → length cs ≤ kind.bytes → AreProper m cs → scalar_in (of.Int kind) cs ≡ Some (integer n labels) → in_type kind n ≡ true
loaded_in m kind cs n labels h l proper e =
    let r = integer_is kind (numbers_in cs) (integer n labels) e in
    let ns : List Labelled = r.0 in
    let is : numbers_in cs ≡ Some ns = r.1 in
    let long : length ns ≡ length cs = numbers_length cs ns is in
    let each : (k : ℕ) (x : Labelled) → slice_get ns k ≡ Some x → x.number < 256 = λ k x f. proper k (number x.number x.labels) (numbers_at cs ns k x is f) in
    let same : n ≡ number_of kind.signed ns = ap number_of_scalar r.3 in
    subst (λ n. in_type kind n ≡ true) (sym same) (number_in_type kind ns h (omega arith) each)
