-- A scalar of a type that is stored in bytes is read back.
use Rattle.std.proofs.Common.{◌≡◌, ℕ, zero, suc, ◌+◌, ◌-◌, ◌*◌, ◌/◌, ◌%◌, ◌^◌, ◌<◌, Bool, true, false, ◌==◌, Some, List, [], ◌∷◌, length, arith, sym, refl, ap, ◌∙◌, inl}
use Rattle.std.specs.Prelude.{ℤ, pos}
use Rattle.std.proofs.lemmas.Nat.{pow-add, pow_pos}
use Rattle.std.proofs.lemmas.Int.{ints}
use Rattle.cc_base.specs.IntegerTypes.{is_size, in_type, wrap_into}
use Rattle.cc_base.specs.declared.int_types.IntType.{IntType}
use Rattle.cfg.specs.declared.machine_instructions.Scalar.TheVariants as of
use Rattle.interval_domain.specs.Intervals.IntervalNumbers.{rem_range}
use Rattle.memory_model.specs.Memory.Labels.{Labels}
use Rattle.memory_model.specs.Memory.Bytes.{MachinePointer, null, into, number}
use Rattle.memory_model.specs.Memory.Numbers.{Labelled, unsigned_of, number_of}
use Rattle.memory_model.specs.Memory.Scalars.{integer, pointer}
use Rattle.memory_model.specs.Effects.ScalarBytes.{number_bytes, parts_from, pointer_bytes, bits_in}
use Rattle.memory_model.specs.Effects.Accesses.{numbers_in, joined_labels, integer_in, same_pointer, are_parts, are_zeros, scalar_in}
use Rattle.store_sound.proofs.operations.Fresh.{wrap_bits}
use Rattle.store_sound.proofs.operations.Rereading.{wrapped_signed, wrapped_unsigned, halves}
use Rattle.source_preservation.proofs.ranges.TypeRanges.{wrapped_own}

-- ---- numbers

-- the numbers of the bytes of a number
abbrev byte_numbers : ℕ → ℕ → Labels → List Labelled
byte_numbers zero n labels = []
byte_numbers (suc k) n labels = record { number = n % 256; labels = labels } ∷ byte_numbers k (n / 256) labels

all_numbers : (size n : ℕ) (labels : Labels) → numbers_in (number_bytes size n labels) ≡ Some (byte_numbers size n labels)
all_numbers zero n labels = refl
all_numbers (suc k) n labels = rw (all_numbers k (n / 256) labels) refl

numbers_long : (size n : ℕ) (labels : Labels) → length (byte_numbers size n labels) ≡ size
numbers_long zero n labels = refl
numbers_long (suc k) n labels = ap suc (numbers_long k (n / 256) labels)

numbers_sum : (size n : ℕ) (labels : Labels) → n < 2 ^ (8 * size) → unsigned_of (byte_numbers size n labels) ≡ n
numbers_sum zero n labels h = omega arith
numbers_sum (suc s) n labels h =
    let d : 8 * suc s ≡ 8 + 8 * s = omega arith in
    let p : 2 ^ (8 * suc s) ≡ 256 * 2 ^ (8 * s) = ap (λ x. 2 ^ x) d ∙ pow-add 2 8 (8 * s) in
    let i = numbers_sum s (n / 256) labels (omega arith) in
    omega arith

size_some : (n : ℕ) → is_size n ≡ true → 0 < n
size_some zero h = cc
size_some (suc n) h = omega arith

number_by_sign : (signed : Bool) (kind : IntType) (u : ℕ) (ns : List Labelled) → kind.signed ≡ signed → 0 < kind.bytes → length ns ≡ kind.bytes → unsigned_of ns ≡ u → u < 2 ^ (8 * kind.bytes) → number_of signed ns ≡ wrap_into kind (pos u)
number_by_sign true kind u ns e p l s h = sym (rw (e, l, s) (wrapped_signed (2 ^ (8 * kind.bytes)) (2 ^ (8 * kind.bytes - 1)) u (pos u) (halves (8 * kind.bytes) (omega arith)) (pow_pos (8 * kind.bytes - 1)) h (inl refl)))
number_by_sign false kind u ns e p l s h = sym (rw (e, s) (wrapped_unsigned (2 ^ (8 * kind.bytes)) u (pos u) h (inl refl)))

pub bits_below : (size : ℕ) (n : ℤ) → bits_in size n < 2 ^ (8 * size)
bits_below size n = let r = rem_range n (2 ^ (8 * size)) (pow_pos (8 * size)) in omega (arith, ints)

-- the labels of the number are those of its bytes
pub number_back : (kind : IntType) (n : ℤ) (labels : Labels) → is_size kind.bytes ≡ true → in_type kind n ≡ true → (read : Labels) × (scalar_in (of.Int kind) (number_bytes kind.bytes (bits_in kind.bytes n) labels) ≡ Some (integer n read))
number_back kind n labels h i =
    let u : ℕ = bits_in kind.bytes n in
    let ns : List Labelled = byte_numbers kind.bytes u labels in
    let below = bits_below kind.bytes n in
    let all : numbers_in (number_bytes kind.bytes u labels) ≡ Some ns = all_numbers kind.bytes u labels in
    let same : number_of kind.signed ns ≡ n = number_by_sign kind.signed kind u ns refl (size_some kind.bytes h) (numbers_long kind.bytes u labels) (numbers_sum kind.bytes u labels below) below ∙ (sym (wrap_bits kind n) ∙ wrapped_own kind n h i) in
    (joined_labels ns, ap (integer_in kind) all ∙ ap (λ n. Some (integer n (joined_labels ns))) same)

-- ---- pointers

equal_self : (n : ℕ) → (n == n) ≡ true
equal_self n = grind arith

same_self : (i offset lo hi : ℕ) → same_pointer (into i offset lo hi) (into i offset lo hi) ≡ true
same_self i offset lo hi = rw (equal_self i, equal_self offset, equal_self lo, equal_self hi) refl

all_parts : (i offset lo hi at size : ℕ) → are_parts (into i offset lo hi) at (parts_from (into i offset lo hi) at size) ≡ true
all_parts i offset lo hi at zero = refl
all_parts i offset lo hi at (suc k) = rw (same_self i offset lo hi, equal_self at, all_parts i offset lo hi (suc at) k) refl

all_zeros : (size : ℕ) (labels : Labels) → are_zeros (number_bytes size 0 labels) ≡ true
all_zeros zero labels = refl
all_zeros (suc k) labels = all_zeros k labels

pub pointer_back : (size : ℕ) (p : MachinePointer) → 0 < size → scalar_in of.Pointer (pointer_bytes size p) ≡ Some (pointer p)
pointer_back zero p h = absurd (omega arith)
pointer_back (suc k) null h = rw (all_zeros k _) refl
pointer_back (suc k) (into i offset lo hi) h = rw (all_parts i offset lo hi 0 (suc k)) refl
