-- Numbers that bytes are.
use Rattle.std.proofs.Common.{◌≡◌, ℕ, zero, suc, ◌+◌, ◌*◌, ◌^◌, ◌<◌, ◌≤◌, ℤ, pos, Bool, true, false, cond, Option, Some, None, List, [], ◌∷◌, length, refl, sym, ap, ◌∙◌, arith}
use Rattle.std.proofs.Math.Nat.{pow-le-pow_right}
use Rattle.std.proofs.lemmas.Nat.{pow-add}
use Rattle.std.proofs.lemmas.Option.{none-some, same_Some, some_pair_parts}
use Rattle.memory_model.specs.Memory.Labels.{Labels}
use Rattle.memory_model.specs.Memory.Bytes.{Content, indeterminate, number, part}
use Rattle.memory_model.specs.Memory.Numbers.{Labelled, unsigned_of, signed_of, number_of}
use Rattle.memory_model.specs.Memory.Scalars.{integer}
use Rattle.memory_model.specs.Effects.Accesses.{and_number, numbers_in, joined_labels, integer_in}
use Rattle.interp_memory.specs.Digits.{digits_of}

-- ---- how large

pub bytes_bits : (k : ℕ) → 256 ^ k ≡ 2 ^ (8 * k)
bytes_bits zero = refl
bytes_bits (suc k) =
    let e : 8 * suc k ≡ 8 + 8 * k = omega arith in
    let p : 256 ^ suc k ≡ 256 * 256 ^ k = grind arith in
    p ∙ ap (λ n. 256 * n) (bytes_bits k) ∙ sym (ap (λ n. 2 ^ n) e ∙ pow-add 2 8 (8 * k))

pub below_byte : (n k : ℕ) → n < 256 ^ k → k ≤ 7 → n < 2 ^ 56
below_byte n k h le =
    let most : 256 ^ k ≤ 256 ^ 7 = pow-le-pow_right {n = 256} (omega arith) le in
    omega (arith, most)

-- ---- as an integer

and_length : (c : Content) (o : Option (List Labelled)) (k : ℕ) → ((ms : List Labelled) → o ≡ Some ms → length ms ≡ k) → (ns : List Labelled) → and_number c o ≡ Some ns → length ns ≡ suc k
and_length (number n labels) (Some ms) k f ns e = ap length (sym (same_Some _ _ e)) ∙ ap suc (f ms refl)
and_length (number n labels) None k f ns e = absurd (none-some ns e)
and_length indeterminate o k f ns e = absurd (none-some ns e)
and_length (part p j) o k f ns e = absurd (none-some ns e)

numbers_length : (cs : List Content) (ns : List Labelled) → numbers_in cs ≡ Some ns → length ns ≡ length cs
numbers_length [] ns e = ap length (sym (same_Some [] ns e))
numbers_length (c ∷ cs) ns e = and_length c (numbers_in cs) (length cs) (numbers_length cs) ns e

number_by : (signed : Bool) (ns : List Labelled) → number_of signed ns ≡ cond signed (signed_of (8 * length ns) (unsigned_of ns)) (pos (unsigned_of ns))
number_by true ns = refl
number_by false ns = refl

found_by : (size rank : ℕ) (signed : Bool) (o : Option (List Labelled)) (len n : ℕ) (s : Labels) (v : ℤ) → ((ms : List Labelled) → o ≡ Some ms → length ms ≡ len) → Some (n, s) ≡ digits_of o → v ≡ cond signed (signed_of (8 * len) n) (pos n) → Some (integer v s) ≡ integer_in (record { bytes = size; signed = signed; rank = rank }) o
found_by size rank signed None len n s v f e h = absurd (none-some _ (sym e))
found_by size rank signed (Some ns) len n s v f e h =
    let parts = some_pair_parts n (unsigned_of ns) s (joined_labels ns) e in
    let same : v ≡ number_of signed ns =
    h
    ∙ ap (λ l. cond signed (signed_of (8 * l) n) (pos n)) (sym (f ns refl))
    ∙ ap (λ m. cond signed (signed_of (8 * length ns) m) (pos m)) parts.0
    ∙ sym (number_by signed ns) in
    ap (λ z. Some (integer z s)) same ∙ ap (λ z. Some (integer (number_of signed ns) z)) parts.1

pub integer_found : (size rank : ℕ) (signed : Bool) (cs : List Content) (len n : ℕ) (s : Labels) (v : ℤ) → len ≡ length cs → Some (n, s) ≡ digits_of (numbers_in cs) → v ≡ cond signed (signed_of (8 * len) n) (pos n) → Some (integer v s) ≡ integer_in (record { bytes = size; signed = signed; rank = rank }) (numbers_in cs)
integer_found size rank signed cs len n s v l e h = found_by size rank signed (numbers_in cs) len n s v (λ ms k. numbers_length cs ms k ∙ sym l) e h
