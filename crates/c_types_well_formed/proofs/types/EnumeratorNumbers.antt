-- A number that typing finds in int is one of int.
use Rattle.std.proofs.Common.{◌≡◌, inl, inr, ◌-◌, ◌*◌, ◌<◌, ◌≤◌, ◌%◌, ℕ, refl, subst, sym, arith}
use Rattle.std.specs.Prelude.{ℤ, pos, negsuc, ◌-ℤ◌, ◌≤ℤ◌, Bool, true, false, cond, ◌&&◌, int_le}
use Rattle.std.specs.Int.{int_rem_euclid}
use Rattle.std.proofs.lemmas.Bool.{and_from}
use Rattle.std.proofs.lemmas.Bool.Decides.{Decides-int_eq}
use Rattle.std.proofs.lemmas.Int.{ints}
use Rattle.cc_base.specs.IntegerTypes.{in_type}
use Rattle.c_layout.specs.Models.{is_model}
use Rattle.c_layout.specs.declared.data_model.Model.{Model}
use Rattle.c_types_rules.specs.Rules.ConstantFolding.{converted, has_number}
use Rattle.c_types_rules.specs.Rules.IntegerKinds.{kind_of}
use Rattle.c_types_rules.specs.declared.rules.integer_kinds.Rank.TheVariants as rank
use Rattle.c_types_well_formed.proofs.rules.ModelKinds.{model_numbers}

is_le : (a b : ℤ) → int_le a b ≡ true → a ≤ℤ b
is_le a b h = grind (arith, ints)

not_le : (a b : ℕ) → int_le (pos a) (pos b) ≡ false → b < a
not_le a b h = grind (arith, ints)

le_is : (a b : ℤ) → a ≤ℤ b → int_le a b ≡ true
le_is a b h = grind (arith, ints)

remainder_two : (n : ℤ) → (r : ℕ) × (int_rem_euclid n (pos 65536) ≡ pos r) × (r < 65536)
remainder_two (pos a) = (a % 65536, refl, omega arith)
remainder_two (negsuc a) = (65536 - 1 - a % 65536, refl, omega arith)

remainder_four : (n : ℤ) → (r : ℕ) × (int_rem_euclid n (pos 4294967296) ≡ pos r) × (r < 4294967296)
remainder_four (pos a) = (a % 4294967296, refl, omega arith)
remainder_four (negsuc a) = (4294967296 - 1 - a % 4294967296, refl, omega arith)

-- the upper half of the numbers below a modulus are the negative ones
between : (half r : ℕ) (b : Bool) → 0 < half → r < 2 * half → int_le (pos half) (pos r) ≡ b → (int_le (negsuc (half - 1)) (cond b (pos r -ℤ pos (2 * half)) (pos r)) && int_le (cond b (pos r -ℤ pos (2 * half)) (pos r)) (pos (half - 1))) ≡ true
between half r true some less is =
    let up : pos half ≤ℤ pos r = is_le (pos half) (pos r) is in
    let low : negsuc (half - 1) ≤ℤ (pos r -ℤ pos (2 * half)) = omega (arith, ints, up, some, less) in
    let high : (pos r -ℤ pos (2 * half)) ≤ℤ pos (half - 1) = omega (arith, ints, up, some, less) in
    and_from _ _ (le_is _ _ low) (le_is _ _ high)
between half r false some less is =
    let few : r < half = not_le half r is in
    let low : negsuc (half - 1) ≤ℤ pos r = omega (arith, ints, few) in
    let high : pos r ≤ℤ pos (half - 1) = omega (arith, ints, few, some) in
    and_from _ _ (le_is _ _ low) (le_is _ _ high)

converted_two : (n : ℤ) → in_type (record { bytes = 2; signed = true; rank = 3 }) (converted (record { bytes = 2; signed = true; rank = 3 }) n) ≡ true
converted_two n =
    let r = remainder_two n in
    subst (λ z. in_type (record { bytes = 2; signed = true; rank = 3 }) (cond (int_le (pos 32768) z) (z -ℤ pos 65536) z) ≡ true) (sym r.1) (between 32768 r.0 (int_le (pos 32768) (pos r.0)) (omega arith) r.2 refl)

converted_four : (n : ℤ) → in_type (record { bytes = 4; signed = true; rank = 3 }) (converted (record { bytes = 4; signed = true; rank = 3 }) n) ≡ true
converted_four n =
    let r = remainder_four n in
    subst (λ z. in_type (record { bytes = 4; signed = true; rank = 3 }) (cond (int_le (pos 2147483648) z) (z -ℤ pos 4294967296) z) ≡ true) (sym r.1) (between 2147483648 r.0 (int_le (pos 2147483648) (pos r.0)) (omega arith) r.2 refl)

converted_int : (m : Model) (n : ℤ) → is_model m ≡ true → in_type (kind_of m rank.Int true) (converted (kind_of m rank.Int true) n) ≡ true
converted_int m n h = elim (model_numbers m h).int [
  | inl e ↦ subst (λ b. in_type (record { bytes = b; signed = true; rank = 3 }) (converted (record { bytes = b; signed = true; rank = 3 }) n) ≡ true) (sym e) (converted_two n)
  | inr e ↦ subst (λ b. in_type (record { bytes = b; signed = true; rank = 3 }) (converted (record { bytes = b; signed = true; rank = 3 }) n) ≡ true) (sym e) (converted_four n)
]

pub int_number : (m : Model) (n : ℤ) → is_model m ≡ true → has_number (kind_of m rank.Int true) n ≡ true → in_type (kind_of m rank.Int true) n ≡ true
int_number m n h is = subst (λ z. in_type (kind_of m rank.Int true) z ≡ true) ((Decides-int_eq (converted (kind_of m rank.Int true) n) n).0 is) (converted_int m n h)
