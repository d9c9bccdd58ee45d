-- A set of bases is read back from its digits.
use Rattle.std.proofs.Common.{◌≡◌, ◌≢◌, ◌∙◌, ◌+◌, ◌*◌, ◌/◌, ◌%◌, ◌<◌, ◌≤◌, ℕ, zero, suc, Bool, true, false, cond, ◌&&◌, ◌||◌, ◌==◌, length, refl, sym, ap, subst, arith, lt-ltb, ◌⊎◌, inl, inr}
use Rattle.std.specs.Prelude.{codes, nat_le}
use Rattle.std.proofs.lemmas.Bool.{cases_Bool, cases_lt, eqb-true, and_parts}
use Rattle.pointer_domain.specs.declared.base_sets.Bases.{Bases}
use Rattle.pointer_domain.specs.BaseSets.{no_base, bases_has, bases_with, bases_empty}
use Rattle.pointer_domain.specs.BaseFacts.{with_has_same, with_has_other}
use Rattle.certificate_text.specs.Lines.BaseDigits.{bit_value, nibble, hex_digit, used_below, digits_below, bases_text, hex_value, with_bit, with_digit, with_nibble, bases_from, bases_of}
use Rattle.certificate_theorems.proofs.lines.Words.{IsFreeOf}
use Rattle.certificate_theorems.specs.Lines.NearRanges.{AreFew}
use Rattle.certificate_theorems.proofs.lines.FewBases.{none_few, with_few, same_sets}

-- ---- one base

bit_has : (s : Bases) (b n : ℕ) (p : Bool) → b < 1016 → n < 1016 → bases_has (with_bit s b p) n ≡ ((p && (n == b)) || bases_has s n)
unfolding with_bit
bit_has s b n false h k = refl
bit_has s b n true h k = elim (cases_Bool (n == b)) [
  | inl e ↦ (let same : b ≡ n = sym (eqb-true n b e) in subst (λ m. bases_has (bases_with s b) m ≡ true) same (with_has_same s b) ∙ sym (ap (λ t. t || bases_has s n) e))
  | inr e ↦ with_has_other s b n h k (λ same. (let f : (n == b) ≡ true = grind arith in grind arith)) ∙ sym (ap (λ t. t || bases_has s n) e)
]

bit_few : (s : Bases) (b : ℕ) (p : Bool) → AreFew s → b < 1016 → AreFew (with_bit s b p)
unfolding with_bit
bit_few s b false few h = few
bit_few s b true few h = with_few s b few h

-- ---- one digit

abbrev told : Bool → Bool → Bool → Bool → ℕ
told a b c e = (cond a 1 0 + cond b 2 0) + (cond c 4 0 + cond e 8 0)

-- what is read of a digit
record IsDigitOf (a b c e : Bool) : Type 0 where
  back : hex_value (hex_digit (told a b c e)) ≡ told a b c e
  first : (told a b c e % 2 == 1) ≡ a
  second : (told a b c e / 2 % 2 == 1) ≡ b
  third : (told a b c e / 4 % 2 == 1) ≡ c
  fourth : (told a b c e / 8 % 2 == 1) ≡ e
  no_blank : (hex_digit (told a b c e) == 32) ≡ false
  no_end : (hex_digit (told a b c e) == 10) ≡ false
  none : told a b c e ≡ 0 → (a || (b || (c || e))) ≡ false

digit_of : (a b c e : Bool) → IsDigitOf a b c e
digit_of false false false false = record { back = refl; first = refl; second = refl; third = refl; fourth = refl; no_blank = refl; no_end = refl; none = λ h. refl }
digit_of false false false true = record { back = refl; first = refl; second = refl; third = refl; fourth = refl; no_blank = refl; no_end = refl; none = λ h. absurd (omega (arith, h)) }
digit_of false false true false = record { back = refl; first = refl; second = refl; third = refl; fourth = refl; no_blank = refl; no_end = refl; none = λ h. absurd (omega (arith, h)) }
digit_of false false true true = record { back = refl; first = refl; second = refl; third = refl; fourth = refl; no_blank = refl; no_end = refl; none = λ h. absurd (omega (arith, h)) }
digit_of false true false false = record { back = refl; first = refl; second = refl; third = refl; fourth = refl; no_blank = refl; no_end = refl; none = λ h. absurd (omega (arith, h)) }
digit_of false true false true = record { back = refl; first = refl; second = refl; third = refl; fourth = refl; no_blank = refl; no_end = refl; none = λ h. absurd (omega (arith, h)) }
digit_of false true true false = record { back = refl; first = refl; second = refl; third = refl; fourth = refl; no_blank = refl; no_end = refl; none = λ h. absurd (omega (arith, h)) }
digit_of false true true true = record { back = refl; first = refl; second = refl; third = refl; fourth = refl; no_blank = refl; no_end = refl; none = λ h. absurd (omega (arith, h)) }
digit_of true false false false = record { back = refl; first = refl; second = refl; third = refl; fourth = refl; no_blank = refl; no_end = refl; none = λ h. absurd (omega (arith, h)) }
digit_of true false false true = record { back = refl; first = refl; second = refl; third = refl; fourth = refl; no_blank = refl; no_end = refl; none = λ h. absurd (omega (arith, h)) }
digit_of true false true false = record { back = refl; first = refl; second = refl; third = refl; fourth = refl; no_blank = refl; no_end = refl; none = λ h. absurd (omega (arith, h)) }
digit_of true false true true = record { back = refl; first = refl; second = refl; third = refl; fourth = refl; no_blank = refl; no_end = refl; none = λ h. absurd (omega (arith, h)) }
digit_of true true false false = record { back = refl; first = refl; second = refl; third = refl; fourth = refl; no_blank = refl; no_end = refl; none = λ h. absurd (omega (arith, h)) }
digit_of true true false true = record { back = refl; first = refl; second = refl; third = refl; fourth = refl; no_blank = refl; no_end = refl; none = λ h. absurd (omega (arith, h)) }
digit_of true true true false = record { back = refl; first = refl; second = refl; third = refl; fourth = refl; no_blank = refl; no_end = refl; none = λ h. absurd (omega (arith, h)) }
digit_of true true true true = record { back = refl; first = refl; second = refl; third = refl; fourth = refl; no_blank = refl; no_end = refl; none = λ h. absurd (omega (arith, h)) }

module _ (s : Bases) where
  digit_at : (at : ℕ) → IsDigitOf (bases_has s (at * 4)) (bases_has s (at * 4 + 1)) (bases_has s (at * 4 + 2)) (bases_has s (at * 4 + 3))
  digit_at at = digit_of (bases_has s (at * 4)) (bases_has s (at * 4 + 1)) (bases_has s (at * 4 + 2)) (bases_has s (at * 4 + 3))

  nibble_is : (at : ℕ) → nibble s at ≡ told (bases_has s (at * 4)) (bases_has s (at * 4 + 1)) (bases_has s (at * 4 + 2)) (bases_has s (at * 4 + 3))
  unfolding nibble bit_value
  nibble_is at = refl

  -- the set with the four bases of a digit
  abbrev with_four : Bases → ℕ → Bases
  with_four set at = with_bit (with_bit (with_bit (with_bit set (at * 4) (bases_has s (at * 4))) (at * 4 + 1) (bases_has s (at * 4 + 1))) (at * 4 + 2) (bases_has s (at * 4 + 2))) (at * 4 + 3) (bases_has s (at * 4 + 3))

  digit_read : (set : Bases) (at : ℕ) → at < 254 → with_nibble set at (hex_value (hex_digit (nibble s at))) ≡ with_four set at
  unfolding with_digit
  digit_read set at low =
      let k = digit_at at in
      let v = told (bases_has s (at * 4)) (bases_has s (at * 4 + 1)) (bases_has s (at * 4 + 2)) (bases_has s (at * 4 + 3)) in
      ap (λ t. cond t (with_digit set (at * 4) (hex_value (hex_digit (nibble s at)))) set) (lt-ltb at 254 low)
      ∙ ap (λ x. with_digit set (at * 4) (hex_value (hex_digit x))) (nibble_is at)
      ∙ ap (with_digit set (at * 4)) k.back
      ∙ ap (λ p. with_bit (with_bit (with_bit (with_bit set (at * 4) p) (at * 4 + 1) (v / 2 % 2 == 1)) (at * 4 + 2) (v / 4 % 2 == 1)) (at * 4 + 3) (v / 8 % 2 == 1)) k.first
      ∙ ap (λ p. with_bit (with_bit (with_bit (with_bit set (at * 4) (bases_has s (at * 4))) (at * 4 + 1) p) (at * 4 + 2) (v / 4 % 2 == 1)) (at * 4 + 3) (v / 8 % 2 == 1)) k.second
      ∙ ap (λ p. with_bit (with_bit (with_bit (with_bit set (at * 4) (bases_has s (at * 4))) (at * 4 + 1) (bases_has s (at * 4 + 1))) (at * 4 + 2) p) (at * 4 + 3) (v / 8 % 2 == 1)) k.third
      ∙ ap (λ p. with_bit (with_bit (with_bit (with_bit set (at * 4) (bases_has s (at * 4))) (at * 4 + 1) (bases_has s (at * 4 + 1))) (at * 4 + 2) (bases_has s (at * 4 + 2))) (at * 4 + 3) p) k.fourth

  -- it has these beside what it had
  four_has : (set : Bases) (at n : ℕ) → at < 254 → n < 1016 → bases_has (with_four set at) n ≡ ((bases_has s (at * 4 + 3) && (n == at * 4 + 3)) || ((bases_has s (at * 4 + 2) && (n == at * 4 + 2)) || ((bases_has s (at * 4 + 1) && (n == at * 4 + 1)) || ((bases_has s (at * 4) && (n == at * 4)) || bases_has set n))))
  four_has set at n low h =
      let a = with_bit set (at * 4) (bases_has s (at * 4)) in
      let b = with_bit a (at * 4 + 1) (bases_has s (at * 4 + 1)) in
      let c = with_bit b (at * 4 + 2) (bases_has s (at * 4 + 2)) in
      bit_has c (at * 4 + 3) n (bases_has s (at * 4 + 3)) (omega arith) h
      ∙ ap (λ t. (bases_has s (at * 4 + 3) && (n == at * 4 + 3)) || t)
      (bit_has b (at * 4 + 2) n (bases_has s (at * 4 + 2)) (omega arith) h
      ∙ ap (λ t. (bases_has s (at * 4 + 2) && (n == at * 4 + 2)) || t)
      (bit_has a (at * 4 + 1) n (bases_has s (at * 4 + 1)) (omega arith) h
      ∙ ap (λ t. (bases_has s (at * 4 + 1) && (n == at * 4 + 1)) || t) (bit_has set (at * 4) n (bases_has s (at * 4)) (omega arith) h)))

  -- a set has of these just the bases from a number on
  abbrev HasFrom : Bases → ℕ → Type 0
  HasFrom set from = (n : ℕ) → n < 1016 → bases_has set n ≡ (bases_has s n && nat_le from n)

  or_right : (p q r : Bool) → p ≡ false → q ≡ r → (p || q) ≡ r
  or_right false q r e h = h
  or_right true q r e h = absurd (cc)

  or_left : (p q r : Bool) → p ≡ r → q ≡ false → (p || q) ≡ r
  or_left true q r e h = e
  or_left false q r e h = h ∙ e

  and_off : (p q : Bool) → q ≡ false → (p && q) ≡ false
  and_off true q e = e
  and_off false q e = refl

  and_on : (p q : Bool) → q ≡ true → (p && q) ≡ p
  and_on true q e = e
  and_on false q e = refl

  other : (p : Bool) (m n : ℕ) → n ≢ m → (p && (n == m)) ≡ false
  other p m n f = and_off p (n == m) (let g : (n == m) ≡ false = grind arith in g)

  same_base : (m n : ℕ) → n ≡ m → (bases_has s m && (n == m)) ≡ bases_has s n
  same_base m n e = and_on (bases_has s m) (n == m) (let g : (n == m) ≡ true = grind arith in g) ∙ ap (bases_has s) (sym e)

  below_off : (p : Bool) (m n : ℕ) → n < m → (p && nat_le m n) ≡ false
  below_off p m n h = and_off p (nat_le m n) (let g : nat_le m n ≡ false = grind arith in g)

  above_on : (p : Bool) (m n : ℕ) → m ≤ n → (p && nat_le m n) ≡ p
  above_on p m n h = and_on p (nat_le m n) (let g : nat_le m n ≡ true = grind arith in g)

  four_more : (set : Bases) (at : ℕ) → at < 254 → HasFrom set (suc at * 4) → HasFrom (with_four set at) (at * 4)
  four_more set at low has n h = four_has set at n low h ∙ by_place (cases_lt n (at * 4))
    where
      by_place : (n < at * 4) ⊎ (at * 4 ≤ n) → ((bases_has s (at * 4 + 3) && (n == at * 4 + 3)) || ((bases_has s (at * 4 + 2) && (n == at * 4 + 2)) || ((bases_has s (at * 4 + 1) && (n == at * 4 + 1)) || ((bases_has s (at * 4) && (n == at * 4)) || bases_has set n)))) ≡ (bases_has s n && nat_le (at * 4) n)
      by_place (inl b) =
          or_right _ _ _ (other (bases_has s (at * 4 + 3)) (at * 4 + 3) n (λ e. omega (arith, e, b)))
          (or_right _ _ _ (other (bases_has s (at * 4 + 2)) (at * 4 + 2) n (λ e. omega (arith, e, b)))
          (or_right _ _ _ (other (bases_has s (at * 4 + 1)) (at * 4 + 1) n (λ e. omega (arith, e, b)))
          (or_right _ _ _ (other (bases_has s (at * 4)) (at * 4) n (λ e. omega (arith, e, b)))
          (has n h ∙ below_off (bases_has s n) (suc at * 4) n (omega (arith, b)) ∙ sym (below_off (bases_has s n) (at * 4) n b)))))
      by_place (inr b) = above b (cases_lt n (suc at * 4)) ∙ sym (above_on (bases_has s n) (at * 4) n b)
        where
          set_off : n < suc at * 4 → bases_has set n ≡ false
          set_off l = has n h ∙ below_off (bases_has s n) (suc at * 4) n l

          above : at * 4 ≤ n → (n < suc at * 4) ⊎ (suc at * 4 ≤ n) → ((bases_has s (at * 4 + 3) && (n == at * 4 + 3)) || ((bases_has s (at * 4 + 2) && (n == at * 4 + 2)) || ((bases_has s (at * 4 + 1) && (n == at * 4 + 1)) || ((bases_has s (at * 4) && (n == at * 4)) || bases_has set n)))) ≡ bases_has s n
          above m (inr l) =
              or_right _ _ _ (other (bases_has s (at * 4 + 3)) (at * 4 + 3) n (λ e. omega (arith, e, l)))
              (or_right _ _ _ (other (bases_has s (at * 4 + 2)) (at * 4 + 2) n (λ e. omega (arith, e, l)))
              (or_right _ _ _ (other (bases_has s (at * 4 + 1)) (at * 4 + 1) n (λ e. omega (arith, e, l)))
              (or_right _ _ _ (other (bases_has s (at * 4)) (at * 4) n (λ e. omega (arith, e, l)))
              (has n h ∙ above_on (bases_has s n) (suc at * 4) n l))))
          above m (inl l) = elim (cases_lt n (at * 4 + 1)) [
            | inl x ↦ (let e : n ≡ at * 4 = omega (arith, x, m) in
                or_right _ _ _ (other (bases_has s (at * 4 + 3)) (at * 4 + 3) n (λ f. omega (arith, e, f)))
                (or_right _ _ _ (other (bases_has s (at * 4 + 2)) (at * 4 + 2) n (λ f. omega (arith, e, f)))
                (or_right _ _ _ (other (bases_has s (at * 4 + 1)) (at * 4 + 1) n (λ f. omega (arith, e, f)))
                (or_left _ _ _ (same_base (at * 4) n e) (set_off l)))))
            | inr x ↦ elim (cases_lt n (at * 4 + 2)) [
              | inl y ↦ (let e : n ≡ at * 4 + 1 = omega (arith, x, y) in
                  or_right _ _ _ (other (bases_has s (at * 4 + 3)) (at * 4 + 3) n (λ f. omega (arith, e, f)))
                  (or_right _ _ _ (other (bases_has s (at * 4 + 2)) (at * 4 + 2) n (λ f. omega (arith, e, f)))
                  (or_left _ _ _ (same_base (at * 4 + 1) n e) (or_right _ _ _ (other (bases_has s (at * 4)) (at * 4) n (λ f. omega (arith, e, f))) (set_off l)))))
              | inr y ↦ elim (cases_lt n (at * 4 + 3)) [
                | inl z ↦ (let e : n ≡ at * 4 + 2 = omega (arith, y, z) in
                    or_right _ _ _ (other (bases_has s (at * 4 + 3)) (at * 4 + 3) n (λ f. omega (arith, e, f)))
                    (or_left _ _ _ (same_base (at * 4 + 2) n e)
                    (or_right _ _ _ (other (bases_has s (at * 4 + 1)) (at * 4 + 1) n (λ f. omega (arith, e, f))) (or_right _ _ _ (other (bases_has s (at * 4)) (at * 4) n (λ f. omega (arith, e, f))) (set_off l)))))
                | inr z ↦ (let e : n ≡ at * 4 + 3 = omega (arith, z, l) in
                    or_left _ _ _ (same_base (at * 4 + 3) n e)
                    (or_right _ _ _ (other (bases_has s (at * 4 + 2)) (at * 4 + 2) n (λ f. omega (arith, e, f)))
                    (or_right _ _ _ (other (bases_has s (at * 4 + 1)) (at * 4 + 1) n (λ f. omega (arith, e, f))) (or_right _ _ _ (other (bases_has s (at * 4)) (at * 4) n (λ f. omega (arith, e, f))) (set_off l)))))
              ]
            ]
          ]

  -- ---- all digits

  four_few : (set : Bases) (at : ℕ) → at < 254 → AreFew set → AreFew (with_four set at)
  four_few set at low few =
      bit_few _ (at * 4 + 3) (bases_has s (at * 4 + 3)) (bit_few _ (at * 4 + 2) (bases_has s (at * 4 + 2)) (bit_few _ (at * 4 + 1) (bases_has s (at * 4 + 1)) (bit_few set (at * 4) (bases_has s (at * 4)) few (omega arith)) (omega arith)) (omega arith)) (omega arith)

  length-digits : (at : ℕ) → length (digits_below s at) ≡ at
  length-digits zero = refl
  length-digits (suc at) = let e = length-digits at in omega arith

  record IsReadInto (set : Bases) : Type 0 where
    few : AreFew set
    has : (n : ℕ) → n < 1016 → bases_has set n ≡ bases_has s n

  digits_read : (at : ℕ) (set : Bases) → at ≤ 254 → AreFew set → HasFrom set (at * 4) → IsReadInto (bases_from set (digits_below s at))
  digits_read zero set h few has = record { few = few; has = λ n l. has n l ∙ above_on (bases_has s n) 0 n (omega arith) }
  digits_read (suc at) set h few has =
      let low : at < 254 = omega arith in
      let place : with_nibble set (length (digits_below s at)) (hex_value (hex_digit (nibble s at))) ≡ with_four set at = ap (λ m. with_nibble set m (hex_value (hex_digit (nibble s at)))) (length-digits at) ∙ digit_read set at low in
      subst (λ z. IsReadInto (bases_from z (digits_below s at))) (sym place) (digits_read at (with_four set at) (omega arith) (four_few set at low few) (four_more set at low has))

  -- no base is beyond the digits that are used
  abbrev NoneFrom : ℕ → Type 0
  NoneFrom from = (n : ℕ) → n < 1016 → from ≤ n → bases_has s n ≡ false

  none_four : (a b c e : Bool) → (a || (b || (c || e))) ≡ false → (a ≡ false) × ((b ≡ false) × ((c ≡ false) × (e ≡ false)))
  none_four false false false false h = (refl, (refl, (refl, refl)))
  none_four true b c e h = absurd (cc)
  none_four false true c e h = absurd (cc)
  none_four false false true e h = absurd (cc)
  none_four false false false true h = absurd (cc)

  used_step : (at : ℕ) (t : Bool) → (nibble s at == 0) ≡ t → at < 254 → NoneFrom (suc at * 4) → (NoneFrom (at * 4) → NoneFrom (used_below s at * 4) × (used_below s at ≤ at)) → NoneFrom (cond t (used_below s at) (suc at) * 4) × (cond t (used_below s at) (suc at) ≤ suc at)
  used_step at false e low none more = (none, omega arith)
  used_step at true e low none more =
      let zero_digit : told (bases_has s (at * 4)) (bases_has s (at * 4 + 1)) (bases_has s (at * 4 + 2)) (bases_has s (at * 4 + 3)) ≡ 0 = sym (nibble_is at) ∙ eqb-true (nibble s at) 0 e in
      let off : (bases_has s (at * 4) ≡ false) × ((bases_has s (at * 4 + 1) ≡ false) × ((bases_has s (at * 4 + 2) ≡ false) × (bases_has s (at * 4 + 3) ≡ false))) = none_four _ _ _ _ ((digit_at at).none zero_digit) in
      let here : NoneFrom (at * 4) = λ n h from. elim (cases_lt n (suc at * 4)) [
        | inr b ↦ none n h b
        | inl b ↦ elim (cases_lt n (at * 4 + 1)) [
          | inl x ↦ (let f : at * 4 ≡ n = omega (arith, x, from) in subst (λ m. bases_has s m ≡ false) f off.0)
          | inr x ↦ elim (cases_lt n (at * 4 + 2)) [
            | inl y ↦ (let f : at * 4 + 1 ≡ n = omega (arith, x, y) in subst (λ m. bases_has s m ≡ false) f off.1.0)
            | inr y ↦ elim (cases_lt n (at * 4 + 3)) [
              | inl z ↦ (let f : at * 4 + 2 ≡ n = omega (arith, y, z) in subst (λ m. bases_has s m ≡ false) f off.1.1.0)
              | inr z ↦ (let f : at * 4 + 3 ≡ n = omega (arith, z, b) in subst (λ m. bases_has s m ≡ false) f off.1.1.1)
            ]
          ]
        ]
      ] in
      let k = more here in
      let few = k.1 in
      (k.0, omega (arith, few))

  used_all : (at : ℕ) → at ≤ 254 → NoneFrom (at * 4) → NoneFrom (used_below s at * 4) × (used_below s at ≤ at)
  unfolding used_below
  used_all zero h none = (none, omega arith)
  used_all (suc at) h none = used_step at (nibble s at == 0) refl (omega arith) none (λ n. used_all at (omega arith) n)

  none_has : (n : ℕ) → bases_has no_base n ≡ false
  none_has n = grind arith

  starts : (from : ℕ) → NoneFrom from → HasFrom no_base from
  starts from none n h = none_has n ∙ elim (cases_lt n from) [
    | inl b ↦ sym (below_off (bases_has s n) from n b)
    | inr b ↦ sym (above_on (bases_has s n) from n b ∙ none n h b)
  ]

  pub empty_is : bases_empty s ≡ true → s ≡ no_base
  empty_is h =
      let a = and_parts (s.word0 == 0) _ h in
      let b = and_parts (s.word1 == 0) _ a.1 in
      let c = and_parts (s.word2 == 0) _ b.1 in
      let d = and_parts (s.word3 == 0) _ c.1 in
      let e = and_parts (s.word4 == 0) _ d.1 in
      let f = and_parts (s.word5 == 0) _ e.1 in
      let g = and_parts (s.word6 == 0) (s.word7 == 0) f.1 in
      let w0 = eqb-true s.word0 0 a.0 in
      let w1 = eqb-true s.word1 0 b.0 in
      let w2 = eqb-true s.word2 0 c.0 in
      let w3 = eqb-true s.word3 0 d.0 in
      let w4 = eqb-true s.word4 0 e.0 in
      let w5 = eqb-true s.word5 0 f.0 in
      let w6 = eqb-true s.word6 0 g.0 in
      let w7 = eqb-true s.word7 0 g.1 in
      λ i. record { word0 = w0 i; word1 = w1 i; word2 = w2 i; word3 = w3 i; word4 = w4 i; word5 = w5 i; word6 = w6 i; word7 = w7 i }

  zero_read : bases_of (codes "0") ≡ no_base
  unfolding with_digit with_bit
  zero_read = refl

  by_empty : (t : Bool) → bases_empty s ≡ t → AreFew s → bases_of (cond t (codes "0") (digits_below s (used_below s 254))) ≡ s
  by_empty true e few = zero_read ∙ sym (empty_is e)
  by_empty false e few =
      let used = used_all 254 (omega arith) (λ n h from. absurd (omega (arith, h, from))) in
      let r = digits_read (used_below s 254) no_base used.1 none_few (starts (used_below s 254 * 4) used.0) in
      same_sets (bases_from no_base (digits_below s (used_below s 254))) s r.few few r.has

  -- a set of bases below 1,016 is read back
  pub bases_back : AreFew s → bases_of (bases_text s) ≡ s
  unfolding bases_text
  bases_back few = by_empty (bases_empty s) refl few

  digits_free : (at : ℕ) → IsFreeOf 32 (digits_below s at) × IsFreeOf 10 (digits_below s at)
  digits_free zero = (tt, tt)
  digits_free (suc at) =
      let k = digit_at at in
      let more = digits_free at in
      ((ap (λ x. hex_digit x == 32) (nibble_is at) ∙ k.no_blank, more.0), (ap (λ x. hex_digit x == 10) (nibble_is at) ∙ k.no_end, more.1))

  free_if : (t : Bool) → IsFreeOf 32 (cond t (codes "0") (digits_below s (used_below s 254))) × IsFreeOf 10 (cond t (codes "0") (digits_below s (used_below s 254)))
  free_if true = ((refl, tt), (refl, tt))
  free_if false = digits_free (used_below s 254)

  pub bases_free : IsFreeOf 32 (bases_text s) × IsFreeOf 10 (bases_text s)
  unfolding bases_text
  bases_free = free_if (bases_empty s)
