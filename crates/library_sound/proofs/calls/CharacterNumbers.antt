-- What the functions on characters give is stood for.
use Rattle.std.proofs.Common.{◌≡◌, ℕ, ◌-◌, ◌%◌, ◌^◌, ◌<◌, Bool, true, false, cond, not, ◌&&◌, ◌||◌, Some, None, arith, subst, sym, refl, ap, ◌∙◌, inl, inr}
use Rattle.std.specs.Prelude.{ℤ, pos, negsuc, ◌+ℤ◌, ◌-ℤ◌, ◌≤ℤ◌, int_le, int_lt, unsigned_abs}
use Rattle.std.specs.Ordering.{int_eq}
use Rattle.std.specs.Int.{w128, saturate_signed, int_min, int_max, int_rem_euclid}
use Rattle.std.proofs.lemmas.Int.{ints, clamps}
use Rattle.std.proofs.lemmas.Bool.{cases_Bool, and_parts, true≢false}
use Rattle.std.proofs.lemmas.Bool.Decides.{Decides-int_eq}
use Rattle.std.proofs.lemmas.Option.{same_Some}
use Rattle.cc_base.specs.Lattices.{LatticeOf, OrderLaws}
use Rattle.cc_base.specs.IntegerDomains.{IntegersOf, BoundLaws, between_or_least}
use Rattle.cc_base.specs.NumberRanges.{Range, range_met}
use Rattle.c_layout.specs.declared.library_functions.LibFn.{LibFn}
use Rattle.c_layout.specs.declared.library_functions.LibFn.TheVariants as f
use Rattle.transfer_checks.specs.IntegerChecks.{is_no_character}
use Rattle.transfer_library_plans.specs.Characters as abstract
use Rattle.c_layout.specs.CharacterClasses as classes
use Rattle.domain_theorems.proofs.values.Numbers.{RangeHas, met_has}

-- ---- tests of numbers

le_true : (a b : ℤ) → int_le a b ≡ true → a ≤ℤ b
le_true a b h = grind (arith, ints)

eq_true : (a b : ℤ) → int_eq a b ≡ true → a ≡ b
eq_true a b h = (Decides-int_eq a b).0 h

-- a number between two that are the same
between_same : (a b c : ℤ) → int_eq a b ≡ true → a ≤ℤ c → c ≤ℤ b → c ≡ a
between_same a b c h p q = let e = eq_true a b h in omega (arith, ints)

-- ---- letters

lower_is : (c : ℤ) → classes.is_lower c ≡ true → (pos 97 ≤ℤ c) × (c ≤ℤ pos 122)
lower_is c h = let p = and_parts (int_le (pos 97) c) (int_le c (pos 122)) h in (le_true (pos 97) c p.0, le_true c (pos 122) p.1)

upper_is : (c : ℤ) → classes.is_upper c ≡ true → (pos 65 ≤ℤ c) × (c ≤ℤ pos 90)
upper_is c h = let p = and_parts (int_le (pos 65) c) (int_le c (pos 90)) h in (le_true (pos 65) c p.0, le_true c (pos 90) p.1)

-- where no letter of the range is met there is none
none_met : (lo hi from to c : ℤ) → abstract.meets lo hi from to ≡ false → lo ≤ℤ c → c ≤ℤ hi → from ≤ℤ c → c ≤ℤ to → ⊥
none_met lo hi from to c h p q u v = grind (arith, ints)

saturate_is : (x : ℤ) → negsuc 999 ≤ℤ x → x ≤ℤ pos 999 → saturate_signed w128 x ≡ x
saturate_is (pos k) h g = omega (arith, ints)
saturate_is (negsuc k) h g = omega (arith, ints)

small_sum : (c : ℤ) → pos 65 ≤ℤ c → c ≤ℤ pos 90 → abstract.sum_of c (pos 32) ≡ (c +ℤ pos 32)
small_sum c h g = saturate_is (c +ℤ pos 32) (omega (arith, ints)) (omega (arith, ints))

small_difference : (c : ℤ) → pos 97 ≤ℤ c → c ≤ℤ pos 122 → abstract.difference_of c (pos 32) ≡ (c -ℤ pos 32)
small_difference c h g = saturate_is (c -ℤ pos 32) (omega (arith, ints)) (omega (arith, ints))

module _ {I : Type 0} {l : LatticeOf I} {n : IntegersOf I} {gamma : I → ℤ → Type 0} (o : OrderLaws l) (q : BoundLaws l n gamma) where
  between_or : (a b z : ℤ) → a ≤ℤ z → z ≤ℤ b → gamma (between_or_least l n a b) z
  between_or a b z h k = elim (cases_Bool (int_le a b)) [
    | inl e ↦ rw e (q.larger (n.one z) (n.between a b) z (q.below_between (n.one z) z z a b (q.one_bounds z) h k) (q.one_stands z))
    | inr e ↦ absurd (grind (arith, ints))
  ]

  pub number_between : (a b z : ℤ) → a ≤ℤ z → z ≤ℤ b → gamma (between_or_least l n a b) z
  number_between a b z h k = between_or a b z h k

  truth_number : (b : Bool) → gamma (between_or_least l n (pos 0) (pos 1)) (cond b (pos 1) (pos 0))
  truth_number true = between_or (pos 0) (pos 1) (pos 1) (omega (arith, ints)) (omega (arith, ints))
  truth_number false = between_or (pos 0) (pos 1) (pos 0) (omega (arith, ints)) (omega (arith, ints))

  one_truth : (b : Bool) → gamma (cond b (n.one (pos 1)) (n.one (pos 0))) (cond b (pos 1) (pos 0))
  one_truth true = q.one_stands (pos 1)
  one_truth false = q.one_stands (pos 0)

  -- a test of a character
  pub tested : (function : LibFn) (lo hi c : ℤ) → lo ≤ℤ c → c ≤ℤ hi → gamma (abstract.tested_number l n function lo hi) (cond (classes.has_class function c) (pos 1) (pos 0))
  tested function lo hi c h k = elim (cases_Bool (int_eq lo hi)) [
    | inl e ↦ rw e (subst (λ z. gamma (cond (classes.has_class function lo) (n.one (pos 1)) (n.one (pos 0))) (cond (classes.has_class function z) (pos 1) (pos 0))) (sym (between_same lo hi c e h k)) (one_truth (classes.has_class function lo)))
    | inr e ↦ rw e (truth_number (classes.has_class function c))
  ]

  -- ---- letters of the other case

  choose : (a b : Bool) (x y z : I) (c : ℤ) → (a ≡ true → gamma x c) → (a ≡ false → b ≡ true → gamma y c) → (a ≡ false → b ≡ false → gamma z c) → gamma (cond a x (cond b y z)) c
  choose true b x y z c f g h = f refl
  choose false true x y z c f g h = g refl refl
  choose false false x y z c f g h = h refl refl

  by_letter : (b : Bool) (x : I) (c d : ℤ) → (b ≡ true → gamma x c) → (b ≡ false → gamma x d) → gamma x (cond b c d)
  by_letter true x c d f g = f refl
  by_letter false x c d f g = g refl

  not_both : (a b : Bool) → (a && b) ≡ false → a ≡ true → b ≡ false
  not_both true b h e = h
  not_both false b h e = cc

  -- where one letter alone would be turned, or one is met, or none
  none_turned : (is_letter : ℤ → Bool) (lo hi from to c : ℤ) → (int_eq lo hi && is_letter lo) ≡ false → (not (int_eq lo hi) && abstract.meets lo hi from to) ≡ false → lo ≤ℤ c → c ≤ℤ hi → (is_letter c ≡ true → (from ≤ℤ c) × (c ≤ℤ to)) → is_letter c ≡ true → ⊥
  none_turned is_letter lo hi from to c h g p k within e = elim (cases_Bool (int_eq lo hi)) [
    | inl same ↦ true≢false (sym (subst (λ z. is_letter z ≡ true) (between_same lo hi c same p k) e) ∙ not_both (int_eq lo hi) (is_letter lo) h same)
    | inr other ↦ (let w = within e in none_met lo hi from to c (not_both (not (int_eq lo hi)) (abstract.meets lo hi from to) g (ap not other)) p k w.0 w.1)
  ]

  -- `toupper`
  pub raised : (lo hi c : ℤ) → negsuc 0 ≤ℤ lo → hi ≤ℤ pos 255 → lo ≤ℤ c → c ≤ℤ hi → gamma (abstract.raised l n lo hi) (cond (classes.is_lower c) (c -ℤ pos 32) c)
  raised lo hi c a b p k = choose (int_eq lo hi && classes.is_lower lo) (not (int_eq lo hi) && abstract.meets lo hi (pos 97) (pos 122)) _ _ _ (cond (classes.is_lower c) (c -ℤ pos 32) c)
      (λ h. let t = and_parts (int_eq lo hi) (classes.is_lower lo) h in
      let same = between_same lo hi c t.0 p k in
      let w = lower_is lo t.1 in
      let w0 = w.0 in
      let w1 = w.1 in
      let d = small_difference lo w0 w1 in
      by_letter (classes.is_lower c) _ (c -ℤ pos 32) c (λ e. between_or (abstract.difference_of lo (pos 32)) (abstract.difference_of lo (pos 32)) (c -ℤ pos 32) (omega (arith, ints)) (omega (arith, ints)))
      (λ e. absurd (true≢false (sym (subst (λ z. classes.is_lower z ≡ true) (sym same) t.1) ∙ e))))
      (λ h g. by_letter (classes.is_lower c) _ (c -ℤ pos 32) c (λ e. let w = lower_is c e in let w0 = w.0 in between_or (int_min lo (pos 65)) hi (c -ℤ pos 32) (omega (arith, ints, clamps)) (omega (arith, ints)))
      (λ e. between_or (int_min lo (pos 65)) hi c (omega (arith, ints, clamps)) k))
      (λ h g. by_letter (classes.is_lower c) _ (c -ℤ pos 32) c (λ e. absurd (none_turned classes.is_lower lo hi (pos 97) (pos 122) c h g p k (lower_is c) e)) (λ e. between_or lo hi c p k))

  -- `tolower`
  pub lowered : (lo hi c : ℤ) → negsuc 0 ≤ℤ lo → hi ≤ℤ pos 255 → lo ≤ℤ c → c ≤ℤ hi → gamma (abstract.lowered l n lo hi) (cond (classes.is_upper c) (c +ℤ pos 32) c)
  lowered lo hi c a b p k = choose (int_eq lo hi && classes.is_upper lo) (not (int_eq lo hi) && abstract.meets lo hi (pos 65) (pos 90)) _ _ _ (cond (classes.is_upper c) (c +ℤ pos 32) c)
      (λ h. let t = and_parts (int_eq lo hi) (classes.is_upper lo) h in
      let same = between_same lo hi c t.0 p k in
      let w = upper_is lo t.1 in
      let w0 = w.0 in
      let w1 = w.1 in
      let d = small_sum lo w0 w1 in
      by_letter (classes.is_upper c) _ (c +ℤ pos 32) c (λ e. between_or (abstract.sum_of lo (pos 32)) (abstract.sum_of lo (pos 32)) (c +ℤ pos 32) (omega (arith, ints)) (omega (arith, ints)))
      (λ e. absurd (true≢false (sym (subst (λ z. classes.is_upper z ≡ true) (sym same) t.1) ∙ e))))
      (λ h g. by_letter (classes.is_upper c) _ (c +ℤ pos 32) c (λ e. let w = upper_is c e in let w1 = w.1 in between_or lo (int_max hi (pos 122)) (c +ℤ pos 32) (omega (arith, ints)) (omega (arith, ints, clamps)))
      (λ e. between_or lo (int_max hi (pos 122)) c p (omega (arith, ints, clamps))))
      (λ h g. by_letter (classes.is_upper c) _ (c +ℤ pos 32) c (λ e. absurd (none_turned classes.is_upper lo hi (pos 65) (pos 90) c h g p k (upper_is c) e)) (λ e. between_or lo hi c p k))

-- ---- numbers of characters

-- a number outside of -1 to 255 is told
pub outside_told : (r : Range) (c : ℤ) → RangeHas r c → classes.lies_in (negsuc 0) (pos 255) c ≡ false → is_no_character r ≡ true
outside_told None c h e = absurd h
outside_told (Some p) c h e = let h0 = h.0 in let h1 = h.1 in grind (arith, ints)

pub inside_is : (c : ℤ) → classes.lies_in (negsuc 0) (pos 255) c ≡ true → (negsuc 0 ≤ℤ c) × (c ≤ℤ pos 255)
inside_is c h = let p = and_parts (int_le (negsuc 0) c) (int_le c (pos 255)) h in (le_true (negsuc 0) c p.0, le_true c (pos 255) p.1)

-- the part of a range that characters are in
pub record IsMet (r : Range) (c : ℤ) : Type 0 where
  pub lo : ℤ
  pub hi : ℤ
  pub is : range_met r (negsuc 0) (pos 255) ≡ Some (lo, hi)
  pub first : negsuc 0 ≤ℤ lo
  pub last : hi ≤ℤ pos 255
  pub above : lo ≤ℤ c
  pub below : c ≤ℤ hi

met_ends : (r : Range) (m : Range) (c : ℤ) → range_met r (negsuc 0) (pos 255) ≡ m → RangeHas m c → IsMet r c
met_ends None m c e h = absurd (subst (λ z. RangeHas z c) (sym e) h)
met_ends (Some p) None c e h = absurd h
met_ends (Some p) (Some m) c e h =
    let w = ends p m e in
    record { lo = m.0; hi = m.1; is = e; first = w.0; last = w.1; above = h.0; below = h.1 }
  where
    ends : (p m : ℤ × ℤ) → range_met (Some p) (negsuc 0) (pos 255) ≡ Some m → (negsuc 0 ≤ℤ m.0) × (m.1 ≤ℤ pos 255)
    ends p m e = elim (cases_Bool (int_le (int_max p.0 (negsuc 0)) (int_min p.1 (pos 255)))) [
      | inr f ↦ (let g : ◌≡◌ {A = Range} None (Some m) = rw f at e in cc)
      | inl f ↦ (let g : Some (int_max p.0 (negsuc 0), int_min p.1 (pos 255)) ≡ Some m = rw f at e in
          let d = same_Some (int_max p.0 (negsuc 0), int_min p.1 (pos 255)) m g in
          let a : int_max p.0 (negsuc 0) ≡ m.0 = ap (λ z. z.0) d in
          let b : int_min p.1 (pos 255) ≡ m.1 = ap (λ z. z.1) d in
          (omega (arith, ints, clamps), omega (arith, ints, clamps)))
    ]

pub met_is : (r : Range) (c : ℤ) → RangeHas r c → (negsuc 0 ≤ℤ c) → (c ≤ℤ pos 255) → IsMet r c
met_is r c h a b = met_ends r (range_met r (negsuc 0) (pos 255)) c refl (met_has r (negsuc 0) (pos 255) c h a b)
