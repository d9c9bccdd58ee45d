-- Equality of pointer parts has each truth value that pointers give.
use Rattle.std.specs.Prelude.{◌≡◌, ℕ, ◌/◌, ◌%◌, ℤ, ◌≤ℤ◌, Bool, true, false, cond, not, ◌&&◌, ◌||◌, ◌==◌, int_le, bit_and, Some, None, refl}
use Rattle.std.specs.Int.{bit_at}
use Rattle.std.specs.Ordering.{int_eq}
use Rattle.std.proofs.Common.{arith, ap, sym, ◌∙◌, inl, inr}
use Rattle.std.proofs.lemmas.Int.{ints}
use Rattle.std.proofs.lemmas.Nat.Bits.{bit_at_and, bit_at-zero}
use Rattle.std.proofs.lemmas.Bool.{and_parts, and_from, cases_Bool, eqb-true, not_from_false}
use Rattle.std.proofs.lemmas.Bool.Decides.{Decides-int_eq}
use Rattle.cc_base.specs.Lattices.{LatticeOf}
use Rattle.cc_base.specs.IntegerDomains.{IntegersOf, BoundLaws}
use Rattle.cc_base.specs.NumberRanges.{Range, ranges_meet, ranges_same_one}
use Rattle.cc_base.specs.Truths.{tri_of, can_hold, can_fail}
use Rattle.cc_base.specs.declared.integer_operators.Tri.TheVariants.{Never}
use Rattle.pointer_domain.specs.BaseSets.{no_base, word_of, word_meets, bases_has, bases_meet, bases_empty, bases_count, bases_within}
use Rattle.pointer_domain.specs.BaseFacts.{within_has}
use Rattle.pointer_domain.specs.PointerTables.{offsets, is_any, is_only_null, can_equal, same_one_base, must_equal, can_differ, pointers_equal}
use Rattle.pointer_domain.specs.declared.base_sets.Bases.{Bases}
use Rattle.pointer_domain.specs.declared.pointer_sets.Pointers.{Pointers}
use Rattle.domain_theorems.specs.Values.Meaning.{IsInto}
use Rattle.domain_theorems.specs.Values.EqualityMeaning.{EqualityMeaning}
use Rattle.domain_theorems.specs.Values.BaseMeaning.{IsBase}
use Rattle.domain_theorems.proofs.values.Flags.{or_left, or_right, holds_of, fails_of}
use Rattle.domain_theorems.proofs.values.Bases.{sets_meet, empty_within}
use Rattle.domain_theorems.proofs.values.Renames.{word_in}
use Rattle.domain_theorems.proofs.values.BaseChanges.{only_base}
use Rattle.domain_theorems.proofs.values.Numbers.{RangeHas}
use Rattle.domain_theorems.proofs.values.PointerStands.{offsets_have}

-- ---- a common base

meets_at : (a b k : ℕ) → bit_at a k ≡ 1 → bit_at b k ≡ 1 → word_meets a b ≡ true
meets_at a b k h j = elim (cases_Bool (bit_and a b == 0)) [
  | inl e ↦ (let f : bit_at (bit_and a b) k ≡ bit_at 0 k = ap (λ z. bit_at z k) (eqb-true (bit_and a b) 0 e) in
      let g = bit_at_and a b k in
      let z = bit_at-zero k in
      absurd (omega arith))
  | inr e ↦ not_from_false (bit_and a b == 0) e
]

-- a common base among the words from one on
abbrev meet7 : Bases → Bases → Bool
meet7 s t = word_meets s.word7 t.word7

abbrev meet6 : Bases → Bases → Bool
meet6 s t = word_meets s.word6 t.word6 || meet7 s t

abbrev meet5 : Bases → Bases → Bool
meet5 s t = word_meets s.word5 t.word5 || meet6 s t

abbrev meet4 : Bases → Bases → Bool
meet4 s t = word_meets s.word4 t.word4 || meet5 s t

abbrev meet3 : Bases → Bases → Bool
meet3 s t = word_meets s.word3 t.word3 || meet4 s t

abbrev meet2 : Bases → Bases → Bool
meet2 s t = word_meets s.word2 t.word2 || meet3 s t

abbrev meet1 : Bases → Bases → Bool
meet1 s t = word_meets s.word1 t.word1 || meet2 s t

meets_in : (a b c d e f g : Bool) (s t : Bases) → word_meets (word_in a b c d e f g s) (word_in a b c d e f g t) ≡ true → bases_meet s t ≡ true
meets_in true b c d e f g s t h = or_left (word_meets s.word0 t.word0) (meet1 s t) h
meets_in false true c d e f g s t h = or_right (word_meets s.word0 t.word0) (meet1 s t) (or_left (word_meets s.word1 t.word1) (meet2 s t) h)
meets_in false false true d e f g s t h = or_right (word_meets s.word0 t.word0) (meet1 s t) (or_right (word_meets s.word1 t.word1) (meet2 s t) (or_left (word_meets s.word2 t.word2) (meet3 s t) h))
meets_in false false false true e f g s t h = or_right (word_meets s.word0 t.word0) (meet1 s t) (or_right (word_meets s.word1 t.word1) (meet2 s t) (or_right (word_meets s.word2 t.word2) (meet3 s t) (or_left (word_meets s.word3 t.word3) (meet4 s t) h)))
meets_in false false false false true f g s t h = or_right (word_meets s.word0 t.word0) (meet1 s t) (or_right (word_meets s.word1 t.word1) (meet2 s t) (or_right (word_meets s.word2 t.word2) (meet3 s t) (or_right (word_meets s.word3 t.word3) (meet4 s t) (or_left (word_meets s.word4 t.word4) (meet5 s t) h))))
meets_in false false false false false true g s t h = or_right (word_meets s.word0 t.word0) (meet1 s t) (or_right (word_meets s.word1 t.word1) (meet2 s t) (or_right (word_meets s.word2 t.word2) (meet3 s t) (or_right (word_meets s.word3 t.word3) (meet4 s t) (or_right (word_meets s.word4 t.word4) (meet5 s t) (or_left (word_meets s.word5 t.word5) (meet6 s t) h)))))
meets_in false false false false false false true s t h = or_right (word_meets s.word0 t.word0) (meet1 s t) (or_right (word_meets s.word1 t.word1) (meet2 s t) (or_right (word_meets s.word2 t.word2) (meet3 s t) (or_right (word_meets s.word3 t.word3) (meet4 s t) (or_right (word_meets s.word4 t.word4) (meet5 s t) (or_right (word_meets s.word5 t.word5) (meet6 s t) (or_left (word_meets s.word6 t.word6) (meet7 s t) h))))))
meets_in false false false false false false false s t h = or_right (word_meets s.word0 t.word0) (meet1 s t) (or_right (word_meets s.word1 t.word1) (meet2 s t) (or_right (word_meets s.word2 t.word2) (meet3 s t) (or_right (word_meets s.word3 t.word3) (meet4 s t) (or_right (word_meets s.word4 t.word4) (meet5 s t) (or_right (word_meets s.word5 t.word5) (meet6 s t) (or_right (word_meets s.word6 t.word6) (meet7 s t) h))))))

pub common_base : (s t : Bases) (n : ℕ) → bases_has s n ≡ true → bases_has t n ≡ true → bases_meet s t ≡ true
common_base s t n h k =
    let i = n / 128 in
    meets_in (i == 0) (i == 1) (i == 2) (i == 3) (i == 4) (i == 5) (i == 6) s t
    (meets_at (word_of s (n / 128)) (word_of t (n / 128)) (n % 128) (eqb-true (bit_at (word_of s (n / 128)) (n % 128)) 1 h) (eqb-true (bit_at (word_of t (n / 128)) (n % 128)) 1 k))

pub has_some : (s : Bases) (n : ℕ) → bases_has s n ≡ true → bases_empty s ≡ false
has_some s n h = elim (cases_Bool (bases_empty s)) [
  | inl e ↦ (let w = empty_within s no_base e in let m : bases_meet no_base no_base ≡ true = sets_meet s s no_base no_base w w (common_base s s n h h) in let f : false ≡ true = m in cc)
  | inr e ↦ e
]

-- ---- offsets

meet_has : (x y : Range) (z : ℤ) → RangeHas x z → RangeHas y z → ranges_meet x y ≡ true
meet_has None y z h k = absurd h
meet_has (Some p) None z h k = absurd k
meet_has (Some p) (Some q) z h k = let h0 = h.0 in let h1 = h.1 in let k0 = k.0 in let k1 = k.1 in and_from (int_le p.0 q.1) (int_le q.0 p.1) (grind (arith, ints)) (grind (arith, ints))

same_int : (a b c d x y : ℤ) → a ≡ b → c ≡ d → a ≡ c → a ≤ℤ x → x ≤ℤ b → c ≤ℤ y → y ≤ℤ d → x ≡ y
same_int a b c d x y e f g h i j k = omega (arith, ints)

same_one_has : (x y : Range) (a b : ℤ) → RangeHas x a → RangeHas y b → ranges_same_one x y ≡ true → a ≡ b
same_one_has None y a b h k e = absurd h
same_one_has (Some p) None a b h k e = absurd k
same_one_has (Some p) (Some q) a b h k e =
    let f = and_parts (int_eq p.0 p.1) (int_eq q.0 q.1 && int_eq p.0 q.0) e in
    let g = and_parts (int_eq q.0 q.1) (int_eq p.0 q.0) f.1 in
    same_int p.0 p.1 q.0 q.1 a b ((Decides-int_eq p.0 p.1).0 f.0) ((Decides-int_eq q.0 q.1).0 g.0) ((Decides-int_eq p.0 q.0).0 g.1) h.0 h.1 k.0 k.1

-- ---- truth values

there_holds : (s a c : Bool) → s ≡ true → a ≡ true → can_hold (cond s (tri_of a c) Never) ≡ true
there_holds true a c h k = holds_of a c k
there_holds false a c h k = cc

there_fails : (s a c : Bool) → s ≡ true → c ≡ true → can_fail (cond s (tri_of a c) Never) ≡ true
there_fails true a c h k = fails_of a c k
there_fails false a c h k = cc

not_both : (a b : Bool) → (a ≡ true → b ≡ true → ⊥) → not (a && b) ≡ true
not_both true true f = absurd (f refl refl)
not_both true false f = refl
not_both false b f = refl

not_one : (a : Bool) → (a ≡ true → ⊥) → not a ≡ true
not_one true f = absurd (f refl)
not_one false f = refl

not_of : (a : Bool) → not a ≡ true → a ≡ true → ⊥
not_of true h e = cc
not_of false h e = cc

module _ {I : Type 0} {l : LatticeOf I} {n : IntegersOf I} {stands : I → ℤ → Type 0} (b : BoundLaws l n stands) where
  into_any : (p : Pointers I) (base : ℕ) (low offset high : ℤ) → IsInto stands p base low offset high → is_any p ≡ true
  into_any p base low offset high h = or_left (not (bases_empty p.bases)) p.null (not_from_false (bases_empty p.bases) (has_some p.bases base h.among))

  null_any : (p : Pointers I) → p.null ≡ true → is_any p ≡ true
  null_any p h = or_right (not (bases_empty p.bases)) p.null h

  into_not_only : (p : Pointers I) (base : ℕ) (low offset high : ℤ) → IsInto stands p base low offset high → is_only_null p ≡ true → ⊥
  into_not_only p base low offset high h e =
      let a = and_parts (bases_empty p.bases) p.null e in
      let f = has_some p.bases base h.among in
      let g : true ≡ false = sym a.0 ∙ f in
      cc

  not_must : (p q : Pointers I) (single : Bases) → (not (p.null || q.null) ≡ true → ranges_same_one (offsets n p) (offsets n q) ≡ true → ⊥) → must_equal n p q single ≡ true → ⊥
  not_must p q single f e =
      let a = and_parts (same_one_base p q single) (not (p.null || q.null) && ranges_same_one (offsets n p) (offsets n q)) e in
      let c = and_parts (not (p.null || q.null)) (ranges_same_one (offsets n p) (offsets n q)) a.1 in
      f c.0 c.1

  fails_by : (p q : Pointers I) (single : Bases) → is_any p ≡ true → is_any q ≡ true → (is_only_null p ≡ true → is_only_null q ≡ true → ⊥) → (not (p.null || q.null) ≡ true → ranges_same_one (offsets n p) (offsets n q) ≡ true → ⊥) → can_fail (pointers_equal n p q single) ≡ true
  fails_by p q single x y f g = there_fails (is_any p && is_any q) (can_equal n p q) (can_differ n p q single) (and_from (is_any p) (is_any q) x y)
      (and_from (not (is_only_null p && is_only_null q)) (not (must_equal n p q single)) (not_both (is_only_null p) (is_only_null q) f) (not_one (must_equal n p q single) (not_must p q single g)))

  holds_by : (p q : Pointers I) (single : Bases) → is_any p ≡ true → is_any q ≡ true → can_equal n p q ≡ true → can_hold (pointers_equal n p q single) ≡ true
  holds_by p q single x y e = there_holds (is_any p && is_any q) (can_equal n p q) (can_differ n p q single) (and_from (is_any p) (is_any q) x y) e

  same_holds : (p q : Pointers I) (single : Bases) (base : ℕ) (low offset high least most : ℤ) → IsInto stands p base low offset high → IsInto stands q base least offset most → can_hold (pointers_equal n p q single) ≡ true
  same_holds p q single base low offset high least most h k = holds_by p q single (into_any p base low offset high h) (into_any q base least offset most k)
      (or_right (p.null && q.null) (bases_meet p.bases q.bases && ranges_meet (offsets n p) (offsets n q))
      (and_from (bases_meet p.bases q.bases) (ranges_meet (offsets n p) (offsets n q)) (common_base p.bases q.bases base h.among k.among)
      (meet_has (offsets n p) (offsets n q) offset (offsets_have b p base low offset high h) (offsets_have b q base least offset most k))))

  apart_fails : (p q : Pointers I) (single : Bases) (base other : ℕ) (low offset high least place most : ℤ) → IsInto stands p base low offset high → IsInto stands q other least place most → (offset ≡ place → ⊥) → can_fail (pointers_equal n p q single) ≡ true
  apart_fails p q single base other low offset high least place most h k f = fails_by p q single (into_any p base low offset high h) (into_any q other least place most k)
      (λ x y. into_not_only p base low offset high h x)
      (λ x e. f (same_one_has (offsets n p) (offsets n q) offset place (offsets_have b p base low offset high h) (offsets_have b q other least place most k) e))

  -- two pointers that must be the same are into one base of one instance
  instances_fail : (p q : Pointers I) (single : Bases) (base other : ℕ) (low offset high least place most : ℤ) → IsBase base → IsBase other → IsInto stands p base low offset high → IsInto stands q other least place most → (base ≡ other → bases_has single base ≡ true → ⊥) → can_fail (pointers_equal n p q single) ≡ true
  instances_fail p q single base other low offset high least place most i j h k f = there_fails (is_any p && is_any q) (can_equal n p q) (can_differ n p q single) (and_from (is_any p) (is_any q) (into_any p base low offset high h) (into_any q other least place most k))
      (and_from (not (is_only_null p && is_only_null q)) (not (must_equal n p q single)) (not_both (is_only_null p) (is_only_null q) (λ x y. into_not_only p base low offset high h x)) (not_one (must_equal n p q single) (λ e.
      let a = and_parts (same_one_base p q single) (not (p.null || q.null) && ranges_same_one (offsets n p) (offsets n q)) e in
      let c = and_parts (bases_count p.bases == 1) (bases_within p.bases q.bases && (bases_within q.bases p.bases && bases_within p.bases single)) a.0 in
      let d = and_parts (bases_within p.bases q.bases) (bases_within q.bases p.bases && bases_within p.bases single) c.1 in
      let w = and_parts (bases_within q.bases p.bases) (bases_within p.bases single) d.1 in
      only_base p.bases base other i j (eqb-true (bases_count p.bases) 1 c.0) h.among (within_has q.bases p.bases other w.0 k.among)
      (λ (x : base ≡ other). f x (within_has p.bases single base w.1 h.among)))))

  nulls_hold : (p q : Pointers I) (single : Bases) → p.null ≡ true → q.null ≡ true → can_hold (pointers_equal n p q single) ≡ true
  nulls_hold p q single h k = holds_by p q single (null_any p h) (null_any q k) (or_left (p.null && q.null) (bases_meet p.bases q.bases && ranges_meet (offsets n p) (offsets n q)) (and_from p.null q.null h k))

  null_fails : (p q : Pointers I) (single : Bases) (base : ℕ) (low offset high : ℤ) → p.null ≡ true → IsInto stands q base low offset high → can_fail (pointers_equal n p q single) ≡ true
  null_fails p q single base low offset high h k = fails_by p q single (null_any p h) (into_any q base low offset high k)
      (λ x y. into_not_only q base low offset high k y)
      (λ x e. not_of (p.null || q.null) x (or_left p.null q.null h))

  to_null_fails : (p q : Pointers I) (single : Bases) (base : ℕ) (low offset high : ℤ) → IsInto stands p base low offset high → q.null ≡ true → can_fail (pointers_equal n p q single) ≡ true
  to_null_fails p q single base low offset high h k = fails_by p q single (into_any p base low offset high h) (null_any q k)
      (λ x y. into_not_only p base low offset high h x)
      (λ x e. not_of (p.null || q.null) x (or_right p.null q.null k))

  pub equality_meaning : EqualityMeaning n stands
  equality_meaning = record {
    same_holds = same_holds;
    apart_fails = apart_fails;
    instances_fail = instances_fail;
    nulls_hold = nulls_hold;
    null_fails = null_fails;
    to_null_fails = to_null_fails;
  }
