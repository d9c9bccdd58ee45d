-- Larger pointer parts may be equal, and may differ, as smaller ones may.
use Rattle.std.specs.Prelude.{◌≡◌, ◌==◌, ℤ, ◌+ℤ◌, ◌≤ℤ◌, Bool, true, false, cond, not, ◌&&◌, ◌||◌, int_le, Some, None, is_some, refl}
use Rattle.std.specs.Option.{unwrap_or}
use Rattle.std.specs.Ordering.{int_eq}
use Rattle.std.proofs.Common.{arith, sym, subst, ap, ◌∙◌, inl, inr}
use Rattle.std.proofs.lemmas.Int.{ints}
use Rattle.std.proofs.lemmas.Bool.{and_from, and_parts, eqb-true, or_parts, not-true, or_cases}
use Rattle.std.proofs.lemmas.Bool.Decides.{Decides-int_eq}
use Rattle.cc_base.specs.Lattices.{LatticeOf, OrderLaws}
use Rattle.cc_base.specs.NumberRanges.{Range, range_sum, ranges_meet, ranges_same_one}
use Rattle.cc_base.specs.IntegerDomains.{IntegersOf, BoundLaws}
use Rattle.cc_base.specs.IntegerLaws.{tri_leq}
use Rattle.cc_base.specs.Truths.{tri_of}
use Rattle.cc_base.specs.declared.integer_operators.Tri.{Tri}
use Rattle.cc_base.specs.declared.integer_operators.Tri.TheVariants.{Never}
use Rattle.pointer_domain.specs.BaseSets.{bases_within, bases_meet, bases_empty, bases_count}
use Rattle.pointer_domain.specs.BaseLattice.{bases_order}
use Rattle.pointer_domain.specs.PointerLattice.{pointers_leq}
use Rattle.pointer_domain.specs.PointerTables.{offsets, is_any, is_only_null, can_equal, same_one_base, must_equal, can_differ, pointers_equal}
use Rattle.pointer_domain.specs.declared.base_sets.Bases.{Bases}
use Rattle.pointer_domain.specs.declared.pointer_sets.Pointers.{Pointers}
use Rattle.domain_theorems.specs.Values.Consistency.{is_nowhere, is_somewhere, is_consistent}
use Rattle.domain_theorems.proofs.values.Flags.{Sets, flag_sets, or_sets, and_sets, not_sets, tri_sets}
use Rattle.domain_theorems.proofs.values.Parts.{PointersBelow, pointer_parts}
use Rattle.domain_theorems.proofs.values.Ranges.{RangeBelow}
use Rattle.domain_theorems.proofs.values.Bases.{one_base, no_count, empty_below, sets_meet}
use Rattle.domain_theorems.proofs.values.Moves.{offsets_monotone}

-- ---- ranges

ranges_meet_more : (x y u v : Range) → RangeBelow x u → RangeBelow y v → Sets (ranges_meet x y) (ranges_meet u v)
ranges_meet_more None y u v h k e = cc
ranges_meet_more (Some p) None u v h k e = cc
ranges_meet_more (Some p) (Some q) None v h k e = absurd h
ranges_meet_more (Some p) (Some q) (Some r) None h k e = absurd k
ranges_meet_more (Some p) (Some q) (Some r) (Some s) h k e = let a = and_parts (int_le p.0 q.1) (int_le q.0 p.1) e in let a0 = a.0 in let a1 = a.1 in and_from (int_le r.0 s.1) (int_le s.0 r.1) (grind (arith, ints)) (grind (arith, ints))

-- the bounds of a range are in order
record IsProper (x : Range) : Type 0 where
  order : (p : ℤ × ℤ) → x ≡ Some p → p.0 ≤ℤ p.1

same_int : (a b c d : ℤ) → c ≤ℤ a → a ≤ℤ b → b ≤ℤ d → int_eq c d ≡ true → (a ≡ c) × (b ≡ c)
same_int a b c d h k m e = let f : c ≡ d = (Decides-int_eq c d).0 e in (grind (arith, ints), grind (arith, ints))

-- within two ranges of the same one number lie two of it
same_one_less : (x y u v : Range) → IsProper x → IsProper y → is_some x ≡ true → is_some y ≡ true → RangeBelow x u → RangeBelow y v → Sets (ranges_same_one u v) (ranges_same_one x y)
same_one_less None y u v a b c d h k e = cc
same_one_less (Some p) None u v a b c d h k e = cc
same_one_less (Some p) (Some q) None v a b c d h k e = absurd h
same_one_less (Some p) (Some q) (Some r) None a b c d h k e = absurd k
same_one_less (Some p) (Some q) (Some r) (Some s) a b c d h k e =
    let f = and_parts (int_eq r.0 r.1) (int_eq s.0 s.1 && int_eq r.0 s.0) e in
    let g = and_parts (int_eq s.0 s.1) (int_eq r.0 s.0) f.1 in
    let x = same_int p.0 p.1 r.0 r.1 h.0 (a.order p refl) h.1 f.0 in
    let y = same_int q.0 q.1 s.0 s.1 k.0 (b.order q refl) k.1 g.0 in
    let z : r.0 ≡ s.0 = (Decides-int_eq r.0 s.0).0 g.1 in
    and_from _ _ ((Decides-int_eq p.0 p.1).1 (x.0 ∙ sym x.1)) (and_from _ _ ((Decides-int_eq q.0 q.1).1 (y.0 ∙ sym y.1)) ((Decides-int_eq p.0 q.0).1 (x.0 ∙ z ∙ sym y.0)))

-- ---- pointer parts

abbrev one_of : Bases → Bases → Bases → Bool
one_of s t single = (bases_count s == 1) && (bases_within s t && (bases_within t s && bases_within s single))

module _ {I : Type 0} {l : LatticeOf I} {n : IntegersOf I} {stands : I → ℤ → Type 0} (o : OrderLaws l) (b : BoundLaws l n stands) where
  sum_proper : (x y : I) (r s : Range) → n.bounds x ≡ r → n.bounds y ≡ s → IsProper (range_sum r s)
  sum_proper x y None s e f = record { order = λ p g. absurd (cc) }
  sum_proper x y (Some u) None e f = record { order = λ p g. absurd (cc) }
  sum_proper x y (Some u) (Some v) e f = record { order = λ p g. let a = b.proper x u.0 u.1 e in let c = b.proper y v.0 v.1 f in let d : u.0 +ℤ v.0 ≡ p.0 = ap (λ r. (unwrap_or r p).0) g in let h : u.1 +ℤ v.1 ≡ p.1 = ap (λ r. (unwrap_or r p).1) g in grind (arith, ints) }

  sum_some : (r s : Range) → is_some r ≡ true → is_some s ≡ true → is_some (range_sum r s) ≡ true
  sum_some None s h k = cc
  sum_some (Some p) None h k = cc
  sum_some (Some p) (Some q) h k = refl

  -- a consistent pointer with a base has offsets
  offsets_some : (p : Pointers I) → is_consistent n p ≡ true → bases_empty p.bases ≡ false → is_some (offsets n p) ≡ true
  offsets_some p h e =
      let f : is_somewhere n p ≡ true = subst (λ t. cond t (is_nowhere n p) (is_somewhere n p) ≡ true) e h in
      let a = and_parts (is_some (n.bounds p.lo)) (is_some (n.bounds p.rel) && is_some (n.bounds p.len)) f in
      sum_some (n.bounds p.lo) (n.bounds p.rel) a.0 (and_parts (is_some (n.bounds p.rel)) (is_some (n.bounds p.len)) a.1).0

  -- a pointer that is there and not null has a base
  has_some : (p q : Pointers I) → PointersBelow l p q → is_any p ≡ true → q.null ≡ false → bases_empty p.bases ≡ false
  has_some p q h e f = elim (or_cases (not (bases_empty p.bases)) p.null e) [ inl g ↦ not-true (bases_empty p.bases) g | inr g ↦ absurd (let k = flag_sets p.null q.null h.null g in cc) ]

  same_bases : (p q : Pointers I) → PointersBelow l p q → bases_empty p.bases ≡ false → bases_count q.bases ≡ 1 → p.bases ≡ q.bases
  same_bases p q h e c = one_base p.bases q.bases h.bases (λ (z : bases_count p.bases ≡ 0). (let k = no_count p.bases z in cc)) c

  must_less : (p q u v : Pointers I) (single : Bases) → is_consistent n p ≡ true → is_consistent n q ≡ true → is_any p ≡ true → is_any q ≡ true → PointersBelow l p u → PointersBelow l q v → Sets (must_equal n u v single) (must_equal n p q single)
  must_less p q u v single c d x y h k e =
      let a = and_parts (same_one_base u v single) (not (u.null || v.null) && ranges_same_one (offsets n u) (offsets n v)) e in
      let f = and_parts (not (u.null || v.null)) (ranges_same_one (offsets n u) (offsets n v)) a.1 in
      let nulls = or_parts u.null v.null (not-true (u.null || v.null) f.0) in
      let g = and_parts (bases_count u.bases == 1) (bases_within u.bases v.bases && (bases_within v.bases u.bases && bases_within u.bases single)) a.0 in
      let m = and_parts (bases_within u.bases v.bases) (bases_within v.bases u.bases && bases_within u.bases single) g.1 in
      let r = and_parts (bases_within v.bases u.bases) (bases_within u.bases single) m.1 in
      let same : u.bases ≡ v.bases = bases_order.antisymmetric u.bases v.bases m.0 r.0 in
      let one : bases_count u.bases ≡ 1 = eqb-true (bases_count u.bases) 1 g.0 in
      let two : bases_count v.bases ≡ 1 = subst (λ s. bases_count s ≡ 1) same one in
      let px = has_some p u h x nulls.0 in
      let qx = has_some q v k y nulls.1 in
      let pu = same_bases p u h px one in
      let qv = same_bases q v k qx two in
      let bases : one_of p.bases q.bases single ≡ true = subst (λ s. one_of s q.bases single ≡ true) (sym pu) (subst (λ t. one_of u.bases t single ≡ true) (sym qv) a.0) in
      let null : not (p.null || q.null) ≡ true = not_sets (u.null || v.null) (p.null || q.null) (or_sets p.null q.null u.null v.null (flag_sets p.null u.null h.null) (flag_sets q.null v.null k.null)) f.0 in
      and_from (one_of p.bases q.bases single) (not (p.null || q.null) && ranges_same_one (offsets n p) (offsets n q)) bases (and_from (not (p.null || q.null)) (ranges_same_one (offsets n p) (offsets n q)) null
      (same_one_less (offsets n p) (offsets n q) (offsets n u) (offsets n v) (sum_proper p.lo p.rel (n.bounds p.lo) (n.bounds p.rel) refl refl) (sum_proper q.lo q.rel (n.bounds q.lo) (n.bounds q.rel) refl refl) (offsets_some p c px) (offsets_some q d qx) (offsets_monotone o b p u h) (offsets_monotone o b q v k) f.1))

  any_more : (p q : Pointers I) → PointersBelow l p q → Sets (is_any p) (is_any q)
  any_more p q h = or_sets (not (bases_empty p.bases)) p.null (not (bases_empty q.bases)) q.null (not_sets (bases_empty p.bases) (bases_empty q.bases) (empty_below p.bases q.bases h.bases)) (flag_sets p.null q.null h.null)

  only_less : (p u : Pointers I) → PointersBelow l p u → is_any p ≡ true → Sets (is_only_null u) (is_only_null p)
  only_less p u h x e =
      let a = and_parts (bases_empty u.bases) u.null e in
      let c = empty_below p.bases u.bases h.bases a.0 in
      elim (or_cases (not (bases_empty p.bases)) p.null x) [ inl f ↦ absurd (let g = not-true (bases_empty p.bases) f in cc) | inr f ↦ and_from (bases_empty p.bases) p.null c f ]

  equal_more : (p q u v : Pointers I) → PointersBelow l p u → PointersBelow l q v → Sets (can_equal n p q) (can_equal n u v)
  equal_more p q u v h k = or_sets (p.null && q.null) (bases_meet p.bases q.bases && ranges_meet (offsets n p) (offsets n q)) (u.null && v.null) (bases_meet u.bases v.bases && ranges_meet (offsets n u) (offsets n v))
      (and_sets p.null q.null u.null v.null (flag_sets p.null u.null h.null) (flag_sets q.null v.null k.null))
      (and_sets (bases_meet p.bases q.bases) (ranges_meet (offsets n p) (offsets n q)) (bases_meet u.bases v.bases) (ranges_meet (offsets n u) (offsets n v)) (sets_meet p.bases q.bases u.bases v.bases h.bases k.bases) (ranges_meet_more (offsets n p) (offsets n q) (offsets n u) (offsets n v) (offsets_monotone o b p u h) (offsets_monotone o b q v k)))

  differ_more : (p q u v : Pointers I) (single : Bases) → is_consistent n p ≡ true → is_consistent n q ≡ true → is_any p ≡ true → is_any q ≡ true → PointersBelow l p u → PointersBelow l q v → Sets (can_differ n p q single) (can_differ n u v single)
  differ_more p q u v single c d x y h k = and_sets (not (is_only_null p && is_only_null q)) (not (must_equal n p q single)) (not (is_only_null u && is_only_null v)) (not (must_equal n u v single))
      (not_sets (is_only_null p && is_only_null q) (is_only_null u && is_only_null v) (and_sets (is_only_null u) (is_only_null v) (is_only_null p) (is_only_null q) (only_less p u h x) (only_less q v k y)))
      (not_sets (must_equal n p q single) (must_equal n u v single) (must_less p q u v single c d x y h k))

  -- a truth value where both are there
  where_there : (s t : Bool) (a c : Tri) → Sets s t → (s ≡ true → tri_leq a c ≡ true) → tri_leq (cond s a Never) (cond t c Never) ≡ true
  where_there true true a c x y = y refl
  where_there true false a c x y = absurd (let e : false ≡ true = x refl in cc)
  where_there false t a c x y = refl

  pub equal_monotone : (p q u v : Pointers I) (single : Bases) → is_consistent n p ≡ true → is_consistent n q ≡ true → pointers_leq l p u ≡ true → pointers_leq l q v ≡ true → tri_leq (pointers_equal n p q single) (pointers_equal n u v single) ≡ true
  equal_monotone p q u v single c d i j =
      let h = pointer_parts l p u i in
      let k = pointer_parts l q v j in
      where_there (is_any p && is_any q) (is_any u && is_any v) (tri_of (can_equal n p q) (can_differ n p q single)) (tri_of (can_equal n u v) (can_differ n u v single)) (and_sets (is_any p) (is_any q) (is_any u) (is_any v) (any_more p u h) (any_more q v k))
      (λ e. let a = and_parts (is_any p) (is_any q) e in tri_sets (can_equal n p q) (can_differ n p q single) (can_equal n u v) (can_differ n u v single) (equal_more p q u v h k) (differ_more p q u v single c d a.0 a.1 h k))
