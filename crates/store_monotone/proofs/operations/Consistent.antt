-- Pointer parts that are consistent stay so where they are joined, and rows of them where cells are written.
use Rattle.std.specs.Prelude.{◌≡◌, ℕ, zero, suc, ◌^◌, ◌<◌, ◌==◌, ℤ, Bool, true, false, cond, not, ◌&&◌, bit_or, Some, None, is_none, is_some, List, [], ◌∷◌, set, refl}
use Rattle.std.proofs.Common.{arith, sym, subst}
use Rattle.std.proofs.lemmas.Nat.{or_lt}
use Rattle.std.proofs.lemmas.Bool.{and_from, and_parts, eqb-true, eq-eqb, not-true, not_from_false, or_from, false_from_ne_true}
use Rattle.cc_base.specs.Lattices.{LatticeOf, OrderLaws}
use Rattle.cc_base.specs.IntegerDomains.{IntegersOf, BoundLaws}
use Rattle.cc_base.specs.NumberRanges.{Range}
use Rattle.pointer_domain.specs.BaseSets.{no_base, word_of, bases_empty, bases_union}
use Rattle.pointer_domain.specs.BaseFacts.{word_of_union}
use Rattle.pointer_domain.specs.BaseLattice.{bases_order}
use Rattle.pointer_domain.specs.PointerLattice.{no_pointer, pointers_join}
use Rattle.pointer_domain.specs.declared.base_sets.Bases.{Bases}
use Rattle.pointer_domain.specs.declared.pointer_sets.Pointers.{Pointers}
use Rattle.value_domain.specs.declared.values.row_cells.Cell.{Cell}
use Rattle.domain_theorems.specs.Values.Consistency.{AreWords, is_nowhere, is_somewhere, is_consistent}
use Rattle.domain_theorems.proofs.values.Bases.{empty_below}
use Rattle.domain_theorems.proofs.values.BaseChanges.{no_word_is}
use Rattle.store_monotone.specs.Operations.ConsistentRows.{IsConsistentCell, AreConsistent}
use Rattle.store_monotone.proofs.operations.StorePlaces.{bounds_some}

zero_words : (a b : ℕ) → (a == 0) ≡ true → (b == 0) ≡ true → (bit_or a b == 0) ≡ true
zero_words a b h k = let e = eqb-true a 0 h in let f = eqb-true b 0 k in let g : bit_or a b ≡ 0 = (λ i. bit_or (e i) (f i)) in eq-eqb (bit_or a b) 0 g

eight : (a b c d e f g h : Bool) → (a && (b && (c && (d && (e && (f && (g && h))))))) ≡ true → (a ≡ true) × (b ≡ true) × (c ≡ true) × (d ≡ true) × (e ≡ true) × (f ≡ true) × (g ≡ true) × (h ≡ true)
eight true true true true true true true true z = (refl, refl, refl, refl, refl, refl, refl, refl)
eight false b c d e f g h z = absurd (cc)
eight true false c d e f g h z = absurd (cc)
eight true true false d e f g h z = absurd (cc)
eight true true true false e f g h z = absurd (cc)
eight true true true true false f g h z = absurd (cc)
eight true true true true true false g h z = absurd (cc)
eight true true true true true true false h z = absurd (cc)
eight true true true true true true true false z = absurd (cc)

both_empty : (s t : Bases) → bases_empty s ≡ true → bases_empty t ≡ true → bases_empty (bases_union s t) ≡ true
both_empty s t h k =
    let a = eight _ _ _ _ _ _ _ _ h in
    let b = eight _ _ _ _ _ _ _ _ k in
    and_from _ _ (zero_words s.word0 t.word0 a.0 b.0) (and_from _ _ (zero_words s.word1 t.word1 a.1 b.1) (and_from _ _ (zero_words s.word2 t.word2 a.2 b.2) (and_from _ _ (zero_words s.word3 t.word3 a.3 b.3)
    (and_from _ _ (zero_words s.word4 t.word4 a.4 b.4) (and_from _ _ (zero_words s.word5 t.word5 a.5 b.5) (and_from _ _ (zero_words s.word6 t.word6 a.6 b.6) (zero_words s.word7 t.word7 a.7 b.7)))))))

left_some : (s t : Bases) → bases_empty s ≡ false → bases_empty (bases_union s t) ≡ false
left_some s t h = false_from_ne_true _ (λ (e : bases_empty (bases_union s t) ≡ true). let k = empty_below s (bases_union s t) (bases_order.join_left s t) e in cc)

right_some : (s t : Bases) → bases_empty t ≡ false → bases_empty (bases_union s t) ≡ false
right_some s t h = false_from_ne_true _ (λ (e : bases_empty (bases_union s t) ≡ true). let k = empty_below t (bases_union s t) (bases_order.join_right s t) e in cc)

words_join : (s t : Bases) → AreWords s → AreWords t → AreWords (bases_union s t)
words_join s t h k i = subst (λ w. w < 2 ^ 128) (sym (word_of_union s t i)) (or_lt 128 (word_of s i) (word_of t i) (h i) (k i))

no_words : AreWords no_base
no_words i = subst (λ w. w < 2 ^ 128) (sym (no_word_is i)) (omega arith)

module _ {I : Type 0} (n : IntegersOf I) where
  -- consistent, and of words
  abbrev pub IsEven : Pointers I → Type 0
  IsEven p = AreWords p.bases × (is_consistent n p ≡ true)

module _ {I : Type 0} {l : LatticeOf I} {n : IntegersOf I} {stands : I → ℤ → Type 0} (o : OrderLaws l) (b : BoundLaws l n stands) where
  none_is : (x : I) (r : Range) → n.bounds x ≡ r → is_none r ≡ true → x ≡ l.least
  none_is x None e h = b.only_least x e
  none_is x (Some p) e h = absurd (cc)

  least_none : is_none (n.bounds l.least) ≡ true
  least_none = subst (λ r. is_none r ≡ true) (sym b.least_bounds) refl

  joined_none : (x y : I) → is_none (n.bounds x) ≡ true → is_none (n.bounds y) ≡ true → is_none (n.bounds (l.join x y)) ≡ true
  joined_none x y h k =
      let e : x ≡ l.least = none_is x (n.bounds x) refl h in
      let f : y ≡ l.least = none_is y (n.bounds y) refl k in
      let z : l.leq (l.join x y) l.least ≡ true = o.join_least x y l.least (subst (λ v. l.leq v l.least ≡ true) (sym e) (o.reflexive l.least)) (subst (λ v. l.leq v l.least ≡ true) (sym f) (o.reflexive l.least)) in
      bounds_some o b (l.join x y) l.least (n.bounds (l.join x y)) (n.bounds l.least) refl refl z least_none

  some_not : (r : Range) → is_some r ≡ true → is_none r ≡ false
  some_not None h = absurd (cc)
  some_not (Some p) h = refl

  not_some : (r : Range) → (is_none r ≡ true → ⊥) → is_some r ≡ true
  not_some None h = absurd (h refl)
  not_some (Some p) h = refl

  larger_some : (x y : I) → l.leq x y ≡ true → is_some (n.bounds x) ≡ true → is_some (n.bounds y) ≡ true
  larger_some x y h k = not_some (n.bounds y) (λ (e : is_none (n.bounds y) ≡ true). let f = bounds_some o b x y (n.bounds x) (n.bounds y) refl refl h e in let g = some_not (n.bounds x) k in cc)

  record NoPlace (p : Pointers I) : Type 0 where
    lo : is_none (n.bounds p.lo) ≡ true
    rel : is_none (n.bounds p.rel) ≡ true
    len : is_none (n.bounds p.len) ≡ true
    part : p.part ≡ false

  pub record SomePlace (p : Pointers I) : Type 0 where
    pub lo : is_some (n.bounds p.lo) ≡ true
    pub rel : is_some (n.bounds p.rel) ≡ true
    pub len : is_some (n.bounds p.len) ≡ true

  no_parts : (p : Pointers I) → bases_empty p.bases ≡ true → is_consistent n p ≡ true → NoPlace p
  no_parts p e h =
      let f : is_nowhere n p ≡ true = subst (λ c. cond c (is_nowhere n p) (is_somewhere n p) ≡ true) e h in
      let a = and_parts (is_none (n.bounds p.lo)) (is_none (n.bounds p.rel) && (is_none (n.bounds p.len) && not p.part)) f in
      let c = and_parts (is_none (n.bounds p.rel)) (is_none (n.bounds p.len) && not p.part) a.1 in
      let d = and_parts (is_none (n.bounds p.len)) (not p.part) c.1 in
      record { lo = a.0; rel = c.0; len = d.0; part = not-true p.part d.1 }

  pub some_parts : (p : Pointers I) → bases_empty p.bases ≡ false → is_consistent n p ≡ true → SomePlace p
  some_parts p e h =
      let f : is_somewhere n p ≡ true = subst (λ c. cond c (is_nowhere n p) (is_somewhere n p) ≡ true) e h in
      let a = and_parts (is_some (n.bounds p.lo)) (is_some (n.bounds p.rel) && is_some (n.bounds p.len)) f in
      let c = and_parts (is_some (n.bounds p.rel)) (is_some (n.bounds p.len)) a.1 in
      record { lo = a.0; rel = c.0; len = c.1 }

  from_no : (p : Pointers I) → bases_empty p.bases ≡ true → NoPlace p → is_consistent n p ≡ true
  from_no p e k = subst (λ c. cond c (is_nowhere n p) (is_somewhere n p) ≡ true) (sym e) (and_from _ _ k.lo (and_from _ _ k.rel (and_from _ _ k.len (not_from_false p.part k.part))))

  pub from_some : (p : Pointers I) → bases_empty p.bases ≡ false → SomePlace p → is_consistent n p ≡ true
  from_some p e k = subst (λ c. cond c (is_nowhere n p) (is_somewhere n p) ≡ true) (sym e) (and_from _ _ k.lo (and_from _ _ k.rel k.len))

  join_consistent : (p q : Pointers I) → is_consistent n p ≡ true → is_consistent n q ≡ true → is_consistent n (pointers_join l p q) ≡ true
  join_consistent p q h k = by_cases (bases_empty p.bases) refl (bases_empty q.bases) refl
    where
      by_cases : (a : Bool) → bases_empty p.bases ≡ a → (c : Bool) → bases_empty q.bases ≡ c → is_consistent n (pointers_join l p q) ≡ true
      by_cases true e true f =
          let x = no_parts p e h in let y = no_parts q f k in
          from_no (pointers_join l p q) (both_empty p.bases q.bases e f) (record { lo = joined_none p.lo q.lo x.lo y.lo; rel = joined_none p.rel q.rel x.rel y.rel; len = joined_none p.len q.len x.len y.len; part = or_from p.part q.part x.part y.part })
      by_cases false e c f =
          let x = some_parts p e h in
          from_some (pointers_join l p q) (left_some p.bases q.bases e) (record { lo = larger_some p.lo (l.join p.lo q.lo) (o.join_left p.lo q.lo) x.lo; rel = larger_some p.rel (l.join p.rel q.rel) (o.join_left p.rel q.rel) x.rel; len = larger_some p.len (l.join p.len q.len) (o.join_left p.len q.len) x.len })
      by_cases true e false f =
          let x = some_parts q f k in
          from_some (pointers_join l p q) (right_some p.bases q.bases f) (record { lo = larger_some q.lo (l.join p.lo q.lo) (o.join_right p.lo q.lo) x.lo; rel = larger_some q.rel (l.join p.rel q.rel) (o.join_right p.rel q.rel) x.rel; len = larger_some q.len (l.join p.len q.len) (o.join_right p.len q.len) x.len })

  pub even_join : (p q : Pointers I) → IsEven n p → IsEven n q → IsEven n (pointers_join l p q)
  even_join p q h k = (words_join p.bases q.bases h.0 k.0, join_consistent p q h.1 k.1)

  -- no base, with or without null
  pub even_bare : (null ended : Bool) → IsEven n (record (no_pointer l) { null = null; ended = ended })
  even_bare null ended = (no_words, from_no (record (no_pointer l) { null = null; ended = ended }) refl (record { lo = least_none; rel = least_none; len = least_none; part = refl }))

-- ---- rows

module _ {I : Type 0} (n : IntegersOf I) where
  pub set_keeps : (row : List (Cell I)) (i : ℕ) (x : Cell I) → AreConsistent n row → IsConsistentCell n x → AreConsistent n (set row i x)
  set_keeps [] i x h k = tt
  set_keeps (c ∷ cs) zero x h k = (k, h.1)
  set_keeps (c ∷ cs) (suc i) x h k = (h.0, set_keeps cs i x h.1 k)
