-- The cells that an access reaches: a leaf at each of its places, and a class cell elsewhere.
use Rattle.std.proofs.Common.{◌≡◌, ℕ, zero, suc, ◌+◌, ◌-◌, ◌*◌, ◌/◌, ◌<◌, ◌≤◌, Bool, true, false, cond, ◌&&◌, ◌||◌, Some, List, arith, subst, sym, refl, inl, inr, ap}
use Rattle.std.specs.Prelude.{slice_get, nat_le, nat_lt, ◌==◌, count_by}
use Rattle.std.proofs.Math.Nat.{div-lt_iff_lt-mul, le-div_iff_mul-le}
use Rattle.std.proofs.lemmas.Bool.{cases_Bool, and_parts, and_from, eqb-true, eq-eqb, le-leb, ltb-true, lt-ltb, cases_eq}
use Rattle.std.proofs.lemmas.Bool.Decides.{nat_tests}
use Rattle.c_layout.specs.declared.leaf_lists.Class.{Class}
use Rattle.c_layout.specs.declared.leaf_lists.Leaf.{Leaf}
use Rattle.store_cells.specs.declared.access_windows.Window.{Window}
use Rattle.store_cells.specs.ClassNumbers.{same_class}
use Rattle.store.specs.LeafSelection.{places_before, turns_into, has_place_in, is_selected, has_stray}
use Rattle.store_sound.specs.Concretization.Places.{IsPlaceOf, IsLeafPlace}
use Rattle.store_sound.specs.Operations.Shapes.{at_offset}
use Rattle.store_sound.proofs.operations.Classes.{count_some, count_none, count_either, same_class_is, is_same_class}

before_most : (x offset stride turn : ℕ) → 0 < stride → x ≤ offset + stride * turn → cond (nat_le x offset) 0 (((x - offset) - 1) / stride + 1) ≤ turn
before_most x offset stride turn p h = elim (cases_Bool (nat_le x offset)) [
  | inl e ↦ rw e (omega arith)
  | inr e ↦ let k : ((x - offset) - 1) / stride < turn = (div-lt_iff_lt-mul {x = (x - offset) - 1} p).1 (let f : offset < x = grind arith in omega arith) in rw e (omega arith)
]

pub place_selected : (leaf : Leaf) (w : Window) (offset : ℕ) → IsPlaceOf leaf offset → 0 < leaf.stride → w.lo ≤ offset → offset ≤ w.hi → has_place_in leaf w ≡ true
place_selected leaf w offset h p a b =
    let e : offset ≡ leaf.offset + leaf.stride * h.turn = h.there in
    let t = h.few in
    let c = before_most w.lo leaf.offset leaf.stride h.turn p (omega arith) in
    let d : h.turn * leaf.stride ≤ w.hi - leaf.offset = omega arith in
    let f : h.turn ≤ (w.hi - leaf.offset) / leaf.stride = (le-div_iff_mul-le {x = h.turn} p).1 d in
    let g : (leaf.stride == 0 || nat_lt w.hi leaf.offset) ≡ false = grind (arith, nat_tests) in
    let u : nat_lt (places_before leaf w.lo) leaf.count ≡ true = lt-ltb _ _ (omega arith) in
    let v : nat_le (places_before leaf w.lo) ((w.hi - leaf.offset) / leaf.stride) ≡ true = le-leb _ _ (omega arith) in
    rw g (and_from _ _ u v)

-- ---- strays

-- the leaves of a class at so many offsets from one on
abbrev in_offsets : Class → ℕ → ℕ → Leaf → Bool
in_offsets class lo n leaf = same_class leaf.class class && (nat_le lo leaf.offset && nat_lt leaf.offset (lo + n))

next_offset : (c : Bool) (o lo n : ℕ) → (c && (nat_le lo o && nat_lt o (lo + suc n))) ≡ true → ((c && (o == lo + n)) || (c && (nat_le lo o && nat_lt o (lo + n)))) ≡ true
next_offset c o lo n h = grind (arith, nat_tests)

in_none : (c : Bool) (o lo : ℕ) → (c && (nat_le lo o && nat_lt o (lo + 0))) ≡ true → ⊥
in_none c o lo h = grind (arith, nat_tests)

count_never : {X : Type 0} (p : X → Bool) (xs : List X) (n : ℕ) → n ≡ count_by p xs → ((x : X) → p x ≡ true → ⊥) → n ≡ 0
count_never p xs zero e h = refl
count_never p xs (suc n) e h = let r = count_some p xs n (sym e) in absurd (h r.1 r.3)

or_first : (a b : Bool) → a ≡ true → (a || b) ≡ true
or_first a b h = rw h

early : (x offset stride : ℕ) → cond (nat_le x offset) 0 (((x - offset) - 1) / stride + 1) < 1 → nat_le x offset ≡ true
early x offset stride h = elim (cases_Bool (nat_le x offset)) [
  | inl e ↦ e
  | inr e ↦ let k : ((x - offset) - 1) / stride + 1 < 1 = rw e at h in absurd (omega arith)
]

pub single_in : (leaf : Leaf) (w : Window) → leaf.count ≡ 1 → w.lo ≤ w.hi → has_place_in leaf w ≡ true → (nat_le w.lo leaf.offset && nat_lt leaf.offset (w.lo + suc (w.hi - w.lo))) ≡ true
single_in leaf w e d h = elim (cases_Bool (leaf.stride == 0 || nat_lt w.hi leaf.offset)) [
  | inl f ↦ (let g : false ≡ true = rw f at h in cc)
  | inr f ↦ (let g : turns_into leaf w ≡ true = rw f at h in
      let k : places_before leaf w.lo < leaf.count = ltb-true _ _ (and_parts _ _ g).0 in
      let s : nat_le w.lo leaf.offset ≡ true = early w.lo leaf.offset leaf.stride (omega arith) in
      grind (arith, nat_tests))
]

module _ (leaves : List Leaf) (class : Class) (few : (x : ℕ) → count_by (at_offset class x) leaves ≤ 1) where
  most_in : (lo n : ℕ) → count_by (in_offsets class lo n) leaves ≤ n
  most_in lo zero = let e = count_never (in_offsets class lo 0) leaves _ refl (λ leaf. in_none (same_class leaf.class class) leaf.offset lo) in omega arith
  most_in lo (suc n) =
      let a = most_in lo n in
      let b = count_either (in_offsets class lo (suc n)) (at_offset class (lo + n)) (in_offsets class lo n) leaves (λ j leaf e. next_offset (same_class leaf.class class) leaf.offset lo n) in
      let c = few (lo + n) in
      omega arith

  fewer_in : (lo n z : ℕ) → lo ≤ z → z < lo + n → count_by (at_offset class z) leaves ≡ 0 → count_by (in_offsets class lo n) leaves < n
  fewer_in lo zero z h k e = absurd (omega arith)
  fewer_in lo (suc n) z h k e =
      let b = count_either (in_offsets class lo (suc n)) (at_offset class (lo + n)) (in_offsets class lo n) leaves (λ j leaf e. next_offset (same_class leaf.class class) leaf.offset lo n) in
      elim (cases_eq z (lo + n)) [
        | inl f ↦ (let a = most_in lo n in let g : count_by (at_offset class (lo + n)) leaves ≡ 0 = subst (λ x. count_by (at_offset class x) leaves ≡ 0) f e in omega arith)
        | inr f ↦ (let a = fewer_in lo n z h (omega arith) e in let c = few (lo + n) in omega arith)
      ]

  -- an offset of the window at which no leaf of the class stands: the class cell is reached
  pub is_stray : (w : Window) (z : ℕ) → ((j : ℕ) (leaf : Leaf) → slice_get leaves j ≡ Some leaf → leaf.count ≡ 1) → w.lo ≤ z → z ≤ w.hi → count_by (at_offset class z) leaves ≡ 0 → has_stray leaves class w ≡ true
  is_stray w z single h k e =
      let a = fewer_in w.lo (suc (w.hi - w.lo)) z h (omega arith) e in
      let b = count_either (λ leaf. is_selected leaf class w) (in_offsets class w.lo (suc (w.hi - w.lo))) (λ leaf. false) leaves (λ (j : ℕ) (leaf : Leaf) (f : slice_get leaves j ≡ Some leaf) (g : is_selected leaf class w ≡ true). let p = and_parts (same_class leaf.class class) (has_place_in leaf w) g in
      or_first _ false (and_from _ _ p.0 (single_in leaf w (single j leaf f) (omega arith) p.1))) in
      let c : count_by {X = Leaf} (λ leaf. false) leaves ≡ 0 = count_never {X = Leaf} (λ leaf. false) leaves _ refl (λ (leaf : Leaf) (g : false ≡ true). cc) in
      le-leb _ _ (omega arith)

-- a leaf that stands at one place alone is counted there or not
pub counted_place : (leaves : List Leaf) (class : Class) (z n : ℕ) → ((j : ℕ) (leaf : Leaf) → slice_get leaves j ≡ Some leaf → leaf.count ≡ 1) → count_by (at_offset class z) leaves ≡ suc n → IsLeafPlace leaves class z
counted_place leaves class z n single h =
    let r = count_some (at_offset class z) leaves n h in
    let p = and_parts _ _ r.3 in
    let o : r.1.offset ≡ z = eqb-true _ _ p.1 in
    let s = single r.0 r.1 r.2 in
    record { leaf = r.1; at = r.0; among = r.2; same = same_class_is _ _ p.0; place = record { turn = 0; few = omega arith; there = omega arith } }

pub uncounted_place : (leaves : List Leaf) (class : Class) (z : ℕ) → ((j : ℕ) (leaf : Leaf) → slice_get leaves j ≡ Some leaf → leaf.count ≡ 1) → count_by (at_offset class z) leaves ≡ 0 → IsLeafPlace leaves class z → ⊥
uncounted_place leaves class z single h p =
    let s = single p.at p.leaf p.among in
    let t : p.place.turn ≡ 0 = let u = p.place.few in omega arith in
    let e = p.place.there in
    let o : p.leaf.offset ≡ z = let f : p.leaf.stride * p.place.turn ≡ p.leaf.stride * 0 = ap (λ x. p.leaf.stride * x) t in omega arith in
    count_none (at_offset class z) leaves p.at p.leaf p.among (and_from _ _ (is_same_class _ _ p.same) (eq-eqb _ _ o)) h
