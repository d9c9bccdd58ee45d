-- Values whose bounds are near stay as they are, and so do their joins.
use Rattle.std.proofs.Common.{◌≡◌, ℕ, ◌^◌, true, false, Some, None, arith, subst, sym, refl, ap, ◌∙◌, inl, inr, List}
use Rattle.std.specs.Prelude.{ℤ, pos, neg_ℤ, ◌≤ℤ◌}
use Rattle.std.proofs.lemmas.Int.{ints}
use Rattle.std.proofs.lemmas.Bool.{cases_Bool}
use Rattle.std.proofs.lemmas.Option.{same_Some}
use Rattle.cc_base.specs.Lattices.{LatticeOf, OrderLaws}
use Rattle.cc_base.specs.IntegerDomains.{IntegersOf, BoundLaws, IsNear}
use Rattle.cc_base.specs.NumberRanges.{Range}
use Rattle.value_domain.specs.Values.Values.{value_lattice}
use Rattle.value_domain.specs.declared.values.values.Value.{Value}
use Rattle.value_domain.specs.declared.values.row_cells.Cell.{Cell}
use Rattle.store_cells.specs.NearValues.{is_near, near_part, part_near, near_number, near_value}
use Rattle.store_cells.specs.RowPositions.{cell_at, value_in, value_at}

-- near bounds are changed by nothing
pub record IsNearValue {I : Type 0} (l : LatticeOf I) (n : IntegersOf I) (v : Value I) : Type 0 where
  pub num : near_number l n v.num ≡ v.num
  pub lo : near_number l n v.pointer.lo ≡ v.pointer.lo
  pub rel : near_number l n v.pointer.rel ≡ v.pointer.rel
  pub len : near_number l n v.pointer.len ≡ v.pointer.len

module _ {I : Type 0} {l : LatticeOf I} {n : IntegersOf I} {gamma : I → ℤ → Type 0} (o : OrderLaws l) (q : BoundLaws l n gamma) where
  pub near_is : (v : Value I) → IsNearValue l n v → near_value l n v ≡ v
  near_is v h = λ i. record v { num = h.num i; pointer = record (v.pointer) { lo = h.lo i; rel = h.rel i; len = h.len i } }

  near_from : (a b : ℤ) → neg_ℤ (pos (2 ^ 64)) ≤ℤ a → b ≤ℤ pos (2 ^ 64) → is_near (Some (a, b)) ≡ true
  near_from a b h k = grind (arith, ints)

  near_of : (x : I) (r : Range) → n.bounds x ≡ r → IsNear r → near_number l n x ≡ x
  near_of x None e h = rw e (sym (q.only_least x e))
  near_of x (Some p) e h = rw (e, near_from p.0 p.1 (omega (arith, ints)) (omega (arith, ints))) refl

  near_twice : (x : I) → near_number l n (near_number l n x) ≡ near_number l n x
  near_twice x = elim (cases_Bool (is_near (n.bounds x))) [
    | inl e ↦ (let f : near_number l n x ≡ x = rw e refl in ap (near_number l n) f)
    | inr e ↦ (let f : near_number l n x ≡ near_part l n x = rw e refl in ap (near_number l n) f ∙ (near_of (near_part l n x) (n.bounds (near_part l n x)) refl (part_near q x) ∙ sym f))
  ]

  pub value_at_near : (row : List (Cell I)) (p : ℕ) → IsNearValue l n (value_at l n row p)
  unfolding value_at
  value_at_near row p =
      let v = value_in l (cell_at row p) in
      record { num = near_twice v.num; lo = near_twice v.pointer.lo; rel = near_twice v.pointer.rel; len = near_twice v.pointer.len }

  abbrev widest : I
  widest = n.between (neg_ℤ (pos (2 ^ 64))) (pos (2 ^ 64))

  near_parts : (a b : ℤ) → is_near (Some (a, b)) ≡ true → (neg_ℤ (pos (2 ^ 64)) ≤ℤ a) × (b ≤ℤ pos (2 ^ 64))
  near_parts a b h = (grind (arith, ints), grind (arith, ints))

  below_at : (x : I) (r : Range) → n.bounds x ≡ r → near_number l n x ≡ x → l.leq x (n.between (neg_ℤ (pos (2 ^ 64))) (pos (2 ^ 64))) ≡ true
  below_at x None e h = subst (λ z. l.leq z (n.between (neg_ℤ (pos (2 ^ 64))) (pos (2 ^ 64))) ≡ true) (sym (q.only_least x e)) (o.least_below _)
  below_at x (Some p) e h = elim (cases_Bool (is_near (Some p))) [
    | inl f ↦ (let r = near_parts p.0 p.1 f in q.below_between x p.0 p.1 _ _ e r.0 r.1)
    | inr f ↦ (let k : is_near (n.bounds x) ≡ false = ap is_near e ∙ f in
        let g : near_number l n x ≡ near_part l n x = rw k refl in
        let w : IsNear (Some p) = subst IsNear e (subst (λ z. IsNear (n.bounds z)) (sym g ∙ h) (part_near q x)) in
        q.below_between x p.0 p.1 _ _ e (omega (arith, ints)) (omega (arith, ints)))
  ]

  above_at : (x : I) (r : Range) → n.bounds x ≡ r → l.leq x (n.between (neg_ℤ (pos (2 ^ 64))) (pos (2 ^ 64))) ≡ true → near_number l n x ≡ x
  above_at x None e h = rw e (sym (q.only_least x e))
  above_at x (Some p) e h =
      let w = q.wider x (n.between (neg_ℤ (pos (2 ^ 64))) (pos (2 ^ 64))) p.0 p.1 h e in
      let b = q.between_bounds (neg_ℤ (pos (2 ^ 64))) (pos (2 ^ 64)) (omega (arith, ints)) in
      let d : Some (w.0, w.1) ≡ Some (neg_ℤ (pos (2 ^ 64)), pos (2 ^ 64)) = sym w.2 ∙ b in
      let f = same_Some (w.0, w.1) (neg_ℤ (pos (2 ^ 64)), pos (2 ^ 64)) d in
      let c : w.0 ≡ neg_ℤ (pos (2 ^ 64)) = ap (λ z. z.0) f in
      let g : w.1 ≡ pos (2 ^ 64) = ap (λ z. z.1) f in
      let y = w.3 in
      let z = w.4 in
      rw (e, near_from p.0 p.1 (omega (arith, ints)) (omega (arith, ints))) refl

  join_near_number : (x y : I) → near_number l n x ≡ x → near_number l n y ≡ y → near_number l n (l.join x y) ≡ l.join x y
  join_near_number x y h k = above_at (l.join x y) (n.bounds (l.join x y)) refl (o.join_least x y _ (below_at x (n.bounds x) refl h) (below_at y (n.bounds y) refl k))

  pub join_near : (v w : Value I) → IsNearValue l n v → IsNearValue l n w → IsNearValue l n ((value_lattice l).join v w)
  join_near v w h k = record {
    num = join_near_number v.num w.num h.num k.num;
    lo = join_near_number v.pointer.lo w.pointer.lo h.lo k.lo;
    rel = join_near_number v.pointer.rel w.pointer.rel h.rel k.rel;
    len = join_near_number v.pointer.len w.pointer.len h.len k.len;
  }

  pub near_number_from : (x : I) (a b : ℤ) → n.bounds x ≡ Some (a, b) → neg_ℤ (pos (2 ^ 64)) ≤ℤ a → b ≤ℤ pos (2 ^ 64) → near_number l n x ≡ x
  near_number_from x a b e h k = rw (e, near_from a b h k) refl

  pub near_number_none : (x : I) → n.bounds x ≡ None → near_number l n x ≡ x
  near_number_none x e = rw e (sym (q.only_least x e))
