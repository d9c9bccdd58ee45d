-- Well-formed leaves: counts are above 0, strides are those of their classes, and no byte belongs to two of them.
use Rattle.std.proofs.Common.{◌≡◌, ℕ, zero, suc, ◌<◌, true, ◌&&◌, Some, List, [], ◌∷◌, length, ◌+◌, arith, subst, sym, refl, inl, inr}
use Rattle.std.specs.Prelude.{slice_get, ◌==◌, nat_lt, nat_le}
use Rattle.std.proofs.lemmas.Bool.{cases_Bool, cases_eq, cases_order, and_parts, eqb-true, ltb-true, leb-false}
use Rattle.c_layout.specs.declared.data_model.Model.{Model}
use Rattle.c_layout.specs.declared.leaf_lists.Leaf.{Leaf}
use Rattle.cfg.specs.BaseShapes.{leaf_end, array_end, has_extents, is_stride, is_behind, is_beside, is_apart, follows, first_of, are_apart, nowhere, are_leaves}
use Rattle.cfg.specs.ApartLeaves.{HasByte, leaf_at, no_shared_byte}

module _ (m : Model) where
  pub record IsProper (leaf : Leaf) : Type 0 where
    pub stride : is_stride m leaf ≡ true
    pub some : 0 < leaf.count

  -- what is first of nothing ends at the start
  abbrev Begins : Leaf → Type 0
  Begins first = first.count ≡ 0 → array_end first ≡ 0

  record IsNext (first l : Leaf) : Type 0 where
    proper : IsProper l
    begins : Begins (first_of first l)

  next_by : (room : ℕ) (first : Leaf) (taken : ℕ) (l : Leaf) → Begins first → is_stride m l ≡ true → is_apart m room first taken l ≡ true → IsNext first l
  next_by room first taken l begins stride h = elim (cases_Bool (is_behind first l)) [
    | inl e ↦ (let a : (nat_lt 0 l.count && nat_le (array_end l) room) ≡ true = rw e at h in
        let b = ltb-true 0 l.count (and_parts (nat_lt 0 l.count) (nat_le (array_end l) room) a).0 in
        let f : first_of first l ≡ l = rw e refl in
        record { proper = record { stride = stride; some = b }; begins = subst Begins (sym f) (λ z. absurd (omega arith)) })
    | inr e ↦ (let a : is_beside m first taken l ≡ true = rw e at h in
        let b = and_parts ((l.stride == first.stride) && (l.count == first.count)) (nat_le taken l.offset && nat_le (leaf_end m l) (first.offset + first.stride)) a in
        let c = eqb-true l.count first.count (and_parts (l.stride == first.stride) (l.count == first.count) b.0).1 in
        let f : first_of first l ≡ first = rw e refl in
        let g = leb-false (array_end first) l.offset e in
        record {
          proper = record { stride = stride; some = elim (cases_eq first.count 0) [ inl z ↦ (let k = begins z in absurd (omega arith)) | inr z ↦ omega arith ] };
          begins = subst Begins (sym f) begins;
        })
  ]

  next_is : (room : ℕ) (first : Leaf) (taken : ℕ) (l : Leaf) → Begins first → follows m room first taken l ≡ true → IsNext first l
  next_is room first taken l begins h =
      let a = and_parts (has_extents l && is_stride m l) (is_apart m room first taken l) h in
      next_by room first taken l begins (and_parts (has_extents l) (is_stride m l) a.0).1 a.1

  each_by : (room : ℕ) (first : Leaf) (taken : ℕ) (ls : List Leaf) → Begins first → are_apart m room first taken ls ≡ true → (j : ℕ) (leaf : Leaf) → slice_get ls j ≡ Some leaf → IsProper leaf
  each_by room first taken [] begins h j leaf e = cc
  each_by room first taken (l ∷ ls) begins h zero leaf e =
      let d : l ≡ leaf = cc in
      subst IsProper d (next_is room first taken l begins (and_parts (follows m room first taken l) (are_apart m room (first_of first l) (leaf_end m l) ls) h).0).proper
  each_by room first taken (l ∷ ls) begins h (suc j) leaf e =
      let a = and_parts (follows m room first taken l) (are_apart m room (first_of first l) (leaf_end m l) ls) h in
      each_by room (first_of first l) (leaf_end m l) ls (next_is room first taken l begins a.0).begins a.1 j leaf e

  pub each_proper : (room : ℕ) (ls : List Leaf) → are_leaves m room ls ≡ true → (j : ℕ) (leaf : Leaf) → slice_get ls j ≡ Some leaf → IsProper leaf
  each_proper room ls h j leaf e = each_by room nowhere 0 ls (λ z. omega arith) h j leaf e

  -- ---- no byte belongs to two

  record IsAt (ls : List Leaf) (k : ℕ) (leaf : Leaf) : Type 0 where
    is : leaf_at m ls k ≡ leaf
    there : k < length ls

  at_place : (ls : List Leaf) (k : ℕ) (leaf : Leaf) → slice_get ls k ≡ Some leaf → IsAt ls k leaf
  at_place [] k leaf e = cc
  at_place (x ∷ xs) zero leaf e = record { is = cc; there = omega arith }
  at_place (x ∷ xs) (suc k) leaf e = let r = at_place xs k leaf e in let t = r.there in record { is = r.is; there = omega arith }

  before : (room : ℕ) (ls : List Leaf) → are_leaves m room ls ≡ true → (i k : ℕ) (a b : Leaf) → i < k → slice_get ls i ≡ Some a → slice_get ls k ≡ Some b → (x : ℕ) → HasByte m a x → HasByte m b x → ⊥
  before room ls h i k a b less e f x own other =
      let p = at_place ls i a e in
      let q = at_place ls k b f in
      no_shared_byte m room ls h i k less q.there x (subst (λ z. HasByte m z x) (sym p.is) own) (subst (λ z. HasByte m z x) (sym q.is) other)

  pub one_owner : (room : ℕ) (ls : List Leaf) → are_leaves m room ls ≡ true → (i k : ℕ) (a b : Leaf) → slice_get ls i ≡ Some a → slice_get ls k ≡ Some b → (x : ℕ) → HasByte m a x → HasByte m b x → i ≡ k
  one_owner room ls h i k a b e f x own other = elim (cases_order i k) [
    | inl d ↦ d
    | inr t ↦ elim t [ inl g ↦ absurd (before room ls h i k a b g e f x own other) | inr g ↦ absurd (before room ls h k i b a g f e x other own) ]
  ]
