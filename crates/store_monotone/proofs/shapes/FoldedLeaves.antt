-- Leaves of folded arrays that stand apart share no byte.
use Rattle.std.specs.Prelude.{◌≡◌, ℕ, ◌+◌, ◌-◌, ◌*◌, ◌%◌, ◌^◌, ◌≤◌, ◌<◌, ◌==◌, Bool, true, false, cond, ◌&&◌, nat_lt, nat_le, List, [], ◌∷◌, refl, ◌⊎◌}
use Rattle.std.proofs.Common.{arith, sym, subst, ap, ◌∙◌, inl, inr}
use Rattle.std.proofs.lemmas.Bool.{cases_lt, and_parts, leb-true, eqb-true}
use Rattle.std.proofs.lemmas.Nat.{mod-mul-add, mul-add-lt}
use Rattle.c_layout.specs.declared.data_model.Model.{Model}
use Rattle.c_layout.specs.declared.leaf_lists.Leaf.{Leaf}
use Rattle.cfg.specs.BaseShapes.{is_extent, leaf_end, array_end, has_extents, is_stride, is_behind, is_beside, is_apart, follows, first_of, are_apart, nowhere, are_leaves}
use Rattle.store_cells.specs.Walks.{walk}
use Rattle.c_layout.specs.Models.{is_model}
use Rattle.cfg.specs.ModelKinds.{class_bytes}
use Rattle.store.specs.LeafSelection.{bytes_below, covered_more}
use Rattle.store_monotone.proofs.operations.Loads.{some_bytes}
use Rattle.store_monotone.proofs.operations.Regular.{IsByByte}
use Rattle.store_monotone.proofs.shapes.LeafBytes.{Covers, same_bytes, leaf_step}

-- an offset of a byte before all leaves of a group, or of one of those up to an offset of its first element
pub record InGroup (first : Leaf) (taken x : ℕ) : Type 0 where
  pub turn : ℕ
  pub rest : ℕ
  pub at : x ≡ first.offset + (turn * first.stride + rest)
  pub among : turn < first.count
  pub within : first.offset + rest < taken

abbrev IsUsed : Leaf → ℕ → ℕ → Type 0
IsUsed first taken x = (x < first.offset) ⊎ InGroup first taken x

-- a leaf that stands apart
record IsApart (m : Model) (first : Leaf) (taken : ℕ) (leaf : Leaf) : Type 0 where
  fits : class_bytes m leaf.class ≤ leaf.stride
  few : leaf.count ≤ 2 ^ 30
  place : (is_behind first leaf ≡ true) ⊎ ((leaf.stride ≡ first.stride) × (leaf.count ≡ first.count) × (taken ≤ leaf.offset) × (leaf_end m leaf ≤ first.offset + first.stride) × (is_behind first leaf ≡ false))

fits_stride : (size stride count : ℕ) → cond (count == 1) (stride == size) (nat_le size stride) ≡ true → size ≤ stride
fits_stride size stride count h = by_test (count == 1) h
  where
    by_test : (c : Bool) → cond c (stride == size) (nat_le size stride) ≡ true → size ≤ stride
    by_test true e = let f = eqb-true stride size e in omega arith
    by_test false e = leb-true size stride e

apart_parts : (m : Model) (room : ℕ) (first : Leaf) (taken : ℕ) (leaf : Leaf) → follows m room first taken leaf ≡ true → IsApart m first taken leaf
apart_parts m room first taken leaf h =
    let a = and_parts (has_extents leaf && is_stride m leaf) (is_apart m room first taken leaf) h in
    let c = and_parts (has_extents leaf) (is_stride m leaf) a.0 in
    let d = and_parts (is_extent leaf.offset) (is_extent leaf.stride && is_extent leaf.count) c.0 in
    let e = and_parts (is_extent leaf.stride) (is_extent leaf.count) d.1 in
    record { fits = fits_stride (class_bytes m leaf.class) leaf.stride leaf.count c.1; few = leb-true leaf.count (2 ^ 30) e.1; place = by_behind (is_behind first leaf) refl a.1 }
  where
    by_behind : (c : Bool) → is_behind first leaf ≡ c → cond c (nat_lt 0 leaf.count && nat_le (array_end leaf) room) (is_beside m first taken leaf) ≡ true
        → (is_behind first leaf ≡ true) ⊎ ((leaf.stride ≡ first.stride) × (leaf.count ≡ first.count) × (taken ≤ leaf.offset) × (leaf_end m leaf ≤ first.offset + first.stride) × (is_behind first leaf ≡ false))
    by_behind true f t = inl f
    by_behind false f t =
        let p = and_parts ((leaf.stride == first.stride) && (leaf.count == first.count)) (nat_le taken leaf.offset && nat_le (leaf_end m leaf) (first.offset + first.stride)) t in
        let q = and_parts (leaf.stride == first.stride) (leaf.count == first.count) p.0 in
        let r = and_parts (nat_le taken leaf.offset) (nat_le (leaf_end m leaf) (first.offset + first.stride)) p.1 in
        inr (eqb-true leaf.stride first.stride q.0, eqb-true leaf.count first.count q.1, leb-true taken leaf.offset r.0, leb-true (leaf_end m leaf) (first.offset + first.stride) r.1, f)

-- a number has one turn and one rest
same_rest : (p q s a c : ℕ) → a < s → c < s → p * s + a ≡ q * s + c → a ≡ c
same_rest p q s a c h k e = sym (mod-mul-add p s a h) ∙ ap (λ z. z % s) e ∙ mod-mul-add q s c k

-- what is used of a group lies below its end
used_below : (first : Leaf) (taken x : ℕ) → taken ≤ first.offset + first.stride → IsUsed first taken x → x < array_end first ⊎ (x < first.offset)
used_below first taken x t (inl h) = inr h
used_below first taken x t (inr g) =
    let w = g.within in
    let l = mul-add-lt g.turn first.stride g.rest first.count g.among (omega arith) in
    let e = g.at in
    inl (omega arith)

module _ (m : Model) (x : ℕ) where
  -- one leaf more
  record Taken (first : Leaf) (taken : ℕ) (leaf : Leaf) (c d : ℕ) : Type 0 where
    few : c + d ≤ 1
    used : 0 < c + d → IsUsed (first_of first leaf) (leaf_end m leaf) x

  behind_taken : (first : Leaf) (taken : ℕ) (leaf : Leaf) → is_behind first leaf ≡ true → first.offset ≤ taken → taken ≤ first.offset + first.stride → (c d : ℕ) → c ≤ 1 → (0 < c → IsUsed first taken x) → (d ≡ 0) ⊎ ((d ≡ 1) × Covers leaf (class_bytes m leaf.class) x) → Taken first taken leaf c d
  behind_taken first taken leaf h lo hi c d k u v =
      let first_is : first_of first leaf ≡ leaf = ap (λ b. cond b leaf first) h in
      let end = leb-true (array_end first) leaf.offset h in
      let before : 0 < c → x < leaf.offset = λ (q : 0 < c). elim (used_below first taken x hi (u q)) [ inl z ↦ omega arith | inr z ↦ omega arith ] in
      elim v [
        | inl z ↦ record { few = omega arith; used = λ q. subst (λ g. IsUsed g (leaf_end m leaf) x) (sym first_is) (inl (before (omega arith))) }
        | inr z ↦ (let cover = z.1 in
            let at = cover.at in
            let none : c ≡ 0 = elim (cases_lt 0 c) [ inl q ↦ absurd (let b = before q in omega arith) | inr q ↦ omega arith ] in
            let w = cover.within in
            record { few = (let e = z.0 in omega arith); used = λ q. subst (λ g. IsUsed g (leaf_end m leaf) x) (sym first_is) (inr (record { turn = cover.turn; rest = cover.rest; at = at; among = cover.among; within = omega arith })) })
      ]

  beside_taken : (first : Leaf) (taken : ℕ) (leaf : Leaf) → is_behind first leaf ≡ false → leaf.stride ≡ first.stride → leaf.count ≡ first.count → taken ≤ leaf.offset → leaf_end m leaf ≤ first.offset + first.stride → first.offset ≤ taken → (c d : ℕ) → c ≤ 1 → (0 < c → IsUsed first taken x) → (d ≡ 0) ⊎ ((d ≡ 1) × Covers leaf (class_bytes m leaf.class) x) → Taken first taken leaf c d
  beside_taken first taken leaf h es ec t end lo c d k u v =
      let first_is : first_of first leaf ≡ first = ap (λ b. cond b leaf first) h in
      let kept : 0 < c → IsUsed first (leaf_end m leaf) x = λ (q : 0 < c). elim (u q) [
        | inl z ↦ inl z
        | inr z ↦ (let w = z.within in inr (record { turn = z.turn; rest = z.rest; at = z.at; among = z.among; within = omega arith }))
      ] in
      elim v [
        | inl z ↦ record { few = omega arith; used = λ q. subst (λ g. IsUsed g (leaf_end m leaf) x) (sym first_is) (kept (omega arith)) }
        | inr z ↦ (let cover = z.1 in
            let at = cover.at in
            let w = cover.within in
            let same : cover.turn * leaf.stride ≡ cover.turn * first.stride = ap (λ s. cover.turn * s) es in
            let here : x ≡ first.offset + (cover.turn * first.stride + ((leaf.offset - first.offset) + cover.rest)) = omega arith in
            let none : c ≡ 0 = elim (cases_lt 0 c) [
              | inl q ↦ absurd (elim (u q) [
                | inl y ↦ omega arith
                | inr y ↦ (let b = y.within in let a = y.at in
                    let r = same_rest y.turn cover.turn first.stride y.rest ((leaf.offset - first.offset) + cover.rest) (omega arith) (omega arith) (omega arith) in omega arith)
              ])
              | inr q ↦ omega arith
            ] in
            let among = cover.among in
            record { few = (let e = z.0 in omega arith); used = λ q. subst (λ g. IsUsed g (leaf_end m leaf) x) (sym first_is) (inr (record { turn = cover.turn; rest = (leaf.offset - first.offset) + cover.rest; at = here; among = omega arith; within = omega arith })) })
      ]

  one_taken : (first : Leaf) (taken : ℕ) (leaf : Leaf) → IsApart m first taken leaf → first.offset ≤ taken → taken ≤ first.offset + first.stride → (c d : ℕ) → c ≤ 1 → (0 < c → IsUsed first taken x) → (d ≡ 0) ⊎ ((d ≡ 1) × Covers leaf (class_bytes m leaf.class) x) → Taken first taken leaf c d
  one_taken first taken leaf p lo hi c d k u v = elim (p.place) [
    | inl h ↦ behind_taken first taken leaf h lo hi c d k u v
    | inr h ↦ beside_taken first taken leaf h.4 h.0 h.1 h.2 h.3 lo c d k u v
  ]

  -- the group behind one leaf more
  next_lo : (first : Leaf) (taken : ℕ) (leaf : Leaf) → IsApart m first taken leaf → first.offset ≤ taken → (first_of first leaf).offset ≤ leaf_end m leaf
  next_lo first taken leaf p lo = elim (p.place) [
    | inl h ↦ subst (λ (g : Leaf). g.offset ≤ leaf_end m leaf) (sym (ap (λ b. cond b leaf first) h)) (omega arith)
    | inr h ↦ subst (λ (g : Leaf). g.offset ≤ leaf_end m leaf) (sym (ap (λ b. cond b leaf first) h.4)) (let t = h.2 in omega arith)
  ]

  next_hi : (first : Leaf) (taken : ℕ) (leaf : Leaf) → IsApart m first taken leaf → leaf_end m leaf ≤ (first_of first leaf).offset + (first_of first leaf).stride
  next_hi first taken leaf p = elim (p.place) [
    | inl h ↦ subst (λ (g : Leaf). leaf_end m leaf ≤ g.offset + g.stride) (sym (ap (λ b. cond b leaf first) h)) (let f = p.fits in omega arith)
    | inr h ↦ subst (λ (g : Leaf). leaf_end m leaf ≤ g.offset + g.stride) (sym (ap (λ b. cond b leaf first) h.4)) h.3
  ]

  leaf_covers : is_model m ≡ true → (first : Leaf) (taken : ℕ) (leaf : Leaf) → IsApart m first taken leaf → (bytes_below m leaf (x + 1) - bytes_below m leaf x ≡ 0) ⊎ ((bytes_below m leaf (x + 1) - bytes_below m leaf x ≡ 1) × Covers leaf (class_bytes m leaf.class) x)
  leaf_covers model first taken leaf p =
      let e = same_bytes m model leaf.class in
      subst (λ size. (bytes_below m leaf (x + 1) - bytes_below m leaf x ≡ 0) ⊎ ((bytes_below m leaf (x + 1) - bytes_below m leaf x ≡ 1) × Covers leaf size x)) (sym e) (leaf_step m leaf (some_bytes m leaf.class) (subst (λ size. size ≤ leaf.stride) e p.fits) p.few x)

  by_byte : is_model m ≡ true → (room at : ℕ) (first : Leaf) (taken : ℕ) (leaves : List Leaf) → are_apart m room first taken leaves ≡ true → first.offset ≤ taken → taken ≤ first.offset + first.stride → (c : ℕ) → c ≤ 1 → (0 < c → IsUsed first taken x) → walk (covered_more m x (x + 1)) at leaves c ≤ 1
  by_byte model room at first taken [] h lo hi c k u = k
  by_byte model room at first taken (leaf ∷ leaves) h lo hi c k u =
      let a = and_parts (follows m room first taken leaf) (are_apart m room (first_of first leaf) (leaf_end m leaf) leaves) h in
      let p = apart_parts m room first taken leaf a.0 in
      let t = one_taken first taken leaf p lo hi c (bytes_below m leaf (x + 1) - bytes_below m leaf x) k u (leaf_covers model first taken leaf p) in
      let e : covered_more m x (x + 1) leaf at c ≡ c + (bytes_below m leaf (x + 1) - bytes_below m leaf x) = (let f = t.few in omega arith) in
      by_byte model room (at + 1) (first_of first leaf) (leaf_end m leaf) leaves a.1 (next_lo first taken leaf p lo) (next_hi first taken leaf p) (covered_more m x (x + 1) leaf at c) (let f = t.few in omega arith) (λ q. t.used (omega arith))

pub bytes_apart : (m : Model) → is_model m ≡ true → (room : ℕ) (leaves : List Leaf) → are_leaves m room leaves ≡ true → IsByByte m leaves
bytes_apart m model room leaves h x = by_byte m x model room 0 nowhere 0 leaves h (omega arith) (omega arith) 0 (omega arith) (λ q. absurd (omega arith))
