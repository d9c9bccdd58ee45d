-- Of well-formed leaves each byte is counted for one leaf at most.
use Rattle.std.proofs.Common.{false, suc, ◌≡◌, ℕ, ◌+◌, ◌-◌, ◌*◌, ◌/◌, ◌%◌, ◌<◌, ◌≤◌, Bool, true, cond, ◌&&◌, ◌||◌, Some, List, [], ◌∷◌, arith, refl, ap, ◌∙◌, inl, inr}
use Rattle.std.specs.Prelude.{nat_lt, nat_le, ◌==◌, min, slice_get, count_by}
use Rattle.std.proofs.lemmas.Bool.{cases_lt, and_parts, and_from, le-leb, lt-ltb, lt-leb, le-ltb, ltb-true, leb-true, or_from, or_left, ne_eqb, eqb-true, cases_Bool, cond-true, cond-false}
use Rattle.std.proofs.lemmas.Nat.{div-add-mod', div_below, le-div}
use Rattle.std.proofs.lemmas.List.Sums.{sum_by-cons}
use Rattle.std.proofs.Math.Nat.{mod-lt}
use Rattle.c_layout.specs.declared.data_model.Model.{Model}
use Rattle.c_layout.specs.declared.leaf_lists.Leaf.{Leaf}
use Rattle.c_layout.specs.Models.{is_model}
use Rattle.cfg.specs.ModelKinds as program
use Rattle.cfg.specs.BaseShapes.{is_stride, are_leaves}
use Rattle.cfg.specs.ApartLeaves.{HasByte}
use Rattle.memory_model.specs.Memory.ScalarSizes.{class_bytes}
use Rattle.store_cells.specs.Walks.{walk}
use Rattle.store_cells.specs.RowPositions.{capped}
use Rattle.store.specs.LeafSelection.{turn_bytes, bytes_behind, bytes_below, covered_more, covered_bytes}
use Rattle.store_sound.proofs.operations.Classes.{class_above}
use Rattle.store_sound.proofs.programs.Sizes.{same_bytes}
use Rattle.store_sound.proofs.programs.Leaves.{each_proper, one_owner}
use Rattle.store_sound.proofs.programs.Counts.{at_most_one}

-- ---- one leaf

abbrev bytes_to : ℕ → ℕ → ℕ → ℕ → ℕ
bytes_to size stride count x = cond (nat_lt (x / stride) count) (turn_bytes size (x / stride) (x % stride)) (capped (count * size))

in_turn : (size stride count x t : ℕ) → x / stride ≡ t → t < count → bytes_to size stride count x ≡ capped (capped (t * size) + min (x % stride) size)
in_turn size stride count x t e h = cond-true (nat_lt (x / stride) count) (turn_bytes size (x / stride) (x % stride)) (capped (count * size)) (lt-ltb (x / stride) count (omega (arith, e, h))) ∙ ap (λ y. capped (capped (y * size) + min (x % stride) size)) e

behind_turns : (size stride count x : ℕ) → count ≤ x / stride → bytes_to size stride count x ≡ capped (count * size)
behind_turns size stride count x h = cond-false (nat_lt (x / stride) count) (turn_bytes size (x / stride) (x % stride)) (capped (count * size)) (le-ltb (x / stride) count h)

-- up to the next byte there is one more at most, and none more where it is not the leaf's
next_byte : (size stride count d more : ℕ) → 0 < stride → size ≤ stride → (d / stride < count → d % stride < size → 1 ≤ more) → bytes_to size stride count (d + 1) ≤ bytes_to size stride count d + more
next_byte size stride count d more p wide h =
    let a = div-add-mod' d stride in
    let b : d % stride < stride = mod-lt d p in
    let c = div-add-mod' (d + 1) stride in
    let e : (d + 1) % stride < stride = mod-lt (d + 1) p in
    let t : ℕ = d / stride in
    let low : t ≤ (d + 1) / stride = le-div t (d + 1) stride p (omega (arith, a)) in
    elim (cases_lt t count) [
      | inr f ↦ (let x = behind_turns size stride count d f in let y = behind_turns size stride count (d + 1) (omega (arith, low, f)) in omega (arith, x, y))
      | inl f ↦ (let x = in_turn size stride count d t refl f in
          let own : (size ≤ d % stride → ⊥) → 1 ≤ more = λ n. h f (omega (arith, n)) in
          elim (cases_lt (d % stride + 1) stride) [
            | inl g ↦ (let k : (d + 1) / stride < t + 1 = div_below (d + 1) stride (t + 1) p (omega (arith, a, g)) in
                let i : (d + 1) / stride ≡ t = omega (arith, k, low) in
                let j : (d + 1) / stride * stride ≡ t * stride = ap (λ y. y * stride) i in
                let r : (d + 1) % stride ≡ d % stride + 1 = omega (arith, a, c, j) in
                let y = in_turn size stride count (d + 1) t i f in
                elim (cases_lt (d % stride) size) [
                  | inl u ↦ (let o = h f u in omega (arith, x, y, r, o))
                  | inr u ↦ omega (arith, x, y, r, u)
                ])
            | inr g ↦ (let k : (d + 1) / stride < t + 2 = div_below (d + 1) stride (t + 2) p (omega (arith, a, b)) in
                let m : t + 1 ≤ (d + 1) / stride = le-div (t + 1) (d + 1) stride p (omega (arith, a, g)) in
                let i : (d + 1) / stride ≡ t + 1 = omega (arith, k, m) in
                let j : (d + 1) / stride * stride ≡ (t + 1) * stride = ap (λ y. y * stride) i in
                let z : (t + 1) * size ≡ t * size + size = omega arith in
                let r : (d + 1) % stride ≡ 0 = omega (arith, a, b, c, g, j) in
                let more_or : size ≤ d % stride + more = elim (cases_lt (d % stride) size) [ inl u ↦ (let o = h f u in omega (arith, o, g, wide)) | inr u ↦ omega (arith, u) ] in
                elim (cases_lt (t + 1) count) [
                  | inl u ↦ (let y = in_turn size stride count (d + 1) (t + 1) i u in omega (arith, x, y, r, z, more_or))
                  | inr u ↦ (let v : count ≡ t + 1 = omega (arith, u, f) in
                      let o : count * size ≡ (t + 1) * size = ap (λ y. y * size) v in
                      let y = behind_turns size stride count (d + 1) (omega (arith, v, m)) in omega (arith, x, y, o, z, more_or))
                ])
          ])
    ]

none_at_start : (size stride count : ℕ) → 0 < stride → 0 < count → bytes_to size stride count 0 ≡ 0
none_at_start size stride count p some =
    let a = div_below 0 stride 1 p (omega (arith, p)) in
    let b = div-add-mod' 0 stride in
    let e : 0 / stride ≡ 0 = omega (arith, a) in
    let x = in_turn size stride count 0 0 e some in
    x ∙ omega (arith, b)

after_start : (m : Model) (leaf : Leaf) (x : ℕ) → 0 < leaf.stride → leaf.offset < x → bytes_below m leaf x ≡ bytes_to (class_bytes m leaf.class) leaf.stride leaf.count (x - leaf.offset)
after_start m leaf x p h =
    let z : (leaf.stride == 0) ≡ false = ne_eqb leaf.stride 0 (λ (e : leaf.stride ≡ 0). omega (arith, p, e)) in
    cond-false (nat_le x leaf.offset || leaf.stride == 0) 0 (bytes_behind m leaf (x - leaf.offset)) (or_from (nat_le x leaf.offset) (leaf.stride == 0) (lt-leb x leaf.offset h) z)

up_to_start : (m : Model) (leaf : Leaf) (x : ℕ) → x ≤ leaf.offset → bytes_below m leaf x ≡ 0
up_to_start m leaf x h = cond-true (nat_le x leaf.offset || leaf.stride == 0) 0 (bytes_behind m leaf (x - leaf.offset)) (or_left _ _ (le-leb x leaf.offset h))

-- whether a byte is one of the leaf's
abbrev owns : Model → ℕ → Leaf → Bool
owns m x leaf = nat_le leaf.offset x && (nat_lt ((x - leaf.offset) / leaf.stride) leaf.count && nat_lt ((x - leaf.offset) % leaf.stride) (class_bytes m leaf.class))

one_more : (m : Model) (leaf : Leaf) (x : ℕ) → 0 < leaf.stride → class_bytes m leaf.class ≤ leaf.stride → 0 < leaf.count → bytes_below m leaf (x + 1) ≤ bytes_below m leaf x + cond (owns m x leaf) 1 0
one_more m leaf x p wide some = elim (cases_lt x leaf.offset) [
  | inl e ↦ (let a = up_to_start m leaf (x + 1) (omega (arith, e)) in omega (arith, a))
  | inr e ↦ (let d : ℕ = x - leaf.offset in
      let size : ℕ = class_bytes m leaf.class in
      let own : d / leaf.stride < leaf.count → d % leaf.stride < size → 1 ≤ cond (owns m x leaf) 1 0 =
      λ f g. let o : owns m x leaf ≡ true = and_from _ _ (le-leb leaf.offset x e) (and_from _ _ (lt-ltb (d / leaf.stride) leaf.count f) (lt-ltb (d % leaf.stride) size g)) in rw o (omega arith) in
      let f = next_byte size leaf.stride leaf.count d (cond (owns m x leaf) 1 0) p wide own in
      let k : (x + 1) - leaf.offset ≡ d + 1 = omega (arith, e) in
      let a = after_start m leaf (x + 1) p (omega (arith, e)) ∙ ap (bytes_to size leaf.stride leaf.count) k in
      elim (cases_lt leaf.offset x) [
        | inl u ↦ (let b = after_start m leaf x p u in omega (arith, f, a, b))
        | inr u ↦ (let b : d ≡ 0 = omega (arith, u) in let c = ap (bytes_to size leaf.stride leaf.count) b ∙ none_at_start size leaf.stride leaf.count p some in omega (arith, f, a, c))
      ])
]

-- ---- all leaves

-- leaves that are as long as their strides ask, each with a place
pub record IsEven (m : Model) (leaf : Leaf) : Type 0 where
  pub stride : 0 < leaf.stride
  pub wide : class_bytes m leaf.class ≤ leaf.stride
  pub some : 0 < leaf.count

counted : (m : Model) (x at : ℕ) (leaves : List Leaf) (c : ℕ) → ((j : ℕ) (leaf : Leaf) → slice_get leaves j ≡ Some leaf → IsEven m leaf) → walk (covered_more m x (x + 1)) at leaves c ≤ c + count_by (owns m x) leaves
counted m x at [] c h = omega arith
counted m x at (leaf ∷ leaves) c h =
    let e = h 0 leaf refl in
    let a = one_more m leaf x e.stride e.wide e.some in
    let b : covered_more m x (x + 1) leaf at c ≤ c + cond (owns m x leaf) 1 0 = omega (arith, a) in
    let r = counted m x (at + 1) leaves (covered_more m x (x + 1) leaf at c) (λ j k f. h (suc j) k f) in
    let s = sum_by-cons (λ y. cond {A = ℕ} (owns m x y) 1 0) leaf leaves in
    omega (arith, b, r, s)

owned_byte : (m : Model) (x : ℕ) (leaf : Leaf) → is_model m ≡ true → owns m x leaf ≡ true → HasByte m leaf x
owned_byte m x leaf model h =
    let a = and_parts (nat_le leaf.offset x) (nat_lt ((x - leaf.offset) / leaf.stride) leaf.count && nat_lt ((x - leaf.offset) % leaf.stride) (class_bytes m leaf.class)) h in
    let b = and_parts (nat_lt ((x - leaf.offset) / leaf.stride) leaf.count) (nat_lt ((x - leaf.offset) % leaf.stride) (class_bytes m leaf.class)) a.1 in
    let from = leb-true leaf.offset x a.0 in
    let small = ltb-true ((x - leaf.offset) % leaf.stride) (class_bytes m leaf.class) b.1 in
    let split = div-add-mod' (x - leaf.offset) leaf.stride in
    let same = same_bytes m leaf.class model in
    record { place = (x - leaf.offset) / leaf.stride; is_one = ltb-true _ _ b.0; from = omega (arith, from, split); to = omega (arith, from, split, small, same) }

stride_even : (m : Model) (leaf : Leaf) → is_model m ≡ true → is_stride m leaf ≡ true → class_bytes m leaf.class ≤ leaf.stride
stride_even m leaf model h =
    let same = same_bytes m leaf.class model in
    elim (cases_Bool (leaf.count == 1)) [
      | inl e ↦ (let g : (leaf.stride == program.class_bytes m leaf.class) ≡ true = rw e at h in let k = eqb-true _ _ g in omega (arith, same, k))
      | inr e ↦ (let g : nat_le (program.class_bytes m leaf.class) leaf.stride ≡ true = rw e at h in let k = leb-true _ _ g in omega (arith, same, k))
    ]

pub each_even : (m : Model) (room : ℕ) (leaves : List Leaf) → is_model m ≡ true → are_leaves m room leaves ≡ true → (j : ℕ) (leaf : Leaf) → slice_get leaves j ≡ Some leaf → IsEven m leaf
each_even m room leaves model h j leaf e =
    let p = each_proper m room leaves h j leaf e in
    let wide = stride_even m leaf model p.stride in
    let above = class_above m leaf.class in
    record { stride = omega (arith, wide, above); wide = wide; some = p.some }

pub counted_once : (m : Model) (room : ℕ) (leaves : List Leaf) → is_model m ≡ true → are_leaves m room leaves ≡ true → (x : ℕ) → covered_bytes m leaves x (x + 1) ≤ 1
counted_once m room leaves model h x =
    let a = counted m x 0 leaves 0 (each_even m room leaves model h) in
    let b = at_most_one (owns m x) leaves (λ i k l o e f u v. one_owner m room leaves h i k l o e f x (owned_byte m x l model u) (owned_byte m x o model v)) in
    omega (arith, a, b)
