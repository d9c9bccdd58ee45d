-- A window that has an offset of no leaf's byte has more offsets than bytes of leaves, where no byte is counted twice.
use Rattle.std.proofs.Common.{◌≡◌, ℕ, zero, suc, ◌+◌, ◌-◌, ◌*◌, ◌/◌, ◌%◌, ◌<◌, ◌≤◌, Bool, true, false, cond, ◌&&◌, ◌||◌, Option, Some, None, List, [], ◌∷◌, arith, subst, sym, refl, ap, ◌∙◌, inl, inr}
use Rattle.std.specs.Prelude.{nat_lt, nat_le, ◌==◌, min, slice_get}
use Rattle.std.proofs.lemmas.Bool.{cases_lt, and_from, le-leb, lt-ltb, lt-leb, le-ltb, or_from, or_left, ne_eqb, cond-true, cond-false}
use Rattle.std.proofs.lemmas.Nat.{div-add-mod', div_below, le-div}
use Rattle.std.proofs.Math.Nat.{mod-lt}
use Rattle.c_layout.specs.declared.data_model.Model.{Model}
use Rattle.c_layout.specs.declared.leaf_lists.Leaf.{Leaf}
use Rattle.c_layout.specs.declared.shapes.BaseInfo.{BaseInfo}
use Rattle.store_cells.specs.Walks.{walk}
use Rattle.store_cells.specs.RowPositions.{capped}
use Rattle.store.specs.LeafSelection.{turn_bytes, bytes_behind, bytes_below, covered_more, covered_bytes, window_end}
use Rattle.memory_model.specs.Memory.ScalarSizes.{class_bytes}
use Rattle.memory_model.specs.Memory.Bytes.{Tag}
use Rattle.memory_model.specs.Memory.Tags.{distance_tag, leaf_tag, or_tag, tag_at}
use Rattle.store_sound.specs.Operations.Shapes.{AreShaped, CountsOnce, SeesPadding}

-- ---- one leaf

abbrev bytes_to : ℕ → ℕ → ℕ → ℕ → ℕ
bytes_to size stride count x = cond (nat_lt (x / stride) count) (turn_bytes size (x / stride) (x % stride)) (capped (count * size))

in_turn : (size stride count x t : ℕ) → x / stride ≡ t → t < count → bytes_to size stride count x ≡ capped (capped (t * size) + min (x % stride) size)
in_turn size stride count x t e h = cond-true (nat_lt (x / stride) count) (turn_bytes size (x / stride) (x % stride)) (capped (count * size)) (lt-ltb (x / stride) count (omega arith)) ∙ ap (λ y. capped (capped (y * size) + min (x % stride) size)) e

behind_turns : (size stride count x : ℕ) → count ≤ x / stride → bytes_to size stride count x ≡ capped (count * size)
behind_turns size stride count x h = cond-false (nat_lt (x / stride) count) (turn_bytes size (x / stride) (x % stride)) (capped (count * size)) (le-ltb (x / stride) count h)

-- behind a byte that is no leaf's there are no more bytes than before it
flat : (size stride count d : ℕ) → 0 < stride → (d / stride < count → size ≤ d % stride) → bytes_to size stride count (d + 1) ≤ bytes_to size stride count d
flat size stride count d p h =
    let a = div-add-mod' d stride in
    let b : d % stride < stride = mod-lt d p in
    let c = div-add-mod' (d + 1) stride in
    let e : (d + 1) % stride < stride = mod-lt (d + 1) p in
    let t : ℕ = d / stride in
    let low : t ≤ (d + 1) / stride = le-div t (d + 1) stride p (omega arith) in
    elim (cases_lt t count) [
      | inr f ↦ (let x = behind_turns size stride count d f in let y = behind_turns size stride count (d + 1) (omega arith) in omega arith)
      | inl f ↦ (let r = h f in
          let x = in_turn size stride count d t refl f in
          elim (cases_lt (d % stride + 1) stride) [
            | inl g ↦ (let k : (d + 1) / stride < t + 1 = div_below (d + 1) stride (t + 1) p (omega arith) in
                let i : (d + 1) / stride ≡ t = omega arith in
                let j : (d + 1) / stride * stride ≡ t * stride = ap (λ y. y * stride) i in
                let y = in_turn size stride count (d + 1) t i f in
                omega arith)
            | inr g ↦ (let k : (d + 1) / stride < t + 2 = div_below (d + 1) stride (t + 2) p (omega arith) in
                let m : t + 1 ≤ (d + 1) / stride = le-div (t + 1) (d + 1) stride p (omega arith) in
                let i : (d + 1) / stride ≡ t + 1 = omega arith in
                let j : (d + 1) / stride * stride ≡ (t + 1) * stride = ap (λ y. y * stride) i in
                let z : (t + 1) * size ≡ t * size + size = omega arith in
                elim (cases_lt (t + 1) count) [
                  | inl u ↦ (let y = in_turn size stride count (d + 1) (t + 1) i u in omega arith)
                  | inr u ↦ (let v : count ≡ t + 1 = omega arith in
                      let o : count * size ≡ (t + 1) * size = ap (λ y. y * size) v in
                      let y = behind_turns size stride count (d + 1) (omega arith) in omega arith)
                ])
          ])
    ]

none_test : (b : Bool) (t : Tag) → cond b (Some t) None ≡ None → b ≡ false
none_test true t h = let e : Some t ≡ None = h in cc
none_test false t h = refl

not_both : (t count r size : ℕ) → (nat_lt t count && nat_lt r size) ≡ false → t < count → size ≤ r
not_both t count r size h k = elim (cases_lt r size) [
  | inr e ↦ e
  | inl e ↦ (let f : (nat_lt t count && nat_lt r size) ≡ true = and_from _ _ (lt-ltb t count k) (lt-ltb r size e) in let g : true ≡ false = sym f ∙ h in cc)
]

untagged : (m : Model) (leaf : Leaf) (stride d : ℕ) → 0 < stride → distance_tag m leaf stride d ≡ None → d / stride < leaf.count → class_bytes m leaf.class ≤ d % stride
untagged m leaf zero d p h k = absurd (omega arith)
untagged m leaf (suc s) d p h k = not_both (d / suc s) leaf.count (d % suc s) (class_bytes m leaf.class) (none_test _ _ h) k

starts_with_none : (size stride count : ℕ) → 0 < stride → bytes_to size stride count 0 ≡ 0
starts_with_none size stride zero p = behind_turns size stride 0 0 (omega arith) ∙ omega arith
starts_with_none size stride (suc count) p =
    let a = div_below 0 stride 1 p (omega arith) in
    let b = div-add-mod' 0 stride in
    let e : 0 / stride ≡ 0 = omega arith in
    let x = in_turn size stride (suc count) 0 0 e (omega arith) in
    x ∙ omega arith

after_start : (m : Model) (leaf : Leaf) (x : ℕ) → 0 < leaf.stride → leaf.offset < x → bytes_below m leaf x ≡ bytes_to (class_bytes m leaf.class) leaf.stride leaf.count (x - leaf.offset)
after_start m leaf x p h =
    let z : (leaf.stride == 0) ≡ false = ne_eqb leaf.stride 0 (λ (e : leaf.stride ≡ 0). omega arith) in
    cond-false (nat_le x leaf.offset || leaf.stride == 0) 0 (bytes_behind m leaf (x - leaf.offset)) (or_from (nat_le x leaf.offset) (leaf.stride == 0) (lt-leb x leaf.offset h) z)

up_to_start : (m : Model) (leaf : Leaf) (x : ℕ) → x ≤ leaf.offset → bytes_below m leaf x ≡ 0
up_to_start m leaf x h = cond-true (nat_le x leaf.offset || leaf.stride == 0) 0 (bytes_behind m leaf (x - leaf.offset)) (or_left _ _ (le-leb x leaf.offset h))

none_more : (m : Model) (leaf : Leaf) (x : ℕ) → 0 < leaf.stride → leaf_tag m leaf x ≡ None → bytes_below m leaf (x + 1) ≤ bytes_below m leaf x
none_more m leaf x p h = elim (cases_lt x leaf.offset) [
  | inl e ↦ (let a = up_to_start m leaf (x + 1) (omega arith) in omega arith)
  | inr e ↦ (let d : ℕ = x - leaf.offset in
      let size : ℕ = class_bytes m leaf.class in
      let g : distance_tag m leaf leaf.stride d ≡ None = rw (le-leb leaf.offset x e) at h in
      let f = flat size leaf.stride leaf.count d p (untagged m leaf leaf.stride d p g) in
      let k : (x + 1) - leaf.offset ≡ d + 1 = omega arith in
      let a = after_start m leaf (x + 1) p (omega arith) ∙ ap (bytes_to size leaf.stride leaf.count) k in
      elim (cases_lt leaf.offset x) [
        | inl u ↦ (let b = after_start m leaf x p u in omega arith)
        | inr u ↦ (let b : d ≡ 0 = omega arith in let c = ap (bytes_to size leaf.stride leaf.count) b ∙ starts_with_none size leaf.stride leaf.count p in omega arith)
      ])
]

-- ---- all leaves

or_none : (a b : Option Tag) → or_tag a b ≡ None → (a ≡ None) × (b ≡ None)
or_none None b h = (refl, h)
or_none (Some t) b h = cc

no_bytes : (m : Model) (leaves : List Leaf) (x at : ℕ) → ((j : ℕ) (leaf : Leaf) → slice_get leaves j ≡ Some leaf → 0 < leaf.stride) → tag_at m leaves x ≡ None → walk (covered_more m x (x + 1)) at leaves 0 ≡ 0
no_bytes m [] x at p h = refl
no_bytes m (leaf ∷ leaves) x at p h =
    let r = or_none (leaf_tag m leaf x) (tag_at m leaves x) h in
    let a = none_more m leaf x (p 0 leaf refl) r.0 in
    let e : covered_more m x (x + 1) leaf at 0 ≡ 0 = omega arith in
    ap (λ c. walk (covered_more m x (x + 1)) (at + 1) leaves c) e ∙ no_bytes m leaves x (at + 1) (λ j k f. p (suc j) k f) r.1

saturated : (c d f x y z : ℕ) → c ≤ d + f → capped (c + (z - x)) ≤ capped (d + (y - x)) + capped (f + (z - y))
saturated c d f x y z h = omega arith

split_from : (m : Model) (a b e at : ℕ) (leaves : List Leaf) (c d f : ℕ) → c ≤ d + f → walk (covered_more m a e) at leaves c ≤ walk (covered_more m a b) at leaves d + walk (covered_more m b e) at leaves f
split_from m a b e at [] c d f h = h
split_from m a b e at (leaf ∷ leaves) c d f h = split_from m a b e (at + 1) leaves _ _ _ (saturated c d f (bytes_below m leaf a) (bytes_below m leaf b) (bytes_below m leaf e) h)

covered_split : (m : Model) (leaves : List Leaf) (a b e : ℕ) → covered_bytes m leaves a e ≤ covered_bytes m leaves a b + covered_bytes m leaves b e
covered_split m leaves a b e = split_from m a b e 0 leaves 0 0 0 (omega arith)

none_from : (m : Model) (a at : ℕ) (leaves : List Leaf) → walk (covered_more m a a) at leaves 0 ≡ 0
none_from m a at [] = refl
none_from m a at (leaf ∷ leaves) = ap (λ c. walk (covered_more m a a) (at + 1) leaves c) (let e : covered_more m a a leaf at 0 ≡ 0 = omega arith in e) ∙ none_from m a (at + 1) leaves

few_from : (m : Model) (leaves : List Leaf) → ((x : ℕ) → covered_bytes m leaves x (x + 1) ≤ 1) → (k a : ℕ) → covered_bytes m leaves a (a + k) ≤ k
few_from m leaves h zero a = let e : a + 0 ≡ a = omega arith in subst (λ z. covered_bytes m leaves a z ≤ 0) (sym e) (let f = none_from m a 0 leaves in omega arith)
few_from m leaves h (suc k) a =
    let s = covered_split m leaves a (a + k) ((a + k) + 1) in
    let r = few_from m leaves h k a in
    let x = h (a + k) in
    let e : a + suc k ≡ (a + k) + 1 = omega arith in
    subst (λ z. covered_bytes m leaves a z ≤ suc k) (sym e) (omega arith)

few : (m : Model) (leaves : List Leaf) → ((x : ℕ) → covered_bytes m leaves x (x + 1) ≤ 1) → (a e : ℕ) → a ≤ e → covered_bytes m leaves a e ≤ e - a
few m leaves h a e k = let f : a + (e - a) ≡ e = omega arith in subst (λ z. covered_bytes m leaves a z ≤ e - a) f (few_from m leaves h (e - a) a)

pub padding_seen : (m : Model) (bases : List BaseInfo) → AreShaped bases → ((b : ℕ) (base : BaseInfo) → slice_get bases b ≡ Some base → CountsOnce m base) → SeesPadding m bases
padding_seen m bases shaped once b base w x at heap from to inside tag =
    let leaves : List Leaf = base.shape.cells in
    let end : ℕ = window_end w base.size in
    let h = once b base at in
    let s = covered_split m leaves w.lo x end in
    let t = covered_split m leaves x (x + 1) end in
    let u = few m leaves h w.lo x from in
    let v = few m leaves h (x + 1) end (omega arith) in
    let n : covered_bytes m leaves x (x + 1) ≡ 0 = no_bytes m leaves x 0 ((shaped.each b base at).strides) tag in
    and_from _ _ (lt-ltb w.lo base.size (omega arith)) (lt-ltb (covered_bytes m leaves w.lo end) (end - w.lo) (omega arith))
