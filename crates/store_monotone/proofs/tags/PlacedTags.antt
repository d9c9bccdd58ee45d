-- Lists of leaves that stand at so many places, a stride apart.
use Rattle.std.proofs.Common.{◌≡◌, ℕ, zero, suc, ◌+◌, ◌-◌, ◌*◌, ◌/◌, ◌%◌, ◌<◌, ◌≤◌, Bool, true, false, cond, ◌&&◌, nat_le, nat_lt, List, [], ◌∷◌, ◌++◌, Option, Some, None, arith, ap, sym, subst, refl, inl, inr, ◌∙◌}
use Rattle.std.proofs.lemmas.Bool.{leb-true, leb-false, ltb-true, ltb-false, cases_lt}
use Rattle.std.proofs.lemmas.Nat.{div-mul-add, mod-mul-add, le-div, mul-le}
use Rattle.c_layout.specs.declared.data_model.Model.{Model}
use Rattle.c_layout.specs.declared.leaf_lists.Class.{Class}
use Rattle.c_layout.specs.declared.leaf_lists.Leaf.{Leaf}
use Rattle.c_layout.specs.Leaves.{repeated, leaf}
use Rattle.memory_model.specs.Memory.Bytes.{Tag}
use Rattle.memory_model.specs.Memory.ScalarSizes.{class_bytes}
use Rattle.memory_model.specs.Memory.Tags.{tag_of, stride_tag, distance_tag, leaf_tag, or_tag, tag_at}
use Rattle.store_monotone.specs.Tags.TypeTags.{shifted, repeated_tags, scalar_tags}
use Rattle.store_monotone.proofs.tags.RepeatedTags.{or_none, Ends, shifted_on, shifted_before, shifted_ends, repeated_ends, one_element, element_tags}
use Rattle.store_monotone.proofs.tags.LeafTags.{tag_append, AreTags}

module _ (m : Model) where
  -- the same tags at each place, and none before the first or behind the last one
  pub record ArePlaced (at stride count : ℕ) (tags : ℕ → Option Tag) (leaves : List Leaf) : Type 0 where
    pub on : (q r : ℕ) → q < count → r < stride → tag_at m leaves (at + (q * stride + r)) ≡ tags r
    pub before : (x : ℕ) → x < at → tag_at m leaves x ≡ None
    pub behind : (x : ℕ) → at + count * stride ≤ x → tag_at m leaves x ≡ None

  pub placed_as : (at stride count : ℕ) (f g : ℕ → Option Tag) (xs : List Leaf) → ((x : ℕ) → f x ≡ g x) → ArePlaced at stride count f xs → ArePlaced at stride count g xs
  placed_as at stride count f g xs e h = record { on = λ q r k l. h.on q r k l ∙ e r; before = h.before; behind = h.behind }

  pub placed_joined : (at stride count : ℕ) (f g : ℕ → Option Tag) (xs ys : List Leaf) → ArePlaced at stride count f xs → ArePlaced at stride count g ys → ArePlaced at stride count (λ x. or_tag (f x) (g x)) (xs ++ ys)
  placed_joined at stride count f g xs ys h k = record {
    on = λ q r a b. tag_append m xs ys (at + (q * stride + r)) ∙ (ap (λ o. or_tag o (tag_at m ys (at + (q * stride + r)))) (h.on q r a b) ∙ ap (or_tag (f r)) (k.on q r a b));
    before = λ x a. none x (h.before x a) (k.before x a);
    behind = λ x a. none x (h.behind x a) (k.behind x a);
  }
    where
      none : (x : ℕ) → tag_at m xs x ≡ None → tag_at m ys x ≡ None → tag_at m (xs ++ ys) x ≡ None
      none x a b = tag_append m xs ys x ∙ (ap (λ o. or_tag o (tag_at m ys x)) a ∙ b)

  -- within a stride, behind an offset
  pub placed_behind : (at stride count o size : ℕ) (f : ℕ → Option Tag) (xs : List Leaf) → Ends size f → o + size ≤ stride → ArePlaced (at + o) stride count f xs → ArePlaced at stride count (shifted o f) xs
  placed_behind at stride count o size f xs ends fits h = record {
    on = λ q r a b. by_test q r a b (nat_le o r) refl;
    before = λ x a. h.before x (omega (arith, a));
    behind = λ x a. elim (cases_lt x ((at + o) + count * stride)) [
      | inl k ↦ last count refl x a k
      | inr k ↦ h.behind x k
    ];
  }
    where
      wrapped : (q r : ℕ) → q < count → r < o → (p : ℕ) → q ≡ p → tag_at m xs (at + (q * stride + r)) ≡ None
      wrapped q r a b zero e =
          let z : q * stride ≡ 0 = ap (λ v. v * stride) e ∙ (omega arith) in
          h.before (at + (q * stride + r)) (omega (arith, z, b))
      wrapped q r a b (suc p) e =
          let z : q * stride ≡ stride + p * stride = ap (λ v. v * stride) e ∙ (grind arith) in
          let s : at + (q * stride + r) ≡ (at + o) + (p * stride + (stride + r - o)) = omega (arith, z, b, fits) in
          ap (tag_at m xs) s ∙ (h.on p (stride + r - o) (omega (arith, a, e)) (omega (arith, b, fits)) ∙ ends (stride + r - o) (omega (arith, b, fits)))

      by_test : (q r : ℕ) → q < count → r < stride → (c : Bool) → nat_le o r ≡ c → tag_at m xs (at + (q * stride + r)) ≡ shifted o f r
      by_test q r a b true e =
          let k = leb-true o r e in
          let s : at + (q * stride + r) ≡ (at + o) + (q * stride + (r - o)) = omega (arith, k) in
          ap (tag_at m xs) s ∙ (h.on q (r - o) a (omega (arith, b)) ∙ sym (shifted_on o f r k))
      by_test q r a b false e =
          let k = leb-false o r e in
          wrapped q r a k q refl ∙ sym (shifted_before o f r k)

      last : (c : ℕ) → count ≡ c → (x : ℕ) → at + count * stride ≤ x → x < (at + o) + count * stride → tag_at m xs x ≡ None
      last zero e x a k =
          let z : count * stride ≡ 0 = ap (λ v. v * stride) e ∙ (omega arith) in
          h.before x (omega (arith, z, k))
      last (suc p) e x a k =
          let z : count * stride ≡ stride + p * stride = ap (λ v. v * stride) e ∙ (grind arith) in
          let s : x ≡ (at + o) + (p * stride + (x - ((at + o) + p * stride))) = omega (arith, z, a, fits) in
          ap (tag_at m xs) s ∙ (h.on p (x - ((at + o) + p * stride)) (omega (arith, e)) (omega (arith, z, k, a, fits)) ∙ ends (x - ((at + o) + p * stride)) (omega (arith, z, a, fits)))

  pub placed_repeated : (stride count step : ℕ) (f : ℕ → Option Tag) (element : ℕ → List Leaf) → Ends step f → ((at : ℕ) → ArePlaced at stride count f (element at)) → (n at : ℕ) → n * step ≤ stride → ArePlaced at stride count (repeated_tags n step f) (repeated n at step element)
  placed_repeated stride count step f element ends each zero at fits = record { on = λ q r k l. refl; before = λ x k. refl; behind = λ x k. refl }
  placed_repeated stride count step f element ends each (suc n) at fits =
      let z : suc n * step ≡ step + n * step = grind arith in
      let rest = placed_repeated stride count step f element ends each n (at + step) (omega (arith, z, fits)) in
      let a = placed_joined at stride count f (shifted step (repeated_tags n step f)) (element at) (repeated n (at + step) step element) (each at)
      (placed_behind at stride count step (n * step) (repeated_tags n step f) (repeated n (at + step) step element) (repeated_ends n step f ends) (omega (arith, z, fits)) rest) in
      record { on = a.on; before = a.before; behind = a.behind }

  -- all places, one behind the other
  pub placed_tags : (at stride count : ℕ) (f : ℕ → Option Tag) (xs : List Leaf) → Ends stride f → ArePlaced at stride count f xs → AreTags m at (repeated_tags count stride f) xs
  placed_tags at stride count f xs ends h = record {
    on = λ x. elim (cases_lt x (count * stride)) [
      | inl k ↦ within stride refl x k
      | inr k ↦ h.behind (at + x) (omega (arith, k)) ∙ sym (repeated_ends count stride f ends x k)
    ];
    before = h.before;
  }
    where
      within : (s : ℕ) → stride ≡ s → (x : ℕ) → x < count * stride → tag_at m xs (at + x) ≡ repeated_tags count stride f x
      within zero e x k = absurd (let z : count * stride ≡ 0 = ap (λ v. count * v) e ∙ (omega arith) in omega (arith, z, k))
      within (suc s) e x k =
          let a : x ≡ x / suc s * suc s + x % suc s = omega arith in
          let b : x % suc s < suc s = omega arith in
          let r : x % suc s < stride = omega (arith, b, e) in
          let d : x ≡ x / suc s * stride + x % suc s = subst (λ v. x ≡ x / suc s * v + x % suc s) (sym e) a in
          let q : x / suc s < count = below (x / suc s) (x % suc s) x d k in
          ap (λ v. tag_at m xs (at + v)) d ∙ (h.on (x / suc s) (x % suc s) q r ∙ sym (ap (repeated_tags count stride f) d ∙ element_tags count stride f ends (x / suc s) (x % suc s) q r))
        where
          below : (q r x : ℕ) → x ≡ q * stride + r → x < count * stride → q < count
          below q r x e k = elim (cases_lt q count) [
            | inl l ↦ l
            | inr l ↦ absurd (let g : count * stride ≤ q * stride = mul-le count stride q stride l (omega arith) in omega (arith, g, e, k))
          ]

  -- ---- one leaf

  pub leaf_placed : (class : Class) (signed : Bool) (stride count at : ℕ) → 0 < class_bytes m class → class_bytes m class ≤ stride → ArePlaced at stride count (scalar_tags m class) (leaf at class signed (record { stride = stride; count = count }) ∷ [])
  leaf_placed class signed stride count at some fits = by_stride stride refl
    where
      l : Leaf
      l = leaf at class signed (record { stride = stride; count = count })

      behind_at : (x : ℕ) → at ≤ x → tag_at m (l ∷ []) x ≡ distance_tag m l stride (x - at)
      behind_at x k = by_test (nat_le at x) refl
        where
          by_test : (c : Bool) → nat_le at x ≡ c → or_tag (cond c (distance_tag m l stride (x - at)) None) None ≡ distance_tag m l stride (x - at)
          by_test true e = or_none (distance_tag m l stride (x - at))
          by_test false e = absurd (let z = leb-false at x e in omega (arith, z, k))

      before_at : (x : ℕ) → x < at → tag_at m (l ∷ []) x ≡ None
      before_at x k = by_test (nat_le at x) refl
        where
          by_test : (c : Bool) → nat_le at x ≡ c → or_tag (cond c (distance_tag m l stride (x - at)) None) None ≡ None
          by_test true e = absurd (let z = leb-true at x e in omega (arith, z, k))
          by_test false e = refl

      turn_tag : (turn rest : ℕ) → turn < count → stride_tag m l turn rest ≡ scalar_tags m class rest
      turn_tag turn rest k = by_test (nat_lt turn count) refl
        where
          by_test : (c : Bool) → nat_lt turn count ≡ c → cond (c && nat_lt rest (class_bytes m class)) (tag_of class rest) None ≡ cond (nat_lt rest (class_bytes m class)) (tag_of class rest) None
          by_test true e = refl
          by_test false e = absurd (let z = ltb-false turn count e in omega (arith, z, k))

      no_turn : (turn rest : ℕ) → count ≤ turn → stride_tag m l turn rest ≡ None
      no_turn turn rest k = by_test (nat_lt turn count) refl
        where
          by_test : (c : Bool) → nat_lt turn count ≡ c → cond (c && nat_lt rest (class_bytes m class)) (tag_of class rest) None ≡ None
          by_test true e = absurd (let z = ltb-true turn count e in omega (arith, z, k))
          by_test false e = refl

      by_stride : (s : ℕ) → stride ≡ s → ArePlaced at stride count (scalar_tags m class) (l ∷ [])
      by_stride zero e = absurd (omega (arith, e, some, fits))
      by_stride (suc s) e = record {
        on = λ q r k b.
            let c : (at + (q * stride + r)) - at ≡ q * suc s + r = ap (λ v. (at + (q * v + r)) - at) e ∙ (omega arith) in
            let d : r < suc s = omega (arith, b, e) in
            behind_at (at + (q * stride + r)) (omega arith)
            ∙ (ap (λ v. distance_tag m l v ((at + (q * stride + r)) - at)) e
            ∙ (ap (distance_tag m l (suc s)) c
            ∙ (ap (λ v. stride_tag m l v ((q * suc s + r) % suc s)) (div-mul-add q (suc s) r d)
            ∙ (ap (stride_tag m l q) (mod-mul-add q (suc s) r d)
            ∙ turn_tag q r k))));
        before = before_at;
        behind = λ x k.
            let c : count * suc s ≤ x - at = (let z = ap (λ v. count * v) e in omega (arith, k, z)) in
            behind_at x (omega (arith, k))
            ∙ (ap (λ v. distance_tag m l v (x - at)) e
            ∙ no_turn ((x - at) / suc s) ((x - at) % suc s) (le-div count (x - at) (suc s) (omega arith) c));
      }
