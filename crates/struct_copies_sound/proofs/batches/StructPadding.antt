-- A byte of a struct that is of no leaf is seen as padding in the target.
use Rattle.std.proofs.Common.{◌≡◌, ℕ, zero, suc, ◌+◌, ◌-◌, ◌*◌, ◌<◌, ◌≤◌, true, false, not, Some, None, List, [], ◌∷◌, length, arith, subst, sym, refl, ap, ◌∙◌, inl, inr, ◌⊎◌}
use Rattle.std.specs.Prelude.{slice_get, nat_lt, nat_le, ◌==◌, max, min}
use Rattle.std.proofs.lemmas.Bool.{cases_lt, and_parts, and_from, ltb-true, lt-ltb, le-leb, le-ltb, ne_eqb, cond-true, cond-false}
use Rattle.std.proofs.lemmas.Option.{same_Some}
use Rattle.c_layout.specs.declared.data_model.Model.{Model}
use Rattle.c_layout.specs.declared.leaf_lists.Leaf.{Leaf}
use Rattle.c_layout.specs.declared.shapes.BaseInfo.{BaseInfo}
use Rattle.c_layout.specs.declared.shapes.BaseKind.TheVariants.{Static}
use Rattle.cfg.specs.declared.programs.Flow.{Flow}
use Rattle.store_cells.specs.declared.access_windows.Window.{Window}
use Rattle.store_cells.specs.AccessWindows.{window_between}
use Rattle.store.specs.LeafSelection.{bytes_below, covered_more, covered_bytes, window_end, meets_padding}
use Rattle.store_cells.specs.RowPositions.{capped}
use Rattle.store_cells.specs.Walks.{walk, turns}
use Rattle.memory_model.specs.Memory.ScalarSizes.{class_bytes}
use Rattle.memory_model.specs.Memory.Instances.{Memory}
use Rattle.memory_model.specs.Memory.Tags.{tag_at}
use Rattle.store_monotone.proofs.shapes.LeafBytes.{Covers, leaf_step, few_bytes}
use Rattle.store_sound.specs.Concretization.Places.{OwnedByLeaf}
use Rattle.store_sound.specs.Concretization.ValueMeaning.{Naming}
use Rattle.store_sound.specs.Operations.Shapes.{IsShaped, AreShaped, CountsOnce}
use Rattle.store_sound.proofs.operations.Classes.{class_above}
use Rattle.store_sound.proofs.operations.Padding.{padding_seen}
use Rattle.store_structs.specs.LeafNumbers.{struct_leaf}
use Rattle.store_structs.specs.PaddingWrites.{Padded, covered_by, covered_leaf, leaf_bytes, is_padded_in, padded_met, has_padding_in, has_padding, padding_meets, place_of, place_padded, meets_leaf}
use Rattle.store_struct_leaves.proofs.Somewhere.{somewhere}
use Rattle.struct_copies_sound.proofs.leaves.Copies.{Copied}
use Rattle.struct_copies_sound.proofs.leaves.ReadCells.{place_near}
use Rattle.struct_copies_sound.specs.Leaves.StructLeaves.{IsFew, IsPlain, IsStruct}

-- ---- each byte of the struct is counted once

module _ (m : Model) (leaves : List Leaf) (size : ℕ) (h : IsStruct m leaves size) where
  -- a leaf before a number that has the byte
  record HasByte (x before : ℕ) : Type 0 where
    number : ℕ
    below : number < before
    leaf : Leaf
    is : slice_get leaves number ≡ Some leaf
    rest : ℕ
    byte : OwnedByLeaf m leaf x rest

  owned_of : (leaf : Leaf) (x : ℕ) (c : Covers leaf (class_bytes m leaf.class) x) → OwnedByLeaf m leaf x c.rest
  owned_of leaf x c =
      let at = c.at in
      let e : leaf.stride * c.turn ≡ c.turn * leaf.stride = omega arith in
      record { start = leaf.offset + leaf.stride * c.turn; place = record { turn = c.turn; few = c.among; there = refl }; there = omega (arith, at, e); small = c.within }

  covers_one : (leaf : Leaf) (x : ℕ) → IsPlain m leaf → (bytes_below m leaf (x + 1) - bytes_below m leaf x ≡ 0) ⊎ ((bytes_below m leaf (x + 1) - bytes_below m leaf x ≡ 1) × Covers leaf (class_bytes m leaf.class) x)
  covers_one leaf x p = leaf_step m leaf (class_above m leaf.class) p.fits p.few x

  few_from : (x at : ℕ) (rest : List Leaf) (c : ℕ) → ((j : ℕ) → slice_get rest j ≡ slice_get leaves (at + j)) → c ≤ 1 → (0 < c → HasByte x at) → walk (covered_more m x (x + 1)) at rest c ≤ 1
  few_from x at [] c same few held = few
  few_from x at (leaf ∷ rest) c same few held =
      let here : slice_get leaves at ≡ Some leaf = ap (slice_get leaves) (let e : at ≡ at + 0 = omega arith in e) ∙ sym (same 0) in
      few_from x (at + 1) rest (covered_more m x (x + 1) leaf at c) (λ j. same (suc j) ∙ ap (slice_get leaves) (let e : at + suc j ≡ (at + 1) + j = omega arith in e))
      (step here (covers_one leaf x (h.plain at leaf here)))
      (held_then here (covers_one leaf x (h.plain at leaf here)))
    where
      step : slice_get leaves at ≡ Some leaf → (bytes_below m leaf (x + 1) - bytes_below m leaf x ≡ 0) ⊎ ((bytes_below m leaf (x + 1) - bytes_below m leaf x ≡ 1) × Covers leaf (class_bytes m leaf.class) x) → covered_more m x (x + 1) leaf at c ≤ 1
      step here (inl none) = omega (arith, none, few)
      step here (inr p) = elim (cases_lt 0 c) [
        | inr z ↦ (let one = p.0 in omega (arith, z, one))
        | inl z ↦ (let b = held z in
            let below = b.below in
            let same_leaf = h.one b.number at x b.rest p.1.rest b.leaf leaf b.is here b.byte (owned_of leaf x p.1) in
            absurd (omega (arith, below, same_leaf)))
      ]

      held_then : slice_get leaves at ≡ Some leaf → (bytes_below m leaf (x + 1) - bytes_below m leaf x ≡ 0) ⊎ ((bytes_below m leaf (x + 1) - bytes_below m leaf x ≡ 1) × Covers leaf (class_bytes m leaf.class) x) → 0 < covered_more m x (x + 1) leaf at c → HasByte x (at + 1)
      held_then here (inl none) some = let b = held (omega (arith, none, some)) in let below = b.below in record { number = b.number; below = omega (arith, below); leaf = b.leaf; is = b.is; rest = b.rest; byte = b.byte }
      held_then here (inr p) some = record { number = at; below = omega arith; leaf = leaf; is = here; rest = p.1.rest; byte = owned_of leaf x p.1 }

  once : (x : ℕ) → covered_bytes m leaves x (x + 1) ≤ 1
  once x = few_from x 0 leaves 0 (λ j. ap (slice_get leaves) (let e : j ≡ 0 + j = omega arith in e)) (omega arith) (λ z. absurd (omega (arith, z)))

  -- an object of the struct's leaves
  abbrev object : BaseInfo
  object = record { kind = Static; size = size; first = 0; shape = record { cells = leaves; zeros = []; heap = false } }

  only : (b : ℕ) (base : BaseInfo) → slice_get (object ∷ []) b ≡ Some base → object ≡ base
  only zero base e = same_Some object base e
  only (suc b) base e = cc

  object_shaped : AreShaped (object ∷ [])
  object_shaped = record {
    few = omega arith;
    each = λ b base e. subst IsShaped (only b base e) (record {
      kind = refl;
      strides = λ j leaf g. let p = (h.plain j leaf g).fits in let a = class_above m leaf.class in omega (arith, p, a);
      single = λ (z : false ≡ true). absurd (cc);
      apart = λ (z : false ≡ true). absurd (cc);
    });
  }

  pub seen : (w : Window) (d : ℕ) → w.lo ≤ d → d ≤ w.hi → d < size → tag_at m leaves d ≡ None → meets_padding m leaves w size ≡ true
  seen w d from to inside none = padding_seen m (object ∷ []) object_shaped (λ b base e. subst (CountsOnce m) (only b base e) once) 0 object w d refl refl from to inside none

-- ---- leaves by number

module _ {flow : Flow} {naming : Naming} {old new : Memory} (k : Copied flow naming old new) where
  abbrev pub pad : Padded
  pad = record { structs = k.structs; pointer = flow.model.pointer; index = k.index; size = k.size; leaves = length k.leaves; start = k.to }

  counted : (lo end at : ℕ) (rest : List Leaf) → ((j : ℕ) → slice_get rest j ≡ struct_leaf k.structs flow.model.pointer k.index (at + j)) → (here : ℕ) → walk (covered_more flow.model lo end) here rest (turns (covered_leaf flow.model pad lo end) at 0) ≡ turns (covered_leaf flow.model pad lo end) (at + length rest) 0
  counted lo end at [] same here = ap (λ z. turns (covered_leaf flow.model pad lo end) z 0) (let e : at ≡ at + 0 = omega arith in e)
  counted lo end at (leaf ∷ rest) same here =
      let is : Some leaf ≡ struct_leaf k.structs flow.model.pointer k.index at = same 0 ∙ ap (struct_leaf k.structs flow.model.pointer k.index) (let e : at + 0 ≡ at = omega arith in e) in
      let step : covered_more flow.model lo end leaf here (turns (covered_leaf flow.model pad lo end) at 0) ≡ turns (covered_leaf flow.model pad lo end) (suc at) 0 = ap (λ z. covered_by flow.model lo end z (turns (covered_leaf flow.model pad lo end) at 0)) is in
      ap (λ z. walk (covered_more flow.model lo end) (here + 1) rest z) step
      ∙ (counted lo end (suc at) rest (λ j. same (suc j) ∙ ap (struct_leaf k.structs flow.model.pointer k.index) (let e : at + suc j ≡ suc at + j = omega arith in e)) (here + 1)
      ∙ ap (λ z. turns (covered_leaf flow.model pad lo end) z 0) (let e : suc at + length rest ≡ at + suc (length rest) = omega arith in e))

  module _ (d : ℕ) (inside : d < k.size) (none : tag_at flow.model k.leaves d ≡ None) where
    padded : (lo hi : ℕ) → lo ≤ d → d ≤ hi → hi < k.size → is_padded_in flow.model pad (window_between lo hi) ≡ true
    unfolding leaf_bytes
    padded lo hi from to below =
        let small = k.struct.small in
        let s = and_parts (nat_lt lo k.size) _ (seen flow.model k.leaves k.size k.struct (window_between lo hi) d from to inside none) in
        let less = ltb-true (covered_bytes flow.model k.leaves lo (window_end (window_between lo hi) k.size)) (window_end (window_between lo hi) k.size - lo) s.1 in
        let end : window_end (window_between lo hi) k.size ≡ hi + 1 = omega (arith, below) in
        let cap : capped (hi + 1) ≡ hi + 1 = omega (arith, below, small) in
        let bytes : covered_bytes flow.model k.leaves lo (hi + 1) ≡ turns (covered_leaf flow.model pad lo (hi + 1)) (length k.leaves) 0 =
        counted lo (hi + 1) 0 k.leaves (λ j. k.numbered j ∙ ap (struct_leaf k.structs flow.model.pointer k.index) (let e : j ≡ 0 + j = omega arith in e)) 0
        ∙ ap (λ z. turns (covered_leaf flow.model pad lo (hi + 1)) z 0) (let e : 0 + length k.leaves ≡ length k.leaves = omega arith in e) in
        let less2 : covered_bytes flow.model k.leaves lo (hi + 1) < (hi + 1) - lo = subst (λ z. covered_bytes flow.model k.leaves lo z < z - lo) end less in
        let less3 : turns (covered_leaf flow.model pad lo (capped (hi + 1))) (length k.leaves) 0 < capped ((hi - lo) + 1) =
        subst (λ z. turns (covered_leaf flow.model pad lo z) (length k.leaves) 0 < capped ((hi - lo) + 1)) (sym cap) (omega (arith, bytes, less2, below, small, from, to)) in
        and_from (not (k.size == 0)) _ (ap not (ne_eqb k.size 0 (λ z. omega (arith, z, inside)))) (lt-ltb _ _ less3)

    met : (w : Window) → w.lo ≤ d → d ≤ w.hi → has_padding_in flow.model pad w ≡ true
    unfolding has_padding_in
    met w from to =
        let lo : ℕ = max w.lo 0 in
        let hi : ℕ = min w.hi (k.size - 1) in
        let order : nat_le (max w.lo 0) (min w.hi (k.size - 1)) ≡ true = le-leb _ _ (omega (arith, from, to, inside)) in
        subst (λ z. padded_met flow.model pad z ≡ true) (sym (cond-true (nat_le (max w.lo 0) (min w.hi (k.size - 1))) (Some (window_between (max w.lo 0) (min w.hi (k.size - 1)))) None order))
        (padded (max w.lo 0) (min w.hi (k.size - 1)) (omega (arith, from)) (omega (arith, to, inside)) (omega (arith, inside)))

    pub some_padding : has_padding flow.model pad ≡ true
    unfolding has_padding
    some_padding = met (window_between 0 (k.size - 1)) (omega arith) (omega (arith, inside))

    pub padding_at : (lo hi : ℕ) → lo ≤ k.offset + d → k.offset + d ≤ hi → padding_meets flow.model pad lo hi ≡ true
    unfolding padding_meets
    padding_at lo hi from to =
        let t = k.target_side in
        let a = t.lo in
        let b = t.hi in
        cond-false (nat_lt hi k.to.lo) false (has_padding_in flow.model pad (window_between (lo - k.to.hi) (hi - k.to.lo))) (le-ltb hi k.to.lo (omega (arith, a, to)))
        ∙ met (window_between (lo - k.to.hi) (hi - k.to.lo)) (omega (arith, from, b)) (omega (arith, to, a))

    -- a leaf of the target with a byte there is met
    pub leaf_met : (leaf : Leaf) (m : ℕ) → IsFew leaf → OwnedByLeaf flow.model leaf (k.offset + d) m → meets_leaf flow.model pad leaf ≡ true
    unfolding meets_leaf
    leaf_met leaf m few own =
        let p = own.place in
        let there = p.there in
        let at = own.there in
        let small = own.small in
        let near = place_near leaf own.start few p in
        let eight = few_bytes flow.model leaf.class in
        let e : leaf.stride * p.turn ≡ p.turn * leaf.stride = omega arith in
        let place : place_of leaf p.turn ≡ own.start = omega (arith, there, e, near) in
        somewhere (place_padded flow.model pad leaf) leaf.count p.turn p.few (padding_at (place_of leaf p.turn) (capped (place_of leaf p.turn + (class_bytes flow.model leaf.class - 1))) (omega (arith, place, at)) (omega (arith, place, at, small, near, eight)))
