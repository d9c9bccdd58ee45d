-- Spans of one offset: a leaf of one place of a struct that begins at one offset reaches the leaf there and no other one.
use Rattle.std.proofs.Common.{◌≡◌, ℕ, suc, ◌+◌, ◌-◌, ◌*◌, ◌<◌, ◌≤◌, ◌^◌, Bool, true, false, cond, not, ◌&&◌, Some, List, arith, sym, refl, ap, ◌∙◌, inl, inr}
use Rattle.std.specs.Prelude.{slice_get, nat_le, nat_lt, ◌==◌}
use Rattle.std.proofs.lemmas.Bool.{cases_Bool, and_parts, leb-true, ltb-true, true≢false}
use Rattle.std.proofs.lemmas.Option.{same_Some}
use Rattle.c_layout.specs.declared.data_model.Model.{Model}
use Rattle.c_layout.specs.declared.leaf_lists.Class.{Class}
use Rattle.c_layout.specs.declared.leaf_lists.Class.TheVariants.{Char}
use Rattle.c_layout.specs.declared.leaf_lists.Leaf.{Leaf}
use Rattle.c_layout.specs.declared.shapes.BaseInfo.{BaseInfo}
use Rattle.store_cells.specs.ScalarTypes as table
use Rattle.store_cells.specs.ClassNumbers.{same_class}
use Rattle.store_cells.specs.AccessWindows.{window_between}
use Rattle.store.specs.LeafSelection.{has_place_in, is_selected, meets_padding}
use Rattle.store_cells.specs.RowPositions.{capped}
use Rattle.memory_model.specs.Memory.ScalarSizes.{class_bytes}
use Rattle.store_sound.proofs.operations.Classes.{class_above, is_same_class}
use Rattle.store_sound.proofs.operations.Selected.{single_in}
use Rattle.store_struct_leaves.specs.CopyPlaces.{any_below, span_of_leaf, is_apart, all_in_one, span_joined, span_raised, leaf_raised, span_window, joined_meet, meets, is_reached, is_touched}
use Rattle.store_struct_leaves.specs.LeafCopies.{window_padded, any_padded, span_meets_padding}
use Rattle.store_struct_leaves.specs.declared.copy_places.Span.{Span}
use Rattle.struct_copies_sound.specs.Leaves.StructLeaves.{IsStruct}
use Rattle.transfer_exact.proofs.places.OneLeaf.{same_size, owned, own_selected, other_unselected, no_padding}

-- one window alone
pub record IsOneWindow (s : Span) (lo hi : ℕ) : Type 0 where
  pub lower : s.first.lo ≡ lo
  pub upper : s.first.hi ≡ hi
  pub once : s.count ≡ 1

pub leaf_window : (leaf : Leaf) (start : ℕ) → leaf.count ≡ 1 → start + leaf.offset < 2 ^ 64 → IsOneWindow (span_of_leaf leaf (window_between start start)) (start + leaf.offset) (start + leaf.offset)
leaf_window leaf start once near = record { lower = omega (arith, near); upper = omega (arith, near); once = once }

module _ (s : Span) (lo hi : ℕ) (w : IsOneWindow s lo hi) (near : hi < 2 ^ 64) where
  joined_one : IsOneWindow (span_joined s) lo hi
  joined_one = by_apart (is_apart s)
    where
      by_apart : (c : Bool) → IsOneWindow (cond c s (all_in_one s)) lo hi
      by_apart true = w
      by_apart false =
          let none : (s.count - 1) * s.stride ≡ 0 = ap (λ z. (z - 1) * s.stride) w.once ∙ omega arith in
          let upper = w.upper in
          record { lower = w.lower; upper = omega (arith, none, upper, near); once = refl }

  meets_one : (own : Leaf) → meets own s ≡ has_place_in own (window_between lo hi)
  unfolding meets joined_meet
  meets_one own =
      let j = joined_one in
      let once : ((span_joined s).count == 1) ≡ true = ap (λ z. z == 1) j.once in
      rw once (λ i. has_place_in own (window_between (j.lower i) (j.upper i)))

  pub reached_is : (own : Leaf) (class : Class) → is_reached own class s ≡ is_selected own class (window_between lo hi)
  unfolding is_reached
  reached_is own class = ap (λ z. same_class own.class class && z) (meets_one own)

-- where the bytes of a leaf end in the window
raised_meets : (s : Span) (x k : ℕ) → IsOneWindow s x x → x + k < 2 ^ 64 → (own : Leaf) → meets (leaf_raised own k) (span_raised (span_joined s) k) ≡ has_place_in (leaf_raised own k) (window_between x (x + k))
raised_meets s x k w near own =
    let j = joined_one s x x w (omega (arith, near)) in
    let upper = j.upper in
    let r : IsOneWindow (span_raised (span_joined s) k) x (x + k) = record { lower = j.lower; upper = omega (arith, upper, near); once = j.once } in
    meets_one (span_raised (span_joined s) k) x (x + k) r near (leaf_raised own k)

module _ (m : Model) (leaves : List Leaf) (size : ℕ) (h : IsStruct m leaves size) (single : (j : ℕ) (leaf : Leaf) → slice_get leaves j ≡ Some leaf → leaf.count ≡ 1) (j : ℕ) (own : Leaf) (at : slice_get leaves j ≡ Some own) (s : Span) (w : IsOneWindow s own.offset own.offset) where
  -- leaves lie within 2^30 bytes
  leaf_near : (i : ℕ) (leaf : Leaf) → slice_get leaves i ≡ Some leaf → leaf.offset + class_bytes m leaf.class ≤ 2 ^ 31
  leaf_near i leaf e =
      let p = h.plain i leaf e in
      let above = class_above m leaf.class in
      let inside = h.inside i leaf.offset 0 leaf e (owned m leaves size h single i leaf.offset 0 leaf e (omega arith) above) in
      let small = h.small in
      let fits = p.fits in
      let near = p.near in
      let once = single i leaf e in
      let stride : leaf.count * leaf.stride ≡ 1 * leaf.stride = ap (λ z. z * leaf.stride) once in
      omega (arith, inside, small, fits, near, stride)

  here_near : own.offset < 2 ^ 64
  here_near = let k = leaf_near j own at in omega (arith, k)

  pub own_reached : is_reached own own.class s ≡ true
  own_reached = reached_is s own.offset own.offset w here_near own own.class ∙ own_selected m leaves size h single j own at

  pub other_unreached : (i : ℕ) (other : Leaf) → slice_get leaves i ≡ Some other → (i ≡ j → ⊥) → is_reached other own.class s ≡ false
  other_unreached i other e n = reached_is s own.offset own.offset w here_near other own.class ∙ other_unselected m leaves size h single j own at i other e n

  pub none_touched : own.class ≡ Char → (i : ℕ) (other : Leaf) → slice_get leaves i ≡ Some other → is_touched m other s ≡ false
  unfolding is_touched
  none_touched char i other e = elim (cases_Bool (is_touched m other s)) [
    | inr g ↦ g
    | inl g ↦ (let k : ℕ = table.class_bytes m other.class - 1 in
        let near = leaf_near i other e in
        let own_near = leaf_near j own at in
        let same = same_size m other.class in
        let p = and_parts (not (same_class other.class Char)) (meets (leaf_raised other k) (span_raised (span_joined s) k)) g in
        let there : has_place_in (leaf_raised other k) (window_between own.offset (own.offset + k)) ≡ true = sym (raised_meets s own.offset k w (omega (arith, near, own_near, same)) other) ∙ p.1 in
        let q = and_parts (nat_le own.offset (capped (other.offset + k))) (nat_lt (capped (other.offset + k)) (own.offset + suc ((own.offset + k) - own.offset))) (single_in (leaf_raised other k) (window_between own.offset (own.offset + k)) (single i other e) (omega arith) there) in
        let a = leb-true _ _ q.0 in
        let b = ltb-true _ _ q.1 in
        let above = class_above m other.class in
        let own_above = class_above m own.class in
        let one : i ≡ j = h.one i j own.offset (own.offset - other.offset) 0 other own e at
        (owned m leaves size h single i own.offset (own.offset - other.offset) other e (omega (arith, a, b, near, same, above)) (omega (arith, a, b, near, same, above)))
        (owned m leaves size h single j own.offset 0 own at (omega arith) own_above) in
        let leaf : other ≡ own = same_Some other own (sym e ∙ (ap (slice_get leaves) one ∙ at)) in
        let c : same_class other.class Char ≡ true = is_same_class other.class Char (ap (λ z. z.class) leaf ∙ char) in
        absurd (true≢false (sym p.0 ∙ ap not c)))
  ]

  pub no_span_padding : own.class ≡ Char → (base : BaseInfo) → base.shape.cells ≡ leaves → span_meets_padding m base s ≡ false
  unfolding span_meets_padding any_padded
  no_span_padding char base cells =
      let t = joined_one s own.offset own.offset w here_near in
      let near = here_near in
      let lower = t.lower in
      let upper = t.upper in
      let zero : 0 * (span_joined s).stride ≡ 0 = omega arith in
      let lo : (span_window (span_joined s) 0).lo ≡ own.offset = omega (arith, lower, near, zero) in
      let hi : (span_window (span_joined s) 0).hi ≡ own.offset = omega (arith, upper, near, zero) in
      ap (any_below (window_padded m base (span_joined s))) t.once
      ∙ ((λ i. meets_padding m (cells i) (window_between (lo i) (hi i)) base.size) ∙ no_padding m leaves size h single j own at char base.size)
