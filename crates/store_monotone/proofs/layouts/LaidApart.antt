-- Structs whose members stand apart share no bytes among their leaves.
use Rattle.std.specs.Prelude.{◌≡◌, ℕ, zero, suc, ◌+◌, ◌-◌, ◌^◌, ◌≤◌, ◌<◌, true, Option, Some, None, List, length, slice_get, refl, ◌⊎◌}
use Rattle.std.proofs.Common.{arith, sym, subst, inl, inr}
use Rattle.std.proofs.lemmas.Bool.{cases_lt}
use Rattle.std.proofs.lemmas.Option.{get_or_from_slice_get}
use Rattle.c_layout.specs.declared.data_model.Model.{Model}
use Rattle.c_layout.specs.declared.leaf_lists.Class.{Class}
use Rattle.c_layout.specs.declared.leaf_lists.Leaf.{Leaf}
use Rattle.c_layout.specs.Models.{is_model}
use Rattle.c_layout.specs.StructViews.{StructView, no_struct, struct_at}
use Rattle.cfg.specs.ModelKinds as flow
use Rattle.store.specs.LeafSelection.{bytes_below}
use Rattle.store_cells.specs.RowPositions.{capped}
use Rattle.store_cells.specs.Walks.{turns}
use Rattle.store_monotone.proofs.operations.Loads.{some_bytes}
use Rattle.store_monotone.proofs.shapes.LeafBytes.{Covers, same_bytes, leaf_step}
use Rattle.store_structs.specs.LeafNumbers.{folded_member, struct_leaf}
use Rattle.store_structs.specs.PaddingWrites.{Padded, covered_by, covered_leaf, leaf_bytes}
use Rattle.store_monotone.specs.Structs.SpreadStructs.{padded_in, IsSpread}
use Rattle.store_structs.specs.LaidApart.{are_laid_apart}
use Rattle.store_monotone.proofs.layouts.Extents.{AreExtents}
use Rattle.store_monotone.proofs.layouts.TypeExtents.{IsFolded, IsByte, folded_struct, struct_size}

module _ (m : Model) (model : is_model m ≡ true) (structs : List StructView) (apart : are_laid_apart m structs ≡ true) where
  class_some : (c : Class) → 0 < flow.class_bytes m c
  class_some c = let e = same_bytes m model c in let s = some_bytes m c in omega arith

  module _ (index : ℕ) (s : StructView) (found : struct_at structs index ≡ s) where
    own : AreExtents (IsFolded m structs apart) (IsByte m structs apart) (folded_member (length structs) structs m.pointer index) s.size s.leaves
    own = subst (λ (z : StructView). AreExtents (IsFolded m structs apart) (IsByte m structs apart) (folded_member (length structs) structs m.pointer index) z.size s.leaves) found (folded_struct m structs apart class_some (length structs) index s.leaves)

    small : s.size ≤ 2 ^ 30
    small = subst (λ (z : StructView). z.size ≤ 2 ^ 30) found (struct_size m structs apart class_some index)

    folded : (number : ℕ) (l : Leaf) → struct_leaf structs m.pointer index number ≡ Some l → IsFolded m structs apart l
    unfolding struct_leaf
    folded number l e = own.made number 0 l (let z = small in omega arith) e

    one : (x a b : ℕ) (k l : Leaf) → a < s.leaves → b < s.leaves → struct_leaf structs m.pointer index a ≡ Some k → struct_leaf structs m.pointer index b ≡ Some l → Covers k (flow.class_bytes m k.class) x → Covers l (flow.class_bytes m l.class) x → a ≡ b
    unfolding struct_leaf
    one x a b k l below less e f r t = own.one a b 0 x k l (let z = small in omega arith) below less e f r t

    -- ---- the bytes at one offset

    module _ (x : ℕ) where
      record HasByte (count : ℕ) : Type 0 where
        number : ℕ
        leaf : Leaf
        below : number < count
        is : struct_leaf structs m.pointer index number ≡ Some leaf
        byte : Covers leaf (flow.class_bytes m leaf.class) x

      -- at most one byte, and where there is one it is a leaf's
      record AtMostOne (count bytes : ℕ) : Type 0 where
        few : bytes ≤ 1
        held : 0 < bytes → HasByte count

      covers_one : (l : Leaf) → IsFolded m structs apart l → (bytes_below m l (x + 1) - bytes_below m l x ≡ 0) ⊎ ((bytes_below m l (x + 1) - bytes_below m l x ≡ 1) × Covers l (flow.class_bytes m l.class) x)
      covers_one l f =
          let e = same_bytes m model l.class in
          subst (λ size. (bytes_below m l (x + 1) - bytes_below m l x ≡ 0) ⊎ ((bytes_below m l (x + 1) - bytes_below m l x ≡ 1) × Covers l size x)) (sym e) (leaf_step m l (some_bytes m l.class) (subst (λ size. size ≤ l.stride) e f.fits) f.few x)

      later : (count : ℕ) → HasByte count → HasByte (suc count)
      later count h = let b = h.below in record { number = h.number; leaf = h.leaf; below = omega arith; is = h.is; byte = h.byte }

      one_leaf : (count bytes more : ℕ) (l : Leaf) → suc count ≤ s.leaves → struct_leaf structs m.pointer index count ≡ Some l → AtMostOne count bytes → (more ≡ 0) ⊎ ((more ≡ 1) × Covers l (flow.class_bytes m l.class) x) → AtMostOne (suc count) (capped (bytes + more))
      one_leaf count bytes more l within e h (inl none) = let f = h.few in record { few = omega arith; held = λ some. later count (h.held (omega arith)) }
      one_leaf count bytes more l within e h (inr p) =
          let is = p.0 in
          let none : bytes ≡ 0 = elim (cases_lt 0 bytes) [
            | inl some ↦ absurd (let b = h.held some in let below = b.below in let same = one x b.number count b.leaf l (omega arith) (omega arith) b.is e b.byte p.1 in omega arith)
            | inr z ↦ omega arith
          ] in
          record { few = omega arith; held = λ some. record { number = count; leaf = l; below = omega arith; is = e; byte = p.1 } }

      step : (count bytes : ℕ) (found : Option Leaf) → suc count ≤ s.leaves → struct_leaf structs m.pointer index count ≡ found → AtMostOne count bytes → AtMostOne (suc count) (covered_by m x (x + 1) found bytes)
      step count bytes None within e h = record { few = h.few; held = λ some. later count (h.held some) }
      step count bytes (Some l) within e h = one_leaf count bytes (bytes_below m l (x + 1) - bytes_below m l x) l within e h (covers_one l (folded count l e))

      at_most_one : (p : Padded) → p.structs ≡ structs → p.pointer ≡ m.pointer → p.index ≡ index → (count : ℕ) → count ≤ s.leaves → AtMostOne count (turns (covered_leaf m p x (x + 1)) count 0)
      at_most_one p a b c zero within = record { few = omega arith; held = λ some. absurd (omega arith) }
      at_most_one p a b c (suc count) within =
          let e : struct_leaf structs m.pointer index count ≡ struct_leaf p.structs p.pointer p.index count = λ j. struct_leaf (sym a j) (sym b j) (sym c j) count in
          subst (λ found. AtMostOne (suc count) (covered_by m x (x + 1) found (turns (covered_leaf m p x (x + 1)) count 0))) e
          (step count (turns (covered_leaf m p x (x + 1)) count 0) (struct_leaf structs m.pointer index count) within refl (at_most_one p a b c count (omega arith)))

    pub laid_spread : IsSpread m structs index s
    unfolding leaf_bytes
    laid_spread = record {
      size = let z = small in omega arith;
      short = λ number leaf l e. let q = (folded number leaf e).near in omega arith;
      bytes = λ start x l.
          let e : capped (x + 1) ≡ x + 1 = omega arith in
          let q = (at_most_one x (padded_in structs m.pointer index s start) refl refl refl s.leaves (omega arith)).few in
          subst (λ z. turns (covered_leaf m (padded_in structs m.pointer index s start) x z) s.leaves 0 ≤ 1) (sym e) q;
    }

pub apart_spread : (m : Model) → is_model m ≡ true → (structs : List StructView) → are_laid_apart m structs ≡ true → (index : ℕ) (s : StructView) → slice_get structs index ≡ Some s → IsSpread m structs index s
apart_spread m model structs h index s e = laid_spread m model structs h index s (get_or_from_slice_get structs index s no_struct e)
