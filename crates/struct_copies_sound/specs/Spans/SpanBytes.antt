-- Which cells of an object have a byte at one of the offsets at which a leaf of a copied struct can stand.
use Rattle.std.specs.Prelude.{◌≡◌, ℕ, ◌+◌, ◌*◌, ◌<◌, ◌≤◌, ◌^◌, true, false}
use Rattle.c_layout.specs.declared.data_model.Model.{Model}
use Rattle.c_layout.specs.declared.leaf_lists.Class.{Class}
use Rattle.c_layout.specs.declared.leaf_lists.Class.TheVariants.{Char}
use Rattle.c_layout.specs.declared.leaf_lists.Leaf.{Leaf}
use Rattle.store_cells.specs.ClassNumbers.{same_class}
use Rattle.store_sound.specs.Concretization.Places.{IsPlaceOf, OwnedByLeaf}
use Rattle.store_struct_leaves.specs.CopyPlaces.{is_reached, is_touched}
use Rattle.store_struct_leaves.specs.declared.copy_places.Span.{Span}

-- an offset of one of the windows
pub record IsInSpan (s : Span) (x : ℕ) : Type 0 where
  pub turn : ℕ
  pub few : turn < s.count
  pub from : s.first.lo + turn * s.stride ≤ x
  pub to : x ≤ s.first.hi + turn * s.stride

-- windows that lie within 2^62 bytes behind the first one
pub record IsShortSpan (s : Span) : Type 0 where
  pub apart : 0 < s.stride
  pub few : s.count ≤ 2 ^ 61
  pub short : s.count * s.stride ≤ 2 ^ 62

pub record SpanSees (m : Model) (leaf : Leaf) (s : Span) (x : ℕ) : Type 0 where
  -- an offset of the span is one of the leaf's places
  pub place : (class : Class) → IsPlaceOf leaf x → same_class leaf.class class ≡ true → is_reached leaf class s ≡ true
  -- or it is the offset of a byte of one of its scalars
  pub byte : (k : ℕ) → OwnedByLeaf m leaf x k → same_class leaf.class Char ≡ false → is_touched m leaf s ≡ true

-- an offset of a span, in memory
abbrev pub SpansSee : Model → Type 0
SpansSee m = (leaf : Leaf) (s : Span) (x : ℕ) → 0 < leaf.stride → leaf.count ≤ 2 ^ 61 → IsShortSpan s → IsInSpan s x → x ≤ 2 ^ 62 → SpanSees m leaf s x
