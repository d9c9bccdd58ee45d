-- Spans of more offsets, and what they reach.
use Rattle.std.specs.Prelude.{◌≡◌, ◌*◌, ◌≤◌, ◌^◌, true}
use Rattle.c_layout.specs.declared.data_model.Model.{Model}
use Rattle.c_layout.specs.declared.leaf_lists.Class.{Class}
use Rattle.c_layout.specs.declared.leaf_lists.Leaf.{Leaf}
use Rattle.c_layout.specs.declared.shapes.BaseInfo.{BaseInfo}
use Rattle.store_cells.specs.AccessWindows.{last_offset}
use Rattle.store_struct_leaves.specs.declared.copy_places.Span.{Span}
use Rattle.store_struct_leaves.specs.CopyPlaces.{is_reached, is_touched, span_has_stray}
use Rattle.store_struct_leaves.specs.LeafCopies.{span_meets_padding}
use Rattle.store_monotone.specs.Operations.Placements.{EachFrom}

-- as many windows as far apart, of which each has the offsets of the first span's; the places lie within 2^62 bytes
pub record SpanWithin (s u : Span) : Type 0 where
  pub lo : u.first.lo ≤ s.first.lo
  pub some : s.first.lo ≤ s.first.hi
  pub hi : s.first.hi ≤ u.first.hi
  pub near : u.first.hi ≤ last_offset
  pub stride : s.stride ≡ u.stride
  pub count : s.count ≡ u.count
  pub short : s.count * s.stride ≤ 2 ^ 62

-- a leaf that the first span reaches is reached by the second one too
pub record IsMetToo (m : Model) (s u : Span) (leaf : Leaf) : Type 0 where
  pub own : (class : Class) → is_reached leaf class s ≡ true → is_reached leaf class u ≡ true
  pub other : is_touched m leaf s ≡ true → is_touched m leaf u ≡ true

-- spans of more offsets reach more of a base
pub record ReachesMore (m : Model) (base : BaseInfo) : Type 0 where
  pub leaves : (s u : Span) → SpanWithin s u → EachFrom (λ leaf at. IsMetToo m s u leaf) 0 base.shape.cells
  pub stray : (class : Class) (s u : Span) → SpanWithin s u → base.shape.heap ≡ true → span_has_stray base.shape.cells class s ≡ true → span_has_stray base.shape.cells class u ≡ true
  pub padding : (s u : Span) → SpanWithin s u → span_meets_padding m base s ≡ true → span_meets_padding m base u ≡ true
