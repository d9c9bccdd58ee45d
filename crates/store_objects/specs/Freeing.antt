-- Freeing instances.
use Rattle.std.specs.Prelude.{ℕ, Bool, true, cond, not, ◌&&◌, List}
use Rattle.cc_base.specs.Lattices.{LatticeOf}
use Rattle.cc_base.specs.IntegerDomains.{IntegersOf}
use Rattle.c_layout.specs.declared.shapes.BaseInfo.{BaseInfo}
use Rattle.pointer_domain.specs.declared.base_sets.Bases.{Bases}
use Rattle.pointer_domain.specs.declared.pointer_sets.Pointers.{Pointers}
use Rattle.value_domain.specs.declared.values.alloc_states.AllocState.{AllocState}
use Rattle.value_domain.specs.declared.values.row_cells.Cell.{Cell}
use Rattle.store_cells.specs.Walks.{walk}
use Rattle.store_cells.specs.RowPositions.{state_position, state_at, put_state}
use Rattle.store_objects.specs.LiveBases.{has_base, is_one_instance}

abbrev pub is_heap_in : Bases → BaseInfo → ℕ → Bool
is_heap_in set base number = has_base set number && base.shape.heap

module _ {I : Type 0} where
  -- freed, and live no more where that is sure
  abbrev pub freed_state : Bool → AllocState I → AllocState I
  freed_state surely s = record s { live = not surely && s.live; freed = true }

  unfoldable pub free_base_if : LatticeOf I → IntegersOf I → Bool → Bool → BaseInfo → List (Cell I) → List (Cell I)
  free_base_if l n wanted surely base row = cond wanted (put_state row (state_position base) (freed_state surely (state_at l n row (state_position base)))) row

  abbrev pub free_base : LatticeOf I → IntegersOf I → Bases → Bool → BaseInfo → ℕ → List (Cell I) → List (Cell I)
  free_base l n set surely base number row = free_base_if l n (is_heap_in set base number) surely base row

  unfoldable pub free_bases : LatticeOf I → IntegersOf I → List BaseInfo → Bases → Bool → List (Cell I) → List (Cell I)
  free_bases l n bases set surely row = walk (free_base l n set surely) 0 bases row

  -- surely, where the pointers are into one base of one instance and are not null
  unfoldable pub free : LatticeOf I → IntegersOf I → List BaseInfo → Pointers I → List (Cell I) → List (Cell I)
  free l n bases p row = free_bases l n bases p.bases (is_one_instance bases p.bases && not p.null) row
