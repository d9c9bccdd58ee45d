-- The copy of a struct.
use Rattle.std.specs.Prelude.{ℕ, zero, suc, ◌+◌, ◌-◌, ◌*◌, ◌/◌, min, Bool, cond, not, ◌&&◌, ◌==◌, Option, Some, None, List, [], ◌∷◌, slice_get}
use Rattle.cc_base.specs.Lattices.{LatticeOf}
use Rattle.cc_base.specs.IntegerDomains.{IntegersOf}
use Rattle.c_layout.specs.StructViews.{StructView, structs_view}
use Rattle.c_layout.specs.declared.data_model.Model.{Model}
use Rattle.c_layout.specs.declared.leaf_lists.Leaf.{Leaf}
use Rattle.c_layout.specs.declared.shapes.BaseInfo.{BaseInfo}
use Rattle.pointer_domain.specs.declared.base_sets.Bases.{Bases}
use Rattle.pointer_domain.specs.declared.pointer_sets.Pointers.{Pointers}
use Rattle.pointer_domain.specs.BaseSets.{bases_count}
use Rattle.value_domain.specs.declared.values.values.Value.{Value}
use Rattle.value_domain.specs.declared.values.row_cells.Cell.{Cell}
use Rattle.store_cells.specs.declared.access_windows.Window.{Window}
use Rattle.store_cells.specs.Walks.{walk, turns}
use Rattle.store_cells.specs.RowPositions.{capped}
use Rattle.store_cells.specs.AccessWindows.{window_of, window_is_one}
use Rattle.store.specs.LiveBases.{has_base, is_one_instance}
use Rattle.store_struct_leaves.specs.declared.leaf_copies.LeafAccess.{LeafAccess}
use Rattle.store_structs.specs.declared.struct_copy.Route as code
use Rattle.store_struct_leaves.specs.CopyPlaces.{span_of_leaf}
use Rattle.store_structs.specs.CopyZeros.{Exact, copied_window, copy_zeros}
use Rattle.store_struct_leaves.specs.LeafCopies.{read_leaf, write_leaf}
use Rattle.store_structs.specs.LeafNumbers.{struct_leaf}
use Rattle.store_structs.specs.PaddingWrites.{Padded, has_padding, write_padding}

-- the two sides of a copy of a struct, which may begin in a window each
pub record Route : Type 0 where
  pub model : Model
  pub bases : List BaseInfo
  pub structs : List StructView
  pub pointer : ℕ
  pub index : ℕ
  pub source : Bases
  pub from : Window
  pub target : Bases
  pub to : Window
  pub alone : Bool

abbrev pub route_view : code.Route → Route
route_view r = record {
  model = r.model.now;
  bases = r.bases.now;
  structs = structs_view r.table.structs.now;
  pointer = r.table.pointer;
  index = r.index;
  source = r.source;
  from = r.from;
  target = r.target;
  to = r.to;
  alone = r.alone;
}

abbrev pub route_for : Model → List BaseInfo → List StructView → ℕ → Bases → Window → Bases → Window → Route
route_for m bases structs i target to source from = record {
  model = m;
  bases = bases;
  structs = structs;
  pointer = m.pointer;
  index = i;
  source = source;
  from = from;
  target = target;
  to = to;
  alone = is_one_instance bases target;
}

abbrev pub leaf_access : Leaf → Window → LeafAccess
leaf_access leaf start = record { class = leaf.class; signed = leaf.signed; span = span_of_leaf leaf start }

abbrev pub is_declared_in : Bases → BaseInfo → ℕ → Bool
is_declared_in set base number = has_base set number && not base.shape.heap

-- the one base of a set that is no heap base
abbrev pub first_declared : Bases → ℕ → List BaseInfo → Option BaseInfo
first_declared set number [] = None
first_declared set number (base ∷ bases) = cond (is_declared_in set base number) (Some base) (first_declared set (number + 1) bases)

unfoldable pub one_declared : List BaseInfo → Bases → Option BaseInfo
one_declared bases set = cond (bases_count set == 1) (first_declared set 0 bases) None

abbrev pub is_exact : Route → Bool
is_exact r = r.alone && (window_is_one r.from && window_is_one r.to)

abbrev pub exact_from : Route → ℕ → Option BaseInfo → Option Exact
exact_from r size None = None
exact_from r size (Some base) = cond (is_exact r) (Some (record { source = base; from = r.from.lo; to = r.to.lo; size = size })) None

-- the copy as one between two offsets, where both sides have one declared base and one offset
unfoldable pub exact_copy : Route → ℕ → Option Exact
exact_copy r size = exact_from r size (one_declared r.bases r.source)

-- the most leaves that are all read before one is written
abbrev pub most_at_once : ℕ
most_at_once = 1024

abbrev pub batch_first : ℕ → ℕ
batch_first turn = capped (turn * most_at_once)

abbrev pub batch_count : ℕ → ℕ → ℕ
batch_count turn count = min (capped (batch_first turn + most_at_once)) count - batch_first turn

abbrev pub padded_of : Route → StructView → Padded
padded_of r s = record { structs = r.structs; pointer = r.pointer; index = r.index; size = s.size; leaves = s.leaves; start = r.to }

module _ {I : Type 0} where
  -- a row that is reached
  abbrev pub reached_row : Bool → List (Cell I) → Option (List (Cell I))
  reached_row reached row = cond reached (Some row) None

  unfoldable pub write_target : LatticeOf I → IntegersOf I → Route → Leaf → Value I → List (Cell I) → Option (List (Cell I))
  write_target l n r leaf v row = write_leaf l n r.model r.bases r.target (leaf_access leaf r.to) v r.alone row

  abbrev pub copy_written : LatticeOf I → IntegersOf I → Route → Leaf → Value I → Option (List (Cell I)) → Option (List (Cell I))
  copy_written l n r leaf v None = None
  copy_written l n r leaf v (Some row) = write_target l n r leaf v row

  abbrev pub copy_read : LatticeOf I → IntegersOf I → Route → Leaf → Option (Value I) → Option (List (Cell I)) → Option (List (Cell I))
  copy_read l n r leaf None rest = None
  copy_read l n r leaf (Some v) rest = copy_written l n r leaf v rest

  unfoldable pub read_source : LatticeOf I → IntegersOf I → Route → Leaf → List (Cell I) → Option (Value I)
  read_source l n r leaf row = read_leaf l n r.model r.bases r.source row (leaf_access leaf r.from)

  -- a leaf is read, then what comes after it is copied, then the leaf is written
  abbrev pub copy_step : LatticeOf I → IntegersOf I → Route → List (Cell I) → Option Leaf → Option (List (Cell I)) → Option (List (Cell I))
  copy_step l n r row None rest = Some row
  copy_step l n r row (Some leaf) rest = copy_read l n r leaf (read_source l n r leaf row) rest

  -- so many leaves from one on, each read before any of them is written; None where a leaf can be nowhere
  abbrev pub copy_leaves : LatticeOf I → IntegersOf I → Route → ℕ → ℕ → List (Cell I) → Option (List (Cell I))
  copy_leaves l n r zero first row = Some row
  copy_leaves l n r (suc count) first row = copy_step l n r row (struct_leaf r.structs r.pointer r.index first) (copy_leaves l n r count (capped (first + 1)) row)

  abbrev pub copy_batch : LatticeOf I → IntegersOf I → Route → ℕ → ℕ → Option (List (Cell I)) → Option (List (Cell I))
  copy_batch l n r count turn None = None
  copy_batch l n r count turn (Some row) = copy_leaves l n r (batch_count turn count) (batch_first turn) row

  unfoldable pub copy_all : LatticeOf I → IntegersOf I → Route → ℕ → List (Cell I) → Option (List (Cell I))
  copy_all l n r count row = turns (copy_batch l n r count) (count / most_at_once + 1) (Some row)

  -- ---- first zeros and padding

  abbrev pub pad_if : LatticeOf I → IntegersOf I → Route → Padded → Bool → BaseInfo → List (Cell I) → List (Cell I)
  pad_if l n r p wanted base row = cond wanted (write_padding l n r.model base p row) row

  unfoldable pub finish_base : LatticeOf I → IntegersOf I → Route → Padded → Option Exact → Bool → BaseInfo → List (Cell I) → List (Cell I)
  finish_base l n r p exact padding base row = pad_if l n r p padding base (copy_zeros l n base (copied_window r.to p.size) exact row)

  unfoldable pub finish_if : LatticeOf I → IntegersOf I → Route → Padded → Option Exact → Bool → Bool → BaseInfo → List (Cell I) → List (Cell I)
  finish_if l n r p exact padding wanted base row = cond wanted (finish_base l n r p exact padding base row) row

  abbrev pub finish_at : LatticeOf I → IntegersOf I → Route → Padded → Option Exact → Bool → BaseInfo → ℕ → List (Cell I) → List (Cell I)
  finish_at l n r p exact padding base number row = finish_if l n r p exact padding (has_base r.target number) base row

  unfoldable pub finish_all : LatticeOf I → IntegersOf I → Route → Padded → Option Exact → Bool → List BaseInfo → List (Cell I) → List (Cell I)
  finish_all l n r p exact padding bases row = walk (finish_at l n r p exact padding) 0 bases row

  unfoldable pub finish : LatticeOf I → IntegersOf I → Route → Padded → List (Cell I) → List (Cell I)
  finish l n r p row = finish_all l n r p (exact_copy r p.size) (has_padding r.model p) r.bases row

  -- ---- the call

  abbrev pub finish_reached : LatticeOf I → IntegersOf I → Route → Padded → Option (List (Cell I)) → Option (List (Cell I))
  finish_reached l n r p None = None
  finish_reached l n r p (Some row) = Some (finish l n r p row)

  unfoldable pub copy_route : LatticeOf I → IntegersOf I → Route → StructView → List (Cell I) → Option (List (Cell I))
  copy_route l n r s row = finish_reached l n r (padded_of r s) (copy_all l n r s.leaves row)

  -- between windows of which each may be none
  abbrev pub copy_between : LatticeOf I → IntegersOf I → Model → List BaseInfo → List StructView → ℕ → StructView → Bases → Option Window → Bases → Option Window → List (Cell I) → Option (List (Cell I))
  copy_between l n m bases structs i s target None source from row = None
  copy_between l n m bases structs i s target (Some to) source None row = None
  copy_between l n m bases structs i s target (Some to) source (Some from) row = copy_route l n (route_for m bases structs i target to source from) s row

  abbrev pub copy_found : LatticeOf I → IntegersOf I → Model → List BaseInfo → List StructView → ℕ → Pointers I → Pointers I → Option StructView → List (Cell I) → Option (List (Cell I))
  copy_found l n m bases structs i to from None row = None
  copy_found l n m bases structs i to from (Some s) row = copy_between l n m bases structs i s to.bases (window_of n to s.size) from.bases (window_of n from s.size) row

  -- the row after a copy of a struct between places that were touched; None where there is no such place
  unfoldable pub copy_struct : LatticeOf I → IntegersOf I → Model → List BaseInfo → List StructView → ℕ → Pointers I → Pointers I → List (Cell I) → Option (List (Cell I))
  copy_struct l n m bases structs i to from row = copy_found l n m bases structs i to from (slice_get structs i) row
