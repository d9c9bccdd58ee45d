-- Copies of structs leave rows from a floor on.
use Rattle.std.specs.Prelude.{ℕ, zero, suc, ◌+◌, ◌/◌, ℤ, Bool, true, Option, Some, None, is_some, List, slice_get}
use Rattle.std.proofs.lemmas.Bool.{cond_both}
use Rattle.cc_base.specs.Lattices.{LatticeOf}
use Rattle.cc_base.specs.IntegerDomains.{IntegersOf}
use Rattle.c_layout.specs.StructViews.{StructView}
use Rattle.c_layout.specs.declared.data_model.Model.{Model}
use Rattle.c_layout.specs.declared.leaf_lists.Class.{Class}
use Rattle.c_layout.specs.declared.leaf_lists.Class.TheVariants.{Char}
use Rattle.c_layout.specs.declared.leaf_lists.Leaf.{Leaf}
use Rattle.c_layout.specs.declared.shapes.BaseInfo.{BaseInfo}
use Rattle.pointer_domain.specs.declared.base_sets.Bases.{Bases}
use Rattle.pointer_domain.specs.declared.pointer_sets.Pointers.{Pointers}
use Rattle.value_domain.specs.Values.LabelSets.{all_labels}
use Rattle.value_domain.specs.declared.values.values.Value.{Value}
use Rattle.value_domain.specs.declared.values.row_cells.Cell.{Cell}
use Rattle.value_domain.specs.declared.values.row_cells.Cell.TheVariants.{First}
use Rattle.store_cells.specs.declared.access_windows.Window.{Window}
use Rattle.store_cells.specs.AccessWindows.{window_of}
use Rattle.store_cells.specs.CellReads.{whole_range, as_stored}
use Rattle.store_cells.specs.ClassNumbers.{class_number, class_at, same_class, is_pointer}
use Rattle.store_cells.specs.FirstZeroWrites.{zero_target}
use Rattle.store_objects.specs.LiveBases.{has_base}
use Rattle.store_cells.specs.NearValues.{near_value}
use Rattle.store_cells.specs.RowPositions.{capped, leaf_position, class_position}
use Rattle.store_cells.specs.ScalarTypes.{kind_of}
use Rattle.store_cells.specs.Walks.{turns}
use Rattle.store_struct_leaves.specs.declared.leaf_copies.LeafAccess.{LeafAccess}
use Rattle.store_struct_leaves.specs.CopyPlaces.{is_reached, is_touched}
use Rattle.store_structs.specs.CopyZeros.{Exact, copied_window, copy_part_at, copy_part, copy_zeros}
use Rattle.store_struct_leaves.specs.LeafCopies.{reaches_class, is_strong, any_place, write_leaf_at, write_own_leaf, write_class_cell, write_leaves, write_own, write_other_at, write_other_leaf, write_class_byte, write_class_bytes, write_bytes, write_other_leaves, write_others, write_base, write_base_if, write_to, write_all, write_leaf}
use Rattle.store_structs.specs.LeafNumbers.{struct_leaf}
use Rattle.store_structs.specs.PaddingWrites.{Padded, has_padding, unknown_pointer, unknown_value, pad_leaf_at, pad_leaf, pad_leaves, pad_class, pad_classes, pad_part_at, pad_part, pad_zeros, pad_cells, write_padding}
use Rattle.store_structs.specs.StructCopies.{Route, route_for, leaf_access, exact_copy, most_at_once, batch_first, batch_count, padded_of, write_target, copy_written, copy_read, read_source, copy_step, copy_leaves, copy_batch, copy_all, finish_base, finish_if, finish_at, finish_all, finish, finish_reached, copy_route, copy_between, copy_found, copy_struct}
use Rattle.row_bounds.specs.Stores.Floors.{IsValueFrom, IsReadFrom, AreFrom, IsLeftFrom, KeepsFrom, LeavesFrom}
use Rattle.row_bounds.proofs.stores.Ranges.{FloorLaws}
use Rattle.row_bounds.proofs.stores.Values.{least_value_from, stored_from, whole_class_from, byte_written_from, near_value_from}
use Rattle.row_bounds.proofs.stores.Rows.{set_from, if_from, row_walk, row_turns, left_if, join_keeps, write_keeps}
use Rattle.row_bounds.proofs.stores.StructReads.{leaf_from}

module _ {I : Type 0} {l : LatticeOf I} {n : IntegersOf I} {stands : I → ℤ → Type 0} {floor : ℤ} (k : FloorLaws l n stands floor) where
  -- ---- leaves

  module _ (m : Model) (access : LeafAccess) (v : Value I) (h : IsValueFrom n floor v) (base : BaseInfo) where
    leaves_kept : (alone : Bool) → KeepsFrom n floor (write_leaves l n m base access v alone)
    unfolding write_leaves write_leaf_at
    leaves_kept alone row j = row_walk n floor (write_own_leaf l n m base access v alone)
        (λ leaf at x q. if_from n floor (is_reached leaf access.class access.span) _ x (write_keeps k (leaf_position base at) (as_stored n m v access.class leaf.signed) (is_strong leaf access alone) (stored_from k m v access.class leaf.signed h) x q) q)
        0 base.shape.cells row j

    cell_kept : KeepsFrom n floor (write_class_cell l n m base access v)
    unfolding write_class_cell
    cell_kept row j = if_from n floor (reaches_class base access) _ row (join_keeps k (class_position base (class_number access.class)) (as_stored n m v access.class true) (stored_from k m v access.class true h) row j) j

    own_kept : (alone : Bool) → KeepsFrom n floor (write_own l n m base access v alone)
    unfolding write_own
    own_kept alone row j = leaves_kept alone (write_class_cell l n m base access v row) (cell_kept row j)

    bytes_kept : KeepsFrom n floor (write_bytes l n m base v)
    unfolding write_bytes write_class_bytes write_class_byte
    bytes_kept row j = if_from n floor base.shape.heap _ row (row_turns n floor (write_class_byte l n m base v) (λ at x q. join_keeps k (class_position base (at + 1)) _ (byte_written_from k m (class_at (at + 1)) true v.labels) x q) 5 row j) j

    others_kept : KeepsFrom n floor (write_others l n m base access v)
    unfolding write_others write_other_leaves write_other_at
    others_kept row j = row_walk n floor (write_other_leaf l n m base access v)
        (λ leaf at x q. if_from n floor (is_touched m leaf access.span) _ x (join_keeps k (leaf_position base at) _ (byte_written_from k m leaf.class leaf.signed v.labels) x q) q)
        0 base.shape.cells (write_bytes l n m base v row) (bytes_kept row j)

    base_kept : (alone : Bool) → KeepsFrom n floor (write_base l n m base access v alone)
    unfolding write_base
    base_kept alone row j =
        let own = own_kept alone row j in
        if_from n floor (same_class access.class Char) _ _ (others_kept (write_own l n m base access v alone row) own) own

  all_kept : (m : Model) (bases : List BaseInfo) (set : Bases) (access : LeafAccess) (v : Value I) → IsValueFrom n floor v → (alone : Bool) → KeepsFrom n floor (write_all l n m bases set access v alone)
  unfolding write_all write_base_if
  all_kept m bases set access v h alone row j = row_walk n floor (write_to l n m set access v alone) (λ base number x q. if_from n floor (has_base set number) _ x (base_kept m access v h base alone x q) q) 0 bases row j

  leaf_kept : (m : Model) (bases : List BaseInfo) (set : Bases) (access : LeafAccess) (v : Value I) → IsValueFrom n floor v → (alone : Bool) → LeavesFrom n floor (write_leaf l n m bases set access v alone)
  unfolding write_leaf
  leaf_kept m bases set access v h alone row j = left_if n floor (any_place m bases set access) (Some _) (all_kept m bases set access (near_value l n v) (near_value_from k v h) alone row j)

  -- ---- first zeros and padding

  zeros_kept : (base : BaseInfo) (w : Window) (exact : Option Exact) → KeepsFrom n floor (copy_zeros l n base w exact)
  unfolding copy_zeros copy_part_at
  zeros_kept base w exact row j = row_walk n floor (copy_part l n base w exact) (λ part at x q. if_from n floor (is_some (zero_target part w)) _ x (set_from n floor x _ (First _) tt q) q) 0 base.shape.zeros row j

  unknown_from : (m : Model) (class : Class) (signed : Bool) → IsValueFrom n floor (unknown_value l n m class signed)
  unknown_from m class signed = cond_both (is_pointer class) (unknown_pointer l) (whole_range l n (kind_of m class signed) all_labels true) (λ v. IsValueFrom n floor v) (λ e. least_value_from k) (λ e. whole_class_from k m class signed all_labels true)

  pad_leaves_kept : (m : Model) (base : BaseInfo) (p : Padded) → KeepsFrom n floor (pad_leaves l n m base p)
  unfolding pad_leaves pad_leaf_at
  pad_leaves_kept m base p row j = row_walk n floor (pad_leaf l n m base p) (λ leaf at x q. if_from n floor _ _ x (join_keeps k (leaf_position base at) (unknown_value l n m leaf.class leaf.signed) (unknown_from m leaf.class leaf.signed) x q) q) 0 base.shape.cells row j

  pad_classes_kept : (m : Model) (base : BaseInfo) → KeepsFrom n floor (pad_classes l n m base)
  unfolding pad_classes pad_class
  pad_classes_kept m base row j = row_turns n floor (pad_class l n m base) (λ at x q. join_keeps k (class_position base at) (unknown_value l n m (class_at at) true) (unknown_from m (class_at at) true) x q) 6 row j

  padding_kept : (m : Model) (base : BaseInfo) (p : Padded) → KeepsFrom n floor (write_padding l n m base p)
  unfolding write_padding pad_zeros pad_part_at pad_cells
  padding_kept m base p row j =
      let leaves = pad_leaves_kept m base p row j in
      row_walk n floor (pad_part l n m base p) (λ part at x q. if_from n floor _ _ x (set_from n floor x _ (First _) tt q) q) 0 base.shape.zeros _
      (if_from n floor base.shape.heap _ _ (pad_classes_kept m base (pad_leaves l n m base p row) leaves) leaves)

  finished_base : (r : Route) (p : Padded) (exact : Option Exact) (padding : Bool) (base : BaseInfo) → KeepsFrom n floor (finish_base l n r p exact padding base)
  unfolding finish_base
  finished_base r p exact padding base row j =
      let zeros = zeros_kept base (copied_window r.to p.size) exact row j in
      if_from n floor padding _ _ (padding_kept r.model base p (copy_zeros l n base (copied_window r.to p.size) exact row) zeros) zeros

  finish_keeps : (r : Route) (p : Padded) → KeepsFrom n floor (finish l n r p)
  unfolding finish finish_all finish_if
  finish_keeps r p row j = row_walk n floor (finish_at l n r p (exact_copy r p.size) (has_padding r.model p)) (λ base number x q. if_from n floor _ _ x (finished_base r p (exact_copy r p.size) (has_padding r.model p) base x q) q) 0 r.bases row j

  -- ---- the leaves, in batches

  written_from : (r : Route) (leaf : Leaf) (v : Value I) → IsValueFrom n floor v → (rest : Option (List (Cell I))) → IsLeftFrom n floor rest → IsLeftFrom n floor (copy_written l n r leaf v rest)
  unfolding write_target
  written_from r leaf v h None j = tt
  written_from r leaf v h (Some row) j = leaf_kept r.model r.bases r.target (leaf_access leaf r.to) v h r.alone row j

  copied_from : (r : Route) (leaf : Leaf) (v : Option (Value I)) → IsReadFrom n floor v → (rest : Option (List (Cell I))) → IsLeftFrom n floor rest → IsLeftFrom n floor (copy_read l n r leaf v rest)
  copied_from r leaf None h rest j = tt
  copied_from r leaf (Some v) h rest j = written_from r leaf v h rest j

  source_from : (r : Route) (leaf : Leaf) (row : List (Cell I)) → AreFrom n floor row → IsReadFrom n floor (read_source l n r leaf row)
  unfolding read_source
  source_from r leaf row j = leaf_from k r.model row j r.bases r.source (leaf_access leaf r.from)

  step_from : (r : Route) (row : List (Cell I)) → AreFrom n floor row → (leaf : Option Leaf) (rest : Option (List (Cell I))) → IsLeftFrom n floor rest → IsLeftFrom n floor (copy_step l n r row leaf rest)
  step_from r row j None rest q = j
  step_from r row j (Some leaf) rest q = copied_from r leaf (read_source l n r leaf row) (source_from r leaf row j) rest q

  leaves_copied : (r : Route) (count first : ℕ) → LeavesFrom n floor (copy_leaves l n r count first)
  leaves_copied r zero first row j = j
  leaves_copied r (suc count) first row j = step_from r row j (struct_leaf r.structs r.pointer r.index first) (copy_leaves l n r count (capped (first + 1)) row) (leaves_copied r count (capped (first + 1)) row j)

  batch_from : (r : Route) (count turn : ℕ) (state : Option (List (Cell I))) → IsLeftFrom n floor state → IsLeftFrom n floor (copy_batch l n r count turn state)
  batch_from r count turn None j = tt
  batch_from r count turn (Some row) j = leaves_copied r (batch_count turn count) (batch_first turn) row j

  batches_from : (r : Route) (count left : ℕ) (row : List (Cell I)) → AreFrom n floor row → IsLeftFrom n floor (turns (copy_batch l n r count) left (Some row))
  batches_from r count zero row j = j
  batches_from r count (suc left) row j = batch_from r count left (turns (copy_batch l n r count) left (Some row)) (batches_from r count left row j)

  reached_from : (r : Route) (p : Padded) (state : Option (List (Cell I))) → IsLeftFrom n floor state → IsLeftFrom n floor (finish_reached l n r p state)
  reached_from r p None j = tt
  reached_from r p (Some row) j = finish_keeps r p row j

  route_keeps : (r : Route) (s : StructView) → LeavesFrom n floor (copy_route l n r s)
  unfolding copy_route copy_all
  route_keeps r s row j = reached_from r (padded_of r s) (turns (copy_batch l n r s.leaves) (s.leaves / most_at_once + 1) (Some row)) (batches_from r s.leaves (s.leaves / most_at_once + 1) row j)

  between_keeps : (m : Model) (bases : List BaseInfo) (structs : List StructView) (i : ℕ) (s : StructView) (target : Bases) (to : Option Window) (source : Bases) (from : Option Window) → LeavesFrom n floor (copy_between l n m bases structs i s target to source from)
  between_keeps m bases structs i s target None source from row j = tt
  between_keeps m bases structs i s target (Some to) source None row j = tt
  between_keeps m bases structs i s target (Some to) source (Some from) row j = route_keeps (route_for m bases structs i target to source from) s row j

  found_keeps : (m : Model) (bases : List BaseInfo) (structs : List StructView) (i : ℕ) (to from : Pointers I) (s : Option StructView) → LeavesFrom n floor (copy_found l n m bases structs i to from s)
  found_keeps m bases structs i to from None row j = tt
  found_keeps m bases structs i to from (Some s) row j = between_keeps m bases structs i s to.bases (window_of n to s.size) from.bases (window_of n from s.size) row j

  pub struct_keeps : (m : Model) (bases : List BaseInfo) (structs : List StructView) (i : ℕ) (to from : Pointers I) → LeavesFrom n floor (copy_struct l n m bases structs i to from)
  unfolding copy_struct
  struct_keeps m bases structs i to from row j = found_keeps m bases structs i to from (slice_get structs i) row j
