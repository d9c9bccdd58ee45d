-- A copy of a struct keeps the length of a row.
use Rattle.std.specs.Prelude.{◌≡◌, ℕ, zero, suc, ◌+◌, ◌/◌, Bool, true, Option, Some, None, is_some, List, length, slice_get}
use Rattle.std.proofs.Common.{◌∙◌, refl, subst}
use Rattle.std.proofs.lemmas.List.{length-set}
use Rattle.cc_base.specs.Lattices.{LatticeOf}
use Rattle.cc_base.specs.IntegerDomains.{IntegersOf}
use Rattle.c_layout.specs.StructViews.{StructView}
use Rattle.c_layout.specs.declared.data_model.Model.{Model}
use Rattle.c_layout.specs.declared.leaf_lists.Class.TheVariants.{Char}
use Rattle.c_layout.specs.declared.leaf_lists.Leaf.{Leaf}
use Rattle.c_layout.specs.declared.shapes.BaseInfo.{BaseInfo}
use Rattle.c_layout.specs.declared.shapes.ZeroPart.{ZeroPart}
use Rattle.pointer_domain.specs.declared.base_sets.Bases.{Bases}
use Rattle.value_domain.specs.declared.values.values.Value as values
use Rattle.value_domain.specs.declared.values.row_cells.Cell.{Cell}
use Rattle.value_domain.specs.declared.values.row_cells.Cell.TheVariants.{First}
use Rattle.store_cells.specs.ClassNumbers.{class_number, class_at, same_class}
use Rattle.store_cells.specs.NearValues.{near_value}
use Rattle.store_cells.specs.RowPositions.{capped, leaf_position, class_position, zero_position, join_value, write_value, put_zero}
use Rattle.store_cells.specs.CellReads.{as_stored}
use Rattle.store_cells.specs.ByteWrites.{byte_written}
use Rattle.store.specs.LiveBases.{has_base}
use Rattle.store_cells.specs.RowLengths.{walk_keeps, turns_keep, cond_keeps, some_keeps, join_value_keeps, write_value_keeps}
use Rattle.store_struct_leaves.specs.declared.leaf_copies.LeafAccess.{LeafAccess}
use Rattle.store_struct_leaves.specs.CopyPlaces.{is_reached, is_touched}
use Rattle.store_struct_leaves.specs.LeafCopies.{any_place, reaches_class, with_flag, is_strong, write_leaf_at, write_own_leaf, write_class_cell, write_leaves, write_own, write_other_at, write_other_leaf, write_other_leaves, write_class_byte, write_class_bytes, write_bytes, write_others, write_base, write_base_if, write_to, write_all, write_leaf}
use Rattle.store_cells.specs.declared.access_windows.Window.{Window}
use Rattle.store_cells.specs.FirstZeroWrites.{any_zero, zero_target, last_of}
use Rattle.store_structs.specs.CopyZeros.{Exact, copied_window, zero_copied, copy_part_at, copy_part, copy_zeros}
use Rattle.store_structs.specs.PaddingWrites.{Padded, has_padding, padding_meets, meets_leaf, unknown_value, pad_leaf_at, pad_leaf, pad_leaves, pad_class, pad_classes, pad_part_at, pad_part, pad_zeros, pad_cells, write_padding}
use Rattle.store_structs.specs.StructCopies.{Route, leaf_access, exact_copy, finish_base, finish_if, finish_at, finish_all, finish, write_target, copy_written, copy_read, read_source, copy_step, copy_leaves, batch_count, batch_first, most_at_once, copy_batch, copy_all, finish_reached, padded_of, copy_route, route_for, copy_between, copy_found, copy_struct}
use Rattle.store_structs.specs.LeafNumbers.{struct_leaf}
use Rattle.pointer_domain.specs.declared.pointer_sets.Pointers.{Pointers}
use Rattle.store_cells.specs.Walks.{turns}
use Rattle.store_cells.specs.AccessWindows.{window_of}

module _ {I : Type 0} (l : LatticeOf I) (n : IntegersOf I) where
  write_own_leaf_keeps : (m : Model) (base : BaseInfo) (access : LeafAccess) (v : values.Value I) (alone : Bool) (leaf : Leaf) (at : ℕ) (row : List (Cell I)) → length (write_own_leaf l n m base access v alone leaf at row) ≡ length row
  unfolding write_leaf_at
  write_own_leaf_keeps m base access v alone leaf at row =
      let written = as_stored n m v access.class leaf.signed in
      cond_keeps (is_reached leaf access.class access.span) (write_value l n row (leaf_position base at) written (is_strong leaf access alone)) row row
      (write_value_keeps l n row (leaf_position base at) written (is_strong leaf access alone)) refl

  write_class_cell_keeps : (m : Model) (base : BaseInfo) (access : LeafAccess) (v : values.Value I) (row : List (Cell I)) → length (write_class_cell l n m base access v row) ≡ length row
  unfolding write_class_cell
  write_class_cell_keeps m base access v row =
      let written = as_stored n m v access.class true in
      let at = class_position base (class_number access.class) in
      cond_keeps (reaches_class base access) (join_value l n row at written) row row (join_value_keeps l n row at written) refl

  write_leaves_keeps : (m : Model) (base : BaseInfo) (access : LeafAccess) (v : values.Value I) (alone : Bool) (row : List (Cell I)) → length (write_leaves l n m base access v alone row) ≡ length row
  unfolding write_leaves
  write_leaves_keeps m base access v alone row = walk_keeps (write_own_leaf l n m base access v alone) (λ leaf at r. write_own_leaf_keeps m base access v alone leaf at r) 0 base.shape.cells row

  write_own_keeps : (m : Model) (base : BaseInfo) (access : LeafAccess) (v : values.Value I) (alone : Bool) (row : List (Cell I)) → length (write_own l n m base access v alone row) ≡ length row
  unfolding write_own
  write_own_keeps m base access v alone row = write_leaves_keeps m base access v alone (write_class_cell l n m base access v row) ∙ write_class_cell_keeps m base access v row

  write_other_leaf_keeps : (m : Model) (base : BaseInfo) (access : LeafAccess) (v : values.Value I) (leaf : Leaf) (at : ℕ) (row : List (Cell I)) → length (write_other_leaf l n m base access v leaf at row) ≡ length row
  unfolding write_other_at
  write_other_leaf_keeps m base access v leaf at row =
      let written = with_flag (byte_written l n m leaf.class leaf.signed v.labels) v.indeterminate in
      cond_keeps (is_touched m leaf access.span) (join_value l n row (leaf_position base at) written) row row (join_value_keeps l n row (leaf_position base at) written) refl

  write_other_leaves_keeps : (m : Model) (base : BaseInfo) (access : LeafAccess) (v : values.Value I) (row : List (Cell I)) → length (write_other_leaves l n m base access v row) ≡ length row
  unfolding write_other_leaves
  write_other_leaves_keeps m base access v row = walk_keeps (write_other_leaf l n m base access v) (λ leaf at r. write_other_leaf_keeps m base access v leaf at r) 0 base.shape.cells row

  write_class_byte_keeps : (m : Model) (base : BaseInfo) (v : values.Value I) (at : ℕ) (row : List (Cell I)) → length (write_class_byte l n m base v at row) ≡ length row
  unfolding write_class_byte
  write_class_byte_keeps m base v at row = join_value_keeps l n row (class_position base (at + 1)) (with_flag (byte_written l n m (class_at (at + 1)) true v.labels) v.indeterminate)

  write_class_bytes_keeps : (m : Model) (base : BaseInfo) (v : values.Value I) (row : List (Cell I)) → length (write_class_bytes l n m base v row) ≡ length row
  unfolding write_class_bytes
  write_class_bytes_keeps m base v row = turns_keep (write_class_byte l n m base v) (λ at r. write_class_byte_keeps m base v at r) 5 row

  write_bytes_keeps : (m : Model) (base : BaseInfo) (v : values.Value I) (row : List (Cell I)) → length (write_bytes l n m base v row) ≡ length row
  unfolding write_bytes
  write_bytes_keeps m base v row = cond_keeps base.shape.heap (write_class_bytes l n m base v row) row row (write_class_bytes_keeps m base v row) refl

  write_others_keeps : (m : Model) (base : BaseInfo) (access : LeafAccess) (v : values.Value I) (row : List (Cell I)) → length (write_others l n m base access v row) ≡ length row
  unfolding write_others
  write_others_keeps m base access v row = write_other_leaves_keeps m base access v (write_bytes l n m base v row) ∙ write_bytes_keeps m base v row

  write_base_keeps : (m : Model) (base : BaseInfo) (access : LeafAccess) (v : values.Value I) (alone : Bool) (row : List (Cell I)) → length (write_base l n m base access v alone row) ≡ length row
  unfolding write_base
  write_base_keeps m base access v alone row =
      let own = write_own l n m base access v alone row in
      cond_keeps (same_class access.class Char) (write_others l n m base access v own) own row
      (write_others_keeps m base access v own ∙ write_own_keeps m base access v alone row) (write_own_keeps m base access v alone row)

  write_to_keeps : (m : Model) (set : Bases) (access : LeafAccess) (v : values.Value I) (alone : Bool) (base : BaseInfo) (number : ℕ) (row : List (Cell I)) → length (write_to l n m set access v alone base number row) ≡ length row
  unfolding write_base_if
  write_to_keeps m set access v alone base number row = cond_keeps (has_base set number) (write_base l n m base access v alone row) row row (write_base_keeps m base access v alone row) refl

  write_all_keeps : (m : Model) (bases : List BaseInfo) (set : Bases) (access : LeafAccess) (v : values.Value I) (alone : Bool) (row : List (Cell I)) → length (write_all l n m bases set access v alone row) ≡ length row
  unfolding write_all
  write_all_keeps m bases set access v alone row = walk_keeps (write_to l n m set access v alone) (λ base number r. write_to_keeps m set access v alone base number r) 0 bases row

  pub write_leaf_keeps : (m : Model) (bases : List BaseInfo) (set : Bases) (access : LeafAccess) (v : values.Value I) (alone : Bool) (row after : List (Cell I))
      → write_leaf l n m bases set access v alone row ≡ Some after → length after ≡ length row
  unfolding write_leaf
  write_leaf_keeps m bases set access v alone row after e =
      some_keeps (any_place m bases set access) (write_all l n m bases set access (near_value l n v) alone row) after row e (write_all_keeps m bases set access (near_value l n v) alone row)

  -- ---- first zeros and padding

  copy_part_keeps : (base : BaseInfo) (w : Window) (exact : Option Exact) (part : ZeroPart) (at : ℕ) (row : List (Cell I)) → length (copy_part l n base w exact part at row) ≡ length row
  unfolding copy_part_at
  copy_part_keeps base w exact part at row =
      let copied = zero_copied l n exact part row in
      cond_keeps (is_some (zero_target part w)) (put_zero row (zero_position base at) copied) row row (length-set row (zero_position base at) (First copied)) refl

  copy_zeros_keeps : (base : BaseInfo) (w : Window) (exact : Option Exact) (row : List (Cell I)) → length (copy_zeros l n base w exact row) ≡ length row
  unfolding copy_zeros
  copy_zeros_keeps base w exact row = walk_keeps (copy_part l n base w exact) (λ part at r. copy_part_keeps base w exact part at r) 0 base.shape.zeros row

  pad_leaf_keeps : (m : Model) (base : BaseInfo) (p : Padded) (leaf : Leaf) (at : ℕ) (row : List (Cell I)) → length (pad_leaf l n m base p leaf at row) ≡ length row
  unfolding pad_leaf_at
  pad_leaf_keeps m base p leaf at row =
      let unknown = unknown_value l n m leaf.class leaf.signed in
      cond_keeps (meets_leaf m p leaf) (join_value l n row (leaf_position base at) unknown) row row (join_value_keeps l n row (leaf_position base at) unknown) refl

  pad_leaves_keeps : (m : Model) (base : BaseInfo) (p : Padded) (row : List (Cell I)) → length (pad_leaves l n m base p row) ≡ length row
  unfolding pad_leaves
  pad_leaves_keeps m base p row = walk_keeps (pad_leaf l n m base p) (λ leaf at r. pad_leaf_keeps m base p leaf at r) 0 base.shape.cells row

  pad_class_keeps : (m : Model) (base : BaseInfo) (at : ℕ) (row : List (Cell I)) → length (pad_class l n m base at row) ≡ length row
  unfolding pad_class
  pad_class_keeps m base at row = join_value_keeps l n row (class_position base at) (unknown_value l n m (class_at at) true)

  pad_classes_keeps : (m : Model) (base : BaseInfo) (row : List (Cell I)) → length (pad_classes l n m base row) ≡ length row
  unfolding pad_classes
  pad_classes_keeps m base row = turns_keep (pad_class l n m base) (λ at r. pad_class_keeps m base at r) 6 row

  pad_part_keeps : (m : Model) (base : BaseInfo) (p : Padded) (part : ZeroPart) (at : ℕ) (row : List (Cell I)) → length (pad_part l n m base p part at row) ≡ length row
  unfolding pad_part_at
  pad_part_keeps m base p part at row =
      cond_keeps (padding_meets m p part.offset (last_of part.offset part.size)) (put_zero row (zero_position base at) (any_zero l n)) row row (length-set row (zero_position base at) (First (any_zero l n))) refl

  pad_zeros_keeps : (m : Model) (base : BaseInfo) (p : Padded) (row : List (Cell I)) → length (pad_zeros l n m base p row) ≡ length row
  unfolding pad_zeros
  pad_zeros_keeps m base p row = walk_keeps (pad_part l n m base p) (λ part at r. pad_part_keeps m base p part at r) 0 base.shape.zeros row

  pad_cells_keeps : (m : Model) (base : BaseInfo) (p : Padded) (row : List (Cell I)) → length (pad_cells l n m base p row) ≡ length row
  unfolding pad_cells
  pad_cells_keeps m base p row =
      let leaves = pad_leaves l n m base p row in
      cond_keeps base.shape.heap (pad_classes l n m base leaves) leaves row (pad_classes_keeps m base leaves ∙ pad_leaves_keeps m base p row) (pad_leaves_keeps m base p row)

  write_padding_keeps : (m : Model) (base : BaseInfo) (p : Padded) (row : List (Cell I)) → length (write_padding l n m base p row) ≡ length row
  unfolding write_padding
  write_padding_keeps m base p row = pad_zeros_keeps m base p (pad_cells l n m base p row) ∙ pad_cells_keeps m base p row

  finish_base_keeps : (r : Route) (p : Padded) (exact : Option Exact) (padding : Bool) (base : BaseInfo) (row : List (Cell I)) → length (finish_base l n r p exact padding base row) ≡ length row
  unfolding finish_base
  finish_base_keeps r p exact padding base row =
      let zeros = copy_zeros l n base (copied_window r.to p.size) exact row in
      let kept = copy_zeros_keeps base (copied_window r.to p.size) exact row in
      cond_keeps padding (write_padding l n r.model base p zeros) zeros row (write_padding_keeps r.model base p zeros ∙ kept) kept

  finish_at_keeps : (r : Route) (p : Padded) (exact : Option Exact) (padding : Bool) (base : BaseInfo) (number : ℕ) (row : List (Cell I)) → length (finish_at l n r p exact padding base number row) ≡ length row
  unfolding finish_if
  finish_at_keeps r p exact padding base number row = cond_keeps (has_base r.target number) (finish_base l n r p exact padding base row) row row (finish_base_keeps r p exact padding base row) refl

  finish_keeps : (r : Route) (p : Padded) (row : List (Cell I)) → length (finish l n r p row) ≡ length row
  unfolding finish finish_all
  finish_keeps r p row = walk_keeps (finish_at l n r p (exact_copy r p.size) (has_padding r.model p)) (λ base number s. finish_at_keeps r p (exact_copy r p.size) (has_padding r.model p) base number s) 0 r.bases row

  -- ---- the leaves, in batches

  written_keeps : (r : Route) (row after : List (Cell I)) (leaf : Leaf) (v : values.Value I) (rest : Option (List (Cell I))) → ((mid : List (Cell I)) → rest ≡ Some mid → length mid ≡ length row)
      → copy_written l n r leaf v rest ≡ Some after → length after ≡ length row
  unfolding write_target
  written_keeps r row after leaf v None h e = absurd (let k : ⊥ = cc in k)
  written_keeps r row after leaf v (Some mid) h e = write_leaf_keeps r.model r.bases r.target (leaf_access leaf r.to) v r.alone mid after e ∙ h mid refl

  read_keeps : (r : Route) (row after : List (Cell I)) (leaf : Leaf) (v : Option (values.Value I)) (rest : Option (List (Cell I))) → ((mid : List (Cell I)) → rest ≡ Some mid → length mid ≡ length row)
      → copy_read l n r leaf v rest ≡ Some after → length after ≡ length row
  read_keeps r row after leaf None rest h e = absurd (let k : ⊥ = cc in k)
  read_keeps r row after leaf (Some v) rest h e = written_keeps r row after leaf v rest h e

  same_some : (x y : List (Cell I)) → Some x ≡ Some y → length y ≡ length x
  same_some x y e = let k : x ≡ y = cc in subst (λ z. length z ≡ length x) k refl

  step_keeps : (r : Route) (row after : List (Cell I)) (leaf : Option Leaf) (rest : Option (List (Cell I))) → ((mid : List (Cell I)) → rest ≡ Some mid → length mid ≡ length row)
      → copy_step l n r row leaf rest ≡ Some after → length after ≡ length row
  step_keeps r row after None rest h e = same_some row after e
  step_keeps r row after (Some leaf) rest h e = read_keeps r row after leaf (read_source l n r leaf row) rest h e

  copy_leaves_keep : (r : Route) (count first : ℕ) (row after : List (Cell I)) → copy_leaves l n r count first row ≡ Some after → length after ≡ length row
  copy_leaves_keep r zero first row after e = same_some row after e
  copy_leaves_keep r (suc count) first row after e = step_keeps r row after (struct_leaf r.structs r.pointer r.index first) (copy_leaves l n r count (capped (first + 1)) row) (λ mid f. copy_leaves_keep r count (capped (first + 1)) row mid f) e

  batch_keeps : (r : Route) (count turn : ℕ) (row after : List (Cell I)) (state : Option (List (Cell I))) → ((mid : List (Cell I)) → state ≡ Some mid → length mid ≡ length row)
      → copy_batch l n r count turn state ≡ Some after → length after ≡ length row
  batch_keeps r count turn row after None h e = absurd (let k : ⊥ = cc in k)
  batch_keeps r count turn row after (Some mid) h e = copy_leaves_keep r (batch_count turn count) (batch_first turn) mid after e ∙ h mid refl

  batches_keep : (r : Route) (count turns_left : ℕ) (row after : List (Cell I)) → turns (copy_batch l n r count) turns_left (Some row) ≡ Some after → length after ≡ length row
  batches_keep r count zero row after e = same_some row after e
  batches_keep r count (suc left) row after e = batch_keeps r count left row after (turns (copy_batch l n r count) left (Some row)) (λ mid f. batches_keep r count left row mid f) e

  reached_keeps : (r : Route) (p : Padded) (row after : List (Cell I)) (state : Option (List (Cell I))) → ((mid : List (Cell I)) → state ≡ Some mid → length mid ≡ length row)
      → finish_reached l n r p state ≡ Some after → length after ≡ length row
  reached_keeps r p row after None h e = absurd (let k : ⊥ = cc in k)
  reached_keeps r p row after (Some mid) h e = same_some (finish l n r p mid) after e ∙ (finish_keeps r p mid ∙ h mid refl)

  copy_route_keeps : (r : Route) (s : StructView) (row after : List (Cell I)) → copy_route l n r s row ≡ Some after → length after ≡ length row
  unfolding copy_route copy_all
  copy_route_keeps r s row after e = reached_keeps r (padded_of r s) row after (copy_all l n r s.leaves row) (λ mid f. batches_keep r s.leaves (s.leaves / most_at_once + 1) row mid f) e

  between_keeps : (m : Model) (bases : List BaseInfo) (structs : List StructView) (i : ℕ) (s : StructView) (target : Bases) (to : Option Window) (source : Bases) (from : Option Window) (row after : List (Cell I))
      → copy_between l n m bases structs i s target to source from row ≡ Some after → length after ≡ length row
  between_keeps m bases structs i s target None source from row after e = absurd (let k : ⊥ = cc in k)
  between_keeps m bases structs i s target (Some to) source None row after e = absurd (let k : ⊥ = cc in k)
  between_keeps m bases structs i s target (Some to) source (Some from) row after e = copy_route_keeps (route_for m bases structs i target to source from) s row after e

  found_keeps : (m : Model) (bases : List BaseInfo) (structs : List StructView) (i : ℕ) (to from : Pointers I) (s : Option StructView) (row after : List (Cell I))
      → copy_found l n m bases structs i to from s row ≡ Some after → length after ≡ length row
  found_keeps m bases structs i to from None row after e = absurd (let k : ⊥ = cc in k)
  found_keeps m bases structs i to from (Some s) row after e = between_keeps m bases structs i s to.bases (window_of n to s.size) from.bases (window_of n from s.size) row after e

  pub copy_struct_keeps : (m : Model) (bases : List BaseInfo) (structs : List StructView) (i : ℕ) (to from : Pointers I) (row after : List (Cell I))
      → copy_struct l n m bases structs i to from row ≡ Some after → length after ≡ length row
  unfolding copy_struct
  copy_struct_keeps m bases structs i to from row after e = found_keeps m bases structs i to from (slice_get structs i) row after e
