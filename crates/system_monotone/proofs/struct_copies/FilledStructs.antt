-- Copies of structs leave something in each cell.
use Rattle.std.specs.Prelude.{ℕ, zero, suc, ◌+◌, ◌/◌, Bool, true, false, cond, Option, Some, None, is_some, List, slice_get}
use Rattle.cc_base.specs.Lattices.{LatticeOf}
use Rattle.cc_base.specs.IntegerDomains.{IntegersOf}
use Rattle.c_layout.specs.StructViews.{StructView, structs_view}
use Rattle.c_layout.specs.declared.data_model.Model.{Model}
use Rattle.c_layout.specs.declared.leaf_lists.Class.TheVariants.{Char}
use Rattle.c_layout.specs.declared.leaf_lists.Leaf.{Leaf}
use Rattle.c_layout.specs.declared.shapes.BaseInfo.{BaseInfo}
use Rattle.cfg.specs.declared.programs.Flow.{Flow}
use Rattle.pointer_domain.specs.declared.base_sets.Bases.{Bases}
use Rattle.pointer_domain.specs.declared.pointer_sets.Pointers.{Pointers}
use Rattle.value_domain.specs.declared.values.values.Value.{Value}
use Rattle.value_domain.specs.declared.values.row_cells.Cell.{Cell}
use Rattle.store_cells.specs.declared.access_windows.Window.{Window}
use Rattle.store_cells.specs.AccessWindows.{window_of}
use Rattle.store_cells.specs.ClassNumbers.{same_class}
use Rattle.store_cells.specs.FirstZeroWrites.{zero_target}
use Rattle.store_cells.specs.NearValues.{near_value}
use Rattle.store_cells.specs.RowPositions.{capped}
use Rattle.store_cells.specs.Walks.{turns}
use Rattle.store_struct_leaves.specs.declared.leaf_copies.LeafAccess.{LeafAccess}
use Rattle.store_structs.specs.CopyZeros.{Exact, copied_window, copy_part_at, copy_part, copy_zeros}
use Rattle.store_struct_leaves.specs.LeafCopies.{any_place, write_leaf_at, write_own_leaf, write_class_cell, write_leaves, write_own, write_other_at, write_other_leaf, write_class_byte, write_class_bytes, write_bytes, write_other_leaves, write_others, write_base, write_base_if, write_to, write_all, write_leaf}
use Rattle.store_structs.specs.LeafNumbers.{struct_leaf}
use Rattle.store_structs.specs.PaddingWrites.{Padded, has_padding, pad_leaf_at, pad_leaf, pad_leaves, pad_class, pad_classes, pad_part_at, pad_part, pad_zeros, pad_cells, write_padding}
use Rattle.store_structs.specs.StructCopies.{Route, route_for, leaf_access, exact_copy, most_at_once, batch_first, batch_count, padded_of, write_target, copy_written, copy_read, read_source, copy_step, copy_leaves, copy_batch, copy_all, finish_base, finish_if, finish_at, finish_all, finish, finish_reached, copy_route, copy_between, copy_found, copy_struct}
use Rattle.transfer_system.specs.MemorySteps.{copy_touched}
use Rattle.transfer_monotone.specs.Edges.FilledRows.{AreFilled, IsLeftFilled, Fills, LeavesFilled}
use Rattle.transfer_monotone.proofs.edges.FilledSteps.{fill_set, fill_if, fill_walk, fill_turns, fill_join, fill_write}

module _ {I : Type 0} (l : LatticeOf I) (n : IntegersOf I) where
  -- ---- leaves

  leaves_fill : (m : Model) (base : BaseInfo) (access : LeafAccess) (v : Value I) (alone : Bool) → Fills (write_leaves l n m base access v alone)
  unfolding write_leaves write_leaf_at
  leaves_fill m base access v alone row h = fill_walk (write_own_leaf l n m base access v alone) (λ leaf at x k. fill_if _ _ x (fill_write l n _ _ _ x k) k) 0 base.shape.cells row h

  cell_fills : (m : Model) (base : BaseInfo) (access : LeafAccess) (v : Value I) → Fills (write_class_cell l n m base access v)
  unfolding write_class_cell
  cell_fills m base access v row h = fill_if _ _ row (fill_join l n _ _ row h) h

  own_fills : (m : Model) (base : BaseInfo) (access : LeafAccess) (v : Value I) (alone : Bool) → Fills (write_own l n m base access v alone)
  unfolding write_own
  own_fills m base access v alone row h = leaves_fill m base access v alone (write_class_cell l n m base access v row) (cell_fills m base access v row h)

  bytes_fill : (m : Model) (base : BaseInfo) (v : Value I) → Fills (write_bytes l n m base v)
  unfolding write_bytes write_class_bytes write_class_byte
  bytes_fill m base v row h = fill_if base.shape.heap _ row (fill_turns (write_class_byte l n m base v) (λ at x k. fill_join l n _ _ x k) 5 row h) h

  others_fill : (m : Model) (base : BaseInfo) (access : LeafAccess) (v : Value I) → Fills (write_others l n m base access v)
  unfolding write_others write_other_leaves write_other_at
  others_fill m base access v row h = fill_walk (write_other_leaf l n m base access v) (λ leaf at x k. fill_if _ _ x (fill_join l n _ _ x k) k) 0 base.shape.cells (write_bytes l n m base v row) (bytes_fill m base v row h)

  base_fills : (m : Model) (base : BaseInfo) (access : LeafAccess) (v : Value I) (alone : Bool) → Fills (write_base l n m base access v alone)
  unfolding write_base
  base_fills m base access v alone row h =
      let own = own_fills m base access v alone row h in
      fill_if (same_class access.class Char) _ _ (others_fill m base access v (write_own l n m base access v alone row) own) own

  all_fill : (m : Model) (bases : List BaseInfo) (set : Bases) (access : LeafAccess) (v : Value I) (alone : Bool) → Fills (write_all l n m bases set access v alone)
  unfolding write_all write_base_if
  all_fill m bases set access v alone row h = fill_walk (write_to l n m set access v alone) (λ base number x k. fill_if _ _ x (base_fills m base access v alone x k) k) 0 bases row h

  left_filled : (c : Bool) (x : List (Cell I)) → AreFilled x → IsLeftFilled (cond c (Some x) None)
  left_filled true x h = h
  left_filled false x h = tt

  leaf_fills : (m : Model) (bases : List BaseInfo) (set : Bases) (access : LeafAccess) (v : Value I) (alone : Bool) → LeavesFilled (write_leaf l n m bases set access v alone)
  unfolding write_leaf
  leaf_fills m bases set access v alone row h = left_filled (any_place m bases set access) _ (all_fill m bases set access (near_value l n v) alone row h)

  -- ---- first zeros and padding

  zeros_fill : (base : BaseInfo) (w : Window) (exact : Option Exact) → Fills (copy_zeros l n base w exact)
  unfolding copy_zeros copy_part_at
  zeros_fill base w exact row h = fill_walk (copy_part l n base w exact) (λ part at x k. fill_if (is_some (zero_target part w)) _ x (fill_set x _ _ tt k) k) 0 base.shape.zeros row h

  pad_leaves_fill : (m : Model) (base : BaseInfo) (p : Padded) → Fills (pad_leaves l n m base p)
  unfolding pad_leaves pad_leaf_at
  pad_leaves_fill m base p row h = fill_walk (pad_leaf l n m base p) (λ leaf at x k. fill_if _ _ x (fill_join l n _ _ x k) k) 0 base.shape.cells row h

  pad_classes_fill : (m : Model) (base : BaseInfo) → Fills (pad_classes l n m base)
  unfolding pad_classes pad_class
  pad_classes_fill m base row h = fill_turns (pad_class l n m base) (λ at x k. fill_join l n _ _ x k) 6 row h

  padding_fills : (m : Model) (base : BaseInfo) (p : Padded) → Fills (write_padding l n m base p)
  unfolding write_padding pad_zeros pad_part_at pad_cells
  padding_fills m base p row h =
      let leaves = pad_leaves_fill m base p row h in
      fill_walk (pad_part l n m base p) (λ part at x k. fill_if _ _ x (fill_set x _ _ tt k) k) 0 base.shape.zeros _ (fill_if base.shape.heap _ _ (pad_classes_fill m base (pad_leaves l n m base p row) leaves) leaves)

  finished_base : (r : Route) (p : Padded) (exact : Option Exact) (padding : Bool) (base : BaseInfo) → Fills (finish_base l n r p exact padding base)
  unfolding finish_base
  finished_base r p exact padding base row h =
      let zeros = zeros_fill base (copied_window r.to p.size) exact row h in
      fill_if padding _ _ (padding_fills r.model base p (copy_zeros l n base (copied_window r.to p.size) exact row) zeros) zeros

  finish_fills : (r : Route) (p : Padded) → Fills (finish l n r p)
  unfolding finish finish_all finish_if
  finish_fills r p row h = fill_walk (finish_at l n r p (exact_copy r p.size) (has_padding r.model p)) (λ base number x k. fill_if _ _ x (finished_base r p (exact_copy r p.size) (has_padding r.model p) base x k) k) 0 r.bases row h

  -- ---- the leaves, in batches

  written_fills : (r : Route) (leaf : Leaf) (v : Value I) (rest : Option (List (Cell I))) → IsLeftFilled rest → IsLeftFilled (copy_written l n r leaf v rest)
  unfolding write_target
  written_fills r leaf v None h = tt
  written_fills r leaf v (Some row) h = leaf_fills r.model r.bases r.target (leaf_access leaf r.to) v r.alone row h

  read_fills : (r : Route) (leaf : Leaf) (v : Option (Value I)) (rest : Option (List (Cell I))) → IsLeftFilled rest → IsLeftFilled (copy_read l n r leaf v rest)
  read_fills r leaf None rest h = tt
  read_fills r leaf (Some v) rest h = written_fills r leaf v rest h

  step_fills : (r : Route) (row : List (Cell I)) → AreFilled row → (leaf : Option Leaf) (rest : Option (List (Cell I))) → IsLeftFilled rest → IsLeftFilled (copy_step l n r row leaf rest)
  step_fills r row k None rest h = k
  step_fills r row k (Some leaf) rest h = read_fills r leaf (read_source l n r leaf row) rest h

  copied_fill : (r : Route) (count first : ℕ) → LeavesFilled (copy_leaves l n r count first)
  copied_fill r zero first row h = h
  copied_fill r (suc count) first row h = step_fills r row h (struct_leaf r.structs r.pointer r.index first) (copy_leaves l n r count (capped (first + 1)) row) (copied_fill r count (capped (first + 1)) row h)

  batch_fills : (r : Route) (count turn : ℕ) (state : Option (List (Cell I))) → IsLeftFilled state → IsLeftFilled (copy_batch l n r count turn state)
  batch_fills r count turn None h = tt
  batch_fills r count turn (Some row) h = copied_fill r (batch_count turn count) (batch_first turn) row h

  batches_fill : (r : Route) (count left : ℕ) (row : List (Cell I)) → AreFilled row → IsLeftFilled (turns (copy_batch l n r count) left (Some row))
  batches_fill r count zero row h = h
  batches_fill r count (suc left) row h = batch_fills r count left (turns (copy_batch l n r count) left (Some row)) (batches_fill r count left row h)

  reached_fills : (r : Route) (p : Padded) (state : Option (List (Cell I))) → IsLeftFilled state → IsLeftFilled (finish_reached l n r p state)
  reached_fills r p None h = tt
  reached_fills r p (Some row) h = finish_fills r p row h

  route_fills : (r : Route) (s : StructView) → LeavesFilled (copy_route l n r s)
  unfolding copy_route copy_all
  route_fills r s row h = reached_fills r (padded_of r s) (turns (copy_batch l n r s.leaves) (s.leaves / most_at_once + 1) (Some row)) (batches_fill r s.leaves (s.leaves / most_at_once + 1) row h)

  between_fills : (m : Model) (bases : List BaseInfo) (structs : List StructView) (i : ℕ) (s : StructView) (target : Bases) (to : Option Window) (source : Bases) (from : Option Window) → LeavesFilled (copy_between l n m bases structs i s target to source from)
  between_fills m bases structs i s target None source from row h = tt
  between_fills m bases structs i s target (Some to) source None row h = tt
  between_fills m bases structs i s target (Some to) source (Some from) row h = route_fills (route_for m bases structs i target to source from) s row h

  found_fills : (m : Model) (bases : List BaseInfo) (structs : List StructView) (i : ℕ) (to from : Pointers I) (s : Option StructView) → LeavesFilled (copy_found l n m bases structs i to from s)
  found_fills m bases structs i to from None row h = tt
  found_fills m bases structs i to from (Some s) row h = between_fills m bases structs i s to.bases (window_of n to s.size) from.bases (window_of n from s.size) row h

  pub copy_fills : (flow : Flow) (index : ℕ) (p q : Pointers I) → LeavesFilled (copy_touched l n flow index p q)
  unfolding copy_touched copy_struct
  copy_fills flow index p q row h = found_fills flow.model flow.bases.items (structs_view flow.structs) index p q (slice_get (structs_view flow.structs) index) row h
