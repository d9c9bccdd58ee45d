-- Bytes that calls write leave rows from a floor on.
use Rattle.std.specs.Prelude.{◌+◌, ℤ, pos, Bool, true, false, is_some}
use Rattle.std.proofs.lemmas.Bool.{cond_both}
use Rattle.cc_base.specs.Lattices.{LatticeOf}
use Rattle.cc_base.specs.IntegerDomains.{IntegersOf}
use Rattle.c_layout.specs.declared.data_model.Model.{Model}
use Rattle.c_layout.specs.declared.leaf_lists.Class.{Class}
use Rattle.c_layout.specs.declared.leaf_lists.Class.TheVariants.{Char, Short, Int, Long, LongLong, Pointer}
use Rattle.c_layout.specs.declared.shapes.BaseInfo.{BaseInfo}
use Rattle.cfg.specs.declared.programs.Flow.{Flow}
use Rattle.pointer_domain.specs.PointerLattice.{pointer_lattice}
use Rattle.value_domain.specs.declared.values.values.Value.{Value}
use Rattle.value_domain.specs.declared.values.row_cells.Cell.TheVariants.{First}
use Rattle.value_domain.specs.Values.ValueTables.{number_value}
use Rattle.store_cells.specs.ByteWrites.{null_pointer, labelled_null, byte_written}
use Rattle.store_cells.specs.CellReads.{whole_range}
use Rattle.store_cells.specs.ClassNumbers.{class_at, is_pointer}
use Rattle.store_cells.specs.FirstZeroWrites.{zero_target}
use Rattle.store.specs.LeafSelection.{is_overlapped, has_stray}
use Rattle.store_objects.specs.LiveBases.{has_base, is_one_instance}
use Rattle.store_cells.specs.RowPositions.{leaf_position, class_position, zero_position}
use Rattle.store_cells.specs.ScalarTypes.{kind_of}
use Rattle.transfer_library_writes.specs.declared.copied_bytes.CopyWrite.{CopyWrite}
use Rattle.transfer_library_writes.specs.declared.fill_writes.FillWrite.{FillWrite}
use Rattle.transfer_library_writes.specs.declared.source_bytes.Characters.{Characters}
use Rattle.transfer_library_writes.specs.declared.text_writes.TextWrite.{TextWrite}
use Rattle.transfer_library_writes.specs.TextWrites.{character_value, leaf_value, value_of_class, write_leaf, write_leaf_of, write_leaves, write_stray, write_class, write_class_cells, write_zero, write_zeros, write_heap_part, write_base, write_base_if, write_into, write_in, write_text}
use Rattle.transfer_library_writes.specs.FillWrites.{zeroed, covered_value, is_covered, fill_leaf, fill_leaf_of, fill_leaves, clears_instance, class_value, fill_stray, fill_class, fill_class_cells, fill_zero, fill_zeros, fill_heap_part, fill_base, fill_base_if, fill_in, write_fill}
use Rattle.transfer_library_writes.specs.CopyWrites.{with_null, copied_value, copy_leaf, copy_leaf_of, copy_leaves, copy_class_of, copy_class_cells, copy_base, copy_base_if, copy_in, write_copy}
use Rattle.row_bounds.specs.Stores.Floors.{IsFrom, IsPointerFrom, IsValueFrom, KeepsFrom}
use Rattle.row_bounds.proofs.stores.Ranges.{FloorLaws, least_from, join_from}
use Rattle.row_bounds.proofs.stores.Values.{no_pointer_from, pointers_join_from, least_value_from, number_from, whole_class_from, byte_written_from, zero_from}
use Rattle.row_bounds.proofs.stores.Rows.{set_from, if_from, row_walk, row_turns, zeros_forgotten, join_keeps, write_keeps}

module _ {I : Type 0} {l : LatticeOf I} {n : IntegersOf I} {stands : I → ℤ → Type 0} {floor : ℤ} (k : FloorLaws l n stands floor) where
  -- characters of a text from the floor on
  abbrev pub AreCharactersFrom : Characters I → Type 0
  AreCharactersFrom c = IsFrom floor (n.bounds c.signed) × IsFrom floor (n.bounds c.unsigned)

  abbrev ValueFrom : Value I → Type 0
  ValueFrom v = IsValueFrom n floor v

  -- ---- texts

  module _ (m : Model) (write : TextWrite I) (h : AreCharactersFrom write.characters) (base : BaseInfo) where
    character_from : (signed : Bool) → IsValueFrom n floor (character_value l n write.characters signed)
    character_from true = number_from k (l.join write.characters.signed (n.one (pos 0))) (join_from k floor write.characters.signed (n.one (pos 0)) h.0 (zero_from k))
    character_from false = number_from k (l.join write.characters.unsigned (n.one (pos 0))) (join_from k floor write.characters.unsigned (n.one (pos 0)) h.1 (zero_from k))

    class_from : (class : Class) (signed : Bool) → IsValueFrom n floor (value_of_class l n m class signed write.characters)
    class_from Char signed = character_from signed
    class_from Short signed = byte_written_from k m Short signed write.characters.labels
    class_from Int signed = byte_written_from k m Int signed write.characters.labels
    class_from Long signed = byte_written_from k m Long signed write.characters.labels
    class_from LongLong signed = byte_written_from k m LongLong signed write.characters.labels
    class_from Pointer signed = byte_written_from k m Pointer signed write.characters.labels

    leaves_kept : KeepsFrom n floor (write_leaves l n m base write)
    unfolding write_leaves write_leaf
    leaves_kept row j = row_walk n floor (write_leaf_of l n m base write) (λ leaf at x q. if_from n floor (is_overlapped m leaf write.window) _ x (join_keeps k (leaf_position base at) (leaf_value l n m leaf write.characters) (class_from leaf.class leaf.signed) x q) q) 0 base.shape.cells row j

    stray_kept : KeepsFrom n floor (write_stray l n base write)
    stray_kept row j = if_from n floor (has_stray base.shape.cells Char write.window) _ row (join_keeps k (class_position base 0) (character_value l n write.characters true) (character_from true) row j) j

    classes_kept : KeepsFrom n floor (write_class_cells l n m base write)
    unfolding write_class_cells
    classes_kept row j = row_turns n floor (write_class l n m base write) (λ at x q. join_keeps k (class_position base (at + 1)) _ (byte_written_from k m (class_at (at + 1)) true write.characters.labels) x q) 5 (write_stray l n base write row) (stray_kept row j)

    zeros_kept : (alone : Bool) → KeepsFrom n floor (write_zeros l n base write alone)
    unfolding write_zeros write_zero
    zeros_kept alone row j = row_walk n floor (write_zero l n base write alone) (λ part at x q. if_from n floor (is_some (zero_target part write.window)) _ x (set_from n floor x (zero_position base at) (First _) tt q) q) 0 base.shape.zeros row j

    base_kept : (alone : Bool) → KeepsFrom n floor (write_base l n m base write alone)
    unfolding write_base
    base_kept alone row j =
        let leaves = leaves_kept row j in
        zeros_kept alone (write_heap_part l n m base write (write_leaves l n m base write row)) (if_from n floor base.shape.heap _ _ (classes_kept (write_leaves l n m base write row) leaves) leaves)

  pub text_keeps : (flow : Flow) (write : TextWrite I) → AreCharactersFrom write.characters → KeepsFrom n floor (write_text l n flow write)
  unfolding write_text write_base_if
  text_keeps flow write h row j =
      let alone = is_one_instance flow.bases.items write.bases in
      row_walk n floor (write_in l n flow.model write alone) (λ base number x q. if_from n floor (has_base write.bases number) _ x (base_kept flow.model (write_into write number) h base alone x q) q) 0 flow.bases.items row j

  -- ---- bytes that are set

  module _ (m : Model) (write : FillWrite) (base : BaseInfo) where
    covered_from : (class : Class) (signed : Bool) → IsValueFrom n floor (covered_value l n m class signed write)
    covered_from class signed = cond_both (is_pointer class) (labelled_null l write.labels) (zeroed l n m class signed write) ValueFrom (λ e. least_value_from k)
        (λ e. cond_both write.zero (number_value l (n.one (pos 0)) write.labels) (byte_written l n m class signed write.labels) ValueFrom (λ f. number_from k (n.one (pos 0)) (zero_from k)) (λ f. byte_written_from k m class signed write.labels))

    set_leaves_kept : (alone : Bool) → KeepsFrom n floor (fill_leaves l n m base write alone)
    unfolding fill_leaves fill_leaf_of fill_leaf
    set_leaves_kept alone row j = row_walk n floor (fill_leaf_of l n m base write alone)
        (λ leaf at x q. if_from n floor (is_overlapped m leaf write.window) _ x
        (if_from n floor (is_covered m leaf write alone) _ _ (write_keeps k (leaf_position base at) (covered_value l n m leaf.class leaf.signed write) true (covered_from leaf.class leaf.signed) x q) (write_keeps k (leaf_position base at) (byte_written l n m leaf.class leaf.signed write.labels) false (byte_written_from k m leaf.class leaf.signed write.labels) x q)) q)
        0 base.shape.cells row j

    class_value_from : (class : Class) (cleared : Bool) → IsValueFrom n floor (class_value l n m class write cleared)
    class_value_from class cleared = cond_both cleared (covered_value l n m class true write) (byte_written l n m class true write.labels) ValueFrom (λ e. covered_from class true) (λ e. byte_written_from k m class true write.labels)

    set_stray_kept : (cleared : Bool) → KeepsFrom n floor (fill_stray l n m base write cleared)
    set_stray_kept cleared row j = if_from n floor (has_stray base.shape.cells Char write.window) _ row (join_keeps k (class_position base 0) (class_value l n m Char write cleared) (class_value_from Char cleared) row j) j

    set_classes_kept : KeepsFrom n floor (fill_class_cells l n m base write)
    unfolding fill_class_cells
    set_classes_kept row j =
        let cleared = clears_instance l n base row write in
        row_turns n floor (fill_class l n m base write cleared) (λ at x q. join_keeps k (class_position base (at + 1)) (class_value l n m (class_at (at + 1)) write cleared) (class_value_from (class_at (at + 1)) cleared) x q) 5 (fill_stray l n m base write cleared row) (set_stray_kept cleared row j)

    set_zeros_kept : (alone : Bool) → KeepsFrom n floor (fill_zeros l n base write alone)
    unfolding fill_zeros fill_zero
    set_zeros_kept alone row j = row_walk n floor (fill_zero l n base write alone) (λ part at x q. if_from n floor (is_some (zero_target part write.window)) _ x (set_from n floor x (zero_position base at) (First _) tt q) q) 0 base.shape.zeros row j

    set_base_kept : (alone : Bool) → KeepsFrom n floor (fill_base l n m base write alone)
    unfolding fill_base
    set_base_kept alone row j =
        let leaves = set_leaves_kept alone row j in
        set_zeros_kept alone (fill_heap_part l n m base write (fill_leaves l n m base write alone row)) (if_from n floor base.shape.heap _ _ (set_classes_kept (fill_leaves l n m base write alone row) leaves) leaves)

  pub fill_keeps : (flow : Flow) (write : FillWrite) → KeepsFrom n floor (write_fill l n flow write)
  unfolding write_fill fill_base_if
  fill_keeps flow write row j =
      let alone = is_one_instance flow.bases.items write.bases in
      row_walk n floor (fill_in l n flow.model write alone) (λ base number x q. if_from n floor (has_base write.bases number) _ x (set_base_kept flow.model write base alone x q) q) 0 flow.bases.items row j

  -- ---- bytes that are copied

  module _ (m : Model) (write : CopyWrite I) (h : IsPointerFrom n floor write.bytes.pointers) (base : BaseInfo) where
    copied_from : (class : Class) (signed : Bool) → IsValueFrom n floor (copied_value l n m class signed write.bytes)
    copied_from class signed = cond_both (is_pointer class)
        (record { num = l.least; pointer = with_null l write.bytes.pointers write.bytes.numbers; indeterminate = write.bytes.indeterminate; labels = write.bytes.labels })
        (whole_range l n (kind_of m class signed) write.bytes.labels write.bytes.indeterminate) ValueFrom
        (λ e. (least_from k floor, cond_both write.bytes.numbers ((pointer_lattice l).join write.bytes.pointers (null_pointer l)) write.bytes.pointers (λ p. IsPointerFrom n floor p) (λ f. pointers_join_from k write.bytes.pointers (null_pointer l) h (no_pointer_from k)) (λ f. h)))
        (λ e. whole_class_from k m class signed write.bytes.labels write.bytes.indeterminate)

    copy_leaves_kept : KeepsFrom n floor (copy_leaves l n m base write)
    unfolding copy_leaves copy_leaf
    copy_leaves_kept row j = row_walk n floor (copy_leaf_of l n m base write) (λ leaf at x q. if_from n floor (is_overlapped m leaf write.window) _ x (join_keeps k (leaf_position base at) (copied_value l n m leaf.class leaf.signed write.bytes) (copied_from leaf.class leaf.signed) x q) q) 0 base.shape.cells row j

    copy_classes_kept : KeepsFrom n floor (copy_class_cells l n m base write)
    unfolding copy_class_cells
    copy_classes_kept row j = row_turns n floor (copy_class_of l n m base write (has_stray base.shape.cells Char write.window)) (λ at x q. if_from n floor _ _ x (join_keeps k (class_position base at) (copied_value l n m (class_at at) true write.bytes) (copied_from (class_at at) true) x q) q) 6 row j

    copy_base_kept : KeepsFrom n floor (copy_base l n m base write)
    unfolding copy_base
    copy_base_kept row j =
        let leaves = copy_leaves_kept row j in
        zeros_forgotten n floor l base write.window _ (if_from n floor base.shape.heap _ _ (copy_classes_kept (copy_leaves l n m base write row) leaves) leaves)

  pub copy_keeps : (flow : Flow) (write : CopyWrite I) → IsPointerFrom n floor write.bytes.pointers → KeepsFrom n floor (write_copy l n flow write)
  unfolding write_copy copy_base_if
  copy_keeps flow write h row j = row_walk n floor (copy_in l n flow.model write) (λ base number x q. if_from n floor (has_base write.bases number) _ x (copy_base_kept flow.model write h base x q) q) 0 flow.bases.items row j
