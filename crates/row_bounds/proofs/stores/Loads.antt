-- Loads from rows from a floor on give values from it on.
use Rattle.std.specs.Prelude.{◌+◌, ℤ, Bool, true, false, Option, Some, None, List}
use Rattle.std.proofs.lemmas.Bool.{cond_both}
use Rattle.cc_base.specs.Lattices.{LatticeOf}
use Rattle.cc_base.specs.IntegerDomains.{IntegersOf}
use Rattle.c_layout.specs.declared.data_model.Model.{Model}
use Rattle.c_layout.specs.declared.leaf_lists.Class.{Class}
use Rattle.c_layout.specs.declared.leaf_lists.Class.TheVariants.{Char}
use Rattle.c_layout.specs.declared.shapes.BaseInfo.{BaseInfo}
use Rattle.pointer_domain.specs.declared.base_sets.Bases.{Bases}
use Rattle.pointer_domain.specs.declared.pointer_sets.Pointers.{Pointers}
use Rattle.value_domain.specs.Values.LabelSets.{all_labels}
use Rattle.value_domain.specs.declared.values.values.Value as values
use Rattle.value_domain.specs.declared.values.row_cells.Cell.{Cell}
use Rattle.store_cells.specs.declared.cell_reads.Access.{Access}
use Rattle.store_cells.specs.declared.access_windows.Window.{Window}
use Rattle.store_cells.specs.AccessWindows.{window_of}
use Rattle.store_cells.specs.CellReads.{as_read, byte_read, whole_range}
use Rattle.store_cells.specs.ClassNumbers.{class_number, class_at, same_class}
use Rattle.store.specs.LeafSelection.{is_selected, is_other, meets_padding}
use Rattle.store.specs.Loads.{reaches_class, read_leaf, load_leaves, load_class_cell, read_other_leaf, load_other_leaves, read_class_cell, load_other_class_cells, load_padding, load_other_bytes, is_text, determinate_if, load_own, load_others, load_character, load_base, read_base_if, read_base, load_bases, loaded, load_within, load}
use Rattle.store_objects.specs.LiveBases.{is_live_in}
use Rattle.store_cells.specs.RowPositions.{leaf_position, class_position, value_at}
use Rattle.store_cells.specs.ScalarTypes.{class_bytes, kind_of}
use Rattle.row_bounds.specs.Stores.Floors.{IsReadFrom, AreFrom}
use Rattle.row_bounds.proofs.stores.Ranges.{FloorLaws}
use Rattle.row_bounds.proofs.stores.Values.{whole_class_from, read_from, byte_read_from, joined_from, joined_if_from, at_from}
use Rattle.row_bounds.proofs.stores.Rows.{walk_keeps, turns_keep}

module _ {I : Type 0} {l : LatticeOf I} {n : IntegersOf I} {stands : I → ℤ → Type 0} {floor : ℤ} (k : FloorLaws l n stands floor) (m : Model) (row : List (Cell I)) (h : AreFrom n floor row) where
  abbrev ReadFrom : Option (values.Value I) → Type 0
  ReadFrom x = IsReadFrom n floor x

  module _ (base : BaseInfo) (access : Access) where
    leaves_from : IsReadFrom n floor (load_leaves l n m base row access)
    unfolding load_leaves
    leaves_from = walk_keeps ReadFrom (read_leaf l n m base row access)
        (λ leaf at x j. joined_if_from k (is_selected leaf access.class access.window) x (as_read n m (value_at l n row (leaf_position base at)) access.class leaf.signed access.signed) j (read_from k m (value_at l n row (leaf_position base at)) access.class leaf.signed access.signed (at_from k row (leaf_position base at) h)))
        0 base.shape.cells None tt

    class_from : IsReadFrom n floor (load_class_cell l n m base row access)
    unfolding load_class_cell
    class_from = cond_both (reaches_class base access) (Some (as_read n m (value_at l n row (class_position base (class_number access.class))) access.class true access.signed)) None ReadFrom
        (λ e. read_from k m (value_at l n row (class_position base (class_number access.class))) access.class true access.signed (at_from k row (class_position base (class_number access.class)) h)) (λ e. tt)

    other_leaves_from : IsReadFrom n floor (load_other_leaves l n m base row access)
    unfolding load_other_leaves
    other_leaves_from = walk_keeps ReadFrom (read_other_leaf l n m base row access)
        (λ leaf at x j. joined_if_from k (is_other m leaf access.window) x (byte_read l n m (value_at l n row (leaf_position base at)) leaf.class access.signed) j (byte_read_from k m (value_at l n row (leaf_position base at)) leaf.class access.signed))
        0 base.shape.cells None tt

    classes_from : IsReadFrom n floor (load_other_class_cells l n m base row access)
    unfolding load_other_class_cells
    classes_from = turns_keep ReadFrom (read_class_cell l n m base row access)
        (λ at x j. joined_from k x (Some (byte_read l n m (value_at l n row (class_position base (at + 1))) (class_at (at + 1)) access.signed)) j (byte_read_from k m (value_at l n row (class_position base (at + 1))) (class_at (at + 1)) access.signed))
        5 None tt

    padding_from : IsReadFrom n floor (load_padding l n m base access)
    unfolding load_padding
    padding_from = cond_both (meets_padding m base.shape.cells access.window base.size) (Some (whole_range l n (kind_of m Char access.signed) all_labels true)) None ReadFrom (λ e. whole_class_from k m Char access.signed all_labels true) (λ e. tt)

    other_bytes_from : IsReadFrom n floor (load_other_bytes l n m base row access)
    unfolding load_other_bytes
    other_bytes_from = cond_both base.shape.heap (load_other_class_cells l n m base row access) (load_padding l n m base access) ReadFrom (λ e. classes_from) (λ e. padding_from)

    own_from : IsReadFrom n floor (load_own l n m base row access)
    unfolding load_own
    own_from = joined_from k (load_leaves l n m base row access) (load_class_cell l n m base row access) leaves_from class_from

    others_from : IsReadFrom n floor (load_others l n m base row access)
    unfolding load_others
    others_from = joined_from k (load_other_leaves l n m base row access) (load_other_bytes l n m base row access) other_leaves_from other_bytes_from

    character_from : IsReadFrom n floor (load_character l n m base row access)
    unfolding load_character
    character_from = joined_from k (load_own l n m base row access) (load_others l n m base row access) own_from others_from

    determinate_from : (text : Bool) (x : Option (values.Value I)) → IsReadFrom n floor x → IsReadFrom n floor (determinate_if text x)
    determinate_from text None j = tt
    determinate_from text (Some v) j = j

    -- from one base
    pub load_base_from : IsReadFrom n floor (load_base l n m base row access)
    unfolding load_base
    load_base_from = cond_both (same_class access.class Char) (determinate_if (is_text l n base row access.window) (load_character l n m base row access)) (load_own l n m base row access) ReadFrom
        (λ e. determinate_from (is_text l n base row access.window) (load_character l n m base row access) character_from) (λ e. own_from)

  base_if_from : (wanted : Bool) (access : Access) (base : BaseInfo) (x : Option (values.Value I)) → IsReadFrom n floor x → IsReadFrom n floor (read_base_if l n m row wanted access base x)
  base_if_from true access base x j = joined_from k x (load_base l n m base row access) j (load_base_from base access)
  base_if_from false access base x j = j

  loaded_from : (class : Class) (x : Option (values.Value I)) → IsReadFrom n floor x → IsReadFrom n floor (loaded class x)
  loaded_from class None j = tt
  loaded_from class (Some v) j = j

  within_from : (bases : List BaseInfo) (set : Bases) (class : Class) (signed : Bool) (w : Option Window) → IsReadFrom n floor (load_within l n m bases row set class signed w)
  unfolding load_bases
  within_from bases set class signed None = tt
  within_from bases set class signed (Some w) =
      let access : Access = record { class = class; signed = signed; window = w } in
      loaded_from class (load_bases l n m bases row set access) (walk_keeps ReadFrom (read_base l n m row set access) (λ base number x j. base_if_from (is_live_in l n row set base number) access base x j) 0 bases None tt)

  -- what is loaded
  pub load_from : (bases : List BaseInfo) (p : Pointers I) (class : Class) (signed : Bool) → IsReadFrom n floor (load l n m bases row p class signed)
  unfolding load
  load_from bases p class signed = within_from bases p.bases class signed (window_of n p (class_bytes m class))
