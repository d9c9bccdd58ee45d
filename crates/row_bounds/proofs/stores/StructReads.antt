-- What a leaf of a copied struct can be in a row from a floor on is from it on.
use Rattle.std.specs.Prelude.{◌+◌, ℤ, Bool, true, false, Option, Some, None, List}
use Rattle.std.proofs.lemmas.Bool.{cond_both}
use Rattle.cc_base.specs.Lattices.{LatticeOf}
use Rattle.cc_base.specs.IntegerDomains.{IntegersOf}
use Rattle.c_layout.specs.declared.data_model.Model.{Model}
use Rattle.c_layout.specs.declared.leaf_lists.Class.TheVariants.{Char}
use Rattle.c_layout.specs.declared.shapes.BaseInfo.{BaseInfo}
use Rattle.pointer_domain.specs.declared.base_sets.Bases.{Bases}
use Rattle.value_domain.specs.Values.LabelSets.{all_labels}
use Rattle.value_domain.specs.declared.values.values.Value as values
use Rattle.value_domain.specs.declared.values.row_cells.Cell.{Cell}
use Rattle.store_cells.specs.CellReads.{joined, whole_range, as_read, byte_read}
use Rattle.store_cells.specs.ClassNumbers.{class_number, class_at, same_class}
use Rattle.store_objects.specs.LiveBases.{has_base}
use Rattle.store_cells.specs.RowPositions.{leaf_position, class_position, value_at}
use Rattle.store_cells.specs.ScalarTypes.{kind_of}
use Rattle.store_struct_leaves.specs.declared.leaf_copies.LeafAccess.{LeafAccess}
use Rattle.store_struct_leaves.specs.CopyPlaces.{is_reached, is_touched}
use Rattle.store_struct_leaves.specs.LeafCopies.{span_meets_padding, reaches_class, own_leaf, read_own_leaf, read_class_cell, read_own, other_leaf, read_other_leaf, read_class_byte, read_class_bytes, read_padding, read_bytes, read_others, read_base, read_base_if, read_from, read_leaf}
use Rattle.row_bounds.specs.Stores.Floors.{IsReadFrom, AreFrom}
use Rattle.row_bounds.proofs.stores.Ranges.{FloorLaws}
use Rattle.row_bounds.proofs.stores.Values as values_from
use Rattle.row_bounds.proofs.stores.Values.{whole_class_from, byte_read_from, joined_from, joined_if_from, at_from}
use Rattle.row_bounds.proofs.stores.Rows.{walk_keeps, turns_keep}

module _ {I : Type 0} {l : LatticeOf I} {n : IntegersOf I} {stands : I → ℤ → Type 0} {floor : ℤ} (k : FloorLaws l n stands floor) (m : Model) (row : List (Cell I)) (h : AreFrom n floor row) where
  abbrev ReadFrom : Option (values.Value I) → Type 0
  ReadFrom x = IsReadFrom n floor x

  module _ (base : BaseInfo) (access : LeafAccess) where
    class_from : IsReadFrom n floor (read_class_cell l n m base row access)
    unfolding read_class_cell
    class_from = cond_both (reaches_class base access) (Some (as_read n m (value_at l n row (class_position base (class_number access.class))) access.class true access.signed)) None ReadFrom
        (λ e. values_from.read_from k m (value_at l n row (class_position base (class_number access.class))) access.class true access.signed (at_from k row (class_position base (class_number access.class)) h)) (λ e. tt)

    own_from : IsReadFrom n floor (read_own l n m base row access)
    unfolding read_own own_leaf
    own_from = walk_keeps ReadFrom (read_own_leaf l n m base row access)
        (λ leaf at x j. joined_if_from k (is_reached leaf access.class access.span) x (as_read n m (value_at l n row (leaf_position base at)) access.class leaf.signed access.signed) j (values_from.read_from k m (value_at l n row (leaf_position base at)) access.class leaf.signed access.signed (at_from k row (leaf_position base at) h)))
        0 base.shape.cells (read_class_cell l n m base row access) class_from

    class_bytes_from : IsReadFrom n floor (read_class_bytes l n m base row access)
    unfolding read_class_bytes read_class_byte
    class_bytes_from = turns_keep ReadFrom (read_class_byte l n m base row access)
        (λ at x j. joined_from k x (Some (byte_read l n m (value_at l n row (class_position base (at + 1))) (class_at (at + 1)) access.signed)) j (byte_read_from k m (value_at l n row (class_position base (at + 1))) (class_at (at + 1)) access.signed))
        5 None tt

    padding_from : IsReadFrom n floor (read_padding l n m base access)
    unfolding read_padding
    padding_from = cond_both (span_meets_padding m base access.span) (Some (whole_range l n (kind_of m Char access.signed) all_labels true)) None ReadFrom (λ e. whole_class_from k m Char access.signed all_labels true) (λ e. tt)

    bytes_from : IsReadFrom n floor (read_bytes l n m base row access)
    unfolding read_bytes
    bytes_from = cond_both base.shape.heap (read_class_bytes l n m base row access) (read_padding l n m base access) ReadFrom (λ e. class_bytes_from) (λ e. padding_from)

    others_from : IsReadFrom n floor (read_others l n m base row access)
    unfolding read_others other_leaf
    others_from = walk_keeps ReadFrom (read_other_leaf l n m base row access)
        (λ leaf at x j. joined_if_from k (is_touched m leaf access.span) x (byte_read l n m (value_at l n row (leaf_position base at)) leaf.class access.signed) j (byte_read_from k m (value_at l n row (leaf_position base at)) leaf.class access.signed))
        0 base.shape.cells (read_bytes l n m base row access) bytes_from

    base_from : IsReadFrom n floor (read_base l n m base row access)
    unfolding read_base
    base_from = cond_both (same_class access.class Char) (joined l (read_own l n m base row access) (read_others l n m base row access)) (read_own l n m base row access) ReadFrom
        (λ e. joined_from k (read_own l n m base row access) (read_others l n m base row access) own_from others_from) (λ e. own_from)

  base_if_from : (wanted : Bool) (access : LeafAccess) (base : BaseInfo) (x : Option (values.Value I)) → IsReadFrom n floor x → IsReadFrom n floor (read_base_if l n m row wanted access base x)
  unfolding read_base_if
  base_if_from true access base x j = joined_from k x (read_base l n m base row access) j (base_from base access)
  base_if_from false access base x j = j

  pub leaf_from : (bases : List BaseInfo) (set : Bases) (access : LeafAccess) → IsReadFrom n floor (read_leaf l n m bases set row access)
  unfolding read_leaf
  leaf_from bases set access = walk_keeps ReadFrom (read_from l n m row set access) (λ base number x j. base_if_from (has_base set number) access base x j) 0 bases None tt
