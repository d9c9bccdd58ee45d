-- What a leaf's read gives has near bounds.
use Rattle.std.proofs.Common.{◌+◌, Bool, true, false, cond, Option, Some, None, List}
use Rattle.std.specs.Prelude.{ℤ}
use Rattle.cc_base.specs.Lattices.{LatticeOf, OrderLaws}
use Rattle.cc_base.specs.IntegerDomains.{IntegersOf, BoundLaws, RangeLaws}
use Rattle.c_layout.specs.declared.data_model.Model.{Model}
use Rattle.c_layout.specs.declared.leaf_lists.Class.TheVariants.{Char}
use Rattle.c_layout.specs.declared.shapes.BaseInfo.{BaseInfo}
use Rattle.pointer_domain.specs.declared.base_sets.Bases.{Bases}
use Rattle.value_domain.specs.Values.LabelSets.{all_labels}
use Rattle.value_domain.specs.declared.values.values.Value.{Value}
use Rattle.value_domain.specs.declared.values.row_cells.Cell.{Cell}
use Rattle.store_cells.specs.CellReads.{whole_range, as_read, byte_read, joined}
use Rattle.store_cells.specs.ClassNumbers.{class_number, class_at, same_class}
use Rattle.store_objects.specs.LiveBases.{has_base}
use Rattle.store_cells.specs.RowPositions.{leaf_position, class_position, value_at}
use Rattle.store_cells.specs.ScalarTypes.{kind_of}
use Rattle.store_cells.specs.Walks.{turns}
use Rattle.store_sound.proofs.operations.Near.{value_at_near}
use Rattle.store_sound.proofs.operations.Walks.{walk_keeps, turns_keep}
use Rattle.store_struct_leaves.specs.CopyPlaces.{is_reached, is_touched}
use Rattle.store_struct_leaves.specs.LeafCopies.{span_meets_padding, reaches_class, own_leaf, read_own_leaf, read_class_cell, read_own, other_leaf, read_other_leaf, read_class_byte, read_class_bytes, read_padding, read_bytes, read_others, read_base, read_base_if, read_from, read_leaf}
use Rattle.store_struct_leaves.specs.declared.leaf_copies.LeafAccess.{LeafAccess}
use Rattle.struct_copies_sound.proofs.leaves.ReadValues.{NearFound, joined_near, if_near, read_near, range_near, byte_near}

module _ {I : Type 0} {l : LatticeOf I} {n : IntegersOf I} {gamma : I → ℤ → Type 0} (o : OrderLaws l) (q : BoundLaws l n gamma) (r : RangeLaws l n) (m : Model) (row : List (Cell I)) (access : LeafAccess) where
  abbrev Near : Option (Value I) → Type 0
  Near found = NearFound o q found

  class_near : (base : BaseInfo) → Near (read_class_cell l n m base row access)
  unfolding read_class_cell
  class_near base = by_test (reaches_class base access)
    where
      v : Value I
      v = value_at l n row (class_position base (class_number access.class))

      by_test : (c : Bool) → Near (cond c (Some (as_read n m (value_at l n row (class_position base (class_number access.class))) access.class true access.signed)) None)
      by_test true = read_near o q r m (value_at l n row (class_position base (class_number access.class))) access.class true access.signed (value_at_near o q row (class_position base (class_number access.class)))
      by_test false = tt

  own_near : (base : BaseInfo) → Near (read_own l n m base row access)
  unfolding read_own own_leaf
  own_near base = walk_keeps Near (read_own_leaf l n m base row access)
      (λ leaf at found g. if_near o q (is_reached leaf access.class access.span) found (as_read n m (value_at l n row (leaf_position base at)) access.class leaf.signed access.signed) g
      (read_near o q r m (value_at l n row (leaf_position base at)) access.class leaf.signed access.signed (value_at_near o q row (leaf_position base at))))
      0 base.shape.cells (read_class_cell l n m base row access) (class_near base)

  bytes_near : (base : BaseInfo) → Near (read_bytes l n m base row access)
  unfolding read_bytes read_class_bytes read_class_byte read_padding
  bytes_near base = by_heap base.shape.heap
    where
      by_met : (c : Bool) → Near (cond c (Some (whole_range l n (kind_of m Char access.signed) all_labels true)) None)
      by_met true = range_near o q r m access.signed all_labels true
      by_met false = tt

      by_heap : (c : Bool) → Near (cond c (turns (read_class_byte l n m base row access) 5 None) (cond (span_meets_padding m base access.span) (Some (whole_range l n (kind_of m Char access.signed) all_labels true)) None))
      by_heap true = turns_keep Near (read_class_byte l n m base row access)
          (λ at found g. joined_near o q found (Some (byte_read l n m (value_at l n row (class_position base (at + 1))) (class_at (at + 1)) access.signed)) g (byte_near o q r m (value_at l n row (class_position base (at + 1))) (class_at (at + 1)) access.signed))
          5 None tt
      by_heap false = by_met (span_meets_padding m base access.span)

  others_near : (base : BaseInfo) → Near (read_others l n m base row access)
  unfolding read_others other_leaf
  others_near base = walk_keeps Near (read_other_leaf l n m base row access)
      (λ leaf at found g. if_near o q (is_touched m leaf access.span) found (byte_read l n m (value_at l n row (leaf_position base at)) leaf.class access.signed) g (byte_near o q r m (value_at l n row (leaf_position base at)) leaf.class access.signed))
      0 base.shape.cells (read_bytes l n m base row access) (bytes_near base)

  base_near : (base : BaseInfo) → Near (read_base l n m base row access)
  unfolding read_base
  base_near base = by_test (same_class access.class Char)
    where
      by_test : (c : Bool) → Near (cond c (joined l (read_own l n m base row access) (read_others l n m base row access)) (read_own l n m base row access))
      by_test true = joined_near o q (read_own l n m base row access) (read_others l n m base row access) (own_near base) (others_near base)
      by_test false = own_near base

  pub leaf_near : (bases : List BaseInfo) (set : Bases) → Near (read_leaf l n m bases set row access)
  unfolding read_leaf read_base_if
  leaf_near bases set = walk_keeps Near (read_from l n m row set access) (λ base number found g. by_wanted (has_base set number) base found g) 0 bases None tt
    where
      by_wanted : (c : Bool) (base : BaseInfo) (found : Option (Value I)) → Near found → Near (cond c (joined l found (read_base l n m base row access)) found)
      by_wanted true base found g = joined_near o q found (read_base l n m base row access) g (base_near base)
      by_wanted false base found g = g
