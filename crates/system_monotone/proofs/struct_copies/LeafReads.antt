-- Leaves of structs that are read from larger rows, in more places.
use Rattle.std.specs.Prelude.{◌≡◌, ℕ, ◌+◌, ◌<◌, ℤ, Bool, true, cond, Option, Some, None, List, length}
use Rattle.std.proofs.Common.{arith, inl}
use Rattle.std.proofs.lemmas.Bool.{and_parts, and_from}
use Rattle.cc_base.specs.Lattices.{LatticeOf, OrderLaws}
use Rattle.cc_base.specs.IntegerDomains.{IntegersOf, BoundLaws, RangeLaws}
use Rattle.cc_base.specs.IntegerLaws.{MonotoneLaws}
use Rattle.c_layout.specs.declared.data_model.Model.{Model}
use Rattle.c_layout.specs.declared.leaf_lists.Class.{Class}
use Rattle.c_layout.specs.declared.leaf_lists.Class.TheVariants.{Char}
use Rattle.c_layout.specs.declared.shapes.BaseInfo.{BaseInfo}
use Rattle.pointer_domain.specs.declared.base_sets.Bases.{Bases}
use Rattle.pointer_domain.specs.BaseSets.{bases_within}
use Rattle.value_domain.specs.declared.values.values.Value.{Value}
use Rattle.value_domain.specs.declared.values.row_cells.Cell.{Cell}
use Rattle.value_domain.specs.Values.LabelSets.{all_labels, labels_order}
use Rattle.domain_theorems.specs.Values.Consistency.{AreWords}
use Rattle.store_cells.specs.CellReads.{joined, whole_range, as_read, byte_read}
use Rattle.store_cells.specs.ClassNumbers.{class_number, class_at, same_class}
use Rattle.store_objects.specs.LiveBases.{has_base}
use Rattle.store_cells.specs.RowPositions.{leaf_position, class_position, value_at}
use Rattle.store_cells.specs.ScalarTypes.{kind_of}
use Rattle.store_monotone.specs.Operations.Placements.{EachFrom, IsPlaced}
use Rattle.store_monotone.proofs.operations.LiveSets.{has_monotone}
use Rattle.store_monotone.proofs.operations.Loads.{class_small}
use Rattle.store_monotone.proofs.operations.PairedSteps.{walk_pair, turns_pair, cond_pair, cond_pair_if, same_pair, numbers_below}
use Rattle.store_monotone.proofs.operations.Together.{both_each}
use Rattle.store_struct_leaves.specs.declared.copy_places.Span.{Span}
use Rattle.store_struct_leaves.specs.declared.leaf_copies.LeafAccess.{LeafAccess}
use Rattle.store_struct_leaves.specs.CopyPlaces.{is_reached, is_touched, span_has_stray}
use Rattle.store_struct_leaves.specs.LeafCopies.{span_meets_padding, reaches_class, own_leaf, read_own_leaf, read_class_cell, read_own, other_leaf, read_other_leaf, read_class_byte, read_class_bytes, read_padding, read_bytes, read_others, read_base, read_base_if, read_from, read_leaf}
use Rattle.store_monotone.specs.Structs.LargerSpans.{SpanWithin, IsMetToo, ReachesMore}
use Rattle.transfer_monotone.specs.Values.RisingRows.{ValuesRise, RowsRise}
use Rattle.transfer_monotone.proofs.values.RisingCells.{value_rises}
use Rattle.system_monotone.proofs.struct_copies.CopiedValues.{ReadsRise, joined_both, joined_above, read_rises, byte_rises, whole_rises}

abbrev pub access_of : Class → Bool → Span → LeafAccess
access_of class signed s = record { class = class; signed = signed; span = s }

-- each leaf with its place in the row
pub met_leaves : (m : Model) (base : BaseInfo) → ReachesMore m base → (s u : Span) → SpanWithin s u → EachFrom (λ leaf at. (at < length base.shape.cells) × IsMetToo m s u leaf) 0 base.shape.cells
met_leaves m base q s u i = both_each (λ leaf at. at < length base.shape.cells) (λ leaf at. IsMetToo m s u leaf) 0 base.shape.cells (numbers_below (length base.shape.cells) 0 base.shape.cells (omega arith)) (q.leaves s u i)

pub class_more : (m : Model) (base : BaseInfo) → ReachesMore m base → (class : Class) (signed : Bool) (s u : Span) → SpanWithin s u → reaches_class base (access_of class signed s) ≡ true → reaches_class base (access_of class signed u) ≡ true
unfolding reaches_class
class_more m base q class signed s u i e = let a = and_parts base.shape.heap (span_has_stray base.shape.cells class s) e in and_from _ _ a.0 (q.stray class s u i a.0 a.1)

pub class_heap : (base : BaseInfo) (access : LeafAccess) → reaches_class base access ≡ true → base.shape.heap ≡ true
unfolding reaches_class
class_heap base access e = (and_parts base.shape.heap (span_has_stray base.shape.cells access.class access.span) e).0

module _ {I : Type 0} {l : LatticeOf I} {n : IntegersOf I} {stands : I → ℤ → Type 0} (o : OrderLaws l) (b : BoundLaws l n stands) (g : MonotoneLaws l n) (f : RangeLaws l n) (m : Model) (all : Bases) (words : AreWords all) (top r s : List (Cell I)) (h : RowsRise l n top r s) where
  abbrev Rises : Option (Value I) → Option (Value I) → Type 0
  Rises a x = ReadsRise l n all a x

  module _ (base : BaseInfo) (p : IsPlaced n all top base) (q : ReachesMore m base) (class : Class) (signed : Bool) (w u : Span) (i : SpanWithin w u) where
    abbrev small : LeafAccess
    small = access_of class signed w

    abbrev large : LeafAccess
    large = access_of class signed u

    leaf_value : (at : ℕ) → at < length base.shape.cells → ValuesRise l n all (value_at l n r (leaf_position base at)) (value_at l n s (leaf_position base at))
    leaf_value at e = value_rises o b all words top r s h (leaf_position base at) (inl (p.leaf at e))

    class_value : (at : ℕ) → base.shape.heap ≡ true → at < 6 → ValuesRise l n all (value_at l n r (class_position base at)) (value_at l n s (class_position base at))
    class_value at heap e = value_rises o b all words top r s h (class_position base at) (inl (p.class at heap e))

    -- a value besides what was found, where it is met
    if_rises : (a c : Bool) (v w : Value I) (x y : Option (Value I)) → (a ≡ true → c ≡ true) → Rises x y → ValuesRise l n all v w → Rises (cond a (joined l x (Some v)) x) (cond c (joined l y (Some w)) y)
    if_rises a c v w x y k j z = cond_pair Rises a c x (joined l x (Some v)) y (joined l y (Some w)) k j (joined_above o b all words x y (Some v) (Some w) j z) (joined_both o b all words x y (Some v) (Some w) j z)

    cell_rises : Rises (read_class_cell l n m base r small) (read_class_cell l n m base s large)
    unfolding read_class_cell
    cell_rises =
        let value : reaches_class base large ≡ true → ValuesRise l n all (as_read n m (value_at l n r (class_position base (class_number class))) class true signed) (as_read n m (value_at l n s (class_position base (class_number class))) class true signed) =
        λ e. read_rises o b all words g f m class true signed _ _ (class_value (class_number class) (class_heap base large e) (class_small class)) in
        cond_pair_if Rises (reaches_class base small) (reaches_class base large) None _ None _ (class_more m base q class signed w u i) tt (λ e. (value e).own) value

    own_rises : Rises (read_own l n m base r small) (read_own l n m base s large)
    unfolding read_own own_leaf
    own_rises = walk_pair (λ leaf at. (at < length base.shape.cells) × IsMetToo m w u leaf) Rises (read_own_leaf l n m base r small) (read_own_leaf l n m base s large)
        (λ leaf at x y e j. if_rises (is_reached leaf class w) (is_reached leaf class u) (as_read n m (value_at l n r (leaf_position base at)) class leaf.signed signed) (as_read n m (value_at l n s (leaf_position base at)) class leaf.signed signed) x y (e.1.own class) j
        (read_rises o b all words g f m class leaf.signed signed _ _ (leaf_value at e.0)))
        0 base.shape.cells (read_class_cell l n m base r small) (read_class_cell l n m base s large) (met_leaves m base q w u i) cell_rises

    class_bytes_rise : base.shape.heap ≡ true → Rises (read_class_bytes l n m base r small) (read_class_bytes l n m base s large)
    unfolding read_class_bytes read_class_byte
    class_bytes_rise heap = turns_pair Rises (read_class_byte l n m base r small) (read_class_byte l n m base s large) 5
        (λ at x y e j. joined_both o b all words x y _ _ j (byte_rises o b all words m (class_at (at + 1)) signed _ _ (class_value (at + 1) heap (omega arith))))
        5 None None (omega arith) tt

    padding_rises : Rises (read_padding l n m base small) (read_padding l n m base large)
    unfolding read_padding
    padding_rises =
        let v = whole_rises o b all words m Char signed all_labels all_labels true true (labels_order.reflexive all_labels) (λ e. e) in
        cond_pair Rises (span_meets_padding m base w) (span_meets_padding m base u) None (Some (whole_range l n (kind_of m Char signed) all_labels true)) None (Some (whole_range l n (kind_of m Char signed) all_labels true)) (q.padding w u i) tt v.own v

    bytes_rise : Rises (read_bytes l n m base r small) (read_bytes l n m base s large)
    unfolding read_bytes
    bytes_rise = same_pair Rises base.shape.heap _ _ _ _ class_bytes_rise (λ e. padding_rises)

    others_rise : Rises (read_others l n m base r small) (read_others l n m base s large)
    unfolding read_others other_leaf
    others_rise = walk_pair (λ leaf at. (at < length base.shape.cells) × IsMetToo m w u leaf) Rises (read_other_leaf l n m base r small) (read_other_leaf l n m base s large)
        (λ leaf at x y e j. if_rises (is_touched m leaf w) (is_touched m leaf u) (byte_read l n m (value_at l n r (leaf_position base at)) leaf.class signed) (byte_read l n m (value_at l n s (leaf_position base at)) leaf.class signed) x y e.1.other j
        (byte_rises o b all words m leaf.class signed _ _ (leaf_value at e.0)))
        0 base.shape.cells (read_bytes l n m base r small) (read_bytes l n m base s large) (met_leaves m base q w u i) bytes_rise

    base_rises : Rises (read_base l n m base r small) (read_base l n m base s large)
    unfolding read_base
    base_rises = same_pair Rises (same_class class Char) _ _ _ _
        (λ e. joined_both o b all words (read_own l n m base r small) (read_own l n m base s large) (read_others l n m base r small) (read_others l n m base s large) own_rises others_rise) (λ e. own_rises)

  -- what a leaf can be in larger sets of bases
  pub leaf_rises : (bases : List BaseInfo) → EachFrom (λ base number. IsPlaced n all top base × ReachesMore m base) 0 bases → (set more : Bases) → bases_within set more ≡ true → (class : Class) (signed : Bool) (w u : Span) → SpanWithin w u
      → ReadsRise l n all (read_leaf l n m bases set r (access_of class signed w)) (read_leaf l n m bases more s (access_of class signed u))
  unfolding read_leaf read_base_if
  leaf_rises bases each set more k class signed w u i =
      let small : LeafAccess = access_of class signed w in
      let large : LeafAccess = access_of class signed u in
      walk_pair (λ base number. IsPlaced n all top base × ReachesMore m base) Rises (read_from l n m r set small) (read_from l n m s more large)
      (λ base number x y p j.
      let z = base_rises base p.0 p.1 class signed w u i in
      cond_pair Rises (has_base set number) (has_base more number) x (joined l x (read_base l n m base r small)) y (joined l y (read_base l n m base s large)) (has_monotone set more number k) j
      (joined_above o b all words x y (read_base l n m base r small) (read_base l n m base s large) j z) (joined_both o b all words x y (read_base l n m base r small) (read_base l n m base s large) j z))
      0 bases None None each tt
