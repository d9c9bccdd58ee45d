-- Values of leaves that are copied, the smaller one beside the larger one.
use Rattle.std.specs.Prelude.{◌≡◌, ℤ, Bool, true, false, cond, not, ◌||◌, Option, Some, None, refl}
use Rattle.cc_base.specs.Lattices.{LatticeOf, OrderLaws}
use Rattle.cc_base.specs.IntegerDomains.{IntegersOf, BoundLaws, RangeLaws}
use Rattle.cc_base.specs.IntegerLaws.{MonotoneLaws}
use Rattle.c_layout.specs.declared.data_model.Model.{Model}
use Rattle.c_layout.specs.declared.leaf_lists.Class.{Class}
use Rattle.c_layout.specs.declared.leaf_lists.Class.TheVariants.{Char}
use Rattle.pointer_domain.specs.declared.base_sets.Bases.{Bases}
use Rattle.value_domain.specs.declared.values.values.Value.{Value}
use Rattle.value_domain.specs.declared.values.label_sets.Labels.{Labels}
use Rattle.value_domain.specs.Values.LabelSets.{labels_leq}
use Rattle.value_domain.specs.Values.Values.{value_lattice, value_order}
use Rattle.domain_theorems.specs.Values.Consistency.{AreWords, is_consistent}
use Rattle.domain_theorems.proofs.values.Flags.{Sets, flag_sets, sets_flag, or_sets}
use Rattle.domain_theorems.proofs.values.Parts.{value_parts, value_below, pointer_parts}
use Rattle.store_cells.specs.ByteWrites.{labelled_null, byte_written}
use Rattle.store_cells.specs.CellReads.{joined, whole_range, as_read, as_stored, only_flag, byte_read, same_sign}
use Rattle.store_cells.specs.ClassNumbers.{is_pointer}
use Rattle.store_cells.specs.ScalarTypes.{kind_of}
use Rattle.store_monotone.specs.Operations.TopCells.{top_value}
use Rattle.store_monotone.proofs.operations.CellReads.{read_monotone, read_top, stored_in_monotone, stored_in_top, byte_monotone, whole_monotone, whole_top, written_monotone, written_top}
use Rattle.store_monotone.proofs.operations.Consistent.{IsEven, even_join, even_bare}
use Rattle.store_monotone.proofs.operations.OwnValues.{blank_top}
use Rattle.store_struct_leaves.specs.LeafCopies.{with_flag}
use Rattle.transfer_monotone.specs.Values.RisingRows.{ValuesRise}
use Rattle.transfer_monotone.proofs.values.OwnBases.{words_less}

module _ {I : Type 0} (l : LatticeOf I) (n : IntegersOf I) (all : Bases) where
  -- what is read, the smaller below the larger
  abbrev pub ReadsRise : Option (Value I) → Option (Value I) → Type 0
  ReadsRise None None = Unit {0}
  ReadsRise None (Some w) = (value_lattice l).leq w (top_value n all) ≡ true
  ReadsRise (Some v) None = ⊥
  ReadsRise (Some v) (Some w) = ValuesRise l n all v w

module _ {I : Type 0} {l : LatticeOf I} {n : IntegersOf I} {stands : I → ℤ → Type 0} (o : OrderLaws l) (b : BoundLaws l n stands) (all : Bases) (words : AreWords all) where
  small_own : (v w : Value I) → ValuesRise l n all v w → (value_lattice l).leq v (top_value n all) ≡ true
  small_own v w h = (value_order o).transitive v w (top_value n all) h.below h.own

  pub even_of : (v w : Value I) → ValuesRise l n all v w → IsEven n v.pointer
  even_of v w h = (words_less v.pointer.bases all (pointer_parts l v.pointer (top_value n all).pointer (value_parts l v (top_value n all) (small_own v w h)).pointer).bases words, h.even)

  -- ---- joined

  joined_rises : (v w t u : Value I) → ValuesRise l n all v w → ValuesRise l n all t u → ValuesRise l n all ((value_lattice l).join v t) ((value_lattice l).join w u)
  joined_rises v w t u h k =
      let e = even_join o b v.pointer t.pointer (even_of v w h) (even_of t u k) in
      record {
        below = (value_order o).join_least v t ((value_lattice l).join w u)
            ((value_order o).transitive v w ((value_lattice l).join w u) h.below ((value_order o).join_left w u))
            ((value_order o).transitive t u ((value_lattice l).join w u) k.below ((value_order o).join_right w u));
        own = (value_order o).join_least w u (top_value n all) h.own k.own;
        even = e.1;
      }

  left_rises : (v w u : Value I) → ValuesRise l n all v w → (value_lattice l).leq u (top_value n all) ≡ true → ValuesRise l n all v ((value_lattice l).join w u)
  left_rises v w u h k = record {
    below = (value_order o).transitive v w ((value_lattice l).join w u) h.below ((value_order o).join_left w u);
    own = (value_order o).join_least w u (top_value n all) h.own k;
    even = h.even;
  }

  right_rises : (v w u : Value I) → ValuesRise l n all v u → (value_lattice l).leq w (top_value n all) ≡ true → ValuesRise l n all v ((value_lattice l).join w u)
  right_rises v w u h k = record {
    below = (value_order o).transitive v u ((value_lattice l).join w u) h.below ((value_order o).join_right w u);
    own = (value_order o).join_least w u (top_value n all) k h.own;
    even = h.even;
  }

  pub joined_both : (a x c y : Option (Value I)) → ReadsRise l n all a x → ReadsRise l n all c y → ReadsRise l n all (joined l a c) (joined l x y)
  joined_both None None c y h k = k
  joined_both None (Some w) None None h k = h
  joined_both None (Some w) None (Some u) h k = (value_order o).join_least w u (top_value n all) h k
  joined_both None (Some w) (Some t) None h k = absurd k
  joined_both None (Some w) (Some t) (Some u) h k = right_rises t w u k h
  joined_both (Some v) None c y h k = absurd h
  joined_both (Some v) (Some w) None None h k = h
  joined_both (Some v) (Some w) None (Some u) h k = left_rises v w u h k
  joined_both (Some v) (Some w) (Some t) None h k = absurd k
  joined_both (Some v) (Some w) (Some t) (Some u) h k = joined_rises v w t u h k

  none_below : (c y : Option (Value I)) → ReadsRise l n all c y → ReadsRise l n all None y
  none_below None y k = k
  none_below (Some t) None k = tt
  none_below (Some t) (Some u) k = k.own

  -- the larger one joined with more
  pub joined_above : (a x c y : Option (Value I)) → ReadsRise l n all a x → ReadsRise l n all c y → ReadsRise l n all a (joined l x y)
  joined_above None x c y h k = joined_both None x None y h (none_below c y k)
  joined_above (Some v) None c y h k = absurd h
  joined_above (Some v) (Some w) c y h k = joined_both (Some v) (Some w) None y h (none_below c y k)

  -- ---- of other types

  either_even : (t : Bool) (v : Value I) (x : I) → is_consistent n v.pointer ≡ true → is_consistent n (cond t v (record v { num = x })).pointer ≡ true
  either_even true v x h = h
  either_even false v x h = h

  pub read_rises : MonotoneLaws l n → RangeLaws l n → (m : Model) (class : Class) (from to : Bool) (v w : Value I) → ValuesRise l n all v w → ValuesRise l n all (as_read n m v class from to) (as_read n m w class from to)
  read_rises g f m class from to v w h = record {
    below = read_monotone o b g m class from to v w h.below;
    own = read_top o b f all m class from to w h.own;
    even = either_even (is_pointer class || same_sign from to) v (n.convert v.num (kind_of m class to)) h.even;
  }

  pub stored_rises : MonotoneLaws l n → RangeLaws l n → (m : Model) (class : Class) (to : Bool) (v w : Value I) → ValuesRise l n all v w → ValuesRise l n all (as_stored n m v class to) (as_stored n m w class to)
  stored_rises g f m class to v w h = record {
    below = stored_in_monotone o b g m class to v w h.below;
    own = stored_in_top o b f all m class to w h.own;
    even = either_even (is_pointer class) v (n.convert v.num (kind_of m class to)) h.even;
  }

  bare_even : is_consistent n ((value_lattice l).least).pointer ≡ true
  bare_even = let e = even_bare o b false false in e.1

  pub byte_rises : (m : Model) (class : Class) (signed : Bool) (v w : Value I) → ValuesRise l n all v w → ValuesRise l n all (byte_read l n m v class signed) (byte_read l n m w class signed)
  byte_rises m class signed v w h = record {
    below = byte_monotone o b m class signed v w h.below;
    own = top (not (is_pointer class) || w.pointer.null) w.indeterminate;
    even = even (not (is_pointer class) || v.pointer.null) v.indeterminate;
  }
    where
      top : (c d : Bool) → (value_lattice l).leq (cond c (whole_range l n (kind_of m Char signed) w.labels d) (only_flag l d)) (top_value n all) ≡ true
      top true d = whole_top o b all m Char signed w.labels d
      top false true = blank_top o b all
      top false false = (value_order o).least_below (top_value n all)

      even : (c d : Bool) → is_consistent n (cond c (whole_range l n (kind_of m Char signed) v.labels d) (only_flag l d)).pointer ≡ true
      even true d = bare_even
      even false true = bare_even
      even false false = bare_even

  pub whole_rises : (m : Model) (class : Class) (signed : Bool) (s t : Labels) (p q : Bool) → labels_leq s t ≡ true → Sets p q → ValuesRise l n all (whole_range l n (kind_of m class signed) s p) (whole_range l n (kind_of m class signed) t q)
  whole_rises m class signed s t p q h k = record {
    below = whole_monotone o b (kind_of m class signed) s t p q h (sets_flag p q k);
    own = whole_top o b all m class signed t q;
    even = bare_even;
  }

  -- ---- what bytes of other cells become

  flagged_rises : (v w : Value I) → ValuesRise l n all v w → (p q : Bool) → Sets p q → ValuesRise l n all (with_flag v p) (with_flag w q)
  flagged_rises v w h p q k =
      let c = value_parts l v w h.below in
      let d = value_parts l w (top_value n all) h.own in
      record {
        below = value_below l (with_flag v p) (with_flag w q) (record { num = c.num; pointer = c.pointer; indeterminate = sets_flag (v.indeterminate || p) (w.indeterminate || q) (or_sets v.indeterminate p w.indeterminate q (flag_sets v.indeterminate w.indeterminate c.indeterminate) k); labels = c.labels });
        own = value_below l (with_flag w q) (top_value n all) (record { num = d.num; pointer = d.pointer; indeterminate = sets_flag (w.indeterminate || q) true (λ e. refl); labels = d.labels });
        even = h.even;
      }

  pub written_rises : (m : Model) (class : Class) (signed : Bool) (v w : Value I) → ValuesRise l n all v w → ValuesRise l n all (with_flag (byte_written l n m class signed v.labels) v.indeterminate) (with_flag (byte_written l n m class signed w.labels) w.indeterminate)
  written_rises m class signed v w h =
      let c = value_parts l v w h.below in
      flagged_rises (byte_written l n m class signed v.labels) (byte_written l n m class signed w.labels)
      (record {
        below = written_monotone o b m class signed v.labels w.labels c.labels;
        own = written_top o b all m class signed w.labels;
        even = even (is_pointer class);
      })
      v.indeterminate w.indeterminate (flag_sets v.indeterminate w.indeterminate c.indeterminate)
    where
      even : (q : Bool) → is_consistent n (cond q (labelled_null l v.labels) (whole_range l n (kind_of m class signed) v.labels false)).pointer ≡ true
      even true = let e = even_bare o b true false in e.1
      even false = bare_even
