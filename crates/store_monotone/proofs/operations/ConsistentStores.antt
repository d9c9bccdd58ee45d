-- Stores leave consistent rows.
use Rattle.std.specs.Prelude.{◌≡◌, ℕ, zero, suc, ◌+◌, ◌<◌, ℤ, pos, Bool, true, false, cond, Option, Some, None, List, [], ◌∷◌, length, set, refl}
use Rattle.std.proofs.Common.{arith, sym, subst}
use Rattle.std.proofs.lemmas.Bool.{and_parts, and_from}
use Rattle.cc_base.specs.Lattices.{LatticeOf, OrderLaws}
use Rattle.cc_base.specs.Rows.{row_leq}
use Rattle.cc_base.specs.IntegerDomains.{IntegersOf, BoundLaws, RangeLaws}
use Rattle.cc_base.specs.IntegerLaws.{tri_leq}
use Rattle.cc_base.specs.Truths.{can_hold, can_fail}
use Rattle.cc_base.specs.LatticeParts.{flag_leq}
use Rattle.cc_base.specs.declared.integer_operators.Tri.{Tri}
use Rattle.cc_base.specs.declared.integer_operators.Rel.TheVariants.{Eq}
use Rattle.c_layout.specs.declared.data_model.Model.{Model}
use Rattle.c_layout.specs.declared.leaf_lists.Class.{Class}
use Rattle.c_layout.specs.declared.leaf_lists.Class.TheVariants.{Char}
use Rattle.c_layout.specs.declared.shapes.BaseInfo.{BaseInfo}
use Rattle.pointer_domain.specs.declared.base_sets.Bases.{Bases}
use Rattle.value_domain.specs.declared.values.values.Value as values
use Rattle.value_domain.specs.declared.values.row_cells.Cell.{Cell}
use Rattle.value_domain.specs.declared.values.row_cells.Cell.TheVariants.{Nothing, Value, First, State, Mixed}
use Rattle.value_domain.specs.Values.Values.{value_lattice, value_order}
use Rattle.value_domain.specs.Values.Cells.{cell_lattice, cell_order}
use Rattle.store_cells.specs.declared.access_windows.Window.{Window}
use Rattle.store.specs.declared.stores.Write.{Write}
use Rattle.store_cells.specs.declared.first_zero_writes.ZeroTarget.{ZeroTarget}
use Rattle.store_cells.specs.ClassNumbers.{class_number, class_at, same_class, is_pointer}
use Rattle.store_objects.specs.LiveBases.{has_base, is_one_instance}
use Rattle.store_cells.specs.AccessWindows.{window_of}
use Rattle.pointer_domain.specs.declared.pointer_sets.Pointers.{Pointers}
use Rattle.pointer_domain.specs.PointerLattice.{pointer_order}
use Rattle.domain_theorems.proofs.values.Parts.{pointer_parts, value_parts, value_below}
use Rattle.store.specs.LeafSelection.{is_selected, is_other, has_stray}
use Rattle.store_cells.specs.ByteWrites.{labelled_null, byte_written}
use Rattle.store_cells.specs.CellReads.{whole_range}
use Rattle.store_cells.specs.ScalarTypes.{kind_of, class_bytes}
use Rattle.store.specs.Loads.{reaches_class, labels_of}
use Rattle.store_cells.specs.RowPositions.{cell_at, value_in, value_at, leaf_position, class_position, zero_position, join_value, write_value}
use Rattle.store_cells.specs.FirstZeroWrites.{zero_target, put_target, put_part, put_character, forget_target, forget_part, forget_zeros}
use Rattle.store.specs.Stores.{cell_value, is_strong, store_leaf_at, store_leaf, store_leaves, store_class_cell, store_other_leaf_at, store_other_leaf, store_other_leaves, store_other_class, store_other_classes, store_other_bytes, store_own, store_character, store_wider, store_base, store_if, store_to, store_all, stored_value, can_store, store_access, reached_of, store_within, store}
use Rattle.store_monotone.specs.Operations.TopCells.{top_value}
use Rattle.store_monotone.specs.Operations.Placements.{EachFrom, WindowWithin, IsPlaced}
use Rattle.store_monotone.specs.Operations.RowsBelow.{RowsBelow}
use Rattle.store_monotone.specs.Operations.ConsistentRows.{IsConsistentCell, AreConsistent, IsLeftConsistent}
use Rattle.store_monotone.proofs.operations.PairedSteps.{walk_pair, turns_pair, numbers_below, any_each}
use Rattle.store_monotone.proofs.operations.NearCells.{value_at_is}
use Rattle.store_monotone.proofs.operations.CellSteps.{join_pair, strong_pair}
use Rattle.store_monotone.proofs.operations.CellReads.{labels_top, stored_in_top, written_top}
use Rattle.store_monotone.proofs.operations.ZeroTargets.{character_step, forget_step}
use Rattle.store_monotone.proofs.operations.Loads.{class_small, some_bytes}
use Rattle.store_monotone.proofs.operations.Windows.{WindowsBelow, window_monotone}
use Rattle.store_monotone.proofs.operations.Consistent.{IsEven, even_join, even_bare, set_keeps}

at_keeps : {I : Type 0} (n : IntegersOf I) (row : List (Cell I)) (i : ℕ) → AreConsistent n row → IsConsistentCell n (cell_at row i)
at_keeps n [] i h = tt
at_keeps n (c ∷ cs) zero h = h.0
at_keeps n (c ∷ cs) (suc i) h = at_keeps n cs i h.1

same_truths : (t : Tri) → tri_leq t t ≡ true
same_truths t = and_from _ _ (same (can_hold t)) (same (can_fail t))
  where
    same : (a : Bool) → flag_leq a a ≡ true
    same true = refl
    same false = refl

module _ {I : Type 0} {l : LatticeOf I} {n : IntegersOf I} {stands : I → ℤ → Type 0} (o : OrderLaws l) (b : BoundLaws l n stands) where
  pub row_reflexive : (row : List (Cell I)) → row_leq (cell_lattice l) row row ≡ true
  row_reflexive [] = refl
  row_reflexive (c ∷ cs) = and_from _ _ ((cell_order o).reflexive c) (row_reflexive cs)

  in_even : (c : Cell I) → IsConsistentCell n c → IsEven n (value_in l c).pointer
  in_even Nothing h = even_bare o b false false
  in_even (Value v) h = h
  in_even (First f) h = even_bare o b false false
  in_even (State s) h = even_bare o b false false
  in_even Mixed h = even_bare o b false false

  pub either_even : (t : Bool) (v : values.Value I) (x : I) → IsEven n v.pointer → IsEven n (cond t v (record v { num = x })).pointer
  either_even true v x h = h
  either_even false v x h = h

  module _ (all : Bases) (top : List (Cell I)) where
    -- an own, consistent row
    pub record IsKept (row : List (Cell I)) : Type 0 where
      pub own : row_leq (cell_lattice l) row top ≡ true
      pub even : AreConsistent n row

    pub pair_of : (row : List (Cell I)) → IsKept row → RowsBelow l top row row
    pair_of row k = record { small = row_reflexive row; large = k.own }

    pub at_even : (i : ℕ) → cell_at top i ≡ Value (top_value n all) → (row : List (Cell I)) → IsKept row → IsEven n (value_at l n row i).pointer
    at_even i e row k = subst (λ v. IsEven n v.pointer) (sym (value_at_is o b all top row row i (row_reflexive row) k.own e)) (in_even (cell_at row i) (at_keeps n row i k.even))

    pub either_kept : (t : Bool) (x y : List (Cell I)) → IsKept x → IsKept y → IsKept (cond t x y)
    either_kept true x y h k = h
    either_kept false x y h k = k

    module _ (i : ℕ) (e : cell_at top i ≡ Value (top_value n all)) (v : values.Value I) (h : IsEven n v.pointer) (t : (value_lattice l).leq v (top_value n all) ≡ true) (row : List (Cell I)) (k : IsKept row) where
      pub joined_kept : IsKept (join_value l n row i v)
      unfolding join_value
      joined_kept = record {
        own = (join_pair o b all top i e row row v v (pair_of row k) ((value_order o).reflexive v) t).large;
        even = set_keeps n row i (Value ((value_lattice l).join (value_at l n row i) v)) k.even (even_join o b (value_at l n row i).pointer v.pointer (at_even i e row k) h);
      }

      pub put_kept : IsKept (set row i (Value v))
      put_kept = record { own = (strong_pair o b all top i e row row v v (pair_of row k) ((value_order o).reflexive v) t).large; even = set_keeps n row i (Value v) k.even h }

      written_kept : (strong : Bool) → IsKept (write_value l n row i v strong)
      unfolding write_value
      written_kept true = put_kept
      written_kept false = joined_kept

    -- ---- a store to one base

    module _ (f : RangeLaws l n) (m : Model) (base : BaseInfo) (p : IsPlaced n all top base) (class : Class) (signed : Bool) (w : Window) (i : WindowWithin w w) (v : values.Value I) (alone : Bool) (h : IsEven n v.pointer) (t : (value_lattice l).leq v (top_value n all) ≡ true) where
      abbrev write : Write I
      write = record { access = record { class = class; signed = signed; window = w }; value = v; alone = alone }

      leaves_kept : (row : List (Cell I)) → IsKept row → IsKept (store_leaves l n m base write row)
      unfolding store_leaves store_leaf_at
      leaves_kept row k = walk_pair (λ leaf at. at < length base.shape.cells) (λ x y. IsKept x) (store_leaf l n m base write) (store_leaf l n m base write)
          (λ leaf at x y e j. either_kept (is_selected leaf class w) (write_value l n x (leaf_position base at) (cell_value n m write leaf.signed) (is_strong leaf write)) x
          (written_kept (leaf_position base at) (p.leaf at e) (cell_value n m write leaf.signed) (either_even (is_pointer class) v (n.convert v.num (kind_of m class leaf.signed)) h) (stored_in_top o b f all m class leaf.signed v t) x j (is_strong leaf write)) j)
          0 base.shape.cells row row (numbers_below (length base.shape.cells) 0 base.shape.cells (omega arith)) k

      class_cell_kept : (row : List (Cell I)) → IsKept row → IsKept (store_class_cell l n m base write row)
      unfolding store_class_cell
      class_cell_kept row k = by_reach (reaches_class base write.access) refl
        where
          by_reach : (r : Bool) → reaches_class base write.access ≡ r → IsKept (cond r (join_value l n row (class_position base (class_number class)) (cell_value n m write true)) row)
          by_reach false e = k
          by_reach true e = joined_kept (class_position base (class_number class)) (p.class (class_number class) (and_parts base.shape.heap (has_stray base.shape.cells class w) e).0 (class_small class))
              (cell_value n m write true) (either_even (is_pointer class) v (n.convert v.num (kind_of m class true)) h) (stored_in_top o b f all m class true v t) row k

      bytes_even : (c : Class) (s : Bool) → IsEven n (byte_written l n m c s v.labels).pointer
      bytes_even c s = by_class (is_pointer c)
        where
          by_class : (q : Bool) → IsEven n (cond q (labelled_null l v.labels) (whole_range l n (kind_of m c s) v.labels false)).pointer
          by_class true = even_bare o b true false
          by_class false = even_bare o b false false

      other_leaves_kept : (row : List (Cell I)) → IsKept row → IsKept (store_other_leaves l n m base write row)
      unfolding store_other_leaves store_other_leaf_at
      other_leaves_kept row k = walk_pair (λ leaf at. at < length base.shape.cells) (λ x y. IsKept x) (store_other_leaf l n m base write) (store_other_leaf l n m base write)
          (λ leaf at x y e j. either_kept (is_other m leaf w) (join_value l n x (leaf_position base at) (byte_written l n m leaf.class leaf.signed v.labels)) x
          (joined_kept (leaf_position base at) (p.leaf at e) (byte_written l n m leaf.class leaf.signed v.labels) (bytes_even leaf.class leaf.signed) (written_top o b all m leaf.class leaf.signed v.labels) x j) j)
          0 base.shape.cells row row (numbers_below (length base.shape.cells) 0 base.shape.cells (omega arith)) k

      other_bytes_kept : (row : List (Cell I)) → IsKept row → IsKept (store_other_bytes l n m base write row)
      unfolding store_other_bytes store_other_classes store_other_class
      other_bytes_kept row k = by_heap base.shape.heap refl
        where
          by_heap : (heap : Bool) → base.shape.heap ≡ heap → IsKept (cond heap (store_other_classes l n m base v.labels (store_other_leaves l n m base write row)) (store_other_leaves l n m base write row))
          by_heap false e = other_leaves_kept row k
          by_heap true e = turns_pair (λ x y. IsKept x) (store_other_class l n m base v.labels) (store_other_class l n m base v.labels) 5
              (λ at x y u j. joined_kept (class_position base (at + 1)) (p.class (at + 1) e (omega arith)) (byte_written l n m (class_at (at + 1)) true v.labels) (bytes_even (class_at (at + 1)) true) (written_top o b all m (class_at (at + 1)) true v.labels) x j)
              5 (store_other_leaves l n m base write row) (store_other_leaves l n m base write row) (omega arith) (other_leaves_kept row k)

      -- ---- first zeros have no pointers

      target_even : (at : ℕ) (target : Option ZeroTarget) (z : Tri) (row : List (Cell I)) → AreConsistent n row → AreConsistent n (put_target l n row at target z alone)
      unfolding put_target
      target_even at None z row k = k
      target_even at (Some target) z row k = set_keeps n row at (First _) k tt

      character_kept : (z : Tri) (row : List (Cell I)) → IsKept row → IsKept (put_character l n base w z alone row)
      unfolding put_character
      character_kept z row k = record {
        own = (character_step o b all top base p true w w i z z (same_truths z) alone alone (λ e. (refl, e)) row row (pair_of row k)).large;
        even = walk_pair (λ part at. Unit {0}) (λ x y. AreConsistent n x) (put_part l n base w z alone) (put_part l n base w z alone)
            (λ part at x y e j. target_even (zero_position base at) (zero_target part w) z x j) 0 base.shape.zeros row row (any_each 0 base.shape.zeros) k.even;
      }

      forgotten_even : (at : ℕ) (target : Option ZeroTarget) (row : List (Cell I)) → AreConsistent n row → AreConsistent n (forget_target l n row at target)
      unfolding forget_target
      forgotten_even at None row k = k
      forgotten_even at (Some target) row k = set_keeps n row at (First _) k tt

      forgotten_kept : (row : List (Cell I)) → IsKept row → IsKept (forget_zeros l n base w row)
      unfolding forget_zeros
      forgotten_kept row k = record {
        own = (forget_step o b all top base p true w w i row row (pair_of row k)).large;
        even = walk_pair (λ part at. Unit {0}) (λ x y. AreConsistent n x) (forget_part l n base w) (forget_part l n base w)
            (λ part at x y e j. forgotten_even (zero_position base at) (zero_target part w) x j) 0 base.shape.zeros row row (any_each 0 base.shape.zeros) k.even;
      }

      base_kept : (row : List (Cell I)) → IsKept row → IsKept (store_base l n m base write row)
      unfolding store_base store_own store_character store_wider
      base_kept row k =
          let own = class_cell_kept (store_leaves l n m base write row) (leaves_kept row k) in
          either_kept (same_class class Char) (store_character l n m base write (store_own l n m base write row)) (store_wider l n base w (store_own l n m base write row))
          (character_kept (n.compare Eq (cell_value n m write signed).num (n.one (pos 0))) (store_other_bytes l n m base write (store_own l n m base write row)) (other_bytes_kept (store_own l n m base write row) own))
          (either_kept base.shape.heap (forget_zeros l n base w (store_own l n m base write row)) (store_own l n m base write row) (forgotten_kept (store_own l n m base write row) own) own)

    module _ (f : RangeLaws l n) (m : Model) (bases : List BaseInfo) (each : EachFrom (λ base number. IsPlaced n all top base) 0 bases) (class : Class) (signed : Bool) (w : Window) (i : WindowWithin w w) (v : values.Value I) (alone : Bool) (h : IsEven n v.pointer) (t : (value_lattice l).leq v (top_value n all) ≡ true) (reached : Bases) where
      pub all_kept : (row : List (Cell I)) → IsKept row → IsKept (store_all l n m bases reached (record { access = record { class = class; signed = signed; window = w }; value = v; alone = alone }) row)
      unfolding store_all store_if
      all_kept row k =
          let write : Write I = record { access = record { class = class; signed = signed; window = w }; value = v; alone = alone } in
          walk_pair (λ base number. IsPlaced n all top base) (λ x y. IsKept x) (store_to l n m reached write) (store_to l n m reached write)
          (λ base number x y p j. either_kept (has_base reached number) (store_base l n m base write x) x (base_kept f m base p class signed w i v alone h t x j) j)
          0 bases row row each k

    -- ---- the call

    module _ (f : RangeLaws l n) (m : Model) (bases : List BaseInfo) (each : EachFrom (λ base number. IsPlaced n all top base) 0 bases) (class : Class) (signed : Bool) (v : values.Value I) (h : IsEven n v.pointer) (t : (value_lattice l).leq v (top_value n all) ≡ true) (row : List (Cell I)) (k : IsKept row) where
      stored_own : (value_lattice l).leq (stored_value class v) (top_value n all) ≡ true
      stored_own = let c = value_parts l v (top_value n all) t in value_below l (stored_value class v) (top_value n all) (record { num = c.num; pointer = c.pointer; indeterminate = refl; labels = labels_top (labels_of class v.labels) })

      either_left : (c : Bool) (r : List (Cell I)) → IsKept r → IsLeftConsistent n (cond c (Some r) None)
      either_left true r j = j.even
      either_left false r j = tt

      access_kept : (some : Bases) (w : Window) → WindowWithin w w → IsLeftConsistent n (store_access l n m bases some (record { class = class; signed = signed; window = w }) v row)
      unfolding store_access
      access_kept some w i = either_left (can_store n m bases some (record { class = class; signed = signed; window = w }) v) _
          (all_kept f m bases each class signed w i (stored_value class v) (is_one_instance bases some) h stored_own some row k)

      within_kept : (some : Bases) (w : Option Window) → WindowsBelow w w → IsLeftConsistent n (store_within l n m bases some class signed v row w)
      within_kept some None i = tt
      within_kept some (Some w) i = access_kept (reached_of l n bases row some) w i

      pub store_kept : (p : Pointers I) → IsLeftConsistent n (store l n m bases p class signed v row)
      unfolding store
      store_kept p = within_kept p.bases (window_of n p (class_bytes m class)) (window_monotone b p p (class_bytes m class) (some_bytes m class) (pointer_parts l p p ((pointer_order o).reflexive p)))
