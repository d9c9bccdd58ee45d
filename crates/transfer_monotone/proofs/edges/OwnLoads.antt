-- What is loaded from an own row is an own value, and from one of consistent pointer parts it has such a part.
use Rattle.std.specs.Prelude.{◌≡◌, ℕ, ◌+◌, ◌<◌, ℤ, Bool, true, false, cond, not, ◌||◌, ◌&&◌, Option, Some, None, List, length, refl}
use Rattle.std.proofs.Common.{arith}
use Rattle.std.proofs.lemmas.Bool.{and_parts}
use Rattle.cc_base.specs.Lattices.{LatticeOf, OrderLaws}
use Rattle.cc_base.specs.IntegerDomains.{IntegersOf, BoundLaws, RangeLaws}
use Rattle.cc_base.specs.LatticeParts.{flag_leq}
use Rattle.c_layout.specs.declared.data_model.Model.{Model}
use Rattle.c_layout.specs.declared.leaf_lists.Class.{Class}
use Rattle.c_layout.specs.declared.leaf_lists.Class.TheVariants.{Char}
use Rattle.c_layout.specs.declared.shapes.BaseInfo.{BaseInfo}
use Rattle.pointer_domain.specs.declared.base_sets.Bases.{Bases}
use Rattle.pointer_domain.specs.declared.pointer_sets.Pointers.{Pointers}
use Rattle.value_domain.specs.declared.values.values.Value as values
use Rattle.value_domain.specs.declared.values.row_cells.Cell.{Cell}
use Rattle.value_domain.specs.declared.values.row_cells.Cell.TheVariants.{Value}
use Rattle.value_domain.specs.Values.LabelSets.{all_labels}
use Rattle.value_domain.specs.Values.Values.{value_lattice, value_order}
use Rattle.domain_theorems.proofs.values.Parts.{value_parts, value_below}
use Rattle.store_cells.specs.declared.access_windows.Window.{Window}
use Rattle.store_cells.specs.declared.cell_reads.Access.{Access}
use Rattle.store_cells.specs.ScalarTypes.{kind_of, class_bytes}
use Rattle.store_cells.specs.ClassNumbers.{class_number, class_at, same_class, is_pointer}
use Rattle.store_cells.specs.RowPositions.{cell_at, leaf_position, class_position, value_at}
use Rattle.store_cells.specs.AccessWindows.{window_of}
use Rattle.store.specs.LeafSelection.{is_selected, is_other, has_stray, meets_padding}
use Rattle.store_cells.specs.CellReads.{same_sign, joined, whole_range, as_read, only_flag, byte_read}
use Rattle.store_objects.specs.LiveBases.{is_live_in}
use Rattle.store.specs.Loads.{reaches_class, joined_if, read_leaf, load_leaves, load_class_cell, read_other_leaf, load_other_leaves, read_class_cell, load_other_class_cells, load_padding, load_other_bytes, is_text, determinate_if, load_own, load_others, load_character, load_base, labels_of, read_base, load_bases, loaded, load_within, load}
use Rattle.cc_base.specs.Rows.{row_leq}
use Rattle.value_domain.specs.Values.Cells.{cell_lattice}
use Rattle.store_monotone.specs.Operations.ConsistentRows.{AreConsistent}
use Rattle.store_monotone.specs.Operations.TopCells.{top_value}
use Rattle.store_monotone.specs.Operations.Placements.{EachFrom, IsPlaced}
use Rattle.store_monotone.proofs.operations.PairedSteps.{walk_pair, turns_pair, numbers_below}
use Rattle.store_monotone.proofs.operations.NearCells.{value_at_top}
use Rattle.store_monotone.proofs.operations.OwnValues.{blank_top}
use Rattle.store_monotone.proofs.operations.CellReads.{labels_top, whole_top, read_top}
use Rattle.store_monotone.proofs.operations.Loads.{class_small}
use Rattle.store_monotone.proofs.operations.Consistent.{IsEven, even_join, even_bare}
use Rattle.store_monotone.proofs.operations.ConsistentStores.{row_reflexive, at_even, either_even}

flag_top : (p : Bool) → flag_leq p true ≡ true
flag_top true = refl
flag_top false = refl

module _ {I : Type 0} (l : LatticeOf I) (n : IntegersOf I) (all : Bases) (on : Bool) where
  -- an own value, with a consistent pointer part where that is asked for
  abbrev pub IsOwnEven : values.Value I → Type 0
  IsOwnEven v = ((value_lattice l).leq v (top_value n all) ≡ true) × (on ≡ true → IsEven n v.pointer)

  -- nothing, or such a value
  abbrev pub IsOwnRead : Option (values.Value I) → Type 0
  IsOwnRead None = Unit {0}
  IsOwnRead (Some v) = IsOwnEven v

module _ {I : Type 0} {l : LatticeOf I} {n : IntegersOf I} {stands : I → ℤ → Type 0} (o : OrderLaws l) (b : BoundLaws l n stands) (all : Bases) (on : Bool) where
  pub joined_own : (a c : Option (values.Value I)) → IsOwnRead l n all on a → IsOwnRead l n all on c → IsOwnRead l n all on (joined l a c)
  joined_own None c h k = k
  joined_own (Some v) None h k = h
  joined_own (Some v) (Some w) h k = ((value_order o).join_least v w (top_value n all) h.0 k.0, λ e. even_join o b v.pointer w.pointer (h.1 e) (k.1 e))

  pub one_read : (c : Bool) (x y : Option (values.Value I)) → IsOwnRead l n all on x → IsOwnRead l n all on y → IsOwnRead l n all on (cond c x y)
  one_read true x y h k = h
  one_read false x y h k = k

  one_value : (c : Bool) (x y : values.Value I) → IsOwnEven l n all on x → IsOwnEven l n all on y → IsOwnEven l n all on (cond c x y)
  one_value true x y h k = h
  one_value false x y h k = k

  if_own : (c : Bool) (a : Option (values.Value I)) (v : values.Value I) → IsOwnRead l n all on a → IsOwnEven l n all on v → IsOwnRead l n all on (joined_if l c a v)
  if_own c a v h k = one_read c (joined l a (Some v)) a (joined_own a (Some v) h k) h

  flag_own : (blank : Bool) → IsOwnEven l n all on (only_flag l blank)
  flag_own true = (blank_top o b all, λ e. even_bare o b false false)
  flag_own false = ((value_order o).least_below (top_value n all), λ e. even_bare o b false false)

  byte_own : (m : Model) (v : values.Value I) (class : Class) (signed : Bool) → IsOwnEven l n all on (byte_read l n m v class signed)
  byte_own m v class signed = one_value (not (is_pointer class) || v.pointer.null) (whole_range l n (kind_of m Char signed) v.labels v.indeterminate) (only_flag l v.indeterminate)
      (whole_top o b all m Char signed v.labels v.indeterminate, λ e. even_bare o b false false) (flag_own v.indeterminate)

  read_own : RangeLaws l n → (m : Model) (v : values.Value I) (class : Class) (from to : Bool) → IsOwnEven l n all on v → IsOwnEven l n all on (as_read n m v class from to)
  read_own f m v class from to h = (read_top o b f all m class from to v h.0, λ e. either_even o b (is_pointer class || same_sign from to) v (n.convert v.num (kind_of m class to)) (h.1 e))

  determinate_own : (text : Bool) (a : Option (values.Value I)) → IsOwnRead l n all on a → IsOwnRead l n all on (determinate_if text a)
  determinate_own text None h = tt
  determinate_own text (Some v) h =
      let p = value_parts l v (top_value n all) h.0 in
      (value_below l (record v { indeterminate = v.indeterminate && not text }) (top_value n all) (record { num = p.num; pointer = p.pointer; indeterminate = flag_top (v.indeterminate && not text); labels = p.labels }), h.1)

  loaded_own : (class : Class) (a : Option (values.Value I)) → IsOwnRead l n all on a → IsOwnRead l n all on (loaded class a)
  loaded_own class None h = tt
  loaded_own class (Some v) h =
      let p = value_parts l v (top_value n all) h.0 in
      (value_below l (record v { labels = labels_of class v.labels }) (top_value n all) (record { num = p.num; pointer = p.pointer; indeterminate = p.indeterminate; labels = labels_top (labels_of class v.labels) }), h.1)

  module _ (f : RangeLaws l n) (m : Model) (top row : List (Cell I)) (own : row_leq (cell_lattice l) row top ≡ true) (even : on ≡ true → AreConsistent n row) where
    value_own : (i : ℕ) → cell_at top i ≡ Value (top_value n all) → IsOwnEven l n all on (value_at l n row i)
    value_own i e = (value_at_top o b all top row row i (row_reflexive o b row) own e, λ q. at_even o b all top i e row (record { own = own; even = even q }))

    module _ (base : BaseInfo) (p : IsPlaced n all top base) (class : Class) (signed : Bool) (w : Window) where
      leaves_own : IsOwnRead l n all on (load_leaves l n m base row (record { class = class; signed = signed; window = w }))
      unfolding load_leaves
      leaves_own =
          let access : Access = record { class = class; signed = signed; window = w } in
          walk_pair (λ leaf at. at < length base.shape.cells) (λ x y. IsOwnRead l n all on x) (read_leaf l n m base row access) (read_leaf l n m base row access)
          (λ leaf at x y e h. if_own (is_selected leaf class w) x (as_read n m (value_at l n row (leaf_position base at)) class leaf.signed signed) h (read_own f m (value_at l n row (leaf_position base at)) class leaf.signed signed (value_own (leaf_position base at) (p.leaf at e))))
          0 base.shape.cells None None (numbers_below (length base.shape.cells) 0 base.shape.cells (omega arith)) tt

      class_cell_own : IsOwnRead l n all on (load_class_cell l n m base row (record { class = class; signed = signed; window = w }))
      unfolding load_class_cell
      class_cell_own = by_reach (reaches_class base (record { class = class; signed = signed; window = w })) refl
        where
          by_reach : (c : Bool) → reaches_class base (record { class = class; signed = signed; window = w }) ≡ c → IsOwnRead l n all on (cond c (Some (as_read n m (value_at l n row (class_position base (class_number class))) class true signed)) None)
          by_reach false e = tt
          by_reach true e = read_own f m (value_at l n row (class_position base (class_number class))) class true signed (value_own (class_position base (class_number class)) (p.class (class_number class) (and_parts base.shape.heap (has_stray base.shape.cells class w) e).0 (class_small class)))

      other_leaves_own : IsOwnRead l n all on (load_other_leaves l n m base row (record { class = class; signed = signed; window = w }))
      unfolding load_other_leaves
      other_leaves_own =
          let access : Access = record { class = class; signed = signed; window = w } in
          walk_pair (λ leaf at. at < length base.shape.cells) (λ x y. IsOwnRead l n all on x) (read_other_leaf l n m base row access) (read_other_leaf l n m base row access)
          (λ leaf at x y e h. if_own (is_other m leaf w) x (byte_read l n m (value_at l n row (leaf_position base at)) leaf.class signed) h (byte_own m (value_at l n row (leaf_position base at)) leaf.class signed))
          0 base.shape.cells None None (numbers_below (length base.shape.cells) 0 base.shape.cells (omega arith)) tt

      other_classes_own : IsOwnRead l n all on (load_other_class_cells l n m base row (record { class = class; signed = signed; window = w }))
      unfolding load_other_class_cells
      other_classes_own =
          let access : Access = record { class = class; signed = signed; window = w } in
          turns_pair (λ x y. IsOwnRead l n all on x) (read_class_cell l n m base row access) (read_class_cell l n m base row access) 5
          (λ at x y e h. joined_own x (Some (byte_read l n m (value_at l n row (class_position base (at + 1))) (class_at (at + 1)) signed)) h (byte_own m (value_at l n row (class_position base (at + 1))) (class_at (at + 1)) signed))
          5 None None (omega arith) tt

      padding_own : IsOwnRead l n all on (load_padding l n m base (record { class = class; signed = signed; window = w }))
      unfolding load_padding
      padding_own = one_read (meets_padding m base.shape.cells w base.size) (Some (whole_range l n (kind_of m Char signed) all_labels true)) None (whole_top o b all m Char signed all_labels true, λ e. even_bare o b false false) tt

      other_bytes_own : IsOwnRead l n all on (load_other_bytes l n m base row (record { class = class; signed = signed; window = w }))
      unfolding load_other_bytes
      other_bytes_own = one_read base.shape.heap _ _ other_classes_own padding_own

      cells_own : IsOwnRead l n all on (load_own l n m base row (record { class = class; signed = signed; window = w }))
      unfolding load_own
      cells_own = joined_own (load_leaves l n m base row (record { class = class; signed = signed; window = w })) (load_class_cell l n m base row (record { class = class; signed = signed; window = w })) leaves_own class_cell_own

      others_own : IsOwnRead l n all on (load_others l n m base row (record { class = class; signed = signed; window = w }))
      unfolding load_others
      others_own = joined_own (load_other_leaves l n m base row (record { class = class; signed = signed; window = w })) (load_other_bytes l n m base row (record { class = class; signed = signed; window = w })) other_leaves_own other_bytes_own

      pub character_own : IsOwnRead l n all on (load_character l n m base row (record { class = class; signed = signed; window = w }))
      unfolding load_character
      character_own = joined_own (load_own l n m base row (record { class = class; signed = signed; window = w })) (load_others l n m base row (record { class = class; signed = signed; window = w })) cells_own others_own

      pub base_own : IsOwnRead l n all on (load_base l n m base row (record { class = class; signed = signed; window = w }))
      unfolding load_base
      base_own = one_read (same_class class Char) (determinate_if (is_text l n base row w) (load_character l n m base row (record { class = class; signed = signed; window = w }))) (load_own l n m base row (record { class = class; signed = signed; window = w })) (determinate_own (is_text l n base row w) (load_character l n m base row (record { class = class; signed = signed; window = w })) character_own) cells_own

    module _ (bases : List BaseInfo) (each : EachFrom (λ base number. IsPlaced n all top base) 0 bases) where
      bases_own : (set : Bases) (class : Class) (signed : Bool) (w : Window) → IsOwnRead l n all on (load_bases l n m bases row set (record { class = class; signed = signed; window = w }))
      unfolding load_bases
      bases_own set class signed w =
          let access : Access = record { class = class; signed = signed; window = w } in
          walk_pair (λ base number. IsPlaced n all top base) (λ x y. IsOwnRead l n all on x) (read_base l n m row set access) (read_base l n m row set access)
          (λ base number x y p h. one_read (is_live_in l n row set base number) (joined l x (load_base l n m base row access)) x (joined_own x (load_base l n m base row access) h (base_own base p class signed w)) h)
          0 bases None None each tt

      within_own : (set : Bases) (class : Class) (signed : Bool) (w : Option Window) → IsOwnRead l n all on (load_within l n m bases row set class signed w)
      within_own set class signed None = tt
      within_own set class signed (Some w) = loaded_own class (load_bases l n m bases row set (record { class = class; signed = signed; window = w })) (bases_own set class signed w)

      -- a load through any pointers
      pub load_own_even : (p : Pointers I) (class : Class) (signed : Bool) → IsOwnRead l n all on (load l n m bases row p class signed)
      unfolding load
      load_own_even p class signed = within_own p.bases class signed (window_of n p (class_bytes m class))
