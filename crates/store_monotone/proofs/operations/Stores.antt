-- Larger stores into larger rows leave larger rows.
use Rattle.std.specs.Prelude.{◌≡◌, ℕ, ◌+◌, ◌<◌, ◌==◌, ℤ, pos, Bool, true, false, cond, not, ◌&&◌, Option, Some, None, List, [], ◌∷◌, length, refl}
use Rattle.std.proofs.Common.{arith, sym, subst, ap, inl, inr, ◌⊎◌}
use Rattle.std.proofs.lemmas.Bool.{and_from, and_parts, eqb-true}
use Rattle.cc_base.specs.Lattices.{LatticeOf, OrderLaws}
use Rattle.cc_base.specs.IntegerDomains.{IntegersOf, BoundLaws, RangeLaws}
use Rattle.cc_base.specs.declared.integer_operators.Rel.TheVariants.{Eq}
use Rattle.cc_base.specs.declared.integer_operators.Tri.{Tri}
use Rattle.c_layout.specs.declared.data_model.Model.{Model}
use Rattle.c_layout.specs.declared.leaf_lists.Class.{Class}
use Rattle.c_layout.specs.declared.leaf_lists.Class.TheVariants.{Char}
use Rattle.c_layout.specs.declared.leaf_lists.Leaf.{Leaf}
use Rattle.c_layout.specs.declared.shapes.BaseInfo.{BaseInfo}
use Rattle.pointer_domain.specs.declared.base_sets.Bases.{Bases}
use Rattle.value_domain.specs.declared.values.values.Value.{Value}
use Rattle.value_domain.specs.declared.values.row_cells.Cell.{Cell}
use Rattle.value_domain.specs.Values.LabelSets.{labels_leq}
use Rattle.value_domain.specs.Values.Values.{value_lattice}
use Rattle.store_cells.specs.declared.access_windows.Window.{Window}
use Rattle.store_cells.specs.declared.cell_reads.Access.{Access}
use Rattle.store.specs.declared.stores.Write.{Write}
use Rattle.store_cells.specs.ClassNumbers.{class_number, class_at, same_class}
use Rattle.store_cells.specs.RowPositions.{leaf_position, class_position, join_value}
use Rattle.store_cells.specs.AccessWindows.{window_is_one, window_of}
use Rattle.store.specs.LeafSelection.{is_selected, is_other, has_stray}
use Rattle.store_cells.specs.ByteWrites.{byte_written}
use Rattle.store.specs.Loads.{reaches_class}
use Rattle.store.specs.Stores.{cell_value, is_strong, store_leaf_at, store_leaf, store_leaves, store_class_cell, store_other_leaf_at, store_other_leaf, store_other_leaves, store_other_class, store_other_classes, store_other_bytes, store_own, store_character, store_wider, store_base, store_if, store_to, store_all, any_place, is_nothing, stored_value, can_store, store_access, reached_of, store_within, store}
use Rattle.store_cells.specs.FirstZeroWrites.{put_character, forget_zeros}
use Rattle.store_objects.specs.LiveBases.{has_base, is_one_instance, single_bases, live_of}
use Rattle.pointer_domain.specs.BaseSets.{bases_within, bases_has, bases_count}
use Rattle.pointer_domain.specs.declared.pointer_sets.Pointers.{Pointers}
use Rattle.pointer_domain.specs.PointerLattice.{pointers_leq}
use Rattle.store_cells.specs.ScalarTypes.{class_bytes}
use Rattle.store.specs.Loads.{labels_of}
use Rattle.cc_base.specs.IntegerLaws.{tri_leq, MonotoneLaws}
use Rattle.store_monotone.proofs.operations.LiveSets.{has_monotone, one_base}
use Rattle.store_monotone.proofs.operations.LiveBases.{live_of_monotone, writable_monotone}
use Rattle.domain_theorems.proofs.values.Flags.{and_sets, not_sets}
use Rattle.store_monotone.proofs.operations.StorePlaces.{nothing_monotone, any_place_monotone, place_has}
use Rattle.store_monotone.proofs.operations.ZeroTargets.{character_step, forget_step}
use Rattle.store_monotone.specs.Operations.Placements.{EachFrom, WindowWithin, IsPlaced, IsRegular}
use Rattle.store_monotone.proofs.operations.PairedSteps.{Step, walk_pair, walk_step, turns_step, then_step, if_step, same_step, numbers_below}
use Rattle.domain_theorems.proofs.values.Parts.{value_parts, value_below, pointer_parts}
use Rattle.store_monotone.proofs.operations.Windows.{WindowsBelow, selected_monotone, other_monotone, window_is, window_monotone}
use Rattle.store_monotone.specs.Operations.TopCells.{top_value}
use Rattle.store_monotone.specs.Operations.RowsBelow.{RowsBelow}
use Rattle.store_monotone.proofs.operations.CellSteps.{write_step, join_step}
use Rattle.store_monotone.proofs.operations.CellReads.{stored_in_monotone, stored_in_top, written_monotone, written_top, labels_monotone, labels_top}
use Rattle.store_monotone.proofs.operations.Loads.{reaches_monotone, class_small, some_bytes}
use Rattle.store_monotone.specs.Operations.RowsBelow.{StoresBelow}

module _ {I : Type 0} {l : LatticeOf I} {n : IntegersOf I} {stands : I → ℤ → Type 0} (o : OrderLaws l) (b : BoundLaws l n stands) (f : RangeLaws l n) (g : MonotoneLaws l n) (m : Model) (all : Bases) (top : List (Cell I)) where
  module _ (base : BaseInfo) (p : IsPlaced n all top base) (q : IsRegular m base) (on : Bool) (class : Class) (signed : Bool) (w u : Window) (x y : Value I) (one two : Bool) (i : WindowWithin w u) (h : (value_lattice l).leq x y ≡ true) (k : (value_lattice l).leq y (top_value n all) ≡ true) (a : two ≡ true → (on ≡ true) × (one ≡ true)) where
    abbrev small : Write I
    small = record { access = record { class = class; signed = signed; window = w }; value = x; alone = one }

    abbrev large : Write I
    large = record { access = record { class = class; signed = signed; window = u }; value = y; alone = two }

    -- where the larger write is strong, the smaller one is made, to the same place
    strong_same : (leaf : Leaf) → is_selected leaf class u ≡ true → (two && (window_is_one u && (leaf.count == 1))) ≡ true → (on ≡ true) × (is_selected leaf class w ≡ true) × ((one && (window_is_one w && (leaf.count == 1))) ≡ true)
    strong_same leaf e s =
        let c = and_parts two (window_is_one u && (leaf.count == 1)) s in
        let d = and_parts (window_is_one u) (leaf.count == 1) c.1 in
        let z = a c.0 in
        let v : w ≡ u = window_is w u i (eqb-true u.lo u.hi d.0) in
        (z.0, subst (λ t. is_selected leaf class t ≡ true) (sym v) e, and_from _ _ z.1 (subst (λ t. (window_is_one t && (leaf.count == 1)) ≡ true) (sym v) c.1))

    leaves_step : Step (RowsBelow l top) on (store_leaves l n m base small) (store_leaves l n m base large)
    unfolding store_leaves store_leaf_at
    leaves_step = walk_step (λ leaf at. at < length base.shape.cells) (RowsBelow l top) on (store_leaf l n m base small) (store_leaf l n m base large)
        (λ leaf at e r s j. write_step o b all top (leaf_position base at) (p.leaf at e) r s (cell_value n m small leaf.signed) (cell_value n m large leaf.signed) j
        (stored_in_monotone o b g m class leaf.signed x y h) (stored_in_top o b f all m class leaf.signed y k)
        on (is_selected leaf class w) (is_selected leaf class u) (is_strong leaf small) (is_strong leaf large) (selected_monotone leaf class w u i) (strong_same leaf))
        0 base.shape.cells (numbers_below (length base.shape.cells) 0 base.shape.cells (omega arith))

    class_cell_step : Step (RowsBelow l top) on (store_class_cell l n m base small) (store_class_cell l n m base large)
    unfolding store_class_cell
    class_cell_step = if_step (RowsBelow l top) on (reaches_class base small.access) (reaches_class base large.access)
        (λ r. join_value l n r (class_position base (class_number class)) (cell_value n m small true)) (λ r. join_value l n r (class_position base (class_number class)) (cell_value n m large true))
        (reaches_monotone m base q class signed w u i)
        (λ e now d c r s j. join_step o b all top (class_position base (class_number class)) (p.class (class_number class) (and_parts base.shape.heap (has_stray base.shape.cells class u) e).0 (class_small class)) r s (cell_value n m small true) (cell_value n m large true) j
        (stored_in_monotone o b g m class true x y h) (stored_in_top o b f all m class true y k) now true true (λ z. z))

    own_step : Step (RowsBelow l top) on (store_own l n m base small) (store_own l n m base large)
    unfolding store_own
    own_step = then_step (RowsBelow l top) on (store_leaves l n m base small) (store_leaves l n m base large) (store_class_cell l n m base small) (store_class_cell l n m base large) leaves_step class_cell_step

    labels_below : labels_leq x.labels y.labels ≡ true
    labels_below = (value_parts l x y h).labels

    other_leaves_step : Step (RowsBelow l top) on (store_other_leaves l n m base small) (store_other_leaves l n m base large)
    unfolding store_other_leaves store_other_leaf_at
    other_leaves_step = walk_step (λ leaf at. at < length base.shape.cells) (RowsBelow l top) on (store_other_leaf l n m base small) (store_other_leaf l n m base large)
        (λ leaf at e r s j. join_step o b all top (leaf_position base at) (p.leaf at e) r s (byte_written l n m leaf.class leaf.signed x.labels) (byte_written l n m leaf.class leaf.signed y.labels) j
        (written_monotone o b m leaf.class leaf.signed x.labels y.labels labels_below) (written_top o b all m leaf.class leaf.signed y.labels)
        on (is_other m leaf w) (is_other m leaf u) (other_monotone m leaf w u i))
        0 base.shape.cells (numbers_below (length base.shape.cells) 0 base.shape.cells (omega arith))

    other_classes_step : base.shape.heap ≡ true → Step (RowsBelow l top) on (store_other_classes l n m base x.labels) (store_other_classes l n m base y.labels)
    unfolding store_other_classes store_other_class
    other_classes_step heap = turns_step (RowsBelow l top) on (store_other_class l n m base x.labels) (store_other_class l n m base y.labels) 5
        (λ at e r s j. join_step o b all top (class_position base (at + 1)) (p.class (at + 1) heap (omega arith)) r s (byte_written l n m (class_at (at + 1)) true x.labels) (byte_written l n m (class_at (at + 1)) true y.labels) j
        (written_monotone o b m (class_at (at + 1)) true x.labels y.labels labels_below) (written_top o b all m (class_at (at + 1)) true y.labels) on true true (λ z. z))
        5 (omega arith)

    other_bytes_step : Step (RowsBelow l top) on (store_other_bytes l n m base small) (store_other_bytes l n m base large)
    unfolding store_other_bytes
    other_bytes_step = same_step (RowsBelow l top) on base.shape.heap
        (λ r. store_other_classes l n m base x.labels (store_other_leaves l n m base small r)) (λ r. store_other_classes l n m base y.labels (store_other_leaves l n m base large r))
        (store_other_leaves l n m base small) (store_other_leaves l n m base large)
        (λ e. then_step (RowsBelow l top) on (store_other_leaves l n m base small) (store_other_leaves l n m base large) (store_other_classes l n m base x.labels) (store_other_classes l n m base y.labels) other_leaves_step (other_classes_step e))
        (λ e. other_leaves_step)

    -- whether the character that is stored is zero
    abbrev zero_of : Write I → Tri
    zero_of write = n.compare Eq (cell_value n m write signed).num (n.one (pos 0))

    zero_below : tri_leq (zero_of small) (zero_of large) ≡ true
    zero_below = g.compare_monotone Eq (cell_value n m small signed).num (n.one (pos 0)) (cell_value n m large signed).num (n.one (pos 0)) (value_parts l (cell_value n m small signed) (cell_value n m large signed) (stored_in_monotone o b g m class signed x y h)).num (o.reflexive (n.one (pos 0)))

    character_step_of : Step (RowsBelow l top) on (store_character l n m base small) (store_character l n m base large)
    unfolding store_character
    character_step_of = then_step (RowsBelow l top) on (store_other_bytes l n m base small) (store_other_bytes l n m base large)
        (put_character l n base w (zero_of small) one) (put_character l n base u (zero_of large) two)
        other_bytes_step (character_step o b all top base p on w u i (zero_of small) (zero_of large) zero_below one two a)

    wider_step : Step (RowsBelow l top) on (store_wider l n base w) (store_wider l n base u)
    unfolding store_wider
    wider_step = same_step (RowsBelow l top) on base.shape.heap (forget_zeros l n base w) (forget_zeros l n base u) (λ r. r) (λ r. r) (λ e. forget_step o b all top base p on w u i) (λ e r s j. stay on r s j)
      where
        stay : (on : Bool) (r s : List (Cell I)) → RowsBelow l top r s → RowsBelow l top (cond on r r) s
        stay true r s j = j
        stay false r s j = j

    base_step : Step (RowsBelow l top) on (store_base l n m base small) (store_base l n m base large)
    unfolding store_base
    base_step = same_step (RowsBelow l top) on (same_class class Char)
        (λ r. store_character l n m base small (store_own l n m base small r)) (λ r. store_character l n m base large (store_own l n m base large r))
        (λ r. store_wider l n base w (store_own l n m base small r)) (λ r. store_wider l n base u (store_own l n m base large r))
        (λ e. then_step (RowsBelow l top) on (store_own l n m base small) (store_own l n m base large) (store_character l n m base small) (store_character l n m base large) own_step character_step_of)
        (λ e. then_step (RowsBelow l top) on (store_own l n m base small) (store_own l n m base large) (store_wider l n base w) (store_wider l n base u) own_step wider_step)

  module _ (class : Class) (signed : Bool) (w u : Window) (x y : Value I) (one two : Bool) (i : WindowWithin w u) (h : (value_lattice l).leq x y ≡ true) (k : (value_lattice l).leq y (top_value n all) ≡ true) where
    -- over all bases; where the larger write is to one instance alone, both go to the same bases
    all_pair : (bases : List BaseInfo) → EachFrom (λ base number. IsPlaced n all top base × IsRegular m base) 0 bases → (set more : Bases) → bases_within set more ≡ true
        → (two ≡ true → (set ≡ more) × (one ≡ true)) → (r s : List (Cell I)) → RowsBelow l top r s
        → RowsBelow l top (store_all l n m bases set (record { access = record { class = class; signed = signed; window = w }; value = x; alone = one }) r)
        (store_all l n m bases more (record { access = record { class = class; signed = signed; window = u }; value = y; alone = two }) s)
    unfolding store_all store_if
    all_pair bases each set more within a r s j =
        let small : Write I = record { access = record { class = class; signed = signed; window = w }; value = x; alone = one } in
        let large : Write I = record { access = record { class = class; signed = signed; window = u }; value = y; alone = two } in
        walk_pair (λ base number. IsPlaced n all top base × IsRegular m base) (RowsBelow l top) (store_to l n m set small) (store_to l n m more large)
        (λ base number r s p j. if_step (RowsBelow l top) true (has_base set number) (has_base more number) (store_base l n m base small) (store_base l n m base large)
        (has_monotone set more number within)
        (λ e now c d. base_step base p.0 p.1 now class signed w u x y one two i h k (λ z. (made number e now d (λ t. (a t).0) z, (a z).1))) r s j)
        0 bases r s each j
      where
        made : (number : ℕ) → has_base more number ≡ true → (now : Bool) → (now ≡ false → (true ≡ false) ⊎ (has_base set number ≡ false)) → (two ≡ true → set ≡ more) → two ≡ true → now ≡ true
        made number e true d same z = refl
        made number e false d same z = elim (d refl) [
          | inl t ↦ absurd (cc)
          | inr t ↦ absurd (let v : has_base set number ≡ has_base more number = ap (λ t. has_base t number) (same z) in cc)
        ]

  some_if : (a c : Bool) (x y : List (Cell I)) → (a ≡ true → c ≡ true) → (a ≡ true → RowsBelow l top x y) → StoresBelow l top (cond a (Some x) None) (cond c (Some y) None)
  some_if false c x y h k = tt
  some_if true true x y h k = k refl
  some_if true false x y h k = absurd (let t : false ≡ true = h refl in cc)

  stored_monotone : (class : Class) (v w : Value I) → (value_lattice l).leq v w ≡ true → (value_lattice l).leq (stored_value class v) (stored_value class w) ≡ true
  stored_monotone class v w h = let c = value_parts l v w h in value_below l (stored_value class v) (stored_value class w) (record { num = c.num; pointer = c.pointer; indeterminate = refl; labels = labels_monotone o b class v.labels w.labels c.labels })

  stored_top : (class : Class) (w : Value I) → (value_lattice l).leq w (top_value n all) ≡ true → (value_lattice l).leq (stored_value class w) (top_value n all) ≡ true
  stored_top class w h = let c = value_parts l w (top_value n all) h in value_below l (stored_value class w) (top_value n all) (record { num = c.num; pointer = c.pointer; indeterminate = refl; labels = labels_top (labels_of class w.labels) })

  module _ (bases : List BaseInfo) (each : EachFrom (λ base number. IsPlaced n all top base × IsRegular m base) 0 bases) (r s : List (Cell I)) (j : RowsBelow l top r s) (class : Class) (signed : Bool) (v x : Value I) (h : (value_lattice l).leq v x ≡ true) (k : (value_lattice l).leq x (top_value n all) ≡ true) where
    access_pair : (set more : Bases) → bases_within set more ≡ true → (w u : Window) → WindowWithin w u
        → StoresBelow l top (store_access l n m bases set (record { class = class; signed = signed; window = w }) v r) (store_access l n m bases more (record { class = class; signed = signed; window = u }) x s)
    unfolding store_access can_store
    access_pair set more within w u i =
        let small : Access = record { class = class; signed = signed; window = w } in
        let large : Access = record { class = class; signed = signed; window = u } in
        some_if (not (is_nothing n class v) && any_place m bases set small) (not (is_nothing n class x) && any_place m bases more large) _ _
        (and_sets (not (is_nothing n class v)) (any_place m bases set small) (not (is_nothing n class x)) (any_place m bases more large)
        (not_sets (is_nothing n class v) (is_nothing n class x) (nothing_monotone o b class v x h))
        (any_place_monotone m class signed w u i bases (each_second 0 bases each) set more within))
        (λ e.
        let p = and_parts (not (is_nothing n class v)) (any_place m bases set small) e in
        let has = place_has m class signed w u i bases set p.1 in
        all_pair class signed w u (stored_value class v) (stored_value class x) (is_one_instance bases set) (is_one_instance bases more) i (stored_monotone class v x h) (stored_top class x k)
        bases each set more within
        (λ z.
        let c = and_parts (bases_count more == 1) (bases_within more (single_bases bases)) z in
        let same = one_base set more has.0 within (and_parts _ (bases_has set has.0) has.1).1 (eqb-true (bases_count more) 1 c.0) in
        (same, subst (λ t. is_one_instance bases t ≡ true) (sym same) z))
        r s j)
      where
        each_second : (at : ℕ) (ks : List BaseInfo) → EachFrom (λ base number. IsPlaced n all top base × IsRegular m base) at ks → EachFrom (λ base number. IsRegular m base) at ks
        each_second at [] e = tt
        each_second at (c ∷ cs) e = (e.0.1, each_second (at + 1) cs e.1)

    within_pair : (set more : Bases) → bases_within set more ≡ true → (w u : Option Window) → WindowsBelow w u → StoresBelow l top (store_within l n m bases set class signed v r w) (store_within l n m bases more class signed x s u)
    within_pair set more within None u i = tt
    within_pair set more within (Some w) None i = absurd i
    within_pair set more within (Some w) (Some u) i = access_pair (reached_of l n bases r set) (reached_of l n bases s more)
        (writable_monotone bases (live_of l n bases r set) (live_of l n bases s more) (live_of_monotone l n all top bases set more r s (each_first 0 bases each) j within)) w u i
      where
        each_first : (at : ℕ) (ks : List BaseInfo) → EachFrom (λ base number. IsPlaced n all top base × IsRegular m base) at ks → EachFrom (λ base number. IsPlaced n all top base) at ks
        each_first at [] e = tt
        each_first at (c ∷ cs) e = (e.0.0, each_first (at + 1) cs e.1)

    -- a store of more, through more pointers, into a larger row leaves a larger row
    pub store_monotone : (p q : Pointers I) → pointers_leq l p q ≡ true → StoresBelow l top (store l n m bases p class signed v r) (store l n m bases q class signed x s)
    unfolding store
    store_monotone p q z =
        let c = pointer_parts l p q z in
        within_pair p.bases q.bases c.bases (window_of n p (class_bytes m class)) (window_of n q (class_bytes m class)) (window_monotone b p q (class_bytes m class) (some_bytes m class) c)
