-- Larger rows, sets and windows load more.
use Rattle.std.specs.Prelude.{◌≡◌, ℕ, ◌+◌, ◌<◌, ℤ, pos, Bool, true, false, not, ◌&&◌, ◌==◌, Option, Some, None, List, length, refl}
use Rattle.std.proofs.Common.{arith, sym, subst}
use Rattle.std.proofs.lemmas.Int.{ints}
use Rattle.std.proofs.lemmas.Bool.{cond_both, and_from, and_parts}
use Rattle.cc_base.specs.Lattices.{LatticeOf, OrderLaws}
use Rattle.cc_base.specs.LatticeParts.{flag_leq}
use Rattle.cc_base.specs.IntegerDomains.{IntegersOf, BoundLaws}
use Rattle.c_layout.specs.declared.data_model.Model.{Model}
use Rattle.c_layout.specs.declared.leaf_lists.Class.{Class}
use Rattle.c_layout.specs.declared.leaf_lists.Class.TheVariants.{Char, Short, Int, Long, LongLong, Pointer}
use Rattle.c_layout.specs.declared.shapes.BaseInfo.{BaseInfo}
use Rattle.pointer_domain.specs.declared.base_sets.Bases.{Bases}
use Rattle.pointer_domain.specs.declared.pointer_sets.Pointers.{Pointers}
use Rattle.pointer_domain.specs.BaseSets.{bases_within}
use Rattle.pointer_domain.specs.PointerLattice.{pointers_leq}
use Rattle.value_domain.specs.declared.values.values.Value.{Value}
use Rattle.value_domain.specs.declared.values.row_cells.Cell.{Cell}
use Rattle.value_domain.specs.Values.LabelSets.{all_labels, labels_order}
use Rattle.value_domain.specs.Values.Values.{value_lattice}
use Rattle.store_cells.specs.declared.access_windows.Window.{Window}
use Rattle.store_cells.specs.declared.cell_reads.Access.{Access}
use Rattle.store_cells.specs.ScalarTypes.{kind_of, class_bytes}
use Rattle.store_cells.specs.ClassNumbers.{class_number, class_at, same_class}
use Rattle.store_cells.specs.RowPositions.{leaf_position, class_position, zero_position, value_at, zero_at}
use Rattle.store_cells.specs.AccessWindows.{window_of}
use Rattle.store.specs.LeafSelection.{is_selected, is_other, has_stray, meets_padding}
use Rattle.store_cells.specs.CellReads.{joined, whole_range, byte_read}
use Rattle.store_objects.specs.LiveBases.{is_live_in}
use Rattle.store.specs.Loads.{reaches_class, labels_of, joined_if, read_leaf, load_leaves, load_class_cell, read_other_leaf, load_other_leaves, read_class_cell, load_other_class_cells, load_padding, load_other_bytes, is_text_in, is_text, determinate_if, load_own, load_others, load_character, load_base, read_base, load_bases, loaded, load_within, load}
use Rattle.store_cells.specs.FirstZeroWrites.{covering_part}
use Rattle.value_domain.specs.Strings.FirstZeros.{the_end}
use Rattle.cc_base.specs.IntegerLaws.{MonotoneLaws}
use Rattle.domain_theorems.proofs.values.Ranges.{RangeBelow, bounds_monotone}
use Rattle.store_monotone.specs.Operations.Placements.{EachFrom, WindowWithin, IsPlaced, IsRegular, CoversToo}
use Rattle.store_monotone.proofs.operations.PairedSteps.{walk_pair, turns_pair, numbers_below, cond_pair, cond_pair_if, same_pair}
use Rattle.domain_theorems.proofs.values.Parts.{value_parts, value_below, pointer_parts}
use Rattle.store_monotone.proofs.operations.Windows.{WindowsBelow, selected_monotone, other_monotone, window_monotone}
use Rattle.store_monotone.specs.Operations.TopCells.{top_zero}
use Rattle.store_monotone.proofs.operations.NearCells.{value_at_monotone}
use Rattle.store_monotone.specs.Operations.RowsBelow.{RowsBelow, ReadBelow}
use Rattle.store_monotone.proofs.operations.LiveBases.{live_in_set_monotone}
use Rattle.store_monotone.proofs.operations.FirstZeros.{zero_at_monotone, zero_at_top, lies_monotone}
use Rattle.store_monotone.proofs.operations.CellReads.{joined_monotone, joined_above, whole_monotone, read_monotone, byte_monotone, labels_monotone}

pub reaches_monotone : (m : Model) (base : BaseInfo) → IsRegular m base → (class : Class) (signed : Bool) (w u : Window) → WindowWithin w u → reaches_class base (record { class = class; signed = signed; window = w }) ≡ true → reaches_class base (record { class = class; signed = signed; window = u }) ≡ true
reaches_monotone m base q class signed w u i h = let a = and_parts base.shape.heap (has_stray base.shape.cells class w) h in and_from _ _ a.0 (q.stray class w u i a.0 a.1)

pub some_bytes : (m : Model) (c : Class) → 0 < class_bytes m c
some_bytes m Char = omega arith
some_bytes m Short = omega arith
some_bytes m Int = cond_both (m.int == 2) 2 4 (λ b. 0 < b) (λ e. omega arith) (λ e. omega arith)
some_bytes m Long = cond_both (m.long == 4) 4 8 (λ b. 0 < b) (λ e. omega arith) (λ e. omega arith)
some_bytes m LongLong = omega arith
some_bytes m Pointer = cond_both (m.pointer == 4) 4 8 (λ b. 0 < b) (λ e. omega arith) (λ e. omega arith)

pub class_small : (c : Class) → class_number c < 6
class_small Char = omega arith
class_small Short = omega arith
class_small Int = omega arith
class_small Long = omega arith
class_small LongLong = omega arith
class_small Pointer = omega arith

module _ {I : Type 0} {l : LatticeOf I} {n : IntegersOf I} {stands : I → ℤ → Type 0} (o : OrderLaws l) (b : BoundLaws l n stands) where
  if_monotone : (p q : Bool) (a x : Option (Value I)) (v w : Value I) → (p ≡ true → q ≡ true) → ReadBelow l a x → (value_lattice l).leq v w ≡ true → ReadBelow l (joined_if l p a v) (joined_if l q x w)
  if_monotone p q a x v w h k j = cond_pair (ReadBelow l) p q a (joined l a (Some v)) x (joined l x (Some w)) h k (joined_above o b a x (Some w) k) (joined_monotone o b a (Some v) x (Some w) k j)

  module _ (g : MonotoneLaws l n) (m : Model) (all : Bases) (top : List (Cell I)) (r s : List (Cell I)) (h : RowsBelow l top r s) (base : BaseInfo) (p : IsPlaced n all top base) (q : IsRegular m base) (class : Class) (signed : Bool) (w u : Window) (i : WindowWithin w u) where
    leaves_monotone : ReadBelow l (load_leaves l n m base r (record { class = class; signed = signed; window = w })) (load_leaves l n m base s (record { class = class; signed = signed; window = u }))
    unfolding load_leaves
    leaves_monotone = walk_pair (λ leaf at. at < length base.shape.cells) (ReadBelow l)
        (read_leaf l n m base r (record { class = class; signed = signed; window = w })) (read_leaf l n m base s (record { class = class; signed = signed; window = u }))
        (λ leaf at a x e k. if_monotone (is_selected leaf class w) (is_selected leaf class u) a x _ _ (selected_monotone leaf class w u i) k
        (read_monotone o b g m class leaf.signed signed _ _ (value_at_monotone o b all top r s (leaf_position base at) h.small h.large (p.leaf at e))))
        0 base.shape.cells None None (numbers_below (length base.shape.cells) 0 base.shape.cells (omega arith)) tt

    class_cell_monotone : ReadBelow l (load_class_cell l n m base r (record { class = class; signed = signed; window = w })) (load_class_cell l n m base s (record { class = class; signed = signed; window = u }))
    unfolding load_class_cell
    class_cell_monotone = cond_pair_if (ReadBelow l) (reaches_class base (record { class = class; signed = signed; window = w })) (reaches_class base (record { class = class; signed = signed; window = u })) None _ None _
        (reaches_monotone m base q class signed w u i) tt (λ e. tt)
        (λ e. read_monotone o b g m class true signed _ _ (value_at_monotone o b all top r s (class_position base (class_number class)) h.small h.large (p.class (class_number class) (and_parts base.shape.heap (has_stray base.shape.cells class u) e).0 (class_small class))))

    other_leaves_monotone : ReadBelow l (load_other_leaves l n m base r (record { class = class; signed = signed; window = w })) (load_other_leaves l n m base s (record { class = class; signed = signed; window = u }))
    unfolding load_other_leaves
    other_leaves_monotone = walk_pair (λ leaf at. at < length base.shape.cells) (ReadBelow l)
        (read_other_leaf l n m base r (record { class = class; signed = signed; window = w })) (read_other_leaf l n m base s (record { class = class; signed = signed; window = u }))
        (λ leaf at a x e k. if_monotone (is_other m leaf w) (is_other m leaf u) a x _ _ (other_monotone m leaf w u i) k
        (byte_monotone o b m leaf.class signed (value_at l n r (leaf_position base at)) (value_at l n s (leaf_position base at)) (value_at_monotone o b all top r s (leaf_position base at) h.small h.large (p.leaf at e))))
        0 base.shape.cells None None (numbers_below (length base.shape.cells) 0 base.shape.cells (omega arith)) tt

    other_classes_monotone : base.shape.heap ≡ true → ReadBelow l (load_other_class_cells l n m base r (record { class = class; signed = signed; window = w })) (load_other_class_cells l n m base s (record { class = class; signed = signed; window = u }))
    unfolding load_other_class_cells
    other_classes_monotone e = turns_pair (ReadBelow l)
        (read_class_cell l n m base r (record { class = class; signed = signed; window = w })) (read_class_cell l n m base s (record { class = class; signed = signed; window = u })) 5
        (λ at a x t k. joined_monotone o b a (Some (byte_read l n m (value_at l n r (class_position base (at + 1))) (class_at (at + 1)) signed)) x (Some (byte_read l n m (value_at l n s (class_position base (at + 1))) (class_at (at + 1)) signed)) k (byte_monotone o b m (class_at (at + 1)) signed (value_at l n r (class_position base (at + 1))) (value_at l n s (class_position base (at + 1))) (value_at_monotone o b all top r s (class_position base (at + 1)) h.small h.large (p.class (at + 1) e (omega arith)))))
        5 None None (omega arith) tt

    padding_monotone : ReadBelow l (load_padding l n m base (record { class = class; signed = signed; window = w })) (load_padding l n m base (record { class = class; signed = signed; window = u }))
    unfolding load_padding
    padding_monotone = cond_pair (ReadBelow l) (meets_padding m base.shape.cells w base.size) (meets_padding m base.shape.cells u base.size) None (Some (whole_range l n (kind_of m Char signed) all_labels true)) None (Some (whole_range l n (kind_of m Char signed) all_labels true)) (q.padding w u i) tt tt
        (whole_monotone o b (kind_of m Char signed) all_labels all_labels true true (labels_order.reflexive all_labels) refl)

    other_bytes_monotone : ReadBelow l (load_other_bytes l n m base r (record { class = class; signed = signed; window = w })) (load_other_bytes l n m base s (record { class = class; signed = signed; window = u }))
    unfolding load_other_bytes
    other_bytes_monotone = same_pair (ReadBelow l) base.shape.heap _ _ _ _ (λ e. other_classes_monotone e) (λ e. padding_monotone)

    text_at : (x y : Option (ℕ × Window)) → CoversToo x y → ((v : ℕ × Window) → y ≡ Some v → v.0 < length base.shape.zeros) → is_text_in l n base s y ≡ true → is_text_in l n base r x ≡ true
    text_at x None c j e = absurd (cc)
    text_at None (Some v) c j e = absurd c
    text_at (Some z) (Some v) c j e =
        let f = zero_at_monotone o b top r s (zero_position base v.0) h.small h.large (p.zero v.0 (j v refl)) in
        let t = zero_at_top o b top r s (zero_position base v.0) h.small h.large (p.zero v.0 (j v refl)) in
        let bounds = bounds_monotone b _ _ f in
        let ends = subst (λ e. RangeBelow (n.bounds (zero_at l n s (zero_position base v.0)).at) e) (b.between_bounds (pos 0) the_end (omega (arith, ints))) (bounds_monotone b _ (top_zero n).at t) in
        subst (λ at. is_text_in l n base r (Some (at, z.1)) ≡ true) (sym c.0) (lies_monotone _ _ z.1.hi v.1.hi bounds ends c.1.hi e)

    text_monotone : is_text l n base s u ≡ true → is_text l n base r w ≡ true
    unfolding is_text
    text_monotone e = text_at (covering_part base w) (covering_part base u) (q.parts w u i) (λ v f. q.part_number u v f) e

  determinate_monotone : (p q : Bool) (a x : Option (Value I)) → (q ≡ true → p ≡ true) → ReadBelow l a x → ReadBelow l (determinate_if p a) (determinate_if q x)
  determinate_monotone p q None x h k = tt
  determinate_monotone p q (Some v) None h k = absurd k
  determinate_monotone p q (Some v) (Some w) h k =
      let c = value_parts l v w k in
      value_below l (record v { indeterminate = v.indeterminate && not p }) (record w { indeterminate = w.indeterminate && not q }) (record { num = c.num; pointer = c.pointer; indeterminate = less p q v.indeterminate w.indeterminate h c.indeterminate; labels = c.labels })
    where
      less : (p q x y : Bool) → (q ≡ true → p ≡ true) → flag_leq x y ≡ true → flag_leq (x && not p) (y && not q) ≡ true
      less p q false y h k = refl
      less true q true y h k = refl
      less p q true false h k = cc
      less false true true true h k = absurd (let e : false ≡ true = h refl in cc)
      less false false true true h k = refl

  loaded_monotone : (class : Class) (a x : Option (Value I)) → ReadBelow l a x → ReadBelow l (loaded class a) (loaded class x)
  loaded_monotone class None x h = tt
  loaded_monotone class (Some v) None h = absurd h
  loaded_monotone class (Some v) (Some w) h =
      let c = value_parts l v w h in
      value_below l (record v { labels = labels_of class v.labels }) (record w { labels = labels_of class w.labels }) (record { num = c.num; pointer = c.pointer; indeterminate = c.indeterminate; labels = labels_monotone o b class v.labels w.labels c.labels })

  module _ (g : MonotoneLaws l n) (m : Model) (all : Bases) (top : List (Cell I)) (r s : List (Cell I)) (h : RowsBelow l top r s) where
    own_monotone : (base : BaseInfo) (p : IsPlaced n all top base) (q : IsRegular m base) (class : Class) (signed : Bool) (w u : Window) (i : WindowWithin w u) → ReadBelow l (load_own l n m base r (record { class = class; signed = signed; window = w })) (load_own l n m base s (record { class = class; signed = signed; window = u }))
    unfolding load_own
    own_monotone base p q class signed w u i =
        let small : Access = record { class = class; signed = signed; window = w } in
        let large : Access = record { class = class; signed = signed; window = u } in
        joined_monotone o b (load_leaves l n m base r small) (load_class_cell l n m base r small) (load_leaves l n m base s large) (load_class_cell l n m base s large)
        (leaves_monotone g m all top r s h base p q class signed w u i) (class_cell_monotone g m all top r s h base p q class signed w u i)

    others_monotone : (base : BaseInfo) (p : IsPlaced n all top base) (q : IsRegular m base) (class : Class) (signed : Bool) (w u : Window) (i : WindowWithin w u) → ReadBelow l (load_others l n m base r (record { class = class; signed = signed; window = w })) (load_others l n m base s (record { class = class; signed = signed; window = u }))
    unfolding load_others
    others_monotone base p q class signed w u i =
        let small : Access = record { class = class; signed = signed; window = w } in
        let large : Access = record { class = class; signed = signed; window = u } in
        joined_monotone o b (load_other_leaves l n m base r small) (load_other_bytes l n m base r small) (load_other_leaves l n m base s large) (load_other_bytes l n m base s large)
        (other_leaves_monotone g m all top r s h base p q class signed w u i) (other_bytes_monotone g m all top r s h base p q class signed w u i)

    -- a character, whatever is known of first zeros
    pub character_monotone : (base : BaseInfo) (p : IsPlaced n all top base) (q : IsRegular m base) (class : Class) (signed : Bool) (w u : Window) (i : WindowWithin w u) → ReadBelow l (load_character l n m base r (record { class = class; signed = signed; window = w })) (load_character l n m base s (record { class = class; signed = signed; window = u }))
    unfolding load_character
    character_monotone base p q class signed w u i = joined_monotone o b (load_own l n m base r (record { class = class; signed = signed; window = w })) (load_others l n m base r (record { class = class; signed = signed; window = w })) (load_own l n m base s (record { class = class; signed = signed; window = u })) (load_others l n m base s (record { class = class; signed = signed; window = u }))
        (own_monotone base p q class signed w u i) (others_monotone base p q class signed w u i)

    pub base_monotone : (base : BaseInfo) (p : IsPlaced n all top base) (q : IsRegular m base) (class : Class) (signed : Bool) (w u : Window) (i : WindowWithin w u) → ReadBelow l (load_base l n m base r (record { class = class; signed = signed; window = w })) (load_base l n m base s (record { class = class; signed = signed; window = u }))
    unfolding load_base
    base_monotone base p q class signed w u i =
        same_pair (ReadBelow l) (same_class class Char) _ _ _ _
        (λ e. determinate_monotone (is_text l n base r w) (is_text l n base s u) _ _ (λ f. text_monotone g m all top r s h base p q class signed w u i f) (character_monotone base p q class signed w u i))
        (λ e. own_monotone base p q class signed w u i)

    bases_monotone : (bases : List BaseInfo) → EachFrom (λ base number. IsPlaced n all top base × IsRegular m base) 0 bases → (set more : Bases) → bases_within set more ≡ true → (class : Class) (signed : Bool) (w u : Window) → WindowWithin w u → ReadBelow l (load_bases l n m bases r set (record { class = class; signed = signed; window = w })) (load_bases l n m bases s more (record { class = class; signed = signed; window = u }))
    unfolding load_bases
    bases_monotone bases each set more k class signed w u i =
        let small : Access = record { class = class; signed = signed; window = w } in
        let large : Access = record { class = class; signed = signed; window = u } in
        walk_pair (λ base number. IsPlaced n all top base × IsRegular m base) (ReadBelow l) (read_base l n m r set small) (read_base l n m s more large)
        (λ base number a x p j. cond_pair (ReadBelow l) (is_live_in l n r set base number) (is_live_in l n s more base number) a _ x _
        (live_in_set_monotone l n all top base number set more r s p.0 h k) j
        (joined_above o b a x _ j) (joined_monotone o b a _ x _ j (base_monotone base p.0 p.1 class signed w u i)))
        0 bases None None each tt

    within_monotone : (bases : List BaseInfo) → EachFrom (λ base number. IsPlaced n all top base × IsRegular m base) 0 bases → (set more : Bases) → bases_within set more ≡ true → (class : Class) (signed : Bool) (w u : Option Window) → WindowsBelow w u → ReadBelow l (load_within l n m bases r set class signed w) (load_within l n m bases s more class signed u)
    within_monotone bases each set more k class signed None u i = tt
    within_monotone bases each set more k class signed (Some w) None i = absurd i
    within_monotone bases each set more k class signed (Some w) (Some u) i = loaded_monotone class _ _ (bases_monotone bases each set more k class signed w u i)

    -- a load through larger pointers from a larger row gives more
    pub load_monotone : (bases : List BaseInfo) → EachFrom (λ base number. IsPlaced n all top base × IsRegular m base) 0 bases → (p q : Pointers I) → pointers_leq l p q ≡ true → (class : Class) (signed : Bool) → ReadBelow l (load l n m bases r p class signed) (load l n m bases s q class signed)
    unfolding load
    load_monotone bases each p q k class signed =
        let c = pointer_parts l p q k in
        within_monotone bases each p.bases q.bases c.bases class signed (window_of n p (class_bytes m class)) (window_of n q (class_bytes m class)) (window_monotone b p q (class_bytes m class) (some_bytes m class) c)
