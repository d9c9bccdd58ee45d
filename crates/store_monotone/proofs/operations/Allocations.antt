-- Allocations: the newest base becomes part of the older one, and a fresh instance takes its place.
use Rattle.std.specs.Prelude.{◌≡◌, ℕ, ◌/◌, ◌%◌, ◌^◌, ◌<◌, ℤ, pos, ◌≤ℤ◌, Bool, true, false, cond, ◌&&◌, bit_or, Option, Some, None, List, [], ◌∷◌, length, map, slice_get, refl}
use Rattle.std.proofs.Common.{arith, sym, subst}
use Rattle.std.proofs.lemmas.Bool.{and_parts, and_from, and_right}
use Rattle.cc_base.specs.Lattices.{LatticeOf, OrderLaws}
use Rattle.cc_base.specs.Rows.{row_leq}
use Rattle.cc_base.specs.NumberRanges.{Range}
use Rattle.cc_base.specs.IntegerDomains.{IntegersOf, BoundLaws, RangeLaws}
use Rattle.cc_base.specs.IntegerLaws.{MonotoneLaws}
use Rattle.c_layout.specs.declared.data_model.Model.{Model}
use Rattle.c_layout.specs.declared.shapes.BaseInfo.{BaseInfo}
use Rattle.pointer_domain.specs.BaseSets.{word_of, bases_has, bases_with, bases_without, bases_within}
use Rattle.pointer_domain.specs.BaseLattice.{bases_order}
use Rattle.pointer_domain.specs.PointerLattice.{pointers_leq}
use Rattle.pointer_domain.specs.PointerTables as pointers
use Rattle.pointer_domain.specs.declared.base_sets.Bases.{Bases}
use Rattle.pointer_domain.specs.declared.pointer_sets.Pointers.{Pointers}
use Rattle.value_domain.specs.Strings.FirstZeros.{the_end, zero_lattice}
use Rattle.value_domain.specs.declared.values.alloc_states.AllocState.{AllocState}
use Rattle.value_domain.specs.Values.AllocStates.{state_lattice, state_order}
use Rattle.value_domain.specs.declared.values.row_cells.Cell.{Cell}
use Rattle.value_domain.specs.declared.values.row_cells.Cell.TheVariants.{Nothing, Value, First, State, Mixed}
use Rattle.value_domain.specs.Values.Values.{value_lattice}
use Rattle.value_domain.specs.Values.Cells.{cell_lattice, cell_leq}
use Rattle.store_objects.specs.declared.allocation.Fresh.{Fresh}
use Rattle.store_objects.specs.declared.allocation.Fresh.TheVariants.{Blank, Zero, Old}
use Rattle.c_layout.specs.declared.leaf_lists.Class.{Class}
use Rattle.store_cells.specs.ClassNumbers.{class_at}
use Rattle.store_objects.specs.LiveBases.{has_base}
use Rattle.store_objects.specs.Freeing.{free_base_if, free_base, free_bases}
use Rattle.store_cells.specs.RowPositions.{cell_at, leaf_position, class_position, zero_position, state_position, value_count, value_at, zero_at, state_at, put_state, join_zero}
use Rattle.store_cells.specs.FirstZeroWrites.{set_zeros}
use Rattle.store_objects.specs.Allocations.{is_named, site_of, renamed, renamed_cell, renamed_fresh, join_cell, join_values, join_part, join_zeros, join_state, join_base, fresh_value, fresh_cell, fresh_leaf, fresh_leaves, fresh_class, fresh_classes, fresh_values, fresh_zero, make_instance, make_of, make_fresh, free_old, replaced, renew_site, renew_found, renew}
use Rattle.domain_theorems.specs.Values.Consistency.{AreWords}
use Rattle.domain_theorems.proofs.values.Ranges.{RangeBelow, bounds_monotone}
use Rattle.domain_theorems.proofs.values.Parts.{pointer_parts, pointers_below, value_parts}
use Rattle.domain_theorems.proofs.values.Renames.{with_within, own_word, word_of_within, rename_monotone}
use Rattle.domain_theorems.proofs.values.BaseChanges.{or_below, bit_of}
use Rattle.store_monotone.specs.Operations.TopCells.{top_value, top_zero, top_state}
use Rattle.store_monotone.specs.Operations.Placements.{EachFrom, IsPlaced}
use Rattle.store_monotone.specs.Operations.RowsBelow.{RowsBelow}
use Rattle.store_monotone.specs.Operations.ConsistentRows.{IsConsistentCell, AreConsistent}
use Rattle.store_monotone.specs.Operations.StoreLaws.{IsSite, FreshBelow, IsFreshOfWords}
use Rattle.store_monotone.proofs.operations.PairedSteps.{walk_pair, turns_pair, numbers_below}
use Rattle.store_monotone.proofs.operations.NearCells.{value_at_monotone, value_at_top}
use Rattle.store_monotone.proofs.operations.CellSteps.{put_pair, join_pair}
use Rattle.store_monotone.proofs.operations.LiveSets.{has_monotone}
use Rattle.store_monotone.proofs.operations.FirstZeros.{zero_at_monotone, zero_at_top}
use Rattle.store_monotone.proofs.operations.Freeing.{state_at_monotone, state_at_top, free_pair, off}
use Rattle.store_monotone.proofs.operations.OwnValues.{each_get, value_placed, value_put, zero_put, zeros_pair}
use Rattle.store_monotone.proofs.operations.ObjectLives.{IsGreatest, AreGreatest, without_within, with_pointer, either_top}
use Rattle.store_monotone.proofs.operations.NoInstances.{both_nothing, nothing_made}
use Rattle.store_monotone.proofs.operations.OldBytes.{fresh_own, fresh_zero_monotone, fresh_zero_top}

-- a set with one base more stays within a set that has it
pub with_into : (s t : Bases) (base : ℕ) → bases_within s t ≡ true → bases_has t base ≡ true → bases_within (bases_with s base) t ≡ true
with_into s t base h k = subst (λ u. bases_within (bases_with s base) u ≡ true) (own_word t (base / 128))
    (with_within s t h (base / 128) (bit_or (word_of s (base / 128)) (2 ^ (base % 128))) (word_of t (base / 128))
    (or_below (word_of s (base / 128)) (word_of t (base / 128)) (base % 128) (word_of_within s t h (base / 128)) (bit_of t base k)))

module _ {I : Type 0} {l : LatticeOf I} {n : IntegersOf I} {stands : I → ℤ → Type 0} (o : OrderLaws l) (b : BoundLaws l n stands) where
  -- ---- names

  renamed_monotone : (newest older : ℕ) (p q : Pointers I) → AreWords p.bases → pointers_leq l p q ≡ true → pointers_leq l (renamed (site_of newest older) p) (renamed (site_of newest older) q) ≡ true
  renamed_monotone newest older p q w h = by_names (is_named (site_of newest older))
    where
      by_names : (t : Bool) → pointers_leq l (cond t (pointers.renamed p newest older) p) (cond t (pointers.renamed q newest older) q) ≡ true
      by_names true = rename_monotone o b p q newest older w h
      by_names false = h

  renamed_top : (all : Bases) (newest older : ℕ) (p : Pointers I) → bases_has all older ≡ true → pointers_leq l p (top_value n all).pointer ≡ true → pointers_leq l (renamed (site_of newest older) p) (top_value n all).pointer ≡ true
  renamed_top all newest older p e h =
      let c = pointer_parts l p (top_value n all).pointer h in
      either_top o b all p h (is_named (site_of newest older)) (pointers.renamed p newest older) p
      (either_top o b all p h (bases_has p.bases newest) (record p { bases = bases_with (bases_without p.bases newest) older }) p
      (pointers_below l (record p { bases = bases_with (bases_without p.bases newest) older }) (top_value n all).pointer (record {
        bases = with_into (bases_without p.bases newest) all older (bases_order.transitive (bases_without p.bases newest) p.bases all (without_within p.bases newest) c.bases) e;
        lo = c.lo;
        rel = c.rel;
        len = c.len;
        part = c.part;
        null = c.null;
        ended = c.ended;
      })) h) h

  cell_renamed : (newest older : ℕ) (x y : Cell I) → IsConsistentCell n x → cell_leq l x y ≡ true → cell_leq l (renamed_cell (site_of newest older) x) (renamed_cell (site_of newest older) y) ≡ true
  cell_renamed newest older Nothing y e h = refl
  cell_renamed newest older (Value v) Nothing e h = cc
  cell_renamed newest older (Value v) (Value w) e h = with_pointer o b v w (renamed (site_of newest older) v.pointer) (renamed (site_of newest older) w.pointer) h (renamed_monotone newest older v.pointer w.pointer e.0 (value_parts l v w h).pointer)
  cell_renamed newest older (Value v) (First g) e h = cc
  cell_renamed newest older (Value v) (State g) e h = cc
  cell_renamed newest older (Value v) Mixed e h = refl
  cell_renamed newest older (First f) Nothing e h = cc
  cell_renamed newest older (First f) (Value w) e h = cc
  cell_renamed newest older (First f) (First g) e h = h
  cell_renamed newest older (First f) (State g) e h = cc
  cell_renamed newest older (First f) Mixed e h = refl
  cell_renamed newest older (State s) Nothing e h = cc
  cell_renamed newest older (State s) (Value w) e h = cc
  cell_renamed newest older (State s) (First g) e h = cc
  cell_renamed newest older (State s) (State g) e h = h
  cell_renamed newest older (State s) Mixed e h = refl
  cell_renamed newest older Mixed Nothing e h = cc
  cell_renamed newest older Mixed (Value w) e h = cc
  cell_renamed newest older Mixed (First g) e h = cc
  cell_renamed newest older Mixed (State g) e h = cc
  cell_renamed newest older Mixed Mixed e h = refl

  cell_own : (all : Bases) (newest older : ℕ) → bases_has all older ≡ true → (x y : Cell I) → IsGreatest n all y → cell_leq l x y ≡ true → cell_leq l (renamed_cell (site_of newest older) x) y ≡ true
  cell_own all newest older t Nothing y e h = refl
  cell_own all newest older t (Value v) Nothing e h = cc
  cell_own all newest older t (Value v) (Value w) e h =
      let k : (value_lattice l).leq v (top_value n all) ≡ true = subst (λ u. (value_lattice l).leq v u ≡ true) e h in
      subst (λ u. (value_lattice l).leq (record v { pointer = renamed (site_of newest older) v.pointer }) u ≡ true) (sym e)
      (with_pointer o b v (top_value n all) (renamed (site_of newest older) v.pointer) (top_value n all).pointer k (renamed_top all newest older v.pointer t (value_parts l v (top_value n all) k).pointer))
  cell_own all newest older t (Value v) (First g) e h = cc
  cell_own all newest older t (Value v) (State g) e h = cc
  cell_own all newest older t (Value v) Mixed e h = refl
  cell_own all newest older t (First f) y e h = h
  cell_own all newest older t (State s) y e h = h
  cell_own all newest older t Mixed y e h = h

  row_renamed : (newest older : ℕ) (r s : List (Cell I)) → AreConsistent n r → row_leq (cell_lattice l) r s ≡ true → row_leq (cell_lattice l) (map (renamed_cell (site_of newest older)) r) (map (renamed_cell (site_of newest older)) s) ≡ true
  row_renamed newest older [] [] e h = refl
  row_renamed newest older [] (y ∷ s) e h = cc
  row_renamed newest older (x ∷ r) [] e h = cc
  row_renamed newest older (x ∷ r) (y ∷ s) e h = let p = and_parts (cell_leq l x y) (row_leq (cell_lattice l) r s) h in and_from _ _ (cell_renamed newest older x y e.0 p.0) (row_renamed newest older r s e.1 p.1)

  row_own : (all : Bases) (newest older : ℕ) → bases_has all older ≡ true → (s top : List (Cell I)) → AreGreatest n all top → row_leq (cell_lattice l) s top ≡ true → row_leq (cell_lattice l) (map (renamed_cell (site_of newest older)) s) top ≡ true
  row_own all newest older t [] [] e h = refl
  row_own all newest older t [] (y ∷ top) e h = cc
  row_own all newest older t (x ∷ s) [] e h = cc
  row_own all newest older t (x ∷ s) (y ∷ top) e h = let p = and_parts (cell_leq l x y) (row_leq (cell_lattice l) s top) h in and_from _ _ (cell_own all newest older t x y e.0 p.0) (row_own all newest older t s top e.1 p.1)

  pub renamed_row : (all : Bases) (newest older : ℕ) → bases_has all older ≡ true → (top r s : List (Cell I)) → AreGreatest n all top → AreConsistent n r → RowsBelow l top r s → RowsBelow l top (map (renamed_cell (site_of newest older)) r) (map (renamed_cell (site_of newest older)) s)
  renamed_row all newest older t top r s g e j = record { small = row_renamed newest older r s e j.small; large = row_own all newest older t s top g j.large }

  renamed_below : (newest older : ℕ) (fresh more : Fresh I) → IsFreshOfWords fresh → FreshBelow l fresh more → FreshBelow l (renamed_fresh (site_of newest older) fresh) (renamed_fresh (site_of newest older) more)
  renamed_below newest older Blank Blank w h = tt
  renamed_below newest older Blank Zero w h = absurd h
  renamed_below newest older Blank (Old q) w h = absurd h
  renamed_below newest older Zero Blank w h = absurd h
  renamed_below newest older Zero Zero w h = tt
  renamed_below newest older Zero (Old q) w h = absurd h
  renamed_below newest older (Old p) Blank w h = absurd h
  renamed_below newest older (Old p) Zero w h = absurd h
  renamed_below newest older (Old p) (Old q) w h = renamed_monotone newest older p q w h

  -- ---- the newest base becomes part of the older one

  module _ (all : Bases) (top : List (Cell I)) where
    state_put : (i : ℕ) (r s : List (Cell I)) (x y : AllocState I) → cell_at top i ≡ State (top_state n) → RowsBelow l top r s → (state_lattice l).leq x y ≡ true → (state_lattice l).leq y (top_state n) ≡ true → RowsBelow l top (put_state r i x) (put_state s i y)
    state_put i r s x y e j h k = put_pair o b all top i r s (State x) (State y) j h (subst (λ c. cell_leq l (State y) c ≡ true) (sym e) k)

    module _ (new old : BaseInfo) (p : IsPlaced n all top new) (q : IsPlaced n all top old) (place : IsSite new old) where
      values_joined : (r s : List (Cell I)) → RowsBelow l top r s → RowsBelow l top (join_values l n new old r) (join_values l n new old s)
      unfolding join_values join_cell
      values_joined r s j = turns_pair (RowsBelow l top) (join_cell l n new old) (join_cell l n new old) (value_count new)
          (λ at x y h i.
          let c = place.values in
          let t = value_placed n all top new p at h in
          join_pair o b all top (leaf_position old at) (value_placed n all top old q at (omega arith)) x y (value_at l n x (leaf_position new at)) (value_at l n y (leaf_position new at)) i
          (value_at_monotone o b all top x y (leaf_position new at) i.small i.large t) (value_at_top o b all top x y (leaf_position new at) i.small i.large t))
          (value_count new) r s (omega arith) j

      zero_joined : (at : ℕ) → at < length new.shape.zeros → (r s : List (Cell I)) → RowsBelow l top r s → RowsBelow l top (join_zero l n r (zero_position old at) (zero_at l n r (zero_position new at))) (join_zero l n s (zero_position old at) (zero_at l n s (zero_position new at)))
      unfolding join_zero
      zero_joined at h r s j =
          let c = place.zeros in
          let t = p.zero at h in
          let u = q.zero at (omega arith) in
          let from = zero_position new at in
          let to = zero_position old at in
          let w = zero_at_monotone o b top r s to j.small j.large u in
          let v = zero_at_monotone o b top r s from j.small j.large t in
          zero_put o b all top to r s ((zero_lattice l).join (zero_at l n r to) (zero_at l n r from)) ((zero_lattice l).join (zero_at l n s to) (zero_at l n s from)) u j
          (o.join_least (zero_at l n r to).at (zero_at l n r from).at (l.join (zero_at l n s to).at (zero_at l n s from).at)
          (o.transitive (zero_at l n r to).at (zero_at l n s to).at (l.join (zero_at l n s to).at (zero_at l n s from).at) w (o.join_left (zero_at l n s to).at (zero_at l n s from).at))
          (o.transitive (zero_at l n r from).at (zero_at l n s from).at (l.join (zero_at l n s to).at (zero_at l n s from).at) v (o.join_right (zero_at l n s to).at (zero_at l n s from).at)))
          (o.join_least (zero_at l n s to).at (zero_at l n s from).at (top_zero n).at (zero_at_top o b top r s to j.small j.large u) (zero_at_top o b top r s from j.small j.large t))

      zeros_joined : (r s : List (Cell I)) → RowsBelow l top r s → RowsBelow l top (join_zeros l n new old r) (join_zeros l n new old s)
      unfolding join_zeros join_part
      zeros_joined r s j = turns_pair (RowsBelow l top) (join_part l n new old) (join_part l n new old) (length new.shape.zeros) (λ at x y h i. zero_joined at h x y i) (length new.shape.zeros) r s (omega arith) j

      state_joined : (r s : List (Cell I)) → RowsBelow l top r s → RowsBelow l top (join_state l n new old r) (join_state l n new old s)
      unfolding join_state
      state_joined r s j =
          let t = p.state place.new_heap in
          let u = q.state place.old_heap in
          let from = state_position new in
          let to = state_position old in
          let x = state_at l n s to in
          let y = state_at l n s from in
          state_put to r s ((state_lattice l).join (state_at l n r to) (state_at l n r from)) ((state_lattice l).join x y) u j
          ((state_order o).join_least (state_at l n r to) (state_at l n r from) ((state_lattice l).join x y)
          ((state_order o).transitive (state_at l n r to) x ((state_lattice l).join x y) (state_at_monotone o b top r s to j u) ((state_order o).join_left x y))
          ((state_order o).transitive (state_at l n r from) y ((state_lattice l).join x y) (state_at_monotone o b top r s from j t) ((state_order o).join_right x y)))
          ((state_order o).join_least x y (top_state n) (state_at_top o b top r s to j u) (state_at_top o b top r s from j t))

      pub base_joined : (r s : List (Cell I)) → RowsBelow l top r s → RowsBelow l top (join_base l n new old r) (join_base l n new old s)
      unfolding join_base
      base_joined r s j = state_joined (join_zeros l n new old (join_values l n new old r)) (join_zeros l n new old (join_values l n new old s))
          (zeros_joined (join_values l n new old r) (join_values l n new old s) (values_joined r s j))

    -- ---- the fresh instance

    module _ (f : RangeLaws l n) (g : MonotoneLaws l n) (m : Model) (bases : List BaseInfo) (each : EachFrom (λ base number. IsPlaced n all top base) 0 bases) (new : BaseInfo) (p : IsPlaced n all top new) (heap : new.shape.heap ≡ true) (fresh more : Fresh I) (h : FreshBelow l fresh more) where
      cell_fresh : (class : Class) (signed : Bool) (i : ℕ) → cell_at top i ≡ Value (top_value n all) → (r s : List (Cell I)) → RowsBelow l top r s → RowsBelow l top (fresh_cell l n m bases fresh (record { class = class; signed = signed }) i r) (fresh_cell l n m bases more (record { class = class; signed = signed }) i s)
      unfolding fresh_cell
      cell_fresh class signed i e r s j =
          let w = fresh_own o b all f g m top r s j class signed bases each fresh more h in
          value_put o b all top i r s (fresh_value l n m bases fresh (record { class = class; signed = signed }) r) (fresh_value l n m bases more (record { class = class; signed = signed }) s) e j w.small w.large

      values_fresh : (r s : List (Cell I)) → RowsBelow l top r s → RowsBelow l top (fresh_values l n m bases new fresh r) (fresh_values l n m bases new more s)
      unfolding fresh_values fresh_classes fresh_leaves
      values_fresh r s j =
          let leaves = walk_pair (λ leaf at. at < length new.shape.cells) (RowsBelow l top) (fresh_leaf l n m bases new fresh) (fresh_leaf l n m bases new more)
          (λ leaf at x y e i. cell_fresh leaf.class leaf.signed (leaf_position new at) (p.leaf at e) x y i)
          0 new.shape.cells r s (numbers_below (length new.shape.cells) 0 new.shape.cells (omega arith)) j in
          turns_pair (RowsBelow l top) (fresh_class l n m bases new fresh) (fresh_class l n m bases new more) 6
          (λ at x y e i. cell_fresh (class_at at) true (class_position new at) (p.class at heap e) x y i)
          6 (fresh_leaves l n m bases new fresh r) (fresh_leaves l n m bases new more s) (omega arith) leaves

      module _ (x y : I) (k : l.leq x y ≡ true) (t : l.leq y (n.between (pos 0) the_end) ≡ true) where
        instance_made : (a c : ℤ) → c ≤ℤ a → (r s : List (Cell I)) → RowsBelow l top r s → RowsBelow l top (make_instance l n m bases new x fresh a r) (make_instance l n m bases new y more c s)
        unfolding make_instance
        instance_made a c u r s j = state_put (state_position new)
            (set_zeros new (fresh_zero l n fresh a) (fresh_values l n m bases new fresh r)) (set_zeros new (fresh_zero l n more c) (fresh_values l n m bases new more s))
            (record { size = x; live = true; freed = false }) (record { size = y; live = true; freed = false }) (p.state heap)
            (zeros_pair o b all top new p (fresh_zero l n fresh a) (fresh_zero l n more c) (fresh_zero_monotone o b fresh more h a c u) (fresh_zero_top o b more c)
            (fresh_values l n m bases new fresh r) (fresh_values l n m bases new more s) (values_fresh r s j))
            (and_from _ _ k refl) (and_from _ _ t refl)

        made_at : length top < 2 ^ 64 → (u v : Range) → RangeBelow u v → (r s : List (Cell I)) → RowsBelow l top r s → RowsBelow l top (make_of l n m bases new x fresh u r) (make_of l n m bases new y more v s)
        made_at short None None i r s j = both_nothing o b all top new p heap r s j
        made_at short None (Some v) i r s j = nothing_made o b all top new p heap f g m bases each fresh more h short y t v.0 r s j
        made_at short (Some u) None i r s j = absurd i
        made_at short (Some u) (Some v) i r s j = instance_made u.0 v.0 i.0 r s j

        fresh_made : length top < 2 ^ 64 → (r s : List (Cell I)) → RowsBelow l top r s → RowsBelow l top (make_fresh l n m bases new x fresh r) (make_fresh l n m bases new y more s)
        unfolding make_fresh
        fresh_made short r s j = made_at short (n.bounds x) (n.bounds y) (bounds_monotone b x y k) r s j

    -- ---- the old instances, perhaps freed

    module _ (bases : List BaseInfo) (each : EachFrom (λ base number. IsPlaced n all top base) 0 bases) where
      perhaps_freed : (set others : Bases) → bases_within set others ≡ true → (r s : List (Cell I)) → RowsBelow l top r s → RowsBelow l top (free_bases l n bases set false r) (free_bases l n bases others false s)
      unfolding free_bases free_base_if
      perhaps_freed set others h r s j = walk_pair (λ base number. IsPlaced n all top base) (RowsBelow l top) (free_base l n set false) (free_base l n others false)
          (λ base number x y c i. at_heap base number x y c i base.shape.heap refl) 0 bases r s each j
        where
          at_heap : (base : BaseInfo) (number : ℕ) (x y : List (Cell I)) → IsPlaced n all top base → RowsBelow l top x y → (heap : Bool) → base.shape.heap ≡ heap → RowsBelow l top (free_base l n set false base number x) (free_base l n others false base number y)
          at_heap base number x y c i true e = free_pair o b top x y (state_position base) i (c.state e) (has_base set number && base.shape.heap) (has_base others number && base.shape.heap) false false
              (λ z. let a = and_parts (has_base set number) base.shape.heap z in and_from (has_base others number) base.shape.heap (has_monotone set others number h a.0) a.1)
              (λ z w. absurd (cc))
          at_heap base number x y c i false e = off o b (has_base set number && base.shape.heap) (has_base others number && base.shape.heap) _ _ (and_right (has_base set number) base.shape.heap e) (and_right (has_base others number) base.shape.heap e) x y i

      old_freed : (fresh more : Fresh I) → FreshBelow l fresh more → (r s : List (Cell I)) → RowsBelow l top r s → RowsBelow l top (free_old l n bases fresh r) (free_old l n bases more s)
      unfolding free_old
      old_freed Blank Blank h r s j = j
      old_freed Blank Zero h r s j = absurd h
      old_freed Blank (Old q) h r s j = absurd h
      old_freed Zero Blank h r s j = absurd h
      old_freed Zero Zero h r s j = j
      old_freed Zero (Old q) h r s j = absurd h
      old_freed (Old p) Blank h r s j = absurd h
      old_freed (Old p) Zero h r s j = absurd h
      old_freed (Old p) (Old q) h r s j = perhaps_freed p.bases q.bases (pointer_parts l p q h).bases r s j

    -- ---- the call

    module _ (f : RangeLaws l n) (g : MonotoneLaws l n) (m : Model) (bases : List BaseInfo) (each : EachFrom (λ base number. IsPlaced n all top base) 0 bases) (x y : I) (k : l.leq x y ≡ true) (t : l.leq y (n.between (pos 0) the_end) ≡ true) (fresh more : Fresh I) (short : length top < 2 ^ 64) where
      all_replaced : (new : BaseInfo) → IsPlaced n all top new → new.shape.heap ≡ true → FreshBelow l fresh more → (r s : List (Cell I)) → RowsBelow l top r s → RowsBelow l top (replaced l n m bases new x fresh r) (replaced l n m bases new y more s)
      unfolding replaced
      all_replaced new p heap h r s j = old_freed bases each fresh more h (make_fresh l n m bases new x fresh r) (make_fresh l n m bases new y more s) (fresh_made f g m bases each new p heap fresh more h x y k t short r s j)

    module _ (f : RangeLaws l n) (g : MonotoneLaws l n) (m : Model) (bases : List BaseInfo) (each : EachFrom (λ base number. IsPlaced n all top base) 0 bases) (greatest : AreGreatest n all top) (newest older : ℕ) (has : bases_has all older ≡ true) (short : length top < 2 ^ 64) where
      -- over the two bases that the numbers name
      pub renew_monotone : ((new old : BaseInfo) → slice_get bases newest ≡ Some new → slice_get bases older ≡ Some old → IsSite new old) → (r s : List (Cell I)) → RowsBelow l top r s → AreConsistent n r
          → (x y : I) → l.leq x y ≡ true → l.leq y (n.between (pos 0) the_end) ≡ true → (fresh more : Fresh I) → IsFreshOfWords fresh → FreshBelow l fresh more
          → RowsBelow l top (renew l n m bases newest older x fresh r) (renew l n m bases newest older y more s)
      unfolding renew renew_site
      renew_monotone places r s j c x y k t fresh more w h = by_found (slice_get bases newest) (slice_get bases older) refl refl
        where
          by_found : (new old : Option BaseInfo) → slice_get bases newest ≡ new → slice_get bases older ≡ old → RowsBelow l top (renew_found l n m bases (site_of newest older) x fresh new old r) (renew_found l n m bases (site_of newest older) y more new old s)
          by_found None old u v = j
          by_found (Some new) None u v = j
          by_found (Some new) (Some old) u v =
              let place = places new old u v in
              let p = each_get (λ base number. IsPlaced n all top base) 0 newest bases new each u in
              let q = each_get (λ base number. IsPlaced n all top base) 0 older bases old each v in
              let named = renamed_row all newest older has top r s greatest c j in
              all_replaced f g m bases each x y k t (renamed_fresh (site_of newest older) fresh) (renamed_fresh (site_of newest older) more) short new p place.new_heap (renamed_below newest older fresh more w h)
              (join_base l n new old (map (renamed_cell (site_of newest older)) r)) (join_base l n new old (map (renamed_cell (site_of newest older)) s))
              (base_joined new old p q place (map (renamed_cell (site_of newest older)) r) (map (renamed_cell (site_of newest older)) s) named)
