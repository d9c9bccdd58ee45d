-- Freeing through larger pointers in larger rows leaves larger rows; objects forgotten and cleared.
use Rattle.std.specs.Prelude.{◌≡◌, ℕ, ◌==◌, ℤ, Bool, true, false, cond, not, ◌&&◌, List, refl}
use Rattle.std.proofs.Common.{sym, subst, subst₂, inl, inr}
use Rattle.std.proofs.lemmas.Bool.{and_from, and_parts, or_cases, eqb-true, not-true, and_right}
use Rattle.cc_base.specs.Lattices.{LatticeOf, OrderLaws}
use Rattle.cc_base.specs.LatticeParts.{flag_leq, flag_order}
use Rattle.cc_base.specs.IntegerDomains.{IntegersOf, BoundLaws}
use Rattle.c_layout.specs.declared.shapes.BaseInfo.{BaseInfo}
use Rattle.pointer_domain.specs.declared.base_sets.Bases.{Bases}
use Rattle.pointer_domain.specs.BaseSets.{no_base, bases_within, bases_count, bases_empty}
use Rattle.pointer_domain.specs.PointerTables.{is_any}
use Rattle.pointer_domain.specs.declared.pointer_sets.Pointers.{Pointers}
use Rattle.value_domain.specs.declared.values.alloc_states.AllocState.{AllocState}
use Rattle.value_domain.specs.Values.AllocStates.{state_lattice, state_order}
use Rattle.value_domain.specs.declared.values.row_cells.Cell.{Cell}
use Rattle.value_domain.specs.declared.values.row_cells.Cell.TheVariants.{Nothing, Value, First, State, Mixed}
use Rattle.value_domain.specs.Values.Cells.{cell_leq, cell_order}
use Rattle.store_cells.specs.RowPositions.{cell_at, state_in, state_at, state_position, put_state}
use Rattle.store_objects.specs.LiveBases.{has_base, is_one_instance, single_bases}
use Rattle.store_objects.specs.Freeing.{freed_state, free_base_if, free_base, free_bases, free}
use Rattle.store_monotone.specs.Operations.Placements.{EachFrom, IsPlaced}
use Rattle.store_monotone.proofs.operations.PairedSteps.{walk_pair}
use Rattle.store_monotone.proofs.operations.Rows.{at_monotone}
use Rattle.domain_theorems.proofs.values.Parts.{PointersBelow}
use Rattle.domain_theorems.proofs.values.Flags.{flag_sets, not_sets}
use Rattle.store_monotone.proofs.operations.LiveSets.{has_monotone}
use Rattle.store_monotone.specs.Operations.TopCells.{top_number, top_state}
use Rattle.store_monotone.proofs.operations.NearCells.{near_is}
use Rattle.store_monotone.proofs.operations.FirstZeros.{zero_near}
use Rattle.store_monotone.specs.Operations.RowsBelow.{RowsBelow}
use Rattle.store_monotone.proofs.operations.CellSteps.{put_pair, put_above}
use Rattle.domain_theorems.proofs.values.Bases.{one_base, no_count}

module _ {I : Type 0} (l : LatticeOf I) where
  pub record StateBelow (s t : AllocState I) : Type 0 where
    pub size : l.leq s.size t.size ≡ true
    pub live : flag_leq s.live t.live ≡ true
    pub freed : flag_leq s.freed t.freed ≡ true

  state_parts_of : (s t : AllocState I) → (state_lattice l).leq s t ≡ true → StateBelow s t
  state_parts_of s t h = let a = and_parts (l.leq s.size t.size) (flag_leq s.live t.live && flag_leq s.freed t.freed) h in let c = and_parts (flag_leq s.live t.live) (flag_leq s.freed t.freed) a.1 in record { size = a.0; live = c.0; freed = c.1 }

  state_leq : (s t : AllocState I) → StateBelow s t → (state_lattice l).leq s t ≡ true
  state_leq s t p = and_from _ _ p.size (and_from _ _ p.live p.freed)

module _ {I : Type 0} {l : LatticeOf I} {n : IntegersOf I} {stands : I → ℤ → Type 0} (o : OrderLaws l) (b : BoundLaws l n stands) where
  state_in_monotone : (t : AllocState I) (x y : Cell I) → cell_leq l x y ≡ true → cell_leq l y (State t) ≡ true → (state_lattice l).leq (state_in l x) (state_in l y) ≡ true
  state_in_monotone t Nothing y h k = (state_order o).least_below (state_in l y)
  state_in_monotone t x (Value f) h k = cc
  state_in_monotone t x (First s) h k = cc
  state_in_monotone t x Mixed h k = cc
  state_in_monotone t (State v) Nothing h k = cc
  state_in_monotone t (State v) (State w) h k = h
  state_in_monotone t (Value v) Nothing h k = cc
  state_in_monotone t (Value v) (State w) h k = cc
  state_in_monotone t (First v) Nothing h k = cc
  state_in_monotone t (First v) (State w) h k = cc
  state_in_monotone t Mixed Nothing h k = cc
  state_in_monotone t Mixed (State w) h k = cc

  state_in_below : (t : AllocState I) (y : Cell I) → cell_leq l y (State t) ≡ true → (state_lattice l).leq (state_in l y) t ≡ true
  state_in_below t Nothing k = (state_order o).least_below t
  state_in_below t (State w) k = k
  state_in_below t (Value f) k = cc
  state_in_below t (First s) k = cc
  state_in_below t Mixed k = cc

  cell_below_state : (t : AllocState I) (x y : Cell I) → cell_leq l x y ≡ true → cell_leq l y (State t) ≡ true → cell_leq l x (State (state_in l y)) ≡ true
  cell_below_state t Nothing y h k = refl
  cell_below_state t x (State w) h k = h
  cell_below_state t (Value v) Nothing h k = cc
  cell_below_state t (First v) Nothing h k = cc
  cell_below_state t (State v) Nothing h k = cc
  cell_below_state t Mixed Nothing h k = cc
  cell_below_state t x (Value f) h k = cc
  cell_below_state t x (First s) h k = cc
  cell_below_state t x Mixed h k = cc

  module _ (top r s : List (Cell I)) (i : ℕ) (h : RowsBelow l top r s) (e : cell_at top i ≡ State (top_state n)) where
    under : cell_leq l (cell_at s i) (State (top_state n)) ≡ true
    under = subst (λ c. cell_leq l (cell_at s i) c ≡ true) e (at_monotone l s top i h.large)

    in_top : (state_lattice l).leq (state_in l (cell_at s i)) (top_state n) ≡ true
    in_top = state_in_below (top_state n) (cell_at s i) under

    state_at_is : state_at l n s i ≡ state_in l (cell_at s i)
    unfolding state_at
    state_at_is = let v = state_in l (cell_at s i) in let a = near_is o b v.size (o.transitive v.size (top_state n).size (top_number n) (state_parts_of l v (top_state n) in_top).size (zero_near o b)) in λ j. record v { size = a j }

    small_under : cell_leq l (cell_at r i) (State (top_state n)) ≡ true
    small_under = (cell_order o).transitive (cell_at r i) (cell_at s i) (State (top_state n)) (at_monotone l r s i h.small) under

    small_is : state_at l n r i ≡ state_in l (cell_at r i)
    unfolding state_at
    small_is = let v = state_in l (cell_at r i) in let a = near_is o b v.size (o.transitive v.size (top_state n).size (top_number n) (state_parts_of l v (top_state n) (state_in_below (top_state n) (cell_at r i) small_under)).size (zero_near o b)) in λ j. record v { size = a j }

    pub state_at_monotone : (state_lattice l).leq (state_at l n r i) (state_at l n s i) ≡ true
    state_at_monotone = subst₂ (λ v w. (state_lattice l).leq v w ≡ true) (sym small_is) (sym state_at_is) (state_in_monotone (top_state n) (cell_at r i) (cell_at s i) (at_monotone l r s i h.small) under)

    pub state_at_top : (state_lattice l).leq (state_at l n s i) (top_state n) ≡ true
    state_at_top = subst (λ v. (state_lattice l).leq v (top_state n) ≡ true) (sym state_at_is) in_top

    pub state_below_at : cell_leq l (cell_at r i) (State (state_at l n s i)) ≡ true
    state_below_at = subst (λ v. cell_leq l (cell_at r i) (State v) ≡ true) (sym state_at_is) (cell_below_state (top_state n) (cell_at r i) (cell_at s i) (at_monotone l r s i h.small) under)

    freed_top : (surely : Bool) (v : AllocState I) → (state_lattice l).leq v (top_state n) ≡ true → cell_leq l (State (freed_state surely v)) (cell_at top i) ≡ true
    freed_top surely v k = let p = state_parts_of l v (top_state n) k in subst (λ c. cell_leq l (State (freed_state surely v)) c ≡ true) (sym e) (state_leq l (freed_state surely v) (top_state n) (record { size = p.size; live = always (not surely && v.live); freed = refl }))
      where
        always : (a : Bool) → flag_leq a true ≡ true
        always true = refl
        always false = refl

    freed_below : (a c : Bool) → (c ≡ true → a ≡ true) → (v w : AllocState I) → (state_lattice l).leq v w ≡ true → (state_lattice l).leq (freed_state a v) (freed_state c w) ≡ true
    freed_below a c k v w j = let p = state_parts_of l v w j in state_leq l (freed_state a v) (freed_state c w) (record { size = p.size; live = lives a c v.live w.live k p.live; freed = refl })
      where
        lives : (a c x y : Bool) → (c ≡ true → a ≡ true) → flag_leq x y ≡ true → flag_leq (not a && x) (not c && y) ≡ true
        lives true c x y k j = refl
        lives false false x y k j = j
        lives false true x y k j = absurd (let e : false ≡ true = k refl in cc)

    kept_below : (w : AllocState I) → (state_lattice l).leq w (freed_state false w) ≡ true
    kept_below w = state_leq l w (freed_state false w) (record { size = o.reflexive w.size; live = flag_order.reflexive w.live; freed = any w.freed })
      where
        any : (a : Bool) → flag_leq a true ≡ true
        any true = refl
        any false = refl

    -- where the larger one is surely freed, so is the smaller one
    pub free_pair : (p q a c : Bool) → (p ≡ true → q ≡ true) → (q ≡ true → c ≡ true → (p ≡ true) × (a ≡ true)) → RowsBelow l top (cond p (put_state r i (freed_state a (state_at l n r i))) r) (cond q (put_state s i (freed_state c (state_at l n s i))) s)
    free_pair false false a c m u = h
    free_pair true false a c m u = absurd (let t : false ≡ true = m refl in cc)
    free_pair true true a c m u = put_pair o b no_base top i r s (State (freed_state a (state_at l n r i))) (State (freed_state c (state_at l n s i))) h (freed_below a c (λ t. (u refl t).1) (state_at l n r i) (state_at l n s i) state_at_monotone) (freed_top c (state_at l n s i) state_at_top)
    free_pair false true a true m u = absurd (let t : false ≡ true = (u refl refl).0 in cc)
    free_pair false true a false m u = put_above o b no_base top i r s (State (freed_state false (state_at l n s i))) h ((cell_order o).transitive (cell_at r i) (State (state_at l n s i)) (State (freed_state false (state_at l n s i))) state_below_at (kept_below (state_at l n s i))) (freed_top false (state_at l n s i) state_at_top)

  -- a base is there, where something is and the larger one has no null
  has_some : (p q : Pointers I) → PointersBelow l p q → is_any p ≡ true → q.null ≡ false → bases_empty p.bases ≡ false
  has_some p q h e f = elim (or_cases (not (bases_empty p.bases)) p.null e) [ inl g ↦ not-true (bases_empty p.bases) g | inr g ↦ absurd (let k = flag_sets p.null q.null h.null g in cc) ]

  pub off : {top : List (Cell I)} (a c : Bool) (x y : List (Cell I)) → a ≡ false → c ≡ false → (s t : List (Cell I)) → RowsBelow l top s t → RowsBelow l top (cond a x s) (cond c y t)
  off false false x y e f s t j = j
  off true c x y e f s t j = absurd (cc)
  off false true x y e f s t j = absurd (cc)

  -- freeing, through pointers that are there
  pub free_monotone : (all : Bases) (top : List (Cell I)) (bases : List BaseInfo) → EachFrom (λ base number. IsPlaced n all top base) 0 bases → (r s : List (Cell I)) → RowsBelow l top r s → (p q : Pointers I) → PointersBelow l p q → is_any p ≡ true → RowsBelow l top (free l n bases p r) (free l n bases q s)
  unfolding free free_bases free_base_if
  free_monotone all top bases each r s h p q k x =
      let few = is_one_instance bases p.bases && not p.null in
      let many = is_one_instance bases q.bases && not q.null in
      let same : many ≡ true → p.bases ≡ q.bases = λ (e : many ≡ true).
      let a = and_parts (is_one_instance bases q.bases) (not q.null) e in
      let c = and_parts (bases_count q.bases == 1) (bases_within q.bases (single_bases bases)) a.0 in
      one_base p.bases q.bases k.bases (λ (z : bases_count p.bases ≡ 0). (let y = no_count p.bases z in let w = has_some p q k x (not-true q.null a.1) in cc)) (eqb-true (bases_count q.bases) 1 c.0) in
      let sure : many ≡ true → few ≡ true = λ (e : many ≡ true).
      let a = and_parts (is_one_instance bases q.bases) (not q.null) e in
      and_from (is_one_instance bases p.bases) (not p.null) (subst (λ t. is_one_instance bases t ≡ true) (sym (same e)) a.0) (not_sets q.null p.null (flag_sets p.null q.null k.null) a.1) in
      walk_pair (λ base number. IsPlaced n all top base) (RowsBelow l top) (free_base l n p.bases few) (free_base l n q.bases many)
      (λ base number s t c j. at_heap base number s t c j base.shape.heap refl few many same sure)
      0 bases r s each h
    where
      at_heap : (base : BaseInfo) (number : ℕ) (s t : List (Cell I)) → IsPlaced n all top base → RowsBelow l top s t → (heap : Bool) → base.shape.heap ≡ heap → (few many : Bool) → (many ≡ true → p.bases ≡ q.bases) → (many ≡ true → few ≡ true) → RowsBelow l top (free_base l n p.bases few base number s) (free_base l n q.bases many base number t)
      at_heap base number s t c j true e few many same sure = free_pair top s t (state_position base) j (c.state e) (has_base p.bases number && base.shape.heap) (has_base q.bases number && base.shape.heap) few many
          (λ z. let a = and_parts (has_base p.bases number) base.shape.heap z in and_from (has_base q.bases number) base.shape.heap (has_monotone p.bases q.bases number k.bases a.0) a.1)
          (λ z y. (subst (λ u. (has_base u number && base.shape.heap) ≡ true) (sym (same y)) z, sure y))
      at_heap base number s t c j false e few many same sure = off (has_base p.bases number && base.shape.heap) (has_base q.bases number && base.shape.heap) _ _ (and_right (has_base p.bases number) base.shape.heap e) (and_right (has_base q.bases number) base.shape.heap e) s t j
