-- No instance in the place of the newest one is below a fresh one: the cells of both are written side by side.
use Rattle.std.specs.Prelude.{◌≡◌, ℕ, zero, suc, ◌+◌, ◌^◌, ◌<◌, ◌≤◌, ℤ, pos, Bool, true, false, cond, List, [], ◌∷◌, length, set, refl}
use Rattle.std.proofs.Common.{arith, ap, sym, subst}
use Rattle.std.proofs.lemmas.Bool.{and_from}
use Rattle.cc_base.specs.Lattices.{LatticeOf, OrderLaws}
use Rattle.cc_base.specs.IntegerDomains.{IntegersOf, BoundLaws, RangeLaws}
use Rattle.cc_base.specs.IntegerLaws.{MonotoneLaws}
use Rattle.c_layout.specs.declared.data_model.Model.{Model}
use Rattle.c_layout.specs.declared.leaf_lists.Class.{Class}
use Rattle.c_layout.specs.declared.shapes.BaseInfo.{BaseInfo}
use Rattle.pointer_domain.specs.declared.base_sets.Bases.{Bases}
use Rattle.value_domain.specs.Strings.FirstZeros.{the_end, zero_lattice}
use Rattle.value_domain.specs.declared.values.alloc_states.AllocState.{AllocState}
use Rattle.value_domain.specs.Values.AllocStates.{state_lattice, state_order}
use Rattle.value_domain.specs.declared.values.values.Value as values
use Rattle.value_domain.specs.declared.values.row_cells.Cell.{Cell}
use Rattle.value_domain.specs.declared.values.row_cells.Cell.TheVariants.{Value, State}
use Rattle.value_domain.specs.Values.Values.{value_lattice, value_order}
use Rattle.value_domain.specs.Values.Cells.{cell_leq}
use Rattle.store_objects.specs.declared.allocation.Fresh.{Fresh}
use Rattle.store_cells.specs.ClassNumbers.{class_at}
use Rattle.store_cells.specs.Walks.{walk, turns}
use Rattle.store_cells.specs.RowPositions.{capped, cell_at, leaf_position, class_position, state_position, value_count}
use Rattle.store_cells.specs.FirstZeroWrites.{set_zeros}
use Rattle.store_objects.specs.ObjectLives.{set_cell, set_values}
use Rattle.store_objects.specs.Allocations.{fresh_value, fresh_cell, fresh_leaf, fresh_leaves, fresh_class, fresh_classes, fresh_values, fresh_zero, make_instance, make_nothing}
use Rattle.store_monotone.specs.Operations.TopCells.{top_value, top_zero, top_state}
use Rattle.store_monotone.specs.Operations.Placements.{EachFrom, IsPlaced}
use Rattle.store_monotone.specs.Operations.RowsBelow.{RowsBelow}
use Rattle.store_monotone.specs.Operations.StoreLaws.{FreshBelow}
use Rattle.store_monotone.proofs.operations.PairedSteps.{numbers_below}
use Rattle.store_monotone.proofs.operations.CellSteps.{put_pair}
use Rattle.store_monotone.proofs.operations.OwnValues.{value_put, values_pair, zeros_pair}
use Rattle.store_monotone.proofs.operations.OldBytes.{fresh_own, fresh_zero_top}

-- ---- turns beside a walk

-- the first turn may be made first
turns_front : {S : Type 0} (f : ℕ → S → S) (count : ℕ) (s : S) → turns f (suc count) s ≡ turns (λ i. f (suc i)) count (f 0 s)
turns_front f zero s = refl
turns_front f (suc count) s = ap (f (suc count)) (turns_front f count s)

here : (at : ℕ) → at + 0 ≡ at
here at = omega arith

next : (at i : ℕ) → at + suc i ≡ (at + 1) + i
next at i = omega arith

from_zero : (at : ℕ) → at ≡ 0 + at
from_zero at = omega arith

turns_walk : {K S T : Type 0} (P : K → ℕ → Type 0) (R : S → T → Type 0) (g : K → ℕ → T → T) (at : ℕ) (f : ℕ → S → S) → ((k : K) (i : ℕ) (s : S) (t : T) → P k (at + i) → R s t → R (f i s) (g k (at + i) t))
    → (ks : List K) (s : S) (t : T) → EachFrom P at ks → R s t → R (turns f (length ks) s) (walk g at ks t)
turns_walk P R g at f step [] s t e r = r
turns_walk {K} {S} {T} P R g at f step (k ∷ ks) s t e r =
    subst (λ x. R x (walk g (at + 1) ks (g k at t))) (sym (turns_front f (length ks) s))
    (turns_walk P R g (at + 1) (λ i. f (suc i))
    (λ (c : K) (i : ℕ) (x : S) (y : T). subst (λ z. P c z → R x y → R (f (suc i) x) (g c z y)) (next at i) (step c (suc i) x y))
    ks (f 0 s) (g k at t) e.1 (subst (λ z. P k z → R s t → R (f 0 s) (g k z t)) (here at) (step k 0 s t) e.0 r))

-- more turns beside the turns from 0
turns_more : {S T : Type 0} (R : S → T → Type 0) (f : ℕ → S → S) (g : ℕ → T → T) (from most : ℕ) → ((at : ℕ) (s : S) (t : T) → at < most → R s t → R (f (at + from) s) (g at t))
    → (count total : ℕ) → total ≡ count + from → count ≤ most → (s : S) (t : T) → R (turns f from s) t → R (turns f total s) (turns g count t)
turns_more R f g from most step zero total e h s t r = let d : from ≡ total = omega arith in subst (λ c. R (turns f c s) t) d r
turns_more R f g from most step (suc count) zero e h s t r = absurd (omega arith)
turns_more R f g from most step (suc count) (suc total) e h s t r =
    let d : count + from ≡ total = omega arith in
    subst (λ c. R (f c (turns f total s)) (g count (turns g count t))) d
    (step count (turns f total s) (turns g count t) (omega arith) (turns_more R f g from most step count total (sym d) (omega arith) s t r))

-- a value of a row has a place in it
value_there : {I : Type 0} (row : List (Cell I)) (i : ℕ) (v : values.Value I) → cell_at row i ≡ Value v → i < length row
value_there [] i v e = cc
value_there (c ∷ cs) zero v e = omega arith
value_there (c ∷ cs) (suc i) v e = let k = value_there cs i v e in omega arith

with_classes : (base : BaseInfo) (heap : Bool) → heap ≡ true → (most : ℕ) → class_position base 5 < most → most < 2 ^ 64 → capped (length base.shape.cells + cond heap 6 0) ≡ 6 + length base.shape.cells
with_classes base true e most h k = omega arith
with_classes base false e most h k = absurd (cc)

-- ---- no instance

module _ {I : Type 0} {l : LatticeOf I} {n : IntegersOf I} {stands : I → ℤ → Type 0} (o : OrderLaws l) (b : BoundLaws l n stands) (all : Bases) (top : List (Cell I)) (new : BaseInfo) (p : IsPlaced n all top new) (heap : new.shape.heap ≡ true) where
  state_put : (r s : List (Cell I)) (x y : AllocState I) → RowsBelow l top r s → (state_lattice l).leq x y ≡ true → (state_lattice l).leq y (top_state n) ≡ true → RowsBelow l top (set r (state_position new) (State x)) (set s (state_position new) (State y))
  state_put r s x y j h k = put_pair o b all top (state_position new) r s (State x) (State y) j h (subst (λ c. cell_leq l (State y) c ≡ true) (sym (p.state heap)) k)

  -- no instance in both rows
  pub both_nothing : (r s : List (Cell I)) → RowsBelow l top r s → RowsBelow l top (make_nothing l new r) (make_nothing l new s)
  unfolding make_nothing
  both_nothing r s j =
      let none = (value_lattice l).least in
      let zero_none = (zero_lattice l).least in
      state_put (set_zeros new zero_none (set_values new none r)) (set_zeros new zero_none (set_values new none s)) ((state_lattice l).least) ((state_lattice l).least)
      (zeros_pair o b all top new p zero_none zero_none (o.reflexive l.least) (o.least_below (top_zero n).at) (set_values new none r) (set_values new none s)
      (values_pair o b all top new p none none ((value_order o).reflexive none) ((value_order o).least_below (top_value n all)) r s j))
      ((state_order o).reflexive ((state_lattice l).least)) ((state_order o).least_below (top_state n))

  module _ (f : RangeLaws l n) (g : MonotoneLaws l n) (m : Model) (bases : List BaseInfo) (each : EachFrom (λ base number. IsPlaced n all top base) 0 bases) (fresh more : Fresh I) (h : FreshBelow l fresh more) (short : length top < 2 ^ 64) where
    cell_pair : (class : Class) (signed : Bool) (i : ℕ) → cell_at top i ≡ Value (top_value n all) → (r s : List (Cell I)) → RowsBelow l top r s → RowsBelow l top (set r i (Value ((value_lattice l).least))) (fresh_cell l n m bases more (record { class = class; signed = signed }) i s)
    unfolding fresh_cell
    cell_pair class signed i e r s j =
        let w = fresh_own o b all f g m top r s j class signed bases each fresh more h in
        let v = fresh_value l n m bases more (record { class = class; signed = signed }) s in
        value_put o b all top i r s ((value_lattice l).least) v e j ((value_order o).least_below v) w.large

    class_pair : (at : ℕ) → at < 6 → (r s : List (Cell I)) → RowsBelow l top r s → RowsBelow l top (set_cell new ((value_lattice l).least) (at + length new.shape.cells) r) (fresh_class l n m bases new more at s)
    class_pair at e r s j =
        let same : class_position new at ≡ leaf_position new (at + length new.shape.cells) = omega arith in
        subst (λ i. RowsBelow l top (set r i (Value ((value_lattice l).least))) (fresh_class l n m bases new more at s)) same (cell_pair (class_at at) true (class_position new at) (p.class at heap e) r s j)

    leaves_pair : (r s : List (Cell I)) → RowsBelow l top r s → RowsBelow l top (turns (set_cell new ((value_lattice l).least)) (length new.shape.cells) r) (fresh_leaves l n m bases new more s)
    unfolding fresh_leaves
    leaves_pair r s j = turns_walk (λ leaf at. at < length new.shape.cells) (RowsBelow l top) (fresh_leaf l n m bases new more) 0 (set_cell new ((value_lattice l).least))
        (λ leaf at x y e i. subst (λ z. z < length new.shape.cells → RowsBelow l top (set_cell new ((value_lattice l).least) at x) (fresh_leaf l n m bases new more leaf z y)) (from_zero at)
        (λ d. cell_pair leaf.class leaf.signed (leaf_position new at) (p.leaf at d) x y i) e)
        new.shape.cells r s (numbers_below (length new.shape.cells) 0 new.shape.cells (omega arith)) j

    values_nothing : (r s : List (Cell I)) → RowsBelow l top r s → RowsBelow l top (set_values new ((value_lattice l).least) r) (fresh_values l n m bases new more s)
    unfolding set_values fresh_values fresh_classes
    values_nothing r s j = turns_more (RowsBelow l top) (set_cell new ((value_lattice l).least)) (fresh_class l n m bases new more) (length new.shape.cells) 6 (λ at x y e i. class_pair at e x y i)
        6 (value_count new) (with_classes new new.shape.heap heap (length top) (value_there top (class_position new 5) (top_value n all) (p.class 5 heap (omega arith))) short) (omega arith) r (fresh_leaves l n m bases new more s) (leaves_pair r s j)

    -- no instance below a fresh one
    pub nothing_made : (y : I) → l.leq y (n.between (pos 0) the_end) ≡ true → (c : ℤ) (r s : List (Cell I)) → RowsBelow l top r s → RowsBelow l top (make_nothing l new r) (make_instance l n m bases new y more c s)
    unfolding make_nothing make_instance
    nothing_made y t c r s j =
        let none = (zero_lattice l).least in
        let made : AllocState I = record { size = y; live = true; freed = false } in
        state_put (set_zeros new none (set_values new ((value_lattice l).least) r)) (set_zeros new (fresh_zero l n more c) (fresh_values l n m bases new more s)) ((state_lattice l).least) made
        (zeros_pair o b all top new p none (fresh_zero l n more c) (o.least_below (fresh_zero l n more c).at) (fresh_zero_top o b more c) (set_values new ((value_lattice l).least) r) (fresh_values l n m bases new more s) (values_nothing r s j))
        ((state_order o).least_below made) (and_from _ _ t refl)
