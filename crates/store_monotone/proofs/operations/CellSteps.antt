-- Writes to one cell of two rows in order.
use Rattle.std.specs.Prelude.{◌≡◌, ℕ, ℤ, Bool, true, false, cond, List, set, refl}
use Rattle.std.proofs.Common.{sym, subst}
use Rattle.cc_base.specs.Lattices.{LatticeOf, OrderLaws}
use Rattle.cc_base.specs.IntegerDomains.{IntegersOf, BoundLaws}
use Rattle.pointer_domain.specs.declared.base_sets.Bases.{Bases}
use Rattle.value_domain.specs.declared.values.values.Value as values
use Rattle.value_domain.specs.declared.values.row_cells.Cell.{Cell}
use Rattle.value_domain.specs.declared.values.row_cells.Cell.TheVariants.{Nothing, Value}
use Rattle.value_domain.specs.Values.Values.{value_lattice, value_order}
use Rattle.value_domain.specs.Values.Cells.{cell_lattice, cell_leq, cell_order}
use Rattle.store_cells.specs.RowPositions.{cell_at, value_at, put_value, join_value, write_value}
use Rattle.store_monotone.proofs.operations.Rows.{set_monotone, set_above, set_below}
use Rattle.store_monotone.specs.Operations.RowsBelow.{RowsBelow}
use Rattle.store_monotone.specs.Operations.TopCells.{top_value}
use Rattle.store_monotone.proofs.operations.NearCells.{value_at_monotone, value_at_top, cell_below_at}

module _ {I : Type 0} {l : LatticeOf I} {n : IntegersOf I} {stands : I → ℤ → Type 0} (o : OrderLaws l) (b : BoundLaws l n stands) (all : Bases) (top : List (Cell I)) (i : ℕ) where
  pub put_pair : (r s : List (Cell I)) (x y : Cell I) → RowsBelow l top r s → cell_leq l x y ≡ true → cell_leq l y (cell_at top i) ≡ true → RowsBelow l top (set r i x) (set s i y)
  put_pair r s x y h j k = record { small = set_monotone (cell_lattice l) r s i x y h.small j; large = set_below (cell_lattice l) s top i Nothing y h.large k }

  -- a join alone
  pub put_above : (r s : List (Cell I)) (y : Cell I) → RowsBelow l top r s → cell_leq l (cell_at r i) y ≡ true → cell_leq l y (cell_at top i) ≡ true → RowsBelow l top r (set s i y)
  put_above r s y h j k = record { small = set_above (cell_lattice l) r s i Nothing y h.small j; large = set_below (cell_lattice l) s top i Nothing y h.large k }

  module _ (e : cell_at top i ≡ Value (top_value n all)) (r s : List (Cell I)) (x y : values.Value I) (h : RowsBelow l top r s) (j : (value_lattice l).leq x y ≡ true) (k : (value_lattice l).leq y (top_value n all) ≡ true) where
    cell_top : (v : values.Value I) → (value_lattice l).leq v (top_value n all) ≡ true → cell_leq l (Value v) (cell_at top i) ≡ true
    cell_top v t = subst (λ c. cell_leq l (Value v) c ≡ true) (sym e) t

    joined_top : (value_lattice l).leq ((value_lattice l).join (value_at l n s i) y) (top_value n all) ≡ true
    joined_top = (value_order o).join_least (value_at l n s i) y (top_value n all) (value_at_top o b all top r s i h.small h.large e) k

    pub strong_pair : RowsBelow l top (put_value r i x) (put_value s i y)
    strong_pair = put_pair r s (Value x) (Value y) h j (cell_top y k)

    pub join_pair : RowsBelow l top (join_value l n r i x) (join_value l n s i y)
    unfolding join_value
    join_pair = put_pair r s (Value ((value_lattice l).join (value_at l n r i) x)) (Value ((value_lattice l).join (value_at l n s i) y)) h
        ((value_order o).join_least (value_at l n r i) x ((value_lattice l).join (value_at l n s i) y) ((value_order o).transitive (value_at l n r i) (value_at l n s i) ((value_lattice l).join (value_at l n s i) y) (value_at_monotone o b all top r s i h.small h.large e) ((value_order o).join_left (value_at l n s i) y))
        ((value_order o).transitive x y ((value_lattice l).join (value_at l n s i) y) j ((value_order o).join_right (value_at l n s i) y)))
        (cell_top ((value_lattice l).join (value_at l n s i) y) joined_top)

    -- strong below joined
    pub strong_join_pair : RowsBelow l top (put_value r i x) (join_value l n s i y)
    unfolding join_value
    strong_join_pair = put_pair r s (Value x) (Value ((value_lattice l).join (value_at l n s i) y)) h ((value_order o).transitive x y ((value_lattice l).join (value_at l n s i) y) j ((value_order o).join_right (value_at l n s i) y)) (cell_top ((value_lattice l).join (value_at l n s i) y) joined_top)

    -- nothing below joined
    pub join_above : RowsBelow l top r (join_value l n s i y)
    unfolding join_value
    join_above = put_above r s (Value ((value_lattice l).join (value_at l n s i) y)) h
        ((cell_order o).transitive (cell_at r i) (Value (value_at l n s i)) (Value ((value_lattice l).join (value_at l n s i) y)) (cell_below_at o b all top r s i h.small h.large e) ((value_order o).join_left (value_at l n s i) y))
        (cell_top ((value_lattice l).join (value_at l n s i) y) joined_top)

    -- a write where the larger one writes too; where that is strong, the smaller one is the same and strong
    pub write_pair : (a c : Bool) → (c ≡ true → a ≡ true) → RowsBelow l top (write_value l n r i x a) (write_value l n s i y c)
    unfolding write_value
    write_pair true true m = strong_pair
    write_pair true false m = strong_join_pair
    write_pair false true m = absurd (let t : false ≡ true = m refl in cc)
    write_pair false false m = join_pair

    pub write_if_pair : (p q a c : Bool) → (p ≡ true → q ≡ true) → (q ≡ true → c ≡ true → (p ≡ true) × (a ≡ true)) → RowsBelow l top (cond p (write_value l n r i x a) r) (cond q (write_value l n s i y c) s)
    unfolding write_value
    write_if_pair false false a c m u = h
    write_if_pair true false a c m u = absurd (let t : false ≡ true = m refl in cc)
    write_if_pair true true a c m u = write_pair a c (λ t. (u refl t).1)
    write_if_pair false true a true m u = absurd (let t : false ≡ true = (u refl refl).0 in cc)
    write_if_pair false true a false m u = join_above

    pub join_if_pair : (p q : Bool) → (p ≡ true → q ≡ true) → RowsBelow l top (cond p (join_value l n r i x) r) (cond q (join_value l n s i y) s)
    join_if_pair false false m = h
    join_if_pair true false m = absurd (let t : false ≡ true = m refl in cc)
    join_if_pair true true m = join_pair
    join_if_pair false true m = join_above

    -- the same where the first write may be left out
    pub write_step : (on p q a c : Bool) → (p ≡ true → q ≡ true) → (q ≡ true → c ≡ true → (on ≡ true) × (p ≡ true) × (a ≡ true)) → RowsBelow l top (cond on (cond p (write_value l n r i x a) r) r) (cond q (write_value l n s i y c) s)
    write_step true p q a c m u = write_if_pair p q a c m (λ e f. let v = u e f in (v.1, v.2))
    write_step false p q a c m u = write_if_pair false q a c (λ e. absurd (cc)) (λ e f. absurd (let v : false ≡ true = (u e f).0 in cc))

    pub join_step : (on p q : Bool) → (p ≡ true → q ≡ true) → RowsBelow l top (cond on (cond p (join_value l n r i x) r) r) (cond q (join_value l n s i y) s)
    join_step true p q m = join_if_pair p q m
    join_step false p q m = join_if_pair false q (λ e. absurd (cc))
