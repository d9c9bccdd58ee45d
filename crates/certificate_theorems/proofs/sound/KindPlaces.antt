-- The kinds of the cells of bases and of temporaries, by position.
use Rattle.std.specs.Prelude.{◌≡◌, ℕ, zero, suc, ◌+◌, ◌-◌, ◌^◌, ◌<◌, ◌≤◌, ◌&&◌, ◌==◌, Bool, true, false, cond, min, List, [], ◌∷◌, length, refl}
use Rattle.std.proofs.Common.{arith, ap, ◌∙◌}
use Rattle.std.proofs.lemmas.Bool.{and_parts, eqb-true}
use Rattle.c_layout.specs.declared.shapes.BaseInfo.{BaseInfo}
use Rattle.cfg.specs.BaseShapes.{is_extent}
use Rattle.cfg.specs.WellFormed.{are_placed, base_cells, base_values, all_values}
use Rattle.store_cells.specs.RowPositions.{leaf_position, class_position, zero_position, state_position}
use Rattle.store_monotone.specs.Operations.Placements.{EachFrom}
use Rattle.transfer_system.specs.declared.bounded_rows.cell_kinds.CellKind.{CellKind}
use Rattle.transfer_system.specs.declared.bounded_rows.cell_kinds.CellKind.TheVariants as kind
use Rattle.transfer_system.specs.BoundedRows.CellKinds.{before, state_before, values_of, run_before, all_kinds, first_kind, kinds_behind}

-- the kind of the cell at a position
abbrev pub kind_of_cell : List CellKind → ℕ → CellKind
kind_of_cell ks zero = first_kind ks
kind_of_cell ks (suc i) = kind_of_cell (kinds_behind ks) i

kind_among : (k : CellKind) (m : ℕ) (ks : List CellKind) (i : ℕ) → i < m → kind_of_cell (before k m ks) i ≡ k
kind_among k zero ks i h = absurd (omega arith)
kind_among k (suc m) ks zero h = refl
kind_among k (suc m) ks (suc i) h = kind_among k m ks i (omega arith)

kind_past : (k : CellKind) (m : ℕ) (ks : List CellKind) (i j : ℕ) → i ≡ m + j → kind_of_cell (before k m ks) i ≡ kind_of_cell ks j
kind_past k zero ks i j e = ap (kind_of_cell ks) (plain i j e)
  where
    plain : (i j : ℕ) → i ≡ 0 + j → i ≡ j
    plain i j e = omega arith
kind_past k (suc m) ks zero j e = absurd (omega arith)
kind_past k (suc m) ks (suc i) j e = kind_past k m ks i j (omega arith)

state_first : (state : Bool) (ks : List CellKind) → state ≡ true → kind_of_cell (state_before state ks) 0 ≡ kind.State
state_first true ks e = refl
state_first false ks e = absurd (cc)

state_past : (state : Bool) (ks : List CellKind) (i j : ℕ) → i ≡ cond state 1 0 + j → kind_of_cell (state_before state ks) i ≡ kind_of_cell ks j
state_past true ks i j e = kind_past kind.State 1 ks i j e
state_past false ks i j e = kind_past kind.State 0 ks i j e

-- the kinds of a base's cells stand at its positions
pub record HasKinds (ks : List CellKind) (base : BaseInfo) : Type 0 where
  pub leaf : (at : ℕ) → at < length base.shape.cells → kind_of_cell ks (leaf_position base at) ≡ kind.Value
  pub class : (at : ℕ) → base.shape.heap ≡ true → at < 6 → kind_of_cell ks (class_position base at) ≡ kind.Value
  pub zero : (at : ℕ) → at < length base.shape.zeros → kind_of_cell ks (zero_position base at) ≡ kind.First
  pub state : base.shape.heap ≡ true → kind_of_cell ks (state_position base) ≡ kind.State

values_are : (heap : Bool) (m : ℕ) → m + cond heap 6 0 < 2 ^ 64 → cond heap (min (m + 6) (2 ^ 64 - 1)) m ≡ m + cond heap 6 0
values_are true m h = omega arith
values_are false m h = omega arith

heap_cells : (base : BaseInfo) → base.shape.heap ≡ true → base_cells base ≡ length base.shape.cells + 6
heap_cells base h = ap (λ b. length base.shape.cells + cond b 6 0) h

heap_values : (base : BaseInfo) → base.shape.heap ≡ true → base_values base ≡ (base_cells base + length base.shape.zeros) + 1
heap_values base h = ap (λ b. (base_cells base + length base.shape.zeros) + cond b 1 0) h

-- a base whose cells begin at a position of all kinds
module _ (all behind : List CellKind) (base : BaseInfo) (small : base.first + base_values base < 2 ^ 64)
    (here : (i j : ℕ) → i ≡ base.first + j → kind_of_cell all i ≡ kind_of_cell (run_before (values_of base) (length base.shape.zeros) base.shape.heap behind) j) where
  values_is : values_of base ≡ base_cells base
  values_is = values_are base.shape.heap (length base.shape.cells) (omega (arith, small))

  value_there : (i j : ℕ) → i ≡ base.first + j → j < base_cells base → kind_of_cell all i ≡ kind.Value
  value_there i j e h = let v = values_is in here i j e ∙ kind_among kind.Value (values_of base) _ j (omega (arith, h, v))

  behind_values : (i j : ℕ) → i ≡ base.first + (base_cells base + j) → kind_of_cell all i ≡ kind_of_cell (before kind.First (length base.shape.zeros) (state_before base.shape.heap behind)) j
  behind_values i j e = let v = values_is in here i (base_cells base + j) e ∙ kind_past kind.Value (values_of base) _ (base_cells base + j) j (omega (arith, v))

  zero_there : (i j : ℕ) → i ≡ base.first + (base_cells base + j) → j < length base.shape.zeros → kind_of_cell all i ≡ kind.First
  zero_there i j e h = behind_values i j e ∙ kind_among kind.First (length base.shape.zeros) _ j h

  behind_zeros : (i j : ℕ) → i ≡ base.first + (base_cells base + (length base.shape.zeros + j)) → kind_of_cell all i ≡ kind_of_cell (state_before base.shape.heap behind) j
  behind_zeros i j e = behind_values i (length base.shape.zeros + j) e ∙ kind_past kind.First (length base.shape.zeros) _ (length base.shape.zeros + j) j refl

  behind_base : (i j : ℕ) → i ≡ (base.first + base_values base) + j → kind_of_cell all i ≡ kind_of_cell behind j
  behind_base i j e = behind_zeros i (cond base.shape.heap 1 0 + j) (omega (arith, e)) ∙ state_past base.shape.heap behind (cond base.shape.heap 1 0 + j) j refl

  has_kinds : HasKinds all base
  has_kinds = record {
    leaf = λ at h. value_there (leaf_position base at) at (omega (arith, h, small)) (omega (arith, h));
    class = λ at h k. let c = heap_cells base h in value_there (class_position base at) (length base.shape.cells + at) (omega (arith, c, k, small)) (omega (arith, c, k));
    zero = λ at h. zero_there (zero_position base at) at (omega (arith, h, small)) h;
    state = λ h.
        let v = heap_values base h in
        behind_zeros (state_position base) 0 (omega (arith, v, small)) ∙ state_first base.shape.heap behind h;
  }

-- all bases, and the temporaries behind them
record AreKinds (ks : List CellKind) (at first : ℕ) (bases : List BaseInfo) : Type 0 where
  each : EachFrom (λ base number. HasKinds ks base) at bases
  past : (i : ℕ) → first + all_values bases ≤ i → kind_of_cell ks i ≡ kind.Value

none_kind : (i : ℕ) → kind_of_cell [] i ≡ kind.Value
none_kind zero = refl
none_kind (suc i) = none_kind i

are_kinds : (ks : List CellKind) (at first : ℕ) (bases : List BaseInfo) → are_placed first bases ≡ true → first + all_values bases < 2 ^ 64 → ((i j : ℕ) → i ≡ first + j → kind_of_cell ks i ≡ kind_of_cell (all_kinds bases) j) → AreKinds ks at first bases
are_kinds ks at first [] p small here = record { each = tt; past = λ i h. here i (i - first) (omega (arith, h)) ∙ none_kind (i - first) }
are_kinds ks at first (base ∷ bases) p small here =
    let a = and_parts (base.first == first) (is_extent base.size && are_placed (first + base_values base) bases) p in
    let b = and_parts (is_extent base.size) (are_placed (first + base_values base) bases) a.1 in
    let e : base.first ≡ first = eqb-true base.first first a.0 in
    let own : (i j : ℕ) → i ≡ base.first + j → kind_of_cell ks i ≡ kind_of_cell (all_kinds (base ∷ bases)) j = λ i j f. here i j (omega (arith, e, f)) in
    let near : base.first + base_values base < 2 ^ 64 = omega (arith, e, small) in
    let rest = are_kinds ks (at + 1) (first + base_values base) bases b.1 (omega (arith, small)) (λ i j f. behind_base ks (all_kinds bases) base near own i j (omega (arith, e, f))) in
    record { each = (has_kinds ks (all_kinds bases) base near own, rest.each); past = λ i h. rest.past i (omega (arith, h)) }

module _ (bases : List BaseInfo) (placed : are_placed 0 bases ≡ true) (small : all_values bases < 2 ^ 64) where
  all_there : AreKinds (all_kinds bases) 0 0 bases
  all_there = are_kinds (all_kinds bases) 0 0 bases placed (omega (arith, small)) (λ i j e. ap (kind_of_cell (all_kinds bases)) (plain i j e))
    where
      plain : (i j : ℕ) → i ≡ 0 + j → i ≡ j
      plain i j e = omega arith

  pub base_kinds : EachFrom (λ base number. HasKinds (all_kinds bases) base) 0 bases
  base_kinds = all_there.each

  pub temp_kinds : (i : ℕ) → all_values bases ≤ i → kind_of_cell (all_kinds bases) i ≡ kind.Value
  temp_kinds i h = all_there.past i (omega (arith, h))
