-- Where the greatest row has the temporaries.
use Rattle.std.specs.Prelude.{◌≡◌, ℕ, zero, suc, ◌+◌, ◌<◌, ◌≤◌, cond, List, [], ◌∷◌, ◌++◌, length, replicate, refl, ◌⊎◌}
use Rattle.std.proofs.Common.{arith, ap, ◌∙◌, inl, inr, length-append}
use Rattle.std.proofs.lemmas.Bool.{cases_lt}
use Rattle.cc_base.specs.IntegerDomains.{IntegersOf}
use Rattle.c_layout.specs.declared.shapes.BaseInfo.{BaseInfo}
use Rattle.cfg.specs.declared.programs.Flow.{Flow}
use Rattle.cfg.specs.WellFormed.{base_cells, base_values, all_values}
use Rattle.pointer_domain.specs.declared.base_sets.Bases.{Bases}
use Rattle.value_domain.specs.declared.values.row_cells.Cell.{Cell}
use Rattle.value_domain.specs.declared.values.row_cells.Cell.TheVariants.{Nothing, Value, First, State}
use Rattle.store_cells.specs.RowPositions.{cell_at}
use Rattle.store_monotone.specs.Operations.TopCells.{top_value, top_zero, top_state}
use Rattle.store_monotone.specs.Operations.TopRows.{top_base, top_bases, top_row}
use Rattle.transfer_checks.specs.Temporaries.{temp_position}
use Rattle.transfer_monotone.specs.Values.LaidOut.{IsLaidOut}

module _ {I : Type 0} where
  -- behind the row nothing stands
  pub at_past : (xs : List (Cell I)) (i : ℕ) → length xs ≤ i → cell_at xs i ≡ Nothing
  at_past [] i h = refl
  at_past (x ∷ xs) zero h = absurd (omega arith)
  at_past (x ∷ xs) (suc i) h = at_past xs i (omega arith)

  at_behind : (pre ys : List (Cell I)) (i k : ℕ) → i ≡ length pre + k → cell_at (pre ++ ys) i ≡ cell_at ys k
  at_behind [] ys i k e = ap (cell_at ys) (plain i k e)
    where
      plain : (i k : ℕ) → i ≡ 0 + k → i ≡ k
      plain i k e = omega arith
  at_behind (x ∷ pre) ys zero k e = absurd (omega arith)
  at_behind (x ∷ pre) ys (suc i) k e = at_behind pre ys i k (omega arith)

  at_alike : (m : ℕ) (x : Cell I) (i : ℕ) → i < m → cell_at (replicate m x) i ≡ x
  at_alike zero x i h = absurd (omega arith)
  at_alike (suc m) x zero h = refl
  at_alike (suc m) x (suc i) h = at_alike m x i (omega arith)

  replicated : (m : ℕ) (x : Cell I) → length (replicate m x) ≡ m
  replicated zero x = refl
  replicated (suc m) x = let e = replicated m x in omega arith

  module _ (n : IntegersOf I) (all : Bases) where
    base_length : (base : BaseInfo) → length (top_base n all base) ≡ base_values base
    base_length base =
        let zs = replicate (length base.shape.zeros) (First (top_zero n)) in
        let ss = replicate (cond base.shape.heap 1 0) (State (top_state n)) in
        let a = length-append (replicate (base_cells base) (Value (top_value n all))) (zs ++ ss) in
        let b = length-append zs ss in
        let c = replicated (base_cells base) (Value (top_value n all)) in
        let d = replicated (length base.shape.zeros) (First (top_zero n)) in
        let e = replicated (cond base.shape.heap 1 0) (State (top_state n)) in
        omega arith

    bases_length : (bases : List BaseInfo) → length (top_bases n all bases) ≡ all_values bases
    bases_length [] = refl
    bases_length (base ∷ bases) =
        let a = length-append (top_base n all base) (top_bases n all bases) in
        let c = base_length base in
        let d = bases_length bases in
        omega arith

    module _ (flow : Flow) (k : IsLaidOut all flow) where
      pub row_length : length (top_row n all flow.bases.items flow.temps) ≡ flow.width
      row_length =
          let a = length-append (top_bases n all flow.bases.items) (replicate flow.temps (Value (top_value n all))) in
          let c = bases_length flow.bases.items in
          let d = replicated flow.temps (Value (top_value n all)) in
          let e = k.width in
          omega arith

      -- a temporary has a value's place, or none
      pub temp_place : (temp : ℕ) → (cell_at (top_row n all flow.bases.items flow.temps) (temp_position flow temp) ≡ Value (top_value n all)) ⊎ (length (top_row n all flow.bases.items flow.temps) ≤ temp_position flow temp)
      temp_place temp =
          let w = row_length in
          let c = bases_length flow.bases.items in
          let e = k.width in
          let m = k.near in
          elim (cases_lt temp flow.temps) [
            | inl h ↦ inl (at_behind (top_bases n all flow.bases.items) (replicate flow.temps (Value (top_value n all))) (temp_position flow temp) temp (omega arith) ∙ at_alike flow.temps (Value (top_value n all)) temp h)
            | inr h ↦ inr (omega arith)
          ]
