-- One entry more of a map.
use Rattle.std.proofs.Common.{◌≡◌, ◌+◌, ◌<◌, ℕ, List, ◌∷◌, ◌++◌, drop, map, length, slice_index_or, Option, ap, ◌∙◌, sym}
use Rattle.std.proofs.lemmas.List.{append_assoc, drop_more}
use Rattle.cc_base.specs.Lattices.{LatticeOf}
use Rattle.cc_base.specs.IntegerDomains.{IntegersOf}
use Rattle.cc_base.specs.declared.diagnostics.Diag.{Diag}
use Rattle.cfg.specs.declared.programs.Flow.{Flow}
use Rattle.fixpoint.specs.Pool.Pool.{Pool}
use Rattle.fixpoint.specs.declared.pool.row_name.Row.{Row}
use Rattle.value_domain.specs.declared.values.row_cells.Cell.{Cell}
use Rattle.fixpoint.specs.Solver.RowMap.{slot_row, rows_in}
use Rattle.diagnose.specs.Diagnostics.AdmittedRules.{entry_pairs, rows_pairs}

module _ {I : Type 0} (l : LatticeOf I) (n : IntegersOf I) (flow : Flow) (pool : Pool (Cell I)) where
  pub next_entry : (slots : List (Option Row)) (block : ℕ) (d : Option Row) (out more total : List Diag) → block < length slots → more ≡ out ++ entry_pairs l n flow block (slot_row pool (slice_index_or slots block d)) → out ++ rows_pairs l n flow block (rows_in pool (drop block slots)) ≡ total → more ++ rows_pairs l n flow (block + 1) (rows_in pool (drop (block + 1) slots)) ≡ total
  next_entry slots block d out more total lt e h =
      let one = entry_pairs l n flow block (slot_row pool (slice_index_or slots block d)) in
      let rest = rows_pairs l n flow (block + 1) (rows_in pool (drop (block + 1) slots)) in
      let step : out ++ rows_pairs l n flow block (rows_in pool (drop block slots)) ≡ out ++ (one ++ rest) = ap (λ z. out ++ rows_pairs l n flow block (rows_in pool z)) (drop_more slots block d lt) in
      ap (λ z. z ++ rest) e ∙ append_assoc out one rest ∙ sym step ∙ h
