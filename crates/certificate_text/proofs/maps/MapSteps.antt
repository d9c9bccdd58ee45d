-- One entry more of a map.
use Rattle.std.proofs.Common.{◌≡◌, ◌+◌, ◌<◌, ℕ, List, ◌∷◌, ◌++◌, drop, map, length, slice_index_or, Option, ap, ◌∙◌, sym}
use Rattle.std.proofs.lemmas.List.{append_assoc, drop_more}
use Rattle.interval_domain.specs.declared.intervals.intervals.Interval.{Interval}
use Rattle.fixpoint.specs.Pool.Pool.{Pool}
use Rattle.fixpoint.specs.declared.pool.row_name.Row.{Row}
use Rattle.value_domain.specs.declared.values.row_cells.Cell.{Cell}
use Rattle.fixpoint.specs.Solver.RowMap.{slot_row, rows_in}
use Rattle.certificate_text.specs.Lines.LineWords.{Bytes}
use Rattle.certificate_text.specs.Maps.MapTexts.{block_text, blocks_text}

pub next_block : (pool : Pool (Cell Interval)) (slots : List (Option Row)) (block : ℕ) (d : Option Row) (out more total : Bytes) → block < length slots → more ≡ out ++ block_text (slot_row pool (slice_index_or slots block d)) → out ++ blocks_text (rows_in pool (drop block slots)) ≡ total → more ++ blocks_text (rows_in pool (drop (block + 1) slots)) ≡ total
next_block pool slots block d out more total lt e h =
    let one = block_text (slot_row pool (slice_index_or slots block d)) in
    let rest = blocks_text (rows_in pool (drop (block + 1) slots)) in
    let step : out ++ blocks_text (rows_in pool (drop block slots)) ≡ out ++ (one ++ rest) = ap (λ z. out ++ blocks_text (rows_in pool z)) (drop_more slots block d lt) in
    ap (λ z. z ++ rest) e ∙ append_assoc out one rest ∙ sym step ∙ h
