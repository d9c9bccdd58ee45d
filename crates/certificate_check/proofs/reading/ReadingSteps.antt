-- One line of a cell more, and one block more.
use Rattle.std.proofs.Common.{◌≡◌, ◌∙◌, ◌+◌, ◌-◌, ◌<◌, ℕ, zero, suc, List, [], ◌∷◌, ◌++◌, length, Option, refl, sym, ap, arith, append_assoc}
use Rattle.interval_domain.specs.declared.intervals.intervals.Interval.{Interval}
use Rattle.value_domain.specs.declared.values.row_cells.Cell.{Cell}
use Rattle.certificate_text.specs.Lines.LineWords.{Bytes}
use Rattle.certificate_check.specs.declared.reading.cell_reading.Reading.{Reading}
use Rattle.certificate_check.specs.Reading.CellReading.{RowReading, cell_read, cells_read}
use Rattle.certificate_check.specs.Reading.BlockReading.{block_read}
use Rattle.certificate_check.specs.Reading.MapReading.{rows_read, blocks_behind}

pub cells_next : (greatest : List (Cell Interval)) (text : Bytes) (n : ℕ) (c : RowReading) → 0 < n → cells_read greatest text n c ≡ cells_read greatest text (n - 1) (cell_read greatest text (n - 1) c)
cells_next greatest text zero c h = absurd (omega arith)
cells_next greatest text (suc n) c h =
    let e : suc n - 1 ≡ n = omega arith in
    rw e refl

module _ (greatest : List (Cell Interval)) (text : Bytes) (r : Reading) where
  pub behind_next : (n m : ℕ) → n ≡ m + 1 → blocks_behind greatest text r n ≡ blocks_behind greatest text (block_read greatest text r).reading m
  behind_next zero m e = absurd (omega arith)
  behind_next (suc n) m e =
      let same : n ≡ m = omega arith in
      ap (blocks_behind greatest text (block_read greatest text r).reading) same

  pub rows_next : (n m : ℕ) → n ≡ m + 1 → rows_read greatest text r n ≡ (block_read greatest text r).row ∷ rows_read greatest text (block_read greatest text r).reading m
  rows_next zero m e = absurd (omega arith)
  rows_next (suc n) m e =
      let same : n ≡ m = omega arith in
      ap (λ k. (block_read greatest text r).row ∷ rows_read greatest text (block_read greatest text r).reading k) same

  -- the rows of one block more
  pub rows_joined : (done more : List (Option (List (Cell Interval)))) (row : Option (List (Cell Interval))) (n m : ℕ) → n ≡ m + 1 → row ≡ (block_read greatest text r).row → more ≡ done ++ (row ∷ []) → more ++ rows_read greatest text (block_read greatest text r).reading m ≡ done ++ rows_read greatest text r n
  rows_joined done more row n m e same g =
      ap (λ xs. xs ++ rows_read greatest text (block_read greatest text r).reading m) g
      ∙ append_assoc done (row ∷ []) (rows_read greatest text (block_read greatest text r).reading m)
      ∙ ap (λ x. done ++ (x ∷ rows_read greatest text (block_read greatest text r).reading m)) same
      ∙ ap (λ xs. done ++ xs) (sym (rows_next n m e))
