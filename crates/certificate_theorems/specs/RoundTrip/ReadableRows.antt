-- Rows that the readers of certificates find again in a text.
use Rattle.std.specs.Prelude.{◌≡◌, true, false, List, [], ◌∷◌, Option, Some, None}
use Rattle.interval_domain.specs.declared.intervals.intervals.Interval.{Interval}
use Rattle.value_domain.specs.declared.values.row_cells.Cell.{Cell}
use Rattle.certificate_text.specs.Maps.LeastCells.{is_least}
use Rattle.certificate_check.specs.Reading.GreatestRows.{emptied}
use Rattle.certificate_check.specs.Reading.CellPlaces.{has_line}
use Rattle.certificate_theorems.specs.Lines.NearCells.{IsNearCell}

-- a cell that is the least of its position's kind, or may have a line there
pub record IsReadableCell (greatest cell : Cell Interval) : Type 0 where
  pub least : is_least cell ≡ true → emptied greatest ≡ cell
  pub line : is_least cell ≡ false → has_line greatest cell ≡ true
  pub near : is_least cell ≡ false → IsNearCell cell

abbrev pub AreReadableCells : List (Cell Interval) → List (Cell Interval) → Type 0
AreReadableCells [] [] = Unit {0}
AreReadableCells [] (cell ∷ cells) = ⊥
AreReadableCells (greatest ∷ rest) [] = ⊥
AreReadableCells (greatest ∷ rest) (cell ∷ cells) = IsReadableCell greatest cell × AreReadableCells rest cells

abbrev pub IsReadableRow : List (Cell Interval) → Option (List (Cell Interval)) → Type 0
IsReadableRow greatest None = Unit {0}
IsReadableRow greatest (Some row) = AreReadableCells greatest row

abbrev pub AreReadableRows : List (Cell Interval) → List (Option (List (Cell Interval))) → Type 0
AreReadableRows greatest [] = Unit {0}
AreReadableRows greatest (entry ∷ entries) = IsReadableRow greatest entry × AreReadableRows greatest entries
