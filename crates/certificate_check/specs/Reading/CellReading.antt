-- The lines of the cells of a row, read one after the other.
use Rattle.std.specs.Prelude.{ℕ, zero, suc, ◌+◌, false, cond, List, slice_set, Option, Some, None}
use Rattle.interval_domain.specs.declared.intervals.intervals.Interval.{Interval}
use Rattle.value_domain.specs.declared.values.row_cells.Cell.{Cell}
use Rattle.certificate_text.specs.declared.lines.map_lines.MapLine.{MapLine}
use Rattle.certificate_text.specs.declared.lines.map_lines.MapLine.TheVariants.{Unreached, Reached, Placed}
use Rattle.certificate_text.specs.Lines.LineWords.{Bytes}
use Rattle.certificate_check.specs.declared.reading.cell_reading.Reading.{Reading}
use Rattle.certificate_check.specs.Reading.TextPlaces.{line_at, next_place}
use Rattle.certificate_check.specs.Reading.CellPlaces.{has_place}

-- no text of the form begins with what was read and the next line
abbrev pub failed : Reading → Reading
failed r = record r { good = false }

-- a row as far as it was read
pub record RowReading : Type 0 where
  pub reading : Reading
  pub row : List (Cell Interval)

abbrev pub row_reading : Reading → List (Cell Interval) → RowReading
row_reading r row = record { reading = r; row = row }

-- behind the line of a cell
abbrev pub placed : Bytes → Reading → List (Cell Interval) → ℕ → Cell Interval → RowReading
placed text r row at cell = row_reading (record { at = next_place text r.at; from = at + 1; good = r.good }) (slice_set row at cell)

-- behind a line, with so many lines of cells owed behind it; the greatest cells of all positions are given
abbrev pub behind_cell : List (Cell Interval) → Bytes → ℕ → RowReading → Option MapLine → RowReading
behind_cell greatest text owed c None = row_reading (failed c.reading) c.row
behind_cell greatest text owed c (Some Unreached) = row_reading (failed c.reading) c.row
behind_cell greatest text owed c (Some (Reached count)) = row_reading (failed c.reading) c.row
behind_cell greatest text owed c (Some (Placed at cell)) =
    cond (has_place greatest owed c.reading.from at cell) (placed text c.reading c.row at cell) (row_reading (failed c.reading) c.row)

-- the next line is read, unless one before it failed
unfoldable pub cell_read : List (Cell Interval) → Bytes → ℕ → RowReading → RowReading
cell_read greatest text owed c = cond c.reading.good (behind_cell greatest text owed c (line_at text c.reading.at)) c

-- so many lines are read
abbrev pub cells_read : List (Cell Interval) → Bytes → ℕ → RowReading → RowReading
cells_read greatest text zero c = c
cells_read greatest text (suc owed) c = cells_read greatest text owed (cell_read greatest text owed c)
