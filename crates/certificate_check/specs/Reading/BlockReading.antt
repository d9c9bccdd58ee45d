-- The lines of a block.
use Rattle.std.specs.Prelude.{ℕ, cond, nat_le, List, length, Option, Some, None}
use Rattle.interval_domain.specs.declared.intervals.intervals.Interval.{Interval}
use Rattle.value_domain.specs.declared.values.row_cells.Cell.{Cell}
use Rattle.certificate_text.specs.declared.lines.map_lines.MapLine.{MapLine}
use Rattle.certificate_text.specs.declared.lines.map_lines.MapLine.TheVariants.{Unreached, Reached, Placed}
use Rattle.certificate_text.specs.Lines.LineWords.{Bytes}
use Rattle.certificate_check.specs.declared.reading.cell_reading.Reading.{Reading}
use Rattle.certificate_check.specs.declared.reading.block_reading.BlockRead.{BlockRead}
use Rattle.certificate_check.specs.Reading.TextPlaces.{line_at, next_place}
use Rattle.certificate_check.specs.Reading.GreatestRows.{least_row}
use Rattle.certificate_check.specs.Reading.CellReading.{failed, row_reading, RowReading, cells_read}

-- a block as far as it was read, and its row where it is reached
pub record BlockReading : Type 0 where
  pub reading : Reading
  pub row : Option (List (Cell Interval))

abbrev pub block_reading : Reading → Option (List (Cell Interval)) → BlockReading
block_reading r row = record { reading = r; row = row }

-- with the row that was read, where the block is reached
abbrev pub block_of : BlockRead → List (Cell Interval) → BlockReading
block_of b row = block_reading b.reading (cond b.reached (Some row) None)

-- behind the first line of a block
abbrev pub behind_line : Bytes → Reading → Reading
behind_line text r = record { at = next_place text r.at; from = 0; good = r.good }

abbrev pub reached : RowReading → BlockReading
reached c = block_reading c.reading (Some c.row)

-- the lines of a reached block, whose cells are the least ones but for those that have a line
abbrev pub row_read : List (Cell Interval) → Bytes → ℕ → Reading → BlockReading
row_read greatest text count r = reached (cells_read greatest text count (row_reading (behind_line text r) (least_row greatest)))

-- the lines of a block, of which the first one is given
abbrev pub behind_first : List (Cell Interval) → Bytes → Reading → Option MapLine → BlockReading
behind_first greatest text r None = block_reading (failed r) None
behind_first greatest text r (Some Unreached) = block_reading (behind_line text r) None
behind_first greatest text r (Some (Reached count)) = cond (nat_le count (length greatest)) (row_read greatest text count r) (block_reading (failed r) None)
behind_first greatest text r (Some (Placed at cell)) = block_reading (failed r) None

-- the lines of a block, unless a line before it failed
unfoldable pub block_read : List (Cell Interval) → Bytes → Reading → BlockReading
block_read greatest text r = cond r.good (behind_first greatest text r (line_at text r.at)) (block_reading r None)
