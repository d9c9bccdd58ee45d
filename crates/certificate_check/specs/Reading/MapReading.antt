-- The text of a map, read block by block.
use Rattle.std.specs.Prelude.{ℕ, zero, suc, ◌+◌, Bool, true, false, cond, ◌&&◌, ◌==◌, nat_lt, List, [], ◌∷◌, length, Option}
use Rattle.interval_domain.specs.declared.intervals.intervals.Interval.{Interval}
use Rattle.value_domain.specs.declared.values.row_cells.Cell.{Cell}
use Rattle.cfg.specs.declared.programs.Flow.{Flow}
use Rattle.certificate_text.specs.Lines.LineWords.{Bytes, until, same_bytes}
use Rattle.certificate_text.specs.Maps.MapTexts.{head_text}
use Rattle.certificate_check.specs.declared.reading.cell_reading.Reading.{Reading}
use Rattle.certificate_check.specs.Reading.TextPlaces.{next_place}
use Rattle.certificate_check.specs.Reading.GreatestRows.{greatest_row}
use Rattle.certificate_check.specs.Reading.BlockReading.{block_read}

-- the text begins with the first line of the program's certificates
unfoldable pub has_head : Flow → Bytes → Bool
has_head flow text = nat_lt (length (until 10 text)) (length text) && same_bytes (until 10 text) (head_text (length flow.blocks.items) flow.width)

-- behind the first line
unfoldable pub head_read : Flow → Bytes → Reading
head_read flow text = record { at = cond (has_head flow text) (next_place text 0) 0; from = 0; good = has_head flow text }

-- the rows of so many blocks
abbrev pub rows_read : List (Cell Interval) → Bytes → Reading → ℕ → List (Option (List (Cell Interval)))
rows_read greatest text r zero = []
rows_read greatest text r (suc n) = (block_read greatest text r).row ∷ rows_read greatest text (block_read greatest text r).reading n

-- behind the lines of so many blocks
abbrev pub blocks_behind : List (Cell Interval) → Bytes → Reading → ℕ → Reading
blocks_behind greatest text r zero = r
blocks_behind greatest text r (suc n) = blocks_behind greatest text (block_read greatest text r).reading n

-- the rows that a text gives for the blocks of a program
unfoldable pub map_rows : Flow → Bytes → List (Option (List (Cell Interval)))
map_rows flow text = rows_read (greatest_row flow) text (head_read flow text) (length flow.blocks.items)

-- how far it was read
unfoldable pub map_reading : Flow → Bytes → Reading
map_reading flow text = blocks_behind (greatest_row flow) text (head_read flow text) (length flow.blocks.items)

-- no line failed, and nothing follows the last block
abbrev pub is_whole : Bytes → Reading → Bool
is_whole text r = r.good && (r.at == length text)
