-- The text of a map: one spelling for each.
use Rattle.std.specs.Prelude.{ℕ, ◌+◌, Bool, cond, not, List, [], ◌∷◌, ◌++◌, codes, length, count_by, Option, Some, None}
use Rattle.std.specs.Fmt.{decimal}
use Rattle.interval_domain.specs.declared.intervals.intervals.Interval.{Interval}
use Rattle.value_domain.specs.declared.values.row_cells.Cell.{Cell}
use Rattle.cfg.specs.declared.programs.Flow.{Flow}
use Rattle.certificate_text.specs.Lines.LineWords.{Bytes}
use Rattle.certificate_text.specs.declared.lines.map_lines.MapLine.{MapLine}
use Rattle.certificate_text.specs.declared.lines.map_lines.MapLine.TheVariants.{Unreached, Reached, Placed}
use Rattle.certificate_text.specs.Lines.MapLines.{line_text}
use Rattle.certificate_text.specs.Maps.LeastCells.{is_least}

-- the first line, without its end: the number of blocks and the length of a row
unfoldable pub head_text : ℕ → ℕ → Bytes
head_text blocks width = codes "ccheck-cert 1 " ++ (decimal blocks ++ (codes " " ++ decimal width))

-- a line with its end
unfoldable pub ended_text : MapLine → Bytes
ended_text line = line_text line ++ (10 ∷ [])

-- the cell has a line
abbrev pub is_told : Cell Interval → Bool
is_told cell = not (is_least cell)

abbrev pub cell_text : ℕ → Cell Interval → Bytes
cell_text at cell = cond (is_least cell) [] (ended_text (Placed at cell))

-- the lines of cells from a position on
abbrev pub cells_text : ℕ → List (Cell Interval) → Bytes
cells_text at [] = []
cells_text at (cell ∷ cells) = cell_text at cell ++ cells_text (at + 1) cells

-- how many lines of cells follow, and these
unfoldable pub row_text : List (Cell Interval) → Bytes
row_text row = ended_text (Reached (count_by is_told row)) ++ cells_text 0 row

abbrev pub block_text : Option (List (Cell Interval)) → Bytes
block_text None = ended_text Unreached
block_text (Some row) = row_text row

abbrev pub blocks_text : List (Option (List (Cell Interval))) → Bytes
blocks_text [] = []
blocks_text (entry ∷ entries) = block_text entry ++ blocks_text entries

-- the text of a map: the first line, and the lines of its blocks in order
unfoldable pub text_of_map : Flow → List (Option (List (Cell Interval))) → Bytes
text_of_map flow rows = (head_text (length flow.blocks.items) flow.width ++ (10 ∷ [])) ++ blocks_text rows
