-- The lines of a certificate behind the first one: the text of each, and the line of a text.
use Rattle.std.specs.Prelude.{ℕ, cond, ◌==◌, ◌++◌, codes, Option, Some, None}
use Rattle.std.specs.Fmt.{decimal}
use Rattle.interval_domain.specs.declared.intervals.intervals.Interval.{Interval}
use Rattle.value_domain.specs.declared.values.row_cells.Cell.{Cell}
use Rattle.certificate_text.specs.declared.lines.map_lines.MapLine.{MapLine}
use Rattle.certificate_text.specs.declared.lines.map_lines.MapLine.TheVariants.{Unreached, Reached, Placed}
use Rattle.certificate_text.specs.Lines.LineWords.{Bytes, first_byte, same_bytes}
use Rattle.certificate_text.specs.Lines.DecimalWords.{small}
use Rattle.certificate_text.specs.Lines.CellTexts.{with_cell}
use Rattle.certificate_text.specs.Lines.CellReaders.{word, rest, cell_given}

unfoldable pub reached_text : ℕ → Bytes
reached_text count = codes "r " ++ decimal count

unfoldable pub placed_text : ℕ → Cell Interval → Bytes
placed_text at cell = with_cell (decimal at) cell

-- the text of a line, without its end
abbrev pub line_text : MapLine → Bytes
line_text Unreached = codes "u"
line_text (Reached count) = reached_text count
line_text (Placed at cell) = placed_text at cell

-- what the words of a text give, whether or not it is the text of a line
unfoldable pub line_given : Bytes → MapLine
line_given text =
    cond (first_byte text == 117) Unreached
    (cond (first_byte text == 114) (Reached (small (rest text)))
    (Placed (small (word text)) (cell_given (rest text))))

abbrev pub line_if_same : MapLine → Bytes → Option MapLine
line_if_same line text = cond (same_bytes (line_text line) text) (Some line) None

-- the line whose text it is
abbrev pub line_of : Bytes → Option MapLine
line_of text = line_if_same (line_given text) text
