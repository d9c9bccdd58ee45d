-- The lines of a text, named by the places where they begin.
use Rattle.std.specs.Prelude.{ℕ, ◌+◌, ◌-◌, cond, ◌==◌, nat_lt, length, take, drop, min, count_by, Option, None}
use Rattle.certificate_text.specs.declared.lines.map_lines.MapLine.{MapLine}
use Rattle.certificate_text.specs.Lines.LineWords.{Bytes, until, behind}
use Rattle.certificate_text.specs.Lines.MapLines.{line_of}

-- the line that begins at a place, where it has its end and is the text of one
unfoldable pub line_at : Bytes → ℕ → Option MapLine
line_at text at = cond (nat_lt (length (until 10 (drop at text))) (length (drop at text))) (line_of (until 10 (drop at text))) None

-- the place behind its end
unfoldable pub next_place : Bytes → ℕ → ℕ
next_place text at = length text - length (behind 10 (drop at text))

-- the number of the line that begins at a place, counted from 1
unfoldable pub line_number : Bytes → ℕ → ℕ
line_number text at = count_by (λ b. b == 10) (take (min at (length text)) text) + 1
