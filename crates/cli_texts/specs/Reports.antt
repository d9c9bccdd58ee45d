-- The text of a report: a line for each diagnostic, and their number.
use Rattle.std.specs.Prelude.{ℕ, List, [], ◌∷◌, ◌++◌, length, codes, slice_get, unwrap_or}
use Rattle.std.specs.Fmt.{decimal}
use Rattle.cc_base.specs.declared.diagnostics.Diag.{Diag}
use Rattle.cc_base.specs.Rules.{tag_of, text_of}

abbrev pub Bytes : Type 0
Bytes = List ℕ

-- FILE:LINE:COL: TAG: TEXT
abbrev pub line_of : Bytes → Diag → Bytes
line_of file d =
    file ++ (codes ":" ++ (decimal d.place.line ++ (codes ":" ++ (decimal d.place.col ++ (codes ": " ++ (tag_of d.rule ++ (codes ": " ++ (text_of d.rule ++ codes "\n"))))))))

-- a file of the list, or the unit where the list has none
abbrev pub file_name : List Bytes → Bytes → ℕ → Bytes
file_name names unit file = unwrap_or (slice_get names file) unit

abbrev pub lines_of : List Bytes → Bytes → List Diag → Bytes
lines_of names unit [] = []
lines_of names unit (d ∷ ds) = line_of (file_name names unit d.place.file) d ++ lines_of names unit ds

-- N diagnostics in UNIT
abbrev pub last_line : ℕ → Bytes → Bytes
last_line count unit = decimal count ++ (codes " diagnostics in " ++ (unit ++ codes "\n"))

abbrev pub report_of : List Bytes → Bytes → List Diag → Bytes
report_of names unit diags = lines_of names unit diags ++ last_line (length diags) unit

-- end: WORD, K draws used
abbrev pub end_line : Bytes → ℕ → Bytes
end_line word used = codes "end: " ++ (word ++ (codes ", " ++ (decimal used ++ codes " draws used\n")))

-- the report on one run: how it stands at its end is told before the number of diagnostics
abbrev pub replay_of : List Bytes → Bytes → List Diag → Bytes → ℕ → Bytes
replay_of names unit diags word used = (lines_of names unit diags ++ end_line word used) ++ last_line (length diags) unit
