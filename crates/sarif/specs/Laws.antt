-- What a report of diagnostics says is known.
use Rattle.std.specs.Prelude.{◌<◌, ◌≤◌, ◌^◌, List, length, All, IsUtf8}
use Rattle.cc_base.specs.declared.diagnostics.Diag.{Diag}
use Rattle.sarif.specs.declared.known_results.Known.{Known}
use Rattle.sarif.specs.Uris.{Bytes}
use Rattle.sarif.specs.Reports.{name_of}

-- bytes in UTF-8
abbrev pub IsName : Bytes → Type 0
IsName name = All (λ b. b < 256) name × IsUtf8 name

-- line and column are counted from 1, in 32 bits
pub record IsCounted (d : Diag) : Type 0 where
  pub line_from_1 : 1 ≤ d.place.line
  pub col_from_1 : 1 ≤ d.place.col
  pub line_fits : d.place.line < 2 ^ 32
  pub col_fits : d.place.col < 2 ^ 32

-- the file of a diagnostic is of a list
abbrev pub IsOfList : List Bytes → Diag → Type 0
IsOfList names d = d.place.file < length names

-- the known result of a diagnostic
abbrev pub known_result : List Bytes → Diag → Known
known_result names d = record { file = name_of names d.place.file; line = d.place.line; col = d.place.col; rule = d.rule }
