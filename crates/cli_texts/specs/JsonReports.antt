-- The report as JSON: its data, and the line that it prints.
use Rattle.std.specs.Prelude.{ℕ, List, [], ◌++◌, map, codes}
use Rattle.cc_base.specs.declared.diagnostics.Diag.{Diag}
use Rattle.cc_base.specs.Rules.{tag_of, text_of}
use Rattle.serde_json.specs.Data.{Data, number, string, array, object, no_members, member, unsigned}
use Rattle.serde_json.specs.View.{items_of}
use Rattle.serde_json.specs.Written.{compact_text}
use Rattle.cli_texts.specs.Reports.{Bytes, file_name}

abbrev pub number_data : ℕ → Data
number_data n = number (unsigned n)

-- the object of a diagnostic, with its keys in order
abbrev pub diagnostic_data : Bytes → Diag → Data
diagnostic_data file d =
    object (member (codes "column") (number_data d.place.col)
    (member (codes "file") (string file)
    (member (codes "line") (number_data d.place.line)
    (member (codes "rule") (string (tag_of d.rule))
    (member (codes "text") (string (text_of d.rule)) no_members)))))

abbrev pub diagnostics_data : List Bytes → Bytes → List Diag → List Data
diagnostics_data names unit diags = map (λ (d : Diag). diagnostic_data (file_name names unit d.place.file) d) diags

-- the object of a report
abbrev pub report_data : Bytes → List Data → Data
report_data unit diagnostics =
    object (member (codes "diagnostics") (array (items_of diagnostics))
    (member (codes "unit") (string unit) no_members))

-- the line that a report prints
abbrev pub json_of : List Bytes → Bytes → List Diag → Bytes
json_of names unit diags = compact_text (report_data unit (diagnostics_data names unit diags)) ++ codes "\n"
