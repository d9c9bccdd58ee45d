-- The report: its data, and the line that it prints.
use Rattle.std.specs.Prelude.{ℕ, List, [], ◌++◌, map, codes, slice_get, unwrap_or}
use Rattle.cc_base.specs.declared.diagnostics.Diag.{Diag}
use Rattle.cc_base.specs.declared.diagnostics.Place.{Place}
use Rattle.cc_base.specs.Rules.{tag_of, text_of}
use Rattle.serde_json.specs.Data.{Data, number, string, array, object, no_items, item, no_members, member, unsigned}
use Rattle.serde_json.specs.View.{items_of}
use Rattle.serde_json.specs.Written.{compact_text}
use Rattle.sarif.specs.Uris.{Bytes, uri_of}

-- the name of a file of the unit; no bytes where the list has none
abbrev pub name_of : List Bytes → ℕ → Bytes
name_of names file = unwrap_or (slice_get names file) []

abbrev pub region_data : Place → Data
region_data p =
    object (member (codes "startColumn") (number (unsigned p.col))
    (member (codes "startLine") (number (unsigned p.line)) no_members))

-- a place in a file with this uri
abbrev pub location_data : Bytes → Place → Data
location_data uri p =
    object (member (codes "physicalLocation")
    (object (member (codes "artifactLocation") (object (member (codes "uri") (string uri) no_members))
    (member (codes "region") (region_data p) no_members))) no_members)

-- a diagnostic in a file with this uri
abbrev pub result_data : Bytes → Diag → Data
result_data uri d =
    object (member (codes "locations") (array (item (location_data uri d.place) no_items))
    (member (codes "message") (object (member (codes "text") (string (text_of d.rule)) no_members))
    (member (codes "ruleId") (string (tag_of d.rule)) no_members)))

-- a diagnostic of a unit
abbrev pub diagnostic_data : List Bytes → Diag → Data
diagnostic_data names d = result_data (uri_of (name_of names d.place.file)) d

abbrev pub results_data : List Bytes → List Diag → List Data
results_data names diags = map (λ (d : Diag). diagnostic_data names d) diags

abbrev pub tool_data : Data
tool_data = object (member (codes "driver") (object (member (codes "name") (string (codes "ccheck")) no_members)) no_members)

-- the one run of a report
abbrev pub run_data : List Data → Data
run_data results = object (member (codes "results") (array (items_of results)) (member (codes "tool") tool_data no_members))

abbrev pub report_data : List Data → Data
report_data results =
    object (member (codes "runs") (array (item (run_data results) no_items))
    (member (codes "version") (string (codes "2.1.0")) no_members))

-- the line that a report prints
abbrev pub sarif_of : List Bytes → List Diag → Bytes
sarif_of names diags = compact_text (report_data (results_data names diags)) ++ codes "\n"
