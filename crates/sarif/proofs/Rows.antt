-- Worked rows of the definitions.
use Rattle.std.proofs.Common.{◌≡◌, List, [], ◌∷◌, Some, None, codes, refl}
use Rattle.std.specs.Fmt.{digits}
use Rattle.cc_base.specs.declared.diagnostics.Diag.{Diag}
use Rattle.cc_base.specs.declared.diagnostics.Rule.TheVariants.{Diverr, Intoflow}
use Rattle.json.specs.Print.{escape_byte}
use Rattle.serde_json.specs.Data.{string, array, object, no_items, item, no_members, member}
use Rattle.sarif.specs.declared.known_results.Known.{Known}
use Rattle.sarif.specs.Uris.{Bytes, uri_of, uri_bytes}
use Rattle.cc_base.specs.Rules.{rule_tagged}
use Rattle.sarif.specs.Reports.{sarif_of}
use Rattle.sarif.specs.Baselines.{position, baseline_of}
use Rattle.sarif.specs.Comparing.{fresh_of}

escapes : uri_of (codes "inc/b c%.h") ≡ codes "inc/b%20c%25.h"
escapes = refl

either_case : uri_bytes (codes "%61%2e%2E.c") ≡ Some (codes "a...c")
either_case = refl

without_digits : uri_bytes (codes "a.c%2") ≡ None
without_digits = refl

no_digit : uri_bytes (codes "%g0") ≡ None
no_digit = refl

tag : rule_tagged (codes "diverr") ≡ Some Diverr
tag = refl

no_tag : rule_tagged (codes "division") ≡ None
no_tag = refl

least_position : position 0 ≡ None
least_position = refl

greatest_position : position 4294967295 ≡ Some 4294967295
greatest_position = refl

past_positions : position 4294967296 ≡ None
past_positions = refl

abbrev names : List Bytes
names = codes "a.c" ∷ []

abbrev division : Diag
division = record { place = record { file = 0; line = 1; col = 40 }; rule = Diverr }

-- the same place, another rule
abbrev overflow : Diag
overflow = record { place = record { file = 0; line = 1; col = 40 }; rule = Intoflow }

report : sarif_of names (division ∷ []) ≡ codes "{\"runs\":[{\"results\":[{\"locations\":[{\"physicalLocation\":{\"artifactLocation\":{\"uri\":\"a.c\"},\"region\":{\"startColumn\":40,\"startLine\":1}}}],\"message\":{\"text\":\"division is undefined\"},\"ruleId\":\"diverr\"}],\"tool\":{\"driver\":{\"name\":\"ccheck\"}}}],\"version\":\"2.1.0\"}\n"
unfolding escape_byte digits
report = refl

-- a report without runs
no_runs : baseline_of (object (member (codes "runs") (array no_items) (member (codes "version") (string (codes "2.1.0")) no_members))) ≡ Some []
no_runs = refl

-- a run without results
no_results : baseline_of (object (member (codes "runs") (array (item (object no_members) no_items)) (member (codes "version") (string (codes "2.1.0")) no_members))) ≡ Some []
no_results = refl

no_report : baseline_of (object no_members) ≡ None
no_report = refl

other_version : baseline_of (object (member (codes "runs") (array no_items) (member (codes "version") (string (codes "2.1.1")) no_members))) ≡ None
other_version = refl

abbrev known : Known
known = record { file = codes "a.c"; line = 1; col = 40; rule = Diverr }

other_rule_is_fresh : fresh_of names (known ∷ []) (division ∷ (overflow ∷ [])) ≡ overflow ∷ []
other_rule_is_fresh = refl

other_column_is_fresh : fresh_of names (record { file = codes "a.c"; line = 1; col = 41; rule = Diverr } ∷ []) (division ∷ []) ≡ division ∷ []
other_column_is_fresh = refl

other_file_is_fresh : fresh_of names (record { file = codes "b.c"; line = 1; col = 40; rule = Diverr } ∷ []) (division ∷ []) ≡ division ∷ []
other_file_is_fresh = refl

no_file_is_fresh : fresh_of [] (record { file = []; line = 1; col = 40; rule = Diverr } ∷ []) (division ∷ []) ≡ division ∷ []
no_file_is_fresh = refl
