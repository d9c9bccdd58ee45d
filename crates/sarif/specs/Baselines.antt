-- What a report says is known: a lenient reading of SARIF.
use Rattle.std.specs.Prelude.{ℕ, ◌^◌, List, [], ◌++◌, Bool, false, ◌&&◌, nat_le, nat_lt, if◌then◌else◌, codes, bytes_eq, Option, Some, None, option_map, option_and_then, option_to_list, unwrap_or}
use Rattle.std.specs.Str.{is_utf8}
use Rattle.cc_base.specs.declared.diagnostics.Rule.{Rule}
use Rattle.serde_json.specs.Data.{Data, Items, no_items, item}
use Rattle.serde_json.specs.Find.{get, at, as_str, as_number, as_u64, as_array}
use Rattle.serde_json.specs.Read.{read}
use Rattle.sarif.specs.declared.known_results.Known.{Known}
use Rattle.sarif.specs.Uris.{Bytes, file_of_uri}
use Rattle.cc_base.specs.Rules.{rule_tagged}

-- a text at a key
abbrev pub text_at : Bytes → Data → Option Bytes
text_at key d = option_and_then as_str (get key d)

-- a line or a column: a whole number from 1 to 2^32 - 1
abbrev pub position : ℕ → Option ℕ
position n = if nat_le 1 n && nat_lt n (2 ^ 32) then Some n else None

abbrev pub position_at : Bytes → Data → Option ℕ
position_at key d = option_and_then position (option_and_then as_u64 (option_and_then as_number (get key d)))

-- the first location of a result
abbrev pub location_of : Data → Option Data
location_of result = option_and_then (get (codes "physicalLocation")) (option_and_then (at 0) (get (codes "locations") result))

abbrev pub uri_at : Data → Option Bytes
uri_at location = option_and_then (text_at (codes "uri")) (get (codes "artifactLocation") location)

abbrev pub file_at : Data → Option Bytes
file_at location = option_and_then file_of_uri (uri_at location)

abbrev pub region_position : Bytes → Data → Option ℕ
region_position key location = option_and_then (position_at key) (get (codes "region") location)

abbrev pub rule_of : Data → Option Rule
rule_of result = option_and_then rule_tagged (text_at (codes "ruleId") result)

-- all four parts, or nothing
abbrev pub known_from : Option Bytes → Option ℕ → Option ℕ → Option Rule → Option Known
known_from (Some file) (Some line) (Some col) (Some rule) = Some (record { file = file; line = line; col = col; rule = rule })
known_from _ _ _ _ = None

-- what a result with a location says is known
abbrev pub known_at : Data → Option Rule → Option Known
known_at location rule = known_from (file_at location) (region_position (codes "startLine") location) (region_position (codes "startColumn") location) rule

-- what a result says is known; nothing where it is passed over
abbrev pub known_of : Data → Option Known
known_of result = option_and_then (λ location. known_at location (rule_of result)) (location_of result)

abbrev pub results_known : Items → List Known
results_known no_items = []
results_known (item result results) = option_to_list (known_of result) ++ results_known results

-- the results of a run; none where it has no list of them
abbrev pub run_results : Data → Items
run_results run = unwrap_or (option_and_then as_array (get (codes "results") run)) no_items

abbrev pub runs_known : Items → List Known
runs_known no_items = []
runs_known (item run runs) = results_known (run_results run) ++ runs_known runs

-- the version is a text, 2.1.0
abbrev pub has_version : Data → Bool
has_version d = unwrap_or (option_map (bytes_eq (codes "2.1.0")) (text_at (codes "version") d)) false

-- the runs of a report; nothing where it has not the shape of one
abbrev pub runs_of : Data → Option Items
runs_of d = if has_version d then option_and_then as_array (get (codes "runs") d) else None

-- what a report says is known
abbrev pub baseline_of : Data → Option (List Known)
baseline_of d = option_map runs_known (runs_of d)

-- the value that bytes are
abbrev pub value_of : Bytes → Option Data
value_of bytes = if is_utf8 bytes then read bytes else None

-- what bytes say is known
abbrev pub baseline_read : Bytes → Option (List Known)
baseline_read bytes = option_and_then baseline_of (value_of bytes)
