-- What is kept of a report while its text is read.
use Rattle.std.specs.Prelude.{◌≡◌, List, Bool, true, false, if◌then◌else◌, Option, None, option_map, option_and_then, unwrap_or, bytes_eq, codes}
use Rattle.json.specs.Token.{Token}
use Rattle.serde_json.specs.Data.{Data, Members, object}
use Rattle.serde_json.specs.Find.{as_str, as_array, get_member}
use Rattle.sarif.specs.declared.known_results.Known.{Known}
use Rattle.sarif.specs.declared.baseline.Report.{Report}
use Rattle.sarif.specs.Baselines.{has_version, runs_known}

-- the token opens an array
abbrev pub begins_list : Token → Bool
begins_list Token.begin_object = false
begins_list Token.end_object = false
begins_list Token.begin_array = true
begins_list Token.end_array = false
begins_list (Token.key s) = false
begins_list (Token.string s) = false
begins_list (Token.number s) = false
begins_list (Token.boolean b) = false
begins_list Token.null = false
begins_list Token.bad = false

-- the token opens an object
abbrev pub begins_object : Token → Bool
begins_object Token.begin_object = true
begins_object Token.end_object = false
begins_object Token.begin_array = false
begins_object Token.end_array = false
begins_object (Token.key s) = false
begins_object (Token.string s) = false
begins_object (Token.number s) = false
begins_object (Token.boolean b) = false
begins_object Token.null = false
begins_object Token.bad = false

-- the value is the version that is read
abbrev pub is_version : Data → Bool
is_version d = unwrap_or (option_map (bytes_eq (codes "2.1.0")) (as_str d)) false

-- what is known of the runs that a value lists; nothing where it is no list
abbrev pub list_known : Data → Option (List Known)
list_known d = option_map runs_known (as_array d)

-- the report has what these members say
abbrev pub Holds : Report → Members → Type 0
Holds report ms = (report.is_of_version ≡ has_version (object ms)) × (option_map (λ v. v.items) report.known ≡ option_and_then list_known (get_member (codes "runs") ms))

-- what a report says is known; nothing where it has not the shape of one
abbrev pub known_in : Report → Option (List Known)
known_in report = if report.is_of_version then option_map (λ v. v.items) report.known else None
