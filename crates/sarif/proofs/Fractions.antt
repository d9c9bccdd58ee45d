-- A report has no fraction.
use Rattle.std.proofs.Common.{◌≡◌, false, List, [], ◌∷◌, refl}
use Rattle.cc_base.specs.declared.diagnostics.Diag.{Diag}
use Rattle.serde_json.specs.View.{items_of}
use Rattle.serde_json.specs.Written.{has_float, items_have_float}
use Rattle.sarif.specs.Uris.{Bytes}
use Rattle.sarif.specs.Reports.{results_data, report_data}

results_are_whole : (names : List Bytes) (ds : List Diag) → items_have_float (items_of (results_data names ds)) ≡ false
results_are_whole names [] = refl
results_are_whole names (d ∷ ds) = results_are_whole names ds

pub report_is_whole : (names : List Bytes) (ds : List Diag) → has_float (report_data (results_data names ds)) ≡ false
report_is_whole names ds = rw (results_are_whole names ds) refl
