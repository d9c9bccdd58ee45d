-- A report has no fraction.
use Rattle.std.proofs.Common.{◌≡◌, false, List, [], ◌∷◌, refl}
use Rattle.cc_base.specs.declared.diagnostics.Diag.{Diag}
use Rattle.serde_json.specs.View.{items_of}
use Rattle.serde_json.specs.Written.{has_float, items_have_float}
use Rattle.cli_texts.specs.Reports.{Bytes}
use Rattle.cli_texts.specs.JsonReports.{diagnostics_data, report_data}

items_are_whole : (names : List Bytes) (unit : Bytes) (ds : List Diag) → items_have_float (items_of (diagnostics_data names unit ds)) ≡ false
items_are_whole names unit [] = refl
items_are_whole names unit (d ∷ ds) = items_are_whole names unit ds

pub report_is_whole : (names : List Bytes) (unit : Bytes) (ds : List Diag) → has_float (report_data unit (diagnostics_data names unit ds)) ≡ false
report_is_whole names unit ds = rw (items_are_whole names unit ds) refl
