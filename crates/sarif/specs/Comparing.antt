-- Diagnostics that a baseline does not hold.
use Rattle.std.specs.Prelude.{ℕ, List, Bool, false, not, ◌&&◌, ◌==◌, bytes_eq, filter, slice_get, option_map, unwrap_or}
use Rattle.std.specs.List.{list_any}
use Rattle.cc_base.specs.declared.diagnostics.Diag.{Diag}
use Rattle.cc_base.specs.declared.diagnostics.Rule.{Rule}
use Rattle.cc_base.specs.DiagnosticOrder.{rule_rank}
use Rattle.sarif.specs.declared.known_results.Known.{Known}
use Rattle.sarif.specs.Uris.{Bytes}

-- a known result has this file name, line, column and rule
abbrev pub is_at : Known → Bytes → ℕ → ℕ → Rule → Bool
is_at known file line col rule = bytes_eq known.file file && ((known.line == line) && ((known.col == col) && (rule_rank known.rule == rule_rank rule)))

-- some known result has this file name, line, column and rule
abbrev pub holds : List Known → Bytes → ℕ → ℕ → Rule → Bool
holds known file line col rule = list_any (λ x. is_at x file line col rule) known

-- a diagnostic is known; none is whose file is no index
abbrev pub is_known : List Bytes → List Known → Diag → Bool
is_known names known d = unwrap_or (option_map (λ file. holds known file d.place.line d.place.col d.rule) (slice_get names d.place.file)) false

-- the diagnostics, in order, that are not known
abbrev pub fresh_of : List Bytes → List Known → List Diag → List Diag
fresh_of names known diags = filter (λ d. not (is_known names known d)) diags
