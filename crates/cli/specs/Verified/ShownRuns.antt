-- What `verify` shows of a plain unit by a text that `prove` was called to tell: just what the unit's run violates.
-- The text of a map that is not the least one may show more.
use Rattle.std.specs.Prelude.{◌↔◌, ℕ, List}
use Rattle.std.specs.List.{Contains}
use Rattle.cc_base.specs.declared.diagnostics.Diag.{Diag}
use Rattle.c_layout.specs.CheckedUnits.{unit_view}
use Rattle.c_layout.specs.declared.checked_tree.checked_units.Checked.{Checked}
use Rattle.c_layout.specs.declared.unit_tokens.Unit7.{Unit7}
use Rattle.c_preproc.specs.Causes.{Seen}
use Rattle.cfg.specs.declared.programs.Flow.{Flow}
use Rattle.typed_lowering.specs.Units.PlainUnits.{IsPlainUnit}
use Rattle.unit_exact.specs.Units.SingleUnits.{RunViolates}
use Rattle.cli_words.specs.Words.Requests.{CommandView}
use Rattle.cli_texts.specs.Reports.{Bytes}
use Rattle.cli_units.specs.Judging.{SettingView}
use Rattle.cli_units.specs.Certifying.{IsProved, shows, IsVerifiedUnit}
use Rattle.cli_answers.specs.Outcomes.{Took}
use Rattle.cli_theorems.specs.Certificates.ProvedTexts.{HoldsProved}
use Rattle.cli.specs.Command.VerifiedRuns.{TellsVerifiedRuns}

-- the pairs are those that the run of the unit under no numbers of the outside violates, where the unit is plain
abbrev pub ShowsJustRun : Checked → Flow → List Diag → Type 0
ShowsJustRun checked program shown = IsPlainUnit (unit_view checked) program → (d : Diag) → Contains shown d ↔ RunViolates (unit_view checked) (record { at = d.place; rule = d.rule })

-- so are those that a proved text of the unit shows
abbrev pub ProvedTextsShowJustRuns : Type 0
ProvedTextsShowJustRuns = (unit : Unit7) (s : SettingView) (text : Bytes) → IsProved unit s text → (shown : List Diag) (verified : IsVerifiedUnit unit s text (shows shown)) → ShowsJustRun verified.program.checked verified.flow shown

-- and those that `verify` has put with 0 or 1, where its certificate is such a text
abbrev pub VerifiedHoldJustRuns : Type 0
VerifiedHoldJustRuns = (seen : Seen) (c : CommandView) (cert : Bytes) (sink : Took) (status : ℕ) → HoldsProved seen c cert → (told : TellsVerifiedRuns seen c cert sink status)
    → ShowsJustRun told.is_checked.verifies.program.checked told.is_checked.verifies.flow told.diags
