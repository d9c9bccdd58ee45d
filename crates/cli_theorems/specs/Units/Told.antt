-- What is told of a unit that each stage accepts: its report.
use Rattle.std.specs.Prelude.{◌≡◌, ◌⊎◌, ℕ, List, Some}
use Rattle.cc_base.specs.Outside.{Files}
use Rattle.cc_base.specs.declared.diagnostics.Diag.{Diag}
use Rattle.c_layout.specs.declared.data_model.Model.{Model}
use Rattle.c_layout.specs.declared.unit_tokens.Unit7.{Unit7}
use Rattle.c_preproc.specs.Causes.{Seen}
use Rattle.cli_words.specs.Words.Requests.{CommandView}
use Rattle.cli_words.specs.Words.Requests as asked
use Rattle.cli_texts.specs.Reports.{Bytes}
use Rattle.cli_units.specs.Judging.{SettingView}
use Rattle.cli_answers.specs.Outcomes.{Took, PutOnce, Answers}
use Rattle.cli_answers.specs.Verdicts.{Verdict, reported, report_status, report_in, Gives, FromFiles, IsExpanded, IsReport, IsVerdict, check_setting}
use Rattle.cli_theorems.specs.Units.Accepted.{IsAccepted}
use Rattle.cli_theorems.specs.Units.GivenModels.{IsGivenModel}

-- what is held gives tokens that each stage behind the expansion accepts
pub record IsTaken (given : Gives) (s : SettingView) : Type 0 where
  pub names : List Bytes
  pub expanded : Unit7
  pub is_expanded : IsExpanded given s.model names expanded
  pub accepted : IsAccepted expanded s

-- the files are told, a model is given, and the unit is accepted
pub record IsAcceptedCheck (seen : Seen) (c : CommandView) : Type 0 where
  pub held : Files
  pub told : seen.files ≡ Some held
  pub model : Model
  pub given : IsGivenModel held c.model model
  pub taken : IsTaken (FromFiles seen.files c.dirs model c.unit) (check_setting c model)

-- the report of the unit, in the form that is asked for
pub record IsItsReport (seen : Seen) (c : CommandView) (m : Model) (v : Verdict) : Type 0 where
  pub names : List Bytes
  pub diags : List Diag
  pub reports : v ≡ reported c.format names c.unit diags
  pub is_report : IsReport (FromFiles seen.files c.dirs m c.unit) (check_setting c m) names diags

-- a verdict of `check` that is called for is the report
abbrev pub AcceptedIsReported : Type 0
AcceptedIsReported = (seen : Seen) (c : CommandView) (a : IsAcceptedCheck seen c) (v : Verdict) → IsVerdict seen (asked.Check c) v → IsItsReport seen c a.model v

-- the report was put whole, in one call
pub record ToldReport (seen : Seen) (c : CommandView) (m : Model) (sink : Took) (status : ℕ) : Type 0 where
  pub names : List Bytes
  pub diags : List Diag
  pub is_report : IsReport (FromFiles seen.files c.dirs m c.unit) (check_setting c m) names diags
  pub by_status : status ≡ report_status diags
  pub put : PutOnce sink (report_in c.format names c.unit diags)

-- the answer is 0 or 1, with the report; 5, 6 or 7 where a read failed, the write of a text failed, or memory ran out
abbrev pub AcceptedIsAnswered : Type 0
AcceptedIsAnswered =
    (seen : Seen) (c : CommandView) (a : IsAcceptedCheck seen c) (sink : Took) (status : ℕ) → Answers seen (asked.Check c) sink status →
    ToldReport seen c a.model sink status ⊎ ((status ≡ 5) ⊎ ((status ≡ 6) ⊎ (status ≡ 7)))
