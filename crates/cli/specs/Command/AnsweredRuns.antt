-- The sentence: where `check` answers 0 or 1, what it has put holds each rule that a run of the unit violates; of a plain unit
-- nothing more.
use Rattle.std.specs.Prelude.{◌≡◌, ◌⊎◌, ℕ, List}
use Rattle.cc_base.specs.declared.diagnostics.Diag.{Diag}
use Rattle.c_layout.specs.CheckedUnits.{unit_view}
use Rattle.c_layout.specs.declared.data_model.Model.{Model}
use Rattle.c_preproc.specs.Causes.{Seen}
use Rattle.cli_words.specs.Words.Requests.{CommandView}
use Rattle.cli_words.specs.Words.Requests as asked
use Rattle.cli_texts.specs.Reports.{Bytes}
use Rattle.cli_answers.specs.Outcomes.{Took, PutOnce, Answers}
use Rattle.cli_answers.specs.Verdicts.{report_status, report_in, HasModel, FromFiles, IsReport, check_setting}
use Rattle.cli.specs.Command.DefinedRuns.{IsNeverStuck}
use Rattle.cli.specs.Command.FoundRuns.{HoldsRunsOf}
use Rattle.cli.specs.Command.PlainRuns.{HoldsJustRun}

-- the report of the unit, put whole and in one call, and that its diagnostics hold each rule that a run of the
-- checked unit violates, at its place; none of its runs is stuck; and where it is plain, each is that of a
-- syntactic rule or one that its run violates
pub record TellsRuns (seen : Seen) (c : CommandView) (sink : Took) (status : ℕ) : Type 0 where
  pub model : Model
  pub has_model : HasModel seen.files c.model model
  pub names : List Bytes
  pub diags : List Diag
  pub report : IsReport (FromFiles seen.files c.dirs model c.unit) (check_setting c model) names diags
  pub by_status : status ≡ report_status diags
  pub put : PutOnce sink (report_in c.format names c.unit diags)
  pub holds : HoldsRunsOf (unit_view report.judged.checked) diags
  pub defined : IsNeverStuck (unit_view report.judged.checked)
  pub plain : HoldsJustRun c.turns report.judged.checked report.judged.flow diags

-- 0 or 1: of `check`, that the unit was accepted
abbrev pub IsAccepting : ℕ → Type 0
IsAccepting status = (status ≡ 0) ⊎ (status ≡ 1)

abbrev pub AnswersHoldRuns : Type 0
AnswersHoldRuns = (seen : Seen) (c : CommandView) (sink : Took) (status : ℕ) → Answers seen (asked.Check c) sink status → IsAccepting status → TellsRuns seen c sink status
