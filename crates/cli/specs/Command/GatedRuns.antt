-- The sentence for `gate`: what it answers with 0 or 1 is the report of the unit less what the baseline holds, so each rule
-- that a run of the unit violates is told or held there.
use Rattle.std.specs.Prelude.{◌≡◌, ℕ, List, None}
use Rattle.cc_base.specs.declared.diagnostics.Diag.{Diag}
use Rattle.c_layout.specs.CheckedUnits.{unit_view}
use Rattle.c_layout.specs.declared.data_model.Model.{Model}
use Rattle.c_preproc.specs.Causes.{Seen}
use Rattle.cli_words.specs.Words.Requests.{CommandView}
use Rattle.cli_words.specs.Words.Requests as asked
use Rattle.cli_texts.specs.Reports.{Bytes, report_of}
use Rattle.cli_answers.specs.Baselines.{IsFreshOf}
use Rattle.cli_answers.specs.Outcomes.{Took, PutOnce, Answers}
use Rattle.cli_answers.specs.Verdicts.{report_status, HasModel, FromFiles, IsReport, gate_setting}
use Rattle.cli.specs.Command.DefinedRuns.{IsNeverStuck}
use Rattle.cli.specs.Command.FoundRuns.{HoldsRunsOf}
use Rattle.cli.specs.Command.PlainRuns.{HoldsJustRun}
use Rattle.cli.specs.Command.AnsweredRuns.{IsAccepting}

-- the diagnostics of the unit that the baseline does not hold, put whole and in one call; all of them hold each
-- rule that a run of the checked unit violates, at its place, and none of its runs is stuck; where the unit is
-- plain, each of all of them is that of a syntactic rule or one that its run violates: no turns are unrolled
pub record TellsFreshRuns (seen : Seen) (c : CommandView) (base : Bytes) (sink : Took) (status : ℕ) : Type 0 where
  pub model : Model
  pub has_model : HasModel seen.files c.model model
  pub names : List Bytes
  pub all : List Diag
  pub report : IsReport (FromFiles seen.files c.dirs model c.unit) (gate_setting c model) names all
  pub holds : HoldsRunsOf (unit_view report.judged.checked) all
  pub defined : IsNeverStuck (unit_view report.judged.checked)
  pub plain : HoldsJustRun None report.judged.checked report.judged.flow all
  pub diags : List Diag
  pub fresh : IsFreshOf seen.files base names all diags
  pub by_status : status ≡ report_status diags
  pub put : PutOnce sink (report_of names c.unit diags)

abbrev pub GatesHoldRuns : Type 0
GatesHoldRuns = (seen : Seen) (c : CommandView) (base : Bytes) (sink : Took) (status : ℕ) → Answers seen (asked.Gate c base) sink status → IsAccepting status → TellsFreshRuns seen c base sink status
