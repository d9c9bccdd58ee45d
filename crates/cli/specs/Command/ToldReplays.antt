-- What `replay` answers with 0 or 1: the pairs of one run, and that the reports of the same unit hold them.
use Rattle.std.specs.Prelude.{◌≡◌, ℕ, List, Option, Some, None}
use Rattle.std.specs.List.{Contains}
use Rattle.cc_base.specs.Outside.{Files}
use Rattle.cc_base.specs.declared.diagnostics.Diag.{Diag}
use Rattle.c_layout.specs.CheckedUnits.{unit_view}
use Rattle.c_layout.specs.declared.data_model.Model.{Model}
use Rattle.c_layout.specs.declared.unit_tokens.Unit7.{Unit7}
use Rattle.c_preproc.specs.Causes.{Seen}
use Rattle.interp.specs.Runs.OutcomeViews.{OutcomeView}
use Rattle.cli_words.specs.Words.Requests.{CommandView}
use Rattle.cli_words.specs.Words.Requests as asked
use Rattle.cli_texts.specs.Reports.{Bytes, replay_of}
use Rattle.cli_units.specs.Judging.{judging}
use Rattle.cli_units.specs.Replaying.{end_word, ran}
use Rattle.cli_answers.specs.Outcomes.{Took, PutOnce, Answers}
use Rattle.cli_answers.specs.Verdicts.{report_status, HasModel, FromFiles, IsReport, IsRunOf, replay_setting}
use Rattle.cli.specs.Command.AnsweredRuns.{IsAccepting}
use Rattle.cli.specs.Command.DefinedRuns.{IsNeverStuck}

-- two expansions from the same files came to the same unit; where the files are told, each does
abbrev pub IsSameUnit : Option Files → Unit7 → Unit7 → Type 0
IsSameUnit None a b = a ≡ b
IsSameUnit (Some held) a b = Unit {0}

-- each pair of a run is in each report that `check` has of the unit from the same entry on, however many turns are unrolled
abbrev pub StandsInReports : Option Files → CommandView → Model → Unit7 → OutcomeView → Type 0
StandsInReports files c m unit outcome =
    (turns : Option ℕ) (names : List Bytes) (diags : List Diag) (report : IsReport (FromFiles files c.dirs m c.unit) (judging m c.entry turns) names diags) → IsSameUnit files report.expanded unit
    → (d : Diag) → Contains outcome.diags d → Contains diags d

-- the pairs of the run, put whole and in one call, and that they stand in reports; so no run that is told as `left` is stuck
pub record TellsReplay (seen : Seen) (c : CommandView) (draws : Option Bytes) (sink : Took) (status : ℕ) : Type 0 where
  pub model : Model
  pub has_model : HasModel seen.files c.model model
  pub names : List Bytes
  pub outcome : OutcomeView
  pub is_run : IsRunOf (FromFiles seen.files c.dirs model c.unit) seen.files draws (replay_setting c model) c.steps names (ran outcome)
  pub by_status : status ≡ report_status outcome.diags
  pub put : PutOnce sink (replay_of names c.unit outcome.diags (end_word outcome.end) outcome.used)
  pub told : StandsInReports seen.files c model is_run.expanded outcome
  pub defined : IsNeverStuck (unit_view is_run.replayed.checked)

abbrev pub ReplaysStandInReports : Type 0
ReplaysStandInReports =
    (seen : Seen) (c : CommandView) (draws : Option Bytes) (sink : Took) (status : ℕ) → Answers seen (asked.Replay c draws) sink status → IsAccepting status → TellsReplay seen c draws sink status
