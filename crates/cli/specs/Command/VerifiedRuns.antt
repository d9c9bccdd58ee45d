-- The sentence for `verify`: what it answers with 0 or 1 is what an accepted certificate of the unit shows.
use Rattle.std.specs.Prelude.{◌≡◌, ℕ, List}
use Rattle.cc_base.specs.declared.diagnostics.Diag.{Diag}
use Rattle.c_layout.specs.CheckedUnits.{unit_view}
use Rattle.c_layout.specs.declared.data_model.Model.{Model}
use Rattle.c_preproc.specs.Causes.{Seen}
use Rattle.cli_words.specs.Words.Requests.{CommandView}
use Rattle.cli_words.specs.Words.Requests as asked
use Rattle.cli_texts.specs.Reports.{Bytes, report_of}
use Rattle.cli_units.specs.Certifying.{shows}
use Rattle.cli_answers.specs.Outcomes.{Took, PutOnce, Answers}
use Rattle.cli_answers.specs.Verdicts.{report_status, HasModel, FromFiles, IsCheckedBy, cert_setting}
use Rattle.cli.specs.Command.DefinedRuns.{IsNeverStuck}
use Rattle.cli.specs.Command.FoundRuns.{HoldsRunsOf}
use Rattle.cli.specs.Command.AnsweredRuns.{IsAccepting}

-- what the certificate shows of the unit, put whole and in one call, and that it holds each rule that a run of the checked
-- unit violates, at its place; none of its runs is stuck
pub record TellsVerifiedRuns (seen : Seen) (c : CommandView) (cert : Bytes) (sink : Took) (status : ℕ) : Type 0 where
  pub model : Model
  pub has_model : HasModel seen.files c.model model
  pub names : List Bytes
  pub diags : List Diag
  pub is_checked : IsCheckedBy (FromFiles seen.files c.dirs model c.unit) seen.files cert (cert_setting c model) names (shows diags)
  pub by_status : status ≡ report_status diags
  pub put : PutOnce sink (report_of names c.unit diags)
  pub holds : HoldsRunsOf (unit_view is_checked.verifies.program.checked) diags
  pub defined : IsNeverStuck (unit_view is_checked.verifies.program.checked)

abbrev pub VerifiedHoldRuns : Type 0
VerifiedHoldRuns =
    (seen : Seen) (c : CommandView) (cert : Bytes) (sink : Took) (status : ℕ) → Answers seen (asked.Verify c cert) sink status → IsAccepting status → TellsVerifiedRuns seen c cert sink status
