-- Where `replay` answers 0 or 1, it has told the pairs of one run, and reports of the same unit hold them.
use Rattle.std.proofs.Common.{◌≡◌, ◌∙◌, inl, inr, ℕ, List, Option, Some, None, ap, arith, subst}
use Rattle.cc_base.specs.Outside.{Files}
use Rattle.c_layout.specs.declared.data_model.Model.{Model}
use Rattle.c_layout.specs.declared.unit_tokens.Unit7.{Unit7}
use Rattle.c_preproc.specs.Causes.{Seen}
use Rattle.interp.specs.Runs.OutcomeViews.{OutcomeView}
use Rattle.cli_words.specs.Words.Requests.{CommandView}
use Rattle.cli_words.specs.Words.Requests as asked
use Rattle.cli_texts.specs.Reports.{Bytes}
use Rattle.cli_units.specs.Judging.{judging, IsJudged}
use Rattle.cli_units.specs.Replaying.{ran}
use Rattle.cli_answers.specs.Outcomes.{Took, PutOnce}
use Rattle.cli_answers.specs.Verdicts as verdict
use Rattle.cli_answers.specs.Verdicts.{Verdict, status_of, text_of, HasModel, RefusesDraws, FromFiles, IsExpanded, IsRunOf, AnswersRun, AnswersReplay, IsVerdict, replay_setting}
use Rattle.cli_theorems.proofs.units.OneUnit.{one_unit}
use Rattle.cli.specs.Command.DefinedRuns.{RunsAreDefined}
use Rattle.cli.specs.Command.AnsweredRuns.{IsAccepting}
use Rattle.cli.specs.Command.ReplayedRuns.{ReplaysAreTold}
use Rattle.cli.specs.Command.ToldReplays.{IsSameUnit, StandsInReports, TellsReplay, ReplaysStandInReports}
use Rattle.cli.proofs.command.AnsweredRuns.{past_one, no_refusal, no_model}
use Rattle.cli.proofs.command.ToldVerdicts.{tells_verdict, no_file}

-- ---- a run

-- the run that a verdict is
record Runs (seen : Seen) (c : CommandView) (draws : Option Bytes) (m : Model) (v : Verdict) : Type 0 where
  names : List Bytes
  outcome : OutcomeView
  is : v ≡ verdict.replayed names c.unit outcome
  run : IsRunOf (FromFiles seen.files c.dirs m c.unit) seen.files draws (replay_setting c m) c.steps names (ran outcome)

made_run : (seen : Seen) (c : CommandView) (draws : Option Bytes) (m : Model) (names : List Bytes) (unit : Bytes) (outcome : OutcomeView) → unit ≡ c.unit → IsRunOf (FromFiles seen.files c.dirs m c.unit) seen.files draws (replay_setting c m) c.steps names (ran outcome) → Runs seen c draws m (verdict.replayed names unit outcome)
made_run seen c draws m names unit outcome named is = record { names = names; outcome = outcome; is = ap (λ (u : Bytes). verdict.replayed names u outcome) named; run = is }

of_run : (seen : Seen) (c : CommandView) (draws : Option Bytes) (m : Model) (v : Verdict) → AnswersRun seen c draws m v → IsAccepting (status_of v) → Runs seen c draws m v
of_run seen c draws m (verdict.absent name) h ok = absurd (past_one 4 (omega arith) ok)
of_run seen c draws m (verdict.refused file why) h ok = absurd (no_refusal why.refusal ok)
of_run seen c draws m (verdict.replayed names unit outcome) (named, run) ok = made_run seen c draws m names unit outcome named run
of_run seen c draws m (verdict.replayed_past file place count limit) h ok = absurd (past_one 8 (omega arith) ok)
of_run seen c draws m verdict.helped h ok = absurd h
of_run seen c draws m verdict.versioned h ok = absurd h
of_run seen c draws m verdict.words_refused h ok = absurd h
of_run seen c draws m (verdict.too_long name) h ok = absurd h
of_run seen c draws m (verdict.no_model name reason) h ok = absurd h
of_run seen c draws m (verdict.no_baseline name) h ok = absurd h
of_run seen c draws m (verdict.no_draws name) h ok = absurd h
of_run seen c draws m (verdict.reported form names unit diags) h ok = absurd h
of_run seen c draws m (verdict.summed unit bases cells diags) h ok = absurd h
of_run seen c draws m (verdict.proved text) h ok = absurd h
of_run seen c draws m (verdict.proved_past unit count) h ok = absurd h
of_run seen c draws m (verdict.cert_refused name why) h ok = absurd h

-- why there are no draws is told with 3 or more
no_draws : (seen : Seen) (draws : Option Bytes) (v : Verdict) → RefusesDraws seen draws v → IsAccepting (status_of v) → ⊥
no_draws seen None v h ok = h
no_draws seen (Some file) (verdict.no_draws name) h ok = past_one 3 (omega arith) ok
no_draws seen (Some file) (verdict.absent name) h ok = no_file seen file (verdict.absent name) h ok
no_draws seen (Some file) (verdict.too_long name) h ok = no_file seen file (verdict.too_long name) h ok
no_draws seen (Some file) (verdict.no_baseline name) h ok = h
no_draws seen (Some file) (verdict.no_model name reason) h ok = h
no_draws seen (Some file) verdict.helped h ok = h
no_draws seen (Some file) verdict.versioned h ok = h
no_draws seen (Some file) verdict.words_refused h ok = h
no_draws seen (Some file) (verdict.refused name why) h ok = h
no_draws seen (Some file) (verdict.reported form names unit diags) h ok = h
no_draws seen (Some file) (verdict.summed unit bases cells diags) h ok = h
no_draws seen (Some file) (verdict.proved text) h ok = h
no_draws seen (Some file) (verdict.proved_past unit count) h ok = h
no_draws seen (Some file) (verdict.cert_refused name why) h ok = h
no_draws seen (Some file) (verdict.replayed names unit outcome) h ok = h
no_draws seen (Some file) (verdict.replayed_past name place count limit) h ok = h

of_replay : (seen : Seen) (c : CommandView) (draws : Option Bytes) (m : Model) (v : Verdict) → AnswersReplay seen c draws m v → IsAccepting (status_of v) → Runs seen c draws m v
of_replay seen c draws m v (inl behind) ok = absurd (no_draws behind.later draws v behind.holds ok)
of_replay seen c draws m v (inr run) ok = of_run seen c draws m v run ok

-- the same from an earlier time on
from_earlier : (seen later : Seen) (c : CommandView) (draws : Option Bytes) (m : Model) (v : Verdict) → later.files ≡ seen.files → Runs later c draws m v → Runs seen c draws m v
from_earlier seen later c draws m v same r = record { names = r.names; outcome = r.outcome; is = r.is; run = subst (λ (fs : Option Files). IsRunOf (FromFiles fs c.dirs m c.unit) fs draws (replay_setting c m) c.steps r.names (ran r.outcome)) same r.run }

-- ---- reports of the same unit

same_unit : (files : Option Files) (dirs : List Bytes) (m : Model) (main : Bytes) (names others : List Bytes) (a b : Unit7) → IsExpanded (FromFiles files dirs m main) m names a → IsExpanded (FromFiles files dirs m main) m others b → IsSameUnit files a b → a ≡ b
same_unit None dirs m main names others a b is also same = same
same_unit (Some held) dirs m main names others a b is also same = one_unit held dirs m main names others a b is also

stands : ReplaysAreTold → (files : Option Files) (c : CommandView) (draws : Option Bytes) (m : Model) (names : List Bytes) (outcome : OutcomeView) (run : IsRunOf (FromFiles files c.dirs m c.unit) files draws (replay_setting c m) c.steps names (ran outcome)) → StandsInReports files c m run.expanded outcome
stands told files c draws m names outcome run turns others diags report same d there =
    let one = same_unit files c.dirs m c.unit others names report.expanded run.expanded report.is_expanded run.is_expanded same in
    let judged = subst (λ (u : Unit7). IsJudged u (judging m c.entry turns) report.found) one report.judged in
    report.listed.kept d (told run.expanded m c.entry turns None report.found run.draws c.steps outcome judged run.replayed d there)

-- ---- the whole

tells : RunsAreDefined → ReplaysAreTold → (seen : Seen) (c : CommandView) (draws : Option Bytes) (sink : Took) (status : ℕ) (v : Verdict) (m : Model) → HasModel seen.files c.model m → status ≡ status_of v → PutOnce sink (text_of v) → Runs seen c draws m v → TellsReplay seen c draws sink status
tells defined told seen c draws sink status v m has by_status put r = record {
  model = m;
  has_model = has;
  names = r.names;
  outcome = r.outcome;
  is_run = r.run;
  by_status = by_status ∙ ap (λ (w : Verdict). status_of w) r.is;
  put = subst (λ (w : Verdict). PutOnce sink (text_of w)) r.is put;
  told = stands told seen.files c draws m r.names r.outcome r.run;
  defined = defined.replayed r.run.expanded (replay_setting c m) r.run.draws c.steps (ran r.outcome) r.run.replayed;
}

by_verdict : RunsAreDefined → ReplaysAreTold → (seen : Seen) (c : CommandView) (draws : Option Bytes) (sink : Took) (status : ℕ) (v : Verdict) → IsVerdict seen (asked.Replay c draws) v → status ≡ status_of v → PutOnce sink (text_of v) → IsAccepting (status_of v) → TellsReplay seen c draws sink status
by_verdict defined told seen c draws sink status v (inl refuses) by_status put ok = absurd (no_model seen c.model v refuses ok)
by_verdict defined told seen c draws sink status v (inr u) by_status put ok = tells defined told seen c draws sink status v u.chosen u.has_model by_status put (from_earlier seen u.later c draws u.chosen v u.is_later.files (of_replay u.later c draws u.chosen v u.answered ok))

pub replays_stand : RunsAreDefined → ReplaysAreTold → ReplaysStandInReports
replays_stand defined told seen c draws sink status is ok =
    let t = tells_verdict seen (asked.Replay c draws) sink status is ok in
    by_verdict defined told seen c draws sink status t.verdict t.called_for t.by_status t.put t.accepts
