-- Where `check` answers 0 or 1, it has told a report, and reports hold what runs violate.
use Rattle.std.proofs.Common.{◌≡◌, ◌≤◌, ◌∙◌, inl, inr, ℕ, List, Option, ap, arith, subst}
use Rattle.cc_base.specs.Outside.{Files}
use Rattle.cc_base.specs.declared.diagnostics.Diag.{Diag}
use Rattle.cc_base.specs.declared.refusals.Refusal.{Refusal}
use Rattle.cc_base.specs.declared.refusals.Refusal.TheVariants as refusal
use Rattle.c_layout.specs.declared.data_model.Model.{Model}
use Rattle.c_preproc.specs.Causes.{Seen}
use Rattle.cli_words.specs.declared.words.commands.Format.{Format}
use Rattle.cli_words.specs.Words.Requests.{CommandView}
use Rattle.cli_words.specs.Words.Requests as asked
use Rattle.cli_texts.specs.Reports.{Bytes}
use Rattle.cli_texts.specs.Refusals.{refusal_status}
use Rattle.cli_answers.specs.Outcomes.{Took, PutOnce, Outcome, told, read_fault, write_fault, no_memory, status_at, Happened}
use Rattle.cli_answers.specs.Verdicts as verdict
use Rattle.cli_answers.specs.Verdicts.{Verdict, status_of, text_of, HasModel, RefusesModel, FromFiles, IsReport, AnswersUnit, IsVerdict, check_setting}
use Rattle.cli.specs.Command.DefinedRuns.{RunsAreDefined}
use Rattle.cli.specs.Command.FoundRuns.{ReportsHoldRuns}
use Rattle.cli.specs.Command.PlainRuns.{ReportsHoldJustRuns}
use Rattle.cli.specs.Command.AnsweredRuns.{TellsRuns, IsAccepting, AnswersHoldRuns}

pub past_one : (n : ℕ) → 2 ≤ n → IsAccepting n → ⊥
past_one n past (inl e) = omega (arith, past, e)
past_one n past (inr e) = omega (arith, past, e)

-- no refusal is told with 0 or 1
pub no_refusal : (r : Refusal) → IsAccepting (refusal_status r) → ⊥
no_refusal (refusal.TooManyTokens count limit) h = past_one 8 (omega arith) h
no_refusal (refusal.FileTooLong count limit) h = past_one 8 (omega arith) h
no_refusal (refusal.TooLarge what count limit) h = past_one 8 (omega arith) h
no_refusal _ h = past_one 2 (omega arith) h

-- why there is no model is told with 3 or more
pub no_model : (seen : Seen) (name : Bytes) (v : Verdict) → RefusesModel seen name v → IsAccepting (status_of v) → ⊥
no_model seen name (verdict.absent file) h ok = past_one 4 (omega arith) ok
no_model seen name (verdict.too_long file) h ok = past_one 8 (omega arith) ok
no_model seen name (verdict.no_model file reason) h ok = past_one 3 (omega arith) ok
no_model seen name verdict.helped h ok = h
no_model seen name verdict.versioned h ok = h
no_model seen name verdict.words_refused h ok = h
no_model seen name (verdict.no_baseline file) h ok = h
no_model seen name (verdict.no_draws file) h ok = h
no_model seen name (verdict.refused file why) h ok = h
no_model seen name (verdict.reported form names unit diags) h ok = h
no_model seen name (verdict.summed unit bases cells diags) h ok = h
no_model seen name (verdict.proved text) h ok = h
no_model seen name (verdict.proved_past unit count) h ok = h
no_model seen name (verdict.cert_refused file why) h ok = h
no_model seen name (verdict.replayed names unit outcome) h ok = h
no_model seen name (verdict.replayed_past file place count limit) h ok = h

-- the report that a verdict is
record Reports (seen : Seen) (c : CommandView) (m : Model) (v : Verdict) : Type 0 where
  pub names : List Bytes
  pub diags : List Diag
  pub is : v ≡ verdict.reported c.format names c.unit diags
  pub report : IsReport (FromFiles seen.files c.dirs m c.unit) (check_setting c m) names diags

made_report : (seen : Seen) (c : CommandView) (m : Model) (form : Format) (names : List Bytes) (unit : Bytes) (diags : List Diag) → form ≡ c.format → unit ≡ c.unit → IsReport (FromFiles seen.files c.dirs m c.unit) (check_setting c m) names diags → Reports seen c m (verdict.reported form names unit diags)
made_report seen c m form names unit diags formed named is = record { names = names; diags = diags; is = ap (λ (f : Format). verdict.reported f names unit diags) formed ∙ ap (λ (u : Bytes). verdict.reported c.format names u diags) named; report = is }

of_unit : (seen : Seen) (c : CommandView) (m : Model) (v : Verdict) → AnswersUnit seen c m v → IsAccepting (status_of v) → Reports seen c m v
of_unit seen c m (verdict.absent name) h ok = absurd (past_one 4 (omega arith) ok)
of_unit seen c m (verdict.refused file why) h ok = absurd (no_refusal why.refusal ok)
of_unit seen c m (verdict.reported form names unit diags) (formed, named, report) ok = made_report seen c m form names unit diags formed named report
of_unit seen c m verdict.helped h ok = absurd h
of_unit seen c m verdict.versioned h ok = absurd h
of_unit seen c m verdict.words_refused h ok = absurd h
of_unit seen c m (verdict.too_long name) h ok = absurd h
of_unit seen c m (verdict.no_model name reason) h ok = absurd h
of_unit seen c m (verdict.no_baseline name) h ok = absurd h
of_unit seen c m (verdict.no_draws name) h ok = absurd h
of_unit seen c m (verdict.summed unit bases cells diags) h ok = absurd h
of_unit seen c m (verdict.proved text) h ok = absurd h
of_unit seen c m (verdict.proved_past unit count) h ok = absurd h
of_unit seen c m (verdict.cert_refused name why) h ok = absurd h
of_unit seen c m (verdict.replayed names unit outcome) h ok = absurd h
of_unit seen c m (verdict.replayed_past file place count limit) h ok = absurd h

-- the same from an earlier time on
from_earlier : (seen later : Seen) (c : CommandView) (m : Model) (v : Verdict) → later.files ≡ seen.files → Reports later c m v → Reports seen c m v
from_earlier seen later c m v same r = record { names = r.names; diags = r.diags; is = r.is; report = subst (λ (fs : Option Files). IsReport (FromFiles fs c.dirs m c.unit) (check_setting c m) r.names r.diags) same r.report }

tells : RunsAreDefined → ReportsHoldRuns → ReportsHoldJustRuns → (seen : Seen) (c : CommandView) (sink : Took) (status : ℕ) (text : Bytes) (v : Verdict) (m : Model) → HasModel seen.files c.model m → status ≡ status_of v → text ≡ text_of v → PutOnce sink text → Reports seen c m v → TellsRuns seen c sink status
tells defined holds just seen c sink status text v m has by_status by_text put r = record {
  model = m;
  has_model = has;
  names = r.names;
  diags = r.diags;
  report = r.report;
  by_status = by_status ∙ ap (λ (w : Verdict). status_of w) r.is;
  put = subst (λ (x : Bytes). PutOnce sink x) (by_text ∙ ap (λ (w : Verdict). text_of w) r.is) put;
  holds = holds seen.files c.dirs m c.unit (check_setting c m) r.names r.diags r.report;
  defined = defined.judged r.report.expanded (check_setting c m) r.report.found r.report.judged;
  plain = just seen.files c.dirs m c.unit (check_setting c m) r.names r.diags r.report;
}

by_verdict : RunsAreDefined → ReportsHoldRuns → ReportsHoldJustRuns → (seen : Seen) (c : CommandView) (sink : Took) (status : ℕ) (text : Bytes) (v : Verdict) → IsVerdict seen (asked.Check c) v → status ≡ status_of v → text ≡ text_of v → PutOnce sink text → IsAccepting status → TellsRuns seen c sink status
by_verdict defined holds just seen c sink status text v (inl refuses) by_status by_text put ok = absurd (no_model seen c.model v refuses (subst IsAccepting by_status ok))
by_verdict defined holds just seen c sink status text v (inr u) by_status by_text put ok = tells defined holds just seen c sink status text v u.chosen u.has_model by_status by_text put (from_earlier seen u.later c u.chosen v u.is_later.files (of_unit u.later c u.chosen v u.answered (subst IsAccepting by_status ok)))

by_outcome : RunsAreDefined → ReportsHoldRuns → ReportsHoldJustRuns → (seen : Seen) (c : CommandView) (sink : Took) (status : ℕ) (o : Outcome) → status ≡ status_at o → Happened seen (asked.Check c) sink o → IsAccepting status → TellsRuns seen c sink status
by_outcome defined holds just seen c sink status (told answer text) is (t, put) ok = by_verdict defined holds just seen c sink status text t.verdict t.called_for (is ∙ t.by_status) t.by_text put ok
by_outcome defined holds just seen c sink status read_fault is happened ok = absurd (past_one 5 (omega arith) (subst IsAccepting is ok))
by_outcome defined holds just seen c sink status (write_fault answer text) is happened ok = absurd (past_one 6 (omega arith) (subst IsAccepting is ok))
by_outcome defined holds just seen c sink status no_memory is happened ok = absurd (past_one 7 (omega arith) (subst IsAccepting is ok))

pub answers_hold : RunsAreDefined → ReportsHoldRuns → ReportsHoldJustRuns → AnswersHoldRuns
answers_hold defined holds just seen c sink status is ok = by_outcome defined holds just seen c sink status is.outcome is.by_status is.happened ok
