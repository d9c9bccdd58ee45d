-- Where `gate` answers 0 or 1, it has told what is fresh of a report, and reports hold what runs violate.
use Rattle.std.proofs.Common.{◌≡◌, ◌∙◌, inl, inr, ℕ, List, Option, ap, arith, subst}
use Rattle.cc_base.specs.Outside.{Files}
use Rattle.cc_base.specs.declared.diagnostics.Diag.{Diag}
use Rattle.c_layout.specs.declared.data_model.Model.{Model}
use Rattle.c_preproc.specs.Causes.{Seen}
use Rattle.cli_words.specs.declared.words.commands.Format.{Format}
use Rattle.cli_words.specs.declared.words.commands.Format.TheVariants as format
use Rattle.cli_words.specs.Words.Requests.{CommandView}
use Rattle.cli_words.specs.Words.Requests as asked
use Rattle.cli_texts.specs.Reports.{Bytes}
use Rattle.cli_answers.specs.Outcomes.{Took, PutOnce, Outcome, told, read_fault, write_fault, no_memory, status_at, Happened}
use Rattle.cli_answers.specs.Verdicts as verdict
use Rattle.cli_answers.specs.Verdicts.{Verdict, status_of, text_of, HasModel, RefusesBase, FromFiles, IsFreshReport, AnswersFresh, AnswersGate, IsVerdict, gate_setting}
use Rattle.cli.specs.Command.DefinedRuns.{RunsAreDefined}
use Rattle.cli.specs.Command.FoundRuns.{ReportsHoldRuns}
use Rattle.cli.specs.Command.PlainRuns.{ReportsHoldJustRuns}
use Rattle.cli.specs.Command.AnsweredRuns.{IsAccepting}
use Rattle.cli.specs.Command.GatedRuns.{TellsFreshRuns, GatesHoldRuns}
use Rattle.cli.proofs.command.AnsweredRuns.{past_one, no_refusal, no_model}

-- why there is no baseline is told with 3 or more
no_base : (seen : Seen) (base : Bytes) (v : Verdict) → RefusesBase seen base v → IsAccepting (status_of v) → ⊥
no_base seen base (verdict.absent file) h ok = past_one 4 (omega arith) ok
no_base seen base (verdict.too_long file) h ok = past_one 8 (omega arith) ok
no_base seen base (verdict.no_baseline file) h ok = past_one 3 (omega arith) ok
no_base seen base (verdict.no_model file reason) h ok = h
no_base seen base verdict.helped h ok = h
no_base seen base verdict.versioned h ok = h
no_base seen base verdict.words_refused h ok = h
no_base seen base (verdict.no_draws file) h ok = h
no_base seen base (verdict.refused file why) h ok = h
no_base seen base (verdict.reported form names unit diags) h ok = h
no_base seen base (verdict.summed unit bases cells diags) h ok = h
no_base seen base (verdict.proved text) h ok = h
no_base seen base (verdict.proved_past unit count) h ok = h
no_base seen base (verdict.cert_refused file why) h ok = h
no_base seen base (verdict.replayed names unit outcome) h ok = h
no_base seen base (verdict.replayed_past file place count limit) h ok = h

-- the fresh report that a verdict is
record Freshens (seen : Seen) (c : CommandView) (base : Bytes) (m : Model) (v : Verdict) : Type 0 where
  names : List Bytes
  diags : List Diag
  is : v ≡ verdict.reported format.Text names c.unit diags
  report : IsFreshReport (FromFiles seen.files c.dirs m c.unit) seen.files base (gate_setting c m) names diags

made_fresh : (seen : Seen) (c : CommandView) (base : Bytes) (m : Model) (form : Format) (names : List Bytes) (unit : Bytes) (diags : List Diag) → form ≡ format.Text → unit ≡ c.unit → IsFreshReport (FromFiles seen.files c.dirs m c.unit) seen.files base (gate_setting c m) names diags → Freshens seen c base m (verdict.reported form names unit diags)
made_fresh seen c base m form names unit diags formed named is = record { names = names; diags = diags; is = ap (λ (f : Format). verdict.reported f names unit diags) formed ∙ ap (λ (u : Bytes). verdict.reported format.Text names u diags) named; report = is }

of_fresh : (seen : Seen) (c : CommandView) (base : Bytes) (m : Model) (v : Verdict) → AnswersFresh seen c base m v → IsAccepting (status_of v) → Freshens seen c base m v
of_fresh seen c base m (verdict.absent name) h ok = absurd (past_one 4 (omega arith) ok)
of_fresh seen c base m (verdict.refused file why) h ok = absurd (no_refusal why.refusal ok)
of_fresh seen c base m (verdict.reported form names unit diags) (formed, named, report) ok = made_fresh seen c base m form names unit diags formed named report
of_fresh seen c base m verdict.helped h ok = absurd h
of_fresh seen c base m verdict.versioned h ok = absurd h
of_fresh seen c base m verdict.words_refused h ok = absurd h
of_fresh seen c base m (verdict.too_long name) h ok = absurd h
of_fresh seen c base m (verdict.no_model name reason) h ok = absurd h
of_fresh seen c base m (verdict.no_baseline name) h ok = absurd h
of_fresh seen c base m (verdict.no_draws name) h ok = absurd h
of_fresh seen c base m (verdict.summed unit bases cells diags) h ok = absurd h
of_fresh seen c base m (verdict.proved text) h ok = absurd h
of_fresh seen c base m (verdict.proved_past unit count) h ok = absurd h
of_fresh seen c base m (verdict.cert_refused name why) h ok = absurd h
of_fresh seen c base m (verdict.replayed names unit outcome) h ok = absurd h
of_fresh seen c base m (verdict.replayed_past file place count limit) h ok = absurd h

of_gate : (seen : Seen) (c : CommandView) (base : Bytes) (m : Model) (v : Verdict) → AnswersGate seen c base m v → IsAccepting (status_of v) → Freshens seen c base m v
of_gate seen c base m v (inl behind) ok = absurd (no_base behind.later base v behind.holds ok)
of_gate seen c base m v (inr fresh) ok = of_fresh seen c base m v fresh ok

-- the same from an earlier time on
from_earlier : (seen later : Seen) (c : CommandView) (base : Bytes) (m : Model) (v : Verdict) → later.files ≡ seen.files → Freshens later c base m v → Freshens seen c base m v
from_earlier seen later c base m v same r = record { names = r.names; diags = r.diags; is = r.is; report = subst (λ (fs : Option Files). IsFreshReport (FromFiles fs c.dirs m c.unit) fs base (gate_setting c m) r.names r.diags) same r.report }

tells : RunsAreDefined → ReportsHoldRuns → ReportsHoldJustRuns → (seen : Seen) (c : CommandView) (base : Bytes) (sink : Took) (status : ℕ) (text : Bytes) (v : Verdict) (m : Model) → HasModel seen.files c.model m → status ≡ status_of v → text ≡ text_of v → PutOnce sink text → Freshens seen c base m v → TellsFreshRuns seen c base sink status
tells defined holds just seen c base sink status text v m has by_status by_text put r = record {
  model = m;
  has_model = has;
  names = r.names;
  all = r.report.all;
  report = r.report.report;
  holds = holds seen.files c.dirs m c.unit (gate_setting c m) r.names r.report.all r.report.report;
  diags = r.diags;
  fresh = r.report.fresh;
  by_status = by_status ∙ ap (λ (w : Verdict). status_of w) r.is;
  put = subst (λ (x : Bytes). PutOnce sink x) (by_text ∙ ap (λ (w : Verdict). text_of w) r.is) put;
  defined = defined.judged r.report.report.expanded (gate_setting c m) r.report.report.found r.report.report.judged;
  plain = just seen.files c.dirs m c.unit (gate_setting c m) r.names r.report.all r.report.report;
}

by_verdict : RunsAreDefined → ReportsHoldRuns → ReportsHoldJustRuns → (seen : Seen) (c : CommandView) (base : Bytes) (sink : Took) (status : ℕ) (text : Bytes) (v : Verdict) → IsVerdict seen (asked.Gate c base) v → status ≡ status_of v → text ≡ text_of v → PutOnce sink text → IsAccepting status → TellsFreshRuns seen c base sink status
by_verdict defined holds just seen c base sink status text v (inl refuses) by_status by_text put ok = absurd (no_model seen c.model v refuses (subst IsAccepting by_status ok))
by_verdict defined holds just seen c base sink status text v (inr u) by_status by_text put ok = tells defined holds just seen c base sink status text v u.chosen u.has_model by_status by_text put (from_earlier seen u.later c base u.chosen v u.is_later.files (of_gate u.later c base u.chosen v u.answered (subst IsAccepting by_status ok)))

by_outcome : RunsAreDefined → ReportsHoldRuns → ReportsHoldJustRuns → (seen : Seen) (c : CommandView) (base : Bytes) (sink : Took) (status : ℕ) (o : Outcome) → status ≡ status_at o → Happened seen (asked.Gate c base) sink o → IsAccepting status → TellsFreshRuns seen c base sink status
by_outcome defined holds just seen c base sink status (told answer text) is (t, put) ok = by_verdict defined holds just seen c base sink status text t.verdict t.called_for (is ∙ t.by_status) t.by_text put ok
by_outcome defined holds just seen c base sink status read_fault is happened ok = absurd (past_one 5 (omega arith) (subst IsAccepting is ok))
by_outcome defined holds just seen c base sink status (write_fault answer text) is happened ok = absurd (past_one 6 (omega arith) (subst IsAccepting is ok))
by_outcome defined holds just seen c base sink status no_memory is happened ok = absurd (past_one 7 (omega arith) (subst IsAccepting is ok))

pub gates_hold : RunsAreDefined → ReportsHoldRuns → ReportsHoldJustRuns → GatesHoldRuns
gates_hold defined holds just seen c base sink status is ok = by_outcome defined holds just seen c base sink status is.outcome is.by_status is.happened ok
