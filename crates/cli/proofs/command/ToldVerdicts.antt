-- An answer 0 or 1 has told a verdict that was called for, whole and in one call.
use Rattle.std.proofs.Common.{◌≡◌, ◌∙◌, ℕ, arith, subst}
use Rattle.c_preproc.specs.Causes.{Seen}
use Rattle.cli_words.specs.Words.Requests.{Asked}
use Rattle.cli_answers.specs.Outcomes.{Took, PutOnce, Outcome, told, read_fault, write_fault, no_memory, status_at, Happened, Answers}
use Rattle.cli_answers.specs.Verdicts as verdict
use Rattle.cli_answers.specs.Verdicts.{Verdict, status_of, text_of, RefusesFile, IsVerdict}
use Rattle.cli.specs.Command.AnsweredRuns.{IsAccepting}
use Rattle.cli.proofs.command.AnsweredRuns.{past_one}
use Rattle.cli_texts.specs.Reports.{Bytes}

pub record TellsVerdict (seen : Seen) (words : Asked) (sink : Took) (status : ℕ) : Type 0 where
  pub verdict : Verdict
  pub called_for : IsVerdict seen words verdict
  pub by_status : status ≡ status_of verdict
  pub put : PutOnce sink (text_of verdict)
  pub accepts : IsAccepting (status_of verdict)

by_outcome : (seen : Seen) (words : Asked) (sink : Took) (status : ℕ) (o : Outcome) → status ≡ status_at o → Happened seen words sink o → IsAccepting status → TellsVerdict seen words sink status
by_outcome seen words sink status (told answer text) is (t, put) ok = record {
  verdict = t.verdict;
  called_for = t.called_for;
  by_status = is ∙ t.by_status;
  put = subst (λ (x : Bytes). PutOnce sink x) t.by_text put;
  accepts = subst IsAccepting (is ∙ t.by_status) ok;
}
by_outcome seen words sink status read_fault is happened ok = absurd (past_one 5 (omega arith) (subst IsAccepting is ok))
by_outcome seen words sink status (write_fault answer text) is happened ok = absurd (past_one 6 (omega arith) (subst IsAccepting is ok))
by_outcome seen words sink status no_memory is happened ok = absurd (past_one 7 (omega arith) (subst IsAccepting is ok))

pub tells_verdict : (seen : Seen) (words : Asked) (sink : Took) (status : ℕ) → Answers seen words sink status → IsAccepting status → TellsVerdict seen words sink status
tells_verdict seen words sink status is ok = by_outcome seen words sink status is.outcome is.by_status is.happened ok

-- why a further file cannot be had is told with 4 or 8
pub no_file : (seen : Seen) (name : Bytes) (v : Verdict) → RefusesFile seen name v → IsAccepting (status_of v) → ⊥
no_file seen name (verdict.absent file) h ok = past_one 4 (omega arith) ok
no_file seen name (verdict.too_long file) h ok = past_one 8 (omega arith) ok
no_file seen name (verdict.no_baseline file) h ok = h
no_file seen name (verdict.no_model file reason) h ok = h
no_file seen name verdict.helped h ok = h
no_file seen name verdict.versioned h ok = h
no_file seen name verdict.words_refused h ok = h
no_file seen name (verdict.no_draws file) h ok = h
no_file seen name (verdict.refused file why) h ok = h
no_file seen name (verdict.reported form names unit diags) h ok = h
no_file seen name (verdict.summed unit bases cells diags) h ok = h
no_file seen name (verdict.proved text) h ok = h
no_file seen name (verdict.proved_past unit count) h ok = h
no_file seen name (verdict.cert_refused file why) h ok = h
no_file seen name (verdict.replayed names unit outcome) h ok = h
no_file seen name (verdict.replayed_past file place count limit) h ok = h
