-- Of an accepted unit no verdict but its report is called for, so each answer is that report or a failure.
use Rattle.std.proofs.Common.{◌≡◌, ◌∙◌, ◌⊎◌, inl, inr, ℕ, Option, ap, sym, subst}
use Rattle.c_preproc.specs.Causes.{Seen}
use Rattle.cli_words.specs.Words.Requests.{Asked, CommandView}
use Rattle.cli_words.specs.Words.Requests as asked
use Rattle.cli_texts.specs.Reports.{Bytes}
use Rattle.cli_answers.specs.Outcomes.{Took, PutOnce, Outcome, told, read_fault, write_fault, no_memory, status_at, Happened, Answers}
use Rattle.cli_answers.specs.Verdicts.{Verdict, status_of, text_of, AnswersGate, AnswersProve, AnswersVerify, AnswersReplay, IsVerdict}
use Rattle.cli_theorems.specs.Units.Told.{IsAcceptedCheck, ToldReport, AcceptedIsReported}
use Rattle.cli_theorems.specs.Units.ToldLoad.{IsAcceptedLoad, AcceptedIsSummed}
use Rattle.cli.specs.Command.AnsweredRuns.{IsAccepting}
use Rattle.cli.specs.Command.CompleteAnswers.{ToldSummary, GaveOut, IsAcceptedUnit, IsHeldShort, IsHeldBaseline, AreHeldDraws, IsComplete}
use Rattle.cli.proofs.command.AcceptedVerbs.{by_model, taken_of, gate_accepts, prove_accepts, verify_accepts, replay_accepts}

-- a text that is called for was told, or a device gave out, or memory did
by_outcome : (seen : Seen) (words : Asked) (sink : Took) (status : ℕ) (P : Type 0) → ((v : Verdict) → IsVerdict seen words v → status ≡ status_of v → PutOnce sink (text_of v) → P) → (o : Outcome) → status ≡ status_at o → Happened seen words sink o → P ⊎ GaveOut seen sink status
by_outcome seen words sink status P tell (told answer text) is (t, put) = inl (tell t.verdict t.called_for (is ∙ t.by_status) (subst (λ (x : Bytes). PutOnce sink x) t.by_text put))
by_outcome seen words sink status P tell read_fault is (rose, nothing) = inr (inl (is, rose, nothing))
by_outcome seen words sink status P tell (write_fault answer text) is (t, failed) = inr (inr (inl (is, failed.fault)))
by_outcome seen words sink status P tell no_memory is nothing = inr (inr (inr (is, nothing)))

told_report : AcceptedIsReported → (seen : Seen) (c : CommandView) (a : IsAcceptedCheck seen c) (sink : Took) (status : ℕ) (v : Verdict) → IsVerdict seen (asked.Check c) v → status ≡ status_of v → PutOnce sink (text_of v) → ToldReport seen c a.model sink status
told_report reported seen c a sink status v called_for by_status put =
    let r = reported seen c a v called_for in
    record { names = r.names; diags = r.diags; is_report = r.is_report; by_status = by_status ∙ ap (λ (w : Verdict). status_of w) r.reports; put = subst (λ (w : Verdict). PutOnce sink (text_of w)) r.reports put }

told_summary : AcceptedIsSummed → (seen : Seen) (c : CommandView) (a : IsAcceptedLoad seen c) (sink : Took) (status : ℕ) (v : Verdict) → IsVerdict seen (asked.Load c) v → status ≡ status_of v → PutOnce sink (text_of v) → ToldSummary seen c a.model sink status
told_summary summed seen c a sink status v called_for by_status put =
    let r = summed seen c a v called_for in
    record { names = r.names; bases = r.bases; cells = r.cells; diags = r.diags; is_summary = r.is_summary; by_status = by_status ∙ ap (λ (w : Verdict). status_of w) r.sums; put = subst (λ (w : Verdict). PutOnce sink (text_of w)) r.sums put }

check_complete : AcceptedIsReported → (seen : Seen) (c : CommandView) (sink : Took) (status : ℕ) → Answers seen (asked.Check c) sink status → (a : IsAcceptedCheck seen c) → ToldReport seen c a.model sink status ⊎ GaveOut seen sink status
check_complete reported seen c sink status is a = by_outcome seen (asked.Check c) sink status (ToldReport seen c a.model sink status) (told_report reported seen c a sink status) is.outcome is.by_status is.happened

load_complete : AcceptedIsSummed → (seen : Seen) (c : CommandView) (sink : Took) (status : ℕ) → Answers seen (asked.Load c) sink status → (a : IsAcceptedLoad seen c) → ToldSummary seen c a.model sink status ⊎ GaveOut seen sink status
load_complete summed seen c sink status is a = by_outcome seen (asked.Load c) sink status (ToldSummary seen c a.model sink status) (told_summary summed seen c a sink status) is.outcome is.by_status is.happened

-- ---- the verbs that read files beside the unit

by_verdict : (seen : Seen) (words : Asked) (sink : Took) (status : ℕ) (P : ℕ → Type 0) → ((v : Verdict) → IsVerdict seen words v → P (status_of v)) → Answers seen words sink status → P status ⊎ GaveOut seen sink status
by_verdict seen words sink status P tell is = by_outcome seen words sink status (P status) (λ v called_for by_status put. subst P (sym by_status) (tell v called_for)) is.outcome is.by_status is.happened

gate_complete : (seen : Seen) (c : CommandView) (base : Bytes) (sink : Took) (status : ℕ) → Answers seen (asked.Gate c base) sink status → (a : IsAcceptedUnit seen c) → IsHeldBaseline a.held base → IsAccepting status ⊎ GaveOut seen sink status
gate_complete seen c base sink status is a b =
    by_verdict seen (asked.Gate c base) sink status IsAccepting
    (λ v called_for. by_model seen c a v (λ later m. AnswersGate later c base m v) (IsAccepting (status_of v)) (λ later told h. gate_accepts later a.held c base a.model told (taken_of seen c a) b v h) called_for) is

prove_complete : (seen : Seen) (c : CommandView) (sink : Took) (status : ℕ) → Answers seen (asked.Prove c) sink status → (a : IsAcceptedUnit seen c) → ((status ≡ 0) ⊎ (status ≡ 8)) ⊎ GaveOut seen sink status
prove_complete seen c sink status is a =
    by_verdict seen (asked.Prove c) sink status (λ n. (n ≡ 0) ⊎ (n ≡ 8))
    (λ v called_for. by_model seen c a v (λ later m. AnswersProve later c m v) ((status_of v ≡ 0) ⊎ (status_of v ≡ 8)) (λ later told h. prove_accepts later a.held c a.model told (taken_of seen c a) v h) called_for) is

verify_complete : (seen : Seen) (c : CommandView) (cert : Bytes) (sink : Took) (status : ℕ) → Answers seen (asked.Verify c cert) sink status → (a : IsAcceptedUnit seen c) → IsHeldShort a.held cert → (IsAccepting status ⊎ (status ≡ 9)) ⊎ GaveOut seen sink status
verify_complete seen c cert sink status is a f =
    by_verdict seen (asked.Verify c cert) sink status (λ n. IsAccepting n ⊎ (n ≡ 9))
    (λ v called_for. by_model seen c a v (λ later m. AnswersVerify later c cert m v) (IsAccepting (status_of v) ⊎ (status_of v ≡ 9)) (λ later told h. verify_accepts later a.held c cert a.model told (taken_of seen c a) f v h) called_for) is

replay_complete : (seen : Seen) (c : CommandView) (draws : Option Bytes) (sink : Took) (status : ℕ) → Answers seen (asked.Replay c draws) sink status → (a : IsAcceptedUnit seen c) → AreHeldDraws a.held draws → (IsAccepting status ⊎ (status ≡ 8)) ⊎ GaveOut seen sink status
replay_complete seen c draws sink status is a d =
    by_verdict seen (asked.Replay c draws) sink status (λ n. IsAccepting n ⊎ (n ≡ 8))
    (λ v called_for. by_model seen c a v (λ later m. AnswersReplay later c draws m v) (IsAccepting (status_of v) ⊎ (status_of v ≡ 8)) (λ later told h. replay_accepts later a.held c draws a.model told (taken_of seen c a) d v h) called_for) is

-- ---- the whole

pub complete : AcceptedIsReported → AcceptedIsSummed → (seen : Seen) (words : Asked) (sink : Took) (status : ℕ) → Answers seen words sink status → IsComplete seen words sink status
complete reported summed seen words sink status is =
    let asking : (w : Asked) → words ≡ w → Answers seen w sink status = λ w asks. subst (λ (x : Asked). Answers seen x sink status) asks is in
    record {
      check = λ c asks a. check_complete reported seen c sink status (asking (asked.Check c) asks) a;
      load = λ c asks a. load_complete summed seen c sink status (asking (asked.Load c) asks) a;
      gate = λ c base asks a b. gate_complete seen c base sink status (asking (asked.Gate c base) asks) a b;
      prove = λ c asks a. prove_complete seen c sink status (asking (asked.Prove c) asks) a;
      verify = λ c cert asks a f. verify_complete seen c cert sink status (asking (asked.Verify c cert) asks) a f;
      replay = λ c draws asks a d. replay_complete seen c draws sink status (asking (asked.Replay c draws) asks) a d;
    }
