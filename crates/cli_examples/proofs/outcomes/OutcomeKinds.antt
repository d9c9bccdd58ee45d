-- A status tells what happened.
use Rattle.std.proofs.Common.{◌≡◌, ◌∙◌, ◌++◌, ℕ, List, [], ◌∷◌, Option, Some, None, ap, sym, subst, arith}
use Rattle.cc_base.specs.Outside.{Appends}
use Rattle.cc_base.specs.declared.diagnostics.Diag.{Diag}
use Rattle.cc_base.specs.declared.refusals.Refusal.{Refusal}
use Rattle.cc_base.specs.declared.refusals.Refusal.TheVariants as refusal
use Rattle.c_preproc.specs.Causes.{Seen}
use Rattle.cli_texts.specs.Refusals.{refusal_status}
use Rattle.cli_texts.specs.Reports.{Bytes}
use Rattle.cli_words.specs.Words.Requests.{Asked}
use Rattle.cli_answers.specs.Outcomes.{Took, PutOnce, Outcome, told, read_fault, write_fault, no_memory, status_at, Happened, Answers}
use Rattle.cli_answers.specs.Verdicts as verdict
use Rattle.cli_answers.specs.Verdicts.{Verdict, status_of, report_status, Tells, IsVerdict}
use Rattle.cli_examples.specs.Outcomes.OutcomeKinds.{IsTold, IsAlike, IsByStatus}

-- ---- no verdict has the status of a fault

two : IsTold 2
two = ((λ e. omega (arith, e)), (λ e. omega (arith, e)), (λ e. omega (arith, e)))

eight : IsTold 8
eight = ((λ e. omega (arith, e)), (λ e. omega (arith, e)), (λ e. omega (arith, e)))

of_refusal : (r : Refusal) → IsTold (refusal_status r)
of_refusal (refusal.TooManyTokens count limit) = eight
of_refusal (refusal.FileTooLong count limit) = eight
of_refusal (refusal.TooLarge what count limit) = eight
of_refusal _ = two

zero_told : IsTold 0
zero_told = ((λ e. omega (arith, e)), (λ e. omega (arith, e)), (λ e. omega (arith, e)))

one_told : IsTold 1
one_told = ((λ e. omega (arith, e)), (λ e. omega (arith, e)), (λ e. omega (arith, e)))

three : IsTold 3
three = ((λ e. omega (arith, e)), (λ e. omega (arith, e)), (λ e. omega (arith, e)))

four : IsTold 4
four = ((λ e. omega (arith, e)), (λ e. omega (arith, e)), (λ e. omega (arith, e)))

nine : IsTold 9
nine = ((λ e. omega (arith, e)), (λ e. omega (arith, e)), (λ e. omega (arith, e)))

of_diags : (diags : List Diag) → IsTold (report_status diags)
of_diags [] = zero_told
of_diags (d ∷ ds) = one_told

of_verdict : (v : Verdict) → IsTold (status_of v)
of_verdict verdict.helped = zero_told
of_verdict verdict.versioned = zero_told
of_verdict verdict.words_refused = three
of_verdict (verdict.absent name) = four
of_verdict (verdict.too_long name) = eight
of_verdict (verdict.no_model name reason) = three
of_verdict (verdict.no_baseline name) = three
of_verdict (verdict.no_draws name) = three
of_verdict (verdict.refused file why) = of_refusal why.refusal
of_verdict (verdict.reported form names unit diags) = of_diags diags
of_verdict (verdict.summed unit bases cells diags) = of_diags diags
of_verdict (verdict.proved text) = zero_told
of_verdict (verdict.proved_past unit count) = eight
of_verdict (verdict.cert_refused name why) = nine
of_verdict (verdict.replayed names unit outcome) = of_diags outcome.diags
of_verdict (verdict.replayed_past file place count limit) = eight

of_tells : (seen : Seen) (asked : Asked) (status : ℕ) (text : Bytes) → Tells (IsVerdict seen asked) status text → IsTold status
of_tells seen asked status text t = subst IsTold (sym t.by_status) (of_verdict t.verdict)

-- ---- what happened, by the status

by_outcome : (seen : Seen) (asked : Asked) (sink : Took) (status : ℕ) (o : Outcome) → status ≡ status_at o → Happened seen asked sink o → IsByStatus status o
by_outcome seen asked sink status (told answer text) is (tells, put) = subst IsTold (sym is) (of_tells seen asked answer text tells)
by_outcome seen asked sink status read_fault is happened = is
by_outcome seen asked sink status (write_fault answer text) is happened = is
by_outcome seen asked sink status no_memory is happened = is

pub outcome_by_status : (seen : Seen) (asked : Asked) (sink : Took) (status : ℕ) (a : Answers seen asked sink status) → IsByStatus status a.outcome
outcome_by_status seen asked sink status a = by_outcome seen asked sink status a.outcome a.by_status a.happened

-- ---- one text

some_same : {X : Type 0} {x y : X} → Some x ≡ Some y → x ≡ y
some_same {X} {x} {y} e = ap (λ (o : Option X). elim o [ None ↦ x | Some z ↦ z ]) e

tail_of : Bytes → Bytes
tail_of [] = []
tail_of (c ∷ cs) = cs

behind_same : (before text other : Bytes) → before ++ text ≡ before ++ other → text ≡ other
unfolding tail_of
behind_same [] text other e = e
behind_same (c ∷ cs) text other e = behind_same cs text other (ap tail_of e)

puts : (sink : Took) (before text : Bytes) → sink.written ≡ Some before → PutOnce sink text → sink.written_now ≡ Some (before ++ text)
puts sink before text is put = subst (λ (w : Option Bytes). Appends w text sink.written_now) is put.whole

one_text : (sink : Took) (before text other : Bytes) → sink.written ≡ Some before → PutOnce sink text → PutOnce sink other → text ≡ other
one_text sink before text other is put also = behind_same before text other (some_same (sym (puts sink before text is put) ∙ puts sink before other is also))

-- ---- one outcome

alike : (seen : Seen) (asked : Asked) (sink : Took) (status : ℕ) (before : Bytes) → sink.written ≡ Some before → (o p : Outcome)
    → status ≡ status_at o → status ≡ status_at p → Happened seen asked sink o → Happened seen asked sink p → IsByStatus status o → IsByStatus status p → IsAlike o p
alike seen asked sink status before is (told n text) (told m other) at also (t, put) (u, puts_other) b c = (sym at ∙ also, one_text sink before text other is put puts_other)
alike seen asked sink status before is (told n text) read_fault at also h k b c = b.0 c
alike seen asked sink status before is (told n text) (write_fault m other) at also h k b c = b.1 c
alike seen asked sink status before is (told n text) no_memory at also h k b c = b.2 c
alike seen asked sink status before is read_fault (told m other) at also h k b c = c.0 b
alike seen asked sink status before is read_fault read_fault at also h k b c = tt
alike seen asked sink status before is read_fault (write_fault m other) at also h k b c = omega (arith, b, c)
alike seen asked sink status before is read_fault no_memory at also h k b c = omega (arith, b, c)
alike seen asked sink status before is (write_fault n text) (told m other) at also h k b c = c.1 b
alike seen asked sink status before is (write_fault n text) read_fault at also h k b c = omega (arith, b, c)
alike seen asked sink status before is (write_fault n text) (write_fault m other) at also h k b c = tt
alike seen asked sink status before is (write_fault n text) no_memory at also h k b c = omega (arith, b, c)
alike seen asked sink status before is no_memory (told m other) at also h k b c = c.2 b
alike seen asked sink status before is no_memory read_fault at also h k b c = omega (arith, b, c)
alike seen asked sink status before is no_memory (write_fault m other) at also h k b c = omega (arith, b, c)
alike seen asked sink status before is no_memory no_memory at also h k b c = tt

pub one_outcome : (seen : Seen) (asked : Asked) (sink : Took) (status : ℕ) (before : Bytes) → sink.written ≡ Some before → (a b : Answers seen asked sink status) → IsAlike a.outcome b.outcome
one_outcome seen asked sink status before is a b =
    alike seen asked sink status before is a.outcome b.outcome a.by_status b.by_status a.happened b.happened (outcome_by_status seen asked sink status a) (outcome_by_status seen asked sink status b)
