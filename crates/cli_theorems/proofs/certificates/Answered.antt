-- No answer of `verify` to a text that is proved has the status of a refused certificate.
use Rattle.std.proofs.Common.{◌≡◌, ◌∙◌, ℕ, List, [], ◌∷◌, sym, arith}
use Rattle.cc_base.specs.declared.diagnostics.Diag.{Diag}
use Rattle.cc_base.specs.declared.refusals.Refusal.{Refusal}
use Rattle.cc_base.specs.declared.refusals.Refusal.TheVariants as refusal
use Rattle.c_preproc.specs.Causes.{Seen}
use Rattle.cli_words.specs.Words.Requests.{CommandView}
use Rattle.cli_words.specs.Words.Requests as asked
use Rattle.cli_texts.specs.Reports.{Bytes}
use Rattle.cli_texts.specs.Refusals.{refusal_status}
use Rattle.cli_answers.specs.Outcomes.{Took, Outcome, told, read_fault, write_fault, no_memory, status_at, Happened, Answers}
use Rattle.cli_answers.specs.Verdicts as verdict
use Rattle.cli_answers.specs.Verdicts.{Verdict, report_status, status_of, IsVerdict}
use Rattle.cli_theorems.specs.Certificates.ProvedTexts.{HoldsProved}
use Rattle.cli_theorems.proofs.certificates.Told.{proved_is_not_refused}

of_refusal : (r : Refusal) → refusal_status r ≡ 9 → ⊥
of_refusal (refusal.TooManyTokens count limit) is = omega (arith, is)
of_refusal (refusal.FileTooLong count limit) is = omega (arith, is)
of_refusal (refusal.TooLarge what count limit) is = omega (arith, is)
of_refusal _ is = omega (arith, is)

of_report : (diags : List Diag) → report_status diags ≡ 9 → ⊥
of_report [] is = omega (arith, is)
of_report (d ∷ ds) is = omega (arith, is)

module _ (seen : Seen) (c : CommandView) (cert : Bytes) (h : HoldsProved seen c cert) where
  of_verdict : (v : Verdict) → IsVerdict seen (asked.Verify c cert) v → status_of v ≡ 9 → ⊥
  of_verdict (verdict.cert_refused name why) called is = proved_is_not_refused seen c cert h name why called
  of_verdict verdict.helped called is = omega (arith, is)
  of_verdict verdict.versioned called is = omega (arith, is)
  of_verdict verdict.words_refused called is = omega (arith, is)
  of_verdict (verdict.absent name) called is = omega (arith, is)
  of_verdict (verdict.too_long name) called is = omega (arith, is)
  of_verdict (verdict.no_model name reason) called is = omega (arith, is)
  of_verdict (verdict.no_baseline name) called is = omega (arith, is)
  of_verdict (verdict.no_draws name) called is = omega (arith, is)
  of_verdict (verdict.refused file why) called is = of_refusal why.refusal is
  of_verdict (verdict.reported form names unit diags) called is = of_report diags is
  of_verdict (verdict.summed unit bases cells diags) called is = of_report diags is
  of_verdict (verdict.proved text) called is = omega (arith, is)
  of_verdict (verdict.proved_past unit count) called is = omega (arith, is)
  of_verdict (verdict.replayed names unit outcome) called is = of_report outcome.diags is
  of_verdict (verdict.replayed_past file place count limit) called is = omega (arith, is)

  of_outcome : (sink : Took) (o : Outcome) → Happened seen (asked.Verify c cert) sink o → status_at o ≡ 9 → ⊥
  of_outcome sink (told status text) (tells, put) is = of_verdict tells.verdict tells.called_for (sym tells.by_status ∙ is)
  of_outcome sink read_fault happened is = omega (arith, is)
  of_outcome sink (write_fault status text) happened is = omega (arith, is)
  of_outcome sink no_memory happened is = omega (arith, is)

  pub never_answered_so : (sink : Took) (status : ℕ) → Answers seen (asked.Verify c cert) sink status → status ≡ 9 → ⊥
  never_answered_so sink status answers is = of_outcome sink answers.outcome answers.happened (sym answers.by_status ∙ is)
