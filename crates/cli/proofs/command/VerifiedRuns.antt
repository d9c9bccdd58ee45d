-- Where `verify` answers 0 or 1, it has told what an accepted certificate shows, which holds what runs violate.
use Rattle.std.proofs.Common.{◌≡◌, ◌∙◌, inl, inr, ℕ, List, Option, ap, arith, subst}
use Rattle.cc_base.specs.Outside.{Files}
use Rattle.cc_base.specs.declared.diagnostics.Diag.{Diag}
use Rattle.c_layout.specs.declared.data_model.Model.{Model}
use Rattle.c_preproc.specs.Causes.{Seen}
use Rattle.cli_words.specs.declared.words.commands.Format.{Format}
use Rattle.cli_words.specs.declared.words.commands.Format.TheVariants as format
use Rattle.cli_words.specs.Words.Requests.{CommandView}
use Rattle.cli_words.specs.Words.Requests as asked
use Rattle.cli_texts.specs.Reports.{Bytes}
use Rattle.cli_units.specs.Certifying.{shows}
use Rattle.cli_answers.specs.Outcomes.{Took, PutOnce}
use Rattle.cli_answers.specs.Verdicts as verdict
use Rattle.cli_answers.specs.Verdicts.{Verdict, status_of, text_of, HasModel, FromFiles, IsCheckedBy, AnswersChecked, AnswersVerify, IsVerdict, cert_setting}
use Rattle.cli.specs.Command.DefinedRuns.{RunsAreDefined}
use Rattle.cli.specs.Command.AnsweredRuns.{IsAccepting}
use Rattle.cli.specs.Command.CertifiedRuns.{CertificatesHoldRuns}
use Rattle.cli.specs.Command.VerifiedRuns.{TellsVerifiedRuns, VerifiedHoldRuns}
use Rattle.cli.proofs.command.AnsweredRuns.{past_one, no_refusal, no_model}
use Rattle.cli.proofs.command.ToldVerdicts.{tells_verdict, no_file}

-- what an accepted certificate shows, as a verdict
record Shows (seen : Seen) (c : CommandView) (cert : Bytes) (m : Model) (v : Verdict) : Type 0 where
  names : List Bytes
  diags : List Diag
  is : v ≡ verdict.reported format.Text names c.unit diags
  checked : IsCheckedBy (FromFiles seen.files c.dirs m c.unit) seen.files cert (cert_setting c m) names (shows diags)

made_shown : (seen : Seen) (c : CommandView) (cert : Bytes) (m : Model) (form : Format) (names : List Bytes) (unit : Bytes) (diags : List Diag) → form ≡ format.Text → unit ≡ c.unit → IsCheckedBy (FromFiles seen.files c.dirs m c.unit) seen.files cert (cert_setting c m) names (shows diags) → Shows seen c cert m (verdict.reported form names unit diags)
made_shown seen c cert m form names unit diags formed named is = record { names = names; diags = diags; is = ap (λ (f : Format). verdict.reported f names unit diags) formed ∙ ap (λ (u : Bytes). verdict.reported format.Text names u diags) named; checked = is }

of_checked : (seen : Seen) (c : CommandView) (cert : Bytes) (m : Model) (v : Verdict) → AnswersChecked seen c cert m v → IsAccepting (status_of v) → Shows seen c cert m v
of_checked seen c cert m (verdict.absent name) h ok = absurd (past_one 4 (omega arith) ok)
of_checked seen c cert m (verdict.refused file why) h ok = absurd (no_refusal why.refusal ok)
of_checked seen c cert m (verdict.reported form names unit diags) (formed, named, checked) ok = made_shown seen c cert m form names unit diags formed named checked
of_checked seen c cert m (verdict.cert_refused name why) h ok = absurd (past_one 9 (omega arith) ok)
of_checked seen c cert m verdict.helped h ok = absurd h
of_checked seen c cert m verdict.versioned h ok = absurd h
of_checked seen c cert m verdict.words_refused h ok = absurd h
of_checked seen c cert m (verdict.too_long name) h ok = absurd h
of_checked seen c cert m (verdict.no_model name reason) h ok = absurd h
of_checked seen c cert m (verdict.no_baseline name) h ok = absurd h
of_checked seen c cert m (verdict.no_draws name) h ok = absurd h
of_checked seen c cert m (verdict.summed unit bases cells diags) h ok = absurd h
of_checked seen c cert m (verdict.proved text) h ok = absurd h
of_checked seen c cert m (verdict.proved_past unit count) h ok = absurd h
of_checked seen c cert m (verdict.replayed names unit outcome) h ok = absurd h
of_checked seen c cert m (verdict.replayed_past file place count limit) h ok = absurd h

of_verify : (seen : Seen) (c : CommandView) (cert : Bytes) (m : Model) (v : Verdict) → AnswersVerify seen c cert m v → IsAccepting (status_of v) → Shows seen c cert m v
of_verify seen c cert m v (inl behind) ok = absurd (no_file behind.later cert v behind.holds ok)
of_verify seen c cert m v (inr checked) ok = of_checked seen c cert m v checked ok

-- the same from an earlier time on
from_earlier : (seen later : Seen) (c : CommandView) (cert : Bytes) (m : Model) (v : Verdict) → later.files ≡ seen.files → Shows later c cert m v → Shows seen c cert m v
from_earlier seen later c cert m v same r = record { names = r.names; diags = r.diags; is = r.is; checked = subst (λ (fs : Option Files). IsCheckedBy (FromFiles fs c.dirs m c.unit) fs cert (cert_setting c m) r.names (shows r.diags)) same r.checked }

tells : RunsAreDefined → CertificatesHoldRuns → (seen : Seen) (c : CommandView) (cert : Bytes) (sink : Took) (status : ℕ) (v : Verdict) (m : Model) → HasModel seen.files c.model m → status ≡ status_of v → PutOnce sink (text_of v) → Shows seen c cert m v → TellsVerifiedRuns seen c cert sink status
tells defined holds seen c cert sink status v m has by_status put r = record {
  model = m;
  has_model = has;
  names = r.names;
  diags = r.diags;
  is_checked = r.checked;
  by_status = by_status ∙ ap (λ (w : Verdict). status_of w) r.is;
  put = subst (λ (w : Verdict). PutOnce sink (text_of w)) r.is put;
  holds = holds r.checked.expanded (cert_setting c m) r.checked.bytes r.diags r.checked.verifies;
  defined = defined.certified r.checked.expanded (cert_setting c m) r.checked.verifies.flow r.checked.verifies.program;
}

by_verdict : RunsAreDefined → CertificatesHoldRuns → (seen : Seen) (c : CommandView) (cert : Bytes) (sink : Took) (status : ℕ) (v : Verdict) → IsVerdict seen (asked.Verify c cert) v → status ≡ status_of v → PutOnce sink (text_of v) → IsAccepting (status_of v) → TellsVerifiedRuns seen c cert sink status
by_verdict defined holds seen c cert sink status v (inl refuses) by_status put ok = absurd (no_model seen c.model v refuses ok)
by_verdict defined holds seen c cert sink status v (inr u) by_status put ok = tells defined holds seen c cert sink status v u.chosen u.has_model by_status put (from_earlier seen u.later c cert u.chosen v u.is_later.files (of_verify u.later c cert u.chosen v u.answered ok))

pub verified_hold : RunsAreDefined → CertificatesHoldRuns → VerifiedHoldRuns
verified_hold defined holds seen c cert sink status is ok =
    let t = tells_verdict seen (asked.Verify c cert) sink status is ok in
    by_verdict defined holds seen c cert sink status t.verdict t.called_for t.by_status t.put t.accepts
