-- What `verify` is called to tell where its certificate is a text that `prove` was called to tell.
use Rattle.std.specs.Prelude.{◌≡◌, ◌⊎◌, ℕ, List, Option, Some, None, Contains}
use Rattle.cc_base.specs.Outside.{Files, file_at}
use Rattle.cc_base.specs.declared.diagnostics.Diag.{Diag}
use Rattle.c_layout.specs.declared.data_model.Model.{Model}
use Rattle.c_preproc.specs.Causes.{Seen}
use Rattle.syntactic_rules.specs.StatementPlaces.{unit_places}
use Rattle.certificate_check.specs.declared.verdicts.verdicts.CertFault.{CertFault}
use Rattle.cli_words.specs.declared.words.commands.Format.{Format}
use Rattle.cli_words.specs.Words.Requests.{CommandView}
use Rattle.cli_words.specs.Words.Requests as asked
use Rattle.cli_texts.specs.Reports.{Bytes}
use Rattle.cli_answers.specs.Outcomes.{Took, Answers}
use Rattle.cli_answers.specs.Verdicts.{proved, cert_refused, reported, FromFiles, IsReport, IsVerdict, check_setting}
use Rattle.cli_theorems.specs.Certificates.SameUnits.{GiveOneUnit}

-- the files of a call are told and hold, by the name of the certificate, a text that `prove` was called to tell of
-- the same unit
pub record HoldsProved (seen : Seen) (c : CommandView) (cert : Bytes) : Type 0 where
  pub files : Files
  pub told : seen.files ≡ Some files
  pub text : Bytes
  pub holds : file_at files cert ≡ Some text
  pub before : Seen
  pub held : Files
  pub told_before : before.files ≡ Some held
  pub alike : GiveOneUnit c held files
  pub proves : IsVerdict before (asked.Prove c) (proved text)

-- `verify` is not called to refuse it
abbrev pub NeverRefused : Type 0
NeverRefused = (seen : Seen) (c : CommandView) (cert : Bytes) → HoldsProved seen c cert → (name : Bytes) (why : CertFault) → IsVerdict seen (asked.Verify c cert) (cert_refused name why) → ⊥

-- and does not answer with the status of a refused certificate
abbrev pub NeverAnsweredSo : Type 0
NeverAnsweredSo = (seen : Seen) (c : CommandView) (cert : Bytes) → HoldsProved seen c cert → (sink : Took) (status : ℕ) → Answers seen (asked.Verify c cert) sink status → status ≡ 9 → ⊥

-- a report whose analysis found just these diagnostics: each of them is told, and what is told beside them is found
-- in the text alone
pub record HasRuns (files : Option Files) (c : CommandView) (names : List Bytes) (diags shown : List Diag) : Type 0 where
  pub model : Model
  pub report : IsReport (FromFiles files c.dirs model c.unit) (check_setting c model) names diags
  pub runs : report.judged.found.runs ≡ shown
  pub kept : (d : Diag) → Contains shown d → Contains diags d
  pub others : (d : Diag) → Contains diags d → Contains shown d ⊎ Contains (unit_places report.judged.checked) d

-- what `verify` shows then is what `check` without turns has of runs
abbrev pub ShowsRuns : Type 0
ShowsRuns =
    (seen : Seen) (c : CommandView) (cert : Bytes) → HoldsProved seen c cert → c.turns ≡ None →
    (form : Format) (names : List Bytes) (unit : Bytes) (shown : List Diag) → IsVerdict seen (asked.Verify c cert) (reported form names unit shown) →
    (checking : Seen) → checking.files ≡ seen.files →
    (other : Format) (others : List Bytes) (again : Bytes) (diags : List Diag) → IsVerdict checking (asked.Check c) (reported other others again diags) →
    (others ≡ names) × HasRuns checking.files c others diags shown
