-- What the parts of the verbs on certificates answer.
use Rattle.std.specs.Prelude.{◌≡◌, ◌<◌, ◌≤◌, ◌⊎◌, ℕ, List, length, Option}
use Rattle.cc_base.specs.Outside.{Files}
use Rattle.cc_base.specs.declared.diagnostics.Diag.{Diag}
use Rattle.c_layout.specs.declared.unit_tokens.Unit7.{Unit7}
use Rattle.certificate_check.specs.declared.verdicts.verdicts.CertFault.{CertFault}
use Rattle.cli_texts.specs.Reports.{Bytes, report_of}
use Rattle.cli_texts.specs.FixedTexts.{cert_too_long_text, cert_refused_text}
use Rattle.cli_units.specs.Judging.{SettingView}
use Rattle.cli_units.specs.Certifying.{cert_reason, IsProved, CertAnswer, shows, refuses, IsVerifiedUnit}
use Rattle.cli_answers.specs.FurtherFiles.{HoldsShort}
use Rattle.cli_answers.specs.Verdicts.{report_status}
use Rattle.cli_answers.specs.Answering.{AnswersOwn}

-- the answer with the text of a certificate
abbrev pub AnswersText : Bytes → Bytes → ℕ → Bytes → Type 0
AnswersText cert unit status text =
    ((length cert ≤ 1048576) × (status ≡ 0) × (text ≡ cert)) ⊎ ((1048576 < length cert) × (status ≡ 8) × (text ≡ cert_too_long_text unit (length cert)))

-- the answer to `prove` on an accepted unit
pub record AnswersProof (s : SettingView) (expanded : Unit7) (unit : Bytes) (status : ℕ) (text : Bytes) : Type 0 where
  pub cert : Bytes
  pub proved : IsProved expanded s cert
  pub answers : AnswersText cert unit status text

-- the answer to what a certificate comes to
abbrev pub AnswersCert : CertAnswer → Bytes → List Bytes → Bytes → ℕ → Bytes → Type 0
AnswersCert (shows diags) cert names unit status text = (status ≡ report_status diags) × (text ≡ report_of names unit diags)
AnswersCert (refuses why) cert names unit status text = (status ≡ 9) × (text ≡ cert_refused_text cert (cert_reason why))

-- the answer to `verify` on an accepted unit, by the bytes of its certificate
pub record AnswersVerified (s : SettingView) (expanded : Unit7) (bytes cert : Bytes) (names : List Bytes) (unit : Bytes) (status : ℕ) (text : Bytes) : Type 0 where
  pub answer : CertAnswer
  pub verifies : IsVerifiedUnit expanded s bytes answer
  pub answers : AnswersCert answer cert names unit status text

-- the answer to `verify` on a unit that was expanded, where its certificate is held
pub record AnswersWithCert (files : Option Files) (cert : Bytes) (s : SettingView) (expanded : Unit7) (names : List Bytes) (unit : Bytes) (status : ℕ) (text : Bytes) : Type 0 where
  pub bytes : Bytes
  pub held : HoldsShort files cert bytes
  pub answers : AnswersOwn s expanded names unit status text ⊎ AnswersVerified s expanded bytes cert names unit status text
