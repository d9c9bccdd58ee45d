-- What the verbs on certificates tell of a unit is called for.
use Rattle.std.proofs.Common.{◌≡◌, ◌≤◌, ◌⊎◌, ℕ, List, length, Option, Err, refl, inl, inr, subst}
use Rattle.cc_base.specs.Outside.{Files, Holds}
use Rattle.cc_base.specs.declared.refusals.Stop.{Stop}
use Rattle.cc_base.specs.declared.refusals.Stop.TheVariants as stop
use Rattle.c_layout.specs.declared.data_model.Model.{Model}
use Rattle.c_layout.specs.declared.unit_tokens.Unit7.{Unit7}
use Rattle.c_preproc.specs.Causes.{Seen, seen_of, IsCausedFrom}
use Rattle.cli_words.specs.Words.Requests.{CommandView, Prove, Verify}
use Rattle.cli_words.specs.declared.words.commands.Format.TheVariants as format
use Rattle.cli_texts.specs.Reports.{Bytes, file_name}
use Rattle.cli_answers.specs.declared.further_files.Further.{Further}
use Rattle.cli_answers.specs.declared.further_files.Further.TheVariants as further
use Rattle.cli_answers.specs.declared.model_choice.ModelChoice.{ModelChoice}
use Rattle.cli_answers.specs.declared.model_choice.ModelChoice.TheVariants.{Chosen}
use Rattle.cli_answers.specs.Choices.{IsChoice}
use Rattle.cli_units.specs.Judging.{SettingView}
use Rattle.cli_units.specs.Certifying.{CertAnswer, shows, refuses}
use Rattle.cli_answers.specs.FurtherFiles.{HoldsShort, HasFile}
use Rattle.cli_answers.specs.Verdicts.{Tells, absent, refused, reported, proved, proved_past, cert_refused, FromFiles, IsExpanded, IsLater, IsProof, IsCheckedBy, With, RefusesFile, cert_setting, AnswersProve, AnswersVerify, HasModel, IsVerdict}
use Rattle.cli_answers.specs.Answering.{AnswersStop, AnswersOwn}
use Rattle.cli_answers.specs.Gates.{IsFurther}
use Rattle.cli_answers.specs.CertAnswers.{AnswersText, AnswersProof, AnswersCert, AnswersVerified, AnswersWithCert}
use Rattle.cli_answers.proofs.Called.{stopped_refusal, later_refusal, later, model_held}

-- ---- the certificate of a unit

own_proved : (seen : Seen) (c : CommandView) (m : Model) (u : Unit7) (names : List Bytes) (status : ℕ) (text : Bytes) → IsExpanded (FromFiles seen.files c.dirs m c.unit) m names u → AnswersOwn (cert_setting c m) u names c.unit status text → Tells (AnswersProve seen c m) status text
own_proved seen c m u names status text expanded a = record { verdict = refused (file_name names c.unit a.why.place.file) a.why; called_for = later_refusal (FromFiles seen.files c.dirs m c.unit) seen c.dirs (cert_setting c m) u c.unit names a.why expanded a.refuses; by_status = a.answers.0; by_text = a.answers.1 }

proof_of : (seen : Seen) (c : CommandView) (m : Model) (u : Unit7) (names : List Bytes) (status : ℕ) (text : Bytes) → IsExpanded (FromFiles seen.files c.dirs m c.unit) m names u → (a : AnswersProof (cert_setting c m) u c.unit status text) → IsProof (FromFiles seen.files c.dirs m c.unit) (cert_setting c m) a.cert
proof_of seen c m u names status text expanded a = record { names = names; expanded = u; is_expanded = expanded; proved = a.proved }

text_proved : (seen : Seen) (c : CommandView) (m : Model) (u : Unit7) (names : List Bytes) (status : ℕ) (text : Bytes) → IsExpanded (FromFiles seen.files c.dirs m c.unit) m names u → AnswersProof (cert_setting c m) u c.unit status text → Tells (AnswersProve seen c m) status text
text_proved seen c m u names status text expanded a = elim a.answers [
  | inl h ↦ record { verdict = proved a.cert; called_for = (proof_of seen c m u names status text expanded a, h.0); by_status = h.1; by_text = h.2 }
  | inr h ↦ record { verdict = proved_past c.unit (length a.cert); called_for = (refl, a.cert, proof_of seen c m u names status text expanded a, refl, h.0); by_status = h.1; by_text = h.2 }
]

-- what is told of a unit that was expanded
pub proved_told : (seen : Seen) (c : CommandView) (m : Model) (u : Unit7) (names : List Bytes) (status : ℕ) (text : Bytes) → IsExpanded (FromFiles seen.files c.dirs m c.unit) m names u → AnswersOwn (cert_setting c m) u names c.unit status text ⊎ AnswersProof (cert_setting c m) u c.unit status text → Tells (AnswersProve seen c m) status text
proved_told seen c m u names status text expanded h = elim h [
  | inl a ↦ own_proved seen c m u names status text expanded a
  | inr a ↦ text_proved seen c m u names status text expanded a
]

stop_proved : (seen : Seen) (c : CommandView) (m : Model) (names : List Bytes) (s : Stop) (status : ℕ) (text : Bytes) → IsCausedFrom c.unit seen c.dirs m names s → FromFiles seen.files c.dirs m c.unit names (Err s) → AnswersStop names c.unit s status text → Tells (AnswersProve seen c m) status text
stop_proved seen c m names (stop.Refused f) status text h told a = record { verdict = refused (file_name names c.unit f.place.file) f; called_for = stopped_refusal (FromFiles seen.files c.dirs m c.unit) seen c.dirs (cert_setting c m) c.unit names f h a.1 told; by_status = a.0.0; by_text = a.0.1 }
stop_proved seen c m names stop.NotHeld status text h told a = record { verdict = absent c.unit; called_for = (refl, h); by_status = a.0; by_text = a.1 }
stop_proved seen c m names stop.ReadFault status text h told a = absurd a
stop_proved seen c m names stop.Memory status text h told a = absurd a

-- the same, with the names and the unit as the work has them
pub stop_proved_under : (seen : Seen) (c : CommandView) (m : Model) (names given : List Bytes) (unit : Bytes) (dirs : List Bytes) (s : Stop) (status : ℕ) (text : Bytes) → unit ≡ c.unit → dirs ≡ c.dirs → given ≡ names → IsCausedFrom unit seen dirs m names s → FromFiles seen.files c.dirs m c.unit names (Err s) → AnswersStop given unit s status text → Tells (AnswersProve seen c m) status text
stop_proved_under seen c m names given unit dirs s status text same_unit same_dirs same_names h told a =
    let cause = subst (λ u. IsCausedFrom u seen c.dirs m names s) same_unit (subst (λ d. IsCausedFrom unit seen d m names s) same_dirs h) in
    let answer = subst (λ u. AnswersStop names u s status text) same_unit (subst (λ n. AnswersStop n unit s status text) same_names a) in
    stop_proved seen c m names s status text cause told answer

-- what is told under the model that was chosen, from what the tree gave meanwhile on
pub prove_chosen : (f0 f1 : Option Files) (a0 a1 a2 b0 b1 b2 : ℕ) (c : CommandView) (m : Model) (name : Bytes) (choice : ModelChoice) (status : ℕ) (text : Bytes) → name ≡ c.model → choice ≡ Chosen m → IsChoice (seen_of f0 a0 a1 b0 b1) name choice → f1 ≡ f0 → a0 ≤ a1 → b0 ≤ b1 → Tells (AnswersProve (seen_of f1 a1 a2 b1 b2) c m) status text → Tells (IsVerdict (seen_of f0 a0 a2 b0 b2) (Prove c)) status text
prove_chosen f0 f1 a0 a1 a2 b0 b1 b2 c m name choice status text same chose given files faults taken t = record {
  verdict = t.verdict;
  called_for = inr (record { chosen = m; has_model = model_held (seen_of f0 a0 a1 b0 b1) name c.model choice m same chose given; later = seen_of f1 a1 a2 b1 b2; is_later = later f0 f1 a0 a1 a2 b0 b1 b2 files faults taken; answered = t.called_for });
  by_status = t.by_status;
  by_text = t.by_text;
}

-- ---- a certificate that is checked

-- a certificate that was read, or the answer where there is none, under the name that the words have
pub further_read_in : (seen : Seen) (name cert : Bytes) (f g : Further) → name ≡ cert → f ≡ g → IsFurther seen name f → IsFurther seen cert g
further_read_in seen name cert f g same is h = subst (λ n. IsFurther seen n g) same (subst (λ x. IsFurther seen name x) is h)

-- the answer where the certificate is read, by the bytes as the work has them
pub with_cert : (files : Option Files) (cert : Bytes) (s : SettingView) (u : Unit7) (bytes given : Bytes) (names : List Bytes) (unit : Bytes) (status : ℕ) (text : Bytes) → HoldsShort files cert bytes → given ≡ bytes → AnswersOwn s u names unit status text ⊎ AnswersVerified s u given cert names unit status text → AnswersWithCert files cert s u names unit status text
with_cert files cert s u bytes given names unit status text held same h = record {
  bytes = bytes;
  held = held;
  answers = subst (λ b. AnswersOwn s u names unit status text ⊎ AnswersVerified s u b cert names unit status text) same h;
}

own_certified : (seen : Seen) (c : CommandView) (cert : Bytes) (m : Model) (u : Unit7) (names : List Bytes) (bytes : Bytes) (status : ℕ) (text : Bytes) → IsExpanded (FromFiles seen.files c.dirs m c.unit) m names u → HoldsShort seen.files cert bytes → AnswersOwn (cert_setting c m) u names c.unit status text → Tells (AnswersVerify seen c cert m) status text
own_certified seen c cert m u names bytes status text expanded held a =
    let with : IsExpanded (With (HasFile seen.files cert) (FromFiles seen.files c.dirs m c.unit)) m names u = record { model = expanded.model; gives = (expanded.gives, (bytes, held)); distinct = expanded.distinct; few = expanded.few } in
    record {
      verdict = refused (file_name names c.unit a.why.place.file) a.why;
      called_for = inr (later_refusal (With (HasFile seen.files cert) (FromFiles seen.files c.dirs m c.unit)) seen c.dirs (cert_setting c m) u c.unit names a.why with a.refuses);
      by_status = a.answers.0;
      by_text = a.answers.1;
    }

checked_by : (seen : Seen) (c : CommandView) (cert : Bytes) (m : Model) (u : Unit7) (names : List Bytes) (bytes : Bytes) (status : ℕ) (text : Bytes) → IsExpanded (FromFiles seen.files c.dirs m c.unit) m names u → Holds seen.files cert bytes → (a : AnswersVerified (cert_setting c m) u bytes cert names c.unit status text) → IsCheckedBy (FromFiles seen.files c.dirs m c.unit) seen.files cert (cert_setting c m) names a.answer
checked_by seen c cert m u names bytes status text expanded held a = record { expanded = u; is_expanded = expanded; bytes = bytes; held = held; verifies = a.verifies }

by_answer : (seen : Seen) (c : CommandView) (cert : Bytes) (m : Model) (names : List Bytes) (status : ℕ) (text : Bytes) (answer : CertAnswer) → IsCheckedBy (FromFiles seen.files c.dirs m c.unit) seen.files cert (cert_setting c m) names answer → AnswersCert answer cert names c.unit status text → Tells (AnswersVerify seen c cert m) status text
by_answer seen c cert m names status text (shows diags) h a = record { verdict = reported format.Text names c.unit diags; called_for = inr (refl, refl, h); by_status = a.0; by_text = a.1 }
by_answer seen c cert m names status text (refuses why) h a = record { verdict = cert_refused cert why; called_for = inr (refl, names, h); by_status = a.0; by_text = a.1 }

with_cert_told : (seen : Seen) (c : CommandView) (cert : Bytes) (m : Model) (u : Unit7) (names : List Bytes) (status : ℕ) (text : Bytes) → IsExpanded (FromFiles seen.files c.dirs m c.unit) m names u → AnswersWithCert seen.files cert (cert_setting c m) u names c.unit status text → Tells (AnswersVerify seen c cert m) status text
with_cert_told seen c cert m u names status text expanded h = elim h.answers [
  | inl a ↦ own_certified seen c cert m u names h.bytes status text expanded h.held a
  | inr a ↦ by_answer seen c cert m names status text a.answer (checked_by seen c cert m u names h.bytes status text expanded h.held.0 a) a.answers
]

file_told : (f0 f1 : Option Files) (a0 a1 a2 b0 b1 b2 : ℕ) (c : CommandView) (cert : Bytes) (m : Model) (u : Unit7) (names : List Bytes) (status : ℕ) (text : Bytes) → f1 ≡ f0 → a0 ≤ a1 → b0 ≤ b1 → IsExpanded (FromFiles f0 c.dirs m c.unit) m names u → Tells (RefusesFile (seen_of f1 a1 a2 b1 b2) cert) status text → Tells (AnswersVerify (seen_of f0 a0 a2 b0 b2) c cert m) status text
file_told f0 f1 a0 a1 a2 b0 b1 b2 c cert m u names status text files faults taken expanded t = record {
  verdict = t.verdict;
  called_for = inl (record { names = names; expanded = u; is_expanded = expanded; later = seen_of f1 a1 a2 b1 b2; is_later = later f0 f1 a0 a1 a2 b0 b1 b2 files faults taken; holds = t.called_for });
  by_status = t.by_status;
  by_text = t.by_text;
}

-- what is told of a unit that was expanded, from what the tree gave meanwhile on
pub certified_told : (f0 f1 : Option Files) (a0 a1 a2 b0 b1 b2 : ℕ) (c : CommandView) (cert : Bytes) (m : Model) (u : Unit7) (names : List Bytes) (status : ℕ) (text : Bytes) → f1 ≡ f0 → a0 ≤ a1 → b0 ≤ b1 → IsExpanded (FromFiles f0 c.dirs m c.unit) m names u → Tells (RefusesFile (seen_of f1 a1 a2 b1 b2) cert) status text ⊎ AnswersWithCert f1 cert (cert_setting c m) u names c.unit status text → Tells (AnswersVerify (seen_of f0 a0 a2 b0 b2) c cert m) status text
certified_told f0 f1 a0 a1 a2 b0 b1 b2 c cert m u names status text files faults taken expanded h = elim h [
  | inl t ↦ file_told f0 f1 a0 a1 a2 b0 b1 b2 c cert m u names status text files faults taken expanded t
  | inr a ↦ with_cert_told (seen_of f0 a0 a2 b0 b2) c cert m u names status text expanded (subst (λ f. AnswersWithCert f cert (cert_setting c m) u names c.unit status text) files a)
]

stop_certified : (seen : Seen) (c : CommandView) (cert : Bytes) (m : Model) (names : List Bytes) (s : Stop) (status : ℕ) (text : Bytes) → IsCausedFrom c.unit seen c.dirs m names s → FromFiles seen.files c.dirs m c.unit names (Err s) → AnswersStop names c.unit s status text → Tells (AnswersVerify seen c cert m) status text
stop_certified seen c cert m names (stop.Refused f) status text h told a = record { verdict = refused (file_name names c.unit f.place.file) f; called_for = inr (stopped_refusal (With (HasFile seen.files cert) (FromFiles seen.files c.dirs m c.unit)) seen c.dirs (cert_setting c m) c.unit names f h a.1 told); by_status = a.0.0; by_text = a.0.1 }
stop_certified seen c cert m names stop.NotHeld status text h told a = record { verdict = absent c.unit; called_for = inr (refl, h); by_status = a.0; by_text = a.1 }
stop_certified seen c cert m names stop.ReadFault status text h told a = absurd a
stop_certified seen c cert m names stop.Memory status text h told a = absurd a

-- what is told where the expansion stopped, with the names and the unit as the work has them
pub stop_certified_under : (seen : Seen) (c : CommandView) (cert : Bytes) (m : Model) (names given : List Bytes) (unit : Bytes) (dirs : List Bytes) (s : Stop) (status : ℕ) (text : Bytes) → unit ≡ c.unit → dirs ≡ c.dirs → given ≡ names → IsCausedFrom unit seen dirs m names s → FromFiles seen.files c.dirs m c.unit names (Err s) → AnswersStop given unit s status text → Tells (AnswersVerify seen c cert m) status text
stop_certified_under seen c cert m names given unit dirs s status text same_unit same_dirs same_names h told a =
    let cause = subst (λ u. IsCausedFrom u seen c.dirs m names s) same_unit (subst (λ d. IsCausedFrom unit seen d m names s) same_dirs h) in
    let answer = subst (λ u. AnswersStop names u s status text) same_unit (subst (λ n. AnswersStop n unit s status text) same_names a) in
    stop_certified seen c cert m names s status text cause told answer

-- what is told under the model that was chosen, from what the tree gave meanwhile on
pub verify_chosen : (f0 f1 : Option Files) (a0 a1 a2 b0 b1 b2 : ℕ) (c : CommandView) (cert : Bytes) (m : Model) (name : Bytes) (choice : ModelChoice) (status : ℕ) (text : Bytes) → name ≡ c.model → choice ≡ Chosen m → IsChoice (seen_of f0 a0 a1 b0 b1) name choice → f1 ≡ f0 → a0 ≤ a1 → b0 ≤ b1 → Tells (AnswersVerify (seen_of f1 a1 a2 b1 b2) c cert m) status text → Tells (IsVerdict (seen_of f0 a0 a2 b0 b2) (Verify c cert)) status text
verify_chosen f0 f1 a0 a1 a2 b0 b1 b2 c cert m name choice status text same chose given files faults taken t = record {
  verdict = t.verdict;
  called_for = inr (record { chosen = m; has_model = model_held (seen_of f0 a0 a1 b0 b1) name c.model choice m same chose given; later = seen_of f1 a1 a2 b1 b2; is_later = later f0 f1 a0 a1 a2 b0 b1 b2 files faults taken; answered = t.called_for });
  by_status = t.by_status;
  by_text = t.by_text;
}
