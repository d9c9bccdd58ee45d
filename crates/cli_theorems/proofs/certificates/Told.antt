-- What is told of a text that is proved, by both verbs over files that are told.
use Rattle.std.specs.Prelude.{◌≡◌, ◌⊎◌, List, ◌++◌, Option, Some, None, Contains}
use Rattle.std.proofs.Common.{sym, ap, subst, ◌∙◌, inl, inr, ⊎_elim}
use Rattle.std.proofs.lemmas.List.Elements.{Contains-append_right, Contains-append_cases}
use Rattle.cc_base.specs.Outside.{Files, file_at}
use Rattle.cc_base.specs.DiagnosticOrder.{IsOrderedSet}
use Rattle.cc_base.specs.declared.diagnostics.Diag.{Diag}
use Rattle.c_layout.specs.declared.data_model.Model.{Model}
use Rattle.c_layout.specs.declared.unit_tokens.Unit7.{Unit7}
use Rattle.c_preproc.specs.Causes.{Seen}
use Rattle.syntactic_rules.specs.StatementPlaces.{unit_places}
use Rattle.certificate_check.specs.declared.verdicts.verdicts.CertFault.{CertFault}
use Rattle.cli_words.specs.declared.words.commands.Format.{Format}
use Rattle.cli_words.specs.Words.Requests.{CommandView}
use Rattle.cli_words.specs.Words.Requests as asked
use Rattle.cli_texts.specs.Reports.{Bytes}
use Rattle.cli_units.specs.Judging.{SettingView, judging}
use Rattle.cli_units.specs.Certifying.{IsProved, CertAnswer, shows, refuses, IsVerifiedUnit}
use Rattle.cli_answers.specs.Verdicts.{proved, cert_refused, reported, HasModel, FromFiles, IsReport, IsProof, IsCheckedBy, AnswersVerify, AnswersUnit, IsVerdict, check_setting, cert_setting}
use Rattle.cli_theorems.specs.Certificates.SameUnits.{GiveOneUnit}
use Rattle.cli_theorems.specs.Certificates.ProvedTexts.{HoldsProved, HasRuns}
use Rattle.cli_theorems.proofs.certificates.SameUnits.{one_file, one_unit, same_files}
use Rattle.cli_theorems.proofs.certificates.Accepted as accepted

-- ---- what the verdicts say, over the files that are told

pub record Proves (held : Files) (c : CommandView) (text : Bytes) : Type 0 where
  pub model : Model
  pub has_model : HasModel (Some held) c.model model
  pub proof : IsProof (FromFiles (Some held) c.dirs model c.unit) (cert_setting c model) text

pub record Verifies (held : Files) (c : CommandView) (cert : Bytes) (names : List Bytes) (answer : CertAnswer) : Type 0 where
  pub model : Model
  pub has_model : HasModel (Some held) c.model model
  pub checked : IsCheckedBy (FromFiles (Some held) c.dirs model c.unit) (Some held) cert (cert_setting c model) names answer

record Reports (held : Files) (c : CommandView) (names : List Bytes) (diags : List Diag) : Type 0 where
  model : Model
  has_model : HasModel (Some held) c.model model
  report : IsReport (FromFiles (Some held) c.dirs model c.unit) (check_setting c model) names diags

pub proves_of : (seen : Seen) (held : Files) (c : CommandView) (text : Bytes) → seen.files ≡ Some held → IsVerdict seen (asked.Prove c) (proved text) → Proves held c text
proves_of seen held c text told (inl h) = absurd h
proves_of seen held c text told (inr u) = record {
  model = u.chosen;
  has_model = subst (λ (fs : Option Files). HasModel fs c.model u.chosen) told u.has_model;
  proof = subst (λ (fs : Option Files). IsProof (FromFiles fs c.dirs u.chosen c.unit) (cert_setting c u.chosen) text) (u.is_later.files ∙ told) u.answered.0;
}

checked_of : (seen later : Seen) (held : Files) (c : CommandView) (cert : Bytes) (m : Model) (names : List Bytes) (answer : CertAnswer) → seen.files ≡ Some held → later.files ≡ seen.files → HasModel seen.files c.model m
    → IsCheckedBy (FromFiles later.files c.dirs m c.unit) later.files cert (cert_setting c m) names answer → Verifies held c cert names answer
checked_of seen later held c cert m names answer told same has checked = record {
  model = m;
  has_model = subst (λ (fs : Option Files). HasModel fs c.model m) told has;
  checked = subst (λ (fs : Option Files). IsCheckedBy (FromFiles fs c.dirs m c.unit) fs cert (cert_setting c m) names answer) (same ∙ told) checked;
}

-- a refusal of the certificate, with the names of some unit's files
record RefusesText (held : Files) (c : CommandView) (cert : Bytes) (why : CertFault) : Type 0 where
  names : List Bytes
  verifies : Verifies held c cert names (refuses why)

refused_by : (seen later : Seen) (held : Files) (c : CommandView) (cert name : Bytes) (m : Model) (why : CertFault) → seen.files ≡ Some held → later.files ≡ seen.files → HasModel seen.files c.model m → AnswersVerify later c cert m (cert_refused name why) → RefusesText held c cert why
refused_by seen later held c cert name m why told same has (inl behind) = absurd behind.holds
refused_by seen later held c cert name m why told same has (inr (named, names, checked)) = record { names = names; verifies = checked_of seen later held c cert m names (refuses why) told same has checked }

refuses_of : (seen : Seen) (held : Files) (c : CommandView) (cert name : Bytes) (why : CertFault) → seen.files ≡ Some held → IsVerdict seen (asked.Verify c cert) (cert_refused name why) → RefusesText held c cert why
refuses_of seen held c cert name why told (inl h) = absurd h
refuses_of seen held c cert name why told (inr u) = refused_by seen u.later held c cert name u.chosen why told u.is_later.files u.has_model u.answered

shown_by : (seen later : Seen) (held : Files) (c : CommandView) (cert : Bytes) (m : Model) (form : Format) (names : List Bytes) (unit : Bytes) (shown : List Diag) → seen.files ≡ Some held → later.files ≡ seen.files → HasModel seen.files c.model m → AnswersVerify later c cert m (reported form names unit shown) → Verifies held c cert names (shows shown)
shown_by seen later held c cert m form names unit shown told same has (inl behind) = absurd behind.holds
shown_by seen later held c cert m form names unit shown told same has (inr (formed, named, checked)) = checked_of seen later held c cert m names (shows shown) told same has checked

shows_of : (seen : Seen) (held : Files) (c : CommandView) (cert : Bytes) (form : Format) (names : List Bytes) (unit : Bytes) (shown : List Diag) → seen.files ≡ Some held → IsVerdict seen (asked.Verify c cert) (reported form names unit shown) → Verifies held c cert names (shows shown)
shows_of seen held c cert form names unit shown told (inl h) = absurd h
shows_of seen held c cert form names unit shown told (inr u) = shown_by seen u.later held c cert u.chosen form names unit shown told u.is_later.files u.has_model u.answered

reported_by : (seen later : Seen) (held : Files) (c : CommandView) (m : Model) (form : Format) (names : List Bytes) (unit : Bytes) (diags : List Diag) → seen.files ≡ Some held → later.files ≡ seen.files → HasModel seen.files c.model m → AnswersUnit later c m (reported form names unit diags) → Reports held c names diags
reported_by seen later held c m form names unit diags told same has (formed, named, report) = record {
  model = m;
  has_model = subst (λ (fs : Option Files). HasModel fs c.model m) told has;
  report = subst (λ (fs : Option Files). IsReport (FromFiles fs c.dirs m c.unit) (check_setting c m) names diags) (same ∙ told) report;
}

reports_of : (seen : Seen) (held : Files) (c : CommandView) (form : Format) (names : List Bytes) (unit : Bytes) (diags : List Diag) → seen.files ≡ Some held → IsVerdict seen (asked.Check c) (reported form names unit diags) → Reports held c names diags
reports_of seen held c form names unit diags told (inl h) = absurd h
reports_of seen held c form names unit diags told (inr u) = reported_by seen u.later held c u.chosen form names unit diags told u.is_later.files u.has_model u.answered

-- ---- a text that is proved, and the certificate that is verified, are of one unit

module _ (c : CommandView) (held files : Files) (alike : GiveOneUnit c held files) (cert text : Bytes) (holds : file_at files cert ≡ Some text) (p : Proves held c text) where
  module _ (names : List Bytes) (answer : CertAnswer) (v : Verifies files c cert names answer) where
    abbrev unit : Unit7
    unit = v.checked.expanded

    proof : IsProof (FromFiles (Some held) c.dirs v.model c.unit) (cert_setting c v.model) text
    proof = subst (λ (m : Model). IsProof (FromFiles (Some held) c.dirs m c.unit) (cert_setting c m) text) (alike.models p.model v.model p.has_model v.has_model) p.proof

    pub proved_here : IsProved unit (cert_setting c v.model) text
    proved_here =
        let same = one_unit c held files v.model proof.names names proof.expanded unit alike proof.is_expanded v.checked.is_expanded in
        subst (λ (u : Unit7). IsProved u (cert_setting c v.model) text) same.unit proof.proved

    verified_here : IsVerifiedUnit unit (cert_setting c v.model) text answer
    verified_here = subst (λ (bytes : Bytes). IsVerifiedUnit unit (cert_setting c v.model) bytes answer) (one_file v.checked.held holds) v.checked.verifies

  refused_never : (why : CertFault) → RefusesText files c cert why → ⊥
  refused_never why r = accepted.never_refused (unit r.names (refuses why) r.verifies) (cert_setting c r.verifies.model) text (proved_here r.names (refuses why) r.verifies) why (verified_here r.names (refuses why) r.verifies)

  -- ---- and so is what `check` tells

  module _ (none : c.turns ≡ None) (names others : List Bytes) (shown diags : List Diag) (v : Verifies files c cert names (shows shown)) (r : Reports files c others diags) where
    report : IsReport (FromFiles (Some files) c.dirs v.model c.unit) (check_setting c v.model) others diags
    report = subst (λ (m : Model). IsReport (FromFiles (Some files) c.dirs m c.unit) (check_setting c m) others diags) ((same_files c files).models r.model v.model r.has_model v.has_model) r.report

    same_setting : cert_setting c v.model ≡ check_setting c v.model
    same_setting = sym (ap (judging v.model c.entry) none)

    same_names : others ≡ names
    same_names = (one_unit c files files v.model others names report.expanded v.checked.expanded (same_files c files) report.is_expanded v.checked.is_expanded).names_are

    same_unit : v.checked.expanded ≡ report.expanded
    same_unit = sym (one_unit c files files v.model others names report.expanded v.checked.expanded (same_files c files) report.is_expanded v.checked.is_expanded).unit

    runs : report.judged.found.runs ≡ shown
    runs =
        let proved_so : IsProved report.expanded (check_setting c v.model) text =
        subst (λ (u : Unit7). IsProved u (check_setting c v.model) text) same_unit (subst (λ (s : SettingView). IsProved v.checked.expanded s text) same_setting (proved_here names (shows shown) v)) in
        let verified_so : IsVerifiedUnit report.expanded (check_setting c v.model) text (shows shown) =
        subst (λ (u : Unit7). IsVerifiedUnit u (check_setting c v.model) text (shows shown)) same_unit (subst (λ (s : SettingView). IsVerifiedUnit v.checked.expanded s text (shows shown)) same_setting (verified_here names (shows shown) v)) in
        accepted.runs_are report.expanded (check_setting c v.model) text proved_so none shown verified_so report.found report.judged

    both : report.found.pairs ≡ report.judged.found.texts ++ shown
    both = report.judged.found.both ∙ ap (λ (ds : List Diag). report.judged.found.texts ++ ds) runs

    listed : IsOrderedSet (report.judged.found.texts ++ shown) diags
    listed = subst (λ (ds : List Diag). IsOrderedSet ds diags) both report.listed

    beside : (d : Diag) → Contains diags d → Contains shown d ⊎ Contains (unit_places report.judged.checked) d
    beside d here =
        ⊎_elim (λ (h : Contains report.judged.found.texts d). inr (report.judged.found.by_texts.made d h)) (λ (h : Contains shown d). inl h)
        (Contains-append_cases report.judged.found.texts shown d (listed.made d here))

    has_runs : HasRuns (Some files) c others diags shown
    has_runs = record {
      model = v.model;
      report = report;
      runs = runs;
      kept = λ d there. listed.kept d (Contains-append_right report.judged.found.texts shown d there);
      others = beside;
    }

-- ---- the laws

pub proved_is_not_refused : (seen : Seen) (c : CommandView) (cert : Bytes) → HoldsProved seen c cert → (name : Bytes) (why : CertFault) → IsVerdict seen (asked.Verify c cert) (cert_refused name why) → ⊥
proved_is_not_refused seen c cert h name why is =
    refused_never c h.held h.files h.alike cert h.text h.holds (proves_of h.before h.held c h.text h.told_before h.proves) why (refuses_of seen h.files c cert name why h.told is)

pub shows_runs :
    (seen : Seen) (c : CommandView) (cert : Bytes) → HoldsProved seen c cert → c.turns ≡ None →
    (form : Format) (names : List Bytes) (unit : Bytes) (shown : List Diag) → IsVerdict seen (asked.Verify c cert) (reported form names unit shown) →
    (checking : Seen) → checking.files ≡ seen.files →
    (other : Format) (others : List Bytes) (again : Bytes) (diags : List Diag) → IsVerdict checking (asked.Check c) (reported other others again diags) →
    (others ≡ names) × HasRuns checking.files c others diags shown
shows_runs seen c cert h none form names unit shown is checking same other others again diags also =
    let told : checking.files ≡ Some h.files = same ∙ h.told in
    let p = proves_of h.before h.held c h.text h.told_before h.proves in
    let v = shows_of seen h.files c cert form names unit shown h.told is in
    let r = reports_of checking h.files c other others again diags told also in (
      same_names c h.held h.files h.alike cert h.text h.holds p none names others shown diags v r,
      subst (λ (fs : Option Files). HasRuns fs c others diags shown) (sym told) (has_runs c h.held h.files h.alike cert h.text h.holds p none names others shown diags v r),
    )
