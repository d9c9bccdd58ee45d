-- What is told of an accepted unit is its report.
use Rattle.std.proofs.Common.{◌≡◌, ◌∙◌, ◌⊎◌, ℕ, List, Option, Some, None, Result, Ok, Err, ap, inl, inr, refl, sym, subst}
use Rattle.cc_base.specs.Outside.{Files, Lacks, Rose, file_at}
use Rattle.cc_base.specs.declared.diagnostics.Diag.{Diag}
use Rattle.cc_base.specs.declared.refusals.Fault.{Fault}
use Rattle.cc_base.specs.declared.refusals.Stop.TheVariants as stop
use Rattle.c_layout.specs.declared.data_model.Model.{Model}
use Rattle.c_layout.specs.declared.unit_tokens.Unit7.{Unit7}
use Rattle.c_preproc.specs.Causes.{Seen}
use Rattle.c_preproc.specs.Told.{unit_as}
use Rattle.c_preproc.specs.Units.{Preprocessed, Refused, unit_from, main_read, world_of, sought}
use Rattle.cli_words.specs.declared.words.commands.Format.{Format}
use Rattle.cli_words.specs.Words.Requests.{CommandView}
use Rattle.cli_words.specs.Words.Requests as asked
use Rattle.cli_texts.specs.Reports.{Bytes}
use Rattle.cli_units.specs.Stages.{stage_of}
use Rattle.cli_units.specs.Judging.{SettingView, RefusesUnit}
use Rattle.cli_answers.specs.Outcomes.{Took, PutOnce, Outcome, told, read_fault, write_fault, no_memory, status_at, Happened, Answers}
use Rattle.cli_answers.specs.Verdicts as verdict
use Rattle.cli_answers.specs.Verdicts.{Verdict, reported, status_of, text_of, Tells, FromFiles, IsReport, IsLaterRefusal, IsStaged, IsRefusal, AnswersUnit, Under, IsVerdict, check_setting}
use Rattle.cli_theorems.specs.Units.Told.{IsTaken, IsAcceptedCheck, IsItsReport, ToldReport}
use Rattle.cli_theorems.proofs.units.GivenModels.{model_had, model_same}
use Rattle.cli_theorems.proofs.units.OneUnit.{one_unit}
use Rattle.cli_theorems.proofs.units.NotRefused.{accepted_not_refused}
use Rattle.cli_theorems.proofs.units.RefusalStages.{not_staged}

-- ---- a unit that files give is held

not_both : {p : Preprocessed} {r : Refused} {x : Option (Result Preprocessed Refused)} → x ≡ Some (Ok p) → x ≡ Some (Err r) → ⊥
not_both {p} {r} {x} is also = cc

no_main : {p : Preprocessed} {x : Option (Result Preprocessed Refused)} → x ≡ Some (Ok p) → x ≡ None → ⊥
no_main {p} {x} is also = cc

is_held : (held : Files) (dirs : List Bytes) (m : Model) (main : Bytes) (p : Preprocessed) → unit_from held dirs m main ≡ Some (Ok p) → file_at held main ≡ None → ⊥
is_held held dirs m main p is none = no_main is (ap (λ (found : Option Bytes). main_read (world_of (sought held) dirs m) main found) none)

-- ---- an accepted unit is not refused

later_never : (held : Files) (dirs : List Bytes) (main : Bytes) (s : SettingView) (names : List Bytes) (why : Fault) → IsTaken (FromFiles (Some held) dirs s.model main) s → IsLaterRefusal (FromFiles (Some held) dirs s.model main) s names why → ⊥
later_never held dirs main s names why taken later =
    let same = one_unit held dirs s.model main names taken.names later.expanded taken.expanded later.is_expanded taken.is_expanded in
    accepted_not_refused taken.expanded s why taken.is_expanded.few taken.accepted (subst (λ (u : Unit7). RefusesUnit u s why) same later.refuses)

early_never : (held : Files) (dirs : List Bytes) (main : Bytes) (s : SettingView) (names : List Bytes) (why : Fault) → IsTaken (FromFiles (Some held) dirs s.model main) s → FromFiles (Some held) dirs s.model main names (Err (stop.Refused why)) → ⊥
early_never held dirs main s names why taken given = not_both (taken.is_expanded.gives held refl) (given held refl)

-- ---- what is told

made_report : (seen : Seen) (c : CommandView) (m : Model) (form : Format) (names : List Bytes) (unit : Bytes) (diags : List Diag) → form ≡ c.format → unit ≡ c.unit → IsReport (FromFiles seen.files c.dirs m c.unit) (check_setting c m) names diags → IsItsReport seen c m (reported form names unit diags)
made_report seen c m form names unit diags formed named is = record { names = names; diags = diags; reports = ap (λ (f : Format). reported f names unit diags) formed ∙ ap (λ (u : Bytes). reported c.format names u diags) named; is_report = is }

pub lacks_not : (files : Option Files) (held : Files) (dirs : List Bytes) (m : Model) (main : Bytes) (s : SettingView) (reason : Type 0) → files ≡ Some held → IsTaken (FromFiles (Some held) dirs m main) s → Lacks files main reason → ⊥
lacks_not None held dirs m main s reason is taken lacks = absurd (cc is)
lacks_not (Some files) held dirs m main s reason is taken lacks = is_held files dirs m main (unit_as taken.names taken.expanded) (taken.is_expanded.gives files (sym is)) lacks

pub refusal_not : (files : Option Files) (held : Files) (dirs : List Bytes) (main : Bytes) (s : SettingView) (seen : Seen) (unit file : Bytes) (why : Fault) → files ≡ Some held → IsTaken (FromFiles (Some held) dirs s.model main) s → IsRefusal (FromFiles files dirs s.model main) seen dirs s unit file why → ⊥
refusal_not files held dirs main s seen unit file why is taken r =
    not_staged (FromFiles (Some held) dirs s.model main) s r.names why (stage_of why.refusal) (early_never held dirs main s r.names why taken) (later_never held dirs main s r.names why taken) (subst (λ (fs : Option Files). IsStaged (FromFiles fs dirs s.model main) s r.names why (stage_of why.refusal)) is r.staged)

unit_told : (seen : Seen) (held : Files) (c : CommandView) (m : Model) → seen.files ≡ Some held → IsTaken (FromFiles (Some held) c.dirs m c.unit) (check_setting c m) → (v : Verdict) → AnswersUnit seen c m v → IsItsReport seen c m v
unit_told seen held c m is taken (verdict.absent name) (same, lacks) =
    absurd (lacks_not seen.files held c.dirs m c.unit (check_setting c m) (Rose seen.faults seen.faults_now) is taken lacks)
unit_told seen held c m is taken (verdict.refused file why) h = absurd (refusal_not seen.files held c.dirs c.unit (check_setting c m) seen c.unit file why is taken h)
unit_told seen held c m is taken (verdict.reported form names unit diags) (formed, named, report) = made_report seen c m form names unit diags formed named report
unit_told seen held c m is taken verdict.helped h = absurd h
unit_told seen held c m is taken verdict.versioned h = absurd h
unit_told seen held c m is taken verdict.words_refused h = absurd h
unit_told seen held c m is taken (verdict.too_long name) h = absurd h
unit_told seen held c m is taken (verdict.no_model name reason) h = absurd h
unit_told seen held c m is taken (verdict.no_baseline name) h = absurd h
unit_told seen held c m is taken (verdict.no_draws name) h = absurd h
unit_told seen held c m is taken (verdict.summed unit bases cells diags) h = absurd h
unit_told seen held c m is taken (verdict.proved text) h = absurd h
unit_told seen held c m is taken (verdict.proved_past unit count) h = absurd h
unit_told seen held c m is taken (verdict.cert_refused name why) h = absurd h
unit_told seen held c m is taken (verdict.replayed names unit outcome) h = absurd h
unit_told seen held c m is taken (verdict.replayed_past file place count limit) h = absurd h

-- the same from an earlier time on
from_earlier : (seen later : Seen) (c : CommandView) (m : Model) (v : Verdict) → later.files ≡ seen.files → IsItsReport later c m v → IsItsReport seen c m v
from_earlier seen later c m v same r = record { names = r.names; diags = r.diags; reports = r.reports; is_report = subst (λ (fs : Option Files). IsReport (FromFiles fs c.dirs m c.unit) (check_setting c m) r.names r.diags) same r.is_report }

taken_of : (seen : Seen) (c : CommandView) (a : IsAcceptedCheck seen c) → IsTaken (FromFiles (Some a.held) c.dirs a.model c.unit) (check_setting c a.model)
taken_of seen c a = subst (λ (fs : Option Files). IsTaken (FromFiles fs c.dirs a.model c.unit) (check_setting c a.model)) a.told a.taken

under_told : (seen : Seen) (c : CommandView) (a : IsAcceptedCheck seen c) (v : Verdict) → Under seen c.model (λ later m. AnswersUnit later c m v) → IsItsReport seen c a.model v
under_told seen c a v u =
    let same = model_same seen.files a.held c.model a.model u.chosen a.told a.given u.has_model in
    let answered : AnswersUnit u.later c a.model v = subst (λ (m : Model). AnswersUnit u.later c m v) same u.answered in
    from_earlier seen u.later c a.model v u.is_later.files (unit_told u.later a.held c a.model (u.is_later.files ∙ a.told) (taken_of seen c a) v answered)

pub accepted_is_reported : (seen : Seen) (c : CommandView) (a : IsAcceptedCheck seen c) (v : Verdict) → IsVerdict seen (asked.Check c) v → IsItsReport seen c a.model v
accepted_is_reported seen c a v (inl refuses) = absurd (model_had seen a.held c.model a.model a.told a.given v refuses)
accepted_is_reported seen c a v (inr under) = under_told seen c a v under

-- ---- what is answered

told_report : (seen : Seen) (c : CommandView) (a : IsAcceptedCheck seen c) (sink : Took) (status : ℕ) (text : Bytes) → Tells (IsVerdict seen (asked.Check c)) status text → PutOnce sink text → ToldReport seen c a.model sink status
told_report seen c a sink status text t put =
    let r = accepted_is_reported seen c a t.verdict t.called_for in
    record { names = r.names; diags = r.diags; is_report = r.is_report; by_status = t.by_status ∙ ap (λ (v : Verdict). status_of v) r.reports; put = subst (λ (x : Bytes). PutOnce sink x) (t.by_text ∙ ap (λ (v : Verdict). text_of v) r.reports) put }

by_outcome : (seen : Seen) (c : CommandView) (a : IsAcceptedCheck seen c) (sink : Took) (status : ℕ) (o : Outcome) → status ≡ status_at o → Happened seen (asked.Check c) sink o → ToldReport seen c a.model sink status ⊎ ((status ≡ 5) ⊎ ((status ≡ 6) ⊎ (status ≡ 7)))
by_outcome seen c a sink status (told answer text) is (tells, put) = inl (told_report seen c a sink status text (subst (λ (n : ℕ). Tells (IsVerdict seen (asked.Check c)) n text) (sym is) tells) put)
by_outcome seen c a sink status read_fault is happened = inr (inl is)
by_outcome seen c a sink status (write_fault answer text) is happened = inr (inr (inl is))
by_outcome seen c a sink status no_memory is happened = inr (inr (inr is))

pub accepted_is_answered : (seen : Seen) (c : CommandView) (a : IsAcceptedCheck seen c) (sink : Took) (status : ℕ) → Answers seen (asked.Check c) sink status → ToldReport seen c a.model sink status ⊎ ((status ≡ 5) ⊎ ((status ≡ 6) ⊎ (status ≡ 7)))
accepted_is_answered seen c a sink status is = by_outcome seen c a sink status is.outcome is.by_status is.happened
