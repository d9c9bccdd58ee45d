-- What `load` tells of an accepted unit is its summary.
use Rattle.std.proofs.Common.{◌≡◌, ◌∙◌, ℕ, List, [], Option, Some, Result, Ok, Err, ap, inl, inr, refl, sym, subst}
use Rattle.cc_base.specs.Outside.{Files}
use Rattle.cc_base.specs.declared.diagnostics.Diag.{Diag}
use Rattle.cc_base.specs.declared.refusals.Fault.{Fault}
use Rattle.cc_base.specs.declared.refusals.Stop.TheVariants as stop
use Rattle.c_layout.specs.declared.data_model.Model.{Model}
use Rattle.c_layout.specs.declared.unit_tokens.Unit7.{Unit7}
use Rattle.c_preproc.specs.Causes.{Seen}
use Rattle.c_preproc.specs.Units.{Preprocessed, Refused}
use Rattle.cli_words.specs.Words.Requests.{CommandView}
use Rattle.cli_words.specs.Words.Requests as asked
use Rattle.cli_texts.specs.LoadUnits.{load_of}
use Rattle.cli_texts.specs.Reports.{Bytes}
use Rattle.cli_units.specs.Stages.{stage_of}
use Rattle.cli_units.specs.Judging.{SettingView, RefusesUnit}
use Rattle.cli_answers.specs.Verdicts as verdict
use Rattle.cli_answers.specs.Verdicts.{Verdict, summed, FromBytes, IsExpanded, IsSummary, IsLaterRefusal, IsStaged, IsRefusal, AnswersLoad, Under, IsVerdict, load_setting}
use Rattle.cli_theorems.specs.Units.Told.{IsTaken}
use Rattle.cli_theorems.specs.Units.ToldLoad.{IsAcceptedLoad, IsItsSummary}
use Rattle.cli_theorems.proofs.units.NotRefused.{accepted_not_refused}
use Rattle.cli_theorems.proofs.units.RefusalStages.{not_staged}
use Rattle.cli_theorems.proofs.units.GivenModels.{model_had, model_same}
use Rattle.cli_theorems.proofs.units.OneUnit.{same_unit}

not_both : {p : Preprocessed} {r : Refused} {x : Result Preprocessed Refused} → x ≡ Ok p → x ≡ Err r → ⊥
not_both {p} {r} {x} is also = let h : Ok p ≡ Err r = sym is ∙ also in absurd (cc h)

both : {p q : Preprocessed} {x : Result Preprocessed Refused} → x ≡ Ok p → x ≡ Ok q → p ≡ q
both {p} {q} {x} is also = cc

one_made : (held : Files) (m : Model) (main bytes : Bytes) (names others : List Bytes) (u v : Unit7) → IsExpanded (FromBytes (Some held) m main bytes) m names u → IsExpanded (FromBytes (Some held) m main bytes) m others v → u ≡ v
one_made held m main bytes names others u v is also =
    let same = both (is.gives held refl) (also.gives held refl) in
    same_unit u v (ap (λ (p : Preprocessed). p.tokens) same) (is.model ∙ sym also.model)

later_never : (held : Files) (main bytes : Bytes) (s : SettingView) (names : List Bytes) (why : Fault) → IsTaken (FromBytes (Some held) s.model main bytes) s → IsLaterRefusal (FromBytes (Some held) s.model main bytes) s names why → ⊥
later_never held main bytes s names why taken later =
    let same = one_made held s.model main bytes names taken.names later.expanded taken.expanded later.is_expanded taken.is_expanded in
    accepted_not_refused taken.expanded s why taken.is_expanded.few taken.accepted (subst (λ (u : Unit7). RefusesUnit u s why) same later.refuses)

early_never : (held : Files) (main bytes : Bytes) (s : SettingView) (names : List Bytes) (why : Fault) → IsTaken (FromBytes (Some held) s.model main bytes) s → FromBytes (Some held) s.model main bytes names (Err (stop.Refused why)) → ⊥
early_never held main bytes s names why taken given = not_both (taken.is_expanded.gives held refl) (given held refl)

refusal_not : (files : Option Files) (held : Files) (main bytes : Bytes) (s : SettingView) (seen : Seen) (unit file : Bytes) (why : Fault) → files ≡ Some held → IsTaken (FromBytes (Some held) s.model main bytes) s → IsRefusal (FromBytes files s.model main bytes) seen [] s unit file why → ⊥
refusal_not files held main bytes s seen unit file why is taken r =
    not_staged (FromBytes (Some held) s.model main bytes) s r.names why (stage_of why.refusal) (early_never held main bytes s r.names why taken) (later_never held main bytes s r.names why taken) (subst (λ (fs : Option Files). IsStaged (FromBytes fs s.model main bytes) s r.names why (stage_of why.refusal)) is r.staged)

made_summary : (seen : Seen) (c : CommandView) (m : Model) (unit : Bytes) (names : List Bytes) (bases cells : ℕ) (diags : List Diag) → unit ≡ c.unit → IsSummary (FromBytes seen.files m c.unit (load_of c.seed c.count)) (load_setting m) names bases cells diags → IsItsSummary seen c m (summed unit bases cells diags)
made_summary seen c m unit names bases cells diags named is = record { names = names; bases = bases; cells = cells; diags = diags; sums = ap (λ (u : Bytes). summed u bases cells diags) named; is_summary = is }

unit_told : (seen : Seen) (held : Files) (c : CommandView) (m : Model) → seen.files ≡ Some held → IsTaken (FromBytes (Some held) m c.unit (load_of c.seed c.count)) (load_setting m) → (v : Verdict) → AnswersLoad seen c m v → IsItsSummary seen c m v
unit_told seen held c m is taken (verdict.refused file why) h = absurd (refusal_not seen.files held c.unit (load_of c.seed c.count) (load_setting m) seen c.unit file why is taken h)
unit_told seen held c m is taken (verdict.summed unit bases cells diags) (named, names, summary) = made_summary seen c m unit names bases cells diags named summary
unit_told seen held c m is taken (verdict.absent name) h = absurd h
unit_told seen held c m is taken (verdict.reported form names unit diags) h = absurd h
unit_told seen held c m is taken verdict.helped h = absurd h
unit_told seen held c m is taken verdict.versioned h = absurd h
unit_told seen held c m is taken verdict.words_refused h = absurd h
unit_told seen held c m is taken (verdict.too_long name) h = absurd h
unit_told seen held c m is taken (verdict.no_model name reason) h = absurd h
unit_told seen held c m is taken (verdict.no_baseline name) h = absurd h
unit_told seen held c m is taken (verdict.no_draws name) h = absurd h
unit_told seen held c m is taken (verdict.proved text) h = absurd h
unit_told seen held c m is taken (verdict.proved_past unit count) h = absurd h
unit_told seen held c m is taken (verdict.cert_refused name why) h = absurd h
unit_told seen held c m is taken (verdict.replayed names unit outcome) h = absurd h
unit_told seen held c m is taken (verdict.replayed_past file place count limit) h = absurd h

-- the same from an earlier time on
from_earlier : (seen later : Seen) (c : CommandView) (m : Model) (v : Verdict) → later.files ≡ seen.files → IsItsSummary later c m v → IsItsSummary seen c m v
from_earlier seen later c m v same r = record { names = r.names; bases = r.bases; cells = r.cells; diags = r.diags; sums = r.sums; is_summary = subst (λ (fs : Option Files). IsSummary (FromBytes fs m c.unit (load_of c.seed c.count)) (load_setting m) r.names r.bases r.cells r.diags) same r.is_summary }

taken_of : (seen : Seen) (c : CommandView) (a : IsAcceptedLoad seen c) → IsTaken (FromBytes (Some a.held) a.model c.unit (load_of c.seed c.count)) (load_setting a.model)
taken_of seen c a = subst (λ (fs : Option Files). IsTaken (FromBytes fs a.model c.unit (load_of c.seed c.count)) (load_setting a.model)) a.told a.taken

under_told : (seen : Seen) (c : CommandView) (a : IsAcceptedLoad seen c) (v : Verdict) → Under seen c.model (λ later m. AnswersLoad later c m v) → IsItsSummary seen c a.model v
under_told seen c a v u =
    let same = model_same seen.files a.held c.model a.model u.chosen a.told a.given u.has_model in
    let answered : AnswersLoad u.later c a.model v = subst (λ (m : Model). AnswersLoad u.later c m v) same u.answered in
    from_earlier seen u.later c a.model v u.is_later.files (unit_told u.later a.held c a.model (u.is_later.files ∙ a.told) (taken_of seen c a) v answered)

pub accepted_is_summed : (seen : Seen) (c : CommandView) (a : IsAcceptedLoad seen c) (v : Verdict) → IsVerdict seen (asked.Load c) v → IsItsSummary seen c a.model v
accepted_is_summed seen c a v (inl refuses) = absurd (model_had seen a.held c.model a.model a.told a.given v refuses)
accepted_is_summed seen c a v (inr under) = under_told seen c a v under
