-- A unit has one report.
use Rattle.std.specs.Prelude.{◌≡◌, List, Option, Some, Result, Ok, refl}
use Rattle.std.proofs.Common.{sym, ap, ap₂, subst, ◌∙◌}
use Rattle.cc_base.specs.Outside.{Files}
use Rattle.cc_base.specs.declared.diagnostics.Diag.{Diag}
use Rattle.c_layout.specs.declared.data_model.Model.{Model}
use Rattle.c_layout.specs.declared.unit_tokens.Unit7.{Unit7}
use Rattle.c_preproc.specs.Causes.{Seen}
use Rattle.c_preproc.specs.Units.{Preprocessed, Refused}
use Rattle.cli_words.specs.Words.Requests.{CommandView}
use Rattle.cli_words.specs.Words.Requests as asked
use Rattle.cli_texts.specs.LoadUnits.{load_of}
use Rattle.cli_texts.specs.Reports.{Bytes}
use Rattle.cli_units.specs.Judging.{SettingView, Judgement, IsJudged}
use Rattle.cli_answers.specs.Verdicts.{Verdict, reported, summed, Gives, FromFiles, FromBytes, IsReport, IsSummary, IsVerdict, check_setting, load_setting}
use Rattle.cli_theorems.specs.Units.Told.{IsAcceptedCheck, IsItsReport}
use Rattle.cli_theorems.specs.Units.ToldLoad.{IsAcceptedLoad, IsItsSummary}
use Rattle.cli_theorems.proofs.units.OneUnit.{same_unit}
use Rattle.cli_theorems.proofs.units.Told.{accepted_is_reported}
use Rattle.cli_theorems.proofs.units.ToldLoad.{accepted_is_summed}
use Rattle.cli_theorems.specs.Reports.OneReports.{SameReports, SameSummaries}
use Rattle.cli_theorems.proofs.reports.OneJudgement.{one_set, one_judgement}

-- ---- what is held gives one unit, with one list of names

read_both : {p q : Preprocessed} {x : Option (Result Preprocessed Refused)} → x ≡ Some (Ok p) → x ≡ Some (Ok q) → p ≡ q
read_both {p} {q} {x} is also = cc

made_both : {p q : Preprocessed} {x : Result Preprocessed Refused} → x ≡ Ok p → x ≡ Ok q → p ≡ q
made_both {p} {q} {x} is also = cc

-- what is found for reports of one unit, and their diagnostics
judgements_same : (given : Gives) (s : SettingView) (names others : List Bytes) (diags more : List Diag) (p : IsReport given s names diags) (q : IsReport given s others more) → p.expanded ≡ q.expanded → p.found ≡ q.found
judgements_same given s names others diags more p q unit = one_judgement q.expanded s p.found q.found (subst (λ (u : Unit7). IsJudged u s p.found) unit p.judged) q.judged

diagnostics_same : (given : Gives) (s : SettingView) (names others : List Bytes) (diags more : List Diag) (p : IsReport given s names diags) (q : IsReport given s others more) → p.expanded ≡ q.expanded → diags ≡ more
diagnostics_same given s names others diags more p q unit =
    one_set p.found.pairs q.found.pairs diags more (ap (λ (j : Judgement). j.pairs) (judgements_same given s names others diags more p q unit)) p.listed q.listed

pub one_read : (held : Files) (dirs : List Bytes) (m : Model) (main : Bytes) (s : SettingView) → SameReports (FromFiles (Some held) dirs m main) s
one_read held dirs m main s names others diags more p q =
    let same : ◌≡◌ {A = Preprocessed} (record { tokens = p.expanded.tokens; names = names }) (record { tokens = q.expanded.tokens; names = others }) = read_both (p.is_expanded.gives held refl) (q.is_expanded.gives held refl) in
    let unit : p.expanded ≡ q.expanded = same_unit p.expanded q.expanded (ap (λ (x : Preprocessed). x.tokens) same) (p.is_expanded.model ∙ sym q.is_expanded.model) in
    (ap (λ (x : Preprocessed). x.names) same, diagnostics_same (FromFiles (Some held) dirs m main) s names others diags more p q unit)

made_unit : (held : Files) (m : Model) (main bytes : Bytes) (s : SettingView) (names others : List Bytes) (diags more : List Diag) (p : IsReport (FromBytes (Some held) m main bytes) s names diags) (q : IsReport (FromBytes (Some held) m main bytes) s others more) → p.expanded ≡ q.expanded
made_unit held m main bytes s names others diags more p q =
    let same : ◌≡◌ {A = Preprocessed} (record { tokens = p.expanded.tokens; names = names }) (record { tokens = q.expanded.tokens; names = others }) = made_both (p.is_expanded.gives held refl) (q.is_expanded.gives held refl) in
    same_unit p.expanded q.expanded (ap (λ (x : Preprocessed). x.tokens) same) (p.is_expanded.model ∙ sym q.is_expanded.model)

pub one_made : (held : Files) (m : Model) (main bytes : Bytes) (s : SettingView) → SameSummaries (FromBytes (Some held) m main bytes) s
one_made held m main bytes s names others bases bases' cells cells' diags more p q =
    let unit : p.report.expanded ≡ q.report.expanded = made_unit held m main bytes s names others diags more p.report q.report in
    let found : p.report.found ≡ q.report.found = judgements_same (FromBytes (Some held) m main bytes) s names others diags more p.report q.report unit in (
      p.bases_of ∙ (ap (λ (j : Judgement). j.bases) found ∙ sym q.bases_of),
      p.cells_of ∙ (ap (λ (j : Judgement). j.cells) found ∙ sym q.cells_of),
      diagnostics_same (FromBytes (Some held) m main bytes) s names others diags more p.report q.report unit,
    )

-- ---- what is told

its_reports : (seen : Seen) (held : Files) (c : CommandView) (m : Model) (v w : Verdict) → seen.files ≡ Some held → IsItsReport seen c m v → IsItsReport seen c m w → v ≡ w
its_reports seen held c m v w told p q =
    let first : IsReport (FromFiles (Some held) c.dirs m c.unit) (check_setting c m) p.names p.diags = subst (λ (files : Option Files). IsReport (FromFiles files c.dirs m c.unit) (check_setting c m) p.names p.diags) told p.is_report in
    let last : IsReport (FromFiles (Some held) c.dirs m c.unit) (check_setting c m) q.names q.diags = subst (λ (files : Option Files). IsReport (FromFiles files c.dirs m c.unit) (check_setting c m) q.names q.diags) told q.is_report in
    let same = one_read held c.dirs m c.unit (check_setting c m) p.names q.names p.diags q.diags first last in
    p.reports ∙ (ap₂ (λ (names : List Bytes) (diags : List Diag). reported c.format names c.unit diags) same.0 same.1 ∙ sym q.reports)

pub one_verdict : (seen : Seen) (c : CommandView) → IsAcceptedCheck seen c → (v w : Verdict) → IsVerdict seen (asked.Check c) v → IsVerdict seen (asked.Check c) w → v ≡ w
one_verdict seen c a v w is also = its_reports seen a.held c a.model v w a.told (accepted_is_reported seen c a v is) (accepted_is_reported seen c a w also)

its_summaries : (seen : Seen) (held : Files) (c : CommandView) (m : Model) (v w : Verdict) → seen.files ≡ Some held → IsItsSummary seen c m v → IsItsSummary seen c m w → v ≡ w
its_summaries seen held c m v w told p q =
    let made = load_of c.seed c.count in
    let first : IsSummary (FromBytes (Some held) m c.unit made) (load_setting m) p.names p.bases p.cells p.diags = subst (λ (files : Option Files). IsSummary (FromBytes files m c.unit made) (load_setting m) p.names p.bases p.cells p.diags) told p.is_summary in
    let last : IsSummary (FromBytes (Some held) m c.unit made) (load_setting m) q.names q.bases q.cells q.diags = subst (λ (files : Option Files). IsSummary (FromBytes files m c.unit made) (load_setting m) q.names q.bases q.cells q.diags) told q.is_summary in
    let same = one_made held m c.unit made (load_setting m) p.names q.names p.bases q.bases p.cells q.cells p.diags q.diags first last in
    let both : summed c.unit p.bases p.cells p.diags ≡ summed c.unit q.bases q.cells q.diags = λ i. summed c.unit (same.0 i) (same.1 i) (same.2 i) in
    p.sums ∙ (both ∙ sym q.sums)

pub one_summary : (seen : Seen) (c : CommandView) → IsAcceptedLoad seen c → (v w : Verdict) → IsVerdict seen (asked.Load c) v → IsVerdict seen (asked.Load c) w → v ≡ w
one_summary seen c a v w is also = its_summaries seen a.held c a.model v w a.told (accepted_is_summed seen c a v is) (accepted_is_summed seen c a w also)
