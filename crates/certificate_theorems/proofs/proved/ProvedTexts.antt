-- What is written of the least inductive map comes to what an analysis finds.
use Rattle.std.specs.Prelude.{◌≡◌, ◌&&◌, ℤ, true, List, None, refl}
use Rattle.std.proofs.Common.{sym, subst}
use Rattle.std.proofs.lemmas.Bool.{and_parts, and_from}
use Rattle.cc_base.specs.DiagnosticOrder.{IsOrderedSet}
use Rattle.cc_base.specs.InductiveMap.{IsLeast}
use Rattle.cc_base.specs.Standard.{standard_limits}
use Rattle.cc_base.specs.declared.diagnostics.Diag.{Diag}
use Rattle.cfg.specs.WellFormed.{is_well_formed}
use Rattle.cfg.specs.declared.programs.Flow.{Flow}
use Rattle.interval_domain.specs.Intervals.IntervalLattice.{interval_lattice}
use Rattle.interval_domain.specs.Intervals.IntervalNumbers.{interval_numbers}
use Rattle.transfer_system.specs.System.RegularPrograms.{has_scalars, has_initial_bytes, has_apart_members, is_near_list, is_regular}
use Rattle.diagnose.specs.Operands.TypedRows.{is_typed_map}
use Rattle.analysis_determined.specs.Analyses.{row_lattice, machine_of, admitted_pairs, IsAnalysis}
use Rattle.analysis_determined.specs.CheckedPrograms.{IsChecked}
use Rattle.analysis_determined.proofs.RegularSystems.{regular_monotone}
use Rattle.analysis_determined.proofs.least_maps.LeastAnalyses.{one_answer}
use Rattle.certificate_text.specs.Lines.LineWords.{Bytes}
use Rattle.certificate_check.specs.Reading.MapReading.{map_rows}
use Rattle.certificate_theorems.proofs.verdicts.VerdictProofs.{one_verdict_alone}
use Rattle.certificate_check.specs.declared.verdicts.verdicts.CertFault.{CertFault}
use Rattle.certificate_check.specs.declared.verdicts.verdicts.Verdict.TheVariants.{Yes, No}
use Rattle.certificate_check.specs.Verdicts.Verdicts.{IsVerdictOn}
use Rattle.certificate_programs.specs.declared.programs.checked_maps.Told.{Told}
use Rattle.certificate_programs.specs.declared.programs.checked_maps.Verified.{Verified}
use Rattle.certificate_programs.specs.declared.programs.checked_maps.Verified.TheVariants.{Found, Refused}
use Rattle.certificate_programs.specs.Programs.Certificates.{look_numbers, IsCertificate, IsLookedAt, IsShown, IsVerified}
use Rattle.certificate_programs.specs.Programs.ReadMaps.{IsToldOf}
use Rattle.certificate_theorems.specs.Proved.ProvedTexts.{IsAnalysed}
use Rattle.certificate_theorems.proofs.proved.AcceptedTexts.{proved_accepted, rows_are}

-- ---- the looks of `verify`

-- a regular program is regular with each near list
near_regular : (flow : Flow) (list other : List ℤ) → is_near_list other ≡ true → is_regular flow list ≡ true → is_regular flow other ≡ true
near_regular flow list other near h =
    let a = and_parts (is_well_formed standard_limits flow) _ h in
    let b = and_parts (has_scalars flow) (has_initial_bytes flow && (has_apart_members flow && is_near_list list)) a.1 in
    let c = and_parts (has_initial_bytes flow) _ b.1 in
    let d = and_parts (has_apart_members flow) (is_near_list list) c.1 in
    and_from _ _ a.0 (and_from _ _ b.0 (and_from _ _ c.0 (and_from _ _ d.0 near)))

looks_checked : (flow : Flow) (list : List ℤ) → IsChecked flow list → IsChecked flow look_numbers
looks_checked flow list c = record { parts = c.parts; structs = c.structs; reaches = refl }

pub looked_at : (flow : Flow) (list : List ℤ) (text : Bytes) → IsCertificate flow list text → IsLookedAt flow
looked_at flow list text c = record { started = c.started; regular = near_regular flow list look_numbers refl c.regular; checked = looks_checked flow list c.checked }

-- ---- what the text comes to

module _ (flow : Flow) (list : List ℤ) (text : Bytes) (c : IsCertificate flow list text) where
  pub not_cut : (told : Told) → IsToldOf flow text told → told.smaller ≡ None
  not_cut told h = h.kept (subst (λ rs. is_typed_map interval_lattice interval_numbers flow rs ≡ true) (sym (rows_are flow list text c)) c.typed)

  pub least_map : IsLeast row_lattice (machine_of flow list) c.rows
  least_map = c.least (regular_monotone flow list c.regular)

  analysis_by : (found : List Diag) → IsOrderedSet (admitted_pairs flow c.rows) found → IsAnalysis flow list found
  analysis_by found pairs = record {
    started = c.started;
    regular = c.regular;
    checked = c.checked;
    rows = c.rows;
    inductive = c.inductive;
    least = c.least;
    typed = c.typed;
    pairs = pairs;
  }

  pub analysis_read : (found : List Diag) → IsOrderedSet (admitted_pairs flow (map_rows flow text)) found → IsAnalysis flow list found
  analysis_read found pairs = analysis_by found (subst (λ rs. IsOrderedSet (admitted_pairs flow rs) found) (rows_are flow list text c) pairs)

  not_refused : (why : CertFault) → IsVerdictOn flow text (No why) → ⊥
  not_refused why refused = let same : Yes ≡ No why = one_verdict_alone flow text Yes (No why) (proved_accepted flow list text c) refused in absurd (cc same)

  pub analysed : (verified : Verified) → IsVerified flow text verified → IsAnalysed flow list verified
  analysed (Found found) shown = analysis_read found.items shown.pairs
  analysed (Refused why) refused = not_refused why refused

  pub shown_found : (shown found : List Diag) → IsShown flow text shown → IsAnalysis flow list found → shown ≡ found
  shown_found shown found is also = one_answer flow list shown found (analysis_read shown is.pairs) also
