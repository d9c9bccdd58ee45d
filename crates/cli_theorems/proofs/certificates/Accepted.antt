-- Of one unit, a text that is proved is not refused, and what it shows is what an analysis finds.
use Rattle.std.specs.Prelude.{◌≡◌, ℕ, ℤ, List, Option, None}
use Rattle.std.proofs.Common.{sym, ap, subst, ◌∙◌}
use Rattle.cc_base.specs.DiagnosticOrder.{IsOrderedSet}
use Rattle.cc_base.specs.declared.diagnostics.Diag.{Diag}
use Rattle.c_layout.specs.declared.unit_tokens.Unit7.{Unit7}
use Rattle.cfg.specs.declared.programs.Flow.{Flow}
use Rattle.lower_templates.specs.Views.ProgramViews.{flow_view}
use Rattle.analysis_determined.proofs.program_views.SameNumbers.{one_list_of_views}
use Rattle.interval_domain.specs.declared.intervals.intervals.Interval.{Interval}
use Rattle.value_domain.specs.declared.values.row_cells.Cell.{Cell}
use Rattle.analysis_determined.specs.Analyses.{admitted_pairs, IsAnalysis}
use Rattle.analysis_determined.proofs.analysis_views.OneAnalysis.{one_admission, one_analysis}
use Rattle.certificate_check.specs.Reading.MapReading.{map_rows}
use Rattle.certificate_check.specs.declared.verdicts.verdicts.CertFault.{CertFault}
use Rattle.certificate_check.specs.declared.verdicts.verdicts.Verdict.TheVariants.{Yes, No}
use Rattle.certificate_theorems.proofs.verdicts.VerdictProofs.{one_verdict_alone}
use Rattle.certificate_theorems.proofs.proved.AcceptedTexts.{proved_accepted}
use Rattle.certificate_theorems.proofs.proved.ProvedTexts.{analysis_read}
use Rattle.cli_texts.specs.Reports.{Bytes}
use Rattle.cli_units.specs.Judging.{SettingView, Judgement, IsUnrolled, IsJudged}
use Rattle.cli_units.specs.Certifying.{IsProgram, IsProved, shows, refuses, IsVerifiedUnit}
use Rattle.cli_theorems.specs.Units.Accepted.{HasProgram}
use Rattle.cli_theorems.proofs.units.OneParse.{one_program_of}
use Rattle.cli_theorems.proofs.certificates.SameTexts.{rows_same, accepted_same}

abbrev pub program_of : (unit : Unit7) (s : SettingView) (flow : Flow) → IsProgram unit s flow → HasProgram unit s
program_of unit s flow p = record { tree = p.tree; parsed = p.parsed; checked = p.checked; typed = p.typed; flow = flow; lowered = p.lowered }

abbrev judged_program : (unit : Unit7) (s : SettingView) (j : Judgement) → IsJudged unit s j → HasProgram unit s
judged_program unit s j a = record { tree = a.tree; parsed = a.parsed; checked = a.checked; typed = a.typed; flow = a.flow; lowered = a.lowered }

module _ (unit : Unit7) (s : SettingView) (text : Bytes) (p : IsProved unit s text) where
  pub same_view : (h : HasProgram unit s) → flow_view p.flow ≡ flow_view h.flow
  same_view h = one_program_of unit s (program_of unit s p.flow p.program) h

  pub never_refused : (why : CertFault) → IsVerifiedUnit unit s text (refuses why) → ⊥
  never_refused why v =
      let view : flow_view p.flow ≡ flow_view v.flow = same_view (program_of unit s v.flow v.program) in
      let accepted = accepted_same p.flow v.flow view text (proved_accepted p.flow p.proof.list text p.proof.certificate) in
      let both : Yes ≡ No why = one_verdict_alone v.flow text Yes (No why) accepted v.answers in
      absurd (cc both)

  -- what is shown of the text by another program of the unit, as that of the first one
  pub found_by_text : (shown : List Diag) → IsVerifiedUnit unit s text (shows shown) → IsAnalysis p.flow p.proof.list shown
  found_by_text shown v =
      let view : flow_view p.flow ≡ flow_view v.flow = same_view (program_of unit s v.flow v.program) in
      let rows : IsOrderedSet (admitted_pairs v.flow (map_rows p.flow text)) shown = subst (λ (rs : List (Option (List (Cell Interval)))). IsOrderedSet (admitted_pairs v.flow rs) shown) (sym (rows_same p.flow v.flow view text)) v.answers.pairs in
      let pairs : IsOrderedSet (admitted_pairs p.flow (map_rows p.flow text)) shown = subst (λ (ds : List Diag). IsOrderedSet ds shown) (sym (one_admission p.flow v.flow view (map_rows p.flow text))) rows in
      analysis_read p.flow p.proof.list text p.proof.certificate shown pairs

  unrolled_none : (turns : Option ℕ) (flow analysed : Flow) → turns ≡ None → IsUnrolled turns flow analysed → analysed ≡ flow
  unrolled_none turns flow analysed none is = subst (λ t. IsUnrolled t flow analysed) none is

  pub runs_are : s.turns ≡ None → (shown : List Diag) → IsVerifiedUnit unit s text (shows shown) → (j : Judgement) (a : IsJudged unit s j) → a.found.runs ≡ shown
  runs_are none shown v j a =
      let first : flow_view p.flow ≡ flow_view a.flow = same_view (judged_program unit s j a) in
      let view : flow_view p.flow ≡ flow_view a.analysed = first ∙ sym (ap flow_view (unrolled_none s.turns a.flow a.analysed none a.turned)) in
      let list : p.proof.list ≡ a.found.list = one_list_of_views p.flow a.flow first p.proof.list a.found.list p.proof.thresholds a.found.thresholds p.proof.ascending a.found.ascending in
      let runs : IsAnalysis a.analysed p.proof.list a.found.runs = subst (λ (l : List ℤ). IsAnalysis a.analysed l a.found.runs) (sym list) a.found.by_runs in
      sym (one_analysis p.flow a.analysed view p.proof.list shown a.found.runs (found_by_text shown v) runs)
