-- What the analysis finds in a program with turns unrolled, it finds in the program.
use Rattle.std.specs.Prelude.{◌≡◌, ℕ, ℤ, true, List, Contains}
use Rattle.std.proofs.Common.{sym, ◌∙◌}
use Rattle.std.proofs.lemmas.List.{length-map}
use Rattle.cc_base.specs.declared.diagnostics.Diag.{Diag}
use Rattle.cfg.specs.declared.programs.Flow.{Flow}
use Rattle.lower_templates.specs.Views.ProgramViews.{block, flow_view}
use Rattle.interval_domain.specs.Intervals.IntervalLattice.{interval_lattice}
use Rattle.interval_domain.specs.Intervals.IntervalNumbers.{interval_numbers}
use Rattle.transfer_system.specs.System.SystemChecks.{is_system}
use Rattle.analysis.specs.Analyses.{IsAnalysis}
use Rattle.loop_unrolling.specs.Turns.{split}
use Rattle.analysis_determined.specs.UnrolledDiagnostics.CopiedMaps.{copied_map}
use Rattle.analysis_determined.proofs.least_maps.ExactAnalyses.{exact_analysis}
use Rattle.analysis_determined.proofs.unrolled_diagnostics.UnrolledMaps.{copies_inductive}
use Rattle.analysis_determined.proofs.unrolled_diagnostics.UnrolledPairs.{copies_admit}

pub still_named : (turns : ℕ) (flow turned : Flow) (list : List ℤ) → is_system flow ≡ true → flow_view turned ≡ split turns (flow_view flow) → (found pairs : List Diag) → IsAnalysis flow list found → IsAnalysis turned list pairs → (d : Diag) → Contains pairs d → Contains found d
still_named turns flow turned list valid h found pairs p q d e =
    (exact_analysis flow list found p).kept d (λ rows i.
    let long = i.size ∙ sym (length-map flow.blocks.items block) in
    copies_admit interval_lattice interval_numbers turns flow turned h rows long d ((exact_analysis turned list pairs q).made d e (copied_map turns rows) (copies_inductive interval_lattice interval_numbers list turns flow turned h rows long valid i)))
