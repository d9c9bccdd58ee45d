-- The analyses of programs with the same view give the same diagnostics.
use Rattle.std.specs.Prelude.{◌≡◌, ℤ, Option, List, Contains}
use Rattle.std.proofs.Common.{sym, subst}
use Rattle.cc_base.specs.InductiveMap.{IsInductive}
use Rattle.cc_base.specs.Machine.{Machine}
use Rattle.cc_base.specs.declared.diagnostics.Diag.{Diag}
use Rattle.cfg.specs.declared.programs.Flow.{Flow}
use Rattle.lower_templates.specs.Views.ProgramViews.{flow_view}
use Rattle.value_domain.specs.declared.values.row_cells.Cell.{Cell}
use Rattle.interval_domain.specs.declared.intervals.intervals.Interval.{Interval}
use Rattle.interval_domain.specs.Intervals.IntervalLattice.{interval_lattice}
use Rattle.interval_domain.specs.Intervals.IntervalNumbers.{interval_numbers}
use Rattle.analysis.specs.Analyses.{row_lattice, machine_of, admitted_pairs, IsAnalysis}
use Rattle.analysis_determined.specs.LeastMaps.ExactAnalyses.{IsAdmitted}
use Rattle.analysis_determined.proofs.least_maps.ExactAnalyses.{exact_analysis}
use Rattle.analysis_determined.proofs.least_maps.OrderedSets.{one_list}
use Rattle.analysis_determined.proofs.analysis_views.SameSystems.{system_same}
use Rattle.analysis_determined.proofs.analysis_views.SamePairs.{map_same}

pub one_system : (f g : Flow) → flow_view f ≡ flow_view g → (list : List ℤ) → machine_of f list ≡ machine_of g list
one_system f g h list = system_same interval_lattice interval_numbers f g h list

pub one_admission : (f g : Flow) → flow_view f ≡ flow_view g → (rows : List (Option (List (Cell Interval)))) → admitted_pairs f rows ≡ admitted_pairs g rows
one_admission f g h rows = map_same interval_lattice interval_numbers f g h rows

admitted_same : (f g : Flow) → flow_view f ≡ flow_view g → (list : List ℤ) (d : Diag) → IsAdmitted f list d → IsAdmitted g list d
admitted_same f g h list d a rows i =
    let here : IsInductive row_lattice (machine_of f list) rows = subst (λ (m : Machine (Cell Interval)). IsInductive row_lattice m rows) (sym (one_system f g h list)) i in
    subst (λ (ds : List Diag). Contains ds d) (one_admission f g h rows) (a rows here)

pub one_analysis : (f g : Flow) → flow_view f ≡ flow_view g → (list : List ℤ) (found pairs : List Diag) → IsAnalysis f list found → IsAnalysis g list pairs → found ≡ pairs
one_analysis f g h list found pairs p q =
    let one = exact_analysis f list found p in
    let two = exact_analysis g list pairs q in
    one_list found pairs one.ascending two.ascending (λ d e. two.kept d (admitted_same f g h list d (one.made d e))) (λ d e. one.kept d (admitted_same g f (sym h) list d (two.made d e)))
