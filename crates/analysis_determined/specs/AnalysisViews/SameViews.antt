-- What programs with the same view have in common.
use Rattle.std.specs.Prelude.{◌≡◌, ℤ, List, Option}
use Rattle.cc_base.specs.declared.diagnostics.Diag.{Diag}
use Rattle.cfg.specs.declared.programs.Flow.{Flow}
use Rattle.lower_templates.specs.Views.ProgramViews.{flow_view}
use Rattle.value_domain.specs.declared.values.row_cells.Cell.{Cell}
use Rattle.interval_domain.specs.declared.intervals.intervals.Interval.{Interval}
use Rattle.analysis.specs.Analyses.{machine_of, admitted_pairs, IsAnalysis}

abbrev pub OneSystem : Type 0
OneSystem = (f g : Flow) → flow_view f ≡ flow_view g → (list : List ℤ) → machine_of f list ≡ machine_of g list

abbrev pub OneAdmission : Type 0
OneAdmission = (f g : Flow) → flow_view f ≡ flow_view g → (rows : List (Option (List (Cell Interval)))) → admitted_pairs f rows ≡ admitted_pairs g rows

abbrev pub OneAnalysis : Type 0
OneAnalysis = (f g : Flow) → flow_view f ≡ flow_view g → (list : List ℤ) (found pairs : List Diag) → IsAnalysis f list found → IsAnalysis g list pairs → found ≡ pairs
