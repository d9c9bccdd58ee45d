-- What the least inductive map of a regular program admits, every inductive map admits, so each analysis is exact.
use Rattle.std.specs.Prelude.{◌≡◌, ℤ, true, List, Option}
use Rattle.cc_base.specs.declared.diagnostics.Diag.{Diag}
use Rattle.cfg.specs.declared.programs.Flow.{Flow}
use Rattle.value_domain.specs.declared.values.row_cells.Cell.{Cell}
use Rattle.interval_domain.specs.declared.intervals.intervals.Interval.{Interval}
use Rattle.transfer_system.specs.System.RegularPrograms.{is_regular}
use Rattle.system_monotone.proofs.systems.RegularSystems.{regular_monotone}
use Rattle.system_monotone.proofs.diagnostics.LeastMaps.{regular_admits_least}
use Rattle.analysis.specs.Analyses.{IsAnalysis}
use Rattle.analysis_determined.specs.LeastMaps.ExactAnalyses.{IsExactAnalysis}
use Rattle.analysis_determined.specs.LeastMaps.LeastAnalyses.{IsLeastMap, AdmitsExactly}

pub exact_map : (flow : Flow) (list : List ℤ) → is_regular flow list ≡ true → (rows : List (Option (List (Cell Interval)))) → IsLeastMap flow list rows → AdmitsExactly flow list rows
exact_map flow list h rows p = record {
  made = λ d e other q. regular_admits_least flow list h rows other p.inductive p.least q d e;
  kept = λ d e. e rows p.inductive;
}

module _ (flow : Flow) (list : List ℤ) (found : List Diag) (a : IsAnalysis flow list found) where
  pub least_map : IsLeastMap flow list a.rows
  least_map = record { inductive = a.inductive; least = a.least (regular_monotone flow list a.regular) }

  exact : AdmitsExactly flow list a.rows
  exact = exact_map flow list a.regular a.rows least_map

  pub exact_analysis : IsExactAnalysis flow list found
  exact_analysis = record {
    started = a.started;
    regular = a.regular;
    checked = a.checked;
    rows = a.rows;
    inductive = a.inductive;
    least = least_map.least;
    typed = a.typed;
    ascending = a.pairs.ascending;
    kept = λ d every. a.pairs.kept d (exact.kept d every);
    made = λ d here. exact.made d (a.pairs.made d here);
  }
