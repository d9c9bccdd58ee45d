use Rattle.std.proofs.Common.{sym, ◌∙◌}
use Rattle.std.proofs.lemmas.List.{length-map}
use Rattle.lower_templates.specs.Views.ProgramViews.{block}
use Rattle.interval_domain.specs.Intervals.IntervalLattice.{interval_lattice}
use Rattle.interval_domain.specs.Intervals.IntervalNumbers.{interval_numbers}
use Rattle.analysis_determined.proofs.unrolled_diagnostics.UnrolledMaps.{copies_inductive}
use Rattle.analysis_determined.proofs.unrolled_diagnostics.UnrolledPairs.{copies_admit}
use Rattle.analysis_determined.proofs.theorems.maps_are_copied.Goals as goal

pub returns : goal.returns
returns c = record {
  inductive = λ turns flow turned list valid h rows i. copies_inductive interval_lattice interval_numbers list turns flow turned h rows (i.size ∙ sym (length-map flow.blocks.items block)) valid i;
  pairs = λ turns flow turned list h rows i d e. copies_admit interval_lattice interval_numbers turns flow turned h rows (i.size ∙ sym (length-map flow.blocks.items block)) d e;
}
