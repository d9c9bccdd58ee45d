use Rattle.domain_theorems.proofs.intervals.BestResults.{products_best, quotients_best, right_shifts_best, complements_best}
use Rattle.domain_theorems.proofs.intervals.BestSingles.{singles_best}
use Rattle.domain_theorems.proofs.intervals.theorems.results_are_best.Goals as goal

pub returns : goal.returns
returns c = record {
  single_numbers = singles_best;
  products = products_best;
  quotients = quotients_best;
  right_shifts = right_shifts_best;
  complements = λ k s h i. complements_best k s i;
}
