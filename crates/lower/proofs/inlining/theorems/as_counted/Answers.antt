use Rattle.lower.proofs.inlining.CountedLowerings.{as_counted, within_limits}
use Rattle.lower.proofs.inlining.theorems.as_counted.Goals as goal

pub returns : goal.returns
returns c = record {
  counts = λ u limits f is. as_counted u limits f is;
  within = λ u limits f is. within_limits u limits f is;
}
