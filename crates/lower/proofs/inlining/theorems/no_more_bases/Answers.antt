use Rattle.lower.proofs.inlining.CountedBases.{no_more, few}
use Rattle.lower.proofs.inlining.theorems.no_more_bases.Goals as goal

pub returns : goal.returns
returns c = record {
  counts = λ u limits f is mentions. no_more u limits f is mentions;
  within = λ u limits f is mentions. few u limits f is mentions;
}
