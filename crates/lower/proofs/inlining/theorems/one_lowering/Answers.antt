use Rattle.lower.proofs.inlining.OneLowering.{one_program, one_refusal, no_refusal}
use Rattle.lower.proofs.inlining.theorems.one_lowering.Goals as goal

pub returns : goal.returns
returns c = record {
  program = λ u limits f g a b. one_program u limits f g a b;
  refusal = λ u limits f g a b. one_refusal u limits f g a b;
  apart = λ u limits f g a b. no_refusal u limits f g a b;
}
