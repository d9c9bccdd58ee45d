use Rattle.std.proofs.Common.{Ok, sym, ◌∙◌, ap, subst}
use Rattle.c_preproc_conditions.specs.Lines.{HoldsBy, symbols_of}
use Rattle.c_preproc_conditions.specs.Truth.{IsTruth, line_truth}
use Rattle.c_preproc_conditions.proofs.Lines.{no_tokens}
use Rattle.c_preproc_conditions.proofs.evaluation.holds.Goals as goal

pub returns-in-Ok-clause-derives : goal.returns-in-Ok-clause-derives
returns-in-Ok-clause-derives c = subst (λ s. HoldsBy s c.truth_of.result) (ap Ok c.as_slice.ensures.value ∙ sym c.in-Ok.ensures) c.truth_of.ensures.derives

pub returns-in-Err-clause-derives : goal.returns-in-Err-clause-derives
returns-in-Err-clause-derives c = no_tokens (symbols_of c.args.spellings.now c.args.char_signed c.args.line.now) c.in-Err.fault c.in-Err.ensures

pub returns-in-Ok-clause-computed : goal.returns-in-Ok-clause-computed
returns-in-Ok-clause-computed c = subst (λ s. IsTruth (line_truth s) c.truth_of.result) (ap Ok c.as_slice.ensures.value ∙ sym c.in-Ok.ensures) c.truth_of.ensures.computed
