use Rattle.std.proofs.Common.{sym, subst, Ok}
use Rattle.c_preproc_conditions.specs.Lines.{HoldsBy}
use Rattle.c_preproc_conditions.proofs.Lines.{value_decides, no_value}
use Rattle.c_preproc_conditions.proofs.evaluation.truth_of.Goals as goal

pub returns-in-Ok-clause-derives : goal.returns-in-Ok-clause-derives
returns-in-Ok-clause-derives c = subst (HoldsBy (Ok c.args.symbols.now)) (sym c.decided.ensures) (value_decides c.args.symbols.now c.in-Ok.value c.in-Ok.ensures.derives)

pub returns-in-Err-clause-derives : goal.returns-in-Err-clause-derives
returns-in-Err-clause-derives c = no_value c.args.symbols.now c.in-Err.fault c.in-Err.ensures.derives
