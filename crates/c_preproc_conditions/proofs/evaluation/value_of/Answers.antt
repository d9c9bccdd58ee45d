use Rattle.c_preproc_conditions.proofs.Evaluating.{evaluates}
use Rattle.c_preproc_conditions.proofs.evaluation.value_of.Goals as goal

pub returns-clause-derives : goal.returns-clause-derives
returns-clause-derives c = evaluates c.args.symbols.now c.run.result c.run.ensures
