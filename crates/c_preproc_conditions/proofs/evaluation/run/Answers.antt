use Rattle.std.proofs.Common.{[], None, pos}
use Rattle.c_preproc_conditions.specs.declared.condition_symbols.Symbol.TheVariants.{Constant}
use Rattle.c_preproc_conditions.specs.declared.condition_value.Number.TheVariants.{Signed}
use Rattle.c_preproc_conditions.proofs.Evaluating.{fails, goes_on}
use Rattle.c_preproc_conditions.proofs.evaluation.run.Goals as goal

pub loop-next-preserved : goal.loop-next-preserved
loop-next-preserved c =
    goes_on c.args.symbols.now c.loop-next.next-index (Constant (Signed (pos 0))) (record { stack = []; operand = None }) (record { stack = c.loop-next.stack.items; operand = c.loop-next.operand })
    c.read.new.stack.items c.in-Ok.behind c.loop-next-test.true c.loop-next.invariant c.in-Ok.ensures

pub returns-in-Err : goal.returns-in-Err
returns-in-Err c =
    fails c.args.symbols.now c.loop-next.next-index (Constant (Signed (pos 0))) (record { stack = []; operand = None }) (record { stack = c.loop-next.stack.items; operand = c.loop-next.operand })
    c.read.new.stack.items c.in-Err.fault c.loop-next-test.true c.loop-next.invariant c.in-Err.ensures
