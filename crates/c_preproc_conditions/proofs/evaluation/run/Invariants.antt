use Rattle.std.proofs.Common.{◌≡◌, [], drop, None}
use Rattle.c_preproc_conditions.specs.Reading.{run}
use Rattle.c_preproc_conditions.proofs.evaluation.run.Given as goal

abbrev pub invariant-loop-next : goal.invariant-loop-next
invariant-loop-next l = run l.symbols (record { stack = []; operand = None }) ≡ run (drop l.next-index l.symbols) (record { stack = l.stack.items; operand = l.operand })
