use Rattle.std.proofs.Common.{◌≡◌, ◌++◌, drop}
use Rattle.lower_functions.specs.Statements.Switches as spec
use Rattle.lower_functions.proofs.statements.switch_statements.values.Given as goal

abbrev pub invariant-loop-case : goal.invariant-loop-case
invariant-loop-case l = l.list.items ++ spec.values (drop l.case-index l.cases) ≡ spec.values l.cases
