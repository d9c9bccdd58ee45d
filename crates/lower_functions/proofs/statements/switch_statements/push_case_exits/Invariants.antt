use Rattle.std.proofs.Common.{◌≡◌, ◌++◌, drop}
use Rattle.lower_templates.specs.Worklist.Pieces.{exits_view}
use Rattle.lower_functions.specs.Statements.Switches.{case_exits}
use Rattle.lower_functions.proofs.statements.switch_statements.push_case_exits.Given as goal

abbrev pub invariant-loop-arm : goal.invariant-loop-arm
invariant-loop-arm l = exits_view l.exits.items ++ case_exits (drop l.arm-index l.arms) l.object ≡ exits_view l.initial.exits.items ++ case_exits l.arms l.object
