use Rattle.std.proofs.Common.{◌≡◌, drop}
use Rattle.lower_templates.specs.Worklist.Plans.{plan}
use Rattle.lower_templates.specs.Worklist.Settings.{setting}
use Rattle.lower_functions.specs.Statements.Switches.{edge_blocks}
use Rattle.lower_functions.proofs.statements.switch_statements.push_blocks.Given as goal

abbrev pub invariant-loop-arm : goal.invariant-loop-arm
invariant-loop-arm l = edge_blocks (setting l.cx) l.from (drop l.arm-index l.arms) (plan l.builder) ≡ edge_blocks (setting l.cx) l.from l.arms (plan l.initial.builder)
