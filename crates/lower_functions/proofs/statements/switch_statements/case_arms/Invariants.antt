use Rattle.std.proofs.Common.{◌≡◌, drop}
use Rattle.lower_templates.specs.Worklist.Plans.{plan}
use Rattle.lower_templates.specs.Worklist.Settings.{setting}
use Rattle.lower_functions.specs.Statements.Switches as spec
use Rattle.lower_functions.specs.Statements.Switches.{arm_first}
use Rattle.lower_functions.proofs.statements.switch_statements.case_arms.Given as goal

abbrev pub invariant-loop-case : goal.invariant-loop-case
invariant-loop-case l = arm_first l.arms.items (spec.case_arms (setting l.cx) l.from l.label l.number (drop l.case-index l.cases) (plan l.builder)) ≡ spec.case_arms (setting l.cx) l.from l.first l.place l.cases (plan l.initial.builder)
