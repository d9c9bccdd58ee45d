-- The labels of switches stand in their bodies.
use Rattle.std.specs.Prelude.{◌≤◌, ℕ, suc, ◌+◌, length, Option, Some, None}
use Rattle.c_layout.specs.CheckedTrees as tree
use Rattle.c_layout.specs.CheckedTrees.{StatementTree, StatementTrees}
use Rattle.lower_template_theorems.specs.PendingLabels.Marks.{defaults_in}
use Rattle.lower_functions.specs.Statements.Switches.{choice_at}
use Rattle.lower_templates.specs.Worklist.Settings.{SettingView}
use Rattle.simulation_terms.specs.Scopes.Scopes.{switches_in}
use Rattle.simulation_terms.specs.Scopes.SuitedStatements.{HasCases}

-- a default label that was noted stands there
abbrev pub HasDefault : Option ℕ → StatementTree → Type 0
HasDefault None body = Unit {0}
HasDefault (Some scope) body = 1 ≤ defaults_in body

-- of each switch in a statement, which have the numbers from one on, the cases and the default label stand in its body
abbrev mutual
  pub LabelsStand : SettingView → StatementTree → ℕ → Type 0
  LabelsStand s (tree.Block objects items) b = AllLabelsStand s items b
  LabelsStand s (tree.If e body) b = LabelsStand s body b
  LabelsStand s (tree.IfElse e first second) b = LabelsStand s first b × LabelsStand s second (b + switches_in first)
  LabelsStand s (tree.Switch at e labels has_default values body) b = HasCases (length labels) body × HasDefault (choice_at s b).fallback body × LabelsStand s body (suc b)
  LabelsStand s (tree.Case n body) b = LabelsStand s body b
  LabelsStand s (tree.Default body) b = LabelsStand s body b
  LabelsStand s (tree.Label n body) b = LabelsStand s body b
  LabelsStand s other b = Unit {0}

  pub AllLabelsStand : SettingView → StatementTrees → ℕ → Type 0
  AllLabelsStand s tree.NoMore b = Unit {0}
  AllLabelsStand s (tree.And first rest) b = LabelsStand s first b × AllLabelsStand s rest (b + switches_in first)
