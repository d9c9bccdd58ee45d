-- What the tree of a function's scopes notes for its switches.
use Rattle.std.specs.Prelude.{◌≡◌, ◌≤◌, ℕ, ◌-◌, ◌^◌, List, length}
use Rattle.c_layout.specs.CheckedTrees.{statement_trees}
use Rattle.c_layout.specs.CheckedUnits.{UnitView, FunctionView}
use Rattle.lower_template_theorems.specs.PendingLabels.Marks.{IsLabelled}
use Rattle.lower_templates.specs.Worklist.Scopes.{function_scopes}
use Rattle.lower_templates.specs.Worklist.Settings.{SettingView}
use Rattle.simulation_terms.specs.Scopes.SuitedStatements.{Enclosure, AllSuitIn}
use Rattle.simulation_statements.specs.SwitchLabels.Choices.{AllHaveChoices}

-- in a function that has each of its labels once, and no more case labels than numbers, the scopes of all cases and default
-- labels are noted
abbrev pub ChoicesAreNoted : Type 0
ChoicesAreNoted = (s : SettingView) (u : UnitView) (f : FunctionView) (enclosed : Enclosure) (known : List ℕ) → s.scopes ≡ function_scopes f → AllSuitIn u f enclosed known (statement_trees f.body) → IsLabelled f → length (function_scopes f).cases ≤ 2 ^ 32 - 1 → AllHaveChoices s (statement_trees f.body) 1 2 0
