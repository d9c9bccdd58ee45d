-- The switches of a function in order of their beginnings, and the scopes in which their labels stand.
use Rattle.std.specs.Prelude.{◌≡◌, ◌≤◌, ◌<◌, ℕ, suc, ◌+◌, ◌-◌, ◌^◌, length, Some}
use Rattle.c_layout.specs.CheckedTrees as tree
use Rattle.c_layout.specs.CheckedTrees.{StatementTree, StatementTrees}
use Rattle.lower_functions.specs.Statements.Switches.{choice_at, case_scope}
use Rattle.lower_templates.specs.Worklist.Settings.{SettingView}
use Rattle.semantics.specs.SourceMachine.LabelSearch as sought
use Rattle.simulation_statements.specs.Labels.LabelScopes.{stands_in}
use Rattle.simulation_terms.specs.Scopes.Scopes.{scopes_in, all_scopes_in, switches_in, all_switches_in}

-- of a switch the scopes of so many cases and of its default label are noted, where its body stands in a scope and the
-- scopes in it have the numbers from another one on
pub record IsChoice (s : SettingView) (number count : ℕ) (body : StatementTree) (k c : ℕ) : Type 0 where
  pub few : (choice_at s number).first + count ≤ 2 ^ 32 - 1
  pub cases : (n scope : ℕ) → n < count → stands_in (sought.case n) body k c ≡ Some scope → case_scope s ((choice_at s number).first + n) ≡ scope
  pub fallback : (choice_at s number).fallback ≡ stands_in sought.other body k c

-- so it is of the switches in a statement, which have the numbers from one on
abbrev mutual
  pub HasChoices : SettingView → StatementTree → ℕ → ℕ → ℕ → Type 0
  HasChoices s (tree.Block objects items) k c b = AllHaveChoices s items c (suc c) b
  HasChoices s (tree.If e body) k c b = HasChoices s body k c b
  HasChoices s (tree.IfElse e first second) k c b = HasChoices s first k c b × HasChoices s second k (c + scopes_in first) (b + switches_in first)
  HasChoices s (tree.While e body) k c b = HasChoices s body k c b
  HasChoices s (tree.Do body e) k c b = HasChoices s body k c b
  HasChoices s (tree.For objects first e step body) k c b = AllHaveChoices s first c (suc c) b × HasChoices s body c (suc c + all_scopes_in first) (b + all_switches_in first)
  HasChoices s (tree.Switch at e labels has_default values body) k c b = IsChoice s b (length labels) body k c × HasChoices s body k c (suc b)
  HasChoices s (tree.Case n body) k c b = HasChoices s body k c b
  HasChoices s (tree.Default body) k c b = HasChoices s body k c b
  HasChoices s (tree.Label n body) k c b = HasChoices s body k c b
  HasChoices s other k c b = Unit {0}

  pub AllHaveChoices : SettingView → StatementTrees → ℕ → ℕ → ℕ → Type 0
  AllHaveChoices s tree.NoMore k c b = Unit {0}
  AllHaveChoices s (tree.And first rest) k c b = HasChoices s first k c b × AllHaveChoices s rest k (c + scopes_in first) (b + switches_in first)
