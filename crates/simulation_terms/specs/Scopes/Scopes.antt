-- Where the scopes of statements stand in the tree of a function's scopes.
use Rattle.std.specs.Prelude.{◌≡◌, ◌<◌, ℕ, suc, ◌+◌, List, length}
use Rattle.c_layout.specs.CheckedTrees as tree
use Rattle.c_layout.specs.CheckedTrees.{StatementTree, StatementTrees}
use Rattle.lower_templates.specs.Worklist.Settings.{SettingView}
use Rattle.lower_functions.specs.Statements.ScopeJumps as scopes

-- how many scopes begin in a statement
abbrev mutual
  pub scopes_in : StatementTree → ℕ
  scopes_in (tree.Block objects items) = suc (all_scopes_in items)
  scopes_in (tree.If e body) = scopes_in body
  scopes_in (tree.IfElse e first second) = scopes_in first + scopes_in second
  scopes_in (tree.While e body) = scopes_in body
  scopes_in (tree.Do body e) = scopes_in body
  scopes_in (tree.For objects first e step body) = suc (all_scopes_in first + scopes_in body)
  scopes_in (tree.Switch at e labels has_default values body) = scopes_in body
  scopes_in (tree.Case n body) = scopes_in body
  scopes_in (tree.Default body) = scopes_in body
  scopes_in (tree.Label n body) = scopes_in body
  scopes_in other = 0

  pub all_scopes_in : StatementTrees → ℕ
  all_scopes_in tree.NoMore = 0
  all_scopes_in (tree.And first rest) = scopes_in first + all_scopes_in rest

-- how many switches begin in a statement
abbrev mutual
  pub switches_in : StatementTree → ℕ
  switches_in (tree.Block objects items) = all_switches_in items
  switches_in (tree.If e body) = switches_in body
  switches_in (tree.IfElse e first second) = switches_in first + switches_in second
  switches_in (tree.While e body) = switches_in body
  switches_in (tree.Do body e) = switches_in body
  switches_in (tree.For objects first e step body) = all_switches_in first + switches_in body
  switches_in (tree.Switch at e labels has_default values body) = suc (switches_in body)
  switches_in (tree.Case n body) = switches_in body
  switches_in (tree.Default body) = switches_in body
  switches_in (tree.Label n body) = switches_in body
  switches_in other = 0

  pub all_switches_in : StatementTrees → ℕ
  all_switches_in tree.NoMore = 0
  all_switches_in (tree.And first rest) = switches_in first + all_switches_in rest

-- the scope of a number has these objects and stands in another one, which begins before it
pub record IsScope (s : SettingView) (number around : ℕ) (objects : List ℕ) : Type 0 where
  pub there : number < length s.scopes.scopes
  pub inside : scopes.around s number ≡ around
  pub holds : scopes.objects s number ≡ objects
  pub later : around < number

-- the scopes of a statement that stands in one have the numbers from another one on
abbrev mutual
  pub HasScopes : SettingView → StatementTree → ℕ → ℕ → Type 0
  HasScopes s (tree.Block objects items) k c = IsScope s c k objects × AllHaveScopes s items c (suc c)
  HasScopes s (tree.If e body) k c = HasScopes s body k c
  HasScopes s (tree.IfElse e first second) k c = HasScopes s first k c × HasScopes s second k (c + scopes_in first)
  HasScopes s (tree.While e body) k c = HasScopes s body k c
  HasScopes s (tree.Do body e) k c = HasScopes s body k c
  HasScopes s (tree.For objects first e step body) k c = IsScope s c k objects × AllHaveScopes s first c (suc c) × HasScopes s body c (suc c + all_scopes_in first)
  HasScopes s (tree.Switch at e labels has_default values body) k c = HasScopes s body k c
  HasScopes s (tree.Case n body) k c = HasScopes s body k c
  HasScopes s (tree.Default body) k c = HasScopes s body k c
  HasScopes s (tree.Label n body) k c = HasScopes s body k c
  HasScopes s other k c = Unit {0}

  pub AllHaveScopes : SettingView → StatementTrees → ℕ → ℕ → Type 0
  AllHaveScopes s tree.NoMore k c = Unit {0}
  AllHaveScopes s (tree.And first rest) k c = HasScopes s first k c × AllHaveScopes s rest k (c + scopes_in first)
