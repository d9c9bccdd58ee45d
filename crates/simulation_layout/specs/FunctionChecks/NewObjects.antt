-- The objects of the scopes of a function that was looked at.
use Rattle.std.specs.Prelude.{◌≡◌, ◌≤◌, ◌<◌, ℕ, true, List, ◌∷◌, ◌++◌, length}
use Rattle.c_layout.specs.CheckedTrees as tree
use Rattle.c_layout.specs.CheckedTrees.{StatementTree, StatementTrees, statement_trees}
use Rattle.c_layout.specs.CheckedUnits.{FunctionView}
use Rattle.lower_functions.specs.Functions.Functions.{numbers_from}
use Rattle.lower_templates.specs.Worklist.Scopes.{function_scopes}
use Rattle.lower_templates.specs.Worklist.Settings.{SettingView}
use Rattle.lower_preconditions.specs.Units.ScopeObjects.{has_own_objects}
use Rattle.semantics.specs.SourceMachine.Scopes.{is_in}
use Rattle.simulation_terms.specs.Scopes.SuitedStatements.{AreNew}
use Rattle.simulation_terms.specs.Scopes.Chains.{AreApart}

abbrev mutual
  -- no scope in a statement has an object of those around it
  pub HasNewObjects : List ℕ → StatementTree → Type 0
  HasNewObjects known (tree.Block objects items) = AreNew objects known × HaveNewObjects (objects ++ known) items
  HasNewObjects known (tree.If e body) = HasNewObjects known body
  HasNewObjects known (tree.IfElse e first second) = HasNewObjects known first × HasNewObjects known second
  HasNewObjects known (tree.While e body) = HasNewObjects known body
  HasNewObjects known (tree.Do body e) = HasNewObjects known body
  HasNewObjects known (tree.For objects first e step body) = AreNew objects known × HaveNewObjects (objects ++ known) first × HasNewObjects (objects ++ known) body
  HasNewObjects known (tree.Switch at e labels has_default values body) = HasNewObjects known body
  HasNewObjects known (tree.Case n body) = HasNewObjects known body
  HasNewObjects known (tree.Default body) = HasNewObjects known body
  HasNewObjects known (tree.Label n body) = HasNewObjects known body
  HasNewObjects known other = Unit {0}

  pub HaveNewObjects : List ℕ → StatementTrees → Type 0
  HaveNewObjects known tree.NoMore = Unit {0}
  HaveNewObjects known (tree.And first rest) = HasNewObjects known first × HaveNewObjects known rest

-- the objects of the outermost block are none of the parameters, and those of the blocks in it are new there
pub record HasOwnScopes (f : FunctionView) : Type 0 where
  pub parameters : f.parameters ≤ length f.locals
  pub scope : AreNew f.scope (numbers_from 0 f.parameters)
  pub body : HaveNewObjects (f.scope ++ numbers_from 0 f.parameters) (statement_trees f.body)

abbrev pub ScopesAreOwn : Type 0
ScopesAreOwn = (f : FunctionView) → has_own_objects f ≡ true → HasOwnScopes f

-- no object stands in two scopes of a function's tree of scopes
abbrev pub ScopesAreApart : Type 0
ScopesAreApart = (f : FunctionView) → has_own_objects f ≡ true → (s : SettingView) → s.scopes ≡ function_scopes f → AreApart s
