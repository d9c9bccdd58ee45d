-- The scopes in which labels stand, and what is left to do from there.
use Rattle.std.specs.Prelude.{ℕ, suc, ◌+◌, Bool, true, false, List, Option, Some, None}
use Rattle.c_layout.specs.CheckedTrees as tree
use Rattle.c_layout.specs.CheckedTrees.{StatementTree, StatementTrees, statement_trees}
use Rattle.c_layout.specs.CheckedUnits.{FunctionView}
use Rattle.lower_templates.specs.Worklist.Settings.{SettingView}
use Rattle.semantics.specs.SourceMachine.Items.{Item}
use Rattle.semantics.specs.SourceMachine.LabelSearch.{Sought, label, is_label, is_case, is_other, found, from_label}
use Rattle.semantics.specs.SourceMachine.Scopes.{open_scopes}
use Rattle.simulation_terms.specs.SimulationRelation.Activations.{Activation}
use Rattle.simulation_terms.specs.Scopes.Scopes.{scopes_in, all_scopes_in, IsScope, HasScopes, AllHaveScopes}
use Rattle.simulation_terms.specs.Scopes.Chains.{Chain}

abbrev pub either : Option ℕ → Option ℕ → Option ℕ
either (Some k) later = Some k
either None later = later

abbrev pub this_or : Bool → ℕ → Option ℕ → Option ℕ
this_or true k later = Some k
this_or false k later = later

-- the labels of a switch do not stand in the switches in its body
abbrev pub inside_switch : Sought → Option ℕ → Option ℕ
inside_switch (label n) there = there
inside_switch l there = None

abbrev mutual
  -- the scope of a label in a statement that stands in one scope, and whose scopes have the numbers from another one on
  pub stands_in : Sought → StatementTree → ℕ → ℕ → Option ℕ
  stands_in l (tree.Block objects items) k c = all_stand_in l items c (suc c)
  stands_in l (tree.If e body) k c = stands_in l body k c
  stands_in l (tree.IfElse e one two) k c = either (stands_in l one k c) (stands_in l two k (c + scopes_in one))
  stands_in l (tree.While e body) k c = stands_in l body k c
  stands_in l (tree.Do body e) k c = stands_in l body k c
  stands_in l (tree.For objects first e step body) k c = stands_in l body c (suc c + all_scopes_in first)
  stands_in l (tree.Switch at e labels has_default values body) k c = inside_switch l (stands_in l body k c)
  stands_in l (tree.Case n body) k c = this_or (is_case l n) k (stands_in l body k c)
  stands_in l (tree.Default body) k c = this_or (is_other l) k (stands_in l body k c)
  stands_in l (tree.Label n body) k c = this_or (is_label l n) k (stands_in l body k c)
  stands_in l other k c = None

  pub all_stand_in : Sought → StatementTrees → ℕ → ℕ → Option ℕ
  all_stand_in l tree.NoMore k c = None
  all_stand_in l (tree.And first rest) k c = either (stands_in l first k c) (all_stand_in l rest k (c + scopes_in first))

-- a label is found with a scope, and what is left from there leaves the scopes around it; or it is not found
pub data IsFound (s : SettingView) : Option (List Item) → Option ℕ → Type 0 where
  missing : IsFound s None None
  there : (to : List Item) (number : ℕ) → Chain s number (open_scopes to) → IsFound s (Some to) (Some number)

-- so it is in each statement whose scopes stand in the tree
abbrev pub LabelsStandInScopes : Type 0
LabelsStandInScopes = (t : Activation) (s : SettingView) (l : Sought) (i : StatementTree) (k c : ℕ) (rest : List Item) → HasScopes s i k c → Chain s k (open_scopes rest) → IsFound s (found t.unit l i rest) (stands_in l i k c)

-- and so are the labels of a function
abbrev pub FunctionLabelsStandInScopes : Type 0
FunctionLabelsStandInScopes = (t : Activation) (s : SettingView) (f : FunctionView) → IsScope s 1 0 f.scope → AllHaveScopes s (statement_trees f.body) 1 2 → (n : ℕ) → IsFound s (from_label t.unit f n) (all_stand_in (label n) (statement_trees f.body) 1 2)
