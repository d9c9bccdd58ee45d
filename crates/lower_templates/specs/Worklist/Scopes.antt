-- The scopes of a function in order of their beginnings, and the scopes in which its labels stand.
use Rattle.std.specs.Prelude.{ℕ, ◌+◌, ◌^◌, ◌-◌, min, List, [], ◌∷◌, ◌++◌, length, map, replicate, slice_set, get_or, Option, Some, None, slice_get}
use Rattle.c_layout.specs.CheckedTrees as tree
use Rattle.c_layout.specs.CheckedTrees.{StatementTree, StatementTrees, statement_trees}
use Rattle.c_layout.specs.CheckedUnits.{FunctionView}
use Rattle.lower_templates.specs.declared.worklist.scope_trees.Scope.{Scope}
use Rattle.lower_templates.specs.declared.worklist.scope_trees.Choice.{Choice}
use Rattle.lower_templates.specs.declared.worklist.scope_trees.ScopeTree.{ScopeTree}

-- a scope: the scope around it, and its objects
pub record ScopeView : Type 0 where
  pub around : ℕ
  pub objects : List ℕ

-- scopes in order, the scopes of labels and of case labels, and the switches
pub record TreeView : Type 0 where
  pub scopes : List ScopeView
  pub labels : List ℕ
  pub cases : List ℕ
  pub choices : List Choice

abbrev pub scope_view : Scope → ScopeView
scope_view s = record { around = s.around; objects = s.objects.now }

abbrev pub tree_view : ScopeTree → TreeView
tree_view t = record { scopes = map scope_view t.scopes.items; labels = t.labels.items; cases = t.cases.items; choices = t.choices.items }

-- an empty scope, which stands where there is none
abbrev pub no_scope : ScopeView
no_scope = record { around = 0; objects = [] }

abbrev pub scope_at : List ScopeView → ℕ → ScopeView
scope_at scopes n = get_or scopes n no_scope

-- a scope begins in another one
unfoldable pub with_new_scope : ℕ → List ℕ → TreeView → TreeView
with_new_scope around objects t = record t { scopes = t.scopes ++ record { around = around; objects = objects } ∷ [] }

-- a switch of so many case labels begins
unfoldable pub with_choice : ℕ → TreeView → TreeView
with_choice count t = record t { cases = t.cases ++ replicate count 0; choices = t.choices ++ record { first = length t.cases; fallback = None } ∷ [] }

-- the place of a case label in the list of all of them
abbrev pub case_place : Choice → ℕ → ℕ
case_place c n = min (c.first + n) (2 ^ 32 - 1)

abbrev pub case_noted : Option Choice → ℕ → ℕ → List ℕ → List ℕ
case_noted None n scope cases = cases
case_noted (Some c) n scope cases = slice_set cases (case_place c n) scope

-- a case label stands in a scope
unfoldable pub with_case : ℕ → ℕ → ℕ → TreeView → TreeView
with_case choice n scope t = record t { cases = case_noted (slice_get t.choices choice) n scope t.cases }

abbrev pub default_noted : Choice → ℕ → Choice
default_noted c scope = record { first = c.first; fallback = Some scope }

abbrev pub default_noted_at : Option Choice → ℕ → ℕ → List Choice → List Choice
default_noted_at None choice scope choices = choices
default_noted_at (Some c) choice scope choices = slice_set choices choice (default_noted c scope)

-- the default label stands in a scope
unfoldable pub with_default : ℕ → ℕ → TreeView → TreeView
with_default choice scope t = record t { choices = default_noted_at (slice_get t.choices choice) choice scope t.choices }

-- a label stands in a scope
unfoldable pub with_label : ℕ → ℕ → TreeView → TreeView
with_label n scope t = record t { labels = slice_set t.labels n scope }

-- the scopes and labels of a statement that stands in a scope and in a switch: a block and a `for` are
-- scopes of their own
abbrev mutual
  pub scoped : StatementTree → ℕ → ℕ → TreeView → TreeView
  scoped (tree.Value e) s c t = t
  scoped tree.Nothing s c t = t
  scoped (tree.Forget at local) s c t = t
  scoped (tree.Start at local e) s c t = t
  scoped (tree.StartCopy at local l) s c t = t
  scoped (tree.StartList at local stores) s c t = t
  scoped (tree.Block objects items) s c t = all_scoped items (length t.scopes) c (with_new_scope s objects t)
  scoped (tree.If e body) s c t = scoped body s c t
  scoped (tree.IfElse e first second) s c t = scoped second s c (scoped first s c t)
  scoped (tree.While e body) s c t = scoped body s c t
  scoped (tree.Do body e) s c t = scoped body s c t
  scoped (tree.For objects first e step body) s c t = scoped body (length t.scopes) c (all_scoped first (length t.scopes) c (with_new_scope s objects t))
  scoped (tree.Switch at e labels has_default values body) s c t = scoped body s (length t.choices) (with_choice (length labels) t)
  scoped (tree.Case n body) s c t = scoped body s c (with_case c n s t)
  scoped (tree.Default body) s c t = scoped body s c (with_default c s t)
  scoped (tree.Label n body) s c t = scoped body s c (with_label n s t)
  scoped (tree.Goto n) s c t = t
  scoped tree.Break s c t = t
  scoped tree.Continue s c t = t
  scoped (tree.Return at e) s c t = t

  pub all_scoped : StatementTrees → ℕ → ℕ → TreeView → TreeView
  all_scoped tree.NoMore s c t = t
  all_scoped (tree.And first rest) s c t = all_scoped rest s c (scoped first s c t)

-- no scopes, and so many labels
abbrev pub no_scopes : ℕ → TreeView
no_scopes labels = record { scopes = []; labels = replicate labels 0; cases = []; choices = [] }

-- scope 0 is that of the parameters, scope 1 that of the outermost block
abbrev pub function_scopes : FunctionView → TreeView
function_scopes f = all_scoped (statement_trees f.body) 1 0 (with_new_scope 0 f.scope (with_new_scope 0 [] (no_scopes f.labels)))
