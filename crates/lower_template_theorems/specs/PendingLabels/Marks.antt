-- How often labels are marked, and how often they stand in statements.
use Rattle.std.specs.Prelude.{◌≡◌, ◌≤◌, ℕ, ◌+◌, ◌==◌, cond, nat_lt, List, [], ◌∷◌, length}
use Rattle.c_layout.specs.CheckedTrees as tree
use Rattle.c_layout.specs.CheckedTrees.{StatementTree, StatementTrees, statement_trees}
use Rattle.c_layout.specs.CheckedUnits.{FunctionView}
use Rattle.lower_templates.specs.Worklist.Pieces.{PieceView, Do, DoIfUsed, End, Mark, Call}

abbrev pub one : ℕ → ℕ → ℕ
one l m = cond (l == m) 1 0

abbrev pub below : ℕ → ℕ → ℕ
below l m = cond (nat_lt l m) 1 0

abbrev pub marked : ℕ → PieceView → ℕ
marked l (Do s) = 0
marked l (DoIfUsed s) = 0
marked l (End s exits) = 0
marked l (Mark m) = one l m
marked l (Call c) = 0

abbrev pub all_marked : ℕ → List PieceView → ℕ
all_marked l [] = 0
all_marked l (p ∷ ps) = marked l p + all_marked l ps

-- how often a label of the function stands in a statement
abbrev mutual
  pub labels_in : ℕ → StatementTree → ℕ
  labels_in l (tree.Block objects items) = all_labels_in l items
  labels_in l (tree.If e body) = labels_in l body
  labels_in l (tree.IfElse e first second) = labels_in l first + labels_in l second
  labels_in l (tree.While e body) = labels_in l body
  labels_in l (tree.Do body e) = labels_in l body
  labels_in l (tree.For objects first e step body) = all_labels_in l first + labels_in l body
  labels_in l (tree.Switch at e labels has_default values body) = labels_in l body
  labels_in l (tree.Case n body) = labels_in l body
  labels_in l (tree.Default body) = labels_in l body
  labels_in l (tree.Label n body) = one l n + labels_in l body
  labels_in l other = 0

  pub all_labels_in : ℕ → StatementTrees → ℕ
  all_labels_in l tree.NoMore = 0
  all_labels_in l (tree.And first rest) = labels_in l first + all_labels_in l rest

-- how often a case of the innermost switch stands in a statement
abbrev mutual
  pub cases_in : ℕ → StatementTree → ℕ
  cases_in l (tree.Block objects items) = all_cases_in l items
  cases_in l (tree.If e body) = cases_in l body
  cases_in l (tree.IfElse e first second) = cases_in l first + cases_in l second
  cases_in l (tree.While e body) = cases_in l body
  cases_in l (tree.Do body e) = cases_in l body
  cases_in l (tree.For objects first e step body) = all_cases_in l first + cases_in l body
  cases_in l (tree.Case n body) = one l n + cases_in l body
  cases_in l (tree.Default body) = cases_in l body
  cases_in l (tree.Label n body) = cases_in l body
  cases_in l other = 0

  pub all_cases_in : ℕ → StatementTrees → ℕ
  all_cases_in l tree.NoMore = 0
  all_cases_in l (tree.And first rest) = cases_in l first + all_cases_in l rest

-- how often its default label does
abbrev mutual
  pub defaults_in : StatementTree → ℕ
  defaults_in (tree.Block objects items) = all_defaults_in items
  defaults_in (tree.If e body) = defaults_in body
  defaults_in (tree.IfElse e first second) = defaults_in first + defaults_in second
  defaults_in (tree.While e body) = defaults_in body
  defaults_in (tree.Do body e) = defaults_in body
  defaults_in (tree.For objects first e step body) = all_defaults_in first + defaults_in body
  defaults_in (tree.Case n body) = defaults_in body
  defaults_in (tree.Default body) = 1 + defaults_in body
  defaults_in (tree.Label n body) = defaults_in body
  defaults_in other = 0

  pub all_defaults_in : StatementTrees → ℕ
  all_defaults_in tree.NoMore = 0
  all_defaults_in (tree.And first rest) = defaults_in first + all_defaults_in rest

-- a switch has each of its labels at most once, and no others stand in its body
pub record IsSelected (count : ℕ) (body : StatementTree) : Type 0 where
  pub cases : (n : ℕ) → cases_in n body ≤ below n count
  pub fallback : defaults_in body ≤ 1

-- so do all switches in a statement
abbrev mutual
  pub AreSelected : StatementTree → Type 0
  AreSelected (tree.Block objects items) = AllSelected items
  AreSelected (tree.If e body) = AreSelected body
  AreSelected (tree.IfElse e first second) = AreSelected first × AreSelected second
  AreSelected (tree.While e body) = AreSelected body
  AreSelected (tree.Do body e) = AreSelected body
  AreSelected (tree.For objects first e step body) = AllSelected first × AreSelected body
  AreSelected (tree.Switch at e labels has_default values body) = IsSelected (length labels) body × AreSelected body
  AreSelected (tree.Case n body) = AreSelected body
  AreSelected (tree.Default body) = AreSelected body
  AreSelected (tree.Label n body) = AreSelected body
  AreSelected other = Unit {0}

  pub AllSelected : StatementTrees → Type 0
  AllSelected tree.NoMore = Unit {0}
  AllSelected (tree.And first rest) = AreSelected first × AllSelected rest

-- a function has each of its labels at most once, and no label of a switch outside of switches
pub record IsLabelled (f : FunctionView) : Type 0 where
  pub labels : (l : ℕ) → all_labels_in l (statement_trees f.body) ≤ below l f.labels
  pub cases : (n : ℕ) → all_cases_in n (statement_trees f.body) ≡ 0
  pub defaults : all_defaults_in (statement_trees f.body) ≡ 0
  pub switches : AllSelected (statement_trees f.body)
