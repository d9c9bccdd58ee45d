-- Switches whose case labels have distinct values (6.8.4.2p3).
use Rattle.std.specs.Prelude.{ℤ, Bool, true, not, ◌&&◌, List, [], ◌∷◌, map}
use Rattle.std.specs.List.{list_all, list_any}
use Rattle.std.specs.Ordering.{int_eq}
use Rattle.c_layout.specs.CheckedTrees as tree
use Rattle.c_layout.specs.CheckedTrees.{StatementTree, StatementTrees, statement_trees}
use Rattle.c_layout.specs.CheckedUnits.{FunctionView, UnitView}
use Rattle.c_layout.specs.declared.checked_tree.checked_statements.CaseLabel.{CaseLabel}

abbrev pub are_distinct : List ℤ → Bool
are_distinct [] = true
are_distinct (n ∷ ns) = not (list_any (int_eq n) ns) && are_distinct ns

abbrev pub case_value : CaseLabel → ℤ
case_value c = c.value

abbrev pub case_values : List CaseLabel → List ℤ
case_values cs = map case_value cs

abbrev mutual
  -- each switch in a statement, at any depth, has cases of distinct values
  pub has_distinct_cases : StatementTree → Bool
  has_distinct_cases (tree.Block objects items) = have_distinct_cases items
  has_distinct_cases (tree.If e body) = has_distinct_cases body
  has_distinct_cases (tree.IfElse e first second) = has_distinct_cases first && has_distinct_cases second
  has_distinct_cases (tree.While e body) = has_distinct_cases body
  has_distinct_cases (tree.Do body e) = has_distinct_cases body
  has_distinct_cases (tree.For objects first e step body) = have_distinct_cases first && has_distinct_cases body
  has_distinct_cases (tree.Switch at e labels has_default enumerators body) = are_distinct (case_values labels) && has_distinct_cases body
  has_distinct_cases (tree.Case n body) = has_distinct_cases body
  has_distinct_cases (tree.Default body) = has_distinct_cases body
  has_distinct_cases (tree.Label n body) = has_distinct_cases body
  has_distinct_cases other = true

  pub have_distinct_cases : StatementTrees → Bool
  have_distinct_cases tree.NoMore = true
  have_distinct_cases (tree.And first rest) = has_distinct_cases first && have_distinct_cases rest

abbrev pub is_distinct_function : FunctionView → Bool
is_distinct_function f = have_distinct_cases (statement_trees f.body)

abbrev pub is_distinct_unit : UnitView → Bool
is_distinct_unit u = list_all is_distinct_function u.functions
