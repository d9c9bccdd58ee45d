-- How often labels stand in the bodies of a unit that was looked at.
use Rattle.std.specs.Prelude.{◌≡◌, ℕ, Bool, true, cond, length}
use Rattle.c_layout.specs.CheckedTrees as tree
use Rattle.c_layout.specs.CheckedTrees.{StatementTree, StatementTrees, statement_trees}
use Rattle.c_layout.specs.CheckedUnits.{FunctionView}
use Rattle.lower_template_theorems.specs.PendingLabels.Marks.{below, all_labels_in, cases_in, all_cases_in, defaults_in, all_defaults_in, IsLabelled}
use Rattle.lower_preconditions.specs.Units.LabelNumbers.{is_numbered}

abbrev pub once_if : Bool → ℕ
once_if b = cond b 1 0

-- a switch has each of its case labels once, and a default label once where it says so
pub record IsSelectedOnce (count : ℕ) (has_default : Bool) (body : StatementTree) : Type 0 where
  pub cases : (n : ℕ) → cases_in n body ≡ below n count
  pub fallback : defaults_in body ≡ once_if has_default

-- so do all switches in a statement
abbrev mutual
  pub AreSelectedOnce : StatementTree → Type 0
  AreSelectedOnce (tree.Block objects items) = AllSelectedOnce items
  AreSelectedOnce (tree.If e body) = AreSelectedOnce body
  AreSelectedOnce (tree.IfElse e first second) = AreSelectedOnce first × AreSelectedOnce second
  AreSelectedOnce (tree.While e body) = AreSelectedOnce body
  AreSelectedOnce (tree.Do body e) = AreSelectedOnce body
  AreSelectedOnce (tree.For objects first e step body) = AllSelectedOnce first × AreSelectedOnce body
  AreSelectedOnce (tree.Switch at e labels has_default values body) = IsSelectedOnce (length labels) has_default body × AreSelectedOnce body
  AreSelectedOnce (tree.Case n body) = AreSelectedOnce body
  AreSelectedOnce (tree.Default body) = AreSelectedOnce body
  AreSelectedOnce (tree.Label n body) = AreSelectedOnce body
  AreSelectedOnce other = Unit {0}

  pub AllSelectedOnce : StatementTrees → Type 0
  AllSelectedOnce tree.NoMore = Unit {0}
  AllSelectedOnce (tree.And first rest) = AreSelectedOnce first × AllSelectedOnce rest

-- a function has each of its labels once, and no label of a switch outside of switches
pub record IsLabelledOnce (f : FunctionView) : Type 0 where
  pub labels : (l : ℕ) → all_labels_in l (statement_trees f.body) ≡ below l f.labels
  pub cases : (n : ℕ) → all_cases_in n (statement_trees f.body) ≡ 0
  pub defaults : all_defaults_in (statement_trees f.body) ≡ 0
  pub switches : AllSelectedOnce (statement_trees f.body)

-- labels that have the numbers in which they stand stand once
abbrev pub LabelsStandOnce : Type 0
LabelsStandOnce = (f : FunctionView) → is_numbered f ≡ true → IsLabelledOnce f

-- and so each of them at most once
abbrev pub FunctionsAreLabelled : Type 0
FunctionsAreLabelled = (f : FunctionView) → is_numbered f ≡ true → IsLabelled f
