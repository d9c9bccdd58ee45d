-- Labels of functions, cases and default labels are counted alike.
use Rattle.std.proofs.Common.{◌≡◌, ℕ, ◌+◌, ◌==◌, Bool, true, false, refl, arith, ap}
use Rattle.c_layout.specs.CheckedTrees as tree
use Rattle.c_layout.specs.CheckedTrees.{StatementTree, StatementTrees}
use Rattle.lower_functions.proofs.LabelCounts.{count_in, all_count_in}
use Rattle.lower_template_theorems.specs.PendingLabels.Marks.{one, labels_in, all_labels_in, cases_in, all_cases_in, defaults_in, all_defaults_in}

abbrev none : ℕ → Bool
none m = false

both : (a b x y : ℕ) → a ≡ x → b ≡ y → a + b ≡ x + y
both a b x y e f = omega (arith, e, f)

-- a label of another sort
passed : (a b : ℕ) → a ≡ b → a ≡ 0 + b
passed a b e = omega (arith, e)

module _ (n : ℕ) where
  mutual
    pub same_labels : (i : StatementTree) → labels_in n i ≡ count_in true (λ m. n == m) none false i
    same_labels (tree.Block objects items) = all_same_labels items
    same_labels (tree.If e body) = same_labels body
    same_labels (tree.IfElse e first second) = both _ _ _ _ (same_labels first) (same_labels second)
    same_labels (tree.While e body) = same_labels body
    same_labels (tree.Do body e) = same_labels body
    same_labels (tree.For objects first e step body) = both _ _ _ _ (all_same_labels first) (same_labels body)
    same_labels (tree.Switch at e labels has_default values body) = same_labels body
    same_labels (tree.Case m body) = passed _ _ (same_labels body)
    same_labels (tree.Default body) = passed _ _ (same_labels body)
    same_labels (tree.Label m body) = ap (λ k. one n m + k) (same_labels body)
    same_labels i = refl

    pub all_same_labels : (items : StatementTrees) → all_labels_in n items ≡ all_count_in true (λ m. n == m) none false items
    all_same_labels tree.NoMore = refl
    all_same_labels (tree.And first rest) = both _ _ _ _ (same_labels first) (all_same_labels rest)

  mutual
    pub same_cases : (i : StatementTree) → cases_in n i ≡ count_in false none (λ m. n == m) false i
    same_cases (tree.Block objects items) = all_same_cases items
    same_cases (tree.If e body) = same_cases body
    same_cases (tree.IfElse e first second) = both _ _ _ _ (same_cases first) (same_cases second)
    same_cases (tree.While e body) = same_cases body
    same_cases (tree.Do body e) = same_cases body
    same_cases (tree.For objects first e step body) = both _ _ _ _ (all_same_cases first) (same_cases body)
    same_cases (tree.Case m body) = ap (λ k. one n m + k) (same_cases body)
    same_cases (tree.Default body) = passed _ _ (same_cases body)
    same_cases (tree.Label m body) = passed _ _ (same_cases body)
    same_cases i = refl

    pub all_same_cases : (items : StatementTrees) → all_cases_in n items ≡ all_count_in false none (λ m. n == m) false items
    all_same_cases tree.NoMore = refl
    all_same_cases (tree.And first rest) = both _ _ _ _ (same_cases first) (all_same_cases rest)

mutual
  pub same_defaults : (i : StatementTree) → defaults_in i ≡ count_in false none none true i
  same_defaults (tree.Block objects items) = all_same_defaults items
  same_defaults (tree.If e body) = same_defaults body
  same_defaults (tree.IfElse e first second) = both _ _ _ _ (same_defaults first) (same_defaults second)
  same_defaults (tree.While e body) = same_defaults body
  same_defaults (tree.Do body e) = same_defaults body
  same_defaults (tree.For objects first e step body) = both _ _ _ _ (all_same_defaults first) (same_defaults body)
  same_defaults (tree.Case m body) = passed _ _ (same_defaults body)
  same_defaults (tree.Default body) = ap (λ k. 1 + k) (same_defaults body)
  same_defaults (tree.Label m body) = passed _ _ (same_defaults body)
  same_defaults i = refl

  pub all_same_defaults : (items : StatementTrees) → all_defaults_in items ≡ all_count_in false none none true items
  all_same_defaults tree.NoMore = refl
  all_same_defaults (tree.And first rest) = both _ _ _ _ (same_defaults first) (all_same_defaults rest)
