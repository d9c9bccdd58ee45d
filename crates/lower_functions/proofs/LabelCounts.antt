-- How often labels of some sort are in a statement: labels of the function, or those of the innermost switch.
use Rattle.std.specs.Prelude.{ℕ, ◌+◌, Bool, cond}
use Rattle.c_layout.specs.CheckedTrees as tree
use Rattle.c_layout.specs.CheckedTrees.{StatementTree, StatementTrees}

-- whether switches in the statement are looked into, and which labels, cases and default labels count
module _ (deep : Bool) (is_label is_case : ℕ → Bool) (is_default : Bool) where
  abbrev mutual
    pub count_in : StatementTree → ℕ
    count_in (tree.Block objects items) = all_count_in items
    count_in (tree.If e body) = count_in body
    count_in (tree.IfElse e first second) = count_in first + count_in second
    count_in (tree.While e body) = count_in body
    count_in (tree.Do body e) = count_in body
    count_in (tree.For objects first e step body) = all_count_in first + count_in body
    count_in (tree.Switch at e labels has_default values body) = cond deep (count_in body) 0
    count_in (tree.Case n body) = cond (is_case n) 1 0 + count_in body
    count_in (tree.Default body) = cond is_default 1 0 + count_in body
    count_in (tree.Label n body) = cond (is_label n) 1 0 + count_in body
    count_in other = 0

    pub all_count_in : StatementTrees → ℕ
    all_count_in tree.NoMore = 0
    all_count_in (tree.And first rest) = count_in first + all_count_in rest
