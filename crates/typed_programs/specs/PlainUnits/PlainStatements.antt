-- Statements without loops and jumps back, whose terms are plain.
use Rattle.std.specs.Prelude.{ℕ, Bool, true, false, ◌&&◌, ◌||◌, nat_le, List, [], ◌∷◌}
use Rattle.c_layout.specs.CheckedTrees as tree
use Rattle.c_layout.specs.CheckedTrees.{StatementTree, StatementTrees, StoreTree, StoreValue, StoreCopy, StoreText}
use Rattle.lower_template_theorems.specs.PendingLabels.Marks.{labels_in, all_labels_in}
use Rattle.typed_programs.specs.PlainUnits.PlainTerms.{is_plain_term, is_plain_place, is_plain_option}

abbrev pub is_plain_store : (ℕ → Bool) → StoreTree → Bool
is_plain_store calls (StoreValue offset e) = is_plain_term calls e
is_plain_store calls (StoreCopy offset l) = is_plain_place calls l
is_plain_store calls (StoreText offset room text) = true

abbrev pub are_plain_stores : (ℕ → Bool) → List StoreTree → Bool
are_plain_stores calls [] = true
are_plain_stores calls (x ∷ xs) = is_plain_store calls x && are_plain_stores calls xs

-- a label stands in a statement, or is one of those that stand later
abbrev pub stands_or : StatementTree → (ℕ → Bool) → ℕ → Bool
stands_or i later l = nat_le 1 (labels_in l i) || later l

abbrev pub stands_among : StatementTrees → (ℕ → Bool) → ℕ → Bool
stands_among items later l = nat_le 1 (all_labels_in l items) || later l

abbrev mutual
  -- a statement before such labels, in a `switch` or not: a `goto` leads to one that stands later in the text
  pub is_plain_statement : (ℕ → Bool) → (ℕ → Bool) → Bool → StatementTree → Bool
  is_plain_statement calls later breaks (tree.Value e) = is_plain_term calls e
  is_plain_statement calls later breaks tree.Nothing = true
  is_plain_statement calls later breaks (tree.Forget at local) = true
  is_plain_statement calls later breaks (tree.Start at local e) = is_plain_term calls e
  is_plain_statement calls later breaks (tree.StartCopy at local l) = is_plain_place calls l
  is_plain_statement calls later breaks (tree.StartList at local stores) = are_plain_stores calls stores
  is_plain_statement calls later breaks (tree.Block objects items) = are_plain_statements calls later breaks items
  is_plain_statement calls later breaks (tree.If e body) = is_plain_term calls e && is_plain_statement calls later breaks body
  is_plain_statement calls later breaks (tree.IfElse e first second) = is_plain_term calls e && (is_plain_statement calls (stands_or second later) breaks first && is_plain_statement calls later breaks second)
  is_plain_statement calls later breaks (tree.While e body) = false
  is_plain_statement calls later breaks (tree.Do body e) = false
  is_plain_statement calls later breaks (tree.For objects first e step body) = false
  is_plain_statement calls later breaks (tree.Switch at e labels has_default values body) = is_plain_term calls e && is_plain_statement calls later true body
  is_plain_statement calls later breaks (tree.Case n body) = is_plain_statement calls later breaks body
  is_plain_statement calls later breaks (tree.Default body) = is_plain_statement calls later breaks body
  is_plain_statement calls later breaks (tree.Label n body) = is_plain_statement calls later breaks body
  is_plain_statement calls later breaks (tree.Goto n) = later n
  is_plain_statement calls later breaks tree.Break = breaks
  is_plain_statement calls later breaks tree.Continue = false
  is_plain_statement calls later breaks (tree.Return at e) = is_plain_option calls e

  pub are_plain_statements : (ℕ → Bool) → (ℕ → Bool) → Bool → StatementTrees → Bool
  are_plain_statements calls later breaks tree.NoMore = true
  are_plain_statements calls later breaks (tree.And first rest) = is_plain_statement calls (stands_among rest later) breaks first && are_plain_statements calls later breaks rest
