-- Statements whose terms are plain, with whatever loops and jumps.
use Rattle.std.specs.Prelude.{ℕ, Bool, true, ◌&&◌}
use Rattle.c_layout.specs.CheckedTrees as tree
use Rattle.c_layout.specs.CheckedTrees.{StatementTree, StatementTrees}
use Rattle.typed_programs.specs.PlainUnits.PlainTerms.{is_plain_term, is_plain_place, is_plain_option}
use Rattle.typed_programs.specs.PlainUnits.PlainStatements.{are_plain_stores}

abbrev mutual
  pub is_looped_statement : (ℕ → Bool) → StatementTree → Bool
  is_looped_statement calls (tree.Value e) = is_plain_term calls e
  is_looped_statement calls tree.Nothing = true
  is_looped_statement calls (tree.Forget at local) = true
  is_looped_statement calls (tree.Start at local e) = is_plain_term calls e
  is_looped_statement calls (tree.StartCopy at local l) = is_plain_place calls l
  is_looped_statement calls (tree.StartList at local stores) = are_plain_stores calls stores
  is_looped_statement calls (tree.Block objects items) = are_looped_statements calls items
  is_looped_statement calls (tree.If e body) = is_plain_term calls e && is_looped_statement calls body
  is_looped_statement calls (tree.IfElse e first second) = is_plain_term calls e && (is_looped_statement calls first && is_looped_statement calls second)
  is_looped_statement calls (tree.While e body) = is_plain_term calls e && is_looped_statement calls body
  is_looped_statement calls (tree.Do body e) = is_plain_term calls e && is_looped_statement calls body
  is_looped_statement calls (tree.For objects first e step body) = are_looped_statements calls first && ((is_plain_option calls e && is_plain_option calls step) && is_looped_statement calls body)
  is_looped_statement calls (tree.Switch at e labels has_default values body) = is_plain_term calls e && is_looped_statement calls body
  is_looped_statement calls (tree.Case n body) = is_looped_statement calls body
  is_looped_statement calls (tree.Default body) = is_looped_statement calls body
  is_looped_statement calls (tree.Label n body) = is_looped_statement calls body
  is_looped_statement calls (tree.Goto n) = true
  is_looped_statement calls tree.Break = true
  is_looped_statement calls tree.Continue = true
  is_looped_statement calls (tree.Return at e) = is_plain_option calls e

  pub are_looped_statements : (ℕ → Bool) → StatementTrees → Bool
  are_looped_statements calls tree.NoMore = true
  are_looped_statements calls (tree.And first rest) = is_looped_statement calls first && are_looped_statements calls rest
