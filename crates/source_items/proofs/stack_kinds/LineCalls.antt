-- What is so of each call that reads a line is so of the call that a condition makes.
use Rattle.std.proofs.Common.{Bool, true, false, cond, Option, Some, None}
use Rattle.c_layout.specs.CheckedTrees.{TermTree}
use Rattle.c_layout.specs.declared.syntax_tree.expressions.BinaryOp.{BinaryOp}
use Rattle.c_layout.specs.declared.syntax_tree.expressions.BinaryOp.TheVariants.{Equal, NotEqual}
use Rattle.lower_templates.specs.Worklist.TermKinds.{is_null_constant}
use Rattle.lower_conditions.specs.Conditions.{LineCallView, line_call, line_call_beside, ReadView, read_test, compared_read}
use Rattle.source_items.proofs.stack_kinds.FoundItems.{IfSome}

module _ (P : LineCallView → Type 0) where
  called_beside : (left right : TermTree) → IfSome P (line_call left) → IfSome P (line_call right) → IfSome P (line_call_beside left right)
  called_beside left right one other = by (is_null_constant right) (is_null_constant left)
    where
      by : (b c : Bool) → IfSome P (cond b (line_call left) (cond c (line_call right) None))
      by true c = one
      by false true = other
      by false false = tt

  pub read_tested : (o : Option LineCallView) (wants : Bool) → IfSome P o → IfSome (λ (r : ReadView). P r.call) (read_test o wants)
  read_tested None wants called = tt
  read_tested (Some c) wants called = called

  pub read_compared : (sign : BinaryOp) (left right : TermTree) → IfSome P (line_call left) → IfSome P (line_call right) → IfSome (λ (r : ReadView). P r.call) (compared_read sign left right)
  read_compared Equal left right one other = read_tested (line_call_beside left right) false (called_beside left right one other)
  read_compared NotEqual left right one other = read_tested (line_call_beside left right) true (called_beside left right one other)
  read_compared sign left right one other = tt
