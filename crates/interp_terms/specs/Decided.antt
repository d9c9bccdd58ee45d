-- What follows the left operand of `&&` or `||` whose value is used.
use Rattle.std.specs.Prelude.{true, false}
use Rattle.c_layout.specs.CheckedTrees.{TermTree}
use Rattle.c_layout.specs.declared.syntax_tree.expressions.LogicalOp.{LogicalOp}
use Rattle.c_layout.specs.declared.syntax_tree.expressions.LogicalOp.TheVariants.{And, Or}
use Rattle.semantics.specs.SourceMachine.ConditionItems.{choice_of, truth_of}
use Rattle.interp_stack.specs.StackViews.{StackView, following}

-- the right operand is come to where the left one does not decide
abbrev pub decided : LogicalOp → TermTree → StackView → StackView
decided And e s = following (choice_of e (truth_of true) (truth_of false)) (following (truth_of false) s)
decided Or e s = following (truth_of true) (following (choice_of e (truth_of true) (truth_of false)) s)
