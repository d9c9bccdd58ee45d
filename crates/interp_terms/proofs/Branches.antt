-- Values of `&&` and `||`.
use Rattle.std.proofs.Common.{◌≡◌, None, [], ◌∷◌, refl}
use Rattle.c_layout.specs.CheckedTrees.{TermTree}
use Rattle.c_layout.specs.declared.syntax_tree.expressions.LogicalOp.{LogicalOp}
use Rattle.c_layout.specs.declared.syntax_tree.expressions.LogicalOp.TheVariants.{And, Or}
use Rattle.lower_templates.specs.Worklist.TermKinds.{term_at}
use Rattle.semantics.specs.SourceMachine.Items.{Value, Choose, items_of}
use Rattle.semantics.specs.SourceMachine.ConditionItems.{logical}
use Rattle.interp_stack.specs.StackViews.{StackView, with_items}
use Rattle.interp_terms.specs.Decided.{decided}

pub logical_is : (op : LogicalOp) (a b : TermTree) (s : StackView) → with_items (Value a ∷ (Choose (term_at a) None (items_of (decided op b s).yes) (items_of (decided op b s).no) ∷ [])) (decided op b s) ≡ with_items (logical op a b) s
logical_is And a b s = refl
logical_is Or a b s = refl
