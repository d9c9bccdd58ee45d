-- Conditions on lines.
use Rattle.std.proofs.Common.{◌≡◌, ℕ, ℤ, Bool, true, false, Option, List, [], ◌∷◌, Result, refl, ap}
use Rattle.c_layout.specs.CheckedTrees as tree
use Rattle.c_layout.specs.CheckedTrees.{TermTree, Typed, FormTree}
use Rattle.c_layout.specs.CheckedUnits.{UnitView}
use Rattle.c_layout.specs.declared.syntax_tree.expressions.LogicalOp.{LogicalOp}
use Rattle.c_layout.specs.declared.syntax_tree.expressions.LogicalOp.TheVariants.{And, Or}
use Rattle.c_layout.specs.Types.{Ty}
use Rattle.cc_base.specs.declared.diagnostics.Place.{Place}
use Rattle.lower_templates.specs.Worklist.TermKinds.{term_form}
use Rattle.lower_conditions.specs.Conditions.{ReadView}
use Rattle.semantics.specs.SourceMachine.Items as item
use Rattle.semantics.specs.SourceMachine.Items.{Item, items_of}
use Rattle.semantics.specs.SourceMachine.TermItems.{arguments}
use Rattle.semantics.specs.SourceMachine.ConditionItems.{line_items, leaf, condition}
use Rattle.interp_stack.specs.StackViews.{StackView, with_items, on_line, on_logical, standing, Stacks}
use Rattle.interp_stack.specs.declared.items.Item7.{Item7}
use Rattle.interp_stack.proofs.Sequels.{goes_on}
use Rattle.interp_stack.proofs.Stacks.{with_again}

pub line_read : (r : ReadView) (wants : Bool) (s : StackView) → with_items (arguments r.call.arguments) (on_line r.call.at wants s) ≡ with_items (line_items r wants (items_of s.yes) (items_of s.no)) s
line_read r true s = with_again (arguments r.call.arguments) (item.ReadLine r.call.at (items_of s.no) (items_of s.yes) ∷ []) s
line_read r false s = with_again (arguments r.call.arguments) (item.ReadLine r.call.at (items_of s.yes) (items_of s.no) ∷ []) s

-- a condition that is no `&&`, `||`, `!` or `?:`
abbrev pub is_leaf : FormTree → Bool
is_leaf (tree.Logical op a b) = false
is_leaf (tree.Not a) = false
is_leaf (tree.Conditional c a b) = false
is_leaf form = true

leaf_is : (u : UnitView) (is_test : Bool) (e : TermTree) (held failed : List Item) → is_leaf (term_form e) ≡ true → leaf u is_test e held failed ≡ condition u is_test e held failed
leaf_is u is_test (Typed at t parens fixed (tree.Logical op a b)) held failed h = cc
leaf_is u is_test (Typed at t parens fixed (tree.Not a)) held failed h = cc
leaf_is u is_test (Typed at t parens fixed (tree.Conditional c a b)) held failed h = cc
leaf_is u is_test (Typed at t parens fixed form) held failed h = refl

pub leaf_stacks : {E : Type 0} (u : UnitView) (is_test : Bool) (e : TermTree) (old : List Item7) (result : Result (Unit {0}) E) (new : List Item7) → is_leaf (term_form e) ≡ true → Stacks u (λ s. with_items (leaf u is_test e s.yes s.no) s) old result new → Stacks u (λ s. with_items (condition u is_test e s.yes s.no) s) old result new
leaf_stacks u is_test e old result new h stacks =
    let s = standing u old in
    goes_on result (standing u new) (with_items (leaf u is_test e s.yes s.no) s) (with_items (condition u is_test e s.yes s.no) s) (ap (λ items. with_items items s) (leaf_is u is_test e s.yes s.no h)) stacks

pub logical_is : (u : UnitView) (op : LogicalOp) (is_test : Bool) (at : Place) (t : Ty) (parens : ℕ) (fixed : Option ℤ) (a b : TermTree) (s : StackView) → with_items (condition u is_test a (on_logical u op is_test b s).yes (on_logical u op is_test b s).no) (on_logical u op is_test b s) ≡ with_items (condition u is_test (Typed at t parens fixed (tree.Logical op a b)) s.yes s.no) s
logical_is u And is_test at t parens fixed a b s = refl
logical_is u Or is_test at t parens fixed a b s = refl
