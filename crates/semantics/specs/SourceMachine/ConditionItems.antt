-- The items of conditions, which go straight to what follows, and of terms by their form.
use Rattle.std.specs.Prelude.{pos, Bool, true, false, List, [], ◌∷◌, ◌++◌, Option, Some, None}
use Rattle.cc_base.specs.declared.integer_operators.UnOp.TheVariants.{Neg, Compl}
use Rattle.c_layout.specs.CheckedTrees as tree
use Rattle.c_layout.specs.CheckedTrees.{TermTree, Typed, FormTree}
use Rattle.c_layout.specs.CheckedUnits.{UnitView}
use Rattle.c_layout.specs.declared.syntax_tree.expressions.LogicalOp.{LogicalOp}
use Rattle.c_layout.specs.declared.syntax_tree.expressions.LogicalOp.TheVariants.{And, Or}
use Rattle.lower_templates.specs.Worklist.TermKinds.{meaning, relation, scalar_of, integer_type, term_at, term_type, lvalue_at, lvalue_type}
use Rattle.lower_expressions.specs.Assignments.{keeps_old}
use Rattle.lower_expressions.specs.Calls.{gives}
use Rattle.lower_conditions.specs.Conditions.{ReadView, read_by}
use Rattle.semantics.specs.SourceMachine.Operations as op
use Rattle.semantics.specs.SourceMachine.Operations.{LeftFirst, size_of}
use Rattle.semantics.specs.SourceMachine.Items.{Item, Items, Value, Unused, Address, Do, Truth, Choose, ReadLine, Hop, Invoke, items_of}
use Rattle.semantics.specs.SourceMachine.TermTests.{test_if}
use Rattle.semantics.specs.SourceMachine.TermItems.{operating, order_of, if_used, left_if, assignment, compound, compound_shift, step, pointer_step, arguments, argument_count, library_items}

-- ---- conditions

abbrev pub line_items : ReadView → Bool → Items → Items → List Item
line_items r true held failed = arguments r.call.arguments ++ ReadLine r.call.at failed held ∷ []
line_items r false held failed = arguments r.call.arguments ++ ReadLine r.call.at held failed ∷ []

-- a call of `fgets` that a condition tests alone, or any other term
abbrev pub leaf_by : UnitView → Bool → TermTree → Option ReadView → Items → Items → List Item
leaf_by u is_test e (Some r) held failed = line_items r r.wants_line held failed
leaf_by u is_test e None held failed = Value e ∷ (Choose (term_at e) (test_if u is_test e) held failed ∷ [])

abbrev pub leaf : UnitView → Bool → TermTree → List Item → List Item → List Item
leaf u is_test e held failed = leaf_by u is_test e (read_by e) (items_of held) (items_of failed)

-- `&&`, `||`, `!` and `?:` go straight to what follows; the arms of `?:` are no tests
abbrev pub condition : UnitView → Bool → TermTree → List Item → List Item → List Item
condition u is_test (Typed at t parens fixed (tree.Logical And a b)) held failed = condition u is_test a (condition u is_test b held failed) failed
condition u is_test (Typed at t parens fixed (tree.Logical Or a b)) held failed = condition u is_test a held (condition u is_test b held failed)
condition u is_test (Typed at t parens fixed (tree.Not a)) held failed = condition u is_test a failed held
condition u is_test (Typed at t parens fixed (tree.Conditional c a b)) held failed = condition u true c (condition u false a held failed) (condition u false b held failed)
condition u is_test e held failed = leaf u is_test e held failed

-- ---- terms

abbrev pub choice_of : TermTree → List Item → List Item → List Item
choice_of e held failed = Value e ∷ (Choose (term_at e) None (items_of held) (items_of failed) ∷ [])

abbrev pub truth_of : Bool → List Item
truth_of b = Truth b ∷ []

-- the value of `&&` or `||`: the right operand is come to where the left one does not decide
abbrev pub logical : LogicalOp → TermTree → TermTree → List Item
logical And a b = choice_of a (choice_of b (truth_of true) (truth_of false)) (truth_of false)
logical Or a b = choice_of a (truth_of true) (choice_of b (truth_of true) (truth_of false))

abbrev pub arm : Bool → TermTree → Item
arm true e = Value e
arm false e = Unused e

-- behind its first arm control goes round the second one
abbrev pub conditional : UnitView → Bool → TermTree → TermTree → TermTree → List Item
conditional u used c a b = condition u true c (arm used a ∷ (Hop ∷ [])) (arm used b ∷ [])

-- the items of a term, whose value is used or not
abbrev pub of_form : UnitView → Bool → TermTree → FormTree → List Item
of_form u used e (tree.Number n) = if_used used (Do (term_at e) (op.Constant n) ∷ [])
of_form u used e (tree.SizeofType n is_pointer) = if_used used (Do (term_at e) (op.Constant (pos n)) ∷ [])
of_form u used e (tree.Sizeof n operand is_pointer) = if_used used (Do (term_at e) (op.Constant (pos n)) ∷ [])
of_form u used e (tree.Load l) = if_used used (Address l ∷ (Do (lvalue_at l) (op.Load (scalar_of (lvalue_type l))) ∷ []))
of_form u used e (tree.AddressOf l) = if_used used (Address l ∷ [])
of_form u used e (tree.Decay l) = if_used used (Address l ∷ (Do (lvalue_at l) (op.Narrow 0 (size_of u (lvalue_type l))) ∷ []))
of_form u used e (tree.Convert kind a) = if_used used (Value a ∷ (Do (term_at e) (op.Convert (scalar_of (term_type e))) ∷ []))
of_form u used e (tree.Discard a) = Unused a ∷ []
of_form u used e (tree.Plus a) = if_used used (Value a ∷ [])
of_form u used e (tree.Minus a) = if_used used (Value a ∷ (Do (term_at e) (op.Unary Neg (integer_type (term_type e))) ∷ []))
of_form u used e (tree.Complement a) = if_used used (Value a ∷ (Do (term_at e) (op.Unary Compl (integer_type (term_type e))) ∷ []))
of_form u used e (tree.Not a) = if_used used (Value a ∷ (Do (term_at e) op.Not ∷ []))
of_form u used e (tree.Integer sign a b) = if_used used (Value a ∷ (Value b ∷ (Do (term_at e) (operating (meaning sign) (term_type e)) ∷ [])))
of_form u used e (tree.Shift back size a b) = if_used used (Value a ∷ (Value b ∷ (Do (term_at e) (op.Shift (order_of (term_type a)) size back) ∷ [])))
of_form u used e (tree.Difference size a b) = if_used used (Value a ∷ (Value b ∷ (Do (term_at e) (op.Difference size) ∷ [])))
of_form u used e (tree.Compare sign a b) = if_used used (Value a ∷ (Value b ∷ (Do (term_at e) (op.ComparePointers (relation sign)) ∷ [])))
of_form u used e (tree.Logical sign a b) = if_used used (logical sign a b)
of_form u used e (tree.Conditional c a b) = conditional u used c a b
of_form u used e (tree.Comma a b) = Unused a ∷ (arm used b ∷ [])
of_form u used e (tree.Assign l a) = if_used used (assignment l a)
of_form u used e (tree.Compound sign kind l a) = if_used used (compound (term_at e) (meaning sign) (integer_type kind) l a)
of_form u used e (tree.CompoundShift back size l a) = if_used used (compound_shift (term_at e) back size l a)
of_form u used e (tree.Step sign time kind l) = if_used used (step (term_at e) sign (integer_type kind) l (keeps_old time used))
of_form u used e (tree.StepPointer sign time size l) = if_used used (pointer_step (term_at e) sign size l (keeps_old time used))
of_form u used e (tree.Struct l) = if_used used (Address l ∷ [])
of_form u used e (tree.Call function args is_used) = left_if is_used used (arguments args ++ Invoke (term_at e) function (argument_count args) is_used ∷ [])
of_form u used e (tree.Library function args target) = left_if (gives function) used (library_items (term_at e) function args target)

abbrev pub term_items : UnitView → Bool → TermTree → List Item
term_items u used (Typed at t parens fixed form) = of_form u used (Typed at t parens fixed form) form
