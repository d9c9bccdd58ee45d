use Rattle.std.proofs.Common.{rules, ◌≡◌, true, ap, sym, ◌∙◌}
use Rattle.c_layout.specs.Types.{view}
use Rattle.c_layout.specs.CheckedTrees as tree
use Rattle.c_layout.specs.CheckedTrees.{TermTree, Typed, term_tree}
use Rattle.c_layout.specs.declared.checked_tree.checked_terms.CheckedTerm as of_term
use Rattle.c_layout.specs.declared.checked_tree.checked_terms.TermForm as of_form
use Rattle.lower_templates.specs.Worklist.TermKinds.{term_form}
use Rattle.semantics.specs.SourceMachine.ConditionItems.{condition}
use Rattle.interp_stack.specs.StackViews.{StackView, with_items, picked, standing}
use Rattle.interp_stack.proofs.Conditions.{is_leaf, leaf_stacks, logical_is}
use Rattle.interp_stack.proofs.Sequels.{goes_on}
use Rattle.interp_stack.proofs.condition_items.+push_condition.Goals as goal

pub returns-in-Number : goal.returns-in-Number
returns-in-Number t c = λ u.
    let is : is_leaf (term_form (term_tree c.args.term.now)) ≡ true = search (rules, of_term.the_lemmas, of_form.the_lemmas) in
    leaf_stacks u c.args.is_test (term_tree c.args.term.now) c.args.control.now.items c.push_leaf.result c.push_leaf.new.control.items is (c.push_leaf.ensures u)

pub returns-in-Sizeof-default-None-default : goal.returns-in-Sizeof-default-None-default
returns-in-Sizeof-default-None-default t c = λ u.
    let is : is_leaf (term_form (term_tree c.args.term.now)) ≡ true = search (rules, of_term.the_lemmas, of_form.the_lemmas) in
    leaf_stacks u c.args.is_test (term_tree c.args.term.now) c.args.control.now.items c.push_leaf-in-Sizeof-default-None-default.result c.push_leaf-in-Sizeof-default-None-default.new.control.items is (c.push_leaf-in-Sizeof-default-None-default.ensures u)

pub returns-in-Sizeof-default-Some-default : goal.returns-in-Sizeof-default-Some-default
returns-in-Sizeof-default-Some-default t c = λ u.
    let is : is_leaf (term_form (term_tree c.args.term.now)) ≡ true = search (rules, of_term.the_lemmas, of_form.the_lemmas) in
    leaf_stacks u c.args.is_test (term_tree c.args.term.now) c.args.control.now.items c.push_leaf-in-Sizeof-default-Some-default.result c.push_leaf-in-Sizeof-default-Some-default.new.control.items is (c.push_leaf-in-Sizeof-default-Some-default.ensures u)

pub returns-in-Load : goal.returns-in-Load
returns-in-Load t c = λ u.
    let is : is_leaf (term_form (term_tree c.args.term.now)) ≡ true = search (rules, of_term.the_lemmas, of_form.the_lemmas) in
    leaf_stacks u c.args.is_test (term_tree c.args.term.now) c.args.control.now.items c.push_leaf-in-Load.result c.push_leaf-in-Load.new.control.items is (c.push_leaf-in-Load.ensures u)

pub returns-in-AddressOf : goal.returns-in-AddressOf
returns-in-AddressOf t c = λ u.
    let is : is_leaf (term_form (term_tree c.args.term.now)) ≡ true = search (rules, of_term.the_lemmas, of_form.the_lemmas) in
    leaf_stacks u c.args.is_test (term_tree c.args.term.now) c.args.control.now.items c.push_leaf-in-AddressOf.result c.push_leaf-in-AddressOf.new.control.items is (c.push_leaf-in-AddressOf.ensures u)

pub returns-in-Decay : goal.returns-in-Decay
returns-in-Decay t c = λ u.
    let is : is_leaf (term_form (term_tree c.args.term.now)) ≡ true = search (rules, of_term.the_lemmas, of_form.the_lemmas) in
    leaf_stacks u c.args.is_test (term_tree c.args.term.now) c.args.control.now.items c.push_leaf-in-Decay.result c.push_leaf-in-Decay.new.control.items is (c.push_leaf-in-Decay.ensures u)

pub returns-in-Convert : goal.returns-in-Convert
returns-in-Convert t c = λ u.
    let is : is_leaf (term_form (term_tree c.args.term.now)) ≡ true = search (rules, of_term.the_lemmas, of_form.the_lemmas) in
    leaf_stacks u c.args.is_test (term_tree c.args.term.now) c.args.control.now.items c.push_leaf-in-Convert.result c.push_leaf-in-Convert.new.control.items is (c.push_leaf-in-Convert.ensures u)

pub returns-in-Discard : goal.returns-in-Discard
returns-in-Discard t c = λ u.
    let is : is_leaf (term_form (term_tree c.args.term.now)) ≡ true = search (rules, of_term.the_lemmas, of_form.the_lemmas) in
    leaf_stacks u c.args.is_test (term_tree c.args.term.now) c.args.control.now.items c.push_leaf-in-Discard.result c.push_leaf-in-Discard.new.control.items is (c.push_leaf-in-Discard.ensures u)

pub returns-in-Plus : goal.returns-in-Plus
returns-in-Plus t c = λ u.
    let is : is_leaf (term_form (term_tree c.args.term.now)) ≡ true = search (rules, of_term.the_lemmas, of_form.the_lemmas) in
    leaf_stacks u c.args.is_test (term_tree c.args.term.now) c.args.control.now.items c.push_leaf-in-Plus.result c.push_leaf-in-Plus.new.control.items is (c.push_leaf-in-Plus.ensures u)

pub returns-in-Minus : goal.returns-in-Minus
returns-in-Minus t c = λ u.
    let is : is_leaf (term_form (term_tree c.args.term.now)) ≡ true = search (rules, of_term.the_lemmas, of_form.the_lemmas) in
    leaf_stacks u c.args.is_test (term_tree c.args.term.now) c.args.control.now.items c.push_leaf-in-Minus.result c.push_leaf-in-Minus.new.control.items is (c.push_leaf-in-Minus.ensures u)

pub returns-in-Complement : goal.returns-in-Complement
returns-in-Complement t c = λ u.
    let is : is_leaf (term_form (term_tree c.args.term.now)) ≡ true = search (rules, of_term.the_lemmas, of_form.the_lemmas) in
    leaf_stacks u c.args.is_test (term_tree c.args.term.now) c.args.control.now.items c.push_leaf-in-Complement.result c.push_leaf-in-Complement.new.control.items is (c.push_leaf-in-Complement.ensures u)

pub returns-in-Integer : goal.returns-in-Integer
returns-in-Integer t c = λ u.
    let is : is_leaf (term_form (term_tree c.args.term.now)) ≡ true = search (rules, of_term.the_lemmas, of_form.the_lemmas) in
    leaf_stacks u c.args.is_test (term_tree c.args.term.now) c.args.control.now.items c.push_leaf-in-Integer.result c.push_leaf-in-Integer.new.control.items is (c.push_leaf-in-Integer.ensures u)

pub returns-in-Shift : goal.returns-in-Shift
returns-in-Shift t c = λ u.
    let is : is_leaf (term_form (term_tree c.args.term.now)) ≡ true = search (rules, of_term.the_lemmas, of_form.the_lemmas) in
    leaf_stacks u c.args.is_test (term_tree c.args.term.now) c.args.control.now.items c.push_leaf-in-Shift.result c.push_leaf-in-Shift.new.control.items is (c.push_leaf-in-Shift.ensures u)

pub returns-in-Difference : goal.returns-in-Difference
returns-in-Difference t c = λ u.
    let is : is_leaf (term_form (term_tree c.args.term.now)) ≡ true = search (rules, of_term.the_lemmas, of_form.the_lemmas) in
    leaf_stacks u c.args.is_test (term_tree c.args.term.now) c.args.control.now.items c.push_leaf-in-Difference.result c.push_leaf-in-Difference.new.control.items is (c.push_leaf-in-Difference.ensures u)

pub returns-in-Compare : goal.returns-in-Compare
returns-in-Compare t c = λ u.
    let is : is_leaf (term_form (term_tree c.args.term.now)) ≡ true = search (rules, of_term.the_lemmas, of_form.the_lemmas) in
    leaf_stacks u c.args.is_test (term_tree c.args.term.now) c.args.control.now.items c.push_leaf-in-Compare.result c.push_leaf-in-Compare.new.control.items is (c.push_leaf-in-Compare.ensures u)

pub returns-in-Comma : goal.returns-in-Comma
returns-in-Comma t c = λ u.
    let is : is_leaf (term_form (term_tree c.args.term.now)) ≡ true = search (rules, of_term.the_lemmas, of_form.the_lemmas) in
    leaf_stacks u c.args.is_test (term_tree c.args.term.now) c.args.control.now.items c.push_leaf-in-Comma.result c.push_leaf-in-Comma.new.control.items is (c.push_leaf-in-Comma.ensures u)

pub returns-in-Assign : goal.returns-in-Assign
returns-in-Assign t c = λ u.
    let is : is_leaf (term_form (term_tree c.args.term.now)) ≡ true = search (rules, of_term.the_lemmas, of_form.the_lemmas) in
    leaf_stacks u c.args.is_test (term_tree c.args.term.now) c.args.control.now.items c.push_leaf-in-Assign.result c.push_leaf-in-Assign.new.control.items is (c.push_leaf-in-Assign.ensures u)

pub returns-in-Compound : goal.returns-in-Compound
returns-in-Compound t c = λ u.
    let is : is_leaf (term_form (term_tree c.args.term.now)) ≡ true = search (rules, of_term.the_lemmas, of_form.the_lemmas) in
    leaf_stacks u c.args.is_test (term_tree c.args.term.now) c.args.control.now.items c.push_leaf-in-Compound.result c.push_leaf-in-Compound.new.control.items is (c.push_leaf-in-Compound.ensures u)

pub returns-in-CompoundShift : goal.returns-in-CompoundShift
returns-in-CompoundShift t c = λ u.
    let is : is_leaf (term_form (term_tree c.args.term.now)) ≡ true = search (rules, of_term.the_lemmas, of_form.the_lemmas) in
    leaf_stacks u c.args.is_test (term_tree c.args.term.now) c.args.control.now.items c.push_leaf-in-CompoundShift.result c.push_leaf-in-CompoundShift.new.control.items is (c.push_leaf-in-CompoundShift.ensures u)

pub returns-in-Step : goal.returns-in-Step
returns-in-Step t c = λ u.
    let is : is_leaf (term_form (term_tree c.args.term.now)) ≡ true = search (rules, of_term.the_lemmas, of_form.the_lemmas) in
    leaf_stacks u c.args.is_test (term_tree c.args.term.now) c.args.control.now.items c.push_leaf-in-Step.result c.push_leaf-in-Step.new.control.items is (c.push_leaf-in-Step.ensures u)

pub returns-in-StepPointer : goal.returns-in-StepPointer
returns-in-StepPointer t c = λ u.
    let is : is_leaf (term_form (term_tree c.args.term.now)) ≡ true = search (rules, of_term.the_lemmas, of_form.the_lemmas) in
    leaf_stacks u c.args.is_test (term_tree c.args.term.now) c.args.control.now.items c.push_leaf-in-StepPointer.result c.push_leaf-in-StepPointer.new.control.items is (c.push_leaf-in-StepPointer.ensures u)

pub returns-in-Struct : goal.returns-in-Struct
returns-in-Struct t c = λ u.
    let is : is_leaf (term_form (term_tree c.args.term.now)) ≡ true = search (rules, of_term.the_lemmas, of_form.the_lemmas) in
    leaf_stacks u c.args.is_test (term_tree c.args.term.now) c.args.control.now.items c.push_leaf-in-Struct.result c.push_leaf-in-Struct.new.control.items is (c.push_leaf-in-Struct.ensures u)

pub returns-in-Call : goal.returns-in-Call
returns-in-Call t c = λ u.
    let is : is_leaf (term_form (term_tree c.args.term.now)) ≡ true = search (rules, of_term.the_lemmas, of_form.the_lemmas) in
    leaf_stacks u c.args.is_test (term_tree c.args.term.now) c.args.control.now.items c.push_leaf-in-Call.result c.push_leaf-in-Call.new.control.items is (c.push_leaf-in-Call.ensures u)

pub returns-in-Library : goal.returns-in-Library
returns-in-Library t c = λ u.
    let is : is_leaf (term_form (term_tree c.args.term.now)) ≡ true = search (rules, of_term.the_lemmas, of_form.the_lemmas) in
    leaf_stacks u c.args.is_test (term_tree c.args.term.now) c.args.control.now.items c.push_leaf-in-Library.result c.push_leaf-in-Library.new.control.items is (c.push_leaf-in-Library.ensures u)

pub returns-in_ok-push_item-in-Not : goal.returns-in_ok-push_item-in-Not
returns-in_ok-push_item-in-Not t c = λ u.
    let s = standing u c.args.control.now.items in
    let inner = term_tree c.deref.result.now in
    let next : StackView → StackView = λ s. with_items (condition u c.args.is_test inner s.yes s.no) s in
    let whole : TermTree → StackView = λ e. with_items (condition u c.args.is_test e s.yes s.no) s in
    let is : term_tree c.args.term.now ≡ Typed c.args.term.now.place (view c.args.term.now.ctype) c.args.term.now.parens c.args.term.now.constant (tree.Not inner) = search (rules, of_term.the_lemmas, of_form.the_lemmas) in
    goes_on c.push_condition.result (standing u c.push_condition.new.control.items) (next (standing u c.push_item.new.control.items)) (whole (term_tree c.args.term.now))
    (ap next (c.in_ok-push_item-in-Not.ensures u) ∙ ap whole (sym is)) (c.push_condition.ensures u)

pub returns-in_ok-push_logical-in-Logical : goal.returns-in_ok-push_logical-in-Logical
returns-in_ok-push_logical-in-Logical t c = λ u.
    let s = standing u c.args.control.now.items in
    let left = term_tree c.deref-in-Logical-2.result.now in
    let right = term_tree c.deref-in-Logical.result.now in
    let next : StackView → StackView = λ s. with_items (condition u c.args.is_test left s.yes s.no) s in
    let whole : TermTree → StackView = λ e. with_items (condition u c.args.is_test e s.yes s.no) s in
    let is : term_tree c.args.term.now ≡ Typed c.args.term.now.place (view c.args.term.now.ctype) c.args.term.now.parens c.args.term.now.constant (tree.Logical c.in-Logical.op left right) = search (rules, of_term.the_lemmas, of_form.the_lemmas) in
    goes_on c.push_condition-in-Logical.result (standing u c.push_condition-in-Logical.new.control.items) (next (standing u c.push_logical.new.control.items)) (whole (term_tree c.args.term.now))
    (ap next (c.in_ok-push_logical-in-Logical.ensures u) ∙ logical_is u c.in-Logical.op c.args.is_test c.args.term.now.place (view c.args.term.now.ctype) c.args.term.now.parens c.args.term.now.constant left right s ∙ ap whole (sym is)) (c.push_condition-in-Logical.ensures u)

pub returns-in_ok-push_item-in-Conditional : goal.returns-in_ok-push_item-in-Conditional
returns-in_ok-push_item-in-Conditional t c = λ u.
    let s = standing u c.args.control.now.items in
    let test = term_tree c.deref-in-Conditional.result.now in
    let next : StackView → StackView = λ s. with_items (condition u true test s.yes s.no) s in
    let whole : TermTree → StackView = λ e. with_items (condition u c.args.is_test e s.yes s.no) s in
    let is : term_tree c.args.term.now ≡ Typed c.args.term.now.place (view c.args.term.now.ctype) c.args.term.now.parens c.args.term.now.constant (tree.Conditional test (term_tree c.in-Conditional.field-1.value) (term_tree c.in-Conditional.field-2.value)) = search (rules, of_term.the_lemmas, of_form.the_lemmas) in
    goes_on c.push_condition-in-Conditional.result (standing u c.push_condition-in-Conditional.new.control.items) (next (standing u c.push_item-in-Conditional.new.control.items)) (whole (term_tree c.args.term.now))
    (ap next (c.in_ok-push_item-in-Conditional.ensures u) ∙ ap (λ e. next (picked u (term_form e) s)) is ∙ ap whole (sym is)) (c.push_condition-in-Conditional.ensures u)
