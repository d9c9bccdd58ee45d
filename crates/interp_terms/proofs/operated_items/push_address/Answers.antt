use Rattle.std.proofs.Common.{rules, ◌≡◌, ap, sym}
use Rattle.c_layout.specs.Types.{view}
use Rattle.c_layout.specs.CheckedTrees as tree
use Rattle.c_layout.specs.CheckedTrees.{LvalueTree, Designates, term_tree, lvalue_tree}
use Rattle.c_layout.specs.CheckedUnits.{unit_view}
use Rattle.c_layout.specs.declared.checked_tree.checked_terms.Lvalue as of_lvalue
use Rattle.c_layout.specs.declared.checked_tree.checked_terms.LvalueForm as of_form
use Rattle.semantics.specs.SourceMachine.TermItems.{address_items}
use Rattle.interp_stack.specs.StackViews.{StackView, with_items, standing}
use Rattle.interp_stack.proofs.Sequels.{goes_on}
use Rattle.interp_terms.proofs.operated_items.push_address.Goals as goal

pub returns-in-Object : goal.returns-in-Object
returns-in-Object c =
    let u = unit_view c.args.unit.now in
    let whole : LvalueTree → StackView = λ l. with_items (address_items u l) (standing u c.args.control.now.items) in
    let seen = Designates c.args.lvalue.now.place (view c.args.lvalue.now.ctype) c.args.lvalue.now.parens (tree.Object c.in-Object.object) in
    let is : lvalue_tree c.args.lvalue.now ≡ seen = search (rules, of_lvalue.the_lemmas, of_form.the_lemmas) in
    goes_on c.push_item.result (standing u c.push_item.new.control.items) (whole seen) (whole (lvalue_tree c.args.lvalue.now)) (ap whole (sym is)) (c.push_item.ensures u)

pub returns-in-Literal : goal.returns-in-Literal
returns-in-Literal c =
    let u = unit_view c.args.unit.now in
    let whole : LvalueTree → StackView = λ l. with_items (address_items u l) (standing u c.args.control.now.items) in
    let seen = Designates c.args.lvalue.now.place (view c.args.lvalue.now.ctype) c.args.lvalue.now.parens (tree.Literal c.in-Literal.index) in
    let is : lvalue_tree c.args.lvalue.now ≡ seen = search (rules, of_lvalue.the_lemmas, of_form.the_lemmas) in
    goes_on c.push_item-in-Literal.result (standing u c.push_item-in-Literal.new.control.items) (whole seen) (whole (lvalue_tree c.args.lvalue.now)) (ap whole (sym is)) (c.push_item-in-Literal.ensures u)

pub returns-in-Target : goal.returns-in-Target
returns-in-Target c =
    let u = unit_view c.args.unit.now in
    let whole : LvalueTree → StackView = λ l. with_items (address_items u l) (standing u c.args.control.now.items) in
    let seen = Designates c.args.lvalue.now.place (view c.args.lvalue.now.ctype) c.args.lvalue.now.parens (tree.Target (term_tree c.deref.result.now)) in
    let is : lvalue_tree c.args.lvalue.now ≡ seen = search (rules, of_lvalue.the_lemmas, of_form.the_lemmas) in
    goes_on c.push_item-in-Target.result (standing u c.push_item-in-Target.new.control.items) (whole seen) (whole (lvalue_tree c.args.lvalue.now)) (ap whole (sym is)) (c.push_item-in-Target.ensures u)

pub returns-in-Copied : goal.returns-in-Copied
returns-in-Copied c =
    let u = unit_view c.args.unit.now in
    let whole : LvalueTree → StackView = λ l. with_items (address_items u l) (standing u c.args.control.now.items) in
    let seen = Designates c.args.lvalue.now.place (view c.args.lvalue.now.ctype) c.args.lvalue.now.parens (tree.Copied (lvalue_tree c.deref-in-Copied.result.now) (lvalue_tree c.deref-in-Copied-2.result.now)) in
    let is : lvalue_tree c.args.lvalue.now ≡ seen = search (rules, of_lvalue.the_lemmas, of_form.the_lemmas) in
    goes_on c.push_copied.result (standing u c.push_copied.new.control.items) (whole seen) (whole (lvalue_tree c.args.lvalue.now)) (ap whole (sym is)) (c.push_copied.ensures u)

pub returns-in-Then : goal.returns-in-Then
returns-in-Then c =
    let u = unit_view c.args.unit.now in
    let whole : LvalueTree → StackView = λ l. with_items (address_items u l) (standing u c.args.control.now.items) in
    let seen = Designates c.args.lvalue.now.place (view c.args.lvalue.now.ctype) c.args.lvalue.now.parens (tree.Then (term_tree c.deref-in-Then.result.now) (lvalue_tree c.deref-in-Then-2.result.now)) in
    let is : lvalue_tree c.args.lvalue.now ≡ seen = search (rules, of_lvalue.the_lemmas, of_form.the_lemmas) in
    goes_on c.push_then.result (standing u c.push_then.new.control.items) (whole seen) (whole (lvalue_tree c.args.lvalue.now)) (ap whole (sym is)) (c.push_then.ensures u)
