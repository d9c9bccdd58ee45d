use Rattle.std.proofs.Common.{ap, sym}
use Rattle.c_layout.specs.CheckedTrees.{lvalue_tree}
use Rattle.lower_templates.specs.Worklist.TermKinds.{lvalue_at}
use Rattle.semantics.specs.SourceMachine.Items as machine
use Rattle.semantics.specs.SourceMachine.Operations as op
use Rattle.semantics.specs.SourceMachine.TermItems as spec
use Rattle.interp_stack.specs.StackViews.{with_item, with_items, standing}
use Rattle.interp_stack.proofs.Sequels.{goes_on}
use Rattle.interp_terms.proofs.assigned_items.push_store_step.Goals as goal

pub returns-then-keeps : goal.returns-then-keeps
returns-then-keeps c = λ u.
    let s = standing u c.args.control.now.items in
    let target = lvalue_tree c.args.target.now in
    goes_on c.push_on_lvalue.result (standing u c.push_on_lvalue.new.control.items) (with_item (machine.Do (lvalue_at target) (op.StoreOver c.args.kind)) s) (with_items (spec.store_step target c.args.kind c.args.keeps) s) (ap (λ keeps. with_items (spec.store_step target c.args.kind keeps) s) (sym c.if-keeps.true)) (c.push_on_lvalue.ensures u)

pub returns-else-keeps : goal.returns-else-keeps
returns-else-keeps c = λ u.
    let s = standing u c.args.control.now.items in
    let target = lvalue_tree c.args.target.now in
    goes_on c.push_on_lvalue-else-keeps.result (standing u c.push_on_lvalue-else-keeps.new.control.items) (with_item (machine.Do (lvalue_at target) (op.Store c.args.kind)) s) (with_items (spec.store_step target c.args.kind c.args.keeps) s) (ap (λ keeps. with_items (spec.store_step target c.args.kind keeps) s) (sym c.if-keeps.false)) (c.push_on_lvalue-else-keeps.ensures u)
