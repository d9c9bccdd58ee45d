use Rattle.std.proofs.Common.{ap, sym}
use Rattle.c_layout.specs.CheckedTrees.{term_tree}
use Rattle.interp_stack.specs.StackViews.{on_logical, on_term, standing}
use Rattle.interp_stack.specs.declared.items.Use7.TheVariants as use_of
use Rattle.interp_stack.proofs.Sequels.{goes_on}
use Rattle.interp_stack.proofs.condition_items.push_logical.Goals as goal

pub returns-in-And : goal.returns-in-And
returns-in-And c = λ u.
    let s = standing u c.args.control.now.items in
    let e = term_tree c.args.right.now in
    goes_on c.push_item.result (standing u c.push_item.new.control.items) (on_term u (use_of.AndThen c.args.is_test) e s) (on_logical u c.args.op c.args.is_test e s) (ap (λ op. on_logical u op c.args.is_test e s) (sym c.in-And.is)) (c.push_item.ensures u)

pub returns-in-Or : goal.returns-in-Or
returns-in-Or c = λ u.
    let s = standing u c.args.control.now.items in
    let e = term_tree c.args.right.now in
    goes_on c.push_item-in-Or.result (standing u c.push_item-in-Or.new.control.items) (on_term u (use_of.OrElse c.args.is_test) e s) (on_logical u c.args.op c.args.is_test e s) (ap (λ op. on_logical u op c.args.is_test e s) (sym c.in-Or.is)) (c.push_item-in-Or.ensures u)
