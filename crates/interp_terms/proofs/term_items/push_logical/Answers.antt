use Rattle.std.proofs.Common.{◌∙◌}
use Rattle.c_layout.specs.CheckedTrees.{term_tree}
use Rattle.semantics.specs.SourceMachine.ConditionItems as spec
use Rattle.interp_stack.specs.StackViews.{standing, unless_used}
use Rattle.interp_stack.proofs.Stacks.{dropped}
use Rattle.interp_terms.proofs.Branches.{logical_is}
use Rattle.interp_terms.proofs.term_items.push_logical.Goals as goal

pub returns : goal.returns
returns c = λ u.
    let before = standing u c.args.control.now.items in
    let left = term_tree c.args.left.now in
    let right = term_tree c.args.right.now in
    rw (c.in_ok-push_item-2.ensures u, c.in_ok-push_item.ensures u, c.in_ok-push_later.ensures u, c.in_ok-push_if_unused.ensures u)
    (logical_is c.args.op left right (unless_used c.args.used before) ∙ dropped c.args.used (spec.logical c.args.op left right) before)
