use Rattle.std.proofs.Common.{[], ◌∷◌, map, ap, ◌∙◌}
use Rattle.c_layout.specs.CheckedTrees.{term_tree, term_trees}
use Rattle.semantics.specs.SourceMachine.Items as machine
use Rattle.semantics.specs.SourceMachine.TermItems.{arguments, argument_count}
use Rattle.interp_stack.specs.StackViews.{with_item, with_items, standing}
use Rattle.interp_stack.proofs.Stacks.{with_again}
use Rattle.interp_terms.proofs.Calls.{count_is}
use Rattle.interp_terms.proofs.called_items.push_invoked.Goals as goal

pub returns : goal.returns
returns c = λ u.
    let s = standing u c.args.control.now.items in
    let terms = term_trees (map term_tree c.args.arguments.now) in
    rw (c.in_ok-push_item-2.ensures u, c.in_ok-push_item.ensures u)
    (ap (λ n. with_items (arguments terms) (with_item (machine.Invoke c.args.at c.args.function n c.args.is_used) s)) (count_is c.args.arguments.now)
    ∙ with_again (arguments terms) (machine.Invoke c.args.at c.args.function (argument_count terms) c.args.is_used ∷ []) s)
