use Rattle.std.proofs.Common.{[], ◌∷◌, map, ap, ◌∙◌}
use Rattle.c_layout.specs.CheckedTrees.{term_tree, term_trees}
use Rattle.c_layout.specs.Types.{view}
use Rattle.std.specs.Option.{option_map}
use Rattle.semantics.specs.SourceMachine.Items as machine
use Rattle.semantics.specs.SourceMachine.Operations as op
use Rattle.semantics.specs.SourceMachine.TermItems.{arguments, argument_count}
use Rattle.interp_stack.specs.ItemViews.{type_seen}
use Rattle.interp_stack.specs.StackViews.{with_item, with_items, standing}
use Rattle.interp_stack.proofs.Stacks.{with_again}
use Rattle.interp_terms.proofs.Calls.{count_is}
use Rattle.interp_terms.proofs.called_items.push_asked.Goals as goal

pub returns : goal.returns
returns c = λ u.
    let s = standing u c.args.control.now.items in
    let terms = term_trees (map term_tree c.args.arguments.now) in
    let target = option_map view c.args.allocated.now in
    rw (c.in_ok-push_item.ensures u, c.in_ok-push_do.ensures u)
    (ap (λ n. with_items (arguments terms) (with_item (machine.Do c.args.at (op.Library c.args.function n (type_seen c.allocated_type-target.result))) s)) (count_is c.args.arguments.now)
    ∙ ap (λ t. with_items (arguments terms) (with_item (machine.Do c.args.at (op.Library c.args.function (argument_count terms) t)) s)) c.allocated_type-target.ensures
    ∙ with_again (arguments terms) (machine.Do c.args.at (op.Library c.args.function (argument_count terms) target) ∷ []) s)
