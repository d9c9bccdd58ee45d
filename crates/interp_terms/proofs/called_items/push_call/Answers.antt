use Rattle.std.proofs.Common.{[], ◌∷◌, ◌++◌, map}
use Rattle.c_layout.specs.CheckedTrees.{term_tree, term_trees}
use Rattle.semantics.specs.SourceMachine.Items as machine
use Rattle.semantics.specs.SourceMachine.TermItems as spec
use Rattle.interp_stack.specs.StackViews.{standing}
use Rattle.interp_stack.proofs.Stacks.{left_dropped}
use Rattle.interp_terms.proofs.called_items.push_call.Goals as goal

pub returns : goal.returns
returns c = λ u. rw (c.in_ok-push_invoked.ensures u, c.in_ok-push_if_unused.ensures u, c.is_kept.ensures) (left_dropped c.args.is_used c.args.used (spec.arguments (term_trees (map term_tree c.args.arguments.now)) ++ machine.Invoke c.args.at c.args.function (spec.argument_count (term_trees (map term_tree c.args.arguments.now))) c.args.is_used ∷ []) (standing u c.args.control.now.items))
