use Rattle.std.proofs.Common.{map}
use Rattle.std.specs.Option.{option_map}
use Rattle.c_layout.specs.Types.{view}
use Rattle.c_layout.specs.CheckedTrees.{term_tree, term_trees}
use Rattle.lower_expressions.specs.Calls as calls
use Rattle.semantics.specs.SourceMachine.TermItems as spec
use Rattle.interp_stack.specs.StackViews.{standing}
use Rattle.interp_stack.proofs.Stacks.{left_dropped}
use Rattle.interp_terms.proofs.called_items.push_library.Goals as goal

pub returns : goal.returns
returns c = λ u. rw (c.in_ok-push_asked.ensures u, c.in_ok-push_if_unused.ensures u, c.is_kept.ensures, c.gives.ensures) (left_dropped (calls.gives c.args.function) c.args.used (spec.library_items c.args.at c.args.function (term_trees (map term_tree c.args.arguments.now)) (option_map view c.args.allocated.now)) (standing u c.args.control.now.items))
