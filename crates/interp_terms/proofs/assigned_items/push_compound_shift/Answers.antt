use Rattle.c_layout.specs.CheckedTrees.{term_tree, lvalue_tree}
use Rattle.semantics.specs.SourceMachine.TermItems as spec
use Rattle.interp_stack.specs.StackViews.{standing}
use Rattle.interp_stack.proofs.Stacks.{dropped}
use Rattle.interp_terms.proofs.assigned_items.push_compound_shift.Goals as goal

pub returns : goal.returns
returns c = λ u. rw (c.in_ok-push_sides.ensures u, c.in_ok-push_do.ensures u, c.in_ok-push_on_lvalue.ensures u, c.in_ok-push_if_unused.ensures u) (dropped c.args.used (spec.compound_shift c.args.at c.args.back c.args.size (lvalue_tree c.args.target.now) (term_tree c.args.value.now)) (standing u c.args.control.now.items))
