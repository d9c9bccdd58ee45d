use Rattle.c_layout.specs.CheckedTrees.{lvalue_tree}
use Rattle.lower_expressions.specs.Assignments as assignments
use Rattle.semantics.specs.SourceMachine.TermItems as spec
use Rattle.interp_stack.specs.StackViews.{standing}
use Rattle.interp_stack.proofs.Stacks.{dropped}
use Rattle.interp_terms.proofs.assigned_items.push_pointer_step.Goals as goal

pub returns : goal.returns
returns c = λ u. rw (c.in_ok-push_moved.ensures u, c.in_ok-push_if_unused.ensures u, c.keeps_old.ensures) (dropped c.args.used (spec.pointer_step c.args.at c.args.op c.args.size (lvalue_tree c.args.target.now) (assignments.keeps_old c.args.time c.args.used)) (standing u c.args.control.now.items))
