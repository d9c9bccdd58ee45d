use Rattle.c_layout.specs.CheckedTrees.{term_tree, lvalue_tree}
use Rattle.lower_templates.specs.Worklist.TermKinds.{meaning}
use Rattle.semantics.specs.SourceMachine.TermItems as spec
use Rattle.interp_stack.specs.StackViews.{standing}
use Rattle.interp_stack.proofs.Stacks.{dropped}
use Rattle.interp_terms.proofs.assigned_items.push_compound.Goals as goal

pub returns : goal.returns
returns c = λ u. rw (c.in_ok-push_compound_value.ensures u, c.in_ok-push_if_unused.ensures u) (dropped c.args.used (spec.compound c.args.at (meaning c.args.op) c.args.kind (lvalue_tree c.args.target.now) (term_tree c.args.value.now)) (standing u c.args.control.now.items))
