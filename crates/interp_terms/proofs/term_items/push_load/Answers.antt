use Rattle.std.proofs.Common.{[], ◌∷◌}
use Rattle.c_layout.specs.CheckedTrees.{lvalue_tree}
use Rattle.lower_templates.specs.Worklist.TermKinds.{lvalue_at, lvalue_type, scalar_of}
use Rattle.semantics.specs.SourceMachine.Items as machine
use Rattle.semantics.specs.SourceMachine.Operations as op
use Rattle.interp_stack.specs.StackViews.{standing}
use Rattle.interp_stack.proofs.Stacks.{dropped}
use Rattle.interp_terms.proofs.term_items.push_load.Goals as goal

pub returns : goal.returns
returns c = λ u. rw (c.in_ok-push_at.ensures u, c.in_ok-push_if_unused.ensures u, c.kind_of_lvalue.ensures) (dropped c.args.used (machine.Address (lvalue_tree c.args.lvalue.now) ∷ (machine.Do (lvalue_at (lvalue_tree c.args.lvalue.now)) (op.Load (scalar_of (lvalue_type (lvalue_tree c.args.lvalue.now)))) ∷ [])) (standing u c.args.control.now.items))
