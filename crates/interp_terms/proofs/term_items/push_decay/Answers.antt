use Rattle.std.proofs.Common.{[], ◌∷◌}
use Rattle.c_layout.specs.CheckedTrees.{lvalue_tree}
use Rattle.c_layout.specs.CheckedUnits.{unit_view}
use Rattle.lower_templates.specs.Worklist.TermKinds.{lvalue_at, lvalue_type}
use Rattle.semantics.specs.SourceMachine.Items as machine
use Rattle.semantics.specs.SourceMachine.Operations as op
use Rattle.interp_stack.specs.StackViews.{standing}
use Rattle.interp_stack.proofs.Stacks.{dropped}
use Rattle.interp_terms.proofs.term_items.push_decay.Goals as goal

pub returns : goal.returns
returns c = rw (c.in_ok-push_at.ensures (unit_view c.args.unit.now), c.in_ok-push_if_unused.ensures (unit_view c.args.unit.now), c.in_ok-size.ensures) (dropped c.args.used (machine.Address (lvalue_tree c.args.lvalue.now) ∷ (machine.Do (lvalue_at (lvalue_tree c.args.lvalue.now)) (op.Narrow 0 (op.size_of (unit_view c.args.unit.now) (lvalue_type (lvalue_tree c.args.lvalue.now)))) ∷ [])) (standing (unit_view c.args.unit.now) c.args.control.now.items))
