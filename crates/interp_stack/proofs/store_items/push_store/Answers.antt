use Rattle.std.proofs.Common.{[], ◌∷◌, ap, sym, ◌∙◌}
use Rattle.c_layout.specs.CheckedTrees.{term_tree}
use Rattle.lower_templates.specs.Worklist.TermKinds.{scalar_of}
use Rattle.semantics.specs.SourceMachine.Operations as op
use Rattle.semantics.specs.SourceMachine.Items as machine
use Rattle.interp_stack.specs.StackViews.{with_items, standing}
use Rattle.interp_stack.proofs.Trees.{type_of_term}
use Rattle.interp_stack.proofs.store_items.push_store.Goals as goal

pub returns : goal.returns
returns c = λ u. rw (c.in_ok-push_item-3.ensures u, c.in_ok-push_item-2.ensures u, c.in_ok-push_item.ensures u) (ap (λ k. with_items (machine.Value (term_tree c.args.value.now) ∷ (machine.Do c.args.at (op.Store k) ∷ (machine.Drop ∷ []))) (standing u c.args.control.now.items)) (c.scalar.ensures ∙ ap scalar_of (sym (type_of_term c.args.value.now))))
