use Rattle.std.proofs.Common.{true, false, ap, sym, ◌∙◌}
use Rattle.c_layout.specs.CheckedTrees.{term_tree}
use Rattle.semantics.specs.SourceMachine.ConditionItems.{choice_of, truth_of}
use Rattle.interp_stack.specs.StackViews.{StackView, following, standing}
use Rattle.interp_stack.proofs.Sequels.{goes_on}
use Rattle.interp_terms.specs.Decided.{decided}
use Rattle.interp_terms.proofs.term_items.push_later.Goals as goal

pub returns-in_ok-push_item-in-And : goal.returns-in_ok-push_item-in-And
returns-in_ok-push_item-in-And c = λ u.
    let s = standing u c.args.control.now.items in
    let right = term_tree c.args.right.now in
    let next : StackView → StackView = λ s. following (choice_of right (truth_of true) (truth_of false)) s in
    goes_on c.push_item-in-And.result (standing u c.push_item-in-And.new.control.items) (next (standing u c.push_item.new.control.items)) (decided c.args.op right s) (ap next (c.in_ok-push_item-in-And.ensures u) ∙ ap (λ op. decided op right s) (sym c.in-And.is)) (c.push_item-in-And.ensures u)

pub returns-in_ok-push_item-in-Or : goal.returns-in_ok-push_item-in-Or
returns-in_ok-push_item-in-Or c = λ u.
    let s = standing u c.args.control.now.items in
    let right = term_tree c.args.right.now in
    let next : StackView → StackView = λ s. following (truth_of true) s in
    goes_on c.push_item-in-Or-2.result (standing u c.push_item-in-Or-2.new.control.items) (next (standing u c.push_item-in-Or.new.control.items)) (decided c.args.op right s) (ap next (c.in_ok-push_item-in-Or.ensures u) ∙ ap (λ op. decided op right s) (sym c.in-Or.is)) (c.push_item-in-Or-2.ensures u)
