use Rattle.std.proofs.Common.{◌≡◌, [], true, sym, ap, ◌∙◌, arith, rules}
use Rattle.std.proofs.lemmas.Grind.{common_steps}
use Rattle.std.proofs.lemmas.List.{append-nil, nil_from_length}
use Rattle.interp_stack.specs.StackViews.{StackView, standing}
use Rattle.interp_stack.proofs.Stacks.{stacked, standing_none}
use Rattle.interp_steps.proofs.machine_items.machines.next_item.Goals as goal

pub returns-then-not-is_silent : goal.returns-then-not-is_silent
returns-then-not-is_silent c = λ u.
    sym (c.loop-item.invariant u)
    ∙ ap (λ (s : StackView). s.items) (stacked u c.pop.new.self.items c.loop-item.control.items c.in-Some.item c.in-Some.ensures.items)

pub loop-item-preserved : goal.loop-item-preserved
loop-item-preserved c = λ u.
    let silent : c.is_silent.result ≡ true = search rules in
    sym (c.is_silent.ensures u (standing u c.pop.new.self.items) silent)
    ∙ sym (ap (λ (s : StackView). s.items) (stacked u c.pop.new.self.items c.loop-item.control.items c.in-Some.item c.in-Some.ensures.items))
    ∙ c.loop-item.invariant u

pub returns : goal.returns
returns c = λ u.
    let none : c.pop.new.self.items ≡ [] = nil_from_length c.pop.new.self.items (grind (arith, common_steps)) in
    let before : c.loop-item.control.items ≡ [] = c.in_default.ensures.items ∙ append-nil c.pop.new.self.items ∙ none in
    sym (c.loop-item.invariant u)
    ∙ ap (λ xs. (standing u xs).items) before
    ∙ ap (λ (s : StackView). s.items) (standing_none u)
