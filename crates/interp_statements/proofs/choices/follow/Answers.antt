use Rattle.std.proofs.Common.{arith, MatchOption, vec_len, length, ◌+◌, ◌≡◌, Bool, Option, None, refl, ap, sym, subst, ◌∙◌}
use Rattle.interp_stack.specs.StackViews.{nothing_left, on_item, standing}
use Rattle.interp_stack.specs.declared.items.Item7.{Item7}
use Rattle.interp_stack.proofs.Stacks.{stacked, standing_none}
use Rattle.interp_stack.proofs.Objects.{no_items, no_item}
use Rattle.interp_statements.specs.Choices.{followed, IsMet}
use Rattle.interp_statements.proofs.Ends.{no_followed}
use Rattle.interp_statements.proofs.choices.follow.Goals as goal

pub loop-item-preserved : goal.loop-item-preserved
loop-item-preserved c = λ u.
    let held = c.loop-item.held in
    let before = on_item u c.in-Some.item (standing u c.pop.new.self.items) in
    let family : Option Bool → Type 0 = λ found. IsMet u (followed held before) c.meet.new.control.items found in
    let met : followed c.in-Some-2.other (standing u c.meet.new.control.items) ≡ followed held before = subst family c.in-Some-2.is (c.in_ok-other.ensures.met u) in
    met ∙ ap (followed held) (sym (stacked u c.pop.new.self.items c.loop-item.control.items c.in-Some.item c.in-Some.ensures.items)) ∙ c.loop-item.invariant u

pub returns-in-None : goal.returns-in-None
returns-in-None c = λ u.
    let held = c.loop-item.held in
    let before = on_item u c.in-Some.item (standing u c.pop.new.self.items) in
    let family : Option Bool → Type 0 = λ found. IsMet u (followed held before) c.meet.new.control.items found in
    let met : (standing u c.meet.new.control.items).items ≡ followed held before = subst family c.in-None.is (c.in_ok-other.ensures.met u) in
    met ∙ ap (followed held) (sym (stacked u c.pop.new.self.items c.loop-item.control.items c.in-Some.item c.in-Some.ensures.items)) ∙ c.loop-item.invariant u

pub returns : goal.returns
returns c = λ u.
    let held = c.loop-item.held in
    let none : c.pop.result ≡ None = no_item c.pop.result c.in_default.not-Some in
    let is_empty : Option Item7 → Type 0 = λ o. MatchOption o ((vec_len c.loop-item.control ≡ 0) × (vec_len c.pop.new.self ≡ 0)) (λ _. vec_len c.pop.new.self + 1 ≡ vec_len c.loop-item.control) in
    let empty : (vec_len c.loop-item.control ≡ 0) × (vec_len c.pop.new.self ≡ 0) = subst is_empty none c.pop.ensures.cases in
    let now : length c.pop.new.self.items ≡ 0 = omega arith in
    let before : length c.loop-item.control.items ≡ 0 = omega arith in
    ap (λ xs. (standing u xs).items) (no_items c.pop.new.self.items now)
    ∙ ap (λ s. s.items) (standing_none u)
    ∙ sym (ap (λ xs. followed held (standing u xs)) (no_items c.loop-item.control.items before) ∙ ap (followed held) (standing_none u) ∙ no_followed held nothing_left (refl, refl))
    ∙ c.loop-item.invariant u
