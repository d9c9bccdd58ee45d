use Rattle.std.proofs.Common.{◌≡◌, [], ◌∷◌, ◌++◌, ◌+◌, length, Option, None, MatchOption, vec_len, subst, ap, sym, ◌∙◌, arith}
use Rattle.semantics.specs.SourceMachine.Scopes.{past_loop}
use Rattle.interp_stack.specs.StackViews.{standing}
use Rattle.interp_stack.specs.declared.items.Item7.{Item7}
use Rattle.interp_stack.specs.declared.items.Item7.TheVariants as held
use Rattle.interp_stack.proofs.Entries.{entry_loop}
use Rattle.interp_stack.proofs.Objects.{no_items, no_item}
use Rattle.interp_stack.proofs.Stacks.{stacked, standing_none}
use Rattle.interp_stack.proofs.scopes.drop_loop.Goals as goal

pub returns-in-LoopEnd : goal.returns-in-LoopEnd
returns-in-LoopEnd c = λ u.
    let is : c.loop-item.control.items ≡ c.pop.new.self.items ++ held.LoopEnd ∷ [] = c.in-Some.ensures.items ∙ ap (λ i. c.pop.new.self.items ++ i ∷ []) c.in-LoopEnd.is in
    sym (ap (λ s. past_loop s.items) (stacked u c.pop.new.self.items c.loop-item.control.items held.LoopEnd is)) ∙ c.loop-item.invariant u

pub loop-item-preserved : goal.loop-item-preserved
loop-item-preserved c = λ u.
    sym (entry_loop u c.in-Some.item (standing u c.pop.new.self.items) c.in_default-item.not-LoopEnd)
    ∙ sym (ap (λ s. past_loop s.items) (stacked u c.pop.new.self.items c.loop-item.control.items c.in-Some.item c.in-Some.ensures.items))
    ∙ c.loop-item.invariant u

pub returns : goal.returns
returns c = λ u.
    let none : c.pop.result ≡ None = no_item c.pop.result c.in_default.not-Some in
    let is_empty : Option Item7 → Type 0 = λ o. MatchOption o ((vec_len c.loop-item.control ≡ 0) × (vec_len c.pop.new.self ≡ 0)) (λ _. vec_len c.pop.new.self + 1 ≡ vec_len c.loop-item.control) in
    let empty : (vec_len c.loop-item.control ≡ 0) × (vec_len c.pop.new.self ≡ 0) = subst is_empty none c.pop.ensures.cases in
    let now : length c.pop.new.self.items ≡ 0 = omega arith in
    let before : length c.loop-item.control.items ≡ 0 = omega arith in
    ap (λ xs. (standing u xs).items) (no_items c.pop.new.self.items now)
    ∙ ap (λ s. s.items) (standing_none u)
    ∙ sym (ap (λ xs. past_loop (standing u xs).items) (no_items c.loop-item.control.items before) ∙ ap (λ s. past_loop s.items) (standing_none u))
    ∙ c.loop-item.invariant u
