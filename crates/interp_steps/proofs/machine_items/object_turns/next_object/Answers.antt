use Rattle.std.proofs.Common.{◌≡◌, [], ◌++◌, sym, ap, ◌∙◌, arith}
use Rattle.std.proofs.lemmas.Grind.{common_steps}
use Rattle.std.proofs.lemmas.List.{append-nil, nil_from_length}
use Rattle.std.proofs.lemmas.Result.{IfOk-weaker}
use Rattle.c_layout.specs.CheckedUnits.{UnitView}
use Rattle.lower_functions.specs.Functions.Functions.{numbers_from}
use Rattle.interp_stack.specs.StackViews.{StackView, on_item, standing}
use Rattle.interp_stack.proofs.Stacks.{stacked, standing_none}
use Rattle.interp_steps.specs.MachineItems.MachineViews.{with_next}
use Rattle.interp_steps.proofs.machine_items.Entries.{kept_objects, kept_items}
use Rattle.interp_steps.proofs.machine_items.object_turns.next_object.Goals as goal

pub returns-in-Also-clause-objects : goal.returns-in-Also-clause-objects
returns-in-Also-clause-objects c = λ u.
    sym (c.loop-item.invariant u).0
    ∙ ap (λ (s : StackView). s.objects) (stacked u c.pop.new.self.items c.loop-item.control.items c.in-Some.item c.in-Some.ensures.items)
    ∙ ap (λ i. (on_item u i (standing u c.pop.new.self.items)).objects) c.in-Also.is

pub returns-in-Also-clause-items : goal.returns-in-Also-clause-items
returns-in-Also-clause-items c = λ u.
    sym (c.loop-item.invariant u).1
    ∙ ap (λ (s : StackView). s.items) (stacked u c.pop.new.self.items c.loop-item.control.items c.in-Some.item c.in-Some.ensures.items)
    ∙ ap (λ i. (on_item u i (standing u c.pop.new.self.items)).items) c.in-Also.is

pub returns-then-count-gt0-clause-objects : goal.returns-then-count-gt0-clause-objects
returns-then-count-gt0-clause-objects c = λ u.
    let s = standing u c.pop.new.self.items in
    let e : (standing u c.args.control.now.items).objects ≡ numbers_from c.in-AlsoFrom.from c.in-AlsoFrom.count ++ s.objects =
    sym (c.loop-item.invariant u).0
    ∙ ap (λ (s : StackView). s.objects) (stacked u c.pop.new.self.items c.loop-item.control.items c.in-Some.item c.in-Some.ensures.items)
    ∙ ap (λ i. (on_item u i s).objects) c.in-AlsoFrom.is in
    IfOk-weaker c.first_of.result (λ next. numbers_from c.in-AlsoFrom.from c.in-AlsoFrom.count ++ s.objects ≡ with_next next (standing u c.first_of.new.control.items).objects) (λ next. (standing u c.args.control.now.items).objects ≡ with_next next (standing u c.first_of.new.control.items).objects) (λ next p. e ∙ p) (c.first_of.ensures.objects u)

pub returns-then-count-gt0-clause-items : goal.returns-then-count-gt0-clause-items
returns-then-count-gt0-clause-items c = λ u.
    let s = standing u c.pop.new.self.items in
    let e : (standing u c.args.control.now.items).items ≡ s.items =
    sym (c.loop-item.invariant u).1
    ∙ ap (λ (s : StackView). s.items) (stacked u c.pop.new.self.items c.loop-item.control.items c.in-Some.item c.in-Some.ensures.items)
    ∙ ap (λ i. (on_item u i s).items) c.in-AlsoFrom.is in
    IfOk-weaker c.first_of.result (λ _. s.items ≡ (standing u c.first_of.new.control.items).items) (λ _. (standing u c.args.control.now.items).items ≡ (standing u c.first_of.new.control.items).items) (λ next p. e ∙ p) (c.first_of.ensures.items u)

pub loop-item-preserved : goal.loop-item-preserved
loop-item-preserved c = λ u.
    let s = standing u c.pop.new.self.items in
    let none : c.in-AlsoFrom.count ≡ 0 = omega arith in
    let up = stacked u c.pop.new.self.items c.loop-item.control.items c.in-Some.item c.in-Some.ensures.items in (
      sym (ap (λ (t : StackView). t.objects) up ∙ ap (λ i. (on_item u i s).objects) c.in-AlsoFrom.is ∙ ap (λ n. numbers_from c.in-AlsoFrom.from n ++ s.objects) none) ∙ (c.loop-item.invariant u).0,
      sym (ap (λ (t : StackView). t.items) up ∙ ap (λ i. (on_item u i s).items) c.in-AlsoFrom.is) ∙ (c.loop-item.invariant u).1,
    )

pub returns-in_default-item : goal.returns-in_default-item
returns-in_default-item c =
    let is = λ (u : UnitView). stacked u c.pop.new.self.items c.loop-item.control.items c.in-Some.item c.in-Some.ensures.items in
    record {
      objects = λ u. kept_objects c.put_back.result (standing u c.args.control.now.items).objects (on_item u c.in-Some.item (standing u c.pop.new.self.items)) (standing u c.put_back.new.control.items) (sym (c.loop-item.invariant u).0 ∙ ap (λ (s : StackView). s.objects) (is u)) c.put_back.ensures.ok (c.put_back.ensures.objects u);
      items = λ u. kept_items c.put_back.result (standing u c.args.control.now.items).items (on_item u c.in-Some.item (standing u c.pop.new.self.items)) (standing u c.put_back.new.control.items) (sym (c.loop-item.invariant u).1 ∙ ap (λ (s : StackView). s.items) (is u)) (c.put_back.ensures.items u);
      memory = c.put_back.ensures.memory;
    }

pub returns-clause-objects : goal.returns-clause-objects
returns-clause-objects c = λ u.
    let none : c.pop.new.self.items ≡ [] = nil_from_length c.pop.new.self.items (grind (arith, common_steps)) in
    let before : c.loop-item.control.items ≡ [] = c.in_default.ensures.items ∙ append-nil c.pop.new.self.items ∙ none in
    sym (c.loop-item.invariant u).0
    ∙ ap (λ xs. (standing u xs).objects) before
    ∙ ap (λ (s : StackView). s.objects) (standing_none u)
