use Rattle.std.proofs.Common.{◌≡◌, ◌-◌, ◌<◌, ◌++◌, take, sym, ap, ◌∙◌, arith}
use Rattle.lower_functions.specs.Functions.Functions.{numbers_from}
use Rattle.interp_stack.specs.StackViews.{StackView, standing}
use Rattle.interp_stack.proofs.Stacks.{standing_none}
use Rattle.interp_stack.specs.declared.items.Item7.TheVariants as held
use Rattle.interp_steps.specs.MachineItems.Asked.{first_of}
use Rattle.interp_steps.proofs.machine_items.Entries.{entry_is, entry_below, first_number}
use Rattle.interp.proofs.machine.sizes.first_below.Goals as goal

pub returns-in-Also-clause-first : goal.returns-in-Also-clause-first
returns-in-Also-clause-first c = λ u.
    sym (ap first_of (sym (c.back.invariant.1 u) ∙ ap (λ (s : StackView). s.objects) (entry_is u c.args.control.now c.back.k _ (held.Also c.in-Also.object) c.back-test.true c.back.invariant.0 c.in-Also.is)))

pub returns-then-count-gt0-clause-first : goal.returns-then-count-gt0-clause-first
returns-then-count-gt0-clause-first c = λ u.
    let s = standing u (take (c.back.k - 1) c.args.control.now) in
    let positive : 0 < c.in-AlsoFrom.count = omega arith in
    sym (ap first_of (sym (c.back.invariant.1 u) ∙ ap (λ (t : StackView). t.objects) (entry_is u c.args.control.now c.back.k _ (held.AlsoFrom c.in-AlsoFrom.from c.in-AlsoFrom.count) c.back-test.true c.back.invariant.0 c.in-AlsoFrom.is)) ∙ first_number c.in-AlsoFrom.from c.in-AlsoFrom.count s.objects positive)

pub back-preserved : goal.back-preserved
back-preserved c = (
  omega arith,
  λ u.
      let none : c.in-AlsoFrom.count ≡ 0 = omega arith in
      let s = standing u (take (c.back.k - 1) c.args.control.now) in
      sym (ap (λ (t : StackView). t.objects) (entry_is u c.args.control.now c.back.k _ (held.AlsoFrom c.in-AlsoFrom.from c.in-AlsoFrom.count) c.back-test.true c.back.invariant.0 c.in-AlsoFrom.is) ∙ ap (λ n. numbers_from c.in-AlsoFrom.from n ++ s.objects) none)
      ∙ c.back.invariant.1 u,
)

pub returns-then-ends_objects : goal.returns-then-ends_objects
returns-then-ends_objects c = record {
  first = λ u.
      let s = standing u (take (c.back.k - 1) c.args.control.now) in
      sym (ap first_of (sym (c.back.invariant.1 u) ∙ ap (λ (t : StackView). t.objects) (entry_below u c.args.control.now c.back.k c.other-item.result c.back-test.true c.back.invariant.0 c.other-item.is) ∙ c.ends_objects.ensures u s c.if-ends_objects.true));
  memory = tt;
}

pub returns-clause-first : goal.returns-clause-first
returns-clause-first c = λ u.
    let none : c.back.k ≡ 0 = omega arith in
    sym (ap first_of (sym (c.back.invariant.1 u) ∙ ap (λ n. (standing u (take n c.args.control.now)).objects) none ∙ ap (λ (s : StackView). s.objects) (standing_none u)))
