use Rattle.std.proofs.Common.{◌≡◌, Some, refl, sym, ap, ◌∙◌}
use Rattle.std.proofs.lemmas.Result.{err_from_is_err_and}
use Rattle.cc_base.specs.declared.integer_operators.Rel.{Rel}
use Rattle.c_layout.specs.CheckedUnits.{unit_view}
use Rattle.memory_model.specs.Effects.Tests.{TestedSide, SideTest, object, pass_test}
use Rattle.memory_model.specs.Effects.Worlds.{Reply}
use Rattle.interp_operators.specs.Tests.SideViews.{side_view}
use Rattle.semantics.specs.SourceMachine.BranchSteps as machine
use Rattle.semantics.specs.SourceMachine.SourceStates.{State}
use Rattle.interp_stack.specs.TestViews as tests
use Rattle.interp_steps.specs.MachineItems.MachineViews.{state_view}
use Rattle.interp_steps.proofs.machine_items.ToldTurns.{moves_same, moves_stuck, moves_in_world, named_there, named_lost, side_there, side_lost}
use Rattle.interp.proofs.machine.branch_turns.testing.Goals as goal

pub returns-in_err-left : goal.returns-in_err-left
returns-in_err-left c =
    let u = unit_view c.args.unit.now in
    let s = state_view u c.args.m.now in
    let lost = c.in_err-left.ensures u in
    let p = err_from_is_err_and c.from_residual.result c.from_residual.ensures.1 in
    let reply = machine.testing u s (Some (tests.test_view c.args.test)) c.args.held in
    record {
      control = refl;
      moves = rw (p.1, p.2) (moves_stuck u s reply c.in_err-left.field-0.0 c.args.m.now lost.0 (named_lost s c.args.test.left.object _ lost.1) refl);
    }

pub returns-in_err-right : goal.returns-in_err-right
returns-in_err-right c =
    let u = unit_view c.args.unit.now in
    let s = state_view u c.args.m.now in
    let lost = c.in_err-right.ensures u in
    let p = err_from_is_err_and c.from_residual-in_err-right.result c.from_residual-in_err-right.ensures.1 in
    let reply = machine.testing u s (Some (tests.test_view c.args.test)) c.args.held in
    let then : TestedSide → TestedSide → Reply State = λ x y. machine.in_world s (pass_test u.model (record { left = x; rel = machine.relation_on c.args.held c.args.test.rel; right = y; common = c.args.test.common }) s.world) in
    let left = side_view c.in_ok-left.left in
    record {
      control = refl;
      moves = rw (p.1, p.2) (moves_stuck u s reply c.in_err-right.field-0.0 c.args.m.now lost.0
          (named_there s c.args.test.left.object (λ i. object i c.args.test.left.kind) (λ x. machine.with_side s (tests.side_view c.args.test.right) (then x)) left (c.in_ok-left.ensures u) ∙ side_lost s (tests.side_view c.args.test.right) (then left) lost.1)
          refl);
    }

pub returns : goal.returns
returns c =
    let u = unit_view c.args.unit.now in
    let s = state_view u c.args.m.now in
    let left = side_view c.in_ok-left.left in
    let right = side_view c.in_ok-right.right in
    let m = record c.args.m.now { world = c.pass_test.new.w } in
    let rel = machine.relation_on c.args.held c.args.test.rel in
    let passed : Rel → TestedSide → TestedSide → Reply State = λ r x y. machine.in_world s (pass_test u.model (record { left = x; rel = r; right = y; common = c.args.test.common }) s.world) in
    let reply = machine.testing u s (Some (tests.test_view c.args.test)) c.args.held in
    let there : reply ≡ passed rel left right =
    named_there s c.args.test.left.object (λ i. object i c.args.test.left.kind) (λ x. machine.with_side s (tests.side_view c.args.test.right) (passed rel x)) left (c.in_ok-left.ensures u)
    ∙ side_there s (tests.side_view c.args.test.right) (passed rel left) right (c.in_ok-right.ensures u) in
    let test : SideTest = record { left = left; rel = c.relation_on.result; right = right; common = c.args.test.common } in
    record {
      control = refl;
      moves = moves_same u (passed c.relation_on.result left right) reply c.pass_test.result m (ap (λ r. passed r left right) c.relation_on.ensures ∙ sym there)
          (moves_in_world u s (pass_test u.model test s.world) c.pass_test.result m refl c.pass_test.ensures);
    }
