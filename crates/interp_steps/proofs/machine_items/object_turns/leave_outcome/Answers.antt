use Rattle.std.proofs.Common.{sym, ap, ◌∙◌}
use Rattle.c_layout.specs.CheckedUnits.{unit_view}
use Rattle.semantics.specs.SourceMachine.ObjectSteps.{leave}
use Rattle.semantics.specs.SourceMachine.SourceStates.{if_some, result_object}
use Rattle.interp_steps.specs.MachineItems.MachineViews.{state_view}
use Rattle.interp_steps.proofs.machine_items.ToldTurns.{moves_same}
use Rattle.interp_steps.proofs.machine_items.object_turns.leave_outcome.Goals as goal

pub returns : goal.returns
returns c =
    let u = unit_view c.args.unit.now in
    let s = state_view u c.args.m.now in
    moves_same u _ _ c.leave_object.result c.leave_object.new.m
    (ap (leave s) c.in_ok-number.ensures.number ∙ ap (λ o. if_some s o (λ f. leave s (result_object f))) (sym c.in_ok-function_at.ensures))
    (c.leave_object.ensures u)
