use Rattle.std.proofs.Common.{[], map, reverse, sym, ap, ◌∙◌}
use Rattle.c_layout.specs.CheckedUnits.{unit_view, function_view}
use Rattle.semantics.specs.SourceMachine.CallSteps.{behind_body}
use Rattle.semantics.specs.SourceMachine.ObjectSteps.{on}
use Rattle.semantics.specs.SourceMachine.SourceStates.{if_some}
use Rattle.interp_stack.specs.StackViews.{StackView, added, standing}
use Rattle.interp_stack.proofs.Stacks.{standing_none}
use Rattle.interp_steps.specs.MachineItems.MachineViews.{frame_view, state_view}
use Rattle.interp_steps.proofs.machine_items.Entries.{added_none}
use Rattle.interp_steps.proofs.machine_items.call_turns.end_body.Goals as goal

pub returns-in-Ok : goal.returns-in-Ok
returns-in-Ok c =
    let u = unit_view c.args.unit.now in
    let s = state_view u c.args.m.now in
    let f = function_view c.in_ok-function.function.now in
    let items = behind_body f [] s.frames in
    ap (λ o. if_some s o (λ g. on (record s { control = behind_body g [] s.frames }))) c.in_ok-function.ensures
    ∙ ap (λ is. on (record s { control = is }))
    (sym (ap (λ (t : StackView). t.items) (c.in-Ok.ensures u)
    ∙ ap (λ fs. (added (behind_body f [] (reverse (map (frame_view u) fs))) (standing u c.clear.new.self.items)).items) c.as_slice.ensures.value
    ∙ ap (λ (t : StackView). (added items t).items) (ap (standing u) c.clear.ensures.items ∙ standing_none u)
    ∙ added_none items))
