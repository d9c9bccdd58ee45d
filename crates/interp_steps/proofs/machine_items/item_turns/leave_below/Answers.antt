use Rattle.std.proofs.Common.{◌≡◌, [], ◌∷◌, refl, sym, ap, ◌∙◌, Ok, Some, None}
use Rattle.c_layout.specs.CheckedUnits.{unit_view}
use Rattle.semantics.specs.SourceMachine.Items as item
use Rattle.semantics.specs.SourceMachine.ObjectSteps.{on, leave}
use Rattle.semantics.specs.SourceMachine.SourceStates.{first_do}
use Rattle.semantics.specs.SourceMachine.SourceSteps.{leave_all}
use Rattle.interp_stack.specs.StackViews.{StackView, standing}
use Rattle.interp_steps.specs.MachineItems.MachineViews.{state_view, with_next}
use Rattle.interp_steps.proofs.machine_items.ToldTurns.{turns_by, turns_same, moves_same, leaves_none}
use Rattle.interp_steps.proofs.machine_items.item_turns.leave_below.Goals as goal

pub returns-in-Ok-None : goal.returns-in-Ok-None
returns-in-Ok-None c =
    let u = unit_view c.args.unit.now in
    let s = state_view u c.args.m.now in
    let now = standing u c.next_object.new.control.items in
    let m = record c.args.m.now { control = c.next_object.new.control } in
    turns_same u (record { reply = on s; counted = None }) _ c.quiet.result m
    (sym (leaves_none u s (standing u c.args.m.now.control.items).objects (c.in-Ok-None.ensures.objects u ∙ ap (λ next. with_next next now.objects) c.in-Ok-None.field-0-is)))
    (turns_by u (record { reply = on s; counted = None }) c.quiet.result m (Ok tt) None c.quiet.ensures
    (ap (λ items. on (record s { control = items })) (c.in-Ok-None.ensures.items u)) refl)

pub returns-in-Ok : goal.returns-in-Ok
returns-in-Ok c =
    let u = unit_view c.args.unit.now in
    let s = state_view u c.args.m.now in
    let old = standing u c.args.m.now.control.items in
    let now = standing u c.next_object.new.control.items in
    let n = c.in-Ok-Some.object in
    let m = record c.args.m.now { control = c.push_item.new.control } in
    let first : old.objects ≡ n ∷ now.objects = c.in-Ok-Some.ensures.objects u ∙ ap (λ next. with_next next now.objects) c.in-Ok-Some.field-0-is in
    let state : state_view u m ≡ first_do (item.Leaves now.objects ∷ []) s =
    ap (λ items. record s { control = items }) (ap (λ (t : StackView). t.items) (c.in-Ok.ensures u) ∙ ap (λ items. item.Leaves now.objects ∷ items) (sym (c.in-Ok-Some.ensures.items u))) in
    turns_same u (leave_all u s (n ∷ now.objects)) (leave_all u s old.objects) c.step.result c.leave_object.new.m (sym (ap (leave_all u s) first))
    (turns_by u (leave_all u s (n ∷ now.objects)) c.step.result c.leave_object.new.m c.leave_object.result (Some c.own_place-at.result) c.step.ensures
    (moves_same u (leave (state_view u m) n) (leave (first_do (item.Leaves now.objects ∷ []) s) n) c.leave_object.result c.leave_object.new.m (ap (λ z. leave z n) state) (c.leave_object.ensures u))
    (ap (λ at. Some at) (sym c.own_place-at.ensures)))
