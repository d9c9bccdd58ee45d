use Rattle.std.proofs.Common.{refl, sym, ap, ◌∙◌, Ok, None}
use Rattle.c_layout.specs.CheckedUnits.{unit_view}
use Rattle.semantics.specs.SourceMachine.ObjectSteps.{on}
use Rattle.interp_stack.specs.StackViews.{standing}
use Rattle.interp_steps.specs.MachineItems.MachineViews.{state_view, with_next}
use Rattle.interp_steps.proofs.machine_items.ToldTurns.{turns_by, turns_same, enters_none}
use Rattle.interp_steps.proofs.machine_items.item_turns.enter_below.Goals as goal

pub returns-in-Ok-None : goal.returns-in-Ok-None
returns-in-Ok-None c =
    let u = unit_view c.args.unit.now in
    let s = state_view u c.args.m.now in
    let now = standing u c.next_object.new.control.items in
    let m = record c.args.m.now { control = c.next_object.new.control } in
    turns_same u (record { reply = on s; counted = None }) _ c.quiet.result m
    (sym (enters_none u s (standing u c.args.m.now.control.items).objects (c.in-Ok-None.ensures.objects u ∙ ap (λ next. with_next next now.objects) c.in-Ok-None.field-0-is)))
    (turns_by u (record { reply = on s; counted = None }) c.quiet.result m (Ok tt) None c.quiet.ensures
    (ap (λ items. on (record s { control = items })) (c.in-Ok-None.ensures.items u)) refl)
