use Rattle.std.proofs.Common.{◌<◌, ap, arith}
use Rattle.interp_stack.specs.StackViews.{StackView}
use Rattle.interp_steps.specs.MachineItems.MachineViews.{state_view}
use Rattle.interp_steps.proofs.machine_items.ToldTurns.{turns_same, dropped_first}
use Rattle.interp_steps.proofs.machine_items.item_turns.drop_one.Goals as goal

pub returns-in-Ok : goal.returns-in-Ok
returns-in-Ok c = λ u.
    let n = record c.args.m.now { control = c.push_item.new.control } in
    let positive : 0 < c.args.count = omega arith in
    turns_same u _ _ c.drop_value.result c.drop_value.new.m
    (dropped_first u c.args.m.now n c.args.count positive (ap (λ (s : StackView). record (state_view u c.args.m.now) { control = s.items }) (c.in-Ok.ensures u)))
    (c.drop_value.ensures u)
