use Rattle.std.proofs.Common.{None, refl, sym, ap}
use Rattle.c_layout.specs.CheckedUnits.{unit_view}
use Rattle.interp_stack.specs.declared.items.Item7.TheVariants as held
use Rattle.interp_steps.specs.MachineItems.Moves.{turn_of}
use Rattle.interp_steps.proofs.machine_items.ToldTurns.{turns_by, turns_same}
use Rattle.interp.proofs.machine.turns.act.Goals as goal

pub returns-in-Again : goal.returns-in-Again
returns-in-Again c =
    let u = unit_view c.args.unit.now in
    turns_same u (turn_of u (held.Again) c.args.m.now) (turn_of u c.args.item c.args.m.now) c.quiet-in-Again.result c.again.new.m (ap (λ i. turn_of u i c.args.m.now) (sym c.in-Again.is))
    (turns_by u (turn_of u (held.Again) c.args.m.now) c.quiet-in-Again.result c.again.new.m c.again.result None c.quiet-in-Again.ensures (c.again.ensures u) refl)

pub returns-in-Drop : goal.returns-in-Drop
returns-in-Drop c =
    let u = unit_view c.args.unit.now in
    turns_same u (turn_of u (held.Drop) c.args.m.now) (turn_of u c.args.item c.args.m.now) c.drop_value.result c.drop_value.new.m (ap (λ i. turn_of u i c.args.m.now) (sym c.in-Drop.is))
    (c.drop_value.ensures u)

pub returns-in-Drops : goal.returns-in-Drops
returns-in-Drops c =
    let u = unit_view c.args.unit.now in
    turns_same u (turn_of u (held.Drops c.in-Drops.count) c.args.m.now) (turn_of u c.args.item c.args.m.now) c.drop_one.result c.drop_one.new.m (ap (λ i. turn_of u i c.args.m.now) (sym c.in-Drops.is))
    (c.drop_one.ensures u)
