use Rattle.std.proofs.Common.{Some, refl, sym, ap}
use Rattle.c_layout.specs.CheckedUnits.{unit_view}
use Rattle.interp_stack.specs.declared.items.Item7.TheVariants as held
use Rattle.interp_steps.specs.MachineItems.Moves.{turn_of}
use Rattle.interp_steps.proofs.machine_items.ToldTurns.{turns_by, turns_same}
use Rattle.interp.proofs.machine.turns.act_on_object.Goals as goal

pub returns-in-OnObject : goal.returns-in-OnObject
returns-in-OnObject c =
    let u = unit_view c.args.unit.now in
    turns_same u (turn_of u (held.OnObject c.in-OnObject.at c.in-OnObject.local c.in-OnObject.how) c.args.m.now) (turn_of u c.args.item c.args.m.now) c.step.result c.change.new.m (ap (λ i. turn_of u i c.args.m.now) (sym c.in-OnObject.is))
    (turns_by u (turn_of u (held.OnObject c.in-OnObject.at c.in-OnObject.local c.in-OnObject.how) c.args.m.now) c.step.result c.change.new.m c.change.result (Some c.in-OnObject.at) c.step.ensures (c.change.ensures u) refl)
