use Rattle.std.proofs.Common.{None, refl, sym, ap}
use Rattle.c_layout.specs.CheckedUnits.{unit_view}
use Rattle.interp_stack.specs.declared.items.Item7.TheVariants as held
use Rattle.interp_steps.specs.MachineItems.Moves.{turn_of}
use Rattle.interp_steps.proofs.machine_items.ToldTurns.{turns_by, turns_same}
use Rattle.interp.proofs.machine.turns.act_by_jump.Goals as goal

pub returns-in-BreakOut : goal.returns-in-BreakOut
returns-in-BreakOut c =
    let u = unit_view c.args.unit.now in
    turns_same u (turn_of u (held.BreakOut) c.args.m.now) (turn_of u c.args.item c.args.m.now) c.quiet-in-BreakOut.result c.break_out.new.m (ap (λ i. turn_of u i c.args.m.now) (sym c.in-BreakOut.is))
    (turns_by u (turn_of u (held.BreakOut) c.args.m.now) c.quiet-in-BreakOut.result c.break_out.new.m c.break_out.result None c.quiet-in-BreakOut.ensures (c.break_out.ensures u) refl)

pub returns-in-NextIteration : goal.returns-in-NextIteration
returns-in-NextIteration c =
    let u = unit_view c.args.unit.now in
    turns_same u (turn_of u (held.NextIteration) c.args.m.now) (turn_of u c.args.item c.args.m.now) c.quiet-in-NextIteration.result c.next_turn.new.m (ap (λ i. turn_of u i c.args.m.now) (sym c.in-NextIteration.is))
    (turns_by u (turn_of u (held.NextIteration) c.args.m.now) c.quiet-in-NextIteration.result c.next_turn.new.m c.next_turn.result None c.quiet-in-NextIteration.ensures (c.next_turn.ensures u) refl)
