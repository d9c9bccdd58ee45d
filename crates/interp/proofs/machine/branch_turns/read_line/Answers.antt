use Rattle.std.proofs.Common.{◌∷◌, refl, ap, ◌∙◌}
use Rattle.c_layout.specs.CheckedUnits.{unit_view}
use Rattle.interp_memory.specs.ByteViews.{scalar_view}
use Rattle.interp_accesses.specs.WorldViews.{world_view}
use Rattle.interp_stack.specs.StackViews.{standing}
use Rattle.interp_steps.specs.Operations.Pending.{pending}
use Rattle.interp_steps.specs.MachineItems.MachineViews.{state_view}
use Rattle.interp_steps.specs.MachineItems.Moves.{holds_on}
use Rattle.interp.proofs.machine.Followed.{line_turn}
use Rattle.interp.proofs.machine.branch_turns.read_line.Goals as goal

pub returns-in-Ok : goal.returns-in-Ok
returns-in-Ok c = λ at.
    let u = unit_view c.args.unit.now in
    let stream = scalar_view c.in_ok-stream.stream in
    let size = scalar_view c.in_ok-size.size in
    line_turn u at c.args.wants_line c.line_holds-holds.result (standing u c.args.m.now.control.items) (state_view u c.args.m.now) (standing u c.follow.new.control.items).items stream size (scalar_view c.in_ok-text.text) (scalar_view c.in_ok-line.line) (pending c.args.m.now.values.items) (pending c.pop_value-3.new.values.items) (world_view c.fgets.new.w)
    refl
    (c.in_ok-stream.ensures ∙ ap (λ vs. stream ∷ vs) (c.in_ok-size.ensures ∙ ap (λ vs. size ∷ vs) c.in_ok-text.ensures))
    c.in_ok-line.ensures
    (c.line_holds-holds.ensures ∙ ap (holds_on c.args.wants_line) c.is_false_value.ensures)
    (c.in-Ok.ensures u)
