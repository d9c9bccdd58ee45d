use Rattle.std.proofs.Common.{List, ap}
use Rattle.std.proofs.lemmas.Result.{err_from_is_err_and}
use Rattle.c_layout.specs.CheckedUnits.{unit_view}
use Rattle.semantics.specs.SourceMachine.Items.{Item}
use Rattle.semantics.specs.SourceMachine.SourceStates.{State}
use Rattle.interp_steps.specs.MachineItems.MachineViews.{state_view}
use Rattle.interp_steps.specs.declared.machine_items.machines.Machine.{Machine}
use Rattle.interp.proofs.runs.TurnsTold.{turn_passed}
use Rattle.interp.proofs.runs.runs.go_on.Goals as goal

pub returns-in_err-may_make-clause-next : goal.returns-in_err-may_make-clause-next
returns-in_err-may_make-clause-next c = λ k.
    let p = err_from_is_err_and c.from_residual-in_err-may_make.result c.from_residual-in_err-may_make.ensures.1 in
    let u = unit_view c.args.unit.now in
    let m = c.args.m.now in
    let n : Machine = record { function = m.function; names = m.names; control = c.next_item-item.new.control; values = m.values; frames = m.frames; world = m.world } in
    let found = c.args.found.now.items in
    let same = ap (λ (is : List Item). let s : State = record (state_view u m) { control = is } in s) (c.next_item-item.ensures u) in
    rw (p.1, p.2) (turn_passed u (state_view u m) (state_view u n) _ found k c.in_ok-asked.asked m n found c.in_err-may_make.field-0.0 same c.in_ok-asked.ensures.size c.in_err-may_make.ensures.passes)
