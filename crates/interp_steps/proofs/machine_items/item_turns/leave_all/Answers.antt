use Rattle.std.proofs.Common.{◌≡◌, ◌<◌, [], ◌∷◌, length, get_or, Some, sym, ap, arith}
use Rattle.std.specs.List.{between}
use Rattle.std.proofs.lemmas.Slice.{first_rest}
use Rattle.c_layout.specs.CheckedUnits.{unit_view}
use Rattle.semantics.specs.SourceMachine.Items as item
use Rattle.semantics.specs.SourceMachine.ObjectSteps.{leave}
use Rattle.semantics.specs.SourceMachine.SourceStates.{first_do}
use Rattle.semantics.specs.SourceMachine.SourceSteps.{leave_all}
use Rattle.interp_stack.specs.StackViews.{StackView}
use Rattle.interp_steps.specs.MachineItems.MachineViews.{state_view}
use Rattle.interp_steps.proofs.machine_items.ToldTurns.{turns_by, turns_same, moves_same}
use Rattle.interp_steps.proofs.machine_items.item_turns.leave_all.Goals as goal

pub returns-in-Ok : goal.returns-in-Ok
returns-in-Ok c =
    let u = unit_view c.args.unit.now in
    let s = state_view u c.args.m.now in
    let all = c.args.objects.now in
    let n = get_or all 0 0 in
    let rest = between 1 (length all) all in
    let some : 0 < length all = omega (arith, c.in-len1-up.len_at_least) in
    let first : all ≡ n ∷ rest = first_rest all 0 some in
    let m = record c.args.m.now { control = c.push_item.new.control } in
    let state : state_view u m ≡ first_do (item.Leaves rest ∷ []) s = ap (λ (t : StackView). record s { control = t.items }) (c.in-Ok.ensures u) in
    turns_same u (leave_all u s (n ∷ rest)) (leave_all u s all) c.step.result c.leave_object.new.m (sym (ap (leave_all u s) first))
    (turns_by u (leave_all u s (n ∷ rest)) c.step.result c.leave_object.new.m c.leave_object.result (Some c.own_place-at.result) c.step.ensures
    (moves_same u (leave (state_view u m) n) (leave (first_do (item.Leaves rest ∷ []) s) n) c.leave_object.result c.leave_object.new.m (ap (λ z. leave z n) state) (c.leave_object.ensures u))
    (ap (λ at. Some at) (sym c.own_place-at.ensures)))
