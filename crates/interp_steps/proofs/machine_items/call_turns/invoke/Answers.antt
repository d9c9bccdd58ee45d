use Rattle.std.proofs.Common.{◌≡◌, ℕ, ◌∷◌, ◌++◌, map, reverse, Vec, Global, Option, Result, refl, sym, ap, subst, ◌∙◌}
use Rattle.std.proofs.lemmas.List.{append-nil}
use Rattle.c_layout.specs.CheckedUnits.{unit_view, function_view}
use Rattle.memory_model.specs.Effects.NumberedTables.{empty_table}
use Rattle.interp_accesses.specs.declared.worlds.Halt.{Halt}
use Rattle.semantics.specs.SourceMachine.CallSteps.{prologue, waiting, invoke}
use Rattle.semantics.specs.SourceMachine.StatementItems.{body}
use Rattle.interp_stack.specs.StackViews.{StackView, standing}
use Rattle.interp_stack.specs.declared.items.Item7.{Item7}
use Rattle.interp_stack.proofs.Stacks.{standing_none}
use Rattle.interp_steps.specs.MachineItems.MachineViews.{names_view, frame_view, state_view}
use Rattle.interp_steps.specs.MachineItems.Moves.{Moves}
use Rattle.interp_steps.specs.declared.machine_items.machines.Frame7.{Frame7}
use Rattle.interp_steps.proofs.machine_items.Entries.{frames_more}
use Rattle.interp_steps.proofs.machine_items.Invoked.{invoked}
use Rattle.interp_steps.proofs.machine_items.call_turns.invoke.Goals as goal
use Rattle.interp_steps.proofs.machine_items.call_turns.invoke.Goals.{in-Ok-push, in-Err}

pub returns : goal.returns
returns c =
    let u = unit_view c.args.unit.now in
    let s = state_view u c.args.m.now in
    let f = function_view c.in_ok-function.function.now in
    let items = prologue f c.args.count ++ body f in
    let m = record c.args.m.now { function = c.args.number; names = c.replace.new.dest; control = c.replace-2.new.dest; frames = c.push.new.self } in
    let reply = invoke u s c.args.at c.args.number c.args.count c.args.used in
    let moves : Result (Unit {0}) Halt → Type 0 = λ r. Moves u reply r m in
    let waits : Vec (Option ℕ) Global → Vec Item7 Global → Frame7 = λ names control. record { function = c.args.m.now.function; names = names; control = control; at = c.args.at; used = c.args.used } in
    let kept : frame_view u (waits c.replace.result c.replace-2.result) ≡ waiting s c.args.at c.args.used =
    ap (λ v. frame_view u (waits v c.replace-2.result)) c.replace.ensures.value ∙ ap (λ v. frame_view u (waits c.args.m.now.names v)) c.replace-2.ensures.value in
    let named : names_view c.replace.new.dest.items ≡ empty_table = ap (λ (v : Vec (Option ℕ) Global). names_view v.items) c.replace.ensures.after ∙ ap names_view c.new.ensures.items in
    let control : (standing u c.replace-2.new.dest.items).items ≡ items =
    ap (λ (v : Vec Item7 Global). (standing u v.items).items) c.replace-2.ensures.after
    ∙ ap (λ (t : StackView). t.items) (c.in-Ok.ensures u)
    ∙ ap (λ (t : StackView). items ++ t.items) (ap (standing u) c.new-control.ensures.items ∙ standing_none u)
    ∙ append-nil items in
    elim c.match-push.branch [
      | in-Ok-push w ↦ subst moves (sym w.result-is) (invoked u s c.args.at c.args.number c.args.count c.args.used f m c.in_ok-function.ensures refl named control refl
          (ap (λ fs. reverse (map (frame_view u) fs)) w.in-Ok-push.ensures.items
          ∙ frames_more u c.args.m.now.frames.items (waits c.replace.result c.replace-2.result)
          ∙ ap (λ g. g ∷ s.frames) kept)
          refl)
      | in-Err w ↦ subst moves (sym w.result-is) tt
    ]
