use Rattle.std.proofs.Common.{◌≡◌, ◌∷◌, ◌++◌, map, reverse, true, ap, ◌∙◌}
use Rattle.std.proofs.lemmas.List.{append-nil}
use Rattle.c_layout.specs.CheckedUnits.{function_view}
use Rattle.semantics.specs.SourceMachine.CallSteps.{behind_body}
use Rattle.semantics.specs.SourceMachine.Items as item
use Rattle.semantics.specs.SourceMachine.Scopes.{open_scopes, all_of}
use Rattle.interp_stack.specs.Scans.{scopes_view}
use Rattle.interp_stack.specs.StackViews.{StackView, nothing_left, added, standing}
use Rattle.interp_stack.proofs.Stacks.{standing_none}
use Rattle.interp_steps.specs.MachineItems.MachineViews.{frame_view, hop_if}
use Rattle.interp_steps.proofs.machine_items.Entries.{added_none, added_no_object}
use Rattle.interp_steps.proofs.machine_items.call_turns.leave_blocks.Goals as goal

pub returns : goal.returns
returns c = λ u.
    let f = function_view c.args.function.now in
    let items = behind_body f (hop_if true) (reverse (map (frame_view u) c.args.callers.now)) in
    let old = (standing u c.args.control.now.items).items in
    let below : standing u c.push_behind_body.new.control.items ≡ added items nothing_left = c.in_ok-push_behind_body.ensures u ∙ ap (added items) (ap (standing u) c.clear.ensures.items ∙ standing_none u) in
    let scopes : scopes_view c.as_slice-2.result.now ≡ open_scopes old = ap scopes_view c.as_slice-2.ensures.value ∙ c.in_ok-scopes.ensures u ∙ ap (λ is. open_scopes (standing u is).items) c.as_slice.ensures.value in
    c.in_ok-push_scopes.ensures u
    ∙ ap (λ (s : StackView). item.Leaves (all_of (scopes_view c.as_slice-2.result.now) ++ s.objects) ∷ s.items) below
    ∙ ap (λ os. item.Leaves (all_of (scopes_view c.as_slice-2.result.now) ++ os) ∷ (added items nothing_left).items) (added_no_object items)
    ∙ ap (λ os. item.Leaves os ∷ (added items nothing_left).items) (append-nil (all_of (scopes_view c.as_slice-2.result.now)))
    ∙ ap (λ ss. item.Leaves (all_of ss) ∷ (added items nothing_left).items) scopes
    ∙ ap (λ is. item.Leaves (all_of (open_scopes old)) ∷ is) (added_none items)
