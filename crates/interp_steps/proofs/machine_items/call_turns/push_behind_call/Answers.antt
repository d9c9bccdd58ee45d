use Rattle.std.proofs.Common.{[], ◌∷◌, ◌++◌, sym, ap, ◌∙◌}
use Rattle.c_layout.specs.CheckedUnits.{function_view}
use Rattle.lower_functions.specs.Functions.Functions.{numbers_from}
use Rattle.semantics.specs.SourceMachine.CallSteps.{epilogue}
use Rattle.semantics.specs.SourceMachine.Items as item
use Rattle.interp_stack.specs.StackViews.{StackView, with_item, with_items, added, standing}
use Rattle.interp_stack.proofs.Stacks.{standing_none}
use Rattle.interp_steps.specs.MachineItems.MachineViews.{frame_view, hop_if}
use Rattle.interp_steps.proofs.machine_items.Entries.{behind_body_is}
use Rattle.interp_steps.proofs.machine_items.call_turns.push_behind_call.Goals as goal

pub returns : goal.returns
returns c = λ u.
    let f = function_view c.args.function.now in
    let end = epilogue f (frame_view u c.args.caller.now) in
    let ns = numbers_from 0 f.parameters in
    let old = standing u c.args.control.now.items in
    let none = ap (standing u) c.requires ∙ standing_none u in
    c.in_ok-push_item-2.ensures u
    ∙ ap (λ (s : StackView). with_item (item.Leaves s.objects) s) (c.in_ok-push_item.ensures u)
    ∙ ap (λ (s : StackView). with_items (item.Leaves (ns ++ s.objects) ∷ []) s) (c.in_ok-push_hop_if.ensures u ∙ ap (added (hop_if c.args.hops)) (c.in_ok-push_epilogue.ensures u ∙ ap (added end) none))
    ∙ behind_body_is c.args.hops end ns
    ∙ ap (with_items (item.Leaves ns ∷ (hop_if c.args.hops ++ end))) (sym none)
