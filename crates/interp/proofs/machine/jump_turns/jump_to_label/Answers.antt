use Rattle.std.proofs.Common.{◌≡◌, [], ap, ◌∙◌}
use Rattle.c_layout.specs.CheckedUnits.{function_view}
use Rattle.semantics.specs.SourceMachine.LabelSearch.{from_label}
use Rattle.semantics.specs.SourceMachine.Scopes.{open_scopes}
use Rattle.interp_stack.specs.Scans.{scopes_view}
use Rattle.interp_stack.specs.StackViews.{StackView, standing}
use Rattle.interp_stack.proofs.Stacks.{standing_none}
use Rattle.interp.proofs.machine.Jumped.{jumped_to}
use Rattle.interp.proofs.machine.jump_turns.jump_to_label.Goals as goal

pub returns : goal.returns
returns c = λ u.
    let to = from_label u (function_view c.args.function.now) c.args.label in
    let none : (standing u c.clear.new.self.items).items ≡ [] = ap (λ is. (standing u is).items) c.clear.ensures.items ∙ ap (λ (s : StackView). s.items) (standing_none u) in
    jumped_to to (scopes_view c.as_slice-2.result.now) (standing u c.args.control.now.items).items (standing u c.find_label.new.control.items).items (standing u c.jump.new.control.items).items
    (c.in_ok-find_label.ensures u none)
    (ap scopes_view c.as_slice-2.ensures.value ∙ c.in_ok-from.ensures u ∙ ap (λ is. open_scopes (standing u is).items) c.as_slice.ensures.value)
    (c.in_ok-jump.ensures u)
