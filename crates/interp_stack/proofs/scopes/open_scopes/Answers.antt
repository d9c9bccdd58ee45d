use Rattle.std.proofs.Common.{◌≡◌, ◌+◌, [], ◌∷◌, ◌++◌, take, reverse, ap, sym, subst, ◌∙◌}
use Rattle.std.proofs.lemmas.List.{take_more, take_all}
use Rattle.semantics.specs.SourceMachine.Scopes as machine
use Rattle.interp_stack.specs.Scans.{scopes_view, Scans}
use Rattle.interp_stack.specs.StackViews.{StackView, standing}
use Rattle.interp_stack.proofs.Objects.{view-reverse}
use Rattle.interp_stack.proofs.Stacks.{stacked, standing_none}
use Rattle.interp_stack.proofs.scopes.open_scopes.Goals as goal

pub loop-item-init : goal.loop-item-init
loop-item-init c = λ u. (
  ap (λ xs. reverse (scopes_view xs)) c.new-scopes.ensures.items ∙ sym (ap (λ s. machine.open_scopes s.items) (standing_none u)),
  ap reverse c.new-below.ensures.items ∙ sym (ap (λ s. s.objects) (standing_none u)),
)

pub loop-item-preserved : goal.loop-item-preserved
loop-item-preserved c = λ u.
    let control = c.args.control.now in
    let k = c.loop-item.item-index in
    let item = c.item-item.result in
    let more : take (k + 1) control ≡ take k control ++ item ∷ [] = take_more control k item c.loop-item-test.true ∙ ap (λ i. take k control ++ i ∷ []) (sym c.item-item.is) in
    let family : StackView → Type 0 = λ s. Scans c.add_scope.new.scopes.items c.add_scope.new.below.items s in
    subst family (sym (stacked u (take k control) (take (k + 1) control) item more)) (c.in_ok-add_scope.ensures u (standing u (take k control)) (c.loop-item.invariant u))

pub returns : goal.returns
returns c = λ u.
    let whole : take c.loop-item.item-index c.args.control.now ≡ c.args.control.now = take_all c.loop-item.item-index c.args.control.now c.loop-item-test.false in
    ap scopes_view c.reverse.ensures.items
    ∙ view-reverse c.loop-item.scopes.items
    ∙ (c.loop-item.invariant u).0
    ∙ ap (λ xs. machine.open_scopes (standing u xs).items) whole
