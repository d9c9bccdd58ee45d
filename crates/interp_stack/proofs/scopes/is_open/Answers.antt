use Rattle.std.proofs.Common.{◌≡◌, ◌+◌, ◌||◌, true, false, drop, ap, sym, ◌∙◌}
use Rattle.semantics.specs.SourceMachine.Scopes.{is_in, all_of}
use Rattle.interp_stack.specs.Scans.{scopes_view}
use Rattle.interp_stack.proofs.Objects.{open_at}
use Rattle.interp_stack.proofs.scopes.is_open.Goals as goal

pub returns-then-has : goal.returns-then-has
returns-then-has c =
    let o = c.args.object in
    let k = c.loop-scope.scope-index in
    let here : true ≡ is_in o c.scope-item.result.items = sym c.if-has.true ∙ c.has.ensures ∙ ap (is_in o) c.as_slice.ensures.value in
    ap (λ b. b || is_in o (all_of (scopes_view (drop (k + 1) c.args.scopes.now)))) here
    ∙ sym (open_at o c.args.scopes.now k c.scope-item.result c.loop-scope-test.true c.scope-item.is)
    ∙ c.loop-scope.invariant

pub loop-scope-preserved : goal.loop-scope-preserved
loop-scope-preserved c =
    let o = c.args.object in
    let k = c.loop-scope.scope-index in
    let here : false ≡ is_in o c.scope-item.result.items = sym c.if-has.false ∙ c.has.ensures ∙ ap (is_in o) c.as_slice.ensures.value in
    ap (λ b. b || is_in o (all_of (scopes_view (drop (k + 1) c.args.scopes.now)))) here
    ∙ sym (open_at o c.args.scopes.now k c.scope-item.result c.loop-scope-test.true c.scope-item.is)
    ∙ c.loop-scope.invariant
