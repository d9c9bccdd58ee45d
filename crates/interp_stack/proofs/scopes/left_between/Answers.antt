use Rattle.std.proofs.Common.{◌+◌, ◌++◌, drop, ap, sym, ◌∙◌, append_assoc}
use Rattle.semantics.specs.SourceMachine.Scopes.{all_of, without}
use Rattle.interp_stack.specs.Scans.{scopes_view}
use Rattle.interp_stack.proofs.Objects.{left_at}
use Rattle.interp_stack.proofs.scopes.left_between.Goals as goal

pub loop-scope-preserved : goal.loop-scope-preserved
loop-scope-preserved c =
    let known = all_of (scopes_view c.args.to.now) in
    let k = c.loop-scope.scope-index in
    let scope = c.scope-item.result in
    let old = c.loop-scope.left.items in
    let later = without known (all_of (scopes_view (drop (k + 1) c.args.from.now))) in
    ap (λ list. list ++ later) (c.in_ok-push_unknown.ensures ∙ ap (λ items. old ++ without known items) c.as_slice.ensures.value)
    ∙ append_assoc old (without known scope.items) later
    ∙ ap (λ list. old ++ list) (sym (left_at known c.args.from.now k scope c.loop-scope-test.true c.scope-item.is))
    ∙ c.loop-scope.invariant
