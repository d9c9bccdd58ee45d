use Rattle.std.proofs.Common.{◌<◌, ◌++◌, ap, sym, ◌∙◌, arith}
use Rattle.semantics.specs.SourceMachine.Scopes.{all_of, without}
use Rattle.interp_stack.specs.Scans.{scopes_view}
use Rattle.interp_stack.proofs.Objects.{entered_at}
use Rattle.interp_stack.proofs.scopes.entered_between.Goals as goal

pub back-preserved : goal.back-preserved
back-preserved c =
    let known = all_of (scopes_view c.args.from.now) in
    let k = c.back.k in
    let scope = c.index-to-k.result in
    let positive : 0 < k = omega arith in (
      omega arith,
      c.in_ok-push_unknown.ensures
          ∙ ap (λ items. c.back.entered.items ++ without known items) c.as_slice.ensures.value
          ∙ ap (λ list. list ++ without known scope.items) c.back.invariant.1
          ∙ sym (entered_at known c.args.to.now k scope positive c.back.invariant.0 c.index-to-k.is),
    )
