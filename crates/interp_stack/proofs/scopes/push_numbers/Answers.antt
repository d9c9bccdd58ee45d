use Rattle.std.proofs.Common.{◌≡◌, ◌+◌, ◌-◌, ◌<◌, [], ◌∷◌, ◌++◌, reverse, ap, sym, ◌∙◌, append_assoc, arith}
use Rattle.lower_functions.specs.Functions.Functions.{numbers_from}
use Rattle.interp_stack.proofs.Objects.{numbers_back}
use Rattle.interp_stack.proofs.scopes.push_numbers.Goals as goal

pub back-preserved : goal.back-preserved
back-preserved c =
    let from = c.args.from in
    let count = c.args.count in
    let k = c.back.k in
    let old = c.args.list.now.items in
    let number : c.in-Some.number ≡ from + (k - 1) = omega (arith, c.in-Some.ensures) in
    let positive : 0 < k = omega arith in
    let later = reverse (numbers_from (from + k) (count - k)) in (
      omega arith,
      c.in_ok-push-in-Some.ensures.items
          ∙ ap (λ list. list ++ c.in-Some.number ∷ []) c.back.invariant.1
          ∙ append_assoc old later (c.in-Some.number ∷ [])
          ∙ ap (λ list. old ++ list) (ap (λ n. later ++ n ∷ []) number ∙ sym (numbers_back from k count positive c.back.invariant.0)),
    )
