use Rattle.std.proofs.Common.{◌≡◌, ◌-◌, length, take, ap, ◌∙◌, arith}
use Rattle.std.proofs.lemmas.Grind.{common_steps}
use Rattle.interp_steps.specs.Operations.Pending.{pending}
use Rattle.interp_steps.proofs.operations.PendingValues.{pending_rest}
use Rattle.interp_steps.proofs.operations.library_operations.drop_newest.Goals as goal

pub returns : goal.returns
returns c =
    let values = c.args.values.now.items in
    let rest : c.saturating_sub-rest.result ≡ length values - c.args.count = grind (arith, common_steps) in
    ap pending c.truncate.ensures.items
    ∙ ap (λ k. pending (take k values)) rest
    ∙ pending_rest c.args.count values
