use Rattle.std.proofs.Common.{◌≡◌, ◌-◌, ◌≤◌, length, map, drop, take, ap, ◌∙◌, arith}
use Rattle.std.proofs.lemmas.List.{take_all, length-drop}
use Rattle.interp_memory.specs.ByteViews.{scalar_view}
use Rattle.interp_steps.proofs.operations.PendingValues.{newest_values}
use Rattle.interp_steps.proofs.operations.library_operations.newest.Goals as goal

pub returns : goal.returns
returns c =
    let values = c.args.values.now in
    let from = c.saturating_sub-from.result in
    let few : length (drop from values) ≤ length values - from = omega (arith, length-drop from values) in
    ap (map scalar_view) (take_all (length values - from) (drop from values) few)
    ∙ ap (λ k. map scalar_view (drop k values)) c.saturating_sub-from.ensures
    ∙ newest_values c.args.count values
