use Rattle.std.proofs.Common.{◌∙◌}
use Rattle.cfg.proofs.Nearest.{same_thresholds}
use Rattle.cfg.proofs.threshold_choice.thresholds.Goals as goal

pub returns : goal.returns
returns c =
    same_thresholds _ _ _ _ _ _ c.in_ok-limits.ensures (c.as_slice.ensures.value ∙ c.in_ok-numbers.ensures) c.from_ascending.ensures c.in_ok-chosen.ensures.exact
