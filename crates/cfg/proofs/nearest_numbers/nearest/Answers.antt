use Rattle.std.proofs.Common.{rules}
use Rattle.cfg.specs.Nearest.{nearest_of}
use Rattle.cfg.proofs.Nearest.{left_step}
use Rattle.cfg.proofs.nearest_numbers.nearest.Goals as goal

pub loop-at-preserved : goal.loop-at-preserved
loop-at-preserved c = (
  left_step c.saturating_sub-extra.result c.loop-at._at c.loop-at.kept.now c.drop_farther-kept.result.now (nearest_of c.args.list.now) c.loop-at-test.true c.drop_farther-kept.ensures.value c.loop-at.invariant.0,
  search rules,
)
