use Rattle.c_types_primary.proofs.Layers.{star_more}
use Rattle.c_types_primary.proofs.type_names.with_stars.Goals as goal

pub loop-star-preserved : goal.loop-star-preserved
loop-star-preserved c = star_more c.loop-star.steps.items c.push.new.self.items _ c.args.stars.now c.loop-star._star-index c.loop-star-test.true c.in_ok-push.ensures.items c.loop-star.invariant
