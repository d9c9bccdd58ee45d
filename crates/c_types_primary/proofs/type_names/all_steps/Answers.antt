use Rattle.c_types_primary.specs.TypeNames.{no_steps, steps_view}
use Rattle.c_types_primary.proofs.Layers.{one_more}
use Rattle.c_types_primary.proofs.type_names.all_steps.Goals as goal

pub loop-turn-preserved : goal.loop-turn-preserved
loop-turn-preserved c =
    one_more (no_steps c.args.lengths.now) (steps_view c.loop-turn.steps c.loop-turn.rest.now) (steps_view c.with_layer.new.steps c.in_ok-rest.rest.now) c.args.layers.now c.loop-turn.turn c.index-layers-layers.result
    c.loop-turn-test.true c.loop-turn.invariant c.index-layers-layers.is c.in_ok-rest.ensures
