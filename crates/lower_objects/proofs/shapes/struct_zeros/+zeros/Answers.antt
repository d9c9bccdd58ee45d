use Rattle.std.proofs.Common.{arith, ◌-◌, ◌∙◌}
use Rattle.c_layout.specs.Types.{view}
use Rattle.c_layout.specs.StructViews.{structs_view}
use Rattle.lower_objects.specs.Shapes.FirstZeros.{unit_zeros, zeros_within}
use Rattle.c_layout.proofs.Depths.{turn, all_turns}
use Rattle.lower_objects.proofs.shapes.Depths.{zeros_whole}
use Rattle.lower_objects.proofs.shapes.struct_zeros.+zeros.Goals as goal

pub push_zeros-loop-turn-preserved : goal.push_zeros-loop-turn-preserved
push_zeros-loop-turn-preserved t c =
    let structs = structs_view c.args.structs.now in
    turn _ _ _ (unit_zeros structs (zeros_within (c.args.depth - 1) structs c.args.pointer) (view c.unit_of-unit.result.now))
    _ _ _ _ _ c.loop-turn-test.true c.in_ok-push_unit.ensures c.in_ok-from.ensures c.loop-turn.invariant

pub push_zeros-returns : goal.push_zeros-returns
push_zeros-returns t c =
    let structs = structs_view c.args.structs.now in
    all_turns _ _ (unit_zeros structs (zeros_within (c.args.depth - 1) structs c.args.pointer) (view c.unit_of-unit.result.now))
    _ _ _ _ c.loop-turn-test.false c.loop-turn.invariant
    ∙ zeros_whole c.args.out.now.items c.args.depth structs c.args.pointer (view c.args.t.now) _ _ _ c.args.at (omega arith) c.unit_of-unit.ensures c.in_ok-count.ensures c.in_ok-step.ensures
