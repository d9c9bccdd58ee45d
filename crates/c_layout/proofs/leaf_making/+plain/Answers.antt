use Rattle.std.proofs.Common.{arith, ◌-◌, ◌∙◌}
use Rattle.c_layout.specs.Types.{view}
use Rattle.c_layout.specs.StructViews.{structs_view}
use Rattle.c_layout.specs.Leaves.{plain_unit, plain_leaves}
use Rattle.c_layout.proofs.Depths.{turn, all_turns, plain_whole}
use Rattle.c_layout.proofs.leaf_making.+plain.Goals as goal

pub push_plain-loop-turn-preserved : goal.push_plain-loop-turn-preserved
push_plain-loop-turn-preserved t c =
    let structs = structs_view c.args.table.structs.now in
    turn _ _ _ (plain_unit structs c.args.places (plain_leaves (c.args.depth - 1) structs c.args.table.pointer c.args.places) (view c.after_all-unit.result.now))
    _ _ _ _ _ c.loop-turn-test.true c.in_ok-push_plain_unit.ensures c.in_ok-from.ensures c.loop-turn.invariant

pub push_plain-returns : goal.push_plain-returns
push_plain-returns t c =
    let structs = structs_view c.args.table.structs.now in
    all_turns _ _ (plain_unit structs c.args.places (plain_leaves (c.args.depth - 1) structs c.args.table.pointer c.args.places) (view c.after_all-unit.result.now))
    _ _ _ _ c.loop-turn-test.false c.loop-turn.invariant
    ∙ plain_whole c.args.out.now.items c.args.depth structs c.args.table.pointer c.args.places (view c.args.t.now) _ _ _ c.args.at (omega arith) c.after_all-unit.ensures c.in_ok-count.ensures c.in_ok-step.ensures
