use Rattle.std.proofs.Common.{arith, ◌-◌, ◌∙◌}
use Rattle.c_layout.specs.Types.{view}
use Rattle.c_layout.specs.StructViews.{structs_view}
use Rattle.c_layout.specs.Leaves.{folded_unit, folded_leaves}
use Rattle.c_layout.proofs.Depths.{turn, all_turns, folded_whole}
use Rattle.c_layout.proofs.leaf_making.+folded.Goals as goal

pub push_folded-loop-turn-preserved : goal.push_folded-loop-turn-preserved
push_folded-loop-turn-preserved t c =
    let structs = structs_view c.args.table.structs.now in
    turn _ _ _ (folded_unit c.args.depth structs c.args.table.pointer (folded_leaves (c.args.depth - 1) structs c.args.table.pointer) (view c.after_short-unit.result.now))
    _ _ _ _ _ c.loop-turn-test.true c.in_ok-push_folded_unit.ensures c.in_ok-from.ensures c.loop-turn.invariant

pub push_folded-returns : goal.push_folded-returns
push_folded-returns t c =
    let structs = structs_view c.args.table.structs.now in
    all_turns _ _ (folded_unit c.args.depth structs c.args.table.pointer (folded_leaves (c.args.depth - 1) structs c.args.table.pointer) (view c.after_short-unit.result.now))
    _ _ _ _ c.loop-turn-test.false c.loop-turn.invariant
    ∙ folded_whole c.args.out.now.items c.args.depth structs c.args.table.pointer (view c.args.t.now) _ _ _ c.args.at (omega arith) c.after_short-unit.ensures c.in_ok-count.ensures c.in_ok-step.ensures
