use Rattle.std.proofs.Common.{◌∙◌, ◌-◌, ◌+◌, ap, sym, None, option_map, length}
use Rattle.c_layout.specs.Types.{view}
use Rattle.c_layout.specs.StructViews.{structs_view}
use Rattle.c_types_scopes.proofs.Steps.{one_more, none_at}
use Rattle.c_types_scopes.proofs.type_steps.stepped.Goals as goal

pub returns-in-None : goal.returns-in-None
returns-in-None c =
    sym (none_at (structs_view c.args.structs.now) c.args.pointer (view c.args.base) c.args.steps.now (length c.args.steps.now - (c.loop-turn.turn + 1))
    (one_more (structs_view c.args.structs.now) c.args.pointer (view c.args.base) (view c.loop-turn.made) c.args.steps.now c.loop-turn.turn _ None c.loop-turn-test.true c.loop-turn.invariant
    (sym (ap (option_map view) c.in-None.is) ∙ c.in_ok-next.ensures)))
