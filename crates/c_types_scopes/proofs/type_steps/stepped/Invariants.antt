use Rattle.std.proofs.Common.{◌≡◌, ◌-◌, Some, length, drop}
use Rattle.c_layout.specs.Types.{view}
use Rattle.c_layout.specs.StructViews.{structs_view}
use Rattle.c_types_scopes.specs.TypeSteps.{stepped}
use Rattle.c_types_scopes.proofs.type_steps.stepped.Given as goal

abbrev pub invariant-loop-turn : goal.invariant-loop-turn
invariant-loop-turn l = stepped (structs_view l.structs) l.pointer (view l.fn.base) (drop (length l.steps - l.turn) l.steps) ≡ Some (view l.made)
