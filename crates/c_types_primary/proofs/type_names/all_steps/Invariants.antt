use Rattle.std.proofs.Common.{◌≡◌, ◌-◌, drop, length, map}
use Rattle.c_layout.specs.SyntaxTrees.{layer_view}
use Rattle.c_types_primary.specs.TypeNames.{with_layers, no_steps, steps_view}
use Rattle.c_types_primary.proofs.type_names.all_steps.Given as goal

abbrev pub invariant-loop-turn : goal.invariant-loop-turn
invariant-loop-turn l = with_layers (no_steps l.lengths) (drop (length l.layers - l.turn) (map layer_view l.layers)) ≡ steps_view l.steps l.rest
