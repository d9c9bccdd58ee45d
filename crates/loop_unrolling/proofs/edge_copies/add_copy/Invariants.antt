use Rattle.std.proofs.Common.{◌≡◌, ◌++◌, map, drop}
use Rattle.lower_templates.specs.Views.ProgramViews.{edge}
use Rattle.loop_unrolling.specs.Turns as spec
use Rattle.loop_unrolling.proofs.edge_copies.add_copy.Given as goal

abbrev pub invariant-loop-found : goal.invariant-loop-found
invariant-loop-found l = map edge l.made.items ++ map (spec.edge_copy l.turns.blocks l.turns.last l.copy) (map edge (drop l.found-index l.edges)) ≡ map edge l.initial.made.items ++ map (spec.edge_copy l.turns.blocks l.turns.last l.copy) (map edge l.edges)
