use Rattle.c_layout.specs.CheckedUnits.{unit_view}
use Rattle.lower_tables.specs.Counts.Preparations.{templates_view}
use Rattle.lower_tables.specs.Counts.PreparingSteps.{AreMade}
use Rattle.lower_tables.proofs.counts.prepared_functions.turn_all.Given as goal

abbrev pub invariant-loop-turn : goal.invariant-loop-turn
invariant-loop-turn l = AreMade (unit_view l.unit) (templates_view l.initial.found.templates.items) → AreMade (unit_view l.unit) (templates_view l.found.templates.items)
