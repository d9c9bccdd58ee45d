use Rattle.c_layout.specs.CheckedUnits.{unit_view}
use Rattle.lower_tables.specs.Counts.Preparations.{templates_view}
use Rattle.lower_tables.specs.Counts.PreparingSteps.{AreMade, progress}
use Rattle.lower_tables.proofs.counts.Preparing.{Holds}
use Rattle.lower_tables.proofs.counts.prepared_functions.settle_all.Given as goal

abbrev pub invariant-loop-number : goal.invariant-loop-number
invariant-loop-number l = AreMade (unit_view l.unit) (templates_view l.fn.plain.items) → Holds (unit_view l.unit) (progress l.plain.items l.found)
