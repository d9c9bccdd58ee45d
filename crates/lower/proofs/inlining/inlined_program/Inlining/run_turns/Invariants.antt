use Rattle.std.proofs.Common.{◌≡◌, ◌-◌, ◌^◌}
use Rattle.c_layout.specs.CheckedUnits.{unit_view}
use Rattle.lower_tables.specs.Counts.Preparations.{templates_view}
use Rattle.lower.specs.Inlining.Inlinings.{inlining, run}
use Rattle.lower.proofs.inlining.inlined_program.Inlining.run_turns.Given as goal

abbrev pub invariant-loop-turn : goal.invariant-loop-turn
invariant-loop-turn l = run (unit_view l.unit) (templates_view l.templates) (2 ^ 64 - 1 - l._turn) (inlining l.self).stack (inlining l.self).program ≡ run (unit_view l.unit) (templates_view l.templates) (2 ^ 64 - 1) (inlining l.initial.self).stack (inlining l.initial.self).program
