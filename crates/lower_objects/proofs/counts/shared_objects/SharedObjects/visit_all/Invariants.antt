use Rattle.std.proofs.Common.{◌≡◌, ◌-◌, ◌^◌, reverse}
use Rattle.c_layout.specs.CheckedUnits.{unit_view}
use Rattle.lower_objects.specs.Counts.SharedObjects.{sharing, all_visited}
use Rattle.lower_objects.proofs.counts.shared_objects.SharedObjects.visit_all.Given as goal

abbrev pub invariant-loop-turn : goal.invariant-loop-turn
invariant-loop-turn l = all_visited (unit_view l.unit) (2 ^ 64 - 1 - l._turn) (reverse l.stack.items) (sharing l.self) ≡ all_visited (unit_view l.unit) (2 ^ 64 - 1) (reverse l.initial.stack.items) (sharing l.initial.self)
