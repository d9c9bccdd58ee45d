use Rattle.std.proofs.Common.{◌≡◌, ◌-◌, ◌^◌, reverse}
use Rattle.c_layout.specs.CheckedUnits.{unit_view}
use Rattle.lower_tables.specs.Bases.BaseTables.{table, with_all}
use Rattle.lower_tables.proofs.bases.program_bases.BaseTable.make_all.Given as goal

abbrev pub invariant-loop-turn : goal.invariant-loop-turn
invariant-loop-turn l = with_all (unit_view l.unit) (2 ^ 64 - 1 - l._turn) (reverse l.stack.items) (table l.self) ≡ with_all (unit_view l.unit) (2 ^ 64 - 1) (reverse l.initial.stack.items) (table l.initial.self)
