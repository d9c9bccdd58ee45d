-- Which count of a unit is the first that passes its limit.
use Rattle.std.specs.Prelude.{ℕ, ◌+◌, ◌*◌, nat_le, cond, Option, Some, None}
use Rattle.cc_base.specs.declared.limit_table.Count.{Count}
use Rattle.cc_base.specs.declared.limit_table.Count.TheVariants.{Temps, Bases, Cells, Blocks, Instructions}
use Rattle.cc_base.specs.declared.limit_table.Limits.{Limits}
use Rattle.cc_base.specs.declared.refusals.Refusal.{Refusal}
use Rattle.cc_base.specs.declared.refusals.Refusal.TheVariants as refusal
use Rattle.cc_base.specs.declared.refusals.Stop.{Stop}
use Rattle.cc_base.specs.declared.refusals.Stop.TheVariants as stop
use Rattle.lower_objects.specs.declared.counts.function_counts.FunctionCounts.{FunctionCounts}
use Rattle.lower_objects.specs.declared.counts.object_counts.BaseCount.{BaseCount}
use Rattle.lower_tables.specs.declared.counts.count_limits.UnitCounts.{UnitCounts}
use Rattle.lower_objects.specs.Counts.Extents.{capped}
use Rattle.lower_tables.specs.Counts.SizeRefusals.{limit_of}

-- the refusal for a count, where it passes its limit
abbrev pub over : Limits → Count → ℕ → Option Refusal
over limits what count = cond (nat_le count (limit_of what limits)) None (Some (refusal.TooLarge what count (limit_of what limits)))

abbrev pub or_else : Option Refusal → Option Refusal → Option Refusal
or_else (Some why) later = Some why
or_else None later = later

-- the first in this order: temporaries, bases, cells, blocks, instructions
abbrev pub first_over : Limits → UnitCounts → Option Refusal
first_over limits c = or_else (over limits Temps c.temps) (or_else (over limits Bases c.bases) (or_else (over limits Cells c.cells) (or_else (over limits Blocks c.blocks) (over limits Instructions c.instructions))))

-- what a stop refuses
abbrev pub refusal_in : Stop → Refusal
refusal_in (stop.Refused f) = f.refusal
refusal_in stop.NotHeld = refusal.Syntax
refusal_in stop.ReadFault = refusal.Syntax
refusal_in stop.Memory = refusal.Syntax

-- the counts of the entry, with the bases that functions share
abbrev pub unit_counts : FunctionCounts → BaseCount → UnitCounts
unit_counts entry shared = record { temps = entry.temps; bases = capped (entry.bases + shared.bases); cells = capped (entry.cells + shared.cells); blocks = entry.from_empty.blocks; instructions = entry.from_empty.instructions }

-- the values of a pool of rows: for each block one row, and two more
abbrev pub pool : ℕ → ℕ → ℕ
pool blocks width = capped (capped (blocks + 2) * width)
