-- When a unit is refused for its size.
use Rattle.std.specs.Prelude.{◌≡◌, ◌<◌, ℕ}
use Rattle.cc_base.specs.declared.diagnostics.Place.{Place}
use Rattle.cc_base.specs.declared.limit_table.Count.{Count}
use Rattle.cc_base.specs.declared.limit_table.Count.TheVariants.{Temps, Bases, Cells, Blocks, Instructions, Pool}
use Rattle.cc_base.specs.declared.limit_table.Limits.{Limits}
use Rattle.cc_base.specs.declared.refusals.Refusal.{Refusal}
use Rattle.cc_base.specs.declared.refusals.Refusal.TheVariants as refusal
use Rattle.cc_base.specs.declared.refusals.Stop.{Stop}
use Rattle.cc_base.specs.declared.refusals.Stop.TheVariants as stop

abbrev pub limit_of : Count → Limits → ℕ
limit_of Temps l = l.temps
limit_of Bases l = l.bases
limit_of Cells l = l.cells
limit_of Blocks l = l.blocks
limit_of Instructions l = l.instructions
limit_of Pool l = l.pool

-- a refusal for a count that passes its limit
abbrev pub IsOver : Limits → Refusal → Type 0
IsOver limits (refusal.TooLarge what count limit) = (limit ≡ limit_of what limits) × (limit < count)
IsOver limits why = ⊥

-- the only answers besides a program: a count that passes its limit, at the name of the entry, and want
-- of memory
abbrev pub IsTooLarge : Limits → Place → Stop → Type 0
IsTooLarge limits place (stop.Refused f) = (f.place ≡ place) × IsOver limits f.refusal
IsTooLarge limits place stop.NotHeld = ⊥
IsTooLarge limits place stop.ReadFault = ⊥
IsTooLarge limits place stop.Memory = Unit {0}
