-- Cells and lines that a certificate may have.
use Rattle.std.specs.Prelude.{◌^◌, ◌<◌}
use Rattle.interval_domain.specs.declared.intervals.intervals.Interval.{Interval}
use Rattle.pointer_domain.specs.declared.pointer_sets.Pointers.{Pointers}
use Rattle.value_domain.specs.declared.values.values.Value as values
use Rattle.value_domain.specs.declared.values.row_cells.Cell.{Cell}
use Rattle.value_domain.specs.declared.values.row_cells.Cell.TheVariants.{Nothing, Value, First, State, Mixed}
use Rattle.certificate_text.specs.declared.lines.map_lines.MapLine.{MapLine}
use Rattle.certificate_text.specs.declared.lines.map_lines.MapLine.TheVariants.{Unreached, Reached, Placed}
use Rattle.certificate_theorems.specs.Lines.NearRanges.{IsNearRange, AreFew}

-- into bases below 1,016, with bounds from -2^64 to 2^64
pub record IsNearPointer (p : Pointers Interval) : Type 0 where
  pub few : AreFew p.bases
  pub lo : IsNearRange p.lo
  pub rel : IsNearRange p.rel
  pub len : IsNearRange p.len

-- with such numbers and such pointers
pub record IsNearValue (v : values.Value Interval) : Type 0 where
  pub num : IsNearRange v.num
  pub pointer : IsNearPointer v.pointer

-- of one kind, with such numbers
abbrev pub IsNearCell : Cell Interval → Type 0
IsNearCell Nothing = ⊥
IsNearCell (Value v) = IsNearValue v
IsNearCell (First f) = IsNearRange f.at
IsNearCell (State s) = IsNearRange s.size
IsNearCell Mixed = ⊥

-- with counts and positions below 2^32
abbrev pub IsNearLine : MapLine → Type 0
IsNearLine Unreached = Unit {0}
IsNearLine (Reached count) = count < 2 ^ 32
IsNearLine (Placed at cell) = (at < 2 ^ 32) × IsNearCell cell
