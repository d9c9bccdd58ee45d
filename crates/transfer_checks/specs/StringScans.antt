-- The scan of a string argument for its closing zero.
use Rattle.std.specs.Prelude.{ℕ, ℤ, pos, ◌-ℤ◌, Bool, true, false, cond, Option, Some, None, is_some, List}
use Rattle.std.specs.Int.{w128, saturate_signed}
use Rattle.cc_base.specs.Lattices.{LatticeOf}
use Rattle.cc_base.specs.IntegerDomains.{IntegersOf, of_range}
use Rattle.cc_base.specs.NumberRanges.{range_met, upper_or}
use Rattle.c_layout.specs.declared.shapes.BaseInfo.{BaseInfo}
use Rattle.pointer_domain.specs.declared.base_sets.Bases.{Bases}
use Rattle.pointer_domain.specs.declared.pointer_sets.Pointers.{Pointers}
use Rattle.pointer_domain.specs.BaseSets.{no_base, bases_union}
use Rattle.pointer_domain.specs.PointerTables.{offsets, rooms}
use Rattle.value_domain.specs.Strings.ZeroTables.{scanned}
use Rattle.value_domain.specs.declared.values.row_cells.Cell.{Cell}
use Rattle.store.specs.Window.{Window}
use Rattle.store.specs.AccessWindows.{window_within}
use Rattle.store.specs.NearValues.{near_number}
use Rattle.store.specs.RowPositions.{zero_at, zero_position}
use Rattle.store.specs.FirstZeroWrites.{covering_part, offsets_of}
use Rattle.store.specs.LiveBases.{has_base, only_base}
use Rattle.store.specs.Walks.{walk}
use Rattle.transfer_checks.specs.declared.string_scans.Scanned.{Scanned}
use Rattle.transfer_checks.specs.declared.string_scans.OneScan.{OneScan}

-- the bases, with one more if its end is unknown
abbrev pub unknown_in : Bases → ℕ → Bool → Bases
unknown_in found number unknown = cond unknown (bases_union found (only_base number)) found

module _ {I : Type 0} where
  abbrev pub scan_start : IntegersOf I → Pointers I → Option Window
  scan_start n p = window_within (offsets n p)

  -- the last byte of the room
  abbrev pub last_of_room : IntegersOf I → Pointers I → ℤ
  last_of_room n p = saturate_signed w128 (upper_or (pos 0) (rooms n p) -ℤ pos 1)

  -- the lengths that a string may have where its end is unknown
  abbrev pub unknown_length : LatticeOf I → IntegersOf I → Pointers I → I
  unknown_length l n p = near_number l n (of_range l n (range_met (Some (pos 0, last_of_room n p)) (pos 0) (last_of_room n p)))

  abbrev pub length_in : LatticeOf I → IntegersOf I → BaseInfo → List (Cell I) → Pointers I → ℕ × Window → Option I
  length_in l n base row p part = scanned l n (zero_at l n row (zero_position base part.0)) (offsets_of l n part.1) (near_number l n (of_range l n (rooms n p))) p.part

  abbrev pub length_at : LatticeOf I → IntegersOf I → BaseInfo → List (Cell I) → Pointers I → Option (ℕ × Window) → Option I
  length_at l n base row p None = None
  length_at l n base row p (Some part) = length_in l n base row p part

  abbrev pub length_from : LatticeOf I → IntegersOf I → BaseInfo → List (Cell I) → Pointers I → Option Window → Option I
  length_from l n base row p None = None
  length_from l n base row p (Some start) = length_at l n base row p (covering_part base start)

  -- the length up to a known first zero of the base
  unfoldable pub known_length : LatticeOf I → IntegersOf I → BaseInfo → List (Cell I) → Pointers I → Option I
  known_length l n base row p = length_from l n base row p (scan_start n p)

  abbrev pub known_or : LatticeOf I → IntegersOf I → Pointers I → Option I → OneScan I
  known_or l n p None = record { length = unknown_length l n p; unknown = true }
  known_or l n p (Some length) = record { length = length; unknown = false }

  unfoldable pub scan_base : LatticeOf I → IntegersOf I → BaseInfo → List (Cell I) → Pointers I → OneScan I
  scan_base l n base row p = known_or l n p (known_length l n base row p)

  abbrev pub goes_on_in : IntegersOf I → Bases → ℕ → I → Bases
  goes_on_in n found number length = cond (is_some (n.bounds length)) (bases_union found (only_base number)) found

  abbrev pub with_base : LatticeOf I → IntegersOf I → Scanned I → ℕ → OneScan I → Scanned I
  with_base l n found number one = record { length = l.join found.length one.length; bases = goes_on_in n found.bases number one.length; unknown = unknown_in found.unknown number one.unknown }

  unfoldable pub with_base_if : LatticeOf I → IntegersOf I → List (Cell I) → Pointers I → Bool → ℕ → BaseInfo → Scanned I → Scanned I
  with_base_if l n row p wanted number base found = cond wanted (with_base l n found number (scan_base l n base row p)) found

  abbrev pub scan_more : LatticeOf I → IntegersOf I → List (Cell I) → Pointers I → BaseInfo → ℕ → Scanned I → Scanned I
  scan_more l n row p base number found = with_base_if l n row p (has_base p.bases number) number base found

  abbrev pub nothing_scanned : LatticeOf I → Scanned I
  nothing_scanned l = record { length = l.least; bases = no_base; unknown = no_base }

  -- base by base
  unfoldable pub scan_bases : LatticeOf I → IntegersOf I → List BaseInfo → List (Cell I) → Pointers I → Scanned I
  scan_bases l n bases row p = walk (scan_more l n row p) 0 bases (nothing_scanned l)

  abbrev pub near_scanned : LatticeOf I → IntegersOf I → Scanned I → Scanned I
  near_scanned l n found = record found { length = near_number l n found.length }

  unfoldable pub scan : LatticeOf I → IntegersOf I → List BaseInfo → List (Cell I) → Pointers I → Scanned I
  scan l n bases row p = near_scanned l n (scan_bases l n bases row p)
