-- Rows that are made a program's own stand for what they stood for.
use Rattle.std.specs.Prelude.{◌≡◌, ◌-◌, ◌^◌, ◌≤◌, ℤ, pos, negsuc, List, length, Some}
use Rattle.cc_base.specs.Lattices.{LatticeOf}
use Rattle.cc_base.specs.IntegerDomains.{IntegersOf}
use Rattle.cfg.specs.declared.programs.Flow.{Flow}
use Rattle.value_domain.specs.declared.values.row_cells.Cell.{Cell}
use Rattle.store_objects.specs.LiveBases.{most_bases}
use Rattle.store_sound.specs.Concretization.ValueMeaning.{Naming}
use Rattle.store_sound.specs.Concretization.RowMeaning.{MachineState, InGamma}
use Rattle.transfer_system.specs.BoundedRows.FittedRows.{list_ends, row_fit}
use Rattle.transfer_system.specs.BoundedRows.OwnRows.{program_bases}
use Rattle.transfer_monotone.specs.Values.LaidOut.{IsLaidOut}

-- the list begins at -2^64 and ends at 2^64
abbrev pub IsWide : List ℤ → Type 0
IsWide list = list_ends list ≡ Some (negsuc (2 ^ 64 - 1), pos (2 ^ 64))

module _ {I : Type 0} (l : LatticeOf I) (n : IntegersOf I) (gamma : I → ℤ → Type 0) (flow : Flow) where
  -- any row of the program's width, whatever cells and bounds it has
  abbrev pub FittedRowsStandForMore : List ℤ → Type 0
  FittedRowsStandForMore list = IsWide list → IsLaidOut (program_bases (length flow.bases.items)) flow → length flow.bases.items ≤ most_bases
      → (row : List (Cell I)) (naming : Naming) (s : MachineState) → length row ≡ flow.width → InGamma l n gamma flow naming row s → InGamma l n gamma flow naming (row_fit l n list flow.bases.items flow.width row) s
