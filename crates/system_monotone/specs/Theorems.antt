-- What the theorems on monotone systems say.
use Rattle.std.specs.Prelude.{ℤ, true, List, length, ◌≡◌, ◌<◌, ◌^◌, ◌≤◌, ℕ, Some}
use Rattle.cc_base.specs.declared.limit_table.Limits.{Limits}
use Rattle.cfg.specs.WellFormed.{is_well_formed, is_laid_out}
use Rattle.cfg.specs.declared.programs.Flow.{Flow}
use Rattle.interval_domain.specs.Intervals.IntervalLattice.{interval_lattice}
use Rattle.interval_domain.specs.Intervals.IntervalNumbers.{interval_numbers}
use Rattle.transfer_system.specs.BoundedRows.OwnRows.{program_bases, is_own_row, reach_of}
use Rattle.transfer_monotone.specs.Edges.ProgramLaws.{AreRising, IsNamed}
use Rattle.transfer_system.specs.BoundedRows.NearLists.{IsNearList}
use Rattle.system_monotone.specs.Systems.Texts.{HasScalars}
use Rattle.system_monotone.specs.Diagnostics.LeastMaps.{AdmitsLeast}
use Rattle.transfer_system.specs.System.RegularPrograms.{is_regular, has_apart_members}
use Rattle.cc_base.specs.Lattices.{LatticeOf}
use Rattle.cc_base.specs.IntegerDomains.{IntegersOf}
use Rattle.cc_base.specs.IntegerLaws.{MonotoneLaws}
use Rattle.pointer_domain.specs.declared.base_sets.Bases.{Bases}
use Rattle.transfer_monotone.specs.Values.LaidOut.{IsLaidOut}
use Rattle.system_monotone.specs.LibraryWrites.TextOrder.{TextsRise, OneTextRises}
use Rattle.system_monotone.specs.LibraryWrites.TextCalls.{TextCallsRise}
use Rattle.transfer_monotone.specs.Edges.CallLaws.{LineRises, CallRises, CopyRises}
use Rattle.c_layout.specs.declared.library_functions.LibFn.TheVariants.{Memset}
use Rattle.system_monotone.specs.LibraryWrites.CopyOrder.{CopiesRise}
use Rattle.system_monotone.specs.LibraryWrites.MemoryCalls.{MemoryCallsRise}
use Rattle.system_monotone.specs.StructCopies.SpreadStructs.{AreSpread}
use Rattle.cc_base.specs.Machine.{IsMonotone}
use Rattle.value_domain.specs.Values.Cells.{cell_lattice}
use Rattle.transfer_system.specs.System.FlowMachines.{flow_machine}
use Rattle.system_monotone.specs.Systems.CopiedStructs.{CopiesSpread}
use Rattle.cc_base.specs.Ascending.{is_ascending}
use Rattle.cfg.specs.Nearest.{AreThresholds}
use Rattle.cfg.specs.StructNumbers.{flow_numbers}
use Rattle.cfg.specs.ThresholdNumbers.{limits_of}
use Rattle.system_monotone.specs.Systems.NearNumbers.{HasNearMembers}
use Rattle.value_domain.specs.declared.values.row_cells.Cell.{Cell}
use Rattle.transfer_system.specs.System.BlockPasses.{edge_end}
use Rattle.system_monotone.specs.Systems.ProgramRows.{IsProgramRow, AreCut}
use Rattle.transfer_system.specs.BoundedRows.FittedRows.{row_fit}

abbrev pub LeastMapsOfProgramsAdmitLeast : Type 0
LeastMapsOfProgramsAdmitLeast = (limits : Limits) (flow : Flow) (list : List ℤ) → is_well_formed limits flow ≡ true → limits.pool < 2 ^ 64 → HasScalars flow → IsNearList interval_lattice interval_numbers list → AreRising interval_lattice interval_numbers (program_bases (length flow.bases.items)) flow → AdmitsLeast flow list

abbrev pub LeastMapsOfRegularProgramsAdmitLeast : Type 0
LeastMapsOfRegularProgramsAdmitLeast = (flow : Flow) (list : List ℤ) → is_regular flow list ≡ true → AdmitsLeast flow list

abbrev pub WellFormedProgramsAreLaidOut : Type 0
WellFormedProgramsAreLaidOut = (limits : Limits) (flow : Flow) → is_well_formed limits flow ≡ true → limits.pool < 2 ^ 64 → IsLaidOut (program_bases (length flow.bases.items)) flow

abbrev pub ThresholdsAreNear : Type 0
ThresholdsAreNear = (limits : Limits) (flow : Flow) (list : List ℤ) → is_well_formed limits flow ≡ true → HasNearMembers flow → AreThresholds (limits_of flow.model) (flow_numbers flow) list → is_ascending list ≡ true → IsNearList interval_lattice interval_numbers list

abbrev pub IntervalSystemsAreMonotone : Type 0
IntervalSystemsAreMonotone = (limits : Limits) (flow : Flow) (list : List ℤ) → is_well_formed limits flow ≡ true → limits.pool < 2 ^ 64 → HasScalars flow → IsNearList interval_lattice interval_numbers list → AreRising interval_lattice interval_numbers (program_bases (length flow.bases.items)) flow → IsMonotone (cell_lattice interval_lattice) (flow_machine interval_lattice interval_numbers flow list)

abbrev pub SpreadIntervalSystemsAreMonotone : Type 0
SpreadIntervalSystemsAreMonotone = (limits : Limits) (flow : Flow) (list : List ℤ) → is_well_formed limits flow ≡ true → limits.pool < 2 ^ 64 → length flow.bases.items ≤ 1016 → HasScalars flow → IsNearList interval_lattice interval_numbers list → CopiesSpread flow → IsMonotone (cell_lattice interval_lattice) (flow_machine interval_lattice interval_numbers flow list)

abbrev pub ApartMembersAreSpread : Type 0
ApartMembersAreSpread = (limits : Limits) (flow : Flow) → is_well_formed limits flow ≡ true → has_apart_members flow ≡ true → AreSpread flow

abbrev pub RegularProgramsAreMonotone : Type 0
RegularProgramsAreMonotone = (flow : Flow) (list : List ℤ) → is_regular flow list ≡ true → IsMonotone (cell_lattice interval_lattice) (flow_machine interval_lattice interval_numbers flow list)

module _ {I : Type 0} (l : LatticeOf I) (n : IntegersOf I) where
  abbrev pub TextWritesOfBothAreMonotone : Type 0
  TextWritesOfBothAreMonotone = MonotoneLaws l n → (all : Bases) (flow : Flow) → IsLaidOut all flow → TextsRise l n all flow

  abbrev pub LoneTextWritesAreMonotone : Type 0
  LoneTextWritesAreMonotone = MonotoneLaws l n → (all : Bases) (flow : Flow) → IsLaidOut all flow → OneTextRises l n all flow

  abbrev pub TextCallsAreMonotone : Type 0
  TextCallsAreMonotone = MonotoneLaws l n → (all : Bases) (flow : Flow) → IsLaidOut all flow → TextCallsRise l n all flow

  abbrev pub LineCallsAreMonotone : Type 0
  LineCallsAreMonotone = MonotoneLaws l n → (all : Bases) (flow : Flow) → IsLaidOut all flow → LineRises l n all flow

  abbrev pub FillsAreMonotone : Type 0
  FillsAreMonotone = MonotoneLaws l n → (all : Bases) (flow : Flow) → IsLaidOut all flow → CallRises l n all flow Memset

  abbrev pub CopiesAreMonotone : Type 0
  CopiesAreMonotone = MonotoneLaws l n → (all : Bases) (flow : Flow) → IsLaidOut all flow → CopiesRise l n all flow

  abbrev pub MemoryCallsAreMonotone : Type 0
  MemoryCallsAreMonotone = MonotoneLaws l n → (all : Bases) (flow : Flow) → IsLaidOut all flow → MemoryCallsRise l n all flow

  abbrev pub StructCopiesAreMonotone : Type 0
  StructCopiesAreMonotone = MonotoneLaws l n → (all : Bases) (flow : Flow) → IsLaidOut all flow → is_laid_out flow ≡ true → AreSpread flow → CopyRises l n all flow

  abbrev pub WellFormedProgramsAreMonotone : Type 0
  WellFormedProgramsAreMonotone = MonotoneLaws l n → (limits : Limits) (flow : Flow) (list : List ℤ) → is_well_formed limits flow ≡ true → limits.pool < 2 ^ 64 → HasScalars flow → IsNearList l n list → AreRising l n (program_bases (length flow.bases.items)) flow → IsMonotone (cell_lattice l) (flow_machine l n flow list)

  abbrev pub ProgramsAreMonotone : Type 0
  ProgramsAreMonotone = MonotoneLaws l n → (limits : Limits) (flow : Flow) (list : List ℤ) → is_well_formed limits flow ≡ true → limits.pool < 2 ^ 64 → length flow.bases.items ≤ 1016 → HasScalars flow → IsNearList l n list → CopiesSpread flow → IsMonotone (cell_lattice l) (flow_machine l n flow list)

  abbrev pub EdgesLeaveProgramRows : Type 0
  EdgesLeaveProgramRows = MonotoneLaws l n → (flow : Flow) (list : List ℤ) → IsNearList l n list → IsLaidOut (program_bases (length flow.bases.items)) flow → IsNamed flow → AreRising l n (program_bases (length flow.bases.items)) flow → (block number : ℕ) (row left : List (Cell I)) → is_own_row l n list flow.bases.items flow.width row ≡ true → edge_end l n flow block number row ≡ Some left → IsProgramRow l n flow left

  abbrev pub EdgesKeepProgramRows : Type 0
  EdgesKeepProgramRows = MonotoneLaws l n → (flow : Flow) (list : List ℤ) → IsNearList l n list → IsLaidOut (program_bases (length flow.bases.items)) flow → (row : List (Cell I)) → IsProgramRow l n flow row → AreCut l list (reach_of l n list (length flow.bases.items)) row → row_fit l n list flow.bases.items flow.width row ≡ row
