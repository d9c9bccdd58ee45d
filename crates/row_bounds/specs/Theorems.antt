-- What the theorems on bounds of rows say.
use Rattle.cc_base.specs.Lattices.{LatticeOf}
use Rattle.cc_base.specs.IntegerDomains.{IntegersOf}
use Rattle.std.specs.Prelude.{ℕ, ℤ, true, Some, List, length, ◌≡◌, Option, ◌↔◌, ◌≤◌, ◌<◌, ◌^◌, [], ◌≤ℤ◌}
use Rattle.cc_base.specs.IntegerLaws.{MonotoneLaws}
use Rattle.cfg.specs.declared.programs.Flow.{Flow}
use Rattle.value_domain.specs.declared.values.row_cells.Cell.{Cell}
use Rattle.transfer_system.specs.BoundedRows.OwnRows.{program_bases, is_own_row}
use Rattle.transfer_system.specs.System.BlockPasses.{edge_end}
use Rattle.system_monotone.specs.LaidOut.{IsLaidOut}
use Rattle.system_monotone.specs.ProgramLaws.{IsNamed, AreRising}
use Rattle.transfer_system.specs.BoundedRows.NearLists.{IsNearList}
use Rattle.row_bounds.specs.Edges.OwnLists.{ReachesTypes}
use Rattle.transfer_system.specs.System.FlowMachines.{edge_at, through, flow_machine, has_start}
use Rattle.cc_base.specs.InductiveMap.{IsInductive}
use Rattle.value_domain.specs.Values.Cells.{cell_lattice}
use Rattle.row_bounds.specs.Edges.PlainSystems.{plain_machine}
use Rattle.cc_base.specs.declared.limit_table.Limits.{Limits}
use Rattle.cfg.specs.WellFormed.{is_well_formed}
use Rattle.system_monotone.specs.Systems.Texts.{HasScalars}
use Rattle.system_monotone.specs.Systems.CopiedStructs.{CopiesSpread}
use Rattle.cfg.specs.Nearest.{AreThresholds}
use Rattle.cfg.specs.StructNumbers.{flow_numbers}
use Rattle.cfg.specs.ThresholdNumbers.{limits_of}
use Rattle.interval_domain.specs.declared.intervals.intervals.Interval.{Interval}
use Rattle.interval_domain.specs.Intervals.IntervalLattice.{interval_lattice}
use Rattle.interval_domain.specs.Intervals.IntervalNumbers.{interval_numbers}
use Rattle.transfer_system.specs.System.RegularPrograms.{is_regular, has_initial_bytes}
use Rattle.row_bounds.specs.Edges.ShortLists.{short_list, row_of, minus_one}
use Rattle.transfer_system.specs.BoundedRows.FittedRows.{row_fit}
use Rattle.row_bounds.specs.Entries.StartLaws.{StartsOwn, FitsNoStart}
use Rattle.row_bounds.specs.Entries.UnfittedSystems.{unfitted_machine}
use Rattle.row_bounds.specs.Entries.CutStarts.{type_list, IsCutAtStart, IsWithoutStart}
use Rattle.row_bounds.specs.Stores.Floors.{least_number}
use Rattle.row_bounds.specs.Steps.StepFloors.{StepsKeepFloors}
use Rattle.c_layout.specs.declared.data_model.Model.{Model}
use Rattle.c_layout.specs.declared.shapes.BaseInfo.{BaseInfo}
use Rattle.row_bounds.specs.Stores.StoreFloors.{AccessesKeepFloors, ObjectsKeepFloors}

module _ {I : Type 0} (l : LatticeOf I) (n : IntegersOf I) where
  abbrev pub EdgesLeaveOwnRows : Type 0
  EdgesLeaveOwnRows = MonotoneLaws l n → (flow : Flow) (list : List ℤ) → IsNearList l n list → ReachesTypes list → IsLaidOut (program_bases (length flow.bases.items)) flow → IsNamed flow → AreRising l n (program_bases (length flow.bases.items)) flow → (block number : ℕ) (row left : List (Cell I)) → is_own_row l n list flow.bases.items flow.width row ≡ true → edge_end l n flow block number row ≡ Some left → is_own_row l n list flow.bases.items flow.width left ≡ true

  abbrev pub FitsChangeNoEdge : Type 0
  FitsChangeNoEdge = MonotoneLaws l n → (flow : Flow) (list : List ℤ) → IsNearList l n list → ReachesTypes list → IsLaidOut (program_bases (length flow.bases.items)) flow → IsNamed flow → AreRising l n (program_bases (length flow.bases.items)) flow → (number : ℕ) (row : List (Cell I)) → is_own_row l n list flow.bases.items flow.width row ≡ true → through l n flow list number row ≡ edge_end l n flow (edge_at flow.edges.items number).from number row

  abbrev pub FitsChangeNoMap : Type 0
  FitsChangeNoMap = MonotoneLaws l n → (flow : Flow) (list : List ℤ) → IsNearList l n list → ReachesTypes list → IsLaidOut (program_bases (length flow.bases.items)) flow → IsNamed flow → AreRising l n (program_bases (length flow.bases.items)) flow → (rows : List (Option (List (Cell I)))) → IsInductive (cell_lattice l) (flow_machine l n flow list) rows ↔ IsInductive (cell_lattice l) (plain_machine l n flow list) rows

  abbrev pub ProgramsLeaveNothingToFit : Type 0
  ProgramsLeaveNothingToFit = MonotoneLaws l n → (limits : Limits) (flow : Flow) (list : List ℤ) → is_well_formed limits flow ≡ true → limits.pool < 2 ^ 64 → length flow.bases.items ≤ 1016 → HasScalars flow → IsNearList l n list → ReachesTypes list → CopiesSpread flow → (block number : ℕ) (row left : List (Cell I)) → is_own_row l n list flow.bases.items flow.width row ≡ true → edge_end l n flow block number row ≡ Some left → is_own_row l n list flow.bases.items flow.width left ≡ true

  abbrev pub ProgramsFitNoEdge : Type 0
  ProgramsFitNoEdge = MonotoneLaws l n → (limits : Limits) (flow : Flow) (list : List ℤ) → is_well_formed limits flow ≡ true → limits.pool < 2 ^ 64 → length flow.bases.items ≤ 1016 → HasScalars flow → IsNearList l n list → ReachesTypes list → CopiesSpread flow → (number : ℕ) (row : List (Cell I)) → is_own_row l n list flow.bases.items flow.width row ≡ true → through l n flow list number row ≡ edge_end l n flow (edge_at flow.edges.items number).from number row

  abbrev pub ProgramsFitNoMap : Type 0
  ProgramsFitNoMap = MonotoneLaws l n → (limits : Limits) (flow : Flow) (list : List ℤ) → is_well_formed limits flow ≡ true → limits.pool < 2 ^ 64 → length flow.bases.items ≤ 1016 → HasScalars flow → IsNearList l n list → ReachesTypes list → CopiesSpread flow → (rows : List (Option (List (Cell I)))) → IsInductive (cell_lattice l) (flow_machine l n flow list) rows ↔ IsInductive (cell_lattice l) (plain_machine l n flow list) rows

  abbrev pub ProgramsStartOwnOwn : Type 0
  ProgramsStartOwnOwn = MonotoneLaws l n → (limits : Limits) (flow : Flow) (list : List ℤ) → is_well_formed limits flow ≡ true → limits.pool < 2 ^ 64 → length flow.bases.items ≤ 1016 → has_initial_bytes flow ≡ true → IsNearList l n list → ReachesTypes list → StartsOwn l n flow list

  abbrev pub ProgramsStartOwnFits : Type 0
  ProgramsStartOwnFits = MonotoneLaws l n → (limits : Limits) (flow : Flow) (list : List ℤ) → is_well_formed limits flow ≡ true → limits.pool < 2 ^ 64 → length flow.bases.items ≤ 1016 → has_initial_bytes flow ≡ true → IsNearList l n list → ReachesTypes list → FitsNoStart l n flow list

  abbrev pub StepsKeepFloorsEverywhere : Type 0
  StepsKeepFloorsEverywhere = (floor : ℤ) → floor ≤ℤ least_number → (flow : Flow) → StepsKeepFloors l n floor flow

  abbrev pub AccessesKeepFloorsEverywhere : Type 0
  AccessesKeepFloorsEverywhere = (floor : ℤ) → floor ≤ℤ least_number → (m : Model) (bases : List BaseInfo) → AccessesKeepFloors l n floor m bases

  abbrev pub ObjectsKeepFloorsEverywhere : Type 0
  ObjectsKeepFloorsEverywhere = (floor : ℤ) → floor ≤ℤ least_number → (m : Model) (bases : List BaseInfo) → ObjectsKeepFloors l n floor m bases

abbrev pub ThresholdsReachTypes : Type 0
ThresholdsReachTypes = (limits : Limits) (flow : Flow) (list : List ℤ) → is_well_formed limits flow ≡ true → AreThresholds (limits_of flow.model) (flow_numbers flow) list → ReachesTypes list

abbrev pub RegularProgramsFitNoEdge : Type 0
RegularProgramsFitNoEdge = (flow : Flow) (list : List ℤ) → is_regular flow list ≡ true → ReachesTypes list → (number : ℕ) (row : List (Cell Interval)) → is_own_row interval_lattice interval_numbers list flow.bases.items flow.width row ≡ true → through interval_lattice interval_numbers flow list number row ≡ edge_end interval_lattice interval_numbers flow (edge_at flow.edges.items number).from number row

abbrev pub RegularProgramsFitNoMap : Type 0
RegularProgramsFitNoMap = (flow : Flow) (list : List ℤ) → is_regular flow list ≡ true → ReachesTypes list → (rows : List (Option (List (Cell Interval)))) → IsInductive (cell_lattice interval_lattice) (flow_machine interval_lattice interval_numbers flow list) rows ↔ IsInductive (cell_lattice interval_lattice) (plain_machine interval_lattice interval_numbers flow list) rows

abbrev pub ShortListsAreNear : Type 0
ShortListsAreNear = IsNearList interval_lattice interval_numbers short_list

abbrev pub ShortListsCutRows : Type 0
ShortListsCutRows = row_fit interval_lattice interval_numbers short_list [] 1 (row_of minus_one) ≡ row_of interval_lattice.least

abbrev pub StartRowsAreOwn : Type 0
StartRowsAreOwn = (flow : Flow) (list : List ℤ) → is_regular flow list ≡ true → ReachesTypes list → StartsOwn interval_lattice interval_numbers flow list

abbrev pub StartFitsChangeNothingRow : Type 0
StartFitsChangeNothingRow = (flow : Flow) (list : List ℤ) → is_regular flow list ≡ true → ReachesTypes list → FitsNoStart interval_lattice interval_numbers flow list

abbrev pub StartFitsChangeNoMap : Type 0
StartFitsChangeNoMap = (flow : Flow) (list : List ℤ) → is_regular flow list ≡ true → ReachesTypes list → has_start interval_lattice interval_numbers flow ≡ true → (rows : List (Option (List (Cell Interval)))) → IsInductive (cell_lattice interval_lattice) (flow_machine interval_lattice interval_numbers flow list) rows ↔ IsInductive (cell_lattice interval_lattice) (unfitted_machine interval_lattice interval_numbers flow list) rows

abbrev pub WideTextsReachTypes : Type 0
WideTextsReachTypes = ReachesTypes type_list

abbrev pub WideTextsAreCutInRows : Type 0
WideTextsAreCutInRows = Flow → (flow : Flow) × IsCutAtStart flow

abbrev pub RegularProgramsMayHaveNoStart : Type 0
RegularProgramsMayHaveNoStart = Flow → (flow : Flow) × IsWithoutStart flow
