-- The systems over intervals of regular programs fit nothing.
use Rattle.std.specs.Prelude.{◌≡◌, ◌↔◌, ℕ, ℤ, true, Option, List}
use Rattle.std.proofs.Common.{arith}
use Rattle.cc_base.specs.InductiveMap.{IsInductive}
use Rattle.cc_base.specs.Standard.{standard_limits}
use Rattle.cfg.specs.declared.programs.Flow.{Flow}
use Rattle.interval_domain.specs.declared.intervals.intervals.Interval.{Interval}
use Rattle.interval_domain.specs.Intervals.IntervalLattice.{interval_lattice, interval_order, interval_rounding, interval_heights}
use Rattle.interval_domain.specs.Intervals.IntervalNumbers.{interval_numbers, interval_bounding, interval_ranges}
use Rattle.domain_theorems.specs.Intervals.Operations.{interval_monotone}
use Rattle.value_domain.specs.declared.values.row_cells.Cell.{Cell}
use Rattle.value_domain.specs.Values.Cells.{cell_lattice}
use Rattle.transfer_system.specs.BoundedRows.IntervalEnds.{interval_ends}
use Rattle.transfer_system.specs.BoundedRows.OwnRows.{is_own_row}
use Rattle.transfer_system.specs.System.BlockPasses.{edge_end}
use Rattle.transfer_system.specs.System.FlowMachines.{edge_at, through, flow_machine}
use Rattle.transfer_system.specs.System.RegularPrograms.{is_regular}
use Rattle.system_monotone.proofs.systems.WellFormed.{laid_out, all_named}
use Rattle.system_monotone.proofs.systems.RegularPrograms.{regular_of}
use Rattle.system_monotone.proofs.systems.RegularSystems.{regular_rising}
use Rattle.row_bounds.specs.Edges.OwnLists.{ReachesTypes}
use Rattle.row_bounds.specs.Edges.PlainSystems.{plain_machine}
use Rattle.row_bounds.proofs.edges.OwnEdges.{fit_nothing, plain_inductive}

module _ (flow : Flow) (list : List ℤ) (h : is_regular flow list ≡ true) (reaches : ReachesTypes list) where
  pub regular_fit_nothing : (number : ℕ) (row : List (Cell Interval)) → is_own_row interval_lattice interval_numbers list flow.bases.items flow.width row ≡ true
      → through interval_lattice interval_numbers flow list number row ≡ edge_end interval_lattice interval_numbers flow (edge_at flow.edges.items number).from number row
  regular_fit_nothing number row own =
      let p = regular_of flow list h in
      fit_nothing interval_order interval_rounding interval_heights interval_bounding interval_monotone interval_ranges interval_ends flow list p.near reaches (laid_out standard_limits flow p.well_formed (omega arith)) (all_named standard_limits flow p.well_formed p.scalars) (regular_rising flow list h) number row own

  pub regular_inductive : (rows : List (Option (List (Cell Interval)))) → IsInductive (cell_lattice interval_lattice) (flow_machine interval_lattice interval_numbers flow list) rows ↔ IsInductive (cell_lattice interval_lattice) (plain_machine interval_lattice interval_numbers flow list) rows
  regular_inductive rows =
      let p = regular_of flow list h in
      plain_inductive interval_order interval_rounding interval_heights interval_bounding interval_monotone interval_ranges interval_ends flow list p.near reaches (laid_out standard_limits flow p.well_formed (omega arith)) (all_named standard_limits flow p.well_formed p.scalars) (regular_rising flow list h) rows
