-- The systems over intervals of well-formed programs.
use Rattle.std.specs.Prelude.{◌≡◌, ◌^◌, ◌≤◌, ◌<◌, ℤ, true, List, length}
use Rattle.cc_base.specs.Machine.{IsMonotone}
use Rattle.cc_base.specs.declared.limit_table.Limits.{Limits}
use Rattle.cfg.specs.WellFormed.{is_well_formed}
use Rattle.cfg.specs.declared.programs.Flow.{Flow}
use Rattle.interval_domain.specs.Intervals.IntervalLattice.{interval_lattice, interval_order, interval_rounding, interval_heights}
use Rattle.interval_domain.specs.Intervals.IntervalNumbers.{interval_numbers, interval_bounding, interval_ranges}
use Rattle.domain_theorems.specs.Intervals.Operations.{interval_monotone}
use Rattle.value_domain.specs.Values.Cells.{cell_lattice}
use Rattle.transfer_system.specs.BoundedRows.IntervalEnds.{interval_ends}
use Rattle.transfer_system.specs.BoundedRows.OwnRows.{program_bases}
use Rattle.transfer_system.specs.System.FlowMachines.{flow_machine}
use Rattle.transfer_monotone.specs.Edges.ProgramLaws.{AreRising}
use Rattle.transfer_system.specs.BoundedRows.NearLists.{IsNearList}
use Rattle.transfer_monotone.proofs.edges.Systems.{system_monotone}
use Rattle.system_monotone.specs.Systems.Texts.{HasScalars}
use Rattle.system_monotone.specs.Systems.CopiedStructs.{CopiesSpread}
use Rattle.system_monotone.proofs.systems.WellFormed.{well_made, laid_out, all_named}
use Rattle.system_monotone.proofs.systems.Sites.{all_sites}
use Rattle.system_monotone.proofs.systems.AllCalls.{all_rise}

module _ (limits : Limits) (flow : Flow) (list : List ℤ) (h : is_well_formed limits flow ≡ true) (few : limits.pool < 2 ^ 64) (scalars : HasScalars flow) (near : IsNearList interval_lattice interval_numbers list) where
  pub rising_monotone : AreRising interval_lattice interval_numbers (program_bases (length flow.bases.items)) flow → IsMonotone (cell_lattice interval_lattice) (flow_machine interval_lattice interval_numbers flow list)
  rising_monotone rising = system_monotone interval_order interval_rounding interval_heights interval_bounding interval_monotone interval_ranges interval_ends flow list near (laid_out limits flow h few) (all_named limits flow h scalars) rising

  pub spread_monotone : length flow.bases.items ≤ 1016 → CopiesSpread flow → IsMonotone (cell_lattice interval_lattice) (flow_machine interval_lattice interval_numbers flow list)
  spread_monotone bases spread = rising_monotone (all_rise interval_order interval_bounding interval_monotone interval_ranges (program_bases (length flow.bases.items)) flow (laid_out limits flow h few) (all_sites limits flow h bases) (well_made limits flow h).laid spread)
