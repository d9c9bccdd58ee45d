-- The systems over intervals of regular programs.
use Rattle.std.specs.Prelude.{◌≡◌, ◌≤◌, ℤ, true, nat_le, List, length}
use Rattle.std.proofs.Common.{arith}
use Rattle.std.proofs.lemmas.Bool.{and_parts, leb-true}
use Rattle.c_layout.specs.StructViews.{structs_view}
use Rattle.cc_base.specs.Machine.{IsMonotone}
use Rattle.cc_base.specs.Standard.{standard_limits}
use Rattle.cc_base.specs.declared.limit_table.Limits.{Limits}
use Rattle.cfg.specs.WellFormed.{is_well_formed}
use Rattle.cfg.specs.declared.programs.Flow.{Flow}
use Rattle.interval_domain.specs.Intervals.IntervalLattice.{interval_lattice, interval_order}
use Rattle.interval_domain.specs.Intervals.IntervalNumbers.{interval_numbers, interval_bounding, interval_ranges}
use Rattle.domain_theorems.specs.Intervals.Operations.{interval_monotone}
use Rattle.value_domain.specs.Values.Cells.{cell_lattice}
use Rattle.store_monotone.proofs.layouts.LaidApart.{apart_spread}
use Rattle.system_monotone.specs.StructCopies.SpreadStructs.{AreSpread}
use Rattle.transfer_system.specs.BoundedRows.OwnRows.{program_bases}
use Rattle.transfer_system.specs.System.FlowMachines.{flow_machine}
use Rattle.transfer_monotone.specs.Edges.ProgramLaws.{AreRising}
use Rattle.transfer_system.specs.System.RegularPrograms.{has_apart_members, is_regular}
use Rattle.system_monotone.proofs.systems.WellFormed.{well_made, has_model, laid_out}
use Rattle.system_monotone.proofs.systems.Sites.{all_sites}
use Rattle.system_monotone.proofs.systems.AllCalls.{all_rise}
use Rattle.system_monotone.proofs.systems.IntervalSystems.{rising_monotone}
use Rattle.system_monotone.proofs.systems.RegularPrograms.{regular_of}

few_bases : (limits : Limits) (flow : Flow) → is_well_formed limits flow ≡ true → length flow.bases.items ≤ limits.bases
few_bases limits flow h =
    let a = and_parts (nat_le flow.temps limits.temps) _ (well_made limits flow h).within in
    leb-true (length flow.bases.items) limits.bases (and_parts (nat_le (length flow.bases.items) limits.bases) _ a.1).0

-- structs whose members stand apart have leaves that share no bytes
pub apart_members : (limits : Limits) (flow : Flow) → is_well_formed limits flow ≡ true → has_apart_members flow ≡ true → AreSpread flow
apart_members limits flow h apart = record { each = λ index s e. apart_spread flow.model (has_model limits flow h) (structs_view flow.structs) apart index s e }

module _ (flow : Flow) (list : List ℤ) (h : is_regular flow list ≡ true) where
  pub regular_rising : AreRising interval_lattice interval_numbers (program_bases (length flow.bases.items)) flow
  regular_rising =
      let p = regular_of flow list h in
      all_rise interval_order interval_bounding interval_monotone interval_ranges (program_bases (length flow.bases.items)) flow (laid_out standard_limits flow p.well_formed (omega arith))
      (all_sites standard_limits flow p.well_formed (few_bases standard_limits flow p.well_formed)) (well_made standard_limits flow p.well_formed).laid (λ block at b i q e c. apart_members standard_limits flow p.well_formed p.apart)

  pub regular_monotone : IsMonotone (cell_lattice interval_lattice) (flow_machine interval_lattice interval_numbers flow list)
  regular_monotone =
      let p = regular_of flow list h in
      rising_monotone standard_limits flow list p.well_formed (omega arith) p.scalars p.near regular_rising
