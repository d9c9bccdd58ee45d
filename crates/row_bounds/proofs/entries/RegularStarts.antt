-- Regular programs begin with own rows of intervals.
use Rattle.std.specs.Prelude.{◌≡◌, ◌≤◌, ◌↔◌, ℤ, true, nat_le, Option, List, length}
use Rattle.std.proofs.Common.{arith, sym, subst, ap}
use Rattle.std.proofs.lemmas.Bool.{and_parts, leb-true}
use Rattle.cc_base.specs.InductiveMap.{IsInductive}
use Rattle.cc_base.specs.Machine.{Machine}
use Rattle.cc_base.specs.Standard.{standard_limits}
use Rattle.cfg.specs.WellFormed.{is_well_formed}
use Rattle.cfg.specs.declared.programs.Flow.{Flow}
use Rattle.interval_domain.specs.declared.intervals.intervals.Interval.{Interval}
use Rattle.interval_domain.specs.Intervals.IntervalLattice.{interval_lattice, interval_order, interval_rounding, interval_heights}
use Rattle.interval_domain.specs.Intervals.IntervalNumbers.{interval_numbers, interval_bounding, interval_ranges}
use Rattle.domain_theorems.specs.Intervals.Operations.{interval_monotone}
use Rattle.value_domain.specs.Values.Cells.{cell_lattice}
use Rattle.value_domain.specs.declared.values.row_cells.Cell.{Cell}
use Rattle.transfer_system.specs.BoundedRows.IntervalEnds.{interval_ends}
use Rattle.transfer_system.specs.System.FlowMachines.{has_start, known_start, flow_machine}
use Rattle.transfer_system.specs.System.RegularPrograms.{is_regular}
use Rattle.system_monotone.proofs.systems.RegularPrograms.{Regular, regular_of}
use Rattle.system_monotone.proofs.systems.WellFormed.{well_made}
use Rattle.row_bounds.specs.Edges.OwnLists.{ReachesTypes}
use Rattle.row_bounds.specs.Edges.PlainSystems.{plain_machine}
use Rattle.row_bounds.proofs.edges.IntervalSystems.{regular_inductive}
use Rattle.row_bounds.specs.Entries.StartLaws.{StartsOwn, FitsNoStart}
use Rattle.row_bounds.specs.Entries.UnfittedSystems.{unfitted_machine}
use Rattle.row_bounds.proofs.entries.OwnStarts.{start_own, start_fits_nothing}

few_bases : (flow : Flow) → is_well_formed standard_limits flow ≡ true → length flow.bases.items ≤ 1016
few_bases flow h =
    let a = and_parts (nat_le flow.temps standard_limits.temps) _ (well_made standard_limits flow h).within in
    leb-true (length flow.bases.items) 1016 (and_parts (nat_le (length flow.bases.items) standard_limits.bases) _ a.1).0

module _ (flow : Flow) (list : List ℤ) (h : is_regular flow list ≡ true) (reaches : ReachesTypes list) where
  regular : Regular flow list
  regular = regular_of flow list h

  pub regular_own : StartsOwn interval_lattice interval_numbers flow list
  regular_own row left e q =
      start_own interval_order interval_rounding interval_heights interval_bounding interval_monotone interval_ranges
      interval_ends standard_limits flow list regular.well_formed (omega arith) (few_bases flow regular.well_formed)
      regular.initial regular.near reaches row left e q

  pub regular_fits : FitsNoStart interval_lattice interval_numbers flow list
  regular_fits s =
      start_fits_nothing interval_order interval_rounding interval_heights interval_bounding interval_monotone
      interval_ranges interval_ends standard_limits flow list regular.well_formed (omega arith)
      (few_bases flow regular.well_formed) regular.initial regular.near reaches s

  -- the inductive maps are those of the system without any fit
  abbrev IsClosed : Machine (Cell Interval) → List (Option (List (Cell Interval))) → Type 0
  IsClosed m rows = IsInductive (cell_lattice interval_lattice) m rows

  pub regular_maps : has_start interval_lattice interval_numbers flow ≡ true
      → (rows : List (Option (List (Cell Interval))))
      → IsClosed (flow_machine interval_lattice interval_numbers flow list) rows
      ↔ IsClosed (unfitted_machine interval_lattice interval_numbers flow list) rows
  regular_maps s rows =
      let plain = plain_machine interval_lattice interval_numbers flow list in
      subst (λ start. IsClosed (flow_machine interval_lattice interval_numbers flow list) rows
      ↔ IsClosed (record plain { start = start }) rows) (sym (ap (known_start flow.width) (regular_fits s)))
      (regular_inductive flow list h reaches rows)
