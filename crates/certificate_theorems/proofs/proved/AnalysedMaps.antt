-- The inductive maps of a regular program's system are closed maps of the system of its certificates.
use Rattle.std.specs.Prelude.{◌≡◌, ◌-◌, ◌^◌, ℕ, ℤ, pos, negsuc, true, Option, Some, None, List, replicate, refl}
use Rattle.std.proofs.Common.{arith, sym, subst, ap, ◌∙◌}
use Rattle.cc_base.specs.InductiveMap.{IsOwn, row_at, step}
use Rattle.cc_base.specs.Rows.{reached_leq}
use Rattle.cc_base.specs.Standard.{standard_limits}
use Rattle.cfg.specs.declared.programs.Flow.{Flow}
use Rattle.interval_domain.specs.declared.intervals.intervals.Interval.{Interval}
use Rattle.interval_domain.specs.Intervals.IntervalLattice.{interval_lattice, interval_order, interval_rounding, interval_heights}
use Rattle.interval_domain.specs.Intervals.IntervalNumbers.{interval_numbers, interval_bounding, interval_ranges}
use Rattle.domain_theorems.specs.Intervals.Operations.{interval_monotone}
use Rattle.value_domain.specs.declared.values.row_cells.Cell.{Cell}
use Rattle.value_domain.specs.declared.values.row_cells.Cell.TheVariants.{Nothing}
use Rattle.transfer_edges.specs.StartRows.{start_row}
use Rattle.transfer_system.specs.BoundedRows.EndLaws.{HasEnds}
use Rattle.transfer_system.specs.BoundedRows.FittedRows.{row_fit, reached_fit}
use Rattle.transfer_system.specs.BoundedRows.IntervalEnds.{interval_ends}
use Rattle.transfer_system.specs.BoundedRows.OwnLaws.{fit_own}
use Rattle.transfer_system.specs.BoundedRows.OwnRows.{is_own_row}
use Rattle.transfer_system.specs.System.BlockPasses.{edge_end}
use Rattle.transfer_system.specs.System.FlowMachines.{edge_at, known_start, has_start, start_of, through}
use Rattle.row_bounds.specs.Edges.OwnLists.{ReachesTypes}
use Rattle.row_bounds.proofs.edges.IntervalSystems.{regular_fit_nothing}
use Rattle.row_bounds.proofs.edges.OwnEdges.{leaves_own}
use Rattle.row_bounds.proofs.entries.RegularStarts.{regular_fits}
use Rattle.transfer_system.specs.System.RegularPrograms.{is_regular}
use Rattle.analysis_determined.proofs.RegularPrograms.{Regular, regular_of}
use Rattle.analysis_determined.proofs.RegularSystems.{regular_rising}
use Rattle.analysis_determined.proofs.WellFormed.{laid_out, all_named}
use Rattle.analysis_determined.specs.Analyses.{row_lattice, machine_of}
use Rattle.certificate_check.specs.Reading.GreatestRows.{cert_numbers}
use Rattle.certificate_check.specs.Verdicts.Verdicts.{cert_machine}
use Rattle.certificate_theorems.specs.Proved.AnalysedMaps.{InductiveMapsAreClosed}
use Rattle.certificate_theorems.proofs.proved.WiderRows.{row_wide, wide_keeps}

module _ (flow : Flow) (list : List ℤ) (h : is_regular flow list ≡ true) (reaches : ReachesTypes list) where
  regular : Regular flow list
  regular = regular_of flow list h

  abbrev IsOwnRow : List (Cell Interval) → Type 0
  IsOwnRow row = is_own_row interval_lattice interval_numbers list flow.bases.items flow.width row ≡ true

  ends : HasEnds cert_numbers (negsuc (2 ^ 64 - 1)) (pos (2 ^ 64))
  ends = record { lower = refl; upper = refl }

  wide_own : (row : List (Cell Interval)) → IsOwnRow row → is_own_row interval_lattice interval_numbers cert_numbers flow.bases.items flow.width row ≡ true
  wide_own row own = let laid = laid_out standard_limits flow regular.well_formed (omega (arith)) in row_wide interval_order interval_rounding interval_heights interval_bounding interval_ends list regular.near cert_numbers ends flow laid.words row own

  kept : (row : List (Cell Interval)) → IsOwnRow row → row_fit interval_lattice interval_numbers cert_numbers flow.bases.items flow.width row ≡ row
  kept row own = let laid = laid_out standard_limits flow regular.well_formed (omega (arith)) in wide_keeps interval_order interval_rounding interval_heights interval_bounding interval_ends list regular.near cert_numbers ends flow laid.words row own

  left_kept : (x : Option (List (Cell Interval))) → ((s : List (Cell Interval)) → x ≡ Some s → IsOwnRow s) → reached_fit interval_lattice interval_numbers cert_numbers flow.bases.items flow.width x ≡ x
  left_kept None own = refl
  left_kept (Some s) own = ap (λ row. Some row) (kept s (own s refl))

  -- what an edge makes of an own row is the same in both systems
  same_edge : (number : ℕ) (row : List (Cell Interval)) → IsOwnRow row → through interval_lattice interval_numbers flow cert_numbers number row ≡ through interval_lattice interval_numbers flow list number row
  unfolding through
  same_edge number row own =
      let laid = laid_out standard_limits flow regular.well_formed (omega (arith)) in
      let named = all_named standard_limits flow regular.well_formed regular.scalars in
      let from = (edge_at flow.edges.items number).from in
      left_kept (edge_end interval_lattice interval_numbers flow from number row)
      (λ s e. leaves_own interval_order interval_rounding interval_heights interval_bounding interval_monotone interval_ranges interval_ends flow list regular.near reaches laid named (regular_rising flow list h) from number row s own e)
      ∙ sym (regular_fit_nothing flow list h reaches number row own)

  -- and so is the row of the entry, where there is a start row
  same_start : has_start interval_lattice interval_numbers flow ≡ true → start_of interval_lattice interval_numbers flow cert_numbers ≡ start_of interval_lattice interval_numbers flow list
  unfolding start_of
  same_start started =
      let first = known_start flow.width (start_row interval_lattice interval_numbers flow (replicate flow.width Nothing)) in
      let is : first ≡ row_fit interval_lattice interval_numbers list flow.bases.items flow.width first = ap (known_start flow.width) (regular_fits flow list h reaches started) in
      let own : IsOwnRow (row_fit interval_lattice interval_numbers list flow.bases.items flow.width first) = fit_own interval_order interval_rounding interval_heights interval_bounding interval_ends list flow.bases.items flow.width first in
      ap (row_fit interval_lattice interval_numbers cert_numbers flow.bases.items flow.width) is ∙ kept (row_fit interval_lattice interval_numbers list flow.bases.items flow.width first) own

  own_there : (x : Option (List (Cell Interval))) → IsOwn (machine_of flow list) x → IsOwn (cert_machine flow) x
  own_there None own = tt
  own_there (Some row) own = wide_own row own

  same_step : (number : ℕ) (x : Option (List (Cell Interval))) → IsOwn (machine_of flow list) x → step (cert_machine flow) number x ≡ step (machine_of flow list) number x
  same_step number None own = refl
  same_step number (Some row) own = same_edge number row own

  pub inductive_closed : has_start interval_lattice interval_numbers flow ≡ true → InductiveMapsAreClosed flow list
  inductive_closed started rows m = record {
    size = m.size;
    own = λ block. own_there (row_at rows block) (m.own block);
    entry = subst (λ r. reached_leq row_lattice (Some r) (row_at rows 0) ≡ true) (sym (same_start started)) m.entry;
    edge = λ number lt. subst (λ x. reached_leq row_lattice x (row_at rows (edge_at flow.edges.items number).to) ≡ true) (sym (same_step number (row_at rows (edge_at flow.edges.items number).from) (m.own (edge_at flow.edges.items number).from))) (m.edge number lt);
  }
