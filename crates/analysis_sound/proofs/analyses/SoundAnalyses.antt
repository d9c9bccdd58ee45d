-- Each inductive map covers each run, so an analysis, which has what all of them admit, holds each pair.
use Rattle.std.specs.Prelude.{◌≡◌, ℤ, true, List, Option}
use Rattle.std.specs.List.{Contains}
use Rattle.std.proofs.Common.{arith}
use Rattle.cc_base.specs.InductiveMap.{IsInductive}
use Rattle.cc_base.specs.Standard.{standard_limits}
use Rattle.cc_base.specs.declared.diagnostics.Diag.{Diag}
use Rattle.c_layout.specs.CheckedUnits.{UnitView}
use Rattle.cfg.specs.declared.programs.Flow.{Flow}
use Rattle.interval_domain.specs.declared.intervals.intervals.Interval.{Interval}
use Rattle.interval_domain.specs.Intervals.Spans.{Stands}
use Rattle.interval_domain.specs.Intervals.IntervalLattice.{interval_lattice, interval_order, interval_rounding, interval_heights}
use Rattle.interval_domain.specs.Intervals.IntervalNumbers.{interval_numbers, interval_bounding, interval_ranges}
use Rattle.domain_theorems.specs.Intervals.Operations.{interval_monotone, interval_sound}
use Rattle.value_domain.specs.declared.values.row_cells.Cell.{Cell}
use Rattle.memory_model.specs.Effects.Worlds.{Violation}
use Rattle.store_sound.specs.Concretization.Coverage.{EachRunIsCovered}
use Rattle.store_sound.specs.Programs.Premises.{AreHeld, HasPremises}
use Rattle.store_sound.proofs.programs.WellFormedPremises.{meets_premises}
use Rattle.transfer_system.specs.BoundedRows.IntervalEnds.{interval_ends}
use Rattle.transfer_system.specs.System.RegularPrograms.{is_regular}
use Rattle.analysis_determined.proofs.WellFormed.{laid_out, all_named}
use Rattle.analysis_determined.proofs.RegularPrograms.{Regular, regular_of}
use Rattle.analysis_determined.proofs.RegularSystems.{regular_rising}
use Rattle.analysis_determined.specs.Analyses.{row_lattice, machine_of, IsAnalysis}
use Rattle.transfer_sound.specs.InvariantMaps.CarriedMaps.{EntryInGamma}
use Rattle.transfer_sound.proofs.invariant_maps.CarriedMaps.{map_carried, map_begins}
use Rattle.transfer_sound.specs.Induction.Covering.{Begins, Carries, HasTypedRuns, row_before, Admits}
use Rattle.transfer_sound.specs.Induction.SoundEnds.{StepsGoOnSoundly, EndsGoOnSoundly}
use Rattle.transfer_sound.proofs.induction.Covering.{runs_covered, runs_typed_by_rows}
use Rattle.transfer_sound.proofs.operands.TypedMaps.{map_types}
use Rattle.diagnose.specs.Operands.TypedRows.{is_typed_map}
use Rattle.analysis_sound.proofs.programs.AllSteps.{steps_go_on, ends_go_on, tests_sound}
use Rattle.analysis_sound.specs.Analyses.SoundAnalyses.{Suffices, IsViolatedIn}

-- the limits of the product are such as the theorems on the store ask
pub standard_held : AreHeld standard_limits
standard_held = record { bases = omega (arith); pool = omega (arith) }

module _ (flow : Flow) (list : List ℤ) (known : is_regular flow list ≡ true) (suffices : Suffices flow list) where
  regular : Regular flow list
  regular = regular_of flow list known

  p : HasPremises flow
  p = meets_premises standard_limits flow standard_held regular.well_formed

  pub steps : StepsGoOnSoundly interval_lattice interval_numbers Stands flow
  steps = steps_go_on interval_order interval_bounding interval_sound interval_ranges flow p standard_limits regular.well_formed suffices.texts suffices.sites suffices.copies suffices.steps

  pub ends : EndsGoOnSoundly interval_lattice interval_numbers Stands flow standard_limits
  ends = ends_go_on interval_order interval_bounding interval_sound interval_ranges flow p standard_limits (tests_sound interval_order interval_bounding interval_sound interval_ranges flow p suffices.tests)

  module _ (rows : List (Option (List (Cell Interval)))) (closed : IsInductive row_lattice (machine_of flow list) rows) where
    begins : (u : UnitView) → EntryInGamma interval_lattice interval_numbers Stands flow list u → Begins interval_lattice interval_numbers Stands flow u rows
    begins u start =
        let laid = laid_out standard_limits flow regular.well_formed (omega (arith)) in
        let named = all_named standard_limits flow regular.well_formed regular.scalars in
        map_begins interval_order interval_rounding interval_heights interval_bounding interval_monotone interval_ranges interval_ends flow list regular.near suffices.reaches laid named (regular_rising flow list known) rows closed u start

    carried : Carries interval_lattice interval_numbers Stands flow rows
    carried =
        let laid = laid_out standard_limits flow regular.well_formed (omega (arith)) in
        let named = all_named standard_limits flow regular.well_formed regular.scalars in
        map_carried interval_order interval_rounding interval_heights interval_bounding interval_monotone interval_ranges interval_ends flow list regular.near suffices.reaches laid named (regular_rising flow list known) rows closed

  module _ (u : UnitView) (start : EntryInGamma interval_lattice interval_numbers Stands flow list u) where
    -- an inductive map by whose rows operands lie within their types tells that they do so in each run
    pub typed_runs : (rows : List (Option (List (Cell Interval)))) → IsInductive row_lattice (machine_of flow list) rows → is_typed_map interval_lattice interval_numbers flow rows ≡ true → HasTypedRuns flow u
    typed_runs rows closed typed = runs_typed_by_rows _ _ _ flow standard_limits regular.well_formed steps ends u rows (begins rows closed u start) (carried rows closed) (map_types interval_bounding flow rows typed)

    module _ (typed : HasTypedRuns flow u) where
      pub covered : (rows : List (Option (List (Cell Interval)))) → IsInductive row_lattice (machine_of flow list) rows → EachRunIsCovered interval_lattice interval_numbers Stands flow (row_before interval_lattice interval_numbers flow rows) (Admits interval_lattice interval_numbers flow rows) u
      covered rows closed = runs_covered _ _ _ flow standard_limits regular.well_formed steps ends u rows (begins rows closed u start) (carried rows closed) typed

module _ (flow : Flow) (list : List ℤ) (found : List Diag) (a : IsAnalysis flow list found) (suffices : Suffices flow list) (u : UnitView) (start : EntryInGamma interval_lattice interval_numbers Stands flow list u) (typed : HasTypedRuns flow u) where
  pub each_pair : (v : Violation) → IsViolatedIn flow u v → Contains found (record { place = v.at; rule = v.rule })
  each_pair v there = a.pairs.kept (record { place = v.at; rule = v.rule }) ((covered flow list a.regular suffices u start typed a.rows a.inductive there.draws there.steps).all v there.there)
