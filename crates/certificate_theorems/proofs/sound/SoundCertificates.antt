-- The map of an accepted certificate covers each run, so that the pairs that it admits hold each pair.
use Rattle.std.specs.Prelude.{List, Option, refl}
use Rattle.std.proofs.Common.{arith}
use Rattle.cc_base.specs.ClosedMap.{IsClosed}
use Rattle.cc_base.specs.Standard.{standard_limits}
use Rattle.cc_base.specs.declared.diagnostics.Diag.{Diag}
use Rattle.c_layout.specs.CheckedUnits.{UnitView}
use Rattle.cfg.specs.declared.programs.Flow.{Flow}
use Rattle.interval_domain.specs.Intervals.Spans.{Stands}
use Rattle.interval_domain.specs.Intervals.IntervalLattice.{interval_lattice, interval_order, interval_rounding, interval_heights}
use Rattle.interval_domain.specs.Intervals.IntervalNumbers.{interval_numbers, interval_bounding}
use Rattle.interval_domain.specs.declared.intervals.intervals.Interval.{Interval}
use Rattle.value_domain.specs.declared.values.row_cells.Cell.{Cell}
use Rattle.store_sound.specs.Programs.Premises.{HasPremises}
use Rattle.store_sound.proofs.programs.WellFormedPremises.{meets_premises}
use Rattle.transfer_system.specs.BoundedRows.IntervalEnds.{interval_ends}
use Rattle.analysis_determined.proofs.RegularPrograms.{Regular, regular_of}
use Rattle.analysis_determined.proofs.WellFormed.{laid_out}
use Rattle.row_bounds.proofs.entries.RegularStarts.{regular_fits}
use Rattle.transfer_sound.specs.Induction.Covering.{Begins, Carries, HasTypedRuns}
use Rattle.transfer_sound.proofs.induction.Covering.{runs_covered, runs_typed_by_rows}
use Rattle.transfer_sound.specs.InvariantMaps.CarriedMaps.{EntryInGamma}
use Rattle.transfer_sound.proofs.operands.TypedMaps.{map_types}
use Rattle.analysis_sound.specs.Analyses.SoundAnalyses.{Suffices, FindsEachPair}
use Rattle.analysis_sound.proofs.analyses.SoundAnalyses.{standard_held, steps, ends}
use Rattle.analysis_sound.proofs.analyses.FoundRuns.{suffices}
use Rattle.entry_sound.proofs.entries.EntryRows.{entry_stands}
use Rattle.entry_sound.proofs.lowered.LoweredStarts.{lowered_starts}
use Rattle.entry_sound.proofs.checked.CheckedStarts.{sound_structs, unit_starts}
use Rattle.certificate_text.specs.Lines.LineWords.{Bytes}
use Rattle.certificate_check.specs.Reading.GreatestRows.{cert_numbers}
use Rattle.certificate_check.specs.Reading.MapReading.{map_rows}
use Rattle.certificate_check.specs.Verdicts.Verdicts.{cert_cells, cert_machine}
use Rattle.certificate_theorems.proofs.verdicts.VerdictProofs.{closed_if_accepted}
use Rattle.certificate_programs.specs.Programs.Certificates.{look_numbers, IsLookedAt, IsShown}
use Rattle.certificate_theorems.specs.Sound.SoundCertificates.{HoldsPairsOfUnits, HoldsPairsOfLowered, HoldsPairsOfChecked}
use Rattle.certificate_theorems.proofs.sound.CertifiedMaps.{certified_begins, certified_carried}

module _ (flow : Flow) (look : IsLookedAt flow) where
  regular : Regular flow look_numbers
  regular = regular_of flow look_numbers look.regular

  premises : HasPremises flow
  premises = meets_premises standard_limits flow standard_held regular.well_formed

  enough : Suffices flow look_numbers
  enough = suffices flow look_numbers look.regular look.checked

  module _ (u : UnitView) (start : EntryInGamma interval_lattice interval_numbers Stands flow look_numbers u) where
    module _ (rows : List (Option (List (Cell Interval)))) (closed : IsClosed cert_cells (cert_machine flow) rows) where
      begins : Begins interval_lattice interval_numbers Stands flow u rows
      begins =
          certified_begins interval_order interval_rounding interval_heights interval_bounding interval_ends cert_numbers refl flow (laid_out standard_limits flow regular.well_formed (omega (arith))) premises.shaped.few rows closed
          look_numbers (regular_fits flow look_numbers look.regular look.checked.reaches look.started) u start

      carried : Carries interval_lattice interval_numbers Stands flow rows
      carried = certified_carried interval_order interval_rounding interval_heights interval_bounding interval_ends cert_numbers refl flow (laid_out standard_limits flow regular.well_formed (omega (arith))) premises.shaped.few rows closed

  module _ (text : Bytes) (found : List Diag) (shown : IsShown flow text found) where
    holds_looked_at : FindsEachPair flow look_numbers found
    holds_looked_at u start v there =
        let closed = closed_if_accepted flow text shown.accepted in
        let other = closed_if_accepted flow shown.typing shown.typed.accepted in
        let typed : HasTypedRuns flow u =
        runs_typed_by_rows _ _ _ flow standard_limits regular.well_formed (steps flow look_numbers look.regular enough) (ends flow look_numbers look.regular enough) u
        (map_rows flow shown.typing) (begins u start (map_rows flow shown.typing) other) (carried u start (map_rows flow shown.typing) other) (map_types interval_bounding flow (map_rows flow shown.typing) shown.typed.typed) in
        let covered =
        runs_covered _ _ _ flow standard_limits regular.well_formed (steps flow look_numbers look.regular enough) (ends flow look_numbers look.regular enough) u
        (map_rows flow text) (begins u start (map_rows flow text) closed) (carried u start (map_rows flow text) closed) typed there.draws there.steps in
        shown.pairs.kept (record { place = v.at; rule = v.rule }) (covered.all v there.there)

module _ (flow : Flow) (text : Bytes) (found : List Diag) (shown : IsShown flow text found) where
  pub holds_each_pair : FindsEachPair flow look_numbers found
  holds_each_pair = holds_looked_at flow shown.looked_at text found shown

  pub units_held : HoldsPairsOfUnits flow found
  units_held u starts v there = holds_each_pair u (entry_stands flow look_numbers shown.looked_at.regular shown.looked_at.checked.reaches shown.looked_at.started u starts) v there

  pub lowered_held : HoldsPairsOfLowered flow found
  lowered_held u limits is initializers integers = units_held u (lowered_starts u limits flow is initializers integers)

  pub checked_held : HoldsPairsOfChecked flow found
  checked_held u is = units_held u (unit_starts u flow (sound_structs flow look_numbers shown.looked_at.regular shown.looked_at.checked.structs) is)
