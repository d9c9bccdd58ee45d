-- The start row is the row of the entry, and stands for the states in which runs begin.
use Rattle.std.proofs.Common.{ℤ, List, arith}
use Rattle.std.specs.Prelude.{replicate}
use Rattle.std.proofs.lemmas.List.{length-replicate}
use Rattle.cc_base.specs.Standard.{standard_limits}
use Rattle.cfg.specs.declared.programs.Flow.{Flow}
use Rattle.interval_domain.specs.Intervals.IntervalLattice.{interval_lattice, interval_order}
use Rattle.interval_domain.specs.Intervals.IntervalNumbers.{interval_numbers, interval_bounding, interval_ranges}
use Rattle.domain_theorems.specs.Intervals.Operations.{interval_sound}
use Rattle.value_domain.specs.declared.values.row_cells.Cell.TheVariants.{Nothing}
use Rattle.transfer_system.specs.System.FlowMachines.{start_of}
use Rattle.library_sound.proofs.RegularStarts.{regular_fits}
use Rattle.library_sound.proofs.RegularPrograms.{regular_of}
use Rattle.store_sound.specs.Programs.Premises.{AreHeld}
use Rattle.store_sound.proofs.programs.WellFormedPremises.{meets_premises}
use Rattle.entry_sound.proofs.starts.StartedRows as started
use Rattle.entry_sound.proofs.tables.Beginnings.{runs_begin}
use Rattle.entry_sound.specs.Entries.EntryRows.{EntryRowsStand}

-- the limits of the product are such as the theorems on the store ask
standard_held : AreHeld standard_limits
standard_held = record { bases = omega (arith); pool = omega (arith) }

pub entry_stands : (flow : Flow) (list : List ℤ) → EntryRowsStand flow list
entry_stands flow list regular reaches start u a draws s run =
    let r = regular_of flow list regular in
    let p = meets_premises standard_limits flow standard_held r.well_formed in
    started.runs_begin interval_order interval_bounding interval_sound interval_ranges flow standard_limits r.well_formed p u a.model
    (runs_begin flow standard_limits r.well_formed r.initial p u a)
    (replicate flow.width Nothing) (start_of interval_lattice interval_numbers flow list) (length-replicate flow.width Nothing) (regular_fits flow list regular reaches start) draws s run
