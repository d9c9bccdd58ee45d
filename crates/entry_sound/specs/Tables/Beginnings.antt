-- Runs begin with the memory that the row of the entry stands for.
use Rattle.std.specs.Prelude.{◌≡◌, true}
use Rattle.cc_base.specs.declared.limit_table.Limits.{Limits}
use Rattle.c_layout.specs.CheckedUnits.{UnitView}
use Rattle.cfg.specs.WellFormed.{is_well_formed}
use Rattle.cfg.specs.declared.programs.Flow.{Flow}
use Rattle.store_sound.specs.Programs.Premises.{HasPremises}
use Rattle.transfer_system.specs.System.RegularPrograms.{has_initial_bytes}
use Rattle.entry_sound.specs.Starts.StartedRows.{HasBeginnings}
use Rattle.entry_sound.specs.Tables.UnitStarts.{StartsAs}

-- of a well-formed program whose texts are bytes
abbrev pub RunsBegin : Flow → Type 0
RunsBegin flow = (limits : Limits) → is_well_formed limits flow ≡ true → has_initial_bytes flow ≡ true → HasPremises flow → (u : UnitView) → StartsAs u flow → HasBeginnings u flow
