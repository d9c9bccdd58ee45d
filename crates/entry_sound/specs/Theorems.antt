-- What the theorems on entries say.
use Rattle.cc_base.specs.Lattices.{LatticeOf}
use Rattle.cc_base.specs.IntegerDomains.{IntegersOf}
use Rattle.std.specs.Prelude.{ℤ, List, [], ◌≡◌}
use Rattle.cfg.specs.declared.programs.Flow.{Flow}
use Rattle.entry_sound.specs.Cells.Greatest.{GreatestRowsStand}
use Rattle.entry_sound.specs.Entries.EntryRows.{EntryRowsStand}
use Rattle.c_layout.specs.CheckedUnits.{UnitView}
use Rattle.semantics.specs.CfgMachine.FlowStarts.{flow_begin}
use Rattle.semantics.specs.CfgMachine.FlowStates.{ProgramState, running}
use Rattle.lower_templates.specs.Views.ProgramViews.{FlowView}
use Rattle.entry_sound.specs.Memory.FirstStates.{IsFirst}
use Rattle.cc_base.specs.IntegerLaws.{SoundLaws}
use Rattle.entry_sound.specs.Cells.StaticObjects.{StaticObjectsStand}
use Rattle.entry_sound.specs.Starts.Literals.{LiteralsStand}
use Rattle.entry_sound.specs.Starts.Parameters.{ParametersStand}
use Rattle.entry_sound.specs.Starts.StartedRows.{StartRowsStand, RunsBeginInStartRows}
use Rattle.entry_sound.specs.Starts.StaticBytes.{StaticBytesAreStored}
use Rattle.entry_sound.specs.Tables.Beginnings.{RunsBegin}
pub use Rattle.entry_sound.specs.Checked.CheckedStarts.{CheckedUnitsBegin}
pub use Rattle.entry_sound.specs.Initializers.CheckedInitializers.{CheckedInitializersAreTyped}
pub use Rattle.entry_sound.specs.Lowered.LoweredStarts.{LoweredProgramsStart}

module _ {I : Type 0} (l : LatticeOf I) (n : IntegersOf I) (stands : I → ℤ → Type 0) where
  abbrev pub GreatestRowsStandEverywhere : Type 0
  GreatestRowsStandEverywhere = (flow : Flow) → GreatestRowsStand l n stands flow

  abbrev pub StaticObjectsStandEverywhere : Type 0
  StaticObjectsStandEverywhere = SoundLaws l n stands → (flow : Flow) → StaticObjectsStand l n stands flow

  abbrev pub LiteralsStandEverywhere : Type 0
  LiteralsStandEverywhere = (flow : Flow) → LiteralsStand l n stands flow

  abbrev pub ParametersStandEverywhere : Type 0
  ParametersStandEverywhere = (flow : Flow) → ParametersStand l n stands flow

  abbrev pub StartRowsStandEverywhere : Type 0
  StartRowsStandEverywhere = SoundLaws l n stands → (flow : Flow) → StartRowsStand l n stands flow

  abbrev pub RunsBeginInStartRowsEverywhere : Type 0
  RunsBeginInStartRowsEverywhere = SoundLaws l n stands → (flow : Flow) → RunsBeginInStartRows l n stands flow

abbrev pub EntryRowsStandEverywhere : Type 0
EntryRowsStandEverywhere = (flow : Flow) (list : List ℤ) → EntryRowsStand flow list

abbrev pub RunsBeginInMemory : Type 0
RunsBeginInMemory = (u : UnitView) (f : FlowView) (draws : List ℤ) (s : ProgramState) → flow_begin u f draws ≡ running s [] → IsFirst u f s

abbrev pub StaticBytesAreStoredEverywhere : Type 0
StaticBytesAreStoredEverywhere = (u : UnitView) → StaticBytesAreStored u

abbrev pub RunsBeginAsDeclared : Type 0
RunsBeginAsDeclared = (flow : Flow) → RunsBegin flow
