-- The world in which a run begins.
use Rattle.std.specs.Prelude.{◌≡◌, Some}
use Rattle.c_layout.specs.CheckedUnits.{FunctionView, UnitView}
use Rattle.memory_model.specs.Effects.Worlds.{World}
use Rattle.memory_model.specs.Effects.UnitStarts.{entry_parameters}
use Rattle.semantics.specs.SourceMachine.SourceRuns.{name_parameters}
use Rattle.semantics.specs.SourceMachine.SourceStates.{function_at}
use Rattle.source_preservation.specs.ValueTyping.ProperMemory.{IsProperMemory}
use Rattle.source_preservation.specs.WellTyped.WellTypedStates.{HaveRoom, StaticsHaveRoom}

-- the entry's parameters name instances of their sizes, and so do objects of static storage
pub record IsStarted (u : UnitView) (w : World) : Type 0 where
  pub proper : IsProperMemory u.model w.memory
  pub statics : StaticsHaveRoom u w.memory
  pub parameters : (f : FunctionView) → function_at u u.entry ≡ Some f → HaveRoom u w.memory f (name_parameters u 0 (entry_parameters u))
