-- Turns of the source from where values have the marks that are taken.
use Rattle.c_layout.specs.CheckedUnits.{UnitView}
use Rattle.memory_model.specs.Effects.Worlds.{World}
use Rattle.semantics.specs.SourceMachine.SourceStates.{State, with_world}
use Rattle.semantics.specs.SourceMachine.SourceSteps.{turn}
use Rattle.source_items.specs.Returns.StandingJumps.{UnitJumpsStand}
use Rattle.source_items.specs.Liveness.Livings.{IsLiving}
use Rattle.source_preservation.specs.ValueTyping.MarkLaws.{Comes}
use Rattle.source_preservation.specs.WellTyped.WellTypedStatements.{WellTypedUnit}
use Rattle.source_preservation.specs.WellTyped.WellTypedStates.{Runs}

-- so it is in a state with the world that a turn leaves
abbrev pub RunsOn : UnitView → State → World → Type 0
RunsOn u s w = Runs u (with_world s w)

-- each turn goes on to where values have their marks, or stops at a step that is defined
abbrev pub TurnsKeepMarks : Type 0
TurnsKeepMarks = (u : UnitView) → WellTypedUnit u → UnitJumpsStand u → (s : State) → Runs u s → IsLiving u s → Comes (RunsOn u) (turn u s).reply
