-- Runs of a unit and of its control-flow program begin in one world.
use Rattle.std.specs.Prelude.{refl, ℤ, List}
use Rattle.c_layout.specs.CheckedUnits.{UnitView}
use Rattle.lower_templates.specs.Views.ProgramViews.{FlowView}
use Rattle.memory_model.specs.Effects.Worlds.{Reply, goes, stops}
use Rattle.memory_model.specs.Effects.UnitStarts.{start_world}
use Rattle.semantics.specs.CfgMachine.FlowStarts as flow
use Rattle.semantics.specs.CfgMachine.FlowStarts.{flow_begin}
use Rattle.semantics.specs.SourceMachine.SourceRuns as source
use Rattle.semantics.specs.SourceMachine.SourceRuns.{source_begin}
use Rattle.worked_examples.specs.SourceRuns.Agreement.{Agree}

begun_alike : (u : UnitView) (f : FlowView) (start : Reply (Unit {0})) → Agree (source.begun_by u start) (flow.begun_by u f start)
begun_alike u f (goes x w) = record { memory = refl; draws = refl; found = refl; why = refl }
begun_alike u f (stops why w) = record { memory = refl; draws = refl; found = refl; why = refl }

begin_alike : (u : UnitView) (f : FlowView) (draws : List ℤ) → Agree (source_begin u draws) (flow_begin u f draws)
begin_alike u f draws = begun_alike u f (start_world u draws)
