-- A function that is called.
use Rattle.std.proofs.Common.{◌≡◌, ℕ, ◌∷◌, ◌++◌, map, reverse, Bool, Some, sym, ap, ◌∙◌}
use Rattle.cc_base.specs.declared.diagnostics.Place.{Place}
use Rattle.c_layout.specs.CheckedUnits.{UnitView, FunctionView}
use Rattle.memory_model.specs.Effects.NumberedTables.{empty_table}
use Rattle.memory_model.specs.Effects.Worlds.{goes}
use Rattle.interp_accesses.specs.WorldViews.{world_view}
use Rattle.semantics.specs.SourceMachine.CallSteps.{prologue, waiting, invoke}
use Rattle.semantics.specs.SourceMachine.ObjectSteps.{on}
use Rattle.semantics.specs.SourceMachine.SourceStates.{State, if_some, function_at}
use Rattle.semantics.specs.SourceMachine.StatementItems.{body}
use Rattle.interp_stack.specs.StackViews.{standing}
use Rattle.interp_steps.specs.Operations.Pending.{pending}
use Rattle.interp_steps.specs.MachineItems.MachineViews.{names_view, frame_view, state_view}
use Rattle.interp_steps.specs.declared.machine_items.machines.Machine.{Machine}
use Rattle.interp_steps.proofs.machine_items.MovedStates.{with_parts}

abbrev called : State → Place → ℕ → ℕ → Bool → FunctionView → State
called s at g count used f = record {
  function = g;
  names = empty_table;
  control = prologue f count ++ body f;
  values = s.values;
  frames = waiting s at used ∷ s.frames;
  world = s.world;
}

pub invoked : (u : UnitView) (s : State) (at : Place) (g count : ℕ) (used : Bool) (f : FunctionView) (m : Machine) → function_at u g ≡ Some f → m.function ≡ g → names_view m.names.items ≡ empty_table → (standing u m.control.items).items ≡ prologue f count ++ body f → pending m.values.items ≡ s.values → reverse (map (frame_view u) m.frames.items) ≡ waiting s at used ∷ s.frames → world_view m.world ≡ s.world → invoke u s at g count used ≡ goes (state_view u m) (world_view m.world)
invoked u s at g count used f m found function names control values frames world =
    ap (λ o. if_some s o (λ h. on (called s at g count used h))) found
    ∙ sym (ap on (with_parts u m (called s at g count used f) function names control values frames world))
