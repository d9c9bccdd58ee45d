-- States of the machine with other parts.
use Rattle.std.proofs.Common.{◌≡◌, ℕ, List, [], map, reverse, Option, refl, ap, ◌∙◌}
use Rattle.c_layout.specs.CheckedUnits.{UnitView}
use Rattle.c_layout.specs.declared.checked_tree.checked_terms.ObjectRef.{ObjectRef}
use Rattle.c_layout.specs.declared.checked_tree.checked_terms.ObjectRef.TheVariants.{Static, Local}
use Rattle.memory_model.specs.Memory.Scalars.{Scalar}
use Rattle.memory_model.specs.Effects.Worlds.{World}
use Rattle.interp_accesses.specs.WorldViews.{world_view}
use Rattle.semantics.specs.SourceMachine.Items.{Item}
use Rattle.semantics.specs.SourceMachine.SourceStates.{Frame, State, type_of}
use Rattle.interp_stack.specs.StackViews.{standing}
use Rattle.interp_steps.specs.Operations.Pending.{pending}
use Rattle.interp_steps.specs.MachineItems.MachineViews.{names_view, frame_view, state_view}
use Rattle.interp_steps.specs.MachineItems.Moves.{object_type}
use Rattle.interp_steps.specs.declared.machine_items.machines.Machine.{Machine}

abbrev made : ℕ → (ℕ → Option ℕ) → List Item → List Scalar → List Frame → World → State
made function names control values frames world = record { function = function; names = names; control = control; values = values; frames = frames; world = world }

-- a machine is in the state of which it has each part
pub with_parts : (u : UnitView) (m : Machine) (s : State) → m.function ≡ s.function → names_view m.names.items ≡ s.names → (standing u m.control.items).items ≡ s.control → pending m.values.items ≡ s.values → reverse (map (frame_view u) m.frames.items) ≡ s.frames → world_view m.world ≡ s.world → state_view u m ≡ s
with_parts u m s function names control values frames world =
    let n = names_view m.names.items in
    let c = (standing u m.control.items).items in
    let v = pending m.values.items in
    let f = reverse (map (frame_view u) m.frames.items) in
    let x = world_view m.world in
    ap (λ k. made k n c v f x) function
    ∙ ap (λ k. made s.function k c v f x) names
    ∙ ap (λ k. made s.function s.names k v f x) control
    ∙ ap (λ k. made s.function s.names s.control k f x) values
    ∙ ap (λ k. made s.function s.names s.control s.values k x) frames
    ∙ ap (λ k. made s.function s.names s.control s.values s.frames k) world

pub type_is : (u : UnitView) (s : State) (o : ObjectRef) → type_of u s o ≡ object_type u s.function o
type_is u s (Static n) = refl
type_is u s (Local n) = refl
