-- Where a run of a program stands, as the machine has it.
use Rattle.std.specs.Prelude.{ℕ, Bool, true, false, cond, nat_lt, List, [], ◌∷◌, map, reverse, Option, Some, None, slice_get}
use Rattle.c_layout.specs.CheckedUnits.{UnitView}
use Rattle.memory_model.specs.Effects.UnitStarts.{parameter_instance}
use Rattle.interp_accesses.specs.WorldViews.{world_view}
use Rattle.semantics.specs.SourceMachine.Items.{Item, Hop}
use Rattle.semantics.specs.SourceMachine.SourceStates.{Frame, State}
use Rattle.interp_stack.specs.StackViews.{StackView, on_item, standing}
use Rattle.interp_stack.specs.declared.items.Item7.{Item7}
use Rattle.interp_steps.specs.Operations.Pending.{pending}
use Rattle.interp_steps.specs.declared.machine_items.machines.Frame7.{Frame7}
use Rattle.interp_steps.specs.declared.machine_items.machines.Machine.{Machine}

abbrev pub name_in : Option (Option ℕ) → Option ℕ
name_in None = None
name_in (Some name) = name

-- the instances that objects name
abbrev pub names_view : List (Option ℕ) → ℕ → Option ℕ
names_view names n = name_in (slice_get names n)

abbrev pub frame_view : UnitView → Frame7 → Frame
frame_view u f = record { function = f.function; names = names_view f.names.items; control = (standing u f.control.items).items; at = f.at; used = f.used }

abbrev pub state_view : UnitView → Machine → State
state_view u m = record {
  function = m.function;
  names = names_view m.names.items;
  control = (standing u m.control.items).items;
  values = pending m.values.items;
  frames = reverse (map (frame_view u) m.frames.items);
  world = world_view m.world;
}

-- the first so many objects, the entry's parameters, name their instances
abbrev pub parameters_named : UnitView → ℕ → ℕ → Option ℕ
parameters_named u count n = cond (nat_lt n count) (Some (parameter_instance u n)) None

-- objects with one before them; none where there is none
abbrev pub with_next : Option ℕ → List ℕ → List ℕ
with_next None objects = []
with_next (Some n) objects = n ∷ objects

-- a step without effect, or none
abbrev pub hop_if : Bool → List Item
hop_if true = Hop ∷ []
hop_if false = []

-- the items of a stack with an entry on top of it; none where there is no entry
abbrev pub items_with : UnitView → Option Item7 → StackView → List Item
items_with u None s = []
items_with u (Some i) s = (on_item u i s).items

-- the machine with an entry on top of its list; with none it has nothing left to do
abbrev pub state_with : UnitView → Option Item7 → Machine → State
state_with u i m = record (state_view u m) { control = items_with u i (standing u m.control.items) }
