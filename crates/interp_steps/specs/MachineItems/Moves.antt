-- What parts of turns come to.
use Rattle.std.specs.Prelude.{◌≡◌, ℕ, Bool, true, false, not, Option, Some, None, List, ◌++◌, slice_get, Result, Ok, Err}
use Rattle.std.specs.Option.{option_map}
use Rattle.cc_base.specs.declared.diagnostics.Place.{Place}
use Rattle.c_layout.specs.Types.{Ty}
use Rattle.c_layout.specs.CheckedUnits.{UnitView}
use Rattle.c_layout.specs.declared.checked_tree.checked_terms.ObjectRef.{ObjectRef}
use Rattle.c_layout.specs.declared.checked_tree.checked_terms.ObjectRef.TheVariants.{Static, Local}
use Rattle.memory_model.specs.Effects.Tests.{TestedSide, object, constant, nothing}
use Rattle.memory_model.specs.Effects.Worlds.{Reply, goes}
use Rattle.interp_accesses.specs.WorldViews.{world_view, HaltsAs}
use Rattle.interp_accesses.specs.declared.worlds.Cause.TheVariants as cause
use Rattle.interp_accesses.specs.declared.worlds.Halt.{Halt}
use Rattle.interp_accesses.specs.declared.worlds.Halt.TheVariants as halt
use Rattle.semantics.specs.SourceMachine.Items as item
use Rattle.semantics.specs.SourceMachine.Items.{Item, NamedSide}
use Rattle.semantics.specs.SourceMachine.Scopes.{jump}
use Rattle.semantics.specs.SourceMachine.SourceStates.{State, instance_of, static_type, local_of, function_at}
use Rattle.semantics.specs.SourceMachine.SourceSteps.{Turned, turn_by}
use Rattle.interp_stack.specs.StackViews.{on_item, standing}
use Rattle.interp_stack.specs.declared.items.Item7.{Item7}
use Rattle.interp_steps.specs.MachineItems.MachineViews.{state_view}
use Rattle.interp_steps.specs.declared.machine_items.machines.Machine.{Machine}
use Rattle.interp_steps.specs.declared.machine_items.item_turns.Turned7.{Turned7}

-- the run goes on in the state of the machine, or stops for a cause in its world, unless memory ran out
abbrev pub Moves : UnitView → Reply State → Result (Unit {0}) Halt → Machine → Type 0
Moves u reply (Ok x) m = reply ≡ goes (state_view u m) (world_view m.world)
Moves u reply (Err h) m = HaltsAs reply h (world_view m.world)

-- the place of a step, unless memory ran out
abbrev pub CountsAs : Option Place → Result (Unit {0}) Halt → Option Place → Type 0
CountsAs expected (Ok x) counted = expected ≡ counted
CountsAs expected (Err (halt.Stops why)) counted = expected ≡ counted
CountsAs expected (Err halt.Memory) counted = Unit {0}

-- a turn, and the place of its step
pub record TurnsTo (u : UnitView) (turned : Turned) (t : Turned7) (m : Machine) : Type 0 where
  pub reply : Moves u turned.reply t.reply m
  pub counted : CountsAs turned.counted t.reply t.counted

-- the type of an object of a function or of static storage
abbrev pub object_type : UnitView → ℕ → ObjectRef → Option Ty
object_type u f (Static n) = static_type (slice_get u.objects n)
object_type u f (Local n) = local_of (function_at u f) n

-- a list of items is what a jump to others comes to, where they are found
abbrev pub JumpsTo : Option (List Item) → List Item → List Item → Type 0
JumpsTo None from now = Unit {0}
JumpsTo (Some to) from now = now ≡ jump from to

-- what a switch goes on with; where that is nothing it is stuck, unless memory ran out
abbrev pub LandsOn : Option (List Item) → Result (Unit {0}) Halt → List Item → Type 0
LandsOn to (Ok x) now = to ≡ Some now
LandsOn to (Err (halt.Stops why)) now = (why ≡ cause.Stuck) × (to ≡ None)
LandsOn to (Err halt.Memory) now = Unit {0}

-- the turn of a machine whose next items are these
abbrev pub turn_with : UnitView → List Item → Machine → Turned
turn_with u items m = turn_by u (state_view u m) (items ++ (state_view u m).control)

-- what a list has taken in, or want of memory
abbrev pub HeldAs : {E : Type 0} → Result (Unit {0}) E → Result (Unit {0}) Halt → Type 0
HeldAs (Ok x) r = r ≡ Ok x
HeldAs (Err e) r = r ≡ Err halt.Memory

-- the turn of a machine with an item on top of its list
abbrev pub turn_of : UnitView → Item7 → Machine → Turned
turn_of u i m = turn_by u (state_view u m) (on_item u i (standing u m.control.items)).items

-- whether a condition holds that wants a line or none
abbrev pub holds_on : Bool → Bool → Bool
holds_on true none = not none
holds_on false none = none

-- what a side of a test is, where its object is there
abbrev pub tested_as : (ℕ → Option ℕ) → NamedSide → Option TestedSide
tested_as names (item.named o) = option_map (λ i. object i o.kind) (instance_of names o.object)
tested_as names (item.number n) = Some (constant n)
tested_as names item.nothing = Some nothing
