-- Turns that make memory too large.
use Rattle.std.proofs.Common.{◌≡◌, ℕ, ◌*◌, List, [], ◌∷◌, drop, Option, Some, None, refl, sym, ap, subst}
use Rattle.c_layout.specs.CheckedUnits.{FunctionView, UnitView}
use Rattle.c_layout.specs.declared.data_model.Model.{Model}
use Rattle.c_layout.specs.declared.library_functions.LibFn.{LibFn}
use Rattle.c_layout.specs.declared.library_functions.LibFn.TheVariants as f
use Rattle.lower_functions.specs.Functions.Functions.{local_type}
use Rattle.memory_model.specs.Memory.Bytes.{indeterminate, number}
use Rattle.memory_model.specs.Memory.Instances.{automatic, total_size}
use Rattle.memory_model.specs.Memory.Labels.{no_labels}
use Rattle.memory_model.specs.Memory.Scalars.{Scalar, integer, pointer}
use Rattle.memory_model.specs.Effects.AllocationCalls.{asked_for, malloc, calloc, realloc}
use Rattle.memory_model.specs.Effects.LibraryCalls.{library, with_result}
use Rattle.memory_model.specs.Effects.LibraryChecks.{size_of, with_size}
use Rattle.memory_model.specs.Effects.ObjectEffects.{blank_bytes}
use Rattle.memory_model.specs.Effects.Worlds.{World, Reply, goes, stops, behind, unviolated, world_of}
use Rattle.semantics.specs.SourceMachine.Items as item
use Rattle.semantics.specs.SourceMachine.Items.{Item}
use Rattle.semantics.specs.SourceMachine.ObjectSteps.{on, enter_fresh, enter_if}
use Rattle.semantics.specs.SourceMachine.Operations as op
use Rattle.semantics.specs.SourceMachine.Operations.{Operation, newest, pushing_result, perform}
use Rattle.semantics.specs.SourceMachine.SourceStates.{State, if_some, first_do, function_at}
use Rattle.semantics.specs.SourceMachine.SourceSteps.{turn, turn_by}
use Rattle.interp_starts.specs.Inputs.Sums.{most_bytes, IsPassed, PassesWith}
use Rattle.interp_memory.proofs.Totals.{length_blank}
use Rattle.interp_steps.specs.MachineItems.Asked.{type_size, named_size, called_size, operated_size, made_by}
use Rattle.interp.proofs.runs.Allocations.{nothing_passes, fresh_passes, untyped_passes, freed_passes}

-- ---- objects

abbrev entering : UnitView → State → ℕ → Option FunctionView → Reply State
entering u s n g = if_some s g (λ f. on (enter_fresh u s n f))

fresh_object : (u : UnitView) (s : State) (items : List Item) (n count : ℕ) (g : Option FunctionView) → function_at u s.function ≡ g → PassesWith most_bytes (total_size s.world.memory) (type_size u g n) count → IsPassed count (world_of (enter_if u (first_do items s) n None)).memory
fresh_object u s items n count None e p = absurd (nothing_passes most_bytes (total_size s.world.memory) count p)
fresh_object u s items n count (Some function) e p =
    let size = op.size_of u (local_type function n) in
    let bytes = blank_bytes u.model (op.leaves u (local_type function n)) 0 size in
    fresh_passes s.world.memory (world_of (enter_if u (first_do items s) n None)).memory automatic bytes size count
    (ap (λ o. (world_of (entering u (first_do items s) n o)).memory) e)
    (length_blank u.model (op.leaves u (local_type function n)) 0 size)
    p

entered_object : (u : UnitView) (s : State) (items : List Item) (n count : ℕ) (o : Option ℕ) → PassesWith most_bytes (total_size s.world.memory) (named_size u s n o) count → IsPassed count (world_of (enter_if u (first_do items s) n o)).memory
entered_object u s items n count None p = fresh_object u s items n count (function_at u s.function) refl p
entered_object u s items n count (Some i) p = absurd (nothing_passes most_bytes (total_size s.world.memory) count p)

-- ---- calls

with_result_world : (r : Reply Scalar) → world_of (with_result r) ≡ world_of r
with_result_world (goes v w) = refl
with_result_world (stops why w) = refl

result_world : (vs : List Scalar) (r : Reply (Option Scalar)) → world_of (pushing_result vs r) ≡ world_of r
result_world vs (goes None w) = refl
result_world vs (goes (Some v) w) = refl
result_world vs (stops why w) = refl

operated_world : (s : State) (r : Reply (List Scalar)) → world_of (behind r (λ vs w. on (record s { values = vs; world = w }))) ≡ world_of r
operated_world s (goes vs w) = refl
operated_world s (stops why w) = refl

passed_with : (r : Reply Scalar) (count : ℕ) → IsPassed count (world_of r).memory → IsPassed count (world_of (with_result r)).memory
passed_with r count p = subst (λ (w : World). IsPassed count w.memory) (sym (with_result_world r)) p

allocates : (m : Model) (wanted : Option ℕ) (function : LibFn) (arguments : List Scalar) (w : World) (count : ℕ) → PassesWith most_bytes (total_size w.memory) (called_size m function arguments w) count → IsPassed count (world_of (library m wanted function arguments w)).memory
allocates m wanted f.Malloc (integer n labels ∷ []) w count p = passed_with (malloc m wanted (integer n labels ∷ []) w) count (untyped_passes m indeterminate (size_of n) count (asked_for wanted (size_of n) (with_size w labels)) p)
allocates m wanted f.Calloc (integer k s ∷ (integer n t ∷ [])) w count p = passed_with (calloc m wanted (integer k s ∷ (integer n t ∷ [])) w) count (untyped_passes m (number 0 no_labels) (size_of k * size_of n) count (asked_for wanted (size_of k * size_of n) (with_size (with_size w s) t)) p)
allocates m wanted f.Realloc (pointer q ∷ (integer n labels ∷ [])) w count p = passed_with (realloc m wanted (pointer q ∷ (integer n labels ∷ [])) w) count (freed_passes m q (size_of n) count (asked_for wanted (size_of n) (with_size w labels)) p)
allocates m wanted function arguments w count p = absurd (nothing_passes most_bytes (total_size w.memory) count p)

called : (u : UnitView) (s : State) (operation : Operation) (count : ℕ) → PassesWith most_bytes (total_size s.world.memory) (operated_size u s operation) count → IsPassed count (world_of (perform u operation s.values s.world)).memory
called u s (op.Library function n target) count p = subst (λ (w : World). IsPassed count w.memory) (sym (result_world (drop n s.values) (library u.model (op.target_size u target) function (newest n s.values) s.world))) (allocates u.model (op.target_size u target) function (newest n s.values) s.world count p)
called u s operation count p = absurd (nothing_passes most_bytes (total_size s.world.memory) count p)

-- ---- turns

first_passes : (u : UnitView) (s : State) (items : List Item) (count : ℕ) → PassesWith most_bytes (total_size s.world.memory) (made_by u s items) count → IsPassed count (world_of (turn_by u s items).reply).memory
first_passes u s (item.Enters (n ∷ ns) ∷ items) count p = entered_object u (record s { control = items }) (item.Enters ns ∷ []) n count (s.names n) p
first_passes u s (item.Do at operation ∷ items) count p = subst (λ (w : World). IsPassed count w.memory) (sym (operated_world (record s { control = items }) (perform u operation s.values s.world))) (called u s operation count p)
first_passes u s items count p = absurd (nothing_passes most_bytes (total_size s.world.memory) count p)

-- what the next turn makes makes memory too large
pub turn_passes : (u : UnitView) (s : State) (count : ℕ) → PassesWith most_bytes (total_size s.world.memory) (made_by u (record s { world = unviolated s.world }) s.control) count → IsPassed count (world_of (turn u s).reply).memory
turn_passes u s count p = first_passes u (record s { world = unviolated s.world }) s.control count p

-- violations of a turn do not matter
named_anyway : (u : UnitView) (s : State) (n : ℕ) (o : Option ℕ) → named_size u (record s { world = unviolated s.world }) n o ≡ named_size u s n o
named_anyway u s n None = refl
named_anyway u s n (Some i) = refl

called_anyway : (m : Model) (function : LibFn) (arguments : List Scalar) (w : World) → called_size m function arguments (unviolated w) ≡ called_size m function arguments w
called_anyway m f.Malloc (integer n labels ∷ []) w = refl
called_anyway m f.Calloc (integer k s ∷ (integer n t ∷ [])) w = refl
called_anyway m f.Realloc (pointer q ∷ (integer n labels ∷ [])) w = refl
called_anyway m function arguments w = refl

pub made_anyway : (u : UnitView) (s : State) (items : List Item) → made_by u (record s { world = unviolated s.world }) items ≡ made_by u s items
made_anyway u s (item.Enters [] ∷ items) = refl
made_anyway u s (item.Enters (n ∷ ns) ∷ items) = named_anyway u s n (s.names n)
made_anyway u s (item.Do at (op.Library function n target) ∷ items) = called_anyway u.model function (newest n s.values) s.world
made_anyway u s items = refl
