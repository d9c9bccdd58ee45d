-- Steps on calls of `malloc` and `calloc` are sound.
use Rattle.std.proofs.Common.{◌≡◌, ℕ, zero, suc, true, ◌&&◌, Option, Some, List, [], ◌∷◌, refl, subst}
use Rattle.std.specs.Prelude.{slice_get, ℤ, pos, ◌≤ℤ◌}
use Rattle.std.specs.List.{list_all}
use Rattle.std.proofs.lemmas.Bool.{and_parts}
use Rattle.std.proofs.lemmas.Option.{same_Some}
use Rattle.cc_base.specs.Lattices.{LatticeOf, OrderLaws}
use Rattle.cc_base.specs.IntegerDomains.{IntegersOf, BoundLaws}
use Rattle.cc_base.specs.declared.limit_table.Limits.{Limits}
use Rattle.c_layout.specs.declared.library_functions.LibFn.{LibFn}
use Rattle.c_layout.specs.declared.library_functions.LibFn.TheVariants as f
use Rattle.cfg.specs.WellFormed.{names_of, has_temp, has_result, is_site, is_optional_extent, fits_operation, is_well_formed}
use Rattle.cfg.specs.declared.machine_instructions.Operation.{Operation}
use Rattle.cfg.specs.declared.machine_instructions.Operation.TheVariants as op
use Rattle.cfg.specs.declared.programs.Flow.{Flow}
use Rattle.value_domain.specs.declared.values.row_cells.Cell.{Cell}
use Rattle.transfer_library.specs.Planning.{plan_call}
use Rattle.transfer_instructions.specs.Instructions.CallSteps.{call_of, call_step}
use Rattle.transfer_instructions.specs.Instructions.StepViolations.{operation_violations}
use Rattle.transfer_instructions.specs.Instructions.Steps.{operate}
use Rattle.memory_model.specs.Memory.Scalars.{Scalar, integer, pointer}
use Rattle.memory_model.specs.Effects.LibraryCalls.{library}
use Rattle.memory_model.specs.Effects.Worlds.{stops, Stuck}
use Rattle.semantics.specs.CfgMachine.FlowStates.{ProgramState, values_of}
use Rattle.store_sound.specs.Concretization.ValueMeaning.{Naming}
use Rattle.store_sound.specs.Programs.Premises.{HasPremises}
use Rattle.library_sound.specs.SoundSteps.{IsReached, StepIsSound}
use Rattle.library_sound.proofs.Replies.{if_some_good}
use Rattle.library_sound.proofs.calls.Calls.{clean}
use Rattle.library_sound.specs.OperandTypes.{HasSize, HasSizes, HasOperands}
use Rattle.memory_calls_sound.specs.Allocations.AllocationCalls.{Allocates, IsAllocationCall}
use Rattle.library_sound.proofs.fills.WriteCalls.{Good, plain_stop, argument_there}
use Rattle.memory_calls_sound.proofs.allocations.AllocationCalls.{malloc_good, calloc_good}

sizes_at : (items : List ℕ) (temps : ℕ → Option Scalar) → HasSizes items temps → (at temp : ℕ) → slice_get items at ≡ Some temp → HasSize (temps temp)
sizes_at [] temps h at temp e = cc
sizes_at (x ∷ xs) temps h zero temp e = let same : x ≡ temp = same_Some x temp e in subst (λ z. HasSize (temps z)) same h.0
sizes_at (x ∷ xs) temps h (suc at) temp e = sizes_at xs temps h.1 at temp e

pub sized_at : (temps : ℕ → Option Scalar) (items : List ℕ) (vs : List Scalar) → values_of temps items ≡ Some vs → HasSizes items temps → (at : ℕ) (z : ℤ) (la : _) → slice_get vs at ≡ Some (integer z la) → pos 0 ≤ℤ z
sized_at temps items vs e sized at z la h =
    let a = argument_there temps items vs e at (integer z la) h in
    sizes_at items temps sized at a.temp a.there z la a.has

module _ {I : Type 0} {l : LatticeOf I} {n : IntegersOf I} {gamma : I → ℤ → Type 0} (o : OrderLaws l) (q : BoundLaws l n gamma) (flow : Flow) (limits : Limits) (good : is_well_formed limits flow ≡ true) (p : HasPremises flow) (naming : Naming) (row : List (Cell I)) (s : ProgramState) (r : IsReached l n gamma flow naming row s) (to : Option ℕ) (has : has_result (names_of flow) to ≡ true) (newest : ℕ) (at_site : is_site flow.bases.items (Some newest) ≡ true) where
  stuck_here : (plan : _) → Good o q flow p naming row s r to has (Some newest) plan (stops Stuck s.world)
  stuck_here plan = plain_stop o q flow p naming row s r to has (Some newest) plan s.world.violated (clean q flow p naming row s r plan.violations) Stuck

  by_name : (name : LibFn) → Allocates name → (items : List ℕ) (wanted : Option ℕ) (vs : List Scalar) → values_of s.temps items ≡ Some vs → HasSizes items s.temps → Good o q flow p naming row s r to has (Some newest) (plan_call l n name (call_of flow items wanted) row) (library flow.model wanted name vs s.world)
  unfolding plan_call
  by_name f.Malloc h items wanted [] e sized = stuck_here _
  by_name f.Malloc h items wanted (pointer m ∷ vs) e sized = stuck_here _
  by_name f.Malloc h items wanted (integer z la ∷ (v ∷ vs)) e sized = stuck_here _
  by_name f.Malloc h items wanted (integer z la ∷ []) e sized = malloc_good o q flow limits good p naming row s r to has newest at_site items wanted (integer z la ∷ []) e z la refl (sized_at s.temps items (integer z la ∷ []) e sized 0 z la refl)
  by_name f.Calloc h items wanted [] e sized = stuck_here _
  by_name f.Calloc h items wanted (pointer m ∷ vs) e sized = stuck_here _
  by_name f.Calloc h items wanted (integer k la ∷ []) e sized = stuck_here _
  by_name f.Calloc h items wanted (integer k la ∷ (pointer m ∷ vs)) e sized = stuck_here _
  by_name f.Calloc h items wanted (integer k la ∷ (integer z lb ∷ (v ∷ vs))) e sized = stuck_here _
  by_name f.Calloc h items wanted (integer k la ∷ (integer z lb ∷ [])) e sized =
      let both : List Scalar = integer k la ∷ (integer z lb ∷ []) in
      calloc_good o q flow limits good p naming row s r to has newest at_site items wanted both e k z la lb refl refl (sized_at s.temps items both e sized 0 k la refl) (sized_at s.temps items both e sized 1 z lb refl)
  by_name _ h items wanted vs e sized = absurd h

module _ {I : Type 0} {l : LatticeOf I} {n : IntegersOf I} {gamma : I → ℤ → Type 0} (o : OrderLaws l) (q : BoundLaws l n gamma) (flow : Flow) (limits : Limits) (good : is_well_formed limits flow ≡ true) (p : HasPremises flow) (naming : Naming) (row : List (Cell I)) (s : ProgramState) (r : IsReached l n gamma flow naming row s) where
  pub allocation_call_sound : (to : Option ℕ) (name : LibFn) (arguments : _) (newest : ℕ) (size : Option ℕ) → Allocates name → fits_operation (names_of flow) (op.Library to name arguments (Some newest) size) ≡ true → HasSizes arguments.items s.temps → StepIsSound l n gamma flow row (op.Library to name arguments (Some newest) size) s
  unfolding operate call_step operation_violations
  allocation_call_sound to name arguments newest size is fits sized =
      let a = and_parts (has_result (names_of flow) to) (list_all (has_temp (names_of flow)) arguments.items && (is_site flow.bases.items (Some newest) && is_optional_extent size)) fits in
      let b = and_parts (list_all (has_temp (names_of flow)) arguments.items) (is_site flow.bases.items (Some newest) && is_optional_extent size) a.1 in
      let at_site = (and_parts (is_site flow.bases.items (Some newest)) (is_optional_extent size) b.1).0 in
      if_some_good l n gamma flow _ _ s r.begun (values_of s.temps arguments.items) _ (λ vs e. by_name o q flow limits good p naming row s r to a.0 newest at_site name is arguments.items size vs e sized)

  by_operands : (to : Option ℕ) (name : LibFn) (arguments : _) (newest : ℕ) (size : Option ℕ) → Allocates name → fits_operation (names_of flow) (op.Library to name arguments (Some newest) size) ≡ true → HasOperands (op.Library to name arguments (Some newest) size) s.temps → StepIsSound l n gamma flow row (op.Library to name arguments (Some newest) size) s
  by_operands to f.Malloc arguments newest size is fits sized = allocation_call_sound to f.Malloc arguments newest size is fits sized
  by_operands to f.Calloc arguments newest size is fits sized = allocation_call_sound to f.Calloc arguments newest size is fits sized
  by_operands to _ arguments newest size is fits sized = absurd is

  pub allocation_step_sound : (i : Operation) → IsAllocationCall i → fits_operation (names_of flow) i ≡ true → HasOperands i s.temps → StepIsSound l n gamma flow row i s
  allocation_step_sound (op.Library to name arguments (Some newest) size) is fits sized = by_operands to name arguments newest size is fits sized
  allocation_step_sound i is fits sized = absurd is
