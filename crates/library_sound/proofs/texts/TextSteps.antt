-- Steps on calls of `strcpy` are sound.
use Rattle.std.proofs.Common.{◌≡◌, ℕ, true, ◌&&◌, Option, Some, List, [], ◌∷◌, refl}
use Rattle.std.specs.Prelude.{ℤ}
use Rattle.std.specs.List.{list_all}
use Rattle.std.proofs.lemmas.Bool.{and_parts}
use Rattle.cc_base.specs.Lattices.{LatticeOf, OrderLaws}
use Rattle.cc_base.specs.IntegerLaws.{SoundLaws}
use Rattle.cc_base.specs.IntegerDomains.{IntegersOf, BoundLaws}
use Rattle.c_layout.specs.declared.library_functions.LibFn.{LibFn}
use Rattle.c_layout.specs.declared.library_functions.LibFn.TheVariants as f
use Rattle.cfg.specs.WellFormed.{names_of, has_temp, has_result, is_site, is_optional_extent, fits_operation}
use Rattle.cfg.specs.declared.machine_instructions.Operation.{Operation}
use Rattle.cfg.specs.declared.machine_instructions.Operation.TheVariants as op
use Rattle.cfg.specs.declared.programs.Flow.{Flow}
use Rattle.value_domain.specs.declared.values.row_cells.Cell.{Cell}
use Rattle.transfer_library.specs.Planning.{plan_call}
use Rattle.transfer_sound.specs.CallSteps.{call_of, call_step}
use Rattle.transfer_sound.specs.StepViolations.{operation_violations}
use Rattle.transfer_sound.specs.Steps.{operate}
use Rattle.memory_model.specs.Memory.Scalars.{Scalar, integer, pointer}
use Rattle.memory_model.specs.Effects.LibraryCalls.{library}
use Rattle.memory_model.specs.Effects.Worlds.{stops, Stuck}
use Rattle.semantics.specs.CfgMachine.FlowStates.{ProgramState, values_of}
use Rattle.store_sound.specs.Concretization.ValueMeaning.{Naming}
use Rattle.store_sound.specs.Programs.Premises.{HasPremises}
use Rattle.transfer_sound.specs.Values.SoundSteps.{IsReached, StepIsSound}
use Rattle.transfer_sound.proofs.values.Replies.{if_some_good}
use Rattle.library_sound.proofs.calls.Calls.{clean}
use Rattle.library_sound.proofs.fills.WriteCalls.{Good, plain_stop}
use Rattle.library_sound.specs.Texts.TextCalls.{CopiesText, IsTextCall}
use Rattle.library_sound.proofs.texts.TextCalls.{text_call_good}

module _ {I : Type 0} {l : LatticeOf I} {n : IntegersOf I} {gamma : I → ℤ → Type 0} (o : OrderLaws l) (q : BoundLaws l n gamma) (c : SoundLaws l n gamma) (flow : Flow) (p : HasPremises flow) (naming : Naming) (row : List (Cell I)) (s : ProgramState) (r : IsReached l n gamma flow naming row s) (to : Option ℕ) (has : has_result (names_of flow) to ≡ true) (newest : Option ℕ) where
  stuck_here : (plan : _) → Good o q flow p naming row s r to has newest plan (stops Stuck s.world)
  stuck_here plan = plain_stop o q flow p naming row s r to has newest plan s.world.violated (clean q flow p naming row s r plan.violations) Stuck

  by_name : (name : LibFn) → CopiesText name → (items : List ℕ) (wanted : Option ℕ) (vs : List Scalar) → values_of s.temps items ≡ Some vs → Good o q flow p naming row s r to has newest (plan_call l n name (call_of flow items wanted) row) (library flow.model wanted name vs s.world)
  unfolding plan_call
  by_name f.Strcpy h items wanted [] e = stuck_here _
  by_name f.Strcpy h items wanted (integer z la ∷ vs) e = stuck_here _
  by_name f.Strcpy h items wanted (pointer m ∷ []) e = stuck_here _
  by_name f.Strcpy h items wanted (pointer m ∷ (integer z la ∷ vs)) e = stuck_here _
  by_name f.Strcpy h items wanted (pointer m ∷ (pointer k ∷ (v ∷ vs))) e = stuck_here _
  by_name f.Strcpy h items wanted (pointer m ∷ (pointer k ∷ [])) e = text_call_good o q c flow p naming row s r to has newest items wanted (pointer m ∷ (pointer k ∷ [])) e m k refl refl
  by_name _ h items wanted vs e = absurd h

module _ {I : Type 0} {l : LatticeOf I} {n : IntegersOf I} {gamma : I → ℤ → Type 0} (o : OrderLaws l) (q : BoundLaws l n gamma) (c : SoundLaws l n gamma) (flow : Flow) (p : HasPremises flow) (naming : Naming) (row : List (Cell I)) (s : ProgramState) (r : IsReached l n gamma flow naming row s) where
  pub text_call_sound : (to : Option ℕ) (name : LibFn) (arguments : _) (newest size : Option ℕ) → CopiesText name → fits_operation (names_of flow) (op.Library to name arguments newest size) ≡ true → StepIsSound l n gamma flow row (op.Library to name arguments newest size) s
  unfolding operate call_step operation_violations
  text_call_sound to name arguments newest size is fits =
      let has = (and_parts (has_result (names_of flow) to) (list_all (has_temp (names_of flow)) arguments.items && (is_site flow.bases.items newest && is_optional_extent size)) fits).0 in
      if_some_good l n gamma flow _ _ s r.begun (values_of s.temps arguments.items) _ (λ vs e. by_name o q c flow p naming row s r to has newest name is arguments.items size vs e)

  pub text_step_sound : (i : Operation) → IsTextCall i → fits_operation (names_of flow) i ≡ true → StepIsSound l n gamma flow row i s
  text_step_sound (op.Library to name arguments newest size) is fits = text_call_sound to name arguments newest size is fits
  text_step_sound i is fits = absurd is
