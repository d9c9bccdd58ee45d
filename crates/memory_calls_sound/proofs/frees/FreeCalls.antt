-- Calls of `free` are sound.
use Rattle.std.proofs.Common.{◌≡◌, ℕ, suc, ◌≤◌, Bool, true, false, not, ◌&&◌, Option, Some, None, List, [], ◌∷◌, subst, sym, refl, ap, ◌∙◌, inl, inr}
use Rattle.std.specs.Prelude.{slice_get, ℤ, nat_lt, ◌==◌}
use Rattle.std.specs.List.{list_all}
use Rattle.std.proofs.lemmas.Bool.{cases_Bool, cases_eq, and_parts, and_from, or_left, or_right, ltb-true, eqb-true, true≢false}
use Rattle.std.proofs.lemmas.Option.{same_Some}
use Rattle.cc_base.specs.Lattices.{LatticeOf, OrderLaws}
use Rattle.cc_base.specs.IntegerDomains.{IntegersOf, BoundLaws}
use Rattle.cc_base.specs.declared.diagnostics.Rule.TheVariants as rule
use Rattle.c_layout.specs.declared.library_functions.LibFn.{LibFn}
use Rattle.c_layout.specs.declared.library_functions.LibFn.TheVariants as f
use Rattle.c_layout.specs.declared.shapes.BaseInfo.{BaseInfo}
use Rattle.cfg.specs.WellFormed.{names_of, has_temp, has_result, is_site, is_optional_extent, fits_operation}
use Rattle.cfg.specs.declared.machine_instructions.Operation.{Operation}
use Rattle.cfg.specs.declared.machine_instructions.Operation.TheVariants as op
use Rattle.cfg.specs.declared.programs.Flow.{Flow}
use Rattle.pointer_domain.specs.BaseSets.{bases_has, bases_within, bases_count, bases_empty}
use Rattle.pointer_domain.specs.PointerTables.{is_any}
use Rattle.pointer_domain.specs.declared.pointer_sets.Pointers.{Pointers}
use Rattle.value_domain.specs.declared.values.row_cells.Cell.{Cell}
use Rattle.store_objects.specs.Freeing.{free, free_bases}
use Rattle.store_objects.specs.LiveBases.{most_bases, has_base, live_of, single_bases, is_one_instance}
use Rattle.store_objects.specs.ObjectLengths.{free_keeps}
use Rattle.transfer_checks.specs.AllocationChecks.{heap_of, check_release}
use Rattle.transfer_checks.specs.ViolationSets.{no_violations, violations_union, violates}
use Rattle.transfer_checks.specs.declared.allocation_checks.Released.{Released}
use Rattle.transfer_checks.specs.declared.violation_sets.Violations.{Violations}
use Rattle.transfer_library_plans.specs.Allocations.{plan_free}
use Rattle.transfer_library_plans.specs.Arguments.{argument_value, value_of_argument}
use Rattle.transfer_library.specs.Effects.{apply}
use Rattle.transfer_library.specs.Planning.{plan_call}
use Rattle.transfer_library_plans.specs.declared.call_plans.Plan.{Plan}
use Rattle.transfer_instructions.specs.Instructions.CallSteps.{call_of, call_step}
use Rattle.transfer_instructions.specs.Instructions.StepViolations.{operation_violations}
use Rattle.transfer_instructions.specs.Instructions.Steps.{operate}
use Rattle.memory_model.specs.Memory.Bytes.{MachinePointer, null, into}
use Rattle.memory_model.specs.Memory.Instances.{Memory, Instance, Storage, static, automatic, allocated, literal, Life, live, ended, freed, life_of, life_at}
use Rattle.memory_model.specs.Memory.Scalars.{Scalar, integer, pointer}
use Rattle.memory_model.specs.Effects.AllocationCalls.{is_start, freeable_by, freeable, given_back}
use Rattle.memory_model.specs.Effects.LibraryCalls.{library}
use Rattle.memory_model.specs.Effects.ObjectEffects.{set_life}
use Rattle.memory_model.specs.Effects.Touches.{is_allocated, storage_of, storage_at}
use Rattle.memory_model.specs.Effects.Worlds.{World, Reply, goes, behind, done, with_memory, stopped_by, unless, Stuck, Violated}
use Rattle.semantics.specs.CfgMachine.FlowActs.{calling}
use Rattle.semantics.specs.CfgMachine.FlowStates.{ProgramState, values_of}
use Rattle.store_sound.specs.Concretization.ValueMeaning.{Naming, InGammaInto, InGammaByLife, InGammaPointer, InGammaScalar}
use Rattle.store_sound.specs.Concretization.SoundMemory.{IsPointerIn}
use Rattle.store_sound.proofs.operations.Freed.{into_freed}
use Rattle.store_sound.proofs.operations.LoadSound.{instance_there}
use Rattle.store_sound.proofs.operations.OneBases.{one_base}
use Rattle.store_sound.proofs.operations.Sets.{is_single}
use Rattle.store_sound.proofs.operations.Slices.{get_there}
use Rattle.store_sound.proofs.operations.StoreLeaves.{not_older, live_ended}
use Rattle.store_sound.specs.Programs.Premises.{HasPremises}
use Rattle.library_sound.specs.SoundSteps.{IsReached, InGammaAfter, IsStoodFor, StepIsSound}
use Rattle.library_sound.proofs.Admitted.{one_admitted, both_admitted}
use Rattle.library_sound.proofs.Replies.{if_some_good}
use Rattle.library_sound.proofs.calls.Calls.{first_argument, clean, GoodPlan, plan_stops}
use Rattle.library_sound.proofs.LoadSteps.{union_right}
use Rattle.memory_calls_sound.specs.Frees.FreeCalls.{Frees, IsFreeCall}
use Rattle.memory_calls_sound.proofs.frees.ReleasedMemory.{IsReleased, none_released, one_released, others_live, own_freed}
use Rattle.memory_calls_sound.proofs.frees.FreedRows.{IsFreeing, freed_stands, freed_short}
use Rattle.memory_calls_sound.proofs.frees.Releases.{misplaced, heap_there, rest_bases, rest_any}

allocated_is : (s : Storage) → is_allocated s ≡ true → s ≡ allocated
allocated_is static h = cc
allocated_is automatic h = cc
allocated_is allocated h = refl
allocated_is literal h = cc

freed_live : freed ≡ live → ⊥
freed_live e = cc

module _ {I : Type 0} {l : LatticeOf I} {n : IntegersOf I} {gamma : I → ℤ → Type 0} (o : OrderLaws l) (q : BoundLaws l n gamma) (flow : Flow) (p : HasPremises flow) (naming : Naming) (row : List (Cell I)) (s : ProgramState) (r : IsReached l n gamma flow naming row s) (to : Option ℕ) (has : has_result (names_of flow) to ≡ true) (newest : Option ℕ) (items : List ℕ) (wanted : Option ℕ) where
  abbrev given : Pointers I
  given = (argument_value l n (call_of flow items wanted) row 0).pointer

  abbrev old : Released I
  old = check_release l n flow.bases.items row (argument_value l n (call_of flow items wanted) row 0).pointer

  abbrev the_plan : Plan I
  the_plan = plan_free l n (call_of flow items wanted) row

  abbrev told : Violations
  told = violations_union no_violations old.violations

  abbrev Good : Reply (Option Scalar) → Type 0
  Good reply = GoodPlan q flow p naming row s r to has newest the_plan reply

  abbrev reply_of : MachinePointer → Reply (Unit {0}) → Reply (Option Scalar)
  reply_of at first = behind (behind first (λ _ w. done (given_back at w))) (λ _ w. goes None w)

  -- ---- a release that is stopped

  plan_told : the_plan.violations ≡ told
  unfolding plan_free
  plan_told = refl

  stopped : (at : MachinePointer) (x : _) → violates old.violations x ≡ true → Good (reply_of at (stopped_by s.world x))
  stopped at x h =
      let admits : violates the_plan.violations x ≡ true = ap (λ v. violates v x) plan_told ∙ union_right no_violations old.violations x h in
      plan_stops q flow p naming row s r to has newest the_plan Violated _ (both_admitted the_plan.violations s.world.violated _ (clean q flow p naming row s r the_plan.violations) (one_admitted the_plan.violations x admits))

  -- ---- a release that goes on

  abbrev surely : Bool
  surely = is_one_instance flow.bases.items old.rest.bases && not old.rest.null

  goes_to : (t : Option ℕ) → has_result (names_of flow) t ≡ true → (new : Memory) → IsFreeing naming s.world.memory new old.rest.bases surely → is_any old.rest ≡ true → (w : World) → w ≡ with_memory s.world new → IsStoodFor l n gamma flow (apply l n flow t newest the_plan.effect row) the_plan.violations (calling s t (goes None w))
  unfolding apply plan_free free
  goes_to (Some t) fit new change any w e = plan_stops q flow p naming row s r (Some t) fit newest the_plan Stuck s.world (clean q flow p naming row s r the_plan.violations)
  goes_to None fit new change any w e = subst (λ z. IsStoodFor l n gamma flow (apply l n flow None newest the_plan.effect row) the_plan.violations (calling s None (goes None z))) (sym e) (record {
    goes_on = λ t u k.
        let now : ProgramState = record s { at = suc s.at; world = with_memory s.world new } in
        let a : now ≡ t = cc in
        let c : with_memory s.world new ≡ u = cc in
        let here : InGammaAfter l n gamma flow (apply l n flow None newest the_plan.effect row) (record now { world = with_memory s.world new }) = record {
          row = free_bases l n flow.bases.items old.rest.bases surely row;
          is = rw any refl;
          long = free_keeps l n flow.bases.items old.rest row ∙ r.long;
          naming = naming;
          stands_for = freed_stands q flow p naming row s r new old.rest.bases surely change;
          short = freed_short q flow p naming row s r new old.rest.bases surely change;
        } in
        subst (λ z. InGammaAfter l n gamma flow (apply l n flow None newest the_plan.effect row) (record z { world = u })) a (subst (λ z. InGammaAfter l n gamma flow (apply l n flow None newest the_plan.effect row) (record now { world = z })) c here);
    admits = clean q flow p naming row s r the_plan.violations;
  })

  -- ---- null

  no_sure : (a b : Bool) → b ≡ true → (a && not b) ≡ true → ⊥
  no_sure true true e h = cc
  no_sure true false e h = cc
  no_sure false b e h = cc

  null_rest : given.null ≡ true → old.rest.null ≡ true
  unfolding check_release
  null_rest h = h

  null_good : given.null ≡ true → Good (reply_of null (done s.world))
  null_good h = goes_to to has s.world.memory (record {
    released = none_released s.world.memory;
    inside = λ j d gone named. absurd (freed_live (sym gone.is ∙ gone.was));
    alone = λ e j d alive named c. no_sure (is_one_instance flow.bases.items old.rest.bases) old.rest.null (null_rest h) e;
  }) (or_right _ _ (null_rest h)) s.world refl

  -- ---- an instance

  module _ (i offset lo hi : ℕ) (above : lo ≤ offset) where
    freed_good : life_at s.world.memory i ≡ freed → InGammaInto gamma naming s.world.memory given i offset lo hi → Good (reply_of (into i offset lo hi) (stopped_by s.world rule.Dblfree))
    unfolding check_release
    freed_good e st = stopped (into i offset lo hi) rule.Dblfree (into_freed flow p.shaped naming row _ r.stands_for given i offset lo hi e st)

    ended_good : given.ended ≡ true → Good (reply_of (into i offset lo hi) (stopped_by s.world rule.Xfree))
    unfolding check_release
    ended_good h = stopped (into i offset lo hi) rule.Xfree (or_left given.ended _ h)

    module _ (alive : life_at s.world.memory i ≡ live) (st : InGammaInto gamma naming s.world.memory given i offset lo hi) where
      heap_is : (base : BaseInfo) → slice_get flow.bases.items st.base ≡ Some base → is_allocated (storage_at s.world.memory i) ≡ base.shape.heap
      heap_is base at =
          let it = instance_there s.world.memory i alive in
          let k = r.stands_for.sane.instances i st.base base it.0 st.named at it.1 in
          ap (λ z. is_allocated (storage_of z)) it.1 ∙ (ap is_allocated k.storage ∙ (p.shaped.each st.base base at).kind)

      -- no start of what was allocated
      inner_good : is_start s.world.memory i offset ≡ false → Good (reply_of (into i offset lo hi) (stopped_by s.world rule.Xfree))
      inner_good e = stopped (into i offset lo hi) rule.Xfree (misplaced o q flow p.shaped naming row _ r.stands_for given i offset lo hi above alive st (λ base at heap zero_offset.
          let a : is_start s.world.memory i offset ≡ true = and_from _ _ (heap_is base at ∙ heap) (rw zero_offset refl) in
          true≢false (sym a ∙ e)))

      start_good : is_start s.world.memory i offset ≡ true → Good (reply_of (into i offset lo hi) (done s.world))
      start_good e =
          let start = and_parts (is_allocated (storage_at s.world.memory i)) (offset == 0) e in
          let zero_offset : offset ≡ 0 = eqb-true _ _ start.1 in
          let base = get_there flow.bases.items st.base (r.stands_for.sane.few i st.base st.named) in
          let heap : base.0.shape.heap ≡ true = sym (heap_is base.0 base.1) ∙ start.0 in
          let it = instance_there s.world.memory i alive in
          let stored : it.0.storage ≡ allocated = allocated_is it.0.storage (sym (ap (λ z. is_allocated (storage_of z)) it.1) ∙ start.0) in
          let lives : it.0.life ≡ live = sym (ap life_of it.1) ∙ alive in
          let set : old.rest.bases ≡ heap_of flow.bases.items (live_of l n flow.bases.items row given.bases) = rest_bases o q flow p.shaped naming row _ r.stands_for given i offset lo hi above alive st base.0 base.1 heap zero_offset in
          let some : bases_empty old.rest.bases ≡ false = rest_any o q flow p.shaped naming row _ r.stands_for given i offset lo hi above alive st base.0 base.1 heap zero_offset in
          let there : has_base old.rest.bases st.base ≡ true = subst (λ z. has_base z st.base ≡ true) (sym set) (heap_there o q flow p.shaped naming row _ r.stands_for given i offset lo hi above alive st base.0 base.1 heap zero_offset) in
          let gone : IsReleased s.world.memory (set_life s.world.memory i freed) = one_released s.world.memory i it.0 it.1 stored lives in
          goes_to to has (set_life s.world.memory i freed) (record {
            released = gone;
            inside = λ j d fr named. elim (cases_eq j i) [
              | inl same ↦ subst (λ z. has_base old.rest.bases z ≡ true) (same_Some st.base d (sym st.named ∙ (ap naming (sym same) ∙ named))) there
              | inr ne ↦ absurd (freed_live (sym fr.is ∙ (others_live s.world.memory i j ne ∙ fr.was)))
            ];
            alone = λ sure j d now named in_set.
                let one = (and_parts (is_one_instance flow.bases.items old.rest.bases) (not old.rest.null) sure).0 in
                let parts = and_parts (bases_count old.rest.bases == 1) (bases_within old.rest.bases (single_bases flow.bases.items)) one in
                let y = and_parts (nat_lt st.base most_bases) (bases_has old.rest.bases st.base) there in
                let z = and_parts (nat_lt d most_bases) (bases_has old.rest.bases d) in_set in
                let same : d ≡ st.base = one_base old.rest.bases st.base d (ltb-true _ _ y.0) (ltb-true _ _ z.0) (eqb-true _ _ parts.0) y.1 z.1 in
                let kind = is_single flow.bases.items st.base base.0 base.1 (ltb-true _ _ y.0) old.rest.bases parts.1 y.1 in
                elim (cases_eq j i) [
                  | inl f ↦ freed_live (sym (freed_now it.0 it.1) ∙ (ap (life_at (set_life s.world.memory i freed)) (sym f) ∙ now))
                  | inr ne ↦ (let was : life_at s.world.memory j ≡ live = sym (others_live s.world.memory i j ne) ∙ now in
                      ne (r.stands_for.sane.one j i st.base base.0 base.1 (not_older base.0.kind kind) (named ∙ ap Some same) st.named (λ k. live_ended (sym was ∙ k)) (λ k. live_ended (sym alive ∙ k))))
                ];
          }) (or_left (not (bases_empty old.rest.bases)) old.rest.null (ap not some)) (given_back (into i offset lo hi) s.world) refl
        where
          freed_now : (it : Instance) → slice_get s.world.memory i ≡ Some it → life_at (set_life s.world.memory i freed) i ≡ freed
          freed_now it at = own_freed s.world.memory i it at

      live_good : Good (reply_of (into i offset lo hi) (unless s.world (not (is_start s.world.memory i offset)) rule.Xfree (done s.world)))
      live_good = elim (cases_Bool (is_start s.world.memory i offset)) [
        | inl e ↦ subst (λ b. Good (reply_of (into i offset lo hi) (unless s.world (not b) rule.Xfree (done s.world)))) (sym e) (start_good e)
        | inr e ↦ subst (λ b. Good (reply_of (into i offset lo hi) (unless s.world (not b) rule.Xfree (done s.world)))) (sym e) (inner_good e)
      ]

    by_life : (life : Life) → life_at s.world.memory i ≡ life → InGammaByLife gamma naming s.world.memory given life i offset lo hi → Good (reply_of (into i offset lo hi) (freeable_by s.world life i offset (done s.world)))
    by_life live e st = live_good e st
    by_life ended e st = ended_good st
    by_life freed e st = freed_good e st

  pointer_good : (at : MachinePointer) → IsPointerIn s.world.memory at → InGammaPointer gamma naming s.world.memory given at → Good (reply_of at (freeable at s.world))
  pointer_good null inside st = null_good st
  pointer_good (into i offset lo hi) inside st = by_life i offset lo hi inside.above (life_at s.world.memory i) refl st

  first_is : (at : MachinePointer) → values_of s.temps items ≡ Some (pointer at ∷ []) → InGammaPointer gamma naming s.world.memory given at
  unfolding argument_value
  first_is at e =
      let a = first_argument s.temps items (pointer at) [] e in
      subst (λ y. InGammaScalar gamma naming s.world.memory (value_of_argument l n flow row y) (pointer at)) (sym a.first) (r.stands_for.temps a.temp (pointer at) a.has)

  arguments_good : (vs : List Scalar) → values_of s.temps items ≡ Some vs → Good (library flow.model wanted f.Free vs s.world)
  arguments_good [] e = plan_stops q flow p naming row s r to has newest the_plan Stuck s.world (clean q flow p naming row s r the_plan.violations)
  arguments_good (integer z la ∷ vs) e = plan_stops q flow p naming row s r to has newest the_plan Stuck s.world (clean q flow p naming row s r the_plan.violations)
  arguments_good (pointer at ∷ (v ∷ vs)) e = plan_stops q flow p naming row s r to has newest the_plan Stuck s.world (clean q flow p naming row s r the_plan.violations)
  arguments_good (pointer at ∷ []) e =
      let a = first_argument s.temps items (pointer at) [] e in
      pointer_good at (r.stands_for.held.within a.temp (pointer at) a.has) (first_is at e)

  by_name : (name : LibFn) → Frees name → (vs : List Scalar) → values_of s.temps items ≡ Some vs → GoodPlan q flow p naming row s r to has newest (plan_call l n name (call_of flow items wanted) row) (library flow.model wanted name vs s.world)
  unfolding plan_call
  by_name f.Free h vs e = arguments_good vs e
  by_name _ h vs e = absurd h

module _ {I : Type 0} {l : LatticeOf I} {n : IntegersOf I} {gamma : I → ℤ → Type 0} (o : OrderLaws l) (q : BoundLaws l n gamma) (flow : Flow) (p : HasPremises flow) (naming : Naming) (row : List (Cell I)) (s : ProgramState) (r : IsReached l n gamma flow naming row s) where
  pub free_call_sound : (to : Option ℕ) (name : LibFn) (arguments : _) (newest size : Option ℕ) → Frees name → fits_operation (names_of flow) (op.Library to name arguments newest size) ≡ true → StepIsSound l n gamma flow row (op.Library to name arguments newest size) s
  unfolding operate call_step operation_violations
  free_call_sound to name arguments newest size is fits =
      let has = (and_parts (has_result (names_of flow) to) (list_all (has_temp (names_of flow)) arguments.items && (is_site flow.bases.items newest && is_optional_extent size)) fits).0 in
      if_some_good l n gamma flow _ _ s r.begun (values_of s.temps arguments.items) _ (λ vs e. by_name o q flow p naming row s r to has newest arguments.items size name is vs e)

  pub free_step_sound : (i : Operation) → IsFreeCall i → fits_operation (names_of flow) i ≡ true → StepIsSound l n gamma flow row i s
  free_step_sound (op.Library to name arguments newest size) is fits = free_call_sound to name arguments newest size is fits
  free_step_sound i is fits = absurd is
