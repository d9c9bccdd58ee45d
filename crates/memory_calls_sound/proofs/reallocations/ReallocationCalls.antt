-- Calls of `realloc` are sound.
use Rattle.std.proofs.Common.{◌<◌, ◌≡◌, ℕ, ◌+◌, ◌≤◌, Bool, true, false, cond, not, ◌&&◌, Option, Some, None, List, [], ◌∷◌, ◌++◌, length, arith, subst, sym, refl, ap, ◌∙◌, inl, inr, ◌⊎◌}
use Rattle.std.specs.Prelude.{slice_get, ℤ, pos, ◌≤ℤ◌, is_some, nat_lt, nat_le, ◌==◌}
use Rattle.std.specs.Ordering.{int_eq}
use Rattle.std.proofs.lemmas.Int.{ints}
use Rattle.std.proofs.lemmas.Bool.{cases_eq, and_parts, eqb-true, leb-true, lt-ltb, ltb-true, and_from, or_left, or_right, true≢false}
use Rattle.std.proofs.lemmas.Option.{slice_get_within, same_Some}
use Rattle.cc_base.specs.Lattices.{LatticeOf, OrderLaws}
use Rattle.cc_base.specs.IntegerDomains.{IntegersOf, BoundLaws, RangeLaws}
use Rattle.cc_base.specs.IntegerTypes.{greatest_of}
use Rattle.cc_base.specs.NumberRanges.{Range, range_met}
use Rattle.cc_base.specs.declared.diagnostics.Rule.{Rule}
use Rattle.cc_base.specs.declared.diagnostics.Rule.TheVariants as rule
use Rattle.cc_base.specs.declared.limit_table.Limits.{Limits}
use Rattle.c_layout.specs.declared.leaf_lists.Class.TheVariants.{Pointer}
use Rattle.cfg.specs.WellFormed.{names_of, has_result, is_site, is_well_formed, has_temp, is_optional_extent, fits_operation}
use Rattle.cfg.specs.declared.programs.Flow.{Flow}
use Rattle.value_domain.specs.Values.ValueTables.{pointer_value}
use Rattle.value_domain.specs.declared.values.values.Value.{Value}
use Rattle.value_domain.specs.declared.values.row_cells.Cell.{Cell}
use Rattle.domain_theorems.proofs.values.Numbers.{RangeHas, met_has, of_range_stands, bounds_have}
use Rattle.store_objects.specs.Allocations.{site_of, renew, renewed_pointer}
use Rattle.store_cells.specs.NearValues.{near_number}
use Rattle.store_cells.specs.ScalarTypes.{kind_of}
use Rattle.transfer_checks.specs.AllocationChecks.{allocation_violations, is_too_small, heap_of, check_release}
use Rattle.transfer_checks.specs.ViolationSets.{no_violations, violates}
use Rattle.transfer_library_plans.specs.Allocations.{sized_trail, instance_size, plan_realloc}
use Rattle.transfer_library.specs.Effects.{older_of, put_result, apply}
use Rattle.transfer_library_plans.specs.Plans.{trail_of, planned, checked}
use Rattle.transfer_library_plans.specs.declared.call_plans.Effect.{Effect}
use Rattle.transfer_library_plans.specs.declared.call_plans.Effect.TheVariants as effect
use Rattle.transfer_library_plans.specs.declared.call_plans.Plan.{Plan}
use Rattle.transfer_instructions.specs.Instructions.CallSteps.{call_of, call_step}
use Rattle.memory_model.specs.Memory.Labels.{Labels, is_unlabelled}
use Rattle.memory_model.specs.Memory.Bytes.{null, into, MachinePointer, Byte}
use Rattle.memory_model.specs.Memory.Instances.{Memory, allocated, bytes_of, bytes_at, Storage, static, automatic, literal, Life, live, ended, freed, life_of, life_at, byte_at}
use Rattle.memory_model.specs.Memory.Scalars.{Scalar, integer, pointer}
use Rattle.memory_model.specs.Effects.AllocationCalls.{too_small, if_given, allocate, is_start, freeable_by, freeable, resized, moved_to, realloc_bytes}
use Rattle.memory_model.specs.Effects.LibraryCalls.{with_result, library}
use Rattle.memory_model.specs.Effects.LibraryChecks.{size_of, with_size, most_size}
use Rattle.memory_model.specs.Effects.ObjectEffects as objects
use Rattle.memory_model.specs.Effects.Worlds.{stops, World, Reply, goes, behind, drawn, OutOfDraws, Stuck, done, stopped_by, unless, Violated}
use Rattle.semantics.specs.CfgMachine.FlowStates.{ProgramState, values_of}
use Rattle.store_sound.specs.Concretization.ValueMeaning.{Naming, InGammaScalar, InGammaInto, InGammaByLife, InGammaPointer}
use Rattle.store_cells.specs.AccessWindows.{last_offset}
use Rattle.store_sound.proofs.operations.TouchedRest.{near_stands}
use Rattle.store_sound.specs.Programs.Premises.{HasPremises}
use Rattle.library_sound.specs.SoundSteps.{AreShort, IsReached, StepIsSound}
use Rattle.library_sound.proofs.Admitted.{AreAdmitted, none_admitted, one_admitted, both_admitted}
use Rattle.library_sound.proofs.Replies.{if_some_good}
use Rattle.library_sound.proofs.calls.Calls.{DrawnEnd, gave, ran_out, drawn_end, clean, GoodPlan, plan_stops}
use Rattle.library_sound.proofs.strings.Trails.{still_told, told_here, goes_further}
use Rattle.library_sound.proofs.GrownMemory.{grows}
use Rattle.library_sound.proofs.fills.WriteCalls.{argument_stands, value_of, argument_in}
use Rattle.memory_calls_sound.proofs.allocations.Products.{IsAsked, asked_some, asked_has, asked_small, plain_asked}
use Rattle.memory_calls_sound.proofs.allocations.Sites.{IsSiteOf, site_is}
use Rattle.std.specs.List.{list_all}
use Rattle.c_layout.specs.declared.library_functions.LibFn.{LibFn}
use Rattle.c_layout.specs.declared.library_functions.LibFn.TheVariants as f
use Rattle.c_layout.specs.declared.shapes.BaseInfo.{BaseInfo}
use Rattle.cfg.specs.declared.machine_instructions.Operation.{Operation}
use Rattle.cfg.specs.declared.machine_instructions.Operation.TheVariants as op
use Rattle.pointer_domain.specs.BaseSets.{bases_has, bases_empty}
use Rattle.pointer_domain.specs.PointerTables.{is_any}
use Rattle.pointer_domain.specs.declared.pointer_sets.Pointers.{Pointers}
use Rattle.store_objects.specs.Freeing.{free_bases, freed_state, is_heap_in, free_base_if, free_base}
use Rattle.store_objects.specs.LiveBases.{most_bases, has_base, live_of}
use Rattle.transfer_checks.specs.declared.allocation_checks.Released.{Released}
use Rattle.transfer_library.specs.Planning.{plan_call}
use Rattle.transfer_instructions.specs.Instructions.StepViolations.{operation_violations}
use Rattle.transfer_instructions.specs.Instructions.Steps.{operate}
use Rattle.memory_model.specs.Effects.ObjectEffects.{set_life}
use Rattle.memory_model.specs.Effects.Touches.{is_allocated, storage_of, storage_at}
use Rattle.store_sound.specs.Concretization.SoundMemory.{IsWithin, IsPointerIn}
use Rattle.store_sound.proofs.operations.Freed.{into_freed}
use Rattle.store_sound.proofs.operations.LoadSound.{instance_there}
use Rattle.store_sound.proofs.operations.Slices.{get_there}
use Rattle.memory_calls_sound.proofs.frees.ReleasedMemory.{IsReleased, none_released, one_released, others_live}
use Rattle.memory_calls_sound.proofs.frees.FreedRows.{IsFreeing, freed_short}
use Rattle.memory_calls_sound.proofs.frees.Releases.{misplaced, heap_there, rest_bases, rest_any}
use Rattle.cc_base.specs.IntegerLaws.{SoundLaws}
use Rattle.std.proofs.lemmas.List.{length-set}
use Rattle.store_objects.specs.declared.allocation.Fresh.TheVariants as fresh
use Rattle.store_cells.specs.RowPositions.{state_position, state_at, put_state}
use Rattle.store_cells.specs.Walks.{walk}
use Rattle.pointer_domain.specs.declared.base_sets.Bases.{Bases}
use Rattle.value_domain.specs.declared.values.row_cells.Cell.TheVariants.{State}
use Rattle.transfer_library_plans.specs.declared.call_plans.Trail.{Trail}
use Rattle.library_sound.specs.OperandTypes.{HasSizes, HasOperands}
use Rattle.memory_calls_sound.proofs.allocations.AllocationCalls.{given_good, most_is, labels_told, by_sign}
use Rattle.memory_calls_sound.proofs.allocations.AllocationSteps.{sized_at}
use Rattle.memory_calls_sound.proofs.allocations.RenamedNames.{new_base, new_name, renames, base_moves, base_stays, renamed_has}
use Rattle.memory_calls_sound.specs.Reallocations.ReallocationCalls.{Reallocates, IsReallocationCall}
use Rattle.memory_calls_sound.proofs.reallocations.Resized.{blank_byte, resized_long, resized_byte}
use Rattle.memory_calls_sound.proofs.reallocations.ReallocatedRows.{Origin, of_nothing, of_instance, set, made, after, renewed_is, too, reached, given, null_stands, nothing_stands, grown, named_too, instance_stands, instance_result}

allocated_is : (s : Storage) → is_allocated s ≡ true → s ≡ allocated
allocated_is static h = cc
allocated_is automatic h = cc
allocated_is allocated h = refl
allocated_is literal h = cc

freed_live : freed ≡ live → ⊥
freed_live e = cc

walk_long : {I K : Type 0} (f : K → ℕ → List (Cell I) → List (Cell I)) → ((k : K) (at : ℕ) (row : List (Cell I)) → length (f k at row) ≡ length row) → (at : ℕ) (ks : List K) (row : List (Cell I)) → length (walk f at ks row) ≡ length row
walk_long f h at [] row = refl
walk_long f h at (k ∷ ks) row = walk_long f h (at + 1) ks (f k at row) ∙ h k at row

freed_long : {I : Type 0} (l : LatticeOf I) (n : IntegersOf I) (set_of : Bases) (bases : List BaseInfo) (row : List (Cell I)) → length (free_bases l n bases set_of false row) ≡ length row
unfolding free_bases free_base_if
freed_long l n set_of bases row = walk_long (free_base l n set_of false) (λ base at r. by_wanted base r (is_heap_in set_of base at)) 0 bases row
  where
    by_wanted : (base : BaseInfo) (r : List (Cell _)) (wanted : Bool) → length (cond wanted (put_state r (state_position base) (freed_state false (state_at l n r (state_position base)))) r) ≡ length r
    by_wanted base r true = length-set r (state_position base) (State (freed_state false (state_at l n r (state_position base))))
    by_wanted base r false = refl

no_old_byte : (size x : ℕ) (y : Byte) → slice_get (resized [] size) x ≡ Some y → y ≡ blank_byte
no_old_byte size x y e = elim (resized_byte [] size x y e) [ inl f ↦ cc | inr f ↦ f ]

module _ {I : Type 0} {l : LatticeOf I} {n : IntegersOf I} {gamma : I → ℤ → Type 0} (o : OrderLaws l) (q : BoundLaws l n gamma) (c : SoundLaws l n gamma) (ranges : RangeLaws l n) (flow : Flow) (limits : Limits) (good : is_well_formed limits flow ≡ true) (p : HasPremises flow) (naming : Naming) (row : List (Cell I)) (s : ProgramState) (r : IsReached l n gamma flow naming row s) (to : Option ℕ) (has : has_result (names_of flow) to ≡ true)
    (newest : ℕ) (at_site : is_site flow.bases.items (Some newest) ≡ true) (items : List ℕ) (wanted : Option ℕ) (vs : List Scalar) (e : values_of s.temps items ≡ Some vs) (ptr : MachinePointer) (z : ℤ) (la : Labels) (first : slice_get vs 0 ≡ Some (pointer ptr)) (second : slice_get vs 1 ≡ Some (integer z la)) (from : pos 0 ≤ℤ z) where
  t : IsSiteOf flow newest (newest + 1)
  t = site_is limits flow good p newest at_site

  abbrev argument : ℕ → Value I
  argument place = value_of o q flow p naming row s r to has (Some newest) items wanted vs e place

  abbrev given_pointer : Pointers I
  given_pointer = (argument 0).pointer

  abbrev amount : Value I
  amount = argument 1

  abbrev old : Released I
  old = check_release l n flow.bases.items row (argument 0).pointer

  abbrev count : ℕ
  count = size_of z

  abbrev range : Range
  range = n.bounds amount.num

  amount_stands : InGammaScalar gamma naming s.world.memory amount (integer z la)
  amount_stands = argument_stands o q flow p naming row s r to has (Some newest) items wanted vs e 1 (integer z la) second

  pointer_stands : InGammaPointer gamma naming s.world.memory given_pointer ptr
  pointer_stands = argument_stands o q flow p naming row s r to has (Some newest) items wanted vs e 0 (pointer ptr) first

  pointer_in : IsPointerIn s.world.memory ptr
  pointer_in = argument_in o q flow p naming row s r to has (Some newest) items wanted vs e 0 ptr first

  asked : IsAsked range count (most_size flow.model)
  asked = plain_asked range count (most_size flow.model) (subst (RangeHas range) (by_sign o q flow limits good p naming row s r to has newest at_site z from) (bounds_have q amount.num z amount_stands.0))

  -- ---- the plan

  abbrev size_trail : Trail
  size_trail = sized_trail range amount.labels wanted

  abbrev the_plan : Plan I
  the_plan = planned (checked size_trail old.violations (is_any old.rest)) (effect.Reallocate (instance_size l n flow.model range) old.rest)

  abbrev Good : Reply (Option Scalar) → Type 0
  Good reply = GoodPlan q flow p naming row s r to has (Some newest) the_plan reply

  sized_on : size_trail.goes_on ≡ true
  sized_on = asked_some range count (most_size flow.model) asked

  size_told : (rl : Rule) → violates (allocation_violations range amount.labels wanted) rl ≡ true → violates the_plan.violations rl ≡ true
  size_told rl h = still_told size_trail old.violations (is_any old.rest) rl (still_told (trail_of (allocation_violations range amount.labels wanted)) no_violations (is_some range) rl h)

  release_told : (rl : Rule) → violates old.violations rl ≡ true → violates the_plan.violations rl ≡ true
  release_told rl h = told_here size_trail old.violations (is_any old.rest) rl sized_on h

  label_told : AreAdmitted the_plan.violations (cond (not (is_unlabelled la)) (rule.Taintsink ∷ []) [])
  label_told = by_test (not (is_unlabelled la)) refl
    where
      by_test : (b : Bool) → not (is_unlabelled la) ≡ b → AreAdmitted the_plan.violations (cond b (rule.Taintsink ∷ []) [])
      by_test false f = none_admitted the_plan.violations
      by_test true f = one_admitted the_plan.violations rule.Taintsink (size_told rule.Taintsink (labels_told la amount.labels amount_stands.1 f))

  small_told : (size_wanted : Option ℕ) → wanted ≡ size_wanted → AreAdmitted the_plan.violations (cond (too_small size_wanted count) (rule.Insufmem ∷ []) [])
  small_told None f = none_admitted the_plan.violations
  small_told (Some bytes) f = by_test (nat_lt count bytes) refl
    where
      by_test : (b : Bool) → nat_lt count bytes ≡ b → AreAdmitted the_plan.violations (cond b (rule.Insufmem ∷ []) [])
      by_test false g = none_admitted the_plan.violations
      by_test true g = one_admitted the_plan.violations rule.Insufmem (size_told rule.Insufmem (ap (is_too_small range) f ∙ asked_small range count (most_size flow.model) bytes asked (let h = ltb-true count bytes g in omega (arith, h))))

  abbrev found : List Rule
  found = (s.world.violated ++ cond (not (is_unlabelled la)) (rule.Taintsink ∷ []) []) ++ cond (too_small wanted count) (rule.Insufmem ∷ []) []

  fine : AreAdmitted the_plan.violations found
  fine = both_admitted the_plan.violations (s.world.violated ++ cond (not (is_unlabelled la)) (rule.Taintsink ∷ []) []) _
      (both_admitted the_plan.violations s.world.violated _ (clean q flow p naming row s r the_plan.violations) label_told) (small_told wanted refl)

  abbrev start_world : World
  start_world = record (s.world) { violated = found }

  -- ---- what the call comes to behind the release

  abbrev size : I
  size = near_number l n (instance_size l n flow.model range)

  older_is : older_of newest ≡ newest + 1
  older_is = let k = slice_get_within flow.bases.items newest t.new t.new_there in let few = p.shaped.few in omega (arith, k, few)

  abbrev behind_call : List (Cell I)
  behind_call = after o q c ranges flow p naming row s r newest t size old.rest

  abbrev result_value : Value I
  result_value = pointer_value l (given o q c ranges flow p naming row s r newest t size old.rest)

  module _ (any : is_any old.rest ≡ true) where
    effect_is : the_plan.effect ≡ effect.Reallocate (instance_size l n flow.model range) old.rest
    effect_is = ap (λ b. cond {A = Effect I} b (effect.Reallocate (instance_size l n flow.model range) old.rest) effect.Unreached) (goes_further size_trail old.violations (is_any old.rest) sized_on any)

    applied : apply l n flow to (Some newest) the_plan.effect row ≡ Some (put_result flow to result_value behind_call)
    unfolding apply
    applied =
        ap (λ y. apply l n flow to (Some newest) y row) effect_is
        ∙ (ap (λ y. Some (put_result flow to (pointer_value l (renewed_pointer l n flow.bases.items (site_of newest y) size)) (renew l n flow.model flow.bases.items newest y size (fresh.Old old.rest) row))) older_is
        ∙ ap (λ y. Some (put_result flow to result_value y)) (renewed_is o q c ranges flow p naming row s r newest t size old.rest))

    row_long : length behind_call ≡ flow.width
    row_long = freed_long l n (set o q c ranges flow p naming row s r newest t size old.rest) flow.bases.items (made o q c ranges flow p naming row s r newest t size old.rest) ∙ (reached o q c ranges flow p naming row s r newest t size old.rest).long

    none_freed : IsFreeing (too o q c ranges flow p naming row s r newest t size old.rest) s.world.memory s.world.memory (set o q c ranges flow p naming row s r newest t size old.rest) false
    none_freed = record { released = none_released s.world.memory; inside = λ j d gone named. absurd (freed_live (sym gone.is ∙ gone.was)); alone = λ f j d alive named h. absurd (true≢false (sym f)) }

    -- there is no memory
    null_good : (draws : List ℤ) → Good (goes (Some (pointer null)) (record start_world { draws = draws }))
    null_good draws = given_good o q flow limits good p naming row s r to has newest at_site the_plan found fine draws s.world.memory (too o q c ranges flow p naming row s r newest t size old.rest) r.short behind_call row_long
        (nothing_stands o q c ranges flow p naming row s r newest t size old.rest s.world.memory none_freed) result_value (pointer null)
        (record { stands_for = null_stands o q c ranges flow p naming row s r newest t size old.rest s.world.memory (too o q c ranges flow p naming row s r newest t size old.rest); near = tt; within = tt }) applied

    -- an instance is made, and the old one is freed
    module _ (memory : Memory) (freeing : IsFreeing (too o q c ranges flow p naming row s r newest t size old.rest) s.world.memory memory (set o q c ranges flow p naming row s r newest t size old.rest) false) (bytes : List Byte) (long : length bytes ≡ count)
        (origin : Origin flow (too o q c ranges flow p naming row s r newest t size old.rest) s.world.memory (set o q c ranges flow p naming row s r newest t size old.rest) bytes)
        (moves : (draws : List ℤ) → moved_to count ptr (record start_world { draws = draws }) ≡ goes (pointer (into (length memory) 0 0 (length bytes))) (record (s.world) { memory = memory ++ objects.fresh allocated bytes ∷ []; draws = draws; violated = found })) where
      module _ (few : count ≤ most_size flow.model) where
        size_stands : gamma size (pos (length bytes))
        size_stands =
            let most = most_is flow.model p.model in
            let top = most.0 in
            let word = most.1 in
            let below : pos count ≤ℤ greatest_of (kind_of flow.model Pointer true) = omega (arith, ints, top, few) in
            let met = met_has range (pos 0) (greatest_of (kind_of flow.model Pointer true)) (pos count) (asked_has range count (most_size flow.model) asked few) (omega (arith, ints)) below in
            let given_size = of_range_stands q (range_met range (pos 0) (greatest_of (kind_of flow.model Pointer true))) (pos count) met in
            subst (λ y. gamma size (pos y)) (sym long) (near_stands o q _ (pos count) (omega (arith, ints)) (omega (arith, ints, few, word)) (near_stands o q _ (pos count) (omega (arith, ints)) (omega (arith, ints, few, word)) given_size))

        small : length bytes ≤ last_offset
        small = let word = (most_is flow.model p.model).1 in omega (arith, few, word, long)

        abbrev made_memory : Memory
        made_memory = grown o q c ranges flow p naming row s r newest t size old.rest memory freeing bytes origin size_stands small

        short_memory : AreShort flow.model memory
        short_memory = freed_short q flow p (too o q c ranges flow p naming row s r newest t size old.rest) (made o q c ranges flow p naming row s r newest t size old.rest) s (reached o q c ranges flow p naming row s r newest t size old.rest) memory (set o q c ranges flow p naming row s r newest t size old.rest) false freeing

        short_made : AreShort flow.model made_memory
        short_made j = elim (cases_eq j (length memory)) [
          | inl f ↦ (
              let top = (most_is flow.model p.model).0 in
              let own = ap (λ y. length (bytes_of y)) (grows memory (objects.fresh allocated bytes)).own in
              subst (λ y. pos (length (bytes_at made_memory y)) ≤ℤ greatest_of (kind_of flow.model Pointer true)) (sym f) (omega (arith, ints, top, own, long, few)))
          | inr ne ↦ subst (λ y. pos (length (bytes_of y)) ≤ℤ greatest_of (kind_of flow.model Pointer true)) (sym ((grows memory (objects.fresh allocated bytes)).others j ne)) (short_memory j)
        ]

        made_good : (draws : List ℤ) → Good (with_result (moved_to count ptr (record start_world { draws = draws })))
        made_good draws = subst (λ y. Good (with_result y)) (sym (moves draws))
            (given_good o q flow limits good p naming row s r to has newest at_site the_plan found fine draws made_memory (named_too o q c ranges flow p naming row s r newest t size old.rest memory freeing bytes origin size_stands small) short_made behind_call row_long
            (instance_stands o q c ranges flow p naming row s r newest t size old.rest memory freeing bytes origin size_stands small) result_value (pointer (into (length memory) 0 0 (length bytes)))
            (instance_result o q c ranges flow p naming row s r newest t size old.rest memory freeing bytes origin size_stands small) applied)

      by_given : (y : ℤ) (draws : List ℤ) (b : Bool) → (int_eq y (pos 1) && nat_le count (most_size flow.model)) ≡ b → Good (with_result (if_given b (moved_to count ptr) (record start_world { draws = draws })))
      by_given y draws true f = made_good (leb-true count (most_size flow.model) (and_parts (int_eq y (pos 1)) (nat_le count (most_size flow.model)) f).1) draws
      by_given y draws false f = null_good draws

      by_drawn : DrawnEnd start_world (pos 0) (pos 1) (drawn start_world (pos 0) (pos 1)) → Good (with_result (allocate flow.model count (moved_to count ptr) start_world))
      by_drawn (gave y draws low up is) = subst (λ x. Good (with_result (behind x (λ answer w. if_given (int_eq answer (pos 1) && nat_le count (most_size flow.model)) (moved_to count ptr) w)))) (sym is) (by_given y draws (int_eq y (pos 1) && nat_le count (most_size flow.model)) refl)
      by_drawn (ran_out draws is) = subst (λ x. Good (with_result (behind x (λ answer w. if_given (int_eq answer (pos 1) && nat_le count (most_size flow.model)) (moved_to count ptr) w)))) (sym is) (plan_stops q flow p naming row s r to has (Some newest) the_plan OutOfDraws (record start_world { draws = draws }) fine)

      allocate_good : Good (with_result (allocate flow.model count (moved_to count ptr) start_world))
      allocate_good = by_drawn (drawn_end start_world (pos 0) (pos 1))

  -- ---- the release

  abbrev after_release : Reply (Unit {0}) → Reply (Option Scalar)
  after_release reply = with_result (behind reply (λ _ w. allocate flow.model count (moved_to count ptr) w))

  stopped : (rl : Rule) → violates old.violations rl ≡ true → Good (after_release (stopped_by start_world rl))
  stopped rl h = plan_stops q flow p naming row s r to has (Some newest) the_plan Violated _ (both_admitted the_plan.violations found _ fine (one_admitted the_plan.violations rl (release_told rl h)))

  null_rest : given_pointer.null ≡ true → old.rest.null ≡ true
  unfolding check_release
  null_rest h = h

  null_release : ptr ≡ null → Good (after_release (done start_world))
  null_release is =
      let h : given_pointer.null ≡ true = subst (InGammaPointer gamma naming s.world.memory given_pointer) is pointer_stands in
      let any : is_any old.rest ≡ true = or_right _ _ (null_rest h) in
      allocate_good any s.world.memory (none_freed any)
      (resized [] count) (resized_long [] count) (of_nothing (no_old_byte count)) (λ draws. ap (λ y. moved_to count y (record start_world { draws = draws })) is)

  -- the base that an instance of the old pointer's has behind the call
  renamed_base : (b : ℕ) (base : BaseInfo) → slice_get flow.bases.items b ≡ Some base → base.shape.heap ≡ true → (other : BaseInfo) × (slice_get flow.bases.items (new_base newest (newest + 1) b) ≡ Some other) × (other.shape.heap ≡ true)
  renamed_base b base at heap = elim (cases_eq b newest) [
    | inl same ↦ (t.old, ap (slice_get flow.bases.items) (ap (new_base newest (newest + 1)) same ∙ base_moves newest (newest + 1)) ∙ t.old_there, t.site.old_heap)
    | inr ne ↦ (base, ap (slice_get flow.bases.items) (base_stays newest (newest + 1) b ne) ∙ at, heap)
  ]

  small_base : (b : ℕ) (base : BaseInfo) → slice_get flow.bases.items b ≡ Some base → b < most_bases
  small_base b base at = let k = slice_get_within flow.bases.items b base at in let few = p.shaped.few in omega (arith, k, few)

  each_small : (i b : ℕ) → naming i ≡ Some b → b < most_bases
  each_small i b f = let k = r.stands_for.sane.few i b f in let few = p.shaped.few in omega (arith, k, few)

  among_after : (b : ℕ) → b < most_bases → bases_has old.rest.bases b ≡ true → new_base newest (newest + 1) b < most_bases → has_base (set o q c ranges flow p naming row s r newest t size old.rest) (new_base newest (newest + 1) b) ≡ true
  among_after b less has_it more = and_from _ _ (lt-ltb (new_base newest (newest + 1) b) most_bases more)
      (renamed_has gamma naming s.world.memory newest (newest + 1) (small_base newest t.new t.new_there) (small_base (newest + 1) t.old t.old_there) each_small old.rest b less has_it)

  module _ (i offset lo hi : ℕ) (is : ptr ≡ into i offset lo hi) where
    st_life : InGammaByLife gamma naming s.world.memory given_pointer (life_at s.world.memory i) i offset lo hi
    st_life = subst (InGammaPointer gamma naming s.world.memory given_pointer) is pointer_stands

    within : IsWithin s.world.memory i offset lo hi
    within = subst (IsPointerIn s.world.memory) is pointer_in

    freed_release : InGammaInto gamma naming s.world.memory given_pointer i offset lo hi → life_at s.world.memory i ≡ freed → Good (after_release (stopped_by start_world rule.Dblfree))
    unfolding check_release
    freed_release st f = stopped rule.Dblfree (into_freed flow p.shaped naming row _ r.stands_for given_pointer i offset lo hi f st)

    ended_release : given_pointer.ended ≡ true → Good (after_release (stopped_by start_world rule.Xfree))
    unfolding check_release
    ended_release h = stopped rule.Xfree (or_left given_pointer.ended _ h)

    module _ (alive : life_at s.world.memory i ≡ live) (st : InGammaInto gamma naming s.world.memory given_pointer i offset lo hi) where
      heap_is : (base : BaseInfo) → slice_get flow.bases.items st.base ≡ Some base → is_allocated (storage_at s.world.memory i) ≡ base.shape.heap
      heap_is base at =
          let it = instance_there s.world.memory i alive in
          let k = r.stands_for.sane.instances i st.base base it.0 st.named at it.1 in
          ap (λ y. is_allocated (storage_of y)) it.1 ∙ (ap is_allocated k.storage ∙ (p.shaped.each st.base base at).kind)

      inner_release : is_start s.world.memory i offset ≡ false → Good (after_release (stopped_by start_world rule.Xfree))
      inner_release f = stopped rule.Xfree (misplaced o q flow p.shaped naming row _ r.stands_for given_pointer i offset lo hi within.above alive st (λ base at heap zero_offset.
          let a : is_start s.world.memory i offset ≡ true = and_from _ _ (heap_is base at ∙ heap) (rw zero_offset refl) in
          true≢false (sym a ∙ f)))

      start_release : is_start s.world.memory i offset ≡ true → Good (after_release (done start_world))
      unfolding byte_at
      start_release f =
          let start = and_parts (is_allocated (storage_at s.world.memory i)) (offset == 0) f in
          let zero_offset : offset ≡ 0 = eqb-true _ _ start.1 in
          let base = get_there flow.bases.items st.base (r.stands_for.sane.few i st.base st.named) in
          let heap : base.0.shape.heap ≡ true = sym (heap_is base.0 base.1) ∙ start.0 in
          let it = instance_there s.world.memory i alive in
          let stored : it.0.storage ≡ allocated = allocated_is it.0.storage (sym (ap (λ y. is_allocated (storage_of y)) it.1) ∙ start.0) in
          let lives : it.0.life ≡ live = sym (ap life_of it.1) ∙ alive in
          let held : old.rest.bases ≡ heap_of flow.bases.items (live_of l n flow.bases.items row given_pointer.bases) = rest_bases o q flow p.shaped naming row _ r.stands_for given_pointer i offset lo hi within.above alive st base.0 base.1 heap zero_offset in
          let some : bases_empty old.rest.bases ≡ false = rest_any o q flow p.shaped naming row _ r.stands_for given_pointer i offset lo hi within.above alive st base.0 base.1 heap zero_offset in
          let there : has_base old.rest.bases st.base ≡ true = subst (λ y. has_base y st.base ≡ true) (sym held) (heap_there o q flow p.shaped naming row _ r.stands_for given_pointer i offset lo hi within.above alive st base.0 base.1 heap zero_offset) in
          let gone : IsReleased s.world.memory (set_life s.world.memory i freed) = one_released s.world.memory i it.0 it.1 stored lives in
          let other = renamed_base st.base base.0 base.1 heap in
          let name : renames naming newest (newest + 1) i ≡ Some (new_base newest (newest + 1) st.base) = ap (new_name newest (newest + 1)) st.named in
          let among = among_after st.base (small_base st.base base.0 base.1) (and_parts (nat_lt st.base most_bases) (bases_has old.rest.bases st.base) there).1 (small_base (new_base newest (newest + 1) st.base) other.0 other.1) in
          allocate_good (or_left (not (bases_empty old.rest.bases)) old.rest.null (ap not some)) (set_life s.world.memory i freed)
          (record {
            released = gone;
            inside = λ j d fr named. elim (cases_eq j i) [
              | inl same ↦ subst (λ y. has_base (set o q c ranges flow p naming row s r newest t size old.rest) y ≡ true) (same_Some (new_base newest (newest + 1) st.base) d (sym name ∙ (ap (renames naming newest (newest + 1)) (sym same) ∙ named))) among
              | inr ne ↦ absurd (freed_live (sym fr.is ∙ (others_live s.world.memory i j ne ∙ fr.was)))
            ];
            alone = λ g j d now named h. absurd (true≢false (sym g));
          })
          (resized (bytes_at s.world.memory i) count) (resized_long (bytes_at s.world.memory i) count)
          (of_instance i (new_base newest (newest + 1) st.base) other.0 (record { alive = alive; named = name; there = other.1; heap = other.2; among = among }) (λ x y g. by_byte x y (resized_byte (bytes_at s.world.memory i) count x y g)))
          (λ draws. ap (λ y. moved_to count y (record start_world { draws = draws })) is)
        where
          by_byte : (x : ℕ) (y : Byte) → (slice_get (bytes_at s.world.memory i) x ≡ Some y) ⊎ (y ≡ blank_byte) → (byte_at s.world.memory i x ≡ Some y) ⊎ (y ≡ blank_byte)
          by_byte x y h = h

      live_release : Good (after_release (unless start_world (not (is_start s.world.memory i offset)) rule.Xfree (done start_world)))
      live_release = by_start (is_start s.world.memory i offset) refl
        where
          by_start : (b : Bool) → is_start s.world.memory i offset ≡ b → Good (after_release (unless start_world (not b) rule.Xfree (done start_world)))
          by_start true f = start_release f
          by_start false f = inner_release f

    by_life : (life : Life) → life_at s.world.memory i ≡ life → InGammaByLife gamma naming s.world.memory given_pointer life i offset lo hi → Good (after_release (freeable_by start_world life i offset (done start_world)))
    by_life live f st = live_release f st
    by_life ended f st = ended_release st
    by_life freed f st = freed_release st f

    into_release : Good (after_release (freeable_by start_world (life_at s.world.memory i) i offset (done start_world)))
    into_release = by_life (life_at s.world.memory i) refl st_life

  by_pointer : (m : MachinePointer) → ptr ≡ m → Good (after_release (freeable m start_world))
  by_pointer null is = null_release is
  by_pointer (into i offset lo hi) is = into_release i offset lo hi is

  pub realloc_good : Good (with_result (realloc_bytes flow.model wanted ptr (size_of z) (with_size s.world la)))
  realloc_good = by_pointer ptr refl

-- ---- the call

module _ {I : Type 0} {l : LatticeOf I} {n : IntegersOf I} {gamma : I → ℤ → Type 0} (o : OrderLaws l) (q : BoundLaws l n gamma) (c : SoundLaws l n gamma) (ranges : RangeLaws l n) (flow : Flow) (limits : Limits) (good : is_well_formed limits flow ≡ true) (p : HasPremises flow) (naming : Naming) (row : List (Cell I)) (s : ProgramState) (r : IsReached l n gamma flow naming row s) where
  module _ (to : Option ℕ) (has : has_result (names_of flow) to ≡ true) (newest : ℕ) (at_site : is_site flow.bases.items (Some newest) ≡ true) where
    stuck_here : (plan : _) → GoodPlan q flow p naming row s r to has (Some newest) plan (stops Stuck s.world)
    stuck_here plan = plan_stops q flow p naming row s r to has (Some newest) plan Stuck s.world (clean q flow p naming row s r plan.violations)

    by_name : (name : LibFn) → Reallocates name → (items : List ℕ) (wanted : Option ℕ) (vs : List Scalar) → values_of s.temps items ≡ Some vs → HasSizes items s.temps → GoodPlan q flow p naming row s r to has (Some newest) (plan_call l n name (call_of flow items wanted) row) (library flow.model wanted name vs s.world)
    unfolding plan_call plan_realloc
    by_name f.Realloc h items wanted [] e sized = stuck_here _
    by_name f.Realloc h items wanted (integer z la ∷ vs) e sized = stuck_here _
    by_name f.Realloc h items wanted (pointer m ∷ []) e sized = stuck_here _
    by_name f.Realloc h items wanted (pointer m ∷ (pointer k ∷ vs)) e sized = stuck_here _
    by_name f.Realloc h items wanted (pointer m ∷ (integer z la ∷ (v ∷ vs))) e sized = stuck_here _
    by_name f.Realloc h items wanted (pointer m ∷ (integer z la ∷ [])) e sized =
        let both : List Scalar = pointer m ∷ (integer z la ∷ []) in
        realloc_good o q c ranges flow limits good p naming row s r to has newest at_site items wanted both e m z la refl refl (sized_at s.temps items both e sized 1 z la refl)
    by_name _ h items wanted vs e sized = absurd h

  pub reallocation_call_sound : (to : Option ℕ) (name : LibFn) (arguments : _) (newest : ℕ) (size : Option ℕ) → Reallocates name → fits_operation (names_of flow) (op.Library to name arguments (Some newest) size) ≡ true → HasSizes arguments.items s.temps → StepIsSound l n gamma flow row (op.Library to name arguments (Some newest) size) s
  unfolding operate call_step operation_violations
  reallocation_call_sound to name arguments newest size is fits sized =
      let a = and_parts (has_result (names_of flow) to) (list_all (has_temp (names_of flow)) arguments.items && (is_site flow.bases.items (Some newest) && is_optional_extent size)) fits in
      let b = and_parts (list_all (has_temp (names_of flow)) arguments.items) (is_site flow.bases.items (Some newest) && is_optional_extent size) a.1 in
      let at_site = (and_parts (is_site flow.bases.items (Some newest)) (is_optional_extent size) b.1).0 in
      if_some_good l n gamma flow _ _ s r.begun (values_of s.temps arguments.items) _ (λ vs e. by_name to a.0 newest at_site name is arguments.items size vs e sized)

  by_operands : (to : Option ℕ) (name : LibFn) (arguments : _) (newest : ℕ) (size : Option ℕ) → Reallocates name → fits_operation (names_of flow) (op.Library to name arguments (Some newest) size) ≡ true → HasOperands (op.Library to name arguments (Some newest) size) s.temps → StepIsSound l n gamma flow row (op.Library to name arguments (Some newest) size) s
  by_operands to f.Realloc arguments newest size is fits sized = reallocation_call_sound to f.Realloc arguments newest size is fits sized
  by_operands to _ arguments newest size is fits sized = absurd is

  pub reallocation_step_sound : (i : Operation) → IsReallocationCall i → fits_operation (names_of flow) i ≡ true → HasOperands i s.temps → StepIsSound l n gamma flow row i s
  reallocation_step_sound (op.Library to name arguments (Some newest) size) is fits sized = by_operands to name arguments newest size is fits sized
  reallocation_step_sound i is fits sized = absurd is
