-- Calls of `malloc` and `calloc` are sound.
use Rattle.std.proofs.Common.{◌≡◌, ℕ, suc, ◌+◌, ◌*◌, ◌^◌, ◌≤◌, Bool, true, false, cond, not, ◌&&◌, ◌||◌, Option, Some, None, List, [], ◌∷◌, ◌++◌, length, arith, subst, sym, refl, ap, ◌∙◌, inl, inr, ◌⊎◌}
use Rattle.std.specs.Prelude.{slice_get, ℤ, pos, negsuc, ◌≤ℤ◌, is_some, nat_lt, nat_le, unsigned_abs, ◌==◌}
use Rattle.std.specs.Ordering.{int_eq}
use Rattle.std.proofs.lemmas.Int.{ints}
use Rattle.std.proofs.lemmas.Bool.{cases_Bool, cases_eq, and_parts, eqb-true, leb-true, ltb-true}
use Rattle.std.proofs.lemmas.Option.{slice_get_within}
use Rattle.cc_base.specs.Lattices.{LatticeOf, OrderLaws}
use Rattle.cc_base.specs.IntegerDomains.{IntegersOf, BoundLaws}
use Rattle.cc_base.specs.IntegerTypes.{greatest_of}
use Rattle.cc_base.specs.NumberRanges.{Range, range_met}
use Rattle.cc_base.specs.declared.diagnostics.Rule.{Rule}
use Rattle.cc_base.specs.declared.diagnostics.Rule.TheVariants as rule
use Rattle.cc_base.specs.declared.limit_table.Limits.{Limits}
use Rattle.c_layout.specs.Models.{is_model, short_fits, int_fits, long_fits, long_long_fits, pointer_fits}
use Rattle.c_layout.specs.declared.data_model.Model.{Model}
use Rattle.c_layout.specs.declared.leaf_lists.Class.TheVariants.{Pointer}
use Rattle.cfg.specs.WellFormed.{names_of, has_result, is_site, is_well_formed}
use Rattle.cfg.specs.declared.programs.Flow.{Flow}
use Rattle.value_domain.specs.Values.LabelSets as set
use Rattle.value_domain.specs.Values.LabelSets.{labels_leq, labels_order, labels_join}
use Rattle.value_domain.specs.declared.values.label_sets.Labels as sets
use Rattle.value_domain.specs.Values.ValueTables.{pointer_value}
use Rattle.value_domain.specs.declared.values.values.Value.{Value}
use Rattle.value_domain.specs.declared.values.row_cells.Cell.{Cell}
use Rattle.domain_theorems.proofs.values.Numbers.{RangeHas, met_has, of_range_stands, bounds_have}
use Rattle.store_objects.specs.Allocations.{site_of, renew, renewed_pointer}
use Rattle.store_cells.specs.NearValues.{near_number}
use Rattle.store_cells.specs.ScalarTypes.{kind_of}
use Rattle.transfer_checks.specs.AllocationChecks.{allocation_violations, is_too_small}
use Rattle.transfer_checks.specs.ViolationSets.{no_violations, violates}
use Rattle.transfer_library_plans.specs.Allocations.{sized_trail, products, instance_size, plan_malloc, plan_calloc}
use Rattle.transfer_library.specs.Effects.{older_of, put_result, apply}
use Rattle.transfer_library_plans.specs.Plans.{trail_of, planned}
use Rattle.transfer_library_plans.specs.declared.call_plans.Effect.{Effect}
use Rattle.transfer_library_plans.specs.declared.call_plans.Effect.TheVariants as effect
use Rattle.transfer_library_plans.specs.declared.call_plans.Plan.{Plan}
use Rattle.transfer_instructions.specs.Instructions.CallSteps.{call_of}
use Rattle.memory_model.specs.Memory.Labels.{Labels, is_unlabelled}
use Rattle.memory_model.specs.Memory.Bytes.{null, into}
use Rattle.memory_model.specs.Memory.Instances.{Memory, allocated, bytes_of, bytes_at}
use Rattle.memory_model.specs.Memory.Scalars.{Scalar, integer, pointer}
use Rattle.memory_model.specs.Effects.AllocationCalls.{untyped, too_small, asked_for, allocated_with, if_given, allocate, malloc_bytes, calloc_bytes}
use Rattle.memory_model.specs.Effects.LibraryCalls.{with_result}
use Rattle.memory_model.specs.Effects.LibraryChecks.{size_of, with_size, most_size}
use Rattle.memory_model.specs.Effects.NumberedTables.{put_at}
use Rattle.memory_model.specs.Effects.ObjectEffects as objects
use Rattle.memory_model.specs.Effects.Worlds.{World, Reply, goes, behind, drawn, OutOfDraws, Stuck}
use Rattle.semantics.specs.CfgMachine.FlowStates.{ProgramState, values_of}
use Rattle.semantics.specs.CfgMachine.FlowActs.{calling}
use Rattle.store_sound.specs.Concretization.SeenLabels.{as_set}
use Rattle.store_sound.specs.Concretization.ValueMeaning.{Naming, InGammaScalar}
use Rattle.store_sound.specs.Concretization.RowMeaning.{InGamma}
use Rattle.store_sound.specs.Concretization.Coverage.{state_of}
use Rattle.store_cells.specs.AccessWindows.{last_offset}
use Rattle.store_sound.proofs.operations.TouchedRest.{near_stands}
use Rattle.store_sound.specs.Programs.Premises.{HasPremises}
use Rattle.library_sound.specs.SoundSteps.{AreShort, IsReached, InGammaAfter, IsStoodFor}
use Rattle.library_sound.proofs.Admitted.{AreAdmitted, none_admitted, one_admitted, both_admitted}
use Rattle.library_sound.proofs.PutTemps.{IsResult, put_stands, put_long}
use Rattle.library_sound.proofs.Replies.{stop_good}
use Rattle.library_sound.proofs.calls.Calls.{DrawnEnd, gave, ran_out, drawn_end, clean, GoodPlan, plan_stops}
use Rattle.library_sound.proofs.strings.Trails.{still_told}
use Rattle.library_sound.proofs.GrownMemory.{grows}
use Rattle.library_sound.proofs.fills.WriteCalls.{argument_stands, value_of}
use Rattle.memory_calls_sound.proofs.allocations.FreshCells.{untyped_long}
use Rattle.memory_calls_sound.proofs.allocations.Products.{IsAsked, asked_some, asked_has, asked_small, plain_asked, products_asked}
use Rattle.memory_calls_sound.proofs.allocations.RenewedRows.{kind_of_bytes, content_of_bytes, after, renewed_is, after_long, too, nothing_stands, given, null_stands, grown, named_too, instance_stands, instance_result}
use Rattle.memory_calls_sound.proofs.allocations.Sites.{IsSiteOf, site_is}

-- ---- sizes of instances

pointer_sized : (m : Model) → is_model m ≡ true → (m.pointer ≡ 4) ⊎ (m.pointer ≡ 8)
pointer_sized m h =
    let a = and_parts (short_fits m.short) (int_fits m.int && (long_fits m.long && (long_long_fits m.long_long && pointer_fits m.int m.long m.long_long m.pointer))) h in
    let c = and_parts (int_fits m.int) (long_fits m.long && (long_long_fits m.long_long && pointer_fits m.int m.long m.long_long m.pointer)) a.1 in
    let d = and_parts (long_fits m.long) (long_long_fits m.long_long && pointer_fits m.int m.long m.long_long m.pointer) c.1 in
    let e = and_parts (long_long_fits m.long_long) (pointer_fits m.int m.long m.long_long m.pointer) d.1 in
    let f = and_parts (m.pointer == 4 || m.pointer == 8) ((m.pointer == m.int || m.pointer == m.long) || m.pointer == m.long_long) e.1 in
    elim (cases_Bool (m.pointer == 4)) [
      | inl g ↦ inl (eqb-true m.pointer 4 g)
      | inr g ↦ (let k : (m.pointer == 8) ≡ true = rw g at f.0 in inr (eqb-true m.pointer 8 k))
    ]

-- the most bytes that an instance can have
pub most_is : (m : Model) → is_model m ≡ true → (greatest_of (kind_of m Pointer true) ≡ pos (most_size m)) × (most_size m ≤ 2 ^ 63)
most_is m h = elim (pointer_sized m h) [
  | inl e ↦ rw e (refl, omega arith)
  | inr e ↦ rw e (refl, omega arith)
]

-- ---- labels

pub labels_told : (t : Labels) (labels : sets.Labels) → labels_leq (as_set t) labels ≡ true → not (is_unlabelled t) ≡ true → not (set.is_unlabelled labels) ≡ true
labels_told t labels h e = grind arith

module _ {I : Type 0} {l : LatticeOf I} {n : IntegersOf I} {gamma : I → ℤ → Type 0} (o : OrderLaws l) (q : BoundLaws l n gamma) (flow : Flow) (limits : Limits) (good : is_well_formed limits flow ≡ true) (p : HasPremises flow) (naming : Naming) (row : List (Cell I)) (s : ProgramState) (r : IsReached l n gamma flow naming row s) (to : Option ℕ) (has : has_result (names_of flow) to ≡ true)
    (newest : ℕ) (at_site : is_site flow.bases.items (Some newest) ≡ true) where
  t : IsSiteOf flow newest (newest + 1)
  t = site_is limits flow good p newest at_site

  abbrev Good : Plan I → Reply (Option Scalar) → Type 0
  Good plan reply = GoodPlan q flow p naming row s r to has (Some newest) plan reply

  -- ---- what goes on with another memory, under other names

  module _ (plan : Plan I) (found : List Rule) (fine : AreAdmitted plan.violations found) (draws : List ℤ) (memory : Memory) (names : Naming) (short : AreShort flow.model memory) (behind_row : List (Cell I)) (long : length behind_row ≡ flow.width)
      (stands_after : InGamma l n gamma flow names behind_row (record { memory = memory; temps = s.temps; entered = s.bases })) (x : Value I) (v : Scalar) (result : IsResult q flow p names memory x v) (is : apply l n flow to (Some newest) plan.effect row ≡ Some (put_result flow to x behind_row)) where
    abbrev world_after : World
    world_after = record (s.world) { memory = memory; draws = draws; violated = found }

    by_result : (a : Option ℕ) → has_result (names_of flow) a ≡ true → IsStoodFor l n gamma flow (Some (put_result flow a x behind_row)) plan.violations (calling s a (goes (Some v) world_after))
    by_result None h = stop_good l n gamma flow _ plan.violations Stuck s.world (clean q flow p naming row s r plan.violations)
    by_result (Some a) h = record {
      goes_on = λ u w e.
          let now : ProgramState = record s { at = suc s.at; temps = put_at s.temps a v; world = world_after } in
          let b : now ≡ u = cc in
          let c : world_after ≡ w = cc in
          let here : InGammaAfter l n gamma flow (Some (put_result flow (Some a) x behind_row)) (record now { world = world_after }) = record {
            row = put_result flow (Some a) x behind_row;
            is = refl;
            long = put_long q flow p names behind_row long (record { memory = memory; temps = s.temps; entered = s.bases }) stands_after a (ltb-true a flow.temps h) x v result;
            naming = names;
            stands_for = put_stands q flow p names behind_row long (record { memory = memory; temps = s.temps; entered = s.bases }) stands_after a (ltb-true a flow.temps h) x v result;
            short = short;
          } in
          subst (λ z. InGammaAfter l n gamma flow (Some (put_result flow (Some a) x behind_row)) (record z { world = w })) b
          (subst (λ z. InGammaAfter l n gamma flow (Some (put_result flow (Some a) x behind_row)) (record now { world = z })) c here);
      admits = fine;
    }

    pub given_good : Good plan (goes (Some v) world_after)
    given_good = subst (λ z. IsStoodFor l n gamma flow z plan.violations (calling s to (goes (Some v) world_after))) (sym is) (by_result to has)

  -- ---- a size that is asked for

  module _ (range : Range) (labels : sets.Labels) (wanted : Option ℕ) (zeros : Bool) (count : ℕ) (asked : IsAsked range count (most_size flow.model)) where
    abbrev allocation_plan : Plan I
    allocation_plan = planned (sized_trail range labels wanted) (effect.Allocate (instance_size l n flow.model range) zeros)

    abbrev size : I
    size = near_number l n (instance_size l n flow.model range)

    effect_is : allocation_plan.effect ≡ effect.Allocate (instance_size l n flow.model range) zeros
    effect_is = ap (λ z. cond {A = Effect I} z (effect.Allocate (instance_size l n flow.model range) zeros) effect.Unreached) (asked_some range count (most_size flow.model) asked)

    told : (rl : Rule) → violates (allocation_violations range labels wanted) rl ≡ true → violates allocation_plan.violations rl ≡ true
    told rl h = still_told (trail_of (allocation_violations range labels wanted)) no_violations (is_some range) rl h

    small_told : (size_wanted : Option ℕ) → wanted ≡ size_wanted → AreAdmitted allocation_plan.violations (cond (too_small size_wanted count) (rule.Insufmem ∷ []) [])
    small_told None e = none_admitted allocation_plan.violations
    small_told (Some bytes) e = by_test (nat_lt count bytes) refl
      where
        by_test : (b : Bool) → nat_lt count bytes ≡ b → AreAdmitted allocation_plan.violations (cond b (rule.Insufmem ∷ []) [])
        by_test false f = none_admitted allocation_plan.violations
        by_test true f = one_admitted allocation_plan.violations rule.Insufmem (told rule.Insufmem (ap (is_too_small range) e ∙ asked_small range count (most_size flow.model) bytes asked (let h = ltb-true count bytes f in omega (arith, h))))

    pub label_told : (la : Labels) → labels_leq (as_set la) labels ≡ true → AreAdmitted allocation_plan.violations (cond (not (is_unlabelled la)) (rule.Taintsink ∷ []) [])
    label_told la below = by_test (not (is_unlabelled la)) refl
      where
        by_test : (b : Bool) → not (is_unlabelled la) ≡ b → AreAdmitted allocation_plan.violations (cond b (rule.Taintsink ∷ []) [])
        by_test false e = none_admitted allocation_plan.violations
        by_test true e = one_admitted allocation_plan.violations rule.Taintsink (told rule.Taintsink (labels_told la labels below e))

    older_is : older_of newest ≡ newest + 1
    older_is = let k = slice_get_within flow.bases.items newest t.new t.new_there in let few = p.shaped.few in omega (arith, k, few)

    abbrev behind_call : List (Cell I)
    behind_call = after o q flow p naming row (state_of s) r.long r.stands_for newest t size zeros

    abbrev result_value : Value I
    result_value = pointer_value l (given o q flow p naming row (state_of s) r.long r.stands_for newest t size zeros)

    applied : apply l n flow to (Some newest) allocation_plan.effect row ≡ Some (put_result flow to result_value behind_call)
    unfolding apply
    applied =
        ap (λ z. apply l n flow to (Some newest) z row) effect_is
        ∙ (ap (λ z. Some (put_result flow to (pointer_value l (renewed_pointer l n flow.bases.items (site_of newest z) size)) (renew l n flow.model flow.bases.items newest z size (kind_of_bytes zeros) row))) older_is
        ∙ ap (λ z. Some (put_result flow to result_value z)) (renewed_is o q flow p naming row (state_of s) r.long r.stands_for newest t size zeros))

    row_long : length behind_call ≡ flow.width
    row_long = after_long o q flow p naming row (state_of s) r.long r.stands_for newest t size zeros ∙ r.long

    -- what was violated before the outside was asked
    module _ (found : List Rule) (fine : AreAdmitted allocation_plan.violations found) where
      abbrev start_world : World
      start_world = record (s.world) { violated = found }

      -- there is no memory
      null_good : (draws : List ℤ) → Good allocation_plan (goes (Some (pointer null)) (record start_world { draws = draws }))
      null_good draws = given_good allocation_plan found fine draws s.world.memory (too o q flow p naming row (state_of s) r.long r.stands_for newest t size zeros) r.short behind_call row_long
          (nothing_stands o q flow p naming row (state_of s) r.long r.stands_for newest t size zeros) result_value (pointer null)
          (record { stands_for = null_stands o q flow p naming row (state_of s) r.long r.stands_for newest t size zeros s.world.memory (too o q flow p naming row (state_of s) r.long r.stands_for newest t size zeros); near = tt; within = tt }) applied

      -- an instance is made
      module _ (few : count ≤ most_size flow.model) where
        sized : gamma size (pos count)
        sized =
            let most = most_is flow.model p.model in
            let top = most.0 in
            let word = most.1 in
            let below : pos count ≤ℤ greatest_of (kind_of flow.model Pointer true) = omega (arith, ints, top, few) in
            let met = met_has range (pos 0) (greatest_of (kind_of flow.model Pointer true)) (pos count) (asked_has range count (most_size flow.model) asked few) (omega (arith, ints)) below in
            let given_size = of_range_stands q (range_met range (pos 0) (greatest_of (kind_of flow.model Pointer true))) (pos count) met in
            near_stands o q _ (pos count) (omega (arith, ints)) (omega (arith, ints, few, word)) (near_stands o q _ (pos count) (omega (arith, ints)) (omega (arith, ints, few, word)) given_size)

        small : count ≤ last_offset
        small = let word = (most_is flow.model p.model).1 in omega (arith, few, word)

        abbrev made_memory : Memory
        made_memory = grown o q flow p naming row (state_of s) r.long r.stands_for newest t size zeros count sized small

        short_made : AreShort flow.model made_memory
        short_made j = elim (cases_eq j (length s.world.memory)) [
          | inl e ↦ (
              let top = (most_is flow.model p.model).0 in
              let own = ap (λ z. length (bytes_of z)) (grows s.world.memory (objects.fresh allocated (untyped (content_of_bytes zeros) count))).own in
              let long = untyped_long (content_of_bytes zeros) count in
              subst (λ z. pos (length (bytes_at made_memory z)) ≤ℤ greatest_of (kind_of flow.model Pointer true)) (sym e) (omega (arith, ints, top, own, long, few)))
          | inr ne ↦ subst (λ z. pos (length (bytes_of z)) ≤ℤ greatest_of (kind_of flow.model Pointer true)) (sym ((grows s.world.memory (objects.fresh allocated (untyped (content_of_bytes zeros) count))).others j ne)) (r.short j)
        ]

        made_good : (draws : List ℤ) → Good allocation_plan (with_result (allocated_with (untyped (content_of_bytes zeros) count) (record start_world { draws = draws })))
        made_good draws = subst (λ z. Good allocation_plan (goes (Some (pointer (into (length s.world.memory) 0 0 z))) (record (s.world) { memory = made_memory; draws = draws; violated = found }))) (sym (untyped_long (content_of_bytes zeros) count))
            (given_good allocation_plan found fine draws made_memory (named_too o q flow p naming row (state_of s) r.long r.stands_for newest t size zeros count sized small) short_made behind_call row_long
            (instance_stands o q flow p naming row (state_of s) r.long r.stands_for newest t size zeros count sized small) result_value (pointer (into (length s.world.memory) 0 0 count))
            (instance_result o q flow p naming row (state_of s) r.long r.stands_for newest t size zeros count sized small) applied)

      abbrev made_by : World → Reply Scalar
      made_by w = allocated_with (untyped (content_of_bytes zeros) count) w

      by_given : (z : ℤ) (draws : List ℤ) (b : Bool) → (int_eq z (pos 1) && nat_le count (most_size flow.model)) ≡ b → Good allocation_plan (with_result (if_given b made_by (record start_world { draws = draws })))
      by_given z draws true e = made_good (leb-true count (most_size flow.model) (and_parts (int_eq z (pos 1)) (nat_le count (most_size flow.model)) e).1) draws
      by_given z draws false e = null_good draws

      by_drawn : DrawnEnd start_world (pos 0) (pos 1) (drawn start_world (pos 0) (pos 1)) → Good allocation_plan (with_result (allocate flow.model count made_by start_world))
      by_drawn (gave z draws from up is) = subst (λ y. Good allocation_plan (with_result (behind y (λ answer w. if_given (int_eq answer (pos 1) && nat_le count (most_size flow.model)) made_by w)))) (sym is) (by_given z draws (int_eq z (pos 1) && nat_le count (most_size flow.model)) refl)
      by_drawn (ran_out draws is) = subst (λ y. Good allocation_plan (with_result (behind y (λ answer w. if_given (int_eq answer (pos 1) && nat_le count (most_size flow.model)) made_by w)))) (sym is) (plan_stops q flow p naming row s r to has (Some newest) allocation_plan OutOfDraws (record start_world { draws = draws }) fine)

      allocate_good : Good allocation_plan (with_result (allocate flow.model count made_by start_world))
      allocate_good = by_drawn (drawn_end start_world (pos 0) (pos 1))

    -- with what was violated by the size itself
    pub asked_good : (found : List Rule) → AreAdmitted allocation_plan.violations found → Good allocation_plan (with_result (allocate flow.model count (λ w. allocated_with (untyped (content_of_bytes zeros) count) w) (asked_for wanted count (record (s.world) { violated = found }))))
    asked_good found fine = allocate_good (found ++ cond (too_small wanted count) (rule.Insufmem ∷ []) []) (both_admitted allocation_plan.violations found (cond (too_small wanted count) (rule.Insufmem ∷ []) []) fine (small_told wanted refl))

  -- ---- the calls

  pub by_sign : (c : ℤ) → pos 0 ≤ℤ c → c ≡ pos (unsigned_abs c)
  by_sign (pos k) h = refl
  by_sign (negsuc k) h = absurd (omega (arith, ints, h))

  module _ (items : List ℕ) (wanted : Option ℕ) (vs : List Scalar) (e : values_of s.temps items ≡ Some vs) where
    abbrev argument : ℕ → Value I
    argument place = value_of o q flow p naming row s r to has (Some newest) items wanted vs e place

    number_at : (place : ℕ) (z : ℤ) (la : Labels) → slice_get vs place ≡ Some (integer z la) → InGammaScalar gamma naming s.world.memory (argument place) (integer z la)
    number_at place z la h = argument_stands o q flow p naming row s r to has (Some newest) items wanted vs e place (integer z la) h

    range_at : (place : ℕ) (z : ℤ) (la : Labels) → slice_get vs place ≡ Some (integer z la) → pos 0 ≤ℤ z → RangeHas (n.bounds (argument place).num) (pos (size_of z))
    range_at place z la h from = subst (RangeHas (n.bounds (argument place).num)) (by_sign z from) (bounds_have q (argument place).num z (number_at place z la h).0)

    abbrev labelled : List Rule → Labels → List Rule
    labelled before la = before ++ cond (not (is_unlabelled la)) (rule.Taintsink ∷ []) []

    pub malloc_good : (z : ℤ) (la : Labels) → slice_get vs 0 ≡ Some (integer z la) → pos 0 ≤ℤ z → Good (plan_malloc l n (call_of flow items wanted) row) (with_result (malloc_bytes flow.model wanted (size_of z) (with_size s.world la)))
    unfolding plan_malloc
    malloc_good z la h from =
        let asked = plain_asked (n.bounds (argument 0).num) (size_of z) (most_size flow.model) (range_at 0 z la h from) in
        let plan : Plan I = allocation_plan (n.bounds (argument 0).num) (argument 0).labels wanted false (size_of z) asked in
        asked_good (n.bounds (argument 0).num) (argument 0).labels wanted false (size_of z) asked (labelled s.world.violated la)
        (both_admitted plan.violations s.world.violated _ (clean q flow p naming row s r plan.violations) (label_told (n.bounds (argument 0).num) (argument 0).labels wanted false (size_of z) asked la (number_at 0 z la h).1))

    pub calloc_good : (k z : ℤ) (la lb : Labels) → slice_get vs 0 ≡ Some (integer k la) → slice_get vs 1 ≡ Some (integer z lb) → pos 0 ≤ℤ k → pos 0 ≤ℤ z
        → Good (plan_calloc l n (call_of flow items wanted) row) (with_result (calloc_bytes flow.model wanted (size_of k * size_of z) (with_size (with_size s.world la) lb)))
    unfolding plan_calloc
    calloc_good k z la lb g h from more =
        let range : Range = products (n.bounds (argument 0).num) (n.bounds (argument 1).num) in
        let labels : sets.Labels = labels_join (argument 0).labels (argument 1).labels in
        let word = (most_is flow.model p.model).1 in
        let asked = products_asked (n.bounds (argument 0).num) (n.bounds (argument 1).num) (size_of k) (size_of z) (most_size flow.model) (omega (arith, word)) (range_at 0 k la g from) (range_at 1 z lb h more) in
        let plan : Plan I = allocation_plan range labels wanted true (size_of k * size_of z) asked in
        let first = label_told range labels wanted true (size_of k * size_of z) asked la (labels_order.transitive (as_set la) (argument 0).labels labels (number_at 0 k la g).1 (labels_order.join_left (argument 0).labels (argument 1).labels)) in
        let second = label_told range labels wanted true (size_of k * size_of z) asked lb (labels_order.transitive (as_set lb) (argument 1).labels labels (number_at 1 z lb h).1 (labels_order.join_right (argument 0).labels (argument 1).labels)) in
        asked_good range labels wanted true (size_of k * size_of z) asked (labelled (labelled s.world.violated la) lb)
        (both_admitted plan.violations (labelled s.world.violated la) _ (both_admitted plan.violations s.world.violated _ (clean q flow p naming row s r plan.violations) first) second)
