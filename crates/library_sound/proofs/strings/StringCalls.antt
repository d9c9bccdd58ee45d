-- Calls that read strings and give a number are sound.
use Rattle.std.proofs.Common.{◌≡◌, ℕ, zero, suc, ◌+◌, ◌-◌, ◌*◌, ◌<◌, Bool, true, false, cond, not, ◌&&◌, Option, Some, None, List, [], ◌∷◌, length, arith, subst, sym, refl, ap, ◌∙◌}
use Rattle.std.specs.Prelude.{slice_get, ℤ, pos, negsuc, ◌≤ℤ◌, is_some}
use Rattle.std.specs.List.{list_all}
use Rattle.std.proofs.lemmas.Int.{ints}
use Rattle.std.proofs.lemmas.Bool.{and_parts}
use Rattle.std.proofs.lemmas.Nat.{pow_pos}
use Rattle.cc_base.specs.Lattices.{LatticeOf, OrderLaws}
use Rattle.cc_base.specs.IntegerDomains.{IntegersOf, BoundLaws, between_or_least}
use Rattle.cc_base.specs.IntegerTypes.{greatest_of}
use Rattle.cc_base.specs.NumberRanges.{range_met}
use Rattle.cc_base.specs.declared.diagnostics.Rule.{Rule}
use Rattle.cc_base.specs.declared.diagnostics.Rule.TheVariants as rule
use Rattle.c_layout.specs.declared.leaf_lists.Class.TheVariants.{Pointer}
use Rattle.c_layout.specs.declared.library_functions.LibFn.{LibFn}
use Rattle.c_layout.specs.declared.library_functions.LibFn.TheVariants as f
use Rattle.cfg.specs.WellFormed.{names_of, has_temp, has_result, is_site, is_optional_extent, fits_operation}
use Rattle.cfg.specs.declared.machine_instructions.Operation.{Operation}
use Rattle.cfg.specs.declared.machine_instructions.Operation.TheVariants as op
use Rattle.cfg.specs.declared.programs.Flow.{Flow}
use Rattle.pointer_domain.specs.BaseSets.{bases_empty}
use Rattle.pointer_domain.specs.declared.pointer_sets.Pointers.{Pointers}
use Rattle.value_domain.specs.Values.LabelSets as sets
use Rattle.value_domain.specs.Values.ValueTables.{number_value}
use Rattle.value_domain.specs.declared.values.values.Value.{Value}
use Rattle.value_domain.specs.declared.values.row_cells.Cell.{Cell}
use Rattle.store_cells.specs.ScalarTypes.{kind_of}
use Rattle.transfer_checks.specs.ViolationSets.{no_violations, violates}
use Rattle.transfer_checks.specs.declared.library_arguments.Argument.{Argument}
use Rattle.transfer_checks.specs.declared.string_scans.Scanned.{Scanned}
use Rattle.transfer_library_plans.specs.Arguments.{argument_value, value_of_argument}
use Rattle.transfer_library_plans.specs.Calls.{Call}
use Rattle.transfer_library_plans.specs.Outputs.{argument_at, scan_at, scan_violations, given_trail, scanned_trail, length_of, plan_strlen, plan_puts, plan_strcmp}
use Rattle.transfer_library.specs.Planning.{plan_call}
use Rattle.transfer_library_plans.specs.Plans.{planned, trail_of, checked}
use Rattle.transfer_library_plans.specs.declared.call_plans.Effect.TheVariants as effect
use Rattle.transfer_library_plans.specs.declared.call_plans.Plan.{Plan}
use Rattle.transfer_library_plans.specs.declared.call_plans.Trail.{Trail}
use Rattle.transfer_sound.specs.CallSteps.{call_of, call_step}
use Rattle.transfer_sound.specs.StepViolations.{operation_violations}
use Rattle.transfer_sound.specs.Steps.{operate}
use Rattle.memory_model.specs.Memory.Labels.{no_labels}
use Rattle.memory_model.specs.Memory.Bytes.{MachinePointer, into}
use Rattle.memory_model.specs.Memory.Instances.{live, bytes_at, life_at}
use Rattle.memory_model.specs.Memory.Scalars.{Scalar, integer, pointer}
use Rattle.memory_model.specs.Effects.LibraryCalls.{with_result, library}
use Rattle.memory_model.specs.Effects.ScalarBytes.{contents}
use Rattle.memory_model.specs.Memory.ScalarSizes.{class_bytes}
use Rattle.store_sound.proofs.operations.Classes.{class_above}
use Rattle.store_sound.proofs.operations.Rereading.{halves}
use Rattle.memory_model.specs.Effects.LibraryChecks as machine
use Rattle.memory_model.specs.Effects.StringCalls.{plain, compare_strings, order_in}
use Rattle.memory_model.specs.Effects.Worlds.{World, Why, Reply, goes, stops, behind, stopped_by, Left, Stuck, Violated}
use Rattle.semantics.specs.CfgMachine.FlowStates.{ProgramState, and_value, values_of}
use Rattle.store_sound.specs.Concretization.SoundMemory.{IsPointerIn, IsWithin}
use Rattle.store_sound.specs.Concretization.ValueMeaning.{Naming, InGammaPointer, InGammaScalar}
use Rattle.store_sound.specs.Concretization.Coverage.{state_of}
use Rattle.store_sound.specs.Programs.Premises.{HasPremises}
use Rattle.transfer_sound.specs.Values.SoundSteps.{IsReached, StepIsSound}
use Rattle.transfer_sound.proofs.values.Admitted.{one_admitted, both_admitted}
use Rattle.transfer_sound.proofs.values.PutTemps.{IsResult}
use Rattle.transfer_sound.proofs.values.Replies.{if_some_good}
use Rattle.library_sound.proofs.calls.Calls.{clean, GoodPlan, plan_stops, plan_gives, plan_is, number_result}
use Rattle.library_sound.proofs.calls.CharacterNumbers.{number_between}
use Rattle.library_sound.specs.Strings.StringCalls.{ReadsStrings, IsStringCall}
use Rattle.library_sound.proofs.strings.GivenPointers.{ReachEnd, into_live, into_nothing, into_ended, into_freed, reach_end, reach_of, null_told, ended_told, freed_told, given_stands, given_some}
use Rattle.library_sound.proofs.strings.Scans.{IsScan, scan_stands, ends_in_room}
use Rattle.library_sound.proofs.strings.Trails.{still_told, told_here, goes_further}
use Rattle.domain_theorems.proofs.values.Numbers.{met_has, bounds_have, of_range_stands}

-- ---- arguments

pub record HasSecond (temps : ℕ → Option Scalar) (items : List ℕ) (at : ℕ) (v : Scalar) : Type 0 where
  pub temp : ℕ
  pub there : slice_get items at ≡ Some temp
  pub has : temps temp ≡ Some v

pub and_parts_some : (a : Option Scalar) (b : Option (List Scalar)) (v : Scalar) (vs : List Scalar) → and_value a b ≡ Some (v ∷ vs) → (a ≡ Some v) × (b ≡ Some vs)
and_parts_some None b v vs e = cc
and_parts_some (Some x) None v vs e = cc
and_parts_some (Some x) (Some xs) v vs e = (cc, cc)

-- the arguments have values of their own
argument_there : (temps : ℕ → Option Scalar) (items : List ℕ) (vs : List Scalar) → values_of temps items ≡ Some vs → (at : ℕ) (v : Scalar) → slice_get vs at ≡ Some v → HasSecond temps items at v
argument_there temps [] vs e at v h = let d : [] ≡ vs = cc in let g : None ≡ Some v = ap (λ z. slice_get z at) d ∙ h in cc
argument_there temps (t ∷ ts) [] e at v h = cc
argument_there temps (t ∷ ts) (x ∷ xs) e zero v h = let r = and_parts_some (temps t) (values_of temps ts) x xs e in record { temp = t; there = refl; has = r.0 ∙ h }
argument_there temps (t ∷ ts) (x ∷ xs) e (suc at) v h =
    let r = and_parts_some (temps t) (values_of temps ts) x xs e in
    let w = argument_there temps ts xs r.1 at v h in
    record { temp = w.temp; there = w.there; has = w.has }

pub behind_behind : {A B C : Type 0} (a : Reply A) (f : A → World → Reply B) (g : B → World → Reply C) → behind (behind a f) g ≡ behind a (λ x w. behind (f x w) g)
behind_behind (goes x w) f g = refl
behind_behind (stops why w) f g = refl

-- ---- the order of strings

order_by : (a b : Bool) (same : ℤ) → (negsuc 0 ≤ℤ same) × (same ≤ℤ pos 1) → (negsuc 0 ≤ℤ cond a (negsuc 0) (cond b (pos 1) same)) × (cond a (negsuc 0) (cond b (pos 1) same) ≤ℤ pos 1)
order_by true b same h = (omega (arith, ints), omega (arith, ints))
order_by false true same h = (omega (arith, ints), omega (arith, ints))
order_by false false same h = h

order_small : (cs ds : List _) → (negsuc 0 ≤ℤ order_in cs ds) × (order_in cs ds ≤ℤ pos 1)
order_small [] ds = (omega (arith, ints), omega (arith, ints))
order_small (c ∷ cs) [] = (omega (arith, ints), omega (arith, ints))
order_small (c ∷ cs) (d ∷ ds) = order_by _ _ (order_in cs ds) (order_small cs ds)

module _ {I : Type 0} {l : LatticeOf I} {n : IntegersOf I} {gamma : I → ℤ → Type 0} (o : OrderLaws l) (q : BoundLaws l n gamma) (flow : Flow) (p : HasPremises flow) (naming : Naming) (row : List (Cell I)) (s : ProgramState) (r : IsReached l n gamma flow naming row s) (to : Option ℕ) (has : has_result (names_of flow) to ≡ true) (newest : Option ℕ) where
  abbrev Good : Plan I → Reply (Option Scalar) → Type 0
  Good plan reply = GoodPlan q flow p naming row s r to has newest plan reply

  -- a stop at a rule that the plan tells
  told_stop : (plan : Plan I) (rule : Rule) → violates plan.violations rule ≡ true → Good plan (stopped_by s.world rule)
  told_stop plan rule h = plan_stops q flow p naming row s r to has newest plan Violated _ (both_admitted plan.violations s.world.violated _ (clean q flow p naming row s r plan.violations) (one_admitted plan.violations rule h))

  plain_stop : (plan : Plan I) (why : Why) → Good plan (stops why s.world)
  plain_stop plan why = plan_stops q flow p naming row s r to has newest plan why s.world (clean q flow p naming row s r plan.violations)

  -- a plan whose trail goes on gives its result
  trail_gives : (trail : Trail) (x : Value I) (v : Scalar) → trail.goes_on ≡ true → IsResult q flow p naming s.world.memory x v → Good (planned trail (effect.Result x)) (goes (Some v) s.world)
  trail_gives trail x v on result =
      plan_is q flow p naming row s r to has newest (planned trail (effect.Result x)) (record { violations = trail.violations; effect = effect.Result x }) (goes (Some v) s.world)
      (ap (λ b. record { violations = trail.violations; effect = cond b (effect.Result x) effect.Unreached }) on)
      (plan_gives q flow p naming row s r to has newest trail.violations x v s.world result refl (clean q flow p naming row s r trail.violations))

  module _ (items : List ℕ) (wanted : Option ℕ) (vs : List Scalar) (e : values_of s.temps items ≡ Some vs) where
    abbrev the_call : Call
    the_call = call_of flow items wanted

    abbrev pointer_of : ℕ → Pointers I
    pointer_of at = (argument_value l n the_call row at).pointer

    abbrev given_at : ℕ → Argument I
    given_at at = argument_at l n the_call row at

    abbrev scanned_at : ℕ → Scanned I
    scanned_at at = scan_at l n the_call row (given_at at)

    pub argument_stands : (at : ℕ) (v : Scalar) → slice_get vs at ≡ Some v → InGammaScalar gamma naming s.world.memory (argument_value l n (call_of flow items wanted) row at) v
    unfolding argument_value
    argument_stands at v h =
        let a = argument_there s.temps items vs e at v h in
        subst (λ y. InGammaScalar gamma naming s.world.memory (value_of_argument l n flow row y) v) (sym a.there) (r.stands_for.temps a.temp v a.has)

    argument_in : (at : ℕ) (m : MachinePointer) → slice_get vs at ≡ Some (pointer m) → IsPointerIn s.world.memory m
    argument_in at m h = let a = argument_there s.temps items vs e at (pointer m) h in r.stands_for.held.within a.temp (pointer m) a.has

    -- ---- one pointer argument

    -- the plan tells the rule at which the machine stops, or both go on with what the pointer reaches
    module _ (plan : Plan I) (at : ℕ) (m : MachinePointer) (there : slice_get vs at ≡ Some (pointer m)) (tells : (rule : Rule) → violates (given_at at).violations rule ≡ true → violates plan.violations rule ≡ true) (further : machine.Reach → World → Reply (Option Scalar)) (on : (i offset lo hi : ℕ) → m ≡ into i offset lo hi → life_at s.world.memory i ≡ live → Good plan (further (reach_of i offset hi) s.world)) where
      stands_here : InGammaPointer gamma naming s.world.memory (pointer_of at) m
      stands_here = argument_stands at (pointer m) there

      by_end : ReachEnd s.world m → Good plan (behind (machine.reached m s.world) further)
      by_end (into_live i offset lo hi is alive) =
          let a : machine.reached m s.world ≡ goes (reach_of i offset hi) s.world = ap (λ z. machine.reached z s.world) is ∙ ap (λ z. machine.reached_by s.world z i offset hi) alive in
          subst (λ z. Good plan (behind z further)) (sym a) (on i offset lo hi is alive)
      by_end (into_nothing a is) =
          subst (λ z. Good plan (behind z further)) (sym a) (told_stop plan rule.Nullref (tells rule.Nullref (null_told o q flow p.shaped naming row (state_of s) r.stands_for (pointer_of at) (subst (InGammaPointer gamma naming s.world.memory (pointer_of at)) is stands_here))))
      by_end (into_ended i offset lo hi is life) =
          let a : machine.reached m s.world ≡ stopped_by s.world rule.Nullref = ap (λ z. machine.reached z s.world) is ∙ ap (λ z. machine.reached_by s.world z i offset hi) life in
          subst (λ z. Good plan (behind z further)) (sym a) (told_stop plan rule.Nullref (tells rule.Nullref (ended_told o q flow p.shaped naming row (state_of s) r.stands_for (pointer_of at) i offset lo hi life (subst (InGammaPointer gamma naming s.world.memory (pointer_of at)) is stands_here))))
      by_end (into_freed i offset lo hi is life) =
          let a : machine.reached m s.world ≡ stopped_by s.world rule.Accfree = ap (λ z. machine.reached z s.world) is ∙ ap (λ z. machine.reached_by s.world z i offset hi) life in
          subst (λ z. Good plan (behind z further)) (sym a) (told_stop plan rule.Accfree (tells rule.Accfree (freed_told o q flow p.shaped naming row (state_of s) r.stands_for (pointer_of at) i offset lo hi life (subst (InGammaPointer gamma naming s.world.memory (pointer_of at)) is stands_here))))

      pub reach_good : Good plan (behind (machine.reached m s.world) further)
      reach_good = by_end (reach_end s.world m)

    -- what is reached is scanned
    module _ (at : ℕ) (i offset lo hi : ℕ) (there : slice_get vs at ≡ Some (pointer (into i offset lo hi))) (alive : life_at s.world.memory i ≡ live) where
      pub within : IsWithin s.world.memory i offset lo hi
      within = argument_in at (into i offset lo hi) there

      pub goes_given : not (bases_empty (given_at at).rest.bases) ≡ true
      goes_given = given_some o q flow p.shaped naming row (state_of s) r.stands_for (pointer_of at) i offset lo hi alive (argument_stands at (pointer (into i offset lo hi)) there) within

      abbrev text : machine.Scanned
      text = machine.scanned (contents (machine.bytes_from s.world (reach_of i offset hi) (hi - offset)))

      pub ends_here : (k : ℕ) → text ≡ machine.ends k → k < hi - offset
      ends_here k h = ends_in_room o q flow p.shaped naming row (state_of s) r.stands_for (given_at at).rest i offset lo hi alive (given_stands o q flow p.shaped naming row (state_of s) r.stands_for (pointer_of at) i offset lo hi alive (argument_stands at (pointer (into i offset lo hi)) there) within) within k h

      pub is_scan : IsScan o q flow p.shaped naming row (state_of s) r.stands_for (given_at at).rest i offset lo hi alive (given_stands o q flow p.shaped naming row (state_of s) r.stands_for (pointer_of at) i offset lo hi alive (argument_stands at (pointer (into i offset lo hi)) there) within) within (scanned_at at)
      is_scan = scan_stands o q flow p.shaped naming row (state_of s) r.stands_for (given_at at).rest i offset lo hi alive (given_stands o q flow p.shaped naming row (state_of s) r.stands_for (pointer_of at) i offset lo hi alive (argument_stands at (pointer (into i offset lo hi)) there) within) within

      module _ (plan : Plan I) (tells : violates (scan_violations (scanned_at at)) rule.Nonnullcs ≡ true → violates plan.violations rule.Nonnullcs ≡ true) (further : ℕ → World → Reply (Option Scalar)) (on : (k : ℕ) → text ≡ machine.ends k → Good plan (further k s.world)) where
        by_text : (t : machine.Scanned) → text ≡ t → Good plan (behind (machine.measured s.world t) further)
        by_text (machine.ends k) h = on k h
        by_text machine.unended h = told_stop plan rule.Nonnullcs (tells (is_scan.open_end h))
        by_text machine.broken h = plain_stop plan Left

        pub scan_good : Good plan (behind (machine.string_length (reach_of i offset hi) s.world) further)
        scan_good = by_text text refl

    -- ---- `strlen`

    same_room : (i : ℕ) → pos (length (bytes_at s.world.memory i)) ≤ℤ greatest_of (kind_of flow.model Pointer false)
    same_room i =
        let a = r.short i in
        let b = class_above flow.model Pointer in
        let c = halves (8 * class_bytes flow.model Pointer) (omega arith) in
        let d = pow_pos (8 * class_bytes flow.model Pointer - 1) in
        omega (arith, ints)

    module _ (m : MachinePointer) (there : slice_get vs 0 ≡ Some (pointer m)) where
      abbrev length_found : I
      length_found = length_of l n flow.model (scanned_at 0)

      abbrev first_trail : Trail
      first_trail = checked (trail_of (given_at 0).violations) no_violations (not (bases_empty (given_at 0).rest.bases))

      abbrev length_trail : Trail
      length_trail = checked first_trail (scan_violations (scanned_at 0)) (is_some (n.bounds length_found))

      abbrev length_plan : Plan I
      length_plan = planned length_trail (effect.Result (number_value l length_found sets.no_labels))

      abbrev length_reply : ℕ → World → Reply Scalar
      length_reply k w = goes (plain (pos k)) w

      length_on : (i offset lo hi : ℕ) → m ≡ into i offset lo hi → life_at s.world.memory i ≡ live → Good length_plan (with_result (behind (machine.string_length (reach_of i offset hi) s.world) length_reply))
      length_on i offset lo hi is alive =
          let here : slice_get vs 0 ≡ Some (pointer (into i offset lo hi)) = there ∙ ap (λ z. Some (pointer z)) is in
          let given = goes_given 0 i offset lo hi here alive in
          let found = is_scan 0 i offset lo hi here alive in
          let reached : first_trail.goes_on ≡ true = goes_further (trail_of (given_at 0).violations) no_violations (not (bases_empty (given_at 0).rest.bases)) refl given in
          subst (Good length_plan) (sym (behind_behind (machine.string_length (reach_of i offset hi) s.world) length_reply (λ v w. goes (Some v) w)))
          (scan_good 0 i offset lo hi here alive length_plan
          (λ h. told_here first_trail (scan_violations (scanned_at 0)) (is_some (n.bounds length_found)) rule.Nonnullcs reached h)
          (λ k w. goes (Some (plain (pos k))) w)
          (λ k h.
          let b = (within 0 i offset lo hi here alive).within in
          let c = same_room i in
          let small = r.stands_for.sane.small i in
          let d = ends_here 0 i offset lo hi here alive k h in
          let st : gamma length_found (pos k) = of_range_stands q (range_met (n.bounds (scanned_at 0).length) (pos 0) (greatest_of (kind_of flow.model Pointer false))) (pos k) (met_has (n.bounds (scanned_at 0).length) (pos 0) (greatest_of (kind_of flow.model Pointer false)) (pos k) (bounds_have q (scanned_at 0).length (pos k) (found.ended k h)) (omega (arith, ints)) (omega (arith, ints))) in
          let some = q.inside length_found (pos k) st in
          trail_gives length_trail (number_value l length_found sets.no_labels) (plain (pos k))
          (goes_further first_trail (scan_violations (scanned_at 0)) (is_some (n.bounds length_found)) reached (ap is_some some.2))
          (number_result q flow p naming row s r to has newest length_found sets.no_labels (pos k) no_labels st refl (record { from = omega (arith, ints); to = omega (arith, ints) }))))

      length_good : Good length_plan (with_result (behind (machine.reached m s.world) (λ t w. behind (machine.string_length t w) length_reply)))
      length_good = subst (Good length_plan) (sym (behind_behind (machine.reached m s.world) (λ t w. behind (machine.string_length t w) length_reply) (λ v w. goes (Some v) w)))
          (reach_good length_plan 0 m there
          (λ rl h. still_told first_trail (scan_violations (scanned_at 0)) (is_some (n.bounds length_found)) rl (still_told (trail_of (given_at 0).violations) no_violations (not (bases_empty (given_at 0).rest.bases)) rl h))
          (λ t w. with_result (behind (machine.string_length t w) length_reply))
          length_on)

      -- ---- `puts`

      abbrev put_first : Trail
      put_first = given_trail (trail_of no_violations) (given_at 0)

      abbrev put_trail : Trail
      put_trail = scanned_trail put_first (scanned_at 0)

      abbrev put_plan : Plan I
      put_plan = planned put_trail (effect.Result (number_value l (n.one (pos 0)) sets.no_labels))

      abbrev put_reply : ℕ → World → Reply Scalar
      put_reply k w = goes (plain (pos 0)) w

      put_on : (i offset lo hi : ℕ) → m ≡ into i offset lo hi → life_at s.world.memory i ≡ live → Good put_plan (with_result (behind (machine.string_length (reach_of i offset hi) s.world) put_reply))
      put_on i offset lo hi is alive =
          let here : slice_get vs 0 ≡ Some (pointer (into i offset lo hi)) = there ∙ ap (λ z. Some (pointer z)) is in
          let given = goes_given 0 i offset lo hi here alive in
          let found = is_scan 0 i offset lo hi here alive in
          let reached : put_first.goes_on ≡ true = goes_further (trail_of no_violations) (given_at 0).violations (not (bases_empty (given_at 0).rest.bases)) refl given in
          subst (Good put_plan) (sym (behind_behind (machine.string_length (reach_of i offset hi) s.world) put_reply (λ v w. goes (Some v) w)))
          (scan_good 0 i offset lo hi here alive put_plan
          (λ h. told_here put_first (scan_violations (scanned_at 0)) (not (bases_empty (scanned_at 0).bases)) rule.Nonnullcs reached h)
          (λ k w. goes (Some (plain (pos 0))) w)
          (λ k h. trail_gives put_trail (number_value l (n.one (pos 0)) sets.no_labels) (plain (pos 0))
          (goes_further put_first (scan_violations (scanned_at 0)) (not (bases_empty (scanned_at 0).bases)) reached (found.based k h))
          (number_result q flow p naming row s r to has newest (n.one (pos 0)) sets.no_labels (pos 0) no_labels (q.one_stands (pos 0)) refl (record { from = omega (arith, ints); to = omega (arith, ints) }))))

      puts_good : Good put_plan (with_result (behind (machine.reached m s.world) (λ t w. behind (machine.string_length t w) put_reply)))
      puts_good = subst (Good put_plan) (sym (behind_behind (machine.reached m s.world) (λ t w. behind (machine.string_length t w) put_reply) (λ v w. goes (Some v) w)))
          (reach_good put_plan 0 m there
          (λ rl h. still_told put_first (scan_violations (scanned_at 0)) (not (bases_empty (scanned_at 0).bases)) rl (told_here (trail_of no_violations) (given_at 0).violations (not (bases_empty (given_at 0).rest.bases)) rl refl h))
          (λ t w. with_result (behind (machine.string_length t w) put_reply))
          put_on)

    -- ---- `strcmp`

    module _ (left right : MachinePointer) (left_there : slice_get vs 0 ≡ Some (pointer left)) (right_there : slice_get vs 1 ≡ Some (pointer right)) where
      abbrev left_trail : Trail
      left_trail = checked (trail_of (given_at 0).violations) no_violations (not (bases_empty (given_at 0).rest.bases))

      abbrev both_trail : Trail
      both_trail = given_trail left_trail (given_at 1)

      abbrev left_scanned : Trail
      left_scanned = scanned_trail both_trail (scanned_at 0)

      abbrev both_scanned : Trail
      both_scanned = scanned_trail left_scanned (scanned_at 1)

      abbrev order_plan : Plan I
      order_plan = planned both_scanned (effect.Result (number_value l (between_or_least l n (negsuc 0) (pos 1)) sets.no_labels))

      -- a trail goes on behind a pointer that is live, and behind a string that ends
      abbrev more_scanned : (rl : Rule) → violates left_scanned.violations rl ≡ true → violates both_scanned.violations rl ≡ true
      more_scanned rl h = still_told left_scanned (scan_violations (scanned_at 1)) (not (bases_empty (scanned_at 1).bases)) rl h

      both_told : (rl : Rule) → violates both_trail.violations rl ≡ true → violates both_scanned.violations rl ≡ true
      both_told rl h = more_scanned rl (still_told both_trail (scan_violations (scanned_at 0)) (not (bases_empty (scanned_at 0).bases)) rl h)

      left_told : (rl : Rule) → violates (given_at 0).violations rl ≡ true → violates both_scanned.violations rl ≡ true
      left_told rl h = both_told rl (still_told left_trail (given_at 1).violations (not (bases_empty (given_at 1).rest.bases)) rl (still_told (trail_of (given_at 0).violations) no_violations (not (bases_empty (given_at 0).rest.bases)) rl h))

      left_on : not (bases_empty (given_at 0).rest.bases) ≡ true → left_trail.goes_on ≡ true
      left_on h = goes_further (trail_of (given_at 0).violations) no_violations (not (bases_empty (given_at 0).rest.bases)) refl h

      both_on : left_trail.goes_on ≡ true → not (bases_empty (given_at 1).rest.bases) ≡ true → both_trail.goes_on ≡ true
      both_on g h = goes_further left_trail (given_at 1).violations (not (bases_empty (given_at 1).rest.bases)) g h

      left_ended : both_trail.goes_on ≡ true → not (bases_empty (scanned_at 0).bases) ≡ true → left_scanned.goes_on ≡ true
      left_ended g h = goes_further both_trail (scan_violations (scanned_at 0)) (not (bases_empty (scanned_at 0).bases)) g h

      -- what the machine does behind each of its checks
      abbrev order_reply : machine.Reach → machine.Reach → ℕ → ℕ → World → Reply Scalar
      order_reply a b m k w = goes (plain (order_in (contents (machine.bytes_from w a (m + 1))) (contents (machine.bytes_from w b (k + 1))))) w

      abbrev right_scan : machine.Reach → machine.Reach → ℕ → World → Reply Scalar
      right_scan a b m w = behind (machine.string_length b w) (order_reply a b m)

      abbrev left_scan : machine.Reach → machine.Reach → World → Reply Scalar
      left_scan a b w = behind (machine.string_length a w) (right_scan a b)

      abbrev right_reach : machine.Reach → World → Reply Scalar
      right_reach a w = behind (machine.reached right w) (left_scan a)

      module _ (i offset lo hi : ℕ) (left_is : left ≡ into i offset lo hi) (left_alive : life_at s.world.memory i ≡ live) where
        left_here : slice_get vs 0 ≡ Some (pointer (into i offset lo hi))
        left_here = left_there ∙ ap (λ z. Some (pointer z)) left_is

        abbrev a : machine.Reach
        a = reach_of i offset hi

        module _ (j at low high : ℕ) (right_is : right ≡ into j at low high) (right_alive : life_at s.world.memory j ≡ live) where
          right_here : slice_get vs 1 ≡ Some (pointer (into j at low high))
          right_here = right_there ∙ ap (λ z. Some (pointer z)) right_is

          abbrev b : machine.Reach
          b = reach_of j at high

          reached_both : both_trail.goes_on ≡ true
          reached_both = both_on (left_on (goes_given 0 i offset lo hi left_here left_alive)) (goes_given 1 j at low high right_here right_alive)

          module _ (m : ℕ) (ended : machine.scanned (contents (machine.bytes_from s.world (reach_of i offset hi) (hi - offset))) ≡ machine.ends m) where
            scanned_left : left_scanned.goes_on ≡ true
            scanned_left = left_ended reached_both ((is_scan 0 i offset lo hi left_here left_alive).based m ended)

            order_good : (k : ℕ) → machine.scanned (contents (machine.bytes_from s.world (reach_of j at high) (high - at))) ≡ machine.ends k → Good order_plan (with_result (order_reply a b m k s.world))
            order_good k h =
                let z : ℤ = order_in (contents (machine.bytes_from s.world a (m + 1))) (contents (machine.bytes_from s.world b (k + 1))) in
                let w = order_small (contents (machine.bytes_from s.world a (m + 1))) (contents (machine.bytes_from s.world b (k + 1))) in
                let w0 = w.0 in
                let w1 = w.1 in
                trail_gives both_scanned (number_value l (between_or_least l n (negsuc 0) (pos 1)) sets.no_labels) (plain z)
                (goes_further left_scanned (scan_violations (scanned_at 1)) (not (bases_empty (scanned_at 1).bases)) scanned_left ((is_scan 1 j at low high right_here right_alive).based k h))
                (number_result q flow p naming row s r to has newest (between_or_least l n (negsuc 0) (pos 1)) sets.no_labels z no_labels (number_between o q (negsuc 0) (pos 1) z w0 w1) refl (record { from = omega (arith, ints); to = omega (arith, ints) }))

            right_good : Good order_plan (with_result (right_scan a b m s.world))
            right_good = subst (Good order_plan) (sym (behind_behind (machine.string_length b s.world) (order_reply a b m) (λ v w. goes (Some v) w)))
                (scan_good 1 j at low high right_here right_alive order_plan
                (λ h. told_here left_scanned (scan_violations (scanned_at 1)) (not (bases_empty (scanned_at 1).bases)) rule.Nonnullcs scanned_left h)
                (λ k w. with_result (order_reply a b m k w)) order_good)

          left_good : Good order_plan (with_result (left_scan a b s.world))
          left_good = subst (Good order_plan) (sym (behind_behind (machine.string_length a s.world) (right_scan a b) (λ v w. goes (Some v) w)))
              (scan_good 0 i offset lo hi left_here left_alive order_plan
              (λ h. more_scanned rule.Nonnullcs (told_here both_trail (scan_violations (scanned_at 0)) (not (bases_empty (scanned_at 0).bases)) rule.Nonnullcs reached_both h))
              (λ m w. with_result (right_scan a b m w)) right_good)

        reach_right : Good order_plan (with_result (right_reach a s.world))
        reach_right = subst (Good order_plan) (sym (behind_behind (machine.reached right s.world) (left_scan a) (λ v w. goes (Some v) w)))
            (reach_good order_plan 1 right right_there
            (λ rl h. both_told rl (told_here left_trail (given_at 1).violations (not (bases_empty (given_at 1).rest.bases)) rl (left_on (goes_given 0 i offset lo hi left_here left_alive)) h))
            (λ b w. with_result (left_scan a b w)) left_good)

      compare_good : Good order_plan (with_result (compare_strings left right s.world))
      compare_good = subst (Good order_plan) (sym (behind_behind (machine.reached left s.world) right_reach (λ v w. goes (Some v) w)))
          (reach_good order_plan 0 left left_there left_told (λ a w. with_result (right_reach a w)) reach_right)

  -- ---- by name

  by_name : (name : LibFn) → ReadsStrings name → (items : List ℕ) (wanted : Option ℕ) (vs : List Scalar) → values_of s.temps items ≡ Some vs → Good (plan_call l n name (call_of flow items wanted) row) (library flow.model wanted name vs s.world)
  unfolding plan_call plan_strlen plan_puts plan_strcmp
  by_name f.Strlen h items wanted [] e = plain_stop _ Stuck
  by_name f.Strlen h items wanted (integer z la ∷ vs) e = plain_stop _ Stuck
  by_name f.Strlen h items wanted (pointer m ∷ (v ∷ vs)) e = plain_stop _ Stuck
  by_name f.Strlen h items wanted (pointer m ∷ []) e = length_good items wanted (pointer m ∷ []) e m refl
  by_name f.Puts h items wanted [] e = plain_stop _ Stuck
  by_name f.Puts h items wanted (integer z la ∷ vs) e = plain_stop _ Stuck
  by_name f.Puts h items wanted (pointer m ∷ (v ∷ vs)) e = plain_stop _ Stuck
  by_name f.Puts h items wanted (pointer m ∷ []) e = puts_good items wanted (pointer m ∷ []) e m refl
  by_name f.Strcmp h items wanted [] e = plain_stop _ Stuck
  by_name f.Strcmp h items wanted (integer z la ∷ vs) e = plain_stop _ Stuck
  by_name f.Strcmp h items wanted (pointer m ∷ []) e = plain_stop _ Stuck
  by_name f.Strcmp h items wanted (pointer m ∷ (integer z la ∷ vs)) e = plain_stop _ Stuck
  by_name f.Strcmp h items wanted (pointer m ∷ (pointer k ∷ (v ∷ vs))) e = plain_stop _ Stuck
  by_name f.Strcmp h items wanted (pointer m ∷ (pointer k ∷ [])) e = compare_good items wanted (pointer m ∷ (pointer k ∷ [])) e m k refl refl
  by_name _ h items wanted vs e = absurd h

module _ {I : Type 0} {l : LatticeOf I} {n : IntegersOf I} {gamma : I → ℤ → Type 0} (o : OrderLaws l) (q : BoundLaws l n gamma) (flow : Flow) (p : HasPremises flow) (naming : Naming) (row : List (Cell I)) (s : ProgramState) (r : IsReached l n gamma flow naming row s) where
  pub string_call_sound : (to : Option ℕ) (name : LibFn) (arguments : _) (newest size : Option ℕ) → ReadsStrings name → fits_operation (names_of flow) (op.Library to name arguments newest size) ≡ true → StepIsSound l n gamma flow row (op.Library to name arguments newest size) s
  unfolding operate call_step operation_violations
  string_call_sound to name arguments newest size is fits =
      let has = (and_parts (has_result (names_of flow) to) (list_all (has_temp (names_of flow)) arguments.items && (is_site flow.bases.items newest && is_optional_extent size)) fits).0 in
      if_some_good l n gamma flow _ _ s r.begun (values_of s.temps arguments.items) _ (λ vs e. by_name o q flow p naming row s r to has newest name is arguments.items size vs e)

  pub string_step_sound : (i : Operation) → IsStringCall i → fits_operation (names_of flow) i ≡ true → StepIsSound l n gamma flow row i s
  string_step_sound (op.Library to name arguments newest size) is fits = string_call_sound to name arguments newest size is fits
  string_step_sound i is fits = absurd is
