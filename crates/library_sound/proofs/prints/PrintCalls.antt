-- Calls of `printf` are sound: its pointers are looked at in order, then the strings are scanned in order.
use Rattle.std.proofs.Common.{◌≡◌, ℕ, zero, suc, ◌+◌, ◌-◌, ◌*◌, ◌^◌, Bool, true, false, cond, not, ◌&&◌, ◌||◌, Option, Some, None, List, [], ◌∷◌, length, arith, subst, sym, refl, ap, ◌∙◌}
use Rattle.std.specs.Prelude.{slice_get, ℤ, pos, ◌≤ℤ◌, is_some, ◌==◌}
use Rattle.std.specs.List.{list_all}
use Rattle.std.proofs.lemmas.Int.{ints}
use Rattle.std.proofs.lemmas.Bool.{and_parts, or_left, or_right}
use Rattle.cc_base.specs.Lattices.{LatticeOf, OrderLaws}
use Rattle.cc_base.specs.IntegerDomains.{IntegersOf, BoundLaws, between_or_least}
use Rattle.cc_base.specs.IntegerTypes.{greatest_of}
use Rattle.cc_base.specs.declared.diagnostics.Rule.{Rule}
use Rattle.cc_base.specs.declared.diagnostics.Rule.TheVariants as rule
use Rattle.c_layout.specs.Models.{is_model}
use Rattle.c_layout.specs.declared.data_model.Model.{Model}
use Rattle.c_layout.specs.declared.leaf_lists.Class.TheVariants.{Int}
use Rattle.c_layout.specs.declared.library_functions.LibFn.{LibFn}
use Rattle.c_layout.specs.declared.library_functions.LibFn.TheVariants as f
use Rattle.cfg.specs.WellFormed.{names_of, has_temp, has_result, is_site, is_optional_extent, fits_operation}
use Rattle.cfg.specs.declared.machine_instructions.Operation.{Operation}
use Rattle.cfg.specs.declared.machine_instructions.Operation.TheVariants as op
use Rattle.cfg.specs.declared.programs.Flow.{Flow}
use Rattle.pointer_domain.specs.BaseSets.{bases_empty}
use Rattle.value_domain.specs.Values.LabelSets as sets
use Rattle.value_domain.specs.Values.ValueTables.{number_value}
use Rattle.value_domain.specs.declared.values.values.Value.{Value}
use Rattle.value_domain.specs.declared.values.row_cells.Cell.{Cell}
use Rattle.store_cells.specs.ScalarTypes.{kind_of}
use Rattle.transfer_checks.specs.ViolationSets.{no_violations, violates}
use Rattle.transfer_checks.specs.declared.library_arguments.Argument.{Argument}
use Rattle.transfer_checks.specs.declared.string_scans.Scanned.{Scanned}
use Rattle.transfer_library_plans.specs.Arguments.{argument_value}
use Rattle.transfer_library_plans.specs.Calls.{Call}
use Rattle.transfer_library_plans.specs.Outputs.{argument_at, scan_at, scan_violations, pointer_trail, pointer_trails, scan_trails, has_number, plan_printf}
use Rattle.transfer_library.specs.Planning.{plan_call}
use Rattle.transfer_library_plans.specs.Plans.{planned, trail_of}
use Rattle.transfer_library_plans.specs.declared.call_plans.Effect.TheVariants as effect
use Rattle.transfer_library_plans.specs.declared.call_plans.Plan.{Plan}
use Rattle.transfer_library_plans.specs.declared.call_plans.Trail.{Trail}
use Rattle.transfer_sound.specs.CallSteps.{call_of, call_step}
use Rattle.transfer_sound.specs.StepViolations.{operation_violations}
use Rattle.transfer_sound.specs.Steps.{operate}
use Rattle.memory_model.specs.Memory.Labels.{no_labels}
use Rattle.memory_model.specs.Memory.Bytes.{MachinePointer, into}
use Rattle.memory_model.specs.Memory.Instances.{live, life_at}
use Rattle.memory_model.specs.Memory.Scalars.{Scalar, integer, pointer}
use Rattle.memory_model.specs.Effects.LibraryCalls.{and_reach, strings_in, all_scanned, most_int, with_result, library}
use Rattle.memory_model.specs.Effects.LibraryChecks as machine
use Rattle.memory_model.specs.Effects.StringCalls.{plain}
use Rattle.memory_model.specs.Effects.Worlds.{World, Reply, goes, behind, drawn, Stuck, OutOfDraws}
use Rattle.semantics.specs.CfgMachine.FlowStates.{ProgramState, and_value, values_of}
use Rattle.store_sound.specs.Concretization.ValueMeaning.{Naming}
use Rattle.store_sound.specs.Programs.Premises.{HasPremises}
use Rattle.store_sound.proofs.programs.Sizes.{same_bytes}
use Rattle.transfer_sound.specs.Values.SoundSteps.{IsReached, StepIsSound}
use Rattle.transfer_sound.proofs.values.NearScalars.{IsNearNumber}
use Rattle.transfer_sound.proofs.values.Replies.{if_some_good}
use Rattle.library_sound.proofs.calls.Calls.{DrawnEnd, gave, ran_out, drawn_end, clean, GoodPlan, plan_stops, plan_gives, plan_is, number_result}
use Rattle.library_sound.proofs.calls.CharacterNumbers.{number_between}
use Rattle.library_sound.proofs.strings.GivenPointers.{reach_of}
use Rattle.library_sound.proofs.strings.StringCalls as strings
use Rattle.library_sound.proofs.strings.StringCalls.{and_parts_some, behind_behind, argument_stands}
use Rattle.library_sound.proofs.strings.Trails.{still_told, told_here, goes_further}
use Rattle.library_sound.specs.Prints.PrintCalls.{Prints, IsPrintCall}

-- ---- arguments and results

values_length : (temps : ℕ → Option Scalar) (items : List ℕ) (vs : List Scalar) → values_of temps items ≡ Some vs → length items ≡ length vs
values_length temps [] [] e = refl
values_length temps [] (v ∷ vs) e = cc
values_length temps (t ∷ ts) [] e = no_value (temps t) (values_of temps ts) e
  where
    no_value : (a : Option Scalar) (b : Option (List Scalar)) → and_value a b ≡ Some [] → suc (length ts) ≡ 0
    no_value None b e = cc
    no_value (Some x) None e = cc
    no_value (Some x) (Some xs) e = cc
values_length temps (t ∷ ts) (v ∷ vs) e = ap suc (values_length temps ts vs (and_parts_some (temps t) (values_of temps ts) v vs e).1)

-- the result is an int
near_int : (b : Bool) (z : ℤ) → pos 0 ≤ℤ z → z ≤ℤ pos (2 ^ (8 * cond b 2 4 - 1) - 1) → IsNearNumber z
near_int true z h k = record { from = omega (arith, ints); to = omega (arith, ints) }
near_int false z h k = record { from = omega (arith, ints); to = omega (arith, ints) }

most_is : (m : Model) → is_model m ≡ true → most_int m ≡ greatest_of (kind_of m Int true)
most_is m e = ap (λ b. pos (2 ^ (8 * b - 1) - 1)) (same_bytes m Int e)

module _ {I : Type 0} {l : LatticeOf I} {n : IntegersOf I} {gamma : I → ℤ → Type 0} (o : OrderLaws l) (q : BoundLaws l n gamma) (flow : Flow) (p : HasPremises flow) (naming : Naming) (row : List (Cell I)) (s : ProgramState) (r : IsReached l n gamma flow naming row s) (to : Option ℕ) (has : has_result (names_of flow) to ≡ true) (newest : Option ℕ) (items : List ℕ) (wanted : Option ℕ) (vs : List Scalar) (e : values_of s.temps items ≡ Some vs) where
  abbrev Good : Plan I → Reply (Option Scalar) → Type 0
  Good plan reply = GoodPlan q flow p naming row s r to has newest plan reply

  abbrev the_call : Call
  the_call = call_of flow items wanted

  abbrev given_at : ℕ → Argument I
  given_at at = argument_at l n the_call row at

  abbrev scanned_at : ℕ → Scanned I
  scanned_at at = scan_at l n the_call row (given_at at)

  abbrev is_number : ℕ → Bool
  is_number at = has_number l n the_call row at

  number_there : (at : ℕ) (z : ℤ) (labels : _) → slice_get vs at ≡ Some (integer z labels) → is_number at ≡ true
  number_there at z labels h =
      let st = argument_stands o q flow p naming row s r to has newest items wanted vs e at (integer z labels) h in
      let some = q.inside (argument_value l n the_call row at).num z st.0 in
      ap is_some some.2

  abbrev format_trail : Trail
  format_trail = pointer_trail l n the_call row 0 (trail_of no_violations)

  abbrev pointers_to : ℕ → Trail
  pointers_to j = pointer_trails l n the_call row j format_trail

  pointers_told : (d j k : ℕ) → d + j ≡ k → (rl : Rule) → violates (pointers_to j).violations rl ≡ true → violates (pointers_to k).violations rl ≡ true
  pointers_told zero j k c rl h = let d : j ≡ k = omega (arith) in subst (λ k. violates (pointers_to k).violations rl ≡ true) d h
  pointers_told (suc d) j k c rl h =
      let here : suc (d + j) ≡ k = omega (arith) in
      subst (λ k. violates (pointers_to k).violations rl ≡ true) here
      (still_told (pointers_to (d + j)) (given_at (suc (d + j))).violations (is_number (suc (d + j)) || not (bases_empty (given_at (suc (d + j))).rest.bases)) rl (pointers_told d j (d + j) refl rl h))

  module _ (count : ℕ) where
    abbrev texts_to : ℕ → Trail
    texts_to j = scan_trails l n the_call row j (pointers_to count)

    texts_told : (d j k : ℕ) → d + j ≡ k → (rl : Rule) → violates (texts_to j).violations rl ≡ true → violates (texts_to k).violations rl ≡ true
    texts_told zero j k c rl h = let d : j ≡ k = omega (arith) in subst (λ k. violates (texts_to k).violations rl ≡ true) d h
    texts_told (suc d) j k c rl h =
        let here : suc (d + j) ≡ k = omega (arith) in
        subst (λ k. violates (texts_to k).violations rl ≡ true) here
        (still_told (texts_to (d + j)) (scan_violations (scanned_at (suc (d + j)))) (is_number (suc (d + j)) || not (bases_empty (scanned_at (suc (d + j))).bases)) rl (texts_told d j (d + j) refl rl h))

    all_texts_told : (k : ℕ) (rl : Rule) → violates (pointers_to count).violations rl ≡ true → violates (texts_to k).violations rl ≡ true
    all_texts_told zero rl h = h
    all_texts_told (suc k) rl h = still_told (texts_to k) (scan_violations (scanned_at (suc k))) (is_number (suc k) || not (bases_empty (scanned_at (suc k)).bases)) rl (all_texts_told k rl h)

    abbrev answer : Value I
    answer = number_value l (between_or_least l n (pos 0) (greatest_of (kind_of flow.model Int true))) sets.no_labels

    abbrev plan : Plan I
    plan = planned (texts_to count) (effect.Result answer)

    told_by_pointers : (d j : ℕ) → d + j ≡ count → (rl : Rule) → violates (pointers_to j).violations rl ≡ true → violates plan.violations rl ≡ true
    told_by_pointers d j c rl h = all_texts_told count rl (pointers_told d j count c rl h)

    told_by_texts : (d j : ℕ) → d + j ≡ count → (rl : Rule) → violates (texts_to j).violations rl ≡ true → violates plan.violations rl ≡ true
    told_by_texts d j c rl h = texts_told d j count c rl h

    -- arguments from one on are those of the call behind the format
    abbrev Lies : ℕ → List Scalar → Type 0
    Lies j rest = (k : ℕ) (v : Scalar) → slice_get rest k ≡ Some v → slice_get vs (suc (j + k)) ≡ Some v

    lies_first : (j : ℕ) (v : Scalar) (rest : List Scalar) → Lies j (v ∷ rest) → slice_get vs (suc j) ≡ Some v
    lies_first j v rest h = let z : suc (j + 0) ≡ suc j = omega (arith) in subst (λ k. slice_get vs k ≡ Some v) z (h 0 v refl)

    lies_behind : (j : ℕ) (v : Scalar) (rest : List Scalar) → Lies j (v ∷ rest) → Lies (suc j) rest
    lies_behind j v rest h k x g = let z : suc (j + suc k) ≡ suc (suc j + k) = omega (arith) in subst (λ k. slice_get vs k ≡ Some x) z (h (suc k) x g)

    -- what the pointers among arguments reach
    pub record IsLiveReach (m : MachinePointer) (reach : machine.Reach) : Type 0 where
      pub i : ℕ
      pub offset : ℕ
      pub lo : ℕ
      pub hi : ℕ
      pub is : m ≡ into i offset lo hi
      pub alive : life_at s.world.memory i ≡ live
      pub there : reach ≡ reach_of i offset hi

    abbrev AreReaches : List Scalar → List machine.Reach → Type 0
    AreReaches [] [] = Unit {0}
    AreReaches [] (a ∷ others) = ⊥
    AreReaches (integer z labels ∷ rest) reaches = AreReaches rest reaches
    AreReaches (pointer m ∷ rest) [] = ⊥
    AreReaches (pointer m ∷ rest) (a ∷ others) = IsLiveReach m a × AreReaches rest others

    on_pointer : (j : ℕ) → (pointers_to j).goes_on ≡ true → (is_number (suc j) || not (bases_empty (given_at (suc j)).rest.bases)) ≡ true → (pointers_to (suc j)).goes_on ≡ true
    on_pointer j g h = goes_further (pointers_to j) (given_at (suc j)).violations (is_number (suc j) || not (bases_empty (given_at (suc j)).rest.bases)) g h

    pointers_good : (rest : List Scalar) (j : ℕ) → length rest + j ≡ count → Lies j rest → (pointers_to j).goes_on ≡ true → (further : List machine.Reach → World → Reply (Option Scalar)) → ((reaches : List machine.Reach) → AreReaches rest reaches → (pointers_to count).goes_on ≡ true → Good plan (further reaches s.world)) → Good plan (behind (strings_in rest s.world) further)
    pointers_good [] j c lies g further on = let d : j ≡ count = omega (arith) in on [] tt (subst (λ k. (pointers_to k).goes_on ≡ true) d g)
    pointers_good (integer z labels ∷ rest) j c lies g further on =
        pointers_good rest (suc j) (omega (arith)) (lies_behind j (integer z labels) rest lies)
        (on_pointer j g (or_left (is_number (suc j)) _ (number_there (suc j) z labels (lies_first j (integer z labels) rest lies)))) further on
    pointers_good (pointer m ∷ rest) j c lies g further on =
        subst (Good plan) (sym (behind_behind (machine.reached m s.world) (λ a w. behind (strings_in rest w) (and_reach a)) further))
        (strings.reach_good o q flow p naming row s r to has newest items wanted vs e plan (suc j) m (lies_first j (pointer m) rest lies)
        (λ rl h. told_by_pointers (length rest) (suc j) (omega (arith)) rl (told_here (pointers_to j) (given_at (suc j)).violations (is_number (suc j) || not (bases_empty (given_at (suc j)).rest.bases)) rl g h))
        (λ a w. behind (behind (strings_in rest w) (and_reach a)) further)
        (λ i offset lo hi is alive.
        let here : slice_get vs (suc j) ≡ Some (pointer (into i offset lo hi)) = lies_first j (pointer m) rest lies ∙ ap (λ z. Some (pointer z)) is in
        let given = strings.goes_given o q flow p naming row s r to has newest items wanted vs e (suc j) i offset lo hi here alive in
        subst (Good plan) (sym (behind_behind (strings_in rest s.world) (and_reach (reach_of i offset hi)) further))
        (pointers_good rest (suc j) (omega (arith)) (lies_behind j (pointer m) rest lies)
        (on_pointer j g (or_right (is_number (suc j)) _ given))
        (λ others w. further (reach_of i offset hi ∷ others) w)
        (λ others are k. on (reach_of i offset hi ∷ others) (record { i = i; offset = offset; lo = lo; hi = hi; is = is; alive = alive; there = refl }, are) k))))

    on_text : (j : ℕ) → (texts_to j).goes_on ≡ true → (is_number (suc j) || not (bases_empty (scanned_at (suc j)).bases)) ≡ true → (texts_to (suc j)).goes_on ≡ true
    on_text j g h = goes_further (texts_to j) (scan_violations (scanned_at (suc j))) (is_number (suc j) || not (bases_empty (scanned_at (suc j)).bases)) g h

    texts_good : (rest : List Scalar) (reaches : List machine.Reach) → AreReaches rest reaches → (j : ℕ) → length rest + j ≡ count → Lies j rest → (texts_to j).goes_on ≡ true → (further : Unit {0} → World → Reply (Option Scalar)) → ((texts_to count).goes_on ≡ true → Good plan (further tt s.world)) → Good plan (behind (all_scanned reaches s.world) further)
    texts_good [] [] are j c lies g further on = let d : j ≡ count = omega (arith) in on (subst (λ k. (texts_to k).goes_on ≡ true) d g)
    texts_good [] (a ∷ others) are j c lies g further on = absurd are
    texts_good (integer z labels ∷ rest) reaches are j c lies g further on =
        texts_good rest reaches are (suc j) (omega (arith)) (lies_behind j (integer z labels) rest lies)
        (on_text j g (or_left (is_number (suc j)) _ (number_there (suc j) z labels (lies_first j (integer z labels) rest lies)))) further on
    texts_good (pointer m ∷ rest) [] are j c lies g further on = absurd are
    texts_good (pointer m ∷ rest) (a ∷ others) are j c lies g further on =
        subst (λ z. Good plan (behind (all_scanned (z ∷ others) s.world) further)) (sym reach.there)
        (subst (Good plan) (sym (behind_behind (machine.string_length (reach_of reach.i reach.offset reach.hi) s.world) (λ k w. all_scanned others w) further))
        (strings.scan_good o q flow p naming row s r to has newest items wanted vs e (suc j) reach.i reach.offset reach.lo reach.hi here reach.alive plan
        (λ h. told_by_texts (length rest) (suc j) (omega (arith)) rule.Nonnullcs (told_here (texts_to j) (scan_violations (scanned_at (suc j))) (is_number (suc j) || not (bases_empty (scanned_at (suc j)).bases)) rule.Nonnullcs g h))
        (λ k w. behind (all_scanned others w) further)
        (λ k h. let found = strings.is_scan o q flow p naming row s r to has newest items wanted vs e (suc j) reach.i reach.offset reach.lo reach.hi here reach.alive in texts_good rest others are.1 (suc j) (omega (arith)) (lies_behind j (pointer m) rest lies)
        (on_text j g (or_right (is_number (suc j)) _ (found.based k h))) further on)))
      where
        reach : IsLiveReach m a
        reach = are.0

        here : slice_get vs (suc j) ≡ Some (pointer (into reach.i reach.offset reach.lo reach.hi))
        here = lies_first j (pointer m) rest lies ∙ ap (λ z. Some (pointer z)) reach.is

    -- ---- what the outside says

    abbrev drawn_reply : World → Reply Scalar
    drawn_reply w = behind (drawn w (pos 0) (most_int flow.model)) (λ z w. goes (plain z) w)

    abbrev given : Scalar → World → Reply (Option Scalar)
    given v w = goes (Some v) w

    answer_good : (texts_to count).goes_on ≡ true → DrawnEnd s.world (pos 0) (most_int flow.model) (drawn s.world (pos 0) (most_int flow.model)) → Good plan (with_result (drawn_reply s.world))
    answer_good on (gave z draws lo hi d) =
        let top = most_is flow.model p.model in
        let below : z ≤ℤ greatest_of (kind_of flow.model Int true) = subst (λ m. z ≤ℤ m) top hi in
        let near = near_int (flow.model.int == 2) z lo below in
        subst (λ y. Good plan (with_result (behind y (λ z w. goes (plain z) w)))) (sym d)
        (plan_is q flow p naming row s r to has newest plan (record { violations = (texts_to count).violations; effect = effect.Result answer }) (goes (Some (plain z)) (record (s.world) { draws = draws }))
        (ap (λ b. record { violations = (texts_to count).violations; effect = cond b (effect.Result answer) effect.Unreached }) on)
        (plan_gives q flow p naming row s r to has newest (texts_to count).violations answer (plain z) (record (s.world) { draws = draws })
        (number_result q flow p naming row s r to has newest (between_or_least l n (pos 0) (greatest_of (kind_of flow.model Int true))) sets.no_labels z no_labels (number_between o q (pos 0) (greatest_of (kind_of flow.model Int true)) z lo below) refl near)
        refl (clean q flow p naming row s r (texts_to count).violations)))
    answer_good on (ran_out draws d) =
        subst (λ y. Good plan (with_result (behind y (λ z w. goes (plain z) w)))) (sym d)
        (plan_stops q flow p naming row s r to has newest plan OutOfDraws (record (s.world) { draws = draws }) (clean q flow p naming row s r plan.violations))

    -- ---- the call

    abbrev scanned_reply : List machine.Reach → World → Reply Scalar
    scanned_reply reaches w = behind (all_scanned reaches w) (λ _ w. drawn_reply w)

    abbrev pointers_reply : List Scalar → World → Reply Scalar
    pointers_reply rest w = behind (strings_in rest w) scanned_reply

    module _ (m : MachinePointer) (there : slice_get vs 0 ≡ Some (pointer m)) (rest : List Scalar) (many : length rest + 0 ≡ count) (lies : Lies 0 rest) where
      scanned_good : (reaches : List machine.Reach) → AreReaches rest reaches → (pointers_to count).goes_on ≡ true → Good plan (with_result (scanned_reply reaches s.world))
      scanned_good reaches are on =
          subst (Good plan) (sym (behind_behind (all_scanned reaches s.world) (λ _ w. drawn_reply w) given))
          (texts_good rest reaches are 0 many lies on (λ _ w. with_result (drawn_reply w)) (λ on. answer_good on (drawn_end s.world (pos 0) (most_int flow.model))))

      format_good : (i offset lo hi : ℕ) → m ≡ into i offset lo hi → life_at s.world.memory i ≡ live → Good plan (with_result (pointers_reply rest s.world))
      format_good i offset lo hi is alive =
          let here : slice_get vs 0 ≡ Some (pointer (into i offset lo hi)) = there ∙ ap (λ z. Some (pointer z)) is in
          let on = goes_further (trail_of no_violations) (given_at 0).violations (not (bases_empty (given_at 0).rest.bases)) refl (strings.goes_given o q flow p naming row s r to has newest items wanted vs e 0 i offset lo hi here alive) in
          subst (Good plan) (sym (behind_behind (strings_in rest s.world) scanned_reply given))
          (pointers_good rest 0 many lies on (λ reaches w. with_result (scanned_reply reaches w)) scanned_good)

      print_good : Good plan (with_result (behind (machine.reached m s.world) (λ _ w. pointers_reply rest w)))
      print_good =
          subst (Good plan) (sym (behind_behind (machine.reached m s.world) (λ _ w. pointers_reply rest w) given))
          (strings.reach_good o q flow p naming row s r to has newest items wanted vs e plan 0 m there
          (λ rl h. told_by_pointers (length rest) 0 many rl (told_here (trail_of no_violations) (given_at 0).violations (not (bases_empty (given_at 0).rest.bases)) rl refl h))
          (λ _ w. with_result (pointers_reply rest w)) format_good)

module _ {I : Type 0} {l : LatticeOf I} {n : IntegersOf I} {gamma : I → ℤ → Type 0} (o : OrderLaws l) (q : BoundLaws l n gamma) (flow : Flow) (p : HasPremises flow) (naming : Naming) (row : List (Cell I)) (s : ProgramState) (r : IsReached l n gamma flow naming row s) (to : Option ℕ) (has : has_result (names_of flow) to ≡ true) (newest : Option ℕ) (items : List ℕ) (wanted : Option ℕ) where
  by_values : (vs : List Scalar) → values_of s.temps items ≡ Some vs → GoodPlan q flow p naming row s r to has newest (plan_call l n f.Printf (call_of flow items wanted) row) (library flow.model wanted f.Printf vs s.world)
  unfolding plan_call plan_printf
  by_values [] e = plan_stops q flow p naming row s r to has newest _ Stuck s.world (clean q flow p naming row s r _)
  by_values (integer z labels ∷ vs) e = plan_stops q flow p naming row s r to has newest _ Stuck s.world (clean q flow p naming row s r _)
  by_values (pointer m ∷ vs) e =
      let many : length items ≡ suc (length vs) = values_length s.temps items (pointer m ∷ vs) e in
      print_good o q flow p naming row s r to has newest items wanted (pointer m ∷ vs) e (length items - 1) m refl vs (omega (arith)) (λ k v h. let z : suc k ≡ suc (0 + k) = omega (arith) in subst (λ i. slice_get (pointer m ∷ vs) i ≡ Some v) z h)

  by_name : (name : LibFn) → Prints name → (vs : List Scalar) → values_of s.temps items ≡ Some vs → GoodPlan q flow p naming row s r to has newest (plan_call l n name (call_of flow items wanted) row) (library flow.model wanted name vs s.world)
  by_name f.Printf h vs e = by_values vs e
  by_name _ h vs e = absurd h

module _ {I : Type 0} {l : LatticeOf I} {n : IntegersOf I} {gamma : I → ℤ → Type 0} (o : OrderLaws l) (q : BoundLaws l n gamma) (flow : Flow) (p : HasPremises flow) (naming : Naming) (row : List (Cell I)) (s : ProgramState) (r : IsReached l n gamma flow naming row s) where
  pub print_call_sound : (to : Option ℕ) (name : LibFn) (arguments : _) (newest size : Option ℕ) → Prints name → fits_operation (names_of flow) (op.Library to name arguments newest size) ≡ true → StepIsSound l n gamma flow row (op.Library to name arguments newest size) s
  unfolding operate call_step operation_violations
  print_call_sound to name arguments newest size is fits =
      let has = (and_parts (has_result (names_of flow) to) (list_all (has_temp (names_of flow)) arguments.items && (is_site flow.bases.items newest && is_optional_extent size)) fits).0 in
      if_some_good l n gamma flow _ _ s r.begun (values_of s.temps arguments.items) _ (λ vs e. by_name o q flow p naming row s r to has newest arguments.items size name is vs e)

  pub print_step_sound : (i : Operation) → IsPrintCall i → fits_operation (names_of flow) i ≡ true → StepIsSound l n gamma flow row i s
  print_step_sound (op.Library to name arguments newest size) is fits = print_call_sound to name arguments newest size is fits
  print_step_sound i is fits = absurd is
