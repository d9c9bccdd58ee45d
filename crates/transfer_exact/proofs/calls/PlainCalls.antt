-- Calls that end the program, or give a number for one without the outside, are told.
use Rattle.std.proofs.Common.{◌≡◌, ℕ, Bool, true, false, cond, not, ◌&&◌, Option, Some, None, List, [], ◌∷◌, ◌++◌, arith, subst, sym, refl, ap, ◌∙◌}
use Rattle.std.specs.Prelude.{ℤ, pos, negsuc, ◌+ℤ◌, ◌-ℤ◌, ◌≤ℤ◌, unsigned_abs, int_le}
use Rattle.std.specs.Int.{int_rem_euclid, w128, saturate_signed}
use Rattle.std.specs.List.{list_all, Contains}
use Rattle.std.specs.Ordering.{int_eq}
use Rattle.std.proofs.lemmas.Int.{ints}
use Rattle.std.proofs.lemmas.Bool.{and_parts, ltb-true}
use Rattle.cc_base.specs.Lattices.{LatticeOf}
use Rattle.cc_base.specs.IntegerDomains.{IntegersOf, BoundLaws, between_or_least}
use Rattle.cc_base.specs.IntegerTypes.{wrap_into}
use Rattle.cc_base.specs.NumberRanges.{range_met}
use Rattle.cc_base.specs.declared.int_types.IntType.{IntType}
use Rattle.cc_base.specs.declared.diagnostics.Rule.{Rule}
use Rattle.cc_base.specs.declared.diagnostics.Rule.TheVariants.{Chrsgnext}
use Rattle.c_layout.specs.declared.leaf_lists.Class.TheVariants.{Char}
use Rattle.c_layout.specs.declared.library_functions.LibFn.{LibFn}
use Rattle.c_layout.specs.declared.library_functions.LibFn.TheVariants as f
use Rattle.cfg.specs.WellFormed.{names_of, has_temp, has_result, is_site, is_optional_extent, fits_operation}
use Rattle.cfg.specs.declared.machine_instructions.Operation.{Operation}
use Rattle.cfg.specs.declared.machine_instructions.Operation.TheVariants as op
use Rattle.cfg.specs.declared.programs.Flow.{Flow}
use Rattle.value_domain.specs.Values.ValueTables.{number_value}
use Rattle.value_domain.specs.Values.LabelSets as sets
use Rattle.value_domain.specs.declared.values.label_sets.Labels.{Labels as SetLabels}
use Rattle.value_domain.specs.declared.values.values.Value.{Value}
use Rattle.value_domain.specs.declared.values.row_cells.Cell.{Cell}
use Rattle.store_cells.specs.ScalarTypes.{kind_of}
use Rattle.transfer_checks.specs.IntegerChecks.{character_violations, is_no_character}
use Rattle.transfer_checks.specs.ViolationSets.{no_violations}
use Rattle.transfer_checks.specs.declared.violation_sets.Violations.{Violations}
use Rattle.transfer_library_plans.specs.Arguments.{argument_value, value_of_argument}
use Rattle.transfer_library_plans.specs.Characters as characters
use Rattle.transfer_library_plans.specs.Characters.{plan_character, plan_in}
use Rattle.transfer_library.specs.Effects.{apply, put_result}
use Rattle.transfer_library_plans.specs.Outputs.{putchar_of, plan_putchar}
use Rattle.transfer_library.specs.Planning.{plan_call}
use Rattle.transfer_library_plans.specs.Plans.{planned, trail_of, harmless}
use Rattle.transfer_library_plans.specs.declared.call_plans.Effect.TheVariants as effect
use Rattle.transfer_library_plans.specs.declared.call_plans.Plan.{Plan}
use Rattle.transfer_instructions.specs.Instructions.CallSteps.{call_of, call_step}
use Rattle.transfer_instructions.specs.Instructions.StepViolations.{operation_violations}
use Rattle.transfer_instructions.specs.Instructions.Steps.{operate}
use Rattle.memory_model.specs.Memory.Labels.{Labels, no_labels}
use Rattle.memory_model.specs.Memory.Scalars.{Scalar, integer, pointer}
use Rattle.memory_model.specs.Effects.CharacterCalls as machine
use Rattle.c_layout.specs.CharacterClasses.{lies_in, is_lower, is_upper, has_class}
use Rattle.memory_model.specs.Effects.IntegerEffects.{truth}
use Rattle.memory_model.specs.Effects.LibraryCalls.{with_result, putchar, character_call, library}
use Rattle.memory_model.specs.Effects.ScalarBytes.{bits_in}
use Rattle.memory_model.specs.Effects.Worlds.{Reply, goes, stops, stopped_by, violating, Ended, Violated}
use Rattle.lower_templates.specs.Worklist.Acts.{act}
use Rattle.lower_templates.specs.Views.ProgramViews.{flow_view}
use Rattle.semantics.specs.CfgMachine.FlowStates.{ProgramState, values_of}
use Rattle.semantics.specs.CfgMachine.FlowActs.{calling}
use Rattle.semantics.specs.CfgMachine.FlowSteps.{act_step}
use Rattle.store_sound.specs.Concretization.SeenLabels.{as_set}
use Rattle.store_sound.specs.Concretization.ValueMeaning.{Naming}
use Rattle.store_sound.specs.Concretization.Coverage.{state_of}
use Rattle.store_sound.specs.Programs.Premises.{HasPremises}
use Rattle.transfer_sound.specs.Values.SoundSteps.{IsReached}
use Rattle.transfer_sound.proofs.values.NearScalars.{IsNearNumber}
use Rattle.transfer_sound.proofs.values.BinarySteps.{met_one}
use Rattle.struct_copies_sound.proofs.Calls.{first_argument}
use Rattle.transfer_exact.specs.Values.SingleNumbers.{IsOne}
use Rattle.transfer_exact.specs.Values.ExactNumbers.{ExactLaws}
use Rattle.transfer_exact.specs.Values.SingleValues.{ExactNumber, ExactScalar}
use Rattle.transfer_exact.specs.Values.SingleRows.{ExactState}
use Rattle.transfer_exact.specs.Values.SingleSteps.{IsDefined, IsExact, StepIsExact}
use Rattle.transfer_exact.specs.Values.SingleLaws.{IsPlainFunction, IsPlainCall}
use Rattle.transfer_exact.proofs.values.Faults.{met_none}
use Rattle.transfer_exact.proofs.values.PutExact.{IsExactResult}
use Rattle.transfer_exact.proofs.values.Told.{stop_told, if_some_told, result_told}
use Rattle.transfer_exact.proofs.values.ValueSteps.{tells_number}
use Rattle.transfer_exact.proofs.values.Violated.{AreViolated, never, none_violated, one_there, behind_there}

-- ---- the number of an unsigned character

remainder_is : (z : ℤ) → int_rem_euclid z (pos 256) ≡ pos (unsigned_abs (int_rem_euclid z (pos 256)))
remainder_is (pos k) = refl
remainder_is (negsuc k) = refl

wrapped_is : (z : ℤ) (kind : IntType) → kind ≡ record { bytes = 1; signed = false; rank = 1 } → wrap_into kind z ≡ pos (bits_in 1 z)
wrapped_is z kind e = subst (λ k. wrap_into k z ≡ pos (bits_in 1 z)) (sym e)
    (let same : (z -ℤ pos 0) ≡ z = omega (arith, ints) in
    let a : (pos 0 +ℤ int_rem_euclid (z -ℤ pos 0) (pos 256)) ≡ int_rem_euclid (z -ℤ pos 0) (pos 256) = omega (arith, ints) in
    a ∙ (ap (λ y. int_rem_euclid y (pos 256)) same ∙ remainder_is z))

bits_near : (z : ℤ) → IsNearNumber (pos (bits_in 1 z))
bits_near (pos k) = record { from = omega (arith, ints); to = omega (arith, ints) }
bits_near (negsuc k) = record { from = omega (arith, ints); to = omega (arith, ints) }

-- ---- numbers of characters

inside_is : (z : ℤ) → lies_in (negsuc 0) (pos 255) z ≡ true → (negsuc 0 ≤ℤ z) × (z ≤ℤ pos 255)
inside_is z h = let p = and_parts (int_le (negsuc 0) z) (int_le z (pos 255)) h in (below (negsuc 0) z p.0, below z (pos 255) p.1)
  where
    below : (a b : ℤ) → int_le a b ≡ true → a ≤ℤ b
    below a b h = grind (arith, ints)

no_character : (z : ℤ) → is_no_character (Some (z, z)) ≡ not (lies_in (negsuc 0) (pos 255) z)
no_character z = grind (arith, ints)

same_self : (z : ℤ) → int_eq z z ≡ true
same_self z = grind (arith, ints)

saturate_is : (x : ℤ) → negsuc 999 ≤ℤ x → x ≤ℤ pos 999 → saturate_signed w128 x ≡ x
saturate_is (pos k) h g = omega (arith, ints)
saturate_is (negsuc k) h g = omega (arith, ints)

character_violated : (b : Bool) (rules : List Rule) → (b ≡ true → Contains rules Chrsgnext) → AreViolated (record no_violations { chrsgnext = b }) rules
character_violated b rules h Chrsgnext e = h e
character_violated b rules h r e = never e

module _ {I : Type 0} {l : LatticeOf I} {n : IntegersOf I} {gamma : I → ℤ → Type 0} (q : BoundLaws l n gamma) where
  one_between : (a z : ℤ) → a ≡ z → IsOne n (between_or_least l n a a) z
  one_between a z e = let f : int_le a a ≡ true = grind (arith, ints) in rw f (q.between_bounds a a (omega (arith, ints)) ∙ ap (λ y. Some (y, y)) e)

  one_truth : (b : Bool) → IsOne n (cond b (n.one (pos 1)) (n.one (pos 0))) (cond b (pos 1) (pos 0))
  one_truth true = q.one_bounds (pos 1)
  one_truth false = q.one_bounds (pos 0)

  tested_one : (function : LibFn) (z : ℤ) → IsOne n (characters.tested_number l n function z z) (cond (has_class function z) (pos 1) (pos 0))
  tested_one function z = let e = same_self z in rw e (one_truth (has_class function z))

  turned : (b : Bool) (x y : I) (c d : ℤ) → (b ≡ true → IsOne n x c) → IsOne n y d → IsOne n (cond b x y) (cond b c d)
  turned true x y c d f g = f refl
  turned false x y c d f g = g

  raised_one : (z : ℤ) → negsuc 0 ≤ℤ z → z ≤ℤ pos 255 → IsOne n (characters.raised l n z z) (cond (is_lower z) (z -ℤ pos 32) z)
  raised_one z a b = let e = same_self z in rw e (turned (is_lower z) _ _ (z -ℤ pos 32) z (λ h. one_between (characters.difference_of z (pos 32)) (z -ℤ pos 32) (saturate_is (z -ℤ pos 32) (omega (arith, ints)) (omega (arith, ints)))) (one_between z z refl))

  lowered_one : (z : ℤ) → negsuc 0 ≤ℤ z → z ≤ℤ pos 255 → IsOne n (characters.lowered l n z z) (cond (is_upper z) (z +ℤ pos 32) z)
  lowered_one z a b = let e = same_self z in rw e (turned (is_upper z) _ _ (z +ℤ pos 32) z (λ h. one_between (characters.sum_of z (pos 32)) (z +ℤ pos 32) (saturate_is (z +ℤ pos 32) (omega (arith, ints)) (omega (arith, ints)))) (one_between z z refl))

letter_near : (b : Bool) (c d : ℤ) → negsuc 999 ≤ℤ c → c ≤ℤ pos 999 → negsuc 999 ≤ℤ d → d ≤ℤ pos 999 → IsNearNumber (cond b c d)
letter_near true c d p k g h = record { from = omega (arith, ints); to = omega (arith, ints) }
letter_near false c d p k g h = record { from = omega (arith, ints); to = omega (arith, ints) }

truth_near : (b : Bool) → IsNearNumber (cond b (pos 1) (pos 0))
truth_near true = record { from = omega (arith, ints); to = omega (arith, ints) }
truth_near false = record { from = omega (arith, ints); to = omega (arith, ints) }

module _ {I : Type 0} {l : LatticeOf I} {n : IntegersOf I} {gamma : I → ℤ → Type 0} (q : BoundLaws l n gamma) (x : ExactLaws n) (flow : Flow) (p : HasPremises flow) (naming : Naming) (row : List (Cell I)) (s : ProgramState) (r : IsReached l n gamma flow naming row s) (t : ExactState l n flow row (state_of s)) where
  module _ (to : Option ℕ) (has : has_result (names_of flow) to ≡ true) (newest : Option ℕ) where
    -- what a plan makes of the row is told
    abbrev GoodPlan : Plan I → Reply (Option Scalar) → Type 0
    GoodPlan plan reply = IsDefined (calling s to reply) → IsExact l n flow (apply l n flow to newest plan.effect row) plan.violations (calling s to reply)

    gives : (told : Violations) (to : Option ℕ) → has_result (names_of flow) to ≡ true → (v : Value I) (c : Scalar) → IsExactResult q flow p s.bases s.world.memory v c → AreViolated told s.world.violated → IsDefined (calling s to (goes (Some c) s.world)) → IsExact l n flow (Some (put_result flow to v row)) told (calling s to (goes (Some c) s.world))
    gives told None has v c result h d = absurd (d s.world refl)
    gives told (Some u) has v c result h d = result_told q flow p naming row s r t u (ltb-true u flow.temps has) v c s.world result refl (Some (put_result flow (Some u) v row)) told refl h

    plan_gives : (told : Violations) (v : Value I) (c : Scalar) → IsExactResult q flow p s.bases s.world.memory v c → AreViolated told s.world.violated → GoodPlan (record { violations = told; effect = effect.Result v }) (goes (Some c) s.world)
    unfolding apply
    plan_gives told v c result h d = gives told to has v c result h d

    plan_ends : GoodPlan (harmless effect.Unreached) (stops Ended s.world)
    unfolding apply
    plan_ends d = stop_told l n flow None no_violations Ended s.world refl (none_violated s.world.violated)

    plan_is : (plan other : Plan I) (reply : Reply (Option Scalar)) → plan ≡ other → GoodPlan other reply → GoodPlan plan reply
    plan_is plan other reply e h = subst (λ z. GoodPlan z reply) (sym e) h

    number_result : (y : I) (labels : SetLabels) (z : ℤ) (la : Labels) → IsOne n y z → labels ≡ as_set la → IsNearNumber z → IsExactResult q flow p s.bases s.world.memory (number_value l y labels) (integer z la)
    number_result y labels z la one same near = record { tells = tells_number l n s.bases s.world.memory y labels z la one same; near = near; within = tt }

    module _ (items : List ℕ) (wanted : Option ℕ) where
      abbrev first_value : Value I
      first_value = argument_value l n (call_of flow items wanted) row 0

      -- the first argument tells what it has
      first_tells : (v : Scalar) (vs : List Scalar) → values_of s.temps items ≡ Some (v ∷ vs) → ExactScalar n s.bases s.world.memory (argument_value l n (call_of flow items wanted) row 0) v
      unfolding argument_value
      first_tells v vs e =
          let a = first_argument s.temps items v vs e in
          subst (λ y. ExactScalar n s.bases s.world.memory (value_of_argument l n flow row y) v) (sym a.first) (t.temps a.temp v a.has)

      -- ---- `putchar`

      putchar_plan : (y : I) (z : ℤ) → IsOne n y z → putchar_of l n first_value y ≡ harmless (effect.Result (number_value l y first_value.labels))
      putchar_plan y z e = rw e refl

      putchar_good : (vs : List Scalar) → values_of s.temps items ≡ Some vs → GoodPlan (plan_putchar l n flow.model first_value) (with_result (putchar vs s.world))
      putchar_good [] e d = absurd (d s.world refl)
      putchar_good (pointer at ∷ vs) e d = absurd (d s.world refl)
      putchar_good (integer z la ∷ (v ∷ vs)) e d = absurd (d s.world refl)
      putchar_good (integer z la ∷ []) e d =
          let h = first_tells (integer z la) [] e in
          let y : I = n.convert first_value.num (kind_of flow.model Char false) in
          let one : IsOne n y (pos (bits_in 1 z)) = subst (IsOne n y) (wrapped_is z (kind_of flow.model Char false) refl) (x.convert (kind_of flow.model Char false) first_value.num z refl h.number) in
          plan_is (plan_putchar l n flow.model first_value) (harmless (effect.Result (number_value l y first_value.labels))) (goes (Some (integer (pos (bits_in 1 z)) la)) s.world) (putchar_plan y (pos (bits_in 1 z)) one)
          (plan_gives no_violations (number_value l y first_value.labels) (integer (pos (bits_in 1 z)) la)
          (number_result y first_value.labels (pos (bits_in 1 z)) la one h.labels_are (bits_near z)) (none_violated s.world.violated)) d

      -- ---- functions on characters

      abbrev told : Violations
      told = character_violations n first_value

      -- what is asked of a function: its answer for a number
      abbrev AnswersWell : LibFn → Type 0
      AnswersWell function = (z : ℤ) (la : Labels) → negsuc 0 ≤ℤ z → z ≤ℤ pos 255 → ExactNumber n s.bases s.world.memory first_value z la → IsExactResult q flow p s.bases s.world.memory (characters.answer l n function first_value z z) (machine.answer function z la)

      told_is : (z : ℤ) → IsOne n first_value.num z → (inside : Bool) → lies_in (negsuc 0) (pos 255) z ≡ inside → told ≡ record no_violations { chrsgnext = not inside }
      told_is z one inside e = ap (λ b. record no_violations { chrsgnext = b }) (ap is_no_character one ∙ (no_character z ∙ ap not e))

      by_range : (function : LibFn) → AnswersWell function → (z : ℤ) (la : Labels) → ExactNumber n s.bases s.world.memory first_value z la → (inside : Bool) → lies_in (negsuc 0) (pos 255) z ≡ inside
          → GoodPlan (plan_in l n function first_value (range_met (n.bounds first_value.num) (negsuc 0) (pos 255))) (with_result (cond (not inside) (stopped_by s.world Chrsgnext) (goes (machine.answer function z la) s.world)))
      unfolding apply
      by_range function well z la h true e =
          let w = inside_is z e in
          let range = ap (λ y. range_met y (negsuc 0) (pos 255)) h.number ∙ met_one z (negsuc 0) (pos 255) w.0 w.1 in
          plan_is (plan_in l n function first_value (range_met (n.bounds first_value.num) (negsuc 0) (pos 255))) (planned (trail_of told) (effect.Result (characters.answer l n function first_value z z))) (goes (Some (machine.answer function z la)) s.world) (ap (plan_in l n function first_value) range)
          (plan_gives told (characters.answer l n function first_value z z) (machine.answer function z la) (well z la w.0 w.1 h)
          (subst (λ v. AreViolated v s.world.violated) (sym (told_is z h.number true e)) (none_violated s.world.violated)))
      by_range function well z la h false e =
          let range = ap (λ y. range_met y (negsuc 0) (pos 255)) h.number ∙ met_none z (negsuc 0) (pos 255) e in
          plan_is (plan_in l n function first_value (range_met (n.bounds first_value.num) (negsuc 0) (pos 255))) (planned (trail_of told) effect.Unreached) (stops Violated (violating s.world (Chrsgnext ∷ []))) (ap (plan_in l n function first_value) range)
          (λ d. stop_told l n flow None told Violated (violating s.world (Chrsgnext ∷ [])) refl
          (subst (λ v. AreViolated v (s.world.violated ++ (Chrsgnext ∷ []))) (sym (told_is z h.number false e)) (character_violated true (s.world.violated ++ (Chrsgnext ∷ [])) (λ k. behind_there s.world.violated (Chrsgnext ∷ []) Chrsgnext (one_there Chrsgnext)))))

      characters_good : (function : LibFn) → AnswersWell function → (vs : List Scalar) → values_of s.temps items ≡ Some vs → GoodPlan (plan_character l n function first_value) (with_result (character_call function vs s.world))
      unfolding plan_character
      characters_good function well [] e d = absurd (d s.world refl)
      characters_good function well (pointer at ∷ vs) e d = absurd (d s.world refl)
      characters_good function well (integer z la ∷ (v ∷ vs)) e d = absurd (d s.world refl)
      characters_good function well (integer z la ∷ []) e d = by_range function well z la (first_tells (integer z la) [] e) (lies_in (negsuc 0) (pos 255) z) refl d

      -- a test
      test_well : (function : LibFn) (z : ℤ) (b : Bool) → b ≡ has_class function z → IsExactResult q flow p s.bases s.world.memory (number_value l (characters.tested_number l n function z z) sets.no_labels) (truth b)
      test_well function z b e = number_result (characters.tested_number l n function z z) sets.no_labels (cond b (pos 1) (pos 0)) no_labels (subst (λ y. IsOne n (characters.tested_number l n function z z) (cond y (pos 1) (pos 0))) (sym e) (tested_one q function z)) refl (truth_near b)

      by_name : (name : LibFn) → IsPlainFunction name → (vs : List Scalar) → values_of s.temps items ≡ Some vs → GoodPlan (plan_call l n name (call_of flow items wanted) row) (library flow.model wanted name vs s.world)
      unfolding plan_call
      by_name f.Putchar h vs e = putchar_good vs e
      by_name f.Exit h vs e = plan_ends
      by_name f.Abort h vs e = plan_ends
      by_name f.Isalpha h vs e = characters_good f.Isalpha (λ z la a b w. test_well f.Isalpha z (has_class f.Isalpha z) refl) vs e
      by_name f.Isdigit h vs e = characters_good f.Isdigit (λ z la a b w. test_well f.Isdigit z (has_class f.Isdigit z) refl) vs e
      by_name f.Isspace h vs e = characters_good f.Isspace (λ z la a b w. test_well f.Isspace z (has_class f.Isspace z) refl) vs e
      by_name f.Isupper h vs e = characters_good f.Isupper (λ z la a b w. test_well f.Isupper z (has_class f.Isupper z) refl) vs e
      by_name f.Islower h vs e = characters_good f.Islower (λ z la a b w. test_well f.Islower z (has_class f.Islower z) refl) vs e
      by_name f.Isalnum h vs e = characters_good f.Isalnum (λ z la a b w. test_well f.Isalnum z (has_class f.Isalnum z) refl) vs e
      by_name f.Toupper h vs e = characters_good f.Toupper (λ z la a b w. number_result (characters.raised l n z z) first_value.labels (cond (is_lower z) (z -ℤ pos 32) z) la (raised_one q z a b) w.labels_are (letter_near (is_lower z) (z -ℤ pos 32) z (omega (arith, ints)) (omega (arith, ints)) (omega (arith, ints)) (omega (arith, ints)))) vs e
      by_name f.Tolower h vs e = characters_good f.Tolower (λ z la a b w. number_result (characters.lowered l n z z) first_value.labels (cond (is_upper z) (z +ℤ pos 32) z) la (lowered_one q z a b) w.labels_are (letter_near (is_upper z) (z +ℤ pos 32) z (omega (arith, ints)) (omega (arith, ints)) (omega (arith, ints)) (omega (arith, ints)))) vs e
      by_name _ h vs e = absurd h

  library_told : (to : Option ℕ) (name : LibFn) (arguments : _) (newest size : Option ℕ) → IsPlainFunction name → fits_operation (names_of flow) (op.Library to name arguments newest size) ≡ true → IsDefined (act_step (flow_view flow) (act (op.Library to name arguments newest size)) s) → StepIsExact l n flow row (op.Library to name arguments newest size) s
  unfolding operate call_step operation_violations
  library_told to name arguments newest size is fits d =
      let has = (and_parts (has_result (names_of flow) to) (list_all (has_temp (names_of flow)) arguments.items && (is_site flow.bases.items newest && is_optional_extent size)) fits).0 in
      if_some_told l n flow _ _ s (values_of s.temps arguments.items) _ d (λ vs e d. by_name to has newest arguments.items size name is vs e d)

  pub call_told : (o : Operation) → IsPlainCall o → fits_operation (names_of flow) o ≡ true → IsDefined (act_step (flow_view flow) (act o) s) → StepIsExact l n flow row o s
  call_told (op.Library to name arguments newest size) is fits d = library_told to name arguments newest size is fits d
  call_told o is fits d = absurd is
