-- Calls that give a number for one that is no pointer, or end the program, are sound.
use Rattle.std.proofs.Common.{◌≡◌, ℕ, ◌-◌, ◌^◌, ◌≤◌, Bool, true, false, cond, not, ◌&&◌, Option, Some, None, List, [], ◌∷◌, arith, subst, sym, refl, ap, ◌∙◌, inl, inr}
use Rattle.std.specs.Prelude.{slice_get, ℤ, pos, negsuc, neg_ℤ, ◌+ℤ◌, ◌-ℤ◌, ◌≤ℤ◌, unsigned_abs, is_none}
use Rattle.std.specs.Int.{int_rem_euclid}
use Rattle.std.specs.List.{list_all}
use Rattle.std.proofs.lemmas.Int.{ints}
use Rattle.std.proofs.lemmas.Bool.{cases_Bool, and_parts}
use Rattle.cc_base.specs.Lattices.{LatticeOf, OrderLaws}
use Rattle.cc_base.specs.IntegerDomains.{IntegersOf, BoundLaws, between_or_least}
use Rattle.cc_base.specs.IntegerLaws.{SoundLaws}
use Rattle.cc_base.specs.IntegerTypes.{wrap_into}
use Rattle.cc_base.specs.NumberRanges.{Range, range_met}
use Rattle.cc_base.specs.declared.int_types.IntType.{IntType}
use Rattle.cc_base.specs.declared.diagnostics.Rule.TheVariants.{Chrsgnext}
use Rattle.c_layout.specs.declared.leaf_lists.Class.TheVariants.{Char}
use Rattle.c_layout.specs.declared.library_functions.LibFn.{LibFn}
use Rattle.c_layout.specs.declared.library_functions.LibFn.TheVariants as f
use Rattle.cfg.specs.WellFormed.{names_of, has_temp, has_result, is_site, is_optional_extent, fits_operation}
use Rattle.cfg.specs.declared.machine_instructions.Operation.{Operation}
use Rattle.cfg.specs.declared.machine_instructions.Operation.TheVariants as op
use Rattle.cfg.specs.declared.programs.Flow.{Flow}
use Rattle.value_domain.specs.Values.LabelSets.{labels_order}
use Rattle.value_domain.specs.Values.ValueTables.{number_value}
use Rattle.value_domain.specs.Values.LabelSets as sets
use Rattle.value_domain.specs.declared.values.values.Value.{Value}
use Rattle.value_domain.specs.declared.values.row_cells.Cell.{Cell}
use Rattle.store_cells.specs.ScalarTypes.{kind_of}
use Rattle.transfer_checks.specs.IntegerChecks.{character_violations, is_no_character}
use Rattle.transfer_checks.specs.Temporaries.{temp_value}
use Rattle.transfer_checks.specs.ViolationSets.{no_violations, violates}
use Rattle.transfer_checks.specs.declared.violation_sets.Violations.{Violations}
use Rattle.transfer_library_plans.specs.Arguments.{argument_value, value_of_argument}
use Rattle.transfer_library_plans.specs.Calls.{Call}
use Rattle.transfer_library_plans.specs.Characters as characters
use Rattle.transfer_library_plans.specs.Characters.{plan_character, plan_in}
use Rattle.transfer_library.specs.Effects.{apply}
use Rattle.transfer_library_plans.specs.Outputs.{putchar_of, plan_getchar, plan_putchar}
use Rattle.transfer_library.specs.Planning.{plan_call}
use Rattle.transfer_library_plans.specs.Plans.{planned, trail_of, harmless}
use Rattle.transfer_library_plans.specs.declared.call_plans.Effect.TheVariants as effect
use Rattle.transfer_library_plans.specs.declared.call_plans.Plan.{Plan}
use Rattle.transfer_sound.specs.CallSteps.{call_of, call_step}
use Rattle.transfer_sound.specs.StepViolations.{operation_violations}
use Rattle.transfer_sound.specs.Steps.{operate}
use Rattle.memory_model.specs.Memory.Labels.{Labels, input_labels, no_labels}
use Rattle.memory_model.specs.Memory.Scalars.{Scalar, integer, pointer}
use Rattle.memory_model.specs.Effects.CharacterCalls as machine
use Rattle.c_layout.specs.CharacterClasses.{lies_in, is_lower, is_upper, has_class}
use Rattle.memory_model.specs.Effects.IntegerEffects.{truth}
use Rattle.memory_model.specs.Effects.LibraryCalls.{int_type, with_result, getchar, putchar, character_call, library}
use Rattle.memory_model.specs.Effects.ScalarBytes.{bits_in}
use Rattle.memory_model.specs.Effects.Worlds.{World, Reply, goes, stops, behind, stopped_by, drawn, Ended, Stuck, OutOfDraws, Violated}
use Rattle.semantics.specs.CfgMachine.FlowStates.{ProgramState, values_of}
use Rattle.semantics.specs.CfgMachine.FlowActs.{calling}
use Rattle.store_sound.specs.Concretization.SeenLabels.{as_set}
use Rattle.store_sound.specs.Concretization.ValueMeaning.{Naming, InGammaScalar}
use Rattle.store_sound.specs.Programs.Premises.{HasPremises}
use Rattle.transfer_sound.specs.Values.SoundSteps.{IsReached, IsStoodFor, StepIsSound}
use Rattle.transfer_sound.proofs.values.Admitted.{AreAdmitted, one_admitted, both_admitted}
use Rattle.transfer_sound.proofs.values.NearScalars.{IsNearNumber}
use Rattle.transfer_sound.proofs.values.PutTemps.{IsResult}
use Rattle.transfer_sound.proofs.values.Replies.{if_some_good}
use Rattle.domain_theorems.proofs.values.Numbers.{RangeHas, bounds_have}
use Rattle.library_sound.specs.Calls.ResultCalls.{GivesNumber, IsResultCall}
use Rattle.library_sound.proofs.calls.Calls.{HasFirst, first_argument, DrawnEnd, gave, ran_out, drawn_end, clean, GoodPlan, plan_stops, plan_gives, plan_is, number_result}
use Rattle.library_sound.proofs.calls.CharacterNumbers.{number_between, tested, raised, lowered, outside_told, inside_is, IsMet, met_is}

-- ---- the number of an unsigned character

remainder_is : (z : ℤ) → int_rem_euclid z (pos 256) ≡ pos (unsigned_abs (int_rem_euclid z (pos 256)))
remainder_is (pos k) = refl
remainder_is (negsuc k) = refl

wrapped_is : (z : ℤ) (kind : IntType) → kind ≡ record { bytes = 1; signed = false; rank = 1 } → wrap_into kind z ≡ pos (bits_in 1 z)
wrapped_is z kind e = subst (λ k. wrap_into k z ≡ pos (bits_in 1 z)) (sym e)
    (let same : (z -ℤ pos 0) ≡ z = omega (arith, ints) in
    let a : (pos 0 +ℤ int_rem_euclid (z -ℤ pos 0) (pos 256)) ≡ int_rem_euclid (z -ℤ pos 0) (pos 256) = omega (arith, ints) in
    a ∙ (ap (λ y. int_rem_euclid y (pos 256)) same ∙ remainder_is z))

bits_small : (z : ℤ) → unsigned_abs (int_rem_euclid z (pos 256)) ≤ 256
bits_small (pos k) = omega arith
bits_small (negsuc k) = omega arith

truth_near : (b : Bool) → IsNearNumber (cond b (pos 1) (pos 0))
truth_near true = record { from = omega (arith, ints); to = omega (arith, ints) }
truth_near false = record { from = omega (arith, ints); to = omega (arith, ints) }

letter_near : (b : Bool) (c d : ℤ) → negsuc 999 ≤ℤ c → c ≤ℤ pos 999 → negsuc 999 ≤ℤ d → d ≤ℤ pos 999 → IsNearNumber (cond b c d)
letter_near true c d p k g h = record { from = omega (arith, ints); to = omega (arith, ints) }
letter_near false c d p k g h = record { from = omega (arith, ints); to = omega (arith, ints) }

module _ {I : Type 0} {l : LatticeOf I} {n : IntegersOf I} {gamma : I → ℤ → Type 0} (o : OrderLaws l) (q : BoundLaws l n gamma) (c : SoundLaws l n gamma) (flow : Flow) (p : HasPremises flow) (naming : Naming) (row : List (Cell I)) (s : ProgramState) (r : IsReached l n gamma flow naming row s) (to : Option ℕ) (has : has_result (names_of flow) to ≡ true) (newest : Option ℕ) where
  -- ---- `getchar`

  getchar_good : DrawnEnd s.world (negsuc 0) (pos 255) (drawn s.world (negsuc 0) (pos 255)) → GoodPlan q flow p naming row s r to has newest (plan_getchar l n flow.model) (with_result (getchar flow.model s.world))
  getchar_good (gave z draws lo hi e) = subst (λ y. GoodPlan q flow p naming row s r to has newest (plan_getchar l n flow.model) (with_result (behind y (λ c w. goes (integer c (input_labels (int_type flow.model))) w)))) (sym e)
      (plan_gives q flow p naming row s r to has newest no_violations _ (integer z (input_labels (int_type flow.model))) (record (s.world) { draws = draws })
      (number_result q flow p naming row s r to has newest (between_or_least l n (negsuc 0) (pos 255)) _ z (input_labels (int_type flow.model)) (number_between o q (negsuc 0) (pos 255) z lo hi) refl (record { from = omega (arith, ints); to = omega (arith, ints) }))
      refl (clean q flow p naming row s r no_violations))
  getchar_good (ran_out draws e) = subst (λ y. GoodPlan q flow p naming row s r to has newest (plan_getchar l n flow.model) (with_result (behind y (λ c w. goes (integer c (input_labels (int_type flow.model))) w)))) (sym e)
      (plan_stops q flow p naming row s r to has newest (plan_getchar l n flow.model) OutOfDraws (record (s.world) { draws = draws }) (clean q flow p naming row s r no_violations))

  module _ (items : List ℕ) (wanted : Option ℕ) where
    abbrev the_call : Call
    the_call = call_of flow items wanted

    abbrev first_value : Value I
    first_value = argument_value l n the_call row 0

    -- the first argument stands for what it has
    first_stands : (v : Scalar) (vs : List Scalar) → values_of s.temps items ≡ Some (v ∷ vs) → InGammaScalar gamma naming s.world.memory (argument_value l n (call_of flow items wanted) row 0) v
    unfolding argument_value
    first_stands v vs e =
        let a = first_argument s.temps items v vs e in
        subst (λ y. InGammaScalar gamma naming s.world.memory (value_of_argument l n flow row y) v) (sym a.first) (r.stands_for.temps a.temp v a.has)

    -- ---- `putchar`

    putchar_plan : (x : I) (z : ℤ) → gamma x z → putchar_of l n first_value x ≡ harmless (effect.Result (number_value l x first_value.labels))
    putchar_plan x z h = let i = q.inside x z h in rw i.2 refl

    putchar_good : (vs : List Scalar) → values_of s.temps items ≡ Some vs → GoodPlan q flow p naming row s r to has newest (plan_putchar l n flow.model first_value) (with_result (putchar vs s.world))
    putchar_good [] e = plan_stops q flow p naming row s r to has newest (plan_putchar l n flow.model first_value) Stuck s.world (clean q flow p naming row s r _)
    putchar_good (pointer at ∷ vs) e = plan_stops q flow p naming row s r to has newest (plan_putchar l n flow.model first_value) Stuck s.world (clean q flow p naming row s r _)
    putchar_good (integer z la ∷ (v ∷ vs)) e = plan_stops q flow p naming row s r to has newest (plan_putchar l n flow.model first_value) Stuck s.world (clean q flow p naming row s r _)
    putchar_good (integer z la ∷ []) e =
        let h = first_stands (integer z la) [] e in
        let x : I = n.convert first_value.num (kind_of flow.model Char false) in
        let st : gamma x (pos (bits_in 1 z)) = subst (gamma x) (wrapped_is z (kind_of flow.model Char false) refl) (c.convert_stands (kind_of flow.model Char false) first_value.num z refl h.0) in
        let small = bits_small z in
        plan_is q flow p naming row s r to has newest (plan_putchar l n flow.model first_value) (harmless (effect.Result (number_value l x first_value.labels))) (goes (Some (integer (pos (bits_in 1 z)) la)) s.world) (putchar_plan x (pos (bits_in 1 z)) st)
        (plan_gives q flow p naming row s r to has newest no_violations (number_value l x first_value.labels) (integer (pos (bits_in 1 z)) la) s.world
        (number_result q flow p naming row s r to has newest x first_value.labels (pos (bits_in 1 z)) la st h.1 (record { from = omega (arith, ints); to = omega (arith, ints) }))
        refl (clean q flow p naming row s r no_violations))

    -- ---- functions on characters

    abbrev told : Violations
    told = character_violations n first_value

    -- what is asked of a function: its answer for one of the numbers of a range
    abbrev AnswersWell : LibFn → Type 0
    AnswersWell function = (lo hi z : ℤ) (la : Labels) → negsuc 0 ≤ℤ lo → hi ≤ℤ pos 255 → lo ≤ℤ z → z ≤ℤ hi → InGammaScalar gamma naming s.world.memory first_value (integer z la) → IsResult q flow p naming s.world.memory (characters.answer l n function first_value lo hi) (machine.answer function z la)

    abbrev reply_for : LibFn → ℤ → Labels → Reply (Option Scalar)
    reply_for function z la = with_result (machine.on_character function z la s.world)

    character_met : (function : LibFn) (well : AnswersWell function) (z : ℤ) (la : Labels) → InGammaScalar gamma naming s.world.memory first_value (integer z la) → (negsuc 0 ≤ℤ z) → (z ≤ℤ pos 255) → (m : IsMet (n.bounds first_value.num) z) → GoodPlan q flow p naming row s r to has newest (plan_in l n function first_value (range_met (n.bounds first_value.num) (negsuc 0) (pos 255))) (goes (Some (machine.answer function z la)) s.world)
    character_met function well z la h a b m =
        plan_is q flow p naming row s r to has newest (plan_in l n function first_value (range_met (n.bounds first_value.num) (negsuc 0) (pos 255))) (planned (trail_of told) (effect.Result (characters.answer l n function first_value m.lo m.hi))) (goes (Some (machine.answer function z la)) s.world) (ap (plan_in l n function first_value) m.is)
        (plan_gives q flow p naming row s r to has newest told (characters.answer l n function first_value m.lo m.hi) (machine.answer function z la) s.world (well m.lo m.hi z la m.first m.last m.above m.below h) refl (clean q flow p naming row s r told))

    plan_told : (function : LibFn) (range : Range) → (plan_in l n function first_value range).violations ≡ told
    plan_told function None = refl
    plan_told function (Some t) = refl

    character_good : (function : LibFn) (well : AnswersWell function) (z : ℤ) (la : Labels) → InGammaScalar gamma naming s.world.memory first_value (integer z la) → GoodPlan q flow p naming row s r to has newest (plan_character l n function first_value) (reply_for function z la)
    unfolding plan_character
    character_good function well z la h = elim (cases_Bool (lies_in (negsuc 0) (pos 255) z)) [
      | inl e ↦ (let w = inside_is z e in
          let is : reply_for function z la ≡ goes (Some (machine.answer function z la)) s.world = rw e refl in
          subst (GoodPlan q flow p naming row s r to has newest (plan_in l n function first_value (range_met (n.bounds first_value.num) (negsuc 0) (pos 255)))) (sym is)
          (character_met function well z la h w.0 w.1 (met_is (n.bounds first_value.num) z (bounds_have q first_value.num z h.0) w.0 w.1)))
      | inr e ↦ (let is : reply_for function z la ≡ stopped_by s.world Chrsgnext = rw e refl in
          let plan : Plan I = plan_in l n function first_value (range_met (n.bounds first_value.num) (negsuc 0) (pos 255)) in
          let admits : violates plan.violations Chrsgnext ≡ true = ap (λ v. violates v Chrsgnext) (plan_told function (range_met (n.bounds first_value.num) (negsuc 0) (pos 255))) ∙ outside_told (n.bounds first_value.num) z (bounds_have q first_value.num z h.0) e in
          subst (GoodPlan q flow p naming row s r to has newest plan) (sym is)
          (plan_stops q flow p naming row s r to has newest plan Violated _ (both_admitted plan.violations s.world.violated _ (clean q flow p naming row s r plan.violations) (one_admitted plan.violations Chrsgnext admits))))
    ]

    characters_good : (function : LibFn) (well : AnswersWell function) (vs : List Scalar) → values_of s.temps items ≡ Some vs → GoodPlan q flow p naming row s r to has newest (plan_character l n function first_value) (with_result (character_call function vs s.world))
    characters_good function well [] e = plan_stops q flow p naming row s r to has newest (plan_character l n function first_value) Stuck s.world (clean q flow p naming row s r _)
    characters_good function well (pointer at ∷ vs) e = plan_stops q flow p naming row s r to has newest (plan_character l n function first_value) Stuck s.world (clean q flow p naming row s r _)
    characters_good function well (integer z la ∷ (v ∷ vs)) e = plan_stops q flow p naming row s r to has newest (plan_character l n function first_value) Stuck s.world (clean q flow p naming row s r _)
    characters_good function well (integer z la ∷ []) e = character_good function well z la (first_stands (integer z la) [] e)

    -- a test
    test_well : (function : LibFn) (lo hi z : ℤ) (b : Bool) → b ≡ has_class function z → lo ≤ℤ z → z ≤ℤ hi → IsResult q flow p naming s.world.memory (number_value l (characters.tested_number l n function lo hi) sets.no_labels) (truth b)
    test_well function lo hi z b e h k = number_result q flow p naming row s r to has newest (characters.tested_number l n function lo hi) sets.no_labels (cond b (pos 1) (pos 0)) no_labels (subst (λ y. gamma (characters.tested_number l n function lo hi) (cond y (pos 1) (pos 0))) (sym e) (tested o q function lo hi z h k)) refl (truth_near b)

    by_name : (name : LibFn) → GivesNumber name → (vs : List Scalar) → values_of s.temps items ≡ Some vs → GoodPlan q flow p naming row s r to has newest (plan_call l n name (call_of flow items wanted) row) (library flow.model wanted name vs s.world)
    unfolding plan_call
    by_name f.Getchar h vs e = getchar_good (drawn_end s.world (negsuc 0) (pos 255))
    by_name f.Putchar h vs e = putchar_good vs e
    by_name f.Exit h vs e = plan_stops q flow p naming row s r to has newest (harmless effect.Unreached) Ended s.world (clean q flow p naming row s r no_violations)
    by_name f.Abort h vs e = plan_stops q flow p naming row s r to has newest (harmless effect.Unreached) Ended s.world (clean q flow p naming row s r no_violations)
    by_name f.Isalpha h vs e = characters_good f.Isalpha (λ lo hi z la a b g k w. test_well f.Isalpha lo hi z (has_class f.Isalpha z) refl g k) vs e
    by_name f.Isdigit h vs e = characters_good f.Isdigit (λ lo hi z la a b g k w. test_well f.Isdigit lo hi z (has_class f.Isdigit z) refl g k) vs e
    by_name f.Isspace h vs e = characters_good f.Isspace (λ lo hi z la a b g k w. test_well f.Isspace lo hi z (has_class f.Isspace z) refl g k) vs e
    by_name f.Isupper h vs e = characters_good f.Isupper (λ lo hi z la a b g k w. test_well f.Isupper lo hi z (has_class f.Isupper z) refl g k) vs e
    by_name f.Islower h vs e = characters_good f.Islower (λ lo hi z la a b g k w. test_well f.Islower lo hi z (has_class f.Islower z) refl g k) vs e
    by_name f.Isalnum h vs e = characters_good f.Isalnum (λ lo hi z la a b g k w. test_well f.Isalnum lo hi z (has_class f.Isalnum z) refl g k) vs e
    by_name f.Toupper h vs e = characters_good f.Toupper (λ lo hi z la a b g k w. number_result q flow p naming row s r to has newest (characters.raised l n lo hi) first_value.labels (cond (is_lower z) (z -ℤ pos 32) z) la (raised o q lo hi z a b g k) w.1 (letter_near (is_lower z) (z -ℤ pos 32) z (omega (arith, ints)) (omega (arith, ints)) (omega (arith, ints)) (omega (arith, ints)))) vs e
    by_name f.Tolower h vs e = characters_good f.Tolower (λ lo hi z la a b g k w. number_result q flow p naming row s r to has newest (characters.lowered l n lo hi) first_value.labels (cond (is_upper z) (z +ℤ pos 32) z) la (lowered o q lo hi z a b g k) w.1 (letter_near (is_upper z) (z +ℤ pos 32) z (omega (arith, ints)) (omega (arith, ints)) (omega (arith, ints)) (omega (arith, ints)))) vs e
    by_name _ h vs e = absurd h

module _ {I : Type 0} {l : LatticeOf I} {n : IntegersOf I} {gamma : I → ℤ → Type 0} (o : OrderLaws l) (q : BoundLaws l n gamma) (c : SoundLaws l n gamma) (flow : Flow) (p : HasPremises flow) (naming : Naming) (row : List (Cell I)) (s : ProgramState) (r : IsReached l n gamma flow naming row s) where
  pub result_call_sound : (to : Option ℕ) (name : LibFn) (arguments : _) (newest size : Option ℕ) → GivesNumber name → fits_operation (names_of flow) (op.Library to name arguments newest size) ≡ true → StepIsSound l n gamma flow row (op.Library to name arguments newest size) s
  unfolding operate call_step operation_violations
  result_call_sound to name arguments newest size is fits =
      let has = (and_parts (has_result (names_of flow) to) (list_all (has_temp (names_of flow)) arguments.items && (is_site flow.bases.items newest && is_optional_extent size)) fits).0 in
      if_some_good l n gamma flow _ _ s r.begun (values_of s.temps arguments.items) _ (λ vs e. by_name o q c flow p naming row s r to has newest arguments.items size name is vs e)

  pub result_step_sound : (i : Operation) → IsResultCall i → fits_operation (names_of flow) i ≡ true → StepIsSound l n gamma flow row i s
  result_step_sound (op.Library to name arguments newest size) is fits = result_call_sound to name arguments newest size is fits
  result_step_sound i is fits = absurd is
