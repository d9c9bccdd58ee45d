-- Differences and relations of pointers are told.
use Rattle.std.proofs.Common.{◌≡◌, ℕ, ◌<◌, Bool, true, false, cond, not, ◌||◌, ◌&&◌, Option, Some, None, List, length, arith, subst, sym, refl, ap, ap₂, ◌∙◌, inl, inr}
use Rattle.std.specs.Prelude.{ℤ, pos, ◌+ℤ◌, ◌-ℤ◌, int_div, int_le, ◌==◌, nat_lt}
use Rattle.std.specs.Ordering.{int_eq}
use Rattle.std.proofs.lemmas.Int.{ints}
use Rattle.std.proofs.lemmas.Bool.{cases_eq, and_parts, and_from, eq-eqb, ne_eqb, ltb-true, true≢false}
use Rattle.std.proofs.lemmas.Bool.Decides.{Decides-int_eq}
use Rattle.std.proofs.Math.Bool.{or-true, and-false}
use Rattle.cc_base.specs.Lattices.{LatticeOf}
use Rattle.cc_base.specs.IntegerTypes.{least_of, greatest_of}
use Rattle.cc_base.specs.IntegerDomains.{IntegersOf, BoundLaws, of_range}
use Rattle.cc_base.specs.MachineArithmetic.{holds}
use Rattle.cc_base.specs.NumberRanges.{range_sum, range_difference, range_over, range_met, ranges_meet, ranges_same_one}
use Rattle.cc_base.specs.Truths.{tri_of}
use Rattle.cc_base.specs.declared.diagnostics.Rule.TheVariants as rule
use Rattle.cc_base.specs.declared.integer_operators.Rel.{Rel}
use Rattle.cc_base.specs.declared.integer_operators.Rel.TheVariants.{Lt, Le, Gt, Ge, Eq, Ne}
use Rattle.cc_base.specs.declared.integer_operators.Tri.{Tri}
use Rattle.cc_base.specs.declared.integer_operators.Tri.TheVariants.{Never}
use Rattle.c_layout.specs.declared.leaf_lists.Class.TheVariants as class
use Rattle.c_layout.specs.declared.shapes.BaseKind.{BaseKind}
use Rattle.c_layout.specs.declared.shapes.BaseKind.TheVariants.{Static, Automatic, Literal, Newest, Older}
use Rattle.cfg.specs.BaseShapes.{is_extent}
use Rattle.cfg.specs.WellFormed.{names_of, has_temp, fits_operation}
use Rattle.cfg.specs.declared.machine_instructions.Operation.TheVariants as op
use Rattle.cfg.specs.declared.programs.Flow.{Flow}
use Rattle.pointer_domain.specs.BaseFacts.{within_has}
use Rattle.pointer_domain.specs.BaseLattice.{bases_order}
use Rattle.pointer_domain.specs.BaseSets.{no_base, bases_empty, bases_within, bases_count, bases_meet}
use Rattle.pointer_domain.specs.PointerTables.{is_any, same_one_base, pointers_equal, pointers_compare, offsets}
use Rattle.pointer_domain.specs.declared.base_sets.Bases.{Bases}
use Rattle.pointer_domain.specs.declared.pointer_sets.Pointers.{Pointers}
use Rattle.value_domain.specs.declared.values.row_cells.Cell.{Cell}
use Rattle.value_domain.specs.Values.LabelSets as set
use Rattle.value_domain.specs.Values.ValueTables.{truth_value}
use Rattle.domain_theorems.proofs.values.Bases.{empty_within}
use Rattle.store_objects.specs.LiveBases.{only_base, is_single_kind, single_bases}
use Rattle.store_cells.specs.ScalarTypes.{kind_of}
use Rattle.transfer_checks.specs.PointerChecks.{are_alike, check_same_instance}
use Rattle.transfer_checks.specs.Temporaries.{temp_value, put_temp}
use Rattle.transfer_checks.specs.declared.violation_sets.Violations.{Violations}
use Rattle.transfer_instructions.specs.Values.PointerSteps.{has_difference, difference_of, difference_between, difference_step, equality, ordered, relation, relation_step}
use Rattle.transfer_instructions.specs.Values.ResultTemps.{negated, put_number, put_truth}
use Rattle.transfer_instructions.specs.Instructions.Steps.{operate}
use Rattle.transfer_instructions.specs.Instructions.StepViolations.{relation_violations, operation_violations}
use Rattle.memory_model.specs.Memory.Labels.{no_labels}
use Rattle.memory_model.specs.Memory.Bytes.{MachinePointer, null, into}
use Rattle.memory_model.specs.Memory.Instances.{Life, live, ended, freed, bytes_at, life_at}
use Rattle.memory_model.specs.Memory.Scalars.{Scalar, integer, pointer}
use Rattle.memory_model.specs.Effects.IntegerEffects.{truth}
use Rattle.memory_model.specs.Effects.PointerEffects as effect
use Rattle.memory_model.specs.Effects.PointerEffects.{is_ended_life, is_ended, offset_of, share_instance, compared, elements_between, pointer_difference, are_equal, pointers_compared}
use Rattle.memory_model.specs.Effects.Touches.{is_allocated}
use Rattle.memory_model.specs.Effects.Worlds.{Reply, goes, unless, stopped_by}
use Rattle.lower_templates.specs.Worklist.Acts.{act}
use Rattle.lower_templates.specs.Views.ProgramViews.{flow_view}
use Rattle.semantics.specs.CfgMachine.FlowStates.{ProgramState}
use Rattle.semantics.specs.CfgMachine.FlowActs.{giving}
use Rattle.semantics.specs.CfgMachine.FlowSteps.{act_step}
use Rattle.store_sound.specs.Concretization.ValueMeaning.{Naming}
use Rattle.store_sound.specs.Concretization.SoundMemory.{IsWithin, IsPointerIn, storage_for}
use Rattle.store_sound.specs.Concretization.Coverage.{state_of}
use Rattle.store_sound.proofs.operations.Sets.{only_is, only_has}
use Rattle.store_sound.proofs.operations.Slices.{get_there}
use Rattle.store_sound.specs.Programs.Premises.{HasPremises}
use Rattle.transfer_sound.specs.Values.SoundSteps.{IsReached}
use Rattle.transfer_sound.proofs.values.ResultRows.{truth_near}
use Rattle.transfer_sound.proofs.values.BinarySteps.{met_one}
use Rattle.transfer_sound.proofs.values.ComparisonSteps.{quotient_within, IsWithinTop, distance_type}
use Rattle.transfer_exact.specs.Values.SingleNumbers.{IsOne}
use Rattle.transfer_exact.specs.Values.ExactNumbers.{truth_of, ExactLaws}
use Rattle.transfer_exact.specs.Values.SingleValues.{IsNowhere, IsIntoOne, ExactByLife, ExactPointer, ExactScalar}
use Rattle.transfer_exact.specs.Values.SingleRows.{ExactState, IsPlainProgram}
use Rattle.transfer_exact.specs.Values.SingleSteps.{IsDefined, IsExact, StepIsExact}
use Rattle.transfer_exact.proofs.values.Told.{if_some_told, pointer_told, result_told}
use Rattle.transfer_exact.proofs.values.ValueSteps.{negated_truth, tells_truth, truth_put, tells_number, number_put}
use Rattle.transfer_exact.proofs.values.Violated.{AreViolated, pointing, pointing_violated, never}
use Rattle.transfer_exact.proofs.places.OneBase.{not_empty}
use Rattle.transfer_exact.proofs.places.OneTouch.{one_range}
use Rattle.transfer_exact.proofs.pointers.Objects.{same_base}
use Rattle.transfer_exact.proofs.pointers.PointersExact.{rule_told}
use Rattle.transfer_exact.proofs.pointers.SoleBases.{sole_count, sole_meets, sole_within, single_has, sole_apart, sole_none}

single_kind : (kind : BaseKind) → is_allocated (storage_for kind) ≡ false → is_single_kind kind ≡ true
single_kind Static h = refl
single_kind Automatic h = refl
single_kind Literal h = refl
single_kind Newest h = refl
single_kind Older h = absurd (true≢false h)

none_is : (s : Bases) → bases_empty s ≡ true → s ≡ no_base
none_is s e = bases_order.antisymmetric s no_base (empty_within s no_base e) (bases_order.least_below s)

some_same : (z : ℤ) → int_eq z z ≡ true
some_same z = grind (arith, ints)

same_numbers : (a b : ℕ) → int_eq (pos a) (pos b) ≡ (a == b)
same_numbers a b = elim (cases_eq a b) [
  | inl e ↦ (Decides-int_eq (pos a) (pos b)).1 (ap pos e) ∙ sym (eq-eqb a b e)
  | inr ne ↦ by_test ne (int_eq (pos a) (pos b)) refl ∙ sym (ne_eqb a b ne)
]
  where
    same : (a b : ℕ) → pos a ≡ pos b → a ≡ b
    same a b k = omega (arith, ints, k)

    by_test : (a ≡ b → ⊥) → (x : Bool) → int_eq (pos a) (pos b) ≡ x → x ≡ false
    by_test ne true e = let f : pos a ≡ pos b = (Decides-int_eq (pos a) (pos b)).0 e in absurd (ne (same a b f))
    by_test ne false e = refl

ranges_met : (a b : ℕ) → ranges_meet (Some (pos a, pos a)) (Some (pos b, pos b)) ≡ (a == b)
ranges_met a b = both_ways (pos a) (pos b) ∙ same_numbers a b
  where
    both_ways : (a b : ℤ) → (int_le a b && int_le b a) ≡ int_eq a b
    both_ways a b = grind (arith, ints)

ranges_one : (a b : ℕ) → ranges_same_one (Some (pos a, pos a)) (Some (pos b, pos b)) ≡ (a == b)
ranges_one a b = ap₂ (λ x y. x && (y && int_eq (pos a) (pos b))) (some_same (pos a)) (some_same (pos b)) ∙ same_numbers a b

module _ {I : Type 0} {l : LatticeOf I} {n : IntegersOf I} {gamma : I → ℤ → Type 0} (q : BoundLaws l n gamma) (ex : ExactLaws n) (flow : Flow) (p : HasPremises flow) (plain : IsPlainProgram flow) (naming : Naming) (row : List (Cell I)) (s : ProgramState) (r : IsReached l n gamma flow naming row s) (t : ExactState l n flow row (state_of s)) where
  abbrev single : Bases
  single = single_bases flow.bases.items

  -- what a pointer is that is told
  data Known (x : Pointers I) (at : MachinePointer) : Type 0 where
    at_null : at ≡ null → IsNowhere x true false → Known x at
    at_ended : is_ended s.world.memory at ≡ true → IsNowhere x false true → Known x at
    at_object : (i offset lo hi : ℕ) → at ≡ into i offset lo hi → is_ended s.world.memory at ≡ false → IsIntoOne n s.bases x i offset lo hi → IsWithin s.world.memory i offset lo hi → Known x at

  by_life : (x : Pointers I) (i offset lo hi : ℕ) (life : Life) → life_at s.world.memory i ≡ life → ExactByLife n s.bases x life i offset lo hi → IsWithin s.world.memory i offset lo hi → Known x (into i offset lo hi)
  by_life x i offset lo hi live e h w = at_object i offset lo hi refl (ap is_ended_life e) h w
  by_life x i offset lo hi ended e h w = at_ended (ap is_ended_life e) h
  by_life x i offset lo hi freed e h w = absurd h

  known : (x : Pointers I) (at : MachinePointer) → ExactPointer n s.bases s.world.memory x at → IsPointerIn s.world.memory at → Known x at
  known x null h w = at_null refl h
  known x (into i offset lo hi) h w = by_life x i offset lo hi (life_at s.world.memory i) refl h w

  any_of : (x : Pointers I) (a b : Bool) → IsNowhere x a b → is_any x ≡ a
  any_of x a b h = ap₂ (λ e z. not e || z) h.bases h.null

  any_object : (x : Pointers I) (i offset lo hi : ℕ) → IsIntoOne n s.bases x i offset lo hi → is_any x ≡ true
  any_object x i offset lo hi h = ap (λ z. not z || x.null) (ap bases_empty h.bases ∙ not_empty h.base h.few)

  meet_left : (x y : Pointers I) (a b : Bool) → IsNowhere x a b → bases_meet x.bases y.bases ≡ false
  meet_left x y a b h = ap (λ z. bases_meet z y.bases) (none_is x.bases h.bases)

  offsets_are : (x : Pointers I) (i offset lo hi : ℕ) → IsIntoOne n s.bases x i offset lo hi → offsets n x ≡ Some (pos offset, pos offset)
  offsets_are x i offset lo hi h =
      let e : (pos lo +ℤ (pos offset -ℤ pos lo)) ≡ pos offset = omega (arith, ints) in
      ap₂ range_sum h.lower h.relative ∙ ap₂ (λ a b. Some (a, b)) e e

  in_single : (x : Pointers I) (i offset lo hi : ℕ) (h : IsIntoOne n s.bases x i offset lo hi) → bases_within (only_base h.base) single ≡ true
  in_single x i offset lo hi h =
      let named = r.stands_for.lives.named h.base i h.names in
      let base = get_there flow.bases.items h.base (r.stands_for.sane.few i h.base named) in
      let kind = single_kind base.0.kind ((p.shaped.each h.base base.0 base.1).kind ∙ plain.no_heap h.base base.0 base.1) in
      sole_within h.base h.few single (single_has flow.bases.items h.base base.0 base.1 kind h.few)

  module _ (x y : Pointers I) (pa pb : MachinePointer) where
    -- two that do not share an instance
    record Apart : Type 0 where
      alive : (is_ended s.world.memory pa || is_ended s.world.memory pb) ≡ false
      strange : share_instance pa pb ≡ false
      apart : bases_meet x.bases y.bases ≡ false
      both : (is_any x && is_any y) ≡ true
      unlike : are_alike x y single ≡ false
      ended : (x.ended || y.ended) ≡ false

    -- one has ended, or they do not share an instance, or both are into one object
    data Pair : Type 0 where
      some_ended : (is_ended s.world.memory pa || is_ended s.world.memory pb) ≡ true → bases_meet x.bases y.bases ≡ false → (is_any x && is_any y) ≡ false → Pair
      two : Apart → pointers_equal n x y single ≡ truth_of (are_equal pa pb) → Pair
      shared : (i o1 lo1 hi1 o2 lo2 hi2 : ℕ) → pa ≡ into i o1 lo1 hi1 → pb ≡ into i o2 lo2 hi2 → (is_ended s.world.memory pa || is_ended s.world.memory pb) ≡ false → IsIntoOne n s.bases x i o1 lo1 hi1 → IsIntoOne n s.bases y i o2 lo2 hi2 → IsWithin s.world.memory i o1 lo1 hi1 → IsWithin s.world.memory i o2 lo2 hi2
          → are_alike x y single ≡ true → bases_meet x.bases y.bases ≡ true → (x.ended || y.ended) ≡ false → pointers_equal n x y single ≡ truth_of (are_equal pa pb) → Pair

    abbrev must : Bool
    must = same_one_base x y single && (not (x.null || y.null) && ranges_same_one (offsets n x) (offsets n y))

    equal_parts : (a b c d m : Bool) → (is_any x && is_any y) ≡ true → (x.null && y.null) ≡ a → bases_meet x.bases y.bases ≡ b → ranges_meet (offsets n x) (offsets n y) ≡ c → ((bases_empty x.bases && x.null) && (bases_empty y.bases && y.null)) ≡ d → must ≡ m
        → pointers_equal n x y single ≡ tri_of (a || (b && c)) (not d && not m)
    equal_parts a b c d m any ea eb ec ed em = λ i. cond (any i) (tri_of (ea i || (eb i && ec i)) (not (ed i) && not (em i))) Never

    some_null : (x.null || y.null) ≡ true → must ≡ false
    some_null e = ap (λ z. same_one_base x y single && (not z && ranges_same_one (offsets n x) (offsets n y))) e ∙ and-false (same_one_base x y single)

    unlike_null : (x.null || y.null) ≡ true → are_alike x y single ≡ false
    unlike_null e = ap (λ z. same_one_base x y single && z) (de_morgan x.null y.null ∙ ap not e) ∙ and-false (same_one_base x y single)
      where
        de_morgan : (a b : Bool) → (not a && not b) ≡ not (a || b)
        de_morgan true b = refl
        de_morgan false b = refl

    module _ (hx : Known x pa) (hy : Known y pb) where
      -- both null
      nulls : pa ≡ null → pb ≡ null → IsNowhere x true false → IsNowhere y true false → Pair
      nulls ea eb h k = two
          (record {
            alive = ap₂ (λ a b. is_ended s.world.memory a || is_ended s.world.memory b) ea eb;
            strange = ap₂ share_instance ea eb;
            apart = meet_left x y true false h;
            both = ap₂ ◌&&◌ (any_of x true false h) (any_of y true false k);
            unlike = unlike_null (ap₂ ◌||◌ h.null k.null);
            ended = ap₂ ◌||◌ h.ended k.ended;
          })
          (equal_parts true false _ true false (ap₂ ◌&&◌ (any_of x true false h) (any_of y true false k)) (ap₂ ◌&&◌ h.null k.null) (meet_left x y true false h) refl (λ i. (h.bases i && h.null i) && (k.bases i && k.null i)) (some_null (ap₂ ◌||◌ h.null k.null))
          ∙ ap truth_of (sym (ap₂ are_equal ea eb)))

      null_left : (j o lo hi : ℕ) → pa ≡ null → pb ≡ into j o lo hi → is_ended s.world.memory pb ≡ false → IsNowhere x true false → IsIntoOne n s.bases y j o lo hi → Pair
      null_left j o lo hi ea eb alive h k =
          let some = ap bases_empty k.bases ∙ not_empty k.base k.few in
          two
          (record {
            alive = ap₂ ◌||◌ (ap (is_ended s.world.memory) ea) alive;
            strange = ap (λ z. share_instance z pb) ea;
            apart = meet_left x y true false h;
            both = ap₂ ◌&&◌ (any_of x true false h) (any_object y j o lo hi k);
            unlike = unlike_null (ap₂ ◌||◌ h.null k.null);
            ended = ap₂ ◌||◌ h.ended k.ended;
          })
          (equal_parts false false _ false false (ap₂ ◌&&◌ (any_of x true false h) (any_object y j o lo hi k)) (ap₂ ◌&&◌ h.null k.null) (meet_left x y true false h) refl (λ i. (h.bases i && h.null i) && (some i && k.null i)) (some_null (ap₂ ◌||◌ h.null k.null))
          ∙ ap truth_of (sym (ap₂ are_equal ea eb)))

      meet_right : (i o lo hi : ℕ) → IsIntoOne n s.bases x i o lo hi → (a b : Bool) → IsNowhere y a b → bases_meet x.bases y.bases ≡ false
      meet_right i o lo hi h a b k = ap₂ bases_meet h.bases (none_is y.bases k.bases) ∙ sole_none h.base h.few

      null_right : (i o lo hi : ℕ) → pa ≡ into i o lo hi → pb ≡ null → is_ended s.world.memory pa ≡ false → IsIntoOne n s.bases x i o lo hi → IsNowhere y true false → Pair
      null_right i o lo hi ea eb alive h k =
          let some = ap bases_empty h.bases ∙ not_empty h.base h.few in
          two
          (record {
            alive = ap₂ ◌||◌ alive (ap (is_ended s.world.memory) eb);
            strange = ap₂ share_instance ea eb;
            apart = meet_right i o lo hi h true false k;
            both = ap₂ ◌&&◌ (any_object x i o lo hi h) (any_of y true false k);
            unlike = unlike_null (ap₂ ◌||◌ h.null k.null);
            ended = ap₂ ◌||◌ h.ended k.ended;
          })
          (equal_parts false false _ false false (ap₂ ◌&&◌ (any_object x i o lo hi h) (any_of y true false k)) (ap₂ ◌&&◌ h.null k.null) (meet_right i o lo hi h true false k) refl (λ j. (some j && h.null j) && (k.bases j && k.null j)) (some_null (ap₂ ◌||◌ h.null k.null))
          ∙ ap truth_of (sym (ap₂ are_equal ea eb)))

      module _ (i o1 lo1 hi1 j o2 lo2 hi2 : ℕ) (ea : pa ≡ into i o1 lo1 hi1) (eb : pb ≡ into j o2 lo2 hi2) (a1 : is_ended s.world.memory pa ≡ false) (a2 : is_ended s.world.memory pb ≡ false) (h : IsIntoOne n s.bases x i o1 lo1 hi1) (k : IsIntoOne n s.bases y j o2 lo2 hi2) where
        any_both : (is_any x && is_any y) ≡ true
        any_both = ap₂ ◌&&◌ (any_object x i o1 lo1 hi1 h) (any_object y j o2 lo2 hi2 k)

        none_only : ((bases_empty x.bases && x.null) && (bases_empty y.bases && y.null)) ≡ false
        none_only = let some = ap bases_empty h.bases ∙ not_empty h.base h.few in ap (λ z. (z && x.null) && (bases_empty y.bases && y.null)) some

        none_ended : (x.ended || y.ended) ≡ false
        none_ended = ap₂ ◌||◌ h.ended k.ended

        met_is : ranges_meet (offsets n x) (offsets n y) ≡ (o1 == o2)
        met_is = ap₂ ranges_meet (offsets_are x i o1 lo1 hi1 h) (offsets_are y j o2 lo2 hi2 k) ∙ ranges_met o1 o2

        one_is : ranges_same_one (offsets n x) (offsets n y) ≡ (o1 == o2)
        one_is = ap₂ ranges_same_one (offsets_are x i o1 lo1 hi1 h) (offsets_are y j o2 lo2 hi2 k) ∙ ranges_one o1 o2

        unlike_bases : (h.base ≡ k.base → ⊥) → (v : Bool) → same_one_base x y single ≡ v → v ≡ false
        unlike_bases ne false e = refl
        unlike_bases ne true e =
            let a = and_parts (bases_count x.bases == 1) (bases_within x.bases y.bases && (bases_within y.bases x.bases && bases_within x.bases single)) e in
            let b = and_parts (bases_within x.bases y.bases) (bases_within y.bases x.bases && bases_within x.bases single) a.1 in
            let w : bases_within (only_base h.base) (only_base k.base) ≡ true = subst (λ z. bases_within (only_base h.base) z ≡ true) k.bases (subst (λ z. bases_within z y.bases ≡ true) h.bases b.0) in
            absurd (ne (only_is k.base h.base h.few (within_has (only_base h.base) (only_base k.base) h.base w (only_has h.base h.few))))

        two_objects : (i ≡ j → ⊥) → Pair
        two_objects ne =
            let apart_bases : h.base ≡ k.base → ⊥ = λ e. ne (same_some i j (sym h.names ∙ (ap s.bases e ∙ k.names))) in
            let apart = ap₂ bases_meet h.bases k.bases ∙ sole_apart h.base k.base h.few apart_bases in
            let one : same_one_base x y single ≡ false = unlike_bases apart_bases (same_one_base x y single) refl in
            let strange = ap₂ share_instance ea eb ∙ ne_eqb i j ne in
            two
            (record { alive = ap₂ ◌||◌ a1 a2; strange = strange; apart = apart; both = any_both; unlike = ap (λ z. z && (not x.null && not y.null)) one; ended = none_ended })
            (equal_parts false false _ false false any_both (ap₂ ◌&&◌ h.null k.null) apart refl none_only (ap (λ z. z && (not (x.null || y.null) && ranges_same_one (offsets n x) (offsets n y))) one)
            ∙ ap truth_of (sym (ap₂ are_equal ea eb ∙ ap (λ z. z && (o1 == o2)) (ne_eqb i j ne))))
          where
            same_some : (a b : ℕ) → Some a ≡ Some b → a ≡ b
            same_some a b e = cc

        one_object : i ≡ j → IsWithin s.world.memory i o1 lo1 hi1 → IsWithin s.world.memory j o2 lo2 hi2 → Pair
        one_object e w v =
            let b : h.base ≡ k.base = same_base flow p naming row s r h.base k.base i h.names (subst (λ z. s.bases k.base ≡ Some z) (sym e) k.names) in
            let sets : y.bases ≡ only_base h.base = k.bases ∙ ap only_base (sym b) in
            let within : bases_within (only_base h.base) (only_base h.base) ≡ true = bases_order.reflexive (only_base h.base) in
            let one : same_one_base x y single ≡ true = and_from _ _ (eq-eqb (bases_count x.bases) 1 (ap bases_count h.bases ∙ sole_count h.base h.few))
            (and_from _ _ (ap₂ bases_within h.bases sets ∙ within) (and_from _ _ (ap₂ bases_within sets h.bases ∙ within) (ap (λ z. bases_within z single) h.bases ∙ in_single x i o1 lo1 hi1 h))) in
            let meets = ap₂ bases_meet h.bases sets ∙ (sole_meets h.base h.few (only_base h.base) ∙ only_has h.base h.few) in
            let nulls = ap₂ ◌||◌ h.null k.null in
            let must_is : must ≡ (o1 == o2) = λ i. one i && (not (nulls i) && one_is i) in
            shared i o1 lo1 hi1 o2 lo2 hi2 ea (subst (λ z. pb ≡ into z o2 lo2 hi2) (sym e) eb) (ap₂ ◌||◌ a1 a2) h (subst (λ z. IsIntoOne n s.bases y z o2 lo2 hi2) (sym e) k) w (subst (λ z. IsWithin s.world.memory z o2 lo2 hi2) (sym e) v)
            (λ j. one j && (not (h.null j) && not (k.null j))) meets none_ended
            (equal_parts false true (o1 == o2) false (o1 == o2) any_both (ap₂ ◌&&◌ h.null k.null) meets met_is none_only must_is
            ∙ (tri_truth (o1 == o2) ∙ ap truth_of (sym (ap₂ are_equal ea eb ∙ ap (λ z. z && (o1 == o2)) (eq-eqb i j e)))))
          where
            tri_truth : (b : Bool) → tri_of b (not b) ≡ truth_of b
            tri_truth true = refl
            tri_truth false = refl

        objects : IsWithin s.world.memory i o1 lo1 hi1 → IsWithin s.world.memory j o2 lo2 hi2 → Pair
        objects w v = elim (cases_eq i j) [ inl e ↦ one_object e w v | inr ne ↦ two_objects ne ]

      left_ended : is_ended s.world.memory pa ≡ true → IsNowhere x false true → Pair
      left_ended e h = some_ended (ap (λ z. z || is_ended s.world.memory pb) e) (meet_left x y false true h) (ap (λ z. z && is_any y) (any_of x false true h))

      right_ended : is_ended s.world.memory pb ≡ true → bases_meet x.bases y.bases ≡ false → IsNowhere y false true → Pair
      right_ended e apart k = some_ended (ap (λ z. is_ended s.world.memory pa || z) e ∙ or-true (is_ended s.world.memory pa)) apart (ap (λ z. is_any x && z) (any_of y false true k) ∙ and-false (is_any x))

    pair_of : Known x pa → Known y pb → Pair
    pair_of (at_ended e h) hy = left_ended (at_ended e h) hy e h
    pair_of (at_null ea h) (at_null eb k) = nulls (at_null ea h) (at_null eb k) ea eb h k
    pair_of (at_null ea h) (at_ended e k) = right_ended (at_null ea h) (at_ended e k) e (meet_left x y true false h) k
    pair_of (at_null ea h) (at_object j o lo hi eb alive k v) = null_left (at_null ea h) (at_object j o lo hi eb alive k v) j o lo hi ea eb alive h k
    pair_of (at_object i o lo hi ea alive h w) (at_null eb k) = null_right (at_object i o lo hi ea alive h w) (at_null eb k) i o lo hi ea eb alive h k
    pair_of (at_object i o lo hi ea alive h w) (at_ended e k) = right_ended (at_object i o lo hi ea alive h w) (at_ended e k) e (meet_right (at_object i o lo hi ea alive h w) (at_ended e k) i o lo hi h false true k) k
    pair_of (at_object i o1 lo1 hi1 ea a1 h w) (at_object j o2 lo2 hi2 eb a2 k v) = objects (at_object i o1 lo1 hi1 ea a1 h w) (at_object j o2 lo2 hi2 eb a2 k v) i o1 lo1 hi1 j o2 lo2 hi2 ea eb a1 a2 h k w v

  -- ---- what comes of a pair

  module _ (to : ℕ) (few : to < flow.temps) (x y : Pointers I) (pa pb : MachinePointer) where
    abbrev pair_told : Violations
    pair_told = (check_same_instance x y single).violations

    -- two pointers into one object
    record Shared : Type 0 where
      i : ℕ
      o1 : ℕ
      lo1 : ℕ
      hi1 : ℕ
      o2 : ℕ
      lo2 : ℕ
      hi2 : ℕ
      left : pa ≡ into i o1 lo1 hi1
      right : pb ≡ into i o2 lo2 hi2
      h : IsIntoOne n s.bases x i o1 lo1 hi1
      k : IsIntoOne n s.bases y i o2 lo2 hi2
      w : IsWithin s.world.memory i o1 lo1 hi1
      v : IsWithin s.world.memory i o2 lo2 hi2
      alike : are_alike x y single ≡ true
      meets : bases_meet x.bases y.bases ≡ true
      alive : (x.ended || y.ended) ≡ false

    abbrev Told : Option (List (Cell I)) → Violations → Reply Scalar → Type 0
    Told after v reply = IsExact l n flow after v (giving s to reply)

    no_any : (is_any x && is_any y) ≡ false → (b : Bool) → (is_any x && (is_any y && b)) ≡ true → ⊥
    no_any e b f =
        let u = and_parts (is_any x) (is_any y && b) f in
        let v = and_parts (is_any y) b u.1 in
        true≢false (sym (and_from _ _ u.0 v.0) ∙ e)

    compared_told : Pair x y pa pb → (after : Option (List (Cell I))) (reply : Reply Scalar) → (bases_meet x.bases y.bases ≡ false → after ≡ None) → (Shared → Told after pair_told reply) → Told after pair_told (compared s.world pa pb reply)
    compared_told (some_ended e apart any) after reply none given =
        subst (λ z. Told after pair_told (cond z (stopped_by s.world rule.Nullref) (unless s.world (not (share_instance pa pb)) rule.Ptrobj reply))) (sym e)
        (rule_told l n flow s to after pair_told s.world rule.Nullref (none apart) (λ there. pointing_violated _ _ _ _ _ (λ f. there) never never (λ f. absurd (no_any any _ f))))
    compared_told (two a equal) after reply none given =
        subst (λ z. Told after pair_told (cond z (stopped_by s.world rule.Nullref) (unless s.world (not (share_instance pa pb)) rule.Ptrobj reply))) (sym a.alive)
        (subst (λ z. Told after pair_told (unless s.world (not z) rule.Ptrobj reply)) (sym a.strange)
        (rule_told l n flow s to after pair_told s.world rule.Ptrobj (none a.apart) (λ there. pointing_violated _ _ _ _ _ (λ f. absurd (true≢false (sym f ∙ a.ended))) never never (λ f. there))))
    compared_told (shared i o1 lo1 hi1 o2 lo2 hi2 ea eb alive h k w v alike meets unended equal) after reply none given =
        let share : share_instance pa pb ≡ true = ap₂ share_instance ea eb ∙ eq-eqb i i refl in
        subst (λ z. Told after pair_told (cond z (stopped_by s.world rule.Nullref) (unless s.world (not (share_instance pa pb)) rule.Ptrobj reply))) (sym alive)
        (subst (λ z. Told after pair_told (unless s.world (not z) rule.Ptrobj reply)) (sym share)
        (given (record { i = i; o1 = o1; lo1 = lo1; hi1 = hi1; o2 = o2; lo2 = lo2; hi2 = hi2; left = ea; right = eb; h = h; k = k; w = w; v = v; alike = alike; meets = meets; alive = unended })))

    -- nothing is admitted of two pointers into one object
    shared_none : Shared → AreViolated pair_told s.world.violated
    shared_none z = pointing_violated _ _ _ _ _ (λ f. absurd (true≢false (sym f ∙ z.alive))) never never
        (λ f. let u = and_parts (is_any x) (is_any y && not (are_alike x y single)) f in
        let v = and_parts (is_any y) (not (are_alike x y single)) u.1 in
        absurd (true≢false (sym v.1 ∙ ap not z.alike)))

    -- ---- differences

    difference_good : (size : ℕ) → 0 < size → Pair x y pa pb → Told (difference_between l n flow row to x y size) pair_told (pointer_difference size pa pb s.world)
    difference_good size some pair = compared_told pair _ _
        (λ e. ap (λ z. cond (not (size == 0) && z) (put_number n flow row to (difference_of l n flow x y size)) None) e ∙ ap (λ z. cond z (put_number n flow row to (difference_of l n flow x y size)) None) (and-false (not (size == 0))))
        (λ g.
        let a = g.w.below in
        let b = g.w.within in
        let d = g.v.below in
        let e = g.v.within in
        let top : ℕ = length (bytes_at s.world.memory g.i) in
        let z : ℤ = int_div (pos g.o1 -ℤ pos g.o2) (pos size) in
        let first : IsWithinTop (pos g.o1 -ℤ pos g.o2) top = record { from = omega (arith, ints, d, e); to = omega (arith, ints, a, b) } in
        let within = quotient_within (pos g.o1 -ℤ pos g.o2) size top some first in
        let typed = distance_type flow.model z top within (r.short g.i) in
        let small = r.stands_for.sane.small g.i in
        let from = within.from in
        let up = within.to in
        let is : elements_between pa pb size ≡ z = ap₂ (λ u v. elements_between u v size) g.left g.right in
        let range : range_met (range_over (range_difference (offsets n x) (offsets n y)) size) (least_of (kind_of flow.model class.Pointer true)) (greatest_of (kind_of flow.model class.Pointer true)) ≡ Some (z, z) =
        ap₂ (λ u v. range_met (range_over (range_difference u v) size) (least_of (kind_of flow.model class.Pointer true)) (greatest_of (kind_of flow.model class.Pointer true))) (offsets_are x g.i g.o1 g.lo1 g.hi1 g.h) (offsets_are y g.i g.o2 g.lo2 g.hi2 g.k)
        ∙ met_one z (least_of (kind_of flow.model class.Pointer true)) (greatest_of (kind_of flow.model class.Pointer true)) typed.0 typed.1 in
        let one : IsOne n (difference_of l n flow x y size).num z = ap (λ u. n.bounds (of_range l n u)) range ∙ one_range q z in
        let has : has_difference flow x y size ≡ true = and_from _ _ (ap not (ne_eqb size 0 (λ e. omega (arith, some, e)))) g.meets in
        let row_is : difference_between l n flow row to x y size ≡ Some (put_temp flow row to (difference_of l n flow x y size)) = rw (has, number_put n flow row to (difference_of l n flow x y size) z one) refl in
        subst (λ u. Told (difference_between l n flow row to x y size) pair_told (goes (integer u no_labels) s.world)) (sym is)
        (result_told q flow p naming row s r t to few (difference_of l n flow x y size) (integer z no_labels) s.world
        (record { tells = tells_number l n s.bases s.world.memory (difference_of l n flow x y size).num set.no_labels z no_labels one refl; near = record { from = omega (arith, ints, from, small); to = omega (arith, ints, up, small) }; within = tt }) refl _ pair_told row_is (shared_none g)))

    -- ---- relations

    truth_good : (told : Violations) (tri : Tri) (b : Bool) → tri ≡ truth_of b → AreViolated told s.world.violated → Told (put_truth l n flow row to tri) told (goes (truth b) s.world)
    truth_good told tri b is h =
        result_told q flow p naming row s r t to few (truth_value l n (truth_of b)) (truth b) s.world (record { tells = tells_truth q s.bases s.world.memory b; near = truth_near b; within = tt }) refl _ told
        (ap (put_truth l n flow row to) is ∙ truth_put l n flow row to b) h

    never_put : (tri : Tri) → tri ≡ Never → put_truth l n flow row to tri ≡ None
    unfolding put_truth
    never_put tri e = subst (λ z. put_truth l n flow row to z ≡ None) (sym e) refl

    ordered_good : Pair x y pa pb → (rel : Rel) → Told (put_truth l n flow row to (ordered l n flow rel x y)) pair_told (effect.ordered rel pa pb s.world)
    ordered_good pair rel = compared_told pair _ _
        (λ e. never_put _ (ap (λ z. cond z (pointers_compare l n rel x y) Never) e))
        (λ g.
        let a : IsOne n (of_range l n (offsets n x)) (pos g.o1) = ap (λ z. n.bounds (of_range l n z)) (offsets_are x g.i g.o1 g.lo1 g.hi1 g.h) ∙ one_range q (pos g.o1) in
        let b : IsOne n (of_range l n (offsets n y)) (pos g.o2) = ap (λ z. n.bounds (of_range l n z)) (offsets_are y g.i g.o2 g.lo2 g.hi2 g.k) ∙ one_range q (pos g.o2) in
        let same : holds rel (pos (offset_of pa)) (pos (offset_of pb)) ≡ holds rel (pos g.o1) (pos g.o2) = ap₂ (λ u v. holds rel (pos (offset_of u)) (pos (offset_of v))) g.left g.right in
        truth_good pair_told _ (holds rel (pos (offset_of pa)) (pos (offset_of pb)))
        (ap (λ z. cond z (pointers_compare l n rel x y) Never) g.meets ∙ (ex.compare rel (of_range l n (offsets n x)) (of_range l n (offsets n y)) (pos g.o1) (pos g.o2) a b ∙ ap truth_of (sym same))) (shared_none g))

    abbrev equal_told : Violations
    equal_told = pointing (x.ended || y.ended) false false false

    unended_none : (x.ended || y.ended) ≡ false → AreViolated equal_told s.world.violated
    unended_none e = pointing_violated _ _ _ _ _ (λ f. absurd (true≢false (sym f ∙ e))) never never never

    -- where one has ended the run stops; else the truth value is that of the equality
    equal_by : Pair x y pa pb → (change : Tri → Tri) (turn : Bool → Bool) → change Never ≡ Never → ((b : Bool) → change (truth_of b) ≡ truth_of (turn b)) → Told (put_truth l n flow row to (change (equality n flow x y))) equal_told (effect.equality s.world pa pb (turn (are_equal pa pb)))
    equal_by (some_ended e apart any) change turn none same =
        let nothing : pointers_equal n x y single ≡ Never = λ i. cond (any i) (tri_of ((x.null && y.null) || (bases_meet x.bases y.bases && ranges_meet (offsets n x) (offsets n y))) (not ((bases_empty x.bases && x.null) && (bases_empty y.bases && y.null)) && not (must x y pa pb))) Never in
        subst (λ z. Told (put_truth l n flow row to (change (equality n flow x y))) equal_told (cond z (stopped_by s.world rule.Nullref) (goes (truth (turn (are_equal pa pb))) s.world))) (sym e)
        (rule_told l n flow s to _ equal_told s.world rule.Nullref (never_put _ (ap change nothing ∙ none)) (λ there. pointing_violated _ _ _ _ _ (λ f. there) never never never))
    equal_by (two a equal) change turn none same =
        subst (λ z. Told (put_truth l n flow row to (change (equality n flow x y))) equal_told (cond z (stopped_by s.world rule.Nullref) (goes (truth (turn (are_equal pa pb))) s.world))) (sym a.alive)
        (truth_good equal_told _ (turn (are_equal pa pb)) (ap change equal ∙ same (are_equal pa pb)) (unended_none a.ended))
    equal_by (shared i o1 lo1 hi1 o2 lo2 hi2 ea eb alive h k w v alike meets unended equal) change turn none same =
        subst (λ z. Told (put_truth l n flow row to (change (equality n flow x y))) equal_told (cond z (stopped_by s.world rule.Nullref) (goes (truth (turn (are_equal pa pb))) s.world))) (sym alive)
        (truth_good equal_told _ (turn (are_equal pa pb)) (ap change equal ∙ same (are_equal pa pb)) (unended_none unended))

  -- ---- the instructions

  abbrev temp_at : ℕ → Pointers I
  temp_at u = (temp_value l n flow row u).pointer

  known_temp : (u : ℕ) (v : Scalar) (at : MachinePointer) → s.temps u ≡ Some v → v ≡ pointer at → Known (temp_at u) at
  known_temp u v at e g = known (temp_at u) at (subst (ExactScalar n s.bases s.world.memory (temp_value l n flow row u)) g (t.temps u v e)).points (r.stands_for.held.within u (pointer at) (e ∙ ap Some g))

  pub difference_told : (to left right size : ℕ) → fits_operation (names_of flow) (op.Difference to left right size) ≡ true → IsDefined (act_step (flow_view flow) (act (op.Difference to left right size)) s) → StepIsExact l n flow row (op.Difference to left right size) s
  unfolding operate difference_step operation_violations
  difference_told to left right size fits d =
      let named = and_parts (has_temp (names_of flow) to) (has_temp (names_of flow) left && (has_temp (names_of flow) right && (is_extent size && nat_lt 0 size))) fits in
      let few = ltb-true to flow.temps named.0 in
      let at_right = and_parts (has_temp (names_of flow) left) (has_temp (names_of flow) right && (is_extent size && nat_lt 0 size)) named.1 in
      let sized = and_parts (has_temp (names_of flow) right) (is_extent size && nat_lt 0 size) at_right.1 in
      let some = ltb-true 0 size (and_parts (is_extent size) (nat_lt 0 size) sized.1).1 in
      if_some_told l n flow _ _ s (s.temps left) _ d (λ v e d.
      if_some_told l n flow _ _ s (s.temps right) _ d (λ u f d.
      pointer_told l n flow _ _ s to v s.world _ d (λ pa g d.
      pointer_told l n flow _ _ s to u s.world _ d (λ pb h d.
      difference_good to few (temp_at left) (temp_at right) pa pb size some (pair_of (temp_at left) (temp_at right) pa pb (known_temp left v pa e g) (known_temp right u pb f h))))))

  relation_good : (rel : Rel) (to : ℕ) → to < flow.temps → (left right : ℕ) (pa pb : MachinePointer) → Pair (temp_at left) (temp_at right) pa pb
      → IsExact l n flow (put_truth l n flow row to (relation l n flow rel (temp_at left) (temp_at right))) (relation_violations l n flow row rel left right) (giving s to (pointers_compared rel pa pb s.world))
  relation_good Eq to few left right pa pb pair = equal_by to few (temp_at left) (temp_at right) pa pb pair (λ z. z) (λ z. z) refl (λ b. refl)
  relation_good Ne to few left right pa pb pair = equal_by to few (temp_at left) (temp_at right) pa pb pair negated not refl negated_truth
  relation_good Lt to few left right pa pb pair = ordered_good to few (temp_at left) (temp_at right) pa pb pair Lt
  relation_good Le to few left right pa pb pair = ordered_good to few (temp_at left) (temp_at right) pa pb pair Le
  relation_good Gt to few left right pa pb pair = ordered_good to few (temp_at left) (temp_at right) pa pb pair Gt
  relation_good Ge to few left right pa pb pair = ordered_good to few (temp_at left) (temp_at right) pa pb pair Ge

  pub relation_told : (to : ℕ) (rel : Rel) (left right : ℕ) → fits_operation (names_of flow) (op.ComparePointers to rel left right) ≡ true → IsDefined (act_step (flow_view flow) (act (op.ComparePointers to rel left right)) s) → StepIsExact l n flow row (op.ComparePointers to rel left right) s
  unfolding operate relation_step operation_violations
  relation_told to rel left right fits d =
      let few = ltb-true to flow.temps (and_parts (has_temp (names_of flow) to) (has_temp (names_of flow) left && has_temp (names_of flow) right) fits).0 in
      if_some_told l n flow _ _ s (s.temps left) _ d (λ v e d.
      if_some_told l n flow _ _ s (s.temps right) _ d (λ u f d.
      pointer_told l n flow _ _ s to v s.world _ d (λ pa g d.
      pointer_told l n flow _ _ s to u s.world _ d (λ pb h d.
      relation_good rel to few left right pa pb (pair_of (temp_at left) (temp_at right) pa pb (known_temp left v pa e g) (known_temp right u pb f h))))))
