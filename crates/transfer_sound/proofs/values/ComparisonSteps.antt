-- Differences and relations of pointers are sound.
use Rattle.std.proofs.Common.{◌≡◌, ℕ, suc, ◌*◌, ◌/◌, ◌≤◌, ◌<◌, Bool, true, false, not, ◌||◌, ◌&&◌, Option, Some, List, [], length, arith, subst, sym, refl, ap, ◌∙◌, inl, inr}
use Rattle.std.specs.Prelude.{ℤ, pos, negsuc, ◌-ℤ◌, ◌≤ℤ◌, int_div, slice_get, ◌==◌, nat_lt}
use Rattle.std.proofs.lemmas.Int.{ints}
use Rattle.std.proofs.lemmas.Bool.{cases_Bool, cases_eq, and_parts, and_from, eqb-true, eqb-false, eq-eqb, ne_eqb, ltb-true, or_left, or_right, or_cases, or_parts, true≢false}
use Rattle.std.proofs.Math.Nat.{mul-le-mul_left}
use Rattle.std.proofs.lemmas.Nat.{div_below}
use Rattle.std.proofs.lemmas.Option.{same_Some, slice_get_within}
use Rattle.cc_base.specs.Lattices.{LatticeOf, OrderLaws}
use Rattle.cc_base.specs.IntegerTypes.{least_of, greatest_of, in_type}
use Rattle.cc_base.specs.IntegerDomains.{IntegersOf, BoundLaws}
use Rattle.cc_base.specs.IntegerLaws.{SoundLaws}
use Rattle.cc_base.specs.MachineArithmetic.{holds}
use Rattle.cc_base.specs.Truths.{can_hold, can_fail}
use Rattle.cc_base.specs.declared.diagnostics.Rule.TheVariants as rule
use Rattle.cc_base.specs.declared.integer_operators.Rel.{Rel}
use Rattle.cc_base.specs.declared.integer_operators.Rel.TheVariants.{Lt, Le, Gt, Ge, Eq, Ne}
use Rattle.cc_base.specs.declared.integer_operators.Tri.{Tri}
use Rattle.c_layout.specs.declared.data_model.Model.{Model}
use Rattle.c_layout.specs.declared.leaf_lists.Class.TheVariants as class
use Rattle.c_layout.specs.declared.shapes.BaseInfo.{BaseInfo}
use Rattle.c_layout.specs.declared.shapes.BaseKind.{BaseKind}
use Rattle.c_layout.specs.declared.shapes.BaseKind.TheVariants.{Static, Automatic, Literal, Newest, Older}
use Rattle.cfg.specs.WellFormed.{names_of, has_temp, fits_operation}
use Rattle.cfg.specs.BaseShapes.{is_extent}
use Rattle.cfg.specs.declared.machine_instructions.Operation.TheVariants as op
use Rattle.cfg.specs.declared.programs.Flow.{Flow}
use Rattle.pointer_domain.specs.BaseFacts.{within_has}
use Rattle.pointer_domain.specs.BaseLattice.{bases_order}
use Rattle.pointer_domain.specs.BaseSets.{bases_has, bases_empty, bases_within, bases_count, bases_meet}
use Rattle.pointer_domain.specs.PointerTables.{is_any, same_one_base, pointers_equal, pointers_compare}
use Rattle.pointer_domain.specs.declared.base_sets.Bases.{Bases}
use Rattle.pointer_domain.specs.declared.pointer_sets.Pointers.{Pointers}
use Rattle.value_domain.specs.declared.values.row_cells.Cell.{Cell}
use Rattle.value_domain.specs.declared.values.values.Value.{Value}
use Rattle.domain_theorems.specs.Values.Meaning.{IsInto}
use Rattle.domain_theorems.proofs.values.EqualityStands.{has_some, common_base, equality_meaning}
use Rattle.domain_theorems.proofs.values.PointerStands.{compared_holds, compared_fails, difference_stands}
use Rattle.store_objects.specs.LiveBases.{is_single_kind, single_bases}
use Rattle.store_cells.specs.ScalarTypes.{kind_of}
use Rattle.transfer_checks.specs.PointerChecks.{are_alike, check_same_instance}
use Rattle.transfer_checks.specs.Temporaries.{temp_value, put_temp}
use Rattle.transfer_checks.specs.ViolationSets.{no_violations}
use Rattle.transfer_checks.specs.declared.violation_sets.Violations.{Violations}
use Rattle.transfer_system.specs.PointerSteps.{has_difference, difference_of, difference_between, difference_step, equality, ordered, relation, relation_step}
use Rattle.transfer_system.specs.ResultTemps.{negated, put_truth}
use Rattle.transfer_system.specs.Steps.{operate}
use Rattle.transfer_system.specs.StepViolations.{relation_violations, operation_violations}
use Rattle.memory_model.specs.Memory.Labels.{no_labels}
use Rattle.memory_model.specs.Memory.Bytes.{MachinePointer, null, into}
use Rattle.memory_model.specs.Memory.Instances.{Memory, Life, live, ended, freed, bytes_at, life_at}
use Rattle.memory_model.specs.Memory.Scalars.{Scalar, integer, pointer}
use Rattle.memory_model.specs.Effects.IntegerEffects.{truth}
use Rattle.memory_model.specs.Effects.PointerEffects as effect
use Rattle.memory_model.specs.Effects.PointerEffects.{is_ended_life, is_ended, offset_of, is_into, share_instance, compared, elements_between, pointer_difference, are_equal, pointers_compared}
use Rattle.memory_model.specs.Effects.Worlds.{Reply, goes, unless}
use Rattle.semantics.specs.CfgMachine.FlowStates.{ProgramState}
use Rattle.semantics.specs.CfgMachine.FlowActs.{giving}
use Rattle.store_sound.specs.Concretization.ValueMeaning.{Naming, InGammaInto, InGammaByLife, InGammaPointer, InGammaScalar}
use Rattle.store_sound.specs.Concretization.SoundMemory.{IsWithin, IsPointerIn}
use Rattle.store_sound.proofs.operations.OneBases.{one_base}
use Rattle.store_sound.proofs.operations.Sets.{is_single}
use Rattle.store_sound.proofs.operations.Slices.{get_there}
use Rattle.store_sound.specs.Programs.Premises.{HasPremises}
use Rattle.transfer_sound.specs.Values.SoundSteps.{IsReached, IsStoodFor, StepIsSound}
use Rattle.transfer_sound.proofs.values.Admitted.{AreAdmitted, none_admitted, same_admitted}
use Rattle.transfer_sound.proofs.values.PointerResults.{as_into, rule_stops}
use Rattle.transfer_sound.proofs.values.Replies.{if_some_good, pointer_good, result_good}
use Rattle.transfer_sound.proofs.values.ResultRows.{truth_near, number_row, truth_row}
use Rattle.transfer_sound.proofs.values.Truths.{negated_holds, negated_fails}
use Rattle.transfer_sound.proofs.values.TypeRanges.{le_told}

-- a kind of which a base names one instance
single_not_older : (kind : BaseKind) → is_single_kind kind ≡ true → kind ≡ Older → ⊥
single_not_older Static h e = cc
single_not_older Automatic h e = cc
single_not_older Literal h e = cc
single_not_older Newest h e = cc
single_not_older Older h e = true≢false (sym h)

-- ---- what is pointed to

-- null, or into what has not ended
data Place {I : Type 0} (gamma : I → ℤ → Type 0) (naming : Naming) (memory : Memory) (x : Pointers I) (p : MachinePointer) : Type 0 where
  nowhere : p ≡ null → x.null ≡ true → Place gamma naming memory x p
  somewhere : (i offset lo hi : ℕ) → p ≡ into i offset lo hi → (life_at memory i ≡ ended → ⊥) → InGammaInto gamma naming memory x i offset lo hi → IsWithin memory i offset lo hi → Place gamma naming memory x p

life_place : {I : Type 0} (gamma : I → ℤ → Type 0) (naming : Naming) (memory : Memory) (x : Pointers I) (i offset lo hi : ℕ) (life : Life) → life_at memory i ≡ life → is_ended_life life ≡ false → InGammaByLife gamma naming memory x life i offset lo hi → IsWithin memory i offset lo hi → Place gamma naming memory x (into i offset lo hi)
life_place gamma naming memory x i offset lo hi live e f st w = somewhere i offset lo hi refl (λ g. let h : live ≡ ended = sym e ∙ g in cc) st w
life_place gamma naming memory x i offset lo hi ended e f st w = absurd (true≢false f)
life_place gamma naming memory x i offset lo hi freed e f st w = somewhere i offset lo hi refl (λ g. let h : freed ≡ ended = sym e ∙ g in cc) st w

place_of : {I : Type 0} (gamma : I → ℤ → Type 0) (naming : Naming) (memory : Memory) (x : Pointers I) (p : MachinePointer) → InGammaPointer gamma naming memory x p → IsPointerIn memory p → is_ended memory p ≡ false → Place gamma naming memory x p
place_of gamma naming memory x null st w e = nowhere refl st
place_of gamma naming memory x (into i offset lo hi) st w e = life_place gamma naming memory x i offset lo hi (life_at memory i) refl e st w

ended_told : {I : Type 0} (gamma : I → ℤ → Type 0) (naming : Naming) (memory : Memory) (x : Pointers I) (p : MachinePointer) → InGammaPointer gamma naming memory x p → is_ended memory p ≡ true → x.ended ≡ true
ended_told gamma naming memory x null st e = absurd (true≢false (sym e))
ended_told gamma naming memory x (into i offset lo hi) st e = by_life (life_at memory i) st e
  where
    by_life : (life : Life) → InGammaByLife gamma naming memory x life i offset lo hi → is_ended_life life ≡ true → x.ended ≡ true
    by_life live s f = absurd (true≢false (sym f))
    by_life ended s f = s
    by_life freed s f = absurd (true≢false (sym f))

-- ---- quotients

smaller : (a m : ℕ) → 0 < m → a / m ≤ a
smaller a m h =
    let t : suc a * 1 ≤ suc a * m = mul-le-mul_left (suc a) (omega (arith, h)) in
    let d = div_below a m (suc a) h (omega (arith, t)) in
    omega (arith, d)

pub record IsWithinTop (z : ℤ) (top : ℕ) : Type 0 where
  pub from : (pos 0 -ℤ pos top) ≤ℤ z
  pub to : z ≤ℤ pos top

pub quotient_within : (x : ℤ) (m top : ℕ) → 0 < m → IsWithinTop x top → IsWithinTop (int_div x (pos m)) top
quotient_within (pos a) m top h w = let d = smaller a m h in let e = w.to in record { from = omega (arith, ints, d); to = omega (arith, ints, d, e) }
quotient_within (negsuc a) m top h w = let d = smaller (suc a) m h in let e = w.from in record { from = omega (arith, ints, d, e); to = omega (arith, ints, d) }

-- a number of elements between offsets of an object that is not too long is one of ptrdiff_t
pub distance_type : (m : Model) (z : ℤ) (top : ℕ) → IsWithinTop z top → pos top ≤ℤ greatest_of (kind_of m class.Pointer true) → (least_of (kind_of m class.Pointer true) ≤ℤ z) × (z ≤ℤ greatest_of (kind_of m class.Pointer true))
distance_type m z top w h =
    let a = w.from in
    let b = w.to in
    (omega (arith, ints, a, h), omega (arith, ints, b, h))

module _ {I : Type 0} {l : LatticeOf I} {n : IntegersOf I} {gamma : I → ℤ → Type 0} (o : OrderLaws l) (q : BoundLaws l n gamma) (c : SoundLaws l n gamma) (flow : Flow) (p : HasPremises flow) (naming : Naming) (row : List (Cell I)) (s : ProgramState) (r : IsReached l n gamma flow naming row s) where
  abbrev single : Bases
  single = single_bases flow.bases.items

  clean : (v : Violations) → AreAdmitted v s.world.violated
  clean v = same_admitted v s.world.violated [] r.begun (none_admitted v)

  abbrev At : Pointers I → MachinePointer → Type 0
  At x at = Place gamma naming s.world.memory x at

  -- ---- instances

  base_small : (b : ℕ) (base : BaseInfo) → slice_get flow.bases.items b ≡ Some base → b < 1016
  base_small b base e = let few = p.shaped.few in let top = slice_get_within flow.bases.items b base e in omega (arith, few, top)

  base_there : (x : Pointers I) (i offset lo hi : ℕ) (st : InGammaInto gamma naming s.world.memory x i offset lo hi) → (base : BaseInfo) × (slice_get flow.bases.items st.base ≡ Some base)
  base_there x i offset lo hi st = get_there flow.bases.items st.base (r.stands_for.sane.few i st.base st.named)

  -- two instances that one single base names are one
  same_instance : (i j b : ℕ) (base : BaseInfo) → slice_get flow.bases.items b ≡ Some base → is_single_kind base.kind ≡ true → naming i ≡ Some b → naming j ≡ Some b → (life_at s.world.memory i ≡ ended → ⊥) → (life_at s.world.memory j ≡ ended → ⊥) → i ≡ j
  same_instance i j b base at kind f g h k = r.stands_for.sane.one i j b base at (single_not_older base.kind kind) f g h k

  alike_same : (x y : Pointers I) (i o1 lo1 hi1 j o2 lo2 hi2 : ℕ) → InGammaInto gamma naming s.world.memory x i o1 lo1 hi1 → InGammaInto gamma naming s.world.memory y j o2 lo2 hi2 → (life_at s.world.memory i ≡ ended → ⊥) → (life_at s.world.memory j ≡ ended → ⊥) → same_one_base x y single ≡ true → i ≡ j
  alike_same x y i o1 lo1 hi1 j o2 lo2 hi2 sx sy ex ey h =
      let a = and_parts (bases_count x.bases == 1) (bases_within x.bases y.bases && (bases_within y.bases x.bases && bases_within x.bases single)) h in
      let b = and_parts (bases_within x.bases y.bases) (bases_within y.bases x.bases && bases_within x.bases single) a.1 in
      let d = and_parts (bases_within y.bases x.bases) (bases_within x.bases single) b.1 in
      let bx = base_there x i o1 lo1 hi1 sx in
      let by = base_there y j o2 lo2 hi2 sy in
      let sm = base_small sx.base bx.0 bx.1 in
      let same : sy.base ≡ sx.base = one_base x.bases sx.base sy.base sm (base_small sy.base by.0 by.1) (eqb-true _ _ a.0) sx.among (within_has y.bases x.bases sy.base d.0 sy.among) in
      same_instance i j sx.base bx.0 bx.1 (is_single flow.bases.items sx.base bx.0 bx.1 sm x.bases d.1 sx.among) sx.named (subst (λ z. naming j ≡ Some z) same sy.named) ex ey

  any_there : (x : Pointers I) (at : MachinePointer) → At x at → is_any x ≡ true
  any_there x at (nowhere e h) = or_right (not (bases_empty x.bases)) x.null h
  any_there x at (somewhere i offset lo hi e a st w) = or_left (not (bases_empty x.bases)) x.null (ap not (has_some x.bases st.base st.among))

  -- what is alike is one instance
  not_alike : (x y : Pointers I) (pa pb : MachinePointer) → At x pa → At y pb → share_instance pa pb ≡ false → are_alike x y single ≡ true → ⊥
  not_alike x y pa pb (nowhere e h) by f g =
      let a = and_parts (same_one_base x y single) (not x.null && not y.null) g in
      let b = and_parts (not x.null) (not y.null) a.1 in
      true≢false (sym b.0 ∙ ap not h)
  not_alike x y pa pb (somewhere i o1 lo1 hi1 e1 a1 st1 w1) (nowhere e h) f g =
      let a = and_parts (same_one_base x y single) (not x.null && not y.null) g in
      let b = and_parts (not x.null) (not y.null) a.1 in
      true≢false (sym b.1 ∙ ap not h)
  not_alike x y pa pb (somewhere i o1 lo1 hi1 e1 a1 st1 w1) (somewhere j o2 lo2 hi2 e2 a2 st2 w2) f g =
      let a = and_parts (same_one_base x y single) (not x.null && not y.null) g in
      let k : i ≡ j = alike_same x y i o1 lo1 hi1 j o2 lo2 hi2 st1 st2 a1 a2 a.0 in
      let t : (i == j) ≡ false = sym (ap (λ z. share_instance z (into j o2 lo2 hi2)) e1) ∙ (sym (ap (share_instance pa) e2) ∙ f) in
      true≢false (sym (eq-eqb i j k) ∙ t)

  -- two pointers into one instance
  record Shared (x y : Pointers I) (pa pb : MachinePointer) : Type 0 where
    i : ℕ
    o1 : ℕ
    lo1 : ℕ
    hi1 : ℕ
    o2 : ℕ
    lo2 : ℕ
    hi2 : ℕ
    left : pa ≡ into i o1 lo1 hi1
    right : pb ≡ into i o2 lo2 hi2
    st1 : InGammaInto gamma naming s.world.memory x i o1 lo1 hi1
    st2 : InGammaInto gamma naming s.world.memory y i o2 lo2 hi2
    w1 : IsWithin s.world.memory i o1 lo1 hi1
    w2 : IsWithin s.world.memory i o2 lo2 hi2

  shared_is : (x y : Pointers I) (pa pb : MachinePointer) → At x pa → At y pb → share_instance pa pb ≡ true → Shared x y pa pb
  shared_is x y pa pb (nowhere e h) by f = absurd (true≢false (sym f ∙ ap (λ z. share_instance z pb) e))
  shared_is x y pa pb (somewhere i o1 lo1 hi1 e1 a1 st1 w1) (nowhere e h) f = absurd (true≢false (sym f ∙ (ap (share_instance pa) e ∙ ap (λ z. share_instance z null) e1)))
  shared_is x y pa pb (somewhere i o1 lo1 hi1 e1 a1 st1 w1) (somewhere j o2 lo2 hi2 e2 a2 st2 w2) f =
      let t : (i == j) ≡ true = sym (ap (λ z. share_instance z (into j o2 lo2 hi2)) e1) ∙ (sym (ap (share_instance pa) e2) ∙ f) in
      let k : j ≡ i = sym (eqb-true i j t) in
      record { i = i; o1 = o1; lo1 = lo1; hi1 = hi1; o2 = o2; lo2 = lo2; hi2 = hi2; left = e1; right = subst (λ z. pb ≡ into z o2 lo2 hi2) k e2; st1 = st1; st2 = subst (λ z. InGammaInto gamma naming s.world.memory y z o2 lo2 hi2) k st2; w1 = w1; w2 = subst (λ z. IsWithin s.world.memory z o2 lo2 hi2) k w2 }

  meet : (x y : Pointers I) (pa pb : MachinePointer) (h : Shared x y pa pb) → bases_meet x.bases y.bases ≡ true
  meet x y pa pb h = common_base x.bases y.bases h.st1.base h.st1.among (subst (λ z. bases_has y.bases z ≡ true) (same_Some h.st2.base h.st1.base (sym h.st2.named ∙ h.st1.named)) h.st2.among)

  -- ---- what both need

  module _ (to : ℕ) (few : to < flow.temps) (x y : Pointers I) (pa pb : MachinePointer) (sa : InGammaPointer gamma naming s.world.memory x pa) (sb : InGammaPointer gamma naming s.world.memory y pb) (wa : IsPointerIn s.world.memory pa) (wb : IsPointerIn s.world.memory pb) where
    ended_either : (is_ended s.world.memory pa || is_ended s.world.memory pb) ≡ true → (x.ended || y.ended) ≡ true
    ended_either h = elim (or_cases (is_ended s.world.memory pa) (is_ended s.world.memory pb) h) [
      | inl e ↦ or_left x.ended y.ended (ended_told gamma naming s.world.memory x pa sa e)
      | inr e ↦ or_right x.ended y.ended (ended_told gamma naming s.world.memory y pb sb e)
    ]

    -- where neither has ended
    unended_good : (after : Option (List (Cell I))) (told : Violations) (reply : Reply Scalar) → told.nullref ≡ (x.ended || y.ended) → (At x pa → At y pb → IsStoodFor l n gamma flow after told (giving s to reply)) → IsStoodFor l n gamma flow after told (giving s to (unless s.world (is_ended s.world.memory pa || is_ended s.world.memory pb) rule.Nullref reply))
    unended_good after told reply e h = elim (cases_Bool (is_ended s.world.memory pa || is_ended s.world.memory pb)) [
      | inl f ↦ rw f (rule_stops q flow p naming row s r to few after told s.world rule.Nullref (clean told) (e ∙ ended_either f))
      | inr f ↦ (let k = or_parts (is_ended s.world.memory pa) (is_ended s.world.memory pb) f in
          rw f (h (place_of gamma naming s.world.memory x pa sa wa k.0) (place_of gamma naming s.world.memory y pb sb wb k.1)))
    ]

    abbrev pair_told : Violations
    pair_told = (check_same_instance x y single).violations

    object_told : At x pa → At y pb → share_instance pa pb ≡ false → pair_told.ptrobj ≡ true
    object_told a b f = and_from _ _ (any_there x pa a) (and_from _ _ (any_there y pb b) (not_of (are_alike x y single) (not_alike x y pa pb a b f)))
      where
        not_of : (b : Bool) → (b ≡ true → ⊥) → not b ≡ true
        not_of true g = absurd (g refl)
        not_of false g = refl

    compared_good : (after : Option (List (Cell I))) (reply : Reply Scalar) → (Shared x y pa pb → IsStoodFor l n gamma flow after pair_told (giving s to reply)) → IsStoodFor l n gamma flow after pair_told (giving s to (compared s.world pa pb reply))
    compared_good after reply h = unended_good after pair_told _ refl (λ a b. elim (cases_Bool (share_instance pa pb)) [
      | inl f ↦ rw f (h (shared_is x y pa pb a b f))
      | inr f ↦ rw f (rule_stops q flow p naming row s r to few after pair_told s.world rule.Ptrobj (clean pair_told) (object_told a b f))
    ])

    -- ---- differences

    distance_of : (size : ℕ) → 0 < size → (h : Shared x y pa pb) → IsWithinTop (elements_between pa pb size) (length (bytes_at s.world.memory h.i))
    distance_of size some h =
        let a = h.w1.below in
        let b = h.w1.within in
        let d = h.w2.below in
        let e = h.w2.within in
        let top : ℕ = length (bytes_at s.world.memory h.i) in
        let first : IsWithinTop (pos h.o1 -ℤ pos h.o2) top = record { from = omega (arith, ints, d, e); to = omega (arith, ints, a, b) } in
        subst (λ z. IsWithinTop (elements_between z pb size) top) (sym h.left) (subst (λ z. IsWithinTop (elements_between (into h.i h.o1 h.lo1 h.hi1) z size) top) (sym h.right) (quotient_within (pos h.o1 -ℤ pos h.o2) size top some first))

    pub difference_good : (size : ℕ) → 0 < size → IsStoodFor l n gamma flow (difference_between l n flow row to x y size) pair_told (giving s to (pointer_difference size pa pb s.world))
    difference_good size some = compared_good _ _ (λ h.
        let w = distance_of size some h in
        let z : ℤ = elements_between pa pb size in
        let small = r.stands_for.sane.small h.i in
        let typed = distance_type flow.model z (length (bytes_at s.world.memory h.i)) w (r.short h.i) in
        let is_type : in_type (kind_of flow.model class.Pointer true) z ≡ true = and_from _ _ (le_told _ _ typed.0) (le_told _ _ typed.1) in
        let number : gamma (difference_of l n flow x y size).num z =
        let e : z ≡ int_div (pos h.o1 -ℤ pos h.o2) (pos size) = ap (λ y. elements_between y pb size) h.left ∙ ap (λ y. elements_between (into h.i h.o1 h.lo1 h.hi1) y size) h.right in
        subst (gamma (difference_of l n flow x y size).num) (sym e) (difference_stands q x y h.st1.base h.st2.base size (kind_of flow.model class.Pointer true) (pos h.lo1) (pos h.o1) (pos h.hi1) (pos h.lo2) (pos h.o2) (pos h.hi2) some
        (as_into gamma naming s.world.memory x h.i h.o1 h.lo1 h.hi1 h.st1) (as_into gamma naming s.world.memory y h.i h.o2 h.lo2 h.hi2 h.st2) (subst (λ y. in_type (kind_of flow.model class.Pointer true) y ≡ true) e is_type)) in
        let a = w.from in
        let b = w.to in
        let has : has_difference flow x y size ≡ true = and_from _ _ (ap not (ne_eqb size 0 (λ e. omega (arith, some, e)))) (meet x y pa pb h) in
        let row_is : difference_between l n flow row to x y size ≡ Some (put_temp flow row to (difference_of l n flow x y size)) = rw (has, number_row q flow row to (difference_of l n flow x y size) z number) refl in
        result_good q flow p naming row s r to few (difference_of l n flow x y size) (integer z no_labels) s.world
        (record { stands_for = (number, refl); near = record { from = omega (arith, ints, a, small); to = omega (arith, ints, b, small) }; within = tt }) refl _ pair_told row_is (clean pair_told))

    -- ---- relations

    truth_good : (after : Option (List (Cell I))) (told : Violations) (tri : Tri) (b : Bool) → after ≡ put_truth l n flow row to tri → (b ≡ true → can_hold tri ≡ true) → (b ≡ false → can_fail tri ≡ true) → IsStoodFor l n gamma flow after told (giving s to (goes (truth b) s.world))
    truth_good after told tri b is h k =
        let t = truth_row q flow row to naming s.world.memory tri b h k in
        result_good q flow p naming row s r to few t.value (truth b) s.world (record { stands_for = t.stands_for; near = truth_near b; within = tt }) refl after told (is ∙ t.is) (clean told)

    ordered_good : (rel : Rel) → IsStoodFor l n gamma flow (put_truth l n flow row to (ordered l n flow rel x y)) pair_told (giving s to (effect.ordered rel pa pb s.world))
    ordered_good rel = compared_good _ _ (λ h.
        let is : ordered l n flow rel x y ≡ pointers_compare l n rel x y = rw (meet x y pa pb h) refl in
        let left : offset_of pa ≡ h.o1 = ap offset_of h.left in
        let right : offset_of pb ≡ h.o2 = ap offset_of h.right in
        let same : holds rel (pos (offset_of pa)) (pos (offset_of pb)) ≡ holds rel (pos h.o1) (pos h.o2) = ap (λ z. holds rel (pos z) (pos (offset_of pb))) left ∙ ap (λ z. holds rel (pos h.o1) (pos z)) right in
        let i1 = as_into gamma naming s.world.memory x h.i h.o1 h.lo1 h.hi1 h.st1 in
        let i2 = as_into gamma naming s.world.memory y h.i h.o2 h.lo2 h.hi2 h.st2 in
        truth_good _ pair_told (pointers_compare l n rel x y) (holds rel (pos (offset_of pa)) (pos (offset_of pb))) (ap (put_truth l n flow row to) is)
        (λ e. compared_holds q c rel x y h.st1.base h.st2.base (pos h.lo1) (pos h.o1) (pos h.hi1) (pos h.lo2) (pos h.o2) (pos h.hi2) i1 i2 (sym same ∙ e))
        (λ e. compared_fails q c rel x y h.st1.base h.st2.base (pos h.lo1) (pos h.o1) (pos h.hi1) (pos h.lo2) (pos h.o2) (pos h.hi2) i1 i2 (sym same ∙ e)))

    -- whether they are equal is among the truth values
    record CanBe (b : Bool) : Type 0 where
      hold : b ≡ true → can_hold (pointers_equal n x y single) ≡ true
      fail : b ≡ false → can_fail (pointers_equal n x y single) ≡ true

    equal_instances : (i o1 lo1 hi1 j o2 lo2 hi2 : ℕ) → (life_at s.world.memory i ≡ ended → ⊥) → (life_at s.world.memory j ≡ ended → ⊥) → InGammaInto gamma naming s.world.memory x i o1 lo1 hi1 → InGammaInto gamma naming s.world.memory y j o2 lo2 hi2 → CanBe ((i == j) && (o1 == o2))
    equal_instances i o1 lo1 hi1 j o2 lo2 hi2 ai aj st1 st2 =
        let i1 = as_into gamma naming s.world.memory x i o1 lo1 hi1 st1 in
        let i2 = as_into gamma naming s.world.memory y j o2 lo2 hi2 st2 in
        let bx = base_there x i o1 lo1 hi1 st1 in
        let by = base_there y j o2 lo2 hi2 st2 in
        let sx = base_small st1.base bx.0 bx.1 in
        record {
          hold = λ e.
              let a = and_parts (i == j) (o1 == o2) e in
              let f = eqb-true i j a.0 in
              let g = eqb-true o1 o2 a.1 in
              let b : st2.base ≡ st1.base = same_Some st2.base st1.base (sym st2.named ∙ (ap naming (sym f) ∙ st1.named)) in
              (equality_meaning q).same_holds x y single st1.base (pos lo1) (pos o1) (pos hi1) (pos lo2) (pos hi2) i1 (subst (λ z. IsInto gamma y z (pos lo2) (pos o1) (pos hi2)) b (subst (λ z. IsInto gamma y st2.base (pos lo2) (pos z) (pos hi2)) (sym g) i2));
          fail = λ e. elim (cases_eq i j) [
            | inr ne ↦ (equality_meaning q).instances_fail x y single st1.base st2.base (pos lo1) (pos o1) (pos hi1) (pos lo2) (pos o2) (pos hi2) sx (base_small st2.base by.0 by.1) i1 i2
                (λ same has. ne (same_instance i j st1.base bx.0 bx.1 (is_single flow.bases.items st1.base bx.0 bx.1 sx single (bases_order.reflexive single) has) st1.named (subst (λ z. naming j ≡ Some z) (sym same) st2.named) ai aj))
            | inl f ↦ (let g : (o1 == o2) ≡ false = rw (eq-eqb i j f) at e in
                (equality_meaning q).apart_fails x y single st1.base st2.base (pos lo1) (pos o1) (pos hi1) (pos lo2) (pos o2) (pos hi2) i1 i2 (λ k. eqb-false o1 o2 g (apart o1 o2 k)))
          ];
        }
      where
        apart : (a b : ℕ) → pos a ≡ pos b → a ≡ b
        apart a b k = omega (arith, ints, k)

    equal_can : At x pa → At y pb → CanBe (are_equal pa pb)
    equal_can (nowhere e h) (nowhere f k) = subst (λ z. CanBe (are_equal z pb)) (sym e) (subst (λ z. CanBe (are_equal null z)) (sym f)
        (record { hold = λ t. (equality_meaning q).nulls_hold x y single h k; fail = λ t. absurd (true≢false t) }))
    equal_can (nowhere e h) (somewhere j o2 lo2 hi2 f a st w) = subst (λ z. CanBe (are_equal z pb)) (sym e) (subst (λ z. CanBe (are_equal null z)) (sym f)
        (record { hold = λ t. absurd (true≢false (sym t)); fail = λ t. (equality_meaning q).null_fails x y single st.base (pos lo2) (pos o2) (pos hi2) h (as_into gamma naming s.world.memory y j o2 lo2 hi2 st) }))
    equal_can (somewhere i o1 lo1 hi1 e a st w) (nowhere f k) = subst (λ z. CanBe (are_equal z pb)) (sym e) (subst (λ z. CanBe (are_equal (into i o1 lo1 hi1) z)) (sym f)
        (record { hold = λ t. absurd (true≢false (sym t)); fail = λ t. (equality_meaning q).to_null_fails x y single st.base (pos lo1) (pos o1) (pos hi1) (as_into gamma naming s.world.memory x i o1 lo1 hi1 st) k }))
    equal_can (somewhere i o1 lo1 hi1 e a st w) (somewhere j o2 lo2 hi2 f d su v) = subst (λ z. CanBe (are_equal z pb)) (sym e) (subst (λ z. CanBe (are_equal (into i o1 lo1 hi1) z)) (sym f)
        (equal_instances i o1 lo1 hi1 j o2 lo2 hi2 a d st su))

    abbrev equal_told : Violations
    equal_told = record no_violations { nullref = x.ended || y.ended }

    equal_good : IsStoodFor l n gamma flow (put_truth l n flow row to (equality n flow x y)) equal_told (giving s to (effect.equality s.world pa pb (are_equal pa pb)))
    equal_good = unended_good _ equal_told _ refl (λ a b. let k = equal_can a b in truth_good _ equal_told (equality n flow x y) (are_equal pa pb) refl k.hold k.fail)

    not_equal_good : IsStoodFor l n gamma flow (put_truth l n flow row to (negated (equality n flow x y))) equal_told (giving s to (effect.equality s.world pa pb (not (are_equal pa pb))))
    not_equal_good = unended_good _ equal_told _ refl (λ a b. let k = equal_can a b in
        truth_good _ equal_told (negated (equality n flow x y)) (not (are_equal pa pb)) refl
        (λ e. negated_holds (equality n flow x y) ∙ k.fail (not_true (are_equal pa pb) e))
        (λ e. negated_fails (equality n flow x y) ∙ k.hold (not_false (are_equal pa pb) e)))
      where
        not_true : (b : Bool) → not b ≡ true → b ≡ false
        not_true true h = absurd (true≢false (sym h))
        not_true false h = refl

        not_false : (b : Bool) → not b ≡ false → b ≡ true
        not_false true h = refl
        not_false false h = absurd (true≢false h)

  -- ---- the instructions

  pub difference_sound : (to left right size : ℕ) → fits_operation (names_of flow) (op.Difference to left right size) ≡ true → StepIsSound l n gamma flow row (op.Difference to left right size) s
  unfolding operate difference_step operation_violations
  difference_sound to left right size fits =
      let named = and_parts (has_temp (names_of flow) to) (has_temp (names_of flow) left && (has_temp (names_of flow) right && (is_extent size && nat_lt 0 size))) fits in
      let few = ltb-true to flow.temps named.0 in
      let at_right = and_parts (has_temp (names_of flow) left) (has_temp (names_of flow) right && (is_extent size && nat_lt 0 size)) named.1 in
      let sized = and_parts (has_temp (names_of flow) right) (is_extent size && nat_lt 0 size) at_right.1 in
      let some = ltb-true 0 size (and_parts (is_extent size) (nat_lt 0 size) sized.1).1 in
      let x : Value I = temp_value l n flow row left in
      let y : Value I = temp_value l n flow row right in
      if_some_good l n gamma flow _ _ s r.begun (s.temps left) _ (λ v e.
      if_some_good l n gamma flow _ _ s r.begun (s.temps right) _ (λ u f.
      pointer_good l n gamma flow _ _ s to v s.world _ r.begun (λ pa g.
      pointer_good l n gamma flow _ _ s to u s.world _ r.begun (λ pb h.
      difference_good to few x.pointer y.pointer pa pb
      (subst (InGammaScalar gamma naming s.world.memory x) g (r.stands_for.temps left v e)) (subst (InGammaScalar gamma naming s.world.memory y) h (r.stands_for.temps right u f))
      (r.stands_for.held.within left (pointer pa) (e ∙ ap Some g)) (r.stands_for.held.within right (pointer pb) (f ∙ ap Some h)) size some))))

  relation_good : (rel : Rel) (to : ℕ) → to < flow.temps → (left right : ℕ) (pa pb : MachinePointer) → InGammaPointer gamma naming s.world.memory (temp_value l n flow row left).pointer pa → InGammaPointer gamma naming s.world.memory (temp_value l n flow row right).pointer pb → IsPointerIn s.world.memory pa → IsPointerIn s.world.memory pb
      → IsStoodFor l n gamma flow (put_truth l n flow row to (relation l n flow rel (temp_value l n flow row left).pointer (temp_value l n flow row right).pointer)) (relation_violations l n flow row rel left right) (giving s to (pointers_compared rel pa pb s.world))
  relation_good Eq to few left right pa pb sa sb wa wb = equal_good to few (temp_value l n flow row left).pointer (temp_value l n flow row right).pointer pa pb sa sb wa wb
  relation_good Ne to few left right pa pb sa sb wa wb = not_equal_good to few (temp_value l n flow row left).pointer (temp_value l n flow row right).pointer pa pb sa sb wa wb
  relation_good Lt to few left right pa pb sa sb wa wb = ordered_good to few (temp_value l n flow row left).pointer (temp_value l n flow row right).pointer pa pb sa sb wa wb Lt
  relation_good Le to few left right pa pb sa sb wa wb = ordered_good to few (temp_value l n flow row left).pointer (temp_value l n flow row right).pointer pa pb sa sb wa wb Le
  relation_good Gt to few left right pa pb sa sb wa wb = ordered_good to few (temp_value l n flow row left).pointer (temp_value l n flow row right).pointer pa pb sa sb wa wb Gt
  relation_good Ge to few left right pa pb sa sb wa wb = ordered_good to few (temp_value l n flow row left).pointer (temp_value l n flow row right).pointer pa pb sa sb wa wb Ge

  pub relation_sound : (to : ℕ) (rel : Rel) (left right : ℕ) → fits_operation (names_of flow) (op.ComparePointers to rel left right) ≡ true → StepIsSound l n gamma flow row (op.ComparePointers to rel left right) s
  unfolding operate relation_step operation_violations
  relation_sound to rel left right fits =
      let few = ltb-true to flow.temps (and_parts (has_temp (names_of flow) to) (has_temp (names_of flow) left && has_temp (names_of flow) right) fits).0 in
      if_some_good l n gamma flow _ _ s r.begun (s.temps left) _ (λ v e.
      if_some_good l n gamma flow _ _ s r.begun (s.temps right) _ (λ u f.
      pointer_good l n gamma flow _ _ s to v s.world _ r.begun (λ pa g.
      pointer_good l n gamma flow _ _ s to u s.world _ r.begun (λ pb h.
      relation_good rel to few left right pa pb
      (subst (InGammaScalar gamma naming s.world.memory (temp_value l n flow row left)) g (r.stands_for.temps left v e)) (subst (InGammaScalar gamma naming s.world.memory (temp_value l n flow row right)) h (r.stands_for.temps right u f))
      (r.stands_for.held.within left (pointer pa) (e ∙ ap Some g)) (r.stands_for.held.within right (pointer pb) (f ∙ ap Some h))))))
