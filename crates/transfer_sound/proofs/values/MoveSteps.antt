-- Pointers that are moved are sound.
use Rattle.std.proofs.Common.{◌≡◌, ℕ, zero, suc, ◌<◌, Bool, true, false, cond, not, ◌||◌, ◌&&◌, Option, Some, None, List, [], ◌∷◌, arith, subst, sym, refl, ap, ◌∙◌, inl, inr, ◌⊎◌}
use Rattle.std.specs.Prelude.{ℤ, pos, negsuc, neg_ℤ, ◌+ℤ◌, ◌-ℤ◌, ◌*ℤ◌, ◌≤ℤ◌, ◌<ℤ◌, unsigned_abs, int_le, int_lt}
use Rattle.std.proofs.lemmas.Int.{ints}
use lib.IntN.{negsuc-*ℤ-pos}
use Rattle.std.proofs.lemmas.Bool.{cases_Bool, and_parts, ltb-true, or_left, or_right, true≢false, and_from}
use Rattle.cc_base.specs.Lattices.{LatticeOf, OrderLaws}
use Rattle.cc_base.specs.NumberRanges.{Range, range_sum, range_times, range_difference}
use Rattle.cc_base.specs.IntegerDomains.{IntegersOf, BoundLaws, IsNear}
use Rattle.cc_base.specs.declared.diagnostics.Rule.TheVariants as rule
use Rattle.cfg.specs.BaseShapes.{is_extent}
use Rattle.cfg.specs.WellFormed.{names_of, has_temp, has_amount, fits_operation}
use Rattle.cfg.specs.declared.machine_instructions.Amount.{Amount}
use Rattle.cfg.specs.declared.machine_instructions.Amount.TheVariants as amount
use Rattle.cfg.specs.declared.machine_instructions.Operation.TheVariants as op
use Rattle.cfg.specs.declared.programs.Flow.{Flow}
use Rattle.pointer_domain.specs.BaseSets.{bases_has}
use Rattle.pointer_domain.specs.PointerTables.{moved_to, shifted}
use Rattle.pointer_domain.specs.declared.pointer_sets.Pointers.{Pointers}
use Rattle.value_domain.specs.Values.LabelSets.{labels_leq}
use Rattle.value_domain.specs.Values.LabelSets as set
use Rattle.value_domain.specs.declared.values.label_sets.Labels as declared
use Rattle.value_domain.specs.declared.values.values.Value.{Value}
use Rattle.value_domain.specs.declared.values.row_cells.Cell.{Cell}
use Rattle.domain_theorems.proofs.values.EqualityStands.{has_some}
use Rattle.domain_theorems.proofs.values.Numbers.{RangeHas, sum_has, times_has, difference_has, bounds_have, of_range_stands}
use Rattle.domain_theorems.proofs.values.PointerStands.{shift_stands}
use Rattle.store_cells.specs.NearValues.{is_near, near_part, part_near, near_number}
use Rattle.store_cells.specs.RowPositions.{value_at}
use Rattle.transfer_checks.specs.PointerChecks.{shift_violations}
use Rattle.transfer_checks.specs.Temporaries.{temp_value, amount_value}
use Rattle.transfer_checks.specs.Touches.{leaves_bounds_at}
use Rattle.transfer_checks.specs.declared.violation_sets.Violations.{Violations}
use Rattle.transfer_system.specs.PointerSteps.{is_short, signed_amount, put_moved, shift_by, shift_step}
use Rattle.transfer_system.specs.ResultTemps.{put_pointer}
use Rattle.transfer_system.specs.Steps.{operate}
use Rattle.transfer_system.specs.StepViolations.{operation_violations}
use Rattle.memory_model.specs.Memory.Labels.{Labels, is_unlabelled}
use Rattle.memory_model.specs.Memory.Bytes.{MachinePointer, null, into}
use Rattle.memory_model.specs.Memory.Instances.{Life, live, ended, freed, life_at}
use Rattle.memory_model.specs.Memory.Scalars.{Scalar, integer, pointer}
use Rattle.memory_model.specs.Effects.PointerEffects.{is_ended_life, distance_of, moved_into, shift_pointer}
use Rattle.memory_model.specs.Effects.IntegerEffects.{plain_one}
use Rattle.memory_model.specs.Effects.Operands.{as_pointer}
use Rattle.memory_model.specs.Effects.Worlds.{World, Reply, noted, unless}
use Rattle.semantics.specs.CfgMachine.FlowStates.{ProgramState}
use Rattle.semantics.specs.CfgMachine.FlowActs.{giving, with_amount}
use Rattle.store_sound.specs.Concretization.SeenLabels.{as_set}
use Rattle.store_sound.specs.Concretization.ValueMeaning.{Naming, InGammaInto, InGammaByLife, InGammaPointer, InGammaScalar}
use Rattle.store_sound.specs.Concretization.SoundMemory.{IsWithin, IsPointerIn}
use Rattle.store_sound.proofs.operations.Sets.{none_has}
use Rattle.store_sound.specs.Programs.Premises.{HasPremises}
use Rattle.transfer_sound.specs.Values.SoundSteps.{IsReached, IsStoodFor, StepIsSound}
use Rattle.transfer_sound.proofs.values.Admitted.{AreAdmitted, none_admitted, one_admitted, both_admitted, same_admitted}
use Rattle.transfer_sound.proofs.values.NearScalars.{IsNearNumber, near_number_stands}
use Rattle.transfer_sound.proofs.values.PointerResults.{HasNotEnded, is_live, is_freed, by_life, as_into, pointer_given, rule_stops}
use Rattle.transfer_sound.proofs.values.Replies.{if_some_good, number_good, pointer_good}
use Rattle.transfer_sound.proofs.values.TypeRanges.{le_is, le_from, lt_is}

-- ---- numbers

pub abs_is : (z : ℤ) → pos 0 ≤ℤ z → pos (unsigned_abs z) ≡ z
abs_is (pos n) h = refl
abs_is (negsuc n) h = absurd (omega (arith, ints, h))

neg_times : (z : ℤ) (f : ℕ) → neg_ℤ (z *ℤ pos f) ≡ (neg_ℤ z *ℤ pos f)
neg_times (pos zero) f = omega (arith, ints)
neg_times (pos (suc n)) f = let e = negsuc-*ℤ-pos n f in omega (arith, ints, e)
neg_times (negsuc n) f = let e = negsuc-*ℤ-pos n f in omega (arith, ints, e)

-- the number by which a pointer is moved
abbrev pub directed : Bool → ℤ → ℤ
directed true z = neg_ℤ z
directed false z = z

pub distance_is : (back : Bool) (z : ℤ) (scale : ℕ) → distance_of back z scale ≡ (directed back z *ℤ pos scale)
distance_is false z scale = refl
distance_is true z scale = neg_times z scale

-- where a place lies before the bounds or behind their length, some may
outside_bounds : (x y : Range) (z room : ℤ) → RangeHas x z → RangeHas y room → (z <ℤ pos 0) ⊎ (room <ℤ z) → leaves_bounds_at x y ≡ true
outside_bounds None y z room h k e = absurd h
outside_bounds (Some p) None z room h k e = absurd k
outside_bounds (Some p) (Some r) z room h k e =
    let a = h.0 in
    let b = h.1 in
    let c = k.0 in
    elim e [
      | inl f ↦ or_left _ _ (lt_is p.0 (pos 0) (omega (arith, ints, a, f)))
      | inr f ↦ or_right (int_lt p.0 (pos 0)) _ (lt_is r.0 p.1 (omega (arith, ints, b, c, f)))
    ]

-- labels that may be there are told
labels_below : (s : Labels) (t : declared.Labels) → labels_leq (as_set s) t ≡ true → not (is_unlabelled s) ≡ true → not (set.is_unlabelled t) ≡ true
labels_below s t h e = elim (cases_Bool (set.is_unlabelled t)) [
  | inr f ↦ ap not f
  | inl f ↦ absurd (no_labels_below s.low s.high s.changed t.lo t.hi t.mutated h e f)
]
  where
    no_labels_below : (a b c d f g : Bool) → labels_leq (record { lo = a; hi = b; mutated = c }) (record { lo = d; hi = f; mutated = g }) ≡ true → not (not (a || (b || c))) ≡ true → not (d || (f || g)) ≡ true → ⊥
    no_labels_below a b c d f g h e k = grind arith

module _ {I : Type 0} {l : LatticeOf I} {n : IntegersOf I} {gamma : I → ℤ → Type 0} (q : BoundLaws l n gamma) where
  -- what is near stands for near numbers alone
  pub near_has : (y : I) (z : ℤ) → gamma (near_number l n y) z → IsNearNumber z
  near_has y z h = elim (cases_Bool (is_near (n.bounds y))) [
    | inl e ↦ (let g : gamma y z = rw e at h in by_range (n.bounds y) (bounds_have q y z g) e)
    | inr e ↦ (let g : gamma (near_part l n y) z = rw e at h in by_bounds (n.bounds (near_part l n y)) (bounds_have q (near_part l n y) z g) (part_near q y))
  ]
    where
      by_range : (r : Range) → RangeHas r z → is_near r ≡ true → IsNearNumber z
      by_range None h e = absurd h
      by_range (Some p) h e = let a = h.0 in let b = h.1 in record { from = grind (arith, ints); to = grind (arith, ints) }

      by_bounds : (r : Range) → RangeHas r z → IsNear r → IsNearNumber z
      by_bounds None h e = absurd h
      by_bounds (Some p) h e = let a = h.0 in let b = h.1 in let c = e.0 in let d = e.1 in record { from = omega (arith, ints, a, c); to = omega (arith, ints, b, d) }

module _ {I : Type 0} {l : LatticeOf I} {n : IntegersOf I} {gamma : I → ℤ → Type 0} (o : OrderLaws l) (q : BoundLaws l n gamma) (flow : Flow) (p : HasPremises flow) (naming : Naming) (row : List (Cell I)) (s : ProgramState) (r : IsReached l n gamma flow naming row s) where
  -- ---- amounts

  near_temp : (t : ℕ) (z : ℤ) → gamma (temp_value l n flow row t).num z → IsNearNumber z
  unfolding value_at
  near_temp t z h = near_has q _ z h

  pub amount_good : (after : Option (List (Cell I))) (v : Violations) (by : Amount) (use_it : Scalar → Reply ProgramState) → ((w : Scalar) → InGammaScalar gamma naming s.world.memory (amount_value l n flow row by) w → ((z : ℤ) (la : Labels) → w ≡ integer z la → IsNearNumber z) → IsStoodFor l n gamma flow after v (use_it w)) → IsStoodFor l n gamma flow after v (with_amount s by use_it)
  amount_good after v (amount.Temp t) use_it h = if_some_good l n gamma flow after v s r.begun (s.temps t) use_it (λ w e.
      let st = r.stands_for.temps t w e in h w st (λ z la g. near_temp t z (subst (InGammaScalar gamma naming s.world.memory (temp_value l n flow row t)) g st).0))
  amount_good after v amount.One use_it h =
      let near : IsNearNumber (pos 1) = record { from = omega (arith, ints); to = omega (arith, ints) } in
      h plain_one (near_number_stands q (n.one (pos 1)) (pos 1) near (q.one_stands (pos 1)), refl) (λ z la g. let e : pos 1 ≡ z = ap (λ y. number_in y) g in subst IsNearNumber e near)
    where
      number_in : Scalar → ℤ
      number_in (integer z la) = z
      number_in (pointer at) = pos 0

  -- the number by which a pointer is moved

  signed_stands : (back : Bool) (x : I) (z : ℤ) → IsNearNumber z → gamma x z → gamma (signed_amount l n x back) (directed back z)
  signed_stands false x z near h = h
  signed_stands true x z near h =
      let f = near.from in
      let g = near.to in
      let e : (pos 0 -ℤ z) ≡ neg_ℤ z = omega (arith, ints) in
      near_number_stands q _ (neg_ℤ z) (record { from = omega (arith, ints, g); to = omega (arith, ints, f) })
      (subst (gamma _) e (of_range_stands q (range_difference (Some (pos 0, pos 0)) (n.bounds x)) (pos 0 -ℤ z) (difference_has (Some (pos 0, pos 0)) (n.bounds x) (pos 0) z (omega (arith, ints), omega (arith, ints)) (bounds_have q x z h))))

  -- ---- one move

  module _ (to : ℕ) (few : to < flow.temps) (x : Pointers I) (by : I) (la : declared.Labels) (scale : ℕ) (k : ℤ) (st_by : gamma by k) (w : World) (same : w.memory ≡ s.world.memory) (told_labels : AreAdmitted (shift_violations n x by la scale) w.violated) where
    abbrev told : Violations
    told = shift_violations n x by la scale

    abbrev after : Option (List (Cell I))
    after = put_moved l flow row to (shifted l n x by scale)

    moved_part : (range : Range) (b : ℕ) → bases_has (moved_to l n x range).bases b ≡ true → (moved_to l n x range).part ≡ false → x.part ≡ false
    moved_part None b h e = absurd (true≢false (sym h ∙ none_has b))
    moved_part (Some p) b h e = e

    shifted_into : (i offset lo hi : ℕ) (z : ℤ) → z ≡ (pos offset +ℤ (k *ℤ pos scale)) → InGammaInto gamma naming s.world.memory x i offset lo hi → pos lo ≤ℤ z → z ≤ℤ pos hi → InGammaInto gamma naming s.world.memory (shifted l n x by scale) i (unsigned_abs z) lo hi
    shifted_into i offset lo hi z e st above below =
        let h = shift_stands q x by scale st.base (pos lo) (pos offset) (pos hi) k (as_into gamma naming s.world.memory x i offset lo hi st) st_by (omega (arith, ints, above, e)) (omega (arith, ints, below, e)) in
        let at : pos (unsigned_abs z) ≡ z = abs_is z (omega (arith, ints, above)) in
        record {
          base = st.base;
          named = st.named;
          among = h.among;
          lower = h.lower;
          relative = subst (gamma (shifted l n x by scale).rel) (omega (arith, ints, at, e)) h.relative;
          room = h.room;
          whole = λ f. st.whole (moved_part _ st.base h.among f);
        }

    outside_told : (i offset lo hi : ℕ) (z : ℤ) → z ≡ (pos offset +ℤ (k *ℤ pos scale)) → InGammaInto gamma naming s.world.memory x i offset lo hi → (int_le (pos lo) z && int_le z (pos hi)) ≡ false → told.invptr ≡ true
    outside_told i offset lo hi z e st h =
        let f = sum_has (n.bounds x.rel) (range_times (n.bounds by) scale) (pos offset -ℤ pos lo) (k *ℤ pos scale) (bounds_have q x.rel _ st.relative) (times_has (n.bounds by) k scale (bounds_have q by k st_by)) in
        and_from _ _ (ap not (has_some x.bases st.base st.among))
        (outside_bounds (range_sum (n.bounds x.rel) (range_times (n.bounds by) scale)) (n.bounds x.len) ((pos offset -ℤ pos lo) +ℤ (k *ℤ pos scale)) (pos hi -ℤ pos lo) f (bounds_have q x.len _ st.room) (either h))
      where
        either : (int_le (pos lo) z && int_le z (pos hi)) ≡ false → (((pos offset -ℤ pos lo) +ℤ (k *ℤ pos scale)) <ℤ pos 0) ⊎ ((pos hi -ℤ pos lo) <ℤ ((pos offset -ℤ pos lo) +ℤ (k *ℤ pos scale)))
        either h = elim (cases_Bool (int_le (pos lo) z)) [
          | inr a ↦ (let b = le_is (pos lo) z a in inl (omega (arith, ints, b, e)))
          | inl a ↦ (let c : int_le z (pos hi) ≡ false = rw a at h in let b = le_is z (pos hi) c in inr (omega (arith, ints, b, e)))
        ]

    put_moved_is : (b : ℕ) → bases_has (shifted l n x by scale).bases b ≡ true → after ≡ put_pointer l flow row to (shifted l n x by scale)
    unfolding put_moved
    put_moved_is b h = rw (has_some (shifted l n x by scale).bases b h) refl

    -- what has not ended is moved within its bounds
    within_good : (i offset lo hi : ℕ) (z : ℤ) → z ≡ (pos offset +ℤ (k *ℤ pos scale)) → (life : Life) → life_at s.world.memory i ≡ life → HasNotEnded life → InGammaInto gamma naming s.world.memory x i offset lo hi → IsWithin s.world.memory i offset lo hi → IsStoodFor l n gamma flow after told (giving s to (as_pointer (moved_into w i z lo hi)))
    within_good i offset lo hi z e life now alive st inside = elim (cases_Bool (int_le (pos lo) z && int_le z (pos hi))) [
      | inr f ↦ rw f (rule_stops q flow p naming row s r to few after told w rule.Invptr told_labels (outside_told i offset lo hi z e st f))
      | inl f ↦ (let g = and_parts (int_le (pos lo) z) (int_le z (pos hi)) f in
          let above = le_from (pos lo) z g.0 in
          let below = le_from z (pos hi) g.1 in
          let y = shifted_into i offset lo hi z e st above below in
          let at : pos (unsigned_abs z) ≡ z = abs_is z (omega (arith, ints, above)) in
          let within : IsWithin s.world.memory i (unsigned_abs z) lo hi = record { made = inside.made; above = omega (arith, ints, at, above); below = omega (arith, ints, at, below); within = inside.within } in
          rw f (pointer_given q flow p naming row s r to few (shifted l n x by scale) (into i (unsigned_abs z) lo hi) w told after
          (subst (λ y. InGammaByLife gamma naming s.world.memory (shifted l n x by scale) y i (unsigned_abs z) lo hi) (sym now) (by_life gamma naming s.world.memory (shifted l n x by scale) i (unsigned_abs z) lo hi life alive y))
          within same (put_moved_is y.base y.among) told_labels))
    ]

    life_good : (life : Life) (i offset lo hi : ℕ) (z : ℤ) → z ≡ (pos offset +ℤ (k *ℤ pos scale)) → life_at s.world.memory i ≡ life → InGammaByLife gamma naming s.world.memory x life i offset lo hi → IsWithin s.world.memory i offset lo hi → IsStoodFor l n gamma flow after told (giving s to (as_pointer (unless w (is_ended_life life) rule.Nullref (moved_into w i z lo hi))))
    life_good live i offset lo hi z e now st inside = within_good i offset lo hi z e live now (is_live refl) st inside
    life_good freed i offset lo hi z e now st inside = within_good i offset lo hi z e freed now (is_freed refl) st inside
    life_good ended i offset lo hi z e now st inside = rule_stops q flow p naming row s r to few after told w rule.Nullref told_labels (or_right x.null x.ended st)

  -- ---- the instruction

  module _ (to : ℕ) (few : to < flow.temps) (x : Pointers I) (by : I) (la : declared.Labels) (scale : ℕ) (back : Bool) (z : ℤ) (labels : Labels) (st_by : gamma by (directed back z)) (below : labels_leq (as_set labels) la ≡ true) where
    abbrev shift_told : Violations
    shift_told = shift_violations n x by la scale

    abbrev noted_world : World
    noted_world = noted s.world (not (is_unlabelled labels)) rule.Taintsink

    noted_told : (b : Bool) → (b ≡ true → shift_told.taintsink ≡ true) → AreAdmitted shift_told (cond b (rule.Taintsink ∷ []) [])
    noted_told true h = one_admitted shift_told rule.Taintsink (h refl)
    noted_told false h = none_admitted shift_told

    labels_told : AreAdmitted shift_told noted_world.violated
    labels_told = both_admitted shift_told s.world.violated _ (same_admitted shift_told s.world.violated [] r.begun (none_admitted shift_told)) (noted_told (not (is_unlabelled labels)) (labels_below labels la below))

    shift_good : (at : MachinePointer) → InGammaPointer gamma naming s.world.memory x at → IsPointerIn s.world.memory at → IsStoodFor l n gamma flow (put_moved l flow row to (shifted l n x by scale)) shift_told (giving s to (as_pointer (shift_pointer scale back at z labels s.world)))
    shift_good null st inside = rule_stops q flow p naming row s r to few _ shift_told noted_world rule.Nullref labels_told (or_left x.null x.ended st)
    shift_good (into i offset lo hi) st inside = life_good to few x by la scale (directed back z) st_by noted_world refl labels_told (life_at s.world.memory i) i offset lo hi (pos offset +ℤ distance_of back z scale) (ap (λ y. pos offset +ℤ y) (distance_is back z scale)) refl st inside

  pub shift_sound : (to from : ℕ) (by : Amount) (scale : ℕ) (back : Bool) → fits_operation (names_of flow) (op.Shift to from by scale back) ≡ true → StepIsSound l n gamma flow row (op.Shift to from by scale back) s
  unfolding operate shift_step shift_by operation_violations
  shift_sound to from by scale back fits =
      let a = and_parts (has_temp (names_of flow) to) (has_temp (names_of flow) from && (has_amount (names_of flow) by && is_extent scale)) fits in
      let b = and_parts (has_temp (names_of flow) from) (has_amount (names_of flow) by && is_extent scale) a.1 in
      let short : is_short scale ≡ true = (and_parts (has_amount (names_of flow) by) (is_extent scale) b.1).1 in
      let x : Value I = temp_value l n flow row from in
      let y : Value I = amount_value l n flow row by in
      rw short (if_some_good l n gamma flow _ _ s r.begun (s.temps from) _ (λ v e.
      amount_good _ _ by _ (λ u su near.
      pointer_good l n gamma flow _ _ s to v s.world _ r.begun (λ at g.
      number_good l n gamma flow _ _ s to u s.world _ r.begun (λ z labels h.
      let d = subst (InGammaScalar gamma naming s.world.memory y) h su in
      shift_good to (ltb-true to flow.temps a.0) x.pointer (signed_amount l n y.num back) y.labels scale back z labels (signed_stands back y.num z (near z labels h) d.0) d.1 at
      (subst (InGammaScalar gamma naming s.world.memory x) g (r.stands_for.temps from v e))
      (r.stands_for.held.within from (pointer at) (e ∙ ap Some g)))))))
