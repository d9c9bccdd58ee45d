-- Pointers that are moved are told.
use Rattle.std.proofs.Common.{◌≡◌, ℕ, ◌<◌, ◌≤◌, Bool, true, false, cond, not, ◌||◌, ◌&&◌, Option, Some, None, List, [], ◌∷◌, ◌++◌, arith, subst, sym, refl, ap, ap₂, ◌∙◌}
use Rattle.std.specs.Prelude.{ℤ, pos, neg_ℤ, ◌+ℤ◌, ◌-ℤ◌, ◌*ℤ◌, ◌≤ℤ◌, ◌<ℤ◌, unsigned_abs, int_le, int_lt}
use Rattle.std.specs.List.{Contains}
use Rattle.std.proofs.lemmas.Int.{ints}
use Rattle.std.proofs.lemmas.Bool.{and_parts, ltb-true, true≢false}
use Rattle.std.proofs.lemmas.List.Elements.{Contains-append_left}
use Rattle.cc_base.specs.Lattices.{LatticeOf}
use Rattle.cc_base.specs.NumberRanges.{Range, range_sum, range_times, range_met, range_difference, upper_or}
use Rattle.cc_base.specs.IntegerDomains.{IntegersOf, BoundLaws, of_range}
use Rattle.cc_base.specs.declared.diagnostics.Rule.{Rule}
use Rattle.cc_base.specs.declared.diagnostics.Rule.TheVariants as rule
use Rattle.cfg.specs.BaseShapes.{is_extent}
use Rattle.cfg.specs.WellFormed.{names_of, has_temp, has_amount, fits_operation}
use Rattle.cfg.specs.declared.machine_instructions.Amount.{Amount}
use Rattle.cfg.specs.declared.machine_instructions.Amount.TheVariants as amount
use Rattle.cfg.specs.declared.machine_instructions.Operation.TheVariants as op
use Rattle.cfg.specs.declared.programs.Flow.{Flow}
use Rattle.pointer_domain.specs.BaseSets.{bases_empty}
use Rattle.pointer_domain.specs.PointerTables.{moved_to, shifted, length_above}
use Rattle.pointer_domain.specs.declared.pointer_sets.Pointers.{Pointers}
use Rattle.value_domain.specs.Values.LabelSets as set
use Rattle.value_domain.specs.declared.values.label_sets.Labels as declared
use Rattle.value_domain.specs.declared.values.values.Value.{Value}
use Rattle.value_domain.specs.declared.values.row_cells.Cell.{Cell}
use Rattle.store_cells.specs.RowPositions.{value_at}
use Rattle.transfer_checks.specs.PointerChecks.{moves_outside, shift_violations}
use Rattle.transfer_checks.specs.Touches.{leaves_bounds_at}
use Rattle.transfer_checks.specs.Temporaries.{temp_value, amount_value}
use Rattle.transfer_checks.specs.declared.violation_sets.Violations.{Violations}
use Rattle.transfer_instructions.specs.Values.PointerSteps.{is_short, signed_amount, put_moved, shift_by, shift_step}
use Rattle.transfer_instructions.specs.Values.ResultTemps.{put_pointer}
use Rattle.transfer_instructions.specs.Instructions.Steps.{operate}
use Rattle.transfer_instructions.specs.Instructions.StepViolations.{operation_violations}
use Rattle.memory_model.specs.Memory.Labels.{Labels, is_unlabelled}
use Rattle.memory_model.specs.Memory.Bytes.{MachinePointer, null, into}
use Rattle.memory_model.specs.Memory.Instances.{Life, live, ended, freed, life_at}
use Rattle.memory_model.specs.Memory.Scalars.{Scalar, integer, pointer}
use Rattle.memory_model.specs.Effects.IntegerEffects.{plain_one}
use Rattle.memory_model.specs.Effects.Operands.{as_pointer}
use Rattle.memory_model.specs.Effects.PointerEffects.{is_ended_life, distance_of, moved_into, shift_pointer}
use Rattle.memory_model.specs.Effects.Worlds.{World, Reply, goes, noted, unless, stopped_by}
use Rattle.lower_templates.specs.Worklist.Acts.{act}
use Rattle.lower_templates.specs.Views.ProgramViews.{flow_view}
use Rattle.semantics.specs.CfgMachine.FlowStates.{ProgramState}
use Rattle.semantics.specs.CfgMachine.FlowActs.{giving, with_amount}
use Rattle.semantics.specs.CfgMachine.FlowSteps.{act_step}
use Rattle.store_sound.specs.Concretization.SeenLabels.{as_set}
use Rattle.store_sound.specs.Concretization.ValueMeaning.{Naming, InGammaScalar}
use Rattle.store_sound.specs.Concretization.SoundMemory.{IsWithin, IsPointerIn}
use Rattle.store_sound.specs.Concretization.Coverage.{state_of}
use Rattle.store_sound.specs.Programs.Premises.{HasPremises}
use Rattle.transfer_sound.specs.Values.SoundSteps.{IsReached}
use Rattle.transfer_sound.proofs.values.MoveSteps.{abs_is, near_has, directed, distance_is}
use Rattle.transfer_sound.proofs.values.NearScalars.{IsNearNumber}
use Rattle.transfer_sound.proofs.values.BinarySteps.{met_one}
use Rattle.transfer_sound.proofs.values.TypeRanges.{le_from}
use Rattle.transfer_exact.specs.Values.SingleNumbers.{IsOne}
use Rattle.transfer_exact.specs.Values.SingleValues.{IsNowhere, IsIntoOne, ExactByLife, ExactPointer, ExactScalar}
use Rattle.transfer_exact.specs.Values.SingleRows.{ExactState}
use Rattle.transfer_exact.specs.Values.SingleSteps.{IsDefined, IsExact, StepIsExact}
use Rattle.transfer_exact.proofs.values.Faults.{met_none}
use Rattle.transfer_exact.proofs.values.NearExact.{near_one}
use Rattle.transfer_exact.proofs.values.Told.{if_some_told, number_told, pointer_told}
use Rattle.transfer_exact.proofs.values.Violated.{pointing_violated, never, one_there, behind_there}
use Rattle.transfer_exact.proofs.places.OneBase.{not_empty}
use Rattle.transfer_exact.proofs.places.OneTouch.{one_range}
use Rattle.transfer_exact.proofs.pointers.Addresses.{live_tells}
use Rattle.transfer_exact.proofs.pointers.PointersExact.{rule_told, pointer_given}

not_le : (a b : ℤ) → int_le a b ≡ false → b <ℤ a
not_le a b h = grind (arith, ints)

same_le : (a b c d : ℤ) → (d -ℤ c) ≡ (b -ℤ a) → int_le a b ≡ int_le c d
same_le a b c d h = grind (arith, ints)

within_is : (a b : ℤ) → pos 0 ≤ℤ a → a ≤ℤ b → (int_lt a (pos 0) || int_lt b a) ≡ false
within_is a b h k = grind (arith, ints)

unlabelled_is : (s : Labels) (t : declared.Labels) → t ≡ as_set s → set.is_unlabelled t ≡ is_unlabelled s
unlabelled_is s t e = ap set.is_unlabelled e

noted_there : (before : List Rule) (b : Bool) (r : Rule) → b ≡ true → Contains (before ++ cond b (r ∷ []) []) r
noted_there before true r e = behind_there before (r ∷ []) r (one_there r)
noted_there before false r e = cc

module _ {I : Type 0} {l : LatticeOf I} {n : IntegersOf I} {gamma : I → ℤ → Type 0} (q : BoundLaws l n gamma) (flow : Flow) (p : HasPremises flow) (naming : Naming) (row : List (Cell I)) (s : ProgramState) (r : IsReached l n gamma flow naming row s) (t : ExactState l n flow row (state_of s)) where
  -- ---- amounts

  near_temp : (u : ℕ) (z : ℤ) → gamma (temp_value l n flow row u).num z → IsNearNumber z
  unfolding value_at
  near_temp u z h = near_has q _ z h

  amount_told : (after : Option (List (Cell I))) (w : Violations) (by : Amount) (use_it : Scalar → Reply ProgramState) → IsDefined (with_amount s by use_it) → ((v : Scalar) → ExactScalar n s.bases s.world.memory (amount_value l n flow row by) v → ((z : ℤ) (la : Labels) → v ≡ integer z la → IsNearNumber z) → IsDefined (use_it v) → IsExact l n flow after w (use_it v)) → IsExact l n flow after w (with_amount s by use_it)
  amount_told after w (amount.Temp u) use_it d h = if_some_told l n flow after w s (s.temps u) use_it d (λ v e d. h v (t.temps u v e) (λ z la g. near_temp u z (subst (InGammaScalar gamma naming s.world.memory (temp_value l n flow row u)) g (r.stands_for.temps u v e)).0) d)
  amount_told after w amount.One use_it d h =
      let near : IsNearNumber (pos 1) = record { from = omega (arith, ints); to = omega (arith, ints) } in
      h plain_one (record { number = near_one q (n.one (pos 1)) (pos 1) near (q.one_bounds (pos 1)); labels_are = refl; apart = record { bases = refl; null = refl; ended = refl }; determinate = refl })
      (λ z la g. let e : pos 1 ≡ z = ap number_in g in subst IsNearNumber e near) d
    where
      number_in : Scalar → ℤ
      number_in (integer z la) = z
      number_in (pointer at) = pos 0

  signed_one : (back : Bool) (x : I) (z : ℤ) → IsNearNumber z → IsOne n x z → IsOne n (signed_amount l n x back) (directed back z)
  signed_one false x z near h = h
  signed_one true x z near h =
      let f = near.from in
      let g = near.to in
      let e : (pos 0 -ℤ z) ≡ neg_ℤ z = omega (arith, ints) in
      let range : range_difference (Some (pos 0, pos 0)) (n.bounds x) ≡ Some (neg_ℤ z, neg_ℤ z) = ap (range_difference (Some (pos 0, pos 0))) h ∙ ap₂ (λ a b. Some (a, b)) e e in
      near_one q _ (neg_ℤ z) (record { from = omega (arith, ints, g); to = omega (arith, ints, f) }) (ap (λ y. n.bounds (of_range l n y)) range ∙ one_range q (neg_ℤ z))

  -- ---- one move

  nowhere_moved : (x : Pointers I) → bases_empty x.bases ≡ true → (range : Range) → bases_empty (moved_to l n x range).bases ≡ true
  nowhere_moved x e None = refl
  nowhere_moved x e (Some g) = e

  nothing_moved : (to : ℕ) (x : Pointers I) → bases_empty x.bases ≡ true → put_moved l flow row to x ≡ None
  unfolding put_moved
  nothing_moved to x e = rw e refl

  something_moved : (to : ℕ) (x : Pointers I) → bases_empty x.bases ≡ false → put_moved l flow row to x ≡ put_pointer l flow row to x
  unfolding put_moved
  something_moved to x e = rw e refl

  module _ (to : ℕ) (few : to < flow.temps) (x : Pointers I) (by : I) (la : declared.Labels) (scale : ℕ) (k : ℤ) (one : IsOne n by k) (labels : Labels) (same_labels : la ≡ as_set labels) where
    abbrev told : Violations
    told = shift_violations n x by la scale

    abbrev after : Option (List (Cell I))
    after = put_moved l flow row to (shifted l n x by scale)

    abbrev noted_world : World
    noted_world = noted s.world (not (is_unlabelled labels)) rule.Taintsink

    sink_there : not (set.is_unlabelled la) ≡ true → Contains noted_world.violated rule.Taintsink
    sink_there e = noted_there s.world.violated (not (is_unlabelled labels)) rule.Taintsink (sym (ap not (unlabelled_is labels la same_labels)) ∙ e)

    -- where no base is, nothing moves
    nowhere_good : (a b : Bool) → IsNowhere x a b → IsExact l n flow after told (giving s to (stopped_by noted_world rule.Nullref))
    nowhere_good a b h =
        rule_told l n flow s to after told noted_world rule.Nullref (nothing_moved to (shifted l n x by scale) (nowhere_moved x h.bases (range_met (range_sum (n.bounds x.rel) (range_times (n.bounds by) scale)) (pos 0) (length_above n x)))) (λ there.
        pointing_violated _ _ _ _ _ (λ e. there) (λ e. let f : (not true && moves_outside n x by scale) ≡ true = subst (λ z. (not z && moves_outside n x by scale) ≡ true) h.bases e in never f)
        (λ e. Contains-append_left _ _ rule.Taintsink (sink_there e)) never)

    module _ (i offset lo hi : ℕ) (h : IsIntoOne n s.bases x i offset lo hi) (alive : life_at s.world.memory i ≡ live) (inside : IsWithin s.world.memory i offset lo hi) (z : ℤ) (is : z ≡ (pos offset +ℤ (k *ℤ pos scale))) where
      -- the place above the lower bound
      abbrev place : ℤ
      place = (pos offset -ℤ pos lo) +ℤ (k *ℤ pos scale)

      place_range : range_sum (n.bounds x.rel) (range_times (n.bounds by) scale) ≡ Some (place, place)
      place_range = ap₂ (λ a b. range_sum a (range_times b scale)) h.relative one

      abbrev room : ℤ
      room = pos hi -ℤ pos lo

      some_base : bases_empty x.bases ≡ false
      some_base = ap bases_empty h.bases ∙ not_empty h.base h.few

      not_null : (x.null || x.ended) ≡ false
      not_null = ap₂ ◌||◌ h.null h.ended

      outside_is : moves_outside n x by scale ≡ (int_lt place (pos 0) || int_lt room place)
      outside_is = ap₂ leaves_bounds_at place_range h.room

      met_is : range_met (range_sum (n.bounds x.rel) (range_times (n.bounds by) scale)) (pos 0) (length_above n x) ≡ range_met (Some (place, place)) (pos 0) room
      met_is = ap₂ (λ a b. range_met a (pos 0) b) place_range (ap (upper_or (pos 0)) h.room)

      inside_good : (int_le (pos lo) z && int_le z (pos hi)) ≡ true → IsExact l n flow after told (giving s to (as_pointer (goes (into i (unsigned_abs z) lo hi) noted_world)))
      inside_good f =
          let g = and_parts (int_le (pos lo) z) (int_le z (pos hi)) f in
          let above = le_from (pos lo) z g.0 in
          let below = le_from z (pos hi) g.1 in
          let at : pos (unsigned_abs z) ≡ z = abs_is z (omega (arith, ints, above)) in
          let moved : shifted l n x by scale ≡ moved_to l n x (Some (place, place)) = ap (moved_to l n x) (met_is ∙ met_one place (pos 0) room (omega (arith, ints, above, is)) (omega (arith, ints, below, is))) in
          let there : place ≡ (pos (unsigned_abs z) -ℤ pos lo) = omega (arith, ints, at, is) in
          let y : Pointers I = moved_to l n x (Some (place, place)) in
          let into_one : IsIntoOne n s.bases y i (unsigned_abs z) lo hi = record {
            base = h.base;
            few = h.few;
            names = h.names;
            bases = h.bases;
            lower = h.lower;
            relative = subst (IsOne n y.rel) there (one_range q place);
            room = h.room;
            null = refl;
            ended = refl;
          } in
          let within : IsWithin s.world.memory i (unsigned_abs z) lo hi = record { made = inside.made; above = omega (arith, ints, at, above); below = omega (arith, ints, at, below); within = inside.within } in
          let within_bounds = within_is place room (omega (arith, ints, above, is)) (omega (arith, ints, below, is)) in
          pointer_given q flow p naming row s r t to few y (into i (unsigned_abs z) lo hi) noted_world told after
          (live_tells s.bases y (life_at s.world.memory i) i (unsigned_abs z) lo hi alive into_one) within refl (ap (put_moved l flow row to) moved ∙ something_moved to y some_base)
          (pointing_violated _ _ _ _ _ (λ e. absurd (true≢false (sym e ∙ not_null)))
          (λ e. absurd (true≢false (sym (and_parts (not (bases_empty x.bases)) (moves_outside n x by scale) e).1 ∙ (outside_is ∙ within_bounds)))) sink_there never)

      outside_good : (int_le (pos lo) z && int_le z (pos hi)) ≡ false → IsExact l n flow after told (giving s to (stopped_by noted_world rule.Invptr))
      outside_good f =
          let low = same_le (pos 0) place (pos lo) z (omega (arith, ints, is)) in
          let high = same_le place room z (pos hi) (omega (arith, ints, is)) in
          let none = met_none place (pos 0) room (ap₂ ◌&&◌ low high ∙ f) in
          rule_told l n flow s to after told noted_world rule.Invptr (ap (λ y. put_moved l flow row to (moved_to l n x y)) (met_is ∙ none) ∙ nothing_moved to (moved_to l n x None) refl) (λ there.
          pointing_violated _ _ _ _ _ (λ e. absurd (true≢false (sym e ∙ not_null))) (λ e. there) (λ e. Contains-append_left _ _ rule.Taintsink (sink_there e)) never)

      by_bounds : (b : Bool) → (int_le (pos lo) z && int_le z (pos hi)) ≡ b → IsExact l n flow after told (giving s to (as_pointer (cond b (goes (into i (unsigned_abs z) lo hi) noted_world) (stopped_by noted_world rule.Invptr))))
      by_bounds true f = inside_good f
      by_bounds false f = outside_good f

    life_good : (life : Life) (i offset lo hi : ℕ) (z : ℤ) → z ≡ (pos offset +ℤ (k *ℤ pos scale)) → life_at s.world.memory i ≡ life → ExactByLife n s.bases x life i offset lo hi → IsWithin s.world.memory i offset lo hi → IsExact l n flow after told (giving s to (as_pointer (unless noted_world (is_ended_life life) rule.Nullref (moved_into noted_world i z lo hi))))
    life_good live i offset lo hi z e now st inside = by_bounds i offset lo hi st now inside z e (int_le (pos lo) z && int_le z (pos hi)) refl
    life_good ended i offset lo hi z e now st inside = nowhere_good false true st
    life_good freed i offset lo hi z e now st inside = absurd st

  -- ---- the instruction

  module _ (to : ℕ) (few : to < flow.temps) (x : Pointers I) (by : I) (la : declared.Labels) (scale : ℕ) (back : Bool) (z : ℤ) (labels : Labels) (one : IsOne n by (directed back z)) (same : la ≡ as_set labels) where
    shift_good : (at : MachinePointer) → ExactPointer n s.bases s.world.memory x at → IsPointerIn s.world.memory at → IsExact l n flow (put_moved l flow row to (shifted l n x by scale)) (shift_violations n x by la scale) (giving s to (as_pointer (shift_pointer scale back at z labels s.world)))
    shift_good null st inside = nowhere_good to few x by la scale (directed back z) one labels same true false st
    shift_good (into i offset lo hi) st inside = life_good to few x by la scale (directed back z) one labels same (life_at s.world.memory i) i offset lo hi (pos offset +ℤ distance_of back z scale) (ap (λ y. pos offset +ℤ y) (distance_is back z scale)) refl st inside

  pub shift_told : (to from : ℕ) (by : Amount) (scale : ℕ) (back : Bool) → fits_operation (names_of flow) (op.Shift to from by scale back) ≡ true → IsDefined (act_step (flow_view flow) (act (op.Shift to from by scale back)) s) → StepIsExact l n flow row (op.Shift to from by scale back) s
  unfolding operate shift_step shift_by operation_violations
  shift_told to from by scale back fits d =
      let a = and_parts (has_temp (names_of flow) to) (has_temp (names_of flow) from && (has_amount (names_of flow) by && is_extent scale)) fits in
      let b = and_parts (has_temp (names_of flow) from) (has_amount (names_of flow) by && is_extent scale) a.1 in
      let short : is_short scale ≡ true = (and_parts (has_amount (names_of flow) by) (is_extent scale) b.1).1 in
      let x : Value I = temp_value l n flow row from in
      let y : Value I = amount_value l n flow row by in
      rw short (if_some_told l n flow _ _ s (s.temps from) _ d (λ v e d.
      amount_told _ _ by _ d (λ u su near d.
      pointer_told l n flow _ _ s to v s.world _ d (λ at g d.
      number_told l n flow _ _ s to u s.world _ d (λ z labels h d.
      let k = subst (ExactScalar n s.bases s.world.memory y) h su in
      shift_good to (ltb-true to flow.temps a.0) x.pointer (signed_amount l n y.num back) y.labels scale back z labels (signed_one back y.num z (near z labels h) k.number) k.labels_are at
      (subst (ExactScalar n s.bases s.world.memory x) g (t.temps from v e)).points
      (r.stands_for.held.within from (pointer at) (e ∙ ap Some g)))))))
