-- Pointers to parts of what is pointed to are told.
use Rattle.std.proofs.Common.{◌≡◌, ℕ, ◌+◌, ◌≤◌, ◌<◌, Bool, true, false, cond, not, ◌||◌, ◌&&◌, Some, None, List, length, arith, subst, sym, refl, ap, ap₂, ◌∙◌}
use Rattle.std.specs.Prelude.{ℤ, pos, ◌+ℤ◌, ◌-ℤ◌, ◌≤ℤ◌, int_le, int_lt, nat_le, is_none}
use Rattle.std.proofs.lemmas.Int.{ints}
use Rattle.std.proofs.lemmas.Bool.{and_parts, leb-true, ltb-true}
use Rattle.std.proofs.Math.Bool.{or-true}
use Rattle.cc_base.specs.Lattices.{LatticeOf}
use Rattle.cc_base.specs.NumberRanges.{range_sum, range_met, upper_or}
use Rattle.cc_base.specs.IntegerDomains.{IntegersOf, BoundLaws, of_range}
use Rattle.cc_base.specs.declared.diagnostics.Rule.TheVariants as rule
use Rattle.c_layout.specs.declared.shapes.BaseInfo.{BaseInfo}
use Rattle.cfg.specs.BaseShapes.{is_extent}
use Rattle.cfg.specs.WellFormed.{names_of, has_temp, fits_operation}
use Rattle.cfg.specs.declared.machine_instructions.Operation.TheVariants as op
use Rattle.cfg.specs.declared.programs.Flow.{Flow}
use Rattle.pointer_domain.specs.BaseSets.{no_base, bases_empty}
use Rattle.pointer_domain.specs.PointerLattice.{no_pointer}
use Rattle.pointer_domain.specs.PointerTables.{the_end, length_above, part_starts, part_at, narrowed}
use Rattle.pointer_domain.specs.declared.base_sets.Bases.{Bases}
use Rattle.pointer_domain.specs.declared.pointer_sets.Pointers.{Pointers}
use Rattle.value_domain.specs.declared.values.row_cells.Cell.{Cell}
use Rattle.store_objects.specs.LiveBases.{only_base, live_of}
use Rattle.store_cells.specs.NearValues.{near_pointer}
use Rattle.transfer_checks.specs.Temporaries.{temp_value}
use Rattle.transfer_checks.specs.Touches.{leaves_bounds, leaves_bounds_at, span_of, is_nowhere, into_bases, places_within, touched_inside, touch, touch_violations}
use Rattle.transfer_checks.specs.declared.violation_sets.Violations.{Violations}
use Rattle.transfer_instructions.specs.Values.PointerSteps.{is_short, narrow_touched, narrow_step}
use Rattle.transfer_instructions.specs.Values.ResultTemps.{put_pointer}
use Rattle.transfer_instructions.specs.Instructions.Steps.{operate}
use Rattle.transfer_instructions.specs.Instructions.StepViolations.{operation_violations}
use Rattle.memory_model.specs.Memory.Bytes.{MachinePointer, null, into}
use Rattle.memory_model.specs.Memory.Instances.{Life, live, ended, freed, bytes_at, life_at}
use Rattle.memory_model.specs.Memory.Scalars.{pointer}
use Rattle.memory_model.specs.Effects.Touches.{touched_by}
use Rattle.memory_model.specs.Effects.PointerEffects.{narrowed_by, narrow_pointer}
use Rattle.memory_model.specs.Effects.Operands.{as_pointer}
use Rattle.memory_model.specs.Effects.Worlds.{behind, goes, stopped_by}
use Rattle.lower_templates.specs.Worklist.Acts.{act}
use Rattle.lower_templates.specs.Views.ProgramViews.{flow_view}
use Rattle.semantics.specs.CfgMachine.FlowStates.{ProgramState}
use Rattle.semantics.specs.CfgMachine.FlowActs.{giving}
use Rattle.semantics.specs.CfgMachine.FlowSteps.{act_step}
use Rattle.store_sound.specs.Concretization.ValueMeaning.{Naming}
use Rattle.store_sound.specs.Concretization.SoundMemory.{IsWithin, IsPointerIn}
use Rattle.store_sound.specs.Concretization.Coverage.{state_of}
use Rattle.store_sound.proofs.operations.Slices.{get_there}
use Rattle.store_sound.proofs.operations.TouchSound.{past_end}
use Rattle.store_sound.specs.Programs.Premises.{HasPremises}
use Rattle.transfer_sound.specs.Values.SoundSteps.{IsReached}
use Rattle.transfer_sound.proofs.values.NearScalars.{near_offset, near_distance}
use Rattle.transfer_sound.proofs.values.BinarySteps.{met_one}
use Rattle.transfer_exact.specs.Values.SingleNumbers.{IsOne}
use Rattle.transfer_exact.specs.Values.SingleValues.{IsNowhere, IsIntoOne, ExactByLife, ExactPointer, ExactScalar}
use Rattle.transfer_exact.specs.Values.SingleRows.{ExactState, IsPlainProgram}
use Rattle.transfer_exact.specs.Values.SingleSteps.{IsDefined, IsExact, StepIsExact}
use Rattle.transfer_exact.proofs.values.Faults.{met_none}
use Rattle.transfer_exact.proofs.values.NearExact.{near_one, near_none}
use Rattle.transfer_exact.proofs.values.Told.{if_some_told, pointer_told}
use Rattle.transfer_exact.proofs.values.Violated.{AreViolated, pointing, pointing_violated, never}
use Rattle.transfer_exact.proofs.places.OneBase.{not_empty, live_is, none_live, none_freed}
use Rattle.transfer_exact.proofs.places.OneTouch.{one_range}
use Rattle.transfer_exact.proofs.pointers.Addresses.{live_tells, one_is}
use Rattle.transfer_exact.proofs.pointers.PointersExact.{rule_told, nothing_there, pointer_given}

within_is : (a b c : ℤ) → pos 0 ≤ℤ a → b ≤ℤ c → (int_lt a (pos 0) || int_lt c b) ≡ false
within_is a b c h k = grind (arith, ints)

too_far : (z c : ℤ) → (c +ℤ pos 1) ≤ℤ z → (int_le (pos 0) z && int_le z c) ≡ false
too_far z c h = grind (arith, ints)

module _ {I : Type 0} {l : LatticeOf I} {n : IntegersOf I} {gamma : I → ℤ → Type 0} (q : BoundLaws l n gamma) (flow : Flow) (p : HasPremises flow) (plain : IsPlainProgram flow) (naming : Naming) (row : List (Cell I)) (s : ProgramState) (r : IsReached l n gamma flow naming row s) (t : ExactState l n flow row (state_of s)) (x : Pointers I) (from size : ℕ) where
  abbrev bases : List BaseInfo
  bases = flow.bases.items

  abbrev live_set : Bases
  live_set = live_of l n bases row x.bases

  abbrev inside_part : Pointers I
  inside_part = touched_inside l n x live_set from size

  abbrev part_rest : Pointers I
  part_rest = (touch l n bases row x from size false).rest

  abbrev part_told : Violations
  part_told = (touch l n bases row x from size false).violations

  told_is : part_told ≡ pointing (x.null || x.ended) (not (bases_empty live_set) && leaves_bounds n x from size) false false
  unfolding touch touch_violations
  told_is = let freed = none_freed l n bases plain.no_heap row x.bases in rw freed refl

  rest_is : (y : Pointers I) → inside_part ≡ y → part_rest ≡ near_pointer l n (into_bases l n y y.bases y.rel)
  unfolding touch
  rest_is y e = ap (λ z. near_pointer l n (into_bases l n z z.bases z.rel)) e

  -- nothing goes on
  nowhere_rest : inside_part ≡ no_pointer l → narrowed l n part_rest from size ≡ no_pointer l
  nowhere_rest e =
      let a : part_rest ≡ near_pointer l n (no_pointer l) = rest_is (no_pointer l) e in
      ap (λ z. narrowed l n z from size) a ∙ ap (λ y. part_at l n (near_pointer l n (no_pointer l)) size (range_met (range_sum (range_sum y (range_met (n.bounds (near_pointer l n (no_pointer l)).rel) (pos 0) ((length_above n (near_pointer l n (no_pointer l)) -ℤ pos from) -ℤ pos size))) (Some (pos from, pos from))) (pos 0) the_end)) (near_none q l.least q.least_bounds)

  module _ (to : ℕ) (few : to < flow.temps) where
    nothing_put : inside_part ≡ no_pointer l → put_pointer l flow row to (narrowed l n part_rest from size) ≡ None
    nothing_put e = ap (put_pointer l flow row to) (nowhere_rest e) ∙ nothing_there l n flow s to row (no_pointer l) refl refl refl

    violated_by : (a b : Bool) → (x.null || x.ended) ≡ a → (not (bases_empty live_set) && leaves_bounds n x from size) ≡ b → (rules : _) → AreViolated (pointing a b false false) rules → AreViolated part_told rules
    violated_by a b e f rules h = subst (λ z. AreViolated z rules) (sym (told_is ∙ ap₂ (λ u v. pointing u v false false) e f)) h

    nowhere_good : (a b : Bool) → (a || b) ≡ true → IsNowhere x a b → IsExact l n flow (put_pointer l flow row to (narrowed l n part_rest from size)) part_told (giving s to (stopped_by s.world rule.Nullref))
    nowhere_good a b some h =
        let set : live_set ≡ no_base = none_live bases x.bases h.bases l n row in
        let inside : inside_part ≡ no_pointer l = ap (λ z. touched_inside l n x z from size) set in
        rule_told l n flow s to _ part_told s.world rule.Nullref (nothing_put inside) (λ there.
        violated_by true false (ap₂ ◌||◌ h.null h.ended ∙ some) (ap (λ z. not (bases_empty z) && leaves_bounds n x from size) set) _ (pointing_violated _ _ _ _ _ (λ e. there) never never never))

    module _ (i offset lo hi : ℕ) (h : IsIntoOne n s.bases x i offset lo hi) (alive : life_at s.world.memory i ≡ live) (inside : IsWithin s.world.memory i offset lo hi) where
      abbrev place : ℤ
      place = pos offset -ℤ pos lo

      abbrev room : ℤ
      room = pos hi -ℤ pos lo

      set_is : live_set ≡ only_base h.base
      set_is =
          let named = r.stands_for.lives.named h.base i h.names in
          let base = get_there bases h.base (r.stands_for.sane.few i h.base named) in
          ap (live_of l n bases row) h.bases ∙ live_is bases h.base base.0 base.1 h.few l n row (plain.no_heap h.base base.0 base.1)

      some_live : bases_empty live_set ≡ false
      some_live = ap bases_empty set_is ∙ not_empty h.base h.few

      not_null : (x.null || x.ended) ≡ false
      not_null = ap₂ ◌||◌ h.null h.ended

      met_is : range_met (n.bounds x.rel) (pos 0) ((length_above n x -ℤ pos from) -ℤ pos size) ≡ range_met (Some (place, place)) (pos 0) ((room -ℤ pos from) -ℤ pos size)
      met_is = ap₂ (λ a b. range_met a (pos 0) ((b -ℤ pos from) -ℤ pos size)) h.relative (ap (upper_or (pos 0)) h.room)

      leaves_is : leaves_bounds n x from size ≡ (int_lt (place +ℤ pos from) (pos 0) || int_lt room (place +ℤ pos (from + size)))
      leaves_is = ap₂ (λ a b. leaves_bounds_at (range_sum a (span_of from size)) b) h.relative h.room

      outside_good : hi < (offset + from) + size → IsExact l n flow (put_pointer l flow row to (narrowed l n part_rest from size)) part_told (giving s to (stopped_by s.world rule.Invptr))
      outside_good past =
          let none : places_within l n x from size ≡ l.least = ap (of_range l n) (met_is ∙ met_none place (pos 0) ((room -ℤ pos from) -ℤ pos size) (too_far place ((room -ℤ pos from) -ℤ pos size) (omega (arith, ints, past)))) in
          let out : (int_lt (place +ℤ pos from) (pos 0) || int_lt room (place +ℤ pos (from + size))) ≡ true = ap (λ z. int_lt (place +ℤ pos from) (pos 0) || z) (beyond room (place +ℤ pos (from + size)) (omega (arith, ints, past))) ∙ or-true (int_lt (place +ℤ pos from) (pos 0)) in
          let no_place : is_nowhere n live_set (places_within l n x from size) ≡ true = ap (λ z. bases_empty live_set || is_none (n.bounds z)) none ∙ (ap (λ z. bases_empty live_set || is_none z) q.least_bounds ∙ or-true (bases_empty live_set)) in
          let nothing : inside_part ≡ no_pointer l = ap (λ z. cond z (no_pointer l) (record x { bases = live_set; rel = places_within l n x from size; null = false; ended = false })) no_place in
          rule_told l n flow s to _ part_told s.world rule.Invptr (nothing_put nothing) (λ there.
          violated_by false true not_null (ap₂ (λ a b. not a && b) some_live (leaves_is ∙ out)) _ (pointing_violated _ _ _ _ _ never (λ e. there) never never))
        where
          beyond : (a b : ℤ) → (a +ℤ pos 1) ≤ℤ b → int_lt a b ≡ true
          beyond a b h = grind (arith, ints)

      abbrev reached : Pointers I
      reached = record x { bases = only_base h.base; rel = of_range l n (Some (place, place)); null = false; ended = false }

      inside_good : (offset + from) + size ≤ hi → IsExact l n flow (put_pointer l flow row to (narrowed l n part_rest from size)) part_told (giving s to (goes (pointer (into i (offset + from) (offset + from) ((offset + from) + size))) s.world))
      inside_good below =
          let above = inside.above in
          let top = inside.within in
          let small = r.stands_for.sane.small i in
          let bytes : ℕ = length (bytes_at s.world.memory i) in
          let met : range_met (Some (place, place)) (pos 0) ((room -ℤ pos from) -ℤ pos size) ≡ Some (place, place) = met_one place (pos 0) ((room -ℤ pos from) -ℤ pos size) (omega (arith, ints, above)) (omega (arith, ints, below)) in
          let places : places_within l n x from size ≡ of_range l n (Some (place, place)) = ap (of_range l n) (met_is ∙ met) in
          let somewhere : is_nowhere n (only_base h.base) (of_range l n (Some (place, place))) ≡ false = ap₂ (λ a b. a || is_none b) (not_empty h.base h.few) (one_range q place) in
          let go : inside_part ≡ reached = ap₂ (λ a b. into_bases l n x a b) set_is places ∙ ap (λ z. cond z (no_pointer l) reached) somewhere in
          let rest : part_rest ≡ near_pointer l n reached = rest_is reached go ∙ ap (near_pointer l n) (ap (λ z. cond z (no_pointer l) reached) somewhere) in
          let lo_one : IsOne n (near_pointer l n reached).lo (pos lo) = near_one q x.lo (pos lo) (near_offset lo bytes (omega (arith, above, below, top)) small) h.lower in
          let rel_one : IsOne n (near_pointer l n reached).rel place = near_one q (of_range l n (Some (place, place))) place (near_distance lo offset bytes above (omega (arith, below, top)) small) (one_range q place) in
          let len_one : IsOne n (near_pointer l n reached).len room = near_one q x.len room (near_distance lo hi bytes (omega (arith, above, below)) top small) h.room in
          let m : ℤ = pos (offset + from) in
          let sum : ((pos lo +ℤ place) +ℤ pos from) ≡ m = omega (arith, ints) in
          let starts : part_starts n (near_pointer l n reached) from size ≡ Some (m, m) =
          ap₂ (λ a b. range_met (range_sum (range_sum a b) (Some (pos from, pos from))) (pos 0) the_end) lo_one (ap₂ (λ a b. range_met a (pos 0) ((b -ℤ pos from) -ℤ pos size)) rel_one (ap (upper_or (pos 0)) len_one) ∙ met)
          ∙ (ap₂ (λ a b. range_met (Some (a, b)) (pos 0) the_end) sum sum ∙ met_one m (pos 0) the_end (omega (arith, ints)) (omega (arith, ints, below, top, small))) in
          let y : Pointers I = part_at l n (near_pointer l n reached) size (Some (m, m)) in
          let is : narrowed l n part_rest from size ≡ y = ap (λ z. narrowed l n z from size) rest ∙ ap (part_at l n (near_pointer l n reached) size) starts in
          let into_one : IsIntoOne n s.bases y i (offset + from) (offset + from) ((offset + from) + size) = record {
            base = h.base;
            few = h.few;
            names = h.names;
            bases = refl;
            lower = one_range q m;
            relative = one_is q (pos 0) (pos (offset + from) -ℤ pos (offset + from)) (omega (arith, ints));
            room = one_is q (pos size) (pos ((offset + from) + size) -ℤ pos (offset + from)) (omega (arith, ints));
            null = refl;
            ended = refl;
          } in
          let within : IsWithin s.world.memory i (offset + from) (offset + from) ((offset + from) + size) = record { made = inside.made; above = omega arith; below = omega arith; within = omega (arith, below, top) } in
          let stays : (int_lt (place +ℤ pos from) (pos 0) || int_lt room (place +ℤ pos (from + size))) ≡ false = within_is (place +ℤ pos from) (place +ℤ pos (from + size)) room (omega (arith, ints, above)) (omega (arith, ints, below)) in
          pointer_given q flow p naming row s r t to few y (into i (offset + from) (offset + from) ((offset + from) + size)) s.world part_told _
          (live_tells s.bases y (life_at s.world.memory i) i (offset + from) (offset + from) ((offset + from) + size) alive into_one) within refl (ap (put_pointer l flow row to) is)
          (violated_by false false not_null (ap₂ (λ a b. not a && b) some_live (leaves_is ∙ stays)) _ (pointing_violated _ _ _ _ _ never never never never))

      by_bounds : (b : Bool) → (nat_le lo (offset + from) && nat_le ((offset + from) + size) hi) ≡ b → IsExact l n flow (put_pointer l flow row to (narrowed l n part_rest from size)) part_told (giving s to (as_pointer (behind (cond b (goes (record { instance = i; offset = offset + from }) s.world) (stopped_by s.world rule.Invptr)) (narrowed_by size))))
      by_bounds true e = inside_good (leb-true ((offset + from) + size) hi (and_parts (nat_le lo (offset + from)) (nat_le ((offset + from) + size) hi) e).1)
      by_bounds false e = let a = inside.above in outside_good (past_end lo (offset + from) ((offset + from) + size) hi e (omega (arith, a)))

    life_good : (life : Life) (i offset lo hi : ℕ) → life_at s.world.memory i ≡ life → ExactByLife n s.bases x life i offset lo hi → IsWithin s.world.memory i offset lo hi → IsExact l n flow (put_pointer l flow row to (narrowed l n part_rest from size)) part_told (giving s to (as_pointer (behind (touched_by s.world life i (offset + from) lo hi size false) (narrowed_by size))))
    life_good live i offset lo hi e st inside = by_bounds i offset lo hi st e inside (nat_le lo (offset + from) && nat_le ((offset + from) + size) hi) refl
    life_good ended i offset lo hi e st inside = nowhere_good false true refl st
    life_good freed i offset lo hi e st inside = absurd st

    part_good : (at : MachinePointer) → ExactPointer n s.bases s.world.memory x at → IsPointerIn s.world.memory at → IsExact l n flow (put_pointer l flow row to (narrowed l n part_rest from size)) part_told (giving s to (as_pointer (narrow_pointer from size at s.world)))
    part_good null st inside = nowhere_good true false refl st
    part_good (into i offset lo hi) st inside = life_good (life_at s.world.memory i) i offset lo hi refl st inside

module _ {I : Type 0} {l : LatticeOf I} {n : IntegersOf I} {gamma : I → ℤ → Type 0} (q : BoundLaws l n gamma) (flow : Flow) (p : HasPremises flow) (plain : IsPlainProgram flow) (naming : Naming) (row : List (Cell I)) (s : ProgramState) (r : IsReached l n gamma flow naming row s) (t : ExactState l n flow row (state_of s)) where
  pub narrow_told : (to from offset size : ℕ) → fits_operation (names_of flow) (op.Narrow to from offset size) ≡ true → IsDefined (act_step (flow_view flow) (act (op.Narrow to from offset size)) s) → StepIsExact l n flow row (op.Narrow to from offset size) s
  unfolding operate narrow_step narrow_touched operation_violations
  narrow_told to from offset size fits d =
      let a = and_parts (has_temp (names_of flow) to) (has_temp (names_of flow) from && (is_extent offset && is_extent size)) fits in
      let b = and_parts (has_temp (names_of flow) from) (is_extent offset && is_extent size) a.1 in
      let c = and_parts (is_extent offset) (is_extent size) b.1 in
      let short : is_short offset ≡ true = c.0 in
      let small : is_short size ≡ true = c.1 in
      let x : Pointers I = (temp_value l n flow row from).pointer in
      rw (short, small) (if_some_told l n flow _ _ s (s.temps from) _ d (λ v e d.
      pointer_told l n flow _ _ s to v s.world _ d (λ at g d.
      part_good q flow p plain naming row s r t x offset size to (ltb-true to flow.temps a.0) at
      (subst (ExactScalar n s.bases s.world.memory (temp_value l n flow row from)) g (t.temps from v e)).points
      (r.stands_for.held.within from (pointer at) (e ∙ ap Some g)))))
