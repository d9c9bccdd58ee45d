-- Stores are sound.
use Rattle.std.proofs.Common.{◌≡◌, ℕ, suc, ◌≤◌, Bool, true, false, ◌&&◌, Option, Some, None, List, [], length, subst, sym, refl, ap, ◌∙◌, inl, inr}
use Rattle.std.specs.Prelude.{ℤ, pos, ◌≤ℤ◌}
use Rattle.std.proofs.lemmas.Bool.{cases_Bool, and_parts, ltb-true}
use Rattle.cc_base.specs.Lattices.{LatticeOf, OrderLaws}
use Rattle.cc_base.specs.IntegerTypes.{greatest_of}
use Rattle.cc_base.specs.IntegerDomains.{IntegersOf, BoundLaws, RangeLaws}
use Rattle.cc_base.specs.IntegerLaws.{SoundLaws}
use Rattle.cc_base.specs.declared.diagnostics.Rule.{Rule}
use Rattle.c_layout.specs.declared.leaf_lists.Class.{Class}
use Rattle.c_layout.specs.declared.leaf_lists.Class.TheVariants.{Char, Pointer}
use Rattle.cfg.specs.WellFormed.{names_of, has_temp, is_scalar, has_kept, fits_operation}
use Rattle.cfg.specs.declared.machine_instructions.Scalar as declared
use Rattle.cfg.specs.declared.machine_instructions.Operation.TheVariants as op
use Rattle.cfg.specs.declared.programs.Flow.{Flow}
use Rattle.pointer_domain.specs.declared.pointer_sets.Pointers.{Pointers}
use Rattle.value_domain.specs.declared.values.values.Value.{Value}
use Rattle.value_domain.specs.declared.values.row_cells.Cell.{Cell}
use Rattle.store_cells.specs.ClassNumbers.{same_class}
use Rattle.store.specs.StoreLengths.{store_keeps}
use Rattle.store_cells.specs.RowPositions.{value_at}
use Rattle.store_cells.specs.ScalarTypes.{kind_of, class_bytes}
use Rattle.store.specs.Stores.{store}
use Rattle.transfer_checks.specs.Temporaries.{temp_position, temp_value}
use Rattle.transfer_checks.specs.Touches.{touch}
use Rattle.transfer_checks.specs.ViolationSets.{violates}
use Rattle.transfer_checks.specs.declared.touches.Touched.{Touched}
use Rattle.transfer_checks.specs.declared.violation_sets.Violations.{Violations}
use Rattle.transfer_system.specs.Scalars.{class_of}
use Rattle.transfer_system.specs.MemorySteps.{move_temp, moved_behind, store_to, store_step}
use Rattle.transfer_system.specs.Steps.{operate}
use Rattle.transfer_system.specs.StepViolations.{operation_violations}
use Rattle.memory_model.specs.Memory.ScalarSizes as machine
use Rattle.memory_model.specs.Memory.Bytes.{MachinePointer}
use Rattle.memory_model.specs.Memory.Instances.{Memory, bytes_at}
use Rattle.memory_model.specs.Memory.Scalars.{Scalar, integer, pointer}
use Rattle.memory_model.specs.Effects.Accesses.{class_in, store_through, store_at}
use Rattle.memory_model.specs.Effects.Accesses as effect
use Rattle.memory_model.specs.Effects.Operands.{is_of_kind}
use Rattle.memory_model.specs.Effects.Touches.{Spot, touched}
use Rattle.memory_model.specs.Effects.Worlds.{World, Reply, goes, stops, behind, stopped_by, Left, Stuck}
use Rattle.semantics.specs.CfgMachine.FlowStates.{ProgramState}
use Rattle.semantics.specs.CfgMachine.FlowActs.{keeping, storing}
use Rattle.store_sound.specs.Concretization.ValueMeaning.{Naming, InGammaPointer, InGammaScalar}
use Rattle.store_sound.specs.Concretization.SoundMemory.{IsPointerIn, IsScalarIn}
use Rattle.store_sound.specs.Concretization.Coverage.{state_of}
use Rattle.store_sound.specs.Concretization.RowMeaning.{InGamma}
use Rattle.store_sound.specs.Operations.Scalars.{signed_in}
use Rattle.store_sound.specs.Operations.Gives.{Gives}
use Rattle.store_sound.proofs.operations.MachineStores.{store_goes}
use Rattle.store_sound.proofs.operations.Near.{value_at_near}
use Rattle.store_sound.proofs.operations.StoreSound.{store_stands}
use Rattle.store_sound.proofs.chars.ByteStores.{byte_goes}
use Rattle.store_sound.proofs.chars.CharStoreSound.{any_char_store}
use Rattle.store_sound.proofs.operations.TouchSound.{touch_admitted}
use Rattle.store_sound.proofs.operations.TouchedRest.{touch_stands}
use Rattle.store_sound.specs.Programs.Premises.{HasPremises}
use Rattle.transfer_sound.specs.Values.SoundSteps.{IsReached, IsStoodFor, StepIsSound}
use Rattle.transfer_sound.proofs.values.Admitted.{AreAdmitted, none_admitted, one_admitted, both_admitted, same_admitted}
use Rattle.transfer_sound.proofs.values.MoveSteps.{near_has}
use Rattle.transfer_sound.proofs.values.NearScalars.{IsNearScalar}
use Rattle.transfer_sound.proofs.values.Replies.{stop_good, if_some_good, result_good, goes_good}
use Rattle.transfer_sound.proofs.memory.MachineReplies.{TouchEnd, went, stopped, touch_end, StoreEnd, stores, leaves, store_end}
use Rattle.transfer_sound.proofs.memory.ScalarClasses.{class_pair}

module _ {I : Type 0} {l : LatticeOf I} {n : IntegersOf I} {gamma : I → ℤ → Type 0} (o : OrderLaws l) (q : BoundLaws l n gamma) (flow : Flow) (p : HasPremises flow) where
  -- what a temporary has is near
  temp_near : (row : List (Cell I)) (naming : Naming) (memory : Memory) (t : ℕ) (v : Scalar) → InGammaScalar gamma naming memory (temp_value l n flow row t) v → IsNearScalar v
  unfolding value_at
  temp_near row naming memory t (integer z la) h = near_has q _ z h.0
  temp_near row naming memory t (pointer at) h = tt

  -- ---- the value that is kept

  module _ (naming : Naming) (row : List (Cell I)) (s : ProgramState) (r : IsReached l n gamma flow naming row s) (told : Violations) where
    clean : AreAdmitted told s.world.violated
    clean = same_admitted told s.world.violated [] r.begun (none_admitted told)

    pub keeps_good : (kept : Option (ℕ × ℕ)) → has_kept (names_of flow) kept ≡ true → IsStoodFor l n gamma flow (Some (move_temp l n flow kept row)) told (keeping s kept)
    unfolding move_temp
    keeps_good None fits = let now : ProgramState = record s { at = suc s.at } in
        goes_good l n gamma flow _ _ now s.world clean (record { row = row; is = refl; long = r.long; naming = naming; stands_for = r.stands_for; short = r.short })
    keeps_good (Some k) fits =
        let few = ltb-true k.0 flow.temps (and_parts (has_temp (names_of flow) k.0) (has_temp (names_of flow) k.1) fits).0 in
        if_some_good l n gamma flow _ told s r.begun (s.temps k.1) _ (λ v e.
        let st = r.stands_for.temps k.1 v e in
        result_good q flow p naming row s r k.0 few (temp_value l n flow row k.1) v s.world (record { stands_for = st; near = temp_near row naming s.world.memory k.1 v st; within = r.stands_for.held.within k.1 v e }) refl _ told refl clean)

module _ {I : Type 0} {l : LatticeOf I} {n : IntegersOf I} {gamma : I → ℤ → Type 0} (o : OrderLaws l) (q : BoundLaws l n gamma) (c : SoundLaws l n gamma) (ranges : RangeLaws l n) (flow : Flow) (p : HasPremises flow) (naming : Naming) (row : List (Cell I)) (s : ProgramState) (r : IsReached l n gamma flow naming row s) where
  module _ (kind : declared.Scalar) (kept : Option (ℕ × ℕ)) (has : has_kept (names_of flow) kept ≡ true) (x : Pointers I) (value : ℕ) where
    abbrev y : Value I
    y = temp_value l n flow row value

    abbrev touched_at : Class × Bool → Touched I
    touched_at cl = touch l n flow.bases.items row x 0 (class_bytes flow.model cl.0) true

    abbrev after_at : Class × Bool → Option (List (Cell I))
    after_at cl = store l n flow.model flow.bases.items (touched_at cl).rest cl.0 cl.1 y row

    abbrev GoodAt : Class × Bool → Reply ProgramState → Type 0
    GoodAt cl reply = IsStoodFor l n gamma flow (moved_behind l n flow kept (after_at cl)) (touched_at cl).violations reply

    abbrev pair : Class × Bool
    pair = (class_in kind, signed_in kind)

    abbrev told : Violations
    told = (touched_at pair).violations

    begun_clean : AreAdmitted told s.world.violated
    begun_clean = same_admitted told s.world.violated [] r.begun (none_admitted told)

    rule_stops : (rule : Rule) → violates told rule ≡ true → GoodAt pair (storing s kept (stopped_by s.world rule))
    rule_stops rule h = stop_good l n gamma flow _ told _ _ (both_admitted told s.world.violated _ begun_clean (one_admitted told rule h))

    module _ (at : MachinePointer) (v : Scalar) (e : s.temps value ≡ Some v) (st : InGammaPointer gamma naming s.world.memory x at) (inside : IsPointerIn s.world.memory at) where
      abbrev reply : Reply Scalar
      reply = effect.store flow.model kind (pointer at) v s.world

      -- the row behind the store, whatever the scalar
      row_behind : p.laid.behind ≤ length row → (u : World) (w : Scalar) → InGammaPointer gamma naming s.world.memory (touched_at pair).rest at → InGammaScalar gamma naming s.world.memory y v → IsScalarIn s.world.memory v → reply ≡ goes w u → (b : Bool) → same_class (class_in kind) Char ≡ b
          → Gives (λ after. InGamma l n gamma flow naming after (record { memory = u.memory; temps = s.temps; entered = s.bases })) (after_at pair)
      row_behind long u w rest sv within h false wide = store_stands o q c ranges flow p.shaped p.laid.texts p.laid.behind p.laid.laid p.laid.temporaries naming row long (state_of s) r.stands_for kind (touched_at pair).rest at y v w s.world u refl wide rest inside sv within (value_at_near o q row (temp_position flow value)) h
      row_behind long u w rest sv within h true char = any_char_store o q c ranges flow p.shaped p.laid.texts p.padding p.laid.behind p.laid.laid p.laid.temporaries naming row long (state_of s) r.stands_for kind (touched_at pair).rest at y v w s.world u refl char rest inside sv (value_at_near o q row (temp_position flow value)) h

      lengths_behind : (u : World) (w : Scalar) → reply ≡ goes w u → (b : Bool) → same_class (class_in kind) Char ≡ b → (i : ℕ) → length (bytes_at u.memory i) ≡ length (bytes_at s.world.memory i)
      lengths_behind u w h false wide = (store_goes flow.model kind at v w s.world u wide inside h).1.store.lengths
      lengths_behind u w h true char = (byte_goes flow.model kind at v w s.world u char inside h).1.stored.store.refill.alike.lengths

      -- the store goes on
      store_good : (spot : Spot) (u : World) (w : Scalar) → touched s.world at (machine.class_bytes flow.model (class_in kind)) true ≡ goes spot s.world → reply ≡ goes w u → u.violated ≡ s.world.violated → GoodAt pair (storing s kept reply)
      store_good spot u w f h same =
          let rest = touch_stands o q flow p.shaped naming row s.world s.temps s.bases r.stands_for x (machine.class_bytes flow.model (class_in kind)) true at spot s.world st inside f in
          let sv = r.stands_for.temps value v e in
          let long : p.laid.behind ≤ length row = subst (λ z. p.laid.behind ≤ z) (sym r.long) p.laid.long in
          let g = row_behind long u w rest sv (r.stands_for.held.within value v e) h (same_class (class_in kind) Char) refl in
          let now : ProgramState = record s { world = u } in
          let lengths = lengths_behind u w h (same_class (class_in kind) Char) refl in
          let reached : IsReached l n gamma flow naming g.value now = record {
            long = store_keeps l n flow.model flow.bases.items (touched_at pair).rest (class_in kind) (signed_in kind) y row g.value g.is ∙ r.long;
            stands_for = g.good;
            short = λ i. subst (λ z. pos z ≤ℤ greatest_of (kind_of flow.model Pointer true)) (sym (lengths i)) (r.short i);
            begun = same ∙ r.begun;
          } in
          subst (λ z. GoodAt pair (storing s kept z)) (sym h)
          (subst (λ z. IsStoodFor l n gamma flow (moved_behind l n flow kept z) told (keeping now kept)) (sym g.is) (keeps_good o q flow p naming g.value now reached told kept has))

      stored_by : (spot : Spot) → touched s.world at (machine.class_bytes flow.model (class_in kind)) true ≡ goes spot s.world → reply ≡ store_at flow.model (class_in kind) v spot s.world → StoreEnd flow.model s.world kind v (store_at flow.model (class_in kind) v spot s.world) → GoodAt pair (storing s kept reply)
      stored_by spot f h (stores place u g same) = store_good spot u v f (h ∙ g) same
      stored_by spot f h (leaves g) = subst (λ z. GoodAt pair (storing s kept z)) (sym (h ∙ g)) (stop_good l n gamma flow _ told Left s.world begun_clean)

      of_kind_good : is_of_kind kind v ≡ true → TouchEnd s.world (touched s.world at (machine.class_bytes flow.model (class_in kind)) true) → GoodAt pair (storing s kept reply)
      of_kind_good k (stopped rule f) =
          let h : reply ≡ stopped_by s.world rule = rw k (ap (λ z. behind z (store_at flow.model (class_in kind) v)) f) in
          subst (λ z. GoodAt pair (storing s kept z)) (sym h) (rule_stops rule (touch_admitted o q flow p.shaped naming row s.world s.temps s.bases r.stands_for x (machine.class_bytes flow.model (class_in kind)) true at rule st inside f))
      of_kind_good k (went spot f) =
          let h : reply ≡ store_at flow.model (class_in kind) v spot s.world = rw k (ap (λ z. behind z (store_at flow.model (class_in kind) v)) f) in
          stored_by spot f h (store_end flow.model kind v spot s.world)

      pair_good : GoodAt pair (storing s kept reply)
      pair_good = elim (cases_Bool (is_of_kind kind v)) [
        | inl k ↦ of_kind_good k (touch_end s.world at (machine.class_bytes flow.model (class_in kind)) true)
        | inr k ↦ (let h : reply ≡ stops Stuck s.world = rw k refl in subst (λ z. GoodAt pair (storing s kept z)) (sym h) (stop_good l n gamma flow _ told Stuck s.world begun_clean))
      ]

    -- where the pointer is one
    scalar_good : (pv v : Scalar) → s.temps value ≡ Some v → ((at : MachinePointer) → pv ≡ pointer at → InGammaPointer gamma naming s.world.memory x at × IsPointerIn s.world.memory at) → GoodAt (class_of kind) (storing s kept (effect.store flow.model kind pv v s.world))
    scalar_good (integer z la) v e h = subst (λ cl. GoodAt cl (storing s kept (stops Stuck s.world))) (sym (class_pair kind)) (stop_good l n gamma flow _ told Stuck s.world begun_clean)
    scalar_good (pointer at) v e h = let g = h at refl in subst (λ cl. GoodAt cl (storing s kept (effect.store flow.model kind (pointer at) v s.world))) (sym (class_pair kind)) (pair_good at v e g.0 g.1)

  pub store_sound : (to from : ℕ) (kind : declared.Scalar) (kept : Option (ℕ × ℕ)) → fits_operation (names_of flow) (op.Store to from kind kept) ≡ true → StepIsSound l n gamma flow row (op.Store to from kind kept) s
  unfolding operate store_step store_to operation_violations
  store_sound to from kind kept fits =
      let a = and_parts (has_temp (names_of flow) to) (has_temp (names_of flow) from && (is_scalar flow.model kind && has_kept (names_of flow) kept)) fits in
      let b = and_parts (has_temp (names_of flow) from) (is_scalar flow.model kind && has_kept (names_of flow) kept) a.1 in
      let d = and_parts (is_scalar flow.model kind) (has_kept (names_of flow) kept) b.1 in
      if_some_good l n gamma flow _ _ s r.begun (s.temps to) _ (λ pv e.
      if_some_good l n gamma flow _ _ s r.begun (s.temps from) _ (λ v f.
      scalar_good kind kept d.1 (temp_value l n flow row to).pointer from pv v f (λ at g.
      (subst (InGammaScalar gamma naming s.world.memory (temp_value l n flow row to)) g (r.stands_for.temps to pv e), r.stands_for.held.within to (pointer at) (e ∙ ap Some g)))))
