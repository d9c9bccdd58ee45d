-- Loads are sound.
use Rattle.std.proofs.Common.{◌≡◌, ℕ, ◌<◌, Bool, true, false, not, cond, ◌||◌, ◌&&◌, Option, Some, None, List, [], ◌∷◌, subst, sym, refl, ap, ◌∙◌, inl, inr}
use Rattle.std.specs.Prelude.{ℤ}
use Rattle.std.proofs.lemmas.Bool.{cases_Bool, and_parts, and_from, or_left, or_right, ltb-true, true≢false}
use Rattle.cc_base.specs.Lattices.{LatticeOf, OrderLaws}
use Rattle.cc_base.specs.IntegerDomains.{IntegersOf, BoundLaws}
use Rattle.cc_base.specs.IntegerLaws.{SoundLaws}
use Rattle.cc_base.specs.declared.diagnostics.Rule.{Rule}
use Rattle.cc_base.specs.declared.diagnostics.Rule.TheVariants.{Accfree, Boolasgn, Chrsgnext, Dblfree, Diverr, Insufmem, Intoflow, Invptr, Libptr, Nonnullcs, Nullref, Ptrobj, Sizeofptr, Strmod, Swtchdflt, Taintsink, Uninitref, Xfree}
use Rattle.c_layout.specs.declared.leaf_lists.Class.{Class}
use Rattle.c_layout.specs.declared.leaf_lists.Class.TheVariants.{Char}
use Rattle.cfg.specs.WellFormed.{names_of, has_temp, is_scalar, fits_operation}
use Rattle.cfg.specs.declared.machine_instructions.Scalar.TheVariants as of
use Rattle.cfg.specs.declared.machine_instructions.Scalar as declared
use Rattle.cfg.specs.declared.machine_instructions.Operation.TheVariants as op
use Rattle.cfg.specs.declared.programs.Flow.{Flow}
use Rattle.pointer_domain.specs.declared.pointer_sets.Pointers.{Pointers}
use Rattle.value_domain.specs.Values.ValueTables.{number_value, pointer_value}
use Rattle.value_domain.specs.declared.values.values.Value.{Value}
use Rattle.value_domain.specs.declared.values.row_cells.Cell.{Cell}
use Rattle.store_cells.specs.ClassNumbers.{is_pointer}
use Rattle.store.specs.Loads.{load}
use Rattle.store_cells.specs.ScalarTypes.{class_bytes}
use Rattle.transfer_checks.specs.Temporaries.{temp_value}
use Rattle.transfer_checks.specs.Touches.{touch}
use Rattle.transfer_checks.specs.ViolationSets.{no_violations, violations_union, violates}
use Rattle.transfer_checks.specs.declared.touches.Touched.{Touched}
use Rattle.transfer_checks.specs.declared.violation_sets.Violations.{Violations}
use Rattle.transfer_system.specs.Scalars.{class_of, minds_blank}
use Rattle.transfer_system.specs.MemorySteps.{blank_or_freed, put_read, put_loaded, load_step}
use Rattle.transfer_system.specs.Steps.{operate}
use Rattle.transfer_system.specs.StepViolations.{operation_violations}
use Rattle.memory_model.specs.Memory.ScalarSizes as machine
use Rattle.memory_model.specs.Memory.Bytes.{MachinePointer}
use Rattle.memory_model.specs.Memory.Scalars.{Scalar, integer, pointer}
use Rattle.memory_model.specs.Effects.Accesses.{class_in, is_unsigned, points_into_freed, load_at}
use Rattle.memory_model.specs.Effects.Accesses as effect
use Rattle.memory_model.specs.Effects.Touches.{Spot, touched}
use Rattle.memory_model.specs.Effects.Worlds.{World, Reply, goes, noted, stopped_by, Left}
use Rattle.semantics.specs.CfgMachine.FlowStates.{ProgramState}
use Rattle.semantics.specs.CfgMachine.FlowActs.{giving}
use Rattle.store_sound.specs.Concretization.ValueMeaning.{Naming, InGammaPointer, InGammaScalar}
use Rattle.store_sound.specs.Concretization.SoundMemory.{IsPointerIn, IsScalarIn}
use Rattle.store_sound.specs.Concretization.Coverage.{state_of}
use Rattle.store_sound.specs.Operations.Gives.{Gives}
use Rattle.store_sound.specs.Operations.Scalars.{IsOfKind, signed_in}
use Rattle.store_sound.proofs.operations.CharSound.{char_stands, char_blank}
use Rattle.store_sound.proofs.operations.Freed.{freed_shows}
use Rattle.store_sound.proofs.operations.LoadSound.{load_stands, blank_flagged}
use Rattle.store_sound.proofs.operations.MemorySound.{loads_keep}
use Rattle.store_sound.proofs.operations.StoreSound.{scalar_named}
use Rattle.store_sound.proofs.operations.TouchSound.{touch_admitted}
use Rattle.store_sound.proofs.operations.TouchedRest.{touch_stands}
use Rattle.store_sound.specs.Programs.Premises.{HasPremises}
use Rattle.transfer_sound.specs.Values.SoundSteps.{IsReached, IsStoodFor, StepIsSound}
use Rattle.transfer_sound.proofs.values.Admitted.{AreAdmitted, none_admitted, one_admitted, both_admitted, same_admitted}
use Rattle.transfer_sound.proofs.values.NearScalars.{IsNearScalar}
use Rattle.transfer_sound.proofs.values.PointerResults.{rule_stops}
use Rattle.transfer_sound.proofs.values.Replies.{clean_stop_good, if_some_good, pointer_good, result_good}
use Rattle.transfer_sound.proofs.values.ResultRows.{number_row, pointer_row}
use Rattle.transfer_sound.proofs.memory.LoadedNumbers.{loaded_near}
use Rattle.transfer_sound.proofs.memory.MachineReplies.{TouchEnd, went, stopped, touch_end, LoadEnd, gives, blank, off, load_end, load_went, load_stops}
use Rattle.transfer_sound.proofs.memory.ScalarClasses.{class_pair}

-- ---- sets of rules

pub union_is : (s t : Violations) (r : Rule) → violates (violations_union s t) r ≡ (violates s r || violates t r)
union_is s t Accfree = refl
union_is s t Boolasgn = refl
union_is s t Chrsgnext = refl
union_is s t Dblfree = refl
union_is s t Diverr = refl
union_is s t Insufmem = refl
union_is s t Intoflow = refl
union_is s t Invptr = refl
union_is s t Libptr = refl
union_is s t Nonnullcs = refl
union_is s t Nullref = refl
union_is s t Ptrobj = refl
union_is s t Sizeofptr = refl
union_is s t Strmod = refl
union_is s t Swtchdflt = refl
union_is s t Taintsink = refl
union_is s t Uninitref = refl
union_is s t Xfree = refl

pub union_left : (s t : Violations) (r : Rule) → violates s r ≡ true → violates (violations_union s t) r ≡ true
union_left s t r h = union_is s t r ∙ or_left (violates s r) (violates t r) h

pub union_right : (s t : Violations) (r : Rule) → violates t r ≡ true → violates (violations_union s t) r ≡ true
union_right s t r h = union_is s t r ∙ or_right (violates s r) (violates t r) h

-- ---- kinds

minded : (a b : Bool) → (a && not b) ≡ false → (not a || b) ≡ true
minded true true h = refl
minded true false h = absurd (true≢false h)
minded false b h = refl

blank_minded : (kind : declared.Scalar) → (machine.same_class (class_in kind) Char && is_unsigned kind) ≡ false → minds_blank (class_in kind) (signed_in kind) ≡ true
blank_minded (of.Int k) h = minded (machine.same_class (class_in (of.Int k)) Char) k.signed h
blank_minded of.Pointer h = refl

-- what points into a freed instance is a pointer
freed_pointer : (kind : declared.Scalar) (w : World) (v : Scalar) → IsOfKind kind v → points_into_freed w.memory v ≡ true → is_pointer (class_in kind) ≡ true
freed_pointer (of.Int k) w (integer z la) of_kind h = absurd (true≢false (sym h))
freed_pointer (of.Int k) w (pointer at) of_kind h = absurd (true≢false (sym of_kind))
freed_pointer of.Pointer w v of_kind h = refl

module _ {I : Type 0} {l : LatticeOf I} {n : IntegersOf I} {gamma : I → ℤ → Type 0} (o : OrderLaws l) (q : BoundLaws l n gamma) (c : SoundLaws l n gamma) (flow : Flow) (p : HasPremises flow) (naming : Naming) (row : List (Cell I)) (s : ProgramState) (r : IsReached l n gamma flow naming row s) (to : ℕ) (few : to < flow.temps) where
  -- what was read is put into a temporary, as what stands for it
  read_good : (kind : declared.Scalar) (x : Value I) (v : Scalar) (w : World) (told : Violations) (after : Option (List (Cell I))) → IsOfKind kind v → InGammaScalar gamma naming s.world.memory x v → IsNearScalar v → IsScalarIn s.world.memory v → w.memory ≡ s.world.memory → after ≡ put_read l n flow row to kind x → AreAdmitted told w.violated → IsStoodFor l n gamma flow after told (giving s to (goes v w))
  unfolding put_read
  read_good (of.Int k) x (integer z la) w told after of_kind st near within same is h =
      result_good q flow p naming row s r to few (number_value l x.num x.labels) (integer z la) w (record { stands_for = st; near = near; within = within }) same after told (is ∙ number_row q flow row to (number_value l x.num x.labels) z st.0) h
  read_good (of.Int k) x (pointer at) w told after of_kind st near within same is h = absurd (true≢false (sym of_kind))
  read_good of.Pointer x (integer z la) w told after of_kind st near within same is h = absurd (true≢false (sym of_kind))
  read_good of.Pointer x (pointer at) w told after of_kind st near within same is h =
      result_good q flow p naming row s r to few (pointer_value l x.pointer) (pointer at) w (record { stands_for = st; near = near; within = within }) same after told (is ∙ pointer_row q flow row to naming s.world.memory x.pointer at st) h

  module _ (kind : declared.Scalar) (x : Pointers I) where
    abbrev touched_at : Class × Bool → Touched I
    touched_at cl = touch l n flow.bases.items row x 0 (class_bytes flow.model cl.0) false

    abbrev read_at : Class × Bool → Option (Value I)
    read_at cl = load l n flow.model flow.bases.items row (touched_at cl).rest cl.0 cl.1

    abbrev told_by : Class × Bool → Option (Value I) → Violations
    told_by cl None = no_violations
    told_by cl (Some v) = blank_or_freed l n flow row cl.0 cl.1 v

    abbrev told_at : Class × Bool → Violations
    told_at cl = violations_union (touched_at cl).violations (told_by cl (read_at cl))

    abbrev GoodAt : Class × Bool → Reply ProgramState → Type 0
    GoodAt cl reply = IsStoodFor l n gamma flow (put_loaded l n flow row to kind (read_at cl)) (told_at cl) reply

    abbrev pair : Class × Bool
    pair = (class_in kind, signed_in kind)

    clean : (v : Violations) → AreAdmitted v s.world.violated
    clean v = same_admitted v s.world.violated [] r.begun (none_admitted v)

    module _ (at : MachinePointer) (st : InGammaPointer gamma naming s.world.memory x at) (inside : IsPointerIn s.world.memory at) where
      abbrev reply : Reply Scalar
      reply = effect.load flow.model kind (pointer at) s.world

      touch_stops : (rule : Rule) → touched s.world at (machine.class_bytes flow.model (class_in kind)) false ≡ stopped_by s.world rule → GoodAt pair (giving s to reply)
      touch_stops rule e =
          let told = touch_admitted o q flow p.shaped naming row s.world s.temps s.bases r.stands_for x (machine.class_bytes flow.model (class_in kind)) false at rule st inside e in
          subst (λ z. GoodAt pair (giving s to z)) (sym (load_stops flow.model kind at s.world rule e))
          (rule_stops q flow p naming row s r to few _ (told_at pair) s.world rule (clean (told_at pair)) (union_left (touched_at pair).violations (told_by pair (read_at pair)) rule told))

      module _ (spot : Spot) (e : touched s.world at (machine.class_bytes flow.model (class_in kind)) false ≡ goes spot s.world) where
        rest_stands : InGammaPointer gamma naming s.world.memory (touched_at pair).rest at
        rest_stands = touch_stands o q flow p.shaped naming row s.world s.temps s.bases r.stands_for x (machine.class_bytes flow.model (class_in kind)) false at spot s.world st inside e

        value_stands : (v : Scalar) (u : World) → reply ≡ goes v u → Gives (λ y. InGammaScalar gamma naming s.world.memory y v) (read_at pair)
        value_stands v u h = elim (cases_Bool (machine.same_class (class_in kind) Char)) [
          | inl char ↦ char_stands o q c flow p.shaped p.padding naming row s.world s.temps s.bases r.stands_for (touched_at pair).rest at kind v u char rest_stands inside h
          | inr wide ↦ load_stands o q c flow p.shaped naming row s.world s.temps s.bases r.stands_for (touched_at pair).rest at kind v u wide rest_stands inside h
        ]

        value_blank : reply ≡ stopped_by s.world Uninitref → Gives (λ y. y.indeterminate ≡ true) (read_at pair)
        value_blank h = elim (cases_Bool (machine.same_class (class_in kind) Char)) [
          | inl char ↦ char_blank o q c flow p.shaped p.padding naming row s.world s.temps s.bases r.stands_for (touched_at pair).rest at kind char rest_stands inside h
          | inr wide ↦ blank_flagged o q c flow p.shaped naming row s.world s.temps s.bases r.stands_for (touched_at pair).rest at kind wide rest_stands inside h
        ]

        told_some : (y : Value I) → read_at pair ≡ Some y → (rule : Rule) → violates (blank_or_freed l n flow row (class_in kind) (signed_in kind) y) rule ≡ true → violates (told_at pair) rule ≡ true
        told_some y is rule h = union_right (touched_at pair).violations (told_by pair (read_at pair)) rule (subst (λ z. violates (told_by pair z) rule ≡ true) (sym is) h)

        blank_good : (machine.same_class (class_in kind) Char && is_unsigned kind) ≡ false → reply ≡ stopped_by s.world Uninitref → GoodAt pair (giving s to reply)
        blank_good minds h =
            let g = value_blank h in
            subst (λ z. GoodAt pair (giving s to z)) (sym h)
            (rule_stops q flow p naming row s r to few _ (told_at pair) s.world Uninitref (clean (told_at pair)) (told_some g.value g.is Uninitref (and_from _ _ g.good (blank_minded kind minds))))

        freed_told : (v : Scalar) (y : Value I) → read_at pair ≡ Some y → InGammaScalar gamma naming s.world.memory y v → IsOfKind kind v → (b : Bool) → points_into_freed s.world.memory v ≡ b → AreAdmitted (told_at pair) (cond b (Accfree ∷ []) [])
        freed_told v y is sv of_kind false f = none_admitted (told_at pair)
        freed_told v y is sv of_kind true f = one_admitted (told_at pair) Accfree (told_some y is Accfree (and_from _ _ (freed_pointer kind s.world v of_kind f) (freed_shows flow p.shaped naming row (state_of s) r.stands_for y v sv f)))

        given_good : (v : Scalar) → reply ≡ goes v (noted s.world (points_into_freed s.world.memory v) Accfree) → GoodAt pair (giving s to reply)
        given_good v h =
            let w : World = noted s.world (points_into_freed s.world.memory v) Accfree in
            let g = value_stands v w h in
            let near = loaded_near flow.model flow.bases.items naming s.world r.stands_for.sane kind at v w h in
            let known = loads_keep flow.model flow.bases.items naming s.world w at kind v r.stands_for.sane inside (scalar_named gamma naming s.world.memory (pointer_value l x) (pointer at) st) h in
            subst (λ z. GoodAt pair (giving s to z)) (sym h)
            (read_good kind g.value v w (told_at pair) _ near.1 g.good near.0 known.within refl (ap (put_loaded l n flow row to kind) g.is)
            (both_admitted (told_at pair) s.world.violated _ (clean (told_at pair)) (freed_told v g.value g.is g.good near.1 (points_into_freed s.world.memory v) refl)))

        read_ends : LoadEnd s.world kind (load_at flow.model kind spot s.world) → GoodAt pair (giving s to reply)
        read_ends (gives v f) = given_good v (load_went flow.model kind at s.world spot e ∙ f)
        read_ends (blank minds f) = blank_good minds (load_went flow.model kind at s.world spot e ∙ f)
        read_ends (off f) = subst (λ z. GoodAt pair (giving s to z)) (sym (load_went flow.model kind at s.world spot e ∙ f)) (clean_stop_good l n gamma flow _ (told_at pair) Left s.world r.begun)

      ends : TouchEnd s.world (touched s.world at (machine.class_bytes flow.model (class_in kind)) false) → GoodAt pair (giving s to reply)
      ends (stopped rule e) = touch_stops rule e
      ends (went spot e) = read_ends spot e (load_end flow.model kind spot s.world)

      load_good : GoodAt (class_of kind) (giving s to reply)
      load_good = subst (λ cl. GoodAt cl (giving s to reply)) (sym (class_pair kind)) (ends (touch_end s.world at (machine.class_bytes flow.model (class_in kind)) false))

module _ {I : Type 0} {l : LatticeOf I} {n : IntegersOf I} {gamma : I → ℤ → Type 0} (o : OrderLaws l) (q : BoundLaws l n gamma) (c : SoundLaws l n gamma) (flow : Flow) (p : HasPremises flow) (naming : Naming) (row : List (Cell I)) (s : ProgramState) (r : IsReached l n gamma flow naming row s) where
  pub load_sound : (to from : ℕ) (kind : declared.Scalar) → fits_operation (names_of flow) (op.Load to from kind) ≡ true → StepIsSound l n gamma flow row (op.Load to from kind) s
  unfolding operate load_step operation_violations
  load_sound to from kind fits =
      let few = ltb-true to flow.temps (and_parts (has_temp (names_of flow) to) (has_temp (names_of flow) from && is_scalar flow.model kind) fits).0 in
      if_some_good l n gamma flow _ _ s r.begun (s.temps from) _ (λ v e.
      pointer_good l n gamma flow _ _ s to v s.world _ r.begun (λ at g.
      load_good o q c flow p naming row s r to few kind (temp_value l n flow row from).pointer at
      (subst (InGammaScalar gamma naming s.world.memory (temp_value l n flow row from)) g (r.stands_for.temps from v e))
      (r.stands_for.held.within from (pointer at) (e ∙ ap Some g))))
