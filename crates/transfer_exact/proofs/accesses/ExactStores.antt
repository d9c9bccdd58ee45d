-- Stores are told.
use Rattle.std.proofs.Common.{◌≡◌, ℕ, zero, suc, ◌+◌, ◌-◌, ◌^◌, ◌<◌, ◌≤◌, Bool, true, false, not, ◌||◌, ◌&&◌, Option, Some, None, List, [], ◌∷◌, ◌++◌, length, arith, subst, sym, refl, ap, ◌∙◌, inl, inr}
use Rattle.std.specs.Prelude.{ℤ, slice_get, nat_le}
use Rattle.std.specs.List.{Contains}
use Rattle.std.proofs.lemmas.Bool.{cases_Bool, and_parts, and_from, ltb-true, leb-true, le-leb, or_right, true≢false}
use Rattle.std.proofs.lemmas.Option.{same_Some}
use Rattle.cc_base.specs.Lattices.{LatticeOf, OrderLaws}
use Rattle.cc_base.specs.IntegerDomains.{IntegersOf, BoundLaws, RangeLaws}
use Rattle.cc_base.specs.IntegerLaws.{SoundLaws}
use Rattle.cc_base.specs.declared.diagnostics.Rule.{Rule}
use Rattle.cc_base.specs.declared.diagnostics.Rule.TheVariants as rule
use Rattle.c_layout.specs.declared.leaf_lists.Class.{Class}
use Rattle.c_layout.specs.declared.leaf_lists.Class.TheVariants.{Char}
use Rattle.c_layout.specs.declared.leaf_lists.Leaf.{Leaf}
use Rattle.c_layout.specs.declared.shapes.BaseInfo.{BaseInfo}
use Rattle.c_layout.specs.declared.shapes.BaseKind.{BaseKind}
use Rattle.c_layout.specs.declared.shapes.BaseKind.TheVariants.{Static, Automatic, Literal, Newest, Older}
use Rattle.cfg.specs.WellFormed.{names_of, has_temp, is_scalar, has_kept, fits_operation}
use Rattle.cfg.specs.declared.machine_instructions.Operation.{Operation}
use Rattle.cfg.specs.declared.machine_instructions.Operation.TheVariants as op
use Rattle.cfg.specs.declared.machine_instructions.Scalar as declared
use Rattle.cfg.specs.declared.machine_instructions.Scalar.TheVariants as of
use Rattle.cfg.specs.declared.programs.Flow.{Flow}
use Rattle.pointer_domain.specs.BaseSets.{bases_empty}
use Rattle.pointer_domain.specs.PointerTables.{is_any}
use Rattle.pointer_domain.specs.declared.pointer_sets.Pointers.{Pointers}
use Rattle.value_domain.specs.declared.values.values.Value.{Value}
use Rattle.value_domain.specs.declared.values.row_cells.Cell.{Cell}
use Rattle.store_cells.specs.AccessWindows.{window_of, window_between}
use Rattle.store_objects.specs.LiveBases.{is_literal_kind}
use Rattle.store_cells.specs.ScalarTypes as table
use Rattle.store.specs.Stores.{is_nothing, store}
use Rattle.transfer_checks.specs.Temporaries.{temp_value}
use Rattle.transfer_checks.specs.Touches.{touch}
use Rattle.transfer_checks.specs.ViolationSets.{no_violations}
use Rattle.transfer_checks.specs.declared.touches.Touched.{Touched}
use Rattle.transfer_checks.specs.declared.violation_sets.Violations.{Violations}
use Rattle.transfer_instructions.specs.Instructions.MemorySteps.{move_temp, moved_behind, store_to, store_step}
use Rattle.transfer_instructions.specs.Instructions.Steps.{operate}
use Rattle.transfer_instructions.specs.Instructions.StepViolations.{operation_violations}
use Rattle.memory_model.specs.Memory.Bytes.{MachinePointer, null, into, Content, Byte}
use Rattle.memory_model.specs.Memory.Tags.{tag_of}
use Rattle.store_sound.specs.Concretization.Matching.{Matched}
use Rattle.store_sound.specs.Concretization.Matching.{Fits as MatchFits}
use Rattle.memory_model.specs.Memory.Instances.{Life, live, ended, freed, Memory, bytes_of, byte_at, life_at}
use Rattle.memory_model.specs.Memory.ScalarSizes.{class_bytes, is_pointer, same_class}
use Rattle.memory_model.specs.Memory.Scalars.{Scalar, integer, pointer}
use Rattle.memory_model.specs.Effects.Accesses.{class_in, may_store, stored, store_at, store_through}
use Rattle.memory_model.specs.Effects.Accesses as effect
use Rattle.memory_model.specs.Effects.Operands.{is_of_kind}
use Rattle.memory_model.specs.Effects.ScalarBytes.{scalar_bytes}
use Rattle.memory_model.specs.Effects.Touches.{Spot, touched, touched_by, is_literal, is_allocated, storage_of, storage_at}
use Rattle.memory_model.specs.Effects.Worlds.{World, Reply, goes, stops, behind, stopped_by, Stuck}
use Rattle.lower_templates.specs.Worklist.Acts.{act}
use Rattle.lower_templates.specs.Views.ProgramViews.{flow_view}
use Rattle.semantics.specs.CfgMachine.FlowSteps.{act_step}
use Rattle.semantics.specs.CfgMachine.FlowStates.{ProgramState, if_some, next}
use Rattle.semantics.specs.CfgMachine.FlowActs.{keeping, storing}
use Rattle.store_sound.specs.Concretization.Coverage.{state_of}
use Rattle.store_sound.specs.Concretization.SoundMemory.{IsPointerIn, IsWithin, IsInstanceOf, storage_for}
use Rattle.store_sound.specs.Concretization.RowMeaning.{InGamma}
use Rattle.store_sound.specs.Concretization.ValueMeaning.{Naming, InGammaScalar}
use Rattle.store_sound.specs.Operations.Scalars.{signed_in}
use Rattle.store_cells.specs.RowPositions.{value_at}
use Rattle.store_sound.proofs.operations.Classes.{class_above, same_class_is, integer_class}
use Rattle.store_sound.proofs.operations.MachineStores.{store_goes}
use Rattle.store_sound.proofs.operations.StoreRows.{Fits}
use Rattle.store_sound.proofs.chars.ByteStores.{byte_of, byte_goes}
use Rattle.store_sound.proofs.operations.LoadSound.{base_there, instance_there}
use Rattle.store_sound.proofs.operations.TouchSound.{past_end}
use Rattle.store_sound.specs.Programs.Premises.{HasPremises}
use Rattle.transfer_sound.specs.Values.SoundSteps.{IsReached, InGammaAfter}
use Rattle.transfer_sound.proofs.values.MoveSteps.{near_has}
use Rattle.transfer_sound.proofs.values.NearScalars.{IsNearScalar}
use Rattle.transfer_instructions.specs.Values.Scalars.{class_of}
use Rattle.struct_copies_sound.proofs.leaves.Structs.{owned_at}
use Rattle.transfer_sound.proofs.memory.ScalarClasses.{class_pair}
use Rattle.transfer_sound.proofs.memory.StoreSteps.{store_sound}
use Rattle.transfer_exact.specs.Values.ExactNumbers.{ExactLaws}
use Rattle.transfer_exact.specs.Values.SingleRows.{ExactState, IsPlainProgram}
use Rattle.transfer_exact.specs.Values.SingleSteps.{IsDefined, IsExact, StepIsExact}
use Rattle.transfer_exact.specs.Values.SingleValues.{IsNowhere, IsIntoOne, ExactByLife, ExactPointer, ExactScalar}
use Rattle.transfer_exact.proofs.values.Told.{stop_told, if_some_told, result_told, goes_told}
use Rattle.transfer_exact.proofs.values.Violated.{AreViolated, none_violated, one_there, behind_there, same_violated}
use Rattle.transfer_exact.specs.Accesses.TypedAccesses.{HasObjects, IsAtLeaf, PointsToKind, IsTyped, IsTypedStore}
use Rattle.transfer_exact.proofs.places.HeldReads.{seen}
use Rattle.transfer_exact.proofs.places.OneBase.{not_empty}
use Rattle.transfer_exact.proofs.places.OneLeaf.{same_size, owned}
use Rattle.transfer_exact.proofs.places.OneStore.{SetsCell, store_sets}
use Rattle.transfer_exact.proofs.accesses.StoredRows.{FitsLeaf, stored_state}
use Rattle.transfer_exact.proofs.places.Written.{IsWritten}
use Rattle.transfer_exact.proofs.places.OneTouch.{touching, TouchesNothing, TouchesOne, nowhere, outside, literal, inside}
use Rattle.transfer_exact.proofs.places.Touching.{touching_violated}

pub literal_kind : (kind : BaseKind) → is_literal (storage_for kind) ≡ is_literal_kind kind
literal_kind Static = refl
literal_kind Automatic = refl
literal_kind Literal = refl
literal_kind Newest = refl
literal_kind Older = refl

first_only : (x : Content) (k : ℕ) (y : Content) → slice_get (x ∷ []) k ≡ Some y → (k ≡ 0) × (x ≡ y)
first_only x zero y e = (refl, same_Some x y e)
first_only x (suc k) y e = cc

pub fit_of : (kind : declared.Scalar) (v : Scalar) (leaf : Leaf) → class_in kind ≡ leaf.class → is_of_kind kind v ≡ true → FitsLeaf leaf v
fit_of (of.Int k) (integer z la) leaf same h = sym (ap is_pointer same) ∙ integer_class k
fit_of (of.Int k) (pointer m) leaf same h = absurd (true≢false (sym h))
fit_of of.Pointer (integer z la) leaf same h = absurd (true≢false (sym h))
fit_of of.Pointer (pointer m) leaf same h = sym (ap is_pointer same)

-- what tells a scalar is something of its class
module _ {I : Type 0} (n : IntegersOf I) (entered : ℕ → Option ℕ) (memory : Memory) where
  life_some : (p : Pointers I) (life : Life) (i offset lo hi : ℕ) → ExactByLife n entered p life i offset lo hi → (not (is_any p) && not p.ended) ≡ false
  life_some p live i offset lo hi h = let e : bases_empty p.bases ≡ false = ap bases_empty h.bases ∙ not_empty h.base h.few in rw e refl
  life_some p ended i offset lo hi h = rw (h.bases, h.null, h.ended) refl
  life_some p freed i offset lo hi h = absurd h

  pointer_some : (p : Pointers I) (m : MachinePointer) → ExactPointer n entered memory p m → (not (is_any p) && not p.ended) ≡ false
  pointer_some p null h = rw (h.bases, h.null) refl
  pointer_some p (into i offset lo hi) h = life_some p (life_at memory i) i offset lo hi h

  pub some_value : (leaf : Leaf) (v : Scalar) (y : Value I) → FitsLeaf leaf v → ExactScalar n entered memory y v → is_nothing n leaf.class y ≡ false
  some_value leaf (integer z la) y f g = rw (f, g.number) refl
  some_value leaf (pointer m) y f g = rw f (pointer_some y.pointer m g.points)

pub base_fits : (flow : Flow) → HasPremises flow → (b : ℕ) (base : BaseInfo) → slice_get flow.bases.items b ≡ Some base → Fits base
base_fits flow p b base at = let k = p.laid.laid.close b base at in let s = p.laid.laid.small in omega (arith, k, s)

-- ---- the value that is kept

module _ {I : Type 0} {l : LatticeOf I} {n : IntegersOf I} {gamma : I → ℤ → Type 0} (q : BoundLaws l n gamma) (flow : Flow) (p : HasPremises flow) where
  temp_near : (row : List (Cell I)) (naming : Naming) (memory : Memory) (t : ℕ) (v : Scalar) → InGammaScalar gamma naming memory (temp_value l n flow row t) v → IsNearScalar v
  unfolding value_at
  temp_near row naming memory t (integer z la) h = near_has q _ z h.0
  temp_near row naming memory t (pointer at) h = tt

  module _ (naming : Naming) (row : List (Cell I)) (s : ProgramState) (r : IsReached l n gamma flow naming row s) (t : ExactState l n flow row (state_of s)) (told : Violations) (clean : AreViolated told s.world.violated) where
    keeps_told : (kept : Option (ℕ × ℕ)) → has_kept (names_of flow) kept ≡ true → IsDefined (keeping s kept) → IsExact l n flow (Some (move_temp l n flow kept row)) told (keeping s kept)
    unfolding move_temp
    keeps_told None fits d = let now : ProgramState = record s { at = suc s.at } in
        goes_told l n flow _ _ now s.world clean (record { row = row; is = refl; tells = t })
    keeps_told (Some k) fits d =
        let few = ltb-true k.0 flow.temps (and_parts (has_temp (names_of flow) k.0) (has_temp (names_of flow) k.1) fits).0 in
        if_some_told l n flow _ told s (s.temps k.1) _ d (λ v e d.
        result_told q flow p naming row s r t k.0 few (temp_value l n flow row k.1) v s.world (record { tells = t.temps k.1 v e; near = temp_near row naming s.world.memory k.1 v (r.stands_for.temps k.1 v e); within = r.stands_for.held.within k.1 v e }) refl _ told refl clean)

module _ {I : Type 0} {l : LatticeOf I} {n : IntegersOf I} {gamma : I → ℤ → Type 0} (o : OrderLaws l) (q : BoundLaws l n gamma) (c : SoundLaws l n gamma) (ranges : RangeLaws l n) (exact : ExactLaws n) (flow : Flow) (p : HasPremises flow) (objects : HasObjects flow) (plain : IsPlainProgram flow) (naming : Naming) (row : List (Cell I)) (s : ProgramState) (r : IsReached l n gamma flow naming row s) (t : ExactState l n flow row (state_of s)) where
  module _ (kind : declared.Scalar) (kept : Option (ℕ × ℕ)) (to from : ℕ) (v : Scalar) (has : s.temps from ≡ Some v) (fits : fits_operation (names_of flow) (op.Store to from kind None) ≡ true) (keepable : has_kept (names_of flow) kept ≡ true) (of_kind : is_of_kind kind v ≡ true) where
    abbrev x : Pointers I
    x = (temp_value l n flow row to).pointer

    abbrev y : Value I
    y = temp_value l n flow row from

    allocated_not : (b : ℕ) (base : BaseInfo) → slice_get flow.bases.items b ≡ Some base → is_allocated (storage_for base.kind) ≡ false
    allocated_not b base at = (p.shaped.each b base at).kind ∙ plain.no_heap b base at

    abbrev touched_at : Class × Bool → Touched I
    touched_at cl = touch l n flow.bases.items row x 0 (table.class_bytes flow.model cl.0) true

    abbrev after_at : Class × Bool → Option (List (Cell I))
    after_at cl = store l n flow.model flow.bases.items (touched_at cl).rest cl.0 cl.1 y row

    abbrev ExactAt : Class × Bool → Reply ProgramState → Type 0
    ExactAt cl reply = IsExact l n flow (moved_behind l n flow kept (after_at cl)) (touched_at cl).violations reply

    abbrev pair : Class × Bool
    pair = (class_in kind, signed_in kind)

    abbrev size : ℕ
    size = table.class_bytes flow.model (class_in kind)

    after_none : (told : Violations) → TouchesNothing q flow.bases.items plain.no_heap row x size true told → after_at pair ≡ None
    unfolding store
    after_none told h = let w = h.window in rw w refl

    nothing_told : (told : Violations) → TouchesNothing q flow.bases.items plain.no_heap row x size true told → (r : Rule) → AreViolated told (s.world.violated ++ (r ∷ [])) → ExactAt pair (stopped_by s.world r)
    nothing_told told h r v = stop_told l n flow (moved_behind l n flow kept (after_at pair)) (touched_at pair).violations _ _ (ap (moved_behind l n flow kept) (after_none told h)) (same_violated (touched_at pair).violations told (s.world.violated ++ (r ∷ [])) h.violations v)

    at_end : (r : Rule) → Contains (s.world.violated ++ (r ∷ [])) r
    at_end r = behind_there s.world.violated (r ∷ []) r (one_there r)

    module _ (at : MachinePointer) (e : s.temps to ≡ Some (pointer at)) (typed : PointsToKind flow s.bases kind at) where
      nowhere_told : (is_null gone : Bool) → IsNowhere x is_null gone → ExactAt pair (stopped_by s.world rule.Nullref)
      nowhere_told is_null gone h = nothing_told (touching (is_null || gone) false false) (nowhere q flow.bases.items plain.no_heap row x size true is_null gone h) rule.Nullref
          (touching_violated (is_null || gone) false false (s.world.violated ++ (rule.Nullref ∷ [])) (λ f. at_end rule.Nullref) (λ f. cc) (λ f. cc))

      module _ (i offset lo hi : ℕ) (is : at ≡ into i offset lo hi) (alive : life_at s.world.memory i ≡ live) (h : IsIntoOne n s.bases x i offset lo hi) where
        within : IsWithin s.world.memory i offset lo hi
        within = subst (IsPointerIn s.world.memory) is (r.stands_for.held.within to (pointer at) e)

        base : (info : BaseInfo) × (slice_get flow.bases.items h.base ≡ Some info)
        base = base_there flow.bases.items h.base (r.stands_for.sane.few i h.base (r.stands_for.lives.named h.base i h.names))

        short : hi ≤ 2 ^ 64 - 1
        short = let a = within.within in let b = r.stands_for.sane.small i in omega (arith, a, b)

        bytes_are : size ≡ class_bytes flow.model (class_in kind)
        bytes_are = same_size flow.model (class_in kind)

        outside_told : hi < offset + class_bytes flow.model (class_in kind) → ExactAt pair (stopped_by s.world rule.Invptr)
        outside_told k =
            let b = bytes_are in
            nothing_told (touching false true false) (outside q flow.bases.items plain.no_heap row x size true s.bases i offset lo hi h base.0 base.1 within.above short (omega (arith, k, b))) rule.Invptr
            (touching_violated false true false (s.world.violated ++ (rule.Invptr ∷ [])) (λ f. cc) (λ f. at_end rule.Invptr) (λ f. cc))

        storage_is : is_literal (storage_at s.world.memory i) ≡ is_literal_kind base.0.kind
        storage_is =
            let it = instance_there s.world.memory i alive in
            let k : IsInstanceOf flow.model base.0 it.0 = r.stands_for.sane.instances i h.base base.0 it.0 (r.stands_for.lives.named h.base i h.names) base.1 it.1 in
            ap (λ z. is_literal (storage_of z)) it.1 ∙ (ap is_literal k.storage ∙ literal_kind base.0.kind)

        module _ (k : offset + class_bytes flow.model (class_in kind) ≤ hi) where
          literal_told : is_literal_kind base.0.kind ≡ true → ExactAt pair (stopped_by s.world rule.Strmod)
          literal_told lit =
              let b = bytes_are in
              nothing_told (touching false false true) (literal q flow.bases.items plain.no_heap row x size true s.bases i offset lo hi h base.0 base.1 within.above short (omega (arith, k, b)) refl lit) rule.Strmod
              (touching_violated false false true (s.world.violated ++ (rule.Strmod ∷ [])) (λ f. cc) (λ f. cc) (λ f. at_end rule.Strmod))

          module _ (lit : is_literal_kind base.0.kind ≡ false) where
            place : IsAtLeaf kind base.0 offset
            place = subst (PointsToKind flow s.bases kind) is typed h.base base.0 base.1 h.names within.above k

            touches : TouchesOne q flow.bases.items plain.no_heap row x size true s.bases i offset lo hi h base.0 base.1 within.above short
            touches = let b = bytes_are in inside q flow.bases.items plain.no_heap row x size true s.bases i offset lo hi h base.0 base.1 within.above short (omega (arith, k, b)) lit

            abbrev spot : Spot
            spot = record { instance = i; offset = offset }

            -- a leaf of the class may be stored to
            may : may_store flow.model s.world (class_in kind) spot ≡ true
            may =
                let fit = seen flow naming s.world r.stands_for.sane h.base i (r.stands_for.lives.named h.base i h.names) alive base.0 base.1 (plain.no_heap h.base base.0 base.1) (objects h.base base.0 base.1) (λ j leaf f. plain.apart h.base j base.0 leaf base.1 f) place.number place.leaf place.among false in
                let here : may_store flow.model s.world place.leaf.class (record { instance = i; offset = place.leaf.offset }) ≡ true = or_right _ _ (or_right _ _ fit) in
                subst (λ z. may_store flow.model s.world z spot ≡ true) (sym place.class) (subst (λ z. may_store flow.model s.world place.leaf.class (record { instance = i; offset = z }) ≡ true) place.there here)

            abbrev after_store : World
            after_store = stored s.world (class_in kind) spot (scalar_bytes (class_bytes flow.model (class_in kind)) v)

            reply_is : store_at flow.model (class_in kind) v spot s.world ≡ goes v after_store
            reply_is = let m = may in rw m refl

            went : touched s.world at (class_bytes flow.model (class_in kind)) true ≡ goes spot s.world
            went =
                let a = le-leb lo offset within.above in
                let b = le-leb (offset + class_bytes flow.model (class_in kind)) hi k in
                let d : is_literal (storage_at s.world.memory i) ≡ false = storage_is ∙ lit in
                subst (λ z. touched s.world z (class_bytes flow.model (class_in kind)) true ≡ goes spot s.world) (sym is)
                (ap (λ y. touched_by s.world y i offset lo hi (class_bytes flow.model (class_in kind)) true) alive ∙ rw (a, b, d) refl)

            whole : effect.store flow.model kind (pointer at) v s.world ≡ goes v after_store
            whole = rw of_kind (ap (λ z. behind z (store_at flow.model (class_in kind) v)) went ∙ reply_is)

            abbrev now : ProgramState
            now = record s { world = after_store }

            act_is : act_step (flow_view flow) (act (op.Store to from kind None)) s ≡ next now
            act_is =
                ap (λ z. if_some s z (λ pv. if_some s (s.temps from) (λ w. storing s None (effect.store flow.model kind pv w s.world)))) e
                ∙ (ap (λ z. if_some s z (λ w. storing s None (effect.store flow.model kind (pointer at) w s.world))) has ∙ ap (storing s None) whole)

            sound : InGammaAfter l n gamma flow (operate l n flow row (op.Store to from kind None)) (record now { at = suc s.at })
            sound = (store_sound o q c ranges flow p naming row s r to from kind None fits).goes_on (record now { at = suc s.at }) after_store act_is

            -- ---- the bytes of the leaf are those of the scalar

            abbrev Writes : ℕ → ℕ → Class → Scalar → Type 0
            Writes j z cl w = IsWritten s.world.memory after_store.memory j z cl (class_bytes flow.model cl) (scalar_bytes (class_bytes flow.model cl) w)

            moved : (j z : ℕ) → j ≡ i → z ≡ offset → Writes j z (class_in kind) v → Writes i place.leaf.offset place.leaf.class v
            moved j z a b w = subst (λ cl. Writes i place.leaf.offset cl v) place.class (subst (λ z. Writes i z (class_in kind) v) (b ∙ sym place.there) (subst (λ j. Writes j z (class_in kind) v) a w))

            tag_there : (was : Byte) → byte_at s.world.memory i offset ≡ Some was → was.tag ≡ tag_of (class_in kind) 0
            unfolding byte_at
            tag_there was f =
                let it = instance_there s.world.memory i alive in
                let known : IsInstanceOf flow.model base.0 it.0 = r.stands_for.sane.instances i h.base base.0 it.0 (r.stands_for.lives.named h.base i h.names) base.1 it.1 in
                let there = place.there in
                known.tags (plain.no_heap h.base base.0 base.1) offset was (subst (λ z. slice_get (bytes_of z) offset ≡ Some was) it.1 f)
                ∙ (owned_at flow.model base.0.shape.cells base.0.size (objects h.base base.0 base.1) place.number offset 0 place.leaf place.among
                (owned flow.model base.0.shape.cells base.0.size (objects h.base base.0 base.1) (λ j leaf f. plain.apart h.base j base.0 leaf base.1 f) place.number offset 0 place.leaf place.among (omega (arith, there)) (class_above flow.model place.leaf.class))
                ∙ ap (λ z. tag_of z 0) (sym place.class))

            in_memory : IsPointerIn s.world.memory at
            in_memory = r.stands_for.held.within to (pointer at) e

            wide_written : same_class (class_in kind) Char ≡ false → Writes i place.leaf.offset place.leaf.class v
            wide_written wide =
                let g = (store_goes flow.model kind at v v s.world after_store wide in_memory whole).1 in
                let spot_is : into g.i g.offset g.lo g.hi ≡ into i offset lo hi = sym g.pointer ∙ is in
                let a : g.i ≡ i = cc in
                let b : g.offset ≡ offset = cc in
                moved g.i g.offset a b (record {
                  lives = g.store.lives;
                  outside = g.store.outside;
                  inside = λ k y f. record { tag = tag_of (class_in kind) k; here = g.store.inside k y f; fits = (refl, refl) };
                })

            char_written : same_class (class_in kind) Char ≡ true → Writes i place.leaf.offset place.leaf.class v
            char_written char =
                let g = (byte_goes flow.model kind at v v s.world after_store char in_memory whole).1 in
                let st = g.stored in
                let spot_is : into st.i st.offset st.lo st.hi ≡ into i offset lo hi = sym st.pointer ∙ is in
                let a : st.i ≡ i = cc in
                let b : st.offset ≡ offset = cc in
                let one : class_bytes flow.model (class_in kind) ≡ 1 = ap (class_bytes flow.model) (same_class_is (class_in kind) Char char) in
                let was : Byte = st.store.was in
                let tag = tag_there was (subst (λ j. byte_at s.world.memory j offset ≡ Some was) a (subst (λ z. byte_at s.world.memory st.i z ≡ Some was) b st.store.before)) in
                let first : Matched after_store.memory st.i (st.offset + 0) (class_in kind) 0 (byte_of g.z g.labels) = record {
                  tag = was.tag;
                  here = subst (λ z. byte_at after_store.memory st.i z ≡ Some (record was { content = byte_of g.z g.labels })) (let z : st.offset ≡ st.offset + 0 = omega arith in z) st.store.here;
                  fits = subst (MatchFits (class_in kind) 0) (sym tag) (refl, refl);
                } in
                moved st.i st.offset a b (subst (λ w. Writes st.i st.offset (class_in kind) w) (sym g.is) (record {
                  lives = st.store.refill.alike.lives;
                  outside = λ j z ne. st.store.outside j z (λ d f. ne d (omega (arith, f)) (omega (arith, f, one)));
                  inside = λ k y f.
                      let only = first_only (byte_of g.z g.labels) k y (subst (λ z. slice_get (scalar_bytes z (integer g.z g.labels)) k ≡ Some y) one f) in
                      subst (λ z. Matched after_store.memory st.i (st.offset + z) (class_in kind) z y) (sym only.0) (subst (λ z. Matched after_store.memory st.i (st.offset + 0) (class_in kind) 0 z) only.1 first);
                }))

            written : Writes i place.leaf.offset place.leaf.class v
            written = elim (cases_Bool (same_class (class_in kind) Char)) [ inl f ↦ char_written f | inr f ↦ wide_written f ]

            fit_leaf : FitsLeaf place.leaf v
            fit_leaf = fit_of kind v place.leaf place.class of_kind

            abbrev Sets : Option (List (Cell I)) → Type 0
            Sets found = SetsCell l n flow.model flow.bases.items row h.base base.0 base.1 h.few (plain.no_heap h.base base.0 base.1) (base_fits flow p h.base base.0 base.1) (allocated_not h.base base.0 base.1) lit (objects h.base base.0 base.1) (λ j leaf f. plain.apart h.base j base.0 leaf base.1 f) place.number place.leaf place.among y found

            abbrev rest : Pointers I
            rest = (touched_at pair).rest

            setting : Sets (after_at pair)
            setting =
                let there : window_of n rest size ≡ Some (window_between place.leaf.offset place.leaf.offset) = subst (λ z. window_of n rest size ≡ Some (window_between z z)) (sym place.there) touches.window in
                let window : window_of n rest (table.class_bytes flow.model place.leaf.class) ≡ Some (window_between place.leaf.offset place.leaf.offset) = subst (λ z. window_of n rest (table.class_bytes flow.model z) ≡ Some (window_between place.leaf.offset place.leaf.offset)) place.class there in
                let something = some_value n s.bases s.world.memory place.leaf v y fit_leaf (t.temps from v has) in
                subst (λ z. Sets (store l n flow.model flow.bases.items rest z (signed_in kind) y row)) (sym place.class)
                (store_sets l n flow.model flow.bases.items row h.base base.0 base.1 h.few (plain.no_heap h.base base.0 base.1) (base_fits flow p h.base base.0 base.1) (allocated_not h.base base.0 base.1) lit (objects h.base base.0 base.1) (λ j leaf f. plain.apart h.base j base.0 leaf base.1 f) place.number place.leaf place.among y (signed_in kind) rest touches.sole window something)

            row_is : setting.after ≡ sound.row
            unfolding operate store_step store_to move_temp
            row_is =
                let a : moved_behind l n flow None (after_at pair) ≡ Some setting.after = ap (moved_behind l n flow None) setting.is in
                let b : moved_behind l n flow None (after_at pair) ≡ Some sound.row = subst (λ cl. moved_behind l n flow None (after_at cl) ≡ Some sound.row) (class_pair kind) sound.is in
                same_Some setting.after sound.row (sym a ∙ b)

            reached : IsReached l n gamma flow sound.naming setting.after now
            reached = record {
              long = ap length row_is ∙ sound.long;
              stands_for = subst (λ z. InGamma l n gamma flow sound.naming z (state_of now)) (sym row_is) sound.stands_for;
              short = sound.short;
              begun = r.begun;
            }

            told_state : ExactState l n flow setting.after (state_of now)
            told_state = stored_state q ranges exact flow p row r.long (state_of s) after_store.memory sound.stands_for.sane.small h.base i base.0 base.1
                (objects h.base base.0 base.1) (λ j leaf f. plain.apart h.base j base.0 leaf base.1 f) place.number place.leaf place.among v fit_leaf (sound.stands_for.held.within from v has) written y (t.temps from v has) setting.after setting.keeps
                t h.names (λ d j f ne same. ne (same_Some d h.base (sym (r.stands_for.lives.named d j f) ∙ (ap naming same ∙ r.stands_for.lives.named h.base i h.names))))

            inside_told : IsDefined (keeping now kept) → ExactAt pair (keeping now kept)
            inside_told d =
                subst (λ z. IsExact l n flow (moved_behind l n flow kept z) (touched_at pair).violations (keeping now kept)) (sym setting.is)
                (keeps_told q flow p sound.naming setting.after now reached told_state (touched_at pair).violations (same_violated (touched_at pair).violations no_violations after_store.violated touches.violations (none_violated after_store.violated)) kept keepable d)

      by_life : (life : Life) (i offset lo hi : ℕ) → at ≡ into i offset lo hi → life_at s.world.memory i ≡ life → ExactByLife n s.bases x life i offset lo hi
          → IsDefined (storing s kept (behind (touched_by s.world life i offset lo hi (class_bytes flow.model (class_in kind)) true) (store_at flow.model (class_in kind) v))) → ExactAt pair (storing s kept (behind (touched_by s.world life i offset lo hi (class_bytes flow.model (class_in kind)) true) (store_at flow.model (class_in kind) v)))
      by_life live i offset lo hi is alive h =
          let above = (within i offset lo hi is alive h).above in
          elim (cases_Bool (nat_le lo offset && nat_le (offset + class_bytes flow.model (class_in kind)) hi)) [
            | inr f ↦ rw f (λ d. outside_told i offset lo hi is alive h (past_end lo offset (offset + class_bytes flow.model (class_in kind)) hi f above))
            | inl f ↦ (let g = leb-true _ _ (and_parts (nat_le lo offset) (nat_le (offset + class_bytes flow.model (class_in kind)) hi) f).1 in
                elim (cases_Bool (is_literal_kind (base i offset lo hi is alive h).0.kind)) [
                  | inl lit ↦ (let u : is_literal (storage_at s.world.memory i) ≡ true = storage_is i offset lo hi is alive h ∙ lit in rw (f, u) (λ d. literal_told i offset lo hi is alive h g lit))
                  | inr lit ↦ (let u : is_literal (storage_at s.world.memory i) ≡ false = storage_is i offset lo hi is alive h ∙ lit in
                      rw (f, u) (subst (λ z. IsDefined (storing s kept z) → ExactAt pair (storing s kept z)) (sym (reply_is i offset lo hi is alive h g lit)) (inside_told i offset lo hi is alive h g lit)))
                ])
          ]
      by_life ended i offset lo hi is alive h = λ d. nowhere_told false true h
      by_life freed i offset lo hi is alive h = absurd h

      by_pointer : (m : MachinePointer) → at ≡ m → ExactPointer n s.bases s.world.memory x m → IsDefined (storing s kept (store_through flow.model kind v m s.world)) → ExactAt pair (storing s kept (store_through flow.model kind v m s.world))
      by_pointer null is h = λ d. nowhere_told true false h
      by_pointer (into i offset lo hi) is h = by_life (life_at s.world.memory i) i offset lo hi is refl h

      of_kind_told : IsDefined (storing s kept (effect.store flow.model kind (pointer at) v s.world)) → ExactAt pair (storing s kept (effect.store flow.model kind (pointer at) v s.world))
      of_kind_told = rw of_kind (by_pointer at refl (t.temps to (pointer at) e).points)

  scalar_told : (kind : declared.Scalar) (kept : Option (ℕ × ℕ)) (to from : ℕ) (pv v : Scalar) → s.temps to ≡ Some pv → s.temps from ≡ Some v → fits_operation (names_of flow) (op.Store to from kind None) ≡ true → has_kept (names_of flow) kept ≡ true → IsTyped flow s to kind → IsDefined (storing s kept (effect.store flow.model kind pv v s.world))
      → IsExact l n flow (moved_behind l n flow kept (store l n flow.model flow.bases.items (touch l n flow.bases.items row (temp_value l n flow row to).pointer 0 (table.class_bytes flow.model (class_of kind).0) true).rest (class_of kind).0 (class_of kind).1 (temp_value l n flow row from) row)) (touch l n flow.bases.items row (temp_value l n flow row to).pointer 0 (table.class_bytes flow.model (class_of kind).0) true).violations (storing s kept (effect.store flow.model kind pv v s.world))
  scalar_told kind kept to from (integer z la) v e f fits keepable typed d = absurd (d s.world refl)
  scalar_told kind kept to from (pointer at) v e f fits keepable typed d = elim (cases_Bool (is_of_kind kind v)) [
    | inr g ↦ (let stuck : effect.store flow.model kind (pointer at) v s.world ≡ stops Stuck s.world = rw g refl in absurd (d s.world (ap (storing s kept) stuck)))
    | inl g ↦ subst (λ cl. IsExact l n flow (moved_behind l n flow kept (store l n flow.model flow.bases.items (touch l n flow.bases.items row (temp_value l n flow row to).pointer 0 (table.class_bytes flow.model cl.0) true).rest cl.0 cl.1 (temp_value l n flow row from) row)) (touch l n flow.bases.items row (temp_value l n flow row to).pointer 0 (table.class_bytes flow.model cl.0) true).violations (storing s kept (effect.store flow.model kind (pointer at) v s.world))) (sym (class_pair kind))
        (of_kind_told kind kept to from v f fits keepable g at e (typed at e) d)
  ]

  pub store_told : (to from : ℕ) (kind : declared.Scalar) (kept : Option (ℕ × ℕ)) → fits_operation (names_of flow) (op.Store to from kind kept) ≡ true → IsTyped flow s to kind → IsDefined (act_step (flow_view flow) (act (op.Store to from kind kept)) s) → StepIsExact l n flow row (op.Store to from kind kept) s
  unfolding operate store_step store_to operation_violations
  store_told to from kind kept fits typed d =
      let a = and_parts (has_temp (names_of flow) to) (has_temp (names_of flow) from && (is_scalar flow.model kind && has_kept (names_of flow) kept)) fits in
      let b = and_parts (has_temp (names_of flow) from) (is_scalar flow.model kind && has_kept (names_of flow) kept) a.1 in
      let g = and_parts (is_scalar flow.model kind) (has_kept (names_of flow) kept) b.1 in
      let fits_none : fits_operation (names_of flow) (op.Store to from kind None) ≡ true = and_from _ _ a.0 (and_from _ _ b.0 (and_from _ _ g.0 refl)) in
      if_some_told l n flow _ _ s (s.temps to) _ d (λ pv e d. if_some_told l n flow _ _ s (s.temps from) _ d (λ v f d. scalar_told kind kept to from pv v e f fits_none g.1 typed d))

  pub store_step_told : (i : Operation) → IsTypedStore flow i s → fits_operation (names_of flow) i ≡ true → IsDefined (act_step (flow_view flow) (act i) s) → StepIsExact l n flow row i s
  store_step_told (op.Store to from kind kept) typed fits d = store_told to from kind kept fits typed d
  store_step_told i typed fits d = absurd typed
