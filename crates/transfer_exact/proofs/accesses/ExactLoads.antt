-- Loads are told.
use Rattle.std.proofs.Common.{◌≡◌, ℕ, ◌+◌, ◌-◌, ◌^◌, ◌<◌, ◌≤◌, Bool, true, false, not, ◌||◌, ◌&&◌, Option, Some, None, List, [], ◌∷◌, ◌++◌, arith, subst, sym, refl, ap, ◌∙◌, inl, inr}
use Rattle.std.specs.Prelude.{ℤ, slice_get, nat_le}
use Rattle.std.specs.List.{Contains}
use Rattle.std.proofs.lemmas.Bool.{cases_Bool, and_parts, ltb-true, leb-true, le-leb, true≢false}
use Rattle.cc_base.specs.Lattices.{LatticeOf}
use Rattle.cc_base.specs.IntegerDomains.{IntegersOf, BoundLaws}
use Rattle.cc_base.specs.declared.diagnostics.Rule.{Rule}
use Rattle.cc_base.specs.declared.diagnostics.Rule.TheVariants as rule
use Rattle.c_layout.specs.declared.leaf_lists.Class.{Class}
use Rattle.c_layout.specs.declared.leaf_lists.Class.TheVariants.{Char}
use Rattle.c_layout.specs.declared.shapes.BaseInfo.{BaseInfo}
use Rattle.cfg.specs.WellFormed.{names_of, has_temp, is_scalar, fits_operation}
use Rattle.cfg.specs.declared.machine_instructions.Scalar as declared
use Rattle.cfg.specs.declared.machine_instructions.Scalar.TheVariants as of
use Rattle.cfg.specs.declared.machine_instructions.Operation.{Operation}
use Rattle.cfg.specs.declared.machine_instructions.Operation.TheVariants as op
use Rattle.cfg.specs.declared.programs.Flow.{Flow}
use Rattle.pointer_domain.specs.declared.pointer_sets.Pointers.{Pointers}
use Rattle.value_domain.specs.Values.ValueTables.{number_value, pointer_value}
use Rattle.value_domain.specs.declared.values.values.Value.{Value}
use Rattle.value_domain.specs.declared.values.row_cells.Cell.{Cell}
use Rattle.store_cells.specs.AccessWindows.{window_of, window_between}
use Rattle.store.specs.Loads.{labels_of, load}
use Rattle.store_cells.specs.RowPositions.{leaf_position, value_at}
use Rattle.store_objects.specs.LiveBases.{any_freed}
use Rattle.store_cells.specs.ScalarTypes as table
use Rattle.transfer_checks.specs.Temporaries.{temp_value}
use Rattle.transfer_checks.specs.Touches.{touch}
use Rattle.transfer_checks.specs.ViolationSets.{no_violations, violations_union}
use Rattle.transfer_checks.specs.declared.touches.Touched.{Touched}
use Rattle.transfer_checks.specs.declared.violation_sets.Violations.{Violations}
use Rattle.transfer_instructions.specs.Values.ResultTemps.{put_pointer}
use Rattle.transfer_instructions.specs.Values.Scalars.{class_of, minds_blank}
use Rattle.transfer_instructions.specs.Instructions.MemorySteps.{blank_or_freed, put_read, put_loaded, load_step}
use Rattle.transfer_instructions.specs.Instructions.Steps.{operate}
use Rattle.transfer_instructions.specs.Instructions.StepViolations.{operation_violations}
use Rattle.memory_model.specs.Memory.Bytes.{MachinePointer, null, into}
use Rattle.memory_model.specs.Memory.Instances.{Life, live, ended, freed, life_at}
use Rattle.memory_model.specs.Memory.ScalarSizes.{class_bytes, is_pointer, same_class}
use Rattle.memory_model.specs.Memory.Scalars.{Scalar, integer, pointer}
use Rattle.memory_model.specs.Effects.Accesses.{class_in, is_unsigned, points_into_freed, read_blank, given, load_at}
use Rattle.memory_model.specs.Effects.Accesses as effect
use Rattle.memory_model.specs.Effects.Touches.{Spot, touched, touched_by}
use Rattle.memory_model.specs.Effects.Worlds.{World, Reply, goes, behind, noted, stopped_by}
use Rattle.lower_templates.specs.Worklist.Acts.{act}
use Rattle.lower_templates.specs.Views.ProgramViews.{flow_view}
use Rattle.semantics.specs.CfgMachine.FlowStates.{ProgramState}
use Rattle.semantics.specs.CfgMachine.FlowActs.{giving}
use Rattle.semantics.specs.CfgMachine.FlowSteps.{act_step}
use Rattle.store_sound.specs.Concretization.Coverage.{state_of}
use Rattle.store_sound.specs.Concretization.SoundMemory.{IsPointerIn, IsWithin, IsScalarIn}
use Rattle.store_sound.specs.Concretization.ValueMeaning.{Naming, InGammaPointer}
use Rattle.store_sound.specs.Operations.Scalars.{IsOfKind, signed_in}
use Rattle.store_sound.proofs.operations.LoadSound.{base_there}
use Rattle.store_sound.proofs.operations.MemorySound.{loads_keep}
use Rattle.store_sound.proofs.operations.StoreSound.{scalar_named}
use Rattle.store_sound.proofs.operations.TouchSound.{past_end}
use Rattle.store_sound.specs.Programs.Premises.{HasPremises}
use Rattle.transfer_sound.specs.Values.SoundSteps.{IsReached}
use Rattle.transfer_sound.proofs.memory.LoadedNumbers.{loaded_near}
use Rattle.transfer_sound.proofs.values.NearScalars.{IsNearScalar}
use Rattle.transfer_sound.proofs.memory.MachineReplies.{load_went}
use Rattle.transfer_sound.proofs.memory.ScalarClasses.{class_pair}
use Rattle.transfer_exact.specs.Values.SingleRows.{HoldsScalar, ExactLeaf, ExactState, IsPlainProgram}
use Rattle.transfer_exact.specs.Values.SingleSteps.{IsDefined, IsExact, StepIsExact}
use Rattle.transfer_exact.specs.Values.SingleValues.{IsNowhere, IsIntoOne, IsBlank, ExactByLife, ExactPointer, ExactScalar, ExactHeld}
use Rattle.transfer_exact.proofs.values.Told.{stop_told, if_some_told, result_told}
use Rattle.transfer_exact.proofs.values.ValueSteps.{number_put, nothing_put, pointer_put, tells_number, tells_pointer}
use Rattle.transfer_exact.proofs.values.Violated.{AreViolated, none_violated, one_there, behind_there, same_violated}
use Rattle.transfer_exact.specs.Accesses.TypedAccesses.{HasObjects, IsAtLeaf, PointsToKind, IsTyped, IsTypedLoad}
use Rattle.transfer_exact.proofs.places.HeldReads.{held_reply, load_held}
use Rattle.transfer_exact.proofs.places.OneBase.{none_freed}
use Rattle.transfer_exact.proofs.places.OneLeaf.{same_size}
use Rattle.transfer_exact.proofs.places.OneLoad.{read_as, ReadsCell, load_reads}
use Rattle.transfer_exact.proofs.places.OneTouch.{touching, TouchesNothing, TouchesOne, nowhere, outside, inside}
use Rattle.transfer_exact.proofs.places.Touching.{union_violated, touching_violated, reading_violated}

both : (a b : Bool) → (a && not b) ≡ true → (not a || b) ≡ true → ⊥
both true true h k = cc
both true false h k = cc
both false b h k = cc

-- the load that may read an indeterminate byte minds none
unminded : (kind : declared.Scalar) → (same_class (class_in kind) Char && is_unsigned kind) ≡ true → minds_blank (class_in kind) (signed_in kind) ≡ true → ⊥
unminded (of.Int k) h m = both (same_class (class_in (of.Int k)) Char) k.signed h m
unminded of.Pointer h m = cc

module _ {I : Type 0} {l : LatticeOf I} {n : IntegersOf I} {gamma : I → ℤ → Type 0} (q : BoundLaws l n gamma) (flow : Flow) (p : HasPremises flow) (objects : HasObjects flow) (plain : IsPlainProgram flow) (naming : Naming) (row : List (Cell I)) (s : ProgramState) (r : IsReached l n gamma flow naming row s) (t : ExactState l n flow row (state_of s)) (to : ℕ) (few : to < flow.temps) where
  module _ (kind : declared.Scalar) (x : Pointers I) where
    abbrev touched_at : Class × Bool → Touched I
    touched_at cl = touch l n flow.bases.items row x 0 (table.class_bytes flow.model cl.0) false

    abbrev read_at : Class × Bool → Option (Value I)
    read_at cl = load l n flow.model flow.bases.items row (touched_at cl).rest cl.0 cl.1

    abbrev told_by : Class × Bool → Option (Value I) → Violations
    told_by cl None = no_violations
    told_by cl (Some v) = blank_or_freed l n flow row cl.0 cl.1 v

    abbrev told_at : Class × Bool → Violations
    told_at cl = violations_union (touched_at cl).violations (told_by cl (read_at cl))

    abbrev ExactAt : Class × Bool → Reply ProgramState → Type 0
    ExactAt cl reply = IsExact l n flow (put_loaded l n flow row to kind (read_at cl)) (told_at cl) reply

    abbrev pair : Class × Bool
    pair = (class_in kind, signed_in kind)

    abbrev size : ℕ
    size = table.class_bytes flow.model (class_in kind)

    -- nothing is read
    read_none : (told : Violations) → TouchesNothing q flow.bases.items plain.no_heap row x size false told → read_at pair ≡ None
    unfolding load
    read_none told h = let w = h.window in rw w refl

    nothing_told : (told : Violations) → TouchesNothing q flow.bases.items plain.no_heap row x size false told → (r : Rule) → AreViolated told (s.world.violated ++ (r ∷ [])) → ExactAt pair (stopped_by s.world r)
    nothing_told told h r v =
        let none = read_none told h in
        stop_told l n flow (put_loaded l n flow row to kind (read_at pair)) (told_at pair) _ _ (ap (put_loaded l n flow row to kind) none)
        (union_violated (touched_at pair).violations (told_by pair (read_at pair)) (s.world.violated ++ (r ∷ [])) (same_violated (touched_at pair).violations told (s.world.violated ++ (r ∷ [])) h.violations v)
        (same_violated (told_by pair (read_at pair)) no_violations (s.world.violated ++ (r ∷ [])) (ap (told_by pair) none) (none_violated (s.world.violated ++ (r ∷ [])))))

    at_end : (r : Rule) → Contains (s.world.violated ++ (r ∷ [])) r
    at_end r = behind_there s.world.violated (r ∷ []) r (one_there r)

    module _ (at : MachinePointer) (e : (from : ℕ) × (s.temps from ≡ Some (pointer at)) × (x ≡ (temp_value l n flow row from).pointer)) (typed : PointsToKind flow s.bases kind at) where
      nowhere_told : (is_null gone : Bool) → IsNowhere x is_null gone → ExactAt pair (stopped_by s.world rule.Nullref)
      nowhere_told is_null gone h = nothing_told (touching (is_null || gone) false false) (nowhere q flow.bases.items plain.no_heap row x size false is_null gone h) rule.Nullref
          (touching_violated (is_null || gone) false false (s.world.violated ++ (rule.Nullref ∷ [])) (λ f. at_end rule.Nullref) (λ f. cc) (λ f. cc))

      module _ (i offset lo hi : ℕ) (is : at ≡ into i offset lo hi) (alive : life_at s.world.memory i ≡ live) (h : IsIntoOne n s.bases x i offset lo hi) where
        within : IsWithin s.world.memory i offset lo hi
        within = subst (IsPointerIn s.world.memory) is (r.stands_for.held.within e.0 (pointer at) e.1)

        base : (info : BaseInfo) × (slice_get flow.bases.items h.base ≡ Some info)
        base = base_there flow.bases.items h.base (r.stands_for.sane.few i h.base (r.stands_for.lives.named h.base i h.names))

        short : hi ≤ 2 ^ 64 - 1
        short = let a = within.within in let b = r.stands_for.sane.small i in omega (arith, a, b)

        bytes_are : size ≡ class_bytes flow.model (class_in kind)
        bytes_are = same_size flow.model (class_in kind)

        outside_told : hi < offset + class_bytes flow.model (class_in kind) → ExactAt pair (stopped_by s.world rule.Invptr)
        outside_told k =
            let b = bytes_are in
            nothing_told (touching false true false) (outside q flow.bases.items plain.no_heap row x size false s.bases i offset lo hi h base.0 base.1 within.above short (omega (arith, k, b))) rule.Invptr
            (touching_violated false true false (s.world.violated ++ (rule.Invptr ∷ [])) (λ f. cc) (λ f. at_end rule.Invptr) (λ f. cc))

        module _ (k : offset + class_bytes flow.model (class_in kind) ≤ hi) where
          place : IsAtLeaf kind base.0 offset
          place = subst (PointsToKind flow s.bases kind) is typed h.base base.0 base.1 h.names within.above k

          told_leaf : ExactLeaf l n flow (state_of s) (value_at l n row (leaf_position base.0 place.number)) i place.leaf.offset place.leaf
          told_leaf = t.leaves h.base place.number i place.leaf.offset base.0 place.leaf base.1 place.among h.names (record { turn = 0; few = (let c = plain.apart h.base place.number base.0 place.leaf base.1 place.among in omega (arith, c)); there = omega arith })

          abbrev cell : Value I
          cell = value_at l n row (leaf_position base.0 place.number)

          touches : TouchesOne q flow.bases.items plain.no_heap row x size false s.bases i offset lo hi h base.0 base.1 within.above short
          touches = let b = bytes_are in inside q flow.bases.items plain.no_heap row x size false s.bases i offset lo hi h base.0 base.1 within.above short (omega (arith, k, b)) refl

          abbrev Reads : Option (Value I) → Type 0
          Reads found = ReadsCell l n flow.model flow.bases.items row h.base base.0 base.1 h.few (plain.no_heap h.base base.0 base.1) (objects h.base base.0 base.1) (λ j leaf f. plain.apart h.base j base.0 leaf base.1 f) place.number place.leaf place.among found

          abbrev rest : Pointers I
          rest = (touched_at pair).rest

          reads : Reads (read_at pair)
          reads =
              let there : window_of n rest size ≡ Some (window_between place.leaf.offset place.leaf.offset) = subst (λ z. window_of n rest size ≡ Some (window_between z z)) (sym place.there) touches.window in
              let window : window_of n rest (table.class_bytes flow.model place.leaf.class) ≡ Some (window_between place.leaf.offset place.leaf.offset) = subst (λ z. window_of n rest (table.class_bytes flow.model z) ≡ Some (window_between place.leaf.offset place.leaf.offset)) place.class there in
              subst (λ z. Reads (load l n flow.model flow.bases.items row rest z (signed_in kind))) (sym place.class)
              (subst (λ z. Reads (load l n flow.model flow.bases.items row rest place.leaf.class z)) (sym place.signed)
              (load_reads l n flow.model flow.bases.items row h.base base.0 base.1 h.few (plain.no_heap h.base base.0 base.1) (objects h.base base.0 base.1) (λ j leaf f. plain.apart h.base j base.0 leaf base.1 f) place.number place.leaf place.among rest touches.sole window))

          abbrev found : Value I
          found = read_as l n flow.model flow.bases.items row h.base base.0 base.1 h.few (plain.no_heap h.base base.0 base.1) (objects h.base base.0 base.1) (λ j leaf f. plain.apart h.base j base.0 leaf base.1 f) place.number place.leaf place.among reads.flag

          -- what the read may violate
          read_violated : (rules : List Rule) → (cell.indeterminate ≡ true → minds_blank (class_in kind) (signed_in kind) ≡ true → Contains rules rule.Uninitref) → AreViolated (told_at pair) rules
          read_violated rules blank =
              let none = none_freed l n flow.bases.items plain.no_heap row found.pointer.bases in
              union_violated (touched_at pair).violations (told_by pair (read_at pair)) rules (same_violated (touched_at pair).violations no_violations rules touches.violations (none_violated rules))
              (same_violated (told_by pair (read_at pair)) (blank_or_freed l n flow row (class_in kind) (signed_in kind) found) rules (ap (told_by pair) reads.is)
              (reading_violated (reads.flag && minds_blank (class_in kind) (signed_in kind)) (is_pointer (class_in kind) && any_freed l n flow.bases.items row found.pointer.bases) rules
              (λ f. let a = and_parts reads.flag (minds_blank (class_in kind) (signed_in kind)) f in blank (reads.blank a.0) a.1)
              (λ f. let a = and_parts (is_pointer (class_in kind)) (any_freed l n flow.bases.items row found.pointer.bases) f in absurd (true≢false (sym a.1 ∙ none)))))

          blank_none : IsBlank n s.bases cell → put_read l n flow row to kind found ≡ None
          unfolding put_read put_pointer
          blank_none h = by_kind kind h
            where
              by_kind : (k : declared.Scalar) → IsBlank n s.bases cell → put_read l n flow row to k found ≡ None
              by_kind (of.Int k) h = nothing_put n flow row to (number_value l found.num found.labels) h.number
              by_kind of.Pointer h = rw (h.apart.bases, h.apart.null, h.apart.ended) refl

          abbrev spot : Spot
          spot = record { instance = i; offset = offset }

          went : touched s.world at (class_bytes flow.model (class_in kind)) false ≡ goes spot s.world
          went =
              let a = le-leb lo offset within.above in
              let b = le-leb (offset + class_bytes flow.model (class_in kind)) hi k in
              subst (λ z. touched s.world z (class_bytes flow.model (class_in kind)) false ≡ goes spot s.world) (sym is)
              (ap (λ y. touched_by s.world y i offset lo hi (class_bytes flow.model (class_in kind)) false) alive ∙ rw (a, b) refl)

          blank_told : IsBlank n s.bases cell → ExactAt pair (giving s to (read_blank s.world kind))
          blank_told h =
              let after = ap (put_loaded l n flow row to kind) reads.is ∙ blank_none h in
              elim (cases_Bool (same_class (class_in kind) Char && is_unsigned kind)) [
                | inl f ↦ rw f (stop_told l n flow (put_loaded l n flow row to kind (read_at pair)) (told_at pair) _ s.world after (read_violated s.world.violated (λ g m. absurd (unminded kind f m))))
                | inr f ↦ rw f (stop_told l n flow (put_loaded l n flow row to kind (read_at pair)) (told_at pair) _ _ after (read_violated (s.world.violated ++ (rule.Uninitref ∷ [])) (λ g m. at_end rule.Uninitref)))
              ]

          abbrev behind_read : Scalar → World
          behind_read v = noted s.world (points_into_freed s.world.memory v) rule.Accfree

          load_is : (v : Scalar) → load_at flow.model kind spot s.world ≡ given s.world (Some v) → effect.load flow.model kind (pointer at) s.world ≡ goes v (behind_read v)
          load_is v e = load_went flow.model kind at s.world spot went ∙ e

          known_within : (v : Scalar) → effect.load flow.model kind (pointer at) s.world ≡ goes v (behind_read v) → IsScalarIn s.world.memory v
          known_within v f =
              let st : InGammaPointer gamma naming s.world.memory x at = subst (λ z. InGammaPointer gamma naming s.world.memory z at) (sym e.2) (r.stands_for.temps e.0 (pointer at) e.1) in
              (loads_keep flow.model flow.bases.items naming s.world (behind_read v) at kind v r.stands_for.sane (r.stands_for.held.within e.0 (pointer at) e.1) (scalar_named gamma naming s.world.memory (pointer_value l x) (pointer at) st) f).within

          scalar_by : (c : declared.Scalar) (v : Scalar) → c ≡ kind → IsOfKind c v → IsNearScalar v → IsScalarIn s.world.memory v → HoldsScalar flow s.world.memory i place.leaf.offset place.leaf (Some v) → ExactScalar n s.bases s.world.memory cell v → IsExact l n flow (put_read l n flow row to c found) (told_at pair) (giving s to (given s.world (Some v)))
          unfolding put_read
          scalar_by (of.Int c) (integer z la) same typed near in_memory holds tells =
              let labels : labels_of place.leaf.class cell.labels ≡ cell.labels = let g = holds.integral in rw g refl in
              let told = tells_number l n s.bases s.world.memory cell.num (labels_of place.leaf.class cell.labels) z la tells.number (labels ∙ tells.labels_are) in
              result_told q flow p naming row s r t to few (number_value l cell.num (labels_of place.leaf.class cell.labels)) (integer z la) (behind_read (integer z la)) (record { tells = told; near = near; within = in_memory }) refl
              _ (told_at pair) (number_put n flow row to (number_value l cell.num (labels_of place.leaf.class cell.labels)) z tells.number)
              (read_violated (behind_read (integer z la)).violated (λ f m. absurd (true≢false (sym f ∙ tells.determinate))))
          scalar_by (of.Int c) (pointer m) same typed near in_memory holds tells = absurd (true≢false (sym typed))
          scalar_by of.Pointer (integer z la) same typed near in_memory holds tells = absurd (true≢false (sym typed))
          scalar_by of.Pointer (pointer m) same typed near in_memory holds tells =
              result_told q flow p naming row s r t to few (pointer_value l cell.pointer) (pointer m) (behind_read (pointer m)) (record { tells = tells_pointer q s.bases s.world.memory cell.pointer m tells.points; near = near; within = in_memory }) refl
              _ (told_at pair) (pointer_put l n flow row to s.bases s.world.memory cell.pointer m tells.points)
              (read_violated (behind_read (pointer m)).violated (λ f m. absurd (true≢false (sym f ∙ tells.determinate))))

          scalar_told : (v : Scalar) → HoldsScalar flow s.world.memory i place.leaf.offset place.leaf (Some v) → ExactScalar n s.bases s.world.memory cell v → load_at flow.model kind spot s.world ≡ given s.world (Some v) → ExactAt pair (giving s to (given s.world (Some v)))
          scalar_told v holds tells g =
              let f = load_is v g in
              let near = loaded_near flow.model flow.bases.items naming s.world r.stands_for.sane kind at v (behind_read v) f in
              subst (λ z. IsExact l n flow z (told_at pair) (giving s to (given s.world (Some v)))) (sym (ap (put_loaded l n flow row to kind) reads.is))
              (scalar_by kind v refl near.1 near.0 (known_within v f) holds tells)

          held_told : (held : Option Scalar) → HoldsScalar flow s.world.memory i place.leaf.offset place.leaf held → ExactHeld n s.bases s.world.memory cell held → load_at flow.model kind spot s.world ≡ held_reply s.world kind held → ExactAt pair (giving s to (held_reply s.world kind held))
          held_told None holds tells e = blank_told tells
          held_told (Some v) holds tells e = scalar_told v holds tells e

          reply_is : load_at flow.model kind (record { instance = i; offset = offset }) s.world ≡ held_reply s.world kind told_leaf.held
          reply_is = subst (λ z. load_at flow.model kind (record { instance = i; offset = z }) s.world ≡ held_reply s.world kind told_leaf.held) place.there
              (load_held flow naming s.world r.stands_for.sane h.base i (r.stands_for.lives.named h.base i h.names) alive base.0 base.1 (plain.no_heap h.base base.0 base.1) (objects h.base base.0 base.1) (λ j leaf f. plain.apart h.base j base.0 leaf base.1 f) place.number place.leaf place.among kind place.class place.signed told_leaf.held told_leaf.holds)

          inside_told : ExactAt pair (giving s to (load_at flow.model kind (record { instance = i; offset = offset }) s.world))
          inside_told = subst (λ z. ExactAt pair (giving s to z)) (sym reply_is) (held_told told_leaf.held told_leaf.holds told_leaf.tells reply_is)

      by_life : (life : Life) (i offset lo hi : ℕ) → at ≡ into i offset lo hi → life_at s.world.memory i ≡ life → ExactByLife n s.bases x life i offset lo hi → ExactAt pair (giving s to (behind (touched_by s.world life i offset lo hi (class_bytes flow.model (class_in kind)) false) (load_at flow.model kind)))
      by_life live i offset lo hi is alive h =
          let above = (within i offset lo hi is alive h).above in
          elim (cases_Bool (nat_le lo offset && nat_le (offset + class_bytes flow.model (class_in kind)) hi)) [
            | inl f ↦ (let g = and_parts (nat_le lo offset) (nat_le (offset + class_bytes flow.model (class_in kind)) hi) f in rw f (inside_told i offset lo hi is alive h (leb-true _ _ g.1)))
            | inr f ↦ rw f (outside_told i offset lo hi is alive h (past_end lo offset (offset + class_bytes flow.model (class_in kind)) hi f above))
          ]
      by_life ended i offset lo hi is alive h = nowhere_told false true h
      by_life freed i offset lo hi is alive h = absurd h

      by_pointer : (m : MachinePointer) → at ≡ m → ExactPointer n s.bases s.world.memory x m → ExactAt pair (giving s to (effect.load flow.model kind (pointer m) s.world))
      by_pointer null is h = nowhere_told true false h
      by_pointer (into i offset lo hi) is h = by_life (life_at s.world.memory i) i offset lo hi is refl h

  scalar_load : (from : ℕ) (kind : declared.Scalar) (v : Scalar) → s.temps from ≡ Some v → IsTyped flow s from kind → IsDefined (giving s to (effect.load flow.model kind v s.world)) → ExactAt kind (temp_value l n flow row from).pointer (class_of kind) (giving s to (effect.load flow.model kind v s.world))
  scalar_load from kind (integer z la) e typed d = absurd (d s.world refl)
  scalar_load from kind (pointer at) e typed d =
      subst (λ cl. ExactAt kind (temp_value l n flow row from).pointer cl (giving s to (effect.load flow.model kind (pointer at) s.world))) (sym (class_pair kind))
      (by_pointer kind (temp_value l n flow row from).pointer at (from, e, refl) (typed at e) at refl (t.temps from (pointer at) e).points)

module _ {I : Type 0} {l : LatticeOf I} {n : IntegersOf I} {gamma : I → ℤ → Type 0} (q : BoundLaws l n gamma) (flow : Flow) (p : HasPremises flow) (objects : HasObjects flow) (plain : IsPlainProgram flow) (naming : Naming) (row : List (Cell I)) (s : ProgramState) (r : IsReached l n gamma flow naming row s) (t : ExactState l n flow row (state_of s)) where
  pub load_told : (to from : ℕ) (kind : declared.Scalar) → fits_operation (names_of flow) (op.Load to from kind) ≡ true → IsTyped flow s from kind → IsDefined (act_step (flow_view flow) (act (op.Load to from kind)) s) → StepIsExact l n flow row (op.Load to from kind) s
  unfolding operate load_step operation_violations
  load_told to from kind fits typed d =
      let a = and_parts (has_temp (names_of flow) to) (has_temp (names_of flow) from && is_scalar flow.model kind) fits in
      if_some_told l n flow _ _ s (s.temps from) _ d (λ v e d. scalar_load q flow p objects plain naming row s r t to (ltb-true to flow.temps a.0) from kind v e typed d)

  pub load_step_told : (o : Operation) → IsTypedLoad flow o s → fits_operation (names_of flow) o ≡ true → IsDefined (act_step (flow_view flow) (act o) s) → StepIsExact l n flow row o s
  load_step_told (op.Load to from kind) typed fits d = load_told to from kind fits typed d
  load_step_told o typed fits d = absurd typed
