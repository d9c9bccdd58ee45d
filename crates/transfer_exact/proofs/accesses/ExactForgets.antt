-- Objects that become indeterminate are told.
use Rattle.std.proofs.Common.{◌≡◌, ℕ, suc, ◌+◌, ◌<◌, true, false, Some, None, List, arith, subst, sym, refl, ap, ◌∙◌}
use Rattle.std.specs.Prelude.{slice_get, ℤ}
use Rattle.std.proofs.lemmas.Option.{same_Some, slice_get_within}
use Rattle.cc_base.specs.Lattices.{LatticeOf}
use Rattle.cc_base.specs.IntegerDomains.{IntegersOf, BoundLaws}
use Rattle.c_layout.specs.declared.leaf_lists.Leaf.{Leaf}
use Rattle.c_layout.specs.declared.shapes.BaseInfo.{BaseInfo}
use Rattle.c_layout.specs.declared.shapes.BaseKind.TheVariants.{Older}
use Rattle.cfg.specs.WellFormed.{names_of, fits_operation}
use Rattle.cfg.specs.declared.machine_instructions.Operation.{Operation}
use Rattle.cfg.specs.declared.machine_instructions.Operation.TheVariants as op
use Rattle.cfg.specs.declared.programs.Flow.{Flow}
use Rattle.value_domain.specs.declared.values.row_cells.Cell.{Cell}
use Rattle.store_objects.specs.ObjectLives.{blank_object, at_base, forget}
use Rattle.store_cells.specs.RowPositions.{leaf_position, value_at}
use Rattle.transfer_checks.specs.ViolationSets.{no_violations}
use Rattle.transfer_instructions.specs.Instructions.Steps.{operate}
use Rattle.transfer_instructions.specs.Instructions.StepViolations.{operation_violations}
use Rattle.memory_model.specs.Memory.Bytes.{Content, indeterminate}
use Rattle.memory_model.specs.Memory.Instances.{Memory, bytes_of, bytes_at, byte_at}
use Rattle.memory_model.specs.Memory.ScalarSizes.{class_bytes}
use Rattle.memory_model.specs.Memory.Tags.{tag_of}
use Rattle.memory_model.specs.Effects.ObjectEffects.{forgotten}
use Rattle.memory_model.specs.Effects.Worlds.{World}
use Rattle.lower_templates.specs.Worklist.Acts.{act}
use Rattle.lower_templates.specs.Views.ProgramViews.{flow_view}
use Rattle.semantics.specs.CfgMachine.FlowStates.{ProgramState}
use Rattle.semantics.specs.CfgMachine.FlowSteps.{act_step}
use Rattle.store_sound.specs.Concretization.Coverage.{state_of}
use Rattle.store_sound.specs.Concretization.Matching.{Fits, Matched}
use Rattle.store_sound.specs.Concretization.Places.{IsPlaceOf}
use Rattle.store_sound.specs.Concretization.SoundMemory.{IsInstanceOf}
use Rattle.store_sound.specs.Concretization.ValueMeaning.{Naming}
use Rattle.store_sound.proofs.operations.LoadSound.{instance_there}
use Rattle.store_sound.proofs.operations.Slices.{get_there}
use Rattle.store_sound.specs.Programs.Premises.{HasPremises}
use Rattle.transfer_sound.specs.Values.SoundSteps.{IsReached}
use Rattle.struct_copies_sound.proofs.leaves.Structs.{owned_at}
use Rattle.transfer_sound.proofs.objects.BlankRows as blank
use Rattle.transfer_sound.proofs.objects.WholeObjects.{automatic_declared, some_kind, named, alive, new, is_set, content_at}
use Rattle.transfer_exact.specs.Values.SingleRows.{IsPlainProgram, ExactLeaf, ExactState}
use Rattle.transfer_exact.specs.Values.SingleSteps.{IsDefined, StepIsExact}
use Rattle.transfer_exact.specs.Values.SingleValues.{IsBlank}
use Rattle.transfer_exact.proofs.values.NearExact.{near_none}
use Rattle.transfer_exact.proofs.values.Told.{if_some_told, clean_goes_told}
use Rattle.transfer_exact.specs.Accesses.StoreLaws.{IsForgotten}
use Rattle.transfer_exact.specs.Accesses.TypedAccesses.{HasObjects}
use Rattle.transfer_exact.proofs.places.HeldReads.{inside}
use Rattle.transfer_exact.proofs.accesses.Moves.{change_tells}
use Rattle.transfer_exact.proofs.places.OneLeaf.{owned, place_is}

module _ {I : Type 0} {l : LatticeOf I} {n : IntegersOf I} {gamma : I → ℤ → Type 0} (q : BoundLaws l n gamma) (flow : Flow) (p : HasPremises flow) (objects : HasObjects flow) (plain : IsPlainProgram flow) (naming : Naming) (row : List (Cell I)) (s : ProgramState) (r : IsReached l n gamma flow naming row s) (t : ExactState l n flow row (state_of s)) where
  module _ (b i : ℕ) (info : BaseInfo) (at : slice_get flow.bases.items b ≡ Some info) (entered : s.bases b ≡ Some i) (declared : info.shape.heap ≡ false) (kind : info.kind ≡ Older → ⊥) where
    single : (j : ℕ) (leaf : Leaf) → slice_get info.shape.cells j ≡ Some leaf → leaf.count ≡ 1
    single j leaf e = plain.apart b j info leaf at e

    -- each byte of a leaf has the content
    module _ (content : Content) where
      abbrev now : Memory
      now = new q flow p naming row s r b i info at entered declared kind content

      pub leaf_bytes : (j : ℕ) (leaf : Leaf) → slice_get info.shape.cells j ≡ Some leaf → (k : ℕ) → k < class_bytes flow.model leaf.class → Matched now i (leaf.offset + k) leaf.class k content
      unfolding byte_at
      leaf_bytes j leaf e k small =
          let call = named q flow p naming row s r b i info at entered declared kind content in
          let life = alive q flow p naming row s r b i info at entered declared kind content in
          let st = is_set q flow p naming row s r b i info at entered declared kind content in
          let top = inside flow naming s.world r.stands_for.sane b i call life info at declared (objects b info at) single j leaf e in
          let len = st.rewrite.alike.lengths i in
          let x = get_there (bytes_at now i) (leaf.offset + k) (omega (arith, small, top, len)) in
          let was = st.rewrite.own (leaf.offset + k) x.0 x.1 in
          let it = instance_there s.world.memory i life in
          let known : IsInstanceOf flow.model info it.0 = r.stands_for.sane.instances i b info it.0 call at it.1 in
          let tag : x.0.tag ≡ tag_of leaf.class k = was.tag
          ∙ (known.tags declared (leaf.offset + k) was.old (subst (λ z. slice_get (bytes_of z) (leaf.offset + k) ≡ Some was.old) it.1 was.there)
          ∙ owned_at flow.model info.shape.cells info.size (objects b info at) j (leaf.offset + k) k leaf e (owned flow.model info.shape.cells info.size (objects b info at) single j (leaf.offset + k) k leaf e refl small)) in
          let c = content_at q flow p naming row s r b i info at entered declared kind content (leaf.offset + k) x.0 x.1 in
          record { tag = x.0.tag; here = x.1 ∙ ap (λ z. Some (record (x.0) { content = z })) c; fits = subst (Fits leaf.class k) (sym tag) (refl, refl) }

    abbrev blanked : Memory
    blanked = new q flow p naming row s r b i info at entered declared kind indeterminate

    abbrev after : List (Cell I)
    after = blank_object l n info row

    own_blank : (j : ℕ) (leaf : Leaf) (offset : ℕ) → slice_get info.shape.cells j ≡ Some leaf → IsPlaceOf leaf offset → ExactLeaf l n flow (record { memory = blanked; temps = s.temps; entered = s.bases }) (value_at l n after (leaf_position info j)) i offset leaf
    own_blank j leaf offset e place = record {
      held = None;
      holds = subst (λ x. (k : ℕ) → k < class_bytes flow.model leaf.class → Matched blanked i (x + k) leaf.class k indeterminate) (sym (place_is flow.model info.shape.cells info.size (objects b info at) single j offset leaf e place)) (leaf_bytes indeterminate j leaf e);
      tells = subst (IsBlank n s.bases) (sym (blank.leaf_blank flow p b info at declared l n row r.long j (slice_get_within info.shape.cells j leaf e)))
          (record { number = near_none q l.least q.least_bounds; apart = record { bases = refl; null = refl; ended = refl }; indeterminate = refl });
    }

    forgotten_tells : ExactState l n flow after (record { memory = blanked; temps = s.temps; entered = s.bases })
    forgotten_tells =
        let st = is_set q flow p naming row s r b i info at entered declared kind indeterminate in
        change_tells l n flow p row after (state_of s) blanked b i info at entered t (record {
          lives = st.rewrite.alike.lives;
          others = st.rewrite.others;
          outside = λ x far. blank.outside flow p b info at declared l n row r.long x far;
          apart = λ d j f ne same. ne (same_Some d b (sym (r.stands_for.lives.named d j f) ∙ (ap naming same ∙ r.stands_for.lives.named b i entered)));
        }) own_blank

  forget_told : (b : ℕ) → fits_operation (names_of flow) (op.Forget b) ≡ true → IsDefined (act_step (flow_view flow) (act (op.Forget b)) s) → StepIsExact l n flow row (op.Forget b) s
  unfolding operate forget operation_violations
  forget_told b fits d =
      let k = some_kind flow.bases.items b fits in
      let info : BaseInfo = k.0 in
      if_some_told l n flow _ no_violations s (s.bases b) _ d (λ i e d. let w : World = forgotten i s.world in
      let now : ProgramState = record s { at = suc s.at; world = w } in
      clean_goes_told l n flow _ now w (record {
        row = blank_object l n info row;
        is = ap (λ z. Some (at_base (blank_object l n) z row)) k.1;
        tells = forgotten_tells b i info k.1 e (plain.no_heap b info k.1) (automatic_declared info.kind k.2);
      }))

  pub forget_step_told : (o : Operation) → IsForgotten o s → fits_operation (names_of flow) o ≡ true → IsDefined (act_step (flow_view flow) (act o) s) → StepIsExact l n flow row o s
  forget_step_told (op.Forget b) is fits d = forget_told b fits d
  forget_step_told o is fits d = absurd is
