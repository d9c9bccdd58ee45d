-- Copies of structs are told.
use Rattle.std.proofs.Common.{◌≡◌, ℕ, suc, ◌+◌, ◌-◌, ◌*◌, ◌^◌, ◌<◌, ◌≤◌, Bool, true, false, cond, ◌||◌, ◌&&◌, Option, Some, None, List, [], ◌∷◌, ◌++◌, length, arith, subst, sym, refl, ap, ◌∙◌}
use Rattle.std.specs.Prelude.{ℤ, pos, ◌≤ℤ◌, slice_get, nat_lt, ◌==◌}
use Rattle.std.proofs.lemmas.Int.{ints}
use Rattle.std.proofs.lemmas.Bool.{and_parts, and_from, or_right, ltb-true}
use Rattle.std.proofs.lemmas.Option.{same_Some, get_or_from_slice_get}
use Rattle.cc_base.specs.Lattices.{LatticeOf, OrderLaws}
use Rattle.cc_base.specs.IntegerDomains.{IntegersOf, BoundLaws, RangeLaws}
use Rattle.cc_base.specs.declared.diagnostics.Rule.{Rule}
use Rattle.c_layout.specs.Layout.{size_of_type}
use Rattle.c_layout.specs.Leaves.{leaves_of}
use Rattle.c_layout.specs.StructViews.{StructView, struct_view, structs_view, no_struct}
use Rattle.c_layout.specs.Types.{Struct}
use Rattle.c_layout.specs.declared.leaf_lists.Leaf.{Leaf}
use Rattle.c_layout.specs.declared.shapes.BaseInfo.{BaseInfo}
use Rattle.c_layout.specs.declared.struct_table.StructType.{StructType}
use Rattle.cfg.specs.WellFormed.{names_of, has_temp, fits_operation}
use Rattle.cfg.specs.declared.machine_instructions.Operation.{Operation}
use Rattle.cfg.specs.declared.machine_instructions.Operation.TheVariants as op
use Rattle.cfg.specs.declared.programs.Flow.{Flow}
use Rattle.pointer_domain.specs.BaseSets.{bases_empty}
use Rattle.pointer_domain.specs.declared.pointer_sets.Pointers.{Pointers}
use Rattle.value_domain.specs.Values.ValueTables.{pointer_value}
use Rattle.value_domain.specs.declared.values.row_cells.Cell.{Cell}
use Rattle.store_cells.specs.declared.access_windows.Window.{Window}
use Rattle.store_cells.specs.AccessWindows.{window_of}
use Rattle.transfer_checks.specs.Temporaries.{temp_value, put_temp}
use Rattle.transfer_checks.specs.Touches.{touch}
use Rattle.transfer_checks.specs.ViolationSets.{no_violations, violations_union}
use Rattle.transfer_checks.specs.declared.touches.Touched.{Touched}
use Rattle.transfer_checks.specs.declared.violation_sets.Violations.{Violations}
use Rattle.transfer_instructions.specs.Instructions.MemorySteps.{size_of_struct, struct_size, both_touched, kept_target, copy_touched, copy_between, copy_step}
use Rattle.transfer_instructions.specs.Instructions.Steps.{operate}
use Rattle.transfer_instructions.specs.Instructions.StepViolations.{operation_violations}
use Rattle.memory_model.specs.Memory.Bytes.{MachinePointer, into, Byte}
use Rattle.memory_model.specs.Memory.Instances.{Instance, Memory, bytes_at, bytes_of, byte_at}
use Rattle.memory_model.specs.Memory.Scalars.{Scalar, integer, pointer}
use Rattle.memory_model.specs.Memory.Tags.{tag_at}
use Rattle.memory_model.specs.Effects.NumberedTables.{put_at}
use Rattle.memory_model.specs.Effects.Operands.{as_pointer}
use Rattle.memory_model.specs.Effects.ScalarBytes.{region}
use Rattle.memory_model.specs.Effects.StructCopies as effect
use Rattle.memory_model.specs.Effects.StructCopies.{fit_type, may_copy, copy_made, copy_at}
use Rattle.memory_model.specs.Effects.Touches.{Spot, touched, is_allocated, storage_of, storage_at}
use Rattle.memory_model.specs.Effects.Worlds.{World, Reply, Violated, Left, goes, stops, behind, violating, stopped_by}
use Rattle.lower_templates.specs.Worklist.Acts.{act}
use Rattle.semantics.specs.CfgMachine.FlowActs.{giving}
use Rattle.semantics.specs.CfgMachine.FlowStates.{ProgramState}
use Rattle.semantics.specs.CfgMachine.FlowSteps.{act_step}
use Rattle.lower_templates.specs.Views.ProgramViews.{flow_view}
use Rattle.store_sound.specs.Concretization.Coverage.{state_of}
use Rattle.store_sound.specs.Concretization.SoundMemory.{IsInstanceOf, IsMemoryOf, IsPointerIn, IsWithin}
use Rattle.store_sound.specs.Concretization.ValueMeaning.{Naming}
use Rattle.store_sound.proofs.operations.Frames.{pointer_in_moves}
use Rattle.store_sound.proofs.operations.LoadSound.{instance_there}
use Rattle.store_sound.proofs.operations.Slices.{get_there}
use Rattle.store_sound.specs.Programs.Premises.{HasPremises}
use Rattle.store_sound.proofs.regions.Regions.{alike_region}
use Rattle.store_sound.specs.Regions.RegionWrites.{IsRegion}
use Rattle.store_structs.specs.CopyLengths.{copy_struct_keeps}
use Rattle.store_structs.specs.StructCopies as structs
use Rattle.store_structs.specs.StructCopies.{copy_found}
use Rattle.transfer_sound.specs.Values.SoundSteps.{IsReached}
use Rattle.struct_copies_sound.proofs.memory.CopiedMemory.{copied_byte, copied_sane, copy_region}
use Rattle.struct_copies_sound.proofs.copies.CopySteps.{map_get}
use Rattle.struct_copies_sound.specs.Structs.StructTables.{IsListed, HasStructs}
use Rattle.transfer_exact.specs.Values.ExactNumbers.{ExactLaws}
use Rattle.transfer_exact.specs.Values.SingleRows.{IsPlainProgram, ExactState}
use Rattle.transfer_exact.specs.Values.SingleSteps.{IsDefined, ExactAfter, IsExact, StepIsExact}
use Rattle.transfer_exact.specs.Values.SingleValues.{ExactByLife, ExactPointer}
use Rattle.transfer_exact.proofs.values.PutExact.{IsExactResult, put_tells}
use Rattle.transfer_exact.proofs.values.Told.{stop_told, if_some_told}
use Rattle.transfer_exact.proofs.values.ValueSteps.{tells_pointer}
use Rattle.transfer_exact.proofs.values.Violated.{AreViolated, none_violated, same_violated}
use Rattle.transfer_exact.proofs.places.OneBase.{not_empty}
use Rattle.transfer_exact.proofs.places.OneTouch.{TouchesNothing}
use Rattle.transfer_exact.proofs.places.Touching.{union_violated}
use Rattle.transfer_exact.specs.Accesses.TypedAccesses.{HasObjects}
use Rattle.transfer_exact.specs.Spelling.TypedCopies.{IsAtStruct, PointsToStruct, AreOneOrApart, IsTypedCopy}
use Rattle.run_exact.proofs.structs.CopiedRows.{IsSide}
use Rattle.run_exact.proofs.structs.CopiedStates.{Came, copied_state}
use Rattle.run_exact.proofs.structs.FinishedRows.{CopiesRow, struct_copies}
use Rattle.run_exact.proofs.struct_copies.MadeCopies.{fits_there, parts_there, apart_there}
use Rattle.run_exact.proofs.struct_copies.ExactTouches.{IsPlace, IsTouch, nothing, one, touch_told}

module _ {I : Type 0} {l : LatticeOf I} {n : IntegersOf I} {gamma : I → ℤ → Type 0} (order : OrderLaws l) (q : BoundLaws l n gamma) (ranges : RangeLaws l n) (exact : ExactLaws n) (flow : Flow) (p : HasPremises flow) (objects : HasObjects flow) (plain : IsPlainProgram flow) (has : HasStructs flow) (naming : Naming) (row : List (Cell I)) (s : ProgramState) (r : IsReached l n gamma flow naming row s) (t : ExactState l n flow row (state_of s)) where
  abbrev memory : Memory
  memory = s.world.memory

  -- ---- an object that is entered

  tagged : (b i : ℕ) (base : BaseInfo) → slice_get flow.bases.items b ≡ Some base → s.bases b ≡ Some i → (x : ℕ) (w : Byte) → byte_at s.world.memory i x ≡ Some w → w.tag ≡ tag_at flow.model base.shape.cells x
  unfolding byte_at
  tagged b i base at en x w e =
      let it = instance_there s.world.memory i (r.stands_for.lives.alive b i en) in
      let known : IsInstanceOf flow.model base it.0 = r.stands_for.sane.instances i b base it.0 (r.stands_for.lives.named b i en) at it.1 in
      known.tags (plain.no_heap b base at) x w (subst (λ z. slice_get (bytes_of z) x ≡ Some w) it.1 e)

  not_allocated : (b i : ℕ) (base : BaseInfo) → slice_get flow.bases.items b ≡ Some base → s.bases b ≡ Some i → is_allocated (storage_at s.world.memory i) ≡ false
  not_allocated b i base at en =
      let it = instance_there s.world.memory i (r.stands_for.lives.alive b i en) in
      let known : IsInstanceOf flow.model base it.0 = r.stands_for.sane.instances i b base it.0 (r.stands_for.lives.named b i en) at it.1 in
      ap (λ z. is_allocated (storage_of z)) it.1 ∙ (ap is_allocated known.storage ∙ ((p.shaped.each b base at).kind ∙ plain.no_heap b base at))

  short_is : (i : ℕ) → length (bytes_at s.world.memory i) ≤ 2 ^ 63 - 1
  short_is i = by_bytes (flow.model.pointer == 4) (r.short i)
    where
      by_bytes : (b : Bool) → pos (length (bytes_at s.world.memory i)) ≤ℤ pos (2 ^ (8 * cond b 4 8 - 1) - 1) → length (bytes_at s.world.memory i) ≤ 2 ^ 63 - 1
      by_bytes true e = omega (arith, ints, e)
      by_bytes false e = omega (arith, ints, e)

  module _ (to : ℕ) (few : to < flow.temps) (index : ℕ) (x y : Pointers I) (view : StructView) (in_view : slice_get (structs_view flow.structs) index ≡ Some view) where
    abbrev leaves : List Leaf
    leaves = leaves_of (structs_view flow.structs) flow.model.pointer (Struct index)

    listed : IsListed flow.model (structs_view flow.structs) index view
    listed = has.listed index view in_view

    abbrev source : Touched I
    source = touch l n flow.bases.items row y 0 view.size false

    abbrev target : Touched I
    target = touch l n flow.bases.items row x 0 view.size true

    abbrev told : Violations
    told = both_touched (touch l n flow.bases.items row y 0 view.size false) (touch l n flow.bases.items row x 0 view.size true)

    abbrev copied : Option (List (Cell I))
    copied = structs.copy_struct l n flow.model flow.bases.items (structs_view flow.structs) index target.rest source.rest row

    abbrev after : Option (List (Cell I))
    after = kept_target l flow to (touch l n flow.bases.items row x 0 view.size true).rest (structs.copy_struct l n flow.model flow.bases.items (structs_view flow.structs) index (touch l n flow.bases.items row x 0 view.size true).rest (touch l n flow.bases.items row y 0 view.size false).rest row)

    -- ---- where no object is touched there is no row

    none_target : window_of n target.rest view.size ≡ None → copied ≡ None
    unfolding structs.copy_struct
    none_target e = ap (λ z. copy_found l n flow.model flow.bases.items (structs_view flow.structs) index target.rest source.rest z row) in_view
        ∙ ap (λ z. structs.copy_between l n flow.model flow.bases.items (structs_view flow.structs) index view target.rest.bases z source.rest.bases (window_of n source.rest view.size) row) e

    none_source : window_of n source.rest view.size ≡ None → copied ≡ None
    unfolding structs.copy_struct
    none_source e = ap (λ z. copy_found l n flow.model flow.bases.items (structs_view flow.structs) index target.rest source.rest z row) in_view
        ∙ (ap (λ z. structs.copy_between l n flow.model flow.bases.items (structs_view flow.structs) index view target.rest.bases (window_of n target.rest view.size) source.rest.bases z row) e ∙ by_window (window_of n target.rest view.size))
      where
        by_window : (w : Option Window) → structs.copy_between l n flow.model flow.bases.items (structs_view flow.structs) index view target.rest.bases w source.rest.bases None row ≡ None
        by_window None = refl
        by_window (Some w) = refl

    module _ (d m : MachinePointer) (tells_d : ExactPointer n s.bases s.world.memory x d) (tells_m : ExactPointer n s.bases s.world.memory y m) (inside_d : IsPointerIn s.world.memory d) (inside_m : IsPointerIn s.world.memory m)
        (typed_d : PointsToStruct flow s.bases index d) (typed_m : PointsToStruct flow s.bases index m) (places : AreOneOrApart flow index d m) where
      abbrev Told : Reply ProgramState → Type 0
      Told reply = IsExact l n flow after told reply

      abbrev reply : Reply Scalar
      reply = effect.copy_struct flow.model leaves view.size (pointer d) (pointer m) s.world

      source_stops : (rule : Rule) (v : Violations) → touched s.world m view.size false ≡ stopped_by s.world rule → TouchesNothing q flow.bases.items plain.no_heap row y view.size false v → AreViolated v (s.world.violated ++ (rule ∷ [])) → Told (giving s to reply)
      source_stops rule v e h bad =
          let is : reply ≡ as_pointer (stopped_by s.world rule) = ap (λ z. as_pointer (behind z (λ from w. behind (touched w d view.size true) (copy_at flow.model leaves view.size d from)))) e in
          let all : told ≡ v = ap (λ z. cond z source.violations (violations_union source.violations target.violations)) h.empty ∙ h.violations in
          subst (λ z. Told (giving s to z)) (sym is)
          (stop_told l n flow after told Violated (violating s.world (rule ∷ [])) (ap (kept_target l flow to target.rest) (none_source h.window)) (same_violated told v (s.world.violated ++ (rule ∷ [])) all bad))

      module _ (b : IsPlace q flow plain naming row s r y m view.size false) where
        some_source : bases_empty source.rest.bases ≡ false
        some_source = ap bases_empty b.touches.sole ∙ not_empty b.from.base b.from.few

        both : told ≡ violations_union source.violations target.violations
        both = ap (λ z. cond z source.violations (violations_union source.violations target.violations)) some_source

        target_stops : (rule : Rule) (v : Violations) → touched s.world d view.size true ≡ stopped_by s.world rule → TouchesNothing q flow.bases.items plain.no_heap row x view.size true v → AreViolated v (s.world.violated ++ (rule ∷ [])) → Told (giving s to reply)
        target_stops rule v e h bad =
            let spot : Spot = record { instance = b.i; offset = b.offset } in
            let is : reply ≡ as_pointer (stopped_by s.world rule) =
            ap (λ z. as_pointer (behind z (λ from w. behind (touched w d view.size true) (copy_at flow.model leaves view.size d from)))) b.goes_on
            ∙ ap (λ z. as_pointer (behind z (copy_at flow.model leaves view.size d (record { instance = b.i; offset = b.offset })))) e in
            let one_side = same_violated source.violations no_violations (s.world.violated ++ (rule ∷ [])) b.touches.violations (none_violated (s.world.violated ++ (rule ∷ []))) in
            let other_side = same_violated target.violations v (s.world.violated ++ (rule ∷ [])) h.violations bad in
            subst (λ z. Told (giving s to z)) (sym is)
            (stop_told l n flow after told Violated (violating s.world (rule ∷ [])) (ap (kept_target l flow to target.rest) (none_target h.window))
            (same_violated told (violations_union source.violations target.violations) (s.world.violated ++ (rule ∷ [])) both (union_violated source.violations target.violations (s.world.violated ++ (rule ∷ [])) one_side other_side)))

        -- ---- both are touched

        module _ (a : IsPlace q flow plain naming row s r x d view.size true) where
          abbrev from_spot : Spot
          from_spot = record { instance = b.i; offset = b.offset }

          abbrev to_spot : Spot
          to_spot = record { instance = a.i; offset = a.offset }

          within_to : IsWithin s.world.memory a.i a.offset a.lo a.hi
          within_to = subst (IsPointerIn s.world.memory) a.is inside_d

          within_from : IsWithin s.world.memory b.i b.offset b.lo b.hi
          within_from = subst (IsPointerIn s.world.memory) b.is inside_m

          fits_to : a.offset + view.size ≤ length (bytes_at s.world.memory a.i)
          fits_to = let u = a.fits in let v = within_to.within in omega (arith, u, v)

          fits_from : b.offset + view.size ≤ length (bytes_at s.world.memory b.i)
          fits_from = let u = b.fits in let v = within_from.within in omega (arith, u, v)

          at_to : IsAtStruct flow index view a.info a.offset
          at_to = subst (PointsToStruct flow s.bases index) a.is typed_d a.from.base a.info view a.there in_view a.from.names a.above a.fits

          at_from : IsAtStruct flow index view b.info b.offset
          at_from = subst (PointsToStruct flow s.bases index) b.is typed_m b.from.base b.info view b.there in_view b.from.names b.above b.fits

          side_to : IsSide flow index view a.from.base a.info a.offset
          side_to = record { at = a.there; few = a.from.few; there = at_to; near = let u = fits_to in let v = short_is a.i in omega (arith, u, v) }

          side_from : IsSide flow index view b.from.base b.info b.offset
          side_from = record { at = b.there; few = b.from.few; there = at_from; near = let u = fits_from in let v = short_is b.i in omega (arith, u, v) }

          places_are : AreOneOrApart flow index (into a.i a.offset a.lo a.hi) (into b.i b.offset b.lo b.hi)
          places_are = subst (λ z. AreOneOrApart flow index (into a.i a.offset a.lo a.hi) z) b.is (subst (λ z. AreOneOrApart flow index z m) a.is places)

          apart : (z : ℕ) → b.from.base ≡ a.from.base → a.offset ≤ z → z < a.offset + view.size → b.offset ≤ z → z < b.offset + view.size → a.offset ≡ b.offset
          apart z same f g h k = places_are z view in_view (same_Some a.i b.i (sym a.from.names ∙ (ap s.bases (sym same) ∙ b.from.names))) a.above a.fits b.above b.fits f g h k

          single : (c : ℕ) (info : BaseInfo) → slice_get flow.bases.items c ≡ Some info → (j : ℕ) (leaf : Leaf) → slice_get info.shape.cells j ≡ Some leaf → leaf.count ≡ 1
          single c info at j leaf e = plain.apart c j info leaf at e

          -- ---- the machine copies

          to_fits : (is_allocated (storage_at s.world.memory a.i) || fit_type flow.model leaves false 0 (region (bytes_at s.world.memory a.i) a.offset view.size)) ≡ true
          to_fits = or_right _ _ (fits_there flow index view listed a.info a.offset at_to (objects a.from.base a.info a.there) (single a.from.base a.info a.there) s.world.memory a.i (tagged a.from.base a.i a.info a.there a.from.names) (λ z w e. r.stands_for.sane.bytes a.i z w e))

          from_fits : fit_type flow.model leaves (is_allocated (storage_at s.world.memory b.i)) 0 (region (bytes_at s.world.memory b.i) b.offset view.size) ≡ true
          from_fits = subst (λ z. fit_type flow.model leaves z 0 (region (bytes_at s.world.memory b.i) b.offset view.size) ≡ true) (sym (not_allocated b.from.base b.i b.info b.there b.from.names))
              (fits_there flow index view listed b.info b.offset at_from (objects b.from.base b.info b.there) (single b.from.base b.info b.there) s.world.memory b.i (tagged b.from.base b.i b.info b.there b.from.names) (λ z w e. r.stands_for.sane.bytes b.i z w e))

          parts : effect.keeps_parts flow.model leaves 0 (region (bytes_at s.world.memory b.i) b.offset view.size) ≡ true
          parts = parts_there flow index view listed b.info b.offset at_from (objects b.from.base b.info b.there) (single b.from.base b.info b.there) s.world.memory b.i (tagged b.from.base b.i b.info b.there b.from.names) (λ z w e. r.stands_for.sane.bytes b.i z w e)

          may : may_copy flow.model leaves view.size s.world to_spot from_spot ≡ true
          may = and_from _ _ to_fits (and_from _ _ from_fits (and_from _ _ (apart_there to_spot from_spot view.size (λ z same f g h k. places_are z view in_view same a.above a.fits b.above b.fits f g h k)) parts))

          abbrev u : World
          u = copy_made flow.model leaves view.size s.world to_spot from_spot

          reply_is : reply ≡ goes (pointer d) u
          reply_is =
              ap (λ z. as_pointer (behind z (λ from w. behind (touched w d view.size true) (copy_at flow.model leaves view.size d from)))) b.goes_on
              ∙ (ap (λ z. as_pointer (behind z (copy_at flow.model leaves view.size d from_spot))) a.goes_on
              ∙ ap (λ z. as_pointer (cond z (goes d u) (stops Left s.world))) may)

          it : (z : Instance) × (slice_get s.world.memory a.i ≡ Some z)
          it = instance_there s.world.memory a.i a.alive

          came_region : IsRegion s.world.memory u.memory a.i a.offset view.size
          came_region = copy_region flow.model flow.bases.items p.shaped naming s.world.memory r.stands_for.sane leaves a.i a.offset b.i b.offset view.size it.0 it.1 fits_to fits_from b.from.base (r.stands_for.lives.named b.from.base b.i b.from.names) to_fits from_fits parts

          sane : IsMemoryOf flow.model flow.bases.items naming u.memory
          sane = copied_sane flow.model flow.bases.items p.shaped naming s.world.memory r.stands_for.sane leaves a.i a.offset b.i b.offset view.size it.0 it.1 fits_to fits_from b.from.base (r.stands_for.lives.named b.from.base b.i b.from.names) to_fits from_fits parts

          came : (z : ℕ) (w : Byte) → a.offset ≤ z → z < a.offset + view.size → byte_at u.memory a.i z ≡ Some w → Came s.world.memory a.i a.offset b.i b.offset z w
          came z w f g e =
              let k = copied_byte flow.model flow.bases.items p.shaped naming s.world.memory r.stands_for.sane leaves a.i a.offset b.i b.offset view.size it.0 it.1 fits_to fits_from b.from.base (r.stands_for.lives.named b.from.base b.i b.from.names) to_fits from_fits parts z w f g e in
              let tag = k.tag ∙ ap (λ c. effect.copied_tag c (tag_at flow.model leaves (z - a.offset)) k.was.tag) (not_allocated a.from.base a.i a.info a.there a.from.names) in
              record { was = k.was; source = k.source; there = k.there; from = k.from; content = k.content; tag = tag }

          -- ---- the row

          wide : p.laid.behind ≤ length row
          wide = subst (λ z. p.laid.behind ≤ z) (sym r.long) p.laid.long

          row_copies : CopiesRow flow p objects plain index view listed a.from.base b.from.base a.info b.info a.offset b.offset side_to side_from apart l n row wide copied
          row_copies = struct_copies flow p objects plain index view listed a.from.base b.from.base a.info b.info a.offset b.offset side_to side_from apart l n row wide target.rest source.rest a.touches.sole b.touches.sole a.touches.window b.touches.window in_view

          cells_are : length a.info.shape.cells + cond a.info.shape.heap 6 0 ≡ length a.info.shape.cells
          cells_are = ap (λ z. length a.info.shape.cells + cond z 6 0) (plain.no_heap a.from.base a.info a.there) ∙ omega arith

          told_state : ExactState l n flow row_copies.after (record { memory = u.memory; temps = s.temps; entered = s.bases })
          told_state = copied_state order q ranges exact flow p objects plain index view listed a.from.base b.from.base a.info b.info a.offset b.offset side_to side_from apart row wide (state_of s) t r.stands_for.sane.bytes a.i b.i a.from.names b.from.names
              (λ c k e ne same. ne (same_Some c a.from.base (sym (r.stands_for.lives.named c k e) ∙ (ap naming same ∙ r.stands_for.lives.named a.from.base a.i a.from.names))))
              u.memory came_region (tagged a.from.base a.i a.info a.there a.from.names) came row_copies.after row_copies.made
              (λ z beside none. row_copies.kept z (λ f g. let c = cells_are in beside (omega (arith, f, c)) g) none)

          long : length row_copies.after ≡ flow.width
          long = copy_struct_keeps l n flow.model flow.bases.items (structs_view flow.structs) index target.rest source.rest row row_copies.after row_copies.is ∙ r.long

          -- ---- the pointer that is kept

          rest_tells : ExactPointer n s.bases u.memory target.rest d
          rest_tells = subst (ExactPointer n s.bases u.memory target.rest) (sym a.is) (subst (λ z. ExactByLife n s.bases target.rest z a.i a.offset a.lo a.hi) (sym (came_region.lives a.i ∙ a.alive)) a.touches.told)

          within_new : IsPointerIn u.memory d
          within_new = pointer_in_moves (alike_region came_region) d inside_d

          result : IsExactResult q flow p s.bases u.memory (pointer_value l target.rest) (pointer d)
          result = record { tells = tells_pointer q s.bases u.memory target.rest d rest_tells; near = tt; within = within_new }

          abbrev last : List (Cell I)
          last = put_temp flow row_copies.after to (pointer_value l target.rest)

          told_last : ExactState l n flow last (record { memory = u.memory; temps = put_at s.temps to (pointer d); entered = s.bases })
          told_last = put_tells q flow p naming row_copies.after long (record { memory = u.memory; temps = s.temps; entered = s.bases }) sane told_state to few (pointer_value l target.rest) (pointer d) result

          clean : AreViolated told u.violated
          clean = same_violated told (violations_union source.violations target.violations) u.violated both
              (union_violated source.violations target.violations u.violated (same_violated source.violations no_violations u.violated b.touches.violations (none_violated u.violated)) (same_violated target.violations no_violations u.violated a.touches.violations (none_violated u.violated)))

          abbrev now : ProgramState
          now = record s { at = suc s.at; temps = put_at s.temps to (pointer d); world = u }

          gone : Told (giving s to (goes (pointer d) u))
          gone = record {
            goes_on = λ v w e.
                let same : now ≡ v = cc in
                let world : u ≡ w = cc in
                let here : ExactAfter l n flow after (record now { world = u }) = record { row = last; is = ap (kept_target l flow to target.rest) row_copies.is; tells = told_last } in
                subst (λ z. ExactAfter l n flow after (record z { world = w })) same (subst (λ z. ExactAfter l n flow after (record now { world = z })) world here);
            ends = λ why w e. cc;
            violated = clean;
          }

          copies : Told (giving s to reply)
          copies = subst (λ z. Told (giving s to z)) (sym reply_is) gone

        target_touched : IsTouch q flow plain naming row s r x d view.size true → Told (giving s to reply)
        target_touched (nothing rule v e h bad) = target_stops rule v e h bad
        target_touched (one a) = copies a

      source_touched : IsTouch q flow plain naming row s r y m view.size false → Told (giving s to reply)
      source_touched (nothing rule v e h bad) = source_stops rule v e h bad
      source_touched (one b) = target_touched b (touch_told q flow plain naming row s r x d view.size true tells_d inside_d)

      pub pointers_told : Told (giving s to reply)
      pointers_told = source_touched (touch_told q flow plain naming row s r y m view.size false tells_m inside_m)

  -- ---- the instruction

  module _ (to : ℕ) (few : to < flow.temps) (from index : ℕ) (st : StructType) (there : slice_get flow.structs.items.items index ≡ Some st) where
    in_view : slice_get (structs_view flow.structs) index ≡ Some (struct_view st)
    in_view = map_get struct_view flow.structs.items.items index st there

    -- the size as both have it
    machine_size : size_of_type (structs_view flow.structs) flow.model.pointer (Struct index) ≡ st.size
    machine_size = ap (λ (z : StructView). z.size) (get_or_from_slice_get (structs_view flow.structs) index (struct_view st) no_struct in_view)

    table_size : struct_size flow index ≡ st.size
    table_size = let small = (has.listed index (struct_view st) in_view).struct.small in ap size_of_struct there ∙ omega (arith, small)

    abbrev x : Pointers I
    x = (temp_value l n flow row to).pointer

    abbrev y : Pointers I
    y = (temp_value l n flow row from).pointer

    abbrev ExactAt : ℕ → Reply ProgramState → Type 0
    ExactAt k reply = IsExact l n flow (kept_target l flow to (touch l n flow.bases.items row x 0 k true).rest (structs.copy_struct l n flow.model flow.bases.items (structs_view flow.structs) index (touch l n flow.bases.items row x 0 k true).rest (touch l n flow.bases.items row y 0 k false).rest row))
        (both_touched (touch l n flow.bases.items row y 0 k false) (touch l n flow.bases.items row x 0 k true)) reply

    abbrev reply_of : ℕ → Scalar → Scalar → Reply ProgramState
    reply_of k a b = giving s to (effect.copy_struct flow.model (leaves_of (structs_view flow.structs) flow.model.pointer (Struct index)) k a b s.world)

    scalars_told : (a b : Scalar) → s.temps to ≡ Some a → s.temps from ≡ Some b → IsTypedCopy flow (op.Copy to from index) s → IsDefined (reply_of (size_of_type (structs_view flow.structs) flow.model.pointer (Struct index)) a b) → ExactAt (struct_size flow index) (reply_of (size_of_type (structs_view flow.structs) flow.model.pointer (Struct index)) a b)
    scalars_told (integer z la) b e f typed d = absurd (d s.world refl)
    scalars_told (pointer u) (integer z la) e f typed d = absurd (d s.world refl)
    scalars_told (pointer u) (pointer v) e f typed d =
        subst (λ k. ExactAt (struct_size flow index) (reply_of k (pointer u) (pointer v))) (sym machine_size)
        (subst (λ k. ExactAt k (reply_of st.size (pointer u) (pointer v))) (sym table_size)
        (pointers_told to few index x y (struct_view st) in_view u v (t.temps to (pointer u) e).points (t.temps from (pointer v) f).points
        (r.stands_for.held.within to (pointer u) e) (r.stands_for.held.within from (pointer v) f) (typed.0 u e) (typed.1 v f) (typed.2 u v e f)))

  copy_told : (to from index : ℕ) → fits_operation (names_of flow) (op.Copy to from index) ≡ true → IsTypedCopy flow (op.Copy to from index) s → IsDefined (act_step (flow_view flow) (act (op.Copy to from index)) s) → StepIsExact l n flow row (op.Copy to from index) s
  unfolding operate copy_step copy_between copy_touched operation_violations
  copy_told to from index fits typed d =
      let a = and_parts (has_temp (names_of flow) to) (has_temp (names_of flow) from && nat_lt index (names_of flow).structs) fits in
      let b = and_parts (has_temp (names_of flow) from) (nat_lt index (names_of flow).structs) a.1 in
      let st = get_there flow.structs.items.items index (ltb-true index (names_of flow).structs b.1) in
      if_some_told l n flow _ _ s (s.temps to) _ d (λ pv e d. if_some_told l n flow _ _ s (s.temps from) _ d (λ v f d. scalars_told to (ltb-true to flow.temps a.0) from index st.0 st.1 pv v e f typed d))

  pub copy_step_told : (i : Operation) → IsTypedCopy flow i s → fits_operation (names_of flow) i ≡ true → IsDefined (act_step (flow_view flow) (act i) s) → StepIsExact l n flow row i s
  copy_step_told (op.Copy to from index) typed fits d = copy_told to from index fits typed d
  copy_step_told i typed fits d = absurd typed
