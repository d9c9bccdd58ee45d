-- The step that spells a text is sound.
use Rattle.std.proofs.Common.{◌≡◌, ℕ, suc, ◌+◌, ◌-◌, ◌<◌, ◌≤◌, true, false, ◌&&◌, Option, Some, List, [], length, arith, subst, sym, ap, ◌∙◌}
use Rattle.std.specs.Prelude.{slice_get, ℤ, pos, ◌≤ℤ◌}
use Rattle.std.specs.List.{list_all}
use Rattle.std.proofs.lemmas.Bool.{and_parts}
use Rattle.cc_base.specs.Lattices.{LatticeOf, OrderLaws}
use Rattle.cc_base.specs.IntegerDomains.{IntegersOf, BoundLaws}
use Rattle.cc_base.specs.IntegerTypes.{greatest_of}
use Rattle.cc_base.specs.declared.limit_table.Limits.{Limits}
use Rattle.c_layout.specs.declared.leaf_lists.Class.TheVariants.{Char, Pointer}
use Rattle.c_layout.specs.declared.shapes.BaseInfo.{BaseInfo}
use Rattle.c_layout.specs.declared.shapes.BaseKind.TheVariants.{Older}
use Rattle.cfg.specs.BaseShapes.{is_extent, ends_by, is_room_or_apart, has_room}
use Rattle.cfg.specs.WellFormed.{names_of, has_local, fits_operation, is_well_formed}
use Rattle.cfg.specs.declared.machine_instructions.Operation.{Operation}
use Rattle.cfg.specs.declared.machine_instructions.Operation.TheVariants as op
use Rattle.cfg.specs.declared.programs.Flow.{Flow}
use Rattle.value_domain.specs.declared.values.row_cells.Cell.{Cell}
use Rattle.store_objects.specs.ObjectLives.{at_base}
use Rattle.store.specs.StoreLengths.{spell_keeps}
use Rattle.store_cells.specs.ScalarTypes.{kind_of}
use Rattle.store.specs.Spelling.{written_count, character, spell_object, spell}
use Rattle.transfer_checks.specs.ViolationSets.{no_violations}
use Rattle.transfer_sound.specs.Steps.{operate}
use Rattle.transfer_sound.specs.StepViolations.{operation_violations}
use Rattle.memory_model.specs.Memory.Labels.{no_labels}
use Rattle.memory_model.specs.Memory.Bytes.{Byte}
use Rattle.memory_model.specs.Memory.Instances.{Memory, Instance, bytes_of, bytes_at, byte_at, live, life_at}
use Rattle.memory_model.specs.Memory.Tags.{tag_of}
use Rattle.memory_model.specs.Effects.ObjectEffects.{spelled}
use Rattle.memory_model.specs.Effects.ScalarBytes.{refilled}
use Rattle.memory_model.specs.Effects.Touches.{set_bytes}
use Rattle.memory_model.specs.Effects.Worlds.{World}
use Rattle.semantics.specs.CfgMachine.FlowStates.{ProgramState}
use Rattle.store_sound.specs.Concretization.SoundMemory.{IsMemoryOf}
use Rattle.store_sound.specs.Concretization.ValueMeaning.{Naming}
use Rattle.store_sound.specs.Concretization.RowMeaning.{IsLiveOf, InGamma}
use Rattle.store_sound.specs.Concretization.Coverage.{state_of}
use Rattle.store_sound.specs.Operations.Shapes.{IsLaidOut}
use Rattle.store_sound.proofs.operations.LoadSound.{instance_there}
use Rattle.store_sound.specs.Programs.Premises.{HasPremises}
use Rattle.store_sound.proofs.programs.ShapedBases.{all_at, ends_inside}
use Rattle.store_sound.specs.Regions.RegionWrites.{IsRegion}
use Rattle.store_sound.proofs.regions.ContentRegions.{IsWritten, contents_written, contents_sane, region_content}
use Rattle.store_sound.proofs.operations.StoreLeaves.{live_ended}
use Rattle.transfer_sound.specs.Values.SoundSteps.{AreShort, IsReached, InGammaAfter, StepIsSound}
use Rattle.transfer_sound.proofs.values.Admitted.{none_admitted, same_admitted}
use Rattle.transfer_sound.proofs.values.PartSteps.{declared_storage}
use Rattle.transfer_sound.proofs.values.Replies.{if_some_good}
use Rattle.transfer_sound.proofs.objects.WholeObjects.{automatic_declared, automatic_storage, some_kind}
use Rattle.transfer_sound.proofs.clear.FullParts.{parts_full}
use Rattle.library_sound.specs.Spelling.SpellSteps.{SpellsBytes, SpellsCharacters}
use Rattle.library_sound.proofs.spelling.Texts.{contents, contents_long, content_is, byte_small}
use Rattle.library_sound.proofs.spelling.SpelledCells.{IsText}
use Rattle.library_sound.proofs.spelling.SpelledRows.{IsSpelled, spelled_stands}

module _ {I : Type 0} {l : LatticeOf I} {n : IntegersOf I} {gamma : I → ℤ → Type 0} (o : OrderLaws l) (q : BoundLaws l n gamma) (flow : Flow) (p : HasPremises flow) (limits : Limits) (good : is_well_formed limits flow ≡ true) (naming : Naming) (row : List (Cell I)) (s : ProgramState) (r : IsReached l n gamma flow naming row s) where
  module _ (b i offset room : ℕ) (text : List ℕ) (info : BaseInfo) (at : slice_get flow.bases.items b ≡ Some info) (entered : s.bases b ≡ Some i) (declared : info.shape.heap ≡ false) (kind : info.kind ≡ Older → ⊥) (fits : has_room offset room (Some info) ≡ true) (h : SpellsBytes flow b offset room text) where
    abbrev old : Memory
    old = s.world.memory

    abbrev new : Memory
    new = set_bytes old i (refilled (bytes_at old i) offset (contents room text))

    named : naming i ≡ Some b
    named = r.stands_for.lives.named b i entered

    alive : life_at old i ≡ live
    alive = r.stands_for.lives.alive b i entered

    it : (x : Instance) × (slice_get old i ≡ Some x)
    it = instance_there old i alive

    size_is : length (bytes_at old i) ≡ info.size
    size_is = ap (λ z. length (bytes_of z)) it.1 ∙ (r.stands_for.sane.instances i b info it.0 named at it.1).size declared

    room_inside : offset + room ≤ length (bytes_at old i)
    room_inside =
        let a = and_parts (ends_by offset room info.size) (list_all (is_room_or_apart offset room) info.shape.zeros) fits in
        let c = ends_inside offset room info.size a.0 in
        let d = size_is in
        omega (arith, c, d)

    wholly : offset + length (contents room text) ≤ length (bytes_at old i)
    wholly = let a = contents_long room text in let c = room_inside in omega (arith, a, c)

    written : IsWritten old new i offset (contents room text)
    written = contents_written old i offset (contents room text) it.0 it.1 wholly

    sane : IsMemoryOf flow.model flow.bases.items naming new
    sane = contents_sane old i offset (contents room text) it.0 it.1 wholly flow.model flow.bases.items naming
        (λ k c e. (character text k, no_labels, content_is room text k c e, byte_small text k h.bytes)) r.stands_for.sane

    single : (j : ℕ) → IsLiveOf naming old b j → j ≡ i
    single j u = r.stands_for.sane.one j i b info at kind u.named named (λ e. live_ended (sym u.alive ∙ e)) (λ e. live_ended (sym alive ∙ e))

    tag_there : (a : ℕ) (x : Byte) → offset ≤ a → a < offset + room → byte_at new i a ≡ Some x → x.tag ≡ tag_of Char 0
    unfolding byte_at
    tag_there a x from to e =
        let there = instance_there new i (written.region.lives i ∙ alive) in
        (sane.instances i b info there.0 named at there.1).tags declared a x (sym (ap (λ z. slice_get (bytes_of z) a) there.1) ∙ e) ∙ h.over info at a from to

    is_text : IsText new i offset (written_count room text) text
    is_text =
        let long = contents_long room text in
        let inside = room_inside in
        let small = r.stands_for.sane.small i in
        record {
          content = λ a x from to e. content_is room text (a - offset) x.content (region_content written a x from (omega (arith, to, long)) e);
          tag = λ a x from to e. tag_there a x from (omega (arith, to)) e;
          last = omega (arith, inside, small);
        }

    is_spelled : IsSpelled old new i info offset room text
    is_spelled = record {
      region = subst (IsRegion old new i offset) (contents_long room text) written.region;
      written = is_text;
      small = h.bytes;
      some = h.some;
      inside = let a = room_inside in let c = written.region.lengths i in omega (arith, a, c);
      declared = declared;
      full = λ z part e. (parts_full limits flow good b info at declared z part e).some;
      rooms = λ z part e. all_at (is_room_or_apart offset room) info.shape.zeros z part (and_parts (ends_by offset room info.size) (list_all (is_room_or_apart offset room) info.shape.zeros) fits).1 e;
    }

    row_stands : InGamma l n gamma flow naming (spell_object l n offset room text info row) (record { memory = new; temps = s.temps; entered = s.bases })
    row_stands = spelled_stands o q flow naming row (state_of s) (subst (IsLaidOut flow) (sym r.long) p.laid) r.stands_for new i offset room text b info at named is_spelled sane single

    still_short : AreShort flow.model new
    still_short j = subst (λ z. pos z ≤ℤ greatest_of (kind_of flow.model Pointer true)) (sym (written.region.lengths j)) (r.short j)

  module _ (b offset room : ℕ) (text : List ℕ) (fitted : fits_operation (names_of flow) (op.Spell b offset room text) ≡ true) (h : SpellsBytes flow b offset room text) where
    abbrev after : Option BaseInfo → List (Cell I)
    after base = at_base (spell_object l n offset room text) base row

    fitting : (has_local (names_of flow) b ≡ true) × (has_room offset room (slice_get flow.bases.items b) ≡ true)
    fitting =
        let a = and_parts (has_local (names_of flow) b) ((is_extent offset && is_extent room) && has_room offset room (slice_get flow.bases.items b)) fitted in
        let c = and_parts (is_extent offset && is_extent room) (has_room offset room (slice_get flow.bases.items b)) a.1 in
        (a.0, c.1)

    spell_length : length (after (slice_get flow.bases.items b)) ≡ length row
    unfolding spell
    spell_length = spell_keeps l n flow.bases.items b offset room text row

    spell_sound : StepIsSound l n gamma flow row (op.Spell b offset room text) s
    unfolding operate spell operation_violations
    spell_sound =
        let k = some_kind flow.bases.items b fitting.0 in
        let info : BaseInfo = k.0 in
        let declared : info.shape.heap ≡ false = sym (p.shaped.each b info k.1).kind ∙ declared_storage info.kind (automatic_storage info.kind k.2) in
        let fits : has_room offset room (Some info) ≡ true = subst (λ z. has_room offset room z ≡ true) k.1 fitting.1 in
        if_some_good l n gamma flow _ no_violations s r.begun (s.bases b) _ (λ i e. record {
          goes_on = λ t u f.
              let w : World = spelled i offset room text s.world in
              let now : ProgramState = record s { at = suc s.at; world = w } in
              let a : now ≡ t = cc in
              let c : w ≡ u = cc in
              let here : InGammaAfter l n gamma flow (Some (after (slice_get flow.bases.items b))) (record now { world = w }) = record {
                row = spell_object l n offset room text info row;
                is = ap (λ z. Some (after z)) k.1;
                long = sym (ap (λ z. length (after z)) k.1) ∙ (spell_length ∙ r.long);
                naming = naming;
                stands_for = row_stands b i offset room text info k.1 e declared (automatic_declared info.kind k.2) fits h;
                short = still_short b i offset room text info k.1 e declared (automatic_declared info.kind k.2) fits h;
              } in
              subst (λ z. InGammaAfter l n gamma flow (Some (after (slice_get flow.bases.items b))) (record z { world = u })) a (subst (λ z. InGammaAfter l n gamma flow (Some (after (slice_get flow.bases.items b))) (record now { world = z })) c here);
          admits = same_admitted no_violations s.world.violated [] r.begun (none_admitted no_violations);
        })

  pub spell_step_sound : (x : Operation) → SpellsCharacters flow x → fits_operation (names_of flow) x ≡ true → StepIsSound l n gamma flow row x s
  spell_step_sound (op.Spell b offset room text) is h = spell_sound b offset room text h is
  spell_step_sound x is h = absurd is
