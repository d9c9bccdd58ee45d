-- Texts that are spelled are told.
use Rattle.std.proofs.Common.{◌≡◌, ℕ, suc, ◌-◌, true, false, ◌&&◌, Option, Some, List, arith, subst, sym, ap, ◌∙◌}
use Rattle.std.specs.Prelude.{slice_get, ℤ}
use Rattle.std.proofs.lemmas.Bool.{and_parts}
use Rattle.std.proofs.lemmas.Option.{same_Some}
use Rattle.cc_base.specs.Lattices.{LatticeOf}
use Rattle.cc_base.specs.IntegerDomains.{IntegersOf, BoundLaws}
use Rattle.c_layout.specs.declared.leaf_lists.Leaf.{Leaf}
use Rattle.c_layout.specs.declared.shapes.BaseInfo.{BaseInfo}
use Rattle.cfg.specs.BaseShapes.{is_extent, has_room}
use Rattle.cfg.specs.WellFormed.{names_of, has_local, fits_operation}
use Rattle.cfg.specs.declared.machine_instructions.Operation.{Operation}
use Rattle.cfg.specs.declared.machine_instructions.Operation.TheVariants as op
use Rattle.cfg.specs.declared.programs.Flow.{Flow}
use Rattle.value_domain.specs.declared.values.row_cells.Cell.{Cell}
use Rattle.store_objects.specs.ObjectLives.{at_base}
use Rattle.store_cells.specs.RowPositions.{leaf_position, value_at}
use Rattle.store.specs.Spelling.{spell_object, spell}
use Rattle.transfer_checks.specs.ViolationSets.{no_violations}
use Rattle.transfer_instructions.specs.Instructions.Steps.{operate}
use Rattle.transfer_instructions.specs.Instructions.StepViolations.{operation_violations}
use Rattle.memory_model.specs.Memory.Instances.{Memory, Instance, bytes_at}
use Rattle.memory_model.specs.Effects.ObjectEffects.{spelled}
use Rattle.memory_model.specs.Effects.ScalarBytes.{refilled}
use Rattle.memory_model.specs.Effects.Touches.{set_bytes}
use Rattle.memory_model.specs.Effects.Worlds.{World}
use Rattle.lower_templates.specs.Worklist.Acts.{act}
use Rattle.lower_templates.specs.Views.ProgramViews.{flow_view}
use Rattle.semantics.specs.CfgMachine.FlowStates.{ProgramState}
use Rattle.semantics.specs.CfgMachine.FlowSteps.{act_step}
use Rattle.store_sound.specs.Concretization.Coverage.{state_of}
use Rattle.store_sound.specs.Concretization.RowMeaning.{MachineState}
use Rattle.store_sound.specs.Concretization.SoundMemory.{IsInstanceOf}
use Rattle.store_sound.specs.Concretization.ValueMeaning.{Naming}
use Rattle.store_sound.proofs.operations.LoadSound.{instance_there}
use Rattle.store_sound.proofs.operations.StoreRows.{Fits}
use Rattle.store_sound.specs.Programs.Premises.{HasPremises}
use Rattle.store_sound.proofs.regions.ContentRegions.{IsWritten}
use Rattle.transfer_sound.specs.Values.SoundSteps.{IsReached}
use Rattle.transfer_sound.proofs.objects.WholeObjects.{some_kind}
use Rattle.struct_copies_sound.specs.SpellSteps.{SpellsBytes}
use Rattle.struct_copies_sound.proofs.Texts.{contents}
use Rattle.transfer_exact.specs.Values.SingleRows.{IsPlainProgram, ExactLeaf, ExactState}
use Rattle.transfer_exact.specs.Values.SingleSteps.{IsDefined, StepIsExact}
use Rattle.transfer_exact.proofs.values.Told.{if_some_told, clean_goes_told}
use Rattle.transfer_exact.proofs.places.OneLeaf.{place_is}
use Rattle.transfer_exact.specs.Accesses.TypedAccesses.{HasObjects}
use Rattle.transfer_exact.proofs.accesses.Moves.{change_tells}
use Rattle.transfer_exact.specs.Spelling.CopyLaws.{IsSpelled}
use Rattle.store_sound.proofs.regions.SpelledParts.{spelled_within}
use Rattle.transfer_exact.proofs.spelling.SpelledLeaves.{written, spelled_leaves}

module _ {I : Type 0} {l : LatticeOf I} {n : IntegersOf I} {gamma : I → ℤ → Type 0} (q : BoundLaws l n gamma) (flow : Flow) (p : HasPremises flow) (objects : HasObjects flow) (plain : IsPlainProgram flow) (naming : Naming) (row : List (Cell I)) (s : ProgramState) (r : IsReached l n gamma flow naming row s) (t : ExactState l n flow row (state_of s)) where
  module _ (b i offset room : ℕ) (text : List ℕ) (info : BaseInfo) (at : slice_get flow.bases.items b ≡ Some info) (entered : s.bases b ≡ Some i) (declared : info.shape.heap ≡ false) (fitting : has_room offset room (Some info) ≡ true) (h : SpellsBytes flow b offset room text) where
    named : naming i ≡ Some b
    named = r.stands_for.lives.named b i entered

    it : (x : Instance) × (slice_get s.world.memory i ≡ Some x)
    it = instance_there s.world.memory i (r.stands_for.lives.alive b i entered)

    known : IsInstanceOf flow.model info it.0
    known = r.stands_for.sane.instances i b info it.0 named at it.1

    single : (j : ℕ) (leaf : Leaf) → slice_get info.shape.cells j ≡ Some leaf → leaf.count ≡ 1
    single j leaf e = plain.apart b j info leaf at e

    abbrev new : Memory
    new = set_bytes s.world.memory i (refilled (bytes_at s.world.memory i) offset (contents room text))

    abbrev after : List (Cell I)
    after = spell_object l n offset room text info row

    abbrev behind : MachineState
    behind = record { memory = new; temps = s.temps; entered = s.bases }

    fits : Fits info
    fits = let k = p.laid.laid.close b info at in let small = p.laid.laid.small in omega (arith, k, small)

    change : IsWritten s.world.memory new i offset (contents room text)
    change = written q flow p objects plain row r.long (state_of s) b i offset room text info at fitting h it.0 it.1 known

    told : (j : ℕ) (leaf : Leaf) → slice_get info.shape.cells j ≡ Some leaf → ExactLeaf l n flow (state_of s) (value_at l n row (leaf_position info j)) i leaf.offset leaf
    told j leaf e = let c = single j leaf e in t.leaves b j i leaf.offset info leaf at e entered (record { turn = 0; few = omega (arith, c); there = omega arith })

    own_leaf : (j : ℕ) (leaf : Leaf) → slice_get info.shape.cells j ≡ Some leaf → ExactLeaf l n flow behind (value_at l n after (leaf_position info j)) i leaf.offset leaf
    own_leaf = spelled_leaves q flow p objects plain row r.long (state_of s) b i offset room text info at fitting h it.0 it.1 known told

    spelled_tells : ExactState l n flow after behind
    spelled_tells = change_tells l n flow p row after (state_of s) new b i info at entered t (record {
      lives = change.region.lives;
      others = λ j o ne. change.region.outside j o (λ d f g. ne d);
      outside = λ x far. (spelled_within l n flow info fits offset room text).keeps row x far;
      apart = λ d j f ne same. ne (same_Some d b (sym (r.stands_for.lives.named d j f) ∙ (ap naming same ∙ r.stands_for.lives.named b i entered)));
    }) (λ j leaf x e place. subst (λ z. ExactLeaf l n flow behind (value_at l n after (leaf_position info j)) i z leaf) (sym (place_is flow.model info.shape.cells info.size (objects b info at) single j x leaf e place)) (own_leaf j leaf e))

  module _ (b offset room : ℕ) (text : List ℕ) (fitted : fits_operation (names_of flow) (op.Spell b offset room text) ≡ true) (h : SpellsBytes flow b offset room text) where
    abbrev row_behind : Option BaseInfo → List (Cell I)
    row_behind base = at_base (spell_object l n offset room text) base row

    fitting : (has_local (names_of flow) b ≡ true) × (has_room offset room (slice_get flow.bases.items b) ≡ true)
    fitting =
        let a = and_parts (has_local (names_of flow) b) ((is_extent offset && is_extent room) && has_room offset room (slice_get flow.bases.items b)) fitted in
        let c = and_parts (is_extent offset && is_extent room) (has_room offset room (slice_get flow.bases.items b)) a.1 in
        (a.0, c.1)

    spell_told : IsDefined (act_step (flow_view flow) (act (op.Spell b offset room text)) s) → StepIsExact l n flow row (op.Spell b offset room text) s
    unfolding operate spell operation_violations
    spell_told d =
        let k = some_kind flow.bases.items b fitting.0 in
        let info : BaseInfo = k.0 in
        let fits : has_room offset room (Some info) ≡ true = subst (λ z. has_room offset room z ≡ true) k.1 fitting.1 in
        if_some_told l n flow _ no_violations s (s.bases b) _ d (λ i e d. let w : World = spelled i offset room text s.world in
        let now : ProgramState = record s { at = suc s.at; world = w } in
        clean_goes_told l n flow _ now w (record {
          row = spell_object l n offset room text info row;
          is = ap (λ z. Some (row_behind z)) k.1;
          tells = spelled_tells b i offset room text info k.1 e (plain.no_heap b info k.1) fits h;
        }))

  pub spell_step_told : (o : Operation) → IsSpelled flow o s → fits_operation (names_of flow) o ≡ true → IsDefined (act_step (flow_view flow) (act o) s) → StepIsExact l n flow row o s
  spell_step_told (op.Spell b offset room text) is fitted d = spell_told b offset room text fitted is d
  spell_step_told o is fitted d = absurd is
