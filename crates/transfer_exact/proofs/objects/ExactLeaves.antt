-- Objects that are left are told.
use Rattle.std.proofs.Common.{◌≡◌, ℕ, suc, ◌+◌, true, false, Some, List, arith, subst, sym, ap, ◌∙◌, inl, inr}
use Rattle.std.specs.Prelude.{slice_get, ℤ}
use Rattle.std.proofs.lemmas.Option.{same_Some, slice_get_within}
use Rattle.cc_base.specs.Lattices.{LatticeOf}
use Rattle.cc_base.specs.IntegerDomains.{IntegersOf}
use Rattle.c_layout.specs.declared.leaf_lists.Leaf.{Leaf}
use Rattle.c_layout.specs.declared.shapes.BaseInfo.{BaseInfo}
use Rattle.cfg.specs.WellFormed.{names_of, fits_operation}
use Rattle.cfg.specs.declared.machine_instructions.Operation.{Operation}
use Rattle.cfg.specs.declared.machine_instructions.Operation.TheVariants as op
use Rattle.cfg.specs.declared.programs.Flow.{Flow}
use Rattle.value_domain.specs.declared.values.row_cells.Cell.{Cell}
use Rattle.store_objects.specs.ObjectLives.{leave_object, at_base, leave}
use Rattle.store_cells.specs.RowPositions.{leaf_position, cell_at, value_in, value_at}
use Rattle.transfer_checks.specs.Temporaries.{temp_position, temp_value}
use Rattle.transfer_checks.specs.ViolationSets.{no_violations}
use Rattle.transfer_instructions.specs.Instructions.Steps.{operate}
use Rattle.transfer_instructions.specs.Instructions.StepViolations.{operation_violations}
use Rattle.memory_model.specs.Memory.Instances.{Memory, live, ended, life_at}
use Rattle.memory_model.specs.Memory.Scalars.{Scalar}
use Rattle.memory_model.specs.Effects.NumberedTables.{clear_at}
use Rattle.memory_model.specs.Effects.ObjectEffects.{set_life, left}
use Rattle.memory_model.specs.Effects.Worlds.{World}
use Rattle.lower_templates.specs.Worklist.Acts.{act}
use Rattle.lower_templates.specs.Views.ProgramViews.{flow_view}
use Rattle.semantics.specs.CfgMachine.FlowStates.{ProgramState}
use Rattle.semantics.specs.CfgMachine.FlowSteps.{act_step}
use Rattle.store_sound.specs.Concretization.Coverage.{state_of}
use Rattle.store_sound.specs.Concretization.Places.{IsPlaceOf}
use Rattle.store_sound.specs.Concretization.RowMeaning.{MachineState}
use Rattle.store_sound.specs.Concretization.ValueMeaning.{Naming}
use Rattle.store_sound.proofs.operations.LoadSound.{instance_there}
use Rattle.store_sound.proofs.operations.StoreRows.{leaf_is}
use Rattle.store_sound.specs.Programs.Premises.{HasPremises}
use Rattle.transfer_sound.specs.Values.SoundSteps.{IsReached}
use Rattle.transfer_sound.proofs.leave.LeftMemory.{IsEnded, life_ends, byte_was}
use Rattle.transfer_sound.proofs.objects.WholeObjects.{some_kind}
use Rattle.transfer_sound.proofs.leave.Leaving.{clear_other}
use Rattle.transfer_exact.specs.Values.SingleRows.{IsPlainProgram, ExactLeaf, ExactState}
use Rattle.transfer_exact.specs.Values.SingleSteps.{IsDefined, StepIsExact}
use Rattle.transfer_exact.specs.Values.SingleValues.{ExactScalar}
use Rattle.transfer_exact.proofs.values.Told.{if_some_told, clean_goes_told}
use Rattle.transfer_exact.specs.Accesses.StoreLaws.{IsLeft}
use Rattle.transfer_exact.proofs.accesses.Moves.{holds_moves}
use Rattle.transfer_exact.proofs.objects.LeftValues.{scalar_left, held_left}
use Rattle.transfer_exact.proofs.objects.LeftRows.{small, value_left}

module _ {I : Type 0} {l : LatticeOf I} {n : IntegersOf I} {gamma : I → ℤ → Type 0} (flow : Flow) (p : HasPremises flow) (plain : IsPlainProgram flow) (naming : Naming) (row : List (Cell I)) (s : ProgramState) (r : IsReached l n gamma flow naming row s) (t : ExactState l n flow row (state_of s)) where
  module _ (b i : ℕ) (info : BaseInfo) (at : slice_get flow.bases.items b ≡ Some info) (entered : s.bases b ≡ Some i) (declared : info.shape.heap ≡ false) where
    abbrev memory : Memory
    memory = s.world.memory

    abbrev new : Memory
    new = set_life memory i ended

    abbrev behind : MachineState
    behind = record { memory = new; temps = s.temps; entered = clear_at s.bases b }

    abbrev after : List (Cell I)
    after = leave_object l b info row

    alive : life_at memory i ≡ live
    alive = r.stands_for.lives.alive b i entered

    ends : IsEnded memory new i
    ends = let it = instance_there memory i alive in life_ends memory i it.0 it.1

    -- no other base names the instance
    one : (d : ℕ) → s.bases d ≡ Some i → d ≡ b
    one d e = same_Some d b (sym (r.stands_for.lives.named d i e) ∙ r.stands_for.lives.named b i entered)

    temp_left : (x : ℕ) (scalar : Scalar) → s.temps x ≡ Some scalar → ExactScalar n (clear_at s.bases b) new (temp_value l n flow after x) scalar
    unfolding value_at
    temp_left x scalar e =
        let k = p.laid.laid.close b info at in
        let limit = p.laid.laid.small in
        let far = p.laid.temporaries in
        subst (λ z. ExactScalar n (clear_at s.bases b) new z scalar) (sym (value_left l n flow p b info at declared row (temp_position flow x) (λ f g. omega (arith, k, limit, far, f, g))))
        (scalar_left l n s.bases b i (small l n flow p b info at declared) entered alive one ends (value_in l (cell_at row (temp_position flow x))) scalar (t.temps x scalar e))

    leaf_left : (d j k offset : ℕ) (base : BaseInfo) (leaf : Leaf) → slice_get flow.bases.items d ≡ Some base → slice_get base.shape.cells j ≡ Some leaf → s.bases d ≡ Some k → IsPlaceOf leaf offset → (d ≡ b → ⊥) → ExactLeaf l n flow behind (value_at l n after (leaf_position base j)) k offset leaf
    unfolding value_at
    leaf_left d j k offset base leaf e f g place ne =
        let m = p.laid.laid.close d base e in
        let limit = p.laid.laid.small in
        let top = slice_get_within base.shape.cells j leaf f in
        let x = leaf_is base j (omega (arith, m, limit)) top in
        let sides = p.laid.laid.apart d b base info e at ne in
        let was = t.leaves d j k offset base leaf e f g place in
        subst (λ z. ExactLeaf l n flow behind z k offset leaf) (sym (value_left l n flow p b info at declared row (leaf_position base j) (λ u v. elim sides [ inl y ↦ omega (arith, y, u, v, x, top) | inr y ↦ omega (arith, y, u, v, x, top) ])))
        (record {
          held = was.held;
          holds = holds_moves flow memory new k offset leaf (λ y less. byte_was ends k (offset + y)) was.held was.holds;
          tells = held_left l n s.bases b i (small l n flow p b info at declared) entered alive one ends (value_in l (cell_at row (leaf_position base j))) was.held was.tells;
        })

    left_tells : ExactState l n flow after behind
    left_tells = record {
      temps = temp_left;
      leaves = λ d j k offset base leaf e f g place. let c = clear_other s.bases b d k g in leaf_left d j k offset base leaf e f c.1 place c.0;
    }

  leave_told : (b : ℕ) → fits_operation (names_of flow) (op.Leave b) ≡ true → IsDefined (act_step (flow_view flow) (act (op.Leave b)) s) → StepIsExact l n flow row (op.Leave b) s
  unfolding operate leave operation_violations
  leave_told b fits d =
      let k = some_kind flow.bases.items b fits in
      let info : BaseInfo = k.0 in
      if_some_told l n flow _ no_violations s (s.bases b) _ d (λ i e d. let w : World = left i s.world in
      let now : ProgramState = record s { at = suc s.at; bases = clear_at s.bases b; world = w } in
      clean_goes_told l n flow _ now w (record {
        row = leave_object l b info row;
        is = ap (λ z. Some (at_base (leave_object l b) z row)) k.1;
        tells = left_tells b i info k.1 e (plain.no_heap b info k.1);
      }))

  pub leave_step_told : (o : Operation) → IsLeft o s → fits_operation (names_of flow) o ≡ true → IsDefined (act_step (flow_view flow) (act o) s) → StepIsExact l n flow row o s
  leave_step_told (op.Leave b) is fits d = leave_told b fits d
  leave_step_told o is fits d = absurd is
