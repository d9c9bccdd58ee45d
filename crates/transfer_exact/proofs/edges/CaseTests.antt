-- Cases of a switch are told: the object that is switched on has the label's value, without labels.
use Rattle.std.proofs.Common.{◌≡◌, ℕ, Bool, true, false, cond, Some, None, List, length, arith, subst, sym, refl, ap, ◌∙◌}
use Rattle.std.specs.Prelude.{slice_get, ℤ, int_le, is_some}
use Rattle.std.specs.Int.{int_max}
use Rattle.std.proofs.lemmas.Int.{ints, clamps}
use Rattle.std.proofs.lemmas.Option.{same_Some}
use Rattle.cc_base.specs.Lattices.{LatticeOf, OrderLaws}
use Rattle.cc_base.specs.NumberRanges.{range_met}
use Rattle.cc_base.specs.IntegerDomains.{IntegersOf, BoundLaws, of_range}
use Rattle.cc_base.specs.declared.int_types.IntType.{IntType}
use Rattle.cfg.specs.declared.flow_edges.Side.TheVariants as side
use Rattle.cfg.specs.declared.machine_instructions.Scalar.TheVariants as of
use Rattle.cfg.specs.declared.programs.Flow.{Flow}
use Rattle.value_domain.specs.Values.LabelSets as set
use Rattle.value_domain.specs.declared.values.values.Value as values
use Rattle.value_domain.specs.declared.values.row_cells.Cell.{Cell}
use Rattle.store_cells.specs.RowPositions.{leaf_position, value_at, put_value}
use Rattle.transfer_edges.specs.Refinements.{position_of, value_of_object, side_value, labelled_number, with_number, put_case, refine_value, refine_case_at, refine_case}
use Rattle.transfer_checks.specs.ViolationSets.{no_violations}
use Rattle.memory_model.specs.Memory.Labels.{Labels, no_labels}
use Rattle.memory_model.specs.Memory.ScalarSizes.{class_bytes}
use Rattle.memory_model.specs.Memory.Instances.{Memory, live, life_at, bytes_of, bytes_at}
use Rattle.memory_model.specs.Memory.Scalars.{integer}
use Rattle.memory_model.specs.Effects.Accesses.{class_in}
use Rattle.memory_model.specs.Effects.Tests.{object, side_scalar, object_relabelled, is_number, passing, pass_case}
use Rattle.memory_model.specs.Effects.Worlds.{World, with_memory}
use Rattle.semantics.specs.CfgMachine.FlowStates.{ProgramState, with_instance}
use Rattle.semantics.specs.CfgMachine.FlowEdges.{in_world, first_signed, integer_in, matching}
use Rattle.lower_templates.specs.Views.ProgramViews.{flow_view}
use Rattle.store_sound.specs.Concretization.ValueMeaning.{Naming}
use Rattle.store_sound.specs.Concretization.Coverage.{state_of}
use Rattle.store_sound.proofs.operations.LoadSound.{instance_there}
use Rattle.store_sound.specs.Programs.Premises.{HasPremises}
use Rattle.transfer_sound.specs.Values.SoundSteps.{IsReached}
use Rattle.transfer_sound.specs.Tests.ScalarObjects.{IsScalarObject, IsCaseObject}
use Rattle.transfer_sound.proofs.tests.Relabelling.{IsRelabelling, set_relabels}
use Rattle.transfer_sound.proofs.tests.ScalarCells.{size_is}
use Rattle.transfer_sound.proofs.tests.TestSteps.{object_has}
use Rattle.transfer_sound.proofs.tests.CaseSteps.{case_scalar}
use Rattle.transfer_exact.specs.Values.SingleNumbers.{IsOne}
use Rattle.transfer_exact.specs.Values.SingleRows.{ExactState}
use Rattle.transfer_exact.specs.Values.SingleSteps.{IsDefined, IsExact}
use Rattle.transfer_exact.proofs.values.Told.{if_some_told, clean_goes_told}
use Rattle.transfer_exact.proofs.edges.RelabelledObjects.{IsNumberHeld, number_held, relabelled_tells}

-- ---- numbers

max_own : (z : ℤ) → int_max z z ≡ z
max_own z = omega (arith, ints, clamps)

le_own : (z : ℤ) → int_le z z ≡ true
le_own z = grind (arith, ints)

range_own : (z : ℤ) → range_met (Some (z, z)) z z ≡ Some (z, z)
range_own z = rw (max_own z, le_own z) refl

module _ {I : Type 0} {l : LatticeOf I} {n : IntegersOf I} {gamma : I → ℤ → Type 0} (q : BoundLaws l n gamma) where
  of_own : (z : ℤ) → n.bounds (of_range l n (Some (z, z))) ≡ Some (z, z)
  of_own z = rw (le_own z) (q.between_bounds z z (omega (arith, ints)))

  pub met_one : (x : I) (z : ℤ) → IsOne n x z → IsOne n (of_range l n (range_met (n.bounds x) z z)) z
  met_one x z e = ap (λ r. n.bounds (of_range l n (range_met r z z))) e ∙ (ap (λ r. n.bounds (of_range l n r)) (range_own z) ∙ of_own z)

-- ---- the object

module _ {I : Type 0} {l : LatticeOf I} {n : IntegersOf I} {gamma : I → ℤ → Type 0} (o : OrderLaws l) (q : BoundLaws l n gamma) (flow : Flow) (p : HasPremises flow) (naming : Naming) (row : List (Cell I)) (s : ProgramState) (r : IsReached l n gamma flow naming row s) (st : ExactState l n flow row (state_of s)) where
  module _ (b i : ℕ) (kind : IntType) (t : IsScalarObject flow b (of.Int kind)) (en : s.bases b ≡ Some i) (value : ℤ) where
    abbrev memory : Memory
    memory = s.world.memory

    abbrev place : ℕ
    place = leaf_position t.info 0

    abbrev v : values.Value I
    v = value_at l n row place

    abbrev x : I
    x = labelled_number l n v value

    abbrev case_row : List (Cell I)
    case_row = put_value row place (with_number v x)

    abbrev after : Memory
    after = object_relabelled flow.model (λ z. no_labels) i (of.Int kind) memory

    named : naming i ≡ Some b
    named = r.stands_for.lives.named b i en

    alive : life_at memory i ≡ live
    alive = r.stands_for.lives.alive b i en

    relabelling : IsRelabelling memory after i (λ z. no_labels)
    relabelling =
        let it = instance_there memory i alive in
        let total = size_is q flow p naming row r.long (state_of s) r.stands_for b i (of.Int kind) t named alive in
        let same : length (bytes_at memory i) ≡ length it.0.bytes = ap (λ z. length (bytes_of z)) it.1 in
        let bytes = t.bytes in
        let class : class_bytes flow.model t.leaf.class ≡ class_bytes flow.model (class_in (of.Int kind)) = ap (class_bytes flow.model) t.class in
        set_relabels flow.model (λ z. no_labels) i (of.Int kind) memory it.0 it.1 (omega (arith, total, same, bytes, class))

    module _ (la : Labels) (scalar : side_scalar flow.model memory (object i (of.Int kind)) ≡ Some (integer value la)) where
      held : IsNumberHeld q flow p naming row r.long (state_of s) r.stands_for.lives.named st b i (of.Int kind) t en value
      held =
          let has = object_has o q flow p naming s.temps s.bases row r.long memory r.stands_for b i (of.Int kind) t en value la scalar in
          let is : side_value l n flow row (side.Object b (of.Int kind)) ≡ v = ap (λ z. value_of_object l n row (position_of z)) t.is in
          number_held q flow p naming row r.long (state_of s) r.stands_for.lives.named st b i (of.Int kind) t en value (subst (λ z. gamma z.num value) is has.number)

      one : IsOne n x value
      one = met_one q v.num value held.tells.number

      case_tells : ExactState l n flow case_row (record { memory = after; temps = s.temps; entered = s.bases })
      case_tells = relabelled_tells q flow p naming row r.long (state_of s) r.stands_for.lives.named st b i (of.Int kind) t en after (λ z. no_labels) relabelling value held x set.no_labels one refl

    case_told : IsDefined (in_world s (pass_case flow.model i kind value s.world)) → IsExact l n flow (refine_case l n flow b value row) no_violations (in_world s (pass_case flow.model i kind value s.world))
    unfolding refine_case refine_value put_case
    case_told d = by_truth (is_number value (side_scalar flow.model memory (object i (of.Int kind)))) refl d
      where
        by_truth : (c : Bool) → is_number value (side_scalar flow.model memory (object i (of.Int kind))) ≡ c → IsDefined (in_world s (passing c (with_memory s.world after))) → IsExact l n flow (refine_case l n flow b value row) no_violations (in_world s (passing c (with_memory s.world after)))
        by_truth false e d = absurd (d (with_memory s.world after) refl)
        by_truth true e d =
            let k = case_scalar value (side_scalar flow.model memory (object i (of.Int kind))) e in
            let some : is_some (n.bounds x) ≡ true = ap is_some (one k.0 k.1) in
            let is : refine_case l n flow b value row ≡ Some case_row = ap (λ z. refine_case_at l n (position_of z) value row) t.is ∙ ap (λ z. cond z (Some case_row) None) some in
            let new : World = with_memory s.world after in
            let now : ProgramState = record s { world = new } in
            clean_goes_told l n flow _ now new (record { row = case_row; is = is; tells = case_tells k.0 k.1 })

  -- a case looks at the size and the sign of the type alone
  same_case : (i : ℕ) (value : ℤ) (w : World) (a k : IntType) → a.bytes ≡ k.bytes → a.signed ≡ k.signed → pass_case flow.model i a value w ≡ pass_case flow.model i k value w
  same_case i value w a k e f =
      ap (λ z. pass_case flow.model i (record { bytes = z; signed = a.signed; rank = a.rank }) value w) e
      ∙ ap (λ z. pass_case flow.model i (record { bytes = k.bytes; signed = z; rank = a.rank }) value w) f

  pub case_test_told : (value : ℤ) (b : ℕ) → IsCaseObject flow b → IsDefined (matching (flow_view flow) s value (Some b)) → IsExact l n flow (refine_case l n flow b value row) no_violations (matching (flow_view flow) s value (Some b))
  case_test_told value b t d = if_some_told l n flow (refine_case l n flow b value row) no_violations s (slice_get flow.bases.items b) (λ base. with_instance s b (λ i. in_world s (pass_case flow.model i (integer_in base) value s.world))) d (λ base e d.
      if_some_told l n flow (refine_case l n flow b value row) no_violations s (s.bases b) (λ i. in_world s (pass_case flow.model i (integer_in base) value s.world)) d (λ i en d.
      let same : base ≡ t.scalar.info = sym (same_Some t.scalar.info base (sym t.scalar.is ∙ e)) in
      let bytes : base.size ≡ t.kind.bytes = ap (λ z. z.size) same ∙ (t.scalar.size ∙ sym t.scalar.bytes) in
      let signed : first_signed base.shape.cells ≡ t.kind.signed = ap (λ z. first_signed z.shape.cells) same ∙ (ap first_signed t.scalar.cells ∙ t.scalar.signed) in
      let reply = same_case i value s.world (integer_in base) t.kind bytes signed in
      subst (λ z. IsExact l n flow (refine_case l n flow b value row) no_violations (in_world s z)) (sym reply)
      (case_told b i t.kind t.scalar en value (subst (λ z. IsDefined (in_world s z)) reply d))))
