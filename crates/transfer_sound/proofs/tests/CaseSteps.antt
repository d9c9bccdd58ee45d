-- Cases of a switch refine the row as they change memory.
use Rattle.std.proofs.Common.{◌≡◌, ℕ, Bool, true, false, cond, Option, Some, None, List, length, arith, subst, sym, refl, ap, ◌∙◌}
use Rattle.std.specs.Prelude.{slice_get, ℤ, pos, ◌≤ℤ◌, is_some}
use Rattle.std.proofs.lemmas.Int.{ints}
use Rattle.std.proofs.lemmas.Bool.{true≢false}
use Rattle.std.proofs.lemmas.Bool.Decides.{Decides-int_eq}
use Rattle.std.proofs.lemmas.List.{length-set}
use Rattle.std.proofs.lemmas.Option.{same_Some}
use Rattle.cc_base.specs.Lattices.{LatticeOf, OrderLaws}
use Rattle.cc_base.specs.NumberRanges.{range_met}
use Rattle.cc_base.specs.IntegerDomains.{IntegersOf, BoundLaws}
use Rattle.cc_base.specs.IntegerTypes.{greatest_of}
use Rattle.cc_base.specs.declared.int_types.IntType.{IntType}
use Rattle.c_layout.specs.declared.leaf_lists.Class.TheVariants.{Pointer}
use Rattle.cfg.specs.declared.flow_edges.Side.TheVariants as side
use Rattle.cfg.specs.declared.machine_instructions.Scalar.TheVariants as of
use Rattle.cfg.specs.declared.programs.Flow.{Flow}
use Rattle.value_domain.specs.Values.LabelSets as set
use Rattle.value_domain.specs.declared.values.values.Value as values
use Rattle.value_domain.specs.declared.values.row_cells.Cell.{Cell}
use Rattle.value_domain.specs.declared.values.row_cells.Cell.TheVariants.{Value}
use Rattle.domain_theorems.proofs.values.Numbers.{met_has, bounds_have, of_range_stands}
use Rattle.store_cells.specs.ClassNumbers.{is_pointer}
use Rattle.store_cells.specs.RowPositions.{leaf_position, value_at, put_value}
use Rattle.store_cells.specs.ScalarTypes.{kind_of}
use Rattle.transfer_system.specs.Refinements.{position_of, value_of_object, side_value, labelled_number, with_number, put_case, refine_value, refine_case_at, refine_case}
use Rattle.transfer_checks.specs.ViolationSets.{no_violations}
use Rattle.memory_model.specs.Memory.Labels.{Labels, no_labels}
use Rattle.memory_model.specs.Memory.ScalarSizes.{class_bytes}
use Rattle.memory_model.specs.Memory.Instances.{Memory, live, life_at, bytes_of, bytes_at}
use Rattle.memory_model.specs.Memory.Numbers.{number_of}
use Rattle.memory_model.specs.Memory.Scalars.{Scalar, integer, pointer}
use Rattle.memory_model.specs.Effects.ScalarBytes.{contents}
use Rattle.memory_model.specs.Effects.Accesses.{class_in}
use Rattle.memory_model.specs.Effects.Tests.{object, object_bytes, side_scalar, object_relabelled, is_number, passing, pass_case}
use Rattle.memory_model.specs.Effects.Worlds.{World, Stuck, with_memory}
use Rattle.semantics.specs.CfgMachine.FlowStates.{ProgramState, with_instance}
use Rattle.semantics.specs.CfgMachine.FlowEdges.{in_world, first_signed, integer_in, matching}
use Rattle.lower_templates.specs.Views.ProgramViews.{flow_view}
use Rattle.store_sound.specs.Concretization.ValueMeaning.{Naming}
use Rattle.store_sound.specs.Concretization.RowMeaning.{InGamma}
use Rattle.store_sound.specs.Concretization.Coverage.{state_of}
use Rattle.store_sound.proofs.operations.LoadSound.{instance_there}
use Rattle.store_sound.specs.Programs.Premises.{HasPremises}
use Rattle.transfer_sound.specs.Values.SoundSteps.{IsReached, IsStoodFor}
use Rattle.transfer_sound.proofs.values.MoveSteps.{near_has}
use Rattle.transfer_sound.proofs.values.NearScalars.{IsNearNumber}
use Rattle.transfer_sound.proofs.values.Replies.{clean_stop_good, if_some_good, clean_goes_good}
use Rattle.transfer_sound.proofs.values.TypeRanges.{bounds_some}
use Rattle.transfer_sound.specs.Tests.ScalarObjects.{IsScalarObject, IsCaseObject}
use Rattle.transfer_sound.proofs.tests.Relabelling.{IsRelabelling, set_relabels}
use Rattle.transfer_sound.proofs.tests.ScalarCells.{object_numbers, size_is, relabelled_stands}
use Rattle.transfer_sound.proofs.tests.TestSteps.{is_read, object_has}

pub case_scalar : (value : ℤ) (o : Option Scalar) → is_number value o ≡ true → (la : Labels) × (o ≡ Some (integer value la))
case_scalar value None h = absurd (true≢false (sym h))
case_scalar value (Some (integer z la)) h = let e : z ≡ value = (Decides-int_eq z value).0 h in (la, ap (λ x. Some (integer x la)) e)
case_scalar value (Some (pointer p)) h = absurd (true≢false (sym h))

module _ {I : Type 0} {l : LatticeOf I} {n : IntegersOf I} {gamma : I → ℤ → Type 0} (o : OrderLaws l) (q : BoundLaws l n gamma) (flow : Flow) (p : HasPremises flow) (naming : Naming) (row : List (Cell I)) (s : ProgramState) (r : IsReached l n gamma flow naming row s)
    (b i : ℕ) (kind : IntType) (t : IsScalarObject flow b (of.Int kind)) (en : s.bases b ≡ Some i) (value : ℤ) where
  abbrev memory : Memory
  memory = s.world.memory

  abbrev place : ℕ
  place = leaf_position t.info 0

  abbrev v : values.Value I
  v = value_at l n row place

  abbrev x : I
  x = labelled_number l n v value

  abbrev case_row : List (Cell I)
  case_row = put_value row place (with_number v x)

  abbrev after : Memory
  after = object_relabelled flow.model (λ z. no_labels) i (of.Int kind) memory

  named : naming i ≡ Some b
  named = r.stands_for.lives.named b i en

  alive : life_at memory i ≡ live
  alive = r.stands_for.lives.alive b i en

  relabelling : IsRelabelling memory after i (λ z. no_labels)
  relabelling =
      let it = instance_there memory i alive in
      let total = size_is q flow p naming row r.long (state_of s) r.stands_for b i (of.Int kind) t named alive in
      let same : length (bytes_at memory i) ≡ length it.0.bytes = ap (λ z. length (bytes_of z)) it.1 in
      let bytes = t.bytes in
      let class : class_bytes flow.model t.leaf.class ≡ class_bytes flow.model (class_in (of.Int kind)) = ap (class_bytes flow.model) t.class in
      set_relabels flow.model (λ z. no_labels) i (of.Int kind) memory it.0 it.1 (omega (arith, total, same, bytes, class))

  near_of : gamma v.num value → IsNearNumber value
  unfolding value_at
  near_of h = near_has q _ value h

  record IsCase : Type 0 where
    stands_for : InGamma l n gamma flow naming case_row (record { memory = after; temps = s.temps; entered = s.bases })
    long : length case_row ≡ flow.width
    some : is_some (n.bounds x) ≡ true

  case_stands : (la : Labels) → side_scalar flow.model memory (object i (of.Int kind)) ≡ Some (integer value la) → IsCase
  case_stands la scalar =
      let read = is_read (of.Int kind) (contents (object_bytes flow.model memory i (of.Int kind))) value la scalar in
      let numbers = object_numbers q flow p naming row r.long (state_of s) r.stands_for b i (of.Int kind) t named alive read.ns read.are in
      let has = object_has o q flow p naming s.temps s.bases row r.long memory r.stands_for b i (of.Int kind) t en value la scalar in
      let is : side_value l n flow row (side.Object b (of.Int kind)) ≡ v = ap (λ z. value_of_object l n row (position_of z)) t.is in
      let num : gamma v.num value = subst (λ z. gamma z.num value) is has.number in
      let met : gamma x value = of_range_stands q (range_met (n.bounds v.num) value value) value (met_has (n.bounds v.num) value value value (bounds_have q v.num value num) (omega (arith, ints)) (omega (arith, ints))) in
      record {
        stands_for = relabelled_stands q flow p naming row r.long (state_of s) r.stands_for b i (of.Int kind) t named alive relabelling.rewrite (λ z. no_labels) relabelling.each (ap is_pointer t.class ∙ read.plain) x set.no_labels value read.ns numbers.few (read.is ∙ sym (ap (λ z. number_of z read.ns) t.signed)) numbers.at_bytes (near_of num) met (λ lb h. refl);
        long = length-set row place (Value (with_number v x)) ∙ r.long;
        some = bounds_some q x value met;
      }

  case_good : IsStoodFor l n gamma flow (refine_case l n flow b value row) no_violations (in_world s (pass_case flow.model i kind value s.world))
  unfolding refine_case refine_value put_case
  case_good = by_truth (is_number value (side_scalar flow.model memory (object i (of.Int kind)))) refl
    where
      by_truth : (c : Bool) → is_number value (side_scalar flow.model memory (object i (of.Int kind))) ≡ c → IsStoodFor l n gamma flow (refine_case l n flow b value row) no_violations (in_world s (passing c (with_memory s.world after)))
      by_truth false e = clean_stop_good l n gamma flow (refine_case l n flow b value row) no_violations Stuck (with_memory s.world after) r.begun
      by_truth true e =
          let k = case_scalar value (side_scalar flow.model memory (object i (of.Int kind))) e in
          let here = case_stands k.0 k.1 in
          let is : refine_case l n flow b value row ≡ Some case_row = ap (λ z. refine_case_at l n (position_of z) value row) t.is ∙ ap (λ z. cond z (Some case_row) None) here.some in
          let new : World = with_memory s.world after in
          let now : ProgramState = record s { world = new } in
          clean_goes_good l n gamma flow _ _ now new r.begun (record {
            row = case_row;
            is = is;
            long = here.long;
            naming = naming;
            stands_for = here.stands_for;
            short = λ z. subst (λ w. pos w ≤ℤ greatest_of (kind_of flow.model Pointer true)) (sym (relabelling.rewrite.alike.lengths z)) (r.short z);
          })

module _ {I : Type 0} {l : LatticeOf I} {n : IntegersOf I} {gamma : I → ℤ → Type 0} (o : OrderLaws l) (q : BoundLaws l n gamma) (flow : Flow) (p : HasPremises flow) (naming : Naming) (row : List (Cell I)) (s : ProgramState) (r : IsReached l n gamma flow naming row s) where
  -- a case looks at the size and the sign of the type alone
  same_case : (i : ℕ) (value : ℤ) (w : World) (a k : IntType) → a.bytes ≡ k.bytes → a.signed ≡ k.signed → pass_case flow.model i a value w ≡ pass_case flow.model i k value w
  same_case i value w a k e f =
      ap (λ z. pass_case flow.model i (record { bytes = z; signed = a.signed; rank = a.rank }) value w) e
      ∙ ap (λ z. pass_case flow.model i (record { bytes = k.bytes; signed = z; rank = a.rank }) value w) f

  pub case_sound : (value : ℤ) (b : ℕ) → IsCaseObject flow b → IsStoodFor l n gamma flow (refine_case l n flow b value row) no_violations (matching (flow_view flow) s value (Some b))
  case_sound value b t = if_some_good l n gamma flow (refine_case l n flow b value row) no_violations s r.begun (slice_get flow.bases.items b) (λ base. with_instance s b (λ i. in_world s (pass_case flow.model i (integer_in base) value s.world))) (λ base e.
      if_some_good l n gamma flow (refine_case l n flow b value row) no_violations s r.begun (s.bases b) (λ i. in_world s (pass_case flow.model i (integer_in base) value s.world)) (λ i en.
      let same : base ≡ t.scalar.info = sym (same_Some t.scalar.info base (sym t.scalar.is ∙ e)) in
      let bytes : base.size ≡ t.kind.bytes = ap (λ z. z.size) same ∙ (t.scalar.size ∙ sym t.scalar.bytes) in
      let signed : first_signed base.shape.cells ≡ t.kind.signed = ap (λ z. first_signed z.shape.cells) same ∙ (ap first_signed t.scalar.cells ∙ t.scalar.signed) in
      subst (λ z. IsStoodFor l n gamma flow (refine_case l n flow b value row) no_violations (in_world s z)) (sym (same_case i value s.world (integer_in base) t.kind bytes signed))
      (case_good o q flow p naming row s r b i t.kind t.scalar en value)))
