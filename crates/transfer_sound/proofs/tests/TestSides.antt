-- Tests on integers of two sides that are not one object: each side is refined in turn, as both were before.
use Rattle.std.proofs.Common.{◌≡◌, ℕ, Bool, true, false, cond, Option, Some, None, List, [], length, take, subst, sym, refl, ap, ◌∙◌, inl, inr}
use Rattle.std.specs.Prelude.{ℤ, pos, ◌≤ℤ◌}
use Rattle.std.proofs.lemmas.Bool.{cases_Bool, and_from, eqb-false}
use Rattle.cc_base.specs.Lattices.{LatticeOf, OrderLaws}
use Rattle.cc_base.specs.IntegerDomains.{IntegersOf, BoundLaws}
use Rattle.cc_base.specs.IntegerLaws.{SoundLaws}
use Rattle.cc_base.specs.IntegerTypes.{is_size, greatest_of, wrap_into}
use Rattle.cc_base.specs.MachineArithmetic.{holds}
use Rattle.cc_base.specs.declared.int_types.IntType.{IntType}
use Rattle.cc_base.specs.declared.integer_operators.Rel.{Rel}
use Rattle.c_layout.specs.declared.leaf_lists.Class.TheVariants.{Pointer}
use Rattle.cfg.specs.WellFormed.{is_number}
use Rattle.cfg.specs.declared.flow_edges.Side.{Side}
use Rattle.cfg.specs.declared.flow_edges.Side.TheVariants as side
use Rattle.cfg.specs.declared.flow_edges.Test.{Test}
use Rattle.cfg.specs.declared.programs.Flow.{Flow}
use Rattle.value_domain.specs.Values.LabelSets.{labels_leq}
use Rattle.value_domain.specs.declared.values.values.Value as values
use Rattle.value_domain.specs.declared.values.row_cells.Cell.{Cell}
use Rattle.store_cells.specs.RowPositions.{leaf_position, put_value}
use Rattle.store_cells.specs.ScalarTypes.{kind_of}
use Rattle.transfer_system.specs.Refinements.{position_of, mirrored, is_same_object, value_of_object, side_value, refined, put_at, put_side, has_number, met, refine_one, refine_two, refine_sides, refine_values, refine_integers, refine_in}
use Rattle.transfer_checks.specs.ViolationSets.{no_violations}
use Rattle.memory_model.specs.Memory.Labels.{Labels, is_unlabelled}
use Rattle.memory_model.specs.Memory.Instances.{Memory, bytes_at}
use Rattle.memory_model.specs.Memory.Scalars.{Scalar, integer}
use Rattle.memory_model.specs.Effects.ScalarBytes.{contents}
use Rattle.memory_model.specs.Effects.Accesses.{scalar_in}
use Rattle.memory_model.specs.Effects.Tests.{TestedSide, SideTest, object, constant, nothing, scalar_size, side_scalar, test_holds, side_labels, bounded, after_test, passing}
use Rattle.memory_model.specs.Effects.Worlds.{World, Reply, Stuck, with_memory}
use Rattle.semantics.specs.CfgMachine.FlowStates.{ProgramState}
use Rattle.semantics.specs.CfgMachine.FlowEdges.{with_side, in_world}
use Rattle.store_sound.specs.Concretization.ValueMeaning.{Naming}
use Rattle.store_sound.specs.Concretization.RowMeaning.{InGamma}
use Rattle.store_sound.specs.Concretization.SeenLabels.{as_set}
use Rattle.store_sound.specs.Programs.Premises.{HasPremises}
use Rattle.transfer_sound.specs.Values.SoundSteps.{IsReached, IsStoodFor}
use Rattle.transfer_sound.proofs.values.NearScalars.{near_number_stands}
use Rattle.transfer_sound.proofs.values.Replies.{clean_stop_good, if_some_good, clean_goes_good}
use Rattle.transfer_sound.proofs.values.TypeRanges.{bounds_some}
use Rattle.transfer_sound.proofs.edges.EdgeSteps.{is_near}
use Rattle.transfer_sound.specs.Tests.ScalarObjects.{IsScalarObject, NamesScalar}
use Rattle.transfer_sound.proofs.tests.TestSteps.{mirrored_holds, turned_is, both_integers, refined_stands, HasSide, object_has, object_changed, others_stay, values_stay, object_long, object_lengths}

-- a side, as the machine sees it where its object names an instance
abbrev pub tested : Side → ℕ → TestedSide
tested (side.Object b kind) i = object i kind
tested (side.Number z) i = constant z
tested side.Null i = nothing

abbrev pub IsSeen : Flow → (ℕ → Option ℕ) → Side → ℕ → Type 0
IsSeen flow entered (side.Object b kind) i = IsScalarObject flow b kind × (entered b ≡ Some i)
IsSeen flow entered (side.Number z) i = is_number z ≡ true
IsSeen flow entered side.Null i = Unit {0}

pub bounded_constant : (m : _) (rel : Rel) (k : IntType) (z : ℤ) (other : Labels) (memory : Memory) → bounded m rel k (constant z) other memory ≡ memory
bounded_constant m rel k z other memory = elim (cases_Bool (is_unlabelled other)) [ inl e ↦ rw e refl | inr e ↦ rw e refl ]

module _ {I : Type 0} {l : LatticeOf I} {n : IntegersOf I} {gamma : I → ℤ → Type 0} (o : OrderLaws l) (q : BoundLaws l n gamma) (c : SoundLaws l n gamma) (flow : Flow) (p : HasPremises flow) (naming : Naming) (temps : ℕ → Option Scalar) (entered : ℕ → Option ℕ) where
  abbrev Stands : List (Cell I) → Memory → Type 0
  Stands row memory = InGamma l n gamma flow naming row (record { memory = memory; temps = temps; entered = entered })

  -- one side is refined, in the row and in memory, and the other sides are as they were
  record IsRefined (row : List (Cell I)) (memory : Memory) (x : Side) (row1 : List (Cell I)) (memory1 : Memory) : Type 0 where
    stands_for : Stands row1 memory1
    long : length row1 ≡ flow.width
    lengths : (j : ℕ) → length (bytes_at memory1 j) ≡ length (bytes_at memory j)
    scalar : (z : Side) (j : ℕ) → IsSeen flow entered z j → is_same_object x z ≡ false → side_scalar flow.model memory1 (tested z j) ≡ side_scalar flow.model memory (tested z j)
    value : (z : Side) (j : ℕ) → IsSeen flow entered z j → is_same_object x z ≡ false → side_value l n flow row1 z ≡ side_value l n flow row z

  module _ (row : List (Cell I)) (long : length row ≡ flow.width) (memory : Memory) (s : Stands row memory) where
    side_has : (x : Side) (i : ℕ) → IsSeen flow entered x i → (a : ℤ) (la : Labels) → side_scalar flow.model memory (tested x i) ≡ Some (integer a la) → HasSide gamma flow memory (side_value l n flow row x) (tested x i) a
    side_has (side.Object b kind) i seen a la e = object_has o q flow p naming temps entered row long memory s b i kind seen.0 seen.1 a la e
    side_has (side.Number z) i seen a la e =
        let same : z ≡ a = cc in
        subst (HasSide gamma flow memory (side_value l n flow row (side.Number z)) (constant z)) same (record {
          number = near_number_stands q (n.one z) z (is_near z seen) (q.one_stands z);
          labels = refl;
        })
    side_has side.Null i seen a la e = cc

    side_refined : (x : Side) (i : ℕ) → IsSeen flow entered x i → (rel : Rel) (k : IntType) (other : Labels) (y : values.Value I) → labels_leq (as_set other) y.labels ≡ true → (a : ℤ) (la : Labels) → side_scalar flow.model memory (tested x i) ≡ Some (integer a la) → gamma (refined n (side_value l n flow row x) rel y k).num a →
        IsRefined row memory x (put_side flow x (refined n (side_value l n flow row x) rel y k) row) (bounded flow.model rel k (tested x i) other memory)
    unfolding put_side put_at
    side_refined (side.Object b kind) i seen rel k other y below a la e kept =
        let t = seen.0 in
        let at : ℕ = leaf_position t.info 0 in
        let put : put_side flow (side.Object b kind) (refined n (side_value l n flow row (side.Object b kind)) rel y k) row ≡ put_value row at (refined n (value_of_object l n row (Some at)) rel y k) = ap (λ z. put_at (position_of z) (refined n (value_of_object l n row (position_of z)) rel y k) row) t.is in
        subst (λ z. IsRefined row memory (side.Object b kind) z (bounded flow.model rel k (object i kind) other memory)) (sym put) (record {
          stands_for = object_changed o q flow p naming temps entered row long memory s b i kind t seen.1 rel k other y below a la e kept;
          long = object_long o q flow p naming temps entered row long memory s b i kind t seen.1 rel k other y below a la e kept;
          lengths = object_lengths o q flow p naming temps entered row long memory s b i kind t seen.1 rel k other y below a la e kept;
          scalar = scalar_stays;
          value = value_stays;
        })
      where
        scalar_stays : (z : Side) (j : ℕ) → IsSeen flow entered z j → is_same_object (side.Object b kind) z ≡ false → side_scalar flow.model (bounded flow.model rel k (object i kind) other memory) (tested z j) ≡ side_scalar flow.model memory (tested z j)
        scalar_stays (side.Object d kind2) j there ne = ap (λ w. scalar_in kind2 (contents (take (scalar_size flow.model kind2) w))) (others_stay o q flow p naming temps entered row long memory s b i kind seen.0 seen.1 rel k other y below a la e kept d j kind2 (eqb-false b d ne) there.1)
        scalar_stays (side.Number z) j there ne = refl
        scalar_stays side.Null j there ne = refl

        value_stays : (z : Side) (j : ℕ) → IsSeen flow entered z j → is_same_object (side.Object b kind) z ≡ false → side_value l n flow (put_value row (leaf_position seen.0.info 0) (refined n (value_of_object l n row (Some (leaf_position seen.0.info 0))) rel y k)) z ≡ side_value l n flow row z
        value_stays (side.Object d kind2) j there ne = values_stay o q flow p naming temps entered row long memory s b i kind seen.0 seen.1 rel k other y below a la e kept d kind2 there.0 (eqb-false b d ne)
        value_stays (side.Number z) j there ne = refl
        value_stays side.Null j there ne = refl
    side_refined (side.Number w) i seen rel k other y below a la e kept =
        subst (IsRefined row memory (side.Number w) row) (sym (bounded_constant flow.model rel k w other memory)) (record {
          stands_for = s;
          long = long;
          lengths = λ j. refl;
          scalar = λ z j there ne. refl;
          value = λ z j there ne. refl;
        })
    side_refined side.Null i seen rel k other y below a la e kept = cc

-- ---- both sides

module _ {I : Type 0} {l : LatticeOf I} {n : IntegersOf I} {gamma : I → ℤ → Type 0} (o : OrderLaws l) (q : BoundLaws l n gamma) (c : SoundLaws l n gamma) (flow : Flow) (p : HasPremises flow) (naming : Naming) (row : List (Cell I)) (s : ProgramState) (r : IsReached l n gamma flow naming row s)
    (test : Test) (k : IntType) (size : is_size k.bytes ≡ true) (apart : is_same_object test.left test.right ≡ false) where
  abbrev memory : Memory
  memory = s.world.memory

  abbrev v : values.Value I
  v = side_value l n flow row test.left

  abbrev w : values.Value I
  w = side_value l n flow row test.right

  abbrev new_left : values.Value I
  new_left = refined n v test.rel w k

  abbrev new_right : values.Value I
  new_right = refined n w (mirrored test.rel) v k

  abbrev middle : List (Cell I)
  middle = put_side flow test.left new_left row

  abbrev behind_row : List (Cell I)
  behind_row = put_side flow test.right new_right middle

  module _ (i j : ℕ) (left : IsSeen flow s.bases test.left i) (right : IsSeen flow s.bases test.right j) where
    abbrev this : SideTest
    this = record { left = tested test.left i; rel = test.rel; right = tested test.right j; common = Some k }

    abbrev between : Memory
    between = bounded flow.model test.rel k (tested test.left i) (side_labels flow.model memory (tested test.right j)) memory

    abbrev after : Memory
    after = after_test flow.model (Some k) this memory

    record AreBoth : Type 0 where
      stands_for : InGamma l n gamma flow naming behind_row (record { memory = after; temps = s.temps; entered = s.bases })
      long : length behind_row ≡ flow.width
      lengths : (x : ℕ) → length (bytes_at after x) ≡ length (bytes_at memory x)
      left_number : has_number n new_left ≡ true
      right_number : has_number n new_right ≡ true

    both_refined : test_holds flow.model memory this ≡ true → AreBoth
    both_refined h =
        let b = both_integers test.rel k (side_scalar flow.model memory (tested test.left i)) (side_scalar flow.model memory (tested test.right j)) h in
        let x = side_has o q c flow p naming s.temps s.bases row r.long memory r.stands_for test.left i left b.a b.la b.left in
        let y = side_has o q c flow p naming s.temps s.bases row r.long memory r.stands_for test.right j right b.b b.lb b.right in
        let kept : gamma new_left.num b.a = refined_stands q c test.rel k size v w b.a b.b x.number y.number b.hold in
        let turned : holds (mirrored test.rel) (wrap_into k b.b) (wrap_into k b.a) ≡ true = mirrored_holds test.rel (wrap_into k b.a) (wrap_into k b.b) ∙ b.hold in
        let also : gamma new_right.num b.b = refined_stands q c (mirrored test.rel) k size w v b.b b.a y.number x.number turned in
        let first = side_refined o q c flow p naming s.temps s.bases row r.long memory r.stands_for test.left i left test.rel k (side_labels flow.model memory (tested test.right j)) w y.labels b.a b.la b.left kept in
        let same : side_value l n flow middle test.right ≡ w = first.value test.right j right apart in
        let second = side_refined o q c flow p naming s.temps s.bases middle first.long between first.stands_for test.right j right (mirrored test.rel) k (side_labels flow.model memory (tested test.left i)) v x.labels b.b b.lb (first.scalar test.right j right apart ∙ b.right)
        (subst (λ z. gamma (refined n z (mirrored test.rel) v k).num b.b) (sym same) also) in
        let memories : bounded flow.model (mirrored test.rel) k (tested test.right j) (side_labels flow.model memory (tested test.left i)) between ≡ after = ap (λ z. bounded flow.model z k (tested test.right j) (side_labels flow.model memory (tested test.left i)) between) (sym (turned_is test.rel)) in
        let rows : put_side flow test.right (refined n (side_value l n flow middle test.right) (mirrored test.rel) v k) middle ≡ behind_row = ap (λ z. put_side flow test.right (refined n z (mirrored test.rel) v k) middle) same in
        record {
          stands_for = subst (λ z. InGamma l n gamma flow naming z (record { memory = after; temps = s.temps; entered = s.bases })) rows
              (subst (λ z. InGamma l n gamma flow naming (put_side flow test.right (refined n (side_value l n flow middle test.right) (mirrored test.rel) v k) middle) (record { memory = z; temps = s.temps; entered = s.bases })) memories second.stands_for);
          long = subst (λ z. length z ≡ flow.width) rows second.long;
          lengths = λ z. subst (λ m. length (bytes_at m z) ≡ length (bytes_at memory z)) memories (second.lengths z ∙ first.lengths z);
          left_number = bounds_some q new_left.num b.a kept;
          right_number = bounds_some q new_right.num b.b also;
        }

    pub sides_good : IsStoodFor l n gamma flow (refine_in l n flow test (Some k) row) no_violations (in_world s (passing (test_holds flow.model memory this) (with_memory s.world after)))
    unfolding refine_integers refine_values refine_sides refine_two
    sides_good = by_truth (test_holds flow.model memory this) refl
      where
        by_truth : (b : Bool) → test_holds flow.model memory this ≡ b → IsStoodFor l n gamma flow (refine_in l n flow test (Some k) row) no_violations (in_world s (passing b (with_memory s.world after)))
        by_truth false e = clean_stop_good l n gamma flow (refine_in l n flow test (Some k) row) no_violations Stuck (with_memory s.world after) r.begun
        by_truth true e =
            let both = both_refined e in
            let is : refine_in l n flow test (Some k) row ≡ Some behind_row =
            ap (λ z. cond z (refine_one n flow test.left (met l n new_left new_right) row) (refine_two n flow test new_left new_right row)) apart ∙ ap (λ z. cond z (Some behind_row) None) (and_from (has_number n new_left) (has_number n new_right) both.left_number both.right_number) in
            let new : World = with_memory s.world after in
            let now : ProgramState = record s { world = new } in
            clean_goes_good l n gamma flow _ _ now new r.begun (record {
              row = behind_row;
              is = is;
              long = both.long;
              naming = naming;
              stands_for = both.stands_for;
              short = λ z. subst (λ x. pos x ≤ℤ greatest_of (kind_of flow.model Pointer true)) (sym (both.lengths z)) (r.short z);
            })

-- ---- the machine's sides

module _ {I : Type 0} {l : LatticeOf I} {n : IntegersOf I} {gamma : I → ℤ → Type 0} (flow : Flow) (s : ProgramState) (clean : s.world.violated ≡ []) (after : Option (List (Cell I))) where
  pub side_good : (x : Side) → NamesScalar flow x → (use_it : TestedSide → Reply ProgramState) → ((i : ℕ) → IsSeen flow s.bases x i → IsStoodFor l n gamma flow after no_violations (use_it (tested x i))) → IsStoodFor l n gamma flow after no_violations (with_side s x use_it)
  side_good (side.Object b kind) t use_it h = if_some_good l n gamma flow after no_violations s clean (s.bases b) (λ i. use_it (object i kind)) (λ i e. h i (t, e))
  side_good (side.Number z) t use_it h = h 0 t
  side_good side.Null t use_it h = h 0 tt
