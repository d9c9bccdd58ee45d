-- Tests on integers of an object with itself: what is known of it on both sides is known of it behind the test.
use Rattle.std.proofs.Common.{◌≡◌, ℕ, ◌≤◌, Bool, true, false, cond, ◌&&◌, Option, Some, None, List, [], ◌∷◌, length, take, arith, subst, sym, refl, ap, ap₂, ◌∙◌}
use Rattle.std.specs.Prelude.{ℤ, pos, ◌≤ℤ◌, ◌==◌, slice_get}
use Rattle.std.proofs.lemmas.Bool.{eqb-true, eq-eqb, true≢false}
use Rattle.std.proofs.lemmas.List.{length-set}
use Rattle.std.proofs.lemmas.Option.{same_Some}
use Rattle.cc_base.specs.Lattices.{LatticeOf, OrderLaws}
use Rattle.cc_base.specs.LatticeParts.{flag_leq}
use Rattle.cc_base.specs.IntegerDomains.{IntegersOf, BoundLaws}
use Rattle.cc_base.specs.IntegerLaws.{SoundLaws}
use Rattle.cc_base.specs.IntegerTypes.{is_size, greatest_of, wrap_into}
use Rattle.cc_base.specs.MachineArithmetic.{holds}
use Rattle.cc_base.specs.NumberRanges.{range_met}
use Rattle.cc_base.specs.declared.int_types.IntType.{IntType}
use Rattle.cc_base.specs.declared.integer_operators.Rel.{Rel}
use Rattle.c_layout.specs.declared.leaf_lists.Class.TheVariants.{Pointer}
use Rattle.c_layout.specs.declared.leaf_lists.Leaf.{Leaf}
use Rattle.cfg.specs.declared.flow_edges.Side.{Side}
use Rattle.cfg.specs.declared.flow_edges.Side.TheVariants as side
use Rattle.cfg.specs.declared.flow_edges.Test.{Test}
use Rattle.cfg.specs.declared.machine_instructions.Scalar as declared
use Rattle.cfg.specs.declared.programs.Flow.{Flow}
use Rattle.value_domain.specs.Values.LabelSets.{labels_leq, labels_order}
use Rattle.value_domain.specs.declared.values.label_sets.Labels as sets
use Rattle.value_domain.specs.declared.values.values.Value as values
use Rattle.value_domain.specs.declared.values.row_cells.Cell.{Cell}
use Rattle.domain_theorems.proofs.values.Numbers.{met_has, bounds_have, of_range_stands}
use Rattle.store_cells.specs.RowPositions.{leaf_position, value_at, put_value}
use Rattle.store_cells.specs.ScalarTypes.{kind_of}
use Rattle.transfer_system.specs.Refinements.{position_of, mirrored, is_same_object, common_labels, value_of_object, side_value, refined, put_at, put_side, met_number, met, refine_one, refine_sides, refine_values, refine_integers, refine_in}
use Rattle.transfer_checks.specs.ViolationSets.{no_violations}
use Rattle.memory_model.specs.Memory.Labels.{Labels, is_unlabelled}
use Rattle.memory_model.specs.Memory.Instances.{Memory, live, bytes_at, bytes_of, life_at}
use Rattle.memory_model.specs.Memory.Numbers.{number_of}
use Rattle.memory_model.specs.Memory.ScalarSizes.{class_bytes, is_pointer}
use Rattle.memory_model.specs.Effects.Accesses.{class_in, numbers_in}
use Rattle.memory_model.specs.Effects.ScalarBytes.{contents}
use Rattle.memory_model.specs.Effects.Tests as machine
use Rattle.memory_model.specs.Effects.Tests.{TestedSide, SideTest, object, scalar_size, object_bytes, side_scalar, test_holds, side_labels, bounded, after_test, passing}
use Rattle.memory_model.specs.Effects.Worlds.{World, Reply, Stuck, with_memory}
use Rattle.semantics.specs.CfgMachine.FlowStates.{ProgramState}
use Rattle.semantics.specs.CfgMachine.FlowEdges.{with_side, in_world}
use Rattle.store_sound.specs.Concretization.Coverage.{state_of}
use Rattle.store_sound.specs.Concretization.ValueMeaning.{Naming}
use Rattle.store_sound.specs.Concretization.RowMeaning.{InGamma}
use Rattle.store_sound.specs.Concretization.SeenLabels.{as_set}
use Rattle.store_sound.specs.Operations.Scalars.{signed_in}
use Rattle.store_sound.proofs.operations.LoadSound.{instance_there}
use Rattle.store_sound.specs.Programs.Premises.{HasPremises}
use Rattle.transfer_sound.specs.Values.SoundSteps.{IsReached, IsStoodFor}
use Rattle.transfer_sound.proofs.values.MoveSteps.{near_has}
use Rattle.transfer_sound.proofs.values.NearScalars.{IsNearNumber}
use Rattle.transfer_sound.proofs.values.Replies.{clean_stop_good, clean_goes_good}
use Rattle.transfer_sound.proofs.values.TypeRanges.{bounds_some}
use Rattle.transfer_sound.proofs.tests.Relabelling.{IsRelabelling, side_change, change_below, change_drops, bounded_relabels, relabellings_follow}
use Rattle.transfer_sound.proofs.tests.ScalarCells.{object_numbers, size_is, relabelled_stands}
use Rattle.transfer_sound.proofs.tests.TestSides.{side_good}
use Rattle.transfer_sound.proofs.tests.TestSteps.{BothIntegers, both_integers, mirrored_holds, turned_is, refined_stands, IsRead, is_read, HasSide, object_has}
use Rattle.transfer_sound.specs.Tests.ScalarObjects.{IsScalarObject, NamesScalar}

-- ---- labels

both_below : (a b c d e f g h i : Bool) → (flag_leq a d && (flag_leq b e && flag_leq c f)) ≡ true → (flag_leq a g && (flag_leq b h && flag_leq c i)) ≡ true → (flag_leq a (d && g) && (flag_leq b (e && h) && flag_leq c (f && i))) ≡ true
both_below a b c d e f g h i x y = grind arith

common_above : (s x y : sets.Labels) → labels_leq s x ≡ true → labels_leq s y ≡ true → labels_leq s (common_labels x y) ≡ true
common_above s x y h k = both_below s.lo s.hi s.mutated x.lo x.hi x.mutated y.lo y.hi y.mutated h k

first_is : (a b : Leaf) → (a ∷ []) ≡ (b ∷ []) → a ≡ b
first_is a b e = cc

module _ {I : Type 0} {l : LatticeOf I} {n : IntegersOf I} {gamma : I → ℤ → Type 0} (o : OrderLaws l) (q : BoundLaws l n gamma) (c : SoundLaws l n gamma) (flow : Flow) (p : HasPremises flow) (naming : Naming) (row : List (Cell I)) (s : ProgramState) (r : IsReached l n gamma flow naming row s)
    (rel : Rel) (k : IntType) (size : is_size k.bytes ≡ true) (b i : ℕ) (kl kr : declared.Scalar) (left : IsScalarObject flow b kl) (right : IsScalarObject flow b kr) (en : s.bases b ≡ Some i) where
  abbrev memory : Memory
  memory = s.world.memory

  abbrev this : SideTest
  this = record { left = object i kl; rel = rel; right = object i kr; common = Some k }

  abbrev here : ℕ
  here = leaf_position left.info 0

  abbrev v : values.Value I
  v = value_at l n row here

  abbrev new_left : values.Value I
  new_left = refined n v rel v k

  abbrev new_right : values.Value I
  new_right = refined n v (mirrored rel) v k

  abbrev known : values.Value I
  known = met l n new_left new_right

  abbrev left_labels : Labels
  left_labels = side_labels flow.model memory (object i kl)

  abbrev right_labels : Labels
  right_labels = side_labels flow.model memory (object i kr)

  abbrev between : Memory
  between = bounded flow.model rel k (object i kl) right_labels memory

  abbrev after : Memory
  after = after_test flow.model (Some k) this memory

  -- ---- both sides are the same scalar

  same_leaf : left.leaf ≡ right.leaf
  same_leaf =
      let info = same_Some left.info right.info (sym left.is ∙ right.is) in
      first_is left.leaf right.leaf (sym left.cells ∙ (ap (λ x. x.shape.cells) info ∙ right.cells))

  same_class : class_in kl ≡ class_in kr
  same_class = sym left.class ∙ (ap (λ x. x.class) same_leaf ∙ right.class)

  same_sign : signed_in kl ≡ signed_in kr
  same_sign = sym left.signed ∙ (ap (λ x. x.signed) same_leaf ∙ right.signed)

  same_size : scalar_size flow.model kl ≡ scalar_size flow.model kr
  same_size = left.bytes ∙ (ap (class_bytes flow.model) same_class ∙ sym right.bytes)

  value_is : side_value l n flow row (side.Object b kl) ≡ v
  value_is = ap (λ z. value_of_object l n row (position_of z)) left.is

  alive : life_at memory i ≡ live
  alive = r.stands_for.lives.alive b i en

  named : naming i ≡ Some b
  named = r.stands_for.lives.named b i en

  module _ (h : test_holds flow.model memory this ≡ true) where
    both : BothIntegers rel k (side_scalar flow.model memory (object i kl)) (side_scalar flow.model memory (object i kr))
    both = both_integers rel k (side_scalar flow.model memory (object i kl)) (side_scalar flow.model memory (object i kr)) h

    abbrev a : ℤ
    a = both.a

    read : IsRead kl (contents (object_bytes flow.model memory i kl)) both.a
    read = is_read kl (contents (object_bytes flow.model memory i kl)) both.a both.la both.left

    same_number : both.a ≡ both.b
    same_number =
        let x = is_read kl (contents (object_bytes flow.model memory i kl)) both.a both.la both.left in
        let y = is_read kr (contents (object_bytes flow.model memory i kr)) both.b both.lb both.right in
        let ns : x.ns ≡ y.ns = same_Some x.ns y.ns (sym x.are ∙ (ap (λ z. numbers_in (contents (take z (bytes_at memory i)))) same_size ∙ y.are)) in
        x.is ∙ (ap₂ number_of same_sign ns ∙ sym y.is)

    number_is : a ≡ number_of left.leaf.signed read.ns
    number_is = read.is ∙ sym (ap (λ z. number_of z read.ns) left.signed)

    plain_class : is_pointer left.leaf.class ≡ false
    plain_class = ap is_pointer left.class ∙ read.plain

    left_has : HasSide gamma flow memory v (object i kl) both.a
    left_has = subst (λ z. HasSide gamma flow memory z (object i kl) both.a) value_is (object_has o q flow p naming s.temps s.bases row r.long memory r.stands_for b i kl left en both.a both.la both.left)

    right_has : HasSide gamma flow memory v (object i kr) both.b
    right_has = subst (λ z. HasSide gamma flow memory z (object i kr) both.b) value_is (object_has o q flow p naming s.temps s.bases row r.long memory r.stands_for b i kr right en both.b both.lb both.right)

    left_known : gamma new_left.num a
    left_known = refined_stands q c rel k size v v both.a both.b left_has.number right_has.number both.hold

    right_known : gamma new_right.num a
    right_known =
        let turned : holds (mirrored rel) (wrap_into k both.b) (wrap_into k both.a) ≡ true = mirrored_holds rel (wrap_into k both.a) (wrap_into k both.b) ∙ both.hold in
        subst (gamma new_right.num) (sym same_number) (refined_stands q c (mirrored rel) k size v v both.b both.a right_has.number left_has.number turned)

    known_number : gamma known.num a
    known_number =
        let inside = q.inside new_right.num a right_known in
        let reached = of_range_stands q (range_met (n.bounds new_left.num) inside.0 inside.1) a (met_has (n.bounds new_left.num) inside.0 inside.1 a (bounds_have q new_left.num a left_known) inside.3 inside.4) in
        subst (λ z. gamma (met_number l n new_left.num z) a) (sym inside.2) reached

    -- ---- the labels behind the test

    short_for : (kind : declared.Scalar) → scalar_size flow.model kind ≡ class_bytes flow.model left.leaf.class → (m : Memory) → length (bytes_at m i) ≡ length (bytes_at memory i) → (it : _) → slice_get m i ≡ Some it → length it.bytes ≤ scalar_size flow.model kind
    short_for kind e m same it at =
        let total = size_is q flow p naming row r.long (state_of s) r.stands_for b i kl left named alive in
        let bytes : length (bytes_at m i) ≡ length it.bytes = ap (λ z. length (bytes_of z)) at in
        omega (arith, total, same, bytes, e)

    left_sized : scalar_size flow.model kl ≡ class_bytes flow.model left.leaf.class
    left_sized = left.bytes ∙ ap (class_bytes flow.model) (sym left.class)

    first_relabels : IsRelabelling memory between i (side_change (is_unlabelled right_labels) rel k)
    first_relabels =
        let it = instance_there memory i alive in
        bounded_relabels flow.model rel k i kl right_labels memory it.0 it.1 (short_for kl left_sized memory refl it.0 it.1) (is_unlabelled right_labels) refl

    second_relabels : IsRelabelling between after i (side_change (is_unlabelled left_labels) (machine.turned rel) k)
    second_relabels =
        let it = instance_there between i (first_relabels.rewrite.alike.lives i ∙ alive) in
        bounded_relabels flow.model (machine.turned rel) k i kr left_labels between it.0 it.1 (short_for kr (sym same_size ∙ left_sized) between (first_relabels.rewrite.alike.lengths i) it.0 it.1) (is_unlabelled left_labels) refl

    relabels : IsRelabelling memory after i (λ s. side_change (is_unlabelled left_labels) (machine.turned rel) k (side_change (is_unlabelled right_labels) rel k s))
    relabels = relabellings_follow i (side_change (is_unlabelled right_labels) rel k) (side_change (is_unlabelled left_labels) (machine.turned rel) k) first_relabels second_relabels

    labels_known : (s : Labels) → labels_leq (as_set s) v.labels ≡ true → labels_leq (as_set (side_change (is_unlabelled left_labels) (machine.turned rel) k (side_change (is_unlabelled right_labels) rel k s))) known.labels ≡ true
    labels_known s f =
        let once : Labels = side_change (is_unlabelled right_labels) rel k s in
        let x = change_below rel k v.labels v.labels right_labels right_has.labels (is_unlabelled right_labels) refl s f in
        let below = labels_order.transitive (as_set once) (as_set s) v.labels (change_drops (is_unlabelled right_labels) rel k s) f in
        let y = change_below (mirrored rel) k v.labels v.labels left_labels left_has.labels (is_unlabelled left_labels) refl once below in
        let turned = subst (λ z. labels_leq (as_set (side_change (is_unlabelled left_labels) z k once)) new_right.labels ≡ true) (sym (turned_is rel)) y in
        let dropped = labels_order.transitive (as_set (side_change (is_unlabelled left_labels) (machine.turned rel) k once)) (as_set once) new_left.labels (change_drops (is_unlabelled left_labels) (machine.turned rel) k once) x in
        common_above (as_set (side_change (is_unlabelled left_labels) (machine.turned rel) k once)) new_left.labels new_right.labels dropped turned

    -- ---- the row behind it

    is_near : IsNearNumber a
    unfolding value_at
    is_near = near_has q _ a left_has.number

    behind : InGamma l n gamma flow naming (put_value row here known) (record { memory = after; temps = s.temps; entered = s.bases })
    behind =
        let numbers = object_numbers q flow p naming row r.long (state_of s) r.stands_for b i kl left named alive read.ns read.are in
        relabelled_stands q flow p naming row r.long (state_of s) r.stands_for b i kl left named alive relabels.rewrite (λ s. side_change (is_unlabelled left_labels) (machine.turned rel) k (side_change (is_unlabelled right_labels) rel k s)) relabels.each plain_class known.num known.labels a read.ns numbers.few number_is numbers.at_bytes is_near known_number labels_known

    behind_long : length (put_value row here known) ≡ flow.width
    behind_long = length-set row here _ ∙ r.long

-- ---- the test

module _ {I : Type 0} {l : LatticeOf I} {n : IntegersOf I} {gamma : I → ℤ → Type 0} (o : OrderLaws l) (q : BoundLaws l n gamma) (c : SoundLaws l n gamma) (flow : Flow) (p : HasPremises flow) (naming : Naming) (row : List (Cell I)) (s : ProgramState) (r : IsReached l n gamma flow naming row s)
    (test : Test) (k : IntType) (size : is_size k.bytes ≡ true) where
  abbrev with_sides : Side → Side → Test
  with_sides x y = record test { left = x; right = y }

  abbrev behind_test : TestedSide → TestedSide → Reply ProgramState
  behind_test x y = in_world s (machine.pass_test flow.model (record { left = x; rel = test.rel; right = y; common = Some k }) s.world)

  abbrev refined_row : Side → Side → Option (List (Cell I))
  refined_row x y = refine_in l n flow (with_sides x y) (Some k) row

  module _ (b i : ℕ) (kl kr : declared.Scalar) (left : IsScalarObject flow b kl) (right : IsScalarObject flow b kr) (en : s.bases b ≡ Some i) where
    abbrev same_sides : SideTest
    same_sides = record { left = object i kl; rel = test.rel; right = object i kr; common = Some k }

    abbrev after_same : Memory
    after_same = after_test flow.model (Some k) same_sides s.world.memory

    abbrev left_known_by : values.Value I
    left_known_by = refined n (value_at l n row (leaf_position left.info 0)) test.rel (value_at l n row (leaf_position left.info 0)) k

    abbrev right_known_by : values.Value I
    right_known_by = refined n (value_at l n row (leaf_position left.info 0)) (mirrored test.rel) (value_at l n row (leaf_position left.info 0)) k

    abbrev row_behind : List (Cell I)
    row_behind = put_value row (leaf_position left.info 0) (met l n left_known_by right_known_by)

    row_is : test_holds flow.model s.world.memory same_sides ≡ true → refine_in l n flow (with_sides (side.Object b kl) (side.Object b kr)) (Some k) row ≡ Some row_behind
    unfolding refine_integers refine_values refine_sides refine_one put_side put_at
    row_is e =
        let some = bounds_some q (met l n left_known_by right_known_by).num _ (known_number o q c flow p naming row s r test.rel k size b i kl kr left right en e) in
        let one : (b == b) ≡ true = eq-eqb b b refl in
        rw (left.is, one) (ap (λ z. cond z (Some row_behind) None) some)

    by_truth : (t : Bool) → test_holds flow.model s.world.memory same_sides ≡ t → IsStoodFor l n gamma flow (refined_row (side.Object b kl) (side.Object b kr)) no_violations (in_world s (passing t (with_memory s.world after_same)))
    by_truth false e = clean_stop_good l n gamma flow (refined_row (side.Object b kl) (side.Object b kr)) no_violations Stuck (with_memory s.world after_same) r.begun
    by_truth true e = let new : World = with_memory s.world after_same in
        let now : ProgramState = record s { world = new } in
        clean_goes_good l n gamma flow _ _ now new r.begun (record {
          row = row_behind;
          is = row_is e;
          long = behind_long o q c flow p naming row s r test.rel k size b i kl kr left right en e;
          naming = naming;
          stands_for = behind o q c flow p naming row s r test.rel k size b i kl kr left right en e;
          short = λ z. subst (λ x. pos x ≤ℤ greatest_of (kind_of flow.model Pointer true)) (sym ((relabels o q c flow p naming row s r test.rel k size b i kl kr left right en e).rewrite.alike.lengths z)) (r.short z);
        })

    one_good : IsStoodFor l n gamma flow (refined_row (side.Object b kl) (side.Object b kr)) no_violations (behind_test (object i kl) (object i kr))
    one_good = by_truth (test_holds flow.model s.world.memory same_sides) refl

  pub same_object_good : (x y : Side) → is_same_object x y ≡ true → NamesScalar flow x → NamesScalar flow y → IsStoodFor l n gamma flow (refined_row x y) no_violations (with_side s x (λ left. with_side s y (λ right. behind_test left right)))
  same_object_good (side.Number z) y h f g = absurd (true≢false (sym h))
  same_object_good side.Null y h f g = absurd (true≢false (sym h))
  same_object_good (side.Object b kl) (side.Number z) h f g = absurd (true≢false (sym h))
  same_object_good (side.Object b kl) side.Null h f g = absurd (true≢false (sym h))
  same_object_good (side.Object b kl) (side.Object d kr) h f g =
      let e : b ≡ d = eqb-true b d h in
      subst (λ z. NamesScalar flow (side.Object z kr) → IsStoodFor l n gamma flow (refined_row (side.Object b kl) (side.Object z kr)) no_violations (with_side s (side.Object b kl) (λ left. with_side s (side.Object z kr) (λ right. behind_test left right)))) e
      (λ right. side_good flow s r.begun (refined_row (side.Object b kl) (side.Object b kr)) (side.Object b kl) f (λ x. with_side s (side.Object b kr) (λ y. behind_test x y)) (λ i one.
      side_good flow s r.begun (refined_row (side.Object b kl) (side.Object b kr)) (side.Object b kr) right (λ y. behind_test (object i kl) y) (λ j two.
      let same : i ≡ j = same_Some i j (sym one.1 ∙ two.1) in
      subst (λ z. IsStoodFor l n gamma flow (refined_row (side.Object b kl) (side.Object b kr)) no_violations (behind_test (object i kl) (object z kr))) same (one_good b i kl kr one.0 two.0 one.1)))) g
