-- Tests on integers are told: of two sides, of which each is refined in turn as both were before, or of an object with itself.
use Rattle.std.proofs.Common.{◌≡◌, ℕ, ◌==◌, Bool, true, false, not, ◌&&◌, ◌||◌, cond, Option, Some, None, List, subst, sym, refl, ap, ap₂, ◌∙◌, inl, inr}
use Rattle.std.specs.Prelude.{ℤ, is_some}
use Rattle.std.proofs.lemmas.Bool.{cases_Bool, and_from, eqb-true, eq-eqb, true≢false}
use Rattle.std.proofs.lemmas.Option.{same_Some}
use Rattle.cc_base.specs.Lattices.{LatticeOf, OrderLaws}
use Rattle.cc_base.specs.IntegerDomains.{IntegersOf, BoundLaws}
use Rattle.cc_base.specs.IntegerLaws.{SoundLaws}
use Rattle.cc_base.specs.IntegerTypes.{is_size, wrap_into}
use Rattle.cc_base.specs.MachineArithmetic.{holds}
use Rattle.cc_base.specs.declared.int_types.IntType.{IntType}
use Rattle.cc_base.specs.declared.integer_operators.Rel.{Rel}
use Rattle.cc_base.specs.declared.integer_operators.Rel.TheVariants.{Lt, Le, Gt, Ge, Eq, Ne}
use Rattle.cfg.specs.declared.flow_edges.Side.{Side}
use Rattle.cfg.specs.declared.flow_edges.Side.TheVariants as side
use Rattle.cfg.specs.declared.flow_edges.Test.{Test}
use Rattle.cfg.specs.declared.machine_instructions.Scalar as declared
use Rattle.cfg.specs.declared.programs.Flow.{Flow}
use Rattle.value_domain.specs.declared.values.values.Value as values
use Rattle.value_domain.specs.declared.values.row_cells.Cell.{Cell}
use Rattle.store_cells.specs.RowPositions.{leaf_position, value_at, put_value}
use Rattle.transfer_edges.specs.Refinements.{mirrored, common_labels, is_same_object, side_value, refined_labels, refined, met_number, met, has_number, put_at, put_side, refine_one, refine_two, refine_sides, refine_values, refine_integers, refine_in, refine}
use Rattle.transfer_checks.specs.ViolationSets.{no_violations}
use Rattle.memory_model.specs.Memory.Instances.{Memory}
use Rattle.memory_model.specs.Memory.Labels.{Labels, no_labels, is_unlabelled, dropped_labels}
use Rattle.memory_model.specs.Memory.Scalars.{integer}
use Rattle.memory_model.specs.Effects.Tests as machine
use Rattle.memory_model.specs.Effects.Tests.{TestedSide, SideTest, object, side_scalar, side_labels, test_holds, bounded, after_test, passing}
use Rattle.memory_model.specs.Effects.Worlds.{World, Reply, with_memory}
use Rattle.semantics.specs.CfgMachine.FlowStates.{ProgramState}
use Rattle.semantics.specs.CfgMachine.FlowEdges.{with_side, in_world, testing}
use Rattle.lower_templates.specs.Views.ProgramViews.{flow_view}
use Rattle.store_sound.specs.Concretization.Coverage.{state_of}
use Rattle.store_sound.specs.Concretization.SeenLabels.{as_set}
use Rattle.store_sound.specs.Concretization.ValueMeaning.{Naming}
use Rattle.store_sound.specs.Programs.Premises.{HasPremises}
use Rattle.transfer_sound.specs.Values.SoundSteps.{IsReached}
use Rattle.transfer_sound.proofs.values.NearScalars.{near_number_stands}
use Rattle.transfer_sound.proofs.edges.EdgeSteps.{is_near}
use Rattle.transfer_sound.specs.Tests.ScalarObjects.{IsScalarObject, NamesScalar, IsIntegerTest}
use Rattle.transfer_sound.proofs.tests.Relabelling.{IsRelabelling, side_change, relabellings_follow}
use Rattle.transfer_sound.proofs.tests.ScalarCells.{size_is}
use Rattle.transfer_sound.proofs.tests.TestSides.{tested, IsSeen}
use Rattle.transfer_sound.proofs.tests.TestSteps.{BothIntegers, both_integers, mirrored_holds, turned_is, object_has}
use Rattle.transfer_exact.specs.Values.ExactNumbers.{ExactLaws}
use Rattle.transfer_exact.specs.Values.SingleNumbers.{IsOne}
use Rattle.transfer_exact.specs.Values.SingleRows.{ExactState}
use Rattle.transfer_exact.specs.Values.SingleSteps.{IsDefined, ExactAfter, IsExact}
use Rattle.transfer_exact.proofs.values.NearExact.{near_one}
use Rattle.transfer_exact.proofs.values.Told.{if_some_told, clean_goes_told}
use Rattle.transfer_exact.proofs.edges.CaseTests.{met_one}
use Rattle.transfer_exact.proofs.tests.IntegerSides.{labels_exact, refined_one, object_tells}
use Rattle.transfer_exact.proofs.edges.RelabelledObjects.{IsNumberHeld, relabelled_tells}
use Rattle.transfer_exact.proofs.tests.SideTurns.{IsReady, IsTurn, side_turn, value_is, held_there, bounded_there}

-- ---- labels of an object that is tested against itself

and_none : (b : Bool) → (b && false) ≡ false
and_none true = refl
and_none false = refl

and_own : (b : Bool) → (b && b) ≡ b
and_own true = refl
and_own false = refl

none_dropped : (rel : Rel) (k : IntType) → dropped_labels rel no_labels k ≡ no_labels
none_dropped Lt k = rw (and_none k.signed) refl
none_dropped Le k = rw (and_none k.signed) refl
none_dropped Gt k = rw (and_none (not k.signed)) refl
none_dropped Ge k = rw (and_none (not k.signed)) refl
none_dropped Eq k = refl
none_dropped Ne k = refl

flags_none : (a b c : Bool) → not (a || (b || c)) ≡ true → record { low = a; high = b; changed = c } ≡ no_labels
flags_none false false false h = refl
flags_none true b c h = absurd (true≢false (sym h))
flags_none false true c h = absurd (true≢false (sym h))
flags_none false false true h = absurd (true≢false (sym h))

-- where there are none, none are dropped
own_change : (rel : Rel) (k : IntType) (la : Labels) → side_change (is_unlabelled la) rel k la ≡ la
own_change rel k la = elim (cases_Bool (is_unlabelled la)) [
  | inl e ↦ (let none : la ≡ no_labels = flags_none la.low la.high la.changed e in
      rw e (ap (λ z. dropped_labels rel z k) none ∙ (none_dropped rel k ∙ sym none)))
  | inr e ↦ rw e refl
]

same_set : (x y : Labels) → as_set x ≡ as_set y → x ≡ y
same_set x y e = ap (λ z. record { low = z.lo; high = z.hi; changed = z.mutated }) e

common_own : (la : Labels) → common_labels (as_set la) (as_set la) ≡ as_set la
common_own la = rw (and_own la.low, and_own la.high, and_own la.changed) refl

own_exact : (rel : Rel) (k : IntType) (la : Labels) → refined_labels (as_set la) rel (as_set la) k ≡ as_set la
own_exact rel k la = labels_exact rel k la la ∙ ap as_set (own_change rel k la)

one_some : {I : Type 0} (n : IntegersOf I) (x : I) (a : ℤ) → IsOne n x a → is_some (n.bounds x) ≡ true
one_some n x a e = ap is_some e

module _ {I : Type 0} {l : LatticeOf I} {n : IntegersOf I} {gamma : I → ℤ → Type 0} (o : OrderLaws l) (q : BoundLaws l n gamma) (c : SoundLaws l n gamma) (exact : ExactLaws n) (flow : Flow) (p : HasPremises flow) (naming : Naming) (row : List (Cell I)) (s : ProgramState) (r : IsReached l n gamma flow naming row s) (st : ExactState l n flow row (state_of s)) where
  abbrev memory : Memory
  memory = s.world.memory

  -- ---- the run goes on where the test agrees with memory

  passing_told : (goal : Option (List (Cell I))) (after : Memory) (b : Bool) → (b ≡ true → ExactAfter l n flow goal (record s { world = with_memory s.world after })) → IsDefined (in_world s (passing b (with_memory s.world after))) → IsExact l n flow goal no_violations (in_world s (passing b (with_memory s.world after)))
  passing_told goal after false h d = absurd (d (with_memory s.world after) refl)
  passing_told goal after true h d = let new : World = with_memory s.world after in
      let now : ProgramState = record s { world = new } in
      clean_goes_told l n flow _ now new (h refl)

  side_told : (goal : Option (List (Cell I))) (x : Side) → NamesScalar flow x → (use_it : TestedSide → Reply ProgramState) → IsDefined (with_side s x use_it) → ((i : ℕ) → IsSeen flow s.bases x i → IsDefined (use_it (tested x i)) → IsExact l n flow goal no_violations (use_it (tested x i))) → IsExact l n flow goal no_violations (with_side s x use_it)
  side_told goal (side.Object b kind) t use_it d h = if_some_told l n flow goal no_violations s (s.bases b) (λ i. use_it (object i kind)) d (λ i e d. h i (t, e) d)
  side_told goal (side.Number z) t use_it d h = h 0 t d
  side_told goal side.Null t use_it d h = h 0 tt d

  -- ---- what the row tells of the sides

  names : (d j : ℕ) → s.bases d ≡ Some j → naming j ≡ Some d
  names = r.stands_for.lives.named

  abbrev ready : IsReady q flow p naming s.temps s.bases names row memory
  ready = record {
    long = r.long;
    tells = st;
    alive = r.stands_for.lives.alive;
    whole = λ b i kind t e. size_is q flow p naming row r.long (state_of s) r.stands_for b i kind t (names b i e) (r.stands_for.lives.alive b i e);
  }

  record IsKnown (x : Side) (i : ℕ) (a : ℤ) : Type 0 where
    has : gamma (side_value l n flow row x).num a
    one : IsOne n (side_value l n flow row x).num a
    labels : (side_value l n flow row x).labels ≡ as_set (side_labels flow.model memory (tested x i))

  known : (x : Side) (i : ℕ) → IsSeen flow s.bases x i → (a : ℤ) (la : Labels) → side_scalar flow.model memory (tested x i) ≡ Some (integer a la) → IsKnown x i a
  known (side.Object b kind) i seen a la e =
      let has = object_has o q flow p naming s.temps s.bases row r.long memory r.stands_for b i kind seen.0 seen.1 a la e in
      let tells = object_tells q flow p naming s.temps s.bases names row r.long memory st b i kind seen.0 seen.1 (ready.whole b i kind seen.0 seen.1) a has.number in
      record { has = has.number; one = tells.number; labels = tells.labels }
  known (side.Number z) i seen a la e =
      let same : z ≡ a = cc in
      subst (IsKnown (side.Number z) i) same (record {
        has = near_number_stands q (n.one z) z (is_near z seen) (q.one_stands z);
        one = near_one q (n.one z) z (is_near z seen) (q.one_bounds z);
        labels = refl;
      })
  known side.Null i seen a la e = cc

  -- ---- two sides in turn

  module _ (test : Test) (k : IntType) (size : is_size k.bytes ≡ true) where
    abbrev v : values.Value I
    v = side_value l n flow row test.left

    abbrev w : values.Value I
    w = side_value l n flow row test.right

    abbrev new_left : values.Value I
    new_left = refined n (side_value l n flow row test.left) test.rel (side_value l n flow row test.right) k

    abbrev new_right : values.Value I
    new_right = refined n (side_value l n flow row test.right) (mirrored test.rel) (side_value l n flow row test.left) k

    module _ (apart : is_same_object test.left test.right ≡ false) (i j : ℕ) (left : IsSeen flow s.bases test.left i) (right : IsSeen flow s.bases test.right j) where
      abbrev this : SideTest
      this = record { left = tested test.left i; rel = test.rel; right = tested test.right j; common = Some k }

      abbrev after : Memory
      after = after_test flow.model (Some k) this memory

      abbrev middle : List (Cell I)
      middle = put_side flow test.left new_left row

      abbrev between : Memory
      between = bounded flow.model test.rel k (tested test.left i) (side_labels flow.model memory (tested test.right j)) memory

      abbrev behind_row : List (Cell I)
      behind_row = put_side flow test.right new_right middle

      both_behind : test_holds flow.model memory this ≡ true → ExactAfter l n flow (refine_in l n flow test (Some k) row) (record s { world = with_memory s.world after })
      unfolding refine_integers refine_values refine_sides refine_two
      both_behind h =
          let b = both_integers test.rel k (side_scalar flow.model memory (tested test.left i)) (side_scalar flow.model memory (tested test.right j)) h in
          let x = known test.left i left b.a b.la b.left in
          let y = known test.right j right b.b b.lb b.right in
          let turned : holds (mirrored test.rel) (wrap_into k b.b) (wrap_into k b.a) ≡ true = mirrored_holds test.rel (wrap_into k b.a) (wrap_into k b.b) ∙ b.hold in
          let one : IsOne n new_left.num b.a = refined_one q c exact test.rel k size v w b.a b.b x.has y.has x.one y.one b.hold in
          let two : IsOne n new_right.num b.b = refined_one q c exact (mirrored test.rel) k size w v b.b b.a y.has x.has y.one x.one turned in
          let first = side_turn q flow p naming s.temps s.bases names row memory ready test.left i left test.rel k (side_labels flow.model memory (tested test.right j)) w y.labels b.a x.has one in
          let same : side_value l n flow middle test.right ≡ w = first.value test.right j right apart in
          let second = side_turn q flow p naming s.temps s.bases names middle between first.ready test.right j right (mirrored test.rel) k (side_labels flow.model memory (tested test.left i)) v x.labels b.b
          (subst (λ z. gamma z.num b.b) (sym same) y.has) (subst (λ z. IsOne n (refined n z (mirrored test.rel) v k).num b.b) (sym same) two) in
          let memories : bounded flow.model (mirrored test.rel) k (tested test.right j) (side_labels flow.model memory (tested test.left i)) between ≡ after = ap (λ z. bounded flow.model z k (tested test.right j) (side_labels flow.model memory (tested test.left i)) between) (sym (turned_is test.rel)) in
          let rows : put_side flow test.right (refined n (side_value l n flow middle test.right) (mirrored test.rel) v k) middle ≡ behind_row = ap (λ z. put_side flow test.right (refined n z (mirrored test.rel) v k) middle) same in
          let numbers : (has_number n new_left && has_number n new_right) ≡ true = and_from (has_number n new_left) (has_number n new_right) (one_some n new_left.num b.a one) (one_some n new_right.num b.b two) in
          let is : refine_in l n flow test (Some k) row ≡ Some behind_row =
          ap (λ z. cond z (refine_one n flow test.left (met l n new_left new_right) row) (refine_two n flow test new_left new_right row)) apart ∙ ap (λ z. cond z (Some behind_row) None) numbers in
          record {
            row = behind_row;
            is = is;
            tells = subst (λ z. ExactState l n flow z (record { memory = after; temps = s.temps; entered = s.bases })) rows
                (subst (λ z. ExactState l n flow (put_side flow test.right (refined n (side_value l n flow middle test.right) (mirrored test.rel) v k) middle) (record { memory = z; temps = s.temps; entered = s.bases })) memories second.ready.tells);
          }

  -- ---- an object with itself

  module _ (test : Test) (k : IntType) (size : is_size k.bytes ≡ true) (b i : ℕ) (kl kr : declared.Scalar) (left : IsScalarObject flow b kl) (right : IsScalarObject flow b kr) (en : s.bases b ≡ Some i) where
    abbrev this_one : SideTest
    this_one = record { left = object i kl; rel = test.rel; right = object i kr; common = Some k }

    abbrev after_one : Memory
    after_one = after_test flow.model (Some k) this_one memory

    abbrev left_labels : Labels
    left_labels = side_labels flow.model memory (object i kl)

    abbrev right_labels : Labels
    right_labels = side_labels flow.model memory (object i kr)

    abbrev between_one : Memory
    between_one = bounded flow.model test.rel k (object i kl) right_labels memory

    abbrev place : ℕ
    place = leaf_position left.info 0

    abbrev here : values.Value I
    here = value_at l n row place

    abbrev once : values.Value I
    once = refined n here test.rel here k

    abbrev again : values.Value I
    again = refined n here (mirrored test.rel) here k

    abbrev own_row : List (Cell I)
    own_row = put_value row place (met l n once again)

    abbrev own_test : Test
    own_test = record test { left = side.Object b kl; right = side.Object b kr }

    module _ (h : test_holds flow.model memory this_one ≡ true) where
      both : BothIntegers test.rel k (side_scalar flow.model memory (object i kl)) (side_scalar flow.model memory (object i kr))
      both = both_integers test.rel k (side_scalar flow.model memory (object i kl)) (side_scalar flow.model memory (object i kr)) h

      abbrev a : ℤ
      a = both.a

      seen_left : IsKnown (side.Object b kl) i both.a
      seen_left = known (side.Object b kl) i (left, en) both.a both.la both.left

      seen_right : IsKnown (side.Object b kr) i both.b
      seen_right = known (side.Object b kr) i (right, en) both.b both.lb both.right

      same_number : both.b ≡ both.a
      same_number = same_first (both.b, both.b) (both.a, both.a) (sym seen_right.one ∙ seen_left.one)
        where
          same_first : (x y : ℤ × ℤ) → Some x ≡ Some y → x.0 ≡ y.0
          same_first x y e = ap (λ z. z.0) (same_Some x y e)

      hold : holds test.rel (wrap_into k both.a) (wrap_into k both.a) ≡ true
      hold = subst (λ z. holds test.rel (wrap_into k both.a) (wrap_into k z) ≡ true) same_number both.hold

      turned : holds (mirrored test.rel) (wrap_into k both.a) (wrap_into k both.a) ≡ true
      turned = mirrored_holds test.rel (wrap_into k both.a) (wrap_into k both.a) ∙ hold

      there : side_value l n flow row (side.Object b kl) ≡ here
      there = value_is q flow p naming s.temps s.bases names row memory ready b i kl left en

      once_one : IsOne n (refined n (side_value l n flow row (side.Object b kl)) test.rel (side_value l n flow row (side.Object b kl)) k).num both.a
      once_one = refined_one q c exact test.rel k size (side_value l n flow row (side.Object b kl)) (side_value l n flow row (side.Object b kl)) both.a both.a seen_left.has seen_left.has seen_left.one seen_left.one hold

      again_one : IsOne n (refined n (side_value l n flow row (side.Object b kl)) (mirrored test.rel) (side_value l n flow row (side.Object b kl)) k).num both.a
      again_one = refined_one q c exact (mirrored test.rel) k size (side_value l n flow row (side.Object b kl)) (side_value l n flow row (side.Object b kl)) both.a both.a seen_left.has seen_left.has seen_left.one seen_left.one turned

      met_is : IsOne n (met l n once again).num both.a
      met_is =
          let x : IsOne n once.num both.a = subst (λ z. IsOne n (refined n z test.rel z k).num both.a) there once_one in
          let y : IsOne n again.num both.a = subst (λ z. IsOne n (refined n z (mirrored test.rel) z k).num both.a) there again_one in
          ap (λ z. n.bounds (met_number l n once.num z)) y ∙ met_one q once.num both.a x

      -- ---- its labels stay

      held : IsNumberHeld q flow p naming row r.long (state_of s) names st b i kl left en both.a
      held = held_there q flow p naming s.temps s.bases names row memory ready b i kl left en both.a seen_left.has

      here_labels : here.labels ≡ as_set held.la
      here_labels = held.tells.labels_are

      left_is : left_labels ≡ held.la
      left_is = same_set left_labels held.la (sym seen_left.labels ∙ (ap (λ z. z.labels) there ∙ here_labels))

      right_is : right_labels ≡ held.la
      right_is = same_set right_labels held.la (sym seen_right.labels ∙ (ap (λ z. z.labels) there ∙ here_labels))

      labels_stay : side_change (is_unlabelled left_labels) (machine.turned test.rel) k (side_change (is_unlabelled right_labels) test.rel k held.la) ≡ held.la
      labels_stay = ap (λ z. side_change (is_unlabelled z) (machine.turned test.rel) k (side_change (is_unlabelled right_labels) test.rel k held.la)) left_is
          ∙ (ap (λ z. side_change (is_unlabelled held.la) (machine.turned test.rel) k (side_change (is_unlabelled z) test.rel k held.la)) right_is
          ∙ (ap (λ z. side_change (is_unlabelled held.la) (machine.turned test.rel) k z) (own_change test.rel k held.la) ∙ own_change (machine.turned test.rel) k held.la))

      met_labels : (met l n once again).labels ≡ as_set held.la
      met_labels = ap (λ z. common_labels (refined_labels z test.rel z k) (refined_labels z (mirrored test.rel) z k)) here_labels
          ∙ (ap₂ (λ x y. common_labels x y) (own_exact test.rel k held.la) (own_exact (mirrored test.rel) k held.la) ∙ common_own held.la)

      -- ---- memory behind the test

      first_turn : IsTurn q flow p naming s.temps s.bases names row (side.Object b kl) (put_side flow (side.Object b kl) (refined n (side_value l n flow row (side.Object b kl)) test.rel (side_value l n flow row (side.Object b kr)) k) row) between_one
      first_turn = side_turn q flow p naming s.temps s.bases names row memory ready (side.Object b kl) i (left, en) test.rel k right_labels (side_value l n flow row (side.Object b kr)) seen_right.labels both.a seen_left.has once_one

      relabels : IsRelabelling memory after_one i (λ z. side_change (is_unlabelled left_labels) (machine.turned test.rel) k (side_change (is_unlabelled right_labels) test.rel k z))
      relabels = relabellings_follow i (side_change (is_unlabelled right_labels) test.rel k) (side_change (is_unlabelled left_labels) (machine.turned test.rel) k)
          (bounded_there q flow p naming s.temps s.bases names row memory ready b i kl left en test.rel k right_labels)
          (bounded_there q flow p naming s.temps s.bases names _ between_one first_turn.ready b i kr right en (machine.turned test.rel) k left_labels)

      own_tells : ExactState l n flow own_row (record { memory = after_one; temps = s.temps; entered = s.bases })
      own_tells = relabelled_tells q flow p naming row r.long (state_of s) names st b i kl left en after_one (λ z. side_change (is_unlabelled left_labels) (machine.turned test.rel) k (side_change (is_unlabelled right_labels) test.rel k z)) relabels both.a held
          (met l n once again).num (met l n once again).labels met_is (met_labels ∙ ap as_set (sym labels_stay))

      row_is : refine_in l n flow own_test (Some k) row ≡ Some own_row
      unfolding refine_integers refine_values refine_sides refine_one put_side put_at
      row_is =
          let some : has_number n (met l n once again) ≡ true = one_some n (met l n once again).num both.a met_is in
          let one : (b == b) ≡ true = eq-eqb b b refl in
          rw (left.is, one) (ap (λ z. cond z (Some own_row) None) some)

      one_behind : ExactAfter l n flow (refine_in l n flow own_test (Some k) row) (record s { world = with_memory s.world after_one })
      one_behind = record { row = own_row; is = row_is; tells = own_tells }

  -- ---- tests

  module _ (test : Test) (k : IntType) (size : is_size k.bytes ≡ true) where
    abbrev refined_row : Side → Side → Option (List (Cell I))
    refined_row x y = refine_in l n flow (record test { left = x; right = y }) (Some k) row

    abbrev behind_test : TestedSide → TestedSide → Reply ProgramState
    behind_test x y = in_world s (machine.pass_test flow.model (record { left = x; rel = test.rel; right = y; common = Some k }) s.world)

    abbrev asked : Side → Side → Reply ProgramState
    asked x y = with_side s x (λ left. with_side s y (λ right. behind_test left right))

    own_told : (b i : ℕ) (kl kr : declared.Scalar) (left : IsScalarObject flow b kl) (right : IsScalarObject flow b kr) → s.bases b ≡ Some i → IsDefined (behind_test (object i kl) (object i kr)) → IsExact l n flow (refined_row (side.Object b kl) (side.Object b kr)) no_violations (behind_test (object i kl) (object i kr))
    own_told b i kl kr left right en d = passing_told (refined_row (side.Object b kl) (side.Object b kr)) (after_one test k size b i kl kr left right en) (test_holds flow.model memory (this_one test k size b i kl kr left right en)) (one_behind test k size b i kl kr left right en) d

    same_object_told : (x y : Side) → is_same_object x y ≡ true → NamesScalar flow x → NamesScalar flow y → IsDefined (asked x y) → IsExact l n flow (refined_row x y) no_violations (asked x y)
    same_object_told (side.Number z) y h f g d = absurd (true≢false (sym h))
    same_object_told side.Null y h f g d = absurd (true≢false (sym h))
    same_object_told (side.Object b kl) (side.Number z) h f g d = absurd (true≢false (sym h))
    same_object_told (side.Object b kl) side.Null h f g d = absurd (true≢false (sym h))
    same_object_told (side.Object b kl) (side.Object d kr) h f g def =
        let e : b ≡ d = eqb-true b d h in
        subst (λ z. NamesScalar flow (side.Object z kr) → IsDefined (asked (side.Object b kl) (side.Object z kr)) → IsExact l n flow (refined_row (side.Object b kl) (side.Object z kr)) no_violations (asked (side.Object b kl) (side.Object z kr))) e
        (λ right def. side_told (refined_row (side.Object b kl) (side.Object b kr)) (side.Object b kl) f (λ x. with_side s (side.Object b kr) (λ y. behind_test x y)) def (λ i one def.
        side_told (refined_row (side.Object b kl) (side.Object b kr)) (side.Object b kr) right (λ y. behind_test (object i kl) y) def (λ j two def.
        let same : i ≡ j = same_Some i j (sym one.1 ∙ two.1) in
        subst (λ z. IsDefined (behind_test (object i kl) (object z kr)) → IsExact l n flow (refined_row (side.Object b kl) (side.Object b kr)) no_violations (behind_test (object i kl) (object z kr))) same (own_told b i kl kr one.0 two.0 one.1) def))) g def

    sides_told : is_same_object test.left test.right ≡ false → NamesScalar flow test.left → NamesScalar flow test.right → IsDefined (asked test.left test.right) → IsExact l n flow (refined_row test.left test.right) no_violations (asked test.left test.right)
    sides_told apart f g d =
        side_told (refined_row test.left test.right) test.left f (λ x. with_side s test.right (λ y. behind_test x y)) d (λ i left d.
        side_told (refined_row test.left test.right) test.right g (λ y. behind_test (tested test.left i) y) d (λ j right d.
        passing_told (refined_row test.left test.right) (after test k size apart i j left right) (test_holds flow.model memory (this test k size apart i j left right)) (both_behind test k size apart i j left right) d))

  pub integer_test_told : (test : Test) → IsIntegerTest flow test → IsDefined (testing (flow_view flow) s (Some test)) → IsExact l n flow (refine l n flow test row) no_violations (testing (flow_view flow) s (Some test))
  unfolding refine
  integer_test_told test t = subst (λ z. IsDefined (with_side s test.left (λ left. with_side s test.right (λ right. in_world s (machine.pass_test flow.model (record { left = left; rel = test.rel; right = right; common = z }) s.world)))) → IsExact l n flow (refine_in l n flow test z row) no_violations (with_side s test.left (λ left. with_side s test.right (λ right. in_world s (machine.pass_test flow.model (record { left = left; rel = test.rel; right = right; common = z }) s.world))))) (sym t.is)
      (λ d. elim (cases_Bool (is_same_object test.left test.right)) [
        | inl same ↦ same_object_told test t.common t.size test.left test.right same t.left t.right d
        | inr apart ↦ sides_told test t.common t.size apart t.left t.right d
      ])
