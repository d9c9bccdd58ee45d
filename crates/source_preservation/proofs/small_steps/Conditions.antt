-- Conditions choose by their value, and a test that it decides agrees with memory.
use Rattle.std.proofs.Common.{◌≡◌, Bool, true, false, not, cond, List, [], ◌∷◌, ◌++◌, Some, None, refl, ap, sym, subst, ◌∙◌}
use Rattle.cc_base.specs.declared.diagnostics.Place.{Place}
use Rattle.c_layout.specs.CheckedUnits.{UnitView}
use Rattle.memory_model.specs.Memory.Scalars.{Scalar, integer, pointer, is_false}
use Rattle.memory_model.specs.Effects.Worlds.{World, Reply, behind, with_memory}
use Rattle.memory_model.specs.Effects.LibraryCalls.{fgets}
use Rattle.memory_model.specs.Effects.Tests.{TestedSide, object, SideTest, test_holds, after_test, passing}
use Rattle.semantics.specs.SourceMachine.Items as item
use Rattle.semantics.specs.SourceMachine.Items.{NamedSide, NamedTest, Items, listed}
use Rattle.semantics.specs.SourceMachine.SourceStates.{State, with_world, first_do, if_some}
use Rattle.semantics.specs.SourceMachine.ObjectSteps.{on}
use Rattle.semantics.specs.SourceMachine.BranchSteps.{in_world, with_side, relation_on, testing, choose_by, choose, read_line}
use Rattle.source_items.specs.StackKinds.KindedItems.{called_by}
use Rattle.source_preservation.specs.ValueTyping.Marks.{Mark, Ranged, Exactly, Pointing, IsSide, Agrees, Has, AreWellTyped}
use Rattle.source_preservation.specs.ValueTyping.ProperMemory.{Evolves}
use Rattle.source_preservation.specs.ValueTyping.MarkLaws.{Comes, LinesKeepMarks}
use Rattle.source_preservation.specs.WellTyped.ExactTerms.{is_true}
use Rattle.source_preservation.specs.WellTyped.WellTypedItems.{may_hold, may_fail, AllDo}
use Rattle.source_preservation.specs.WellTyped.WellTypedStates.{Runs}
use Rattle.source_preservation.specs.SmallSteps.KeptMarks.{RunsOn}
use Rattle.source_preservation.proofs.memory.Objects.{after_test_evolves}
use Rattle.source_items.proofs.stack_kinds.ItemWalks.{listed_does}
use Rattle.source_preservation.proofs.items.Leading.{marks}
use Rattle.source_preservation.proofs.tests.DecidedTests.{decided}
use Rattle.source_preservation.proofs.small_steps.Replies.{comes_behind}
use Rattle.source_preservation.proofs.small_steps.Keeping.{stables_kept, room_kept, Newest, newest}
use Rattle.source_preservation.proofs.small_steps.Changes.{RunsAt, revalued, renewed}

-- ---- the way of a number that is known

module _ (u : UnitView) (s : State) where
  true_way : (k : Mark) (v : Scalar) → Has u.model s.names s.world.memory k v → not (is_false v) ≡ true → may_hold k ≡ true
  true_way (Exactly n) (integer l labels) has is = ap is_true (sym has) ∙ is
  true_way (Exactly n) (pointer p) has is = absurd has
  true_way k v has is = refl

  false_way : (k : Mark) (v : Scalar) → Has u.model s.names s.world.memory k v → not (is_false v) ≡ false → may_fail k ≡ true
  false_way (Exactly n) (integer l labels) has is = ap (λ n. not (is_true n)) (sym has) ∙ ap not is
  false_way (Exactly n) (pointer p) has is = absurd has
  false_way k v has is = refl

-- ---- tests

module _ (u : UnitView) (s : State) where
  sided : (side : NamedSide) (t : TestedSide) (use_it : TestedSide → Reply State) → IsSide u.model s.names s.world.memory side t → with_side s side use_it ≡ use_it t
  sided (item.named o) t use_it is = ap (λ found. if_some s found (λ i. use_it (object i o.kind))) is.1 ∙ ap use_it (sym is.2)
  sided (item.number n) t use_it is = ap use_it (sym is)
  sided item.nothing t use_it is = ap use_it (sym is)

  -- the test of a condition on one of its ways, and the world behind it
  abbrev test_on : NamedTest → Bool → TestedSide → TestedSide → SideTest
  test_on test held left right = record { left = left; rel = relation_on held test.rel; right = right; common = test.common }

  abbrev behind_test : SideTest → World
  behind_test t = with_memory s.world (after_test u.model t.common t s.world.memory)

  passes : (test : NamedTest) (held : Bool) (left right : TestedSide) → IsSide u.model s.names s.world.memory test.left left → IsSide u.model s.names s.world.memory test.right right → test_holds u.model s.world.memory (test_on test held left right) ≡ true → testing u s (Some test) held ≡ on (with_world s (behind_test (test_on test held left right)))
  passes test held left right is_left is_right holds =
      sided test.left left _ is_left
      ∙ sided test.right right _ is_right
      ∙ ap (λ b. in_world s (passing b (behind_test (test_on test held left right)))) holds

-- ---- conditions

module _ (u : UnitView) (at : Place) (held failed : Items) (s : State) where
  chosen_plainly : (r : RunsAt u (item.Choose at None held failed) s) (n : Newest u.model s.names s.world.memory r.goes.does.1.0 r.goes.does.1.1 r.own) (b : Bool) → not (is_false n.value) ≡ b → Comes (RunsOn u) (choose_by u None b held failed (record s { values = n.others ++ r.rest }))
  chosen_plainly r n true is = revalued u (item.Choose at None held failed ∷ s.control) s r (listed held ++ s.control) (n.others ++ r.rest) (record {
    marks = r.goes.does.1.1;
    own = n.others;
    is = refl;
    are = n.are;
    does = listed_does (marks u r.goes.function (called_by s.frames)) held s.control r.goes.does.1.1 r.goes.does.0 r.left (r.goes.does.1.3 (true_way u s r.goes.does.1.0 n.value n.has is)) r.goes.does.2;
  })
  chosen_plainly r n false is = revalued u (item.Choose at None held failed ∷ s.control) s r (listed failed ++ s.control) (n.others ++ r.rest) (record {
    marks = r.goes.does.1.1;
    own = n.others;
    is = refl;
    are = n.are;
    does = listed_does (marks u r.goes.function (called_by s.frames)) failed s.control r.goes.does.1.1 r.goes.does.0 r.left (r.goes.does.1.4 (false_way u s r.goes.does.1.0 n.value n.has is)) r.goes.does.2;
  })

  pub chosen : RunsAt u (item.Choose at None held failed) s → Comes (RunsOn u) (choose u None held failed s s.values)
  chosen r =
      let n : Newest u.model s.names s.world.memory r.goes.does.1.0 r.goes.does.1.1 r.own = newest u.model s.names s.world.memory r.goes.does.1.0 r.goes.does.1.1 r.marks r.own r.goes.does.1.2 r.are in
      subst (λ vs. Comes (RunsOn u) (choose u None held failed s vs)) (sym (r.values ∙ ap (λ vs. vs ++ r.rest) n.is)) (chosen_plainly r n (not (is_false n.value)) refl)

  module _ (test : NamedTest) (r : RunsAt u (item.Choose at (Some test) held failed) s) (n : Newest u.model s.names s.world.memory r.goes.does.1.0 r.goes.does.1.1 r.own) where
    -- behind a test that agrees with memory, on the way of some items
    on_way : (items : Items) (w : World) → Evolves u.model s.world.memory w.memory → AllDo u r.goes.function (called_by s.frames) items s.control r.goes.does.1.1 r.goes.does.0 → Runs u (record s { control = listed items ++ s.control; values = n.others ++ r.rest; world = w })
    on_way items w evolves all = renewed u (item.Choose at (Some test) held failed ∷ s.control) s r s.names (listed items ++ s.control) (n.others ++ r.rest) w evolves (room_kept u s.world.memory w.memory evolves.grows r.goes.function s.names r.goes.room) (record {
      marks = r.goes.does.1.1;
      own = n.others;
      is = refl;
      are = stables_kept u.model s.names s.world.memory w.memory r.goes.does.1.1 n.others evolves.grows r.goes.does.1.4 n.are;
      does = listed_does (marks u r.goes.function (called_by s.frames)) items s.control r.goes.does.1.1 r.goes.does.0 r.left all r.goes.does.2;
    })

    abbrev rest_state : State
    rest_state = record s { values = n.others ++ r.rest }

    chosen_tested : (left right : TestedSide) → IsSide u.model s.names s.world.memory test.left left → IsSide u.model s.names s.world.memory test.right right → (b : Bool) → test_holds u.model s.world.memory (test_on u s test b left right) ≡ true → Comes (RunsOn u) (choose_by u (Some test) b held failed rest_state)
    chosen_tested left right is_left is_right true holds = subst (λ reply. Comes (RunsOn u) (behind reply (λ s w. on (first_do (listed held) s)))) (sym (passes u rest_state test true left right is_left is_right holds)) (on_way held (behind_test u s (test_on u s test true left right)) (after_test_evolves u.model test.common (test_on u s test true left right) s.world.memory) r.goes.does.1.5)
    chosen_tested left right is_left is_right false holds = subst (λ reply. Comes (RunsOn u) (behind reply (λ s w. on (first_do (listed failed) s)))) (sym (passes u rest_state test false left right is_left is_right holds)) (on_way failed (behind_test u s (test_on u s test false left right)) (after_test_evolves u.model test.common (test_on u s test false left right) s.world.memory) r.goes.does.1.6)

    chosen_by : Comes (RunsOn u) (choose_by u (Some test) (not (is_false n.value)) held failed rest_state)
    chosen_by =
        let a : Agrees u.model s.names s.world.memory test n.value = decided u s.names s.world.memory r.goes.does.1.0 test n.value r.proper r.goes.does.1.3 n.has in
        chosen_tested a.left a.right a.is_left a.is_right (not (is_false n.value)) a.holds

  pub chosen_by_test : (test : NamedTest) → RunsAt u (item.Choose at (Some test) held failed) s → Comes (RunsOn u) (choose u (Some test) held failed s s.values)
  chosen_by_test test r =
      let n : Newest u.model s.names s.world.memory r.goes.does.1.0 r.goes.does.1.1 r.own = newest u.model s.names s.world.memory r.goes.does.1.0 r.goes.does.1.1 r.marks r.own r.goes.does.1.2 r.are in
      subst (λ vs. Comes (RunsOn u) (choose u (Some test) held failed s vs)) (sym (r.values ∙ ap (λ vs. vs ++ r.rest) n.is)) (chosen_by test r n)

-- ---- lines

module _ (u : UnitView) (lines : LinesKeepMarks) (at : Place) (none some : Items) (s : State) (r : RunsAt u (item.ReadLine at none some) s) where
  abbrev below : List Mark
  below = r.goes.does.1.1

  line_way : (items : Items) (others : List Scalar) (w : World) → AreWellTyped u.model s.names s.world.memory below others → Evolves u.model s.world.memory w.memory → AllDo u r.goes.function (called_by s.frames) items s.control below r.goes.does.0 → Runs u (record s { control = listed items ++ s.control; values = others ++ r.rest; world = w })
  line_way items others w are evolves all = renewed u (item.ReadLine at none some ∷ s.control) s r s.names (listed items ++ s.control) (others ++ r.rest) w evolves (room_kept u s.world.memory w.memory evolves.grows r.goes.function s.names r.goes.room) (record {
    marks = below;
    own = others;
    is = refl;
    are = stables_kept u.model s.names s.world.memory w.memory below others evolves.grows r.goes.does.1.3 are;
    does = listed_does (marks u r.goes.function (called_by s.frames)) items s.control below r.goes.does.0 r.left all r.goes.does.2;
  })

  line_by : (others : List Scalar) (w : World) → AreWellTyped u.model s.names s.world.memory below others → Evolves u.model s.world.memory w.memory → (b : Bool) → Runs u (record s { control = listed (cond b none some) ++ s.control; values = others ++ r.rest; world = w })
  line_by others w are evolves true = line_way none others w are evolves r.goes.does.1.4
  line_by others w are evolves false = line_way some others w are evolves r.goes.does.1.5

  pub line_chosen : Comes (RunsOn u) (read_line u none some s s.values)
  line_chosen =
      let stream : Newest u.model s.names s.world.memory Pointing (Ranged r.goes.does.1.0 ∷ (Pointing ∷ below)) r.own = newest u.model s.names s.world.memory Pointing (Ranged r.goes.does.1.0 ∷ (Pointing ∷ below)) r.marks r.own r.goes.does.1.2 r.are in
      let count : Newest u.model s.names s.world.memory (Ranged r.goes.does.1.0) (Pointing ∷ below) stream.others = newest u.model s.names s.world.memory (Ranged r.goes.does.1.0) (Pointing ∷ below) _ stream.others refl stream.are in
      let text : Newest u.model s.names s.world.memory Pointing below count.others = newest u.model s.names s.world.memory Pointing below _ count.others refl count.are in
      let all : s.values ≡ stream.value ∷ (count.value ∷ (text.value ∷ (text.others ++ r.rest))) = r.values ∙ ap (λ vs. vs ++ r.rest) (stream.is ∙ ap (λ vs. stream.value ∷ vs) (count.is ∙ ap (λ vs. count.value ∷ vs) text.is)) in
      let given : Comes (λ v w. Has u.model s.names w.memory Pointing v × Evolves u.model s.world.memory w.memory) (fgets u.model (text.value ∷ (count.value ∷ (stream.value ∷ []))) s.world) = lines u s.names r.goes.does.1.0 text.value count.value stream.value s.world r.proper text.has count.has stream.has in
      subst (λ vs. Comes (RunsOn u) (read_line u none some s vs)) (sym all) (comes_behind (RunsOn u) (λ v w. Has u.model s.names w.memory Pointing v × Evolves u.model s.world.memory w.memory) (fgets u.model (text.value ∷ (count.value ∷ (stream.value ∷ []))) s.world) _ given (λ v w read. line_by text.others w text.are read.1 (is_false v)))
