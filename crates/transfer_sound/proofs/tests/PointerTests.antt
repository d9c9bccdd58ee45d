-- Tests of pointers that refine nothing leave the row and memory as they were.
use Rattle.std.proofs.Common.{◌≡◌, Bool, true, false, Option, Some, None, List, subst, sym, ap}
use Rattle.std.specs.Prelude.{ℤ}
use Rattle.cc_base.specs.Lattices.{LatticeOf}
use Rattle.cc_base.specs.IntegerDomains.{IntegersOf}
use Rattle.cfg.specs.declared.flow_edges.Side.{Side}
use Rattle.cfg.specs.declared.flow_edges.Side.TheVariants as side
use Rattle.cfg.specs.declared.flow_edges.Test.{Test}
use Rattle.cfg.specs.declared.programs.Flow.{Flow}
use Rattle.value_domain.specs.declared.values.row_cells.Cell.{Cell}
use Rattle.transfer_system.specs.Refinements.{refine_named, refine_in, refine}
use Rattle.transfer_checks.specs.ViolationSets.{no_violations}
use Rattle.memory_model.specs.Effects.Tests as machine
use Rattle.memory_model.specs.Effects.Tests.{TestedSide, SideTest, object, constant, nothing, test_holds, passing}
use Rattle.memory_model.specs.Effects.Worlds.{World, Reply, Stuck, with_memory}
use Rattle.semantics.specs.CfgMachine.FlowStates.{ProgramState}
use Rattle.semantics.specs.CfgMachine.FlowEdges.{with_side, in_world, testing}
use Rattle.lower_templates.specs.Views.ProgramViews.{flow_view}
use Rattle.store_sound.specs.Concretization.ValueMeaning.{Naming}
use Rattle.transfer_sound.specs.Values.SoundSteps.{IsReached, IsStoodFor}
use Rattle.transfer_sound.proofs.values.Replies.{clean_stop_good, if_some_good, clean_goes_good}
use Rattle.transfer_sound.specs.Tests.ScalarObjects.{IsPointerTest}

module _ {I : Type 0} {l : LatticeOf I} {n : IntegersOf I} {gamma : I → ℤ → Type 0} (flow : Flow) (naming : Naming) (row : List (Cell I)) (s : ProgramState) (r : IsReached l n gamma flow naming row s) where
  any_side_good : (after : Option (List (Cell I))) (x : Side) (use_it : TestedSide → Reply ProgramState) → ((ts : TestedSide) → IsStoodFor l n gamma flow after no_violations (use_it ts)) → IsStoodFor l n gamma flow after no_violations (with_side s x use_it)
  any_side_good after (side.Object b kind) use_it h = if_some_good l n gamma flow after no_violations s r.begun (s.bases b) (λ i. use_it (object i kind)) (λ i e. h (object i kind))
  any_side_good after (side.Number z) use_it h = h (constant z)
  any_side_good after side.Null use_it h = h nothing

  stays_good : (after : Option (List (Cell I))) → after ≡ Some row → (c : Bool) → IsStoodFor l n gamma flow after no_violations (in_world s (passing c (with_memory s.world s.world.memory)))
  stays_good after is false = clean_stop_good l n gamma flow after no_violations Stuck (with_memory s.world s.world.memory) r.begun
  stays_good after is true = let new : World = with_memory s.world s.world.memory in
      let now : ProgramState = record s { world = new } in
      clean_goes_good l n gamma flow _ _ now new r.begun (record { row = row; is = is; long = r.long; naming = naming; stands_for = r.stands_for; short = r.short })

  pub pointer_test_sound : (test : Test) → IsPointerTest test → IsStoodFor l n gamma flow (refine l n flow test row) no_violations (testing (flow_view flow) s (Some test))
  unfolding refine refine_named
  pointer_test_sound test t =
      let is : refine_in l n flow test None row ≡ Some row = ap (λ z. Some (refine_named l n flow z test.rel row)) t.plain in
      subst (λ z. IsStoodFor l n gamma flow (refine_in l n flow test z row) no_violations (with_side s test.left (λ left. with_side s test.right (λ right. in_world s (machine.pass_test flow.model (record { left = left; rel = test.rel; right = right; common = z }) s.world))))) (sym t.is)
      (any_side_good (refine_in l n flow test None row) test.left _ (λ left.
      any_side_good (refine_in l n flow test None row) test.right _ (λ right.
      stays_good (refine_in l n flow test None row) is (test_holds flow.model s.world.memory (record { left = left; rel = test.rel; right = right; common = None })))))
