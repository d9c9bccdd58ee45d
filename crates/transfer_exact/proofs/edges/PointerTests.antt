-- Tests of pointers that refine nothing are told: they leave the row and memory as they were.
use Rattle.std.proofs.Common.{◌≡◌, Bool, true, false, Option, Some, None, List, subst, sym, refl, ap}
use Rattle.cc_base.specs.Lattices.{LatticeOf}
use Rattle.cc_base.specs.IntegerDomains.{IntegersOf}
use Rattle.cc_base.specs.declared.int_types.IntType.{IntType}
use Rattle.cfg.specs.declared.flow_edges.Side.{Side}
use Rattle.cfg.specs.declared.flow_edges.Side.TheVariants as side
use Rattle.cfg.specs.declared.flow_edges.Test.{Test}
use Rattle.cfg.specs.declared.programs.Flow.{Flow}
use Rattle.value_domain.specs.declared.values.row_cells.Cell.{Cell}
use Rattle.transfer_edges.specs.Refinements.{refine_named, refine_in, refine}
use Rattle.transfer_checks.specs.ViolationSets.{no_violations}
use Rattle.memory_model.specs.Effects.Tests as machine
use Rattle.memory_model.specs.Effects.Tests.{TestedSide, object, constant, nothing, test_holds, passing}
use Rattle.memory_model.specs.Effects.Worlds.{World, Reply, with_memory}
use Rattle.semantics.specs.CfgMachine.FlowStates.{ProgramState}
use Rattle.semantics.specs.CfgMachine.FlowEdges.{with_side, in_world, testing}
use Rattle.lower_templates.specs.Views.ProgramViews.{flow_view}
use Rattle.store_sound.specs.Concretization.Coverage.{state_of}
use Rattle.transfer_sound.specs.Tests.ScalarObjects.{IsPointerTest}
use Rattle.transfer_exact.specs.Values.SingleRows.{ExactState}
use Rattle.transfer_exact.specs.Values.SingleSteps.{IsDefined, IsExact}
use Rattle.transfer_exact.proofs.values.Told.{if_some_told, clean_goes_told}

module _ {I : Type 0} (l : LatticeOf I) (n : IntegersOf I) (flow : Flow) (row : List (Cell I)) (s : ProgramState) (t : ExactState l n flow row (state_of s)) where
  any_side_told : (after : Option (List (Cell I))) (x : Side) (use_it : TestedSide → Reply ProgramState) → IsDefined (with_side s x use_it) → ((ts : TestedSide) → IsDefined (use_it ts) → IsExact l n flow after no_violations (use_it ts)) → IsExact l n flow after no_violations (with_side s x use_it)
  any_side_told after (side.Object b kind) use_it d h = if_some_told l n flow after no_violations s (s.bases b) (λ i. use_it (object i kind)) d (λ i e d. h (object i kind) d)
  any_side_told after (side.Number z) use_it d h = h (constant z) d
  any_side_told after side.Null use_it d h = h nothing d

  stays_told : (after : Option (List (Cell I))) → after ≡ Some row → (c : Bool) → IsDefined (in_world s (passing c (with_memory s.world s.world.memory))) → IsExact l n flow after no_violations (in_world s (passing c (with_memory s.world s.world.memory)))
  stays_told after is false d = absurd (d (with_memory s.world s.world.memory) refl)
  stays_told after is true d = let new : World = with_memory s.world s.world.memory in
      let now : ProgramState = record s { world = new } in
      clean_goes_told l n flow _ now new (record { row = row; is = is; tells = t })

  -- the run goes on where the test in a common type, or in none, agrees with memory
  abbrev asked : Test → Option IntType → Reply ProgramState
  asked test z = with_side s test.left (λ left. with_side s test.right (λ right. in_world s (machine.pass_test flow.model (record { left = left; rel = test.rel; right = right; common = z }) s.world)))

  pub pointer_test_told : (test : Test) → IsPointerTest test → IsDefined (testing (flow_view flow) s (Some test)) → IsExact l n flow (refine l n flow test row) no_violations (testing (flow_view flow) s (Some test))
  unfolding refine refine_named
  pointer_test_told test h d =
      let is : refine_in l n flow test None row ≡ Some row = ap (λ z. Some (refine_named l n flow z test.rel row)) h.plain in
      subst (λ z. IsExact l n flow (refine_in l n flow test z row) no_violations (asked test z)) (sym h.is)
      (any_side_told (refine_in l n flow test None row) test.left _ (subst (λ z. IsDefined (asked test z)) h.is d) (λ left d.
      any_side_told (refine_in l n flow test None row) test.right _ d (λ right d.
      stays_told (refine_in l n flow test None row) is (test_holds flow.model s.world.memory (record { left = left; rel = test.rel; right = right; common = None })) d)))
