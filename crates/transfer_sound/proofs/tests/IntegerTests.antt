-- Tests on integers: of two sides, or of an object with itself.
use Rattle.std.proofs.Common.{Some, List, subst, sym, inl, inr}
use Rattle.std.specs.Prelude.{ℤ}
use Rattle.std.proofs.lemmas.Bool.{cases_Bool}
use Rattle.cc_base.specs.Lattices.{LatticeOf, OrderLaws}
use Rattle.cc_base.specs.IntegerDomains.{IntegersOf, BoundLaws}
use Rattle.cc_base.specs.IntegerLaws.{SoundLaws}
use Rattle.cfg.specs.declared.flow_edges.Test.{Test}
use Rattle.cfg.specs.declared.programs.Flow.{Flow}
use Rattle.value_domain.specs.declared.values.row_cells.Cell.{Cell}
use Rattle.transfer_system.specs.Refinements.{is_same_object, refine_in, refine}
use Rattle.transfer_checks.specs.ViolationSets.{no_violations}
use Rattle.memory_model.specs.Effects.Tests as machine
use Rattle.semantics.specs.CfgMachine.FlowStates.{ProgramState}
use Rattle.semantics.specs.CfgMachine.FlowEdges.{with_side, in_world, testing}
use Rattle.lower_templates.specs.Views.ProgramViews.{flow_view}
use Rattle.store_sound.specs.Concretization.ValueMeaning.{Naming}
use Rattle.store_sound.specs.Programs.Premises.{HasPremises}
use Rattle.transfer_sound.specs.Values.SoundSteps.{IsReached, IsStoodFor}
use Rattle.transfer_sound.specs.Tests.ScalarObjects.{IsIntegerTest}
use Rattle.transfer_sound.proofs.tests.TestSides.{side_good, sides_good}
use Rattle.transfer_sound.proofs.tests.SameObject.{same_object_good}

module _ {I : Type 0} {l : LatticeOf I} {n : IntegersOf I} {gamma : I → ℤ → Type 0} (o : OrderLaws l) (q : BoundLaws l n gamma) (c : SoundLaws l n gamma) (flow : Flow) (p : HasPremises flow) (naming : Naming) (row : List (Cell I)) (s : ProgramState) (r : IsReached l n gamma flow naming row s) where
  pub test_sound : (test : Test) → IsIntegerTest flow test → IsStoodFor l n gamma flow (refine l n flow test row) no_violations (testing (flow_view flow) s (Some test))
  unfolding refine
  test_sound test t = subst (λ z. IsStoodFor l n gamma flow (refine_in l n flow test z row) no_violations (with_side s test.left (λ left. with_side s test.right (λ right. in_world s (machine.pass_test flow.model (record { left = left; rel = test.rel; right = right; common = z }) s.world))))) (sym t.is)
      (elim (cases_Bool (is_same_object test.left test.right)) [
        | inl same ↦ same_object_good o q c flow p naming row s r test t.common t.size test.left test.right same t.left t.right
        | inr apart ↦ side_good flow s r.begun (refine_in l n flow test (Some t.common) row) test.left t.left _ (λ i left.
            side_good flow s r.begun (refine_in l n flow test (Some t.common) row) test.right t.right _ (λ j right.
            sides_good o q c flow p naming row s r test t.common t.size apart i j left right))
      ])
