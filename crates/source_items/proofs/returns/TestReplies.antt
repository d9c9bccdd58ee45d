-- A test or a case that a run passes changes the world alone.
use Rattle.std.proofs.Common.{ℤ, Bool, Option, Some, None}
use Rattle.c_layout.specs.CheckedUnits.{UnitView}
use Rattle.cfg.specs.declared.machine_instructions.Scalar as declared
use Rattle.cfg.specs.declared.machine_instructions.Scalar.TheVariants as of
use Rattle.lower_conditions.specs.declared.branch_tests.NamedObject.{NamedObject}
use Rattle.memory_model.specs.Effects.Tests.{TestedSide}
use Rattle.memory_model.specs.Effects.Worlds.{World, Reply}
use Rattle.semantics.specs.SourceMachine.Items as item
use Rattle.semantics.specs.SourceMachine.Items.{NamedSide, NamedTest}
use Rattle.semantics.specs.SourceMachine.LabelSearch as sought
use Rattle.semantics.specs.SourceMachine.LabelSearch.{Sought}
use Rattle.semantics.specs.SourceMachine.SourceStates.{State, with_world, instance_of}
use Rattle.semantics.specs.SourceMachine.BranchSteps.{in_world, with_side, testing, matching, on_case}
use Rattle.source_items.specs.Operations.GoingReplies.{IfGoes}
use Rattle.source_items.proofs.returns.Replies.{goes_on, goes_if_some}

-- what does not speak of the world
module _ (u : UnitView) (Q : State → Type 0) (s : State) (holds : (w : World) → Q (with_world s w)) where
  in_some_world : (reply : Reply (Unit {0})) → IfGoes Q (in_world s reply)
  in_some_world reply = goes_on Q reply _ (λ x w. holds w)

  with_some_side : (side : NamedSide) (use_it : TestedSide → Reply State) → ((t : TestedSide) → IfGoes Q (use_it t)) → IfGoes Q (with_side s side use_it)
  with_some_side (item.named o) use_it h = goes_if_some Q s (instance_of s.names o.object) _ (λ i is. h _)
  with_some_side (item.number n) use_it h = h _
  with_some_side item.nothing use_it h = h _

  pub test_goes : (test : Option NamedTest) (held : Bool) → IfGoes Q (testing u s test held)
  test_goes None held = holds s.world
  test_goes (Some t) held = with_some_side t.left _ (λ left. with_some_side t.right _ (λ right. in_some_world _))

  pub case_goes : (o : Option NamedObject) (l : Sought) (value : ℤ) → IfGoes Q (on_case u o l value s)
  case_goes None l value = holds s.world
  case_goes (Some o) (sought.label n) value = holds s.world
  case_goes (Some o) sought.other value = holds s.world
  case_goes (Some o) (sought.case n) value = by o.kind
    where
      by : (kind : declared.Scalar) → IfGoes Q (matching u s o kind value)
      by (of.Int kind) = goes_if_some Q s (instance_of s.names o.object) _ (λ i is. in_some_world _)
      by of.Pointer = holds s.world
