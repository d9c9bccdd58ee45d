-- Jumps, branches and switches: they violate nothing, and stop nowhere but where no step is defined.
use Rattle.std.proofs.Common.{◌≡◌, ℕ, Bool, true, false, Option, Some, None, List, refl, sym, ap, ◌∙◌, inl, inr, ◌⊎◌}
use Rattle.std.specs.Prelude.{ℤ, pos, slice_get}
use Rattle.std.specs.List.{Contains}
use Rattle.cc_base.specs.Lattices.{LatticeOf}
use Rattle.cc_base.specs.IntegerDomains.{IntegersOf}
use Rattle.cc_base.specs.declared.diagnostics.Rule.{Rule}
use Rattle.cfg.specs.WellFormed.{On, leads}
use Rattle.cfg.specs.declared.flow_edges.EdgeKind.{EdgeKind}
use Rattle.cfg.specs.declared.flow_edges.Side.{Side}
use Rattle.cfg.specs.declared.flow_edges.Side.TheVariants as side
use Rattle.cfg.specs.declared.flow_edges.Test.{Test}
use Rattle.cfg.specs.declared.machine_instructions.Operation.{Operation}
use Rattle.cfg.specs.declared.machine_instructions.Operation.TheVariants as op
use Rattle.cfg.specs.declared.programs.Flow.{Flow}
use Rattle.value_domain.specs.declared.values.row_cells.Cell.{Cell}
use Rattle.transfer_checks.specs.ViolationSets.{violates}
use Rattle.transfer_instructions.specs.Instructions.StepViolations.{operation_violations}
use Rattle.memory_model.specs.Memory.Labels.{no_labels}
use Rattle.memory_model.specs.Memory.Scalars.{Scalar, integer, pointer}
use Rattle.memory_model.specs.Effects.Worlds.{World, Why, Stuck, Reply, goes, stops, behind}
use Rattle.memory_model.specs.Effects.Tests.{TestedSide, object, constant, nothing, passing}
use Rattle.lower_templates.specs.Worklist.Acts.{act}
use Rattle.lower_templates.specs.Worklist.Pieces.{Way, Always, When, Case, Other, NoLine, Line}
use Rattle.lower_templates.specs.Views.ProgramViews.{FlowView, EdgeView}
use Rattle.semantics.specs.CfgMachine.FlowStates.{ProgramState, if_some}
use Rattle.semantics.specs.CfgMachine.FlowEdges.{edge_taken, edges_of, with_side, in_world, testing, matching, on_way, along}
use Rattle.semantics.specs.CfgMachine.FlowSteps.{block_of, on_edge, switching, act_step}
use Rattle.transfer_sound.proofs.edges.TakenEdges.{FitsLead}
use Rattle.transfer_exact.proofs.values.Violated.{none_violated}
use Rattle.transfer_exact.specs.Edges.WayLaws.{FitsWay, IsWay}
use Rattle.transfer_exact.proofs.edges.EdgesExact.{lead_jump, lead_branch, lead_switch}

-- ---- violations, and edges

module _ {I : Type 0} (l : LatticeOf I) (n : IntegersOf I) (flow : Flow) (row : List (Cell I)) where
  pub way_violates : (o : Operation) → IsWay o → (rules : List Rule) (r : Rule) → violates (operation_violations l n flow row o) r ≡ true → Contains rules r
  unfolding operation_violations
  way_violates op.Jump h rules = none_violated rules
  way_violates (op.Branch temp kind) h rules = none_violated rules
  way_violates (op.Switch temp kind) h rules = none_violated rules
  way_violates _ h rules = absurd h

  pub stop_violates : (rules : List Rule) (r : Rule) → violates (operation_violations l n flow row op.Stop) r ≡ true → Contains rules r
  unfolding operation_violations
  stop_violates rules = none_violated rules

pub to_way : (o : Operation) → IsWay o → (k : EdgeKind) → FitsLead (leads o) k → FitsWay o k
to_way op.Jump h k f = lead_jump k f
to_way (op.Branch temp kind) h k f = lead_branch temp kind k f
to_way (op.Switch temp kind) h k f = lead_switch temp kind k f
to_way _ h k f = absurd h

-- ---- where they stop

abbrev StopsStuck : {A : Type 0} → Reply A → Type 0
StopsStuck {A} reply = (why : Why) (w : World) → reply ≡ stops why w → why ≡ Stuck

stuck_here : {A : Type 0} (u : World) → StopsStuck {A = A} (stops Stuck u)
stuck_here u why w e = cc

goes_here : {A : Type 0} (x : A) (u : World) → StopsStuck (goes x u)
goes_here x u why w e = cc

behind_stuck : {A B : Type 0} (reply : Reply A) (use_it : A → World → Reply B) → StopsStuck reply → ((x : A) (u : World) → StopsStuck (use_it x u)) → StopsStuck (behind reply use_it)
behind_stuck (goes x u) use_it h k why w e = k x u why w e
behind_stuck (stops y u) use_it h k why w e = let a : y ≡ why = cc in sym a ∙ h y u refl

some_stuck : {A B : Type 0} (s : ProgramState) (o : Option A) (use_it : A → Reply B) → ((x : A) → StopsStuck (use_it x)) → StopsStuck (if_some s o use_it)
some_stuck s None use_it h = stuck_here s.world
some_stuck s (Some x) use_it h = h x

side_stuck : (s : ProgramState) (x : Side) (use_it : TestedSide → Reply ProgramState) → ((y : TestedSide) → StopsStuck (use_it y)) → StopsStuck (with_side s x use_it)
side_stuck s (side.Object base kind) use_it h = some_stuck s (s.bases base) (λ i. use_it (object i kind)) (λ i. h (object i kind))
side_stuck s (side.Number z) use_it h = h (constant z)
side_stuck s side.Null use_it h = h nothing

passing_stuck : (b : Bool) (w : World) → StopsStuck (passing b w)
passing_stuck true w = goes_here tt w
passing_stuck false w = stuck_here w

module _ (f : FlowView) (s : ProgramState) where
  testing_stuck : (test : Option Test) → StopsStuck (testing f s test)
  testing_stuck None = goes_here s s.world
  testing_stuck (Some t) = side_stuck s t.left _ (λ left. side_stuck s t.right _ (λ right. behind_stuck _ _ (passing_stuck _ _) (λ x w. goes_here _ w)))

  matching_stuck : (value : ℤ) (base : Option ℕ) → StopsStuck (matching f s value base)
  matching_stuck value None = goes_here s s.world
  matching_stuck value (Some base) = some_stuck s (slice_get f.bases base) _ (λ b. some_stuck s (s.bases base) _ (λ i. behind_stuck _ _ (passing_stuck _ _) (λ x w. goes_here _ w)))

  on_way_stuck : (x : Way) → StopsStuck (on_way f s x)
  on_way_stuck Always = goes_here s s.world
  on_way_stuck (When truth test puts) = behind_stuck _ _ (testing_stuck test) (λ t w. goes_here _ w)
  on_way_stuck (Case test) = matching_stuck test.value test.object
  on_way_stuck (Other values) = goes_here s s.world
  on_way_stuck NoLine = goes_here s s.world
  on_way_stuck Line = goes_here s s.world

  along_stuck : (e : Option EdgeView) → StopsStuck (along f s e)
  along_stuck None = stuck_here s.world
  along_stuck (Some e) = behind_stuck _ _ (on_way_stuck e.taken) (λ t w. goes_here _ w)

  edge_stuck : (v : Scalar) → StopsStuck (on_edge f s v)
  edge_stuck v = along_stuck (edge_taken v (edges_of f (block_of f s.block)))

  switching_stuck : (v : Scalar) → StopsStuck (switching f s v)
  switching_stuck (integer z labels) = edge_stuck (integer z labels)
  switching_stuck (pointer p) = stuck_here s.world

  pub way_stuck : (o : Operation) → IsWay o → StopsStuck (act_step f (act o) s)
  way_stuck op.Jump h = edge_stuck (integer (pos 0) no_labels)
  way_stuck (op.Branch temp kind) h = some_stuck s (s.temps temp) (on_edge f s) edge_stuck
  way_stuck (op.Switch temp kind) h = some_stuck s (s.temps temp) (switching f s) switching_stuck
  way_stuck _ h = absurd h
