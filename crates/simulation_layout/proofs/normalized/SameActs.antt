-- What an instruction does depends neither on the pieces that follow it nor on the functions that wait.
use Rattle.std.proofs.Common.{◌≡◌, ℕ, ℤ, List, [], ◌∷◌, Option, Some, None, slice_get, refl, ap, sym, ◌∙◌}
use Rattle.c_layout.specs.CheckedUnits.{UnitView}
use Rattle.c_layout.specs.Types.{Ty}
use Rattle.c_layout.specs.declared.checked_tree.checked_terms.ObjectRef.TheVariants as object
use Rattle.cc_base.specs.declared.int_types.IntType.{IntType}
use Rattle.cfg.specs.declared.flow_edges.Side.{Side}
use Rattle.cfg.specs.declared.flow_edges.Side.TheVariants as side
use Rattle.cfg.specs.declared.flow_edges.Test.{Test}
use Rattle.memory_model.specs.Memory.Scalars.{Scalar}
use Rattle.memory_model.specs.Effects.Tests as tests
use Rattle.memory_model.specs.Effects.Tests.{TestedSide, pass_test, pass_case}
use Rattle.memory_model.specs.Effects.Worlds.{Reply, goes, stops, behind}
use Rattle.lower_templates.specs.Worklist.Acts as act
use Rattle.lower_templates.specs.Worklist.Acts.{Act}
use Rattle.lower_templates.specs.Worklist.Pieces.{NameView, Local, Outcome, Static, Literal, Allocation, Way, When, Case, PieceView, TemplateView}
use Rattle.lower_templates.specs.Worklist.TermKinds.{integer_type}
use Rattle.semantics.specs.CfgMachine.FlowStates as flow
use Rattle.semantics.specs.CfgMachine.FlowActs as flow_acts
use Rattle.semantics.specs.SourceMachine.Items.{Forget, Clear, Spell}
use Rattle.semantics.specs.SourceMachine.SourceStates.{State, type_of}
use Rattle.semantics.specs.SourceMachine.ObjectSteps as source
use Rattle.semantics.specs.TemplateMachine.TemplateStates.{Frame, TemplateState, if_some, on, with_name, with_instance, local_of, object_of, instance_named, scene}
use Rattle.semantics.specs.TemplateMachine.TemplateActs.{no_program, in_flow, from_flow, operated, taken, pointed, addressed, from_scene, on_local, perform}
use Rattle.semantics.specs.TemplateMachine.TemplateExits.{with_side, in_world, testing, with_kind, typed_object, matching, with_put, on_way}
use Rattle.simulation_layout.specs.Normalized.NormalizedRuns.{templates}

-- other pieces to come, and other functions that wait
abbrev pub with_stack : List PieceView → List Frame → TemplateState → TemplateState
with_stack rest frames s = record s { rest = rest; frames = frames }

-- what a step has changed, in another state
abbrev pub changed_in : TemplateState → TemplateState → TemplateState
changed_in s r = record s { temps = r.temps; names = r.names; world = r.world }

abbrev pub over : (TemplateState → TemplateState) → Reply TemplateState → Reply TemplateState
over f (goes r w) = goes (f r) w
over f (stops why w) = stops why w

module _ (u : UnitView) (of others : ℕ → TemplateView) (s : TemplateState) (rest : List PieceView) (frames : List Frame) (same : (of s.function).names ≡ (others s.function).names) where
  abbrev other : TemplateState
  other = with_stack rest frames s

  abbrev Alike : Reply TemplateState → Reply TemplateState → Type 0
  Alike x y = y ≡ over (changed_in other) x

  -- ---- what is there

  if_there : {A : Type 0} (o : Option A) (use_it use_too : A → Reply TemplateState) → ((x : A) → Alike (use_it x) (use_too x)) → Alike (if_some s o use_it) (if_some other o use_too)
  if_there None use_it use_too alike = refl
  if_there (Some x) use_it use_too alike = alike x

  named : (base : ℕ) (use_it use_too : NameView → Reply TemplateState) → ((x : NameView) → Alike (use_it x) (use_too x)) → Alike (with_name (templates u of) s base use_it) (with_name (templates u others) other base use_too)
  named base use_it use_too alike = ap (λ ns. if_some other (slice_get ns base) use_too) (sym same) ∙ if_there (slice_get (of s.function).names base) use_it use_too alike

  -- ---- acts

  operated_alike : (a : Act) → Alike (operated (templates u of) s a) (operated (templates u others) other a)
  operated_alike a = by (flow_acts.perform (no_program u) a (in_flow s))
    where
      by : (x : Reply flow.ProgramState) → Alike (behind x (from_flow s)) (behind x (from_flow other))
      by (goes f w) = refl
      by (stops why w) = refl

  pointed_alike : (to : ℕ) (x : Reply State) → Alike (behind x (pointed s to)) (behind x (pointed other to))
  pointed_alike to (stops why w) = refl
  pointed_alike to (goes made w) = by made.values
    where
      by : (vs : List Scalar) → Alike (taken s to vs w) (taken other to vs w)
      by [] = refl
      by (v ∷ vs) = refl

  addressed_alike : (to offset : ℕ) (name : NameView) → Alike (addressed (templates u of) s to offset name) (addressed (templates u others) other to offset name)
  addressed_alike to offset (Literal n) = pointed_alike to (source.point_to_literal u (scene s) n)
  addressed_alike to offset (Local n) = pointed_alike to (source.point_to u (scene s) (object.Local n) offset)
  addressed_alike to offset Outcome = if_there (object_of (templates u of) s Outcome) _ _ (λ o. pointed_alike to (source.point_to u (scene s) o offset))
  addressed_alike to offset (Static n) = pointed_alike to (source.point_to u (scene s) (object.Static n) offset)
  addressed_alike to offset (Allocation target) = refl

  scene_alike : (x : Reply State) → Alike (behind x (from_scene s)) (behind x (from_scene other))
  scene_alike (goes made w) = refl
  scene_alike (stops why w) = refl

  local_alike : (base : ℕ) (effect : ℕ → Reply State) → Alike (on_local (templates u of) s base effect) (on_local (templates u others) other base effect)
  local_alike base effect = named base _ _ (λ name. if_there (local_of (templates u of) s name) _ _ (λ n. scene_alike (effect n)))

  pub same_act : (a : Act) → Alike (perform (templates u of) a s) (perform (templates u others) a other)
  same_act (act.Address to base offset) = named base _ _ (addressed_alike to offset)
  same_act (act.Enter base) = local_alike base (source.enter u (scene s))
  same_act (act.Leave base) = local_alike base (source.leave (scene s))
  same_act (act.Forget base) = local_alike base (λ n. source.change (scene s) n Forget)
  same_act (act.Clear base) = local_alike base (λ n. source.change (scene s) n Clear)
  same_act (act.Spell base offset room text) = local_alike base (λ n. source.change (scene s) n (Spell offset room text))
  same_act a = operated_alike a

  -- ---- edges

  instance_alike : (base : ℕ) (use_it use_too : ℕ → Reply TemplateState) → ((i : ℕ) → Alike (use_it i) (use_too i)) → Alike (with_instance (templates u of) s base use_it) (with_instance (templates u others) other base use_too)
  instance_alike base use_it use_too alike = named base _ _ (λ name. by name)
    where
      by : (name : NameView) → Alike (if_some s (instance_named (templates u of) s name) use_it) (if_some other (instance_named (templates u others) other name) use_too)
      by (Local n) = if_there (instance_named (templates u of) s (Local n)) use_it use_too alike
      by Outcome = if_there (instance_named (templates u of) s Outcome) use_it use_too alike
      by (Static n) = if_there (instance_named (templates u of) s (Static n)) use_it use_too alike
      by (Literal n) = if_there (instance_named (templates u of) s (Literal n)) use_it use_too alike
      by (Allocation target) = refl

  side_alike : (x : Side) (use_it use_too : TestedSide → Reply TemplateState) → ((t : TestedSide) → Alike (use_it t) (use_too t)) → Alike (with_side (templates u of) s x use_it) (with_side (templates u others) other x use_too)
  side_alike (side.Object base kind) use_it use_too alike = instance_alike base _ _ (λ i. alike (tests.object i kind))
  side_alike (side.Number n) use_it use_too alike = alike (tests.constant n)
  side_alike side.Null use_it use_too alike = alike tests.nothing

  passed_alike : (x : Reply (Unit {0})) → Alike (in_world s x) (in_world other x)
  passed_alike (goes x w) = refl
  passed_alike (stops why w) = refl

  testing_alike : (test : Option Test) → Alike (testing (templates u of) s test) (testing (templates u others) other test)
  testing_alike None = refl
  testing_alike (Some t) = side_alike t.left _ _ (λ left. side_alike t.right _ _ (λ right. passed_alike (pass_test u.model (record { left = left; rel = t.rel; right = right; common = t.common }) s.world)))

  kind_alike : (found : Option Ty) (use_it use_too : IntType → Reply TemplateState) → ((k : IntType) → Alike (use_it k) (use_too k)) → Alike (with_kind (templates u of) s found use_it) (with_kind (templates u others) other found use_too)
  kind_alike found use_it use_too alike = if_there found _ _ (λ ctype. alike (integer_type ctype))

  typed_alike : (name : NameView) (use_it use_too : IntType → Reply TemplateState) → ((k : IntType) → Alike (use_it k) (use_too k)) → Alike (typed_object (templates u of) s name use_it) (typed_object (templates u others) other name use_too)
  typed_alike (Local n) use_it use_too alike = kind_alike (type_of u (scene s) (object.Local n)) use_it use_too alike
  typed_alike Outcome use_it use_too alike = if_there (object_of (templates u of) s Outcome) _ _ (λ o. kind_alike (type_of u (scene s) o) use_it use_too alike)
  typed_alike (Static n) use_it use_too alike = kind_alike (type_of u (scene s) (object.Static n)) use_it use_too alike
  typed_alike (Literal n) use_it use_too alike = refl
  typed_alike (Allocation target) use_it use_too alike = refl

  matching_alike : (value : ℤ) (object : Option ℕ) → Alike (matching (templates u of) s value object) (matching (templates u others) other value object)
  matching_alike value None = refl
  matching_alike value (Some base) = instance_alike base _ _ (λ i. named base _ _ (λ name. typed_alike name _ _ (λ kind. passed_alike (pass_case u.model i kind value s.world))))

  put_alike : (puts : Option (ℕ × ℤ)) (x : Reply TemplateState) → Alike (behind x (λ r w. on (with_put puts r))) (behind (over (changed_in other) x) (λ r w. on (with_put puts r)))
  put_alike puts (stops why w) = refl
  put_alike None (goes r w) = refl
  put_alike (Some p) (goes r w) = refl

  pub same_way : (way : Way) → Alike (on_way (templates u of) s way) (on_way (templates u others) other way)
  same_way (When truth test puts) = ap (λ x. behind x (λ r w. on (with_put puts r))) (testing_alike test) ∙ put_alike puts (testing (templates u of) s test)
  same_way (Case test) = matching_alike test.value test.object
  same_way other = refl
