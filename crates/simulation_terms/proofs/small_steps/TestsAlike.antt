-- A test says the same of memory in both machines.
use Rattle.std.proofs.Common.{◌≡◌, ℕ, ℤ, true, false, Option, Some, None, slice_get, refl, ap, sym, subst, ◌∙◌}
use Rattle.cc_base.specs.declared.int_types.IntType.{IntType}
use Rattle.c_layout.specs.Types.{Ty}
use Rattle.c_layout.specs.declared.checked_tree.checked_terms.ObjectRef.{ObjectRef}
use Rattle.c_layout.specs.declared.checked_tree.checked_terms.ObjectRef.TheVariants as object
use Rattle.cfg.specs.declared.flow_edges.Side.{Side}
use Rattle.cfg.specs.declared.flow_edges.Test.{Test}
use Rattle.cfg.specs.declared.machine_instructions.Scalar as declared
use Rattle.lower_templates.specs.Worklist.Pieces.{Way}
use Rattle.lower_templates.specs.Worklist.Plans.{name_of_object}
use Rattle.lower_templates.specs.Worklist.TermKinds.{integer_type}
use Rattle.lower_conditions.specs.declared.branch_tests.NamedObject.{NamedObject}
use Rattle.memory_model.specs.Effects.Tests as tests
use Rattle.memory_model.specs.Effects.Tests.{TestedSide, pass_test, pass_case}
use Rattle.memory_model.specs.Effects.Worlds.{World, Why, Stuck, Reply, goes, stops}
use Rattle.semantics.specs.SourceMachine.Items.{NamedSide, NamedTest}
use Rattle.semantics.specs.SourceMachine.LabelSearch as sought
use Rattle.semantics.specs.SourceMachine.LabelSearch.{Sought}
use Rattle.semantics.specs.SourceMachine.SourceStates as states
use Rattle.semantics.specs.SourceMachine.SourceStates.{State, instance_of}
use Rattle.semantics.specs.SourceMachine.BranchSteps as branch
use Rattle.semantics.specs.TemplateMachine.TemplateStates as template
use Rattle.semantics.specs.TemplateMachine.TemplateStates.{TemplateState}
use Rattle.semantics.specs.TemplateMachine.TemplateExits as exits
use Rattle.simulation_terms.specs.SimulationRelation.Activations.{Activation, templates_of}
use Rattle.simulation_terms.specs.SimulationRelation.Simulates as simulates
use Rattle.simulation_terms.specs.SimulationRelation.Simulates.{Names, SameSide, SameTest, SameSwitched, SameCase, type_in}

-- both go on in the same world, or both stop alike
pub data SameTesting (s : State) (r : TemplateState) : Reply State → Reply TemplateState → Type 0 where
  both_go : (w : World) → SameTesting s r (goes (record s { world = w }) w) (goes (record r { world = w }) w)
  both_stop : (why : Why) (w : World) → SameTesting s r (stops why w) (stops why w)

module _ (t : Activation) (s : State) (r : TemplateState) (same_names : s.names ≡ r.names) (same_world : s.world ≡ r.world) where
  stuck : SameTesting s r (states.stuck_at s) (template.stuck_at r)
  stuck = subst (λ w. SameTesting s r (states.stuck_at s) (stops Stuck w)) same_world (both_stop Stuck s.world)

  named_side : (kind : declared.Scalar) (instance : Option ℕ) (one : TestedSide → Reply State) (other : TestedSide → Reply TemplateState) → ((x : TestedSide) → SameTesting s r (one x) (other x)) → SameTesting s r (states.if_some s instance (λ i. one (tests.object i kind))) (template.if_some r instance (λ i. other (tests.object i kind)))
  named_side kind None one other same = stuck
  named_side kind (Some i) one other same = same (tests.object i kind)

  instance_alike : (o : ObjectRef) → template.instance_named (templates_of t) r (name_of_object o) ≡ instance_of s.names o
  instance_alike (object.Static m) = refl
  instance_alike (object.Local m) = ap (λ f. f m) (sym same_names)

  sides : (x : NamedSide) (y : Side) (one : TestedSide → Reply State) (other : TestedSide → Reply TemplateState) → r.function ≡ t.function → SameSide t x y → ((x : TestedSide) → SameTesting s r (one x) (other x)) → SameTesting s r (branch.with_side s x one) (exits.with_side (templates_of t) r y other)
  sides _ _ one other entry (simulates.number m) same = same (tests.constant m)
  sides _ _ one other entry simulates.nothing same = same tests.nothing
  sides _ _ one other entry (simulates.object o base named) same =
      subst (λ name. SameTesting s r (states.with_object s o.object (λ i. one (tests.object i o.kind))) (template.if_some r name (λ name. template.if_some r (template.instance_named (templates_of t) r name) (λ i. other (tests.object i o.kind)))))
      (sym (ap (λ f. slice_get (t.of f).names base) entry ∙ named))
      (subst (λ instance. SameTesting s r (states.with_object s o.object (λ i. one (tests.object i o.kind))) (template.if_some r instance (λ i. other (tests.object i o.kind)))) (sym (instance_alike o.object)) (named_side o.kind (instance_of s.names o.object) one other same))

  passed : (one other : Reply (Unit {0})) → one ≡ other → SameTesting s r (branch.in_world s one) (exits.in_world r other)
  passed one other e = subst (λ x. SameTesting s r (branch.in_world s one) (exits.in_world r x)) e (by one)
    where
      by : (one : Reply (Unit {0})) → SameTesting s r (branch.in_world s one) (exits.in_world r one)
      by (goes x w) = both_go w
      by (stops why w) = both_stop why w

  untested : SameTesting s r (goes s s.world) (goes r r.world)
  untested = subst (λ w. SameTesting s r (goes s s.world) (goes (record r { world = w }) w)) same_world (both_go s.world)

  -- on the edge where the condition holds
  pub held_alike : (x : Option NamedTest) (held failed : Option Test) → r.function ≡ t.function → SameTest t x held failed → SameTesting s r (branch.testing t.unit s x true) (exits.testing (templates_of t) r held)
  held_alike _ _ _ entry simulates.none = untested
  held_alike _ _ _ entry (simulates.some x left right on_left on_right) =
      sides x.left left _ _ entry on_left (λ l. sides x.right right _ _ entry on_right (λ k. passed _ _ (ap (λ w. pass_test t.unit.model (record { left = l; rel = x.rel; right = k; common = x.common }) w) same_world)))

  -- and where it does not
  pub failed_alike : (x : Option NamedTest) (held failed : Option Test) → r.function ≡ t.function → SameTest t x held failed → SameTesting s r (branch.testing t.unit s x false) (exits.testing (templates_of t) r failed)
  failed_alike _ _ _ entry simulates.none = untested
  failed_alike _ _ _ entry (simulates.some x left right on_left on_right) =
      sides x.left left _ _ entry on_left (λ l. sides x.right right _ _ entry on_right (λ k. passed _ _ (ap (λ w. pass_test t.unit.model (record { left = l; rel = tests.opposite x.rel; right = k; common = x.common }) w) same_world)))

  -- ---- cases

  -- the object that is switched on, behind its instance and its type
  cased : (kind : IntType) (value : ℤ) (instance : Option ℕ) (other : ℕ → Reply TemplateState) → ((i : ℕ) → other i ≡ exits.in_world r (pass_case t.unit.model i kind value r.world)) → SameTesting s r (states.if_some s instance (λ i. branch.in_world s (pass_case t.unit.model i kind value s.world))) (template.if_some r instance other)
  cased kind value None other is = stuck
  cased kind value (Some i) other is =
      subst (λ x. SameTesting s r (branch.in_world s (pass_case t.unit.model i kind value s.world)) x) (sym (is i)) (passed _ _ (ap (λ w. pass_case t.unit.model i kind value w) same_world))

  typed : (o : ObjectRef) (ctype : Ty) → r.function ≡ t.function → type_in t o ≡ Some ctype → (use_it : IntType → Reply TemplateState) → exits.typed_object (templates_of t) r (name_of_object o) use_it ≡ use_it (integer_type ctype)
  typed (object.Static m) ctype entry is use_it = ap (λ found. exits.with_kind (templates_of t) r found use_it) is
  typed (object.Local m) ctype entry is use_it = ap (λ found. exits.with_kind (templates_of t) r found use_it) (ap (λ g. states.local_of (states.function_at t.unit g) m) entry ∙ is)

  switched : (o : Option NamedObject) (base : Option ℕ) (number : ℕ) (value : ℤ) → r.function ≡ t.function → SameSwitched t o base → SameTesting s r (branch.on_case t.unit o (sought.case number) value s) (exits.matching (templates_of t) r value base)
  switched _ _ number value entry simulates.unnamed = untested
  switched _ _ number value entry (simulates.no_integer o) = untested
  switched _ _ number value entry (simulates.integers o base ctype named is) =
      let kind = integer_type ctype in
      let name_is : slice_get (t.of r.function).names base ≡ Some (name_of_object o) = ap (λ f. slice_get (t.of f).names base) entry ∙ named in
      let inner : ℕ → Reply TemplateState = λ i. template.with_name (templates_of t) r base (λ name. exits.typed_object (templates_of t) r name (λ k. exits.in_world r (pass_case t.unit.model i k value r.world))) in
      subst (λ name. SameTesting s r (states.with_object s o (λ i. branch.in_world s (pass_case t.unit.model i kind value s.world))) (template.if_some r name (λ name. template.if_some r (template.instance_named (templates_of t) r name) inner))) (sym name_is)
      (subst (λ instance. SameTesting s r (states.with_object s o (λ i. branch.in_world s (pass_case t.unit.model i kind value s.world))) (template.if_some r instance inner)) (sym (instance_alike o))
      (cased kind value (instance_of s.names o) inner (λ i.
      ap (λ name. template.if_some r name (λ name. exits.typed_object (templates_of t) r name (λ k. exits.in_world r (pass_case t.unit.model i k value r.world)))) name_is
      ∙ typed o ctype entry is (λ k. exits.in_world r (pass_case t.unit.model i k value r.world)))))

  -- a case label and its edge
  pub cases_alike : (o : Option NamedObject) (value : ℤ) (l : Sought) (w : Way) → r.function ≡ t.function → SameCase t o value l w → SameTesting s r (branch.on_case t.unit o l value s) (exits.on_way (templates_of t) r w)
  cases_alike o value _ _ entry (simulates.matched number base same) = switched o base number value entry same
  cases_alike None value _ _ entry (simulates.unmatched values) = untested
  cases_alike (Some o) value _ _ entry (simulates.unmatched values) = untested
