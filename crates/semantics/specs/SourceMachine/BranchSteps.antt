-- Steps that choose what follows: conditions, lines that are read, and switches.
use Rattle.std.specs.Prelude.{ℤ, Bool, true, false, not, cond, List, [], ◌∷◌, Option, Some, None}
use Rattle.cc_base.specs.declared.integer_operators.Rel.{Rel}
use Rattle.c_layout.specs.CheckedTrees.{StatementTree}
use Rattle.c_layout.specs.CheckedUnits.{UnitView}
use Rattle.c_layout.specs.declared.checked_tree.checked_statements.CaseLabel.{CaseLabel}
use Rattle.lower_conditions.specs.declared.branch_tests.NamedObject.{NamedObject}
use Rattle.cfg.specs.declared.machine_instructions.Scalar as declared
use Rattle.cfg.specs.declared.machine_instructions.Scalar.TheVariants as of
use Rattle.memory_model.specs.Memory.Scalars.{Scalar, is_false}
use Rattle.memory_model.specs.Effects.Worlds.{Reply, behind}
use Rattle.memory_model.specs.Effects.Operands.{with_number}
use Rattle.memory_model.specs.Effects.LibraryCalls.{fgets}
use Rattle.memory_model.specs.Effects.Tests.{opposite, TestedSide, object, constant, nothing, pass_test, pass_case}
use Rattle.semantics.specs.SourceMachine.Items as item
use Rattle.semantics.specs.SourceMachine.Items.{NamedSide, NamedTest, Item, Items, listed}
use Rattle.semantics.specs.SourceMachine.Scopes.{leap_in, past_loop}
use Rattle.semantics.specs.SourceMachine.LabelSearch.{Sought, found, case_of}
use Rattle.semantics.specs.SourceMachine.LabelSearch as sought
use Rattle.semantics.specs.SourceMachine.SourceStates.{State, with_world, first_do, stuck_at, if_some, with_object}
use Rattle.semantics.specs.SourceMachine.ObjectSteps.{on}

abbrev pub in_world : State → Reply (Unit {0}) → Reply State
in_world s reply = behind reply (λ _ w. on (with_world s w))

-- ---- tests

abbrev pub with_side : State → NamedSide → (TestedSide → Reply State) → Reply State
with_side s (item.named o) use_it = with_object s o.object (λ i. use_it (object i o.kind))
with_side s (item.number n) use_it = use_it (constant n)
with_side s item.nothing use_it = use_it nothing

-- the relation that holds on the way
abbrev pub relation_on : Bool → Rel → Rel
relation_on true rel = rel
relation_on false rel = opposite rel

-- the run goes on where the test agrees with memory
abbrev pub testing : UnitView → State → Option NamedTest → Bool → Reply State
testing u s None held = on s
testing u s (Some t) held = with_side s t.left (λ left. with_side s t.right (λ right. in_world s (pass_test u.model (record { left = left; rel = relation_on held t.rel; right = right; common = t.common }) s.world)))

-- ---- conditions

abbrev pub choose_by : UnitView → Option NamedTest → Bool → Items → Items → State → Reply State
choose_by u test true held failed s = behind (testing u s test true) (λ s w. on (first_do (listed held) s))
choose_by u test false held failed s = behind (testing u s test false) (λ s w. on (first_do (listed failed) s))

abbrev pub choose : UnitView → Option NamedTest → Items → Items → State → List Scalar → Reply State
choose u test held failed s [] = stuck_at s
choose u test held failed s (v ∷ vs) = choose_by u test (not (is_false v)) held failed (record s { values = vs })

abbrev pub read_line : UnitView → Items → Items → State → List Scalar → Reply State
read_line u none some s (stream ∷ (count ∷ (text ∷ vs))) = behind (fgets u.model (text ∷ (count ∷ (stream ∷ []))) s.world) (λ v w. on (first_do (listed (cond (is_false v) none some)) (record s { values = vs; world = w })))
read_line u none some s vs = stuck_at s

-- ---- switches

-- a case that is matched drops the labels of the integer object that is switched on
abbrev pub matching : UnitView → State → NamedObject → declared.Scalar → ℤ → Reply State
matching u s o (of.Int kind) value = with_object s o.object (λ i. in_world s (pass_case u.model i kind value s.world))
matching u s o of.Pointer value = on s

abbrev pub on_case : UnitView → Option NamedObject → Sought → ℤ → State → Reply State
on_case u (Some o) (sought.case n) value s = matching u s o o.kind value
on_case u o l value s = on s

-- where there is no default label, the value of no label leads behind the body
abbrev pub landing : Sought → Option (List Item) → List Item → Option (List Item)
landing l (Some to) control = Some to
landing sought.other None control = Some (past_loop control)
landing l None control = None

abbrev pub land : UnitView → StatementTree → Sought → State → Reply State
land u statement l s = if_some s (landing l (found u l statement s.control) s.control) (λ to. on (record s { control = leap_in s.control to }))

abbrev pub select_label : UnitView → Option NamedObject → StatementTree → Sought → ℤ → State → Reply State
select_label u o statement l value s = behind (on_case u o l value s) (λ s w. land u statement l s)

abbrev pub select : UnitView → Option NamedObject → List CaseLabel → StatementTree → State → List Scalar → Reply State
select u o labels statement s [] = stuck_at s
select u o labels statement s (v ∷ vs) = with_number v s.world (λ n _ w. select_label u o statement (case_of labels 0 n) n (record s { values = vs }))
