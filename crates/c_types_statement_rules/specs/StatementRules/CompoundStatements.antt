-- What statements with statements in them are judged by once their parts have types (6.8.1, 6.8.4.2).
use Rattle.std.specs.Prelude.{ℕ, ℤ, ◌==◌, Bool, true, false, cond, List, [], length, slice_get, Option, Some, None, Ok, Err}
use Rattle.cc_base.specs.declared.diagnostics.Place.{Place}
use Rattle.cc_base.specs.declared.int_types.IntType.{IntType}
use Rattle.c_layout.specs.Types.{Ty, Int, Pointer, Array, Struct, Void}
use Rattle.c_layout.specs.SyntaxTrees.{Tree}
use Rattle.c_layout.specs.CheckedTrees as tree
use Rattle.c_layout.specs.CheckedTrees.{TermTree, term_tree, StatementTree}
use Rattle.c_layout.specs.declared.checked_tree.checked_statements.CaseLabel.{CaseLabel}
use Rattle.c_layout.specs.declared.data_model.Model.{Model}
use Rattle.c_types_rules.specs.Rules.IntegerKinds.{kind_of, promoted}
use Rattle.c_types_rules.specs.declared.rules.integer_kinds.Rank.TheVariants as rank
use Rattle.c_types_scopes.specs.Refusals.{Ruled, type_fault, constant_needed, redeclared}
use Rattle.c_types_scopes.specs.Answers.{after}
use Rattle.c_types_scopes.specs.States.{State, with_constant}
use Rattle.c_types_operands.specs.Operands.{OperandView, term_of, term_type, term_constant}
use Rattle.c_types_operands.specs.Conversions as conversions
use Rattle.c_types_expressions.specs.Expressions.Expressions.{typed}
use Rattle.c_types_statement_rules.specs.StatementRules.BodyFlow.{SwitchView, FlowView, innermost, opened, closed, flow_case, flow_with_case}
use Rattle.c_types_statement_rules.specs.StatementRules.Points.{Point, point}
use Rattle.c_types_statement_rules.specs.StatementRules.SimpleStatements.{valued}
use Rattle.c_types_statement_rules.specs.declared.statement_rules.body_flow.AddedCase.{AddedCase}
use Rattle.c_types_statement_rules.specs.declared.statement_rules.compound_statements.Controlling.{Controlling}
use Rattle.c_types_statement_rules.specs.declared.statement_rules.compound_statements.CaseStanding.{CaseStanding}
use Rattle.c_types_statement_rules.specs.declared.statement_rules.compound_statements.CaseStanding.TheVariants as standing

-- ---- switches

-- the controlling expression of a switch: its term, its promoted type where it is an integer, and the enumerated type
-- that its declaration names
pub record ControllingView : Type 0 where
  pub term : TermTree
  pub kind : Option IntType
  pub enumeration : Option ℕ

abbrev pub controlling_view : Controlling → ControllingView
controlling_view c = record { term = term_tree c.term.value; kind = c.kind; enumeration = c.enumeration }

abbrev pub control_kind : Model → Ty → Option IntType
control_kind m (Int kind) = Some (promoted m kind)
control_kind m (Pointer t) = None
control_kind m (Array t count) = None
control_kind m (Struct number) = None
control_kind m Void = None

abbrev pub controlling_of : OperandView → State → Ruled (ControllingView × State)
controlling_of x t = Ok (record { term = term_of x; kind = control_kind t.known.numbers (term_type (term_of x)); enumeration = x.enumeration }, t)

abbrev pub controlling_expression : State → Tree → Ruled (ControllingView × State)
controlling_expression s e = after (typed s e) controlling_of

-- the type of the labels: int where the value is no integer, which is refused behind the body
abbrev pub label_kind : Model → Option IntType → IntType
label_kind m None = kind_of m rank.Int true
label_kind m (Some kind) = kind

abbrev pub open_switch : Model → ControllingView → FlowView → FlowView
open_switch m c f = opened f (label_kind m c.kind)

-- the values of the enumerators of the type that a declaration names
abbrev pub values_of : State → Option ℕ → Option (List ℤ)
values_of s None = None
values_of s (Some number) = slice_get s.enumerations number

abbrev pub labels_in : Option SwitchView → List CaseLabel
labels_in None = []
labels_in (Some s) = s.labels

abbrev pub has_default_in : Option SwitchView → Bool
has_default_in None = false
has_default_in (Some s) = s.has_default

abbrev pub switch_of : State → FlowView → Place → ControllingView → StatementTree → Option IntType → Ruled (StatementTree × FlowView)
switch_of s f at c body None = type_fault at
switch_of s f at c body (Some kind) = Ok (tree.Switch at (conversions.integer_as s.known c.term kind) (labels_in (innermost f)) (has_default_in (innermost f)) (values_of s c.enumeration) body, closed f)

-- a switch whose body has a type
abbrev pub close_switch : State → FlowView → Place → ControllingView → StatementTree → Ruled (StatementTree × FlowView)
close_switch s f at c body = switch_of s f at c body c.kind

-- ---- labels of switches

abbrev pub constant_by : Ty → Option ℤ → Option ℤ
constant_by (Int kind) constant = constant
constant_by (Pointer t) constant = None
constant_by (Array t count) constant = None
constant_by (Struct number) constant = None
constant_by Void constant = None

-- the value of an integer constant expression
abbrev pub case_constant : TermTree → Option ℤ
case_constant e = constant_by (term_type e) (term_constant e)

abbrev pub standing_as : Option AddedCase → CaseStanding
standing_as None = standing.Stray
standing_as (Some a) = standing.Added a

-- a label of a value; the expression is kept
abbrev pub added : FlowView → Place → TermTree → ℤ → State → Ruled (CaseStanding × Point)
added f at e n s = Ok (standing_as (flow_case f n), point (with_constant s e) (flow_with_case f at n))

abbrev pub standing_of : FlowView → Place → TermTree → State → Option ℤ → Ruled (CaseStanding × Point)
standing_of f at e s None = Ok (standing.Variable, point s f)
standing_of f at e s (Some n) = added f at e n s

-- a label whose expression has a type
abbrev pub standing_in : FlowView → Place → TermTree → State → Ruled (CaseStanding × Point)
standing_in f at e s = cond (length f.switches == 0) (Ok (standing.Stray, point s f)) (standing_of f at e s (case_constant e))

abbrev pub standing_by : FlowView → Place → Ruled (TermTree × State) → Ruled (CaseStanding × Point)
standing_by f at (Ok v) = standing_in f at v.0 v.1
standing_by f at (Err e) = Err e

-- how a case label stands in the innermost switch, and what is known behind it
abbrev pub case_standing : Point → Place → Tree → Ruled (CaseStanding × Point)
case_standing p at e = standing_by p.flow at (valued p.state e)

-- a second label of a value is refused
abbrev pub case_added : Place → AddedCase → StatementTree → Ruled StatementTree
case_added at a inner = cond a.is_repeated (redeclared at) (Ok (tree.Case a.number inner))

-- a case whose statement has a type
abbrev pub case_statement : Place → CaseStanding → StatementTree → Ruled StatementTree
case_statement at standing.Stray inner = type_fault at
case_statement at standing.Variable inner = constant_needed at
case_statement at (standing.Added a) inner = case_added at a inner

-- a default whose statement has a type; whether its switch had one before
abbrev pub default_statement : Place → Option Bool → StatementTree → Ruled StatementTree
default_statement at None inner = type_fault at
default_statement at (Some true) inner = redeclared at
default_statement at (Some false) inner = Ok (tree.Default inner)
