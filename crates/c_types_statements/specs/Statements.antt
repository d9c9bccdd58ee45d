-- Statements (6.8). A statement is judged after the expressions and statements in it, in reading order; each of these is
-- typed with what the one before it leaves known. The first part that is refused refuses the statement. What a
-- declaration does is a parameter.
use Rattle.std.specs.Prelude.{ℕ, [], ◌∷◌, ◌++◌, option_map, Option, Some, None, Ok, Err}
use Rattle.cc_base.specs.declared.diagnostics.Place.{Place}
use Rattle.c_layout.specs.SyntaxTrees.{Tree}
use Rattle.c_layout.specs.DeclarationTrees as syntax
use Rattle.c_layout.specs.DeclarationTrees.{NameView, LocalView, ForFirstView, NoClause, Clause, Declares}
use Rattle.c_layout.specs.CheckedTrees as tree
use Rattle.c_layout.specs.CheckedTrees.{TermTree, term_tree, StatementTree}
use Rattle.c_types_scopes.specs.Names as names
use Rattle.c_types_scopes.specs.Names.{number_in}
use Rattle.c_types_scopes.specs.Refusals.{Ruled}
use Rattle.c_types_scopes.specs.Answers.{after, kept}
use Rattle.c_types_scopes.specs.States.{State, with_name}
use Rattle.c_types_operands.specs.Operands.{boxed_term}
use Rattle.c_types_statement_rules.specs.StatementRules.BodyFlow.{FlowView, label_of, is_met, with_met, flow_default, flow_with_default}
use Rattle.c_types_statement_rules.specs.StatementRules.Points.{Point, point}
use Rattle.c_types_statement_rules.specs.Objects.LocalObjects.{PartsView, parts_view}
use Rattle.c_types_statement_rules.specs.StatementRules.SimpleStatements.{valued, effect, value_statement, goto_statement, continue_statement, break_statement, return_statement}
use Rattle.c_types_statement_rules.specs.StatementRules.CompoundStatements.{ControllingView, controlling_expression, open_switch, close_switch, case_standing, case_statement, default_statement}
use Rattle.c_types_statement_rules.specs.declared.statement_rules.statement_nodes.Clauses.{Clauses}
use Rattle.c_types_statement_rules.specs.StatementRules.StatementNodes.{no_parts, block_node, if_node, if_else_node, while_node, do_node, step_clause, test_clause, for_node, label_node, in_loop, out_of_loop, in_switch, out_of_switch}

-- what a declaration of a block does: the parts of the block with its objects and statements, and what is known then
abbrev pub Declaring : Type 0
Declaring = State → LocalView → PartsView → Ruled (PartsView × State)

-- ---- steps between parts

-- a step that leaves what statements may refer to as it is
abbrev pub in_flow : {V : Type 0} → FlowView → Ruled (V × State) → Ruled (V × Point)
in_flow f (Ok v) = Ok (v.0, point v.1 f)
in_flow f (Err e) = Err e

-- a step that leaves what is known of the unit as it is
abbrev pub in_state : {V : Type 0} → State → Ruled (V × FlowView) → Ruled (V × Point)
in_state s (Ok v) = Ok (v.0, point s v.1)
in_state s (Err e) = Err e

abbrev pub with_flow : (FlowView → FlowView) → Point → Point
with_flow f p = point p.state (f p.flow)

-- a scope more, and the innermost scope closed
abbrev pub in_scope : Point → Point
in_scope p = point (record p.state { scopes = names.opened p.state.scopes }) p.flow

abbrev pub out_of_scope : Point → Point
out_of_scope p = point (record p.state { scopes = names.closed p.state.scopes }) p.flow

abbrev pub block_in : PartsView → Point → Ruled (StatementTree × Point)
block_in parts p = Ok (block_node parts, out_of_scope p)

-- a declaration in the place of a statement
abbrev pub alone : PartsView → State → Ruled (StatementTree × State)
alone parts s = Ok (block_node parts, s)

abbrev pub declared_alone : Declaring → State → LocalView → Ruled (StatementTree × State)
declared_alone d s l = after (d s l no_parts) alone

abbrev pub with_statement : PartsView → StatementTree → Point → Ruled (PartsView × Point)
with_statement parts made p = Ok (record parts { statements = parts.statements ++ made ∷ [] }, p)

-- ---- labels

abbrev pub or_0 : Option ℕ → ℕ
or_0 None = 0
or_0 (Some n) = n

abbrev pub number_of_label : FlowView → ℕ → ℕ
number_of_label f name = or_0 (label_of f name)

abbrev pub label_number : Point → NameView → ℕ
label_number p n = number_of_label p.flow (number_in p.state.scopes.names n.text)

abbrev pub at_label : Point → NameView → Point
at_label p n = point (with_name p.state n.text) (with_met p.flow (label_number p n))

-- ---- switches

abbrev pub at_switch : ControllingView → Point → Point
at_switch c p = point p.state (open_switch p.state.known.numbers c p.flow)

-- ---- the first clause of a `for`

abbrev pub clause_statement : PartsView → TermTree → State → Ruled (PartsView × State)
clause_statement parts e s = Ok (record parts { statements = parts.statements ++ tree.Value e ∷ [] }, s)

abbrev pub value_clause : State → Tree → PartsView → Ruled (PartsView × State)
value_clause s e parts = after (effect s e) (clause_statement parts)

abbrev pub first_clause : Declaring → State → ForFirstView → PartsView → Ruled (PartsView × State)
first_clause d s NoClause parts = Ok (parts, s)
first_clause d s (Clause e) parts = value_clause s e parts
first_clause d s (Declares l) parts = d s l parts

-- the clauses of a `for` before its body: its first clause, its condition and its step
pub record ClausesView : Type 0 where
  pub parts : PartsView
  pub test : Option TermTree
  pub step : Option TermTree

abbrev pub clauses_view : Clauses → ClausesView
clauses_view c = record { parts = parts_view c.parts; test = option_map boxed_term c.test; step = option_map term_tree c.step }

abbrev pub as_clauses : PartsView → Option TermTree → Option TermTree → State → Ruled (ClausesView × State)
as_clauses parts test step s = Ok (record { parts = parts; test = test; step = step }, s)

abbrev pub clauses : Declaring → State → ForFirstView → Option Tree → Option Tree → Ruled (ClausesView × State)
clauses d s f e step = after (first_clause d s f no_parts) (λ parts t. after (test_clause t e) (λ test u. after (step_clause u step) (as_clauses parts test)))

-- ---- items of a block

-- the declaration that a statement is
abbrev pub declaration_of : syntax.StatementTree → Option LocalView
declaration_of (syntax.Declaration l) = Some l
declaration_of (syntax.Label n t) = None
declaration_of (syntax.Case at e t) = None
declaration_of (syntax.Default at t) = None
declaration_of (syntax.Block at ts) = None
declaration_of (syntax.Expression at e) = None
declaration_of (syntax.If at e t) = None
declaration_of (syntax.IfElse at e t u) = None
declaration_of (syntax.Switch at e t) = None
declaration_of (syntax.While at e t) = None
declaration_of (syntax.Do at t e) = None
declaration_of (syntax.For at f e step t) = None
declaration_of (syntax.Goto at n) = None
declaration_of (syntax.Continue at) = None
declaration_of (syntax.Break at) = None
declaration_of (syntax.Return at e) = None

-- a statement goes to the statements of the block; a declaration does what it does
abbrev pub item : Declaring → Point → PartsView → Ruled (StatementTree × Point) → Option LocalView → Ruled (PartsView × Point)
item d p parts made (Some l) = in_flow p.flow (d p.state l parts)
item d p parts made None = after made (with_statement parts)

-- ---- statements

abbrev pub both : TermTree → StatementTree → Point → Ruled ((TermTree × StatementTree) × Point)
both x made p = Ok ((x, made), p)

abbrev pub loop_left : FlowView → StatementTree → Point → Ruled (StatementTree × Point)
loop_left before made p = Ok (made, with_flow (out_of_loop before) p)

abbrev pub switch_left : FlowView → StatementTree → Point → Ruled (StatementTree × Point)
switch_left before made p = Ok (made, with_flow (out_of_switch before) p)

abbrev pub scope_left : StatementTree → Point → Ruled (StatementTree × Point)
scope_left made p = Ok (made, out_of_scope p)

abbrev mutual
  pub statement : Declaring → Point → syntax.StatementTree → Ruled (StatementTree × Point)
  statement d p (syntax.Declaration l) = in_flow p.flow (after (d p.state l no_parts) alone)
  statement d p (syntax.Label n t) = after (statement d (at_label p n) t) (λ made q. kept q (label_node n.at (label_number p n) (is_met p.flow (label_number p n)) made))
  statement d p (syntax.Case at e t) = after (case_standing p at e) (λ k p1. after (statement d p1 t) (λ made q. kept q (case_statement at k made)))
  statement d p (syntax.Default at t) = after (statement d (with_flow flow_with_default p) t) (λ made q. kept q (default_statement at (flow_default p.flow) made))
  statement d p (syntax.Block at ts) = after (items d (in_scope p) no_parts ts) block_in
  statement d p (syntax.Expression at e) = in_flow p.flow (value_statement p.state e)
  statement d p (syntax.If at e t) = after (in_flow p.flow (valued p.state e)) (λ x p1. after (statement d p1 t) (λ made q. kept q (if_node at x made)))
  statement d p (syntax.IfElse at e t u) = after (after (in_flow p.flow (valued p.state e)) (λ x p1. after (statement d p1 t) (both x))) (λ v p2. after (statement d p2 u) (λ second q. kept q (if_else_node at v.0 v.1 second)))
  statement d p (syntax.Switch at e t) = after (in_flow p.flow (controlling_expression p.state e)) (λ c p1. after (after (statement d (with_flow in_switch (at_switch c p1)) t) (switch_left (at_switch c p1).flow)) (λ made q. in_state q.state (close_switch q.state q.flow at c made)))
  statement d p (syntax.While at e t) = after (in_flow p.flow (valued p.state e)) (λ x p1. after (after (statement d (with_flow in_loop p1) t) (loop_left p1.flow)) (λ made q. kept q (while_node at x made)))
  statement d p (syntax.Do at t e) = after (after (statement d (with_flow in_loop p) t) (loop_left p.flow)) (λ made p1. after (in_flow p1.flow (valued p1.state e)) (λ x q. kept q (do_node at x made)))
  statement d p (syntax.For at f e step t) = after (after (in_flow p.flow (clauses d (in_scope p).state f e step)) (λ c p1. after (after (statement d (with_flow in_loop p1) t) (loop_left p1.flow)) (λ made q. kept q (for_node at c.parts c.test c.step made)))) scope_left
  statement d p (syntax.Goto at n) = kept p (goto_statement p.state p.flow at n)
  statement d p (syntax.Continue at) = kept p (continue_statement p.flow at)
  statement d p (syntax.Break at) = kept p (break_statement p.flow at)
  statement d p (syntax.Return at e) = in_flow p.flow (return_statement p.state p.flow at e)

  -- the items of a block in the innermost scope, behind some parts
  pub items : Declaring → Point → PartsView → syntax.StatementTrees → Ruled (PartsView × Point)
  items d p parts syntax.NoStatement = Ok (parts, p)
  items d p parts (syntax.MoreStatements t ts) = after (item d p parts (statement d p t) (declaration_of t)) (λ more q. items d q more ts)

-- ---- parts of statements

abbrev pub item_of : Declaring → Point → PartsView → syntax.StatementTree → Ruled (PartsView × Point)
item_of d p parts t = item d p parts (statement d p t) (declaration_of t)

abbrev pub stated : Declaring → Point → PartsView → syntax.StatementTree → Ruled (PartsView × Point)
stated d p parts t = after (statement d p t) (with_statement parts)

abbrev pub block : Declaring → Point → syntax.StatementTrees → Ruled (StatementTree × Point)
block d p ts = after (items d (in_scope p) no_parts ts) block_in

-- the condition and the first statement of an `if` with `else`, and the second one
abbrev pub first_branch : Declaring → Point → Tree → syntax.StatementTree → Ruled ((TermTree × StatementTree) × Point)
first_branch d p e t = after (in_flow p.flow (valued p.state e)) (λ x p1. after (statement d p1 t) (both x))

abbrev pub second_branch : Declaring → Place → TermTree × StatementTree → Point → syntax.StatementTree → Ruled (StatementTree × Point)
second_branch d at v p u = after (statement d p u) (λ second q. kept q (if_else_node at v.0 v.1 second))

-- the body of a loop, and of a switch
abbrev pub loop_body : Declaring → Point → syntax.StatementTree → Ruled (StatementTree × Point)
loop_body d p t = after (statement d (with_flow in_loop p) t) (loop_left p.flow)

abbrev pub switch_body : Declaring → Point → syntax.StatementTree → Ruled (StatementTree × Point)
switch_body d p t = after (statement d (with_flow in_switch p) t) (switch_left p.flow)

-- a `for` in the scope of its own
abbrev pub for_in_scope : Declaring → Point → Place → ForFirstView → Option Tree → Option Tree → syntax.StatementTree → Ruled (StatementTree × Point)
for_in_scope d p at f e step t = after (in_flow p.flow (clauses d p.state f e step)) (λ c p1. after (loop_body d p1 t) (λ made q. kept q (for_node at c.parts c.test c.step made)))

-- a statement with a label of a number
abbrev pub label_by : Declaring → Place → ℕ → Point → syntax.StatementTree → Ruled (StatementTree × Point)
label_by d at number p t = after (statement d (point p.state (with_met p.flow number)) t) (λ made q. kept q (label_node at number (is_met p.flow number) made))
