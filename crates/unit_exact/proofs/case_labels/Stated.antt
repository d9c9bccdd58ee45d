-- What typing makes of statements has switches of distinct cases, and leaves the labels of open switches distinct.
use Rattle.std.proofs.Common.{◌≡◌, ℕ, ℤ, ◌==◌, Bool, true, false, length, Option, Some, None, Ok, Err, refl}
use Rattle.std.specs.Prelude.{cond, nat_lt}
use Rattle.std.proofs.lemmas.Bool.{and_from}
use Rattle.cc_base.specs.declared.diagnostics.Place.{Place}
use Rattle.cc_base.specs.declared.int_types.IntType.{IntType}
use Rattle.c_layout.specs.Types.{Ty, Int, Pointer, Array, Struct, Void}
use Rattle.c_layout.specs.CheckedTrees as tree
use Rattle.c_layout.specs.CheckedTrees.{TermTree, StatementTree, statement_trees}
use Rattle.c_layout.specs.SyntaxTrees.{Tree}
use Rattle.c_layout.specs.DeclarationTrees as syntax
use Rattle.c_layout.specs.DeclarationTrees.{LocalView, ForFirstView, NoClause, Clause, Declares}
use Rattle.c_types_scopes.specs.Answers.{after, kept}
use Rattle.c_types_scopes.specs.Names.{known_in}
use Rattle.c_types_scopes.specs.Refusals.{Ruled, type_fault, redeclared}
use Rattle.c_types_scopes.specs.States.{State, with_constant}
use Rattle.c_types_operands.specs.Operands.{term_type, is_scalar}
use Rattle.c_types_statement_rules.specs.Objects.LocalObjects.{PartsView}
use Rattle.c_types_statement_rules.specs.StatementRules.BodyFlow.{SwitchView, FlowView, case_value, has_value, with_case, added_in, case_in, last_number, innermost, flow_with_default, flow_default, is_met}
use Rattle.c_types_statement_rules.specs.StatementRules.Points.{Point, point}
use Rattle.c_types_statement_rules.specs.StatementRules.SimpleStatements as simple
use Rattle.c_types_statement_rules.specs.StatementRules.CompoundStatements as compound
use Rattle.c_types_statement_rules.specs.StatementRules.CompoundStatements.{ControllingView}
use Rattle.c_types_statement_rules.specs.StatementRules.StatementNodes as nodes
use Rattle.c_types_statement_rules.specs.StatementRules.StatementNodes.{no_parts, in_loop, in_switch}
use Rattle.c_types_statement_rules.specs.declared.statement_rules.compound_statements.CaseStanding.{CaseStanding}
use Rattle.c_types_statement_rules.specs.declared.statement_rules.compound_statements.CaseStanding.TheVariants as standing
use Rattle.c_types_statements.specs.LocalDeclarations.{local_declaration}
use Rattle.c_types_statements.specs.Statements as spec
use Rattle.c_types_statements.specs.Statements.{ClausesView, declaration_of}
use Rattle.unit_exact.specs.CaseLabels.DistinctCases.{are_distinct, case_values, has_distinct_cases, have_distinct_cases}
use Rattle.unit_exact.proofs.case_labels.OpenSwitches.{AreApart, apart_at, case_apart, innermost_apart, default_keeps, opened_apart, closed_apart}
use Rattle.unit_exact.proofs.case_labels.Declared.{HasParts, Gives, behind, then, with_one, declared}

-- ---- steps between points

-- what a step makes is such, and leaves the labels of each open switch distinct
abbrev pub Comes : {V : Type 0} → (V → Type 0) → Ruled (V × Point) → Type 0
Comes P (Ok v) = AreApart v.1.flow.switches × P v.0
Comes P (Err f) = Unit {0}

abbrev Judged : {V : Type 0} → (V → Type 0) → Ruled V → Type 0
Judged P (Ok v) = P v
Judged P (Err f) = Unit {0}

walk : {U V : Type 0} (P : U → Type 0) (Q : V → Type 0) (r : Ruled (U × Point)) (next : U → Point → Ruled (V × Point)) → Comes P r → ((u : U) (q : Point) → AreApart q.flow.switches → P u → Comes Q (next u q)) → Comes Q (after r next)
walk P Q (Ok v) next g h = h v.0 v.1 g.0 g.1
walk P Q (Err f) next g h = tt

ends : {V : Type 0} (Q : V → Type 0) (q : Point) (rule : Ruled V) → AreApart q.flow.switches → Judged Q rule → Comes Q (kept q rule)
ends Q q (Ok v) g h = (g, h)
ends Q q (Err f) g h = tt

flows : {V : Type 0} (P : V → Type 0) (f : FlowView) (r : Ruled (V × State)) → AreApart f.switches → Gives P r → Comes P (spec.in_flow f r)
flows P f (Ok v) g h = (g, h)
flows P f (Err e) g h = tt

-- ---- what is said of what is made

abbrev Labelled : StatementTree → Type 0
Labelled i = has_distinct_cases i ≡ true

abbrev Anything : {V : Type 0} → V → Type 0
Anything v = Unit {0}

any : {V : Type 0} (r : Ruled (V × State)) → Gives Anything r
any (Ok p) = tt
any (Err f) = tt

flows_any : {V : Type 0} (f : FlowView) (r : Ruled (V × State)) → AreApart f.switches → Comes Anything (spec.in_flow f r)
flows_any f r g = flows Anything f r g (any r)

-- ---- statements without statements in them

value_gives : (s : State) (e : Option Tree) → Gives Labelled (simple.value_statement s e)
value_gives s None = refl
value_gives s (Some e) = behind Labelled (simple.effect s e) simple.as_statement (λ x t. refl)

goto_judged : (at : Place) (o : Option ℕ) → Judged Labelled (simple.goto_to at o)
goto_judged at None = tt
goto_judged at (Some n) = refl

jump_judged : (at : Place) (i : StatementTree) (b : Bool) → Labelled i → Judged Labelled (cond b (Ok i) (type_fault at))
jump_judged at i true h = h
jump_judged at i false h = tt

nothing_given : (s : State) (at : Place) (t : Ty) → Gives Labelled (kept s (simple.return_nothing at t))
nothing_given s at Void = refl
nothing_given s at (Int kind) = tt
nothing_given s at (Pointer t) = tt
nothing_given s at (Array t n) = tt
nothing_given s at (Struct n) = tt

return_gives : (s : State) (f : FlowView) (at : Place) (e : Option Tree) → Gives Labelled (simple.return_statement s f at e)
return_gives s f at None = nothing_given s at f.returns
return_gives s f at (Some e) = behind Labelled (simple.return_value s f at e) (simple.as_return at) (λ x t. refl)

-- ---- nodes

controlled : (b : Bool) (at : Place) (e : TermTree) (node : TermTree → StatementTree) → Labelled (node e) → Judged Labelled (nodes.controlled node (cond b (Ok e) (type_fault at)))
controlled true at e node h = h
controlled false at e node h = tt

label_judged : (at : Place) (n : ℕ) (b : Bool) (i : StatementTree) → Labelled i → Judged Labelled (nodes.label_node at n b i)
label_judged at n true i h = tt
label_judged at n false i h = h

default_judged : (at : Place) (o : Option Bool) (i : StatementTree) → Labelled i → Judged Labelled (compound.default_statement at o i)
default_judged at None i h = tt
default_judged at (Some true) i h = tt
default_judged at (Some false) i h = h

for_judged : (at : Place) (parts : PartsView) (test step : Option TermTree) (i : StatementTree) → HasParts parts → Labelled i → Judged Labelled (nodes.for_node at parts test step i)
for_judged at parts None step i g h = and_from (have_distinct_cases (statement_trees parts.statements)) (has_distinct_cases i) g h
for_judged at parts (Some e) step i g h = by_scalar (is_scalar (term_type e))
  where
    by_scalar : (b : Bool) → Judged Labelled (nodes.for_controlled parts step i (cond b (Ok e) (type_fault at)))
    by_scalar true = and_from (have_distinct_cases (statement_trees parts.statements)) (has_distinct_cases i) g h
    by_scalar false = tt

-- ---- cases

-- a statement that is refused when all of it is typed
refused : (rule : StatementTree → Ruled StatementTree) (r : Ruled (StatementTree × Point)) → ((i : StatementTree) (q : Point) → Comes Labelled (kept q (rule i))) → Comes Labelled (after r (λ made q. kept q (rule made)))
refused rule (Ok v) h = h v.0 v.1
refused rule (Err f) h = tt

module _ (p : Point) (at : Place) (apart : AreApart p.flow.switches) (body : Point → Ruled (StatementTree × Point)) (stated : (q : Point) → AreApart q.flow.switches → Comes Labelled (body q)) where
  -- a label more of the innermost switch, which is refused where it is repeated
  of_repeated : (s : SwitchView) (n : ℤ) (t : State) → innermost p.flow ≡ Some s → (b : Bool) → has_value s (case_value s n) ≡ b
      → Comes Labelled (after (body (point t (case_in p.flow at n (Some s)))) (λ made q. kept q (cond b (redeclared at) (Ok (tree.Case (length s.labels) made)))))
  of_repeated s n t is true new = refused (λ made. redeclared at) (body (point t (case_in p.flow at n (Some s)))) (λ i q. tt)
  of_repeated s n t is false new =
      let one = case_apart s at n (apart_at p.flow.switches (last_number p.flow.switches) s apart is) new in
      walk Labelled Labelled (body (point t (case_in p.flow at n (Some s)))) (λ made q. kept q (Ok (tree.Case (length s.labels) made))) (stated (point t (case_in p.flow at n (Some s))) (innermost_apart p.flow (with_case s at n) apart one))
      (λ made q g h. (g, h))

  of_innermost : (n : ℤ) (t : State) (o : Option SwitchView) → innermost p.flow ≡ o → Comes Labelled (after (body (point t (case_in p.flow at n o))) (λ made q. kept q (compound.case_statement at (compound.standing_as (added_in o n)) made)))
  of_innermost n t None is = refused (λ made. type_fault at) (body (point t p.flow)) (λ i q. tt)
  of_innermost n t (Some s) is = of_repeated s n t is (has_value s (case_value s n)) refl

  abbrev Behind : Ruled (CaseStanding × Point) → Type 0
  Behind r = Comes Labelled (after r (λ k p1. after (body p1) (λ made q. kept q (compound.case_statement at k made))))

  of_constant : (x : TermTree) (t : State) (o : Option ℤ) → Behind (compound.standing_of p.flow at x t o)
  of_constant x t None = refused (compound.case_statement at standing.Variable) (body (point t p.flow)) (λ i q. tt)
  of_constant x t (Some n) = of_innermost n (with_constant t x) (innermost p.flow) refl

  of_switch : (x : TermTree) (t : State) (b : Bool) → Behind (cond b (Ok (standing.Stray, point t p.flow)) (compound.standing_of p.flow at x t (compound.case_constant x)))
  of_switch x t true = refused (compound.case_statement at standing.Stray) (body (point t p.flow)) (λ i q. tt)
  of_switch x t false = of_constant x t (compound.case_constant x)

  case_comes : (r : Ruled (TermTree × State)) → Behind (compound.standing_by p.flow at r)
  case_comes (Ok v) = of_switch v.0 v.1 (length p.flow.switches == 0)
  case_comes (Err f) = tt

-- ---- switches

labels_distinct : (f : FlowView) (o : Option SwitchView) → innermost f ≡ o → AreApart f.switches → are_distinct (case_values (compound.labels_in o)) ≡ true
labels_distinct f None is g = refl
labels_distinct f (Some s) is g = (apart_at f.switches (last_number f.switches) s g is).distinct

switch_comes : (q : Point) (at : Place) (c : ControllingView) (i : StatementTree) (o : Option IntType) → AreApart q.flow.switches → Labelled i → Comes Labelled (spec.in_state q.state (compound.switch_of q.state q.flow at c i o))
switch_comes q at c i None g h = tt
switch_comes q at c i (Some kind) g h = (closed_apart q.flow g, and_from (are_distinct (case_values (compound.labels_in (innermost q.flow)))) (has_distinct_cases i) (labels_distinct q.flow (innermost q.flow) refl g) h)

-- ---- `for`

abbrev HasClauses : ClausesView → Type 0
HasClauses c = HasParts c.parts

first_gives : (s : State) (f : ForFirstView) → Gives HasParts (spec.first_clause local_declaration s f no_parts)
first_gives s NoClause = refl
first_gives s (Clause e) = behind HasParts (simple.effect s e) (spec.clause_statement no_parts) (λ x t. refl)
first_gives s (Declares l) = declared s l no_parts refl

clauses_give : (s : State) (f : ForFirstView) (e step : Option Tree) → Gives HasClauses (spec.clauses local_declaration s f e step)
clauses_give s f e step =
    then HasParts HasClauses (spec.first_clause local_declaration s f no_parts) (λ parts t. after (nodes.test_clause t e) (λ test u. after (nodes.step_clause u step) (spec.as_clauses parts test))) (first_gives s f)
    (λ parts t g. behind HasClauses (nodes.test_clause t e) (λ test u. after (nodes.step_clause u step) (spec.as_clauses parts test)) (λ test u. behind HasClauses (nodes.step_clause u step) (spec.as_clauses parts test) (λ x v. g)))

-- ---- items

item_comes : (p : Point) (parts : PartsView) (made : Ruled (StatementTree × Point)) (o : Option LocalView) → AreApart p.flow.switches → HasParts parts → Comes Labelled made → Comes HasParts (spec.item local_declaration p parts made o)
item_comes p parts made (Some l) g h one = flows HasParts p.flow (local_declaration p.state l parts) g (declared p.state l parts h)
item_comes p parts made None g h one = walk Labelled HasParts made (spec.with_statement parts) one (λ i q k l. (k, with_one parts i h l))

-- ---- the way down

mutual
  pub statement_stated : (p : Point) (t : syntax.StatementTree) → AreApart p.flow.switches → Comes Labelled (spec.statement local_declaration p t)
  statement_stated p (syntax.Declaration l) g = flows Labelled p.flow (after (local_declaration p.state l no_parts) spec.alone) g (then HasParts Labelled (local_declaration p.state l no_parts) spec.alone (declared p.state l no_parts refl) (λ parts t h. h))
  statement_stated p (syntax.Label n t) g =
      walk Labelled Labelled (spec.statement local_declaration (spec.at_label p n) t) _ (statement_stated (spec.at_label p n) t g)
      (λ made q k h. ends Labelled q _ k (label_judged n.at (spec.label_number p n) (is_met p.flow (spec.label_number p n)) made h))
  statement_stated p (syntax.Case at e t) g = case_comes p at g (λ q. spec.statement local_declaration q t) (λ q k. statement_stated q t k) (simple.valued p.state e)
  statement_stated p (syntax.Default at t) g =
      walk Labelled Labelled (spec.statement local_declaration (spec.with_flow flow_with_default p) t) _ (statement_stated (spec.with_flow flow_with_default p) t (default_keeps p.flow g))
      (λ made q k h. ends Labelled q _ k (default_judged at (flow_default p.flow) made h))
  statement_stated p (syntax.Block at ts) g =
      walk HasParts Labelled (spec.items local_declaration (spec.in_scope p) no_parts ts) spec.block_in (items_stated (spec.in_scope p) no_parts ts g refl)
      (λ parts q k h. (k, h))
  statement_stated p (syntax.Expression at e) g = flows Labelled p.flow (simple.value_statement p.state e) g (value_gives p.state e)
  statement_stated p (syntax.If at e t) g =
      walk Anything Labelled (spec.in_flow p.flow (simple.valued p.state e)) _ (flows_any p.flow (simple.valued p.state e) g)
      (λ x p1 g1 u. walk Labelled Labelled (spec.statement local_declaration p1 t) _ (statement_stated p1 t g1)
      (λ made q k h. ends Labelled q _ k (controlled (is_scalar (term_type x)) at x (λ c. tree.If c made) h)))
  statement_stated p (syntax.IfElse at e t u) g =
      walk (λ v. Labelled v.1) Labelled (spec.first_branch local_declaration p e t) _
      (walk Anything (λ v. Labelled v.1) (spec.in_flow p.flow (simple.valued p.state e)) _ (flows_any p.flow (simple.valued p.state e) g)
      (λ x p1 g1 a. walk Labelled (λ v. Labelled v.1) (spec.statement local_declaration p1 t) (spec.both x) (statement_stated p1 t g1) (λ made q k h. (k, h))))
      (λ v p2 g2 first. walk Labelled Labelled (spec.statement local_declaration p2 u) _ (statement_stated p2 u g2)
      (λ second q k h. ends Labelled q _ k (controlled (is_scalar (term_type v.0)) at v.0 (λ c. tree.IfElse c v.1 second) (and_from (has_distinct_cases v.1) (has_distinct_cases second) first h))))
  statement_stated p (syntax.Switch at e t) g =
      walk Anything Labelled (spec.in_flow p.flow (compound.controlling_expression p.state e)) _ (flows_any p.flow (compound.controlling_expression p.state e) g)
      (λ c p1 g1 a. walk Labelled Labelled (spec.switch_body local_declaration (spec.at_switch c p1) t) _
      (walk Labelled Labelled (spec.statement local_declaration (spec.with_flow in_switch (spec.at_switch c p1)) t) (spec.switch_left (spec.at_switch c p1).flow)
      (statement_stated (spec.with_flow in_switch (spec.at_switch c p1)) t (opened_apart p1.flow (compound.label_kind p1.state.known.numbers c.kind) g1)) (λ made q k h. (k, h)))
      (λ made q k h. switch_comes q at c made c.kind k h))
  statement_stated p (syntax.While at e t) g =
      walk Anything Labelled (spec.in_flow p.flow (simple.valued p.state e)) _ (flows_any p.flow (simple.valued p.state e) g)
      (λ x p1 g1 a. walk Labelled Labelled (spec.loop_body local_declaration p1 t) _
      (walk Labelled Labelled (spec.statement local_declaration (spec.with_flow in_loop p1) t) (spec.loop_left p1.flow) (statement_stated (spec.with_flow in_loop p1) t g1) (λ made q k h. (k, h)))
      (λ made q k h. ends Labelled q _ k (controlled (is_scalar (term_type x)) at x (λ c. tree.While c made) h)))
  statement_stated p (syntax.Do at t e) g =
      walk Labelled Labelled (spec.loop_body local_declaration p t) _
      (walk Labelled Labelled (spec.statement local_declaration (spec.with_flow in_loop p) t) (spec.loop_left p.flow) (statement_stated (spec.with_flow in_loop p) t g) (λ made q k h. (k, h)))
      (λ made p1 g1 first. walk Anything Labelled (spec.in_flow p1.flow (simple.valued p1.state e)) _ (flows_any p1.flow (simple.valued p1.state e) g1)
      (λ x q k h. ends Labelled q _ k (controlled (is_scalar (term_type x)) at x (λ c. tree.Do made c) first)))
  statement_stated p (syntax.For at f e step t) g =
      walk Labelled Labelled (spec.for_in_scope local_declaration (spec.in_scope p) at f e step t) spec.scope_left
      (walk HasClauses Labelled (spec.in_flow p.flow (spec.clauses local_declaration (spec.in_scope p).state f e step)) _ (flows HasClauses p.flow (spec.clauses local_declaration (spec.in_scope p).state f e step) g (clauses_give (spec.in_scope p).state f e step))
      (λ c p1 g1 clauses. walk Labelled Labelled (spec.loop_body local_declaration p1 t) _
      (walk Labelled Labelled (spec.statement local_declaration (spec.with_flow in_loop p1) t) (spec.loop_left p1.flow) (statement_stated (spec.with_flow in_loop p1) t g1) (λ made q k h. (k, h)))
      (λ made q k h. ends Labelled q _ k (for_judged at c.parts c.test c.step made clauses h))))
      (λ made q k h. (k, h))
  statement_stated p (syntax.Goto at n) g = ends Labelled p _ g (goto_judged at (simple.label_named p.flow (known_in p.state.scopes.names n.text)))
  statement_stated p (syntax.Continue at) g = ends Labelled p _ g (jump_judged at tree.Continue (nat_lt 0 p.flow.loops) refl)
  statement_stated p (syntax.Break at) g = ends Labelled p _ g (jump_judged at tree.Break (nat_lt 0 p.flow.breakables) refl)
  statement_stated p (syntax.Return at e) g = flows Labelled p.flow (simple.return_statement p.state p.flow at e) g (return_gives p.state p.flow at e)

  pub items_stated : (p : Point) (parts : PartsView) (ts : syntax.StatementTrees) → AreApart p.flow.switches → HasParts parts → Comes HasParts (spec.items local_declaration p parts ts)
  items_stated p parts syntax.NoStatement g h = (g, h)
  items_stated p parts (syntax.MoreStatements t ts) g h =
      walk HasParts HasParts (spec.item_of local_declaration p parts t) (λ more q. spec.items local_declaration q more ts)
      (item_comes p parts (spec.statement local_declaration p t) (declaration_of t) g h (statement_stated p t g))
      (λ more q k l. items_stated q more ts k l)
