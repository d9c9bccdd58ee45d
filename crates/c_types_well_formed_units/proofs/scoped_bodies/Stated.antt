-- Statements name what lives, and their scopes begin with new objects.
use Rattle.std.proofs.Common.{◌≡◌, ◌+◌, ℕ, ℤ, ◌==◌, Bool, true, false, not, List, [], ◌++◌, length, Option, Some, None, Ok, Err, refl, ap, subst, sym, ◌∙◌}
use Rattle.std.specs.Prelude.{cond, ◌&&◌, nat_lt, is_none}
use Rattle.cc_base.specs.declared.diagnostics.Place.{Place}
use Rattle.cc_base.specs.declared.int_types.IntType.{IntType}
use Rattle.c_layout.specs.Types.{Ty, Int, Pointer, Array, Struct, Void}
use Rattle.c_layout.specs.CheckedTrees as tree
use Rattle.c_layout.specs.CheckedTrees.{TermTree, StatementTree, statement_trees}
use Rattle.c_layout.specs.CheckedUnits.{FunctionView}
use Rattle.c_layout.specs.SyntaxTrees.{Tree}
use Rattle.c_layout.specs.DeclarationTrees as syntax
use Rattle.c_layout.specs.DeclarationTrees.{LocalView, ForFirstView, NoClause, Clause, Declares}
use Rattle.c_types_scopes.specs.Answers.{after, kept}
use Rattle.c_types_scopes.specs.Known.{Known}
use Rattle.c_types_scopes.specs.Names.{known_in}
use Rattle.c_types_scopes.specs.Refusals.{Ruled, type_fault, redeclared}
use Rattle.c_types_scopes.specs.States.{State}
use Rattle.c_types_operands.specs.Conversions as conversions
use Rattle.c_types_operands.specs.Operands.{term_of, term_type, is_scalar}
use Rattle.c_types_expressions.specs.Expressions.Expressions.{typed}
use Rattle.c_types_statement_rules.specs.Objects.LocalObjects.{PartsView}
use Rattle.c_types_statement_rules.specs.StatementRules.BodyFlow.{FlowView, SwitchView, innermost, case_in, defaulted_in, flow_with_default, flow_default, is_met}
use Rattle.c_types_statement_rules.specs.StatementRules.Points.{Point, point}
use Rattle.c_types_statement_rules.specs.StatementRules.SimpleStatements as simple
use Rattle.c_types_statement_rules.specs.StatementRules.CompoundStatements as compound
use Rattle.c_types_statement_rules.specs.StatementRules.CompoundStatements.{ControllingView}
use Rattle.c_types_statement_rules.specs.StatementRules.StatementNodes as nodes
use Rattle.c_types_statement_rules.specs.StatementRules.StatementNodes.{no_parts, in_loop, in_switch}
use Rattle.c_types_statement_rules.specs.declared.statement_rules.compound_statements.CaseStanding.{CaseStanding}
use Rattle.c_types_statement_rules.specs.declared.statement_rules.compound_statements.CaseStanding.TheVariants as standing
use Rattle.c_types_statements.specs.LocalDeclarations.{local_declaration}
use Rattle.c_types_statements.specs.Statements as spec
use Rattle.c_types_statements.specs.Statements.{ClausesView, declaration_of}
use Rattle.lower_templates.specs.Worklist.TermKinds.{is_void}
use Rattle.source_preservation.specs.UnitChecks.LookedScopes.{is_scoped_term, is_scoped_if, is_scoped_statement, are_scoped_statements, are_new}
use Rattle.source_items.specs.Returns.EndedObjects.{AreAmong}
use Rattle.c_types_well_formed_units.specs.Scoped.BlockDeclarations.{IsNoDeclaration, DeclaresInBlocks, DeclareInBlocks}
use Rattle.c_types_well_formed_units.specs.Scoped.ScopedLaws.{Yields}
use Rattle.c_types_well_formed_units.specs.Scoped.ScopedOperands.{ScopedTerm, Scoped}
use Rattle.c_types_well_formed_units.specs.Scoped.SeenObjects.{SeesAt, Stays, count}
use Rattle.c_types_well_formed_units.proofs.scoped.Numbers.{two, in_front, in_back}
use Rattle.c_types_well_formed_units.proofs.scoped.Rules.{MakesTerm, value_scoped, unused_scoped, integer_scoped, assigned_scoped}
use Rattle.c_types_well_formed_units.proofs.scoped.Seen.{Judged, closes, sees_more, stays_same, stays_twice, stays_sees}
use Rattle.c_types_well_formed_units.proofs.scoped.Typed.{typed_yields}
use Rattle.c_types_well_formed_units.specs.ScopedBodies.ScopedBodies.{Adds, Apart, Itemized}
use Rattle.c_types_well_formed_units.proofs.scoped_bodies.Beside.{apart_after, apart_before, apart_behind, apart_inside, new_beside}
use Rattle.c_types_well_formed_units.proofs.scoped_bodies.Declared as declared
use Rattle.c_types_well_formed_units.proofs.scoped_bodies.Declared.{adds_twice, adds_stays, adds_nothing, adds_statement, local_declares}

-- ---- steps between points

-- a step of which the scopes see no new object
abbrev pub Moves : Point → Point → Type 0
Moves p q = Stays p.state q.state × (q.flow.returns ≡ p.flow.returns)

moves_same : (p : Point) → Moves p p
moves_same p = (stays_same p.state, refl)

moves_twice : (p q r : Point) → Moves p q → Moves q r → Moves p r
moves_twice p q r g h = (stays_twice p.state q.state r.state g.0 h.0, h.1 ∙ g.1)

-- what a step of statements makes, where it does not refuse
abbrev pub Comes : {V : Type 0} → Point → (V → Point → Type 0) → Ruled (V × Point) → Type 0
Comes p P (Ok v) = Moves p v.1 × P v.0 v.1
Comes p P (Err f) = Unit {0}

onwards : {V : Type 0} (p q : Point) (P : V → Point → Type 0) (r : Ruled (V × Point)) → Moves p q → Comes q P r → Comes p P r
onwards p q P (Ok v) g h = (moves_twice p q v.1 g h.0, h.1)
onwards p q P (Err f) g h = tt

walk : {U V : Type 0} (p : Point) (P : U → Point → Type 0) (Q : V → Point → Type 0) (r : Ruled (U × Point)) (next : U → Point → Ruled (V × Point)) → Comes p P r → ((u : U) (q : Point) → Moves p q → P u q → Comes q Q (next u q)) → Comes p Q (after r next)
walk p P Q (Ok v) next g h = onwards p v.1 Q (next v.0 v.1) g.0 (h v.0 v.1 g.0 g.1)
walk p P Q (Err f) next g h = tt

ends : {V : Type 0} (q : Point) (Q : V → Point → Type 0) (rule : Ruled V) → Judged (λ (v : V). Q v q) rule → Comes q Q (kept q rule)
ends q Q (Ok v) h = (moves_same q, h)
ends q Q (Err f) h = tt

-- ---- terms and statements from a point on

abbrev Terms : Point → TermTree → Type 0
Terms p e = (alive : List ℕ) → SeesAt alive p.state → ScopedTerm alive e

abbrev OfTerm : Point → TermTree → Point → Type 0
OfTerm p e q = Terms p e

-- a statement that was made between two points
abbrev pub Made : Point → StatementTree → Point → Type 0
Made p i q = (f : FunctionView) → f.returns ≡ p.flow.returns → (alive : List ℕ) → SeesAt alive p.state → Apart alive (count p.state) (count q.state) [] → is_scoped_statement f alive i ≡ true

earlier_term : (p q : Point) (e : TermTree) → Moves p q → Terms q e → Terms p e
earlier_term p q e g h alive sees = h alive (stays_sees alive p.state q.state g.0 sees)

-- it is made between any points around
wider : (p q r t : Point) (i : StatementTree) → Moves p q → Moves r t → Made q i r → Made p i t
wider p q r t i g h made f same alive sees apart =
    made f (same ∙ sym g.1) alive (stays_sees alive p.state q.state g.0 sees)
    (apart_after alive [] (count p.state) (count q.state) (count r.state) g.0.count (apart_before alive [] (count p.state) (count r.state) (count t.state) h.0.count apart))

-- ---- expressions

yielded : {V : Type 0} (p : Point) (P : List ℕ → V → Type 0) (r : Ruled (V × State)) → Yields p.state P r → Comes p (λ v q. (alive : List ℕ) → SeesAt alive p.state → P alive v) (spec.in_flow p.flow r)
yielded p P (Ok v) h = ((h.0, refl), h.1)
yielded p P (Err f) h = tt

mapped : {U V : Type 0} (s : State) (P : List ℕ → U → Type 0) (Q : List ℕ → V → Type 0) (r : Ruled (U × State)) (change : State → U → V) → Yields s P r → ((alive : List ℕ) (t : State) (u : U) → P alive u → Q alive (change t u)) → Yields s Q (after r (λ u t. Ok (change t u, t)))
mapped s P Q (Ok p) change g h = (g.0, λ alive sees. h alive p.1 p.0 (g.1 alive sees))
mapped s P Q (Err f) change g h = tt

valued_yields : (s : State) (e : Tree) → Yields s ScopedTerm (simple.valued s e)
valued_yields s e = mapped s Scoped ScopedTerm (typed s e) (λ t x. term_of x) (typed_yields s e) (λ alive t x h. value_scoped alive x h)

effect_yields : (s : State) (e : Tree) → Yields s ScopedTerm (simple.effect s e)
effect_yields s e = mapped s ScopedTerm ScopedTerm (simple.valued s e) (λ t x. conversions.unused x) (valued_yields s e) (λ alive t x h. unused_scoped alive x h)

valued_comes : (p : Point) (e : Tree) → Comes p (OfTerm p) (spec.in_flow p.flow (simple.valued p.state e))
valued_comes p e = yielded p ScopedTerm (simple.valued p.state e) (valued_yields p.state e)

abbrev Controls : List ℕ → ControllingView → Type 0
Controls alive c = ScopedTerm alive c.term

controlling_yields : (s : State) (e : Tree) → Yields s Controls (compound.controlling_expression s e)
controlling_yields s e = mapped s Scoped Controls (typed s e) (λ t x. record { term = term_of x; kind = compound.control_kind t.known.numbers (term_type (term_of x)); enumeration = x.enumeration }) (typed_yields s e) (λ alive t x h. value_scoped alive x h)

-- ---- statements without statements in them

nothing_made : (p q : Point) → Made p tree.Nothing q
nothing_made p q f same alive sees apart = refl

value_comes : (p : Point) (e : Option Tree) → Comes p (Made p) (spec.in_flow p.flow (simple.value_statement p.state e))
value_comes p None = (moves_same p, λ f same alive sees apart. refl)
value_comes p (Some e) = of_effect (simple.effect p.state e) (effect_yields p.state e)
  where
    of_effect : (r : Ruled (TermTree × State)) → Yields p.state ScopedTerm r → Comes p (Made p) (spec.in_flow p.flow (after r simple.as_statement))
    of_effect (Ok v) h = ((h.0, refl), λ f same alive sees apart. h.1 alive sees)
    of_effect (Err f) h = tt

goto_judged : (p : Point) (at : Place) (o : Option ℕ) → Judged (λ (i : StatementTree). Made p i p) (simple.goto_to at o)
goto_judged p at None = tt
goto_judged p at (Some n) = λ f same alive sees apart. refl

jump_judged : (p : Point) (at : Place) (i : StatementTree) (b : Bool) → Made p i p → Judged (λ (i : StatementTree). Made p i p) (cond b (Ok i) (type_fault at))
jump_judged p at i true h = h
jump_judged p at i false h = tt

-- a value goes back where the result is not void
abbrev Returned : State → Ty → TermTree → Type 0
Returned s t e = ((alive : List ℕ) → SeesAt alive s → ScopedTerm alive e) × (is_void t ≡ false)

given_back : (s : State) (t : Ty) (r : Ruled TermTree) → ((alive : List ℕ) → SeesAt alive s → MakesTerm alive r) → is_void t ≡ false → Judged (Returned s t) r
given_back s t (Ok e) h is = (h, is)
given_back s t (Err f) h is = tt

returned_judged : (s : State) (k : Known) (at : Place) (e : TermTree) (t : Ty) → ((alive : List ℕ) → SeesAt alive s → ScopedTerm alive e) → Judged (Returned s t) (simple.returned k at e t)
returned_judged s k at e Void h = tt
returned_judged s k at e (Int kind) h = given_back s (Int kind) (conversions.assigned k at e (Int kind)) (λ alive sees. assigned_scoped alive k at e (Int kind) (h alive sees)) refl
returned_judged s k at e (Pointer t) h = given_back s (Pointer t) (conversions.assigned k at e (Pointer t)) (λ alive sees. assigned_scoped alive k at e (Pointer t) (h alive sees)) refl
returned_judged s k at e (Array t n) h = given_back s (Array t n) (conversions.assigned k at e (Array t n)) (λ alive sees. assigned_scoped alive k at e (Array t n) (h alive sees)) refl
returned_judged s k at e (Struct n) h = given_back s (Struct n) (conversions.assigned k at e (Struct n)) (λ alive sees. assigned_scoped alive k at e (Struct n) (h alive sees)) refl

nothing_returned : (at : Place) (p : Point) (t : Ty) → Judged (λ (i : StatementTree). Made p i p) (simple.return_nothing at t)
nothing_returned at p Void = λ f same alive sees apart. refl
nothing_returned at p (Int kind) = tt
nothing_returned at p (Pointer t) = tt
nothing_returned at p (Array t n) = tt
nothing_returned at p (Struct n) = tt

in_flow_kept : (p : Point) (rule : Ruled StatementTree) → Judged (λ (i : StatementTree). Made p i p) rule → Comes p (Made p) (spec.in_flow p.flow (kept p.state rule))
in_flow_kept p (Ok i) h = (moves_same p, h)
in_flow_kept p (Err f) h = tt

return_comes : (p : Point) (at : Place) (e : Option Tree) → Comes p (Made p) (spec.in_flow p.flow (simple.return_statement p.state p.flow at e))
return_comes p at None = in_flow_kept p (simple.return_nothing at p.flow.returns) (nothing_returned at p p.flow.returns)
return_comes p at (Some e) = of_value (simple.valued p.state e) (valued_yields p.state e)
  where
    not_void : (b : Bool) → b ≡ false → not b ≡ true
    not_void true h = sym h
    not_void false h = refl

    of_result : (t : State) (r : Ruled TermTree) → Stays p.state t → Judged (Returned p.state p.flow.returns) r → Comes p (Made p) (spec.in_flow p.flow (after (kept t r) (simple.as_return at)))
    of_result t (Ok x) g h = ((g, refl), λ f same alive sees apart. two (is_scoped_term alive x) (not (is_void f.returns)) (h.0 alive sees) (not_void (is_void f.returns) (ap is_void same ∙ h.1)))
    of_result t (Err f) g h = tt

    of_value : (r : Ruled (TermTree × State)) → Yields p.state ScopedTerm r → Comes p (Made p) (spec.in_flow p.flow (after (after r (λ x t. kept t (simple.returned t.known at x p.flow.returns))) (simple.as_return at)))
    of_value (Ok v) h = of_result v.1 (simple.returned v.1.known at v.0 p.flow.returns) h.0 (returned_judged p.state v.1.known at v.0 p.flow.returns h.1)
    of_value (Err f) h = tt

-- ---- nodes

module _ (p q : Point) where
  abbrev Makes : Ruled StatementTree → Type 0
  Makes r = Judged (λ (i : StatementTree). Made p i q) r

  controlled : (b : Bool) (at : Place) (e : TermTree) (node : TermTree → StatementTree) → Made p (node e) q → Makes (nodes.controlled node (cond b (Ok e) (type_fault at)))
  controlled true at e node h = h
  controlled false at e node h = tt

  if_made : (at : Place) (e : TermTree) (i : StatementTree) → Terms p e → Made p i q → Makes (nodes.if_node at e i)
  if_made at e i g h = controlled (is_scalar (term_type e)) at e (λ c. tree.If c i) (λ f same alive sees apart. two (is_scoped_term alive e) (is_scoped_statement f alive i) (g alive sees) (h f same alive sees apart))

  if_else_made : (at : Place) (e : TermTree) (i j : StatementTree) → Terms p e → Made p i q → Made p j q → Makes (nodes.if_else_node at e i j)
  if_else_made at e i j g h l = controlled (is_scalar (term_type e)) at e (λ c. tree.IfElse c i j) (λ f same alive sees apart. two (is_scoped_term alive e) (is_scoped_statement f alive i && is_scoped_statement f alive j) (g alive sees) (two (is_scoped_statement f alive i) (is_scoped_statement f alive j) (h f same alive sees apart) (l f same alive sees apart)))

  while_made : (at : Place) (e : TermTree) (i : StatementTree) → Terms p e → Made p i q → Makes (nodes.while_node at e i)
  while_made at e i g h = controlled (is_scalar (term_type e)) at e (λ c. tree.While c i) (λ f same alive sees apart. two (is_scoped_term alive e) (is_scoped_statement f alive i) (g alive sees) (h f same alive sees apart))

  do_made : (at : Place) (e : TermTree) (i : StatementTree) → Terms p e → Made p i q → Makes (nodes.do_node at e i)
  do_made at e i g h = controlled (is_scalar (term_type e)) at e (λ c. tree.Do i c) (λ f same alive sees apart. two (is_scoped_term alive e) (is_scoped_statement f alive i) (g alive sees) (h f same alive sees apart))

  label_made : (at : Place) (n : ℕ) (b : Bool) (i : StatementTree) → Made p i q → Makes (nodes.label_node at n b i)
  label_made at n true i h = tt
  label_made at n false i h = h

  added_made : (at : Place) (n : ℕ) (b : Bool) (i : StatementTree) → Made p i q → Makes (cond b (redeclared at) (Ok (tree.Case n i)))
  added_made at n true i h = tt
  added_made at n false i h = h

  case_made : (at : Place) (k : CaseStanding) (i : StatementTree) → Made p i q → Makes (compound.case_statement at k i)
  case_made at standing.Stray i h = tt
  case_made at standing.Variable i h = tt
  case_made at (standing.Added a) i h = added_made at a.number a.is_repeated i h

  default_made : (at : Place) (o : Option Bool) (i : StatementTree) → Made p i q → Makes (compound.default_statement at o i)
  default_made at None i h = tt
  default_made at (Some true) i h = tt
  default_made at (Some false) i h = h

-- ---- flows

case_returns : (f : FlowView) (at : Place) (n : ℤ) (o : Option SwitchView) → (case_in f at n o).returns ≡ f.returns
case_returns f at n None = refl
case_returns f at n (Some s) = refl

default_returns : (f : FlowView) (o : Option SwitchView) → (defaulted_in f o).returns ≡ f.returns
default_returns f None = refl
default_returns f (Some s) = refl

abbrev Anything : {V : Type 0} → V → Point → Type 0
Anything v q = Unit {0}

standing_comes : (p : Point) (at : Place) (e : Tree) → Comes p Anything (compound.case_standing p at e)
standing_comes p at e = of_value (simple.valued p.state e) (valued_yields p.state e)
  where
    of_constant : (x : TermTree) (t : State) (o : Option ℤ) → Stays p.state t → Comes p Anything (compound.standing_of p.flow at x t o)
    of_constant x t None g = ((g, refl), tt)
    of_constant x t (Some n) g = ((g, case_returns p.flow at n (innermost p.flow)), tt)

    of_switch : (x : TermTree) (t : State) (b : Bool) → Stays p.state t → Comes p Anything (cond b (Ok (standing.Stray, point t p.flow)) (compound.standing_of p.flow at x t (compound.case_constant x)))
    of_switch x t true g = ((g, refl), tt)
    of_switch x t false g = of_constant x t (compound.case_constant x) g

    of_value : (r : Ruled (TermTree × State)) → Yields p.state ScopedTerm r → Comes p Anything (compound.standing_by p.flow at r)
    of_value (Ok v) h = of_switch v.0 v.1 (length p.flow.switches == 0) h.0
    of_value (Err f) h = tt

switch_comes : (p q : Point) (at : Place) (c : ControllingView) (i : StatementTree) (o : Option IntType) → Moves p q → ((alive : List ℕ) → SeesAt alive p.state → ScopedTerm alive c.term) → Made p i q → Comes q (Made p) (spec.in_state q.state (compound.switch_of q.state q.flow at c i o))
switch_comes p q at c i None m g h = tt
switch_comes p q at c i (Some kind) m g h = (moves_same q, λ f same alive sees apart. two (is_scoped_term alive (conversions.integer_as q.state.known c.term kind)) (is_scoped_statement f alive i) (integer_scoped alive q.state.known c.term kind (g alive sees)) (h f same alive sees apart))

-- ---- blocks

block_comes : (p : Point) (r : Ruled (PartsView × Point)) → Itemized (spec.in_scope p) no_parts r → Comes p (Made p) (after r spec.block_in)
block_comes p (Err e) h = tt
block_comes p (Ok v) h =
    let a = h.1 in
    ((closes p.state.scopes.ordinary p.state.scopes.meanings (count p.state) v.1.state.scopes.ordinary v.1.state.scopes.meanings (count v.1.state) a.new a.follows, h.0), made)
  where
    made : Made p (nodes.block_node v.0) (spec.out_of_scope v.1)
    made f same alive sees apart =
        let a = h.1 in
        two (are_new v.0.objects alive) (are_scoped_statements f (v.0.objects ++ alive) (statement_trees v.0.statements))
        (subst (λ l. are_new l alive ≡ true) (sym a.objects) (new_beside alive a.new (count p.state) (count v.1.state) a.follows.news apart))
        (subst (λ l. are_scoped_statements f (l ++ alive) (statement_trees v.0.statements) ≡ true) (sym a.objects) (subst (λ l. are_scoped_statements f (a.new ++ alive) (statement_trees l) ≡ true) (sym a.statements)
        (a.scoped f same (a.new ++ alive) (λ k is. in_front k a.new alive is) (sees_more alive (a.new ++ alive) p.state.scopes.ordinary.entries p.state.scopes.meanings (λ k is. in_back k a.new alive is) sees) (apart_inside alive a.new (count p.state) (count v.1.state) apart))))

-- ---- `for`

-- the clauses of a `for` in its scope
record ForClauses (s t : State) (returned : Ty) (c : ClausesView) : Type 0 where
  adds : Adds s t returned no_parts c.parts
  test : (alive : List ℕ) → AreAmong adds.new alive → SeesAt alive s → is_scoped_if alive c.test ≡ true
  step : (alive : List ℕ) → AreAmong adds.new alive → SeesAt alive s → is_scoped_if alive c.step ≡ true

abbrev IfScoped : List ℕ → Option TermTree → Type 0
IfScoped alive o = is_scoped_if alive o ≡ true

test_yields : (s : State) (e : Option Tree) → Yields s IfScoped (nodes.test_clause s e)
test_yields s None = (stays_same s, λ alive sees. refl)
test_yields s (Some e) = mapped s ScopedTerm IfScoped (simple.valued s e) (λ t x. Some x) (valued_yields s e) (λ alive t x h. h)

step_yields : (s : State) (e : Option Tree) → Yields s IfScoped (nodes.step_clause s e)
step_yields s None = (stays_same s, λ alive sees. refl)
step_yields s (Some e) = mapped s ScopedTerm IfScoped (simple.effect s e) (λ t x. Some x) (effect_yields s e) (λ alive t x h. h)

module _ (returned : Ty) where
  first_adds : (s : State) (f : ForFirstView) → declared.Declares returned s no_parts (spec.first_clause local_declaration s f no_parts)
  first_adds s NoClause = adds_nothing s s returned no_parts (stays_same s)
  first_adds s (Clause e) = of_effect (simple.effect s e) (effect_yields s e)
    where
      of_effect : (r : Ruled (TermTree × State)) → Yields s ScopedTerm r → declared.Declares returned s no_parts (after r (spec.clause_statement no_parts))
      of_effect (Ok v) h = adds_statement s v.1 returned no_parts (tree.Value v.0) h.0 (λ f same alive sees apart. h.1 alive sees)
      of_effect (Err f) h = tt
  first_adds s (Declares l) = local_declares returned s l no_parts

  abbrev AreClauses : State → Ruled (ClausesView × State) → Type 0
  AreClauses s (Ok v) = ForClauses s v.1 returned v.0
  AreClauses s (Err f) = Unit {0}

  clauses_are : (s : State) (f : ForFirstView) (e step : Option Tree) → AreClauses s (spec.clauses local_declaration s f e step)
  clauses_are s f e step = of_first (spec.first_clause local_declaration s f no_parts) (first_adds s f)
    where
      of_step : (parts : PartsView) (t u : State) (test : Option TermTree) → (a : Adds s t returned no_parts parts) → Stays t u → ((alive : List ℕ) → SeesAt alive t → IfScoped alive test) → (r : Ruled (Option TermTree × State)) → Yields u IfScoped r → AreClauses s (after r (spec.as_clauses parts test))
      of_step parts t u test a g h (Ok v) l = record {
        adds = adds_stays s t v.1 returned no_parts parts a (stays_twice t u v.1 g l.0);
        test = λ alive all sees. h alive (a.follows.sees alive all sees);
        step = λ alive all sees. l.1 alive (stays_sees alive t u g (a.follows.sees alive all sees));
      }
      of_step parts t u test a g h (Err x) l = tt

      of_test : (parts : PartsView) (t : State) → Adds s t returned no_parts parts → (r : Ruled (Option TermTree × State)) → Yields t IfScoped r → AreClauses s (after r (λ test u. after (nodes.step_clause u step) (spec.as_clauses parts test)))
      of_test parts t a (Ok v) h = of_step parts t v.1 v.0 a h.0 h.1 (nodes.step_clause v.1 step) (step_yields v.1 step)
      of_test parts t a (Err x) h = tt

      of_first : (r : Ruled (PartsView × State)) → declared.Declares returned s no_parts r → AreClauses s (after r (λ parts t. after (nodes.test_clause t e) (λ test u. after (nodes.step_clause u step) (spec.as_clauses parts test))))
      of_first (Ok v) a = of_test v.0 v.1 a (nodes.test_clause v.1 e) (test_yields v.1 e)
      of_first (Err x) a = tt

-- a `for` in its scope: clauses, and then a body
for_made : (p p1 q : Point) (c : ClausesView) (i : StatementTree) → (h : ForClauses (spec.in_scope p).state p1.state p.flow.returns c) → p1.flow.returns ≡ p.flow.returns → Stays p1.state q.state → Made p1 i q → (test : Option TermTree) → ((alive : List ℕ) → is_scoped_if alive c.test ≡ true → is_scoped_if alive test ≡ true) → Made p (tree.For c.parts.objects (statement_trees c.parts.statements) test c.step i) q
for_made p p1 q c i h returns g made test tests f same alive sees apart =
    let a = h.adds in
    let all : AreAmong a.new (a.new ++ alive) = λ k is. in_front k a.new alive is in
    let inner : SeesAt (a.new ++ alive) (spec.in_scope p).state = sees_more alive (a.new ++ alive) p.state.scopes.ordinary.entries p.state.scopes.meanings (λ k is. in_back k a.new alive is) sees in
    let before : Apart alive (count p.state) (count p1.state) [] = apart_before alive [] (count p.state) (count p1.state) (count q.state) g.count apart in
    let beside : Apart (a.new ++ alive) (count p.state) (count q.state) a.new = apart_inside alive a.new (count p.state) (count q.state) apart in
    subst (λ l. is_scoped_statement f alive (tree.For l (statement_trees c.parts.statements) test c.step i) ≡ true) (sym a.objects) (subst (λ l. is_scoped_statement f alive (tree.For a.new (statement_trees l) test c.step i) ≡ true) (sym a.statements)
    (two (are_new a.new alive) (are_scoped_statements f (a.new ++ alive) (statement_trees a.made) && (is_scoped_if (a.new ++ alive) test && (is_scoped_if (a.new ++ alive) c.step && is_scoped_statement f (a.new ++ alive) i)))
    (new_beside alive a.new (count p.state) (count p1.state) a.follows.news before)
    (two (are_scoped_statements f (a.new ++ alive) (statement_trees a.made)) (is_scoped_if (a.new ++ alive) test && (is_scoped_if (a.new ++ alive) c.step && is_scoped_statement f (a.new ++ alive) i))
    (a.scoped f same (a.new ++ alive) all inner (apart_inside alive a.new (count p.state) (count p1.state) before))
    (two (is_scoped_if (a.new ++ alive) test) (is_scoped_if (a.new ++ alive) c.step && is_scoped_statement f (a.new ++ alive) i) (tests (a.new ++ alive) (h.test (a.new ++ alive) all inner))
    (two (is_scoped_if (a.new ++ alive) c.step) (is_scoped_statement f (a.new ++ alive) i) (h.step (a.new ++ alive) all inner)
    (made f (same ∙ sym returns) (a.new ++ alive) (a.follows.sees (a.new ++ alive) all inner) (apart_behind (a.new ++ alive) a.new (count p.state) (count p1.state) (count q.state) a.follows.count a.follows.news beside)))))))

for_node_made : (p p1 q : Point) (at : Place) (c : ClausesView) (i : StatementTree) → (h : ForClauses (spec.in_scope p).state p1.state p.flow.returns c) → p1.flow.returns ≡ p.flow.returns → Stays p1.state q.state → Made p1 i q → (o : Option TermTree) → c.test ≡ o → Judged (λ (i : StatementTree). Made p i q) (nodes.for_node at c.parts o c.step i)
for_node_made p p1 q at c i h returns g made None is = for_made p p1 q c i h returns g made None (λ alive t. refl)
for_node_made p p1 q at c i h returns g made (Some e) is = by_scalar (is_scalar (term_type e))
  where
    by_scalar : (b : Bool) → Judged (λ (i : StatementTree). Made p i q) (nodes.for_controlled c.parts c.step i (cond b (Ok e) (type_fault at)))
    by_scalar true = for_made p p1 q c i h returns g made (Some e) (λ alive t. subst (λ o. is_scoped_if alive o ≡ true) is t)
    by_scalar false = tt

for_comes : (p : Point) (at : Place) (i : Ruled (ClausesView × State)) (body : Point → Ruled (StatementTree × Point)) → AreClauses p.flow.returns (spec.in_scope p).state i → ((p1 : Point) → Comes p1 (Made p1) (body p1))
    → Comes p (Made p) (after (after (spec.in_flow p.flow i) (λ c p1. after (after (body p1) (spec.loop_left p1.flow)) (λ made q. kept q (nodes.for_node at c.parts c.test c.step made)))) spec.scope_left)
for_comes p at (Err e) body h g = tt
for_comes p at (Ok v) body h g = of_body (body p1) (g p1)
  where
    p1 : Point
    p1 = point v.1 p.flow

    of_node : (q : Point) (rule : Ruled StatementTree) → Moves p1 q → Judged (λ (i : StatementTree). Made p i q) rule → Comes p (Made p) (after (kept q rule) spec.scope_left)
    of_node q (Err e) m l = tt
    of_node q (Ok made) m l =
        let a = adds_stays (spec.in_scope p).state v.1 q.state p.flow.returns no_parts v.0.parts h.adds m.0 in
        ((closes p.state.scopes.ordinary p.state.scopes.meanings (count p.state) q.state.scopes.ordinary q.state.scopes.meanings (count q.state) a.new a.follows, m.1), l)

    of_body : (r : Ruled (StatementTree × Point)) → Comes p1 (Made p1) r → Comes p (Made p) (after (after (after r (spec.loop_left p.flow)) (λ made q. kept q (nodes.for_node at v.0.parts v.0.test v.0.step made))) spec.scope_left)
    of_body (Err e) l = tt
    of_body (Ok w) l =
        let q : Point = spec.with_flow (nodes.out_of_loop p.flow) w.1 in
        of_node q (nodes.for_node at v.0.parts v.0.test v.0.step w.0) l.0 (for_node_made p p1 q at v.0 w.0 h refl l.0.0 l.1 v.0.test refl)

-- ---- items

item_itemized : (p : Point) (parts : PartsView) (made : Ruled (StatementTree × Point)) (o : Option LocalView) → (is_none o ≡ true → Comes p (Made p) made) → Itemized p parts (spec.item local_declaration p parts made o)
item_itemized p parts made (Some l) h = of_declaration (local_declaration p.state l parts) (local_declares p.flow.returns p.state l parts)
  where
    of_declaration : (r : Ruled (PartsView × State)) → declared.Declares p.flow.returns p.state parts r → Itemized p parts (spec.in_flow p.flow r)
    of_declaration (Ok v) g = (refl, g)
    of_declaration (Err f) g = tt
item_itemized p parts made None h = of_statement made (h refl)
  where
    of_statement : (r : Ruled (StatementTree × Point)) → Comes p (Made p) r → Itemized p parts (after r (spec.with_statement parts))
    of_statement (Ok v) g = (g.0.1, adds_statement p.state v.1.state p.flow.returns parts v.0 g.0.0 g.1)
    of_statement (Err f) g = tt

more_items : (p q : Point) (parts more : PartsView) (r : Ruled (PartsView × Point)) → q.flow.returns ≡ p.flow.returns → Adds p.state q.state p.flow.returns parts more → Itemized q more r → Itemized p parts r
more_items p q parts more (Ok v) same a h = (h.0 ∙ same, adds_twice p.state q.state v.1.state p.flow.returns parts more v.0 a (subst (λ t. Adds q.state v.1.state t more v.0) same h.1))
more_items p q parts more (Err f) same a h = tt

then_items : (p : Point) (parts : PartsView) (r : Ruled (PartsView × Point)) (next : PartsView → Point → Ruled (PartsView × Point)) → Itemized p parts r → ((more : PartsView) (q : Point) → Itemized q more (next more q)) → Itemized p parts (after r next)
then_items p parts (Ok v) next g h = more_items p v.1 parts v.0 (next v.0 v.1) g.0 g.1 (h v.0 v.1)
then_items p parts (Err f) next g h = tt

-- ---- the way down

-- the body of a loop or of a switch leaves the flow as it was outside
left : (p : Point) (r : Ruled (StatementTree × Point)) (change : FlowView → FlowView) → ((f : FlowView) → (change f).returns ≡ f.returns) → Comes p (Made p) r → Comes p (Made p) (after r (λ made q. Ok (made, spec.with_flow change q)))
left p (Ok v) change same h = ((h.0.0, same v.1.flow ∙ h.0.1), h.1)
left p (Err f) change same h = tt

mutual
  statement_scoped : (p : Point) (t : syntax.StatementTree) → IsNoDeclaration t → DeclaresInBlocks t → Comes p (Made p) (spec.statement local_declaration p t)
  statement_scoped p (syntax.Declaration l) none h = absurd (cc)
  statement_scoped p (syntax.Label n t) none h =
      onwards p (spec.at_label p n) (Made p) (spec.statement local_declaration p (syntax.Label n t)) (stays_same p.state, refl)
      (walk (spec.at_label p n) (Made p) (Made p) (spec.statement local_declaration (spec.at_label p n) t) _ (statement_scoped (spec.at_label p n) t h.0 h.1)
      (λ made q m g. ends q (Made p) _ (label_made p q n.at (spec.label_number p n) (is_met p.flow (spec.label_number p n)) made g)))
  statement_scoped p (syntax.Case at e t) none h =
      walk p Anything (Made p) (compound.case_standing p at e) _ (standing_comes p at e)
      (λ k p1 m u. walk p1 (Made p1) (Made p) (spec.statement local_declaration p1 t) _ (statement_scoped p1 t h.0 h.1)
      (λ made q m1 g. ends q (Made p) _ (case_made p q at k made (wider p p1 q q made m (moves_same q) g))))
  statement_scoped p (syntax.Default at t) none h =
      let p1 : Point = spec.with_flow flow_with_default p in
      let m : Moves p p1 = (stays_same p.state, default_returns p.flow (innermost p.flow)) in
      onwards p p1 (Made p) (spec.statement local_declaration p (syntax.Default at t)) m
      (walk p1 (Made p1) (Made p) (spec.statement local_declaration p1 t) _ (statement_scoped p1 t h.0 h.1)
      (λ made q m1 g. ends q (Made p) _ (default_made p q at (flow_default p.flow) made (wider p p1 q q made m (moves_same q) g))))
  statement_scoped p (syntax.Block at ts) none h = block_comes p (spec.items local_declaration (spec.in_scope p) no_parts ts) (items_scoped (spec.in_scope p) no_parts ts h)
  statement_scoped p (syntax.Expression at e) none h = value_comes p e
  statement_scoped p (syntax.If at e t) none h =
      walk p (OfTerm p) (Made p) (spec.in_flow p.flow (simple.valued p.state e)) _ (valued_comes p e)
      (λ x p1 m x_scoped. walk p1 (Made p1) (Made p) (spec.statement local_declaration p1 t) _ (statement_scoped p1 t h.0 h.1)
      (λ made q m1 g. ends q (Made p) _ (if_made p q at x made x_scoped (wider p p1 q q made m (moves_same q) g))))
  statement_scoped p (syntax.IfElse at e t u) none h =
      walk p (λ v q. Terms p v.0 × Made p v.1 q) (Made p) (spec.first_branch local_declaration p e t) _
      (walk p (OfTerm p) (λ v q. Terms p v.0 × Made p v.1 q) (spec.in_flow p.flow (simple.valued p.state e)) _ (valued_comes p e)
      (λ x p1 m x_scoped. walk p1 (Made p1) (λ v q. Terms p v.0 × Made p v.1 q) (spec.statement local_declaration p1 t) (spec.both x) (statement_scoped p1 t h.0.0 h.0.1)
      (λ made q m1 g. (moves_same q, (x_scoped, wider p p1 q q made m (moves_same q) g)))))
      (λ v p2 m v_scoped. walk p2 (Made p2) (Made p) (spec.statement local_declaration p2 u) _ (statement_scoped p2 u h.1.0 h.1.1)
      (λ second q m1 g. ends q (Made p) _ (if_else_made p q at v.0 v.1 second v_scoped.0 (wider p p p2 q v.1 (moves_same p) m1 v_scoped.1) (wider p p2 q q second m (moves_same q) g))))
  statement_scoped p (syntax.Switch at e t) none h =
      walk p (λ c q. (alive : List ℕ) → SeesAt alive p.state → Controls alive c) (Made p) (spec.in_flow p.flow (compound.controlling_expression p.state e)) _ (yielded p Controls (compound.controlling_expression p.state e) (controlling_yields p.state e))
      (λ c p1 m c_scoped. walk p1 (Made p1) (Made p) (spec.switch_body local_declaration (spec.at_switch c p1) t) _
      (left p1 (spec.statement local_declaration (spec.with_flow in_switch (spec.at_switch c p1)) t) (nodes.out_of_switch (spec.at_switch c p1).flow) (λ f. refl) (statement_scoped (spec.with_flow in_switch (spec.at_switch c p1)) t h.0 h.1))
      (λ made q m1 g. switch_comes p q at c made c.kind (moves_twice p p1 q m m1) c_scoped (wider p p1 q q made m (moves_same q) g)))
  statement_scoped p (syntax.While at e t) none h =
      walk p (OfTerm p) (Made p) (spec.in_flow p.flow (simple.valued p.state e)) _ (valued_comes p e)
      (λ x p1 m x_scoped. walk p1 (Made p1) (Made p) (spec.loop_body local_declaration p1 t) _ (left p1 (spec.statement local_declaration (spec.with_flow in_loop p1) t) (nodes.out_of_loop p1.flow) (λ f. refl) (statement_scoped (spec.with_flow in_loop p1) t h.0 h.1))
      (λ made q m1 g. ends q (Made p) _ (while_made p q at x made x_scoped (wider p p1 q q made m (moves_same q) g))))
  statement_scoped p (syntax.Do at t e) none h =
      walk p (Made p) (Made p) (spec.loop_body local_declaration p t) _ (left p (spec.statement local_declaration (spec.with_flow in_loop p) t) (nodes.out_of_loop p.flow) (λ f. refl) (statement_scoped (spec.with_flow in_loop p) t h.0 h.1))
      (λ made p1 m g. walk p1 (OfTerm p1) (Made p) (spec.in_flow p1.flow (simple.valued p1.state e)) _ (valued_comes p1 e)
      (λ x q m1 x_scoped. ends q (Made p) _ (do_made p q at x made (earlier_term p p1 x m x_scoped) (wider p p p1 q made (moves_same p) m1 g))))
  statement_scoped p (syntax.For at first e step t) none h =
      for_comes p at (spec.clauses local_declaration (spec.in_scope p).state first e step) (λ p1. spec.statement local_declaration (spec.with_flow in_loop p1) t) (clauses_are p.flow.returns (spec.in_scope p).state first e step)
      (λ p1. statement_scoped (spec.with_flow in_loop p1) t h.0 h.1)
  statement_scoped p (syntax.Goto at n) none h = ends p (Made p) _ (goto_judged p at (simple.label_named p.flow (known_in p.state.scopes.names n.text)))
  statement_scoped p (syntax.Continue at) none h = ends p (Made p) _ (jump_judged p at tree.Continue (nat_lt 0 p.flow.loops) (λ f same alive sees apart. refl))
  statement_scoped p (syntax.Break at) none h = ends p (Made p) _ (jump_judged p at tree.Break (nat_lt 0 p.flow.breakables) (λ f same alive sees apart. refl))
  statement_scoped p (syntax.Return at e) none h = return_comes p at e

  pub items_scoped : (p : Point) (parts : PartsView) (ts : syntax.StatementTrees) → DeclareInBlocks ts → Itemized p parts (spec.items local_declaration p parts ts)
  items_scoped p parts syntax.NoStatement h = (refl, adds_nothing p.state p.state p.flow.returns parts (stays_same p.state))
  items_scoped p parts (syntax.MoreStatements t ts) h =
      then_items p parts (spec.item_of local_declaration p parts t) (λ more q. spec.items local_declaration q more ts)
      (item_itemized p parts (spec.statement local_declaration p t) (declaration_of t) (λ none. statement_scoped p t none h.0))
      (λ more q. items_scoped q more ts h.1)
