-- What typing makes of statements is marked.
use Rattle.std.proofs.Common.{◌≡◌, ℕ, ℤ, length, Option, Some, None, Ok, Err, refl, ap, subst, sym, ◌∙◌}
use Rattle.std.specs.Prelude.{Bool, true, false, not, ◌&&◌, ◌==◌, cond, is_some, nat_lt}
use Rattle.std.proofs.lemmas.Option.{same_Some}
use Rattle.cc_base.specs.declared.diagnostics.Place.{Place}
use Rattle.cc_base.specs.declared.int_types.IntType.{IntType}
use Rattle.c_layout.specs.Types.{Ty, Int, Pointer, Array, Struct, Void}
use Rattle.c_layout.specs.CheckedTrees as made
use Rattle.c_layout.specs.CheckedTrees.{TermTree, StatementTree, statement_trees}
use Rattle.c_layout.specs.CheckedUnits.{FunctionView, UnitView}
use Rattle.c_layout.specs.SyntaxTrees.{Tree}
use Rattle.c_layout.specs.DeclarationTrees as syntax
use Rattle.c_layout.specs.DeclarationTrees.{LocalView, ForFirstView, NoClause, Clause, Declares}
use Rattle.c_layout.specs.declared.data_model.Model.{Model}
use Rattle.c_types_rules.specs.Rules.IntegerKinds.{promoted}
use Rattle.c_types_scopes.specs.Names as names
use Rattle.c_types_scopes.specs.Names.{number_in, known_in}
use Rattle.c_types_scopes.specs.Refusals.{Ruled, type_fault, redeclared}
use Rattle.c_types_scopes.specs.Answers.{after, kept}
use Rattle.c_types_scopes.specs.States.{State}
use Rattle.c_types_operands.specs.Operands.{term_of, is_scalar, is_void}
use Rattle.c_types_operands.specs.Operands as operands
use Rattle.c_types_operands.specs.Conversions.{integer_as, assigned}
use Rattle.c_types_expressions.specs.Expressions.Expressions.{typed}
use Rattle.c_types_statement_rules.specs.Objects.LocalObjects.{PartsView}
use Rattle.c_types_statement_rules.specs.StatementRules.BodyFlow.{FlowView, SwitchView, innermost, case_in, defaulted_in, flow_with_default, flow_default, is_met, label_of, with_new_label}
use Rattle.c_types_statement_rules.specs.StatementRules.Points.{Point, point}
use Rattle.c_types_statement_rules.specs.StatementRules.SimpleStatements as simple
use Rattle.c_types_statement_rules.specs.StatementRules.CompoundStatements as compound
use Rattle.c_types_statement_rules.specs.StatementRules.CompoundStatements.{ControllingView}
use Rattle.c_types_statement_rules.specs.StatementRules.StatementNodes as nodes
use Rattle.c_types_statement_rules.specs.StatementRules.StatementNodes.{no_parts, in_loop, in_switch}
use Rattle.c_types_statement_rules.specs.declared.statement_rules.compound_statements.CaseStanding.{CaseStanding}
use Rattle.c_types_statement_rules.specs.declared.statement_rules.compound_statements.CaseStanding.TheVariants as standing
use Rattle.c_types_statements.specs.LabelNumbers as labels
use Rattle.c_types_statements.specs.LocalDeclarations.{local_declaration}
use Rattle.c_types_statements.specs.Statements as spec
use Rattle.lower_conditions.specs.Tests.{named}
use Rattle.lower_templates.specs.Worklist.TermKinds.{term_type}
use Rattle.lower_templates.specs.Worklist.TermKinds as kinds
use Rattle.source_preservation.specs.Checks.LookedTypes.{is_scalar_type}
use Rattle.source_preservation.specs.Checks.LookedTerms.{is_well_typed_term, is_well_typed_condition, has_tests}
use Rattle.source_preservation.specs.UnitChecks.LookedStatements.{is_well_typed_if, is_well_typed_step, selects_by, is_well_typed_return, is_well_typed_statement, are_well_typed_statements}
use Rattle.c_types_well_formed.specs.WellFormed.ModelTypes.{IsTypeOf}
use Rattle.c_types_well_formed.specs.WellFormed.MadeTerms.{IsMade, IsMadeOperand}
use Rattle.c_types_well_formed.specs.WellFormed.UnitParts.{IsPartOf}
use Rattle.c_types_well_formed.specs.WellFormed.ProperTrees.{IsProperTree}
use Rattle.c_types_well_formed.specs.WellFormed.ProperStatements.{IsProperIf, IsProperLocal, IsProperFirst, IsProperStatement, AreProperStatements}
use Rattle.c_types_well_formed.specs.Initializers.ReadyStates.{IsReady, Goes}
use Rattle.c_types_well_formed.specs.Initializers.PartLaws.{HasLaws}
use Rattle.c_types_well_formed.specs.Initializers.WellTypedDeclarations.{AreWellTypedParts}
use Rattle.c_types_well_formed.proofs.initializers.Going.{IsPassed, ground, then}
use Rattle.c_types_well_formed.proofs.initializers.Going as going
use Rattle.c_types_well_formed.proofs.initializers.ReadySteps.{scoped_ready, scoped_passes, named_ready, constant_ready, constant_passes}
use Rattle.c_types_well_formed.proofs.initializers.Initializing.{GivesScalar, typed_goes, value_made, term_given}
use Rattle.c_types_well_formed.proofs.initializers.Declaring.{both, well_typed_more, Adds, local_adds}

-- ---- conditions

scalar_used : (t : Ty) → is_scalar t ≡ true → not (is_void t) ≡ true
scalar_used (Int kind) h = refl
scalar_used (Pointer t) h = refl
scalar_used (Array t n) h = refl
scalar_used (Struct i) h = refl
scalar_used Void h = absurd (cc)

condition_well_typed : (u : UnitView) (e : TermTree) → is_scalar (operands.term_type e) ≡ true → IsMade u e → is_well_typed_condition u true e ≡ true
condition_well_typed u e scalar h = both (is_well_typed_term u true e) (has_tests u true e) (ap (λ b. is_well_typed_term u b e) (sym (scalar_used (operands.term_type e) scalar)) ∙ h.well_typed) (h.tests scalar true)

-- ---- what a switch selects by

record IsControlled (m : Model) (t : Ty) (kind : IntType) : Type 0 where
  old : IntType
  typed : t ≡ Int old
  is : promoted m old ≡ kind

control_is : (m : Model) (t : Ty) (kind : IntType) → compound.control_kind m t ≡ Some kind → IsControlled m t kind
control_is m (Int old) kind h = record { old = old; typed = refl; is = same_Some (promoted m old) kind h }
control_is m (Pointer t) kind h = absurd (cc)
control_is m (Array t n) kind h = absurd (cc)
control_is m (Struct i) kind h = absurd (cc)
control_is m Void kind h = absurd (cc)

-- ---- results of flows

case_returns : (f : FlowView) (at : Place) (n : ℤ) (o : Option SwitchView) → (case_in f at n o).returns ≡ f.returns
case_returns f at n None = refl
case_returns f at n (Some s) = refl

default_returns : (f : FlowView) (o : Option SwitchView) → (defaulted_in f o).returns ≡ f.returns
default_returns f None = refl
default_returns f (Some s) = refl

label_returns : (f : FlowView) (name : ℕ) (b : Bool) → (cond b f (with_new_label f name)).returns ≡ f.returns
label_returns f name true = refl
label_returns f name false = refl

-- ---- declarations among statements

abbrev IsProperDeclaration : Model → Option LocalView → Type 0
IsProperDeclaration m None = Unit {0}
IsProperDeclaration m (Some l) = IsProperLocal m l

declaration_proper : (m : Model) (t : syntax.StatementTree) → IsProperStatement m t → IsProperDeclaration m (spec.declaration_of t)
declaration_proper m (syntax.Declaration l) h = h
declaration_proper m (syntax.Label n t) h = tt
declaration_proper m (syntax.Case at e t) h = tt
declaration_proper m (syntax.Default at t) h = tt
declaration_proper m (syntax.Block at ts) h = tt
declaration_proper m (syntax.Expression at e) h = tt
declaration_proper m (syntax.If at e t) h = tt
declaration_proper m (syntax.IfElse at e t u) h = tt
declaration_proper m (syntax.Switch at e t) h = tt
declaration_proper m (syntax.While at e t) h = tt
declaration_proper m (syntax.Do at t e) h = tt
declaration_proper m (syntax.For at f e step t) h = tt
declaration_proper m (syntax.Goto at n) h = tt
declaration_proper m (syntax.Continue at) h = tt
declaration_proper m (syntax.Break at) h = tt
declaration_proper m (syntax.Return at e) h = tt

-- ---- clauses of `for`

abbrev IsTest : UnitView → Option TermTree → Type 0
IsTest u None = Unit {0}
IsTest u (Some e) = IsMade u e

abbrev IsStep : UnitView → Option TermTree → Type 0
IsStep u e = is_well_typed_step u e ≡ true

module _ (laws : HasLaws) (m : Model) (returns : Ty) (result : IsTypeOf m returns) where
  abbrev IsWellTyped : UnitView → StatementTree → Type 0
  IsWellTyped u x = (f : FunctionView) → f.returns ≡ returns → is_well_typed_statement u f x ≡ true

  -- ---- statements without statements in them

  valued_goes : (s : State) (e : Tree) → IsReady m s → IsProperTree m e → Goes m s going.nothing IsMade (simple.valued s e)
  valued_goes s e h proper = then m s going.nothing IsMadeOperand going.nothing IsMade (typed s e) simple.value_in (typed_goes laws m s e h proper) (λ x t ready n. (ready, tt, λ u part. (part, λ g. value_made laws m t u x ready part g)))

  abbrev IsUnused : UnitView → TermTree → Type 0
  IsUnused u e = is_well_typed_term u false e ≡ true

  effect_goes : (s : State) (e : Tree) → IsReady m s → IsProperTree m e → Goes m s going.nothing IsUnused (simple.effect s e)
  effect_goes s e h proper = then m s going.nothing IsMade going.nothing IsUnused (simple.valued s e) simple.effect_in (valued_goes s e h proper) (λ x t ready n. (ready, tt, λ u part. (part, λ g. laws.unused u t.known (ground m t u ready part) x g)))

  value_statement_goes : (s : State) (e : Option Tree) → IsReady m s → IsProperIf m e → Goes m s going.nothing IsWellTyped (simple.value_statement s e)
  value_statement_goes s None h proper = (h, tt, λ u part. (part, λ f same. refl))
  value_statement_goes s (Some e) h proper = then m s going.nothing IsUnused going.nothing IsWellTyped (simple.effect s e) simple.as_statement (effect_goes s e h proper) (λ x t ready n. (ready, tt, λ u part. (part, λ g f same. g)))

  nothing_returned : (s : State) (at : Place) (t : Ty) → IsReady m s → Goes m s going.nothing IsWellTyped (kept s (simple.return_nothing at t))
  nothing_returned s at Void h = (h, tt, λ u part. (part, λ f same. refl))
  nothing_returned s at (Int kind) h = tt
  nothing_returned s at (Pointer t) h = tt
  nothing_returned s at (Array t n) h = tt
  nothing_returned s at (Struct i) h = tt

  -- a value that is returned, of which it is known that there is a result
  abbrev IsReturned : UnitView → TermTree → Type 0
  IsReturned u e = (is_well_typed_term u true e ≡ true) × (is_scalar_type u (term_type e) ≡ true) × (not (kinds.is_void returns) ≡ true)

  given_returned : (s : State) (x : TermTree) (r : Ruled TermTree) → IsReady m s → not (kinds.is_void returns) ≡ true → ((u : UnitView) → IsPartOf s u → IsMade u x → GivesScalar u r) → Goes m s going.nothing (λ u e. IsMade u x → IsReturned u e) (kept s r)
  given_returned s x (Ok e) h value g = (h, tt, λ u part. (part, λ made. (let a = g u part made in (a.0, a.1, value))))
  given_returned s x (Err f) h value g = tt

  returned_goes : (s : State) (at : Place) (x : TermTree) (to : Ty) → to ≡ returns → IsReady m s → ((u : UnitView) → IsPartOf s u → IsMade u x → GivesScalar u (assigned s.known at x to)) → Goes m s going.nothing (λ u e. IsMade u x → IsReturned u e) (kept s (simple.returned s.known at x to))
  returned_goes s at x Void same h g = tt
  returned_goes s at x (Int kind) same h g = given_returned s x (assigned s.known at x (Int kind)) h (subst (λ t. not (kinds.is_void t) ≡ true) same refl) g
  returned_goes s at x (Pointer t) same h g = given_returned s x (assigned s.known at x (Pointer t)) h (subst (λ t. not (kinds.is_void t) ≡ true) same refl) g
  returned_goes s at x (Array t n) same h g = given_returned s x (assigned s.known at x (Array t n)) h (subst (λ t. not (kinds.is_void t) ≡ true) same refl) g
  returned_goes s at x (Struct i) same h g = given_returned s x (assigned s.known at x (Struct i)) h (subst (λ t. not (kinds.is_void t) ≡ true) same refl) g

  return_well_typed : (u : UnitView) (e : TermTree) → IsReturned u e → (f : FunctionView) → f.returns ≡ returns → is_well_typed_return u f (Some e) ≡ true
  return_well_typed u e h f same =
      both (is_well_typed_term u true e) (is_scalar_type u (term_type e) && not (kinds.is_void f.returns)) h.0
      (both (is_scalar_type u (term_type e)) (not (kinds.is_void f.returns)) h.1 (ap (λ t. not (kinds.is_void t)) same ∙ h.2))

  return_goes : (s : State) (f : FlowView) (at : Place) (e : Option Tree) → f.returns ≡ returns → IsReady m s → IsProperIf m e → Goes m s going.nothing IsWellTyped (simple.return_statement s f at e)
  return_goes s f at None same h proper = nothing_returned s at f.returns h
  return_goes s f at (Some e) same h proper = then m s going.nothing IsReturned going.nothing IsWellTyped (simple.return_value s f at e) (simple.as_return at)
      (then m s going.nothing IsMade going.nothing IsReturned (simple.valued s e) (λ x t. kept t (simple.returned t.known at x f.returns)) (valued_goes s e h proper)
      (λ x t ready n. returned_goes t at x f.returns same ready (λ u part made. term_given laws m t u at x f.returns ready part (subst (IsTypeOf m) (sym same) result) made)))
      (λ x t ready n. (ready, tt, λ u part. (part, λ g fn is. return_well_typed u x g fn is)))

  step_clause_goes : (s : State) (e : Option Tree) → IsReady m s → IsProperIf m e → Goes m s going.nothing IsStep (nodes.step_clause s e)
  step_clause_goes s None h proper = (h, tt, λ u part. (part, refl))
  step_clause_goes s (Some e) h proper = then m s going.nothing IsUnused going.nothing IsStep (simple.effect s e) nodes.present (effect_goes s e h proper) (λ x t ready n. (ready, tt, λ u part. (part, λ g. g)))

  test_clause_goes : (s : State) (e : Option Tree) → IsReady m s → IsProperIf m e → Goes m s going.nothing IsTest (nodes.test_clause s e)
  test_clause_goes s None h proper = (h, tt, λ u part. (part, tt))
  test_clause_goes s (Some e) h proper = then m s going.nothing IsMade going.nothing IsTest (simple.valued s e) nodes.present (valued_goes s e h proper) (λ x t ready n. (ready, tt, λ u part. (part, λ g. g)))

  -- a controlling expression, whose type in the end is promoted
  abbrev IsControlling : UnitView → ControllingView → Type 0
  IsControlling u c = IsMade u c.term × (c.kind ≡ compound.control_kind m (operands.term_type c.term))

  controlling_goes : (s : State) (e : Tree) → IsReady m s → IsProperTree m e → Goes m s going.nothing IsControlling (compound.controlling_expression s e)
  controlling_goes s e h proper = then m s going.nothing IsMadeOperand going.nothing IsControlling (typed s e) compound.controlling_of (typed_goes laws m s e h proper)
      (λ x t ready n. (ready, tt, λ u part. (part, λ g. (value_made laws m t u x ready part g, ap (λ k. compound.control_kind k (operands.term_type (term_of x))) ready.numbers))))

  first_goes : (s : State) (f : ForFirstView) (parts : PartsView) → IsReady m s → IsProperFirst m f → Adds laws m returns s parts (spec.first_clause local_declaration s f parts)
  first_goes s NoClause parts h proper = (h, tt, λ u part. (part, λ all. all))
  first_goes s (Clause e) parts h proper = then m s going.nothing IsUnused going.nothing (λ u q. AreWellTypedParts returns u parts → AreWellTypedParts returns u q) (simple.effect s e) (spec.clause_statement parts) (effect_goes s e h proper)
      (λ x t ready n. (ready, tt, λ u part. (part, λ g all f same. well_typed_more u f parts.statements (made.Value x) (all f same) g)))
  first_goes s (Declares l) parts h proper = local_adds laws m returns s l parts h proper

  -- the clauses of a `for`
  abbrev AreClauses : UnitView → spec.ClausesView → Type 0
  AreClauses u c = AreWellTypedParts returns u c.parts × IsTest u c.test × IsStep u c.step

  clauses_go : (s : State) (f : ForFirstView) (e stepping : Option Tree) → IsReady m s → IsProperFirst m f → IsProperIf m e → IsProperIf m stepping → Goes m s going.nothing AreClauses (spec.clauses local_declaration s f e stepping)
  clauses_go s f e stepping h first test step = then m s going.nothing (λ u q. AreWellTypedParts returns u no_parts → AreWellTypedParts returns u q) going.nothing AreClauses (spec.first_clause local_declaration s f no_parts) _ (first_goes s f no_parts h first)
      (λ parts t ready n.
      then m t going.nothing IsTest going.nothing (λ u c. (AreWellTypedParts returns u no_parts → AreWellTypedParts returns u parts) → AreClauses u c) (nodes.test_clause t e) _ (test_clause_goes t e ready test)
      (λ x v ready1 n1.
      then m v going.nothing IsStep going.nothing (λ u c. IsTest u x → (AreWellTypedParts returns u no_parts → AreWellTypedParts returns u parts) → AreClauses u c) (nodes.step_clause v stepping) (spec.as_clauses parts x) (step_clause_goes v stepping ready1 step)
      (λ y w ready2 n2. (ready2, tt, λ u part. (part, λ is_step is_test all. (all (λ fn same. refl), is_test, is_step))))))

  -- ---- points

  -- what a statement makes, and the point behind it
  abbrev pub Comes : {V : Type 0} → State → (UnitView → V → Type 0) → Ruled (V × Point) → Type 0
  Comes s P (Ok q) = IsReady m q.1.state × (q.1.flow.returns ≡ returns) × ((u : UnitView) → IsPartOf q.1.state u → IsPartOf s u × P u q.0)
  Comes s P (Err f) = Unit {0}

  comes_on : {V : Type 0} (s t : State) (P : UnitView → V → Type 0) (r : Ruled (V × Point)) → IsPassed s t → Comes t P r → Comes s P r
  comes_on s t P (Ok q) passed h = (h.0, h.1, λ u part. (let a = h.2 u part in (passed u a.0, a.1)))
  comes_on s t P (Err f) passed h = tt

  walk : {U V : Type 0} (s : State) (P : UnitView → U → Type 0) (Q : UnitView → V → Type 0) (r : Ruled (U × Point)) (next : U → Point → Ruled (V × Point)) → Comes s P r → ((x : U) (p : Point) → IsReady m p.state → p.flow.returns ≡ returns → Comes p.state (λ u y. P u x → Q u y) (next x p)) → Comes s Q (after r next)
  walk {V = V} s P Q (Ok p) next h go = on (next p.0 p.1) (go p.0 p.1 h.0 h.1)
    where
      on : (r : Ruled (V × Point)) → Comes p.1.state (λ u y. P u p.0 → Q u y) r → Comes s Q r
      on (Ok q) i = (i.0, i.1, λ u part. (let a = i.2 u part in let b = h.2 u a.0 in (b.0, a.1 b.1)))
      on (Err f) i = tt
  walk s P Q (Err f) next h go = tt

  in_flow : {V : Type 0} (s : State) (f : FlowView) (P : UnitView → V → Type 0) (r : Ruled (V × State)) → f.returns ≡ returns → Goes m s going.nothing P r → Comes s P (spec.in_flow f r)
  in_flow s f P (Ok p) same h = (h.0, same, h.2)
  in_flow s f P (Err e) same h = tt

  -- what a rule gives in a point
  abbrev Ends : {V : Type 0} → State → (UnitView → V → Type 0) → Ruled V → Type 0
  Ends s P (Ok v) = (u : UnitView) → IsPartOf s u → P u v
  Ends s P (Err f) = Unit {0}

  ends : {V : Type 0} (q : Point) (P : UnitView → V → Type 0) (rule : Ruled V) → IsReady m q.state → q.flow.returns ≡ returns → Ends q.state P rule → Comes q.state P (kept q rule)
  ends q P (Ok v) h same g = (h, same, λ u part. (part, g u part))
  ends q P (Err f) h same g = tt

  -- ---- cases

  abbrev any : UnitView → CaseStanding → Type 0
  any u k = Unit {0}

  standing_of_comes : (f : FlowView) (at : Place) (e : TermTree) (s : State) (n : Option ℤ) → IsReady m s → f.returns ≡ returns → Comes s any (compound.standing_of f at e s n)
  standing_of_comes f at e s None h same = (h, same, λ u part. (part, tt))
  standing_of_comes f at e s (Some n) h same = (constant_ready m s h e, case_returns f at n (innermost f) ∙ same, λ u part. (constant_passes s e u part, tt))

  standing_in_comes : (f : FlowView) (at : Place) (e : TermTree) (s : State) (b : Bool) → IsReady m s → f.returns ≡ returns → Comes s any (cond b (Ok (standing.Stray, point s f)) (compound.standing_of f at e s (compound.case_constant e)))
  standing_in_comes f at e s true h same = (h, same, λ u part. (part, tt))
  standing_in_comes f at e s false h same = standing_of_comes f at e s (compound.case_constant e) h same

  standing_comes : (f : FlowView) (at : Place) (s : State) (r : Ruled (TermTree × State)) → f.returns ≡ returns → Goes m s going.nothing IsMade r → Comes s any (compound.standing_by f at r)
  standing_comes f at s (Ok v) same h = comes_on s v.1 any (compound.standing_in f at v.0 v.1) (λ u part. (h.2 u part).0) (standing_in_comes f at v.0 v.1 (length f.switches == 0) h.0 same)
  standing_comes f at s (Err e) same h = tt

  case_ends : (s : State) (at : Place) (k : CaseStanding) (x : StatementTree) → Ends s (λ u y. IsWellTyped u x → any u k → IsWellTyped u y) (compound.case_statement at k x)
  case_ends s at standing.Stray x = tt
  case_ends s at standing.Variable x = tt
  case_ends s at (standing.Added a) x = by_added a.is_repeated
    where
      by_added : (b : Bool) → Ends s (λ u y. IsWellTyped u x → any u (standing.Added a) → IsWellTyped u y) (cond b (redeclared at) (Ok (made.Case a.number x)))
      by_added true = tt
      by_added false = λ u part g n. g

  default_ends : (s : State) (at : Place) (b : Option Bool) (x : StatementTree) → Ends s (λ u y. IsWellTyped u x → IsWellTyped u y) (compound.default_statement at b x)
  default_ends s at None x = tt
  default_ends s at (Some true) x = tt
  default_ends s at (Some false) x = λ u part g. g

  label_ends : (s : State) (at : Place) (number : ℕ) (b : Bool) (x : StatementTree) → Ends s (λ u y. IsWellTyped u x → IsWellTyped u y) (nodes.label_node at number b x)
  label_ends s at number true x = tt
  label_ends s at number false x = λ u part g. g

  goto_ends : (s : State) (at : Place) (n : Option ℕ) → Ends s IsWellTyped (simple.goto_to at n)
  goto_ends s at None = tt
  goto_ends s at (Some n) = λ u part f same. refl

  plain_ends : (s : State) (at : Place) (b : Bool) (x : StatementTree) → ((u : UnitView) → IsWellTyped u x) → Ends s IsWellTyped (cond b (Ok x) (type_fault at))
  plain_ends s at true x g = λ u part. g u
  plain_ends s at false x g = tt

  -- ---- statements with conditions

  controlled_ends : (s : State) (P : UnitView → StatementTree → Type 0) (node : TermTree → StatementTree) (at : Place) (e : TermTree) (b : Bool) → is_scalar (operands.term_type e) ≡ b → (is_scalar (operands.term_type e) ≡ true → (u : UnitView) → P u (node e)) → Ends s P (nodes.controlled node (cond b (Ok e) (type_fault at)))
  controlled_ends s P node at e true is g = λ u part. g is u
  controlled_ends s P node at e false is g = tt

  if_ends : (s : State) (at : Place) (e : TermTree) (x : StatementTree) → Ends s (λ u y. IsWellTyped u x → IsMade u e → IsWellTyped u y) (nodes.if_node at e x)
  if_ends s at e x = controlled_ends s (λ u y. IsWellTyped u x → IsMade u e → IsWellTyped u y) (λ c. made.If c x) at e (is_scalar (operands.term_type e)) refl (λ scalar u g h f same. both (is_well_typed_condition u true e) (is_well_typed_statement u f x) (condition_well_typed u e scalar h) (g f same))

  if_else_ends : (s : State) (at : Place) (v : TermTree × StatementTree) (x : StatementTree) → Ends s (λ u y. IsWellTyped u x → (IsMade u v.0 × IsWellTyped u v.1) → IsWellTyped u y) (nodes.if_else_node at v.0 v.1 x)
  if_else_ends s at v x = controlled_ends s (λ u y. IsWellTyped u x → (IsMade u v.0 × IsWellTyped u v.1) → IsWellTyped u y) (λ c. made.IfElse c v.1 x) at v.0 (is_scalar (operands.term_type v.0)) refl
      (λ scalar u g h f same. both (is_well_typed_condition u true v.0) (is_well_typed_statement u f v.1 && is_well_typed_statement u f x) (condition_well_typed u v.0 scalar h.0) (both (is_well_typed_statement u f v.1) (is_well_typed_statement u f x) (h.1 f same) (g f same)))

  while_ends : (s : State) (at : Place) (e : TermTree) (x : StatementTree) → Ends s (λ u y. IsWellTyped u x → IsMade u e → IsWellTyped u y) (nodes.while_node at e x)
  while_ends s at e x = controlled_ends s (λ u y. IsWellTyped u x → IsMade u e → IsWellTyped u y) (λ c. made.While c x) at e (is_scalar (operands.term_type e)) refl (λ scalar u g h f same. both (is_well_typed_condition u true e) (is_well_typed_statement u f x) (condition_well_typed u e scalar h) (g f same))

  do_ends : (s : State) (at : Place) (e : TermTree) (x : StatementTree) → Ends s (λ u y. IsMade u e → IsWellTyped u x → IsWellTyped u y) (nodes.do_node at e x)
  do_ends s at e x = controlled_ends s (λ u y. IsMade u e → IsWellTyped u x → IsWellTyped u y) (λ c. made.Do x c) at e (is_scalar (operands.term_type e)) refl (λ scalar u h g f same. both (is_well_typed_condition u true e) (is_well_typed_statement u f x) (condition_well_typed u e scalar h) (g f same))

  for_well_typed : (u : UnitView) (c : spec.ClausesView) (test : Option TermTree) (x : StatementTree) → is_well_typed_if u test ≡ true → IsWellTyped u x → AreClauses u c → IsWellTyped u (made.For c.parts.objects (statement_trees c.parts.statements) test c.step x)
  for_well_typed u c test x tested g h f same =
      both (are_well_typed_statements u f (statement_trees c.parts.statements)) (is_well_typed_if u test && (is_well_typed_step u c.step && is_well_typed_statement u f x)) (h.0 f same)
      (both (is_well_typed_if u test) (is_well_typed_step u c.step && is_well_typed_statement u f x) tested (both (is_well_typed_step u c.step) (is_well_typed_statement u f x) h.2 (g f same)))

  for_ends : (s : State) (at : Place) (c : spec.ClausesView) (test : Option TermTree) (x : StatementTree) → c.test ≡ test → Ends s (λ u y. IsWellTyped u x → AreClauses u c → IsWellTyped u y) (nodes.for_node at c.parts test c.step x)
  for_ends s at c None x is = λ u part g h. for_well_typed u c None x refl g h
  for_ends s at c (Some e) x is = by_condition (is_scalar (operands.term_type e)) refl
    where
      by_condition : (b : Bool) → is_scalar (operands.term_type e) ≡ b → Ends s (λ u y. IsWellTyped u x → AreClauses u c → IsWellTyped u y) (nodes.for_controlled c.parts c.step x (cond b (Ok e) (type_fault at)))
      by_condition true scalar = λ u part g h. for_well_typed u c (Some e) x (condition_well_typed u e scalar (subst (IsTest u) is h.1)) g h
      by_condition false scalar = tt

  -- ---- switches

  switch_comes : (q : Point) (at : Place) (c : ControllingView) (x : StatementTree) (kind : Option IntType) → c.kind ≡ kind → IsReady m q.state → q.flow.returns ≡ returns → Comes q.state (λ u y. IsWellTyped u x → IsControlling u c → IsWellTyped u y) (spec.in_state q.state (compound.switch_of q.state q.flow at c x kind))
  switch_comes q at c x None is h same = tt
  switch_comes q at c x (Some kind) is h same = (h, same, λ u part. (part, λ g controlled f returned. both (selects_by u (integer_as q.state.known c.term kind) (named (integer_as q.state.known c.term kind))) (is_well_typed_statement u f x) (selects u part controlled) (g f returned)))
    where
      selects : (u : UnitView) → IsPartOf q.state u → IsControlling u c → selects_by u (integer_as q.state.known c.term kind) (named (integer_as q.state.known c.term kind)) ≡ true
      selects u part controlled =
          let old = control_is m (operands.term_type c.term) kind (sym controlled.1 ∙ is) in
          let promotes : promoted q.state.known.numbers old.old ≡ kind = ap (λ n. promoted n old.old) h.numbers ∙ old.is in
          subst (λ k. selects_by u (integer_as q.state.known c.term k) (named (integer_as q.state.known c.term k)) ≡ true) promotes (laws.switches u q.state.known (ground m q.state u h part) c.term old.old controlled.0 old.typed)

  -- ---- statements

  in_scope_ready : (p : Point) → IsReady m p.state → IsReady m (spec.in_scope p).state
  in_scope_ready p h = scoped_ready m p.state h (names.opened p.state.scopes) refl

  out_of_scope_ready : (p : Point) → IsReady m p.state → IsReady m (spec.out_of_scope p).state
  out_of_scope_ready p h = scoped_ready m p.state h (names.closed p.state.scopes) refl

  value_comes : (p : Point) (e : Tree) → IsReady m p.state → p.flow.returns ≡ returns → IsProperTree m e → Comes p.state IsMade (spec.in_flow p.flow (simple.valued p.state e))
  value_comes p e h same proper = in_flow p.state p.flow IsMade (simple.valued p.state e) same (valued_goes p.state e h proper)

  -- a statement behind others of a block
  abbrev pub Stands : State → PartsView → Ruled (PartsView × Point) → Type 0
  Stands s parts r = Comes s (λ u q. AreWellTypedParts returns u parts → AreWellTypedParts returns u q) r

  item_comes : (p : Point) (parts : PartsView) (t : syntax.StatementTree) (l : Option LocalView) → IsProperDeclaration m l → IsReady m p.state → p.flow.returns ≡ returns → Comes p.state IsWellTyped (spec.statement local_declaration p t) → Stands p.state parts (spec.item local_declaration p parts (spec.statement local_declaration p t) l)
  item_comes p parts t (Some l) proper h same g = in_flow p.state p.flow (λ u q. AreWellTypedParts returns u parts → AreWellTypedParts returns u q) (local_declaration p.state l parts) same (local_adds laws m returns p.state l parts h proper)
  item_comes p parts t None proper h same g = walk p.state IsWellTyped (λ u q. AreWellTypedParts returns u parts → AreWellTypedParts returns u q) (spec.statement local_declaration p t) (spec.with_statement parts) g
      (λ x q ready is. (ready, is, λ u part. (part, λ well_typed all f returned. well_typed_more u f parts.statements x (all f returned) (well_typed f returned))))

  further : (s : State) (parts : PartsView) (r : Ruled (PartsView × Point)) (next : PartsView → Point → Ruled (PartsView × Point)) → Stands s parts r → ((x : PartsView) (q : Point) → IsReady m q.state → q.flow.returns ≡ returns → Stands q.state x (next x q)) → Stands s parts (after r next)
  further s parts (Ok p) next h go = on (next p.0 p.1) (go p.0 p.1 h.0 h.1)
    where
      on : (r : Ruled (PartsView × Point)) → Stands p.1.state p.0 r → Stands s parts r
      on (Ok q) i = (i.0, i.1, λ u part. (let a = i.2 u part in let b = h.2 u a.0 in (b.0, λ all. a.1 (b.1 all))))
      on (Err f) i = tt
  further s parts (Err f) next h go = tt

  -- the body of a loop or a switch
  left_comes : (s : State) (r : Ruled (StatementTree × Point)) (leave : FlowView → FlowView) → ((f : FlowView) → (leave f).returns ≡ f.returns) → Comes s IsWellTyped r → Comes s IsWellTyped (after r (λ x p. Ok (x, spec.with_flow leave p)))
  left_comes s (Ok q) leave same h = (h.0, same q.1.flow ∙ h.1, h.2)
  left_comes s (Err f) leave same h = tt

  scope_comes : (s : State) (r : Ruled (StatementTree × Point)) → Comes s IsWellTyped r → Comes s IsWellTyped (after r spec.scope_left)
  scope_comes s (Ok q) h = (out_of_scope_ready q.1 h.0, h.1, λ u part. h.2 u (scoped_passes q.1.state (names.closed q.1.state.scopes) u part))
  scope_comes s (Err f) h = tt

  block_comes : (s : State) (r : Ruled (PartsView × Point)) → Stands s no_parts r → Comes s IsWellTyped (after r spec.block_in)
  block_comes s (Ok q) h = (out_of_scope_ready q.1 h.0, h.1, λ u part. (let a = h.2 u (scoped_passes q.1.state (names.closed q.1.state.scopes) u part) in (a.0, λ f same. a.1 (λ fn is. refl) f same)))
  block_comes s (Err f) h = tt

  alone_goes : (s : State) (r : Ruled (PartsView × State)) → Adds laws m returns s no_parts r → Goes m s going.nothing IsWellTyped (after r spec.alone)
  alone_goes s (Ok q) h = (h.0, tt, λ u part. (let a = h.2 u part in (a.0, λ f same. a.1 (λ fn is. refl) f same)))
  alone_goes s (Err f) h = tt

  mutual
    pub statement_comes : (t : syntax.StatementTree) (p : Point) → IsReady m p.state → p.flow.returns ≡ returns → IsProperStatement m t → Comes p.state IsWellTyped (spec.statement local_declaration p t)
    statement_comes (syntax.Declaration l) p h same proper = in_flow p.state p.flow IsWellTyped (after (local_declaration p.state l no_parts) spec.alone) same (alone_goes p.state (local_declaration p.state l no_parts) (local_adds laws m returns p.state l no_parts h proper))
    statement_comes (syntax.Label n t) p h same proper =
        let p1 : Point = spec.at_label p n in
        comes_on p.state p1.state IsWellTyped (spec.statement local_declaration p (syntax.Label n t)) (scoped_passes p.state p1.state.scopes)
        (walk p1.state IsWellTyped IsWellTyped (spec.statement local_declaration p1 t) _ (statement_comes t p1 (named_ready m p.state h n.text) same proper)
        (λ x q ready is. ends q (λ u y. IsWellTyped u x → IsWellTyped u y) (nodes.label_node n.at (spec.label_number p n) (is_met p.flow (spec.label_number p n)) x) ready is (label_ends q.state n.at (spec.label_number p n) (is_met p.flow (spec.label_number p n)) x)))
    statement_comes (syntax.Case at e t) p h same proper = walk p.state any IsWellTyped (compound.case_standing p at e) _ (standing_comes p.flow at p.state (simple.valued p.state e) same (valued_goes p.state e h proper.0))
        (λ k p1 ready1 same1.
        walk p1.state IsWellTyped (λ u y. any u k → IsWellTyped u y) (spec.statement local_declaration p1 t) _ (statement_comes t p1 ready1 same1 proper.1)
        (λ x q ready is. ends q (λ u y. IsWellTyped u x → any u k → IsWellTyped u y) (compound.case_statement at k x) ready is (case_ends q.state at k x)))
    statement_comes (syntax.Default at t) p h same proper = walk p.state IsWellTyped IsWellTyped (spec.statement local_declaration (spec.with_flow flow_with_default p) t) _ (statement_comes t (spec.with_flow flow_with_default p) h (default_returns p.flow (innermost p.flow) ∙ same) proper)
        (λ x q ready is. ends q (λ u y. IsWellTyped u x → IsWellTyped u y) (compound.default_statement at (flow_default p.flow) x) ready is (default_ends q.state at (flow_default p.flow) x))
    statement_comes (syntax.Block at ts) p h same proper =
        let p1 : Point = spec.in_scope p in
        comes_on p.state p1.state IsWellTyped (spec.statement local_declaration p (syntax.Block at ts)) (scoped_passes p.state p1.state.scopes) (block_comes p1.state (spec.items local_declaration p1 no_parts ts) (items_come ts p1 no_parts (in_scope_ready p h) same proper))
    statement_comes (syntax.Expression at e) p h same proper = in_flow p.state p.flow IsWellTyped (simple.value_statement p.state e) same (value_statement_goes p.state e h proper)
    statement_comes (syntax.If at e t) p h same proper = walk p.state IsMade IsWellTyped (spec.in_flow p.flow (simple.valued p.state e)) _ (value_comes p e h same proper.0)
        (λ x p1 ready1 same1.
        walk p1.state IsWellTyped (λ u y. IsMade u x → IsWellTyped u y) (spec.statement local_declaration p1 t) _ (statement_comes t p1 ready1 same1 proper.1)
        (λ body q ready is. ends q (λ u y. IsWellTyped u body → IsMade u x → IsWellTyped u y) (nodes.if_node at x body) ready is (if_ends q.state at x body)))
    statement_comes (syntax.IfElse at e t v) p h same proper = walk p.state (λ u (x : TermTree × StatementTree). IsMade u x.0 × IsWellTyped u x.1) IsWellTyped (spec.first_branch local_declaration p e t) _
        (walk p.state IsMade (λ u (x : TermTree × StatementTree). IsMade u x.0 × IsWellTyped u x.1) (spec.in_flow p.flow (simple.valued p.state e)) _ (value_comes p e h same proper.0)
        (λ x p1 ready1 same1.
        walk p1.state IsWellTyped (λ u (y : TermTree × StatementTree). IsMade u x → (IsMade u y.0 × IsWellTyped u y.1)) (spec.statement local_declaration p1 t) (spec.both x) (statement_comes t p1 ready1 same1 proper.1.0)
        (λ body q ready is. (ready, is, λ u part. (part, λ well_typed value. (value, well_typed))))))
        (λ x p2 ready2 same2.
        walk p2.state IsWellTyped (λ u y. (IsMade u x.0 × IsWellTyped u x.1) → IsWellTyped u y) (spec.statement local_declaration p2 v) _ (statement_comes v p2 ready2 same2 proper.1.1)
        (λ second q ready is. ends q (λ u y. IsWellTyped u second → (IsMade u x.0 × IsWellTyped u x.1) → IsWellTyped u y) (nodes.if_else_node at x.0 x.1 second) ready is (if_else_ends q.state at x second)))
    statement_comes (syntax.Switch at e t) p h same proper = walk p.state IsControlling IsWellTyped (spec.in_flow p.flow (compound.controlling_expression p.state e)) _ (in_flow p.state p.flow IsControlling (compound.controlling_expression p.state e) same (controlling_goes p.state e h proper.0))
        (λ c p1 ready1 same1.
        walk p1.state IsWellTyped (λ u y. IsControlling u c → IsWellTyped u y) (spec.switch_body local_declaration (spec.at_switch c p1) t) _
        (left_comes p1.state (spec.statement local_declaration (spec.with_flow in_switch (spec.at_switch c p1)) t) (nodes.out_of_switch (spec.at_switch c p1).flow) (λ f. refl) (statement_comes t (spec.with_flow in_switch (spec.at_switch c p1)) ready1 same1 proper.1))
        (λ body q ready is. switch_comes q at c body c.kind refl ready is))
    statement_comes (syntax.While at e t) p h same proper = walk p.state IsMade IsWellTyped (spec.in_flow p.flow (simple.valued p.state e)) _ (value_comes p e h same proper.0)
        (λ x p1 ready1 same1.
        walk p1.state IsWellTyped (λ u y. IsMade u x → IsWellTyped u y) (spec.loop_body local_declaration p1 t) _
        (left_comes p1.state (spec.statement local_declaration (spec.with_flow in_loop p1) t) (nodes.out_of_loop p1.flow) (λ f. refl) (statement_comes t (spec.with_flow in_loop p1) ready1 same1 proper.1))
        (λ body q ready is. ends q (λ u y. IsWellTyped u body → IsMade u x → IsWellTyped u y) (nodes.while_node at x body) ready is (while_ends q.state at x body)))
    statement_comes (syntax.Do at t e) p h same proper = walk p.state IsWellTyped IsWellTyped (spec.loop_body local_declaration p t) _
        (left_comes p.state (spec.statement local_declaration (spec.with_flow in_loop p) t) (nodes.out_of_loop p.flow) (λ f. refl) (statement_comes t (spec.with_flow in_loop p) h same proper.0))
        (λ body p1 ready1 same1.
        walk p1.state IsMade (λ u y. IsWellTyped u body → IsWellTyped u y) (spec.in_flow p1.flow (simple.valued p1.state e)) _ (value_comes p1 e ready1 same1 proper.1)
        (λ x q ready is. ends q (λ u y. IsMade u x → IsWellTyped u body → IsWellTyped u y) (nodes.do_node at x body) ready is (do_ends q.state at x body)))
    statement_comes (syntax.For at f e stepping t) p h same proper =
        let p0 : Point = spec.in_scope p in
        comes_on p.state p0.state IsWellTyped (spec.statement local_declaration p (syntax.For at f e stepping t)) (scoped_passes p.state p0.state.scopes)
        (scope_comes p0.state (spec.for_in_scope local_declaration p0 at f e stepping t)
        (walk p0.state AreClauses IsWellTyped (spec.in_flow p.flow (spec.clauses local_declaration p0.state f e stepping)) _ (in_flow p0.state p.flow AreClauses (spec.clauses local_declaration p0.state f e stepping) same (clauses_go p0.state f e stepping (in_scope_ready p h) proper.0 proper.1.0 proper.1.1.0))
        (λ c p1 ready1 same1.
        walk p1.state IsWellTyped (λ u y. AreClauses u c → IsWellTyped u y) (spec.loop_body local_declaration p1 t) _
        (left_comes p1.state (spec.statement local_declaration (spec.with_flow in_loop p1) t) (nodes.out_of_loop p1.flow) (λ fl. refl) (statement_comes t (spec.with_flow in_loop p1) ready1 same1 proper.1.1.1))
        (λ body q ready is. ends q (λ u y. IsWellTyped u body → AreClauses u c → IsWellTyped u y) (nodes.for_node at c.parts c.test c.step body) ready is (for_ends q.state at c c.test body refl)))))
    statement_comes (syntax.Goto at n) p h same proper = ends p IsWellTyped (simple.goto_statement p.state p.flow at n) h same (goto_ends p.state at (simple.label_named p.flow (known_in p.state.scopes.names n.text)))
    statement_comes (syntax.Continue at) p h same proper = ends p IsWellTyped (simple.continue_statement p.flow at) h same (plain_ends p.state at (nat_lt 0 p.flow.loops) made.Continue (λ u f is. refl))
    statement_comes (syntax.Break at) p h same proper = ends p IsWellTyped (simple.break_statement p.flow at) h same (plain_ends p.state at (nat_lt 0 p.flow.breakables) made.Break (λ u f is. refl))
    statement_comes (syntax.Return at e) p h same proper = in_flow p.state p.flow IsWellTyped (simple.return_statement p.state p.flow at e) same (return_goes p.state p.flow at e same h proper)

    pub items_come : (ts : syntax.StatementTrees) (p : Point) (parts : PartsView) → IsReady m p.state → p.flow.returns ≡ returns → AreProperStatements m ts → Stands p.state parts (spec.items local_declaration p parts ts)
    items_come syntax.NoStatement p parts h same proper = (h, same, λ u part. (part, λ all. all))
    items_come (syntax.MoreStatements t ts) p parts h same proper =
        further p.state parts (spec.item_of local_declaration p parts t) (λ more q. spec.items local_declaration q more ts) (item_comes p parts t (spec.declaration_of t) (declaration_proper m t proper.0) h same (statement_comes t p h same proper.0))
        (λ more q ready is. items_come ts q more ready is proper.1)

  -- ---- labels

  -- a point that is ready, and which state is part of it
  abbrev pub IsLabelled : State → Point → Type 0
  IsLabelled s q = IsReady m q.state × (q.flow.returns ≡ returns) × IsPassed s q.state

  labelled_on : (s t : State) (q : Point) → IsPassed s t → IsLabelled t q → IsLabelled s q
  labelled_on s t q passed h = (h.0, h.1, λ u part. passed u (h.2 u part))

  mutual
    labels_come : (t : syntax.StatementTree) (p : Point) → IsReady m p.state → p.flow.returns ≡ returns → IsLabelled p.state (labels.with_labels t p)
    labels_come (syntax.Declaration l) p h same = (h, same, λ u part. part)
    labels_come (syntax.Label name t) p h same =
        let p1 : Point = labels.labelled name p in
        labelled_on p.state p1.state (labels.with_labels t p1) (scoped_passes p.state p1.state.scopes)
        (labels_come t p1 (named_ready m p.state h name.text) (label_returns p.flow (number_in p.state.scopes.names name.text) (is_some (label_of p.flow (number_in p.state.scopes.names name.text))) ∙ same))
    labels_come (syntax.Case at e t) p h same = labels_come t p h same
    labels_come (syntax.Default at t) p h same = labels_come t p h same
    labels_come (syntax.Block at ts) p h same = all_labels_come ts p h same
    labels_come (syntax.Expression at e) p h same = (h, same, λ u part. part)
    labels_come (syntax.If at c t) p h same = labels_come t p h same
    labels_come (syntax.IfElse at c t v) p h same =
        let a = labels_come t p h same in
        let p1 : Point = labels.with_labels t p in
        labelled_on p.state p1.state (labels.with_labels v p1) a.2 (labels_come v p1 a.0 a.1)
    labels_come (syntax.Switch at e t) p h same = labels_come t p h same
    labels_come (syntax.While at c t) p h same = labels_come t p h same
    labels_come (syntax.Do at t c) p h same = labels_come t p h same
    labels_come (syntax.For at f c stepping t) p h same = labels_come t p h same
    labels_come (syntax.Goto at name) p h same = (h, same, λ u part. part)
    labels_come (syntax.Continue at) p h same = (h, same, λ u part. part)
    labels_come (syntax.Break at) p h same = (h, same, λ u part. part)
    labels_come (syntax.Return at e) p h same = (h, same, λ u part. part)

    pub all_labels_come : (ts : syntax.StatementTrees) (p : Point) → IsReady m p.state → p.flow.returns ≡ returns → IsLabelled p.state (labels.with_all_labels ts p)
    all_labels_come syntax.NoStatement p h same = (h, same, λ u part. part)
    all_labels_come (syntax.MoreStatements t ts) p h same =
        let a = labels_come t p h same in
        let p1 : Point = labels.with_labels t p in
        labelled_on p.state p1.state (labels.with_all_labels ts p1) a.2 (all_labels_come ts p1 a.0 a.1)
