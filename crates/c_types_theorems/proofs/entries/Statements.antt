-- What typing the statements of a body leads to, by what its declarations do: scopes are opened and closed again.
use Rattle.std.proofs.Common.{ℤ, Option, Some, None, Ok, Err, length}
use Rattle.std.specs.Prelude.{Bool, true, false, cond, ◌==◌}
use Rattle.cc_base.specs.declared.diagnostics.Place.{Place}
use Rattle.c_layout.specs.CheckedTrees.{TermTree}
use Rattle.c_layout.specs.SyntaxTrees.{Tree}
use Rattle.c_layout.specs.DeclarationTrees as syntax
use Rattle.c_layout.specs.DeclarationTrees.{LocalView, ForFirstView, NoClause, Clause, Declares}
use Rattle.c_types_scopes.specs.Refusals.{Ruled}
use Rattle.c_types_scopes.specs.Answers.{after, kept}
use Rattle.c_types_scopes.specs.Names as names
use Rattle.c_types_scopes.specs.States.{State}
use Rattle.c_types_expressions.specs.Expressions.Expressions.{typed}
use Rattle.c_types_statement_rules.specs.Objects.LocalObjects.{PartsView}
use Rattle.c_types_statement_rules.specs.StatementRules.BodyFlow.{FlowView, flow_with_default}
use Rattle.c_types_statement_rules.specs.StatementRules.Points.{Point}
use Rattle.c_types_statement_rules.specs.StatementRules.SimpleStatements as simple
use Rattle.c_types_statement_rules.specs.StatementRules.CompoundStatements as compound
use Rattle.c_types_statement_rules.specs.StatementRules.StatementNodes as nodes
use Rattle.c_types_statement_rules.specs.StatementRules.StatementNodes.{no_parts, in_loop, in_switch}
use Rattle.c_types_statements.specs.LabelNumbers as labels
use Rattle.c_types_statements.specs.LocalDeclarations as locals
use Rattle.c_types_statements.specs.Statements as spec
use Rattle.c_types_theorems.proofs.entries.Leading.{Leads, kept_leads, then}
use Rattle.c_types_theorems.proofs.entries.Expressing.{HasSteps, typed_leads}

-- the point behind a statement that is not refused
abbrev pub Comes : {V : Type 0} → (State → State → Type 0) → State → Ruled (V × Point) → Type 0
Comes R s (Ok p) = R s p.1.state
Comes R s (Err f) = Unit {0}

abbrev pub InBlock : (State → State → Type 0) → Type 0
InBlock R = (s t : State) → R (record s { scopes = names.opened s.scopes }) t → R s (record t { scopes = names.closed t.scopes })

abbrev pub LocalsLead : (State → State → Type 0) → Type 0
LocalsLead R = (s : State) (l : LocalView) (p : PartsView) → Leads R s (locals.local_declaration s l p)

module _ (R : State → State → Type 0) (steps : HasSteps R) (in_block : InBlock R) (local_leads : LocalsLead R) where
  step : {U V : Type 0} (s : State) (r : Ruled (U × State)) (next : U → State → Ruled (V × State)) → Leads R s r → ((u : U) (t : State) → Leads R t (next u t)) → Leads R s (after r next)
  step s r next = then R steps.trans s r next

  stays : {V : Type 0} (s : State) (rule : Ruled V) → Leads R s (kept s rule)
  stays s rule = kept_leads R s s rule (steps.same s)

  -- ---- statements without statements in them

  valued_leads : (s : State) (e : Tree) → Leads R s (simple.valued s e)
  valued_leads s e = step s (typed s e) simple.value_in (typed_leads R steps s e) (λ x t. steps.same t)

  effect_leads : (s : State) (e : Tree) → Leads R s (simple.effect s e)
  effect_leads s e = step s (simple.valued s e) simple.effect_in (valued_leads s e) (λ x t. steps.same t)

  value_statement_leads : (s : State) (e : Option Tree) → Leads R s (simple.value_statement s e)
  value_statement_leads s None = steps.same s
  value_statement_leads s (Some e) = step s (simple.effect s e) simple.as_statement (effect_leads s e) (λ x t. steps.same t)

  return_leads : (s : State) (f : FlowView) (at : Place) (e : Option Tree) → Leads R s (simple.return_statement s f at e)
  return_leads s f at None = stays s (simple.return_nothing at f.returns)
  return_leads s f at (Some e) = step s (simple.return_value s f at e) (simple.as_return at) (step s (simple.valued s e) _ (valued_leads s e) (λ x t. stays t _)) (λ x t. steps.same t)

  step_clause_leads : (s : State) (e : Option Tree) → Leads R s (nodes.step_clause s e)
  step_clause_leads s None = steps.same s
  step_clause_leads s (Some e) = step s (simple.effect s e) nodes.present (effect_leads s e) (λ x t. steps.same t)

  test_clause_leads : (s : State) (e : Option Tree) → Leads R s (nodes.test_clause s e)
  test_clause_leads s None = steps.same s
  test_clause_leads s (Some e) = step s (simple.valued s e) nodes.present (valued_leads s e) (λ x t. steps.same t)

  controlling_leads : (s : State) (e : Tree) → Leads R s (compound.controlling_expression s e)
  controlling_leads s e = step s (typed s e) compound.controlling_of (typed_leads R steps s e) (λ x t. steps.same t)

  first_leads : (s : State) (f : ForFirstView) (parts : PartsView) → Leads R s (spec.first_clause locals.local_declaration s f parts)
  first_leads s NoClause parts = steps.same s
  first_leads s (Clause e) parts = step s (simple.effect s e) (spec.clause_statement parts) (effect_leads s e) (λ x t. steps.same t)
  first_leads s (Declares l) parts = local_leads s l parts

  clauses_lead : (s : State) (f : ForFirstView) (e stepping : Option Tree) → Leads R s (spec.clauses locals.local_declaration s f e stepping)
  clauses_lead s f e stepping =
      step s (spec.first_clause locals.local_declaration s f no_parts) _ (first_leads s f no_parts)
      (λ parts t. step t (nodes.test_clause t e) _ (test_clause_leads t e) (λ test u. step u (nodes.step_clause u stepping) (spec.as_clauses parts test) (step_clause_leads u stepping) (λ x v. steps.same v)))

  -- ---- statements

  comes_on : {V : Type 0} (s t : State) (r : Ruled (V × Point)) → R s t → Comes R t r → Comes R s r
  comes_on s t (Ok p) a b = steps.trans s t p.1.state a b
  comes_on s t (Err f) a b = tt

  walk : {U V : Type 0} (s : State) (r : Ruled (U × Point)) (next : U → Point → Ruled (V × Point)) → Comes R s r → ((u : U) (p : Point) → Comes R p.state (next u p)) → Comes R s (after r next)
  walk s (Ok p) next a b = comes_on s p.1.state (next p.0 p.1) a (b p.0 p.1)
  walk s (Err f) next a b = tt

  in_flow : {V : Type 0} (s : State) (f : FlowView) (r : Ruled (V × State)) → Leads R s r → Comes R s (spec.in_flow f r)
  in_flow s f (Ok p) h = h
  in_flow s f (Err e) h = tt

  in_state : {V : Type 0} (s : State) (r : Ruled (V × FlowView)) → Comes R s (spec.in_state s r)
  in_state s (Ok p) = steps.same s
  in_state s (Err e) = tt

  ends : {V : Type 0} (q : Point) (rule : Ruled V) → Comes R q.state (kept q rule)
  ends q (Ok v) = steps.same q.state
  ends q (Err f) = tt

  cond_comes : {V : Type 0} (s : State) (b : Bool) (x y : Ruled (V × Point)) → Comes R s x → Comes R s y → Comes R s (cond b x y)
  cond_comes s true x y g h = g
  cond_comes s false x y g h = h

  standing_of_comes : (f : FlowView) (at : Place) (e : TermTree) (s : State) (n : Option ℤ) → Comes R s (compound.standing_of f at e s n)
  standing_of_comes f at e s None = steps.same s
  standing_of_comes f at e s (Some n) = steps.constant s e

  standing_comes : (f : FlowView) (at : Place) (s : State) (r : Ruled (TermTree × State)) → Leads R s r → Comes R s (compound.standing_by f at r)
  standing_comes f at s (Ok v) h = comes_on s v.1 (compound.standing_in f at v.0 v.1) h (cond_comes v.1 (length f.switches == 0) _ (compound.standing_of f at v.0 v.1 (compound.case_constant v.0)) (steps.same v.1) (standing_of_comes f at v.0 v.1 (compound.case_constant v.0)))
  standing_comes f at s (Err e) h = tt

  -- a scope of its own
  in_scope : {U V : Type 0} (p : Point) (r : Ruled (U × Point)) (next : U → Point → Ruled (V × Point)) → Comes R (spec.in_scope p).state r → ((u : U) (q : Point) → R p.state (spec.out_of_scope q).state → Comes R p.state (next u q)) → Comes R p.state (after r next)
  in_scope p (Ok v) next g h = h v.0 v.1 (in_block p.state v.1.state g)
  in_scope p (Err f) next g h = tt

  item_comes : (p : Point) (parts : PartsView) (t : syntax.StatementTree) (l : Option LocalView) → Comes R p.state (spec.statement locals.local_declaration p t) → Comes R p.state (spec.item locals.local_declaration p parts (spec.statement locals.local_declaration p t) l)
  item_comes p parts t (Some l) h = in_flow p.state p.flow (locals.local_declaration p.state l parts) (local_leads p.state l parts)
  item_comes p parts t None h = walk p.state (spec.statement locals.local_declaration p t) (spec.with_statement parts) h (λ made q. steps.same q.state)

  mutual
    pub statement_comes : (p : Point) (t : syntax.StatementTree) → Comes R p.state (spec.statement locals.local_declaration p t)
    statement_comes p (syntax.Declaration l) = in_flow p.state p.flow _ (step p.state (locals.local_declaration p.state l no_parts) spec.alone (local_leads p.state l no_parts) (λ parts u. steps.same u))
    statement_comes p (syntax.Label n t) = comes_on p.state (spec.at_label p n).state _ (steps.named p.state n.text) (walk (spec.at_label p n).state (spec.statement locals.local_declaration (spec.at_label p n) t) _ (statement_comes (spec.at_label p n) t) (λ made q. ends q _))
    statement_comes p (syntax.Case at e t) = walk p.state (compound.case_standing p at e) _ (standing_comes p.flow at p.state (simple.valued p.state e) (valued_leads p.state e)) (λ k p1. walk p1.state (spec.statement locals.local_declaration p1 t) _ (statement_comes p1 t) (λ made q. ends q _))
    statement_comes p (syntax.Default at t) = walk p.state (spec.statement locals.local_declaration (spec.with_flow flow_with_default p) t) _ (statement_comes (spec.with_flow flow_with_default p) t) (λ made q. ends q _)
    statement_comes p (syntax.Block at ts) = in_scope p (spec.items locals.local_declaration (spec.in_scope p) no_parts ts) spec.block_in (items_come (spec.in_scope p) no_parts ts) (λ parts q g. g)
    statement_comes p (syntax.Expression at e) = in_flow p.state p.flow (simple.value_statement p.state e) (value_statement_leads p.state e)
    statement_comes p (syntax.If at e t) = walk p.state (spec.in_flow p.flow (simple.valued p.state e)) _ (in_flow p.state p.flow (simple.valued p.state e) (valued_leads p.state e)) (λ x p1. walk p1.state (spec.statement locals.local_declaration p1 t) _ (statement_comes p1 t) (λ made q. ends q _))
    statement_comes p (syntax.IfElse at e t u) =
        walk p.state (spec.first_branch locals.local_declaration p e t) _
        (walk p.state (spec.in_flow p.flow (simple.valued p.state e)) _ (in_flow p.state p.flow (simple.valued p.state e) (valued_leads p.state e)) (λ x p1. walk p1.state (spec.statement locals.local_declaration p1 t) (spec.both x) (statement_comes p1 t) (λ made q. steps.same q.state)))
        (λ v p2. walk p2.state (spec.statement locals.local_declaration p2 u) _ (statement_comes p2 u) (λ second q. ends q _))
    statement_comes p (syntax.Switch at e t) =
        walk p.state (spec.in_flow p.flow (compound.controlling_expression p.state e)) _ (in_flow p.state p.flow (compound.controlling_expression p.state e) (controlling_leads p.state e))
        (λ c p1. walk p1.state (spec.switch_body locals.local_declaration (spec.at_switch c p1) t) _
        (walk p1.state (spec.statement locals.local_declaration (spec.with_flow in_switch (spec.at_switch c p1)) t) (spec.switch_left (spec.at_switch c p1).flow) (statement_comes (spec.with_flow in_switch (spec.at_switch c p1)) t) (λ made q. steps.same q.state))
        (λ made q. in_state q.state _))
    statement_comes p (syntax.While at e t) =
        walk p.state (spec.in_flow p.flow (simple.valued p.state e)) _ (in_flow p.state p.flow (simple.valued p.state e) (valued_leads p.state e))
        (λ x p1. walk p1.state (spec.loop_body locals.local_declaration p1 t) _
        (walk p1.state (spec.statement locals.local_declaration (spec.with_flow in_loop p1) t) (spec.loop_left p1.flow) (statement_comes (spec.with_flow in_loop p1) t) (λ made q. steps.same q.state))
        (λ made q. ends q _))
    statement_comes p (syntax.Do at t e) =
        walk p.state (spec.loop_body locals.local_declaration p t) _
        (walk p.state (spec.statement locals.local_declaration (spec.with_flow in_loop p) t) (spec.loop_left p.flow) (statement_comes (spec.with_flow in_loop p) t) (λ made q. steps.same q.state))
        (λ made p1. walk p1.state (spec.in_flow p1.flow (simple.valued p1.state e)) _ (in_flow p1.state p1.flow (simple.valued p1.state e) (valued_leads p1.state e)) (λ x q. ends q _))
    statement_comes p (syntax.For at f e stepping t) =
        in_scope p (spec.for_in_scope locals.local_declaration (spec.in_scope p) at f e stepping t) spec.scope_left
        (walk (spec.in_scope p).state (spec.in_flow p.flow (spec.clauses locals.local_declaration (spec.in_scope p).state f e stepping)) _ (in_flow (spec.in_scope p).state p.flow (spec.clauses locals.local_declaration (spec.in_scope p).state f e stepping) (clauses_lead (spec.in_scope p).state f e stepping))
        (λ c p1. walk p1.state (spec.loop_body locals.local_declaration p1 t) _
        (walk p1.state (spec.statement locals.local_declaration (spec.with_flow in_loop p1) t) (spec.loop_left p1.flow) (statement_comes (spec.with_flow in_loop p1) t) (λ made q. steps.same q.state))
        (λ made q. ends q _)))
        (λ made q g. g)
    statement_comes p (syntax.Goto at n) = ends p _
    statement_comes p (syntax.Continue at) = ends p _
    statement_comes p (syntax.Break at) = ends p _
    statement_comes p (syntax.Return at e) = in_flow p.state p.flow (simple.return_statement p.state p.flow at e) (return_leads p.state p.flow at e)

    pub items_come : (p : Point) (parts : PartsView) (ts : syntax.StatementTrees) → Comes R p.state (spec.items locals.local_declaration p parts ts)
    items_come p parts syntax.NoStatement = steps.same p.state
    items_come p parts (syntax.MoreStatements t ts) = walk p.state (spec.item_of locals.local_declaration p parts t) _ (item_comes p parts t (spec.declaration_of t) (statement_comes p t)) (λ more q. items_come q more ts)

  -- ---- labels

  mutual
    labels_lead : (t : syntax.StatementTree) (p : Point) → R p.state (labels.with_labels t p).state
    labels_lead (syntax.Declaration l) p = steps.same p.state
    labels_lead (syntax.Label name t) p = steps.trans p.state (labels.labelled name p).state _ (steps.named p.state name.text) (labels_lead t (labels.labelled name p))
    labels_lead (syntax.Case at e t) p = labels_lead t p
    labels_lead (syntax.Default at t) p = labels_lead t p
    labels_lead (syntax.Block at ts) p = all_labels_lead ts p
    labels_lead (syntax.Expression at e) p = steps.same p.state
    labels_lead (syntax.If at c t) p = labels_lead t p
    labels_lead (syntax.IfElse at c t u) p = steps.trans p.state (labels.with_labels t p).state _ (labels_lead t p) (labels_lead u (labels.with_labels t p))
    labels_lead (syntax.Switch at e t) p = labels_lead t p
    labels_lead (syntax.While at c t) p = labels_lead t p
    labels_lead (syntax.Do at t c) p = labels_lead t p
    labels_lead (syntax.For at f c stepping t) p = labels_lead t p
    labels_lead (syntax.Goto at name) p = steps.same p.state
    labels_lead (syntax.Continue at) p = steps.same p.state
    labels_lead (syntax.Break at) p = steps.same p.state
    labels_lead (syntax.Return at e) p = steps.same p.state

    pub all_labels_lead : (ts : syntax.StatementTrees) (p : Point) → R p.state (labels.with_all_labels ts p).state
    all_labels_lead syntax.NoStatement p = steps.same p.state
    all_labels_lead (syntax.MoreStatements t ts) p = steps.trans p.state (labels.with_labels t p).state _ (labels_lead t p) (all_labels_lead ts (labels.with_labels t p))
