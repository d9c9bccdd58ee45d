-- `for`.
use Rattle.std.proofs.Common.{◌≡◌, ◌≤◌, ◌<◌, ℕ, zero, suc, ◌+◌, ◌-◌, ◌^◌, true, false, List, [], ◌∷◌, ◌++◌, length, Option, Some, None, refl, arith, ap, sym, subst, ◌∙◌, append_assoc}
use Rattle.std.proofs.lemmas.List.{append-nil}
use Rattle.cc_base.specs.declared.diagnostics.Place.{Place}
use Rattle.c_layout.specs.CheckedTrees as tree
use Rattle.c_layout.specs.CheckedTrees.{TermTree, StatementTree, StatementTrees}
use Rattle.c_layout.specs.CheckedUnits.{FunctionView}
use Rattle.lower_templates.specs.Worklist.Acts as act
use Rattle.lower_templates.specs.Worklist.Pieces.{PieceView, Mark}
use Rattle.lower_templates.specs.Worklist.Plans.{Plan, with_work, with_scope, with_labels, begun}
use Rattle.lower_templates.specs.Worklist.Settings.{SettingView}
use Rattle.lower_templates.specs.Worklist.Works as jobs
use Rattle.lower_templates.specs.Worklist.Works.{Job}
use Rattle.lower_templates.specs.declared.worklist.pending_works.Surroundings.{Surroundings}
use Rattle.lower_expressions.specs.Branches.{decided}
use Rattle.lower_functions.specs.Statements.ScopeJumps.{all_entered}
use Rattle.lower_functions.specs.Statements.PlainStatements.{all_statements, in_scope}
use Rattle.lower_functions.specs.Statements.Loops as loops
use Rattle.lower_functions.specs.Statements.Loops.{in_loop}
use Rattle.lower_functions.specs.Functions.Turns.{planless}
use Rattle.lower_template_theorems.specs.Growth.Growth.{Grows}
use Rattle.lower_template_theorems.proofs.growth.Growth.{works}
use Rattle.lower_template_theorems.proofs.growth.GrowingWorks.{jobs_none}
use Rattle.lower_template_theorems.specs.Worklists.Derivations.{parts, Makes}
use Rattle.lower_template_theorems.proofs.worklists.Derivations.{parted}
use Rattle.semantics.specs.SourceMachine.Items as item
use Rattle.semantics.specs.SourceMachine.Items.{Item}
use Rattle.semantics.specs.SourceMachine.StatementItems.{of_statement, statements, clause, for_body, for_iteration}
use Rattle.simulation_terms.specs.SimulationRelation.Activations.{Activation, of_entry}
use Rattle.simulation_terms.specs.SimulationRelation.Simulates as simulates
use Rattle.simulation_terms.specs.SimulationRelation.Simulates.{Leads, Simulates}
use Rattle.simulation_terms.proofs.simulation_relation.Constructions.{gives_statement, gives_loop_end, gives_turn_end}
use Rattle.simulation_terms.proofs.simulation_relation.FewerTurns.{less}
use Rattle.simulation_terms.specs.Worklists.TemplateParts.{IsOfUnit, IsKnown, Stands}
use Rattle.simulation_terms.proofs.worklists.Runs.{Runs, stands_behind, stands_after, none_made}
use Rattle.simulation_terms.proofs.terms.Choices.{jumping, hops}
use Rattle.simulation_terms.proofs.worklists.Laying.{from_piece, from_none, from_work, led, known_between, few_labels}
use Rattle.simulation_terms.proofs.terms.Terms.{terms}
use Rattle.simulation_terms.proofs.scopes.Positions.{Position, position, inner, past, past_all, one_inner, past_for}
use Rattle.simulation_terms.proofs.scopes.KeptScopes.{AreTerms}
use Rattle.simulation_terms.proofs.scopes.ScopesOfTerms.{scopes_kept}
use Rattle.simulation_terms.specs.Scopes.Contexts.{Within, Context}
use Rattle.simulation_terms.proofs.scopes.InScopes.{context_less, Goes, goes_on, plainly, gives_way}
use Rattle.simulation_terms.proofs.scopes.Objects.{object_jobs, objects_are_terms, entered_planned, left_planned, named_from, locals, marks}
use Rattle.simulation_terms.proofs.scopes.Contexts.{in_block, in_body}
use Rattle.simulation_statements.proofs.statements.Sequences.{statement_jobs, listed, HasParts, AboutStatement, AboutStatements, enclosed}
use Rattle.semantics.specs.SourceMachine.Scopes.{open_scopes, past_loop, past_iteration}
use Rattle.simulation_terms.proofs.worklists.Assignments.{nothing_done}
use Rattle.simulation_terms.specs.Scopes.SuitedStatements.{Enclosure, not_enclosed, by_loop, SuitsIf, SuitsIn}
use Rattle.simulation_statements.proofs.statements.Selections.{Counts, count_terms, count_on, below, itself}
use Rattle.lower_template_theorems.proofs.growth.GrowingStatements.{grows_statements, grows_entered, grows_left, grows_check, grows_step}

-- ---- works of the turns, from the label of the condition on

abbrev pub test_jobs : Option TermTree → ℕ → List Job
test_jobs None l = []
test_jobs (Some e) l = jobs.Condition e (decided (record { yes = l + 2; no = l + 4 }) 0) ∷ []

abbrev pub clause_jobs : Option TermTree → List Job
clause_jobs None = []
clause_jobs (Some e) = jobs.Unused e 0 ∷ []

abbrev pub body_jobs : Place → Option TermTree → StatementTree → Surroundings → ℕ → List Job
body_jobs at after body inside l = jobs.Ready (Mark (l + 2)) ∷ (jobs.Statement body (in_loop inside (l + 4) (l + 3)) ∷ (jobs.Ready (Mark (l + 3)) ∷ (clause_jobs after ++ (jobs.Ready (jumping at (l + 1)) ∷ (jobs.Ready (Mark (l + 4)) ∷ [])))))

unfoldable pub turn_jobs : Place → Option TermTree → Option TermTree → StatementTree → Surroundings → ℕ → List Job
turn_jobs at test after body inside l = jobs.Ready (Mark (l + 1)) ∷ (test_jobs test l ++ body_jobs at after body inside l)

-- works that are planned one behind the other
planned_all : List Job → Plan → Plan
planned_all [] p = p
planned_all (j ∷ js) p = planned_all js (with_work j p)

record Adds (js : List Job) (p q : Plan) : Type 0 where
  jobs : q.jobs ≡ p.jobs ++ js
  names : q.names ≡ p.names
  scopes : position q ≡ position p

adds : (js : List Job) (p : Plan) → Adds js p (planned_all js p)
unfolding with_work planned_all
adds [] p = record { jobs = sym (append-nil p.jobs); names = refl; scopes = refl }
adds (j ∷ js) p = let later = adds js (with_work j p) in record { jobs = later.jobs ∙ append_assoc p.jobs (j ∷ []) js; names = later.names; scopes = later.scopes }

turns_are : (at : Place) (test after : Option TermTree) (body : StatementTree) (inside : Surroundings) (l : ℕ) (p : Plan) → begun (l + 4) (loops.turn at l test after body inside p) ≡ planned_all (turn_jobs at test after body inside l) p
unfolding turn_jobs planned_all
turns_are at None None body inside l p = refl
turns_are at None (Some e) body inside l p = refl
turns_are at (Some e) None body inside l p = refl
turns_are at (Some e) (Some x) body inside l p = refl

-- the whole of `for`
pub record Planned (at : Place) (objects : List ℕ) (js : List Job) (l : ℕ) (p q : Plan) : Type 0 where
  pub jobs : q.jobs ≡ jobs.Ready (Mark l) ∷ (object_jobs act.Enter at objects (length p.names) ++ (js ++ object_jobs act.Leave at objects (length (p.names ++ locals objects))))
  pub names : q.names ≡ (p.names ++ locals objects) ++ locals objects
  pub scopes : position q ≡ inner (position p)

pub for_planned : (s : SettingView) (objects : List ℕ) (first : StatementTrees) (test after : Option TermTree) (body : StatementTree) (around : Surroundings) (p : Plan) → p.jobs ≡ []
    → Planned s.at objects (statement_jobs first (in_scope around p.scopes) ++ turn_jobs s.at test after body (in_scope around p.scopes) p.labels) p.labels p (loops.for_loop s objects first test after body around p)
unfolding with_work with_labels with_scope
for_planned s objects first test after body around p none =
    let l = p.labels in
    let inside = in_scope around p.scopes in
    let start = begun l (with_labels 5 (with_scope p)) in
    let entered = all_entered s.at objects start in
    let done = all_statements first inside entered in
    let turned = begun (l + 4) (loops.turn s.at l test after body inside done) in
    let e = entered_planned s.at objects start in
    let i = listed first inside entered in
    let a : Adds (turn_jobs s.at test after body inside l) done turned = subst (λ q. Adds (turn_jobs s.at test after body inside l) done q) (sym (turns_are s.at test after body inside l done)) (adds (turn_jobs s.at test after body inside l) done) in
    let f = left_planned s.at objects turned in
    let enters = object_jobs act.Enter s.at objects (length p.names) in
    let names_are = a.names ∙ i.names ∙ e.names in
    let js = statement_jobs first inside in
    let turns = turn_jobs s.at test after body inside l in
    record {
      jobs = f.jobs ∙ ap (λ xs. xs ++ object_jobs act.Leave s.at objects (length turned.names)) (a.jobs ∙ ap (λ xs. xs ++ turns) (i.jobs ∙ ap (λ xs. xs ++ js) (e.jobs ∙ ap (λ xs. (xs ++ jobs.Ready (Mark l) ∷ []) ++ enters) none)))
          ∙ ap (λ ns. (((jobs.Ready (Mark l) ∷ enters) ++ js) ++ turns) ++ object_jobs act.Leave s.at objects (length ns)) names_are
          ∙ ap (λ xs. xs ++ object_jobs act.Leave s.at objects (length (p.names ++ locals objects))) (append_assoc (jobs.Ready (Mark l) ∷ enters) js turns)
          ∙ append_assoc (jobs.Ready (Mark l) ∷ enters) (js ++ turns) (object_jobs act.Leave s.at objects (length (p.names ++ locals objects)));
      names = f.names ∙ ap (λ ns. ns ++ locals objects) names_are;
      scopes = f.scopes ∙ a.scopes ∙ i.scopes ∙ e.scopes ∙ one_inner p;
    }

scope_grows : (p : Plan) → Grows (with_labels 5 p) (with_labels 5 (with_scope p))
unfolding with_labels with_scope
scope_grows p = record { more_names = []; names = sym (append-nil p.names); labels = itself (p.labels + 5); scopes = one_longer p.scopes; more_dispatches = []; dispatches = sym (append-nil p.dispatches) }
  where
    one_longer : (k : ℕ) → k ≤ k + 1
    one_longer k = omega arith

pub for_grows : (s : SettingView) (objects : List ℕ) (first : StatementTrees) (test after : Option TermTree) (body : StatementTree) (around : Surroundings) (p : Plan) → Grows (with_labels 5 p) (loops.for_loop s objects first test after body around p)
for_grows s objects first test after body around p = let start : Grows (with_labels 5 p) (with_labels 5 (with_scope p)) = scope_grows p in search (works, grows_entered, grows_statements, grows_check, grows_step, grows_left) depth 40

one_five : 1 < 5
one_five = omega arith

two_five : 2 < 5
two_five = omega arith

three_five : 3 < 5
three_five = omega arith

four_five : 4 < 5
four_five = omega arith

-- ---- the items behind the body

clause_scopes : (after : Option TermTree) (more : List Item) → open_scopes (clause after ++ more) ≡ open_scopes more
clause_scopes None more = refl
clause_scopes (Some e) more = refl

clause_loop : (after : Option TermTree) (more : List Item) → past_loop (clause after ++ more) ≡ past_loop more
clause_loop None more = refl
clause_loop (Some e) more = refl

module _ (s : SettingView) (t : Activation) (fits : IsOfUnit t s) (g : FunctionView) where
  clause_runs : (m : ℕ) (after : Option TermTree) → SuitsIf t.unit false after → Runs s t m (clause_jobs after) (clause after) 0 0
  clause_runs m None suits = nothing_done s t m 0
  clause_runs m (Some e) suits = (terms s t fits m e).done 0 suits.0 suits.1

  -- the condition of a turn, or none
  test_simulates : (m : ℕ) (test after : Option TermTree) (body : StatementTree) (l : ℕ) → SuitsIf t.unit true test → (p : Plan) → p.jobs ≡ [] → (ft : List PieceView) (pt : Plan) → Makes s p (test_jobs test l) ft pt → IsKnown t pt → (more : List Item) (w rest : List PieceView) → Stands t (ft ++ Mark (l + 2) ∷ w) → Leads t (l + 2) w → Leads t (l + 4) rest
      → Simulates t m 0 (for_body test after body ++ more) w → Simulates t m 0 more rest → Simulates t m 0 (for_iteration t.unit test after body ++ more) (ft ++ Mark (l + 2) ∷ w)
  test_simulates m None after body l suits p none ft pt mt known more w rest stands to_body to_last f g =
      subst (λ xs. Simulates t m 0 (for_body None after body ++ more) (xs ++ Mark (l + 2) ∷ w)) (sym (none_made s p ft pt mt)) (simulates.by_mark m 0 (l + 2) (for_body None after body ++ more) w f)
  test_simulates m (Some e) after body l suits p none ft pt mt known more w rest stands to_body to_last f g =
      (terms s t fits m e).decided (decided (record { yes = l + 2; no = l + 4 }) 0) suits.0 suits.1 p none ft pt mt known (for_body (Some e) after body) [] more (Mark (l + 2) ∷ w) w rest stands to_body to_last f g

  module _ (test after : Option TermTree) (body : StatementTree) (about : AboutStatement s t g body) (around : Surroundings) (looping : Enclosure) (known : List ℕ) (c : Position) (l : ℕ) (suits_test : SuitsIf t.unit true test) (suits_after : SuitsIf t.unit false after) (suits_body : SuitsIn t.unit g by_loop known body) (scopes : HasParts s body around.scope c) (few : l + 5 ≤ 2 ^ 32 - 1)
      (p : Plan) (none : p.jobs ≡ []) (ft : List PieceView) (pt : Plan) (mt : Makes s p (test_jobs test l) ft pt) (known_t : IsKnown t pt) (none_t : pt.jobs ≡ []) (begun : position pt ≡ c)
      (fb : List PieceView) (pb : Plan) (mb : Makes s pt (jobs.Statement body (in_loop around (l + 4) (l + 3)) ∷ []) fb pb) (known_b : IsKnown t pb) (none_b : pb.jobs ≡ [])
      (fs : List PieceView) (pa : Plan) (ma : Makes s pb (clause_jobs after) fs pa) (known_a : IsKnown t pa) (items : List Item) (rest : List PieceView) where
    abbrev pub behind_body : List PieceView
    behind_body = fs ++ jumping s.at (l + 1) ∷ (Mark (l + 4) ∷ rest)

    abbrev pub body_pieces : List PieceView
    body_pieces = fb ++ Mark (l + 3) ∷ behind_body

    abbrev pub for_pieces : List PieceView
    for_pieces = ft ++ Mark (l + 2) ∷ body_pieces

    abbrev loop_items : List Item
    loop_items = item.ForIteration test after body ∷ (item.LoopEnd ∷ items)

    abbrev step_items : List Item
    step_items = clause after ++ (item.Hop ∷ loop_items)

    pub for_at_body : Stands t (Mark (l + 1) ∷ for_pieces) → Stands t body_pieces
    for_at_body stands = stands_after t (Mark (l + 2)) body_pieces (stands_behind t ft (Mark (l + 2) ∷ body_pieces) (stands_after t (Mark (l + 1)) for_pieces stands))

    for_at_step : Stands t (Mark (l + 1) ∷ for_pieces) → Stands t (Mark (l + 3) ∷ behind_body)
    for_at_step stands = stands_behind t fb (Mark (l + 3) ∷ behind_body) (for_at_body stands)

    for_to_last : Stands t (Mark (l + 1) ∷ for_pieces) → Leads t (l + 4) rest
    for_to_last stands =
        let at_clause = stands_after t (Mark (l + 3)) behind_body (for_at_step stands) in
        led s t fits (l + 4) (l + 5) (l + 5) rest (below l 4 5 four_five) (itself (l + 5)) few (stands_after t (jumping s.at (l + 1)) (Mark (l + 4) ∷ rest) (stands_behind t fs (jumping s.at (l + 1) ∷ (Mark (l + 4) ∷ rest)) at_clause))

    -- the step, where the next turn follows
    for_stepped : Stands t (Mark (l + 1) ∷ for_pieces) → (m : ℕ) → Simulates t m 0 loop_items for_pieces → Simulates t m 0 step_items behind_body
    for_stepped stands m back =
        let at_clause = stands_after t (Mark (l + 3)) behind_body (for_at_step stands) in
        let to_begin = led s t fits (l + 1) (l + 5) (l + 5) for_pieces (below l 1 5 one_five) (itself (l + 5)) few stands in
        let again = hops s t fits m 0 (l + 1) loop_items (Mark (l + 4) ∷ rest) for_pieces to_begin back in
        (clause_runs m after suits_after).from pb none_b fs pa ma known_a (item.Hop ∷ loop_items) (jumping s.at (l + 1) ∷ (Mark (l + 4) ∷ rest)) at_clause again

    -- what is behind the body
    pub for_again : Stands t (Mark (l + 1) ∷ for_pieces) → (m : ℕ) → Simulates t m 0 loop_items for_pieces → Simulates t m 0 (item.IterationEnd ∷ step_items) (Mark (l + 3) ∷ behind_body)
    for_again stands m back = simulates.by_mark m 0 (l + 3) (item.IterationEnd ∷ step_items) behind_body (gives_turn_end m 0 step_items behind_body (for_stepped stands m back))

    -- where the body stands
    pub for_context : Stands t (Mark (l + 1) ∷ for_pieces) → (m : ℕ) → Simulates t m 0 loop_items for_pieces → Simulates t m 0 items rest → Within s t m around looping known items → Within s t m (in_loop around (l + 4) (l + 3)) by_loop known (item.IterationEnd ∷ step_items)
    for_context stands m back f k =
        let to_step = led s t fits (l + 3) (l + 5) (l + 5) behind_body (below l 3 5 three_five) (itself (l + 5)) few (for_at_step stands) in
        in_body s t m around looping known items (item.IterationEnd ∷ step_items) step_items (l + 4) (l + 3) rest behind_body (clause_scopes after (item.Hop ∷ loop_items)) (clause_scopes after (item.Hop ∷ loop_items)) (clause_loop after (item.Hop ∷ loop_items)) refl (for_to_last stands) to_step f (for_stepped stands m back) k

    pub for_turns : Stands t (Mark (l + 1) ∷ for_pieces) → (m : ℕ) → Simulates t m 0 items rest → Within s t m around looping known items → Simulates t m 0 (item.ForIteration test after body ∷ (item.LoopEnd ∷ items)) for_pieces
    for_turns stands zero f k = simulates.enough _ _ _
    for_turns stands (suc m) f k =
        let less_f = less m 0 items rest f in
        let less_k = context_less s t m around looping known (open_scopes items) (past_loop items) (past_iteration items) k in
        let back = for_turns stands m less_f less_k in
        let at_test = stands_after t (Mark (l + 1)) for_pieces stands in
        let at_mark = stands_behind t ft (Mark (l + 2) ∷ body_pieces) at_test in
        let to_body = led s t fits (l + 2) (l + 5) (l + 5) body_pieces (below l 2 5 two_five) (itself (l + 5)) few at_mark in
        let in_it = (about m (in_loop around (l + 4) (l + 3)) by_loop known c suits_body scopes).from pt none_t begun fb pb mb known_b (item.IterationEnd ∷ step_items) (Mark (l + 3) ∷ behind_body) (for_at_body stands) (for_context stands m back less_f less_k) (for_again stands m back) in
        simulates.in_for m 0 test after body (item.LoopEnd ∷ items) for_pieces
        (test_simulates m test after body l suits_test p none ft pt mt known_t (item.LoopEnd ∷ items) body_pieces rest at_test to_body (for_to_last stands)
        (subst (λ xs. Simulates t m 0 (item.Statement body ∷ (item.IterationEnd ∷ xs)) body_pieces) (sym (append_assoc (clause after) (item.Hop ∷ (item.ForIteration test after body ∷ [])) (item.LoopEnd ∷ items))) in_it)
        (gives_loop_end m 0 items rest less_f))

  -- the works of some list, and then others
  pub from_many : (r : Plan) (rest : List PieceView) (p : Plan) (js ks : List Job) (ps : List PieceView) (G : List PieceView → Type 0) → p.jobs ≡ [] → Makes s p (js ++ ks) ps r
      → ((front : List PieceView) (between : Plan) (back : List PieceView) → Makes s p js front between → between.jobs ≡ [] → Makes s between ks back r → G (front ++ (back ++ rest))) → G (ps ++ rest)
  from_many r rest p js ks ps G none m later =
      let x = parted s p js ks ps r m in
      subst (λ xs. G (xs ++ rest)) (sym x.all) (subst G (sym (append_assoc x.front x.back rest)) (later x.front x.between x.back x.first (jobs_none s p js x.front x.between x.first none) x.second))

  pub tests_are_terms : (test : Option TermTree) (l : ℕ) → AreTerms (test_jobs test l)
  tests_are_terms None l = tt
  tests_are_terms (Some e) l = (tt, tt)

  clauses_are_terms : (after : Option TermTree) → AreTerms (clause_jobs after)
  clauses_are_terms None = tt
  clauses_are_terms (Some e) = (tt, tt)

  pub kept_many : (p : Plan) (js : List Job) (ps : List PieceView) (r : Plan) → AreTerms js → p.jobs ≡ [] → Makes s p js ps r → position r ≡ position p
  kept_many p js ps r terms none m = (scopes_kept s p js ps r m (subst AreTerms (sym none) tt) terms).0

  pub turns_count : (test after : Option TermTree) (body : StatementTree) (about : AboutStatement s t g body) (around : Surroundings) (known : List ℕ) (c : Position) (l n : ℕ) → SuitsIn t.unit g by_loop known body → HasParts s body around.scope c → Counts s c (past c body) (turn_jobs s.at test after body around l)
  unfolding turn_jobs
  turns_count test after body about around known c l n suits_body scopes =
      count_on s c c (past c body) (jobs.Ready (Mark (l + 1)) ∷ []) _ (count_terms s c _ (tt, tt))
      (count_on s c c (past c body) (test_jobs test l) _ (count_terms s c _ (tests_are_terms test l))
      (count_on s c c (past c body) (jobs.Ready (Mark (l + 2)) ∷ []) _ (count_terms s c _ (tt, tt))
      (count_on s c (past c body) (past c body) (jobs.Statement body (in_loop around (l + 4) (l + 3)) ∷ []) _ (about n (in_loop around (l + 4) (l + 3)) by_loop known c suits_body scopes).ends
      (count_on s (past c body) (past c body) (past c body) (jobs.Ready (Mark (l + 3)) ∷ []) _ (count_terms s (past c body) _ (tt, tt))
      (count_on s (past c body) (past c body) (past c body) (clause_jobs after) _ (count_terms s (past c body) _ (clauses_are_terms after)) (count_terms s (past c body) _ (tt, (tt, tt))))))))

  pub turns_go : (n : ℕ) (test after : Option TermTree) (body : StatementTree) (about : AboutStatement s t g body) (around : Surroundings) (looping : Enclosure) (known : List ℕ) (c : Position) (l : ℕ) → SuitsIf t.unit true test → SuitsIf t.unit false after → SuitsIn t.unit g by_loop known body → HasParts s body around.scope c → l + 5 ≤ 2 ^ 32 - 1
      → Goes s t n c (past c body) (Within s t n around looping known) (turn_jobs s.at test after body around l) (item.ForIteration test after body ∷ (item.LoopEnd ∷ []))
  unfolding turn_jobs
  turns_go n test after body about around looping known c l suits_test suits_after suits_body scopes few = record {
    from = λ p none begun_p ps r m known_r items rest stands k f.
        let q = jumping s.at (l + 1) in
        let G : List PieceView → Type 0 = λ w. Stands t w → Simulates t n 0 (item.ForIteration test after body ∷ (item.LoopEnd ∷ items)) w in
        from_piece s r rest p (Mark (l + 1)) _ ps G m
        (λ b1 m1. from_many r rest p (test_jobs test l) _ b1 (λ w. G (Mark (l + 1) ∷ w)) none m1
        (λ ft pt b2 mt none_t m2. from_piece s r rest pt (Mark (l + 2)) _ b2 (λ w. G (Mark (l + 1) ∷ (ft ++ w))) m2
        (λ b3 m3. from_work s r rest pt (jobs.Statement body (in_loop around (l + 4) (l + 3))) _ b3 (λ w. G (Mark (l + 1) ∷ (ft ++ Mark (l + 2) ∷ w))) none_t m3
        (λ fb pb b4 mb none_b m4. from_piece s r rest pb (Mark (l + 3)) _ b4 (λ w. G (Mark (l + 1) ∷ (ft ++ Mark (l + 2) ∷ (fb ++ w)))) m4
        (λ b5 m5. from_many r rest pb (clause_jobs after) _ b5 (λ w. G (Mark (l + 1) ∷ (ft ++ Mark (l + 2) ∷ (fb ++ Mark (l + 3) ∷ w)))) none_b m5
        (λ fs pa b6 ma none_a m6. from_piece s r rest pa q _ b6 (λ w. G (Mark (l + 1) ∷ (ft ++ Mark (l + 2) ∷ (fb ++ Mark (l + 3) ∷ (fs ++ w))))) m6
        (λ b7 m7. from_piece s r rest pa (Mark (l + 4)) [] b7 (λ w. G (Mark (l + 1) ∷ (ft ++ Mark (l + 2) ∷ (fb ++ Mark (l + 3) ∷ (fs ++ q ∷ w))))) m7
        (λ b8 m8. from_none s r rest pa b8 (λ w. G (Mark (l + 1) ∷ (ft ++ Mark (l + 2) ∷ (fb ++ Mark (l + 3) ∷ (fs ++ q ∷ (Mark (l + 4) ∷ w)))))) m8
        (λ stands. simulates.by_mark n 0 (l + 1) _ _
        (for_turns test after body about around looping known c l suits_test suits_after suits_body scopes few p none ft pt mt (known_between s t pt _ _ r m2 known_r) none_t (kept_many p (test_jobs test l) ft pt (tests_are_terms test l) none mt ∙ begun_p) fb pb mb (known_between s t pb _ _ r m4 known_r) none_b fs pa ma (known_between s t pa _ _ r m6 known_r) items rest stands n f k)))))))))) stands;
    ends = turns_count test after body about around known c l n suits_body scopes;
  }

  -- outside of loops nothing is asked of what is behind a loop
  pub unlooped : (n : ℕ) (around : Surroundings) (looping : Enclosure) (known : List ℕ) (scopes : List (List ℕ)) (a b c d : List Item) → Context s t n around looping known scopes a b → Context s t n around not_enclosed known scopes c d
  unlooped n around looping known scopes a b c d k = record { within = k.within; chain = k.chain; labels = k.labels; on_break = λ e. absurd (no e); on_continue = λ e. absurd (no e) }
    where
      no : false ≡ true → ⊥
      no e = cc

  pub of_for : (objects : List ℕ) (first : StatementTrees) (test after : Option TermTree) (body : StatementTree) → AboutStatements s t g first → AboutStatement s t g body → AboutStatement s t g (tree.For objects first test after body)
  of_for objects first test after body about_first about n around looping known c suits scopes =
      let j = jobs.Statement (tree.For objects first test after body) around in
      let within = in_scope around c.scopes in
      let more = objects ++ known in
      let middle = past_all (inner c) first in
      let last = past middle body in
      let loop : List Item = item.ForIteration test after body ∷ (item.LoopEnd ∷ []) in
      let starts = about_first n within not_enclosed more (inner c) suits.1 (scopes.0.1, scopes.1.0) in
      let same : (p : Plan) → p.jobs ≡ [] → position p ≡ c → Planned s.at objects (statement_jobs first within ++ turn_jobs s.at test after body within p.labels) p.labels p (parts s j p) = λ p none begun_p. subst (λ k. Planned s.at objects (statement_jobs first (in_scope around k) ++ turn_jobs s.at test after body (in_scope around k) p.labels) p.labels p (parts s j p)) (ap (λ (x : Position). x.scopes) begun_p) (for_planned s objects first test after body around p none) in
      subst (λ k. Goes s t n c k (Within s t n around looping known) (j ∷ []) (item.Statement (tree.For objects first test after body) ∷ [])) (past_for c first body)
      (gives_way s t n c last (Within s t n around looping known) j (item.Statement (tree.For objects first test after body)) (of_statement t.unit (of_entry t) (tree.For objects first test after body)) refl (gives_statement n 0 (tree.For objects first test after body))
      (λ p none begun_p ps r m known_last items rest stands k f.
      let all = parts s j p in
      let x = same p none begun_p in
      let few = few_labels s t p j 5 all.jobs ps r (for_grows s objects first test after body around p) m known_last in
      let known_all = known_between s t (planless all) all.jobs ps r m known_last in
      let named = named_from t (planless all) p.names objects (locals objects) known_all (x.names ∙ append_assoc p.names (locals objects) (locals objects)) in
      let again = named_from t (planless all) (p.names ++ locals objects) objects [] known_all (x.names ∙ ap (λ ns. (p.names ++ locals objects) ++ ns) (sym (append-nil (locals objects)))) in
      let turns = turn_jobs s.at test after body within p.labels in
      let inside : Goes s t n (inner c) last (Within s t n within looping more) (statement_jobs first within ++ turns) (statements first ++ loop) =
      goes_on s t n (inner c) middle last (Within s t n within looping more) (Within s t n within not_enclosed more) (statement_jobs first within) turns (statements first) loop
      (λ items k. unlooped n within looping more (open_scopes items) (past_loop items) (past_iteration items) items (past_iteration items) k) starts
      (turns_go n test after body about within looping more middle p.labels suits.2 suits.3 suits.4 (scopes.0.2, scopes.1.1) few) in
      let whole = enclosed s t fits n (inner c) last objects (length p.names) (length (p.names ++ locals objects)) (Within s t n around looping known) (Within s t n within looping more) (statement_jobs first within ++ turns) (statements first ++ loop)
      (λ items k. in_block s t n around looping known objects c.scopes items suits.0 scopes.0.0 k) named again inside in
      let js = object_jobs act.Enter s.at objects (length p.names) ++ ((statement_jobs first within ++ turns) ++ object_jobs act.Leave s.at objects (length (p.names ++ locals objects))) in
      let marked = goes_on s t n (inner c) (inner c) last (Within s t n around looping known) Anything (jobs.Ready (Mark p.labels) ∷ []) js [] (item.Enters objects ∷ ((statements first ++ loop) ++ item.Leaves objects ∷ [])) (λ items k. tt)
      (plainly s t n (inner c) Anything (jobs.Ready (Mark p.labels) ∷ []) [] (tt, tt) (marks s t fits n p.labels 0)) whole in
      subst (λ is. Simulates t n 0 (item.Enters objects ∷ (is ++ items)) (ps ++ rest)) (append_assoc (statements first) loop (item.Leaves objects ∷ []))
      (marked.from (planless all) refl (x.scopes ∙ ap inner begun_p) ps r (subst (λ ks. Makes s (planless all) ks ps r) x.jobs m) known_last items rest stands k f))
      (λ p none begun_p ps r m.
      let all = parts s j p in
      let x = same p none begun_p in
      let turns = turn_jobs s.at test after body within p.labels in
      count_on s (inner c) (inner c) last (jobs.Ready (Mark p.labels) ∷ []) _ (count_terms s (inner c) _ (tt, tt))
      (count_on s (inner c) (inner c) last (object_jobs act.Enter s.at objects (length p.names)) _ (count_terms s (inner c) _ (objects_are_terms act.Enter s.at objects (length p.names)))
      (count_on s (inner c) last last (statement_jobs first within ++ turns) _
      (count_on s (inner c) middle last (statement_jobs first within) turns starts.ends (turns_count test after body about within more middle p.labels n suits.4 (scopes.0.2, scopes.1.1)))
      (count_terms s last _ (objects_are_terms act.Leave s.at objects (length (p.names ++ locals objects))))))
      (planless all) refl (x.scopes ∙ ap inner begun_p) ps r (subst (λ ks. Makes s (planless all) ks ps r) x.jobs m)))
    where
      Anything : List Item → Type 0
      Anything items = Unit {0}
