-- Blocks, `if` and `else`.
use Rattle.std.proofs.Common.{◌≡◌, ◌≤◌, ◌<◌, ℕ, ◌+◌, ◌-◌, ◌^◌, true, List, [], ◌∷◌, ◌++◌, length, refl, arith, ap, sym, subst, ◌∙◌, append_assoc}
use Rattle.std.proofs.lemmas.List.{append-nil}
use Rattle.cc_base.specs.declared.diagnostics.Place.{Place}
use Rattle.c_layout.specs.CheckedTrees as tree
use Rattle.c_layout.specs.CheckedTrees.{TermTree, StatementTree, StatementTrees}
use Rattle.c_layout.specs.CheckedUnits.{FunctionView}
use Rattle.lower_templates.specs.Worklist.Acts as act
use Rattle.lower_templates.specs.Worklist.Pieces.{PieceView, Mark}
use Rattle.lower_templates.specs.Worklist.Plans.{Plan, with_work, with_scope, with_labels}
use Rattle.lower_templates.specs.Worklist.Settings.{SettingView}
use Rattle.lower_templates.specs.Worklist.Works as jobs
use Rattle.lower_templates.specs.Worklist.Works.{Job}
use Rattle.lower_templates.specs.declared.worklist.pending_works.Surroundings.{Surroundings}
use Rattle.lower_expressions.specs.Branches.{decided}
use Rattle.lower_functions.specs.Statements.ScopeJumps.{all_entered, all_left}
use Rattle.lower_functions.specs.Statements.PlainStatements.{all_statements, in_scope}
use Rattle.lower_functions.specs.Statements.Loops.{selection, two_way_selection}
use Rattle.lower_functions.specs.Functions.Turns.{planless}
use Rattle.lower_template_theorems.specs.Growth.Growth.{Grows}
use Rattle.lower_template_theorems.proofs.growth.Growth.{works, grows_not}
use Rattle.lower_template_theorems.proofs.growth.GrowingWorks.{jobs_none}
use Rattle.lower_template_theorems.specs.Worklists.Derivations.{parts, Makes}
use Rattle.lower_template_theorems.proofs.worklists.Derivations.{parted}
use Rattle.semantics.specs.SourceMachine.Items as item
use Rattle.semantics.specs.SourceMachine.Items.{Item}
use Rattle.semantics.specs.SourceMachine.ConditionItems as source
use Rattle.semantics.specs.SourceMachine.StatementItems.{of_statement, statements}
use Rattle.simulation_terms.specs.SimulationRelation.Activations.{Activation, of_entry}
use Rattle.simulation_terms.specs.SimulationRelation.Simulates as simulates
use Rattle.simulation_terms.specs.SimulationRelation.Simulates.{Leads, Simulates}
use Rattle.simulation_terms.proofs.simulation_relation.Constructions.{gives_statement}
use Rattle.simulation_terms.specs.Worklists.TemplateParts.{IsOfUnit, IsKnown, Stands}
use Rattle.simulation_terms.proofs.worklists.Runs.{stands_behind, stands_after}
use Rattle.simulation_terms.proofs.worklists.About.{Decided}
use Rattle.simulation_terms.proofs.terms.Choices.{jumping, hops, two_way_jobs}
use Rattle.simulation_terms.proofs.worklists.Laying.{from_piece, from_none, from_work, led, known_between, few_labels}
use Rattle.simulation_terms.proofs.terms.Terms.{terms}
use Rattle.simulation_terms.proofs.scopes.Positions.{Position, position, inner, past, past_all, one_inner, past_block, past_else}
use Rattle.simulation_terms.proofs.scopes.KeptScopes.{IsTerm, AreTerms}
use Rattle.simulation_terms.proofs.scopes.ScopesOfTerms.{scopes_kept}
use Rattle.simulation_terms.specs.Scopes.Contexts.{Within}
use Rattle.simulation_terms.proofs.scopes.InScopes.{Goes, gives_way}
use Rattle.simulation_terms.proofs.scopes.Objects.{object_jobs, objects_are_terms, entered_planned, left_planned, named_from, locals}
use Rattle.simulation_terms.proofs.scopes.Contexts.{in_block}
use Rattle.simulation_statements.proofs.statements.Sequences.{statement_jobs, listed, AboutStatement, AboutStatements, enclosed}

-- ---- scopes that are begun

abbrev pub Counts : SettingView → Position → Position → List Job → Type 0
Counts s first last js = (p : Plan) → p.jobs ≡ [] → position p ≡ first → (ps : List PieceView) (r : Plan) → Makes s p js ps r → position r ≡ last

pub count_terms : (s : SettingView) (c : Position) (js : List Job) → AreTerms js → Counts s c c js
count_terms s c js terms p none begun ps r m = (scopes_kept s p js ps r m (subst AreTerms (sym none) tt) terms).0 ∙ begun

pub count_on : (s : SettingView) (a b c : Position) (js ks : List Job) → Counts s a b js → Counts s b c ks → Counts s a c (js ++ ks)
count_on s a b c js ks one other p none begun ps r m =
    let x = parted s p js ks ps r m in
    other x.between (jobs_none s p js x.front x.between x.first none) (one p none begun x.front x.between x.first) x.back r x.second

pub kept_one : (s : SettingView) (p : Plan) (j : Job) (ps : List PieceView) (r : Plan) → IsTerm j → p.jobs ≡ [] → Makes s p (j ∷ []) ps r → position r ≡ position p
kept_one s p j ps r is none m = (scopes_kept s p (j ∷ []) ps r m (subst AreTerms (sym none) tt) (is, tt)).0

-- ---- blocks

pub record Enclosed (at : Place) (objects : List ℕ) (js : List Job) (p q : Plan) : Type 0 where
  pub jobs : q.jobs ≡ object_jobs act.Enter at objects (length p.names) ++ (js ++ object_jobs act.Leave at objects (length (p.names ++ locals objects)))
  pub names : q.names ≡ (p.names ++ locals objects) ++ locals objects
  pub scopes : position q ≡ inner (position p)

pub block_planned : (at : Place) (objects : List ℕ) (items : StatementTrees) (around : Surroundings) (p : Plan) → p.jobs ≡ [] → Enclosed at objects (statement_jobs items around) p (all_left at objects (all_statements items around (all_entered at objects (with_scope p))))
unfolding with_scope
block_planned at objects items around p none =
    let first = all_entered at objects (with_scope p) in
    let second = all_statements items around first in
    let e = entered_planned at objects (with_scope p) in
    let l = listed items around first in
    let f = left_planned at objects second in
    record {
      jobs = f.jobs ∙ ap (λ js. js ++ object_jobs act.Leave at objects (length second.names)) (l.jobs ∙ ap (λ js. js ++ statement_jobs items around) (e.jobs ∙ ap (λ js. js ++ object_jobs act.Enter at objects (length p.names)) none))
          ∙ ap (λ ns. (object_jobs act.Enter at objects (length p.names) ++ statement_jobs items around) ++ object_jobs act.Leave at objects (length ns)) (l.names ∙ e.names)
          ∙ append_assoc (object_jobs act.Enter at objects (length p.names)) (statement_jobs items around) (object_jobs act.Leave at objects (length (p.names ++ locals objects)));
      names = f.names ∙ ap (λ ns. ns ++ locals objects) (l.names ∙ e.names);
      scopes = f.scopes ∙ l.scopes ∙ e.scopes ∙ one_inner p;
    }

-- ---- selections

unfoldable pub if_jobs : TermTree → StatementTree → Surroundings → ℕ → List Job
if_jobs e body around l = jobs.Ready (Mark l) ∷ (jobs.Condition e (decided (record { yes = l + 1; no = l + 2 }) 0) ∷ (jobs.Ready (Mark (l + 1)) ∷ (jobs.Statement body around ∷ (jobs.Ready (Mark (l + 2)) ∷ []))))

pub if_planned : (e : TermTree) (body : StatementTree) (around : Surroundings) (p : Plan) → p.jobs ≡ [] → (selection e body around p).jobs ≡ if_jobs e body around p.labels
unfolding with_work with_labels if_jobs
if_planned e body around p none =
    ap (λ js. ((((js ++ jobs.Ready (Mark p.labels) ∷ []) ++ jobs.Condition e (decided (record { yes = p.labels + 1; no = p.labels + 2 }) 0) ∷ []) ++ jobs.Ready (Mark (p.labels + 1)) ∷ []) ++ jobs.Statement body around ∷ []) ++ jobs.Ready (Mark (p.labels + 2)) ∷ []) none

pub if_scopes : (e : TermTree) (body : StatementTree) (around : Surroundings) (p : Plan) → position (selection e body around p) ≡ position p
unfolding with_work with_labels
if_scopes e body around p = refl

pub if_grows : (e : TermTree) (body : StatementTree) (around : Surroundings) (p : Plan) → Grows (with_labels 3 p) (selection e body around p)
if_grows e body around p = let start : Grows (with_labels 3 p) (with_labels 3 p) = grows_not (with_labels 3 p) in search works depth 30

pub else_planned : (s : SettingView) (e : TermTree) (body other : StatementTree) (around : Surroundings) (p : Plan) → p.jobs ≡ [] → (two_way_selection s e body other around p).jobs ≡ two_way_jobs s.at e (jobs.Statement body around) (jobs.Statement other around) 0 p.labels
unfolding with_work with_labels
else_planned s e body other around p none =
    ap (λ js. (((((((js ++ jobs.Ready (Mark p.labels) ∷ []) ++ jobs.Condition e (decided (record { yes = p.labels + 1; no = p.labels + 2 }) 0) ∷ []) ++ jobs.Ready (Mark (p.labels + 1)) ∷ []) ++ jobs.Statement body around ∷ []) ++ jobs.Ready (jumping s.at (p.labels + 3)) ∷ []) ++ jobs.Ready (Mark (p.labels + 2)) ∷ []) ++ jobs.Statement other around ∷ []) ++ jobs.Ready (Mark (p.labels + 3)) ∷ []) none

pub else_scopes : (s : SettingView) (e : TermTree) (body other : StatementTree) (around : Surroundings) (p : Plan) → position (two_way_selection s e body other around p) ≡ position p
unfolding with_work with_labels
else_scopes s e body other around p = refl

pub else_grows : (s : SettingView) (e : TermTree) (body other : StatementTree) (around : Surroundings) (p : Plan) → Grows (with_labels 4 p) (two_way_selection s e body other around p)
else_grows s e body other around p = let start : Grows (with_labels 4 p) (with_labels 4 p) = grows_not (with_labels 4 p) in search works depth 30

pub below : (l k m : ℕ) → k < m → l + k < l + m
below l k m less = omega (arith, less)

pub itself : (l : ℕ) → l ≤ l
itself l = omega arith

pub one_three : 1 < 3
one_three = omega arith

pub two_three : 2 < 3
two_three = omega arith

pub one_four : 1 < 4
one_four = omega arith

pub two_four : 2 < 4
two_four = omega arith

pub three_four : 3 < 4
three_four = omega arith

module _ (s : SettingView) (t : Activation) (fits : IsOfUnit t s) (g : FunctionView) where
  pub of_block : (objects : List ℕ) (items : StatementTrees) → AboutStatements s t g items → AboutStatement s t g (tree.Block objects items)
  of_block objects items about n around looping known c suits scopes =
      let j = jobs.Statement (tree.Block objects items) around in
      let within = in_scope around c.scopes in
      let inside = about n within looping (objects ++ known) (inner c) suits.1 (scopes.0.1, scopes.1) in
      let same : (p : Plan) → p.jobs ≡ [] → position p ≡ c → Enclosed s.at objects (statement_jobs items within) p (parts s j p) = λ p none begun. subst (λ k. Enclosed s.at objects (statement_jobs items (in_scope around k)) p (parts s j p)) (ap (λ (x : Position). x.scopes) begun) (block_planned s.at objects items (in_scope around p.scopes) p none) in
      gives_way s t n c (past c (tree.Block objects items)) (Within s t n around looping known) j (item.Statement (tree.Block objects items)) (of_statement t.unit (of_entry t) (tree.Block objects items)) refl (gives_statement n 0 (tree.Block objects items))
      (λ p none begun ps r m known_last items_behind rest stands k f.
      let all = parts s j p in
      let x = same p none begun in
      let known_all = known_between s t (planless all) all.jobs ps r m known_last in
      let named = named_from t (planless all) p.names objects (locals objects) known_all (x.names ∙ append_assoc p.names (locals objects) (locals objects)) in
      let again = named_from t (planless all) (p.names ++ locals objects) objects [] known_all (x.names ∙ ap (λ ns. (p.names ++ locals objects) ++ ns) (sym (append-nil (locals objects)))) in
      (enclosed s t fits n (inner c) (past_all (inner c) items) objects (length p.names) (length (p.names ++ locals objects)) (Within s t n around looping known) (Within s t n within looping (objects ++ known)) (statement_jobs items within) (statements items)
      (λ items k. in_block s t n around looping known objects c.scopes items suits.0 scopes.0.0 k) named again inside).from (planless all) refl (x.scopes ∙ ap inner begun) ps r (subst (λ ks. Makes s (planless all) ks ps r) x.jobs m) known_last items_behind rest stands k f)
      (λ p none begun ps r m.
      let all = parts s j p in
      let x = same p none begun in
      count_on s (inner c) (inner c) (past c (tree.Block objects items)) (object_jobs act.Enter s.at objects (length p.names)) (statement_jobs items within ++ object_jobs act.Leave s.at objects (length (p.names ++ locals objects))) (count_terms s (inner c) _ (objects_are_terms act.Enter s.at objects (length p.names)))
      (count_on s (inner c) (past c (tree.Block objects items)) (past c (tree.Block objects items)) (statement_jobs items within) (object_jobs act.Leave s.at objects (length (p.names ++ locals objects))) (λ p none begun ps r m. inside.ends p none begun ps r m ∙ past_block c objects items) (count_terms s (past c (tree.Block objects items)) _ (objects_are_terms act.Leave s.at objects (length (p.names ++ locals objects)))))
      (planless all) refl (x.scopes ∙ ap inner begun) ps r (subst (λ ks. Makes s (planless all) ks ps r) x.jobs m))

  if_from : (n : ℕ) (e : TermTree) (body : StatementTree) (around : Surroundings) (c last : Position) (l : ℕ) (K : List Item → Type 0) → Decided s t n e (decided (record { yes = l + 1; no = l + 2 }) 0) → Goes s t n c last K (jobs.Statement body around ∷ []) (item.Statement body ∷ []) → l + 3 ≤ 2 ^ 32 - 1 → (p : Plan) → p.jobs ≡ [] → position p ≡ c → (ps : List PieceView) (r : Plan) → Makes s p (if_jobs e body around l) ps r → IsKnown t r
      → (items : List Item) (rest : List PieceView) → Stands t (ps ++ rest) → K items → Simulates t n 0 items rest → Simulates t n 0 (source.condition t.unit true e (item.Statement body ∷ []) [] ++ items) (ps ++ rest)
  unfolding if_jobs
  if_from n e body around c last l K decides goes few p none begun ps r m known items rest stands k f =
      let G : List PieceView → Type 0 = λ w. Stands t w → Simulates t n 0 (source.condition t.unit true e (item.Statement body ∷ []) [] ++ items) w in
      from_piece s r rest p (Mark l) _ ps G m
      (λ b1 m1. from_work s r rest p (jobs.Condition e (decided (record { yes = l + 1; no = l + 2 }) 0)) _ b1 (λ w. G (Mark l ∷ w)) none m1
      (λ fc pc b2 mc none_c m2. from_piece s r rest pc (Mark (l + 1)) _ b2 (λ w. G (Mark l ∷ (fc ++ w))) m2
      (λ b3 m3. from_work s r rest pc (jobs.Statement body around) _ b3 (λ w. G (Mark l ∷ (fc ++ Mark (l + 1) ∷ w))) none_c m3
      (λ fb pb b4 mb none_b m4. from_piece s r rest pb (Mark (l + 2)) [] b4 (λ w. G (Mark l ∷ (fc ++ Mark (l + 1) ∷ (fb ++ w)))) m4
      (λ b5 m5. from_none s r rest pb b5 (λ w. G (Mark l ∷ (fc ++ Mark (l + 1) ∷ (fb ++ Mark (l + 2) ∷ w)))) m5
      (λ stands.
      let at_c = stands_after t (Mark l) (fc ++ Mark (l + 1) ∷ (fb ++ Mark (l + 2) ∷ rest)) stands in
      let at_yes = stands_behind t fc (Mark (l + 1) ∷ (fb ++ Mark (l + 2) ∷ rest)) at_c in
      let at_body = stands_after t (Mark (l + 1)) (fb ++ Mark (l + 2) ∷ rest) at_yes in
      let at_last = stands_behind t fb (Mark (l + 2) ∷ rest) at_body in
      let to_yes = led s t fits (l + 1) (l + 3) (l + 3) (fb ++ Mark (l + 2) ∷ rest) (below l 1 3 one_three) (itself (l + 3)) few at_yes in
      let to_last = led s t fits (l + 2) (l + 3) (l + 3) rest (below l 2 3 two_three) (itself (l + 3)) few at_last in
      let on_yes = goes.from pc none_c (kept_one s p (jobs.Condition e (decided (record { yes = l + 1; no = l + 2 }) 0)) fc pc tt none mc ∙ begun) fb pb mb (known_between s t pb _ _ r m4 known) items (Mark (l + 2) ∷ rest) at_body k (simulates.by_mark n 0 (l + 2) items rest f) in
      simulates.by_mark n 0 l _ _ (decides p none fc pc mc (known_between s t pc _ _ r m2 known) (item.Statement body ∷ []) [] items (Mark (l + 1) ∷ (fb ++ Mark (l + 2) ∷ rest)) (fb ++ Mark (l + 2) ∷ rest) rest at_c to_yes to_last on_yes f))))))) stands

  if_ends : (n : ℕ) (e : TermTree) (body : StatementTree) (around : Surroundings) (c last : Position) (l : ℕ) (K : List Item → Type 0) → Goes s t n c last K (jobs.Statement body around ∷ []) (item.Statement body ∷ []) → Counts s c last (if_jobs e body around l)
  unfolding if_jobs
  if_ends n e body around c last l K goes =
      count_on s c c last (jobs.Ready (Mark l) ∷ (jobs.Condition e (decided (record { yes = l + 1; no = l + 2 }) 0) ∷ (jobs.Ready (Mark (l + 1)) ∷ []))) (jobs.Statement body around ∷ (jobs.Ready (Mark (l + 2)) ∷ [])) (count_terms s c _ (tt, (tt, (tt, tt))))
      (count_on s c last last (jobs.Statement body around ∷ []) (jobs.Ready (Mark (l + 2)) ∷ []) goes.ends (count_terms s last _ (tt, tt)))

  pub of_if : (e : TermTree) (body : StatementTree) → AboutStatement s t g body → AboutStatement s t g (tree.If e body)
  of_if e body about n around looping known c suits scopes =
      let j = jobs.Statement (tree.If e body) around in
      let goes = about n around looping known c suits.1 scopes in
      gives_way s t n c (past c body) (Within s t n around looping known) j (item.Statement (tree.If e body)) (of_statement t.unit (of_entry t) (tree.If e body)) refl (gives_statement n 0 (tree.If e body))
      (λ p none begun ps r m known_last items rest stands k f.
      let all = selection e body around p in
      let few = few_labels s t p j 3 all.jobs ps r (if_grows e body around p) m known_last in
      if_from n e body around c (past c body) p.labels (Within s t n around looping known) ((terms s t fits n e).decided (decided (record { yes = p.labels + 1; no = p.labels + 2 }) 0) suits.0.0 suits.0.1) goes few (planless all) refl (if_scopes e body around p ∙ begun) ps r (subst (λ ks. Makes s (planless all) ks ps r) (if_planned e body around p none) m) known_last items rest stands k f)
      (λ p none begun ps r m.
      let all = selection e body around p in
      if_ends n e body around c (past c body) p.labels (Within s t n around looping known) goes (planless all) refl (if_scopes e body around p ∙ begun) ps r (subst (λ ks. Makes s (planless all) ks ps r) (if_planned e body around p none) m))

  else_from : (n : ℕ) (e : TermTree) (body other : StatementTree) (around : Surroundings) (c middle last : Position) (l : ℕ) (K L : List Item → Type 0) → ((items : List Item) → K items → L (item.Hop ∷ items)) → Decided s t n e (decided (record { yes = l + 1; no = l + 2 }) 0) → Goes s t n c middle L (jobs.Statement body around ∷ []) (item.Statement body ∷ []) → Goes s t n middle last K (jobs.Statement other around ∷ []) (item.Statement other ∷ []) → l + 4 ≤ 2 ^ 32 - 1
      → (p : Plan) → p.jobs ≡ [] → position p ≡ c → (ps : List PieceView) (r : Plan) → Makes s p (two_way_jobs s.at e (jobs.Statement body around) (jobs.Statement other around) 0 l) ps r → IsKnown t r
      → (items : List Item) (rest : List PieceView) → Stands t (ps ++ rest) → K items → Simulates t n 0 items rest → Simulates t n 0 (source.condition t.unit true e (item.Statement body ∷ (item.Hop ∷ [])) (item.Statement other ∷ []) ++ items) (ps ++ rest)
  else_from n e body other around c middle last l K L onwards decides one two few p none begun ps r m known items rest stands k f =
      let q = jumping s.at (l + 3) in
      let held : List Item = item.Statement body ∷ (item.Hop ∷ []) in
      let failed : List Item = item.Statement other ∷ [] in
      let G : List PieceView → Type 0 = λ w. Stands t w → Simulates t n 0 (source.condition t.unit true e held failed ++ items) w in
      from_piece s r rest p (Mark l) _ ps G m
      (λ b1 m1. from_work s r rest p (jobs.Condition e (decided (record { yes = l + 1; no = l + 2 }) 0)) _ b1 (λ w. G (Mark l ∷ w)) none m1
      (λ fc pc b2 mc none_c m2. from_piece s r rest pc (Mark (l + 1)) _ b2 (λ w. G (Mark l ∷ (fc ++ w))) m2
      (λ b3 m3. from_work s r rest pc (jobs.Statement body around) _ b3 (λ w. G (Mark l ∷ (fc ++ Mark (l + 1) ∷ w))) none_c m3
      (λ fa pa b4 ma none_a m4. from_piece s r rest pa q _ b4 (λ w. G (Mark l ∷ (fc ++ Mark (l + 1) ∷ (fa ++ w)))) m4
      (λ b5 m5. from_piece s r rest pa (Mark (l + 2)) _ b5 (λ w. G (Mark l ∷ (fc ++ Mark (l + 1) ∷ (fa ++ q ∷ w)))) m5
      (λ b6 m6. from_work s r rest pa (jobs.Statement other around) _ b6 (λ w. G (Mark l ∷ (fc ++ Mark (l + 1) ∷ (fa ++ q ∷ (Mark (l + 2) ∷ w))))) none_a m6
      (λ fb pb b7 mb none_b m7. from_piece s r rest pb (Mark (l + 3)) [] b7 (λ w. G (Mark l ∷ (fc ++ Mark (l + 1) ∷ (fa ++ q ∷ (Mark (l + 2) ∷ (fb ++ w)))))) m7
      (λ b8 m8. from_none s r rest pb b8 (λ w. G (Mark l ∷ (fc ++ Mark (l + 1) ∷ (fa ++ q ∷ (Mark (l + 2) ∷ (fb ++ Mark (l + 3) ∷ w)))))) m8
      (λ stands.
      let at_c = stands_after t (Mark l) (fc ++ Mark (l + 1) ∷ (fa ++ q ∷ (Mark (l + 2) ∷ (fb ++ Mark (l + 3) ∷ rest)))) stands in
      let at_yes = stands_behind t fc (Mark (l + 1) ∷ (fa ++ q ∷ (Mark (l + 2) ∷ (fb ++ Mark (l + 3) ∷ rest)))) at_c in
      let at_a = stands_after t (Mark (l + 1)) (fa ++ q ∷ (Mark (l + 2) ∷ (fb ++ Mark (l + 3) ∷ rest))) at_yes in
      let at_no = stands_after t q (Mark (l + 2) ∷ (fb ++ Mark (l + 3) ∷ rest)) (stands_behind t fa (q ∷ (Mark (l + 2) ∷ (fb ++ Mark (l + 3) ∷ rest))) at_a) in
      let at_b = stands_after t (Mark (l + 2)) (fb ++ Mark (l + 3) ∷ rest) at_no in
      let at_last = stands_behind t fb (Mark (l + 3) ∷ rest) at_b in
      let to_yes = led s t fits (l + 1) (l + 4) (l + 4) (fa ++ q ∷ (Mark (l + 2) ∷ (fb ++ Mark (l + 3) ∷ rest))) (below l 1 4 one_four) (itself (l + 4)) few at_yes in
      let to_no = led s t fits (l + 2) (l + 4) (l + 4) (fb ++ Mark (l + 3) ∷ rest) (below l 2 4 two_four) (itself (l + 4)) few at_no in
      let to_last = led s t fits (l + 3) (l + 4) (l + 4) rest (below l 3 4 three_four) (itself (l + 4)) few at_last in
      let at_begin = kept_one s p (jobs.Condition e (decided (record { yes = l + 1; no = l + 2 }) 0)) fc pc tt none mc ∙ begun in
      let on_no = two.from pa none_a (one.ends pc none_c at_begin fa pa ma) fb pb mb (known_between s t pb _ _ r m7 known) items (Mark (l + 3) ∷ rest) at_b k (simulates.by_mark n 0 (l + 3) items rest f) in
      let on_yes = one.from pc none_c at_begin fa pa ma (known_between s t pa _ _ r m4 known) (item.Hop ∷ items) (q ∷ (Mark (l + 2) ∷ (fb ++ Mark (l + 3) ∷ rest))) at_a (onwards items k) (hops s t fits n 0 (l + 3) items (Mark (l + 2) ∷ (fb ++ Mark (l + 3) ∷ rest)) rest to_last f) in
      simulates.by_mark n 0 l _ _
      (decides p none fc pc mc (known_between s t pc _ _ r m2 known) held failed items (Mark (l + 1) ∷ (fa ++ q ∷ (Mark (l + 2) ∷ (fb ++ Mark (l + 3) ∷ rest)))) (fa ++ q ∷ (Mark (l + 2) ∷ (fb ++ Mark (l + 3) ∷ rest))) (fb ++ Mark (l + 3) ∷ rest) at_c to_yes to_no on_yes on_no)))))))))) stands

  else_ends : (n : ℕ) (e : TermTree) (body other : StatementTree) (around : Surroundings) (c middle last : Position) (l : ℕ) (K L : List Item → Type 0) → Goes s t n c middle L (jobs.Statement body around ∷ []) (item.Statement body ∷ []) → Goes s t n middle last K (jobs.Statement other around ∷ []) (item.Statement other ∷ []) → Counts s c last (two_way_jobs s.at e (jobs.Statement body around) (jobs.Statement other around) 0 l)
  else_ends n e body other around c middle last l K L one two =
      count_on s c c last (jobs.Ready (Mark l) ∷ (jobs.Condition e (decided (record { yes = l + 1; no = l + 2 }) 0) ∷ (jobs.Ready (Mark (l + 1)) ∷ []))) _ (count_terms s c _ (tt, (tt, (tt, tt))))
      (count_on s c middle last (jobs.Statement body around ∷ []) _ one.ends
      (count_on s middle middle last (jobs.Ready (jumping s.at (l + 3)) ∷ (jobs.Ready (Mark (l + 2)) ∷ [])) _ (count_terms s middle _ (tt, (tt, tt)))
      (count_on s middle last last (jobs.Statement other around ∷ []) (jobs.Ready (Mark (l + 3)) ∷ []) two.ends (count_terms s last _ (tt, tt)))))

  pub of_if_else : (e : TermTree) (body other : StatementTree) → AboutStatement s t g body → AboutStatement s t g other → AboutStatement s t g (tree.IfElse e body other)
  of_if_else e body other first second n around looping known c suits scopes =
      let j = jobs.Statement (tree.IfElse e body other) around in
      let one = first n around looping known c suits.1 (scopes.0.0, scopes.1.0) in
      let two = second n around looping known (past c body) suits.2 (scopes.0.1, scopes.1.1) in
      let last = past (past c body) other in
      subst (λ k. Goes s t n c k (Within s t n around looping known) (j ∷ []) (item.Statement (tree.IfElse e body other) ∷ [])) (past_else c e body other)
      (gives_way s t n c last (Within s t n around looping known) j (item.Statement (tree.IfElse e body other)) (of_statement t.unit (of_entry t) (tree.IfElse e body other)) refl (gives_statement n 0 (tree.IfElse e body other))
      (λ p none begun ps r m known_last items rest stands k f.
      let all = two_way_selection s e body other around p in
      let few = few_labels s t p j 4 all.jobs ps r (else_grows s e body other around p) m known_last in
      else_from n e body other around c (past c body) last p.labels (Within s t n around looping known) (Within s t n around looping known) (λ items k. k) ((terms s t fits n e).decided (decided (record { yes = p.labels + 1; no = p.labels + 2 }) 0) suits.0.0 suits.0.1) one two few (planless all) refl (else_scopes s e body other around p ∙ begun) ps r (subst (λ ks. Makes s (planless all) ks ps r) (else_planned s e body other around p none) m) known_last items rest stands k f)
      (λ p none begun ps r m.
      let all = two_way_selection s e body other around p in
      else_ends n e body other around c (past c body) last p.labels (Within s t n around looping known) (Within s t n around looping known) one two (planless all) refl (else_scopes s e body other around p ∙ begun) ps r (subst (λ ks. Makes s (planless all) ks ps r) (else_planned s e body other around p none) m)))
