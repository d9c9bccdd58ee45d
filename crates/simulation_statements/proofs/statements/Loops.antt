-- `while` and `do`.
use Rattle.std.proofs.Common.{◌≡◌, ◌≤◌, ◌<◌, ℕ, zero, suc, ◌+◌, ◌-◌, ◌^◌, true, List, [], ◌∷◌, ◌++◌, refl, arith, ap, subst, ◌∙◌}
use Rattle.cc_base.specs.declared.diagnostics.Place.{Place}
use Rattle.c_layout.specs.CheckedTrees as tree
use Rattle.c_layout.specs.CheckedTrees.{TermTree, StatementTree, StatementTrees}
use Rattle.c_layout.specs.CheckedUnits.{FunctionView}
use Rattle.lower_templates.specs.Worklist.Pieces.{PieceView, Mark}
use Rattle.lower_templates.specs.Worklist.Plans.{Plan, with_work, with_labels}
use Rattle.lower_templates.specs.Worklist.Settings.{SettingView}
use Rattle.lower_templates.specs.Worklist.Works as jobs
use Rattle.lower_templates.specs.Worklist.Works.{Job}
use Rattle.lower_templates.specs.declared.worklist.pending_works.Surroundings.{Surroundings}
use Rattle.lower_expressions.specs.Branches.{decided}
use Rattle.lower_functions.specs.Statements.Loops as loops
use Rattle.lower_functions.specs.Statements.Loops.{in_loop}
use Rattle.lower_functions.specs.Functions.Turns.{planless}
use Rattle.lower_template_theorems.specs.Growth.Growth.{Grows}
use Rattle.lower_template_theorems.proofs.growth.Growth.{works, grows_not}
use Rattle.lower_template_theorems.specs.Worklists.Derivations.{Makes}
use Rattle.semantics.specs.SourceMachine.Items as item
use Rattle.semantics.specs.SourceMachine.Items.{Item}
use Rattle.semantics.specs.SourceMachine.ConditionItems as source
use Rattle.semantics.specs.SourceMachine.StatementItems.{of_statement}
use Rattle.simulation_terms.specs.SimulationRelation.Activations.{Activation, of_entry}
use Rattle.simulation_terms.specs.SimulationRelation.Simulates as simulates
use Rattle.simulation_terms.specs.SimulationRelation.Simulates.{Leads, Simulates}
use Rattle.simulation_terms.proofs.simulation_relation.Constructions.{gives_statement, gives_loop_end, gives_turn_end}
use Rattle.simulation_terms.proofs.simulation_relation.FewerTurns.{less}
use Rattle.simulation_terms.specs.Worklists.TemplateParts.{IsOfUnit, IsKnown, Stands}
use Rattle.simulation_terms.proofs.worklists.Runs.{stands_behind, stands_after}
use Rattle.simulation_terms.proofs.terms.Choices.{jumping, hops}
use Rattle.simulation_terms.proofs.worklists.Laying.{from_piece, from_none, from_work, led, known_between, few_labels}
use Rattle.simulation_terms.proofs.terms.Terms.{terms}
use Rattle.simulation_terms.specs.Scopes.Contexts.{Within}
use Rattle.simulation_terms.proofs.scopes.Positions.{Position, position, past}
use Rattle.simulation_terms.proofs.scopes.InScopes.{context_less, Goes, gives_way}
use Rattle.simulation_terms.proofs.scopes.Contexts.{in_body}
use Rattle.simulation_terms.proofs.scopes.QuietItems.{condition_quiet}
use Rattle.simulation_statements.proofs.statements.Sequences.{AboutStatement, HasParts}
use Rattle.semantics.specs.SourceMachine.Scopes.{open_scopes, past_loop, past_iteration}
use Rattle.simulation_terms.specs.Scopes.SuitedStatements.{Enclosure, by_loop, SuitsBehind, SuitsIn}
use Rattle.simulation_statements.proofs.statements.Selections.{Counts, count_terms, count_on, kept_one, below, itself, one_three, two_three}

-- ---- `while`

unfoldable pub while_jobs : Place → TermTree → StatementTree → Surroundings → ℕ → List Job
while_jobs at e body around l = jobs.Ready (Mark l) ∷ (jobs.Condition e (decided (record { yes = l + 1; no = l + 2 }) 0) ∷ (jobs.Ready (Mark (l + 1)) ∷ (jobs.Statement body (in_loop around (l + 2) l) ∷ (jobs.Ready (jumping at l) ∷ (jobs.Ready (Mark (l + 2)) ∷ [])))))

pub while_planned : (s : SettingView) (e : TermTree) (body : StatementTree) (around : Surroundings) (p : Plan) → p.jobs ≡ [] → (loops.while_loop s e body around p).jobs ≡ while_jobs s.at e body around p.labels
unfolding with_work with_labels while_jobs
while_planned s e body around p none =
    ap (λ js. (((((js ++ jobs.Ready (Mark p.labels) ∷ []) ++ jobs.Condition e (decided (record { yes = p.labels + 1; no = p.labels + 2 }) 0) ∷ []) ++ jobs.Ready (Mark (p.labels + 1)) ∷ []) ++ jobs.Statement body (in_loop around (p.labels + 2) p.labels) ∷ []) ++ jobs.Ready (jumping s.at p.labels) ∷ []) ++ jobs.Ready (Mark (p.labels + 2)) ∷ []) none

pub while_scopes : (s : SettingView) (e : TermTree) (body : StatementTree) (around : Surroundings) (p : Plan) → position (loops.while_loop s e body around p) ≡ position p
unfolding with_work with_labels
while_scopes s e body around p = refl

pub while_grows : (s : SettingView) (e : TermTree) (body : StatementTree) (around : Surroundings) (p : Plan) → Grows (with_labels 3 p) (loops.while_loop s e body around p)
while_grows s e body around p = let start : Grows (with_labels 3 p) (with_labels 3 p) = grows_not (with_labels 3 p) in search works depth 30

-- ---- `do`

unfoldable pub do_jobs : TermTree → StatementTree → Surroundings → ℕ → List Job
do_jobs e body around l = jobs.Ready (Mark l) ∷ (jobs.Statement body (in_loop around (l + 2) (l + 1)) ∷ (jobs.Ready (Mark (l + 1)) ∷ (jobs.Condition e (decided (record { yes = l; no = l + 2 }) 0) ∷ (jobs.Ready (Mark (l + 2)) ∷ []))))

pub do_planned : (e : TermTree) (body : StatementTree) (around : Surroundings) (p : Plan) → p.jobs ≡ [] → (loops.do_loop body e around p).jobs ≡ do_jobs e body around p.labels
unfolding with_work with_labels do_jobs
do_planned e body around p none =
    ap (λ js. ((((js ++ jobs.Ready (Mark p.labels) ∷ []) ++ jobs.Statement body (in_loop around (p.labels + 2) (p.labels + 1)) ∷ []) ++ jobs.Ready (Mark (p.labels + 1)) ∷ []) ++ jobs.Condition e (decided (record { yes = p.labels; no = p.labels + 2 }) 0) ∷ []) ++ jobs.Ready (Mark (p.labels + 2)) ∷ []) none

pub do_scopes : (e : TermTree) (body : StatementTree) (around : Surroundings) (p : Plan) → position (loops.do_loop body e around p) ≡ position p
unfolding with_work with_labels
do_scopes e body around p = refl

pub do_grows : (e : TermTree) (body : StatementTree) (around : Surroundings) (p : Plan) → Grows (with_labels 3 p) (loops.do_loop body e around p)
do_grows e body around p = let start : Grows (with_labels 3 p) (with_labels 3 p) = grows_not (with_labels 3 p) in search works depth 30

first_below : (l : ℕ) → l < l + 3
first_below l = omega arith

module _ (s : SettingView) (t : Activation) (fits : IsOfUnit t s) (g : FunctionView) where
  -- ---- the turns of `while`

  module _ (e : TermTree) (body : StatementTree) (about : AboutStatement s t g body) (around : Surroundings) (looping : Enclosure) (known : List ℕ) (c : Position) (l : ℕ) (suits_test : SuitsBehind t.unit true 0 e) (suits_body : SuitsIn t.unit g by_loop known body) (scopes : HasParts s body around.scope c) (few : l + 3 ≤ 2 ^ 32 - 1)
      (p : Plan) (none : p.jobs ≡ []) (fc : List PieceView) (pc : Plan) (mc : Makes s p (jobs.Condition e (decided (record { yes = l + 1; no = l + 2 }) 0) ∷ []) fc pc) (known_c : IsKnown t pc) (none_c : pc.jobs ≡ []) (begun : position pc ≡ c)
      (fb : List PieceView) (pb : Plan) (mb : Makes s pc (jobs.Statement body (in_loop around (l + 2) l) ∷ []) fb pb) (known_b : IsKnown t pb) (items : List Item) (rest : List PieceView) where
    abbrev pub while_pieces : List PieceView
    while_pieces = fc ++ Mark (l + 1) ∷ (fb ++ jumping s.at l ∷ (Mark (l + 2) ∷ rest))

    abbrev pub while_turn_items : List Item
    while_turn_items = item.WhileIteration e body ∷ (item.LoopEnd ∷ items)

    -- what is behind the body, where the next turn follows
    pub while_again : Stands t (Mark l ∷ while_pieces) → (m : ℕ) → Simulates t m 0 while_turn_items while_pieces → Simulates t m 0 (item.Hop ∷ (item.IterationEnd ∷ while_turn_items)) (jumping s.at l ∷ (Mark (l + 2) ∷ rest))
    while_again stands m back =
        hops s t fits m 0 l (item.IterationEnd ∷ while_turn_items) (Mark (l + 2) ∷ rest) while_pieces (led s t fits l (l + 3) (l + 3) while_pieces (first_below l) (itself (l + 3)) few stands) (gives_turn_end m 0 while_turn_items while_pieces back)

    pub while_at_body : Stands t (Mark l ∷ while_pieces) → Stands t (fb ++ jumping s.at l ∷ (Mark (l + 2) ∷ rest))
    while_at_body stands =
        stands_after t (Mark (l + 1)) (fb ++ jumping s.at l ∷ (Mark (l + 2) ∷ rest)) (stands_behind t fc (Mark (l + 1) ∷ (fb ++ jumping s.at l ∷ (Mark (l + 2) ∷ rest))) (stands_after t (Mark l) while_pieces stands))

    while_to_last : Stands t (Mark l ∷ while_pieces) → Leads t (l + 2) rest
    while_to_last stands =
        led s t fits (l + 2) (l + 3) (l + 3) rest (below l 2 3 two_three) (itself (l + 3)) few (stands_after t (jumping s.at l) (Mark (l + 2) ∷ rest) (stands_behind t fb (jumping s.at l ∷ (Mark (l + 2) ∷ rest)) (while_at_body stands)))

    -- where the body stands
    pub while_context : Stands t (Mark l ∷ while_pieces) → (m : ℕ) → Simulates t m 0 while_turn_items while_pieces → Simulates t m 0 items rest → Within s t m around looping known items → Within s t m (in_loop around (l + 2) l) by_loop known (item.Hop ∷ (item.IterationEnd ∷ while_turn_items))
    while_context stands m back f k =
        in_body s t m around looping known items (item.Hop ∷ (item.IterationEnd ∷ while_turn_items)) while_turn_items (l + 2) l rest while_pieces refl refl refl refl (while_to_last stands) (led s t fits l (l + 3) (l + 3) while_pieces (first_below l) (itself (l + 3)) few stands) f back k

    pub while_turns : Stands t (Mark l ∷ while_pieces) → (m : ℕ) → Simulates t m 0 items rest → Within s t m around looping known items → Simulates t m 0 while_turn_items while_pieces
    while_turns stands zero f k = simulates.enough _ _ _
    while_turns stands (suc m) f k =
        let less_f = less m 0 items rest f in
        let less_k = context_less s t m around looping known (open_scopes items) (past_loop items) (past_iteration items) k in
        let back = while_turns stands m less_f less_k in
        let at_c = stands_after t (Mark l) while_pieces stands in
        let at_yes = stands_behind t fc (Mark (l + 1) ∷ (fb ++ jumping s.at l ∷ (Mark (l + 2) ∷ rest))) at_c in
        let to_yes = led s t fits (l + 1) (l + 3) (l + 3) (fb ++ jumping s.at l ∷ (Mark (l + 2) ∷ rest)) (below l 1 3 one_three) (itself (l + 3)) few at_yes in
        let on_yes = (about m (in_loop around (l + 2) l) by_loop known c suits_body scopes).from pc none_c begun fb pb mb known_b (item.Hop ∷ (item.IterationEnd ∷ while_turn_items)) (jumping s.at l ∷ (Mark (l + 2) ∷ rest)) (while_at_body stands) (while_context stands m back less_f less_k) (while_again stands m back) in
        simulates.in_while m 0 e body (item.LoopEnd ∷ items) while_pieces
        ((terms s t fits m e).decided (decided (record { yes = l + 1; no = l + 2 }) 0) suits_test.0 suits_test.1 p none fc pc mc known_c (item.Statement body ∷ (item.Hop ∷ (item.IterationEnd ∷ (item.WhileIteration e body ∷ [])))) [] (item.LoopEnd ∷ items) (Mark (l + 1) ∷ (fb ++ jumping s.at l ∷ (Mark (l + 2) ∷ rest))) (fb ++ jumping s.at l ∷ (Mark (l + 2) ∷ rest)) rest at_c to_yes (while_to_last stands) on_yes (gives_loop_end m 0 items rest less_f))

  while_from : (n : ℕ) (e : TermTree) (body : StatementTree) (about : AboutStatement s t g body) (around : Surroundings) (looping : Enclosure) (known : List ℕ) (c : Position) (l : ℕ) → SuitsBehind t.unit true 0 e → SuitsIn t.unit g by_loop known body → HasParts s body around.scope c → l + 3 ≤ 2 ^ 32 - 1
      → (p : Plan) → p.jobs ≡ [] → position p ≡ c → (ps : List PieceView) (r : Plan) → Makes s p (while_jobs s.at e body around l) ps r → IsKnown t r → (items : List Item) (rest : List PieceView) → Stands t (ps ++ rest) → Within s t n around looping known items → Simulates t n 0 items rest → Simulates t n 0 (item.WhileIteration e body ∷ (item.LoopEnd ∷ items)) (ps ++ rest)
  unfolding while_jobs
  while_from n e body about around looping known c l suits_test suits_body scopes few p none begun ps r m known_r items rest stands k f =
      let q = jumping s.at l in
      let G : List PieceView → Type 0 = λ w. Stands t w → Simulates t n 0 (item.WhileIteration e body ∷ (item.LoopEnd ∷ items)) w in
      from_piece s r rest p (Mark l) _ ps G m
      (λ b1 m1. from_work s r rest p (jobs.Condition e (decided (record { yes = l + 1; no = l + 2 }) 0)) _ b1 (λ w. G (Mark l ∷ w)) none m1
      (λ fc pc b2 mc none_c m2. from_piece s r rest pc (Mark (l + 1)) _ b2 (λ w. G (Mark l ∷ (fc ++ w))) m2
      (λ b3 m3. from_work s r rest pc (jobs.Statement body (in_loop around (l + 2) l)) _ b3 (λ w. G (Mark l ∷ (fc ++ Mark (l + 1) ∷ w))) none_c m3
      (λ fb pb b4 mb none_b m4. from_piece s r rest pb q _ b4 (λ w. G (Mark l ∷ (fc ++ Mark (l + 1) ∷ (fb ++ w)))) m4
      (λ b5 m5. from_piece s r rest pb (Mark (l + 2)) [] b5 (λ w. G (Mark l ∷ (fc ++ Mark (l + 1) ∷ (fb ++ q ∷ w)))) m5
      (λ b6 m6. from_none s r rest pb b6 (λ w. G (Mark l ∷ (fc ++ Mark (l + 1) ∷ (fb ++ q ∷ (Mark (l + 2) ∷ w))))) m6
      (λ stands. simulates.by_mark n 0 l _ _ (while_turns e body about around looping known c l suits_test suits_body scopes few p none fc pc mc (known_between s t pc _ _ r m2 known_r) none_c (kept_one s p (jobs.Condition e (decided (record { yes = l + 1; no = l + 2 }) 0)) fc pc tt none mc ∙ begun) fb pb mb (known_between s t pb _ _ r m4 known_r) items rest stands n f k)))))))) stands

  while_ends : (n : ℕ) (e : TermTree) (body : StatementTree) (around : Surroundings) (c last : Position) (l : ℕ) (K : List Item → Type 0) → Goes s t n c last K (jobs.Statement body (in_loop around (l + 2) l) ∷ []) (item.Statement body ∷ []) → Counts s c last (while_jobs s.at e body around l)
  unfolding while_jobs
  while_ends n e body around c last l K goes =
      count_on s c c last (jobs.Ready (Mark l) ∷ (jobs.Condition e (decided (record { yes = l + 1; no = l + 2 }) 0) ∷ (jobs.Ready (Mark (l + 1)) ∷ []))) _ (count_terms s c _ (tt, (tt, (tt, tt))))
      (count_on s c last last (jobs.Statement body (in_loop around (l + 2) l) ∷ []) (jobs.Ready (jumping s.at l) ∷ (jobs.Ready (Mark (l + 2)) ∷ [])) goes.ends (count_terms s last _ (tt, (tt, tt))))

  pub of_while : (e : TermTree) (body : StatementTree) → AboutStatement s t g body → AboutStatement s t g (tree.While e body)
  of_while e body about n around looping known c suits scopes =
      let j = jobs.Statement (tree.While e body) around in
      gives_way s t n c (past c body) (Within s t n around looping known) j (item.Statement (tree.While e body)) (of_statement t.unit (of_entry t) (tree.While e body)) refl (gives_statement n 0 (tree.While e body))
      (λ p none begun ps r m known_last items rest stands k f.
      let all = loops.while_loop s e body around p in
      let few = few_labels s t p j 3 all.jobs ps r (while_grows s e body around p) m known_last in
      while_from n e body about around looping known c p.labels suits.0 suits.1 scopes few (planless all) refl (while_scopes s e body around p ∙ begun) ps r (subst (λ ks. Makes s (planless all) ks ps r) (while_planned s e body around p none) m) known_last items rest stands k f)
      (λ p none begun ps r m.
      let all = loops.while_loop s e body around p in
      while_ends n e body around c (past c body) p.labels (Within s t n (in_loop around (p.labels + 2) p.labels) by_loop known) (about n (in_loop around (p.labels + 2) p.labels) by_loop known c suits.1 scopes) (planless all) refl (while_scopes s e body around p ∙ begun) ps r (subst (λ ks. Makes s (planless all) ks ps r) (while_planned s e body around p none) m))

  -- ---- the turns of `do`

  module _ (e : TermTree) (body : StatementTree) (about : AboutStatement s t g body) (around : Surroundings) (looping : Enclosure) (known : List ℕ) (c : Position) (l : ℕ) (suits_body : SuitsIn t.unit g by_loop known body) (suits_test : SuitsBehind t.unit true 0 e) (scopes : HasParts s body around.scope c) (few : l + 3 ≤ 2 ^ 32 - 1)
      (p : Plan) (none : p.jobs ≡ []) (begun : position p ≡ c) (fb : List PieceView) (pb : Plan) (mb : Makes s p (jobs.Statement body (in_loop around (l + 2) (l + 1)) ∷ []) fb pb) (known_b : IsKnown t pb) (none_b : pb.jobs ≡ [])
      (fc : List PieceView) (pc : Plan) (mc : Makes s pb (jobs.Condition e (decided (record { yes = l; no = l + 2 }) 0) ∷ []) fc pc) (known_c : IsKnown t pc) (items : List Item) (rest : List PieceView) where
    abbrev pub do_pieces : List PieceView
    do_pieces = fb ++ Mark (l + 1) ∷ (fc ++ Mark (l + 2) ∷ rest)

    abbrev pub do_test_items : List Item
    do_test_items = source.condition t.unit true e (item.DoIteration body e ∷ []) [] ++ (item.LoopEnd ∷ items)

    do_at_test : Stands t (Mark l ∷ do_pieces) → Stands t (Mark (l + 1) ∷ (fc ++ Mark (l + 2) ∷ rest))
    do_at_test stands = stands_behind t fb (Mark (l + 1) ∷ (fc ++ Mark (l + 2) ∷ rest)) (stands_after t (Mark l) do_pieces stands)

    do_to_last : Stands t (Mark l ∷ do_pieces) → Leads t (l + 2) rest
    do_to_last stands = led s t fits (l + 2) (l + 3) (l + 3) rest (below l 2 3 two_three) (itself (l + 3)) few (stands_behind t fc (Mark (l + 2) ∷ rest) (stands_after t (Mark (l + 1)) (fc ++ Mark (l + 2) ∷ rest) (do_at_test stands)))

    -- the condition, where the next turn follows
    do_tested : Stands t (Mark l ∷ do_pieces) → (m : ℕ) → Simulates t m 0 (item.DoIteration body e ∷ (item.LoopEnd ∷ items)) do_pieces → Simulates t m 0 items rest → Simulates t m 0 do_test_items (fc ++ Mark (l + 2) ∷ rest)
    do_tested stands m back f =
        let at_c = stands_after t (Mark (l + 1)) (fc ++ Mark (l + 2) ∷ rest) (do_at_test stands) in
        let to_begin = led s t fits l (l + 3) (l + 3) do_pieces (first_below l) (itself (l + 3)) few stands in
        (terms s t fits m e).decided (decided (record { yes = l; no = l + 2 }) 0) suits_test.0 suits_test.1 pb none_b fc pc mc known_c (item.DoIteration body e ∷ []) [] (item.LoopEnd ∷ items) (Mark (l + 2) ∷ rest) do_pieces rest at_c to_begin (do_to_last stands) back (gives_loop_end m 0 items rest f)

    -- what is behind the body
    pub do_again : Stands t (Mark l ∷ do_pieces) → (m : ℕ) → Simulates t m 0 (item.DoIteration body e ∷ (item.LoopEnd ∷ items)) do_pieces → Simulates t m 0 items rest → Simulates t m 0 (item.IterationEnd ∷ do_test_items) (Mark (l + 1) ∷ (fc ++ Mark (l + 2) ∷ rest))
    do_again stands m back f = simulates.by_mark m 0 (l + 1) (item.IterationEnd ∷ do_test_items) (fc ++ Mark (l + 2) ∷ rest) (gives_turn_end m 0 do_test_items (fc ++ Mark (l + 2) ∷ rest) (do_tested stands m back f))

    -- where the body stands
    pub do_context : Stands t (Mark l ∷ do_pieces) → (m : ℕ) → Simulates t m 0 (item.DoIteration body e ∷ (item.LoopEnd ∷ items)) do_pieces → Simulates t m 0 items rest → Within s t m around looping known items → Within s t m (in_loop around (l + 2) (l + 1)) by_loop known (item.IterationEnd ∷ do_test_items)
    do_context stands m back f k =
        let to_test = led s t fits (l + 1) (l + 3) (l + 3) (fc ++ Mark (l + 2) ∷ rest) (below l 1 3 one_three) (itself (l + 3)) few (do_at_test stands) in
        let quiet = condition_quiet t true e (item.DoIteration body e ∷ []) [] in
        in_body s t m around looping known items (item.IterationEnd ∷ do_test_items) do_test_items (l + 2) (l + 1) rest (fc ++ Mark (l + 2) ∷ rest) (quiet.scopes (item.LoopEnd ∷ items)) (quiet.scopes (item.LoopEnd ∷ items)) (quiet.after_loop (item.LoopEnd ∷ items)) refl (do_to_last stands) to_test f (do_tested stands m back f) k

    pub do_turns : Stands t (Mark l ∷ do_pieces) → (m : ℕ) → Simulates t m 0 items rest → Within s t m around looping known items → Simulates t m 0 (item.DoIteration body e ∷ (item.LoopEnd ∷ items)) do_pieces
    do_turns stands zero f k = simulates.enough _ _ _
    do_turns stands (suc m) f k =
        let less_f = less m 0 items rest f in
        let less_k = context_less s t m around looping known (open_scopes items) (past_loop items) (past_iteration items) k in
        let back = do_turns stands m less_f less_k in
        simulates.in_do m 0 body e (item.LoopEnd ∷ items) do_pieces
        ((about m (in_loop around (l + 2) (l + 1)) by_loop known c suits_body scopes).from p none begun fb pb mb known_b (item.IterationEnd ∷ do_test_items) (Mark (l + 1) ∷ (fc ++ Mark (l + 2) ∷ rest)) (stands_after t (Mark l) do_pieces stands) (do_context stands m back less_f less_k) (do_again stands m back less_f))

  do_from : (n : ℕ) (e : TermTree) (body : StatementTree) (about : AboutStatement s t g body) (around : Surroundings) (looping : Enclosure) (known : List ℕ) (c : Position) (l : ℕ) → SuitsIn t.unit g by_loop known body → SuitsBehind t.unit true 0 e → HasParts s body around.scope c → l + 3 ≤ 2 ^ 32 - 1
      → (p : Plan) → p.jobs ≡ [] → position p ≡ c → (ps : List PieceView) (r : Plan) → Makes s p (do_jobs e body around l) ps r → IsKnown t r → (items : List Item) (rest : List PieceView) → Stands t (ps ++ rest) → Within s t n around looping known items → Simulates t n 0 items rest → Simulates t n 0 (item.DoIteration body e ∷ (item.LoopEnd ∷ items)) (ps ++ rest)
  unfolding do_jobs
  do_from n e body about around looping known c l suits_body suits_test scopes few p none begun ps r m known_r items rest stands k f =
      let G : List PieceView → Type 0 = λ w. Stands t w → Simulates t n 0 (item.DoIteration body e ∷ (item.LoopEnd ∷ items)) w in
      from_piece s r rest p (Mark l) _ ps G m
      (λ b1 m1. from_work s r rest p (jobs.Statement body (in_loop around (l + 2) (l + 1))) _ b1 (λ w. G (Mark l ∷ w)) none m1
      (λ fb pb b2 mb none_b m2. from_piece s r rest pb (Mark (l + 1)) _ b2 (λ w. G (Mark l ∷ (fb ++ w))) m2
      (λ b3 m3. from_work s r rest pb (jobs.Condition e (decided (record { yes = l; no = l + 2 }) 0)) _ b3 (λ w. G (Mark l ∷ (fb ++ Mark (l + 1) ∷ w))) none_b m3
      (λ fc pc b4 mc none_c m4. from_piece s r rest pc (Mark (l + 2)) [] b4 (λ w. G (Mark l ∷ (fb ++ Mark (l + 1) ∷ (fc ++ w)))) m4
      (λ b5 m5. from_none s r rest pc b5 (λ w. G (Mark l ∷ (fb ++ Mark (l + 1) ∷ (fc ++ Mark (l + 2) ∷ w)))) m5
      (λ stands. simulates.by_mark n 0 l _ _ (do_turns e body about around looping known c l suits_body suits_test scopes few p none begun fb pb mb (known_between s t pb _ _ r m2 known_r) none_b fc pc mc (known_between s t pc _ _ r m4 known_r) items rest stands n f k))))))) stands

  do_ends : (n : ℕ) (e : TermTree) (body : StatementTree) (around : Surroundings) (c last : Position) (l : ℕ) (K : List Item → Type 0) → Goes s t n c last K (jobs.Statement body (in_loop around (l + 2) (l + 1)) ∷ []) (item.Statement body ∷ []) → Counts s c last (do_jobs e body around l)
  unfolding do_jobs
  do_ends n e body around c last l K goes =
      count_on s c c last (jobs.Ready (Mark l) ∷ []) _ (count_terms s c _ (tt, tt))
      (count_on s c last last (jobs.Statement body (in_loop around (l + 2) (l + 1)) ∷ []) (jobs.Ready (Mark (l + 1)) ∷ (jobs.Condition e (decided (record { yes = l; no = l + 2 }) 0) ∷ (jobs.Ready (Mark (l + 2)) ∷ []))) goes.ends (count_terms s last _ (tt, (tt, (tt, tt)))))

  pub of_do : (body : StatementTree) (e : TermTree) → AboutStatement s t g body → AboutStatement s t g (tree.Do body e)
  of_do body e about n around looping known c suits scopes =
      let j = jobs.Statement (tree.Do body e) around in
      gives_way s t n c (past c body) (Within s t n around looping known) j (item.Statement (tree.Do body e)) (of_statement t.unit (of_entry t) (tree.Do body e)) refl (gives_statement n 0 (tree.Do body e))
      (λ p none begun ps r m known_last items rest stands k f.
      let all = loops.do_loop body e around p in
      let few = few_labels s t p j 3 all.jobs ps r (do_grows e body around p) m known_last in
      do_from n e body about around looping known c p.labels suits.0 suits.1 scopes few (planless all) refl (do_scopes e body around p ∙ begun) ps r (subst (λ ks. Makes s (planless all) ks ps r) (do_planned e body around p none) m) known_last items rest stands k f)
      (λ p none begun ps r m.
      let all = loops.do_loop body e around p in
      do_ends n e body around c (past c body) p.labels (Within s t n (in_loop around (p.labels + 2) (p.labels + 1)) by_loop known) (about n (in_loop around (p.labels + 2) (p.labels + 1)) by_loop known c suits.0 scopes) (planless all) refl (do_scopes e body around p ∙ begun) ps r (subst (λ ks. Makes s (planless all) ks ps r) (do_planned e body around p none) m))
