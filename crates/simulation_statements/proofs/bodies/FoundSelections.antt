-- Labels in lists of statements, in blocks and in selections.
use Rattle.std.proofs.Common.{◌≡◌, ◌≤◌, ℕ, ◌+◌, ◌-◌, ◌^◌, List, [], ◌∷◌, ◌++◌, length, Option, refl, ap, sym, subst, ◌∙◌}
use Rattle.std.proofs.lemmas.List.{append-nil}
use Rattle.c_layout.specs.CheckedTrees as tree
use Rattle.c_layout.specs.CheckedTrees.{TermTree, StatementTree, StatementTrees}
use Rattle.c_layout.specs.CheckedUnits.{FunctionView}
use Rattle.lower_templates.specs.Worklist.Acts as act
use Rattle.lower_templates.specs.Worklist.Pieces.{PieceView, Mark}
use Rattle.lower_templates.specs.Worklist.Plans.{Plan}
use Rattle.lower_templates.specs.Worklist.Settings.{SettingView}
use Rattle.lower_templates.specs.Worklist.Works as jobs
use Rattle.lower_templates.specs.Worklist.Works.{Job}
use Rattle.lower_templates.specs.declared.worklist.pending_works.Surroundings.{Surroundings}
use Rattle.lower_expressions.specs.Branches.{decided}
use Rattle.lower_functions.specs.Statements.PlainStatements.{in_scope}
use Rattle.lower_functions.specs.Statements.Loops.{selection, two_way_selection}
use Rattle.lower_functions.specs.Functions.Turns.{planless}
use Rattle.lower_template_theorems.specs.Worklists.Derivations.{parts, Makes}
use Rattle.semantics.specs.SourceMachine.Items as item
use Rattle.semantics.specs.SourceMachine.Items.{Item}
use Rattle.semantics.specs.SourceMachine.LabelSearch.{Sought, first, found, found_in}
use Rattle.semantics.specs.SourceMachine.StatementItems.{statements}
use Rattle.simulation_terms.specs.SimulationRelation.Activations.{Activation}
use Rattle.simulation_terms.specs.SimulationRelation.Simulates.{own, Simulates}
use Rattle.simulation_terms.specs.Worklists.TemplateParts.{IsOfUnit, Stands}
use Rattle.simulation_terms.proofs.worklists.Runs.{stands_behind, stands_after}
use Rattle.simulation_terms.proofs.worklists.Laying.{from_piece, from_none, from_work, led, known_between, few_labels}
use Rattle.simulation_terms.proofs.terms.Choices.{jumping, hops, two_way_jobs}
use Rattle.simulation_terms.specs.Scopes.Contexts.{Within}
use Rattle.simulation_terms.specs.Scopes.SuitedStatements.{Enclosure, SuitsIn, AllSuitIn}
use Rattle.simulation_terms.proofs.scopes.Contexts.{in_block}
use Rattle.simulation_terms.proofs.scopes.InScopes.{Goes, plainly}
use Rattle.simulation_terms.proofs.scopes.Objects.{object_jobs, objects_are_terms, NamedFrom, named_from, locals, leaves, marks}
use Rattle.simulation_terms.proofs.scopes.Positions.{Position, position, inner, past, past_all}
use Rattle.simulation_terms.proofs.scopes.QuietItems.{statements_quiet}
use Rattle.simulation_statements.proofs.statements.Sequences.{statement_jobs, quiet_within, HasParts, AllHaveParts, AboutStatement, AboutStatements}
use Rattle.simulation_statements.proofs.statements.Selections.{Counts, count_terms, count_on, Enclosed, block_planned, if_jobs, if_planned, if_scopes, else_planned, else_scopes, else_grows, below, itself, three_four}
use Rattle.simulation_statements.proofs.bodies.Finding.{Finds, finds_none, finds_front, finds_back, finds_either, finds_way}

-- what is proved of labels in a statement
abbrev pub FoundStatement : SettingView → Activation → FunctionView → StatementTree → Type 0
FoundStatement s t g i = (n : ℕ) (around : Surroundings) (looping : Enclosure) (known : List ℕ) (c : Position) → SuitsIn t.unit g looping known i → HasParts s i around.scope c → Finds s t n around.choice c (Within s t n around looping known) (jobs.Statement i around ∷ []) (λ l items. found t.unit l i items)

abbrev pub FoundStatements : SettingView → Activation → FunctionView → StatementTrees → Type 0
FoundStatements s t g items = (n : ℕ) (around : Surroundings) (looping : Enclosure) (known : List ℕ) (c : Position) → AllSuitIn t.unit g looping known items → AllHaveParts s items around.scope c → Finds s t n around.choice c (Within s t n around looping known) (statement_jobs items around) (λ l rest. found_in t.unit l items rest)

module _ (s : SettingView) (t : Activation) (g : FunctionView) where
  pub found_no_more : FoundStatements s t g tree.NoMore
  unfolding found found_in
  found_no_more n around looping known c suits scopes = finds_none s t n around.choice c (Within s t n around looping known) []

  pub found_more : (one : StatementTree) (rest : StatementTrees) → AboutStatement s t g one → AboutStatements s t g rest → FoundStatement s t g one → FoundStatements s t g rest → FoundStatements s t g (tree.And one rest)
  unfolding found found_in
  found_more one rest about others found_one found_rest n around looping known c suits scopes =
      let K = Within s t n around looping known in
      let first_job : List Job = jobs.Statement one around ∷ [] in
      let middle = past c one in
      let here = about n around looping known c suits.0 (scopes.0.0, scopes.1.0) in
      let later = others n around looping known middle suits.1 (scopes.0.1, scopes.1.1) in
      finds_either s t n around.choice c K (first_job ++ statement_jobs rest around) (λ l items. found t.unit l one (statements rest ++ items)) (λ l items. found_in t.unit l rest items)
      (finds_front s t n around.choice c middle (past_all middle rest) K K first_job (statement_jobs rest around) (statements rest) (λ l items. found t.unit l one items) (λ items k. quiet_within s t n around looping known (statements rest) items (statements_quiet rest) k) (found_one n around looping known c suits.0 (scopes.0.0, scopes.1.0)) here.ends later)
      (finds_back s t n around.choice c middle K first_job (statement_jobs rest around) (λ l items. found_in t.unit l rest items) here.ends (found_rest n around looping known middle suits.1 (scopes.0.1, scopes.1.1)))

module _ (s : SettingView) (t : Activation) (fits : IsOfUnit t s) (g : FunctionView) where
  -- objects are left
  pub leaves_go : (n : ℕ) (c : Position) (objects : List ℕ) (base : ℕ) (K : List Item → Type 0) → NamedFrom t base objects → Goes s t n c c K (object_jobs act.Leave s.at objects base) (item.Leaves objects ∷ [])
  leaves_go n c objects base K named = subst (λ at. Goes s t n c c K (object_jobs act.Leave at objects base) (item.Leaves objects ∷ [])) (sym fits.place) (plainly s t n c K (object_jobs act.Leave (own t) objects base) (item.Leaves objects ∷ []) (objects_are_terms act.Leave (own t) objects base) (leaves s t fits n objects base 0 named))

  pub found_block : (objects : List ℕ) (items : StatementTrees) → AboutStatements s t g items → FoundStatements s t g items → FoundStatement s t g (tree.Block objects items)
  unfolding found found_in
  found_block objects items about found_items n around looping known c suits scopes =
      let j = jobs.Statement (tree.Block objects items) around in
      let within = in_scope around c.scopes in
      let K = Within s t n around looping known in
      let L = Within s t n within looping (objects ++ known) in
      let same : (p : Plan) → p.jobs ≡ [] → position p ≡ c → Enclosed s.at objects (statement_jobs items within) p (parts s j p) = λ p none begun. subst (λ k. Enclosed s.at objects (statement_jobs items (in_scope around k)) p (parts s j p)) (ap (λ (x : Position). x.scopes) begun) (block_planned s.at objects items (in_scope around p.scopes) p none) in
      finds_way s t n around.choice c K j (λ l its. found_in t.unit l items (item.Leaves objects ∷ its)) refl
      (λ p none begun ps r m known_last its rest stands k f l mark is to e.
      let all = parts s j p in
      let x = same p none begun in
      let known_all = known_between s t (planless all) all.jobs ps r m known_last in
      let again = named_from t (planless all) (p.names ++ locals objects) objects [] known_all (x.names ∙ ap (λ ns. (p.names ++ locals objects) ++ ns) (sym (append-nil (locals objects)))) in
      let enters = object_jobs act.Enter s.at objects (length p.names) in
      let outs = object_jobs act.Leave s.at objects (length (p.names ++ locals objects)) in
      let last = past_all (inner c) items in
      let inside = about n within looping (objects ++ known) (inner c) suits.1 (scopes.0.1, scopes.1) in
      let finds = found_items n within looping (objects ++ known) (inner c) suits.1 (scopes.0.1, scopes.1) in
      let front = finds_front s t n around.choice (inner c) last last K L (statement_jobs items within) outs (item.Leaves objects ∷ []) (λ l its. found_in t.unit l items its) (λ its k. in_block s t n around looping known objects c.scopes its suits.0 scopes.0.0 k) finds inside.ends (leaves_go n last objects (length (p.names ++ locals objects)) K again) in
      let whole = finds_back s t n around.choice (inner c) (inner c) K enters (statement_jobs items within ++ outs) (λ l its. found_in t.unit l items (item.Leaves objects ∷ its)) (count_terms s (inner c) enters (objects_are_terms act.Enter s.at objects (length p.names))) front in
      whole.from (planless all) refl (x.scopes ∙ ap inner begun) ps r (subst (λ ks. Makes s (planless all) ks ps r) x.jobs m) known_last its rest stands k f l mark is to e)

  -- ---- selections

  -- a label behind a work
  marked : (n : ℕ) (c : Position) (l : ℕ) (K : List Item → Type 0) → Goes s t n c c K (jobs.Ready (Mark l) ∷ []) []
  marked n c l K = plainly s t n c K (jobs.Ready (Mark l) ∷ []) [] (tt, tt) (marks s t fits n l 0)

  if_finds : (n choice : ℕ) (c last : Position) (l : ℕ) (e : TermTree) (body : StatementTree) (around : Surroundings) (K : List Item → Type 0) (find : Sought → List Item → Option (List Item)) → Counts s c last (jobs.Statement body around ∷ []) → Finds s t n choice c K (jobs.Statement body around ∷ []) find → Finds s t n choice c K (if_jobs e body around l) find
  unfolding if_jobs
  if_finds n choice c last l e body around K find counts finds =
      let begins : List Job = jobs.Ready (Mark l) ∷ (jobs.Condition e (decided (record { yes = l + 1; no = l + 2 }) 0) ∷ (jobs.Ready (Mark (l + 1)) ∷ [])) in
      finds_back s t n choice c c K begins (jobs.Statement body around ∷ (jobs.Ready (Mark (l + 2)) ∷ [])) find (count_terms s c begins (tt, (tt, (tt, tt))))
      (finds_front s t n choice c last last K K (jobs.Statement body around ∷ []) (jobs.Ready (Mark (l + 2)) ∷ []) [] find (λ items k. k) finds counts (marked n last (l + 2) K))

  pub found_if : (e : TermTree) (body : StatementTree) → AboutStatement s t g body → FoundStatement s t g body → FoundStatement s t g (tree.If e body)
  unfolding found found_in
  found_if e body about found_body n around looping known c suits scopes =
      let j = jobs.Statement (tree.If e body) around in
      let K = Within s t n around looping known in
      finds_way s t n around.choice c K j (λ l items. found t.unit l body items) refl
      (λ p none begun ps r m known_last items rest stands k f l mark is to is_to.
      let all = selection e body around p in
      (if_finds n around.choice c (past c body) p.labels e body around K (λ l items. found t.unit l body items) (about n around looping known c suits.1 scopes).ends (found_body n around looping known c suits.1 scopes)).from
      (planless all) refl (if_scopes e body around p ∙ begun) ps r (subst (λ ks. Makes s (planless all) ks ps r) (if_planned e body around p none) m) known_last items rest stands k f l mark is to is_to)

  -- behind the first part, over the second one
  else_hops : (n : ℕ) (middle last : Position) (l : ℕ) (other : StatementTree) (around : Surroundings) (K : List Item → Type 0) → l + 4 ≤ 2 ^ 32 - 1 → Counts s middle last (jobs.Statement other around ∷ []) → Goes s t n middle last K (jobs.Ready (jumping s.at (l + 3)) ∷ (jobs.Ready (Mark (l + 2)) ∷ (jobs.Statement other around ∷ (jobs.Ready (Mark (l + 3)) ∷ [])))) (item.Hop ∷ [])
  else_hops n middle last l other around K few counts = record {
    from = λ p none begun ps r m known items rest stands k f.
        let q = jumping s.at (l + 3) in
        let G : List PieceView → Type 0 = λ w. Stands t w → Simulates t n 0 (item.Hop ∷ items) w in
        from_piece s r rest p q _ ps G m
        (λ b1 m1. from_piece s r rest p (Mark (l + 2)) _ b1 (λ w. G (q ∷ w)) m1
        (λ b2 m2. from_work s r rest p (jobs.Statement other around) _ b2 (λ w. G (q ∷ (Mark (l + 2) ∷ w))) none m2
        (λ fb pb b3 mb none_b m3. from_piece s r rest pb (Mark (l + 3)) [] b3 (λ w. G (q ∷ (Mark (l + 2) ∷ (fb ++ w)))) m3
        (λ b4 m4. from_none s r rest pb b4 (λ w. G (q ∷ (Mark (l + 2) ∷ (fb ++ Mark (l + 3) ∷ w)))) m4
        (λ stands.
        let at_last = stands_behind t fb (Mark (l + 3) ∷ rest) (stands_after t (Mark (l + 2)) (fb ++ Mark (l + 3) ∷ rest) (stands_after t q (Mark (l + 2) ∷ (fb ++ Mark (l + 3) ∷ rest)) stands)) in
        hops s t fits n 0 (l + 3) items (Mark (l + 2) ∷ (fb ++ Mark (l + 3) ∷ rest)) rest (led s t fits (l + 3) (l + 4) (l + 4) rest (below l 3 4 three_four) (itself (l + 4)) few at_last) f))))) stands;
    ends =
        count_on s middle middle last (jobs.Ready (jumping s.at (l + 3)) ∷ (jobs.Ready (Mark (l + 2)) ∷ [])) _ (count_terms s middle _ (tt, (tt, tt)))
        (count_on s middle last last (jobs.Statement other around ∷ []) (jobs.Ready (Mark (l + 3)) ∷ []) counts (count_terms s last _ (tt, tt)));
  }

  else_finds : (n choice : ℕ) (c middle last : Position) (l : ℕ) (e : TermTree) (body other : StatementTree) (around : Surroundings) (K : List Item → Type 0) (one two : Sought → List Item → Option (List Item)) → ((items : List Item) → K items → K (item.Hop ∷ items)) → l + 4 ≤ 2 ^ 32 - 1
      → Counts s c middle (jobs.Statement body around ∷ []) → Counts s middle last (jobs.Statement other around ∷ []) → Finds s t n choice c K (jobs.Statement body around ∷ []) one → Finds s t n choice middle K (jobs.Statement other around ∷ []) two
      → Finds s t n choice c K (two_way_jobs s.at e (jobs.Statement body around) (jobs.Statement other around) 0 l) (λ lb items. first (one lb (item.Hop ∷ items)) (two lb items))
  else_finds n choice c middle last l e body other around K one two onwards few counts also finds finds_other =
      let begins : List Job = jobs.Ready (Mark l) ∷ (jobs.Condition e (decided (record { yes = l + 1; no = l + 2 }) 0) ∷ (jobs.Ready (Mark (l + 1)) ∷ [])) in
      let between : List Job = jobs.Ready (jumping s.at (l + 3)) ∷ (jobs.Ready (Mark (l + 2)) ∷ []) in
      let second : List Job = jobs.Statement other around ∷ (jobs.Ready (Mark (l + 3)) ∷ []) in
      let parts_of : List Job = jobs.Statement body around ∷ (between ++ second) in
      finds_back s t n choice c c K begins parts_of (λ lb items. first (one lb (item.Hop ∷ items)) (two lb items)) (count_terms s c begins (tt, (tt, (tt, tt))))
      (finds_either s t n choice c K parts_of (λ lb items. one lb (item.Hop ∷ items)) two
      (finds_front s t n choice c middle last K K (jobs.Statement body around ∷ []) (between ++ second) (item.Hop ∷ []) one onwards finds counts (else_hops n middle last l other around K few also))
      (finds_back s t n choice c middle K (jobs.Statement body around ∷ []) (between ++ second) two counts
      (finds_back s t n choice middle middle K between second two (count_terms s middle between (tt, (tt, tt)))
      (finds_front s t n choice middle last last K K (jobs.Statement other around ∷ []) (jobs.Ready (Mark (l + 3)) ∷ []) [] two (λ items k. k) finds_other also (marked n last (l + 3) K)))))

  pub found_if_else : (e : TermTree) (body other : StatementTree) → AboutStatement s t g body → AboutStatement s t g other → FoundStatement s t g body → FoundStatement s t g other → FoundStatement s t g (tree.IfElse e body other)
  unfolding found found_in
  found_if_else e body other about also found_body found_other n around looping known c suits scopes =
      let j = jobs.Statement (tree.IfElse e body other) around in
      let K = Within s t n around looping known in
      let middle = past c body in
      finds_way s t n around.choice c K j (λ l items. first (found t.unit l body (item.Hop ∷ items)) (found t.unit l other items)) refl
      (λ p none begun ps r m known_last items rest stands k f l mark is to is_to.
      let all = two_way_selection s e body other around p in
      let few = few_labels s t p j 4 all.jobs ps r (else_grows s e body other around p) m known_last in
      (else_finds n around.choice c middle (past middle other) p.labels e body other around K (λ l items. found t.unit l body items) (λ l items. found t.unit l other items) (λ items k. k) few
      (about n around looping known c suits.1 (scopes.0.0, scopes.1.0)).ends (also n around looping known middle suits.2 (scopes.0.1, scopes.1.1)).ends (found_body n around looping known c suits.1 (scopes.0.0, scopes.1.0)) (found_other n around looping known middle suits.2 (scopes.0.1, scopes.1.1))).from
      (planless all) refl (else_scopes s e body other around p ∙ begun) ps r (subst (λ ks. Makes s (planless all) ks ps r) (else_planned s e body other around p none) m) known_last items rest stands k f l mark is to is_to)
