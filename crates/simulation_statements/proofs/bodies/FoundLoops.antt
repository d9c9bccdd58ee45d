-- Labels in loops: behind the body, the next turn follows for as many turns.
use Rattle.std.proofs.Common.{◌≡◌, ◌≤◌, ℕ, ◌+◌, ◌-◌, ◌^◌, true, false, List, [], ◌∷◌, ◌++◌, length, Option, Some, refl, ap, sym, subst, ◌∙◌, append_assoc}
use Rattle.std.proofs.lemmas.List.{append-nil}
use Rattle.c_layout.specs.CheckedTrees as tree
use Rattle.c_layout.specs.CheckedTrees.{TermTree, StatementTree, StatementTrees}
use Rattle.c_layout.specs.CheckedUnits.{FunctionView}
use Rattle.lower_templates.specs.Worklist.Acts as act
use Rattle.lower_templates.specs.Worklist.Pieces.{PieceView, Mark}
use Rattle.lower_templates.specs.Worklist.Plans.{Plan}
use Rattle.lower_templates.specs.Worklist.Settings.{SettingView}
use Rattle.lower_templates.specs.Worklist.Works as jobs
use Rattle.lower_templates.specs.Worklist.Works.{Job}
use Rattle.lower_templates.specs.declared.worklist.pending_works.Surroundings.{Surroundings}
use Rattle.lower_expressions.specs.Branches.{decided}
use Rattle.lower_functions.specs.Statements.PlainStatements.{in_scope}
use Rattle.lower_functions.specs.Statements.Loops as loops
use Rattle.lower_functions.specs.Statements.Loops.{in_loop}
use Rattle.lower_functions.specs.Functions.Turns.{planless}
use Rattle.lower_template_theorems.proofs.growth.GrowingWorks.{grows}
use Rattle.lower_template_theorems.specs.Worklists.Derivations.{parts, Makes}
use Rattle.semantics.specs.SourceMachine.Items as item
use Rattle.semantics.specs.SourceMachine.Items.{Item}
use Rattle.semantics.specs.SourceMachine.LabelSearch.{Sought, found, found_in}
use Rattle.semantics.specs.SourceMachine.StatementItems.{clause, do_test, for_step}
use Rattle.simulation_terms.specs.SimulationRelation.Activations.{Activation}
use Rattle.simulation_terms.specs.Worklists.TemplateParts.{IsOfUnit, Stands}
use Rattle.simulation_terms.proofs.worklists.Runs.{stands_after}
use Rattle.simulation_terms.proofs.worklists.Laying.{from_piece, from_none, from_work, known_between, few_labels}
use Rattle.simulation_terms.proofs.terms.Choices.{jumping}
use Rattle.simulation_terms.specs.Scopes.Contexts.{Reaches, Within}
use Rattle.simulation_terms.specs.Scopes.SuitedStatements.{Enclosure, not_enclosed, by_loop, SuitsBehind, SuitsIf, SuitsIn}
use Rattle.simulation_terms.proofs.scopes.Contexts.{in_block}
use Rattle.simulation_terms.proofs.scopes.Positions.{Position, position, inner, past, past_all}
use Rattle.simulation_terms.proofs.scopes.Objects.{object_jobs, objects_are_terms, named_from, locals}
use Rattle.simulation_statements.proofs.statements.Sequences.{statement_jobs, HasParts, AboutStatement, AboutStatements}
use Rattle.simulation_statements.proofs.statements.Selections.{count_terms, count_on, kept_one}
use Rattle.simulation_statements.proofs.statements.Loops.{while_jobs, while_planned, while_scopes, while_grows, while_at_body, while_context, while_again, while_turns, do_jobs, do_planned, do_scopes, do_grows, do_context, do_again, do_turns}
use Rattle.simulation_statements.proofs.statements.ForLoops.{Planned, for_planned, for_grows, test_jobs, clause_jobs, turn_jobs, tests_are_terms, turns_count, from_many, kept_many, for_at_body, for_context, for_again, for_turns}
use Rattle.simulation_statements.proofs.bodies.Finding.{Finds, finds_front, finds_back, finds_way, mark_kept}
use Rattle.simulation_statements.proofs.bodies.FoundSelections.{FoundStatement, leaves_go}

module _ (s : SettingView) (t : Activation) (fits : IsOfUnit t s) (g : FunctionView) where
  -- ---- `while`

  while_finds : (n : ℕ) (e : TermTree) (body : StatementTree) → AboutStatement s t g body → FoundStatement s t g body → (around : Surroundings) (looping : Enclosure) (known : List ℕ) (c : Position) (l : ℕ) → SuitsBehind t.unit true 0 e → SuitsIn t.unit g by_loop known body → HasParts s body around.scope c → l + 3 ≤ 2 ^ 32 - 1
      → Finds s t n around.choice c (Within s t n around looping known) (while_jobs s.at e body around l) (λ lb items. found t.unit lb body (item.Hop ∷ (item.IterationEnd ∷ (item.WhileIteration e body ∷ (item.LoopEnd ∷ items)))))
  unfolding while_jobs
  while_finds n e body about found_body around looping known c l suits_test suits_body scopes few = record {
    from = λ p none begun ps r m known_r items rest stands k f lb mark is to is_to.
        let q = jumping s.at l in
        let turn : List Item = item.WhileIteration e body ∷ (item.LoopEnd ∷ items) in
        let G : List PieceView → Type 0 = λ w. Stands t w → Reaches t n mark to in
        from_piece s r rest p (Mark l) _ ps G m
        (λ b1 m1. from_work s r rest p (jobs.Condition e (decided (record { yes = l + 1; no = l + 2 }) 0)) _ b1 (λ w. G (Mark l ∷ w)) none m1
        (λ fc pc b2 mc none_c m2. from_piece s r rest pc (Mark (l + 1)) _ b2 (λ w. G (Mark l ∷ (fc ++ w))) m2
        (λ b3 m3. from_work s r rest pc (jobs.Statement body (in_loop around (l + 2) l)) _ b3 (λ w. G (Mark l ∷ (fc ++ Mark (l + 1) ∷ w))) none_c m3
        (λ fb pb b4 mb none_b m4. from_piece s r rest pb q _ b4 (λ w. G (Mark l ∷ (fc ++ Mark (l + 1) ∷ (fb ++ w)))) m4
        (λ b5 m5. from_piece s r rest pb (Mark (l + 2)) [] b5 (λ w. G (Mark l ∷ (fc ++ Mark (l + 1) ∷ (fb ++ q ∷ w)))) m5
        (λ b6 m6. from_none s r rest pb b6 (λ w. G (Mark l ∷ (fc ++ Mark (l + 1) ∷ (fb ++ q ∷ (Mark (l + 2) ∷ w))))) m6
        (λ stands.
        let known_c = known_between s t pc _ _ r m2 known_r in
        let known_b = known_between s t pb _ _ r m4 known_r in
        let begun_c = kept_one s p (jobs.Condition e (decided (record { yes = l + 1; no = l + 2 }) 0)) fc pc tt none mc ∙ begun in
        let back = while_turns s t fits g e body about around looping known c l suits_test suits_body scopes few p none fc pc mc known_c none_c begun_c fb pb mb known_b items rest stands n f k in
        let at_body = while_at_body s t fits g e body about around looping known c l suits_test suits_body scopes few p none fc pc mc known_c none_c begun_c fb pb mb known_b items rest stands in
        let context = while_context s t fits g e body about around looping known c l suits_test suits_body scopes few p none fc pc mc known_c none_c begun_c fb pb mb known_b items rest stands n back f k in
        let again = while_again s t fits g e body about around looping known c l suits_test suits_body scopes few p none fc pc mc known_c none_c begun_c fb pb mb known_b items rest stands n back in
        (found_body n (in_loop around (l + 2) l) by_loop known c suits_body scopes).from pc none_c begun_c fb pb mb known_b (item.Hop ∷ (item.IterationEnd ∷ turn)) (q ∷ (Mark (l + 2) ∷ rest)) at_body context again lb mark (mark_kept p pc around.choice lb mark (grows s p _ fc pc mc) is) to is_to))))))) stands;
  }

  pub found_while : (e : TermTree) (body : StatementTree) → AboutStatement s t g body → FoundStatement s t g body → FoundStatement s t g (tree.While e body)
  unfolding found found_in
  found_while e body about found_body n around looping known c suits scopes =
      let j = jobs.Statement (tree.While e body) around in
      finds_way s t n around.choice c (Within s t n around looping known) j (λ l items. found t.unit l body (item.Hop ∷ (item.IterationEnd ∷ (item.WhileIteration e body ∷ (item.LoopEnd ∷ items))))) refl
      (λ p none begun ps r m known_last items rest stands k f l mark is to is_to.
      let all = loops.while_loop s e body around p in
      let few = few_labels s t p j 3 all.jobs ps r (while_grows s e body around p) m known_last in
      (while_finds n e body about found_body around looping known c p.labels suits.0 suits.1 scopes few).from (planless all) refl (while_scopes s e body around p ∙ begun) ps r (subst (λ ks. Makes s (planless all) ks ps r) (while_planned s e body around p none) m) known_last items rest stands k f l mark is to is_to)

  -- ---- `do`

  do_finds : (n : ℕ) (body : StatementTree) (e : TermTree) → AboutStatement s t g body → FoundStatement s t g body → (around : Surroundings) (looping : Enclosure) (known : List ℕ) (c : Position) (l : ℕ) → SuitsIn t.unit g by_loop known body → SuitsBehind t.unit true 0 e → HasParts s body around.scope c → l + 3 ≤ 2 ^ 32 - 1
      → Finds s t n around.choice c (Within s t n around looping known) (do_jobs e body around l) (λ lb items. found t.unit lb body (do_test t.unit body e ++ item.LoopEnd ∷ items))
  unfolding do_jobs
  do_finds n body e about found_body around looping known c l suits_body suits_test scopes few = record {
    from = λ p none begun ps r m known_r items rest stands k f lb mark is to is_to.
        let G : List PieceView → Type 0 = λ w. Stands t w → Reaches t n mark to in
        from_piece s r rest p (Mark l) _ ps G m
        (λ b1 m1. from_work s r rest p (jobs.Statement body (in_loop around (l + 2) (l + 1))) _ b1 (λ w. G (Mark l ∷ w)) none m1
        (λ fb pb b2 mb none_b m2. from_piece s r rest pb (Mark (l + 1)) _ b2 (λ w. G (Mark l ∷ (fb ++ w))) m2
        (λ b3 m3. from_work s r rest pb (jobs.Condition e (decided (record { yes = l; no = l + 2 }) 0)) _ b3 (λ w. G (Mark l ∷ (fb ++ Mark (l + 1) ∷ w))) none_b m3
        (λ fc pc b4 mc none_c m4. from_piece s r rest pc (Mark (l + 2)) [] b4 (λ w. G (Mark l ∷ (fb ++ Mark (l + 1) ∷ (fc ++ w)))) m4
        (λ b5 m5. from_none s r rest pc b5 (λ w. G (Mark l ∷ (fb ++ Mark (l + 1) ∷ (fc ++ Mark (l + 2) ∷ w)))) m5
        (λ stands.
        let known_b = known_between s t pb _ _ r m2 known_r in
        let known_c = known_between s t pc _ _ r m4 known_r in
        let at_body = stands_after t (Mark l) (fb ++ Mark (l + 1) ∷ (fc ++ Mark (l + 2) ∷ rest)) stands in
        let back = do_turns s t fits g e body about around looping known c l suits_body suits_test scopes few p none begun fb pb mb known_b none_b fc pc mc known_c items rest stands n f k in
        let context = do_context s t fits g e body about around looping known c l suits_body suits_test scopes few p none begun fb pb mb known_b none_b fc pc mc known_c items rest stands n back f k in
        let again = do_again s t fits g e body about around looping known c l suits_body suits_test scopes few p none begun fb pb mb known_b none_b fc pc mc known_c items rest stands n back f in
        (found_body n (in_loop around (l + 2) (l + 1)) by_loop known c suits_body scopes).from p none begun fb pb mb known_b (do_test t.unit body e ++ item.LoopEnd ∷ items) (Mark (l + 1) ∷ (fc ++ Mark (l + 2) ∷ rest)) at_body context again lb mark is to is_to)))))) stands;
  }

  pub found_do : (body : StatementTree) (e : TermTree) → AboutStatement s t g body → FoundStatement s t g body → FoundStatement s t g (tree.Do body e)
  unfolding found found_in
  found_do body e about found_body n around looping known c suits scopes =
      let j = jobs.Statement (tree.Do body e) around in
      finds_way s t n around.choice c (Within s t n around looping known) j (λ l items. found t.unit l body (do_test t.unit body e ++ item.LoopEnd ∷ items)) refl
      (λ p none begun ps r m known_last items rest stands k f l mark is to is_to.
      let all = loops.do_loop body e around p in
      let few = few_labels s t p j 3 all.jobs ps r (do_grows e body around p) m known_last in
      (do_finds n body e about found_body around looping known c p.labels suits.0 suits.1 scopes few).from (planless all) refl (do_scopes e body around p ∙ begun) ps r (subst (λ ks. Makes s (planless all) ks ps r) (do_planned e body around p none) m) known_last items rest stands k f l mark is to is_to)

  -- ---- `for`

  -- the body of a turn
  turns_find : (n : ℕ) (test after : Option TermTree) (body : StatementTree) → AboutStatement s t g body → FoundStatement s t g body → (around : Surroundings) (looping : Enclosure) (known : List ℕ) (c : Position) (l : ℕ) → SuitsIf t.unit true test → SuitsIf t.unit false after → SuitsIn t.unit g by_loop known body → HasParts s body around.scope c → l + 5 ≤ 2 ^ 32 - 1
      → Finds s t n around.choice c (Within s t n around looping known) (turn_jobs s.at test after body around l) (λ lb items. found t.unit lb body (for_step test after body ++ item.LoopEnd ∷ items))
  unfolding turn_jobs
  turns_find n test after body about found_body around looping known c l suits_test suits_after suits_body scopes few = record {
    from = λ p none begun_p ps r m known_r items rest stands k f lb mark is to is_to.
        let q = jumping s.at (l + 1) in
        let G : List PieceView → Type 0 = λ w. Stands t w → Reaches t n mark to in
        from_piece s r rest p (Mark (l + 1)) _ ps G m
        (λ b1 m1. from_many s t fits g r rest p (test_jobs test l) _ b1 (λ w. G (Mark (l + 1) ∷ w)) none m1
        (λ ft pt b2 mt none_t m2. from_piece s r rest pt (Mark (l + 2)) _ b2 (λ w. G (Mark (l + 1) ∷ (ft ++ w))) m2
        (λ b3 m3. from_work s r rest pt (jobs.Statement body (in_loop around (l + 4) (l + 3))) _ b3 (λ w. G (Mark (l + 1) ∷ (ft ++ Mark (l + 2) ∷ w))) none_t m3
        (λ fb pb b4 mb none_b m4. from_piece s r rest pb (Mark (l + 3)) _ b4 (λ w. G (Mark (l + 1) ∷ (ft ++ Mark (l + 2) ∷ (fb ++ w)))) m4
        (λ b5 m5. from_many s t fits g r rest pb (clause_jobs after) _ b5 (λ w. G (Mark (l + 1) ∷ (ft ++ Mark (l + 2) ∷ (fb ++ Mark (l + 3) ∷ w)))) none_b m5
        (λ fs pa b6 ma none_a m6. from_piece s r rest pa q _ b6 (λ w. G (Mark (l + 1) ∷ (ft ++ Mark (l + 2) ∷ (fb ++ Mark (l + 3) ∷ (fs ++ w))))) m6
        (λ b7 m7. from_piece s r rest pa (Mark (l + 4)) [] b7 (λ w. G (Mark (l + 1) ∷ (ft ++ Mark (l + 2) ∷ (fb ++ Mark (l + 3) ∷ (fs ++ q ∷ w))))) m7
        (λ b8 m8. from_none s r rest pa b8 (λ w. G (Mark (l + 1) ∷ (ft ++ Mark (l + 2) ∷ (fb ++ Mark (l + 3) ∷ (fs ++ q ∷ (Mark (l + 4) ∷ w)))))) m8
        (λ stands.
        let known_t = known_between s t pt _ _ r m2 known_r in
        let known_b = known_between s t pb _ _ r m4 known_r in
        let known_a = known_between s t pa _ _ r m6 known_r in
        let begun_t = kept_many s t fits g p (test_jobs test l) ft pt (tests_are_terms s t fits g test l) none mt ∙ begun_p in
        let back = for_turns s t fits g test after body about around looping known c l suits_test suits_after suits_body scopes few p none ft pt mt known_t none_t begun_t fb pb mb known_b none_b fs pa ma known_a items rest stands n f k in
        let at_body = for_at_body s t fits g test after body about around looping known c l suits_test suits_after suits_body scopes few p none ft pt mt known_t none_t begun_t fb pb mb known_b none_b fs pa ma known_a items rest stands in
        let context = for_context s t fits g test after body about around looping known c l suits_test suits_after suits_body scopes few p none ft pt mt known_t none_t begun_t fb pb mb known_b none_b fs pa ma known_a items rest stands n back f k in
        let again = for_again s t fits g test after body about around looping known c l suits_test suits_after suits_body scopes few p none ft pt mt known_t none_t begun_t fb pb mb known_b none_b fs pa ma known_a items rest stands n back in
        let loop : List Item = item.ForIteration test after body ∷ (item.LoopEnd ∷ items) in
        (found_body n (in_loop around (l + 4) (l + 3)) by_loop known c suits_body scopes).from pt none_t begun_t fb pb mb known_b (item.IterationEnd ∷ (clause after ++ item.Hop ∷ loop)) (Mark (l + 3) ∷ (fs ++ q ∷ (Mark (l + 4) ∷ rest))) at_body context again lb mark (mark_kept p pt around.choice lb mark (grows s p (test_jobs test l) ft pt mt) is) to
        (subst (λ xs. found t.unit lb body (item.IterationEnd ∷ xs) ≡ Some to) (append_assoc (clause after) (item.Hop ∷ (item.ForIteration test after body ∷ [])) (item.LoopEnd ∷ items)) is_to)))))))))) stands;
  }

  pub found_for : (objects : List ℕ) (begin : StatementTrees) (test after : Option TermTree) (body : StatementTree) → AboutStatements s t g begin → AboutStatement s t g body → FoundStatement s t g body → FoundStatement s t g (tree.For objects begin test after body)
  unfolding found found_in
  found_for objects begin test after body about_first about found_body n around looping known c suits scopes =
      let j = jobs.Statement (tree.For objects begin test after body) around in
      let within = in_scope around c.scopes in
      let more = objects ++ known in
      let K = Within s t n around looping known in
      let L = Within s t n within looping more in
      let middle = past_all (inner c) begin in
      let last = past middle body in
      let starts = about_first n within not_enclosed more (inner c) suits.1 (scopes.0.1, scopes.1.0) in
      let same : (p : Plan) → p.jobs ≡ [] → position p ≡ c → Planned s.at objects (statement_jobs begin within ++ turn_jobs s.at test after body within p.labels) p.labels p (parts s j p) = λ p none begun_p. subst (λ k. Planned s.at objects (statement_jobs begin (in_scope around k) ++ turn_jobs s.at test after body (in_scope around k) p.labels) p.labels p (parts s j p)) (ap (λ (x : Position). x.scopes) begun_p) (for_planned s objects begin test after body around p none) in
      finds_way s t n around.choice c K j (λ l items. found t.unit l body (for_step test after body ++ (item.LoopEnd ∷ (item.Leaves objects ∷ items)))) refl
      (λ p none begun_p ps r m known_last items rest stands k f l mark is to is_to.
      let all = parts s j p in
      let x = same p none begun_p in
      let few = few_labels s t p j 5 all.jobs ps r (for_grows s objects begin test after body around p) m known_last in
      let known_all = known_between s t (planless all) all.jobs ps r m known_last in
      let again = named_from t (planless all) (p.names ++ locals objects) objects [] known_all (x.names ∙ ap (λ ns. (p.names ++ locals objects) ++ ns) (sym (append-nil (locals objects)))) in
      let turns = turn_jobs s.at test after body within p.labels in
      let enters = object_jobs act.Enter s.at objects (length p.names) in
      let outs = object_jobs act.Leave s.at objects (length (p.names ++ locals objects)) in
      let find : Sought → List Item → Option (List Item) = λ lb its. found t.unit lb body (for_step test after body ++ item.LoopEnd ∷ its) in
      let find_all : Sought → List Item → Option (List Item) = λ lb its. found t.unit lb body (for_step test after body ++ (item.LoopEnd ∷ (item.Leaves objects ∷ its))) in
      let turned = turns_find n test after body about found_body within looping more middle p.labels suits.2 suits.3 suits.4 (scopes.0.2, scopes.1.1) few in
      let counted = turns_count s t fits g test after body about within more middle p.labels n suits.4 (scopes.0.2, scopes.1.1) in
      let inside = finds_back s t n around.choice (inner c) middle L (statement_jobs begin within) turns find starts.ends turned in
      let counts = count_on s (inner c) middle last (statement_jobs begin within) turns starts.ends counted in
      let left = finds_front s t n around.choice (inner c) last last K L (statement_jobs begin within ++ turns) outs (item.Leaves objects ∷ []) find (λ its k. in_block s t n around looping known objects c.scopes its suits.0 scopes.0.0 k) inside counts (leaves_go s t fits g n last objects (length (p.names ++ locals objects)) K again) in
      let entered = finds_back s t n around.choice (inner c) (inner c) K enters ((statement_jobs begin within ++ turns) ++ outs) find_all (count_terms s (inner c) enters (objects_are_terms act.Enter s.at objects (length p.names))) left in
      let whole = finds_back s t n around.choice (inner c) (inner c) K (jobs.Ready (Mark p.labels) ∷ []) (enters ++ ((statement_jobs begin within ++ turns) ++ outs)) find_all (count_terms s (inner c) (jobs.Ready (Mark p.labels) ∷ []) (tt, tt)) entered in
      whole.from (planless all) refl (x.scopes ∙ ap inner begun_p) ps r (subst (λ ks. Makes s (planless all) ks ps r) x.jobs m) known_last items rest stands k f l mark is to is_to)
