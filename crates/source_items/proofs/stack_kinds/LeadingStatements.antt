-- The items of statements lead from no pending values to none.
use Rattle.std.proofs.Common.{◌≡◌, ℕ, Bool, true, false, List, [], ◌∷◌, ◌++◌, Option, Some, None, refl, ap}
use Rattle.cc_base.specs.declared.diagnostics.Place.{Place}
use Rattle.c_layout.specs.CheckedTrees as tree
use Rattle.c_layout.specs.CheckedTrees.{TermTree, StatementTree, StatementTrees, statement_trees, StoreTree, StoreValue, StoreCopy, StoreText}
use Rattle.c_layout.specs.CheckedUnits.{UnitView, FunctionView}
use Rattle.c_layout.specs.declared.checked_tree.checked_statements.CaseLabel.{CaseLabel}
use Rattle.lower_conditions.specs.Tests.{named}
use Rattle.semantics.specs.SourceMachine.Items as item
use Rattle.semantics.specs.SourceMachine.Items.{Item}
use Rattle.semantics.specs.SourceMachine.StatementItems.{statements, start_scalar, stored, all_stored, while_iteration, do_test, do_iteration, clause, for_step, for_body, for_iteration, returned, of_statement, list_statements}
use Rattle.source_items.specs.Operations.Kinds.{Kind, Number, Address}
use Rattle.source_items.specs.Returns.StandingJumps.{JumpsStand, AllJumpsStand}
use Rattle.source_items.specs.StackKinds.KindedTerms.{term_kind, KindedTerm}
use Rattle.source_items.specs.StackKinds.KindedStatements.{KindedClause, KindedStore, KindedStores, KindedReturn, KindedSwitch, KindedStatement, KindedStatements}
use Rattle.source_items.specs.StackKinds.KindedItems.{ends_loop, Encloses, Stands, Turns, Selects}
use Rattle.source_items.proofs.stack_kinds.Loops.{loop_ends_more, encloses_more, no_loop, in_loop, in_switch}
use Rattle.source_items.proofs.stack_kinds.ItemWalks.{Through, Leads, through_both, leads_both}
use Rattle.source_items.proofs.stack_kinds.Leading.{kinds, valued}
use Rattle.source_items.proofs.stack_kinds.LeadingConditions.{condition_through}

-- the statements of a function as those of a block
pub listed_statements : (ss : List StatementTree) → list_statements ss ≡ statements (statement_trees ss)
listed_statements [] = refl
listed_statements (s ∷ ss) = ap (λ items. item.Statement s ∷ items) (listed_statements ss)

module _ (u : UnitView) (f : FunctionView) (called : Option Bool) where
  -- ---- statements one after the other

  pub standing : (breaks continues : Bool) (s : StatementTree) (rest : List Item) → KindedStatement u f s → JumpsStand breaks continues s → Encloses breaks continues rest → Stands u f s rest
  standing breaks continues s rest kinded jumps e = record { kinded = kinded; breaks = breaks; continues = continues; jumps = jumps; enclosed = e }

  pub statements_through : (breaks continues : Bool) (items : StatementTrees) (rest : List Item) → KindedStatements u f items → AllJumpsStand breaks continues items → Encloses breaks continues rest → Through (kinds u f called) (statements items) rest [] []
  statements_through breaks continues tree.NoMore rest kinded jumps e = refl
  statements_through breaks continues (tree.And s ss) rest kinded jumps e = ([], (standing breaks continues s (statements ss ++ rest) kinded.0 jumps.0 (encloses_more breaks continues (statements ss) rest e), (refl, refl)), statements_through breaks continues ss rest kinded.1 jumps.1 e)

  block_through : (breaks continues : Bool) (objects : List ℕ) (items : StatementTrees) (rest : List Item) → KindedStatements u f items → AllJumpsStand breaks continues items → Encloses breaks continues rest → Through (kinds u f called) (item.Enters objects ∷ (statements items ++ item.Leaves objects ∷ [])) rest [] []
  block_through breaks continues objects items rest kinded jumps e =
      let end : List Item = item.Leaves objects ∷ [] in
      ([], refl, through_both (kinds u f called) (statements items) end rest [] [] [] (statements_through breaks continues items (end ++ rest) kinded jumps (encloses_more breaks continues end rest e)) ([], refl, refl))

  -- ---- stores and results

  start_leads : (at : Place) (local offset : ℕ) (e : TermTree) → KindedTerm u true e → Leads (kinds u f called) (start_scalar at local offset e) [] []
  start_leads at local offset e kinded rest =
      let k : Kind = term_kind e in
      (Address ∷ [], (tt, refl), (k ∷ (Address ∷ []), (kinded, refl), (k ∷ [], ([], refl, refl), ([], (k, refl), refl))))

  stored_leads : (at : Place) (local : ℕ) (x : StoreTree) → KindedStore u x → Leads (kinds u f called) (stored at local x) [] []
  stored_leads at local (StoreValue offset e) kinded = start_leads at local offset e kinded
  stored_leads at local (StoreCopy offset l) kinded = λ rest. (Address ∷ [], (tt, refl), (Address ∷ (Address ∷ []), (kinded, refl), (Address ∷ [], ([], refl, refl), ([], (Address, refl), refl))))
  stored_leads at local (StoreText offset room text) kinded = λ rest. ([], refl, refl)

  all_stored_lead : (at : Place) (local : ℕ) (xs : List StoreTree) → KindedStores u xs → Leads (kinds u f called) (all_stored at local xs) [] []
  all_stored_lead at local [] kinded = λ rest. refl
  all_stored_lead at local (x ∷ xs) kinded = leads_both (kinds u f called) (stored at local x) (all_stored at local xs) [] [] [] (stored_leads at local x kinded.0) (all_stored_lead at local xs kinded.1)

  returned_leads : (is_entry : Bool) (at : Place) (e : Option TermTree) → KindedReturn u f e → Leads (kinds u f called) (returned is_entry at e) [] []
  returned_leads is_entry at None kinded rest = refl
  returned_leads true at (Some e) kinded rest = (term_kind e ∷ [], (kinded.0, refl), ([], (term_kind e, refl), refl))
  returned_leads false at (Some e) kinded rest =
      let k : Kind = term_kind e in
      (Address ∷ [], (kinded.1, refl), (k ∷ (Address ∷ []), (kinded.0, refl), (k ∷ [], ([], refl, refl), ([], (k, refl), refl))))

  -- ---- loops

  pub while_through : (c : TermTree) (s : StatementTree) (rest : List Item) → Turns u f (Some c) None s rest → Through (kinds u f called) (while_iteration u c s) rest [] []
  while_through c s rest turns =
      let again : List Item = item.Hop ∷ (item.IterationEnd ∷ (item.WhileIteration c s ∷ [])) in
      let stands : Stands u f s (again ++ rest) = standing true true s (again ++ rest) turns.kinded turns.jumps (in_loop (again ++ rest) turns.ends refl) in
      condition_through u f called true c (item.Statement s ∷ again) [] rest [] [] turns.condition ([], (stands, (refl, refl)), ([], refl, ([], (refl, refl), ([], (turns, (refl, refl)), refl)))) refl

  pub test_through : (c : TermTree) (s : StatementTree) (rest : List Item) → Turns u f (Some c) None s rest → Through (kinds u f called) (do_test u s c) rest [] []
  test_through c s rest turns = ([], (refl, refl), condition_through u f called true c (item.DoIteration s c ∷ []) [] rest [] [] turns.condition ([], (turns, (refl, refl)), refl) refl)

  pub test_encloses : (c : TermTree) (s : StatementTree) (rest : List Item) → ends_loop rest ≡ true → Encloses true true (do_test u s c ++ rest)
  test_encloses c s rest ends = in_loop (do_test u s c ++ rest) (loop_ends_more (do_test u s c) rest ends) refl

  pub do_through : (c : TermTree) (s : StatementTree) (rest : List Item) → Turns u f (Some c) None s rest → Through (kinds u f called) (do_iteration u s c) rest [] []
  do_through c s rest turns = ([], (standing true true s (do_test u s c ++ rest) turns.kinded turns.jumps (test_encloses c s rest turns.ends), (refl, refl)), test_through c s rest turns)

  pub step_through : (c step : Option TermTree) (s : StatementTree) (rest : List Item) → Turns u f c step s rest → Through (kinds u f called) (for_step c step s) rest [] []
  step_through c None s rest turns = ([], (refl, refl), ([], refl, ([], (turns, (refl, refl)), refl)))
  step_through c (Some x) s rest turns = ([], (refl, refl), ([], (turns.step, refl), ([], refl, ([], (turns, (refl, refl)), refl))))

  pub step_encloses : (c step : Option TermTree) (s : StatementTree) (rest : List Item) → ends_loop rest ≡ true → Encloses true true (for_step c step s ++ rest)
  step_encloses c step s rest ends = in_loop (for_step c step s ++ rest) (loop_ends_more (for_step c step s) rest ends) refl

  for_body_through : (c step : Option TermTree) (s : StatementTree) (rest : List Item) → Turns u f c step s rest → Through (kinds u f called) (for_body c step s) rest [] []
  for_body_through c step s rest turns = ([], (standing true true s (for_step c step s ++ rest) turns.kinded turns.jumps (step_encloses c step s rest turns.ends), (refl, refl)), step_through c step s rest turns)

  pub for_through : (c step : Option TermTree) (s : StatementTree) (rest : List Item) → Turns u f c step s rest → Through (kinds u f called) (for_iteration u c step s) rest [] []
  for_through None step s rest turns = for_body_through None step s rest turns
  for_through (Some c) step s rest turns = condition_through u f called true c (for_body (Some c) step s) [] rest [] [] turns.condition (for_body_through (Some c) step s rest turns) refl

  -- ---- loops in their scopes

  pub turning : (c step : Option TermTree) (s : StatementTree) (rest : List Item) → KindedClause u true c → KindedClause u false step → KindedStatement u f s → JumpsStand true true s → Turns u f c step s (item.LoopEnd ∷ rest)
  turning c step s rest test clause kinded jumps = record { condition = test; step = clause; kinded = kinded; jumps = jumps; ends = refl }

  for_scope_through : (objects : List ℕ) (first : StatementTrees) (c step : Option TermTree) (s : StatementTree) (rest : List Item) → KindedStatement u f (tree.For objects first c step s) → AllJumpsStand false false first → JumpsStand true true s → Through (kinds u f called) (item.Enters objects ∷ (statements first ++ (item.ForIteration c step s ∷ (item.LoopEnd ∷ (item.Leaves objects ∷ []))))) rest [] []
  for_scope_through objects first c step s rest kinded before jumps =
      let end : List Item = item.ForIteration c step s ∷ (item.LoopEnd ∷ (item.Leaves objects ∷ [])) in
      let turns : Turns u f c step s (item.LoopEnd ∷ (item.Leaves objects ∷ rest)) = turning c step s (item.Leaves objects ∷ rest) kinded.1 kinded.2 kinded.3 jumps in
      ([], refl, through_both (kinds u f called) (statements first) end rest [] [] [] (statements_through false false first (end ++ rest) kinded.0 before (no_loop (end ++ rest))) ([], (turns, (refl, refl)), ([], (refl, refl), ([], refl, refl))))

  -- ---- statements

  switch_through : (breaks continues : Bool) (at : Place) (e : TermTree) (labels : List CaseLabel) (s : StatementTree) (rest : List Item) → KindedSwitch u e labels s → KindedStatement u f s → JumpsStand true continues s → Encloses breaks continues rest → Through (kinds u f called) (item.Value e ∷ (item.Select at (named e) labels s ∷ (item.LoopEnd ∷ []))) rest [] []
  switch_through breaks continues at e labels s rest switch kinded jumps e_rest =
      let selects : Selects u f labels s (item.LoopEnd ∷ rest) = record { cases = switch.2; stands = standing true continues s (item.LoopEnd ∷ rest) kinded jumps (in_switch breaks continues rest e_rest); ends = refl } in
      (Number ∷ [], valued u f called e Number (item.Select at (named e) labels s ∷ (item.LoopEnd ∷ rest)) [] switch.0 switch.1, ([], (selects, refl, refl), ([], (refl, refl), refl)))

  in_statement : (breaks continues is_entry : Bool) (i : StatementTree) (rest : List Item) → KindedStatement u f i → JumpsStand breaks continues i → Encloses breaks continues rest → Through (kinds u f called) (of_statement u is_entry i) rest [] []
  in_statement breaks continues is_entry (tree.Value e) rest kinded jumps enclosed = ([], (kinded, refl), refl)
  in_statement breaks continues is_entry tree.Nothing rest kinded jumps enclosed = refl
  in_statement breaks continues is_entry (tree.Forget at local) rest kinded jumps enclosed = ([], refl, refl)
  in_statement breaks continues is_entry (tree.Start at local e) rest kinded jumps enclosed = start_leads at local 0 e kinded rest
  in_statement breaks continues is_entry (tree.StartCopy at local l) rest kinded jumps enclosed = stored_leads at local (StoreCopy 0 l) kinded rest
  in_statement breaks continues is_entry (tree.StartList at local stores) rest kinded jumps enclosed = ([], refl, all_stored_lead at local stores kinded rest)
  in_statement breaks continues is_entry (tree.Block objects items) rest kinded jumps enclosed = block_through breaks continues objects items rest kinded jumps enclosed
  in_statement breaks continues is_entry (tree.If c s) rest kinded jumps enclosed = condition_through u f called true c (item.Statement s ∷ []) [] rest [] [] kinded.0 ([], (standing breaks continues s rest kinded.1 jumps enclosed, (refl, refl)), refl) refl
  in_statement breaks continues is_entry (tree.IfElse c one other) rest kinded jumps enclosed =
      let first : Stands u f one (item.Hop ∷ rest) = standing breaks continues one (item.Hop ∷ rest) kinded.1 jumps.0 (encloses_more breaks continues (item.Hop ∷ []) rest enclosed) in
      let second : Stands u f other rest = standing breaks continues other rest kinded.2 jumps.1 enclosed in
      condition_through u f called true c (item.Statement one ∷ (item.Hop ∷ [])) (item.Statement other ∷ []) rest [] [] kinded.0 ([], (first, (refl, refl)), ([], refl, refl)) ([], (second, (refl, refl)), refl)
  in_statement breaks continues is_entry (tree.While c s) rest kinded jumps enclosed = ([], (turning (Some c) None s rest kinded.0 tt kinded.1 jumps, (refl, refl)), ([], (refl, refl), refl))
  in_statement breaks continues is_entry (tree.Do s c) rest kinded jumps enclosed = ([], (turning (Some c) None s rest kinded.0 tt kinded.1 jumps, (refl, refl)), ([], (refl, refl), refl))
  in_statement breaks continues is_entry (tree.For objects first c step s) rest kinded jumps enclosed = for_scope_through objects first c step s rest kinded jumps.0 jumps.1
  in_statement breaks continues is_entry (tree.Switch at e labels has_default enumerators s) rest kinded jumps enclosed = switch_through breaks continues at e labels s rest kinded.0 kinded.1 jumps enclosed
  in_statement breaks continues is_entry (tree.Case n s) rest kinded jumps enclosed = ([], (standing breaks continues s rest kinded jumps enclosed, (refl, refl)), refl)
  in_statement breaks continues is_entry (tree.Default s) rest kinded jumps enclosed = ([], (standing breaks continues s rest kinded jumps enclosed, (refl, refl)), refl)
  in_statement breaks continues is_entry (tree.Label n s) rest kinded jumps enclosed = ([], (standing breaks continues s rest kinded jumps enclosed, (refl, refl)), refl)
  in_statement breaks continues is_entry (tree.Goto n) rest kinded jumps enclosed = ([], (kinded, (refl, refl)), refl)
  in_statement breaks continues is_entry tree.Break rest kinded jumps enclosed = ([], (enclosed.at_break jumps, (refl, refl)), refl)
  in_statement breaks continues is_entry tree.Continue rest kinded jumps enclosed = ([], (enclosed.at_continue jumps, (refl, refl)), refl)
  in_statement breaks continues is_entry (tree.Return at e) rest kinded jumps enclosed = leads_both (kinds u f called) (returned is_entry at e) (item.LeaveFunction ∷ []) [] [] [] (returned_leads is_entry at e kinded) (λ rest. ([], (refl, refl), refl)) rest

  pub statement_through : (is_entry : Bool) (i : StatementTree) (rest : List Item) → Stands u f i rest → Through (kinds u f called) (of_statement u is_entry i) rest [] []
  statement_through is_entry i rest stands = in_statement stands.breaks stands.continues is_entry i rest stands.kinded stands.jumps stands.enclosed
