-- The items of statements lead from no pending values to none.
use Rattle.std.proofs.Common.{◌≡◌, ◌≤◌, ℕ, Bool, true, false, List, [], ◌∷◌, ◌++◌, Option, Some, None, inl, refl, ap, sym, arith}
use Rattle.cc_base.specs.declared.diagnostics.Place.{Place}
use Rattle.c_layout.specs.CheckedTrees as tree
use Rattle.c_layout.specs.CheckedTrees.{TermTree, StatementTree, StatementTrees, StoreTree, StoreValue, StoreCopy, StoreText}
use Rattle.c_layout.specs.CheckedUnits.{UnitView, FunctionView}
use Rattle.c_layout.specs.declared.checked_tree.checked_statements.CaseLabel.{CaseLabel}
use Rattle.c_layout.specs.declared.checked_tree.checked_terms.ObjectRef.TheVariants.{Local}
use Rattle.lower_conditions.specs.declared.branch_tests.NamedObject.{NamedObject}
use Rattle.lower_conditions.specs.Tests.{named}
use Rattle.lower_templates.specs.Worklist.TermKinds.{scalar_of, term_type}
use Rattle.memory_model.specs.Effects.LibraryChecks.{most_size}
use Rattle.semantics.specs.SourceMachine.Operations as op
use Rattle.semantics.specs.SourceMachine.Items as item
use Rattle.semantics.specs.SourceMachine.Items.{Item}
use Rattle.semantics.specs.SourceMachine.StatementItems.{statements, start_scalar, stored, all_stored, while_iteration, do_test, do_iteration, clause, for_step, for_body, for_iteration, returned, of_statement}
use Rattle.source_items.specs.Returns.StandingJumps.{JumpsStand, AllJumpsStand}
use Rattle.source_items.specs.StackKinds.KindedTerms.{HasObject}
use Rattle.source_items.specs.StackKinds.KindedItems.{ends_loop, Encloses}
use Rattle.source_items.specs.StackKinds.KindedStatements.{HasCases}
use Rattle.source_items.proofs.stack_kinds.Loops.{loop_ends_more, encloses_more, no_loop, in_loop, in_switch}
use Rattle.source_preservation.specs.ValueTyping.Marks.{Mark, Ranged, Pointing, mark_of_type}
use Rattle.source_preservation.specs.ValueTyping.MarkOperations as marks
use Rattle.source_preservation.specs.WellTyped.WellTypedTerms.{term_mark, WellTypedTerm, IsScalarType}
use Rattle.source_preservation.specs.WellTyped.WellTypedStatements.{WellTypedIf, WellTypedStep, SelectsBy, WellTypedStore, WellTypedStores, WellTypedReturn, WellTypedStatement, WellTypedStatements}
use Rattle.source_preservation.specs.WellTyped.WellTypedItems as items
use Rattle.source_preservation.specs.WellTyped.WellTypedItems.{Evaluates, by_type, quietly, PointsInto, Stands, Turns, Selects, SelectsFrom}
use Rattle.source_items.proofs.stack_kinds.ItemWalks.{Through, Leads, through_both, leads_both}
use Rattle.source_preservation.proofs.items.Leading.{marks}
use Rattle.source_preservation.proofs.items.LeadingConditions.{condition_through}

module _ (u : UnitView) (f : FunctionView) (called : Option Bool) where
  nothing_small : 0 ≤ most_size u.model
  nothing_small = omega arith

  -- ---- statements one after the other

  pub standing : (breaks continues : Bool) (s : StatementTree) (rest : List Item) → WellTypedStatement u f s → JumpsStand breaks continues s → Encloses breaks continues rest → Stands u f s rest
  standing breaks continues s rest well_typed jumps e = record { well_typed = well_typed; breaks = breaks; continues = continues; jumps = jumps; enclosed = e }

  pub statements_through : (breaks continues : Bool) (items : StatementTrees) (rest : List Item) → WellTypedStatements u f items → AllJumpsStand breaks continues items → Encloses breaks continues rest → Through (marks u f called) (statements items) rest [] []
  statements_through breaks continues tree.NoMore rest well_typed jumps e = refl
  statements_through breaks continues (tree.And s ss) rest well_typed jumps e = ([], (standing breaks continues s (statements ss ++ rest) well_typed.0 jumps.0 (encloses_more breaks continues (statements ss) rest e), (refl, refl)), statements_through breaks continues ss rest well_typed.1 jumps.1 e)

  block_through : (breaks continues : Bool) (objects : List ℕ) (items : StatementTrees) (rest : List Item) → WellTypedStatements u f items → AllJumpsStand breaks continues items → Encloses breaks continues rest → Through (marks u f called) (item.Enters objects ∷ (statements items ++ item.Leaves objects ∷ [])) rest [] []
  block_through breaks continues objects items rest well_typed jumps e =
      let end : List Item = item.Leaves objects ∷ [] in
      ([], (tt, refl), through_both (marks u f called) (statements items) end rest [] [] [] (statements_through breaks continues items (end ++ rest) well_typed jumps (encloses_more breaks continues end rest e)) ([], (tt, refl), refl))

  -- ---- stores and results

  -- a value is stored to the pointer below it
  value_stored : (e : TermTree) (at : Place) (rest : List Item) → WellTypedTerm u true e → IsScalarType u (term_type e) → Through (marks u f called) (item.Value e ∷ (item.Do at (op.Store (scalar_of (term_type e))) ∷ (item.Drop ∷ []))) rest (Pointing ∷ []) []
  value_stored e at rest well_typed scalar =
      let k : Mark = term_mark e in
      (k ∷ (Pointing ∷ []), by_type well_typed (refl, tt) refl, (k ∷ [], (scalar, marks.Stores.any ([], tt, refl, refl)), ([], (k, refl), refl)))

  pointer_into : (local offset : ℕ) → offset ≤ most_size u.model → HasObject u (Local local) × PointsInto u (Local local) offset [] (Pointing ∷ [])
  pointer_into local offset small = (tt, items.PointsInto.any small refl)

  start_leads : (at : Place) (local offset : ℕ) (e : TermTree) → WellTypedTerm u true e → IsScalarType u (term_type e) → offset ≤ most_size u.model → Leads (marks u f called) (start_scalar at local offset e) [] []
  start_leads at local offset e well_typed scalar small rest = (Pointing ∷ [], pointer_into local offset small, value_stored e at rest well_typed scalar)

  stored_leads : (at : Place) (local : ℕ) (x : StoreTree) → WellTypedStore u x → Leads (marks u f called) (stored at local x) [] []
  stored_leads at local (StoreValue offset e) well_typed = start_leads at local offset e well_typed.0 well_typed.1 well_typed.2
  stored_leads at local (StoreCopy offset l) well_typed = λ rest. (Pointing ∷ [], pointer_into local offset well_typed.1, (Pointing ∷ (Pointing ∷ []), items.Locates.any well_typed.0 (refl, tt) refl, (Pointing ∷ [], ([], tt, refl, refl), ([], (Pointing, refl), refl))))
  stored_leads at local (StoreText offset room text) well_typed = λ rest. ([], (well_typed, tt, refl), refl)

  all_stored_lead : (at : Place) (local : ℕ) (xs : List StoreTree) → WellTypedStores u xs → Leads (marks u f called) (all_stored at local xs) [] []
  all_stored_lead at local [] well_typed = λ rest. refl
  all_stored_lead at local (x ∷ xs) well_typed = leads_both (marks u f called) (stored at local x) (all_stored at local xs) [] [] [] (stored_leads at local x well_typed.0) (all_stored_lead at local xs well_typed.1)

  returned_leads : (is_entry : Bool) (at : Place) (e : Option TermTree) → WellTypedReturn u f e → Leads (marks u f called) (returned is_entry at e) [] []
  returned_leads is_entry at None well_typed rest = refl
  returned_leads true at (Some e) well_typed rest = (term_mark e ∷ [], by_type well_typed.0 tt refl, ([], (term_mark e, refl), refl))
  returned_leads false at (Some e) well_typed rest = (Pointing ∷ [], (well_typed.2, refl), value_stored e at rest well_typed.0 well_typed.1)

  -- ---- loops

  pub while_through : (c : TermTree) (s : StatementTree) (rest : List Item) → Turns u f (Some c) None s rest → Through (marks u f called) (while_iteration u c s) rest [] []
  while_through c s rest turns =
      let again : List Item = item.Hop ∷ (item.IterationEnd ∷ (item.WhileIteration c s ∷ [])) in
      let stands : Stands u f s (again ++ rest) = standing true true s (again ++ rest) turns.well_typed turns.jumps (in_loop (again ++ rest) turns.ends refl) in
      condition_through u f called true c (item.Statement s ∷ again) [] rest [] [] turns.condition.0 turns.condition.1 tt ([], (stands, (refl, refl)), ([], refl, ([], (refl, refl), ([], (turns, (refl, refl)), refl)))) refl

  pub test_through : (c : TermTree) (s : StatementTree) (rest : List Item) → Turns u f (Some c) None s rest → Through (marks u f called) (do_test u s c) rest [] []
  test_through c s rest turns = ([], (refl, refl), condition_through u f called true c (item.DoIteration s c ∷ []) [] rest [] [] turns.condition.0 turns.condition.1 tt ([], (turns, (refl, refl)), refl) refl)

  pub test_encloses : (c : TermTree) (s : StatementTree) (rest : List Item) → ends_loop rest ≡ true → Encloses true true (do_test u s c ++ rest)
  test_encloses c s rest ends = in_loop (do_test u s c ++ rest) (loop_ends_more (do_test u s c) rest ends) refl

  pub do_through : (c : TermTree) (s : StatementTree) (rest : List Item) → Turns u f (Some c) None s rest → Through (marks u f called) (do_iteration u s c) rest [] []
  do_through c s rest turns = ([], (standing true true s (do_test u s c ++ rest) turns.well_typed turns.jumps (test_encloses c s rest turns.ends), (refl, refl)), test_through c s rest turns)

  pub step_through : (c step : Option TermTree) (s : StatementTree) (rest : List Item) → Turns u f c step s rest → Through (marks u f called) (for_step c step s) rest [] []
  step_through c None s rest turns = ([], (refl, refl), ([], refl, ([], (turns, (refl, refl)), refl)))
  step_through c (Some x) s rest turns = ([], (refl, refl), ([], (turns.step, tt, refl), ([], refl, ([], (turns, (refl, refl)), refl))))

  pub step_encloses : (c step : Option TermTree) (s : StatementTree) (rest : List Item) → ends_loop rest ≡ true → Encloses true true (for_step c step s ++ rest)
  step_encloses c step s rest ends = in_loop (for_step c step s ++ rest) (loop_ends_more (for_step c step s) rest ends) refl

  for_body_through : (c step : Option TermTree) (s : StatementTree) (rest : List Item) → Turns u f c step s rest → Through (marks u f called) (for_body c step s) rest [] []
  for_body_through c step s rest turns = ([], (standing true true s (for_step c step s ++ rest) turns.well_typed turns.jumps (step_encloses c step s rest turns.ends), (refl, refl)), step_through c step s rest turns)

  pub for_through : (c step : Option TermTree) (s : StatementTree) (rest : List Item) → Turns u f c step s rest → Through (marks u f called) (for_iteration u c step s) rest [] []
  for_through None step s rest turns = for_body_through None step s rest turns
  for_through (Some c) step s rest turns = condition_through u f called true c (for_body (Some c) step s) [] rest [] [] turns.condition.0 turns.condition.1 tt (for_body_through (Some c) step s rest turns) refl

  -- ---- loops in their scopes

  pub turning : (c step : Option TermTree) (s : StatementTree) (rest : List Item) → WellTypedIf u c → WellTypedStep u step → WellTypedStatement u f s → JumpsStand true true s → Turns u f c step s (item.LoopEnd ∷ rest)
  turning c step s rest test clause well_typed jumps = record { condition = test; step = clause; well_typed = well_typed; jumps = jumps; ends = refl }

  for_scope_through : (objects : List ℕ) (first : StatementTrees) (c step : Option TermTree) (s : StatementTree) (rest : List Item) → WellTypedStatement u f (tree.For objects first c step s) → AllJumpsStand false false first → JumpsStand true true s → Through (marks u f called) (item.Enters objects ∷ (statements first ++ (item.ForIteration c step s ∷ (item.LoopEnd ∷ (item.Leaves objects ∷ []))))) rest [] []
  for_scope_through objects first c step s rest well_typed before jumps =
      let end : List Item = item.ForIteration c step s ∷ (item.LoopEnd ∷ (item.Leaves objects ∷ [])) in
      let turns : Turns u f c step s (item.LoopEnd ∷ (item.Leaves objects ∷ rest)) = turning c step s (item.Leaves objects ∷ rest) well_typed.1 well_typed.2 well_typed.3 jumps in
      ([], (tt, refl), through_both (marks u f called) (statements first) end rest [] [] [] (statements_through false false first (end ++ rest) well_typed.0 before (no_loop (end ++ rest))) ([], (turns, (refl, refl)), ([], (refl, refl), ([], (tt, refl), refl))))

  -- ---- statements

  -- what a switch selects by, and what is known of it
  selecting : (e : TermTree) (o : Option NamedObject) → SelectsBy u e o → (k : Mark) × Evaluates u e [] (k ∷ []) × SelectsFrom u o (k ∷ [])
  selecting e None by = (Ranged by.1.0, by_type by.0 tt (ap (λ t. mark_of_type t ∷ []) (sym by.1.1)), (by.1.0, refl))
  selecting e (Some o) by = (by.0, quietly by.0 (inl by.1) refl, (by.0, refl, by.2))

  switch_through : (breaks continues : Bool) (at : Place) (e : TermTree) (labels : List CaseLabel) (s : StatementTree) (rest : List Item) → SelectsBy u e (named e) → HasCases u labels s → WellTypedStatement u f s → JumpsStand true continues s → Encloses breaks continues rest → Through (marks u f called) (item.Value e ∷ (item.Select at (named e) labels s ∷ (item.LoopEnd ∷ []))) rest [] []
  switch_through breaks continues at e labels s rest by cases well_typed jumps e_rest =
      let selects : Selects u f labels s (item.LoopEnd ∷ rest) = record { cases = cases; stands = standing true continues s (item.LoopEnd ∷ rest) well_typed jumps (in_switch breaks continues rest e_rest); ends = refl } in
      let value = selecting e (named e) by in
      (value.0 ∷ [], value.1, ([], (selects, value.2, refl), ([], (refl, refl), refl)))

  in_statement : (breaks continues is_entry : Bool) (i : StatementTree) (rest : List Item) → WellTypedStatement u f i → JumpsStand breaks continues i → Encloses breaks continues rest → Through (marks u f called) (of_statement u is_entry i) rest [] []
  in_statement breaks continues is_entry (tree.Value e) rest well_typed jumps enclosed = ([], (well_typed, tt, refl), refl)
  in_statement breaks continues is_entry tree.Nothing rest well_typed jumps enclosed = refl
  in_statement breaks continues is_entry (tree.Forget at local) rest well_typed jumps enclosed = ([], (tt, tt, refl), refl)
  in_statement breaks continues is_entry (tree.Start at local e) rest well_typed jumps enclosed = start_leads at local 0 e well_typed.0 well_typed.1 nothing_small rest
  in_statement breaks continues is_entry (tree.StartCopy at local l) rest well_typed jumps enclosed = stored_leads at local (StoreCopy 0 l) (well_typed, nothing_small) rest
  in_statement breaks continues is_entry (tree.StartList at local stores) rest well_typed jumps enclosed = ([], (tt, tt, refl), all_stored_lead at local stores well_typed rest)
  in_statement breaks continues is_entry (tree.Block objects items) rest well_typed jumps enclosed = block_through breaks continues objects items rest well_typed jumps enclosed
  in_statement breaks continues is_entry (tree.If c s) rest well_typed jumps enclosed = condition_through u f called true c (item.Statement s ∷ []) [] rest [] [] well_typed.0.0 well_typed.0.1 tt ([], (standing breaks continues s rest well_typed.1 jumps enclosed, (refl, refl)), refl) refl
  in_statement breaks continues is_entry (tree.IfElse c one other) rest well_typed jumps enclosed =
      let first : Stands u f one (item.Hop ∷ rest) = standing breaks continues one (item.Hop ∷ rest) well_typed.1 jumps.0 (encloses_more breaks continues (item.Hop ∷ []) rest enclosed) in
      let second : Stands u f other rest = standing breaks continues other rest well_typed.2 jumps.1 enclosed in
      condition_through u f called true c (item.Statement one ∷ (item.Hop ∷ [])) (item.Statement other ∷ []) rest [] [] well_typed.0.0 well_typed.0.1 tt ([], (first, (refl, refl)), ([], refl, refl)) ([], (second, (refl, refl)), refl)
  in_statement breaks continues is_entry (tree.While c s) rest well_typed jumps enclosed = ([], (turning (Some c) None s rest well_typed.0 tt well_typed.1 jumps, (refl, refl)), ([], (refl, refl), refl))
  in_statement breaks continues is_entry (tree.Do s c) rest well_typed jumps enclosed = ([], (turning (Some c) None s rest well_typed.0 tt well_typed.1 jumps, (refl, refl)), ([], (refl, refl), refl))
  in_statement breaks continues is_entry (tree.For objects first c step s) rest well_typed jumps enclosed = for_scope_through objects first c step s rest well_typed jumps.0 jumps.1
  in_statement breaks continues is_entry (tree.Switch at e labels has_default enumerators s) rest well_typed jumps enclosed = switch_through breaks continues at e labels s rest well_typed.0 well_typed.1 well_typed.2 jumps enclosed
  in_statement breaks continues is_entry (tree.Case n s) rest well_typed jumps enclosed = ([], (standing breaks continues s rest well_typed jumps enclosed, (refl, refl)), refl)
  in_statement breaks continues is_entry (tree.Default s) rest well_typed jumps enclosed = ([], (standing breaks continues s rest well_typed jumps enclosed, (refl, refl)), refl)
  in_statement breaks continues is_entry (tree.Label n s) rest well_typed jumps enclosed = ([], (standing breaks continues s rest well_typed jumps enclosed, (refl, refl)), refl)
  in_statement breaks continues is_entry (tree.Goto n) rest well_typed jumps enclosed = ([], (well_typed, (refl, refl)), refl)
  in_statement breaks continues is_entry tree.Break rest well_typed jumps enclosed = ([], (enclosed.at_break jumps, (refl, refl)), refl)
  in_statement breaks continues is_entry tree.Continue rest well_typed jumps enclosed = ([], (enclosed.at_continue jumps, (refl, refl)), refl)
  in_statement breaks continues is_entry (tree.Return at e) rest well_typed jumps enclosed = leads_both (marks u f called) (returned is_entry at e) (item.LeaveFunction ∷ []) [] [] [] (returned_leads is_entry at e well_typed) (λ rest. ([], (refl, refl), refl)) rest

  pub statement_through : (is_entry : Bool) (i : StatementTree) (rest : List Item) → Stands u f i rest → Through (marks u f called) (of_statement u is_entry i) rest [] []
  statement_through is_entry i rest stands = in_statement stands.breaks stands.continues is_entry i rest stands.well_typed stands.jumps stands.enclosed
