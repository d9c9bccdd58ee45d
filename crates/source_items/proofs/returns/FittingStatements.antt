-- The items of statements fit where the statements stand.
use Rattle.std.proofs.Common.{◌≡◌, ℕ, Bool, true, false, List, [], ◌∷◌, ◌++◌, Option, Some, None, append_assoc, sym, subst}
use Rattle.cc_base.specs.declared.diagnostics.Place.{Place}
use Rattle.c_layout.specs.CheckedTrees as tree
use Rattle.c_layout.specs.CheckedTrees.{TermTree, StatementTree, StatementTrees, statement_trees, StoreTree, StoreValue, StoreCopy, StoreText}
use Rattle.c_layout.specs.CheckedUnits.{UnitView, FunctionView}
use Rattle.semantics.specs.SourceMachine.Items as item
use Rattle.semantics.specs.SourceMachine.Items.{Item}
use Rattle.semantics.specs.SourceMachine.Scopes.{past_loop, past_iteration}
use Rattle.semantics.specs.SourceMachine.ConditionItems.{condition}
use Rattle.semantics.specs.SourceMachine.StatementItems.{statements, stored, all_stored, while_iteration, do_test, do_iteration, for_step, for_body, for_iteration, returned, of_statement, list_statements}
use Rattle.source_items.specs.Returns.StandingJumps.{JumpsStand, AllJumpsStand}
use Rattle.source_items.specs.Returns.EndedObjects.{ended, AreAmong, EndOwn}
use Rattle.source_items.specs.Returns.Leavings.{Encloses, Stands, Turns, Fit}
use Rattle.source_items.proofs.stack_kinds.LeadingStatements.{listed_statements}
use Rattle.source_items.proofs.liveness.Members.{apart}
use Rattle.source_items.proofs.returns.Members.{among_left, all_among, among_through}
use Rattle.source_items.proofs.returns.Ends.{ended_more, own_more}
use Rattle.source_items.proofs.returns.Fitting.{Adds, adds_both}
use Rattle.source_items.proofs.returns.FittingConditions.{condition_fits, behind_condition}

module _ (f : FunctionView) where
  -- ---- statements one after the other

  one_more : (breaks continues : Bool) (s : StatementTree) (rest : List Item) → Encloses f breaks continues rest → Encloses f breaks continues (item.Statement s ∷ rest)
  one_more breaks continues s rest e = record { ends = e.ends; at_break = e.at_break; at_continue = e.at_continue }

  pub statements_enclose : (breaks continues : Bool) (items : StatementTrees) (rest : List Item) → Encloses f breaks continues rest → Encloses f breaks continues (statements items ++ rest)
  statements_enclose breaks continues tree.NoMore rest e = e
  statements_enclose breaks continues (tree.And s ss) rest e = one_more breaks continues s (statements ss ++ rest) (statements_enclose breaks continues ss rest e)

  pub standing : (breaks continues : Bool) (s : StatementTree) (rest : List Item) → JumpsStand breaks continues s → Encloses f breaks continues rest → Stands f s rest
  standing breaks continues s rest jumps e = record { breaks = breaks; continues = continues; jumps = jumps; enclosed = e }

  pub statements_fit : (breaks continues : Bool) (items : StatementTrees) (rest : List Item) → AllJumpsStand breaks continues items → Encloses f breaks continues rest → Fit f rest → Fit f (statements items ++ rest)
  statements_fit breaks continues tree.NoMore rest jumps e fit = fit
  statements_fit breaks continues (tree.And s ss) rest jumps e fit = (standing breaks continues s (statements ss ++ rest) jumps.0 (statements_enclose breaks continues ss rest e), statements_fit breaks continues ss rest jumps.1 e fit)

  pub list_fits : (breaks continues : Bool) (ss : List StatementTree) (rest : List Item) → AllJumpsStand breaks continues (statement_trees ss) → Encloses f breaks continues rest → Fit f rest → Fit f (list_statements ss ++ rest)
  list_fits breaks continues ss rest jumps e fit = subst (λ items. Fit f (items ++ rest)) (sym (listed_statements ss)) (statements_fit breaks continues (statement_trees ss) rest jumps e fit)

  -- ---- scopes

  pub scope_encloses : (breaks continues : Bool) (objects : List ℕ) (rest : List Item) → Encloses f breaks continues rest → Encloses f breaks continues (item.Leaves objects ∷ rest)
  scope_encloses breaks continues objects rest e = record { ends = own_more f (item.Leaves objects ∷ []) rest e.ends; at_break = e.at_break; at_continue = e.at_continue }

  pub no_loop : (rest : List Item) → EndOwn f rest → Encloses f false false rest
  no_loop rest ends = record { ends = ends; at_break = λ e. absurd (apart e); at_continue = λ e. absurd (apart e) }

  -- what enters objects before items that end them
  entering : (objects : List ℕ) (xs rest : List Item) → AreAmong objects (ended f rest) → Fit f (xs ++ rest) → Fit f (item.Enters objects ∷ (xs ++ rest))
  entering objects xs rest among fit = (among_through objects (ended f rest) (ended f (xs ++ rest)) among (ended_more f xs rest), fit)

  block_fits : (breaks continues : Bool) (objects : List ℕ) (items : StatementTrees) (rest : List Item) → AllJumpsStand breaks continues items → Encloses f breaks continues rest → Fit f rest → Fit f (item.Enters objects ∷ ((statements items ++ item.Leaves objects ∷ []) ++ rest))
  block_fits breaks continues objects items rest jumps e fit =
      let end : List Item = item.Leaves objects ∷ rest in
      let all : Fit f (statements items ++ end) = statements_fit breaks continues items end jumps (scope_encloses breaks continues objects rest e) (tt, fit) in
      subst (λ xs. Fit f (item.Enters objects ∷ xs)) (sym (append_assoc (statements items) (item.Leaves objects ∷ []) rest)) (entering objects (statements items) end (among_left objects (ended f rest)) all)

  pub in_block : (objects : List ℕ) (ss : List StatementTree) (end : List Item) → AllJumpsStand false false (statement_trees ss) → EndOwn f end → Fit f end → Fit f (item.Enters objects ∷ (list_statements ss ++ item.Leaves objects ∷ end))
  in_block objects ss end jumps own fit =
      let all : Fit f (list_statements ss ++ item.Leaves objects ∷ end) = list_fits false false ss (item.Leaves objects ∷ end) jumps (no_loop (item.Leaves objects ∷ end) (own_more f (item.Leaves objects ∷ []) end own)) (tt, fit) in
      entering objects (list_statements ss) (item.Leaves objects ∷ end) (among_left objects (ended f end)) all

  -- ---- stores and results

  stored_adds : (at : Place) (local : ℕ) (x : StoreTree) → Adds f (stored at local x)
  stored_adds at local (StoreValue offset e) = λ rest fit. (tt, (tt, (tt, (tt, fit))))
  stored_adds at local (StoreCopy offset l) = λ rest fit. (tt, (tt, (tt, (tt, fit))))
  stored_adds at local (StoreText offset room text) = λ rest fit. (tt, fit)

  all_stored_add : (at : Place) (local : ℕ) (xs : List StoreTree) → Adds f (all_stored at local xs)
  all_stored_add at local [] = λ rest fit. fit
  all_stored_add at local (x ∷ xs) = adds_both f (stored at local x) (all_stored at local xs) (stored_adds at local x) (all_stored_add at local xs)

  returned_adds : (is_entry : Bool) (at : Place) (e : Option TermTree) → Adds f (returned is_entry at e)
  returned_adds is_entry at None = λ rest fit. fit
  returned_adds true at (Some e) = λ rest fit. (tt, (tt, fit))
  returned_adds false at (Some e) = λ rest fit. (tt, (tt, (tt, (tt, fit))))

module _ (u : UnitView) (f : FunctionView) where
  -- ---- loops

  -- a body with the end of its turn behind it
  loop_body : (s : StatementTree) (rest : List Item) → JumpsStand true true s → EndOwn f rest → EndOwn f (past_loop rest) → EndOwn f (past_iteration rest) → Stands f s rest
  loop_body s rest jumps ends one other = standing f true true s rest jumps (record { ends = ends; at_break = λ e. one; at_continue = λ e. other })

  pub while_fits : (c : TermTree) (s : StatementTree) (rest : List Item) → Turns f s rest → Fit f rest → Fit f (while_iteration u c s ++ rest)
  while_fits c s rest turns fit =
      let again : List Item = item.Hop ∷ (item.IterationEnd ∷ (item.WhileIteration c s ∷ [])) in
      let stands : Stands f s (again ++ rest) = loop_body s (again ++ rest) turns.jumps turns.ends turns.at_break turns.ends in
      condition_fits u f true c (item.Statement s ∷ again) [] rest (stands, (tt, (tt, (turns, fit)))) fit

  pub test_encloses : (c : TermTree) (s : StatementTree) (rest : List Item) → Turns f s rest → Encloses f true true (do_test u s c ++ rest)
  test_encloses c s rest turns =
      let test : List Item = condition u true c (item.DoIteration s c ∷ []) [] in
      let again : EndOwn f (test ++ rest) = own_more f test rest turns.ends in
      record { ends = again; at_break = λ e. subst (EndOwn f) (sym (behind_condition u f true c (item.DoIteration s c ∷ []) [] rest)) turns.at_break; at_continue = λ e. again }

  pub test_fits : (c : TermTree) (s : StatementTree) (rest : List Item) → Turns f s rest → Fit f rest → Fit f (do_test u s c ++ rest)
  test_fits c s rest turns fit = (tt, condition_fits u f true c (item.DoIteration s c ∷ []) [] rest (turns, fit) fit)

  pub do_fits : (c : TermTree) (s : StatementTree) (rest : List Item) → Turns f s rest → Fit f rest → Fit f (do_iteration u s c ++ rest)
  do_fits c s rest turns fit = (standing f true true s (do_test u s c ++ rest) turns.jumps (test_encloses c s rest turns), test_fits c s rest turns fit)

  pub step_encloses : (c step : Option TermTree) (s : StatementTree) (rest : List Item) → Turns f s rest → Encloses f true true (for_step c step s ++ rest)
  step_encloses c None s rest turns = record { ends = turns.ends; at_break = λ e. turns.at_break; at_continue = λ e. turns.ends }
  step_encloses c (Some x) s rest turns = record { ends = turns.ends; at_break = λ e. turns.at_break; at_continue = λ e. turns.ends }

  pub step_fits : (c step : Option TermTree) (s : StatementTree) (rest : List Item) → Turns f s rest → Fit f rest → Fit f (for_step c step s ++ rest)
  step_fits c None s rest turns fit = (tt, (tt, (turns, fit)))
  step_fits c (Some x) s rest turns fit = (tt, (tt, (tt, (turns, fit))))

  for_body_fits : (c step : Option TermTree) (s : StatementTree) (rest : List Item) → Turns f s rest → Fit f rest → Fit f (for_body c step s ++ rest)
  for_body_fits c step s rest turns fit = (standing f true true s (for_step c step s ++ rest) turns.jumps (step_encloses c step s rest turns), step_fits c step s rest turns fit)

  pub for_fits : (c step : Option TermTree) (s : StatementTree) (rest : List Item) → Turns f s rest → Fit f rest → Fit f (for_iteration u c step s ++ rest)
  for_fits None step s rest turns fit = for_body_fits None step s rest turns fit
  for_fits (Some c) step s rest turns fit = condition_fits u f true c (for_body (Some c) step s) [] rest (for_body_fits (Some c) step s rest turns fit) fit

  -- ---- loops in their scopes

  pub turning : (s : StatementTree) (rest : List Item) → JumpsStand true true s → EndOwn f rest → Turns f s (item.LoopEnd ∷ rest)
  turning s rest jumps ends = record { jumps = jumps; ends = ends; at_break = ends }

  for_scope_fits : (objects : List ℕ) (first : StatementTrees) (c step : Option TermTree) (s : StatementTree) (rest : List Item) → AllJumpsStand false false first → JumpsStand true true s → EndOwn f rest → Fit f rest → Fit f (item.Enters objects ∷ ((statements first ++ (item.ForIteration c step s ∷ (item.LoopEnd ∷ (item.Leaves objects ∷ [])))) ++ rest))
  for_scope_fits objects first c step s rest before jumps ends fit =
      let left : List Item = item.Leaves objects ∷ rest in
      let own : EndOwn f left = own_more f (item.Leaves objects ∷ []) rest ends in
      let end : List Item = item.ForIteration c step s ∷ (item.LoopEnd ∷ left) in
      let turns : Turns f s (item.LoopEnd ∷ left) = turning s left jumps own in
      let all : Fit f (statements first ++ end) = statements_fit f false false first end before (no_loop f end own) (turns, (tt, (tt, fit))) in
      let same : (statements first ++ (item.ForIteration c step s ∷ (item.LoopEnd ∷ (item.Leaves objects ∷ [])))) ++ rest ≡ statements first ++ end = append_assoc (statements first) _ rest in
      subst (λ xs. Fit f (item.Enters objects ∷ xs)) (sym same) (entering f objects (statements first) end (among_left objects (ended f rest)) all)

  -- ---- statements

  pub switch_encloses : (breaks continues : Bool) (rest : List Item) → Encloses f breaks continues rest → Encloses f true continues (item.LoopEnd ∷ rest)
  switch_encloses breaks continues rest e = record { ends = e.ends; at_break = λ _. e.ends; at_continue = e.at_continue }

  pub hop_encloses : (breaks continues : Bool) (rest : List Item) → Encloses f breaks continues rest → Encloses f breaks continues (item.Hop ∷ rest)
  hop_encloses breaks continues rest e = record { ends = e.ends; at_break = e.at_break; at_continue = e.at_continue }

  fits_in : (breaks continues is_entry : Bool) (i : StatementTree) (rest : List Item) → JumpsStand breaks continues i → Encloses f breaks continues rest → Fit f rest → Fit f (of_statement u is_entry i ++ rest)
  fits_in breaks continues is_entry (tree.Value e) rest jumps enclosed fit = (tt, fit)
  fits_in breaks continues is_entry tree.Nothing rest jumps enclosed fit = fit
  fits_in breaks continues is_entry (tree.Forget at local) rest jumps enclosed fit = (tt, fit)
  fits_in breaks continues is_entry (tree.Start at local e) rest jumps enclosed fit = (tt, (tt, (tt, (tt, fit))))
  fits_in breaks continues is_entry (tree.StartCopy at local l) rest jumps enclosed fit = (tt, (tt, (tt, (tt, fit))))
  fits_in breaks continues is_entry (tree.StartList at local stores) rest jumps enclosed fit = (tt, all_stored_add f at local stores rest fit)
  fits_in breaks continues is_entry (tree.Block objects items) rest jumps enclosed fit = block_fits f breaks continues objects items rest jumps enclosed fit
  fits_in breaks continues is_entry (tree.If c s) rest jumps enclosed fit = condition_fits u f true c (item.Statement s ∷ []) [] rest (standing f breaks continues s rest jumps enclosed, fit) fit
  fits_in breaks continues is_entry (tree.IfElse c one other) rest jumps enclosed fit = condition_fits u f true c (item.Statement one ∷ (item.Hop ∷ [])) (item.Statement other ∷ []) rest (standing f breaks continues one (item.Hop ∷ rest) jumps.0 (hop_encloses breaks continues rest enclosed), (tt, fit)) (standing f breaks continues other rest jumps.1 enclosed, fit)
  fits_in breaks continues is_entry (tree.While c s) rest jumps enclosed fit = (turning s rest jumps enclosed.ends, (tt, fit))
  fits_in breaks continues is_entry (tree.Do s c) rest jumps enclosed fit = (turning s rest jumps enclosed.ends, (tt, fit))
  fits_in breaks continues is_entry (tree.For objects first c step s) rest jumps enclosed fit = for_scope_fits objects first c step s rest jumps.0 jumps.1 enclosed.ends fit
  fits_in breaks continues is_entry (tree.Switch at e labels has_default enumerators s) rest jumps enclosed fit = (tt, (record { stands = standing f true continues s (item.LoopEnd ∷ rest) jumps (switch_encloses breaks continues rest enclosed); lands = all_among (ended f rest) }, (tt, fit)))
  fits_in breaks continues is_entry (tree.Case n s) rest jumps enclosed fit = (standing f breaks continues s rest jumps enclosed, fit)
  fits_in breaks continues is_entry (tree.Default s) rest jumps enclosed fit = (standing f breaks continues s rest jumps enclosed, fit)
  fits_in breaks continues is_entry (tree.Label n s) rest jumps enclosed fit = (standing f breaks continues s rest jumps enclosed, fit)
  fits_in breaks continues is_entry (tree.Goto n) rest jumps enclosed fit = (tt, fit)
  fits_in breaks continues is_entry tree.Break rest jumps enclosed fit = (enclosed.at_break jumps, fit)
  fits_in breaks continues is_entry tree.Continue rest jumps enclosed fit = (enclosed.at_continue jumps, fit)
  fits_in breaks continues is_entry (tree.Return at e) rest jumps enclosed fit = adds_both f (returned is_entry at e) (item.LeaveFunction ∷ []) (returned_adds f is_entry at e) (λ rest fit. (tt, fit)) rest fit

  pub statement_fits : (is_entry : Bool) (i : StatementTree) (rest : List Item) → Stands f i rest → Fit f rest → Fit f (of_statement u is_entry i ++ rest)
  statement_fits is_entry i rest stands fit = fits_in stands.breaks stands.continues is_entry i rest stands.jumps stands.enclosed fit
