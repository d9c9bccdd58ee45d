-- Loops and switches, and with them all statements, sit where their objects live.
use Rattle.std.proofs.Common.{◌≡◌, ℕ, Bool, true, false, List, [], ◌∷◌, ◌++◌, Option, Some, None, append_assoc, refl, ap, sym, subst, ◌∙◌}
use Rattle.cc_base.specs.declared.diagnostics.Place.{Place}
use Rattle.c_layout.specs.CheckedTrees as tree
use Rattle.c_layout.specs.CheckedTrees.{TermTree, StatementTree, StatementTrees}
use Rattle.c_layout.specs.CheckedUnits.{UnitView, FunctionView}
use Rattle.semantics.specs.SourceMachine.Items as item
use Rattle.semantics.specs.SourceMachine.Items.{Item}
use Rattle.semantics.specs.SourceMachine.Scopes.{open_scopes, past_loop}
use Rattle.semantics.specs.SourceMachine.ConditionItems.{condition}
use Rattle.semantics.specs.SourceMachine.StatementItems.{statements, while_iteration, do_test, do_iteration, for_step, for_body, for_iteration, returned, of_statement}
use Rattle.source_items.specs.Returns.StandingJumps.{JumpsStand}
use Rattle.source_items.specs.Liveness.Lives.{lives, kept_objects, AreOpen, IsInBody}
use Rattle.source_items.specs.Liveness.ScopedTerms.{ScopedIf}
use Rattle.source_items.specs.Liveness.ScopedStatements.{ScopedReturn, ScopedStatement}
use Rattle.source_items.specs.Liveness.Livings.{Encloses, Stands, Turns, Selects, Sit}
use Rattle.source_items.proofs.liveness.Sitting.{Leads}
use Rattle.source_items.proofs.liveness.SittingConditions.{past_condition, condition_leads}
use Rattle.source_items.proofs.liveness.SittingStatements.{statements_keep, scoped_as, standing, statements_sit, scope_encloses, no_loop, Replaces, replacing, scope_replaces, block_replaces, all_stored_add, returned_leads}

module _ (u : UnitView) (f : FunctionView) (first : Bool) where
  -- ---- places in a body

  as_in_body : (items rest : List Item) → lives f first items ≡ lives f first rest → open_scopes items ≡ open_scopes rest → IsInBody f first rest → IsInBody f first items
  as_in_body items rest same opened here = subst (AreOpen (kept_objects f first) (lives f first items)) (sym opened) (subst (λ alive. AreOpen (kept_objects f first) alive (open_scopes rest)) (sym same) here)

  condition_keeps : (c : TermTree) (held failed rest : List Item) → lives f first (condition u true c held failed ++ rest) ≡ lives f first rest
  condition_keeps c held failed rest = past_condition (lives f first) (λ e items. refl) (λ at test held failed items. refl) (λ at none some items. refl) u true c held failed rest

  condition_in_body : (c : TermTree) (held failed rest : List Item) → IsInBody f first rest → IsInBody f first (condition u true c held failed ++ rest)
  condition_in_body c held failed rest here = as_in_body (condition u true c held failed ++ rest) rest (condition_keeps c held failed rest) (past_condition open_scopes (λ e items. refl) (λ at test held failed items. refl) (λ at none some items. refl) u true c held failed rest) here

  behind_condition : (c : TermTree) (held failed rest : List Item) → past_loop (condition u true c held failed ++ rest) ≡ past_loop rest
  behind_condition c held failed rest = past_condition past_loop (λ e items. refl) (λ at test held failed items. refl) (λ at none some items. refl) u true c held failed rest

  -- ---- turns of loops

  module _ (c : Option TermTree) (step : Option TermTree) (s : StatementTree) (rest : List Item) (turns : Turns f first c step s rest) where
    -- the body, with items before the end of the loop
    body_stands : (items : List Item) → lives f first items ≡ lives f first rest → Encloses f first true true items → Stands f first s items
    body_stands items same e = standing f first true true s items turns.jumps (scoped_as f first s (lives f first rest) (lives f first items) same turns.scoped) e

  pub while_leads : (c : TermTree) (s : StatementTree) (rest : List Item) → Turns f first (Some c) None s rest → Sit f first rest → Leads f first (while_iteration u c s) rest
  while_leads c s rest turns sit =
      let again : List Item = item.Hop ∷ (item.IterationEnd ∷ (item.WhileIteration c s ∷ [])) in
      let around : Encloses f first true true (again ++ rest) = record { here = turns.here; at_break = λ e. turns.at_break; at_continue = λ e. turns.here } in
      condition_leads u f first true c (item.Statement s ∷ again) [] rest turns.tested (refl, (body_stands (Some c) None s rest turns (again ++ rest) refl around, (tt, (tt, (turns, sit))))) (refl, sit)

  pub test_encloses : (c : TermTree) (s : StatementTree) (rest : List Item) → Turns f first (Some c) None s rest → Encloses f first true true (do_test u s c ++ rest)
  test_encloses c s rest turns =
      let again : IsInBody f first (condition u true c (item.DoIteration s c ∷ []) [] ++ rest) = condition_in_body c (item.DoIteration s c ∷ []) [] rest turns.here in
      record { here = again; at_break = λ e. subst (IsInBody f first) (sym (behind_condition c (item.DoIteration s c ∷ []) [] rest)) turns.at_break; at_continue = λ e. again }

  pub test_leads : (c : TermTree) (s : StatementTree) (rest : List Item) → Turns f first (Some c) None s rest → Sit f first rest → Leads f first (do_test u s c) rest
  test_leads c s rest turns sit = let test = condition_leads u f first true c (item.DoIteration s c ∷ []) [] rest turns.tested (refl, (turns, sit)) (refl, sit) in (test.0, (tt, test.1))

  pub do_leads : (c : TermTree) (s : StatementTree) (rest : List Item) → Turns f first (Some c) None s rest → Sit f first rest → Leads f first (do_iteration u s c) rest
  do_leads c s rest turns sit = let test : Leads f first (do_test u s c) rest = test_leads c s rest turns sit in (test.0, (body_stands (Some c) None s rest turns (do_test u s c ++ rest) test.0 (test_encloses c s rest turns), test.1))

  pub step_encloses : (c step : Option TermTree) (s : StatementTree) (rest : List Item) → Turns f first c step s rest → Encloses f first true true (for_step c step s ++ rest)
  step_encloses c None s rest turns = record { here = turns.here; at_break = λ e. turns.at_break; at_continue = λ e. turns.here }
  step_encloses c (Some x) s rest turns = record { here = turns.here; at_break = λ e. turns.at_break; at_continue = λ e. turns.here }

  pub step_leads : (c step : Option TermTree) (s : StatementTree) (rest : List Item) → Turns f first c step s rest → Sit f first rest → Leads f first (for_step c step s) rest
  step_leads c None s rest turns sit = (refl, (tt, (tt, (turns, sit))))
  step_leads c (Some x) s rest turns sit = (refl, (tt, (turns.stepped, (tt, (turns, sit)))))

  for_body_leads : (c step : Option TermTree) (s : StatementTree) (rest : List Item) → Turns f first c step s rest → Sit f first rest → Leads f first (for_body c step s) rest
  for_body_leads c step s rest turns sit = let behind : Leads f first (for_step c step s) rest = step_leads c step s rest turns sit in (behind.0, (body_stands c step s rest turns (for_step c step s ++ rest) behind.0 (step_encloses c step s rest turns), behind.1))

  pub for_leads : (c step : Option TermTree) (s : StatementTree) (rest : List Item) → Turns f first c step s rest → Sit f first rest → Leads f first (for_iteration u c step s) rest
  for_leads None step s rest turns sit = for_body_leads None step s rest turns sit
  for_leads (Some c) step s rest turns sit = condition_leads u f first true c (for_body (Some c) step s) [] rest turns.tested (for_body_leads (Some c) step s rest turns sit) (refl, sit)

  -- ---- loops in their scopes

  pub turning : (c step : Option TermTree) (s : StatementTree) (rest : List Item) → JumpsStand true true s → ScopedStatement f (lives f first rest) s → ScopedIf (lives f first rest) c → ScopedIf (lives f first rest) step → IsInBody f first rest → Turns f first c step s (item.LoopEnd ∷ rest)
  turning c step s rest jumps scoped tested stepped here = record { jumps = jumps; scoped = scoped; tested = tested; stepped = stepped; here = here; at_break = here }

  for_replaces : (breaks continues : Bool) (objects : List ℕ) (start : StatementTrees) (c step : Option TermTree) (s : StatementTree) (rest : List Item) → JumpsStand breaks continues (tree.For objects start c step s) → ScopedStatement f (lives f first rest) (tree.For objects start c step s) → Encloses f first breaks continues rest → Sit f first rest → Replaces f first (item.Enters objects ∷ ((statements start ++ (item.ForIteration c step s ∷ (item.LoopEnd ∷ (item.Leaves objects ∷ [])))) ++ rest)) rest
  for_replaces breaks continues objects start c step s rest jumps scoped e sit =
      let left : List Item = item.Leaves objects ∷ rest in
      let end : List Item = item.ForIteration c step s ∷ (item.LoopEnd ∷ left) in
      let around : Encloses f first breaks continues left = scope_encloses f first breaks continues objects rest scoped.0 e in
      let turns : Turns f first c step s (item.LoopEnd ∷ left) = turning c step s left jumps.1 scoped.4 scoped.2 scoped.3 around.here in
      let all : Sit f first (statements start ++ end) = statements_sit f first false false start end jumps.0 scoped.1 (no_loop f first end around.here) (turns, (tt, (scoped.0, sit))) in
      let same : (statements start ++ (item.ForIteration c step s ∷ (item.LoopEnd ∷ (item.Leaves objects ∷ [])))) ++ rest ≡ statements start ++ end = append_assoc (statements start) _ rest in
      subst (λ xs. Replaces f first (item.Enters objects ∷ xs) rest) (sym same) (scope_replaces f first objects (statements start ++ end) rest scoped.0 (statements_keep f first start end) all)

  -- ---- statements

  pub switch_encloses : (breaks continues : Bool) (rest : List Item) → Encloses f first breaks continues rest → Encloses f first true continues (item.LoopEnd ∷ rest)
  switch_encloses breaks continues rest e = record { here = e.here; at_break = λ _. e.here; at_continue = e.at_continue }

  pub hop_encloses : (breaks continues : Bool) (rest : List Item) → Encloses f first breaks continues rest → Encloses f first breaks continues (item.Hop ∷ rest)
  hop_encloses breaks continues rest e = record { here = e.here; at_break = e.at_break; at_continue = e.at_continue }

  selecting : (breaks continues : Bool) (s : StatementTree) (rest : List Item) → JumpsStand true continues s → ScopedStatement f (lives f first rest) s → Encloses f first breaks continues rest → Selects f first s (item.LoopEnd ∷ rest)
  selecting breaks continues s rest jumps scoped e = record { stands = standing f first true continues s (item.LoopEnd ∷ rest) jumps scoped (switch_encloses breaks continues rest e); lands = e.here; same = refl }

  return_leads : (at : Place) (e : Option TermTree) (rest : List Item) → ScopedReturn f (lives f first rest) e → IsInBody f first rest → Sit f first rest → Leads f first (returned first at e ++ item.LeaveFunction ∷ []) rest
  return_leads at e rest scoped here sit = subst (λ xs. (lives f first xs ≡ lives f first rest) × Sit f first xs) (sym (append_assoc (returned first at e) (item.LeaveFunction ∷ []) rest)) (returned_leads f first at e (item.LeaveFunction ∷ rest) scoped here (here, sit))

  replaces_by : (breaks continues : Bool) (i : StatementTree) (rest : List Item) → JumpsStand breaks continues i → ScopedStatement f (lives f first rest) i → Encloses f first breaks continues rest → Sit f first rest → Replaces f first (of_statement u first i ++ rest) rest
  replaces_by breaks continues (tree.Value e) rest jumps scoped enclosed sit = ((λ n. refl), (scoped, sit))
  replaces_by breaks continues tree.Nothing rest jumps scoped enclosed sit = ((λ n. refl), sit)
  replaces_by breaks continues (tree.Forget at local) rest jumps scoped enclosed sit = ((λ n. refl), (scoped, sit))
  replaces_by breaks continues (tree.Start at local e) rest jumps scoped enclosed sit = ((λ n. refl), (scoped.0, (scoped.1, (tt, (tt, sit)))))
  replaces_by breaks continues (tree.StartCopy at local l) rest jumps scoped enclosed sit = ((λ n. refl), (scoped.0, (scoped.1, (tt, (tt, sit)))))
  replaces_by breaks continues (tree.StartList at local stores) rest jumps scoped enclosed sit =
      let all = all_stored_add f first at local stores rest scoped sit in
      ((λ n. ap (λ alive. alive n) all.0), (ap (λ alive. alive local) all.0 ∙ scoped.0, all.1))
  replaces_by breaks continues (tree.Block objects items) rest jumps scoped enclosed sit = block_replaces f first breaks continues objects items rest jumps scoped.0 scoped.1 enclosed sit
  replaces_by breaks continues (tree.If c s) rest jumps scoped enclosed sit = replacing f first _ rest (condition_leads u f first true c (item.Statement s ∷ []) [] rest scoped.0 (refl, (standing f first breaks continues s rest jumps scoped.1 enclosed, sit)) (refl, sit))
  replaces_by breaks continues (tree.IfElse c one other) rest jumps scoped enclosed sit =
      let here = standing f first breaks continues one (item.Hop ∷ rest) jumps.0 scoped.1 (hop_encloses breaks continues rest enclosed) in
      let there = standing f first breaks continues other rest jumps.1 scoped.2 enclosed in
      replacing f first _ rest (condition_leads u f first true c (item.Statement one ∷ (item.Hop ∷ [])) (item.Statement other ∷ []) rest scoped.0 (refl, (here, (tt, sit))) (refl, (there, sit)))
  replaces_by breaks continues (tree.While c s) rest jumps scoped enclosed sit = ((λ n. refl), (turning (Some c) None s rest jumps scoped.1 scoped.0 tt enclosed.here, (tt, sit)))
  replaces_by breaks continues (tree.Do s c) rest jumps scoped enclosed sit = ((λ n. refl), (turning (Some c) None s rest jumps scoped.1 scoped.0 tt enclosed.here, (tt, sit)))
  replaces_by breaks continues (tree.For objects start c step s) rest jumps scoped enclosed sit = for_replaces breaks continues objects start c step s rest jumps scoped enclosed sit
  replaces_by breaks continues (tree.Switch at e labels has_default enumerators s) rest jumps scoped enclosed sit = ((λ n. refl), (scoped.0, (selecting breaks continues s rest jumps scoped.1 enclosed, (tt, sit))))
  replaces_by breaks continues (tree.Case n s) rest jumps scoped enclosed sit = ((λ n. refl), (standing f first breaks continues s rest jumps scoped enclosed, sit))
  replaces_by breaks continues (tree.Default s) rest jumps scoped enclosed sit = ((λ n. refl), (standing f first breaks continues s rest jumps scoped enclosed, sit))
  replaces_by breaks continues (tree.Label n s) rest jumps scoped enclosed sit = ((λ n. refl), (standing f first breaks continues s rest jumps scoped enclosed, sit))
  replaces_by breaks continues (tree.Goto n) rest jumps scoped enclosed sit = ((λ n. refl), (enclosed.here, sit))
  replaces_by breaks continues tree.Break rest jumps scoped enclosed sit = ((λ n. refl), ((enclosed.here, enclosed.at_break jumps), sit))
  replaces_by breaks continues tree.Continue rest jumps scoped enclosed sit = ((λ n. refl), ((enclosed.here, enclosed.at_continue jumps), sit))
  replaces_by breaks continues (tree.Return at e) rest jumps scoped enclosed sit = replacing f first _ rest (return_leads at e rest scoped enclosed.here sit)

  pub statement_replaces : (i : StatementTree) (rest : List Item) → Stands f first i rest → Sit f first rest → Replaces f first (of_statement u first i ++ rest) rest
  statement_replaces i rest stands sit = replaces_by stands.breaks stands.continues i rest stands.jumps stands.scoped stands.enclosed sit
