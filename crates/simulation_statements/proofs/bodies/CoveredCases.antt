-- A template has no fewer labels than its function has case labels: each switch gets labels for all of its cases.
use Rattle.std.proofs.Common.{◌≡◌, ◌≤◌, ℕ, ℤ, ◌+◌, ◌-◌, ◌^◌, Bool, List, [], ◌∷◌, ◌++◌, length, replicate, Option, Some, None, slice_get, refl, arith, ap, sym, subst, ◌∙◌, length-append}
use Rattle.std.proofs.lemmas.List.{length-set, length-replicate}
use Rattle.cc_base.specs.declared.diagnostics.Place.{Place}
use Rattle.c_layout.specs.CheckedTrees as tree
use Rattle.c_layout.specs.CheckedTrees.{TermTree, StatementTree, StatementTrees, statement_trees}
use Rattle.c_layout.specs.CheckedUnits.{FunctionView}
use Rattle.c_layout.specs.declared.checked_tree.checked_statements.CaseLabel.{CaseLabel}
use Rattle.lower_templates.specs.Worklist.Acts as act
use Rattle.lower_templates.specs.Worklist.Pieces.{PieceView, Mark}
use Rattle.lower_templates.specs.Worklist.Plans.{Plan}
use Rattle.lower_templates.specs.Worklist.Scopes.{TreeView, with_new_scope, with_choice, with_case, with_default, with_label, scoped, all_scoped, no_scopes, case_place, case_noted, function_scopes}
use Rattle.lower_templates.specs.Worklist.Settings.{SettingView}
use Rattle.lower_templates.specs.Worklist.Works as jobs
use Rattle.lower_templates.specs.Worklist.Works.{Job, behind}
use Rattle.lower_templates.specs.declared.worklist.pending_works.Surroundings.{Surroundings}
use Rattle.lower_templates.specs.declared.worklist.scope_trees.Choice.{Choice}
use Rattle.lower_functions.specs.Functions.Turns.{planless}
use Rattle.lower_template_theorems.proofs.growth.Growth.{grows_on}
use Rattle.lower_template_theorems.proofs.growth.GrowingWorks.{grows_parts, jobs_none}
use Rattle.lower_functions.specs.Statements.Loops.{part}
use Rattle.lower_functions.specs.Statements.PlainStatements.{in_scope}
use Rattle.lower_functions.specs.Statements.Switches as lowered
use Rattle.lower_functions.specs.Statements.Switches.{dispatch_at, in_switch}
use Rattle.lower_template_theorems.specs.Worklists.Derivations.{parts, Makes, nothing, piece, work}
use Rattle.simulation_terms.proofs.terms.Choices.{two_way_jobs}
use Rattle.simulation_terms.proofs.scopes.Objects.{object_jobs, locals}
use Rattle.simulation_statements.proofs.statements.Sequences.{statement_jobs}
use Rattle.simulation_statements.proofs.statements.Selections.{block_planned, if_jobs, if_planned, else_planned}
use Rattle.simulation_statements.proofs.statements.Loops.{while_jobs, while_planned, do_jobs, do_planned}
use Rattle.simulation_statements.proofs.statements.ForLoops.{for_planned, turn_jobs}
use Rattle.simulation_statements.proofs.statements.Labelled.{labelled_jobs, labelled_planned}
use Rattle.simulation_statements.proofs.dispatches.SwitchPlans.{after_of, begun_of, started, begins, dispatched, switch_plan, start_grows, whole_grows, whole_jobs}

-- how many case labels a statement has, in all of its switches
abbrev mutual
  pub labels_of : StatementTree → ℕ
  labels_of (tree.Block objects items) = all_labels_of items
  labels_of (tree.If e body) = labels_of body
  labels_of (tree.IfElse e first second) = labels_of first + labels_of second
  labels_of (tree.While e body) = labels_of body
  labels_of (tree.Do body e) = labels_of body
  labels_of (tree.For objects first e step body) = all_labels_of first + labels_of body
  labels_of (tree.Switch at e labels has_default values body) = length labels + labels_of body
  labels_of (tree.Case n body) = labels_of body
  labels_of (tree.Default body) = labels_of body
  labels_of (tree.Label n body) = labels_of body
  labels_of other = 0

  pub all_labels_of : StatementTrees → ℕ
  all_labels_of tree.NoMore = 0
  all_labels_of (tree.And first rest) = labels_of first + all_labels_of rest

-- ---- in the tree of scopes

case_length : (o : Option Choice) (n k : ℕ) (cases : List ℕ) → length (case_noted o n k cases) ≡ length cases
case_length None n k cases = refl
case_length (Some c) n k cases = length-set cases (case_place c n) k

scope_cases : (k : ℕ) (objects : List ℕ) (t : TreeView) → length (with_new_scope k objects t).cases ≡ length t.cases
unfolding with_new_scope
scope_cases k objects t = refl

label_cases : (n k : ℕ) (t : TreeView) → length (with_label n k t).cases ≡ length t.cases
unfolding with_label
label_cases n k t = refl

default_cases : (c k : ℕ) (t : TreeView) → length (with_default c k t).cases ≡ length t.cases
unfolding with_default
default_cases c k t = refl

case_cases : (c n k : ℕ) (t : TreeView) → length (with_case c n k t).cases ≡ length t.cases
unfolding with_case
case_cases c n k t = case_length (slice_get t.choices c) n k t.cases

choice_cases : (count : ℕ) (t : TreeView) → length (with_choice count t).cases ≡ length t.cases + count
unfolding with_choice
choice_cases count t = length-append t.cases (replicate count 0) ∙ ap (λ k. length t.cases + k) (length-replicate count 0)

zero_plus : (a : ℕ) → a ≡ 0 + a
zero_plus a = omega arith

plus_zero : (a : ℕ) → a ≡ a + 0
plus_zero a = omega arith

in_turn : (c a b : ℕ) → (c + a) + b ≡ c + (a + b)
in_turn c a b = omega arith

mutual
  many : (i : StatementTree) (k c : ℕ) (t : TreeView) → length (scoped i k c t).cases ≡ length t.cases + labels_of i
  many (tree.Block objects items) k c t = all_many items (length t.scopes) c (with_new_scope k objects t) ∙ ap (λ m. m + all_labels_of items) (scope_cases k objects t)
  many (tree.If e body) k c t = many body k c t
  many (tree.IfElse e first second) k c t = many second k c (scoped first k c t) ∙ ap (λ m. m + labels_of second) (many first k c t) ∙ in_turn (length t.cases) (labels_of first) (labels_of second)
  many (tree.While e body) k c t = many body k c t
  many (tree.Do body e) k c t = many body k c t
  many (tree.For objects first e step body) k c t =
      let o = with_new_scope k objects t in
      many body (length t.scopes) c (all_scoped first (length t.scopes) c o) ∙ ap (λ m. m + labels_of body) (all_many first (length t.scopes) c o ∙ ap (λ m. m + all_labels_of first) (scope_cases k objects t)) ∙ in_turn (length t.cases) (all_labels_of first) (labels_of body)
  many (tree.Switch at e labels has_default values body) k c t = many body k (length t.choices) (with_choice (length labels) t) ∙ ap (λ m. m + labels_of body) (choice_cases (length labels) t) ∙ in_turn (length t.cases) (length labels) (labels_of body)
  many (tree.Case n body) k c t = many body k c (with_case c n k t) ∙ ap (λ m. m + labels_of body) (case_cases c n k t)
  many (tree.Default body) k c t = many body k c (with_default c k t) ∙ ap (λ m. m + labels_of body) (default_cases c k t)
  many (tree.Label n body) k c t = many body k c (with_label n k t) ∙ ap (λ m. m + labels_of body) (label_cases n k t)
  many other k c t = plus_zero (length t.cases)

  all_many : (items : StatementTrees) (k c : ℕ) (t : TreeView) → length (all_scoped items k c t).cases ≡ length t.cases + all_labels_of items
  all_many tree.NoMore k c t = plus_zero (length t.cases)
  all_many (tree.And first rest) k c t = all_many rest k c (scoped first k c t) ∙ ap (λ m. m + all_labels_of rest) (many first k c t) ∙ in_turn (length t.cases) (labels_of first) (all_labels_of rest)

pub cases_are : (f : FunctionView) → length (function_scopes f).cases ≡ all_labels_of (statement_trees f.body)
cases_are f =
    let start = no_scopes f.labels in
    let outer = with_new_scope 0 [] start in
    all_many (statement_trees f.body) 1 0 (with_new_scope 0 f.scope outer) ∙ ap (λ m. m + all_labels_of (statement_trees f.body)) (scope_cases 0 f.scope outer ∙ scope_cases 0 [] start) ∙ sym (zero_plus (all_labels_of (statement_trees f.body)))

-- ---- in works

abbrev pub labels_in_job : Job → ℕ
labels_in_job (jobs.Statement i around) = labels_of i
labels_in_job other = 0

abbrev pub labels_in_jobs : List Job → ℕ
labels_in_jobs [] = 0
labels_in_jobs (jobs.Statement i around ∷ js) = labels_of i + labels_in_jobs js
labels_in_jobs (j ∷ js) = labels_in_jobs js

one_and : (j : Job) (js : List Job) → labels_in_jobs (j ∷ js) ≡ labels_in_job j + labels_in_jobs js
one_and (jobs.Statement i around) js = refl
one_and other js = zero_plus (labels_in_jobs js)

jobs_on : (js ks : List Job) → labels_in_jobs (js ++ ks) ≡ labels_in_jobs js + labels_in_jobs ks
jobs_on [] ks = zero_plus (labels_in_jobs ks)
jobs_on (j ∷ js) ks =
    one_and j (js ++ ks) ∙ ap (λ m. labels_in_job j + m) (jobs_on js ks) ∙ sym (in_turn (labels_in_job j) (labels_in_jobs js) (labels_in_jobs ks)) ∙ ap (λ m. m + labels_in_jobs ks) (sym (one_and j js))

pub listed_labels : (items : StatementTrees) (around : Surroundings) → labels_in_jobs (statement_jobs items around) ≡ all_labels_of items
listed_labels tree.NoMore around = refl
listed_labels (tree.And first rest) around = ap (λ m. labels_of first + m) (listed_labels rest around)

-- ---- numbers

none_needed : (a b c : ℕ) → a ≤ b → a + 0 ≤ b + c
none_needed a b c le = omega (arith, le)

so_many : (a b x y z : ℕ) → a ≤ b → x ≡ y → z ≤ y → a + z ≤ b + x
so_many a b x y z le e more = omega (arith, le, e, more)

with_none : (a : ℕ) → a ≤ a + 0
with_none a = omega arith

both_none : (a b : ℕ) → a + b ≤ a + (b + 0)
both_none a b = omega arith

in_middle : (whole xs ys zs a : ℕ) → whole ≡ xs + (ys + zs) → a ≡ ys → a ≤ whole
in_middle whole xs ys zs a e f = omega (arith, e, f)

at_head : (a b c : ℕ) → b ≡ a + c → a ≤ b
at_head a b c e = omega (arith, e)

on_top : (x a b : ℕ) → a ≤ b → a ≤ x + b
on_top x a b le = omega (arith, le)

both_parts : (a b x y : ℕ) → a ≤ x → b ≤ y → a + b ≤ x + y
both_parts a b x y le also = omega (arith, le, also)

through : (a b c : ℕ) → a ≤ b → b ≤ c → a ≤ c
through a b c x y = omega (arith, x, y)

itself : (a : ℕ) → a ≤ a
itself a = omega arith

in_switch_labels : (a count b c whole part : ℕ) → ((a + count) + 1) + 1 ≤ b → whole ≡ c + part → a + (count + part) ≤ b + whole
in_switch_labels a count b c whole part le e = omega (arith, le, e)

module _ (s : SettingView) where
  -- works behind others
  pub middle_labels : (xs ys zs : List Job) (a : ℕ) → a ≡ labels_in_jobs ys → a ≤ labels_in_jobs (xs ++ (ys ++ zs))
  middle_labels xs ys zs a e = in_middle _ (labels_in_jobs xs) (labels_in_jobs ys) (labels_in_jobs zs) a (jobs_on xs (ys ++ zs) ∙ ap (λ m. labels_in_jobs xs + m) (jobs_on ys zs)) e

  turn_labels : (at : Place) (test after : Option TermTree) (body : StatementTree) (inside : Surroundings) (l : ℕ) → labels_of body ≤ labels_in_jobs (turn_jobs at test after body inside l)
  unfolding turn_jobs
  turn_labels at None after body inside l = at_head (labels_of body) _ _ refl
  turn_labels at (Some e) after body inside l = at_head (labels_of body) _ _ refl

  -- the parts of a statement have its labels still to come, or have given them away
  abbrev Covered : StatementTree → Type 0
  Covered i = (around : Surroundings) (p : Plan) → p.jobs ≡ [] → p.labels + labels_of i ≤ (parts s (jobs.Statement i around) p).labels + labels_in_jobs (parts s (jobs.Statement i around) p).jobs

  by_jobs : (i : StatementTree) (around : Surroundings) (p : Plan) (js : List Job) → (parts s (jobs.Statement i around) p).jobs ≡ js → labels_of i ≤ labels_in_jobs js → p.labels + labels_of i ≤ (parts s (jobs.Statement i around) p).labels + labels_in_jobs (parts s (jobs.Statement i around) p).jobs
  by_jobs i around p js e le = so_many p.labels _ _ (labels_in_jobs js) (labels_of i) (grows_parts s (jobs.Statement i around) p).labels (ap labels_in_jobs e) le

  nothing_in : (i : StatementTree) (around : Surroundings) (p : Plan) → p.labels + 0 ≤ (parts s (jobs.Statement i around) p).labels + labels_in_jobs (parts s (jobs.Statement i around) p).jobs
  nothing_in i around p = none_needed p.labels _ _ (grows_parts s (jobs.Statement i around) p).labels

  if_labels : (e : TermTree) (body : StatementTree) (around : Surroundings) (l : ℕ) → labels_of body ≤ labels_in_jobs (if_jobs e body around l)
  unfolding if_jobs
  if_labels e body around l = with_none (labels_of body)

  while_labels : (e : TermTree) (body : StatementTree) (around : Surroundings) (l : ℕ) → labels_of body ≤ labels_in_jobs (while_jobs s.at e body around l)
  unfolding while_jobs
  while_labels e body around l = with_none (labels_of body)

  do_labels : (e : TermTree) (body : StatementTree) (around : Surroundings) (l : ℕ) → labels_of body ≤ labels_in_jobs (do_jobs e body around l)
  unfolding do_jobs
  do_labels e body around l = with_none (labels_of body)

  switch_covered : (at : Place) (e : TermTree) (cases : List CaseLabel) (has_default : Bool) (values : Option (List ℤ)) (body : StatementTree) → Covered (tree.Switch at e cases has_default values body)
  switch_covered at e cases has_default values body around p none =
      let from = around.scope in
      let all = switch_plan s at e cases from p body around in
      let d = dispatched s at e cases from p in
      let le = (grows_on (started (length cases) p) d all (start_grows s at e cases from p) (whole_grows s at e cases from p body around)).labels in
      let js : List Job = jobs.Statement body (in_switch around (begun_of (length cases) from p)) ∷ (jobs.Ready (Mark (after_of (length cases) p)) ∷ []) in
      let is = ap labels_in_jobs (whole_jobs s at e cases from p body around) ∙ jobs_on d.jobs js ∙ ap (λ m. labels_in_jobs d.jobs + m) (sym (plus_zero (labels_of body))) in
      subst (λ (q : Plan). p.labels + (length cases + labels_of body) ≤ q.labels + labels_in_jobs q.jobs) (sym (ap (λ b. lowered.switch_behind s at e cases body around b) (begins (length cases) from p)))
      (in_switch_labels p.labels (length cases) all.labels (labels_in_jobs d.jobs) (labels_in_jobs all.jobs) (labels_of body) le is)

  labelled_covered : (i body : StatementTree) (around : Surroundings) (p : Plan) (l : ℕ) → parts s (jobs.Statement i around) p ≡ part l body around p → labels_of i ≡ labels_of body → p.jobs ≡ [] → p.labels + labels_of i ≤ (parts s (jobs.Statement i around) p).labels + labels_in_jobs (parts s (jobs.Statement i around) p).jobs
  labelled_covered i body around p l same labels none = by_jobs i around p (labelled_jobs l body around) (ap (λ (q : Plan). q.jobs) same ∙ labelled_planned l body around p none) (subst (λ m. m ≤ labels_of body + 0) (sym labels) (with_none (labels_of body)))

  covered : (i : StatementTree) → Covered i
  covered (tree.Value e) around p none = nothing_in (tree.Value e) around p
  covered tree.Nothing around p none = nothing_in tree.Nothing around p
  covered (tree.Forget at local) around p none = nothing_in (tree.Forget at local) around p
  covered (tree.Start at local e) around p none = nothing_in (tree.Start at local e) around p
  covered (tree.StartCopy at local l) around p none = nothing_in (tree.StartCopy at local l) around p
  covered (tree.StartList at local stores) around p none = nothing_in (tree.StartList at local stores) around p
  covered (tree.Block objects items) around p none =
      let inside = in_scope around p.scopes in
      let enters = object_jobs act.Enter s.at objects (length p.names) in
      let outs = object_jobs act.Leave s.at objects (length (p.names ++ locals objects)) in
      by_jobs (tree.Block objects items) around p (enters ++ (statement_jobs items inside ++ outs)) (block_planned s.at objects items inside p none).jobs (middle_labels enters (statement_jobs items inside) outs (all_labels_of items) (sym (listed_labels items inside)))
  covered (tree.If e body) around p none = by_jobs (tree.If e body) around p (if_jobs e body around p.labels) (if_planned e body around p none) (if_labels e body around p.labels)
  covered (tree.IfElse e first second) around p none = by_jobs (tree.IfElse e first second) around p (two_way_jobs s.at e (jobs.Statement first around) (jobs.Statement second around) 0 p.labels) (else_planned s e first second around p none) (both_none (labels_of first) (labels_of second))
  covered (tree.While e body) around p none = by_jobs (tree.While e body) around p (while_jobs s.at e body around p.labels) (while_planned s e body around p none) (while_labels e body around p.labels)
  covered (tree.Do body e) around p none = by_jobs (tree.Do body e) around p (do_jobs e body around p.labels) (do_planned e body around p none) (do_labels e body around p.labels)
  covered (tree.For objects first test after body) around p none =
      let inside = in_scope around p.scopes in
      let enters = object_jobs act.Enter s.at objects (length p.names) in
      let outs = object_jobs act.Leave s.at objects (length (p.names ++ locals objects)) in
      let turns = turn_jobs s.at test after body inside p.labels in
      let js = statement_jobs first inside in
      let x = for_planned s objects first test after body around p none in
      by_jobs (tree.For objects first test after body) around p (jobs.Ready (Mark p.labels) ∷ (enters ++ ((js ++ turns) ++ outs))) x.jobs
      (through (all_labels_of first + labels_of body) (labels_in_jobs (js ++ turns)) _ (subst (λ m. all_labels_of first + labels_of body ≤ m) (sym (jobs_on js turns)) (subst (λ m. m + labels_of body ≤ labels_in_jobs js + labels_in_jobs turns) (listed_labels first inside) (both_parts (labels_in_jobs js) (labels_of body) (labels_in_jobs js) (labels_in_jobs turns) (itself (labels_in_jobs js)) (turn_labels s.at test after body inside p.labels))))
      (middle_labels enters (js ++ turns) outs (labels_in_jobs (js ++ turns)) refl))
  covered (tree.Switch at e cases has_default values body) around p none = switch_covered at e cases has_default values body around p none
  covered (tree.Case k body) around p none = labelled_covered (tree.Case k body) body around p (behind (dispatch_at p around.choice).cases k) refl refl none
  covered (tree.Default body) around p none = labelled_covered (tree.Default body) body around p (dispatch_at p around.choice).fallback refl refl none
  covered (tree.Label k body) around p none = labelled_covered (tree.Label k body) body around p k refl refl none
  covered (tree.Goto k) around p none = nothing_in (tree.Goto k) around p
  covered tree.Break around p none = nothing_in tree.Break around p
  covered tree.Continue around p none = nothing_in tree.Continue around p
  covered (tree.Return at e) around p none = nothing_in (tree.Return at e) around p

  job_covered : (j : Job) (p : Plan) → p.jobs ≡ [] → p.labels + labels_in_job j ≤ (parts s j p).labels + labels_in_jobs (parts s j p).jobs
  job_covered (jobs.Value e d) p none = none_needed p.labels _ _ (grows_parts s (jobs.Value e d) p).labels
  job_covered (jobs.Unused e d) p none = none_needed p.labels _ _ (grows_parts s (jobs.Unused e d) p).labels
  job_covered (jobs.Address l d) p none = none_needed p.labels _ _ (grows_parts s (jobs.Address l d) p).labels
  job_covered (jobs.Condition e x) p none = none_needed p.labels _ _ (grows_parts s (jobs.Condition e x) p).labels
  job_covered (jobs.Statement i around) p none = covered i around p none
  job_covered (jobs.Ready q) p none = none_needed p.labels _ _ (grows_parts s (jobs.Ready q) p).labels

  no_labels : (a : ℕ) → a + 0 ≤ a
  no_labels a = omega arith

  on_made : (a x y b c d : ℕ) → a + x ≤ b → b ≤ c → c + y ≤ d → a + (x + y) ≤ d
  on_made a x y b c d le more last = omega (arith, le, more, last)

  -- works give away as many labels as their switches have cases
  pub all_covered : (p : Plan) (js : List Job) (ps : List PieceView) (r : Plan) → p.jobs ≡ [] → Makes s p js ps r → p.labels + labels_in_jobs js ≤ r.labels
  all_covered p _ _ r none (nothing _) = no_labels p.labels
  all_covered p _ _ r none (piece _ q js qs _ m) = all_covered p js qs r none m
  all_covered p _ _ r none (work _ j js ps q qs _ other m k) =
      let all = parts s j p in
      subst (λ m. p.labels + m ≤ r.labels) (sym (one_and j js)) (on_made p.labels (labels_in_job j) (labels_in_jobs js) (all.labels + labels_in_jobs all.jobs) q.labels r.labels (job_covered j p none) (all_covered (planless all) all.jobs ps q refl m) (all_covered q js qs r (jobs_none s (planless all) all.jobs ps q m refl) k))

fewer : (a b c d whole : ℕ) → whole ≡ a → a ≤ b → c + b ≤ d → d ≤ 2 ^ 32 - 1 → whole ≤ 2 ^ 32 - 1
fewer a b c d whole e le more few = omega (arith, e, le, more, few)

-- so a function whose statements are among works that give away few labels has few case labels
pub few_cases : (s : SettingView) (f : FunctionView) (around : Surroundings) (p : Plan) → p.jobs ≡ [] → (xs zs : List Job) (ps : List PieceView) (r : Plan) → Makes s p (xs ++ (statement_jobs (statement_trees f.body) around ++ zs)) ps r → r.labels ≤ 2 ^ 32 - 1 → length (function_scopes f).cases ≤ 2 ^ 32 - 1
few_cases s f around p none xs zs ps r m few =
    let trees = statement_trees f.body in
    let js = statement_jobs trees around in
    fewer (all_labels_of trees) (labels_in_jobs (xs ++ (js ++ zs))) p.labels r.labels (length (function_scopes f).cases) (cases_are f) (middle_labels s xs js zs (all_labels_of trees) (sym (listed_labels trees around))) (all_covered s p (xs ++ (js ++ zs)) ps r none m) few
