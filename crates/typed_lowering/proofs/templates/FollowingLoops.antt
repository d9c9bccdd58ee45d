-- Typed loops keep to what is known: nothing is known at their labels, so edges may lead back.
use Rattle.std.proofs.Common.{◌≡◌, ◌≤◌, ◌<◌, inl, ℕ, ◌+◌, Bool, true, false, ◌&&◌, List, Option, Some, None, refl, arith, sym, subst}
use Rattle.cc_base.specs.declared.diagnostics.Place.{Place}
use Rattle.c_layout.specs.CheckedTrees as tree
use Rattle.c_layout.specs.CheckedTrees.{TermTree, StatementTree, StatementTrees}
use Rattle.c_layout.specs.CheckedUnits.{FunctionView, UnitView}
use Rattle.typed_programs.specs.PlainUnits.PlainTerms.{is_plain_term, is_plain_option}
use Rattle.typed_lowering.specs.LoopedUnits.LoopedStatements.{is_looped_statement, are_looped_statements}
use Rattle.typed_programs.proofs.plain_templates.LeadingStatements.{list}
use Rattle.lower_functions.specs.Statements.PlainStatements.{in_scope}
use Rattle.lower_functions.specs.Statements.Loops.{in_loop, while_loop, do_loop, check, unused, step, for_from, for_loop}
use Rattle.lower_templates.specs.Worklist.Works as jobs
use Rattle.lower_templates.specs.Worklist.Plans.{Plan, with_scope, with_labels, begun}
use Rattle.lower_templates.specs.Worklist.Settings.{SettingView}
use Rattle.lower_templates.specs.declared.worklist.template_builder.Dispatch.{Dispatch}
use Rattle.lower_templates.specs.declared.worklist.pending_works.Surroundings.{Surroundings}
use Rattle.lower_preconditions.specs.Units.RegularStatements.{is_regular_clause, are_regular_clauses, are_plain, is_regular_statement, are_regular_statements}
use Rattle.lower_preconditions.specs.Units.RegularTerms.{is_regular_term}
use Rattle.simulation_layout.proofs.function_checks.CountedLabels.{both_true}
use Rattle.typed_lowering.specs.Conversions.KnownValues.{nothing}
use Rattle.typed_lowering.specs.Conversions.TypedPieces.{State}
use Rattle.typed_lowering.specs.Conversions.TypedStatements.{is_typed_clause, is_typed_statement, are_typed_statements}
use Rattle.typed_lowering.specs.Conversions.TypedTerms.{is_typed_term}
use Rattle.typed_lowering.specs.Conversions.WorkLaws.{IsLookedAt}
use Rattle.typed_lowering.proofs.templates.FollowingWorks.{Asks, Asked, Looks, IsAround, around_more, Goes, Flowing, flowing_normalized, flowing_labels, flowing_scope, flowing_mark, flowing_unused, flowing_condition, flowing_statement}
use Rattle.typed_lowering.proofs.templates.FollowingParts.{flowing_entered, flowing_left, flowing_jump}
use Rattle.typed_lowering.proofs.templates.FollowingSelections.{new_label, this_label, none_three, one_three, two_three, flowing_statements, part_within, labels_from}

-- ---- looks at parts

-- a clause of a `for` that is left out or passes the looks
record IsClause (u : UnitView) (f : FunctionView) (calls : ℕ → Bool) (used : Bool) (e : Option TermTree) : Type 0 where
  typed : is_typed_clause u f e ≡ true
  plain : is_plain_option calls e ≡ true
  regular : is_regular_clause u f used e ≡ true

module _ {u : UnitView} {f : FunctionView} {calls : ℕ → Bool} {count : ℕ} {chosen : Bool} where
  while_looks : (e : TermTree) (body : StatementTree) → Looks u f calls count chosen (tree.While e body) → IsLookedAt u f calls (jobs.Value e 0) × Looks u f calls count chosen body
  while_looks e body x =
      let a = both_true (is_typed_term u f e) (is_typed_statement u f body) x.typed in
      let b = both_true (is_plain_term calls e) (is_looped_statement calls body) x.looped in
      let c = both_true (is_regular_term u f true 0 e) (is_regular_statement u f true true body) x.regular in
      ((a.0, b.0, c.0), record { typed = a.1; looped = b.1; breaks = true; loops = true; regular = c.1; numbered = x.numbered })

  do_looks : (body : StatementTree) (e : TermTree) → Looks u f calls count chosen (tree.Do body e) → IsLookedAt u f calls (jobs.Value e 0) × Looks u f calls count chosen body
  do_looks body e x = while_looks e body (record { typed = x.typed; looped = x.looped; breaks = x.breaks; loops = x.loops; regular = x.regular; numbered = x.numbered })

  for_looks : (xs : List ℕ) (items : StatementTrees) (test after : Option TermTree) (body : StatementTree) → Looks u f calls count chosen (tree.For xs items test after body)
      → Looks u f calls count chosen (list items) × IsClause u f calls true test × IsClause u f calls false after × Looks u f calls count chosen body
  for_looks xs items test after body x =
      let a = both_true (are_typed_statements u f items) ((is_typed_clause u f test && is_typed_clause u f after) && is_typed_statement u f body) x.typed in
      let a2 = both_true (is_typed_clause u f test && is_typed_clause u f after) (is_typed_statement u f body) a.1 in
      let a3 = both_true (is_typed_clause u f test) (is_typed_clause u f after) a2.0 in
      let b = both_true (are_looped_statements calls items) ((is_plain_option calls test && is_plain_option calls after) && is_looped_statement calls body) x.looped in
      let b2 = both_true (is_plain_option calls test && is_plain_option calls after) (is_looped_statement calls body) b.1 in
      let b3 = both_true (is_plain_option calls test) (is_plain_option calls after) b2.0 in
      let c = both_true (are_plain items && (are_regular_statements u f false false items && are_regular_clauses u f test after)) (is_regular_statement u f true true body) x.regular in
      let c2 = both_true (are_plain items) (are_regular_statements u f false false items && are_regular_clauses u f test after) c.0 in
      let c3 = both_true (are_regular_statements u f false false items) (are_regular_clauses u f test after) c2.1 in
      let c4 = both_true (is_regular_clause u f true test) (is_regular_clause u f false after) c3.1 in (
        record { typed = a.0; looped = b.0; breaks = false; loops = false; regular = c3.0; numbered = x.numbered.0 },
        record { typed = a3.0; plain = b3.0; regular = c4.0 },
        record { typed = a3.1; plain = b3.1; regular = c4.1 },
        record { typed = a2.1; looped = b2.1; breaks = true; loops = true; regular = c.1; numbered = x.numbered.1 },
      )

-- ---- clauses

module _ {u : UnitView} {f : FunctionView} {calls : ℕ → Bool} {s : SettingView} {ds : List Dispatch} {used : Bool} {K : Asks} {first top : ℕ} where
  flowing_check : {low : ℕ} {from : State} (label : ℕ) (e : Option TermTree) (to_yes to_no : ℕ) (p : Plan) → IsClause u f calls true e → ((last : ℕ) → low ≤ last → Asked K first last label nothing) → ((last : ℕ) → low ≤ last → Asked K first last to_yes nothing) → ((last : ℕ) → low ≤ last → Asked K first last to_no nothing)
      → Flowing u f calls s ds used K first top low from (Some nothing) p → Flowing u f calls s ds used K first top low from (Some nothing) (check label e to_yes to_no p)
  flowing_check label None to_yes to_no p is asked asked_yes asked_no k = flowing_mark label p asked k
  flowing_check label (Some e) to_yes to_no p is asked asked_yes asked_no k = flowing_condition e (record { targets = record { yes = to_yes; no = to_no }; depth = 0; is_test = true }) (begun label p) (is.typed, is.plain, is.regular) asked_yes asked_no (flowing_mark label p asked k)

  flowing_clause : {low : ℕ} {from : State} (e : Option TermTree) (p : Plan) → IsClause u f calls false e → Flowing u f calls s ds used K first top low from (Some nothing) p → Flowing u f calls s ds used K first top low from (Some nothing) (unused e p)
  flowing_clause None p is k = k
  flowing_clause (Some e) p is k = flowing_normalized _ (flowing_unused e 0 p (is.typed, is.plain, is.regular) k)

  flowing_step : {low : ℕ} {from : State} (at : Place) (label : ℕ) (e : Option TermTree) (back : ℕ) (p : Plan) → IsClause u f calls false e → ((last : ℕ) → low ≤ last → Asked K first last label nothing) → ((last : ℕ) → low ≤ last → Asked K first last back nothing)
      → Flowing u f calls s ds used K first top low from (Some nothing) p → Flowing u f calls s ds used K first top low from (Some nothing) (step at label e back p)
  flowing_step at label e back p is asked asked_back k = flowing_jump at back (unused e (begun label p)) asked_back (flowing_clause e (begun label p) is (flowing_mark label p asked k))

-- ---- loops

none_five : 0 < 5
none_five = omega arith

one_five : 1 < 5
one_five = omega arith

two_five : 2 < 5
two_five = omega arith

three_five : 3 < 5
three_five = omega arith

four_five : 4 < 5
four_five = omega arith

scope_labels : (p : Plan) → (with_scope p).labels ≡ p.labels
unfolding with_scope
scope_labels p = refl

module _ (u : UnitView) (f : FunctionView) (calls : ℕ → Bool) (s : SettingView) (ds : List Dispatch) (used : Bool) (K : Asks) (top b : ℕ) (up : b ≤ top) (around : Surroundings) (p : Plan) where
  abbrev Comes : Plan → Type 0
  Comes q = Flowing u f calls s ds used K p.labels top p.labels (Some nothing) (Some nothing) q

  -- `break` and `continue` lead to new labels
  loop_goes : {count : ℕ} {chosen : Bool} (inside : Surroundings) (on_break on_continue : ℕ) (body : StatementTree) (last : ℕ) → Asked K p.labels last on_break nothing → Asked K p.labels last on_continue nothing → Looks u f calls count chosen body
      → IsAround f s ds K b count chosen inside.on_break.label inside.on_continue.label inside.choice → Goes u f calls s ds (Asked K p.labels last) top body (in_loop inside on_break on_continue)
  loop_goes {count = count} {chosen = chosen} inside on_break on_continue body last broken continued looks x =
      let y : IsAround f s ds (Asked K p.labels last) top count chosen inside.on_break.label inside.on_continue.label inside.choice = around_more (λ l k is. inl is) up x in
      record { count = count; chosen = chosen; looks = looks; within = record { own = y.own; end = y.end; broken = broken; continued = continued; begun = y.begun; cases = y.cases; fallback = y.fallback } }

  pub comes_while : {count : ℕ} {chosen : Bool} (e : TermTree) (body : StatementTree) → Looks u f calls count chosen (tree.While e body) → IsAround f s ds K b count chosen around.on_break.label around.on_continue.label around.choice → Comes p → Comes (while_loop s e body around p)
  comes_while e body g x k =
      let y = while_looks e body g in
      let marked = flowing_mark p.labels (with_labels 3 p) (λ last few. this_label K p.labels 3 last none_three few) (flowing_labels 3 p k) in
      let tested = flowing_condition e _ _ y.0 (λ last few. new_label K p.labels 3 1 last one_three few) (λ last few. new_label K p.labels 3 2 last two_three few) marked in
      let body_marked = flowing_mark (p.labels + 1) _ (λ last few. new_label K p.labels 3 1 last one_three few) tested in
      let done = flowing_statement body (in_loop around (p.labels + 2) p.labels) _ (λ last few. loop_goes around (p.labels + 2) p.labels body last (new_label K p.labels 3 2 last two_three few) (this_label K p.labels 3 last none_three few) y.1 x) body_marked in
      let back = flowing_jump s.at p.labels _ (λ last few. this_label K p.labels 3 last none_three few) done in
      labels_from u f calls s ds used K top b up around p _ 3 (flowing_mark (p.labels + 2) _ (λ last few. new_label K p.labels 3 2 last two_three few) back)

  pub comes_do : {count : ℕ} {chosen : Bool} (body : StatementTree) (e : TermTree) → Looks u f calls count chosen (tree.Do body e) → IsAround f s ds K b count chosen around.on_break.label around.on_continue.label around.choice → Comes p → Comes (do_loop body e around p)
  comes_do body e g x k =
      let y = do_looks body e g in
      let marked = flowing_mark p.labels (with_labels 3 p) (λ last few. this_label K p.labels 3 last none_three few) (flowing_labels 3 p k) in
      let done = flowing_statement body (in_loop around (p.labels + 2) (p.labels + 1)) _ (λ last few. loop_goes around (p.labels + 2) (p.labels + 1) body last (new_label K p.labels 3 2 last two_three few) (new_label K p.labels 3 1 last one_three few) y.1 x) marked in
      let test_marked = flowing_mark (p.labels + 1) _ (λ last few. new_label K p.labels 3 1 last one_three few) done in
      let tested = flowing_condition e _ _ y.0 (λ last few. this_label K p.labels 3 last none_three few) (λ last few. new_label K p.labels 3 2 last two_three few) test_marked in
      labels_from u f calls s ds used K top b up around p _ 3 (flowing_mark (p.labels + 2) _ (λ last few. new_label K p.labels 3 2 last two_three few) tested)

  comes_turns : {count : ℕ} {chosen : Bool} (xs : List ℕ) (items : StatementTrees) (test after : Option TermTree) (body : StatementTree) (q : Plan) → Looks u f calls count chosen (tree.For xs items test after body) → IsAround f s ds K b count chosen around.on_break.label around.on_continue.label around.choice
      → Comes q → Comes (for_from s p.labels xs items test after body (in_scope around p.scopes) q)
  comes_turns xs items test after body q g x k =
      let y = for_looks xs items test after body g in
      let inside = in_scope around p.scopes in
      let marked = flowing_mark p.labels (with_labels 5 q) (λ last few. this_label K p.labels 5 last none_five few) (flowing_labels 5 q k) in
      let begins = flowing_statements items inside _ y.0 (λ last few. part_within u f calls s ds used K top b up around p last x) (flowing_entered s.at xs _ marked) in
      let tested = flowing_check (p.labels + 1) test (p.labels + 2) (p.labels + 4) _ y.1 (λ last few. new_label K p.labels 5 1 last one_five few) (λ last few. new_label K p.labels 5 2 last two_five few) (λ last few. new_label K p.labels 5 4 last four_five few) begins in
      let body_marked = flowing_mark (p.labels + 2) _ (λ last few. new_label K p.labels 5 2 last two_five few) tested in
      let done = flowing_statement body (in_loop inside (p.labels + 4) (p.labels + 3)) _ (λ last few. loop_goes inside (p.labels + 4) (p.labels + 3) body last (new_label K p.labels 5 4 last four_five few) (new_label K p.labels 5 3 last three_five few) y.3 x) body_marked in
      let back = flowing_step s.at (p.labels + 3) after (p.labels + 1) _ y.2 (λ last few. new_label K p.labels 5 3 last three_five few) (λ last few. new_label K p.labels 5 1 last one_five few) done in
      flowing_left s.at xs _ (labels_from u f calls s ds used K top b up around p _ 5 (flowing_mark (p.labels + 4) _ (λ last few. new_label K p.labels 5 4 last four_five few) back))

  pub comes_for : {count : ℕ} {chosen : Bool} (xs : List ℕ) (items : StatementTrees) (test after : Option TermTree) (body : StatementTree) → Looks u f calls count chosen (tree.For xs items test after body) → IsAround f s ds K b count chosen around.on_break.label around.on_continue.label around.choice
      → Comes p → Comes (for_loop s xs items test after body around p)
  comes_for xs items test after body g x k = subst (λ n. Comes (for_from s n xs items test after body (in_scope around p.scopes) (with_scope p))) (sym (scope_labels p)) (comes_turns xs items test after body (with_scope p) g x (flowing_scope p k))
