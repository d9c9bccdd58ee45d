-- Typed blocks and selections keep to what is known: nothing is known before and behind them.
use Rattle.std.proofs.Common.{◌≤◌, ◌<◌, inl, inr, ℕ, ◌+◌, Bool, true, ◌&&◌, List, Some, refl, arith}
use Rattle.c_layout.specs.CheckedTrees as tree
use Rattle.c_layout.specs.CheckedTrees.{TermTree, StatementTree, StatementTrees}
use Rattle.c_layout.specs.CheckedUnits.{FunctionView, UnitView}
use Rattle.typed_programs.specs.PlainUnits.PlainTerms.{is_plain_term}
use Rattle.typed_lowering.specs.LoopedUnits.LoopedStatements.{is_looped_statement, are_looped_statements}
use Rattle.typed_programs.proofs.plain_templates.LeadingStatements.{list}
use Rattle.lower_functions.specs.Statements.ScopeJumps.{all_entered}
use Rattle.lower_functions.specs.Statements.PlainStatements.{all_statements, in_scope, block}
use Rattle.lower_functions.specs.Statements.Loops.{selection, two_way_selection, part}
use Rattle.lower_templates.specs.Worklist.Works as jobs
use Rattle.lower_templates.specs.Worklist.Plans.{Plan, with_work, with_scope, with_labels, begun}
use Rattle.lower_templates.specs.Worklist.Settings.{SettingView}
use Rattle.lower_templates.specs.declared.worklist.template_builder.Dispatch.{Dispatch}
use Rattle.lower_templates.specs.declared.worklist.pending_works.Surroundings.{Surroundings}
use Rattle.lower_preconditions.specs.Units.RegularStatements.{is_regular_statement, are_regular_statements}
use Rattle.lower_preconditions.specs.Units.RegularTerms.{is_regular_term}
use Rattle.simulation_layout.proofs.function_checks.CountedLabels.{both_true}
use Rattle.typed_lowering.specs.Conversions.KnownValues.{nothing}
use Rattle.typed_lowering.specs.Conversions.TypedPieces.{State}
use Rattle.typed_lowering.specs.Conversions.TypedStatements.{is_typed_statement, are_typed_statements}
use Rattle.typed_lowering.specs.Conversions.TypedTerms.{is_typed_term}
use Rattle.typed_lowering.specs.Conversions.WorkLaws.{IsLookedAt}
use Rattle.typed_lowering.proofs.templates.FollowingWorks.{Asks, Asked, Looks, IsAround, around_more, Goes, Flowing, flowing_raised, flowing_labels, flowing_scope, flowing_mark, flowing_condition, flowing_statement}
use Rattle.typed_lowering.proofs.templates.FollowingParts.{flowing_entered, flowing_left, flowing_jump}

-- ---- looks at parts

module _ {u : UnitView} {f : FunctionView} {calls : ℕ → Bool} {count : ℕ} {chosen : Bool} where
  pub first_looks : (first : StatementTree) (rest : StatementTrees) → Looks u f calls count chosen (list (tree.And first rest)) → Looks u f calls count chosen first
  first_looks first rest x = record {
    typed = (both_true (is_typed_statement u f first) (are_typed_statements u f rest) x.typed).0;
    looped = (both_true (is_looped_statement calls first) (are_looped_statements calls rest) x.looped).0;
    breaks = x.breaks;
    loops = x.loops;
    regular = (both_true (is_regular_statement u f x.breaks x.loops first) (are_regular_statements u f x.breaks x.loops rest) x.regular).0;
    numbered = x.numbered.0;
  }

  pub rest_looks : (first : StatementTree) (rest : StatementTrees) → Looks u f calls count chosen (list (tree.And first rest)) → Looks u f calls count chosen (list rest)
  rest_looks first rest x = record {
    typed = (both_true (is_typed_statement u f first) (are_typed_statements u f rest) x.typed).1;
    looped = (both_true (is_looped_statement calls first) (are_looped_statements calls rest) x.looped).1;
    breaks = x.breaks;
    loops = x.loops;
    regular = (both_true (is_regular_statement u f x.breaks x.loops first) (are_regular_statements u f x.breaks x.loops rest) x.regular).1;
    numbered = x.numbered.1;
  }

  -- a condition is looked at, and so is the statement behind it
  if_looks : (e : TermTree) (body : StatementTree) → Looks u f calls count chosen (tree.If e body) → IsLookedAt u f calls (jobs.Value e 0) × Looks u f calls count chosen body
  if_looks e body x =
      let a = both_true (is_typed_term u f e) (is_typed_statement u f body) x.typed in
      let b = both_true (is_plain_term calls e) (is_looped_statement calls body) x.looped in
      let c = both_true (is_regular_term u f true 0 e) (is_regular_statement u f x.breaks x.loops body) x.regular in
      ((a.0, b.0, c.0), record { typed = a.1; looped = b.1; breaks = x.breaks; loops = x.loops; regular = c.1; numbered = x.numbered })

  else_looks : (e : TermTree) (first second : StatementTree) → Looks u f calls count chosen (tree.IfElse e first second) → IsLookedAt u f calls (jobs.Value e 0) × Looks u f calls count chosen first × Looks u f calls count chosen second
  else_looks e first second x =
      let a = both_true (is_typed_term u f e) (is_typed_statement u f first && is_typed_statement u f second) x.typed in
      let a2 = both_true (is_typed_statement u f first) (is_typed_statement u f second) a.1 in
      let b = both_true (is_plain_term calls e) (is_looped_statement calls first && is_looped_statement calls second) x.looped in
      let b2 = both_true (is_looped_statement calls first) (is_looped_statement calls second) b.1 in
      let c = both_true (is_regular_term u f true 0 e) (is_regular_statement u f x.breaks x.loops first && is_regular_statement u f x.breaks x.loops second) x.regular in
      let c2 = both_true (is_regular_statement u f x.breaks x.loops first) (is_regular_statement u f x.breaks x.loops second) c.1 in (
        (a.0, b.0, c.0),
        record { typed = a2.0; looped = b2.0; breaks = x.breaks; loops = x.loops; regular = c2.0; numbered = x.numbered.0 },
        record { typed = a2.1; looped = b2.1; breaks = x.breaks; loops = x.loops; regular = c2.1; numbered = x.numbered.1 },
      )

-- ---- new labels

new_from : (a i : ℕ) → a ≤ a + i
new_from a i = omega arith

new_below : (a n i last : ℕ) → a + n ≤ last → i < n → a + i < last
new_below a n i last le less = omega (arith, le, less)

this_below : (a n last : ℕ) → a + n ≤ last → 0 < n → a < last
this_below a n last le less = omega (arith, le, less)

same_le : (a : ℕ) → a ≤ a
same_le a = omega arith

pub none_three : 0 < 3
none_three = omega arith

pub one_three : 1 < 3
one_three = omega arith

pub two_three : 2 < 3
two_three = omega arith

none_four : 0 < 4
none_four = omega arith

one_four : 1 < 4
one_four = omega arith

two_four : 2 < 4
two_four = omega arith

three_four : 3 < 4
three_four = omega arith

pub new_label : (K : Asks) (a n i last : ℕ) → i < n → a + n ≤ last → Asked K a last (a + i) nothing
new_label K a n i last less le = inr (new_from a i, new_below a n i last le less, refl)

pub this_label : (K : Asks) (a n last : ℕ) → 0 < n → a + n ≤ last → Asked K a last a nothing
this_label K a n last less le = inr (same_le a, this_below a n last le less, refl)

module _ {u : UnitView} {f : FunctionView} {calls : ℕ → Bool} {s : SettingView} {ds : List Dispatch} {used : Bool} {K : Asks} {first top : ℕ} where
  pub flowing_statements : {low count : ℕ} {chosen : Bool} {from : State} (items : StatementTrees) (around : Surroundings) (p : Plan) → Looks u f calls count chosen (list items) → ((last : ℕ) → low ≤ last → IsAround f s ds (Asked K first last) top count chosen around.on_break.label around.on_continue.label around.choice)
      → Flowing u f calls s ds used K first top low from (Some nothing) p → Flowing u f calls s ds used K first top low from (Some nothing) (all_statements items around p)
  flowing_statements tree.NoMore around p looks within k = k
  flowing_statements {count = count} {chosen = chosen} (tree.And i rest) around p looks within k =
      flowing_statements rest around (with_work (jobs.Statement i around) p) (rest_looks i rest looks) within
      (flowing_statement i around p (λ last few. record { count = count; chosen = chosen; looks = first_looks i rest looks; within = within last few }) k)

-- ---- statements by their form

module _ (u : UnitView) (f : FunctionView) (calls : ℕ → Bool) (s : SettingView) (ds : List Dispatch) (used : Bool) (K : Asks) (top b : ℕ) (up : b ≤ top) (around : Surroundings) (p : Plan) where
  abbrev pub Comes : Plan → Type 0
  Comes q = Flowing u f calls s ds used K p.labels top p.labels (Some nothing) (Some nothing) q

  -- where a part may lead to
  pub part_within : {count : ℕ} {chosen : Bool} (last : ℕ) → IsAround f s ds K b count chosen around.on_break.label around.on_continue.label around.choice → IsAround f s ds (Asked K p.labels last) top count chosen around.on_break.label around.on_continue.label around.choice
  part_within last x = around_more (λ l k is. inl is) up x

  part_goes : {count : ℕ} {chosen : Bool} (body : StatementTree) (last : ℕ) → Looks u f calls count chosen body → IsAround f s ds K b count chosen around.on_break.label around.on_continue.label around.choice → Goes u f calls s ds (Asked K p.labels last) top body around
  part_goes {count = count} {chosen = chosen} body last looks x = record { count = count; chosen = chosen; looks = looks; within = part_within last x }

  pub comes_block : {count : ℕ} {chosen : Bool} (xs : List ℕ) (items : StatementTrees) → Looks u f calls count chosen (tree.Block xs items) → IsAround f s ds K b count chosen around.on_break.label around.on_continue.label around.choice → Comes p → Comes (block s xs items around p)
  comes_block xs items g x k = flowing_left s.at xs _ (flowing_statements items (in_scope around p.scopes) (all_entered s.at xs (with_scope p))
      (record { typed = g.typed; looped = g.looped; breaks = g.breaks; loops = g.loops; regular = g.regular; numbered = g.numbered }) (λ last few. part_within last x) (flowing_entered s.at xs (with_scope p) (flowing_scope p k)))

  pub comes_labelled : {count : ℕ} {chosen : Bool} (label : ℕ) (body : StatementTree) → K label nothing → Looks u f calls count chosen body → IsAround f s ds K b count chosen around.on_break.label around.on_continue.label around.choice → Comes p → Comes (part label body around p)
  comes_labelled label body asked looks x k = flowing_statement body around (begun label p) (λ last few. part_goes body last looks x) (flowing_mark label p (λ last few. inl asked) k)

  pub labels_from : (q : Plan) (n : ℕ) → Flowing u f calls s ds used K p.labels top (p.labels + n) (Some nothing) (Some nothing) q → Comes q
  labels_from q n k = flowing_raised p.labels q (less p.labels n q.labels k.room) k
    where
      less : (a n c : ℕ) → a + n ≤ c → a ≤ c
      less a n c le = omega (arith, le)

  pub comes_if : {count : ℕ} {chosen : Bool} (e : TermTree) (body : StatementTree) → Looks u f calls count chosen (tree.If e body) → IsAround f s ds K b count chosen around.on_break.label around.on_continue.label around.choice → Comes p → Comes (selection e body around p)
  comes_if e body g x k =
      let y = if_looks e body g in
      let marked = flowing_mark p.labels (with_labels 3 p) (λ last few. this_label K p.labels 3 last none_three few) (flowing_labels 3 p k) in
      let tested = flowing_condition e _ _ y.0 (λ last few. new_label K p.labels 3 1 last one_three few) (λ last few. new_label K p.labels 3 2 last two_three few) marked in
      let body_marked = flowing_mark (p.labels + 1) _ (λ last few. new_label K p.labels 3 1 last one_three few) tested in
      let done = flowing_statement body around _ (λ last few. part_goes body last y.1 x) body_marked in
      labels_from _ 3 (flowing_mark (p.labels + 2) _ (λ last few. new_label K p.labels 3 2 last two_three few) done)

  pub comes_else : {count : ℕ} {chosen : Bool} (e : TermTree) (one other : StatementTree) → Looks u f calls count chosen (tree.IfElse e one other) → IsAround f s ds K b count chosen around.on_break.label around.on_continue.label around.choice → Comes p → Comes (two_way_selection s e one other around p)
  comes_else e one other g x k =
      let y = else_looks e one other g in
      let marked = flowing_mark p.labels (with_labels 4 p) (λ last few. this_label K p.labels 4 last none_four few) (flowing_labels 4 p k) in
      let tested = flowing_condition e _ _ y.0 (λ last few. new_label K p.labels 4 1 last one_four few) (λ last few. new_label K p.labels 4 2 last two_four few) marked in
      let first_marked = flowing_mark (p.labels + 1) _ (λ last few. new_label K p.labels 4 1 last one_four few) tested in
      let first_done = flowing_statement one around _ (λ last few. part_goes one last y.1 x) first_marked in
      let led = flowing_jump s.at (p.labels + 3) _ (λ last few. new_label K p.labels 4 3 last three_four few) first_done in
      let second_marked = flowing_mark (p.labels + 2) _ (λ last few. new_label K p.labels 4 2 last two_four few) led in
      let done = flowing_statement other around _ (λ last few. part_goes other last y.2 x) second_marked in
      labels_from _ 4 (flowing_mark (p.labels + 3) _ (λ last few. new_label K p.labels 4 3 last three_four few) done)
