-- Typed switches keep to what is known: nothing is known at the labels of their cases.
use Rattle.std.proofs.Common.{◌≡◌, ◌≤◌, ◌<◌, inl, inr, ℕ, suc, ◌+◌, ◌-◌, ◌^◌, ℤ, Bool, true, false, cond, List, [], ◌∷◌, ◌++◌, map, length, get_or, Option, Some, None, refl, arith, ap, sym, subst, ◌∙◌}
use Rattle.cc_base.specs.declared.diagnostics.Place.{Place}
use Rattle.c_layout.specs.CheckedTrees as tree
use Rattle.c_layout.specs.CheckedTrees.{TermTree, StatementTree}
use Rattle.c_layout.specs.CheckedUnits.{FunctionView, UnitView}
use Rattle.c_layout.specs.declared.checked_tree.checked_statements.CaseLabel.{CaseLabel}
use Rattle.cfg.specs.declared.machine_instructions.Scalar.{Scalar}
use Rattle.cfg.specs.declared.machine_instructions.Scalar.TheVariants as scalar
use Rattle.lower_conditions.specs.Tests.{named}
use Rattle.lower_conditions.specs.declared.branch_tests.NamedObject.{NamedObject}
use Rattle.typed_lowering.specs.LoopedUnits.LoopedStatements.{is_looped_statement}
use Rattle.typed_programs.specs.PlainUnits.PlainTerms.{is_plain_term}
use Rattle.typed_programs.proofs.plain_templates.LeadingSwitches.{own_dispatch}
use Rattle.typed_programs.specs.PlainWorklists.LeadingPieces.{AllTo}
use Rattle.lower_functions.specs.Statements.ScopeJumps.{enters_between, leap}
use Rattle.lower_functions.specs.Statements.Switches.{no_dispatch, choice_at, mention_of, mention_if, switched_object, targeted, edge_target, case_landing, case_arms, case_exit, dispatch_exits, edge_block, edge_blocks, landing_of, other_landing, begin_switch, in_switch, switch}
use Rattle.lower_functions.specs.declared.statements.switch_statements.CaseArm.{CaseArm}
use Rattle.lower_templates.specs.Worklist.Pieces.{ExitView}
use Rattle.lower_templates.specs.Worklist.Works as jobs
use Rattle.lower_templates.specs.Worklist.Works.{behind}
use Rattle.lower_templates.specs.Worklist.Plans.{Plan, with_labels, with_dispatch, begun, name_of_object}
use Rattle.lower_templates.specs.Worklist.Settings.{SettingView}
use Rattle.lower_templates.specs.declared.worklist.template_builder.Dispatch.{Dispatch}
use Rattle.lower_templates.specs.declared.worklist.pending_works.Landing.{Landing}
use Rattle.lower_templates.specs.declared.worklist.pending_works.Surroundings.{Surroundings}
use Rattle.lower_preconditions.specs.Units.RegularStatements.{is_regular_switch, is_regular_named, is_regular_statement}
use Rattle.lower_preconditions.specs.Units.RegularTerms.{is_regular_term}
use Rattle.simulation_layout.proofs.function_checks.CountedLabels.{both_true}
use Rattle.typed_lowering.specs.Conversions.KnownValues.{nothing}
use Rattle.typed_lowering.specs.Conversions.TypedActs as typed
use Rattle.typed_lowering.specs.Conversions.TypedPieces.{State}
use Rattle.typed_lowering.specs.Conversions.TypedStatements.{is_typed_statement}
use Rattle.typed_lowering.specs.Conversions.TypedTerms.{is_typed_term}
use Rattle.typed_lowering.specs.Conversions.WorkLaws.{IsLookedAt}
use Rattle.typed_lowering.proofs.conversions.KeptKnowledge.{kept_same}
use Rattle.typed_lowering.proofs.templates.FollowingWorks.{Asks, Asked, Looks, Goes, Flowing, flowing_none, flowing_raised, flowing_normalized, flowing_name, flowing_labels, flowing_end, flowing_mark, flowing_value, flowing_statement, flowing_or}
use Rattle.typed_lowering.proofs.templates.FollowingParts.{flowing_leap}

-- ---- the edges of cases

-- edges that lead to such labels, as the blocks of the edges do
abbrev pub AreArms : (ℕ → Type 0) → List CaseArm → Type 0
AreArms A [] = Unit {0}
AreArms A (a ∷ arms) = (A a.to × A a.landing.label) × AreArms A arms

to_arms : (A : ℕ → Type 0) (arms : List CaseArm) (object : Option ℕ) → AreArms A arms → AllTo A (map (case_exit object) arms)
to_arms A [] object are = tt
to_arms A (a ∷ arms) object (one, are) = (one.0, to_arms A arms object are)

all_and : (A : ℕ → Type 0) (xs : List ExitView) (x : ExitView) → AllTo A xs → A x.to → AllTo A (xs ++ x ∷ [])
all_and A [] x all one = (one, tt)
all_and A (y ∷ xs) x (first, all) one = (first, all_and A xs x all one)

one_label : (p : Plan) → (with_labels 1 p).labels ≡ p.labels + 1
unfolding with_labels
one_label p = refl

le_more : (a b : ℕ) → b ≡ a + 1 → a ≤ b
le_more a b e = omega (arith, e)

same_le : (a : ℕ) → a ≤ a
same_le a = omega arith

through : (a b c : ℕ) → a ≤ b → b ≤ c → a ≤ c
through a b c x y = omega (arith, x, y)

less_last : (a b c : ℕ) → b ≡ a + 1 → b ≤ c → a < c
less_last a b c e le = omega (arith, e, le)

target_labels : (s : SettingView) (scope : ℕ) (to : Landing) (p : Plan) → p.labels ≤ (edge_target s scope to p).after.labels
target_labels s scope to p = by (enters_between s scope to.scope)
  where
    by : (b : Bool) → p.labels ≤ (cond b (targeted p.labels (with_labels 1 p)) (targeted to.label p)).after.labels
    by true = le_more p.labels (with_labels 1 p).labels (one_label p)
    by false = same_le p.labels

arms_labels : (s : SettingView) (scope label number : ℕ) (cs : List CaseLabel) (p : Plan) → p.labels ≤ (case_arms s scope label number cs p).after.labels
arms_labels s scope label number [] p = same_le p.labels
arms_labels s scope label number (c ∷ cs) p =
    let next = (edge_target s scope (case_landing s label number) p).after in
    through p.labels next.labels (case_arms s scope (behind label 1) (behind number 1) cs next).after.labels (target_labels s scope (case_landing s label number) p) (arms_labels s scope (behind label 1) (behind number 1) cs next)

next_behind : (first n label : ℕ) → label ≡ behind first n → behind label 1 ≡ behind first (suc n)
next_behind first n label e = omega (arith, e)

one_less : (n m : ℕ) → n < n + suc m
one_less n m = omega arith

more_less : (i n m : ℕ) → i < suc n + m → i < n + suc m
more_less i n m less = omega (arith, less)

module _ (K : Asks) (first last : ℕ) (s : SettingView) (scope : ℕ) where
  target_asked : (to : Landing) (p : Plan) → first ≤ p.labels → (edge_target s scope to p).after.labels ≤ last → Asked K first last to.label nothing → Asked K first last (edge_target s scope to p).to nothing
  target_asked to p from few asked = by (enters_between s scope to.scope) few
    where
      by : (b : Bool) → (cond b (targeted p.labels (with_labels 1 p)) (targeted to.label p)).after.labels ≤ last → Asked K first last (cond b (targeted p.labels (with_labels 1 p)) (targeted to.label p)).to nothing
      by true few = inr (from, less_last p.labels (with_labels 1 p).labels last (one_label p) few, refl)
      by false few = asked

  arms_asked : (start n label number : ℕ) (cs : List CaseLabel) (p : Plan) → label ≡ behind start n → ((i : ℕ) → i < n + length cs → Asked K first last (behind start i) nothing) → first ≤ p.labels → (case_arms s scope label number cs p).after.labels ≤ last
      → AreArms (λ l. Asked K first last l nothing) (case_arms s scope label number cs p).arms
  arms_asked start n label number [] p e all from few = tt
  arms_asked start n label number (c ∷ cs) p e all from few =
      let to = case_landing s label number in
      let next = (edge_target s scope to p).after in
      let here : Asked K first last label nothing = subst (λ l. Asked K first last l nothing) (sym e) (all n (one_less n (length cs))) in
      let room = through next.labels (case_arms s scope (behind label 1) (behind number 1) cs next).after.labels last (arms_labels s scope (behind label 1) (behind number 1) cs next) few in (
        (target_asked to p from room here, here),
        arms_asked start (suc n) (behind label 1) (behind number 1) cs next (next_behind start n label e) (λ i less. all i (more_less i n (length cs) less)) (through first p.labels next.labels from (target_labels s scope to p)) few,
      )

module _ {u : UnitView} {f : FunctionView} {calls : ℕ → Bool} {s : SettingView} {ds : List Dispatch} {used : Bool} {K : Asks} {first top : ℕ} where
  flowing_block : {low : ℕ} {from : State} (scope to : ℕ) (landing : Landing) (p : Plan) → ((last : ℕ) → low ≤ last → Asked K first last to nothing) → ((last : ℕ) → low ≤ last → Asked K first last landing.label nothing) → Flowing u f calls s ds used K first top low from (Some nothing) p
      → Flowing u f calls s ds used K first top low from (Some nothing) (edge_block s scope to landing p)
  flowing_block scope to landing p asked landed k = flowing_or (enters_between s scope landing.scope) (leap s scope landing (begun to p)) p (flowing_leap scope landing (begun to p) landed (flowing_mark to p asked k)) k

  flowing_blocks : {low : ℕ} {from : State} (scope : ℕ) (arms : List CaseArm) (p : Plan) → ((last : ℕ) → low ≤ last → AreArms (λ l. Asked K first last l nothing) arms) → Flowing u f calls s ds used K first top low from (Some nothing) p
      → Flowing u f calls s ds used K first top low from (Some nothing) (edge_blocks s scope arms p)
  flowing_blocks scope [] p are k = k
  flowing_blocks scope (a ∷ arms) p are k = flowing_blocks scope arms (edge_block s scope a.to a.landing p) (λ last few. (are last few).1) (flowing_block scope a.to a.landing p (λ last few. (are last few).0.0) (λ last few. (are last few).0.1) k)

  -- ---- parts that plan nothing

  flowing_mention_of : {low : ℕ} {from to : State} (o : NamedObject) (kind : Scalar) (p : Plan) → Flowing u f calls s ds used K first top low from to p → Flowing u f calls s ds used K first top low from to (mention_of o kind p).after
  flowing_mention_of o (scalar.Int kind) p k = flowing_name (name_of_object o.object) p k
  flowing_mention_of o scalar.Pointer p k = k

  flowing_mention : {low : ℕ} {from to : State} (o : Option NamedObject) (p : Plan) → Flowing u f calls s ds used K first top low from to p → Flowing u f calls s ds used K first top low from to (mention_if o p).after
  flowing_mention None p k = k
  flowing_mention (Some o) p k = flowing_mention_of o o.kind p k

  flowing_target : {low : ℕ} {from to : State} (scope : ℕ) (landing : Landing) (p : Plan) → Flowing u f calls s ds used K first top low from to p → Flowing u f calls s ds used K first top low from to (edge_target s scope landing p).after
  flowing_target {low = low} {from = from} {to = to} scope landing p k = by (enters_between s scope landing.scope)
    where
      by : (b : Bool) → Flowing u f calls s ds used K first top low from to (cond b (targeted p.labels (with_labels 1 p)) (targeted landing.label p)).after
      by true = flowing_raised low (with_labels 1 p) (through low p.labels (with_labels 1 p).labels k.room (le_more p.labels (with_labels 1 p).labels (one_label p))) (flowing_labels 1 p k)
      by false = k

  flowing_arms : {low : ℕ} {from to : State} (scope label number : ℕ) (cs : List CaseLabel) (p : Plan) → Flowing u f calls s ds used K first top low from to p → Flowing u f calls s ds used K first top low from to (case_arms s scope label number cs p).after
  flowing_arms scope label number [] p k = k
  flowing_arms scope label number (c ∷ cs) p k = flowing_arms scope (behind label 1) (behind number 1) cs (edge_target s scope (case_landing s label number) p).after (flowing_target scope (case_landing s label number) p k)

-- ---- what a switch gives away

begins_choice : (count scope : ℕ) (p : Plan) → (begin_switch count scope p).begun.choice ≡ length p.dispatches
unfolding with_labels
begins_choice count scope p = refl

begins_cases : (count scope : ℕ) (p : Plan) → (begin_switch count scope p).begun.dispatch.cases ≡ p.labels
begins_cases count scope p = refl

begins_fallback : (count scope : ℕ) (p : Plan) → (begin_switch count scope p).begun.dispatch.fallback ≡ p.labels + count
unfolding with_labels
begins_fallback count scope p = refl

begins_end : (count scope : ℕ) (p : Plan) → (begin_switch count scope p).begun.after.label ≡ (p.labels + count) + 1
unfolding with_labels with_dispatch
begins_end count scope p = refl

begins_labels : (count scope : ℕ) (p : Plan) → (begin_switch count scope p).after.labels ≡ ((p.labels + count) + 1) + 1
unfolding with_labels with_dispatch
begins_labels count scope p = refl

begins_jobs : (count scope : ℕ) (p : Plan) → (begin_switch count scope p).after.jobs ≡ p.jobs
unfolding with_labels with_dispatch
begins_jobs count scope p = refl

-- labels of the cases, of the default and of the end
case_below : (a n i b last : ℕ) → b ≡ ((a + n) + 1) + 1 → b ≤ last → i < n → a + i < last
case_below a n i b last e le less = omega (arith, e, le, less)

case_from : (a i : ℕ) → a ≤ a + i
case_from a i = omega arith

case_is : (a n i b : ℕ) → b ≡ ((a + n) + 1) + 1 → b ≤ 2 ^ 32 - 1 → i < n → behind a i ≡ a + i
case_is a n i b e few less = omega (arith, e, few, less)

fallback_below : (a n b last : ℕ) → b ≡ ((a + n) + 1) + 1 → b ≤ last → a + n < last
fallback_below a n b last e le = omega (arith, e, le)

end_below : (a n b last : ℕ) → b ≡ ((a + n) + 1) + 1 → b ≤ last → (a + n) + 1 < last
end_below a n b last e le = omega (arith, e, le)

end_from : (a n : ℕ) → a ≤ (a + n) + 1
end_from a n = omega arith

first_behind : (a n b : ℕ) → b ≡ ((a + n) + 1) + 1 → b ≤ 2 ^ 32 - 1 → a ≡ behind a 0
first_behind a n b e few = omega (arith, e, few)

begun_from : (a n b : ℕ) → b ≡ ((a + n) + 1) + 1 → a ≤ b
begun_from a n b e = omega (arith, e)

none_before : (i n : ℕ) → i < 0 + n → i < n
none_before i n less = omega (arith, less)

landed : (A : ℕ → Type 0) (o : Option ℕ) (d : Dispatch) (after : Landing) → A d.fallback → A after.label → A (landing_of o d after).label
landed A None d after fallback end = end
landed A (Some scope) d after fallback end = fallback

-- ---- a switch

module _ (u : UnitView) (f : FunctionView) (calls : ℕ → Bool) (s : SettingView) (ds : List Dispatch) (used : Bool) (K : Asks) (top b : ℕ) (at : Place) (e : TermTree) (cases : List CaseLabel) (has_default : Bool) (values : Option (List ℤ)) (body : StatementTree) (around : Surroundings) (p : Plan) where
  abbrev whole : StatementTree
  whole = tree.Switch at e cases has_default values body

  body_looks : (count : ℕ) (chosen : Bool) → Looks u f calls count chosen whole → IsLookedAt u f calls (jobs.Value e 0) × Looks u f calls (length cases) true body
  body_looks count chosen g =
      let x = both_true (is_typed_term u f e) (is_typed_statement u f body) g.typed in
      let y = both_true (is_plain_term calls e) (is_looped_statement calls body) g.looped in
      let z = both_true (is_regular_switch u f e) (is_regular_statement u f true g.loops body) g.regular in
      let r = both_true (is_regular_named u f (named e)) (is_regular_term u f true 0 e) z.0 in
      ((x.0, y.0, r.1), record { typed = x.1; looped = y.1; breaks = true; loops = g.loops; regular = z.1; numbered = g.numbered })

  pub flowing_switch : p.jobs ≡ [] → (begin_switch (length cases) around.scope p).after.labels ≤ 2 ^ 32 - 1 → get_or ds (length p.dispatches) no_dispatch ≡ own_dispatch (length cases) p → length p.dispatches < top → Goes u f calls s ds K b whole around
      → Flowing u f calls s ds used K p.labels top p.labels (Some nothing) (Some nothing) (switch s at e cases body around p)
  flowing_switch none few known up g =
      let n = length cases in
      let g_looks = body_looks g.count g.chosen g.looks in
      let d = begin_switch n around.scope p in
      let labels = begins_labels n around.scope p in
      let number = (choice_at s d.begun.choice).first in
      let landing = other_landing (choice_at s d.begun.choice) d.begun.dispatch d.begun.after in
      let a = case_arms s around.scope d.begun.dispatch.cases number cases d.after in
      let other = edge_target s around.scope landing a.after in
      let found = switched_object e other.after in
      let low = other.after.labels in
      let grown : d.after.labels ≤ a.after.labels = arms_labels s around.scope d.begun.dispatch.cases number cases d.after in
      let grown_other : a.after.labels ≤ low = target_labels s around.scope landing a.after in
      let all : (last : ℕ) → low ≤ last → d.after.labels ≤ last = λ last le. through d.after.labels low last (through d.after.labels a.after.labels low grown grown_other) le in
      let A = λ (last l : ℕ). Asked K p.labels last l nothing in
      let case_there : (last : ℕ) → low ≤ last → (i : ℕ) → i < n → A last (behind p.labels i) = λ last le i less. subst (A last) (sym (case_is p.labels n i d.after.labels labels few less)) (inr (case_from p.labels i, case_below p.labels n i d.after.labels last labels (all last le) less, refl)) in
      let fallback_there : (last : ℕ) → low ≤ last → A last (p.labels + n) = λ last le. inr (case_from p.labels n, fallback_below p.labels n d.after.labels last labels (all last le), refl) in
      let end_there : (last : ℕ) → low ≤ last → A last d.begun.after.label = λ last le. subst (A last) (sym (begins_end n around.scope p)) (inr (end_from p.labels n, end_below p.labels n d.after.labels last labels (all last le), refl)) in
      let lands : (last : ℕ) → low ≤ last → A last landing.label = λ last le. landed (A last) (choice_at s d.begun.choice).fallback d.begun.dispatch d.begun.after (subst (A last) (sym (begins_fallback n around.scope p)) (fallback_there last le)) (end_there last le) in
      let first_from : p.labels ≤ d.after.labels = begun_from p.labels n d.after.labels labels in
      let arms : (last : ℕ) → low ≤ last → AreArms (A last) a.arms = λ last le. arms_asked K p.labels last s around.scope p.labels 0 d.begun.dispatch.cases number cases d.after (begins_cases n around.scope p ∙ first_behind p.labels n d.after.labels labels few)
      (λ i less. case_there last le i (none_before i n less)) first_from (through a.after.labels low last grown_other le) in
      let to_other : (last : ℕ) → low ≤ last → A last other.to = λ last le. target_asked K p.labels last s around.scope landing a.after (through p.labels d.after.labels a.after.labels first_from grown) le (lands last le) in
      let exits : (last : ℕ) → low ≤ last → AllTo (A last) (dispatch_exits a.arms cases found.base other.to) = λ last le. all_and (A last) (map (case_exit found.base) a.arms) _ (to_arms (A last) a.arms found.base (arms last le)) (to_other last le) in
      let own : get_or ds d.begun.choice no_dispatch ≡ own_dispatch n p = ap (λ c. get_or ds c no_dispatch) (begins_choice n around.scope p) ∙ known in
      let inside : (last : ℕ) → low ≤ last → Goes u f calls s ds (Asked K p.labels last) top body (in_switch around d.begun) = λ last le.
      record {
        count = n;
        chosen = true;
        looks = g_looks.1;
        within = record {
          own = λ l less. inl (g.within.own l less);
          end = inl g.within.end;
          broken = end_there last le;
          continued = inl g.within.continued;
          begun = λ is. subst (λ c. c < top) (sym (begins_choice n around.scope p)) up;
          cases = λ i less. subst (λ (x : Dispatch). A last (behind x.cases i)) (sym own) (case_there last le i less);
          fallback = λ is. subst (λ (x : Dispatch). A last x.fallback) (sym own) (fallback_there last le);
        };
      } in
      let start : Flowing u f calls s ds used K p.labels top d.after.labels (Some nothing) (Some nothing) d.after = flowing_none (Some nothing) d.after (begins_jobs n around.scope p ∙ none) in
      let sent : Flowing u f calls s ds used K p.labels top low (Some nothing) (Some nothing) other.after = flowing_raised low other.after (same_le low) (flowing_target around.scope landing a.after (flowing_arms around.scope d.begun.dispatch.cases number cases d.after start)) in
      let valued = flowing_normalized _ (flowing_value e 0 found.after g_looks.0 (flowing_mention (named e) other.after sent)) in
      let led = flowing_normalized _ (flowing_end _ (dispatch_exits a.arms cases found.base other.to) _ (λ names. typed.switches 0 _ (kept_same nothing)) exits valued) in
      let blocks = flowing_block around.scope other.to landing _ to_other lands (flowing_blocks around.scope a.arms _ arms led) in
      let done = flowing_mark d.begun.after.label _ end_there (flowing_statement body (in_switch around d.begun) _ inside blocks) in
      flowing_raised p.labels _ (through p.labels low _ (through p.labels d.after.labels low first_from (through d.after.labels a.after.labels low grown grown_other)) done.room) done
