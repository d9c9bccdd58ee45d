-- Typed statements keep to what is known: nothing is known before and behind them.
use Rattle.std.proofs.Common.{◌≡◌, ◌≤◌, ◌<◌, inl, ℕ, ◌+◌, ◌-◌, ◌^◌, Bool, true, List, [], ◌∷◌, ◌++◌, length, get_or, Some, arith, ap, sym, subst, ◌∙◌, length-append}
use Rattle.std.specs.List.{list_all}
use Rattle.std.proofs.lemmas.Bool.{ltb-true}
use Rattle.cc_base.specs.declared.diagnostics.Place.{Place}
use Rattle.c_layout.specs.CheckedTrees as tree
use Rattle.c_layout.specs.CheckedTrees.{TermTree, StatementTree}
use Rattle.c_layout.specs.CheckedUnits.{FunctionView, UnitView}
use Rattle.c_layout.specs.declared.checked_tree.checked_statements.CaseLabel.{CaseLabel}
use Rattle.lower_functions.specs.Functions.Functions.{local_type}
use Rattle.lower_template_theorems.specs.Growth.Growth.{Grows}
use Rattle.lower_template_theorems.proofs.growth.Growth.{grows_not, grows_work}
use Rattle.lower_template_theorems.proofs.growth.GrowingStatements.{grows_dispatch_of, grows_statement}
use Rattle.typed_programs.proofs.plain_templates.LeadingForms.{Within, within_before}
use Rattle.typed_programs.proofs.plain_templates.LeadingSwitches.{own_dispatch, begins_dispatches, own_there}
use Rattle.lower_functions.specs.Statements.Switches.{no_dispatch, dispatch_at, begin_switch, switch}
use Rattle.lower_functions.specs.Statements.Statements.{statement}
use Rattle.lower_templates.specs.Worklist.Works.{behind}
use Rattle.lower_templates.specs.Worklist.Plans.{Plan}
use Rattle.lower_templates.specs.Worklist.Settings.{SettingView}
use Rattle.lower_templates.specs.declared.worklist.template_builder.Dispatch.{Dispatch}
use Rattle.lower_templates.specs.declared.worklist.pending_works.Surroundings.{Surroundings}
use Rattle.lower_preconditions.specs.Units.RegularStatements.{is_regular_source}
use Rattle.lower_preconditions.specs.Units.RegularTerms.{has_local, is_regular_term, is_regular_place}
use Rattle.typed_programs.specs.Types.StandingTypes.{AreLaidOut}
use Rattle.simulation_layout.proofs.function_checks.CountedLabels.{both_true}
use Rattle.typed_lowering.specs.Conversions.KnownValues.{nothing}
use Rattle.typed_lowering.specs.Conversions.ProgramLaws.{TypesStandWhereTheyBegin}
use Rattle.typed_lowering.specs.Conversions.TypedTerms.{is_stored_as, is_typed_term}
use Rattle.typed_lowering.proofs.templates.StoredValues.{copied_place}
use Rattle.typed_lowering.proofs.templates.FollowingWorks.{Asks, Looks, IsAround, Goes, Flowing, flowing_none, flowing_normalized, flowing_unused}
use Rattle.typed_lowering.proofs.templates.FollowingParts.{flowing_leap, flowing_forget, flowing_start, flowing_copied, flowing_list, flowing_giving}
use Rattle.typed_lowering.proofs.templates.FollowingSwitches.{flowing_switch}
use Rattle.typed_lowering.proofs.templates.FollowingSelections.{comes_block, comes_labelled, comes_if, comes_else}
use Rattle.typed_lowering.proofs.templates.FollowingLoops.{comes_while, comes_do, comes_for}

-- ---- switches that are begun

longer : {A : Type 0} (xs ys zs : List A) → zs ≡ xs ++ ys → length xs ≤ length zs
longer xs ys zs e = by (ap length e ∙ length-append xs ys)
  where
    by : length zs ≡ length xs + length ys → length xs ≤ length zs
    by e = omega (arith, e)

pub dispatches_grow : (p q : Plan) → Grows p q → length p.dispatches ≤ length q.dispatches
dispatches_grow p q g = longer p.dispatches g.more_dispatches q.dispatches g.dispatches

switch_grows : (s : SettingView) (at : Place) (e : TermTree) (cases : List CaseLabel) (body : StatementTree) (around : Surroundings) (p : Plan) → Grows (begin_switch (length cases) around.scope p).after (switch s at e cases body around p)
switch_grows s at e cases body around p =
    let b = begin_switch (length cases) around.scope p in
    let sent = grows_dispatch_of s at e cases around.scope b.begun b.after (grows_not b.after) in
    grows_work _ _ (grows_work _ _ sent)

begun_there : (count scope : ℕ) (p : Plan) → length p.dispatches < length (begin_switch count scope p).after.dispatches
begun_there count scope p = subst (λ xs. length p.dispatches < length xs) (sym (begins_dispatches count scope p)) (let e = length-append p.dispatches (own_dispatch count p ∷ []) in omega (arith, e))

through : (a b c : ℕ) → a ≤ b → b ≤ c → a ≤ c
through a b c x y = omega (arith, x, y)

less_on : (a b c : ℕ) → a < b → b ≤ c → a < c
less_on a b c less le = omega (arith, less, le)

module _ (u : UnitView) (f : FunctionView) (calls : ℕ → Bool) (s : SettingView) (ds : List Dispatch) (used : Bool) (stand : TypesStandWhereTheyBegin) (laid : AreLaidOut u.model u.structs) (K : Asks) (top b : ℕ) where
  -- the labels of the switch around a statement
  same_dispatch : (choice : ℕ) (p : Plan) → choice < b → b ≤ length p.dispatches → Within ds p → dispatch_at p choice ≡ get_or ds choice no_dispatch
  same_dispatch choice p less there known = known choice (less_on choice b (length p.dispatches) less there)

  pub flowing_by_form : (i : StatementTree) (around : Surroundings) (p : Plan) → p.jobs ≡ [] → (statement s i around p).labels ≤ 2 ^ 32 - 1 → Within ds (statement s i around p) → b ≤ length p.dispatches → length (statement s i around p).dispatches ≤ top → Goes u f calls s ds K b i around
      → Flowing u f calls s ds used K p.labels top p.labels (Some nothing) (Some nothing) (statement s i around p)
  flowing_by_form i around p none few known there high g = by i few known high (dispatches_grow p (statement s i around p) (grows_statement s i around p (grows_not p))) (within_before ds p (statement s i around p) (grows_statement s i around p (grows_not p)) known) g.looks g.within
    where
      start : Flowing u f calls s ds used K p.labels top p.labels (Some nothing) (Some nothing) p
      start = flowing_none (Some nothing) p none

      up : {n : ℕ} → length p.dispatches ≤ n → n ≤ top → b ≤ top
      up {n = n} grown high = through b n top (through b (length p.dispatches) n there grown) high

      by : (i : StatementTree) → (statement s i around p).labels ≤ 2 ^ 32 - 1 → Within ds (statement s i around p) → length (statement s i around p).dispatches ≤ top → length p.dispatches ≤ length (statement s i around p).dispatches → Within ds p → Looks u f calls g.count g.chosen i
          → IsAround f s ds K b g.count g.chosen around.on_break.label around.on_continue.label around.choice → Flowing u f calls s ds used K p.labels top p.labels (Some nothing) (Some nothing) (statement s i around p)
      by (tree.Value e) few known high grown before x w = flowing_normalized _ (flowing_unused e 0 p (x.typed, x.looped, x.regular) start)
      by tree.Nothing few known high grown before x w = start
      by (tree.Forget at object) few known high grown before x w = flowing_forget at object p start
      by (tree.Start at object e) few known high grown before x w =
          let a = both_true (is_typed_term u f e) (is_stored_as (local_type f object) e) x.typed in
          let c = both_true (has_local f object) (is_regular_term u f true 1 e) x.regular in
          flowing_start at object e p c.0 a.1 (a.0, x.looped, c.1) start
      by (tree.StartCopy at object l) few known high grown before x w =
          let c = both_true (has_local f object) (is_regular_source u f l) x.regular in
          let d = both_true _ (is_regular_place u f 1 l) c.1 in
          flowing_copied at object l p c.0 x.typed (copied_place u f (local_type f object) l x.typed, x.looped, d.1) start
      by (tree.StartList at object stores) few known high grown before x w =
          let c = both_true (has_local f object) (list_all _ stores) x.regular in
          flowing_list stand laid at object stores p c.0 x.typed x.looped c.1 start
      by (tree.Block xs items) few known high grown before x w = comes_block u f calls s ds used K top b (up grown high) around p xs items x w start
      by (tree.If e body) few known high grown before x w = comes_if u f calls s ds used K top b (up grown high) around p e body x w start
      by (tree.IfElse e one other) few known high grown before x w = comes_else u f calls s ds used K top b (up grown high) around p e one other x w start
      by (tree.While e body) few known high grown before x w = comes_while u f calls s ds used K top b (up grown high) around p e body x w start
      by (tree.Do body e) few known high grown before x w = comes_do u f calls s ds used K top b (up grown high) around p body e x w start
      by (tree.For xs items test after body) few known high grown before x w = comes_for u f calls s ds used K top b (up grown high) around p xs items test after body x w start
      by (tree.Switch at e cases has_default values body) few known high grown before x w =
          let d = begin_switch (length cases) around.scope p in
          let grows = switch_grows s at e cases body around p in
          let within = within_before ds d.after (switch s at e cases body around p) grows known in
          let begun_ = begun_there (length cases) around.scope p in
          flowing_switch u f calls s ds used K top b at e cases has_default values body around p none (through d.after.labels _ (2 ^ 32 - 1) grows.labels few) (sym (within (length p.dispatches) begun_) ∙ own_there (length cases) around.scope p)
          (less_on (length p.dispatches) _ top begun_ (through (length d.after.dispatches) _ top (dispatches_grow d.after _ grows) high)) (record { count = g.count; chosen = g.chosen; looks = x; within = w })
      by (tree.Case n body) few known high grown before x w =
          let asked = subst (λ (d : Dispatch). K (behind d.cases n) nothing) (sym (same_dispatch around.choice p (w.begun x.numbered.1) there before)) (w.cases n x.numbered.0) in
          comes_labelled u f calls s ds used K top b (up grown high) around p _ body asked (record { typed = x.typed; looped = x.looped; breaks = x.breaks; loops = x.loops; regular = x.regular; numbered = x.numbered.2 }) w start
      by (tree.Default body) few known high grown before x w =
          let asked = subst (λ (d : Dispatch). K d.fallback nothing) (sym (same_dispatch around.choice p (w.begun x.numbered.0) there before)) (w.fallback x.numbered.0) in
          comes_labelled u f calls s ds used K top b (up grown high) around p _ body asked (record { typed = x.typed; looped = x.looped; breaks = x.breaks; loops = x.loops; regular = x.regular; numbered = x.numbered.1 }) w start
      by (tree.Label n body) few known high grown before x w =
          comes_labelled u f calls s ds used K top b (up grown high) around p n body (w.own n x.numbered.0) (record { typed = x.typed; looped = x.looped; breaks = x.breaks; loops = x.loops; regular = x.regular; numbered = x.numbered.1 }) w start
      by (tree.Goto n) few known high grown before x w = flowing_leap around.scope _ p (λ last few. inl (w.own n (ltb-true n f.labels x.regular))) start
      by tree.Break few known high grown before x w = flowing_leap around.scope around.on_break p (λ last few. inl w.broken) start
      by tree.Continue few known high grown before x w = flowing_leap around.scope around.on_continue p (λ last few. inl w.continued) start
      by (tree.Return at e) few known high grown before x w = flowing_giving at e around p x.typed x.looped x.regular (λ last few. inl w.end) start
