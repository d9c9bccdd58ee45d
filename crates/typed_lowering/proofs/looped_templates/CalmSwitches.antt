-- The works of switches are calm.
use Rattle.std.proofs.Common.{◌≡◌, ◌≤◌, ◌<◌, ◌⊎◌, inl, inr, ℕ, suc, ◌+◌, ◌-◌, ◌^◌, ℤ, Bool, true, List, [], length, get_or, Option, Some, None, refl, arith, ap, sym, subst, ◌∙◌}
use Rattle.cc_base.specs.declared.diagnostics.Place.{Place}
use Rattle.c_layout.specs.CheckedTrees as tree
use Rattle.c_layout.specs.CheckedTrees.{TermTree, StatementTree}
use Rattle.c_layout.specs.CheckedUnits.{FunctionView}
use Rattle.c_layout.specs.declared.checked_tree.checked_statements.CaseLabel.{CaseLabel}
use Rattle.lower_template_theorems.specs.PendingLabels.Marks.{cases_in, defaults_in}
use Rattle.typed_programs.specs.PlainUnits.PlainTerms.{is_plain_term}
use Rattle.typed_programs.proofs.plain_templates.LeadingSwitches.{own_dispatch, begins_choice, begins_dispatch, begins_jobs, begins_names, one_more, lead_dispatch}
use Rattle.typed_programs.proofs.plain_templates.LeadingTemplates.{brought_or}
use Rattle.typed_programs.specs.PlainWorklists.LeadingPieces.{AreOfObjects, NoLabel}
use Rattle.typed_programs.specs.PlainWorklists.SwitchLabels.{HasDefault}
use Rattle.typed_programs.proofs.plain_worklists.LeadingWorks.{IsCase, Stands, Brought, Leading, lead_none, WillMark, makes_this, makes_work}
use Rattle.lower_functions.specs.Statements.Switches.{no_dispatch, choice_at, landing_of, other_landing, dispatch, begin_switch, in_switch, switch}
use Rattle.lower_templates.specs.Worklist.Pieces.{Mark}
use Rattle.lower_templates.specs.Worklist.Works as jobs
use Rattle.lower_templates.specs.Worklist.Works.{behind}
use Rattle.lower_templates.specs.Worklist.Plans.{Plan}
use Rattle.lower_templates.specs.Worklist.Settings.{SettingView}
use Rattle.lower_templates.specs.declared.worklist.template_builder.Dispatch.{Dispatch}
use Rattle.lower_templates.specs.declared.worklist.pending_works.Landing.{Landing}
use Rattle.lower_templates.specs.declared.worklist.pending_works.Surroundings.{Surroundings}
use Rattle.simulation_terms.specs.Scopes.Scopes.{switches_in}
use Rattle.typed_lowering.proofs.looped_templates.HeldStatements.{IsHeld}
use Rattle.typed_lowering.proofs.looped_templates.CalmWorks.{JumpsWithin, Calm, leading_calm, calm_statement, calm_mark}
use Rattle.typed_lowering.proofs.looped_templates.CalmStatements.{Becomes}

none_more : (a : ℕ) → a ≡ a + 0
none_more a = omega arith

just_below : (a b c : ℕ) → a ≡ b → c ≡ suc b → a < c
just_below a b c e f = omega (arith, e, f)

sum : (a b c : ℕ) → a ≡ suc b → a + (0 + c) ≡ b + suc c
sum a b c e = omega (arith, e)

-- the default label, or the end of the switch
landed : (W : ℕ → Type 0) (o : Option ℕ) (d : Dispatch) (after : Landing) (body : StatementTree) → HasDefault o body → W after.label → (1 ≤ defaults_in body → W d.fallback) → W (landing_of o d after).label
landed W None d after body has end default = end
landed W (Some scope) d after body has end default = default has

module _ (calls : ℕ → Bool) (s : SettingView) (f : FunctionView) (W : ℕ → Type 0) (ds : List Dispatch) (at : Place) (e : TermTree) (cases : List CaseLabel) (has_default : Bool) (values : Option (List ℤ)) (body : StatementTree) (around : Surroundings) (p : Plan) (own : (l : ℕ) → WillMark ds l (switch s at e cases body around p) → W l) where
  -- the labels that the dispatch and the blocks of its edges mark, and others that are marked
  by_dispatch : (l : ℕ) → Brought ds (dispatch s at e cases around.scope (begin_switch (length cases) around.scope p).begun (begin_switch (length cases) around.scope p).after).jobs W l → W l
  by_dispatch l is = by (brought_or calls s ds (dispatch s at e cases around.scope (begin_switch (length cases) around.scope p).begun (begin_switch (length cases) around.scope p).after).jobs W l is)
    where
      by : Brought ds (dispatch s at e cases around.scope (begin_switch (length cases) around.scope p).begun (begin_switch (length cases) around.scope p).after).jobs NoLabel l ⊎ W l → W l
      by (inl x) = own l (makes_work _ _ (makes_work _ _ (record { brought = x })))
      by (inr x) = x

  pub becomes_switch : p.jobs ≡ [] → AreOfObjects p.names → p.labels ≤ 2 ^ 32 - 1 → get_or ds (length p.dispatches) no_dispatch ≡ own_dispatch (length cases) p → JumpsWithin calls s f W (length p.dispatches) (tree.Switch at e cases has_default values body) around
      → Becomes calls s f W (length p.dispatches) (suc (switches_in body)) (switch s at e cases body around p)
  becomes_switch none names few known g =
      let n = length cases in
      let b = begin_switch n around.scope p in
      let choice = begins_choice n around.scope p in
      let begun = length b.after.dispatches in
      let in_body = in_switch around b.begun in
      let same : get_or ds b.begun.choice no_dispatch ≡ b.begun.dispatch = ap (λ c. get_or ds c no_dispatch) choice ∙ known ∙ sym (begins_dispatch n around.scope p) in
      let stands : (l : ℕ) → Stands ds b.begun.choice body l → W l = λ l is. own l (makes_work _ _ (makes_this (jobs.Statement body in_body) _ is)) in
      let after : W b.begun.after.label = own b.begun.after.label (makes_this (jobs.Ready (Mark b.begun.after.label)) _ refl) in
      let start : (K : ℕ → Type 0) → Leading calls s ds begun 0 K b.after = λ K. lead_none b.after (begins_jobs n around.scope p ∙ none) (subst AreOfObjects (sym (begins_names n around.scope p)) names) in
      let inside : JumpsWithin calls s f W begun body in_body =
      record {
        breaks = true;
        loops = g.loops;
        held = subst (λ c. IsHeld calls s f true g.loops c body) (sym (one_more n around.scope p)) g.held.3;
        on_break = λ t. after;
        on_continue = g.on_continue;
        choice = λ o. just_below b.begun.choice (length p.dispatches) begun choice (one_more n around.scope p);
      } in
      let case_there : (i : ℕ) → i < n → W (behind b.begun.dispatch.cases i) = λ i less. stands (behind b.begun.dispatch.cases i) (inr (inl (i, g.held.1 i less, ap (λ (d : Dispatch). behind d.cases i) (sym same)))) in
      let default_there : 1 ≤ defaults_in body → W b.begun.dispatch.fallback = λ some. stands b.begun.dispatch.fallback (inr (inr (some, ap (λ (d : Dispatch). d.fallback) (sym same)))) in
      let lands = landed W (choice_at s b.begun.choice).fallback b.begun.dispatch b.begun.after body (subst (λ c. HasDefault (choice_at s c).fallback body) (sym choice) g.held.2) after default_there in
      let few_cases = subst (λ (d : Dispatch). d.cases ≤ 2 ^ 32 - 1) (sym (begins_dispatch n around.scope p)) few in
      let sent : Leading calls s ds begun 0 W (dispatch s at e cases around.scope b.begun b.after) = lead_dispatch at e cases around.scope b.begun b.after g.held.0 few_cases case_there lands start in
      record {
        begun = begun;
        count = 0 + switches_in body;
        calm = calm_mark b.begun.after.label _ (calm_statement begun body in_body _ (none_more begun) inside (leading_calm ds W _ by_dispatch sent));
        total = sum begun (length p.dispatches) (switches_in body) (one_more n around.scope p);
      }
