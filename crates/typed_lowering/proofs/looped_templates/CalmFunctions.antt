-- The templates of regular functions that are plain but for loops are calm.
use Rattle.std.proofs.Common.{◌≡◌, ◌≤◌, inl, inr, ℕ, ◌+◌, ◌-◌, ◌^◌, Bool, true, false, cond, List, [], ◌∷◌, ◌++◌, length, refl, arith, sym, subst, ◌∙◌}
use Rattle.cc_base.specs.declared.diagnostics.Place.{Place}
use Rattle.c_layout.specs.Types.{Ty}
use Rattle.c_layout.specs.CheckedTrees.{StatementTrees, statement_trees}
use Rattle.c_layout.specs.CheckedUnits.{FunctionView, UnitView}
use Rattle.lower_template_theorems.specs.PendingLabels.Marks.{IsLabelled}
use Rattle.lower_functions.specs.Functions.Functions.{result_entered, argument, arguments, parameters, outcome, outermost, body, entry, called, function, setting_of, no_plan, IsTemplate}
use Rattle.lower_functions.specs.Functions.Turns.{planless}
use Rattle.typed_lowering.specs.LoopedUnits.CalmTemplates.{IsMarkedIn, IsCalm}
use Rattle.typed_lowering.specs.LoopedUnits.LoopedStatements.{are_looped_statements}
use Rattle.typed_programs.proofs.plain_templates.LeadingForms.{makes_left, makes_all}
use Rattle.typed_programs.proofs.plain_templates.LeadingStatements.{list}
use Rattle.typed_lowering.proofs.plain_programs.StandingLabels.{few_labels}
use Rattle.typed_programs.specs.PlainWorklists.LeadingPieces.{AreOfObjects}
use Rattle.typed_programs.proofs.plain_worklists.LeadingWorks.{both, HasOwn, WillMark, makes_this, makes_work, made}
use Rattle.lower_functions.specs.Statements.ScopeJumps.{all_entered, all_left}
use Rattle.lower_templates.specs.Worklist.Pieces.{Mark, TemplateView}
use Rattle.lower_templates.specs.Worklist.Works as jobs
use Rattle.lower_templates.specs.Worklist.Plans.{Plan}
use Rattle.lower_templates.specs.Worklist.Settings.{SettingView}
use Rattle.lower_templates.specs.declared.worklist.template_builder.Dispatch.{Dispatch}
use Rattle.lower_preconditions.specs.Units.LabelNumbers.{is_numbered}
use Rattle.lower_preconditions.specs.Units.RegularUnits.{is_regular_function}
use Rattle.simulation_layout.specs.FunctionChecks.LabelsOnce.{FunctionsAreLabelled}
use Rattle.lower_template_theorems.proofs.worklists.Derivations.{derived}
use Rattle.simulation_statements.proofs.switch_tables.NotedChoices.{noted}
use Rattle.simulation_terms.specs.Scopes.Scopes.{all_switches_in}
use Rattle.simulation_terms.specs.Scopes.SuitedStatements.{not_enclosed, HasLabel}
use Rattle.simulation_units.specs.Preconditions.RegularFunctions.{RegularFunctionsSuit}
use Rattle.typed_lowering.proofs.looped_templates.HeldStatements.{AreHeld, all_held}
use Rattle.typed_lowering.proofs.looped_templates.CalmWorks.{JumpsWithin, AreCalmWorks, Calm, calm_none, calm_labels, calm_end, calm_mark, calm, calm_do_if_used, calm_entered, calm_left}
use Rattle.typed_lowering.proofs.looped_templates.CalmStatements.{calm_statements}
use Rattle.typed_lowering.proofs.looped_templates.CalmForms.{AnyLabel, marking, leading}

-- ---- the first works of a function

module _ {calls : ℕ → Bool} {s : SettingView} {f : FunctionView} {W : ℕ → Type 0} {begun count : ℕ} where
  calm_arguments : (at : Place) (ns : List ℕ) (p : Plan) → Calm calls s f W begun count p → Calm calls s f W begun count (arguments at f ns p)
  calm_arguments at [] p k = k
  calm_arguments at (n ∷ ns) p k = calm_arguments at ns (argument at f.parameters n _ p) (search calm depth 30)

  calm_result : (at : Place) (t : Ty) (p : Plan) → Calm calls s f W begun count p → Calm calls s f W begun count (result_entered at t p)
  calm_result at t p k = search calm depth 30

  calm_parameters : (p : Plan) → Calm calls s f W begun count p → Calm calls s f W begun count (parameters s f p)
  calm_parameters p k = calm_arguments s.at s.parameters _ (calm_result s.at f.returns _ (calm_entered s.at s.parameters p k))

  calm_outcome : (at : Place) (t : Ty) (p : Plan) → Calm calls s f W begun count p → Calm calls s f W begun count (outcome at t p)
  calm_outcome at t p k = search calm depth 30

none_some : (a : ℕ) → a ≡ 0 → 1 ≤ a → ⊥
none_some a e some = omega (arith, e, some)

never : {A : Type 0} → false ≡ true → A
never e = absurd (cc)

none_twice : 0 ≡ 0 + 0
none_twice = omega arith

module _ (calls : ℕ → Bool) (s : SettingView) (f : FunctionView) (labelled : IsLabelled f) (held : AreHeld calls s f false false 0 (statement_trees f.body)) (W : ℕ → Type 0) where
  nothing_own : {A : Type 0} → HasOwn (list (statement_trees f.body)) → A
  nothing_own (inl x) = absurd (none_some _ (labelled.cases x.0) x.1)
  nothing_own (inr x) = absurd (none_some _ labelled.defaults x)

  body_within : JumpsWithin calls s f W 0 (list (statement_trees f.body)) (outermost s.end)
  body_within = record { breaks = false; loops = false; held = held; on_break = λ e. never e; on_continue = λ e. never e; choice = λ own. nothing_own own }

  calm_body : (p : Plan) → Calm calls s f W 0 0 p → Calm calls s f W 0 (0 + all_switches_in (statement_trees f.body)) (body s f p)
  calm_body p start = calm_left s.at f.scope _ (calm_statements calls s f W 0 0 0 (statement_trees f.body) (outermost s.end) (all_entered s.at f.scope p) none_twice body_within (calm_entered s.at f.scope p start))

  calm_function : Calm calls s f W 0 (0 + all_switches_in (statement_trees f.body)) (function s f (no_plan f.labels))
  calm_function = by s.is_entry
    where
      p : Plan
      p = no_plan f.labels

      start : Calm calls s f W 0 0 p
      start = calm_none p refl tt

      by : (b : Bool) → Calm calls s f W 0 (0 + all_switches_in (statement_trees f.body)) (cond b (entry s f p) (called s f p))
      by true = calm_end _ _ _ refl tt (calm_body p start)
      by false = calm_outcome s.at f.returns _ (calm_mark s.end _ (calm_left s.at s.parameters _ (calm_body _ (calm_mark (p.labels + 1) _ (calm_parameters _ (calm_mark p.labels _ (calm_labels 2 p start)))))))

-- ---- the labels of a function are marked

module _ (s : SettingView) (f : FunctionView) (ds : List Dispatch) where
  makes_outcome : {l : ℕ} (at : Place) (t : Ty) (p : Plan) → WillMark ds l p → WillMark ds l (outcome at t p)
  makes_outcome at t p k = search made depth 30

  makes_body : (l : ℕ) (p : Plan) → HasLabel f l → WillMark ds l (body s f p)
  makes_body l p has = makes_left s.at f.scope _ (makes_all (statement_trees f.body) (outermost s.end) _ (inl has.1))

  makes_label : (l : ℕ) → HasLabel f l → WillMark ds l (function s f (no_plan f.labels))
  makes_label l has = by s.is_entry
    where
      by : (b : Bool) → WillMark ds l (cond b (entry s f (no_plan f.labels)) (called s f (no_plan f.labels)))
      by true = makes_work _ _ (makes_body l _ has)
      by false = makes_outcome s.at f.returns _ (makes_work _ _ (makes_left s.at s.parameters _ (makes_body l _ has)))

  -- where a function is called, so is the one behind its body
  makes_end : s.is_entry ≡ false → WillMark ds s.end (function s f (no_plan f.labels))
  makes_end e = subst (λ b. WillMark ds s.end (cond b (entry s f (no_plan f.labels)) (called s f (no_plan f.labels)))) (sym e) (makes_outcome s.at f.returns _ (makes_this (jobs.Ready (Mark s.end)) _ refl))

-- ---- templates

pub looped_calm : FunctionsAreLabelled → RegularFunctionsSuit → (u : UnitView) (calls : ℕ → Bool) (f : FunctionView) (is_entry : Bool) (t : TemplateView) → IsTemplate u.structs u.model.pointer u.model.int f is_entry t → t.labels ≤ 2 ^ 32 - 1
    → is_regular_function u f ≡ true → are_looped_statements calls (statement_trees f.body) ≡ true → IsCalm calls t
looped_calm label suit u calls f is_entry t is few regular looped =
    let s = setting_of u.structs u.model.pointer u.model.int f is_entry in
    let p = function s f (no_plan f.labels) in
    let d = derived s p t is in
    let ds = d.last.dispatches in
    let labelled = label f (both _ _ regular).0 in
    let suits = suit u f regular in
    let choices = noted s u f not_enclosed (f.scope ++ []) refl suits labelled (few_labels u.structs u.model.pointer u.model.int f is_entry t is few) in
    let held = all_held calls s u f (statement_trees f.body) not_enclosed (f.scope ++ []) 1 2 0 looped suits choices in
    let few_last = subst (λ n. n ≤ 2 ^ 32 - 1) d.labels few in
    let any = calm_function calls s f labelled held AnyLabel in
    let x = marking calls s f ds (planless p) p.jobs t.pieces d.last d.pieces refl any.names few_last (λ c less. refl) (subst (λ b. AreCalmWorks calls s f AnyLabel b p.jobs) (sym any.before) any.works) in
    let W = IsMarkedIn t in
    let labels : (l : ℕ) → HasLabel f l → W l = λ l has. x.marks l (makes_label s f ds l has).brought in
    let back : s.is_entry ≡ false → W s.end = λ e. x.marks s.end (makes_end s f ds e).brought in
    let whole = calm_function calls s f labelled held W in
    let pieces = leading calls s f W labels back ds (planless p) p.jobs t.pieces d.last d.pieces refl whole.names few_last (λ c less. refl) (subst (λ b. AreCalmWorks calls s f W b p.jobs) (sym whole.before) whole.works) (λ l z. z) in
    record { pieces = pieces; names = subst AreOfObjects (sym d.names) x.names }
