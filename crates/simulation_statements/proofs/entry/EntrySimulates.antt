-- The body of the entry follows in the pieces of its template.
use Rattle.std.proofs.Common.{◌≡◌, ◌≤◌, ℕ, ◌+◌, ◌-◌, ◌^◌, ℤ, true, List, [], ◌∷◌, ◌++◌, length, Some, slice_get, refl, arith, ap, sym, subst, ◌∙◌, append_assoc}
use Rattle.std.proofs.lemmas.List.{append-nil}
use Rattle.c_layout.specs.CheckedTrees.{statement_trees}
use Rattle.c_layout.specs.CheckedUnits.{FunctionView}
use Rattle.lower_templates.specs.Worklist.Acts as act
use Rattle.lower_templates.specs.Worklist.Pieces.{PieceView, End}
use Rattle.lower_templates.specs.Worklist.Plans.{Plan}
use Rattle.lower_templates.specs.Worklist.Settings.{SettingView}
use Rattle.lower_templates.specs.Worklist.Works as jobs
use Rattle.lower_templates.specs.Worklist.Works.{Job}
use Rattle.lower_functions.specs.Statements.ScopeJumps.{all_entered, all_left}
use Rattle.lower_functions.specs.Statements.PlainStatements.{all_statements}
use Rattle.lower_functions.specs.Functions.Functions as functions
use Rattle.lower_functions.specs.Functions.Functions.{setting_of, no_plan, outermost}
use Rattle.lower_functions.specs.Functions.Turns.{planless}
use Rattle.lower_template_theorems.specs.Growth.Growth.{Grows}
use Rattle.lower_template_theorems.proofs.growth.Growth.{works, grows_not}
use Rattle.lower_template_theorems.proofs.growth.GrowingStatements.{grows_entered, grows_statements, grows_left}
use Rattle.lower_template_theorems.proofs.label_definitions.MarkedTemplates.{marked_once}
use Rattle.lower_template_theorems.specs.Worklists.Derivations.{Makes, IsDerived}
use Rattle.lower_template_theorems.proofs.worklists.Derivations.{parted, derived}
use Rattle.semantics.specs.SourceMachine.Items as item
use Rattle.semantics.specs.SourceMachine.SourceRuns.{Run, body_of}
use Rattle.semantics.specs.SourceMachine.SourceStates.{function_at}
use Rattle.semantics.specs.SourceMachine.SourceSteps.{place_of}
use Rattle.semantics.specs.TemplateMachine.TemplateStates.{Templates}
use Rattle.semantics.specs.TemplateMachine.TemplateSteps.{template_begin, steps_from}
use Rattle.simulation_terms.specs.SimulationRelation.Activations.{Activation, entry_of}
use Rattle.simulation_terms.specs.SmallSteps.Alike.{Agree}
use Rattle.simulation_terms.specs.SimulationRelation.Simulates.{Simulates, AllSimulate, pieces}
use Rattle.simulation_terms.proofs.simulation_relation.Constructions.{gives_end, gives_end_body}
use Rattle.simulation_terms.proofs.small_steps.TurnsSimulate.{runs_agree}
use Rattle.simulation_terms.specs.Worklists.TemplateParts.{IsOfUnit, IsKnown, Stands, stops}
use Rattle.simulation_terms.proofs.worklists.Runs.{headed, joined, split}
use Rattle.simulation_terms.proofs.worklists.Assignments.{one_more_job}
use Rattle.simulation_terms.proofs.worklists.Laying.{known_between}
use Rattle.simulation_terms.proofs.scopes.Objects.{object_jobs, entered_planned, left_planned, named_from, locals}
use Rattle.simulation_terms.proofs.scopes.Positions.{position, numbers}
use Rattle.simulation_statements.proofs.statements.Sequences.{statement_jobs, listed}
use Rattle.simulation_statements.proofs.bodies.Bodies.{body_items, body_jobs, has_labels, body_from}
use Rattle.simulation_statements.specs.Entry.Entries.{IsEntry}
use Rattle.simulation_statements.proofs.entry.Bodies.{work_names, work_scopes, body_is}

-- ---- the plan of the entry

abbrev stop : SettingView → PieceView
stop s = End (record { at = s.at; does = act.Stop }) []

record Planned (s : SettingView) (f : FunctionView) (js : List Job) (p : Plan) : Type 0 where
  jobs : p.jobs ≡ (object_jobs act.Enter s.at f.scope 0 ++ (js ++ object_jobs act.Leave s.at f.scope (length (locals f.scope)))) ++ jobs.Ready (stop s) ∷ []
  names : p.names ≡ locals f.scope ++ locals f.scope
  scopes : position p ≡ numbers 2 0

entry_planned : (s : SettingView) (f : FunctionView) → Planned s f (statement_jobs (statement_trees f.body) (outermost s.end)) (functions.entry s f (no_plan f.labels))
entry_planned s f =
    let start = no_plan f.labels in
    let first = all_entered s.at f.scope start in
    let second = all_statements (statement_trees f.body) (outermost s.end) first in
    let third = all_left s.at f.scope second in
    let js = statement_jobs (statement_trees f.body) (outermost s.end) in
    let e = entered_planned s.at f.scope start in
    let l = listed (statement_trees f.body) (outermost s.end) first in
    let x = left_planned s.at f.scope second in
    record {
      jobs = one_more_job third.jobs (jobs.Ready (stop s)) third refl
          ∙ ap (λ ks. ks ++ jobs.Ready (stop s) ∷ []) (x.jobs ∙ ap (λ ks. ks ++ object_jobs act.Leave s.at f.scope (length second.names)) (l.jobs ∙ ap (λ ks. ks ++ js) e.jobs)
          ∙ ap (λ ns. (object_jobs act.Enter s.at f.scope 0 ++ js) ++ object_jobs act.Leave s.at f.scope (length ns)) (l.names ∙ e.names)
          ∙ append_assoc (object_jobs act.Enter s.at f.scope 0) js (object_jobs act.Leave s.at f.scope (length (locals f.scope))));
      names = work_names (jobs.Ready (stop s)) third ∙ x.names ∙ ap (λ ns. ns ++ locals f.scope) (l.names ∙ e.names);
      scopes = work_scopes (jobs.Ready (stop s)) third ∙ x.scopes ∙ l.scopes ∙ e.scopes;
    }

-- labels are given away behind those of the function
grown : (s : SettingView) (f : FunctionView) → Grows (no_plan f.labels) (functions.entry s f (no_plan f.labels))
grown s f = let start = grows_not (no_plan f.labels) in search (works, grows_entered, grows_statements, grows_left) depth 40

enough : (a b : ℕ) → a + 1 ≤ b → a ≤ b
enough a b x = omega (arith, x)

module _ (t : Templates) (f : FunctionView) (e : IsEntry t f) where
  abbrev a : Activation
  a = entry_of t

  abbrev s : SettingView
  s = setting_of t.unit.structs t.unit.model.pointer t.unit.model.int f true

  abbrev plan : Plan
  plan = functions.entry s f (no_plan f.labels)

  made : IsDerived s plan (t.of t.unit.entry)
  made = derived s plan (t.of t.unit.entry) e.template

  fits : IsOfUnit a s
  fits = record { structs = refl; pointer = refl; int = refl; place = sym (ap place_of e.is); once = λ l less. marked_once t.unit.structs t.unit.model.pointer t.unit.model.int f true (t.of t.unit.entry) e.template e.labelled e.few_labels l }

  known : IsKnown a made.last
  known = record { names = λ base name there. subst (λ ns. slice_get ns base ≡ Some name) (sym made.names) there; labels = subst (λ l. l ≤ 2 ^ 32 - 1) made.labels e.few_labels }

  pub body_simulates : (n : ℕ) → Simulates a n 0 (body_of (function_at t.unit t.unit.entry)) (pieces a)
  body_simulates n =
      let x = entry_planned s f in
      let all = body_jobs s f 0 (length (locals f.scope)) in
      let m = subst (λ ks. Makes s (planless plan) ks (pieces a) made.last) x.jobs made.pieces in
      let known_all = known_between s a (planless plan) (all ++ jobs.Ready (stop s) ∷ []) (pieces a) made.last m known in
      let named = named_from a (planless plan) [] f.scope (locals f.scope) known_all x.names in
      let again = named_from a (planless plan) (locals f.scope) f.scope [] known_all (x.names ∙ ap (λ ns. locals f.scope ++ ns) (sym (append-nil (locals f.scope)))) in
      let y = parted s (planless plan) all (jobs.Ready (stop s) ∷ []) (pieces a) made.last m in
      let z = headed s y.between (stop s) [] y.back made.last y.second in
      let stands : Stands a (pieces a ++ []) = record { front = []; all = sym (append-nil (pieces a)) } in
      let here = split s a n (pieces a) y.front y.back [] y.all stands in
      let end : Simulates a n 0 (item.EndBody ∷ []) (y.back ++ []) = subst (λ xs. Simulates a n 0 (item.EndBody ∷ []) (xs ++ [])) (sym z.is) (gives_end_body n 0 f [] (stop s ∷ (z.back ++ [])) e.is (gives_end n 0 s.at (z.back ++ []) refl)) in
      let front = body_from s a fits f (has_labels s a f e.is refl e.apart e.suits e.labelled) (stops refl refl) e.suits e.labelled n 0 (length (locals f.scope)) named again (planless plan) refl x.scopes (enough f.labels plan.labels (grown s f).labels) y.front y.between y.first (known_between s a y.between (jobs.Ready (stop s) ∷ []) y.back made.last y.second known) (y.back ++ []) here end in
      let whole = joined s a n 0 (body_items f (item.EndBody ∷ [])) (pieces a) y.front y.back [] y.all front in
      subst (λ xs. Simulates a n 0 xs (pieces a)) (sym (ap body_of e.is))
      (subst (λ xs. Simulates a n 0 xs (pieces a)) (body_is f)
      (subst (λ ps. Simulates a n 0 (body_items f (item.EndBody ∷ [])) ps) (append-nil (pieces a)) whole))

  pub followed : AllSimulate t → (draws : List ℤ) (turns : ℕ) → (steps : ℕ) × Agree (Run t.unit draws turns) (steps_from t steps (template_begin t draws))
  followed functions draws turns = runs_agree t functions body_simulates draws turns
