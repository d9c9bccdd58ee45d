-- In a regular function the labels of switches stand in their bodies.
use Rattle.std.proofs.Common.{◌≡◌, ◌≤◌, ℕ, suc, ◌+◌, ◌-◌, ◌^◌, Bool, true, false, cond, List, [], ◌∷◌, ◌++◌, length, Option, Some, None, refl, ap, sym, subst, ◌∙◌, append_assoc}
use Rattle.std.proofs.lemmas.List.{append-nil}
use Rattle.cc_base.specs.declared.diagnostics.Place.{Place}
use Rattle.c_layout.specs.Types.{Ty}
use Rattle.c_layout.specs.CheckedTrees as tree
use Rattle.c_layout.specs.CheckedTrees.{StatementTree, StatementTrees, statement_trees}
use Rattle.c_layout.specs.CheckedUnits.{FunctionView, UnitView}
use Rattle.c_layout.specs.StructViews.{StructView}
use Rattle.lower_template_theorems.specs.PendingLabels.Marks.{IsLabelled}
use Rattle.lower_functions.specs.Functions.Functions.{outcome, outermost, body, entry, called, function, setting_of, no_plan, IsTemplate}
use Rattle.lower_functions.specs.Functions.Turns.{planless}
use Rattle.lower_functions.specs.Statements.ScopeJumps.{left, all_entered, all_left}
use Rattle.lower_functions.specs.Statements.PlainStatements.{all_statements}
use Rattle.lower_functions.specs.Statements.Switches.{choice_at}
use Rattle.lower_templates.specs.Worklist.Pieces.{NameView, TemplateView}
use Rattle.lower_templates.specs.Worklist.Plans.{Plan, with_work, with_name}
use Rattle.lower_templates.specs.Worklist.Scopes.{function_scopes}
use Rattle.lower_templates.specs.Worklist.Settings.{SettingView}
use Rattle.lower_templates.specs.Worklist.Works.{Job}
use Rattle.lower_template_theorems.specs.Worklists.Derivations.{Makes}
use Rattle.lower_template_theorems.proofs.worklists.Derivations.{derived}
use Rattle.semantics.specs.SourceMachine.LabelSearch as sought
use Rattle.simulation_statements.specs.Labels.LabelScopes.{stands_in}
use Rattle.simulation_terms.specs.Scopes.Scopes.{scopes_in, switches_in}
use Rattle.simulation_terms.specs.Scopes.SuitedStatements.{Enclosure, by_switch, not_enclosed, SuitsIn, AllSuitIn}
use Rattle.simulation_statements.specs.SwitchLabels.Choices.{HasChoices, AllHaveChoices}
use Rattle.simulation_statements.proofs.switch_tables.CountedLabels.{default_counted}
use Rattle.simulation_statements.proofs.switch_tables.NotedChoices.{noted}
use Rattle.simulation_statements.proofs.statements.Sequences.{statement_jobs, listed}
use Rattle.simulation_statements.proofs.bodies.CoveredCases.{few_cases}
use Rattle.typed_programs.specs.PlainWorklists.SwitchLabels.{HasDefault, LabelsStand, AllLabelsStand}

-- ---- labels

default_there : (body : StatementTree) (k c : ℕ) (o : Option ℕ) → o ≡ stands_in sought.other body k c → HasDefault o body
default_there body k c None e = tt
default_there body k c (Some scope) e = default_counted body k c scope (sym e)

module _ (s : SettingView) (u : UnitView) (f : FunctionView) where
  mutual
    stand : (i : StatementTree) (enclosed : Enclosure) (known : List ℕ) (k c b : ℕ) → SuitsIn u f enclosed known i → HasChoices s i k c b → LabelsStand s i b
    stand (tree.Value e) enclosed known k c b suits has = tt
    stand tree.Nothing enclosed known k c b suits has = tt
    stand (tree.Forget at object) enclosed known k c b suits has = tt
    stand (tree.Start at object e) enclosed known k c b suits has = tt
    stand (tree.StartCopy at object x) enclosed known k c b suits has = tt
    stand (tree.StartList at object stores) enclosed known k c b suits has = tt
    stand (tree.Block objects items) enclosed known k c b suits has = all_stand items enclosed (objects ++ known) c (suc c) b suits.1 has
    stand (tree.If e body) enclosed known k c b suits has = stand body enclosed known k c b suits.1 has
    stand (tree.IfElse e first second) enclosed known k c b suits has = (stand first enclosed known k c b suits.1 has.0, stand second enclosed known k (c + scopes_in first) (b + switches_in first) suits.2 has.1)
    stand (tree.While e body) enclosed known k c b suits has = tt
    stand (tree.Do body e) enclosed known k c b suits has = tt
    stand (tree.For objects first e step body) enclosed known k c b suits has = tt
    stand (tree.Switch at e labels has_default values body) enclosed known k c b suits has = (suits.3, default_there body k c (choice_at s b).fallback has.0.fallback, stand body (by_switch enclosed) known k c (suc b) suits.4 has.1)
    stand (tree.Case n body) enclosed known k c b suits has = stand body enclosed known k c b suits has
    stand (tree.Default body) enclosed known k c b suits has = stand body enclosed known k c b suits has
    stand (tree.Label n body) enclosed known k c b suits has = stand body enclosed known k c b suits has
    stand (tree.Goto n) enclosed known k c b suits has = tt
    stand tree.Break enclosed known k c b suits has = tt
    stand tree.Continue enclosed known k c b suits has = tt
    stand (tree.Return at e) enclosed known k c b suits has = tt

    all_stand : (items : StatementTrees) (enclosed : Enclosure) (known : List ℕ) (k c b : ℕ) → AllSuitIn u f enclosed known items → AllHaveChoices s items k c b → AllLabelsStand s items b
    all_stand tree.NoMore enclosed known k c b suits has = tt
    all_stand (tree.And first rest) enclosed known k c b suits has = (stand first enclosed known k c b suits.0 has.0, all_stand rest enclosed known k (c + scopes_in first) (b + switches_in first) suits.1 has.1)

-- ---- the works of a body

-- such works stand among those that are planned
record Among (js : List Job) (p : Plan) : Type 0 where
  before : List Job
  behind : List Job
  is : p.jobs ≡ before ++ (js ++ behind)

among_work : {js : List Job} (j : Job) (p : Plan) → Among js p → Among js (with_work j p)
unfolding with_work
among_work {js = js} j p k = record {
  before = k.before;
  behind = k.behind ++ j ∷ [];
  is = ap (λ xs. xs ++ j ∷ []) k.is ∙ append_assoc k.before (js ++ k.behind) (j ∷ []) ∙ ap (λ xs. k.before ++ xs) (append_assoc js k.behind (j ∷ []));
}

among_name : {js : List Job} (x : NameView) (p : Plan) → Among js p → Among js (with_name x p)
unfolding with_name
among_name x p k = record { before = k.before; behind = k.behind; is = k.is }

among_or : {js : List Job} (b : Bool) (p q : Plan) → Among js p → Among js q → Among js (cond b p q)
among_or true p q x y = x
among_or false p q x y = y

ruleset among = (among_work, among_name, among_or)

among_left : {js : List Job} (at : Place) (xs : List ℕ) (p : Plan) → Among js p → Among js (all_left at xs p)
among_left at [] p k = k
among_left at (x ∷ xs) p k = among_left at xs (left at x p) (search among depth 30)

among_outcome : {js : List Job} (at : Place) (t : Ty) (p : Plan) → Among js p → Among js (outcome at t p)
among_outcome at t p k = search among depth 30

among_statements : (s : SettingView) (f : FunctionView) (p : Plan) → Among (statement_jobs (statement_trees f.body) (outermost s.end)) (body s f p)
among_statements s f p =
    let q = all_entered s.at f.scope p in
    let js = statement_jobs (statement_trees f.body) (outermost s.end) in
    among_left s.at f.scope (all_statements (statement_trees f.body) (outermost s.end) q) (record { before = q.jobs; behind = []; is = (listed (statement_trees f.body) (outermost s.end) q).jobs ∙ ap (λ xs. q.jobs ++ xs) (sym (append-nil js)) })

among_function : (s : SettingView) (f : FunctionView) → Among (statement_jobs (statement_trees f.body) (outermost s.end)) (function s f (no_plan f.labels))
among_function s f = by s.is_entry
  where
    by : (b : Bool) → Among (statement_jobs (statement_trees f.body) (outermost s.end)) (cond b (entry s f (no_plan f.labels)) (called s f (no_plan f.labels)))
    by true = among_work _ _ (among_statements s f (no_plan f.labels))
    by false = among_outcome s.at f.returns _ (among_work _ _ (among_left s.at s.parameters _ (among_statements s f _)))

pub few_labels : (structs : List StructView) (pointer int_bytes : ℕ) (f : FunctionView) (is_entry : Bool) (t : TemplateView) → IsTemplate structs pointer int_bytes f is_entry t → t.labels ≤ 2 ^ 32 - 1 → length (function_scopes f).cases ≤ 2 ^ 32 - 1
few_labels structs pointer int_bytes f is_entry t is few =
    let s = setting_of structs pointer int_bytes f is_entry in
    let p = function s f (no_plan f.labels) in
    let d = derived s p t is in
    let x = among_function s f in
    few_cases s f (outermost s.end) (planless p) refl x.before x.behind t.pieces d.last (subst (λ js. Makes s (planless p) js t.pieces d.last) x.is d.pieces) (subst (λ n. n ≤ 2 ^ 32 - 1) d.labels few)

-- ---- functions

pub function_labels_stand : (u : UnitView) (f : FunctionView) (is_entry : Bool) (t : TemplateView) → IsTemplate u.structs u.model.pointer u.model.int f is_entry t → t.labels ≤ 2 ^ 32 - 1 → IsLabelled f → AllSuitIn u f not_enclosed (f.scope ++ []) (statement_trees f.body)
    → AllLabelsStand (setting_of u.structs u.model.pointer u.model.int f is_entry) (statement_trees f.body) 0
function_labels_stand u f is_entry t is few labelled suits =
    let s = setting_of u.structs u.model.pointer u.model.int f is_entry in
    all_stand s u f (statement_trees f.body) not_enclosed (f.scope ++ []) 1 2 0 suits (noted s u f not_enclosed (f.scope ++ []) refl suits labelled (few_labels u.structs u.model.pointer u.model.int f is_entry t is few))
