-- A function that is called follows in the pieces of its template: its prologue, its body, and what comes behind.
use Rattle.std.proofs.Common.{◌≡◌, ◌≤◌, ◌<◌, ℕ, ◌+◌, ◌-◌, ◌^◌, false, List, [], ◌∷◌, ◌++◌, length, Some, slice_get, refl, arith, ap, sym, subst, ◌∙◌, append_assoc}
use Rattle.std.proofs.lemmas.List.{append-nil}
use Rattle.c_layout.specs.CheckedTrees.{StatementTrees, statement_trees}
use Rattle.c_layout.specs.CheckedUnits.{FunctionView}
use Rattle.lower_templates.specs.Worklist.Acts as act
use Rattle.lower_templates.specs.Worklist.Pieces.{NameView, Outcome, Mark}
use Rattle.lower_templates.specs.Worklist.Plans.{Plan, with_labels, begun}
use Rattle.lower_templates.specs.Worklist.Settings.{SettingView}
use Rattle.lower_templates.specs.Worklist.TermKinds.{scalar_of, is_void}
use Rattle.lower_templates.specs.Worklist.Works as jobs
use Rattle.lower_templates.specs.Worklist.Works.{Job}
use Rattle.lower_functions.specs.Statements.ScopeJumps.{all_entered, all_left}
use Rattle.lower_functions.specs.Statements.PlainStatements.{all_statements}
use Rattle.lower_functions.specs.Functions.Functions as functions
use Rattle.lower_functions.specs.Functions.Functions.{setting_of, no_plan, outermost, numbers_from}
use Rattle.lower_functions.specs.Functions.Turns.{planless}
use Rattle.lower_template_theorems.proofs.label_definitions.MarkedTemplates.{marked_once}
use Rattle.lower_template_theorems.specs.Worklists.Derivations.{Makes, IsDerived}
use Rattle.lower_template_theorems.proofs.worklists.Derivations.{Parted, parted, derived}
use Rattle.lower_template_theorems.proofs.growth.GrowingWorks.{grows, jobs_none}
use Rattle.semantics.specs.SourceMachine.CallSteps.{prologue, epilogue}
use Rattle.semantics.specs.SourceMachine.Items as item
use Rattle.semantics.specs.SourceMachine.Items.{Item}
use Rattle.semantics.specs.SourceMachine.StatementItems.{body}
use Rattle.semantics.specs.SourceMachine.SourceStates.{Frame}
use Rattle.semantics.specs.SourceMachine.SourceSteps.{place_of}
use Rattle.semantics.specs.TemplateMachine.TemplateStates.{Templates}
use Rattle.simulation_terms.specs.SimulationRelation.Activations.{Activation, activation}
use Rattle.simulation_terms.specs.SimulationRelation.Simulates as simulates
use Rattle.simulation_terms.specs.SimulationRelation.Simulates.{Names, Leads, Simulates, AllSimulate, CallsThere, IsCalled, pieces, own}
use Rattle.simulation_terms.proofs.simulation_relation.Constructions.{gives_end_body, gives_back}
use Rattle.simulation_terms.specs.Worklists.TemplateParts as parts_of
use Rattle.simulation_terms.specs.Worklists.TemplateParts.{IsOfUnit, IsKnown, Stands, Ends}
use Rattle.simulation_terms.proofs.worklists.Runs.{Runs, Headed, headed, joined, split, stands_behind}
use Rattle.simulation_terms.proofs.worklists.Labels.{leads}
use Rattle.simulation_terms.proofs.worklists.Laying.{known_between}
use Rattle.simulation_terms.proofs.scopes.KeptScopes.{AreTerms}
use Rattle.simulation_terms.proofs.scopes.ScopesOfTerms.{scopes_kept}
use Rattle.simulation_terms.proofs.scopes.Objects.{object_jobs, objects_are_terms, leaves, named_from, locals}
use Rattle.simulation_terms.proofs.scopes.Positions.{position, numbers}
use Rattle.simulation_statements.proofs.statements.Sequences.{statement_jobs}
use Rattle.simulation_statements.proofs.bodies.Bodies.{body_items, has_labels, body_from}
use Rattle.simulation_statements.specs.Entry.Entries.{IsMade, AreMade, EntryIsNotCalled}
use Rattle.simulation_statements.proofs.entry.Bodies.{body_is}
use Rattle.simulation_statements.proofs.entry.CalledPlans.{Adds, adds_then, adds_entered, adds_left, adds_work, adds_statements, adds_result, adds_arguments, adds_outcome, result_jobs, result_names, argument_jobs, outcome_jobs}
use Rattle.simulation_statements.proofs.entry.CalledSimulates.{terms_both, results_are_terms, arguments_are_terms, prologue_runs, epilogue_runs}

-- ---- lists

five : {A : Type 0} (a b c d e rest : List A) → a ++ (b ++ (c ++ (d ++ (e ++ rest)))) ≡ (a ++ (b ++ (c ++ (d ++ e)))) ++ rest
five a b c d e rest = sym (append_assoc a (b ++ (c ++ (d ++ e))) rest ∙ ap (λ xs. a ++ xs) (append_assoc b (c ++ (d ++ e)) rest ∙ ap (λ xs. b ++ xs) (append_assoc c (d ++ e) rest ∙ ap (λ xs. c ++ xs) (append_assoc d e rest))))

three : {A : Type 0} (a b c rest : List A) → a ++ (b ++ (c ++ rest)) ≡ (a ++ (b ++ c)) ++ rest
three a b c rest = sym (append_assoc a (b ++ c) rest ∙ ap (λ xs. a ++ xs) (append_assoc b c rest))

-- the object of the result among the names
outcome_named : (t : Activation) (q : Plan) (before ns after : List NameView) → IsKnown t q → q.names ≡ before ++ (ns ++ after) → ns ≡ Outcome ∷ [] → Names t (length before) Outcome
outcome_named t q before ns after known is has = known.names (length before) Outcome (subst (λ xs. slice_get xs (length before) ≡ Some Outcome) (sym (is ∙ ap (λ xs. before ++ (xs ++ after)) has)) (there before))
  where
    there : (xs : List NameView) → slice_get (xs ++ (Outcome ∷ after)) (length xs) ≡ Some Outcome
    there [] = refl
    there (x ∷ xs) = there xs

starts_empty : (labels : ℕ) → (with_labels 2 (no_plan labels)).jobs ≡ []
unfolding with_labels
starts_empty labels = refl

starts_with : (labels : ℕ) → (with_labels 2 (no_plan labels)).labels ≡ (labels + 1) + 2
unfolding with_labels
starts_with labels = refl

starts_in : (labels : ℕ) → position (with_labels 2 (no_plan labels)) ≡ numbers 2 0
unfolding with_labels
starts_in labels = refl

module _ (t : Templates) (g : ℕ) (f : FunctionView) (e : IsMade t g false f) (caller : Frame) (callers : List Frame) (is_called : IsCalled t.unit g caller.used f) where
  abbrev a : Activation
  a = activation t g (caller ∷ callers)

  abbrev s : SettingView
  s = setting_of t.unit.structs t.unit.model.pointer t.unit.model.int f false

  abbrev trees : StatementTrees
  trees = statement_trees f.body

  -- ---- what is planned, step by step

  abbrev ns : List ℕ
  ns = numbers_from 0 f.parameters

  abbrev q0 : Plan
  q0 = with_labels 2 (no_plan f.labels)

  abbrev q1 : Plan
  q1 = begun (f.labels + 1) q0

  abbrev q2 : Plan
  q2 = all_entered s.at ns q1

  abbrev q3 : Plan
  q3 = functions.result_entered s.at f.returns q2

  abbrev q4 : Plan
  q4 = functions.arguments s.at f ns q3

  abbrev q5 : Plan
  q5 = begun ((f.labels + 1) + 1) q4

  abbrev q6 : Plan
  q6 = all_entered s.at f.scope q5

  abbrev q7 : Plan
  q7 = all_statements trees (outermost s.end) q6

  abbrev q8 : Plan
  q8 = all_left s.at f.scope q7

  abbrev q9 : Plan
  q9 = all_left s.at ns q8

  abbrev q10 : Plan
  q10 = begun s.end q9

  abbrev plan : Plan
  plan = functions.called s f (no_plan f.labels)

  -- ---- the works of each step

  abbrev first : List Job
  first = jobs.Ready (Mark (f.labels + 1)) ∷ []

  abbrev entered : List Job
  entered = object_jobs act.Enter s.at ns (length q1.names)

  abbrev result : List Job
  result = result_jobs s.at (is_void f.returns) (length q2.names)

  abbrev stored : List Job
  stored = argument_jobs s.at f ns (length q3.names)

  abbrev second : List Job
  second = jobs.Ready (Mark ((f.labels + 1) + 1)) ∷ []

  abbrev begins : List Job
  begins = object_jobs act.Enter s.at f.scope (length q5.names)

  abbrev inner : List Job
  inner = statement_jobs trees (outermost s.end)

  abbrev ends : List Job
  ends = object_jobs act.Leave s.at f.scope (length q7.names)

  abbrev left : List Job
  left = object_jobs act.Leave s.at ns (length q8.names)

  abbrev last : List Job
  last = jobs.Ready (Mark s.end) ∷ []

  abbrev gives : List Job
  gives = outcome_jobs s.at (scalar_of f.returns) (is_void f.returns) (length q10.names)

  abbrev start : List Job
  start = first ++ (entered ++ (result ++ (stored ++ second)))

  abbrev middle : List Job
  middle = begins ++ (inner ++ ends)

  abbrev has : List NameView
  has = result_names (is_void f.returns)

  -- ---- from each step to the whole plan

  z10 : Adds gives has q10 plan
  z10 = adds_outcome s.at f.returns q10

  z9 : Adds (last ++ gives) ([] ++ has) q9 plan
  z9 = adds_then last gives [] has q9 q10 plan (adds_work (jobs.Ready (Mark s.end)) q9) z10

  z8 : Adds (left ++ (last ++ gives)) (locals ns ++ ([] ++ has)) q8 plan
  z8 = adds_then left (last ++ gives) (locals ns) ([] ++ has) q8 q9 plan (adds_left s.at ns q8) z9

  abbrev names8 : List NameView
  names8 = locals ns ++ ([] ++ has)

  z7 : Adds (ends ++ (left ++ (last ++ gives))) (locals f.scope ++ names8) q7 plan
  z7 = adds_then ends (left ++ (last ++ gives)) (locals f.scope) names8 q7 q8 plan (adds_left s.at f.scope q7) z8

  z6 : Adds (inner ++ (ends ++ (left ++ (last ++ gives)))) ([] ++ (locals f.scope ++ names8)) q6 plan
  z6 = adds_then inner (ends ++ (left ++ (last ++ gives))) [] (locals f.scope ++ names8) q6 q7 plan (adds_statements trees (outermost s.end) q6) z7

  abbrev names6 : List NameView
  names6 = [] ++ (locals f.scope ++ names8)

  z5 : Adds (begins ++ (inner ++ (ends ++ (left ++ (last ++ gives))))) (locals f.scope ++ names6) q5 plan
  z5 = adds_then begins (inner ++ (ends ++ (left ++ (last ++ gives)))) (locals f.scope) names6 q5 q6 plan (adds_entered s.at f.scope q5) z6

  abbrev behind : List Job
  behind = begins ++ (inner ++ (ends ++ (left ++ (last ++ gives))))

  abbrev names5 : List NameView
  names5 = locals f.scope ++ names6

  z4 : Adds (second ++ behind) ([] ++ names5) q4 plan
  z4 = adds_then second behind [] names5 q4 q5 plan (adds_work (jobs.Ready (Mark ((f.labels + 1) + 1))) q4) z5

  z3 : Adds (stored ++ (second ++ behind)) (locals ns ++ ([] ++ names5)) q3 plan
  z3 = adds_then stored (second ++ behind) (locals ns) ([] ++ names5) q3 q4 plan (adds_arguments s.at f ns q3) z4

  abbrev names3 : List NameView
  names3 = locals ns ++ ([] ++ names5)

  z2 : Adds (result ++ (stored ++ (second ++ behind))) (has ++ names3) q2 plan
  z2 = adds_then result (stored ++ (second ++ behind)) has names3 q2 q3 plan (adds_result s.at f.returns q2) z3

  z1 : Adds (entered ++ (result ++ (stored ++ (second ++ behind)))) (locals ns ++ (has ++ names3)) q1 plan
  z1 = adds_then entered (result ++ (stored ++ (second ++ behind))) (locals ns) (has ++ names3) q1 q2 plan (adds_entered s.at ns q1) z2

  z0 : Adds (first ++ (entered ++ (result ++ (stored ++ (second ++ behind))))) ([] ++ (locals ns ++ (has ++ names3))) q0 plan
  z0 = adds_then first (entered ++ (result ++ (stored ++ (second ++ behind)))) [] (locals ns ++ (has ++ names3)) q0 q1 plan (adds_work (jobs.Ready (Mark (f.labels + 1))) q0) z1

  planned : plan.jobs ≡ start ++ (middle ++ (left ++ (last ++ gives)))
  planned = z0.jobs ∙ ap (λ js. js ++ (first ++ (entered ++ (result ++ (stored ++ (second ++ behind)))))) (starts_empty f.labels) ∙ five first entered result stored second behind ∙ ap (λ js. start ++ js) (three begins inner ends (left ++ (last ++ gives)))

  -- ---- the pieces

  made : IsDerived s plan (t.of g)
  made = derived s plan (t.of g) e.template

  fits : IsOfUnit a s
  fits = record { structs = refl; pointer = refl; int = refl; place = sym (ap place_of e.is); once = λ l less. marked_once t.unit.structs t.unit.model.pointer t.unit.model.int f false (t.of g) e.template e.labelled e.few_labels l }

  known : IsKnown a made.last
  known = record { names = λ base name there. subst (λ ns. slice_get ns base ≡ Some name) (sym made.names) there; labels = subst (λ l. l ≤ 2 ^ 32 - 1) made.labels e.few_labels }

  whole : Makes s (planless plan) (start ++ (middle ++ (left ++ (last ++ gives)))) (pieces a) made.last
  whole = subst (λ ks. Makes s (planless plan) ks (pieces a) made.last) planned made.pieces

  known_all : IsKnown a (planless plan)
  known_all = known_between s a (planless plan) (start ++ (middle ++ (left ++ (last ++ gives)))) (pieces a) made.last whole known

  x : Parted s (planless plan) start (middle ++ (left ++ (last ++ gives))) (pieces a) made.last
  x = parted s (planless plan) start (middle ++ (left ++ (last ++ gives))) (pieces a) made.last whole

  y : Parted s x.between middle (left ++ (last ++ gives)) x.back made.last
  y = parted s x.between middle (left ++ (last ++ gives)) x.back made.last x.second

  z : Parted s y.between left (last ++ gives) y.back made.last
  z = parted s y.between left (last ++ gives) y.back made.last y.second

  h : Headed s z.between (Mark s.end) gives z.back made.last
  h = headed s z.between (Mark s.end) gives z.back made.last z.second

  stands_all : Stands a (pieces a ++ [])
  stands_all = record { front = []; all = sym (append-nil (pieces a)) }

  stands_start : Stands a (x.front ++ (x.back ++ []))
  stands_start = split s a 0 (pieces a) x.front x.back [] x.all stands_all

  stands_middle : Stands a (y.front ++ (y.back ++ []))
  stands_middle = split s a 0 x.back y.front y.back [] y.all (stands_behind a x.front (x.back ++ []) stands_start)

  stands_left : Stands a (z.front ++ (z.back ++ []))
  stands_left = split s a 0 y.back z.front z.back [] z.all (stands_behind a y.front (y.back ++ []) stands_middle)

  stands_last : Stands a (Mark s.end ∷ (h.back ++ []))
  stands_last = subst (λ ps. Stands a (ps ++ [])) h.is (stands_behind a z.front (z.back ++ []) stands_left)

  none_x : x.between.jobs ≡ []
  none_x = jobs_none s (planless plan) start x.front x.between x.first refl

  none_y : y.between.jobs ≡ []
  none_y = jobs_none s x.between middle y.front y.between y.first none_x

  none_z : z.between.jobs ≡ []
  none_z = jobs_none s y.between left z.front z.between z.first none_y

  -- ---- behind the body

  has_outcome : has ≡ Outcome ∷ [] → Names a (length q10.names) Outcome
  has_outcome is = outcome_named a (planless plan) q10.names has [] known_all (z10.names ∙ ap (λ xs. q10.names ++ xs) (sym (append-nil has))) is

  end_simulates : (n : ℕ) → Simulates a n 0 (epilogue f caller) (h.back ++ [])
  end_simulates n = subst (λ is. Simulates a n 0 is (h.back ++ [])) (append-nil (epilogue f caller))
      ((epilogue_runs a s fits f e.is n caller callers refl s.at (length q10.names) is_called.gives has_outcome).from z.between none_z h.back made.last h.made known [] [] (stands_behind a (Mark s.end ∷ []) (h.back ++ []) stands_last) (gives_back n caller callers refl))

  few : s.end < 2 ^ 32 - 1
  few = within f.labels plan.labels made.last.labels (z0.labels ∙ starts_with f.labels) (grows s (planless plan) (start ++ (middle ++ (left ++ (last ++ gives)))) (pieces a) made.last whole).labels known.labels
    where
      within : (l m k : ℕ) → m ≡ (l + 1) + 2 → m ≤ k → k ≤ 2 ^ 32 - 1 → l < 2 ^ 32 - 1
      within l m k e le few = omega (arith, e, le, few)

  ends_there : Ends s a f
  ends_there = parts_of.goes_back refl refl caller callers refl (h.back ++ []) (leads a s.end (h.back ++ []) (fits.once s.end few) stands_last) end_simulates

  after_body : (n : ℕ) → Simulates a n 0 (item.EndBody ∷ []) (y.back ++ [])
  after_body n =
      let named = named_from a (planless plan) q8.names ns ([] ++ has) known_all z8.names in
      let runs : Runs s a n left (item.Leaves ns ∷ []) 0 0 = subst (λ at. Runs s a n (object_jobs act.Leave at ns (length q8.names)) (item.Leaves ns ∷ []) 0 0) (sym fits.place) (leaves s a fits n ns (length q8.names) 0 named) in
      let behind_it : Simulates a n 0 (epilogue f caller) (z.back ++ []) = subst (λ ps. Simulates a n 0 (epilogue f caller) (ps ++ [])) (sym h.is) (simulates.by_mark n 0 s.end (epilogue f caller) (h.back ++ []) (end_simulates n)) in
      let all = runs.from y.between none_y z.front z.between z.first (known_between s a z.between (last ++ gives) z.back made.last z.second known) (epilogue f caller) (z.back ++ []) stands_left behind_it in
      gives_end_body n 0 f [] (y.back ++ []) e.is (joined s a n 0 (item.Leaves ns ∷ epilogue f caller) y.back z.front z.back [] z.all all)

  -- ---- the body, and before it the prologue

  start_is_terms : AreTerms start
  start_is_terms = (
    tt,
    terms_both entered (result ++ (stored ++ second)) (objects_are_terms act.Enter s.at ns (length q1.names))
        (terms_both result (stored ++ second) (results_are_terms s.at (is_void f.returns) (length q2.names))
        (terms_both stored second (arguments_are_terms s.at f ns (length q3.names)) (tt, tt))),
  )

  in_two : position x.between ≡ numbers 2 0
  in_two = (scopes_kept s (planless plan) start x.front x.between x.first tt start_is_terms).0 ∙ z0.scopes ∙ starts_in f.labels

  -- labels are given away behind those of the function
  labels_more : f.labels ≤ x.between.labels
  labels_more = within f.labels plan.labels x.between.labels (z0.labels ∙ starts_with f.labels) (grows s (planless plan) start x.front x.between x.first).labels
    where
      within : (l m k : ℕ) → m ≡ (l + 1) + 2 → m ≤ k → l ≤ k
      within l m k e le = omega (arith, e, le)

  body_simulates : (n : ℕ) → Simulates a n 0 (body f) (x.back ++ [])
  body_simulates n =
      let named = named_from a (planless plan) q5.names f.scope names6 known_all z5.names in
      let again = named_from a (planless plan) q7.names f.scope names8 known_all z7.names in
      let all = body_from s a fits f (has_labels s a f e.is refl e.apart e.suits e.labelled) ends_there e.suits e.labelled n (length q5.names) (length q7.names) named again x.between none_x in_two labels_more y.front y.between y.first (known_between s a y.between (left ++ (last ++ gives)) y.back made.last y.second known) (y.back ++ []) stands_middle (after_body n) in
      subst (λ is. Simulates a n 0 is (x.back ++ [])) (body_is f) (joined s a n 0 (body_items f (item.EndBody ∷ [])) x.back y.front y.back [] y.all all)

  result_there : has ≡ Outcome ∷ [] → Names a (length q2.names) Outcome
  result_there is = outcome_named a (planless plan) q2.names has names3 known_all z2.names is

  pub called_simulates : (n : ℕ) → Simulates a n f.parameters (prologue f f.parameters ++ body f) (pieces a)
  called_simulates n =
      let named = named_from a (planless plan) q1.names ns (has ++ names3) known_all z1.names in
      let again = named_from a (planless plan) q3.names ns ([] ++ names5) known_all z3.names in
      let runs = prologue_runs a s fits f e.is n (f.labels + 1) ((f.labels + 1) + 1) (length q1.names) (length q2.names) (length q3.names) named result_there again in
      let all = runs.from (planless plan) refl x.front x.between x.first (known_between s a x.between (middle ++ (left ++ (last ++ gives))) x.back made.last x.second known) (body f) (x.back ++ []) stands_start (body_simulates n) in
      subst (λ ps. Simulates a n f.parameters (prologue f f.parameters ++ body f) ps) (append-nil (pieces a)) (joined s a n f.parameters (prologue f f.parameters ++ body f) (pieces a) x.front x.back [] x.all all)

pub all_simulate : (t : Templates) → EntryIsNotCalled t → AreMade t → AllSimulate t
all_simulate t never made h g f caller callers reached calls is n =
    let differs : g ≡ t.unit.entry → ⊥ = λ same. never h reached (subst (λ k. CallsThere (t.of h).pieces k) same calls) in
    called_simulates t g f (made g f (simulates.called h g reached calls) is.is differs) caller callers is n
