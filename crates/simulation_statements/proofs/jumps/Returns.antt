-- `return`.
use Rattle.std.proofs.Common.{◌≡◌, ◌≤◌, ℕ, ◌+◌, ◌-◌, ◌^◌, true, false, cond, List, [], ◌∷◌, ◌++◌, length, Option, Some, None, slice_get, refl, arith, ap, sym, subst, ◌∙◌, append_assoc}
use Rattle.std.proofs.lemmas.List.{append-nil}
use Rattle.cc_base.specs.declared.diagnostics.Place.{Place}
use Rattle.c_layout.specs.CheckedUnits.{FunctionView}
use Rattle.c_layout.specs.CheckedTrees as tree
use Rattle.c_layout.specs.CheckedTrees.{TermTree}
use Rattle.lower_templates.specs.Worklist.Acts as act
use Rattle.lower_templates.specs.Worklist.Pieces.{NameView, Outcome, PieceView, End}
use Rattle.lower_templates.specs.Worklist.Plans.{Plan, with_work, with_name}
use Rattle.lower_templates.specs.Worklist.Settings.{SettingView}
use Rattle.lower_templates.specs.Worklist.TermKinds.{scalar_of, term_type}
use Rattle.lower_templates.specs.Worklist.Works as jobs
use Rattle.lower_templates.specs.Worklist.Works.{Job}
use Rattle.lower_templates.specs.declared.worklist.pending_works.Surroundings.{Surroundings}
use Rattle.lower_expressions.specs.Branches as branches
use Rattle.lower_functions.specs.Statements.ScopeJumps.{way_between, all_left}
use Rattle.lower_functions.specs.Statements.Jumps as lowered
use Rattle.lower_functions.specs.Functions.Functions.{numbers_from}
use Rattle.lower_functions.specs.Functions.Turns.{planless}
use Rattle.lower_functions.proofs.StatementPlans.{kept_return}
use Rattle.lower_template_theorems.specs.Worklists.Derivations.{Makes}
use Rattle.semantics.specs.SourceMachine.CallSteps.{behind_body, epilogue}
use Rattle.semantics.specs.SourceMachine.StatementItems.{of_statement, returned}
use Rattle.semantics.specs.SourceMachine.Items as item
use Rattle.semantics.specs.SourceMachine.Items.{Item}
use Rattle.semantics.specs.SourceMachine.Operations as op
use Rattle.semantics.specs.SourceMachine.Scopes.{all_of, open_scopes}
use Rattle.semantics.specs.SourceMachine.SourceStates.{Frame, function_at}
use Rattle.semantics.specs.SourceMachine.SourceSteps.{is_entry}
use Rattle.simulation_terms.specs.SimulationRelation.Activations.{Activation, of_entry}
use Rattle.simulation_terms.specs.SimulationRelation.Simulates.{Names, Leads, Simulates, at_place, own}
use Rattle.simulation_terms.proofs.simulation_relation.Constructions.{gives_statement, gives_return, gives_end, gives_outcome}
use Rattle.simulation_terms.specs.Worklists.Rooms.{room}
use Rattle.simulation_terms.specs.Worklists.TemplateParts as parts_of
use Rattle.simulation_terms.specs.Worklists.TemplateParts.{IsOfUnit, IsKnown, Stands, Ends}
use Rattle.simulation_terms.proofs.worklists.Runs.{Runs, then, piece_first, dropped}
use Rattle.simulation_terms.proofs.worklists.Assignments.{one_more_job, nothing_done, stores}
use Rattle.simulation_terms.proofs.terms.Choices.{jumping, hops}
use Rattle.simulation_terms.proofs.terms.Terms.{terms}
use Rattle.simulation_terms.specs.Scopes.SuitedStatements.{Enclosure, SuitsAsReturned}
use Rattle.simulation_terms.specs.Scopes.Contexts.{Within}
use Rattle.simulation_terms.proofs.scopes.Positions.{Position}
use Rattle.simulation_terms.proofs.scopes.KeptScopes.{AreTerms, keeping}
use Rattle.simulation_terms.proofs.scopes.InScopes.{Goes, gives_way}
use Rattle.simulation_terms.proofs.scopes.Objects.{object_jobs, left_planned, named_from, locals, leaves}
use Rattle.simulation_terms.proofs.scopes.Ways.{way_up, chain_there, chain_home}
use Rattle.simulation_statements.proofs.jumps.Jumps.{work_names, no_scopes, leaves_and, works_and}

-- ---- the value that is given

abbrev outcome_jobs : Place → Option TermTree → ℕ → List Job
outcome_jobs at None base = []
outcome_jobs at (Some e) base = jobs.Ready (at_place at (act.Address 0 base 0)) ∷ (jobs.Value e 1 ∷ (jobs.Ready (at_place at (act.Store 0 1 (scalar_of (term_type e)) None)) ∷ []))

abbrev outcome_names : Option TermTree → List NameView
outcome_names None = []
outcome_names (Some e) = Outcome ∷ []

abbrev outcome_plan : Place → Option TermTree → Plan → Plan
outcome_plan at None p = p
outcome_plan at (Some e) p = lowered.outcome at e p

record Given (at : Place) (e : Option TermTree) (p q : Plan) : Type 0 where
  jobs : q.jobs ≡ outcome_jobs at e (length p.names)
  names : q.names ≡ p.names ++ outcome_names e

outcome_given : (at : Place) (e : Option TermTree) (p : Plan) → p.jobs ≡ [] → Given at e p (outcome_plan at e p)
unfolding with_work with_name
outcome_given at None p none = record { jobs = none; names = sym (append-nil p.names) }
outcome_given at (Some e) p none = record { jobs = ap (λ js. ((js ++ jobs.Ready (at_place at (act.Address 0 (length p.names) 0)) ∷ []) ++ jobs.Value e 1 ∷ []) ++ jobs.Ready (at_place at (act.Store 0 1 (scalar_of (term_type e)) None)) ∷ []) none; names = refl }

one_less : (e : TermTree) → 1 + room e ≤ 2 ^ 32 - 1 → 0 + room e ≤ 2 ^ 32 - 1
one_less e le = omega (arith, le)

module _ (s : SettingView) (t : Activation) (fits : IsOfUnit t s) (n : ℕ) (around : Surroundings) (looping : Enclosure) (known : List ℕ) (c : Position) (f : FunctionView) (is_f : function_at t.unit t.function ≡ Some f) where
  abbrev ToReturn : Place → Option TermTree → Type 0
  ToReturn at e = (p : Plan) → p.jobs ≡ [] → (ps : List PieceView) (r : Plan) → Makes s (planless (lowered.giving s at e around p)) (lowered.giving s at e around p).jobs ps r → IsKnown t r → (items : List Item) (rest : List PieceView) → Stands t (ps ++ rest) → Within s t n around looping known items → Simulates t n 0 (of_statement t.unit (of_entry t) (tree.Return at e) ++ items) (ps ++ rest)

  -- ---- from the entry

  abbrev value_jobs : Option TermTree → List Job
  value_jobs None = []
  value_jobs (Some e) = jobs.Value e 0 ∷ []

  abbrev value_items : Option TermTree → List Item
  value_items None = []
  value_items (Some e) = item.Value e ∷ (item.Drop ∷ [])

  abbrev value_plan : Option TermTree → Plan → Plan
  value_plan None p = p
  value_plan (Some e) p = with_work (jobs.Value e 0) p

  value_planned : (e : Option TermTree) (p : Plan) → p.jobs ≡ [] → (value_plan e p).jobs ≡ value_jobs e
  value_planned None p none = none
  value_planned (Some e) p none = one_more_job [] (jobs.Value e 0) p none

  value_runs : (e : Option TermTree) → SuitsAsReturned t.unit e → Runs s t n (value_jobs e) (value_items e) 0 0
  value_runs None suits = nothing_done s t n 0
  value_runs (Some e) suits = dropped s t n (jobs.Value e 0 ∷ []) (item.Value e ∷ []) 0 ((terms s t fits n e).value 0 suits.0 (one_less e suits.1))

  value_is : (at : Place) (e : Option TermTree) (p : Plan) → s.is_entry ≡ true → lowered.given s at e p ≡ value_plan e p
  value_is at None p is = refl
  value_is at (Some e) p is = ap (λ b. cond b (with_work (jobs.Value e 0) p) (lowered.outcome at e p)) is

  value_returned : (at : Place) (e : Option TermTree) → of_entry t ≡ true → of_statement t.unit (of_entry t) (tree.Return at e) ≡ value_items e ++ item.LeaveFunction ∷ []
  value_returned at None is = refl
  value_returned at (Some e) is = ap (λ b. returned b at (Some e) ++ item.LeaveFunction ∷ []) is

  from_entry : (at : Place) (e : Option TermTree) → SuitsAsReturned t.unit e → s.is_entry ≡ true → t.callers ≡ [] → ToReturn at e
  from_entry at e suits is none_wait p none ps r m known items rest stands k =
      let xs = all_of (open_scopes items) in
      let g = value_plan e p in
      let q = all_left s.at xs g in
      let all = lowered.stopped at q in
      let is_all : lowered.giving s at e around p ≡ all = ap (lowered.end s at around.scope) (value_is at e p is) ∙ ap (λ b. cond b (lowered.stopped at (way_between s around.scope 0 g)) (lowered.exit s (way_between s around.scope 0 g))) is ∙ ap (lowered.stopped at) (way_up s s.scopes.scopes around.scope 0 xs (chain_home s around.scope (open_scopes items) k.chain) (chain_there s around.scope (open_scopes items) k.chain) g) in
      let last = End (record { at = at; does = act.Stop }) [] in
      let entry : of_entry t ≡ true = ap is_entry none_wait in
      subst (λ is. Simulates t n 0 (is ++ items) (ps ++ rest)) (sym (value_returned at e entry))
      (subst (λ is. Simulates t n 0 is (ps ++ rest)) (sym (append_assoc (value_items e) (item.LeaveFunction ∷ []) items))
      (leaves_and s t fits n q xs g (left_planned s.at xs g) (value_jobs e) (value_items e) (value_planned e p none) (value_runs e suits) last all (one_more_job q.jobs (jobs.Ready last) q refl) (work_names (jobs.Ready last) q) ps r (subst (λ x. Makes s (planless x) x.jobs ps r) is_all m) known [] (item.LeaveFunction ∷ items) rest stands
      (λ w h. gives_return n 0 f items w is_f (subst (λ callers. Simulates t n 0 (item.Leaves xs ∷ behind_body f (item.Hop ∷ []) callers) w) (sym none_wait) h)) (λ w. gives_end n 0 at w entry)))

  -- ---- from a function that was called

  abbrev outcome_items : Place → Option TermTree → List Item
  outcome_items at None = []
  outcome_items at (Some e) = item.Outcome at ∷ (item.Value e ∷ (item.Do at (op.Store (scalar_of (term_type e))) ∷ (item.Drop ∷ [])))

  outcome_runs : (at : Place) (e : Option TermTree) (base : ℕ) → SuitsAsReturned t.unit e → (outcome_names e ≡ Outcome ∷ [] → Names t base Outcome) → Runs s t n (outcome_jobs at e base) (outcome_items at e) 0 0
  outcome_runs at None base suits named = nothing_done s t n 0
  outcome_runs at (Some e) base suits named =
      then s t n (jobs.Ready (at_place at (act.Address 0 base 0)) ∷ []) _ (item.Outcome at ∷ []) _ 0 1 0 (piece_first s t n (at_place at (act.Address 0 base 0)) (item.Outcome at ∷ []) 0 1 (λ items rest go. gives_outcome n 0 base at f items rest is_f (named refl) go))
      (then s t n (jobs.Value e 1 ∷ []) _ (item.Value e ∷ []) _ 1 2 0 ((terms s t fits n e).value 1 suits.0 suits.1) (stores s t n 0 at (scalar_of (term_type e))))

  outcome_is : (at : Place) (e : Option TermTree) (p : Plan) → s.is_entry ≡ false → lowered.given s at e p ≡ outcome_plan at e p
  outcome_is at None p is = refl
  outcome_is at (Some e) p is = ap (λ b. cond b (with_work (jobs.Value e 0) p) (lowered.outcome at e p)) is

  outcome_returned : (at : Place) (e : Option TermTree) → of_entry t ≡ false → of_statement t.unit (of_entry t) (tree.Return at e) ≡ outcome_items at e ++ item.LeaveFunction ∷ []
  outcome_returned at None is = refl
  outcome_returned at (Some e) is = ap (λ b. returned b at (Some e) ++ item.LeaveFunction ∷ []) is

  -- the first of some names
  first_named : (q : Plan) (before : List NameView) (e : Option TermTree) (after : List NameView) → IsKnown t q → q.names ≡ before ++ (outcome_names e ++ after) → outcome_names e ≡ Outcome ∷ [] → Names t (length before) Outcome
  first_named q before e after known_all is has = known_all.names (length before) Outcome (subst (λ ns. slice_get ns (length before) ≡ Some Outcome) (sym (is ∙ ap (λ ns. before ++ (ns ++ after)) has)) (there before))
    where
      there : (xs : List NameView) → slice_get (xs ++ (Outcome ∷ after)) (length xs) ≡ Some Outcome
      there [] = refl
      there (x ∷ xs) = there xs

  from_called : (at : Place) (e : Option TermTree) → SuitsAsReturned t.unit e → s.is_entry ≡ false → s.parameters ≡ numbers_from 0 f.parameters → (caller : Frame) (callers : List Frame) → t.callers ≡ caller ∷ callers → (there : List PieceView) → Leads t s.end there → ((n : ℕ) → Simulates t n 0 (epilogue f caller) there) → ToReturn at e
  from_called at e suits is parameters caller callers waits there leads end p none ps r m known items rest stands k =
      let xs = all_of (open_scopes items) in
      let g = outcome_plan at e p in
      let given = outcome_given at e p none in
      let q = all_left s.at xs g in
      let q_is = left_planned s.at xs g in
      let z = all_left s.at s.parameters q in
      let z_is = left_planned s.at s.parameters q in
      let last = jumping s.at s.end in
      let all = branches.jump s.at s.end z in
      let is_all : lowered.giving s at e around p ≡ all = ap (lowered.end s at around.scope) (outcome_is at e p is) ∙ ap (λ b. cond b (lowered.stopped at (way_between s around.scope 0 g)) (lowered.exit s (way_between s around.scope 0 g))) is ∙ ap (lowered.exit s) (way_up s s.scopes.scopes around.scope 0 xs (chain_home s around.scope (open_scopes items) k.chain) (chain_there s around.scope (open_scopes items) k.chain) g) in
      let front = outcome_jobs at e (length p.names) in
      let outer = object_jobs act.Leave s.at xs (length g.names) in
      let own_jobs = object_jobs act.Leave s.at s.parameters (length q.names) in
      let names_are : all.names ≡ (g.names ++ locals xs) ++ locals s.parameters = work_names (jobs.Ready last) z ∙ z_is.names ∙ ap (λ ns. ns ++ locals s.parameters) q_is.names in
      let jobs_are : all.jobs ≡ (front ++ (outer ++ own_jobs)) ++ jobs.Ready last ∷ [] =
      one_more_job z.jobs (jobs.Ready last) z refl ∙ ap (λ ks. ks ++ jobs.Ready last ∷ []) (z_is.jobs ∙ ap (λ ks. ks ++ own_jobs) (q_is.jobs ∙ ap (λ ks. ks ++ outer) given.jobs) ∙ append_assoc front outer own_jobs) in
      let first_names : all.names ≡ p.names ++ (outcome_names e ++ (locals xs ++ locals s.parameters)) =
      names_are ∙ append_assoc g.names (locals xs) (locals s.parameters) ∙ ap (λ ns. ns ++ (locals xs ++ locals s.parameters)) given.names ∙ append_assoc p.names (outcome_names e) (locals xs ++ locals s.parameters) in
      let own_names : all.names ≡ q.names ++ (locals s.parameters ++ []) = work_names (jobs.Ready last) z ∙ z_is.names ∙ ap (λ ns. q.names ++ ns) (sym (append-nil (locals s.parameters))) in
      let leaving : List Item = item.Leaves xs ∷ (item.Leaves (numbers_from 0 f.parameters) ∷ []) in
      let left_all : IsKnown t (planless all) → Runs s t n (outer ++ own_jobs) leaving 0 0 = λ known_all.
      then s t n outer own_jobs (item.Leaves xs ∷ []) (item.Leaves (numbers_from 0 f.parameters) ∷ []) 0 0 0
      (subst (λ at. Runs s t n (object_jobs act.Leave at xs (length g.names)) (item.Leaves xs ∷ []) 0 0) (sym fits.place) (leaves s t fits n xs (length g.names) 0 (named_from t (planless all) g.names xs (locals s.parameters) known_all (names_are ∙ append_assoc g.names (locals xs) (locals s.parameters)))))
      (subst (λ at. Runs s t n (object_jobs act.Leave at s.parameters (length q.names)) (item.Leaves (numbers_from 0 f.parameters) ∷ []) 0 0) (sym fits.place)
      (subst (λ ys. Runs s t n (object_jobs act.Leave (own t) s.parameters (length q.names)) (item.Leaves ys ∷ []) 0 0) parameters (leaves s t fits n s.parameters (length q.names) 0 (named_from t (planless all) q.names s.parameters [] known_all own_names)))) in
      let called : of_entry t ≡ false = ap is_entry waits in
      subst (λ is. Simulates t n 0 (is ++ items) (ps ++ rest)) (sym (outcome_returned at e called))
      (subst (λ is. Simulates t n 0 is (ps ++ rest)) (sym (append_assoc (outcome_items at e) (item.LeaveFunction ∷ []) items))
      (works_and s t fits n front (outer ++ own_jobs) (outcome_items at e) leaving last all jobs_are (λ known_all. outcome_runs at e (length p.names) suits (first_named (planless all) p.names e (locals xs ++ locals s.parameters) known_all first_names)) left_all
      ps r (subst (λ x. Makes s (planless x) x.jobs ps r) is_all m) known (item.Hop ∷ epilogue f caller) (item.LeaveFunction ∷ items) rest stands
      (λ w h. gives_return n 0 f items w is_f (subst (λ callers. Simulates t n 0 (item.Leaves xs ∷ behind_body f (item.Hop ∷ []) callers) w) (sym waits) h))
      (λ w. hops s t fits n 0 s.end (epilogue f caller) w there leads (end n))))

  -- ---- both

  returned_from : (at : Place) (e : Option TermTree) → SuitsAsReturned t.unit e → Ends s t f → ToReturn at e
  returned_from at e suits (parts_of.stops is none_wait) = from_entry at e suits is none_wait
  returned_from at e suits (parts_of.goes_back is parameters caller callers waits there leads end) = from_called at e suits is parameters caller callers waits there leads end

  pub returns : Ends s t f → (at : Place) (e : Option TermTree) → SuitsAsReturned t.unit e → Goes s t n c c (Within s t n around looping known) (jobs.Statement (tree.Return at e) around ∷ []) (item.Statement (tree.Return at e) ∷ [])
  returns ends at e suits = gives_way s t n c c (Within s t n around looping known) (jobs.Statement (tree.Return at e) around) (item.Statement (tree.Return at e)) (of_statement t.unit (of_entry t) (tree.Return at e)) refl (gives_statement n 0 (tree.Return at e))
      (λ p none begun ps r m known items rest stands k go. returned_from at e suits ends p none ps r m known items rest stands k)
      (no_scopes s t fits n (jobs.Statement (tree.Return at e) around) c (λ p none. kept_return (keeping p).terms s at e around p (record { scopes = refl; terms = subst AreTerms (sym none) tt })))
