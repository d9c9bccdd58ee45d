-- What is planned for a function that is called: its parameters, its body, and what comes behind.
use Rattle.std.proofs.Common.{◌≡◌, ℕ, suc, Bool, true, false, cond, List, [], ◌∷◌, ◌++◌, length, None, refl, arith, ap, sym, subst, ◌∙◌, append_assoc, length-append}
use Rattle.std.proofs.lemmas.List.{append-nil}
use Rattle.cc_base.specs.declared.diagnostics.Place.{Place}
use Rattle.c_layout.specs.Types.{Ty}
use Rattle.c_layout.specs.CheckedTrees as tree
use Rattle.c_layout.specs.CheckedTrees.{StatementTrees}
use Rattle.c_layout.specs.CheckedUnits.{FunctionView}
use Rattle.cfg.specs.declared.machine_instructions.Scalar as declared
use Rattle.lower_templates.specs.Worklist.Acts as act
use Rattle.lower_templates.specs.Worklist.Acts.{Act}
use Rattle.lower_templates.specs.Worklist.Pieces.{NameView, Local, Outcome, DoIfUsed}
use Rattle.lower_templates.specs.Worklist.Plans.{Plan, with_work, with_name, done}
use Rattle.lower_templates.specs.Worklist.TermKinds.{scalar_of, is_void}
use Rattle.lower_templates.specs.Worklist.Works as jobs
use Rattle.lower_templates.specs.Worklist.Works.{Job}
use Rattle.lower_templates.specs.declared.worklist.pending_works.Surroundings.{Surroundings}
use Rattle.lower_functions.specs.Statements.ScopeJumps.{all_entered, all_left}
use Rattle.lower_functions.specs.Statements.PlainStatements.{all_statements}
use Rattle.lower_functions.specs.Functions.Functions as functions
use Rattle.lower_functions.specs.Functions.Functions.{local_type}
use Rattle.simulation_terms.specs.SimulationRelation.Simulates.{at_place}
use Rattle.simulation_terms.proofs.scopes.Objects.{object_jobs, Planned, entered_planned, left_planned, locals}
use Rattle.simulation_terms.proofs.scopes.Positions.{position}
use Rattle.simulation_statements.proofs.statements.Sequences.{statement_jobs}

-- a plan has such works and names more than another one
pub record Adds (js : List Job) (ns : List NameView) (p q : Plan) : Type 0 where
  pub jobs : q.jobs ≡ p.jobs ++ js
  pub names : q.names ≡ p.names ++ ns
  pub labels : q.labels ≡ p.labels
  pub scopes : position q ≡ position p

pub adds_then : (js ks : List Job) (ns ms : List NameView) (p q r : Plan) → Adds js ns p q → Adds ks ms q r → Adds (js ++ ks) (ns ++ ms) p r
adds_then js ks ns ms p q r a b = record {
  jobs = b.jobs ∙ ap (λ xs. xs ++ ks) a.jobs ∙ append_assoc p.jobs js ks;
  names = b.names ∙ ap (λ xs. xs ++ ms) a.names ∙ append_assoc p.names ns ms;
  labels = b.labels ∙ a.labels;
  scopes = b.scopes ∙ a.scopes;
}

adds_planned : {does : ℕ → Act} {at : Place} {xs : List ℕ} {p q : Plan} → Planned does at xs p q → Adds (object_jobs does at xs (length p.names)) (locals xs) p q
adds_planned x = record { jobs = x.jobs; names = x.names; labels = x.labels; scopes = x.scopes }

pub adds_entered : (at : Place) (xs : List ℕ) (p : Plan) → Adds (object_jobs act.Enter at xs (length p.names)) (locals xs) p (all_entered at xs p)
adds_entered at xs p = adds_planned (entered_planned at xs p)

pub adds_left : (at : Place) (xs : List ℕ) (p : Plan) → Adds (object_jobs act.Leave at xs (length p.names)) (locals xs) p (all_left at xs p)
adds_left at xs p = adds_planned (left_planned at xs p)

pub adds_work : (j : Job) (p : Plan) → Adds (j ∷ []) [] p (with_work j p)
unfolding with_work
adds_work j p = record { jobs = refl; names = sym (append-nil p.names); labels = refl; scopes = refl }

adds_name : (x : NameView) (p : Plan) → Adds [] (x ∷ []) p (with_name x p)
unfolding with_name
adds_name x p = record { jobs = sym (append-nil p.jobs); names = refl; labels = refl; scopes = refl }

adds_none : (p : Plan) → Adds [] [] p p
adds_none p = record { jobs = sym (append-nil p.jobs); names = sym (append-nil p.names); labels = refl; scopes = refl }

pub adds_statements : (items : StatementTrees) (around : Surroundings) (p : Plan) → Adds (statement_jobs items around) [] p (all_statements items around p)
adds_statements tree.NoMore around p = adds_none p
adds_statements (tree.And first rest) around p =
    let q = with_work (jobs.Statement first around) p in
    adds_then (jobs.Statement first around ∷ []) (statement_jobs rest around) [] [] p q (all_statements rest around q) (adds_work (jobs.Statement first around) p) (adds_statements rest around q)

-- ---- the object of the result is entered

abbrev pub result_jobs : Place → Bool → ℕ → List Job
result_jobs at true base = []
result_jobs at false base = jobs.Ready (at_place at (act.Enter base)) ∷ []

abbrev pub result_names : Bool → List NameView
result_names true = []
result_names false = Outcome ∷ []

pub adds_result : (at : Place) (t : Ty) (p : Plan) → Adds (result_jobs at (is_void t) (length p.names)) (result_names (is_void t)) p (functions.result_entered at t p)
adds_result at t p = by (is_void t)
  where
    by : (b : Bool) → Adds (result_jobs at b (length p.names)) (result_names b) p (cond b p (done at (act.Enter (length p.names)) (with_name Outcome p)))
    by true = adds_none p
    by false =
        let q = with_name Outcome p in
        adds_then [] (jobs.Ready (at_place at (act.Enter (length p.names))) ∷ []) (Outcome ∷ []) [] p q (done at (act.Enter (length p.names)) q) (adds_name Outcome p) (adds_work (jobs.Ready (at_place at (act.Enter (length p.names)))) q)

-- ---- arguments are stored

abbrev pub argument_jobs : Place → FunctionView → List ℕ → ℕ → List Job
argument_jobs at f [] base = []
argument_jobs at f (n ∷ ns) base = jobs.Ready (at_place at (act.Address f.parameters base 0)) ∷ (jobs.Ready (at_place at (act.Store f.parameters n (scalar_of (local_type f n)) None)) ∷ argument_jobs at f ns (suc base))

next_base : (names : List NameView) (x : NameView) → length (names ++ x ∷ []) ≡ suc (length names)
next_base names x = let e = length-append names (x ∷ []) in omega (arith, e)

adds_argument : (at : Place) (f : FunctionView) (n : ℕ) (p : Plan) → Adds (jobs.Ready (at_place at (act.Address f.parameters (length p.names) 0)) ∷ (jobs.Ready (at_place at (act.Store f.parameters n (scalar_of (local_type f n)) None)) ∷ [])) (Local n ∷ []) p (functions.argument at f.parameters n (scalar_of (local_type f n)) p)
adds_argument at f n p =
    let first = jobs.Ready (at_place at (act.Address f.parameters (length p.names) 0)) in
    let second = jobs.Ready (at_place at (act.Store f.parameters n (scalar_of (local_type f n)) None)) in
    let q = with_name (Local n) p in
    adds_then [] (first ∷ (second ∷ [])) (Local n ∷ []) [] p q (with_work second (with_work first q)) (adds_name (Local n) p)
    (adds_then (first ∷ []) (second ∷ []) [] [] q (with_work first q) (with_work second (with_work first q)) (adds_work first q) (adds_work second (with_work first q)))

pub adds_arguments : (at : Place) (f : FunctionView) (ns : List ℕ) (p : Plan) → Adds (argument_jobs at f ns (length p.names)) (locals ns) p (functions.arguments at f ns p)
adds_arguments at f [] p = adds_none p
adds_arguments at f (n ∷ ns) p =
    let q = functions.argument at f.parameters n (scalar_of (local_type f n)) p in
    let one = adds_argument at f n p in
    let all = adds_then (jobs.Ready (at_place at (act.Address f.parameters (length p.names) 0)) ∷ (jobs.Ready (at_place at (act.Store f.parameters n (scalar_of (local_type f n)) None)) ∷ [])) (argument_jobs at f ns (length q.names)) (Local n ∷ []) (locals ns) p q (functions.arguments at f ns q) one (adds_arguments at f ns q) in
    subst (λ base. Adds (jobs.Ready (at_place at (act.Address f.parameters (length p.names) 0)) ∷ (jobs.Ready (at_place at (act.Store f.parameters n (scalar_of (local_type f n)) None)) ∷ argument_jobs at f ns base)) (Local n ∷ locals ns) p (functions.arguments at f ns q)) (ap (λ ns. length ns) one.names ∙ next_base p.names (Local n)) all

-- ---- the result is given

abbrev pub outcome_jobs : Place → declared.Scalar → Bool → ℕ → List Job
outcome_jobs at kind true base = []
outcome_jobs at kind false base = jobs.Ready (DoIfUsed (record { at = at; does = act.Address 0 base 0 })) ∷ (jobs.Ready (DoIfUsed (record { at = at; does = act.Load 0 0 kind })) ∷ (jobs.Ready (at_place at (act.Leave base)) ∷ []))

pub adds_outcome : (at : Place) (t : Ty) (p : Plan) → Adds (outcome_jobs at (scalar_of t) (is_void t) (length p.names)) (result_names (is_void t)) p (functions.outcome at t p)
adds_outcome at t p = by (is_void t)
  where
    by : (b : Bool) → Adds (outcome_jobs at (scalar_of t) b (length p.names)) (result_names b) p (cond b p (functions.result_loaded at (scalar_of t) p))
    by true = adds_none p
    by false =
        let first = jobs.Ready (DoIfUsed (record { at = at; does = act.Address 0 (length p.names) 0 })) in
        let second = jobs.Ready (DoIfUsed (record { at = at; does = act.Load 0 0 (scalar_of t) })) in
        let third = jobs.Ready (at_place at (act.Leave (length p.names))) in
        let q = with_name Outcome p in
        let x = with_work first q in
        let y = with_work second x in
        adds_then [] (first ∷ (second ∷ (third ∷ []))) (Outcome ∷ []) [] p q (with_work third y) (adds_name Outcome p)
        (adds_then (first ∷ []) (second ∷ (third ∷ [])) [] [] q x (with_work third y) (adds_work first q)
        (adds_then (second ∷ []) (third ∷ []) [] [] x y (with_work third y) (adds_work second x) (adds_work third y)))
