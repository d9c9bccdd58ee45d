-- Declarations and their initializers.
use Rattle.std.proofs.Common.{◌≡◌, ℕ, suc, false, List, [], ◌∷◌, ◌++◌, length, None, refl, arith, ap, sym, subst, ◌∙◌, append_assoc, length-append}
use Rattle.std.proofs.lemmas.List.{append-nil}
use Rattle.cc_base.specs.declared.diagnostics.Place.{Place}
use Rattle.c_layout.specs.Types.{Ty, Struct}
use Rattle.c_layout.specs.CheckedTrees as tree
use Rattle.c_layout.specs.CheckedTrees.{TermTree, LvalueTree, StatementTree, StoreTree, StoreValue, StoreCopy, StoreText}
use Rattle.c_layout.specs.declared.checked_tree.checked_terms.ObjectRef.TheVariants as object
use Rattle.lower_templates.specs.Worklist.Acts as act
use Rattle.lower_templates.specs.Worklist.Pieces.{NameView, Local}
use Rattle.lower_templates.specs.Worklist.Plans.{Plan, with_work, with_name}
use Rattle.lower_templates.specs.Worklist.Settings.{SettingView}
use Rattle.lower_templates.specs.Worklist.TermKinds.{scalar_of, struct_number, term_type, lvalue_type}
use Rattle.lower_templates.specs.Worklist.Works as jobs
use Rattle.lower_templates.specs.Worklist.Works.{Job}
use Rattle.lower_templates.specs.declared.worklist.pending_works.Surroundings.{Surroundings}
use Rattle.lower_functions.specs.Statements.PlainStatements as lowered
use Rattle.lower_functions.specs.Functions.Turns.{planless}
use Rattle.lower_template_theorems.specs.Worklists.Derivations.{parts, Makes}
use Rattle.semantics.specs.SourceMachine.Items as item
use Rattle.semantics.specs.SourceMachine.Items.{Item}
use Rattle.semantics.specs.SourceMachine.Operations as op
use Rattle.semantics.specs.SourceMachine.StatementItems.{of_statement, stored, all_stored}
use Rattle.simulation_terms.specs.Instructions.Acts as acts
use Rattle.simulation_terms.specs.Instructions.Acts.{IsAct}
use Rattle.simulation_terms.specs.SimulationRelation.Activations.{Activation, of_entry}
use Rattle.simulation_terms.specs.SimulationRelation.Simulates.{Names, at_place}
use Rattle.simulation_terms.proofs.simulation_relation.Constructions.{gives_statement, gives_object, gives_change, gives_step, gives_drop}
use Rattle.simulation_terms.specs.Worklists.TemplateParts.{IsOfUnit}
use Rattle.simulation_terms.proofs.worklists.Runs.{Runs, then, piece_first}
use Rattle.simulation_terms.proofs.worklists.Assignments.{one_more_job, nothing_done, stores}
use Rattle.simulation_terms.proofs.worklists.Laying.{known_between}
use Rattle.simulation_terms.proofs.terms.Terms.{terms, places}
use Rattle.simulation_terms.specs.Scopes.SuitedStatements.{SuitsBehind, SuitsAsStore, SuitAsStores}
use Rattle.simulation_terms.proofs.scopes.Positions.{Position, position}
use Rattle.simulation_terms.proofs.scopes.KeptScopes.{AreTerms}
use Rattle.simulation_terms.proofs.scopes.ScopesOfTerms.{scopes_kept}
use Rattle.simulation_terms.proofs.scopes.InScopes.{Goes, gives_way}
use Rattle.simulation_terms.proofs.scopes.Objects.{NamedFrom, named_from, locals}

-- ---- works

abbrev pub store_jobs : Place → StoreTree → ℕ → List Job
store_jobs at (StoreValue offset e) base = jobs.Ready (at_place at (act.Address 0 base offset)) ∷ (jobs.Value e 1 ∷ (jobs.Ready (at_place at (act.Store 0 1 (scalar_of (term_type e)) None)) ∷ []))
store_jobs at (StoreCopy offset l) base = jobs.Ready (at_place at (act.Address 0 base offset)) ∷ (jobs.Address l 1 ∷ (jobs.Ready (at_place at (act.Copy 0 1 (struct_number (lvalue_type l)))) ∷ []))
store_jobs at (StoreText offset room text) base = jobs.Ready (at_place at (act.Spell base offset room text)) ∷ []

abbrev pub all_store_jobs : Place → List StoreTree → ℕ → List Job
all_store_jobs at [] base = []
all_store_jobs at (x ∷ xs) base = store_jobs at x base ++ all_store_jobs at xs (suc base)

-- the object once for each store
abbrev pub once_each : ℕ → List StoreTree → List ℕ
once_each x [] = []
once_each x (y ∷ ys) = x ∷ once_each x ys

pub record Stored (at : Place) (x : ℕ) (xs : List StoreTree) (p q : Plan) : Type 0 where
  pub jobs : q.jobs ≡ p.jobs ++ all_store_jobs at xs (length p.names)
  pub names : q.names ≡ p.names ++ locals (once_each x xs)
  pub scopes : position q ≡ position p

next_base : (names : List NameView) (x : NameView) → length (names ++ x ∷ []) ≡ suc (length names)
next_base names x = let e = length-append names (x ∷ []) in omega (arith, e)

record One (at : Place) (x : ℕ) (y : StoreTree) (p q : Plan) : Type 0 where
  jobs : q.jobs ≡ p.jobs ++ store_jobs at y (length p.names)
  names : q.names ≡ p.names ++ Local x ∷ []
  scopes : position q ≡ position p

one_stored : (at : Place) (x : ℕ) (y : StoreTree) (p : Plan) → One at x y p (lowered.stored at x y p)
unfolding with_work with_name
one_stored at x (StoreValue offset e) p = record { jobs = append_assoc (p.jobs ++ jobs.Ready (at_place at (act.Address 0 (length p.names) offset)) ∷ []) (jobs.Value e 1 ∷ []) _ ∙ append_assoc p.jobs (jobs.Ready (at_place at (act.Address 0 (length p.names) offset)) ∷ []) _; names = refl; scopes = refl }
one_stored at x (StoreCopy offset l) p = record { jobs = append_assoc (p.jobs ++ jobs.Ready (at_place at (act.Address 0 (length p.names) offset)) ∷ []) (jobs.Address l 1 ∷ []) _ ∙ append_assoc p.jobs (jobs.Ready (at_place at (act.Address 0 (length p.names) offset)) ∷ []) _; names = refl; scopes = refl }
one_stored at x (StoreText offset room text) p = record { jobs = refl; names = refl; scopes = refl }

pub stored_planned : (at : Place) (x : ℕ) (xs : List StoreTree) (p : Plan) → Stored at x xs p (lowered.all_stored at x xs p)
stored_planned at x [] p = record { jobs = sym (append-nil p.jobs); names = sym (append-nil p.names); scopes = refl }
stored_planned at x (y ∷ ys) p =
    let q = lowered.stored at x y p in
    let one = one_stored at x y p in
    let later = stored_planned at x ys q in
    record {
      jobs = later.jobs ∙ ap (λ js. js ++ all_store_jobs at ys (length q.names)) one.jobs ∙ ap (λ b. (p.jobs ++ store_jobs at y (length p.names)) ++ all_store_jobs at ys b) (ap (λ ns. length ns) one.names ∙ next_base p.names (Local x)) ∙ append_assoc p.jobs (store_jobs at y (length p.names)) (all_store_jobs at ys (suc (length p.names)));
      names = later.names ∙ ap (λ ns. ns ++ locals (once_each x ys)) one.names ∙ append_assoc p.names (Local x ∷ []) (locals (once_each x ys));
      scopes = later.scopes ∙ one.scopes;
    }

stores_are_terms : (at : Place) (xs : List StoreTree) (base : ℕ) → AreTerms (all_store_jobs at xs base)
stores_are_terms at [] base = tt
stores_are_terms at (StoreValue offset e ∷ xs) base = (tt, (tt, (tt, stores_are_terms at xs (suc base))))
stores_are_terms at (StoreCopy offset l ∷ xs) base = (tt, (tt, (tt, stores_are_terms at xs (suc base))))
stores_are_terms at (StoreText offset room text ∷ xs) base = (tt, stores_are_terms at xs (suc base))

-- ---- one object alone

cleared_jobs : (at : Place) (x : ℕ) (p : Plan) → p.jobs ≡ [] → (lowered.cleared at x p).jobs ≡ jobs.Ready (at_place at (act.Clear (length p.names))) ∷ []
unfolding with_work with_name
cleared_jobs at x p none = ap (λ js. js ++ jobs.Ready (at_place at (act.Clear (length p.names))) ∷ []) none

cleared_names : (at : Place) (x : ℕ) (p : Plan) (more : List NameView) → (lowered.cleared at x p).names ++ more ≡ p.names ++ (Local x ∷ more)
unfolding with_work with_name
cleared_names at x p more = append_assoc p.names (Local x ∷ []) more

cleared_base : (at : Place) (x : ℕ) (p : Plan) → length (lowered.cleared at x p).names ≡ suc (length p.names)
unfolding with_work with_name
cleared_base at x p = next_base p.names (Local x)

cleared_scopes : (at : Place) (x : ℕ) (p : Plan) → position (lowered.cleared at x p) ≡ position p
unfolding with_work with_name
cleared_scopes at x p = refl

forgotten_jobs : (at : Place) (x : ℕ) (p : Plan) → p.jobs ≡ [] → (lowered.forget at x p).jobs ≡ jobs.Ready (at_place at (act.Forget (length p.names))) ∷ []
unfolding with_work with_name
forgotten_jobs at x p none = ap (λ js. js ++ jobs.Ready (at_place at (act.Forget (length p.names))) ∷ []) none

forgotten_names : (at : Place) (x : ℕ) (p : Plan) → (lowered.forget at x p).names ≡ p.names ++ Local x ∷ []
unfolding with_work with_name
forgotten_names at x p = refl

forgotten_scopes : (at : Place) (x : ℕ) (p : Plan) → position (lowered.forget at x p) ≡ position p
unfolding with_work with_name
forgotten_scopes at x p = refl

work_names : (j : Job) (p : Plan) → (with_work j p).names ≡ p.names
unfolding with_work
work_names j p = refl

work_scopes : (j : Job) (p : Plan) → position (with_work j p) ≡ position p
unfolding with_work
work_scopes j p = refl

module _ (s : SettingView) (t : Activation) (fits : IsOfUnit t s) (n : ℕ) where
  copy_act : (ctype : Ty) → ctype ≡ Struct (struct_number ctype) → IsAct (op.Copy ctype) (act.Copy 0 1 (struct_number ctype)) 2 1
  copy_act ctype is = subst (λ k. IsAct (op.Copy k) (act.Copy 0 1 (struct_number ctype)) 2 1) (sym is) (acts.copy 0 (struct_number ctype))

  -- the pointer to an object
  points : (at : Place) (x offset base : ℕ) → Names t base (Local x) → Runs s t n (jobs.Ready (at_place at (act.Address 0 base offset)) ∷ []) (item.Object at (object.Local x) offset ∷ []) 0 1
  points at x offset base named = piece_first s t n (at_place at (act.Address 0 base offset)) (item.Object at (object.Local x) offset ∷ []) 0 1 (λ items rest f. gives_object n 0 base at (object.Local x) offset items rest named f)

  one_runs : (at : Place) (x : ℕ) (y : StoreTree) (base : ℕ) → SuitsAsStore t.unit y → Names t base (Local x) → Runs s t n (store_jobs at y base) (stored at x y) 0 0
  one_runs at x (StoreValue offset e) base suits named =
      then s t n (jobs.Ready (at_place at (act.Address 0 base offset)) ∷ []) _ (item.Object at (object.Local x) offset ∷ []) _ 0 1 0 (points at x offset base named)
      (then s t n (jobs.Value e 1 ∷ []) _ (item.Value e ∷ []) _ 1 2 0 ((terms s t fits n e).value 1 suits.0 suits.1) (stores s t n 0 at (scalar_of (term_type e))))
  one_runs at x (StoreCopy offset l) base suits named =
      then s t n (jobs.Ready (at_place at (act.Address 0 base offset)) ∷ []) _ (item.Object at (object.Local x) offset ∷ []) _ 0 1 0 (points at x offset base named)
      (then s t n (jobs.Address l 1 ∷ []) _ (item.Address l ∷ []) _ 1 2 0 (places s t fits n l 1 suits.0 suits.1)
      (piece_first s t n (at_place at (act.Copy 0 1 (struct_number (lvalue_type l)))) (item.Do at (op.Copy (lvalue_type l)) ∷ (item.Drop ∷ [])) 2 0
      (λ items rest f. gives_step n 2 1 at (op.Copy (lvalue_type l)) (act.Copy 0 1 (struct_number (lvalue_type l))) (item.Drop ∷ items) rest (copy_act (lvalue_type l) suits.2) (gives_drop n 0 items rest f))))
  one_runs at x (StoreText offset room text) base suits named = piece_first s t n (at_place at (act.Spell base offset room text)) (item.OnObject at x (item.Spell offset room text) ∷ []) 0 0 (λ items rest f. gives_change n 0 base x at (item.Spell offset room text) items rest named f)

  all_run : (at : Place) (x : ℕ) (xs : List StoreTree) (base : ℕ) → SuitAsStores t.unit xs → NamedFrom t base (once_each x xs) → Runs s t n (all_store_jobs at xs base) (all_stored at x xs) 0 0
  all_run at x [] base suits named = nothing_done s t n 0
  all_run at x (y ∷ ys) base suits named = then s t n (store_jobs at y base) (all_store_jobs at ys (suc base)) (stored at x y) (all_stored at x ys) 0 0 0 (one_runs at x y base suits.0 named.0) (all_run at x ys (suc base) suits.1 named.1)

  module _ (around : Surroundings) (K : List Item → Type 0) (c : Position) where
    -- the works of a statement that begins no scope and names objects
    named_form : (i : StatementTree) (js : ℕ → List Job) (xs : List ℕ) → ((p : Plan) → p.jobs ≡ [] → (parts s (jobs.Statement i around) p).jobs ≡ js (length p.names)) → ((p : Plan) → (parts s (jobs.Statement i around) p).names ≡ p.names ++ locals xs) → ((p : Plan) → position (parts s (jobs.Statement i around) p) ≡ position p)
        → ((base : ℕ) → AreTerms (js base)) → ((base : ℕ) → NamedFrom t base xs → Runs s t n (js base) (of_statement t.unit (of_entry t) i) 0 0) → Goes s t n c c K (jobs.Statement i around ∷ []) (item.Statement i ∷ [])
    named_form i js xs planned named counted are_terms runs = gives_way s t n c c K (jobs.Statement i around) (item.Statement i) (of_statement t.unit (of_entry t) i) refl (gives_statement n 0 i)
        (λ p none begun ps r m known items rest stands k f.
        let all = parts s (jobs.Statement i around) p in
        let here = named_from t (planless all) p.names xs [] (known_between s t (planless all) all.jobs ps r m known) (named p ∙ ap (λ ns. p.names ++ ns) (sym (append-nil (locals xs)))) in
        (runs (length p.names) here).from (planless all) refl ps r (subst (λ ks. Makes s (planless all) ks ps r) (planned p none) m) known items rest stands f)
        (λ p none begun ps r m.
        let all = parts s (jobs.Statement i around) p in
        (scopes_kept s (planless all) all.jobs ps r m tt (subst AreTerms (sym (planned p none)) (are_terms (length p.names)))).0 ∙ counted p ∙ begun)

    pub of_stores : (i : StatementTree) (at : Place) (x : ℕ) (xs : List StoreTree) → ((p : Plan) → parts s (jobs.Statement i around) p ≡ lowered.all_stored at x xs p) → of_statement t.unit (of_entry t) i ≡ all_stored at x xs → SuitAsStores t.unit xs → Goes s t n c c K (jobs.Statement i around ∷ []) (item.Statement i ∷ [])
    of_stores i at x xs same items suits = named_form i (all_store_jobs at xs) (once_each x xs)
        (λ p none. ap (λ (q : Plan). q.jobs) (same p) ∙ (stored_planned at x xs p).jobs ∙ ap (λ js. js ++ all_store_jobs at xs (length p.names)) none)
        (λ p. ap (λ (q : Plan). q.names) (same p) ∙ (stored_planned at x xs p).names)
        (λ p. ap position (same p) ∙ (stored_planned at x xs p).scopes)
        (stores_are_terms at xs)
        (λ base named. subst (λ is. Runs s t n (all_store_jobs at xs base) is 0 0) (sym items) (all_run at x xs base suits named))

    pub of_list : (at : Place) (x : ℕ) (xs : List StoreTree) → SuitAsStores t.unit xs → Goes s t n c c K (jobs.Statement (tree.StartList at x xs) around ∷ []) (item.Statement (tree.StartList at x xs) ∷ [])
    of_list at x xs suits = named_form (tree.StartList at x xs) (λ base. jobs.Ready (at_place at (act.Clear base)) ∷ all_store_jobs at xs (suc base)) (x ∷ once_each x xs)
        (λ p none. let q = lowered.cleared at x p in (stored_planned at x xs q).jobs ∙ ap (λ b. q.jobs ++ all_store_jobs at xs b) (cleared_base at x p) ∙ ap (λ js. js ++ all_store_jobs at xs (suc (length p.names))) (cleared_jobs at x p none))
        (λ p. let q = lowered.cleared at x p in (stored_planned at x xs q).names ∙ cleared_names at x p (locals (once_each x xs)))
        (λ p. (stored_planned at x xs (lowered.cleared at x p)).scopes ∙ cleared_scopes at x p)
        (λ base. (tt, stores_are_terms at xs (suc base)))
        (λ base named. then s t n (jobs.Ready (at_place at (act.Clear base)) ∷ []) (all_store_jobs at xs (suc base)) (item.OnObject at x item.Clear ∷ []) (all_stored at x xs) 0 0 0
        (piece_first s t n (at_place at (act.Clear base)) (item.OnObject at x item.Clear ∷ []) 0 0 (λ items rest f. gives_change n 0 base x at item.Clear items rest named.0 f)) (all_run at x xs (suc base) suits named.1))

    pub of_forget : (at : Place) (x : ℕ) → Goes s t n c c K (jobs.Statement (tree.Forget at x) around ∷ []) (item.Statement (tree.Forget at x) ∷ [])
    of_forget at x = named_form (tree.Forget at x) (λ base. jobs.Ready (at_place at (act.Forget base)) ∷ []) (x ∷ [])
        (λ p none. forgotten_jobs at x p none) (λ p. forgotten_names at x p) (λ p. forgotten_scopes at x p) (λ base. (tt, tt))
        (λ base named. piece_first s t n (at_place at (act.Forget base)) (item.OnObject at x item.Forget ∷ []) 0 0 (λ items rest f. gives_change n 0 base x at item.Forget items rest named.0 f))

    -- ---- expressions

    pub of_value : (e : TermTree) → SuitsBehind t.unit false 0 e → Goes s t n c c K (jobs.Statement (tree.Value e) around ∷ []) (item.Statement (tree.Value e) ∷ [])
    of_value e suits = named_form (tree.Value e) (λ base. jobs.Unused e 0 ∷ []) [] (λ p none. one_more_job [] (jobs.Unused e 0) p none) (λ p. work_names (jobs.Unused e 0) p ∙ sym (append-nil p.names)) (λ p. work_scopes (jobs.Unused e 0) p) (λ base. (tt, tt)) (λ base named. (terms s t fits n e).done 0 suits.0 suits.1)

    pub of_nothing : Goes s t n c c K (jobs.Statement tree.Nothing around ∷ []) (item.Statement tree.Nothing ∷ [])
    of_nothing = named_form tree.Nothing (λ base. []) [] (λ p none. none) (λ p. sym (append-nil p.names)) (λ p. refl) (λ base. tt) (λ base named. nothing_done s t n 0)
