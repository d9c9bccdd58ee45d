-- The prologue of a function that is called, and what it does behind its body, follow in their pieces.
use Rattle.std.proofs.Common.{◌≡◌, ◌<◌, ℕ, zero, suc, ◌+◌, ◌-◌, Bool, true, false, cond, List, [], ◌∷◌, ◌++◌, replicate, Some, None, refl, arith, ap, sym, subst, ◌∙◌}
use Rattle.std.proofs.lemmas.List.{append-nil}
use Rattle.cc_base.specs.declared.diagnostics.Place.{Place}
use Rattle.c_layout.specs.CheckedUnits.{FunctionView}
use Rattle.c_layout.specs.declared.checked_tree.checked_terms.ObjectRef.TheVariants as object
use Rattle.lower_templates.specs.Worklist.Acts as act
use Rattle.lower_templates.specs.Worklist.Pieces.{Local, Outcome, PieceView, DoIfUsed, Mark}
use Rattle.lower_templates.specs.Worklist.Settings.{SettingView}
use Rattle.lower_templates.specs.Worklist.TermKinds.{scalar_of, is_void}
use Rattle.lower_templates.specs.Worklist.Works as jobs
use Rattle.lower_templates.specs.Worklist.Works.{Job}
use Rattle.lower_functions.specs.Functions.Functions.{numbers_from, local_type}
use Rattle.semantics.specs.SourceMachine.CallSteps.{with_result, bind, bind_all, prologue, epilogue, result_loaded}
use Rattle.semantics.specs.SourceMachine.Items as item
use Rattle.semantics.specs.SourceMachine.Items.{Item}
use Rattle.semantics.specs.SourceMachine.Operations as op
use Rattle.semantics.specs.SourceMachine.SourceStates.{Frame, function_at, result_object}
use Rattle.semantics.specs.SourceMachine.SourceSteps.{place_of}
use Rattle.simulation_terms.specs.Instructions.Acts as acts
use Rattle.simulation_terms.specs.SimulationRelation.Activations.{Activation}
use Rattle.simulation_terms.specs.SimulationRelation.Simulates as simulates
use Rattle.simulation_terms.specs.SimulationRelation.Simulates.{Names, Simulates, behind_own, own, at_place}
use Rattle.simulation_terms.proofs.simulation_relation.Constructions.{gives_drop, gives_no_enters, gives_object, gives_enter, gives_bind, gives_enter_outcome, gives_used_outcome, gives_if_used, gives_leave_outcome}
use Rattle.simulation_terms.specs.Worklists.TemplateParts.{IsOfUnit}
use Rattle.simulation_terms.proofs.worklists.Runs.{Runs, then, piece_first}
use Rattle.simulation_terms.proofs.worklists.Assignments.{nothing_done}
use Rattle.simulation_terms.proofs.scopes.KeptScopes.{AreTerms}
use Rattle.simulation_terms.proofs.scopes.Objects.{object_jobs, piece_before, marks, NamedFrom}
use Rattle.simulation_statements.proofs.entry.CalledPlans.{result_jobs, result_names, argument_jobs, outcome_jobs}

-- ---- the works are terms

pub terms_both : (js ks : List Job) → AreTerms js → AreTerms ks → AreTerms (js ++ ks)
terms_both [] ks a b = b
terms_both (j ∷ js) ks a b = (a.0, terms_both js ks a.1 b)

-- ---- the prologue

-- the objects that are entered behind the parameters
abbrev results : FunctionView → Bool → List ℕ
results f true = []
results f false = result_object f ∷ []

entered_all : (f : FunctionView) (xs : List ℕ) → with_result f xs ≡ xs ++ results f (is_void f.returns)
entered_all f xs = by (is_void f.returns)
  where
    by : (b : Bool) → cond b xs (xs ++ result_object f ∷ []) ≡ xs ++ results f b
    by true = sym (append-nil xs)
    by false = refl

pub results_are_terms : (at : Place) (b : Bool) (base : ℕ) → AreTerms (result_jobs at b base)
results_are_terms at true base = tt
results_are_terms at false base = (tt, tt)

pub arguments_are_terms : (at : Place) (f : FunctionView) (ns : List ℕ) (base : ℕ) → AreTerms (argument_jobs at f ns base)
arguments_are_terms at f [] base = tt
arguments_are_terms at f (n ∷ ns) base = (tt, (tt, arguments_are_terms at f ns (suc base)))

-- the depth of an argument
depth_is : (count n : ℕ) → n < count → n + suc (count - suc n) ≡ count
depth_is count n less = omega (arith, less)

one_less : (first k count : ℕ) → first + suc k ≡ count → (first + 1) + k ≡ count
one_less first k count e = omega (arith, e)

first_less : (first k count : ℕ) → first + suc k ≡ count → first < count
first_less first k count e = omega (arith, e)

module _ (t : Activation) (s : SettingView) (fits : IsOfUnit t s) (f : FunctionView) (is : function_at t.unit t.function ≡ Some f) (n : ℕ) where
  placed : s.at ≡ f.at
  placed = fits.place ∙ ap place_of is

  -- objects are entered before others
  enters_then : (xs ys : List ℕ) (base d next : ℕ) (js : List Job) (hs : List Item) → NamedFrom t base xs → Runs s t n js (item.Enters ys ∷ hs) d next → Runs s t n (object_jobs act.Enter (own t) xs base ++ js) (item.Enters (xs ++ ys) ∷ hs) d next
  enters_then [] ys base d next js hs named runs = runs
  enters_then (x ∷ xs) ys base d next js hs named runs =
      piece_before s t fits n (at_place (own t) (act.Enter base)) (object_jobs act.Enter (own t) xs (suc base) ++ js) (item.Enters (x ∷ (xs ++ ys)) ∷ hs) (item.Enters (xs ++ ys) ∷ hs) d d next
      (λ items w go. gives_enter n d base x (xs ++ ys) (hs ++ items) w named.0 go) (enters_then xs ys (suc base) d next js hs named.1 runs)

  none_entered : (d next : ℕ) (js : List Job) (hs : List Item) → Runs s t n js hs d next → Runs s t n js (item.Enters [] ∷ hs) d next
  none_entered d next js hs runs = record { from = λ p none ps r m known items rest stands go. gives_no_enters n d (hs ++ items) (ps ++ rest) (runs.from p none ps r m known items rest stands go) }

  result_enters : (b : Bool) (base d next : ℕ) (js : List Job) (hs : List Item) → (result_names b ≡ Outcome ∷ [] → Names t base Outcome) → Runs s t n js hs d next → Runs s t n (result_jobs (own t) b base ++ js) (item.Enters (results f b) ∷ hs) d next
  result_enters true base d next js hs named runs = none_entered d next js hs runs
  result_enters false base d next js hs named runs =
      piece_before s t fits n (at_place (own t) (act.Enter base)) js (item.Enters (result_object f ∷ []) ∷ hs) (item.Enters [] ∷ hs) d d next
      (λ items w go. gives_enter_outcome n d base f [] (hs ++ items) w is (named refl) go) (none_entered d next js hs runs)

  -- an argument is stored in its parameter
  argument_binds : (number base : ℕ) → number < f.parameters → Names t base (Local number)
      → Runs s t n (jobs.Ready (at_place f.at (act.Address f.parameters base 0)) ∷ (jobs.Ready (at_place f.at (act.Store f.parameters number (scalar_of (local_type f number)) None)) ∷ [])) (bind f f.parameters number) f.parameters f.parameters
  argument_binds number base less named =
      let count = f.parameters in
      then s t n (jobs.Ready (at_place f.at (act.Address count base 0)) ∷ []) _ (item.Object f.at (object.Local number) 0 ∷ []) _ count (suc count) count
      (piece_first s t n (at_place f.at (act.Address count base 0)) (item.Object f.at (object.Local number) 0 ∷ []) count (suc count) (λ items rest go. gives_object n count base f.at (object.Local number) 0 items rest named go))
      (piece_first s t n (at_place f.at (act.Store count number (scalar_of (local_type f number)) None)) (item.Bind f.at number (count - suc number) ∷ []) (suc count) count (λ items rest go. gives_bind n count number (count - suc number) f.at f items rest is (depth_is count number less) go))

  arguments_bind : (k first base : ℕ) → first + k ≡ f.parameters → NamedFrom t base (numbers_from first k) → Runs s t n (argument_jobs f.at f (numbers_from first k) base) (bind_all f f.parameters (numbers_from first k)) f.parameters f.parameters
  arguments_bind zero first base e named = nothing_done s t n f.parameters
  arguments_bind (suc k) first base e named =
      then s t n (jobs.Ready (at_place f.at (act.Address f.parameters base 0)) ∷ (jobs.Ready (at_place f.at (act.Store f.parameters first (scalar_of (local_type f first)) None)) ∷ [])) (argument_jobs f.at f (numbers_from (first + 1) k) (suc base)) (bind f f.parameters first) (bind_all f f.parameters (numbers_from (first + 1) k)) f.parameters f.parameters f.parameters
      (argument_binds first base (first_less first k f.parameters e) named.0) (arguments_bind k (first + 1) (suc base) (one_less first k f.parameters e) named.1)

  -- the arguments are dropped
  drops : (k : ℕ) (items : List Item) (w : List PieceView) → Simulates t n 0 items w → Simulates t n k (replicate k item.Drop ++ items) w
  drops zero items w go = go
  drops (suc k) items w go = gives_drop n k (replicate k item.Drop ++ items) w (drops k items w go)

  pub prologue_runs : (l m parameters result argument : ℕ) → NamedFrom t parameters (numbers_from 0 f.parameters) → (result_names (is_void f.returns) ≡ Outcome ∷ [] → Names t result Outcome) → NamedFrom t argument (numbers_from 0 f.parameters)
      → Runs s t n (jobs.Ready (Mark l) ∷ (object_jobs act.Enter s.at (numbers_from 0 f.parameters) parameters ++ (result_jobs s.at (is_void f.returns) result ++ (argument_jobs s.at f (numbers_from 0 f.parameters) argument ++ jobs.Ready (Mark m) ∷ [])))) (prologue f f.parameters) f.parameters 0
  prologue_runs l m parameters result argument named has_result again =
      let count = f.parameters in
      let ns = numbers_from 0 count in
      let b = is_void f.returns in
      let dropped : Runs s t n (jobs.Ready (Mark m) ∷ []) (replicate count item.Drop) count 0 = piece_first s t n (Mark m) (replicate count item.Drop) count 0 (λ items w go. simulates.by_mark n count m (replicate count item.Drop ++ items) w (drops count items w go)) in
      let stored : Runs s t n (argument_jobs f.at f ns argument ++ jobs.Ready (Mark m) ∷ []) (bind_all f count ns ++ replicate count item.Drop) count 0 =
      then s t n (argument_jobs f.at f ns argument) (jobs.Ready (Mark m) ∷ []) (bind_all f count ns) (replicate count item.Drop) count count 0 (arguments_bind count 0 argument (itself count) again) dropped in
      let entered : Runs s t n (object_jobs act.Enter (own t) ns parameters ++ (result_jobs (own t) b result ++ (argument_jobs f.at f ns argument ++ jobs.Ready (Mark m) ∷ []))) (item.Enters (ns ++ results f b) ∷ (bind_all f count ns ++ replicate count item.Drop)) count 0 =
      enters_then ns (results f b) parameters count 0 (result_jobs (own t) b result ++ (argument_jobs f.at f ns argument ++ jobs.Ready (Mark m) ∷ [])) (bind_all f count ns ++ replicate count item.Drop) named
      (result_enters b result count 0 (argument_jobs f.at f ns argument ++ jobs.Ready (Mark m) ∷ []) (bind_all f count ns ++ replicate count item.Drop) has_result stored) in
      let all : Runs s t n (object_jobs act.Enter s.at ns parameters ++ (result_jobs s.at b result ++ (argument_jobs s.at f ns argument ++ jobs.Ready (Mark m) ∷ []))) (item.Enters (with_result f ns) ∷ (bind_all f count ns ++ replicate count item.Drop)) count 0 =
      subst (λ xs. Runs s t n (object_jobs act.Enter s.at ns parameters ++ (result_jobs s.at b result ++ (argument_jobs s.at f ns argument ++ jobs.Ready (Mark m) ∷ []))) (item.Enters xs ∷ (bind_all f count ns ++ replicate count item.Drop)) count 0) (sym (entered_all f ns))
      (subst (λ at. Runs s t n (object_jobs act.Enter s.at ns parameters ++ (result_jobs s.at b result ++ (argument_jobs at f ns argument ++ jobs.Ready (Mark m) ∷ []))) (item.Enters (ns ++ results f b) ∷ (bind_all f count ns ++ replicate count item.Drop)) count 0) (sym placed)
      (subst (λ at. Runs s t n (object_jobs act.Enter at ns parameters ++ (result_jobs at b result ++ (argument_jobs f.at f ns argument ++ jobs.Ready (Mark m) ∷ []))) (item.Enters (ns ++ results f b) ∷ (bind_all f count ns ++ replicate count item.Drop)) count 0) (sym fits.place) entered)) in
      then s t n (jobs.Ready (Mark l) ∷ []) _ [] _ count count 0 (marks s t fits n l count) all
    where
      itself : (k : ℕ) → 0 + k ≡ k
      itself k = omega arith

  -- ---- the epilogue

  abbrev given : FunctionView → Frame → Bool → List Item
  given f caller b = cond b [] (result_loaded f caller.at caller.used ++ item.LeaveOutcome caller.at ∷ [])

  module _ (caller : Frame) (callers : List Frame) (waits : t.callers ≡ caller ∷ callers) (place : Place) where
    -- the result is loaded where it is used, and its object is left
    loaded : (used : Bool) (base : ℕ) → caller.used ≡ used → Names t base Outcome → Runs s t n (outcome_jobs place (scalar_of f.returns) false base) (result_loaded f caller.at used ++ item.LeaveOutcome caller.at ∷ []) 0 (behind_own used 0)
    loaded true base is_used named =
        let kind = scalar_of f.returns in
        piece_before s t fits n (DoIfUsed (record { at = place; does = act.Address 0 base 0 })) _ _ (item.Do caller.at (op.Load kind) ∷ (item.LeaveOutcome caller.at ∷ [])) 0 1 1 (λ items w go. gives_used_outcome n 0 base caller callers place f (item.Do caller.at (op.Load kind) ∷ (item.LeaveOutcome caller.at ∷ items)) w waits is_used is named go)
        (piece_before s t fits n (DoIfUsed (record { at = place; does = act.Load 0 0 kind })) _ _ (item.LeaveOutcome caller.at ∷ []) 1 1 1 (λ items w go. gives_if_used n 1 1 caller callers place (op.Load kind) (act.Load 0 0 kind) (item.LeaveOutcome caller.at ∷ items) w waits is_used (acts.load 0 kind) go)
        (piece_first s t n (at_place place (act.Leave base)) (item.LeaveOutcome caller.at ∷ []) 1 1 (λ items w go. gives_leave_outcome n 1 base caller.at place f items w is named go)))
    loaded false base is_used named =
        let kind = scalar_of f.returns in
        piece_before s t fits n (DoIfUsed (record { at = place; does = act.Address 0 base 0 })) _ _ (item.LeaveOutcome caller.at ∷ []) 0 0 0 (λ items w go. simulates.by_unused n 0 caller callers _ (item.LeaveOutcome caller.at ∷ items) w waits is_used go)
        (piece_before s t fits n (DoIfUsed (record { at = place; does = act.Load 0 0 kind })) _ _ (item.LeaveOutcome caller.at ∷ []) 0 0 0 (λ items w go. simulates.by_unused n 0 caller callers _ (item.LeaveOutcome caller.at ∷ items) w waits is_used go)
        (piece_first s t n (at_place place (act.Leave base)) (item.LeaveOutcome caller.at ∷ []) 0 0 (λ items w go. gives_leave_outcome n 0 base caller.at place f items w is named go)))

    pub epilogue_runs : (base : ℕ) → (caller.used ≡ true → is_void f.returns ≡ false) → (result_names (is_void f.returns) ≡ Outcome ∷ [] → Names t base Outcome) → Runs s t n (outcome_jobs place (scalar_of f.returns) (is_void f.returns) base) (epilogue f caller) 0 (behind_own caller.used 0)
    epilogue_runs base gives named = by (is_void f.returns) gives named
      where
        nothing_used : (used : Bool) → (used ≡ true → true ≡ false) → Runs s t n [] [] 0 (behind_own used 0)
        nothing_used false is_so = nothing_done s t n 0
        nothing_used true is_so = absurd (never (is_so refl))
          where
            never : true ≡ false → ⊥
            never e = cc

        by : (b : Bool) → (caller.used ≡ true → b ≡ false) → (result_names b ≡ Outcome ∷ [] → Names t base Outcome) → Runs s t n (outcome_jobs place (scalar_of f.returns) b base) (given f caller b) 0 (behind_own caller.used 0)
        by true gives named = nothing_used caller.used gives
        by false gives named = loaded caller.used base refl (named refl)
