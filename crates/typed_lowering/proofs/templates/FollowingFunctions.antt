-- The first works of typed functions keep to what is known: arguments before the parameters, and the result behind.
use Rattle.std.proofs.Common.{◌≡◌, ◌≤◌, ◌<◌, ◌⊎◌, inl, inr, ℕ, zero, suc, ◌+◌, ◌==◌, Bool, true, false, ◌||◌, cond, nat_lt, List, [], ◌∷◌, take, length, Option, Some, None, refl, arith, ap, sym, subst, ◌∙◌}
use Rattle.std.specs.List.{list_all}
use Rattle.std.proofs.lemmas.Bool.{eq-eqb, eqb-true, lt-ltb, ltb-true}
use Rattle.cc_base.specs.declared.diagnostics.Place.{Place}
use Rattle.c_layout.specs.CheckedTrees.{statement_trees}
use Rattle.c_layout.specs.CheckedUnits.{FunctionView, UnitView}
use Rattle.c_layout.specs.Types.{Ty, Int, Pointer, Array, Struct, Void}
use Rattle.lower_functions.specs.Functions.Functions.{local_type, argument, arguments, result_entered, parameters, result_loaded, outcome, outermost, body, entry, called, no_plan, numbers_from}
use Rattle.typed_programs.proofs.plain_templates.LeadingStatements.{list}
use Rattle.lower_functions.specs.Statements.ScopeJumps.{all_entered}
use Rattle.lower_templates.specs.Worklist.Acts as acts
use Rattle.lower_templates.specs.Worklist.Pieces.{Local, Outcome, Mark}
use Rattle.lower_templates.specs.Worklist.TermKinds.{scalar_of, is_void}
use Rattle.lower_templates.specs.Worklist.Works as jobs
use Rattle.lower_templates.specs.Worklist.Plans.{Plan, with_labels}
use Rattle.lower_templates.specs.Worklist.Settings.{SettingView}
use Rattle.lower_templates.specs.declared.worklist.template_builder.Dispatch.{Dispatch}
use Rattle.typed_programs.specs.Types.PointedTypes.{Element, Known, Pointing, is_same, IsLess, IsStorable}
use Rattle.typed_programs.specs.Types.TypedPrograms.{IsKept}
use Rattle.typed_programs.specs.Types.TypedStates.{Temporaries}
use Rattle.memory_model.specs.Effects.NumberedTables.{set_at}
use Rattle.typed_lowering.specs.Conversions.KnownValues.{type_known, nothing, below, with_value, if_used}
use Rattle.typed_lowering.specs.Conversions.TypedActs as typed
use Rattle.typed_lowering.specs.Conversions.TypedActs.{IsTypedAct}
use Rattle.typed_lowering.specs.Conversions.TypedPieces.{State, base_type, parameters_known, result_known}
use Rattle.typed_lowering.specs.Conversions.TypedTerms.{is_scalar, local_types}
use Rattle.typed_lowering.proofs.conversions.KeptKnowledge.{less_same, IsLessIf, less_if_same, kept_same, kept_if, set_kept}
use Rattle.typed_lowering.proofs.templates.StoredValues.{never, IsScalarOf, scalar_of_type, scalar_local, type_of_object}
use Rattle.typed_lowering.proofs.templates.FollowingWorks.{Asks, Asked, Looks, IsAround, Flowing, flowing_none, flowing_weaker, flowing_normalized, flowing_work, flowing_name, flowing_labels, flowing_do, flowing_mark, flowing_or}
use Rattle.typed_lowering.proofs.templates.FollowingParts.{base_here, addressed, flowing_entered, flowing_left, flowing_stopped}
use Rattle.typed_lowering.proofs.templates.FollowingSelections.{flowing_statements}

-- ---- bodies

no_number : {A : Type 0} (n : ℕ) → n < 0 → A
no_number n less = absurd (no n less)
  where
    no : (n : ℕ) → n < 0 → ⊥
    no n less = omega (arith, less)

-- no switch is around a body
pub body_within : (f : FunctionView) (s : SettingView) (ds : List Dispatch) (K : Asks) (top : ℕ) → ((l : ℕ) → l < f.labels → K l nothing) → K s.end nothing → IsAround f s ds K top 0 false s.end s.end 0
body_within f s ds K top own end = record { own = own; end = end; broken = end; continued = end; begun = λ is. never is; cases = λ n less. no_number n less; fallback = λ is. never is }

module _ {u : UnitView} {f : FunctionView} {calls : ℕ → Bool} {s : SettingView} {ds : List Dispatch} {used : Bool} {K : Asks} {first top : ℕ} where
  flowing_body : {low : ℕ} {from : State} (p : Plan) → Looks u f calls 0 false (list (statement_trees f.body)) → ((last : ℕ) → low ≤ last → IsAround f s ds (Asked K first last) top 0 false s.end s.end 0) → Flowing u f calls s ds used K first top low from (Some nothing) p
      → Flowing u f calls s ds used K first top low from (Some nothing) (body s f p)
  flowing_body p looks within k = flowing_left s.at f.scope _ (flowing_statements (statement_trees f.body) (outermost s.end) (all_entered s.at f.scope p) looks within (flowing_entered s.at f.scope p k))

-- ---- parameters

abbrev pub AreBelow : ℕ → List ℕ → Type 0
AreBelow m [] = Unit {0}
AreBelow m (n ∷ ns) = (n < m) × AreBelow m ns

pub numbers_below : (first count m : ℕ) → first + count ≤ m → AreBelow m (numbers_from first count)
numbers_below first zero m le = tt
numbers_below first (suc n) m le = (here first n m le, numbers_below (first + 1) n m (later first n m le))
  where
    here : (a n m : ℕ) → a + suc n ≤ m → a < m
    here a n m le = omega (arith, le)

    later : (a n m : ℕ) → a + suc n ≤ m → (a + 1) + n ≤ m
    later a n m le = omega (arith, le)

apart : (n m : ℕ) → n < m → (n == m) ≡ false
apart n m less = by (n == m) refl
  where
    less_same : (n m : ℕ) → n < m → n ≡ m → ⊥
    less_same n m less e = omega (arith, less, e)

    by : (b : Bool) → (n == m) ≡ b → (n == m) ≡ false
    by false e = e
    by true e = absurd (less_same n m less (eqb-true n m e))

-- the parameters, and behind them the address of one
abbrev pointed : FunctionView → ℕ → Temporaries
pointed f n = set_at (parameters_known f) f.parameters (Some (Pointing (Element (local_type f n))))

pointed_here : (f : FunctionView) (n : ℕ) → pointed f n f.parameters ≡ Some (Pointing (Element (local_type f n)))
pointed_here f n = ap (λ b. elim b [ true ↦ Some (Pointing (Element (local_type f n))) | false ↦ parameters_known f f.parameters ]) (eq-eqb f.parameters f.parameters refl)

pointed_parameter : (f : FunctionView) (n i : ℕ) → i < f.parameters → pointed f n i ≡ type_known (local_type f i)
pointed_parameter f n i less = ap (λ b. elim b [ true ↦ Some (Pointing (Element (local_type f n))) | false ↦ parameters_known f i ]) (apart i f.parameters less) ∙ ap (λ b. cond b (type_known (local_type f i)) None) (lt-ltb i f.parameters less)

-- the parameters are kept
pointed_kept : (f : FunctionView) (n : ℕ) → IsKept (pointed f n) (parameters_known f)
pointed_kept f n t k is = by (nat_lt t f.parameters) refl is
  where
    by : (b : Bool) → nat_lt t f.parameters ≡ b → cond b (type_known (local_type f t)) None ≡ Some k → (old : Known) × (pointed f n t ≡ Some old) × IsLess old k
    by true e is = (k, pointed_parameter f n t (ltb-true t f.parameters e) ∙ is, less_same k)
    by false e is = absurd (none is)
      where
        none : None ≡ Some k → ⊥
        none e = cc

module _ (u : UnitView) (f : FunctionView) (few : f.parameters ≤ length f.locals) (scalars : list_all is_scalar (local_types (take f.parameters f.locals)) ≡ true) where
  parameter_scalar : (n : ℕ) → n < f.parameters → IsScalarOf (local_type f n)
  parameter_scalar n less = scalar_of_type (local_type f n) (scalar_local f.locals f.parameters n f.returns scalars less few)

  on : (n m k : ℕ) → n < m → m ≤ k → n < k
  on n m k less le = omega (arith, less, le)

  -- the argument is stored
  argument_stored : (bases : ℕ → Option Ty) (n : ℕ) → n < f.parameters → IsTypedAct u.structs u.model.pointer bases (pointed f n) (parameters_known f) (acts.Store f.parameters n (scalar_of (local_type f n)) None)
  argument_stored bases n less =
      let x = parameter_scalar n less in
      typed.stores_in f.parameters n (scalar_of (local_type f n)) None (local_type f n) (type_known (local_type f n))
      (record { known = Pointing (Element (local_type f n)); target = Element (local_type f n); has = pointed_here f n; less = is_same (Element (local_type f n)); is = refl }) x.kind
      (subst (λ o. IsStorable (type_known (local_type f n)) o) (sym (pointed_parameter f n n less)) x.storable) (pointed_kept f n)

  module _ {calls : ℕ → Bool} {s : SettingView} {ds : List Dispatch} {used : Bool} {K : Asks} {first top : ℕ} where
    flowing_argument : {low : ℕ} {from : State} (at : Place) (n : ℕ) (p : Plan) → n < f.parameters → Flowing u f calls s ds used K first top low from (Some (parameters_known f)) p
        → Flowing u f calls s ds used K first top low from (Some (parameters_known f)) (argument at f.parameters n (scalar_of (local_type f n)) p)
    flowing_argument at n p less k = flowing_do (parameters_known f) _ _ (λ names extends. argument_stored (base_type u f names) n less)
        (flowing_do (pointed f n) _ _ (λ names extends. typed.gives_address f.parameters (length p.names) (local_type f n) (base_here u f names (Local n) p (local_type f n) extends (type_of_object u f n (on n f.parameters (length f.locals) less few))) (kept_same (pointed f n)))
        (flowing_name (Local n) p k))

    flowing_arguments : {low : ℕ} {from : State} (at : Place) (ns : List ℕ) (p : Plan) → AreBelow f.parameters ns → Flowing u f calls s ds used K first top low from (Some (parameters_known f)) p
        → Flowing u f calls s ds used K first top low from (Some (parameters_known f)) (arguments at f ns p)
    flowing_arguments at [] p all k = k
    flowing_arguments at (n ∷ ns) p (one, all) k = flowing_arguments at ns (argument at f.parameters n (scalar_of (local_type f n)) p) all (flowing_argument at n p one k)

    flowing_entered_result : {low : ℕ} {from : State} (at : Place) (p : Plan) → Flowing u f calls s ds used K first top low from (Some (parameters_known f)) p → Flowing u f calls s ds used K first top low from (Some (parameters_known f)) (result_entered at f.returns p)
    flowing_entered_result at p k = flowing_or (is_void f.returns) p _ k (flowing_do (parameters_known f) _ _ (λ names extends. typed.enters _ (kept_same (parameters_known f))) (flowing_name Outcome p k))

    flowing_parameters : {low : ℕ} {from : State} (p : Plan) → AreBelow f.parameters s.parameters → Flowing u f calls s ds used K first top low from (Some (parameters_known f)) p
        → Flowing u f calls s ds used K first top low from (Some (parameters_known f)) (parameters s f p)
    flowing_parameters p all k = flowing_arguments s.at s.parameters _ all (flowing_entered_result s.at _ (flowing_entered s.at s.parameters p k))

-- ---- results

-- in the first temporary, and nothing behind
result_kept : (v : Option Known) (known : Temporaries) → IsKept (set_at known 0 v) (with_value 0 v nothing)
result_kept v known = set_kept 0 v v known (below 0 nothing) (less_if_same v) (kept_if known (below 0 nothing) (λ t. by (nat_lt t 0) t))
  where
    by : (b : Bool) (t : ℕ) → IsLessIf (known t) (cond b None None)
    by true t = tt
    by false t = tt

no_result_kept : (v : Option Known) → v ≡ None → IsKept nothing (with_value 0 v nothing)
no_result_kept v e = subst (λ v. IsKept nothing (with_value 0 v nothing)) (sym e) (kept_if nothing (with_value 0 None nothing) (λ t. by (t == 0) (nat_lt t 0)))
  where
    by : (b c : Bool) → IsLessIf None (elim b [ true ↦ None | false ↦ cond c None None ])
    by true c = tt
    by false true = tt
    by false false = tt

void_none : (used : Bool) (t : Ty) → is_void t ≡ true → if_used used (type_known t) ≡ None
void_none true Void is = refl
void_none false Void is = refl
void_none used (Int k) is = never is
void_none used (Pointer t) is = never is
void_none used (Array t n) is = never is
void_none used (Struct i) is = never is

module _ {u : UnitView} {f : FunctionView} {calls : ℕ → Bool} {s : SettingView} {ds : List Dispatch} {K : Asks} {first top : ℕ} where
  -- the result is loaded only where it is used
  flowing_loaded : {low : ℕ} {from : State} (used : Bool) (at : Place) (p : Plan) → IsScalarOf f.returns → Flowing u f calls s ds used K first top low from (Some nothing) p
      → Flowing u f calls s ds used K first top low from (Some (result_known used f)) (result_loaded at (scalar_of f.returns) p)
  flowing_loaded true at p x k =
      let there = flowing_work (Some (addressed (Element f.returns))) _ _ (λ names last extends few labels meets. record { before = nothing; leads = kept_same nothing; acts = typed.gives_address 0 (length p.names) f.returns (base_here u f names Outcome p f.returns extends refl) (kept_same (addressed (Element f.returns))) }) (flowing_name Outcome p k) in
      let taken = flowing_work (Some (result_known true f)) _ _ (λ names last extends few labels meets. record {
        before = addressed (Element f.returns);
        leads = kept_same (addressed (Element f.returns));
        acts = typed.loads 0 0 (scalar_of f.returns) f.returns (type_known f.returns) (record { known = Pointing (Element f.returns); target = Element f.returns; has = refl; less = is_same (Element f.returns); is = refl }) x.kind (result_kept (type_known f.returns) (addressed (Element f.returns)));
      }) there in
      flowing_do (result_known true f) _ _ (λ names extends. typed.leaves_object _ (kept_same (result_known true f))) taken
  flowing_loaded false at p x k =
      let there = flowing_work (Some nothing) _ _ (λ names last extends few labels meets. kept_same nothing) (flowing_name Outcome p k) in
      let taken = flowing_work (Some nothing) _ _ (λ names last extends few labels meets. kept_same nothing) there in
      flowing_weaker (Some (result_known false f)) _ (no_result_kept None refl) (flowing_do nothing _ _ (λ names extends. typed.leaves_object _ (kept_same nothing)) taken)

  flowing_outcome : {low : ℕ} {from : State} (used : Bool) (at : Place) (p : Plan) → (is_void f.returns || is_scalar f.returns) ≡ true → Flowing u f calls s ds used K first top low from (Some nothing) p
      → Flowing u f calls s ds used K first top low from (Some (result_known used f)) (outcome at f.returns p)
  flowing_outcome {low = low} {from = from} used at p is k = by (is_void f.returns) refl is
    where
      by : (b : Bool) → is_void f.returns ≡ b → (b || is_scalar f.returns) ≡ true → Flowing u f calls s ds used K first top low from (Some (result_known used f)) (cond b p (result_loaded at (scalar_of f.returns) p))
      by true e is = flowing_weaker (Some (result_known used f)) p (no_result_kept (if_used used (type_known f.returns)) (void_none used f.returns e)) k
      by false e is = flowing_loaded used at p (scalar_of_type f.returns is) k

-- ---- functions

-- nothing is known at the labels of the function and behind its body
abbrev pub entry_asks : FunctionView → Asks
entry_asks f l k = (l ≤ f.labels) × (k ≡ nothing)

-- and before its parameters the arguments
abbrev pub called_asks : FunctionView → Asks
called_asks f l k = ((l ≤ f.labels) × (k ≡ nothing)) ⊎ ((l ≡ f.labels + 1) × (k ≡ parameters_known f))

less_le : (l n : ℕ) → l < n → l ≤ n
less_le l n less = omega (arith, less)

same_le : (m n : ℕ) → m ≡ n → m ≤ n
same_le m n e = omega (arith, e)

second_from : (n : ℕ) → n + 1 ≤ n + 1
second_from n = omega arith

second_below : (n last : ℕ) → n + 2 ≤ last → n + 1 < last
second_below n last le = omega (arith, le)

module _ (u : UnitView) (f : FunctionView) (calls : ℕ → Bool) (s : SettingView) (ds : List Dispatch) (used : Bool) (top : ℕ) (looks : Looks u f calls 0 false (list (statement_trees f.body))) (end_is : s.end ≡ f.labels) where
  pub flowing_entry : Flowing u f calls s ds used (entry_asks f) (f.labels + 1) top (f.labels + 1) (Some nothing) None (entry s f (no_plan f.labels))
  flowing_entry =
      let within : (last : ℕ) → f.labels + 1 ≤ last → IsAround f s ds (Asked (entry_asks f) (f.labels + 1) last) top 0 false s.end s.end 0 = λ last few. body_within f s ds (Asked (entry_asks f) (f.labels + 1) last) top (λ l less. inl (less_le l f.labels less, refl)) (inl (same_le s.end f.labels end_is, refl)) in
      flowing_stopped s.at (body s f (no_plan f.labels)) (flowing_body (no_plan f.labels) looks within (flowing_none (Some nothing) (no_plan f.labels) refl))

  pub flowing_called : f.parameters ≤ length f.locals → list_all is_scalar (local_types (take f.parameters f.locals)) ≡ true → (is_void f.returns || is_scalar f.returns) ≡ true → AreBelow f.parameters s.parameters
      → Flowing u f calls s ds used (called_asks f) ((f.labels + 1) + 1) top ((f.labels + 1) + 2) (Some (parameters_known f)) (Some (result_known used f)) (called s f (no_plan f.labels))
  flowing_called few scalars result all =
      let n = f.labels + 1 in
      let p = no_plan f.labels in
      let within : (last : ℕ) → n + 2 ≤ last → IsAround f s ds (Asked (called_asks f) (n + 1) last) top 0 false s.end s.end 0 = λ last le. body_within f s ds (Asked (called_asks f) (n + 1) last) top (λ l less. inl (inl (less_le l f.labels less, refl))) (inl (inl (same_le s.end f.labels end_is, refl))) in
      let start : Flowing u f calls s ds used (called_asks f) (n + 1) top (n + 2) (Some (parameters_known f)) (Some (parameters_known f)) (with_labels 2 p) = flowing_labels 2 p (flowing_none (Some (parameters_known f)) p refl) in
      let marked = flowing_work (Some (parameters_known f)) (jobs.Ready (Mark n)) (with_labels 2 p) (λ names last extends le labels meets. by labels (meets n (parameters_known f) (inl (inr (refl, refl))))) start in
      let entered = flowing_normalized _ (flowing_parameters u f few scalars _ all marked) in
      let inside = flowing_body _ looks within (flowing_mark (n + 1) _ (λ last le. inr (second_from n, second_below n last le, refl)) entered) in
      let back = flowing_mark s.end _ (λ last le. (within last le).end) (flowing_left s.at s.parameters _ inside) in
      flowing_outcome used s.at _ result back
    where
      by : (labels : ℕ → Temporaries) → labels (f.labels + 1) ≡ parameters_known f → IsKept (parameters_known f) (labels (f.labels + 1)) × IsKept (labels (f.labels + 1)) (parameters_known f)
      by labels e = (subst (λ k. IsKept (parameters_known f) k) (sym e) (kept_same (parameters_known f)), subst (λ k. IsKept k (parameters_known f)) (sym e) (kept_same (parameters_known f)))
