-- Works whose edges lead to labels that are marked, before or behind.
use Rattle.std.proofs.Common.{◌≡◌, ◌<◌, ◌⊎◌, inl, inr, ℕ, ◌+◌, Bool, true, false, cond, List, [], ◌∷◌, ◌++◌, length, Option, Some, None, refl, arith, ap, sym, subst, ◌∙◌}
use Rattle.cc_base.specs.declared.diagnostics.Place.{Place}
use Rattle.c_layout.specs.CheckedTrees.{TermTree, StatementTree}
use Rattle.c_layout.specs.CheckedUnits.{FunctionView}
use Rattle.lower_expressions.specs.Branches.{jump}
use Rattle.typed_programs.specs.PlainUnits.PlainTerms.{is_plain_term, is_plain_option}
use Rattle.typed_programs.specs.PlainWorklists.LeadingPieces.{is_plain_act, is_of_object, AreOfObjects, AllTo}
use Rattle.typed_programs.proofs.plain_worklists.LeadingWorks.{HasOwn, Brought, switches_of, all_switches_of, IsOn, AreOn, are_more, Leading}
use Rattle.lower_functions.specs.Statements.Loops.{check, unused}
use Rattle.lower_functions.specs.Statements.ScopeJumps.{entered, left, all_entered, all_left}
use Rattle.lower_templates.specs.Worklist.Acts.{Step}
use Rattle.lower_templates.specs.Worklist.Pieces.{NameView, ExitView, Do, DoIfUsed, End, Mark}
use Rattle.lower_templates.specs.Worklist.Works as jobs
use Rattle.lower_templates.specs.Worklist.Works.{Job}
use Rattle.lower_templates.specs.Worklist.Plans.{Plan, with_work, with_name, with_labels, with_scope}
use Rattle.lower_templates.specs.Worklist.Settings.{SettingView}
use Rattle.lower_templates.specs.declared.worklist.template_builder.Dispatch.{Dispatch}
use Rattle.lower_templates.specs.declared.worklist.pending_works.Decision.{Decision}
use Rattle.lower_templates.specs.declared.worklist.pending_works.Surroundings.{Surroundings}
use Rattle.simulation_terms.specs.Scopes.Scopes.{switches_in}
use Rattle.typed_lowering.proofs.looped_templates.HeldStatements.{IsHeld}

module _ (calls : ℕ → Bool) (s : SettingView) (f : FunctionView) (W : ℕ → Type 0) where
  -- a statement whose jumps lead to such labels, behind which so many switches began
  pub record JumpsWithin (begun : ℕ) (i : StatementTree) (around : Surroundings) : Type 0 where
    pub breaks : Bool
    pub loops : Bool
    pub held : IsHeld calls s f breaks loops begun i
    pub on_break : breaks ≡ true → W around.on_break.label
    pub on_continue : loops ≡ true → W around.on_continue.label
    pub choice : HasOwn i → around.choice < begun

  abbrev pub IsWithin : ℕ → Job → Type 0
  IsWithin begun (jobs.Statement i around) = JumpsWithin begun i around
  IsWithin begun other = ⊥

  -- a work that leads on to such labels, or a statement
  abbrev pub IsCalmWork : ℕ → Job → Type 0
  IsCalmWork begun j = IsOn calls s begun W j ⊎ IsWithin begun j

  abbrev pub AreCalmWorks : ℕ → List Job → Type 0
  AreCalmWorks begun [] = Unit {0}
  AreCalmWorks begun (j ∷ js) = IsCalmWork begun j × AreCalmWorks (begun + switches_of j) js

  -- what is planned is calm: behind so many switches that were begun before it, it begins so many
  pub record Calm (begun count : ℕ) (p : Plan) : Type 0 where
    pub works : AreCalmWorks begun p.jobs
    pub begins : all_switches_of p.jobs ≡ count
    pub before : length p.dispatches ≡ begun
    pub names : AreOfObjects p.names

-- ---- one work more

none_more : (a : ℕ) → a + 0 ≡ a
none_more a = omega arith

in_turn : (a b c : ℕ) → a + (b + c) ≡ (a + b) + c
in_turn a b c = omega arith

count_last : (js : List Job) (k : Job) → all_switches_of (js ++ k ∷ []) ≡ all_switches_of js + switches_of k
count_last [] k = first (switches_of k)
  where
    first : (a : ℕ) → a + 0 ≡ 0 + a
    first a = omega arith
count_last (j ∷ js) k = let e = count_last js k in omega (arith, e)

objects_more : (xs : List NameView) (x : NameView) → AreOfObjects xs → is_of_object x ≡ true → AreOfObjects (xs ++ x ∷ [])
objects_more [] x all is = (is, tt)
objects_more (y ∷ xs) x (one, all) is = (one, objects_more xs x all is)

module _ (calls : ℕ → Bool) (s : SettingView) (f : FunctionView) (W : ℕ → Type 0) where
  calm_last : (begun : ℕ) (js : List Job) (k : Job) → AreCalmWorks calls s f W begun js → IsCalmWork calls s f W (begun + all_switches_of js) k → AreCalmWorks calls s f W begun (js ++ k ∷ [])
  calm_last begun [] k all is = (subst (λ b. IsCalmWork calls s f W b k) (none_more begun) is, tt)
  calm_last begun (j ∷ js) k (one, all) is = (one, calm_last (begun + switches_of j) js k all (subst (λ b. IsCalmWork calls s f W b k) (in_turn begun (switches_of j) (all_switches_of js)) is))

  -- works that lead on
  are_calm : (ds : List Dispatch) (L : ℕ → Type 0) (begun : ℕ) (js : List Job) → ((l : ℕ) → Brought ds js L l → W l) → AreOn calls s ds begun L js → AreCalmWorks calls s f W begun js
  are_calm ds L begun [] all on = tt
  are_calm ds L begun (j ∷ js) all (one, on) =
      let here : AreOn calls s ds begun W (j ∷ []) = are_more calls s ds (Brought ds js L) W begun (j ∷ []) (λ l x. all l (inr x)) (one, tt) in
      (inl here.0, are_calm ds L (begun + switches_of j) js (λ l x. all l (inr x)) on)

module _ {calls : ℕ → Bool} {s : SettingView} {f : FunctionView} {W : ℕ → Type 0} {begun count : ℕ} where
  pub leading_calm : (ds : List Dispatch) (L : ℕ → Type 0) (p : Plan) → ((l : ℕ) → Brought ds p.jobs L l → W l) → Leading calls s ds begun count L p → Calm calls s f W begun count p
  leading_calm ds L p all k = record { works = are_calm calls s f W ds L begun p.jobs all k.works; begins = k.begins; before = k.before; names = k.names }

  calm_work : (j : Job) (p : Plan) → IsCalmWork calls s f W (begun + count) j → Calm calls s f W begun count p → Calm calls s f W begun (count + switches_of j) (with_work j p)
  unfolding with_work
  calm_work j p is k = record {
    works = calm_last calls s f W begun p.jobs j k.works (subst (λ c. IsCalmWork calls s f W (begun + c) j) (sym k.begins) is);
    begins = count_last p.jobs j ∙ ap (λ c. c + switches_of j) k.begins;
    before = k.before;
    names = k.names;
  }

  -- a work that begins no switch
  calm_silent : (j : Job) (p : Plan) → switches_of j ≡ 0 → IsOn calls s (begun + count) W j → Calm calls s f W begun count p → Calm calls s f W begun count (with_work j p)
  calm_silent j p none is k = subst (λ c. Calm calls s f W begun c (with_work j p)) (ap (λ c. count + c) none ∙ none_more count) (calm_work j p (inl is) k)

  pub calm_statement : (b : ℕ) (i : StatementTree) (around : Surroundings) (p : Plan) → b ≡ begun + count → JumpsWithin calls s f W b i around → Calm calls s f W begun count p → Calm calls s f W begun (count + switches_in i) (with_work (jobs.Statement i around) p)
  calm_statement b i around p e within k = calm_work (jobs.Statement i around) p (inr (subst (λ c. JumpsWithin calls s f W c i around) e within)) k

  pub calm_name : (x : NameView) (p : Plan) → is_of_object x ≡ true → Calm calls s f W begun count p → Calm calls s f W begun count (with_name x p)
  unfolding with_name
  calm_name x p is k = record { works = k.works; begins = k.begins; before = k.before; names = objects_more p.names x k.names is }

  pub calm_labels : (n : ℕ) (p : Plan) → Calm calls s f W begun count p → Calm calls s f W begun count (with_labels n p)
  unfolding with_labels
  calm_labels n p k = record { works = k.works; begins = k.begins; before = k.before; names = k.names }

  pub calm_scope : (p : Plan) → Calm calls s f W begun count p → Calm calls s f W begun count (with_scope p)
  unfolding with_scope
  calm_scope p k = record { works = k.works; begins = k.begins; before = k.before; names = k.names }

  pub calm_do : (x : Step) (p : Plan) → is_plain_act x.does ≡ true → Calm calls s f W begun count p → Calm calls s f W begun count (with_work (jobs.Ready (Do x)) p)
  calm_do x p plain k = calm_silent (jobs.Ready (Do x)) p refl plain k

  pub calm_do_if_used : (x : Step) (p : Plan) → is_plain_act x.does ≡ true → Calm calls s f W begun count p → Calm calls s f W begun count (with_work (jobs.Ready (DoIfUsed x)) p)
  calm_do_if_used x p plain k = calm_silent (jobs.Ready (DoIfUsed x)) p refl plain k

  pub calm_end : (x : Step) (exits : List ExitView) (p : Plan) → is_plain_act x.does ≡ true → AllTo W exits → Calm calls s f W begun count p → Calm calls s f W begun count (with_work (jobs.Ready (End x exits)) p)
  calm_end x exits p plain to k = calm_silent (jobs.Ready (End x exits)) p refl (plain, to) k

  pub calm_jump : (at : Place) (to : ℕ) (p : Plan) → W to → Calm calls s f W begun count p → Calm calls s f W begun count (jump at to p)
  calm_jump at to p there k = calm_end _ _ p refl (there, tt) k

  pub calm_mark : (m : ℕ) (p : Plan) → Calm calls s f W begun count p → Calm calls s f W begun count (with_work (jobs.Ready (Mark m)) p)
  calm_mark m p k = calm_silent (jobs.Ready (Mark m)) p refl tt k

  calm_unused : (e : TermTree) (p : Plan) → is_plain_term calls e ≡ true → Calm calls s f W begun count p → Calm calls s f W begun count (with_work (jobs.Unused e 0) p)
  calm_unused e p plain k = calm_silent (jobs.Unused e 0) p refl plain k

  pub calm_condition : (e : TermTree) (d : Decision) (p : Plan) → is_plain_term calls e ≡ true → W d.targets.yes → W d.targets.no → Calm calls s f W begun count p → Calm calls s f W begun count (with_work (jobs.Condition e d) p)
  calm_condition e d p plain first second k = calm_silent (jobs.Condition e d) p refl (plain, first, second) k

  pub calm_or : (b : Bool) (p q : Plan) → Calm calls s f W begun count p → Calm calls s f W begun count q → Calm calls s f W begun count (cond b p q)
  calm_or true p q x y = x
  calm_or false p q x y = y

  -- ---- clauses of loops

  pub calm_step : (e : Option TermTree) (p : Plan) → is_plain_option calls e ≡ true → Calm calls s f W begun count p → Calm calls s f W begun count (unused e p)
  calm_step None p plain k = k
  calm_step (Some e) p plain k = calm_unused e p plain k

  pub calm_check : (label : ℕ) (e : Option TermTree) (first second : ℕ) (p : Plan) → is_plain_option calls e ≡ true → W first → W second → Calm calls s f W begun count p → Calm calls s f W begun count (check label e first second p)
  calm_check label None first second p plain there other k = calm_mark label p k
  calm_check label (Some e) first second p plain there other k = calm_condition e _ _ plain there other (calm_mark label p k)

-- nothing is planned
pub calm_none : {calls : ℕ → Bool} {s : SettingView} {f : FunctionView} {W : ℕ → Type 0} (p : Plan) → p.jobs ≡ [] → AreOfObjects p.names → Calm calls s f W (length p.dispatches) 0 p
calm_none {calls = calls} {s = s} {f = f} {W = W} p none names = record { works = subst (AreCalmWorks calls s f W (length p.dispatches)) (sym none) tt; begins = ap all_switches_of none; before = refl; names = names }

pub ruleset calm = (calm_do, calm_do_if_used, calm_name, calm_labels, calm_scope, calm_or)

module _ {calls : ℕ → Bool} {s : SettingView} {f : FunctionView} {W : ℕ → Type 0} {begun count : ℕ} where
  pub calm_entered : (at : Place) (xs : List ℕ) (p : Plan) → Calm calls s f W begun count p → Calm calls s f W begun count (all_entered at xs p)
  calm_entered at [] p k = k
  calm_entered at (x ∷ xs) p k = calm_entered at xs (entered at x p) (search calm depth 30)

  pub calm_left : (at : Place) (xs : List ℕ) (p : Plan) → Calm calls s f W begun count p → Calm calls s f W begun count (all_left at xs p)
  calm_left at [] p k = k
  calm_left at (x ∷ xs) p k = calm_left at xs (left at x p) (search calm depth 30)
