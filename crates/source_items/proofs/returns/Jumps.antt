-- How what a function has to do changes, so that all that it names is ended still.
use Rattle.std.proofs.Common.{◌≡◌, ℕ, ◌==◌, Bool, true, false, ◌||◌, List, [], ◌∷◌, ◌++◌, Option, Some, None, refl, ap, sym, subst, ◌∙◌}
use Rattle.c_layout.specs.CheckedUnits.{UnitView, FunctionView}
use Rattle.memory_model.specs.Effects.NumberedTables.{put_at, clear_at}
use Rattle.semantics.specs.SourceMachine.Items as item
use Rattle.semantics.specs.SourceMachine.Items.{Item}
use Rattle.semantics.specs.SourceMachine.Scopes.{is_in, entered_between, jump, entering_first, leap_in, past_loop, past_iteration}
use Rattle.semantics.specs.SourceMachine.SourceStates.{Frame, function_at}
use Rattle.source_items.specs.Returns.EndedObjects.{ended_by, ended, AreAmong, EndOwn}
use Rattle.source_items.specs.Returns.Leavings.{Fits, Fit, Leaving, AllLeaving}
use Rattle.source_items.proofs.liveness.Members.{right_or}
use Rattle.source_items.proofs.returns.Members.{all_among}
use Rattle.source_items.proofs.returns.Ends.{ended_more, entered_among, left_or_ended}
use Rattle.source_items.proofs.returns.Fitting.{fit_behind_loop, fit_behind_turn}
use Rattle.source_items.proofs.returns.Labels.{Reached}

pub none_some : (i : ℕ) → None ≡ Some i → ⊥
none_some i e = cc

-- ---- the function that runs, if it was called

some_same : (f g : FunctionView) → Some f ≡ Some g → f ≡ g
some_same f g e = cc

one_function : (o : Option FunctionView) (f g : FunctionView) → o ≡ Some f → o ≡ Some g → f ≡ g
one_function o f g one other = some_same f g (sym one ∙ other)

pub change_all : (u : UnitView) (g : ℕ) (names other : ℕ → Option ℕ) (items others : List Item) (frames : List Frame) → ((f : FunctionView) → function_at u g ≡ Some f → Leaving f names items → Leaving f other others) → AllLeaving u g names items frames → AllLeaving u g other others frames
change_all u g names other items others [] change all = tt
change_all u g names other items others (c ∷ cs) change all = (record { function = all.0.function; is = all.0.is; leaving = change all.0.function all.0.is all.0.leaving }, all.1)

-- where its function is known
pub change_for : (u : UnitView) (g : ℕ) (f : FunctionView) → function_at u g ≡ Some f → (names other : ℕ → Option ℕ) (items others : List Item) (frames : List Frame) → (Leaving f names items → Leaving f other others) → AllLeaving u g names items frames → AllLeaving u g other others frames
change_for u g f is_f names other items others frames change all = change_all u g names other items others frames (λ h is. subst (λ h. Leaving h names items → Leaving h other others) (one_function (function_at u g) f h is_f is) change) all

module _ (f : FunctionView) (names : ℕ → Option ℕ) where
  -- ---- other items in the place of one

  pub covered_by : (items others : List Item) → AreAmong (ended f items) (ended f others) → Fit f others → Leaving f names items → Leaving f names others
  covered_by items others among fit leaving = record { covered = λ n i is. among n (leaving.covered n i is); fit = fit }

  pub in_place : (i : Item) (items rest : List Item) → ended_by f i ≡ [] → (Fits f i rest → Fit f rest → Fit f (items ++ rest)) → Leaving f names (i ∷ rest) → Leaving f names (items ++ rest)
  in_place i items rest none fit leaving = record {
    covered = λ n k is. ended_more f items rest n (subst (λ xs. is_in n (xs ++ ended f rest) ≡ true) none (leaving.covered n k is));
    fit = fit leaving.fit.0 leaving.fit.1;
  }

  pub gone : (i : Item) (rest : List Item) → ended_by f i ≡ [] → Leaving f names (i ∷ rest) → Leaving f names rest
  gone i rest none leaving = in_place i [] rest none (λ fits fit. fit) leaving

  -- ---- jumps

  pub jumping : (from to : List Item) → EndOwn f to → Fit f to → Leaving f names from → Leaving f names (jump from to)
  jumping from to own fit leaving = covered_by from (jump from to) (left_or_ended f from to own) (tt, (entered_among f from to, (tt, fit))) leaving

  pub breaking : (rest : List Item) → Leaving f names (item.BreakOut ∷ rest) → Leaving f names (jump rest (past_loop rest))
  breaking rest leaving = jumping rest (past_loop rest) leaving.fit.0 (fit_behind_loop f rest leaving.fit.1) (gone item.BreakOut rest refl leaving)

  pub continuing : (rest : List Item) → Leaving f names (item.NextIteration ∷ rest) → Leaving f names (jump rest (past_iteration rest))
  continuing rest leaving = jumping rest (past_iteration rest) leaving.fit.0 (fit_behind_turn f rest leaving.fit.1) (gone item.NextIteration rest refl leaving)

  entered_first : (xs to : List Item) (objects : List ℕ) → AreAmong objects (ended f to) → Fit f to → (AreAmong (ended f to) (ended f (entering_first objects to))) × Fit f (entering_first objects to)
  entered_first xs to [] among fit = (all_among (ended f to), fit)
  entered_first xs to (x ∷ objects) among fit = (all_among (ended f to), (among, (tt, fit)))

  pub leaping : (from to : List Item) → Reached f (ended f from) to → Leaving f names from → Leaving f names (leap_in from to)
  leaping from to reached leaving =
      let first = entered_first from to (entered_between from to) (entered_among f from to) reached.fit in
      covered_by from (leap_in from to) (λ n e. first.0 n (reached.ends n e)) first.1 leaving

  -- ---- objects that are entered and left

  pub entering_one : (n x : ℕ) (ns : List ℕ) (rest : List Item) → Leaving f names (item.Enters (n ∷ ns) ∷ rest) → Leaving f (put_at names n x) (item.Enters ns ∷ rest)
  entering_one n x ns rest leaving = record { covered = covered; fit = ((λ m e. leaving.fit.0 m (right_or (m == n) (is_in m ns) e)), leaving.fit.1) }
    where
      by : (m i : ℕ) (b : Bool) → (m == n) ≡ b → elim b [ true ↦ Some x | false ↦ names m ] ≡ Some i → is_in m (ended f rest) ≡ true
      by m i true same is = leaving.fit.0 m (ap (λ b. b || is_in m ns) same)
      by m i false other is = leaving.covered m i is

      covered : (m i : ℕ) → put_at names n x m ≡ Some i → is_in m (ended f rest) ≡ true
      covered m i is = by m i (m == n) refl is

  -- the object that a name stood for is not named any more
  pub leaving_one : (n : ℕ) (items rest : List Item) → ((m : ℕ) → (m == n) ≡ false → is_in m (ended f items) ≡ true → is_in m (ended f rest) ≡ true) → Fit f rest → Leaving f names items → Leaving f (clear_at names n) rest
  leaving_one n items rest others fit leaving = record { covered = covered; fit = fit }
    where
      by : (m i : ℕ) (b : Bool) → (m == n) ≡ b → elim b [ true ↦ None | false ↦ names m ] ≡ Some i → is_in m (ended f rest) ≡ true
      by m i true same is = absurd (none_some i is)
      by m i false other is = others m other (leaving.covered m i is)

      covered : (m i : ℕ) → clear_at names n m ≡ Some i → is_in m (ended f rest) ≡ true
      covered m i is = by m i (m == n) refl is
