-- Where a function returns over settled templates, one returns over the templates as they are made, with the same names.
use Rattle.std.proofs.Common.{◌≡◌, ◌<◌, ◌≤◌, ℕ, zero, suc, ◌+◌, ℤ, Bool, true, false, cond, List, [], ◌∷◌, ◌++◌, Option, refl, arith, ap, sym, subst, subst₂, ◌∙◌}
use Rattle.c_layout.specs.CheckedUnits.{UnitView}
use Rattle.memory_model.specs.Effects.Worlds.{Violation}
use Rattle.lower_templates.specs.Worklist.Pieces.{PieceView, Do, DoIfUsed, End, Mark, Call, TemplateView}
use Rattle.lower_objects.specs.declared.counts.function_counts.FunctionCounts.{FunctionCounts}
use Rattle.lower_tables.specs.Counts.NormalizedTemplates.{NamesView, is_silent, renamed_end}
use Rattle.lower_tables.specs.Counts.Preparations.{Reaches, Calls}
use Rattle.semantics.specs.TemplateMachine.TemplateStates.{Templates, Frame, TemplateState, TemplateRun, running}
use Rattle.semantics.specs.TemplateMachine.TemplateSteps.{back_to, next, steps_from, template_begin}
use Rattle.simulation_layout.specs.Normalized.NormalizedRuns.{Settles, AtReturn, ReturnsWith, Simulates}
use Rattle.simulation_layout.proofs.normalized.NormalizedPieces.{from, own}
use Rattle.simulation_layout.proofs.normalized.QuietFunctions.{Quiet, AreIdle, silent_is_quiet}
use Rattle.simulation_layout.proofs.normalized.NormalizedSteps.{first, second, calm, Rest, Waiting, none, one, same, Within, outside, inside, Both, step_both, Live, live, alive, agreed, first_both}
use Rattle.simulation_layout.proofs.normalized.QuietRuns.{Ends, EndsAlways, ends_later, returns, idle_ends, quiet_ends, all_end, steps_on}

-- pieces of which settling leaves nothing are calls that add nothing, and labels
idle_rest : (table : List (Option FunctionCounts)) (e : NamesView) (Q : ℕ → Type 0) → ((m : ℕ) → is_silent table m ≡ true → Q m) → (k : ℕ) (b : Bool) (ps : List PieceView) → from table e k b ps ≡ [] → AreIdle Q ps
idle_rest table e Q quiet k b [] is = tt
idle_rest table e Q quiet k b (Do s ∷ ps) is = cc
idle_rest table e Q quiet k b (DoIfUsed s ∷ ps) is = cc
idle_rest table e Q quiet k b (End s exits ∷ ps) is = absurd (no (renamed_end e s exits) (from table e k false ps) is)
  where
    no : (p : PieceView) (xs : List PieceView) → p ∷ xs ≡ [] → ⊥
    no p xs e = cc
idle_rest table e Q quiet k b (Mark l ∷ ps) is = (tt, by b is (λ is. idle_rest table e Q quiet k true ps is))
  where
    no : (p : PieceView) (xs : List PieceView) → p ∷ xs ≡ [] → ⊥
    no p xs e = cc

    by : (b : Bool) → cond b (from table e k true ps) (Mark k ∷ from table e (k + 1) true ps) ≡ [] → (from table e k true ps ≡ [] → AreIdle Q ps) → AreIdle Q ps
    by true is go = go is
    by false is go = absurd (no (Mark k) (from table e (k + 1) true ps) is)
idle_rest table e Q quiet k b (Call c ∷ ps) is = by (is_silent table c.function) refl is (λ is. idle_rest table e Q quiet k b ps is)
  where
    no : (p : PieceView) (xs : List PieceView) → p ∷ xs ≡ [] → ⊥
    no p xs e = cc

    by : (t : Bool) → is_silent table c.function ≡ t → cond t (from table e k b ps) (Call c ∷ from table e k false ps) ≡ [] → (from table e k b ps ≡ [] → AreIdle Q ps) → AreIdle Q (Call c ∷ ps)
    by true silent is go = (quiet c.function silent, go is)
    by false silent is go = absurd (no (Call c) (from table e k false ps) is)

module _ (u : UnitView) (made settles : ℕ → TemplateView) (known : (n : ℕ) → Reaches u n → Settles u n (made n) (settles n)) where
  abbrev one_run : Templates
  one_run = first u made settles known

  abbrev other_run : Templates
  other_run = second u made settles known

  abbrev It_ends : (ℕ → Option ℕ) → List Frame → TemplateRun → Type 0
  It_ends names frames r = Ends u made settles known names frames r

  -- ---- back to where the second run stands

  -- all but temporaries and the world
  record Shape (s t : TemplateState) : Type 0 where
    function : s.function ≡ t.function
    rest : s.rest ≡ t.rest
    names : s.names ≡ t.names
    frames : s.frames ≡ t.frames

  record Comes (base : TemplateState) (r : TemplateRun) : Type 0 where
    steps : ℕ
    standing : TemplateState
    found : List Violation
    is : steps_from one_run steps r ≡ running standing found
    shape : Shape standing base

  unwound : (s base t : TemplateState) (found : List Violation) → Within u made settles known s base → Shape t s → Comes base (running t found)
  unwound s _ t found (outside _) shape = record { steps = 0; standing = t; found = found; is = refl; shape = shape }
  unwound s base t found (inside _ _ f fs e idle reached w) shape =
      let x = idle_ends u made settles known t.function t.rest (all_end u made settles known t.rest (subst (AreIdle (Quiet u)) (sym shape.rest) idle)) (λ m calls. reached m (subst (λ ps. Calls ps m) shape.rest calls)) t.temps t.names t.frames t.world found in
      let back = back_to (calm u made settles known x.standing) f fs in
      let y = unwound (back_to s f fs) base back (x.found ++ []) w (record { function = refl; rest = refl; names = refl; frames = refl }) in
      let turn : next one_run (running x.standing x.found) ≡ running back (x.found ++ []) = returns u made settles known x.standing x.found f fs x.rest (x.frames_are ∙ shape.frames ∙ e) in
      record {
        steps = x.steps + suc y.steps;
        standing = y.standing;
        found = y.found;
        is = sym (steps_on u made settles known x.steps (suc y.steps) (running t found)) ∙ ap (λ r. steps_from one_run (suc y.steps) r) x.is ∙ ap (λ r. steps_from one_run y.steps r) turn ∙ y.is;
        shape = y.shape;
      }

  -- where the second run is about to return, the first one comes to do so
  to_return : (n : ℕ) (ps qs : List PieceView) (s base : TemplateState) (found : List Violation) → Rest u made settles known n ps qs → base.function ≡ n → base.rest ≡ ps → qs ≡ [] → Within u made settles known s base → It_ends base.names base.frames (running s found)
  to_return n ps qs s base found rest function is_rest none_left w =
      let x = unwound s base s found w (record { function = refl; rest = refl; names = refl; frames = refl }) in
      let t = x.standing in
      let idle = idle_rest rest.is.table (own rest.is.table (made n) rest.is.once) (EndsAlways u made settles known) (λ m silent. quiet_ends u made settles known m (silent_is_quiet u rest.is.table m rest.is.are_counts silent)) rest.labels rest.behind_label ps (sym rest.same ∙ none_left) in
      let same_rest : t.rest ≡ ps = x.shape.rest ∙ is_rest in
      let e = idle_ends u made settles known t.function t.rest (subst (AreIdle (EndsAlways u made settles known)) (sym same_rest) idle) (λ m calls. rest.reached m (subst (λ xs. Calls xs m) same_rest calls)) t.temps t.names t.frames t.world x.found in
      ends_later u made settles known base.names base.frames x.steps (running s found)
      (subst (λ r. It_ends base.names base.frames r) (sym x.is)
      (record { steps = e.steps; standing = e.standing; found = e.found; is = e.is; rest = e.rest; frames_are = e.frames_are ∙ x.shape.frames; names_are = e.names_are ∙ x.shape.names }))

  -- ---- what holds where functions return

  module _ (Q : (ℕ → Option ℕ) → Type 0) where
    at_return : (names : ℕ → Option ℕ) (frames : List Frame) (r : TemplateRun) → It_ends names frames r → ((j : ℕ) → ReturnsWith Q (steps_from one_run j r)) → AtReturn Q frames names
    at_return names frames r e holds = subst₂ (λ fs ns. AtReturn Q fs ns) e.frames_are e.names_are (subst (ReturnsWith Q) e.is (holds e.steps) e.rest)

    alike : (names : ℕ → Option ℕ) (fs gs : List Frame) → Waiting u made settles known fs gs → AtReturn Q fs names → AtReturn Q gs names
    alike names _ _ none holds = tt
    alike names _ _ (one n ps qs temps others depth at used fs gs rest waits) holds = holds

    returned : (a b : TemplateRun) → Live u made settles known a b → ((j : ℕ) → ReturnsWith Q (steps_from one_run j a)) → ReturnsWith Q b
    returned _ _ (live s _ _ found also w (same n ps qs temps names fs gs memory draws old new rest waits)) holds = λ none_left. alike names fs gs waits (at_return names fs (running s found) (to_return n ps qs s _ found rest refl refl none_left w) holds)

    -- ---- runs

    record Visits (n : ℕ) (a b : TemplateRun) : Type 0 where
      steps : ℕ
      both : Both u made settles known (steps_from one_run n a) (steps_from other_run steps b)
      returns : (j : ℕ) → j < steps → ReturnsWith Q (steps_from other_run j b)

    visits : (n : ℕ) (a b : TemplateRun) → Both u made settles known a b → ((j : ℕ) → ReturnsWith Q (steps_from one_run j a)) → Visits n a b
    visits zero a b both holds = record { steps = 0; both = both; returns = λ j less. absurd (omega (arith, less)) }
    visits (suc n) a b both holds = let x = step_both u made settles known a b both in by x.steps refl (visits n (next one_run a) (steps_from other_run x.steps b) x.both (λ j. holds (suc j)))
      where
        by : (k : ℕ) → (step_both u made settles known a b both).steps ≡ k → Visits n (next one_run a) (steps_from other_run (step_both u made settles known a b both).steps b) → Visits (suc n) a b
        by zero e v = let y = subst (λ k. Visits n (next one_run a) (steps_from other_run k b)) e v in record { steps = y.steps; both = y.both; returns = y.returns }
        by (suc zero) e v =
            let y = subst (λ k. Visits n (next one_run a) (steps_from other_run k b)) e v in
            record { steps = suc y.steps; both = y.both; returns = λ j less. at j y less }
          where
            at : (j : ℕ) (y : Visits n (next one_run a) (next other_run b)) → j < suc y.steps → ReturnsWith Q (steps_from other_run j b)
            at zero y less = returned a b (alive u made settles known a b both e) holds
            at (suc j) y less = y.returns j (omega (arith, less))
        by (suc (suc k)) e v = let few = (step_both u made settles known a b both).few in absurd (many k _ e few)
          where
            many : (k n : ℕ) → n ≡ suc (suc k) → n ≤ 1 → ⊥
            many k n e le = omega (arith, e, le)

    pub runs_return : (draws : List ℤ) → ((n : ℕ) → ReturnsWith Q (steps_from one_run n (template_begin one_run draws))) → (n : ℕ) → Simulates Q (steps_from one_run n (template_begin one_run draws)) other_run (template_begin other_run draws)
    runs_return draws holds n =
        let v = visits n (template_begin one_run draws) (template_begin other_run draws) (first_both u made settles known draws) holds in
        record { steps = v.steps; agree = agreed u made settles known _ _ v.both; returns = v.returns }
