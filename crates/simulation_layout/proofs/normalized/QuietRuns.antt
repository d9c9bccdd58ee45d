-- A call of a function without an instruction ends, and changes no name.
use Rattle.std.proofs.Common.{◌≡◌, ℕ, zero, suc, ◌+◌, List, [], ◌∷◌, ◌++◌, Option, refl, arith, ap, sym, subst, ◌∙◌}
use Rattle.c_layout.specs.CheckedUnits.{UnitView}
use Rattle.memory_model.specs.Memory.Scalars.{Scalar}
use Rattle.memory_model.specs.Effects.NumberedTables.{empty_table}
use Rattle.memory_model.specs.Effects.Worlds.{World, unviolated, Violation}
use Rattle.lower_templates.specs.Worklist.Pieces.{PieceView, Do, DoIfUsed, End, Mark, Call, TemplateView}
use Rattle.lower_objects.specs.declared.counts.function_counts.FunctionCounts.{FunctionCounts}
use Rattle.lower_tables.specs.Counts.Preparations.{Reaches, Calls, Counts, counts}
use Rattle.semantics.specs.TemplateMachine.TemplateStates.{Templates, Frame, TemplateState, TemplateRun, running}
use Rattle.semantics.specs.TemplateMachine.TemplateSteps as runs
use Rattle.semantics.specs.TemplateMachine.TemplateSteps.{from_temp, up_to, back_to, next, steps_from}
use Rattle.simulation_layout.specs.Normalized.NormalizedRuns.{Settles}
use Rattle.simulation_layout.proofs.normalized.QuietFunctions.{Quiet, AreIdle, idle_template}
use Rattle.simulation_layout.proofs.normalized.NormalizedSteps.{first, stand, calm, later, whole}

module _ (u : UnitView) (made settles : ℕ → TemplateView) (known : (n : ℕ) → Reaches u n → Settles u n (made n) (settles n)) where
  abbrev plain : Templates
  plain = first u made settles known

  abbrev at : ℕ → List PieceView → (ℕ → Option Scalar) → (ℕ → Option ℕ) → List Frame → World → TemplateState
  at n rest temps names frames w = stand u made settles known n rest temps names frames w

  pub steps_on : (m k : ℕ) (r : TemplateRun) → steps_from plain k (steps_from plain m r) ≡ steps_from plain (m + k) r
  steps_on zero k r = ap (λ j. steps_from plain j r) (is k)
    where
      is : (k : ℕ) → k ≡ 0 + k
      is k = omega arith
  steps_on (suc m) k r = steps_on m k (next plain r) ∙ ap (λ j. steps_from plain j r) (is m k)
    where
      is : (m k : ℕ) → suc (m + k) ≡ suc m + k
      is m k = omega arith

  -- after some steps the function is about to return, with these names and functions that wait
  pub record Ends (names : ℕ → Option ℕ) (frames : List Frame) (r : TemplateRun) : Type 0 where
    pub steps : ℕ
    pub standing : TemplateState
    pub found : List Violation
    pub is : steps_from plain steps r ≡ running standing found
    pub rest : standing.rest ≡ []
    pub frames_are : standing.frames ≡ frames
    pub names_are : standing.names ≡ names

  -- so it is from one step before
  ends_before : (names : ℕ → Option ℕ) (frames : List Frame) (r : TemplateRun) → Ends names frames (next plain r) → Ends names frames r
  ends_before names frames r e = record { steps = suc e.steps; standing = e.standing; found = e.found; is = e.is; rest = e.rest; frames_are = e.frames_are; names_are = e.names_are }

  pub ends_later : (names : ℕ → Option ℕ) (frames : List Frame) (k : ℕ) (r : TemplateRun) → Ends names frames (steps_from plain k r) → Ends names frames r
  ends_later names frames k r e = record { steps = k + e.steps; standing = e.standing; found = e.found; is = sym (steps_on k e.steps r) ∙ e.is; rest = e.rest; frames_are = e.frames_are; names_are = e.names_are }

  -- a function that is about to return goes back to the one that waits
  pub returns : (s : TemplateState) (found : List Violation) (f : Frame) (fs : List Frame) → s.rest ≡ [] → s.frames ≡ f ∷ fs → next plain (running s found) ≡ running (back_to (calm u made settles known s) f fs) (found ++ [])
  returns s found f fs rest frames =
      ap (λ ps. runs.stepped_on found (runs.step_by plain (calm u made settles known s) ps)) rest
      ∙ ap (λ xs. runs.stepped_on found (runs.return_to (calm u made settles known s) xs)) frames

  -- each call of a function ends
  abbrev pub EndsAlways : ℕ → Type 0
  EndsAlways n = Reaches u n → (temps : ℕ → Option Scalar) (names : ℕ → Option ℕ) (frames : List Frame) (w : World) (found : List Violation) → Ends names frames (running (at n (made n).pieces temps names frames w) found)

  -- so do pieces that are labels and calls of such functions
  pub idle_ends : (n : ℕ) (ps : List PieceView) → AreIdle EndsAlways ps → ((m : ℕ) → Calls ps m → Reaches u m) → (temps : ℕ → Option Scalar) (names : ℕ → Option ℕ) (frames : List Frame) (w : World) (found : List Violation) → Ends names frames (running (at n ps temps names frames w) found)
  idle_ends n [] idle reached temps names frames w found = record { steps = 0; standing = at n [] temps names frames w; found = found; is = refl; rest = refl; frames_are = refl; names_are = refl }
  idle_ends n (Do s ∷ ps) idle reached temps names frames w found = absurd idle.0
  idle_ends n (DoIfUsed s ∷ ps) idle reached temps names frames w found = absurd idle.0
  idle_ends n (End s exits ∷ ps) idle reached temps names frames w found = absurd idle.0
  idle_ends n (Mark l ∷ ps) idle reached temps names frames w found =
      ends_before names frames _ (idle_ends n ps idle.1 (λ m calls. reached m (later u made settles known (Mark l) ps m calls)) temps names frames (unviolated w) (found ++ []))
  idle_ends n (Call c ∷ ps) idle reached temps names frames w found =
      let f : Frame = record { function = n; rest = ps; temps = temps; names = names; depth = c.depth; at = c.place; used = c.used } in
      let inside = idle.0 (reached c.function (0, Call c, refl, refl)) (from_temp c.depth temps) empty_table (f ∷ frames) (unviolated w) (found ++ []) in
      let back = calm u made settles known inside.standing in
      let go = idle_ends n ps idle.1 (λ m calls. reached m (later u made settles known (Call c) ps m calls)) (up_to c.depth temps inside.standing.temps) names frames back.world (inside.found ++ []) in
      let returned : Ends names frames (next plain (running inside.standing inside.found)) = subst (λ r. Ends names frames r) (sym (returns inside.standing inside.found f frames inside.rest inside.frames_are)) go in
      let called : Ends names frames (steps_from plain inside.steps (next plain (running (at n (Call c ∷ ps) temps names frames w) found))) = subst (λ r. Ends names frames r) (sym inside.is) (ends_before names frames (running inside.standing inside.found) returned) in
      ends_before names frames _ (ends_later names frames inside.steps _ called)

  -- ---- functions without an instruction

  ends_quietly : (n : ℕ) (c : FunctionCounts) → Counts u n c → c.from_empty.instructions ≡ 0 → EndsAlways n
  ends_quietly n c (counts _ g s table is all each) none = λ reached temps names frames w found.
      (let k = known n reached in
      idle_ends n (made n).pieces
      (idle_template EndsAlways u n k.function g (made n) s table k.is_template is all each (λ m x there quiet. ends_quietly m x (each m x there) quiet) none)
      (whole u made settles known n reached).reached temps names frames w found)

  pub quiet_ends : (n : ℕ) → Quiet u n → EndsAlways n
  quiet_ends n q = ends_quietly n q.counts q.are_counts q.none

  pub all_end : (ps : List PieceView) → AreIdle (Quiet u) ps → AreIdle EndsAlways ps
  all_end [] idle = tt
  all_end (Do s ∷ ps) idle = absurd idle.0
  all_end (DoIfUsed s ∷ ps) idle = absurd idle.0
  all_end (End s exits ∷ ps) idle = absurd idle.0
  all_end (Mark l ∷ ps) idle = (tt, all_end ps idle.1)
  all_end (Call c ∷ ps) idle = (quiet_ends c.function idle.0, all_end ps idle.1)
