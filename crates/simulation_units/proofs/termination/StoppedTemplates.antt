-- A run over bounded templates stops.
use Rattle.std.proofs.Common.{◌≡◌, inl, inr, ℕ, zero, suc, ℤ, pos, Bool, true, false, cond, List, [], ◌∷◌, ◌++◌, Option, Some, None, refl, sym, subst}
use Rattle.cc_base.specs.declared.diagnostics.Place.{Place}
use Rattle.c_layout.specs.CheckedUnits.{UnitView}
use Rattle.memory_model.specs.Memory.Labels.{no_labels}
use Rattle.memory_model.specs.Memory.Scalars.{Scalar, integer, pointer}
use Rattle.memory_model.specs.Effects.LibraryCalls.{fgets}
use Rattle.memory_model.specs.Effects.NumberedTables.{put_at, empty_table}
use Rattle.memory_model.specs.Effects.Operands.{with_number}
use Rattle.memory_model.specs.Effects.UnitStarts.{start_world}
use Rattle.memory_model.specs.Effects.Worlds.{World, unviolated, Reply, goes, stops, behind, Violation}
use Rattle.lower_templates.specs.Worklist.Acts as act
use Rattle.lower_templates.specs.Worklist.Acts.{Act}
use Rattle.lower_templates.specs.Worklist.Pieces.{ExitView, PieceView, Do, DoIfUsed, End, Mark, Call, TemplateView}
use Rattle.semantics.specs.CfgMachine.FlowEdges.{is_taken}
use Rattle.semantics.specs.CfgMachine.FlowStates.{values_of}
use Rattle.semantics.specs.SourceMachine.SourceRuns.{violations}
use Rattle.semantics.specs.TemplateMachine.TemplateStates.{Templates, Frame, TemplateState, TemplateRun, running, stopped, with_world, if_some, on, going_on}
use Rattle.semantics.specs.TemplateMachine.TemplateActs.{perform}
use Rattle.semantics.specs.TemplateMachine.TemplateExits.{behind_mark, at_label, on_way, exit_taken, along, on_exit, put_if, line_read, end_block}
use Rattle.semantics.specs.TemplateMachine.TemplateSteps as runs
use Rattle.semantics.specs.TemplateMachine.TemplateSteps.{from_temp, up_to, run_by, next, steps_from, template_begin}
use Rattle.simulation_layout.specs.Normalized.NormalizedRuns.{templates}
use Rattle.simulation_layout.proofs.normalized.SameActs.{changed_in, over, same_act, same_way}
use Rattle.simulation_units.specs.Termination.BoundedTemplates.{AreLast, ExitsGoOn, GoOn, IsBounded}
use Rattle.simulation_units.proofs.termination.Lists.{itself}

module _ (u : UnitView) (of : ℕ → TemplateView) where
  abbrev t : Templates
  t = templates u of

  abbrev pub HasEnded : TemplateRun → Type 0
  HasEnded (running s found) = ⊥
  HasEnded (stopped why w found) = Unit {0}

  abbrev pub Ends : TemplateRun → Type 0
  Ends r = (n : ℕ) × HasEnded (steps_from t n r)

  one_step : (r : TemplateRun) → Ends (next t r) → Ends r
  one_step r e = (suc e.0, e.1)

  abbrev stand : ℕ → List PieceView → (ℕ → Option Scalar) → (ℕ → Option ℕ) → List Frame → World → TemplateState
  stand g rest temps names frames w = record { function = g; rest = rest; temps = temps; names = names; frames = frames; world = w }

  -- it ends wherever it stands before such pieces
  abbrev EndsFrom : ℕ → List PieceView → List Frame → Type 0
  EndsFrom g ps fs = (temps : ℕ → Option Scalar) (names : ℕ → Option ℕ) (w : World) (found : List Violation) → Ends (running (stand g ps temps names fs w) found)

  -- ---- one instruction

  module _ (g : ℕ) (ps : List PieceView) (fs : List Frame) (ends : (rest : List PieceView) → AreLast rest ps → EndsFrom g rest fs) (found : List Violation) (at : Place) where
    abbrev Ran : Reply TemplateState → Type 0
    Ran x = Ends (run_by found (Some at) x)

    abbrev here : (ℕ → Option Scalar) → (ℕ → Option ℕ) → World → TemplateState
    here temps names w = stand g ps temps names fs w

    acted : (a : Act) (temps : ℕ → Option Scalar) (names : ℕ → Option ℕ) (w : World) → Ran (perform t a (here temps names w))
    acted a temps names w = let s = here temps names w in subst Ran (sym (same_act u of of s ps fs refl a)) (by (perform t a s))
      where
        by : (x : Reply TemplateState) → Ran (over (changed_in (here temps names w)) x)
        by (goes r v) = ends ps (itself ps) r.temps r.names v (found ++ violations (Some at) v)
        by (stops why v) = (0, tt)

    -- ---- the end of a block

    abbrev LeadsOn : Option ExitView → Type 0
    LeadsOn None = Unit {0}
    LeadsOn (Some e) = (rest : List PieceView) → behind_mark e.to (of g).pieces ≡ Some rest → AreLast rest ps

    taken : (v : Scalar) (es : List ExitView) → ExitsGoOn (of g).pieces ps es → LeadsOn (exit_taken v es)
    taken v [] lead = tt
    taken v (e ∷ es) lead = by (is_taken v e.taken) (taken v es lead.1)
      where
        by : (b : Bool) → LeadsOn (exit_taken v es) → LeadsOn (cond b (Some e) (exit_taken v es))
        by true later = lead.0
        by false later = later

    labelled : (l : ℕ) → ((rest : List PieceView) → behind_mark l (of g).pieces ≡ Some rest → AreLast rest ps) → (temps : ℕ → Option Scalar) (names : ℕ → Option ℕ) (w : World) → Ran (at_label t (here temps names w) l)
    labelled l lead temps names w = by (behind_mark l (of g).pieces) refl
      where
        by : (o : Option (List PieceView)) → behind_mark l (of g).pieces ≡ o → Ran (if_some (here temps names w) o (λ rest. on (going_on (here temps names w) rest)))
        by None e = (0, tt)
        by (Some rest) e = ends rest (lead rest e) temps names w (found ++ violations (Some at) w)

    chosen : (o : Option ExitView) → LeadsOn o → (temps : ℕ → Option Scalar) (names : ℕ → Option ℕ) (w : World) → Ran (along t (here temps names w) o)
    chosen None lead temps names w = (0, tt)
    chosen (Some e) lead temps names w =
        let s = here temps names w in
        subst (λ x. Ran (behind x (λ s w. at_label t s e.to))) (sym (same_way u of of s ps fs refl e.taken)) (by (on_way t s e.taken))
      where
        by : (x : Reply TemplateState) → Ran (behind (over (changed_in (here temps names w)) x) (λ s w. at_label t s e.to))
        by (goes r v) = labelled e.to lead r.temps r.names r.world
        by (stops why v) = (0, tt)

    left_by : (es : List ExitView) → ExitsGoOn (of g).pieces ps es → (v : Scalar) (temps : ℕ → Option Scalar) (names : ℕ → Option ℕ) (w : World) → Ran (on_exit t (here temps names w) es v)
    left_by es lead v temps names w = chosen (exit_taken v es) (taken v es lead) temps names w

    switched : (es : List ExitView) → ExitsGoOn (of g).pieces ps es → (v : Scalar) (temps : ℕ → Option Scalar) (names : ℕ → Option ℕ) (w : World) → Ran (with_number v w (λ k labels v_w. on_exit t (here temps names w) es v))
    switched es lead (integer k labels) temps names w = left_by es lead (integer k labels) temps names w
    switched es lead (pointer p) temps names w = (0, tt)

    read : (es : List ExitView) → ExitsGoOn (of g).pieces ps es → (to : Option ℕ) (temps : ℕ → Option Scalar) (names : ℕ → Option ℕ) (w : World) (x : Reply Scalar) → Ran (behind x (λ v v_w. on_exit t (put_if to v (with_world (here temps names w) v_w)) es v))
    read es lead None temps names w (goes v v_w) = left_by es lead v temps names v_w
    read es lead (Some k) temps names w (goes v v_w) = left_by es lead v (put_at temps k v) names v_w
    read es lead to temps names w (stops why v_w) = (0, tt)

    ended : (a : Act) (es : List ExitView) → ExitsGoOn (of g).pieces ps es → (temps : ℕ → Option Scalar) (names : ℕ → Option ℕ) (w : World) → Ran (end_block t a es (here temps names w))
    ended act.Jump es lead temps names w = left_by es lead (integer (pos 0) no_labels) temps names w
    ended (act.Branch at_temp kind) es lead temps names w = by (temps at_temp)
      where
        by : (o : Option Scalar) → Ran (if_some (here temps names w) o (on_exit t (here temps names w) es))
        by None = (0, tt)
        by (Some v) = left_by es lead v temps names w
    ended (act.Switch at_temp kind) es lead temps names w = by (temps at_temp)
      where
        by : (o : Option Scalar) → Ran (if_some (here temps names w) o (λ v. with_number v w (λ k labels v_w. on_exit t (here temps names w) es v)))
        by None = (0, tt)
        by (Some v) = switched es lead v temps names w
    ended (act.ReadLine to text count stream) es lead temps names w = by (values_of temps (text ∷ (count ∷ (stream ∷ []))))
      where
        by : (o : Option (List Scalar)) → Ran (if_some (here temps names w) o (line_read t es to (here temps names w)))
        by None = (0, tt)
        by (Some vs) = read es lead to temps names w (fgets u.model vs w)
    ended act.Stop es lead temps names w = (0, tt)
    ended a es lead temps names w = (0, tt)

  -- ---- pieces

  abbrev waits : ℕ → List PieceView → (ℕ → Option Scalar) → (ℕ → Option ℕ) → ℕ → Place → Bool → Frame
  waits g ps temps names depth at used = record { function = g; rest = ps; temps = temps; names = names; depth = depth; at = at; used = used }

  -- each call of a function ends, where the function that waits ends behind it
  abbrev CallsEnd : ℕ → List Frame → Type 0
  CallsEnd m fs = (f : Frame) → EndsFrom f.function f.rest fs → EndsFrom m (of m).pieces (f ∷ fs)

  tail : (Q : ℕ → Type 0) (whole : List PieceView) (p : PieceView) (ps : List PieceView) → GoOn Q whole (p ∷ ps) → GoOn Q whole ps
  tail Q whole (Do s) ps go = go
  tail Q whole (DoIfUsed s) ps go = go
  tail Q whole (End s exits) ps go = go.1
  tail Q whole (Mark l) ps go = go
  tail Q whole (Call c) ps go = go.1

  module _ (g : ℕ) (fs : List Frame) (Q : ℕ → Type 0) (called : (m : ℕ) → Q m → CallsEnd m fs) (last : EndsFrom g [] fs) where
    first : (p : PieceView) (ps : List PieceView) → GoOn Q (of g).pieces (p ∷ ps) → ((rest : List PieceView) → AreLast rest ps → EndsFrom g rest fs) → EndsFrom g (p ∷ ps) fs
    first (Do s) ps go ends = λ temps names w found. one_step _ (acted g ps fs ends found s.at s.does temps names (unviolated w))
    first (DoIfUsed s) ps go ends = λ temps names w found. one_step _ (by temps names (unviolated w) found fs)
      where
        if_it_is : (temps : ℕ → Option Scalar) (names : ℕ → Option ℕ) (w : World) (found : List Violation) (at : Place) (b : Bool) → Ends (runs.stepped_on found (cond b (runs.instruction at (perform t s.does (stand g ps temps names fs w))) (runs.quiet (stand g ps temps names fs w))))
        if_it_is temps names w found at true = acted g ps fs ends found at s.does temps names w
        if_it_is temps names w found at false = ends ps (itself ps) temps names w (found ++ violations None w)

        by : (temps : ℕ → Option Scalar) (names : ℕ → Option ℕ) (w : World) (found : List Violation) (frames : List Frame) → Ends (runs.stepped_on found (runs.if_used t s.does (stand g ps temps names fs w) frames))
        by temps names w found [] = (0, tt)
        by temps names w found (f ∷ frames) = if_it_is temps names w found f.at f.used
    first (End s exits) ps go ends = λ temps names w found. one_step _ (ended g ps fs ends found s.at s.does exits go.0 temps names (unviolated w))
    first (Mark l) ps go ends = λ temps names w found. one_step _ (ends ps (itself ps) temps names (unviolated w) (found ++ []))
    first (Call c) ps go ends = λ temps names w found. one_step _ (called c.function go.0 (waits g ps temps names c.depth c.place c.used) (ends ps (itself ps)) (from_temp c.depth temps) empty_table (unviolated w) (found ++ []))

    from : (ps : List PieceView) → GoOn Q (of g).pieces ps → (rest : List PieceView) → AreLast rest ps → EndsFrom g rest fs
    from [] go rest is = subst (λ xs. EndsFrom g xs fs) (sym is) last
    from (p ∷ ps) go rest (inl is) = subst (λ xs. EndsFrom g xs fs) (sym is) (first p ps go (from ps (tail Q (of g).pieces p ps go)))
    from (p ∷ ps) go rest (inr is) = from ps (tail Q (of g).pieces p ps go) rest is

  -- ---- functions

  calls_end : (depth m : ℕ) → IsBounded of depth m → (fs : List Frame) → CallsEnd m fs
  calls_end zero m bounded fs f back = absurd bounded
  calls_end (suc depth) m bounded fs f back =
      from m (f ∷ fs) (IsBounded of depth) (λ g is. calls_end depth g is (f ∷ fs))
      (λ temps names w found. one_step _ (back (up_to f.depth f.temps temps) f.names (unviolated w) (found ++ [])))
      (of m).pieces bounded (of m).pieces (itself (of m).pieces)

  entry_ends : (depth : ℕ) → IsBounded of depth u.entry → EndsFrom u.entry (of u.entry).pieces []
  entry_ends zero bounded = absurd bounded
  entry_ends (suc depth) bounded = from u.entry [] (IsBounded of depth) (λ g is. calls_end depth g is []) (λ temps names w found. one_step _ (0, tt)) (of u.entry).pieces bounded (of u.entry).pieces (itself (of u.entry).pieces)

  pub run_ends : (depth : ℕ) → IsBounded of depth u.entry → (draws : List ℤ) → Ends (template_begin t draws)
  run_ends depth bounded draws = by (start_world u draws)
    where
      by : (x : Reply (Unit {0})) → Ends (runs.begun_by t x)
      by (goes x w) = entry_ends depth bounded _ _ w []
      by (stops why w) = (0, tt)
