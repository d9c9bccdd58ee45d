-- A step over templates as they are made is one over settled ones, or none.
use Rattle.std.proofs.Common.{◌≡◌, inl, inr, ℕ, zero, suc, ◌+◌, ◌-◌, ℤ, pos, Bool, true, false, cond, nat_lt, ◌≤◌, ◌==◌, List, [], ◌∷◌, ◌++◌, Option, Some, None, refl, arith, ap, sym, subst, subst₂, ◌∙◌}
use Rattle.std.specs.Option.{option_map}
use Rattle.std.proofs.Math.Path.{fun_ext}
use Rattle.std.proofs.lemmas.Bool.{ltb-false}
use Rattle.std.proofs.lemmas.List.{append-nil}
use Rattle.cc_base.specs.declared.diagnostics.Place.{Place}
use Rattle.cc_base.specs.declared.diagnostics.Rule.{Rule}
use Rattle.c_layout.specs.CheckedUnits.{UnitView}
use Rattle.memory_model.specs.Memory.Instances.{Memory}
use Rattle.memory_model.specs.Memory.Labels.{no_labels}
use Rattle.memory_model.specs.Memory.Scalars.{Scalar, integer, pointer}
use Rattle.memory_model.specs.Effects.LibraryCalls.{fgets}
use Rattle.memory_model.specs.Effects.NumberedTables.{put_at, empty_table}
use Rattle.memory_model.specs.Effects.Operands.{with_number}
use Rattle.memory_model.specs.Effects.UnitStarts.{start_world}
use Rattle.memory_model.specs.Effects.Worlds.{World, unviolated, Why, Stuck, Ended, Reply, goes, stops, behind, Violation}
use Rattle.lower_templates.specs.Worklist.Acts as act
use Rattle.lower_templates.specs.Worklist.Acts.{Act, Step}
use Rattle.lower_templates.specs.Worklist.Pieces.{ExitView, PieceView, Do, DoIfUsed, End, Mark, Call, TemplateView}
use Rattle.lower_templates.specs.declared.worklist.template_pieces.OwnCall.{OwnCall}
use Rattle.lower_tables.specs.Counts.NormalizedTemplates.{NamesView, is_silent, renamed, renamed_exit, renamed_exits}
use Rattle.lower_tables.specs.Counts.Preparations.{Reaches, begun, further, Calls}
use Rattle.semantics.specs.CfgMachine.FlowEdges.{is_taken}
use Rattle.semantics.specs.CfgMachine.FlowStates.{values_of}
use Rattle.semantics.specs.SourceMachine.SourceRuns.{violations}
use Rattle.semantics.specs.TemplateMachine.TemplateStates.{Templates, Frame, TemplateState, TemplateRun, running, stopped, with_world, if_some, on, going_on}
use Rattle.semantics.specs.TemplateMachine.TemplateActs.{perform}
use Rattle.semantics.specs.TemplateMachine.TemplateExits.{behind_mark, at_label, on_way, exit_taken, along, on_exit, put_if, line_read, end_block}
use Rattle.semantics.specs.TemplateMachine.TemplateSteps as runs
use Rattle.semantics.specs.TemplateMachine.TemplateSteps.{from_temp, up_to, waiting, back_to, run_by, next, steps_from, first_standing, template_begin}
use Rattle.simulation_layout.specs.Normalized.NormalizedRuns.{Settles, templates, AgreeUnlessStuck}
use Rattle.simulation_layout.proofs.normalized.NormalizedPieces.{from, own, normalized_from, led}
use Rattle.simulation_layout.proofs.normalized.QuietFunctions.{Quiet, AreIdle, quiet_pieces, silent_is_quiet}
use Rattle.simulation_layout.proofs.normalized.SameActs.{changed_in, over, same_act, same_way}

module _ (u : UnitView) (made settles : ℕ → TemplateView) (known : (n : ℕ) → Reaches u n → Settles u n (made n) (settles n)) where
  abbrev pub first : Templates
  first = templates u made

  abbrev pub second : Templates
  second = templates u settles

  -- ---- where both stand

  -- what a function has left to do before and behind settling
  pub record Rest (n : ℕ) (ps qs : List PieceView) : Type 0 where
    pub entered : Reaches u n
    pub is : Settles u n (made n) (settles n)
    pub labels : ℕ
    pub behind_label : Bool
    pub same : qs ≡ from is.table (own is.table (made n) is.once) labels behind_label ps
    pub reached : (m : ℕ) → Calls ps m → Reaches u m

  -- the functions that wait
  pub data Waiting : List Frame → List Frame → Type 0 where
    none : Waiting [] []
    one : (n : ℕ) (ps qs : List PieceView) (temps : ℕ → Option Scalar) (names : ℕ → Option ℕ) (depth : ℕ) (at : Place) (used : Bool) (fs gs : List Frame) → Rest n ps qs → Waiting fs gs
        → Waiting (record { function = n; rest = ps; temps = temps; names = names; depth = depth; at = at; used = used } ∷ fs) (record { function = n; rest = qs; temps = temps; names = names; depth = depth; at = at; used = used } ∷ gs)

  abbrev pub stand : ℕ → List PieceView → (ℕ → Option Scalar) → (ℕ → Option ℕ) → List Frame → World → TemplateState
  stand n rest temps names frames w = record { function = n; rest = rest; temps = temps; names = names; frames = frames; world = w }

  abbrev pub world : Memory → List ℤ → List Rule → World
  world memory draws violated = record { memory = memory; draws = draws; violated = violated }

  -- both are in the same function, and the worlds are the same, but for what the last step has violated
  pub data Same : TemplateState → TemplateState → Type 0 where
    same : (n : ℕ) (ps qs : List PieceView) (temps : ℕ → Option Scalar) (names : ℕ → Option ℕ) (fs gs : List Frame) (memory : Memory) (draws : List ℤ) (old new : List Rule) → Rest n ps qs → Waiting fs gs
        → Same (stand n ps temps names fs (world memory draws old)) (stand n qs temps names gs (world memory draws new))

  -- calls that add nothing are under way, and behind them the run stands there
  pub data Within : TemplateState → TemplateState → Type 0 where
    outside : (s : TemplateState) → Within s s
    inside : (s base : TemplateState) (f : Frame) (fs : List Frame) → s.frames ≡ f ∷ fs → AreIdle (Quiet u) s.rest → ((m : ℕ) → Calls s.rest m → Reaches u m) → Within (back_to s f fs) base → Within s base

  -- both go on alike, or have stopped alike, or the first one is stuck
  pub data Both : TemplateRun → TemplateRun → Type 0 where
    both_run : (s base r : TemplateState) (found also : List Violation) → Within s base → Same base r → found ≡ also → Both (running s found) (running r also)
    both_stopped : (why : Why) (w : World) (violated : List Rule) (found also : List Violation) → found ≡ also → Both (stopped why w found) (stopped why (record w { violated = violated }) also)
    stuck : (w : World) (found : List Violation) (r : TemplateRun) → Both (stopped Stuck w found) r

  -- one step of the second run at most
  pub record Next (a b : TemplateRun) : Type 0 where
    pub steps : ℕ
    pub few : steps ≤ 1
    pub both : Both a (steps_from second steps b)

  -- ---- pieces to come

  pub later : (p : PieceView) (ps : List PieceView) (m : ℕ) → Calls ps m → Calls (p ∷ ps) m
  later p ps m (at, q, there, calls) = (suc at, q, there, calls)

  behind_calls : (l : ℕ) (ps rest : List PieceView) (m : ℕ) → behind_mark l ps ≡ Some rest → Calls rest m → Calls ps m
  behind_calls l [] rest m found calls = cc
  behind_calls l (Do s ∷ ps) rest m found calls = later (Do s) ps m (behind_calls l ps rest m found calls)
  behind_calls l (DoIfUsed s ∷ ps) rest m found calls = later (DoIfUsed s) ps m (behind_calls l ps rest m found calls)
  behind_calls l (End s exits ∷ ps) rest m found calls = later (End s exits) ps m (behind_calls l ps rest m found calls)
  behind_calls l (Call c ∷ ps) rest m found calls = later (Call c) ps m (behind_calls l ps rest m found calls)
  behind_calls l (Mark j ∷ ps) rest m found calls = later (Mark j) ps m (by (l == j) (λ e. behind_calls l ps rest m e calls) found)
    where
      some_same : (x y : List PieceView) → Some x ≡ Some y → x ≡ y
      some_same x y e = cc

      by : (b : Bool) → (behind_mark l ps ≡ Some rest → Calls ps m) → cond b (Some ps) (behind_mark l ps) ≡ Some rest → Calls ps m
      by true otherwise e = subst (λ xs. Calls xs m) (sym (some_same ps rest e)) calls
      by false otherwise e = otherwise e

  pub whole : (n : ℕ) → Reaches u n → Rest n (made n).pieces (settles n).pieces
  whole n r =
      let k = known n r in
      record {
        entered = r;
        is = k;
        labels = 0;
        behind_label = false;
        same = ap (λ (t : TemplateView). t.pieces) k.is_normalized ∙ normalized_from k.table (made n) k.once;
        reached = λ m calls. further n m k.function (made n) r k.is_template calls;
      }

  -- ---- instructions

  module _ (n : ℕ) (ps qs : List PieceView) (fs gs : List Frame) (rest : Rest n ps qs) (waits : Waiting fs gs) (found also : List Violation) (equal : found ≡ also) (at : Place) where
    abbrev Ran : Reply TemplateState → Reply TemplateState → Type 0
    Ran x y = Both (run_by found (Some at) x) (run_by also (Some at) y)

    more : (w : World) → found ++ violations (Some at) w ≡ also ++ violations (Some at) w
    more w = ap (λ vs. vs ++ violations (Some at) w) equal

    ran : (xs ys : List PieceView) → Rest n xs ys → (temps : ℕ → Option Scalar) (names : ℕ → Option ℕ) (w v : World) → Ran (goes (stand n xs temps names fs v) w) (goes (stand n ys temps names gs v) w)
    ran xs ys left temps names w v = both_run _ _ _ _ _ (outside _) (same n xs ys temps names fs gs w.memory w.draws w.violated w.violated left waits) (more w)

    halted : (why : Why) (w : World) → Ran (stops why w) (stops why w)
    halted why w = both_stopped why w w.violated _ _ (more w)

    -- the same reply, seen from both
    replied : (s : TemplateState) → s.function ≡ n → (x : Reply TemplateState) → Ran (over (changed_in (record s { function = n; rest = ps; frames = fs })) x) (over (changed_in (record s { function = n; rest = qs; frames = gs })) x)
    replied s e (goes r w) = ran ps qs rest r.temps r.names w r.world
    replied s e (stops why w) = halted why w

    abbrev here : (ℕ → Option Scalar) → (ℕ → Option ℕ) → World → TemplateState
    here temps names w = stand n ps temps names fs w

    abbrev there : (ℕ → Option Scalar) → (ℕ → Option ℕ) → World → TemplateState
    there temps names w = stand n qs temps names gs w

    same_names : (made n).names ≡ (settles n).names
    same_names = sym (ap (λ (t : TemplateView). t.names) rest.is.is_normalized)

    acted : (a : Act) (temps : ℕ → Option Scalar) (names : ℕ → Option ℕ) (w : World) → Ran (perform first a (here temps names w)) (perform second a (there temps names w))
    acted a temps names w =
        let s = here temps names w in
        subst₂ Ran (sym (same_act u made made s ps fs refl a)) (sym (same_act u made settles s qs gs same_names a)) (by (perform first a s))
      where
        by : (x : Reply TemplateState) → Ran (over (changed_in (here temps names w)) x) (over (changed_in (there temps names w)) x)
        by (goes r v) = ran ps qs rest r.temps r.names v r.world
        by (stops why v) = halted why v

    -- ---- the end of a block

    abbrev numbers : NamesView
    numbers = own rest.is.table (made n) rest.is.once

    exit_renamed : (v : Scalar) (es : List ExitView) → exit_taken v (renamed_exits numbers es) ≡ option_map (renamed_exit numbers) (exit_taken v es)
    exit_renamed v [] = refl
    exit_renamed v (e ∷ es) = by (is_taken v e.taken) (exit_renamed v es)
      where
        by : (b : Bool) → exit_taken v (renamed_exits numbers es) ≡ option_map (renamed_exit numbers) (exit_taken v es) → cond b (Some (renamed_exit numbers e)) (exit_taken v (renamed_exits numbers es)) ≡ option_map (renamed_exit numbers) (cond b (Some e) (exit_taken v es))
        by true is = refl
        by false is = is

    -- what is behind a label
    labelled : (l : ℕ) (temps : ℕ → Option Scalar) (names : ℕ → Option ℕ) (w : World) → Ran (at_label first (here temps names w) l) (at_label second (there temps names w) (renamed numbers l))
    labelled l temps names w = by (behind_mark l (made n).pieces) refl
      where
        by : (o : Option (List PieceView)) → behind_mark l (made n).pieces ≡ o → Ran (if_some (here temps names w) o (λ rest. on (going_on (here temps names w) rest))) (at_label second (there temps names w) (renamed numbers l))
        by None e = stuck _ _ _
        by (Some xs) e =
            let (k, b, to) = led rest.is.table (made n) rest.is.once l xs e in
            let ys = from rest.is.table numbers k b xs in
            let found_there : behind_mark (renamed numbers l) (settles n).pieces ≡ Some ys = ap (λ (t : TemplateView). behind_mark (renamed numbers l) t.pieces) rest.is.is_normalized ∙ to in
            subst (λ o. Ran (goes (stand n xs temps names fs w) w) (if_some (there temps names w) o (λ rest. on (going_on (there temps names w) rest)))) (sym found_there)
            (ran xs ys (record { entered = rest.entered; is = rest.is; labels = k; behind_label = b; same = refl; reached = λ m calls. further n m rest.is.function (made n) rest.entered rest.is.is_template (behind_calls l (made n).pieces xs m e calls) }) temps names w w)

    chosen : (o : Option ExitView) (temps : ℕ → Option Scalar) (names : ℕ → Option ℕ) (w : World) → Ran (along first (here temps names w) o) (along second (there temps names w) (option_map (renamed_exit numbers) o))
    chosen None temps names w = stuck _ _ _
    chosen (Some e) temps names w =
        let s = here temps names w in
        subst₂ (λ x y. Ran (behind x (λ s w. at_label first s e.to)) (behind y (λ s w. at_label second s (renamed numbers e.to)))) (sym (same_way u made made s ps fs refl e.taken)) (sym (same_way u made settles s qs gs same_names e.taken)) (by (on_way first s e.taken))
      where
        by : (x : Reply TemplateState) → Ran (behind (over (changed_in (here temps names w)) x) (λ s w. at_label first s e.to)) (behind (over (changed_in (there temps names w)) x) (λ s w. at_label second s (renamed numbers e.to)))
        by (goes r v) = labelled e.to r.temps r.names r.world
        by (stops why v) = halted why v

    left_by : (es : List ExitView) (v : Scalar) (temps : ℕ → Option Scalar) (names : ℕ → Option ℕ) (w : World) → Ran (on_exit first (here temps names w) es v) (on_exit second (there temps names w) (renamed_exits numbers es) v)
    left_by es v temps names w = subst (λ o. Ran (on_exit first (here temps names w) es v) (along second (there temps names w) o)) (sym (exit_renamed v es)) (chosen (exit_taken v es) temps names w)

    switched : (es : List ExitView) (v : Scalar) (temps : ℕ → Option Scalar) (names : ℕ → Option ℕ) (w : World)
        → Ran (with_number v w (λ k labels v_w. on_exit first (here temps names w) es v)) (with_number v w (λ k labels v_w. on_exit second (there temps names w) (renamed_exits numbers es) v))
    switched es (integer k labels) temps names w = left_by es (integer k labels) temps names w
    switched es (pointer p) temps names w = stuck _ _ _

    read : (es : List ExitView) (to : Option ℕ) (temps : ℕ → Option Scalar) (names : ℕ → Option ℕ) (w : World) (x : Reply Scalar)
        → Ran (behind x (λ v v_w. on_exit first (put_if to v (with_world (here temps names w) v_w)) es v)) (behind x (λ v v_w. on_exit second (put_if to v (with_world (there temps names w) v_w)) (renamed_exits numbers es) v))
    read es None temps names w (goes v v_w) = left_by es v temps names v_w
    read es (Some k) temps names w (goes v v_w) = left_by es v (put_at temps k v) names v_w
    read es to temps names w (stops why v_w) = halted why v_w

    ended : (a : Act) (es : List ExitView) (temps : ℕ → Option Scalar) (names : ℕ → Option ℕ) (w : World) → Ran (end_block first a es (here temps names w)) (end_block second a (renamed_exits numbers es) (there temps names w))
    ended act.Jump es temps names w = left_by es (integer (pos 0) no_labels) temps names w
    ended (act.Branch at_temp kind) es temps names w = by (temps at_temp)
      where
        by : (o : Option Scalar) → Ran (if_some (here temps names w) o (on_exit first (here temps names w) es)) (if_some (there temps names w) o (on_exit second (there temps names w) (renamed_exits numbers es)))
        by None = stuck _ _ _
        by (Some v) = left_by es v temps names w
    ended (act.Switch at_temp kind) es temps names w = by (temps at_temp)
      where
        by : (o : Option Scalar) → Ran (if_some (here temps names w) o (λ v. with_number v w (λ k labels v_w. on_exit first (here temps names w) es v))) (if_some (there temps names w) o (λ v. with_number v w (λ k labels v_w. on_exit second (there temps names w) (renamed_exits numbers es) v)))
        by None = stuck _ _ _
        by (Some v) = switched es v temps names w
    ended (act.ReadLine to text count stream) es temps names w = by (values_of temps (text ∷ (count ∷ (stream ∷ []))))
      where
        by : (o : Option (List Scalar)) → Ran (if_some (here temps names w) o (line_read first es to (here temps names w))) (if_some (there temps names w) o (line_read second (renamed_exits numbers es) to (there temps names w)))
        by None = stuck _ _ _
        by (Some vs) = read es to temps names w (fgets u.model vs w)
    ended act.Stop es temps names w = halted Ended w
    ended a es temps names w = stuck _ _ _

  -- ---- temporaries of a call that does nothing

  up_same : (depth : ℕ) (temps : ℕ → Option Scalar) → up_to depth temps (from_temp depth temps) ≡ temps
  up_same depth temps = fun_ext (λ n. by n (nat_lt n depth) refl)
    where
      again : (n : ℕ) → depth ≤ n → depth + (n - depth) ≡ n
      again n le = omega (arith, le)

      by : (n : ℕ) (b : Bool) → nat_lt n depth ≡ b → elim b [ true ↦ temps n | false ↦ temps (depth + (n - depth)) ] ≡ temps n
      by n true e = refl
      by n false e = ap temps (again n (ltb-false n depth e))

  -- ---- calls that add nothing

  same_world : (s base : TemplateState) → Within s base → s.world ≡ base.world
  same_world s _ (outside _) = refl
  same_world s base (inside _ _ f fs e idle reached w) = same_world (back_to s f fs) base w

  abbrev pub calm : TemplateState → TemplateState
  calm s = with_world s (unviolated s.world)

  calm_within : (s base : TemplateState) → Within s base → Within (calm s) (calm base)
  calm_within s _ (outside _) = outside (calm s)
  calm_within s base (inside _ _ f fs e idle reached w) = inside (calm s) (calm base) f fs e idle reached (calm_within (back_to s f fs) base w)

  calm_same : (base r : TemplateState) → Same base r → Same (calm base) r
  calm_same _ _ (same n ps qs temps names fs gs memory draws old new rest waits) = same n ps qs temps names fs gs memory draws [] new rest waits

  -- a call that adds nothing begins
  begins : (s base : TemplateState) (c : OwnCall) → Quiet u c.function → Reaches u c.function → Within s base → Within (runs.call first c s) base
  begins s base c quiet reached w =
      let k = known c.function reached in
      inside (runs.call first c s) base (waiting s c) s.frames refl (quiet_pieces u c.function (made c.function) (settles c.function) k quiet) (whole c.function reached).reached
      (subst (λ t. Within (record s { temps = t }) base) (sym (up_same c.depth s.temps)) w)

  -- nothing is violated where nothing is done
  still : (found also : List Violation) → found ≡ also → found ++ [] ≡ also
  still found also e = append-nil found ∙ e

  inside_turn : (s base r : TemplateState) (f : Frame) (fs : List Frame) (found also : List Violation) (rest : List PieceView) → s.frames ≡ f ∷ fs → AreIdle (Quiet u) rest → ((m : ℕ) → Calls rest m → Reaches u m) → Within (back_to s f fs) base → Same base r → found ≡ also
      → Both (runs.stepped_on found (runs.step_by first (calm s) rest)) (running r also)
  inside_turn s base r f fs found also [] e idle reached w same_ equal =
      subst (λ frames. Both (runs.stepped_on found (runs.return_to (calm s) frames)) (running r also)) (sym e)
      (both_run _ _ _ _ _ (calm_within (back_to s f fs) base w) (calm_same base r same_) (still found also equal))
  inside_turn s base r f fs found also (Do i ∷ rest) e idle reached w same_ equal = absurd idle.0
  inside_turn s base r f fs found also (DoIfUsed i ∷ rest) e idle reached w same_ equal = absurd idle.0
  inside_turn s base r f fs found also (End i exits ∷ rest) e idle reached w same_ equal = absurd idle.0
  inside_turn s base r f fs found also (Mark l ∷ rest) e idle reached w same_ equal =
      both_run _ _ _ _ _ (inside (record (calm s) { rest = rest }) (calm base) f fs e idle.1 (λ m calls. reached m (later (Mark l) rest m calls)) (calm_within (back_to s f fs) base w)) (calm_same base r same_) (still found also equal)
  inside_turn s base r f fs found also (Call c ∷ rest) e idle reached w same_ equal =
      let here : Within (record (calm s) { rest = rest }) (calm base) = inside (record (calm s) { rest = rest }) (calm base) f fs e idle.1 (λ m calls. reached m (later (Call c) rest m calls)) (calm_within (back_to s f fs) base w) in
      both_run _ _ _ _ _ (begins (record (calm s) { rest = rest }) (calm base) c idle.0 (reached c.function (0, Call c, refl, refl)) here) (calm_same base r same_) (still found also equal)

  -- ---- one step

  module _ (n : ℕ) (temps : ℕ → Option Scalar) (names : ℕ → Option ℕ) (memory : Memory) (draws : List ℤ) (old new : List Rule) (found also : List Violation) (equal : found ≡ also) where
    abbrev calmed : World
    calmed = world memory draws []

    -- so many steps of the second run, where it has these pieces left
    abbrev After : List PieceView → List Frame → TemplateRun → ℕ → Type 0
    After qs gs a steps = Both a (steps_from second steps (running (stand n qs temps names gs (world memory draws new)) also))

    one_step : (qs xs : List PieceView) (gs : List Frame) (a : TemplateRun) → qs ≡ xs → After xs gs a 1 → Next a (running (stand n qs temps names gs (world memory draws new)) also)
    one_step qs xs gs a e both = record { steps = 1; few = omega arith; both = subst (λ ys. After ys gs a 1) (sym e) both }

    no_step : (qs xs : List PieceView) (gs : List Frame) (a : TemplateRun) → qs ≡ xs → After xs gs a 0 → Next a (running (stand n qs temps names gs (world memory draws new)) also)
    no_step qs xs gs a e both = record { steps = 0; few = omega arith; both = subst (λ ys. After ys gs a 0) (sym e) both }

    abbrev of_first : List PieceView → List Frame → TemplateRun
    of_first ps fs = runs.stepped_on found (runs.step_by first (stand n ps temps names fs calmed) ps)

    abbrev of_second : List PieceView → List Frame → TemplateRun
    of_second qs gs = running (stand n qs temps names gs (world memory draws new)) also

    -- both go on behind the piece
    abbrev next_rest : (p : PieceView) (ps qs : List PieceView) (r : Rest n (p ∷ ps) qs) (labels : ℕ) (b : Bool) → Rest n ps (from r.is.table (own r.is.table (made n) r.is.once) labels b ps)
    next_rest p ps qs r labels b = record { entered = r.entered; is = r.is; labels = labels; behind_label = b; same = refl; reached = λ m calls. r.reached m (later p ps m calls) }

    quiet_both : (ps qs : List PieceView) (fs gs : List Frame) → Rest n ps qs → Waiting fs gs → Both (running (stand n ps temps names fs calmed) (found ++ [])) (running (stand n qs temps names gs calmed) (also ++ []))
    quiet_both ps qs fs gs rest waits = both_run _ _ _ _ _ (outside _) (same n ps qs temps names fs gs memory draws [] [] rest waits) (ap (λ vs. vs ++ []) equal)

    quiet_first : (ps qs : List PieceView) (fs gs : List Frame) → Rest n ps qs → Waiting fs gs → Both (running (stand n ps temps names fs calmed) (found ++ [])) (running (stand n qs temps names gs (world memory draws new)) also)
    quiet_first ps qs fs gs rest waits = both_run _ _ _ _ _ (outside _) (same n ps qs temps names fs gs memory draws [] new rest waits) (still found also equal)

    returned : (fs gs : List Frame) → Waiting fs gs → Both (runs.stepped_on found (runs.return_to (stand n [] temps names fs calmed) fs)) (runs.stepped_on also (runs.return_to (stand n [] temps names gs calmed) gs))
    returned _ _ none = stuck _ _ _
    returned _ _ (one m xs ys olds names_there depth at used fs gs rest waits) = both_run _ _ _ _ _ (outside _) (same m xs ys (up_to depth olds temps) names_there fs gs memory draws [] [] rest waits) (ap (λ vs. vs ++ []) equal)

    used_or : (a : Act) (ps qs : List PieceView) (fs gs : List Frame) → Rest n ps qs → Waiting fs gs → Both (runs.stepped_on found (runs.if_used first a (stand n ps temps names fs calmed) fs)) (runs.stepped_on also (runs.if_used second a (stand n qs temps names gs calmed) gs))
    used_or a ps qs _ _ rest none = stuck _ _ _
    used_or a ps qs _ _ rest (one m xs ys olds names_there depth at true fs gs there waits) = acted n ps qs _ _ rest (one m xs ys olds names_there depth at true fs gs there waits) found also equal at a temps names calmed
    used_or a ps qs _ _ rest (one m xs ys olds names_there depth at false fs gs there waits) = quiet_both ps qs _ _ rest (one m xs ys olds names_there depth at false fs gs there waits)

    called : (c : OwnCall) (ps qs : List PieceView) (fs gs : List Frame) → Reaches u c.function → Rest n ps qs → Waiting fs gs
        → Both (runs.stepped_on found (runs.quiet (runs.call first c (stand n ps temps names fs calmed)))) (runs.stepped_on also (runs.quiet (runs.call second c (stand n qs temps names gs calmed))))
    called c ps qs fs gs reached rest waits =
        both_run _ _ _ _ _ (outside _) (same c.function (made c.function).pieces (settles c.function).pieces (from_temp c.depth temps) empty_table _ _ memory draws [] [] (whole c.function reached) (one n ps qs temps names c.depth c.place c.used fs gs rest waits))
        (ap (λ vs. vs ++ []) equal)

    turn : (ps qs : List PieceView) (fs gs : List Frame) → Rest n ps qs → Waiting fs gs → Next (of_first ps fs) (of_second qs gs)
    turn [] qs fs gs r waits = one_step qs [] gs _ r.same (returned fs gs waits)
    turn (Do i ∷ ps) qs fs gs r waits = one_step qs _ gs _ r.same (acted n ps _ fs gs (next_rest (Do i) ps qs r r.labels false) waits found also equal i.at i.does temps names calmed)
    turn (DoIfUsed i ∷ ps) qs fs gs r waits = one_step qs _ gs _ r.same (used_or i.does ps _ fs gs (next_rest (DoIfUsed i) ps qs r r.labels false) waits)
    turn (End i exits ∷ ps) qs fs gs r waits = one_step qs _ gs _ r.same (ended n ps _ fs gs (next_rest (End i exits) ps qs r r.labels false) waits found also equal i.at i.does exits temps names calmed)
    turn (Mark l ∷ ps) qs fs gs r waits = by r.behind_label refl
      where
        by : (b : Bool) → r.behind_label ≡ b → Next (of_first (Mark l ∷ ps) fs) (of_second qs gs)
        by true e = no_step qs _ gs _ (r.same ∙ ap (λ b. cond b (from r.is.table (own r.is.table (made n) r.is.once) r.labels true ps) (Mark r.labels ∷ from r.is.table (own r.is.table (made n) r.is.once) (r.labels + 1) true ps)) e) (quiet_first ps _ fs gs (next_rest (Mark l) ps qs r r.labels true) waits)
        by false e = one_step qs _ gs _ (r.same ∙ ap (λ b. cond b (from r.is.table (own r.is.table (made n) r.is.once) r.labels true ps) (Mark r.labels ∷ from r.is.table (own r.is.table (made n) r.is.once) (r.labels + 1) true ps)) e) (quiet_both ps _ fs gs (next_rest (Mark l) ps qs r (r.labels + 1) true) waits)
    turn (Call c ∷ ps) qs fs gs r waits = by (is_silent r.is.table c.function) refl
      where
        there : Reaches u c.function
        there = r.reached c.function (0, Call c, refl, refl)

        by : (b : Bool) → is_silent r.is.table c.function ≡ b → Next (of_first (Call c ∷ ps) fs) (of_second qs gs)
        by true e =
            no_step qs _ gs _ (r.same ∙ ap (λ b. cond b (from r.is.table (own r.is.table (made n) r.is.once) r.labels r.behind_label ps) (Call c ∷ from r.is.table (own r.is.table (made n) r.is.once) r.labels false ps)) e)
            (both_run _ _ _ _ _ (begins (stand n ps temps names fs calmed) _ c (silent_is_quiet u r.is.table c.function r.is.are_counts e) there (outside _)) (same n ps _ temps names fs gs memory draws [] new (next_rest (Call c) ps qs r r.labels r.behind_label) waits) (still found also equal))
        by false e = one_step qs _ gs _ (r.same ∙ ap (λ b. cond b (from r.is.table (own r.is.table (made n) r.is.once) r.labels r.behind_label ps) (Call c ∷ from r.is.table (own r.is.table (made n) r.is.once) r.labels false ps)) e) (called c ps _ fs gs there (next_rest (Call c) ps qs r r.labels false) waits)

  pub step_both : (a b : TemplateRun) → Both a b → Next (next first a) b
  step_both _ _ (both_run s _ r found also (outside _) (same n ps qs temps names fs gs memory draws old new rest waits) equal) = turn n temps names memory draws old new found also equal ps qs fs gs rest waits
  step_both _ _ (both_run s base r found also (inside _ _ f fs e idle reached w) same_ equal) = record { steps = 0; few = omega arith; both = inside_turn s base r f fs found also s.rest e idle reached w same_ equal }
  step_both _ _ (both_stopped why w violated found also equal) = record { steps = 0; few = omega arith; both = both_stopped why w violated found also equal }
  step_both _ _ (stuck w found r) = record { steps = 0; few = omega arith; both = stuck w found r }

  -- both go on
  pub data Live : TemplateRun → TemplateRun → Type 0 where
    live : (s base r : TemplateState) (found also : List Violation) → Within s base → Same base r → Live (running s found) (running r also)

  -- the second run goes on only from where both do
  pub alive : (a b : TemplateRun) (both : Both a b) → (step_both a b both).steps ≡ 1 → Live a b
  unfolding step_both
  alive _ _ (both_run s base r found also w same_ equal) e = live s base r found also w same_
  alive _ _ (both_stopped why w violated found also equal) e = absurd (omega (arith, e))
  alive _ _ (stuck w found r) e = absurd (omega (arith, e))

  -- ---- runs

  pub steps_on : (m k : ℕ) (r : TemplateRun) → steps_from second k (steps_from second m r) ≡ steps_from second (m + k) r
  steps_on zero k r = ap (λ j. steps_from second j r) (is k)
    where
      is : (k : ℕ) → k ≡ 0 + k
      is k = omega arith
  steps_on (suc m) k r = steps_on m k (next second r) ∙ ap (λ j. steps_from second j r) (is m k)
    where
      is : (m k : ℕ) → suc (m + k) ≡ suc m + k
      is m k = omega arith

  all_steps : (n : ℕ) (a b : TemplateRun) → Both a b → (m : ℕ) × Both (steps_from first n a) (steps_from second m b)
  all_steps zero a b both = (0, both)
  all_steps (suc n) a b both =
      let x = step_both a b both in
      let (m, rest) = all_steps n (next first a) (steps_from second x.steps b) x.both in
      (x.steps + m, subst (λ r. Both (steps_from first n (next first a)) r) (steps_on x.steps m b) rest)

  pub agreed : (a b : TemplateRun) → Both a b → AgreeUnlessStuck a b
  agreed _ _ (both_run s _ r found also w (same n ps qs temps names fs gs memory draws old new rest waits) equal) =
      let e = same_world s _ w in
      inr (record { memory = ap (λ (v : World). v.memory) e; draws = ap (λ (v : World). v.draws) e; found = equal; why = refl })
  agreed _ _ (both_stopped why w violated found also equal) = inr (record { memory = refl; draws = refl; found = equal; why = refl })
  agreed _ _ (stuck w found r) = inl refl

  pub first_both : (draws : List ℤ) → Both (template_begin first draws) (template_begin second draws)
  first_both draws = by (start_world u draws)
    where
      by : (x : Reply (Unit {0})) → Both (runs.begun_by first x) (runs.begun_by second x)
      by (goes t w) = both_run _ _ _ _ _ (outside _) (same u.entry (made u.entry).pieces (settles u.entry).pieces empty_table _ [] [] w.memory w.draws w.violated w.violated (whole u.entry begun) none) refl
      by (stops why w) = both_stopped why w w.violated [] [] refl

  pub runs_agree : (draws : List ℤ) (n : ℕ) → (m : ℕ) × AgreeUnlessStuck (steps_from first n (template_begin first draws)) (steps_from second m (template_begin second draws))
  runs_agree draws n = let (m, both) = all_steps n (template_begin first draws) (template_begin second draws) (first_both draws) in (m, agreed _ _ both)
