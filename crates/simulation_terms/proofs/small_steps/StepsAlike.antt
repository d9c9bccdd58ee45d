-- A step of both machines.
use Rattle.std.proofs.Common.{◌≡◌, ◌<◌, ℕ, zero, suc, ◌+◌, ℤ, true, false, List, [], ◌∷◌, ◌++◌, length, Option, Some, None, slice_get, refl, arith, ap, sym, subst, ◌∙◌}
use Rattle.std.proofs.lemmas.List.{append-nil}
use Rattle.cc_base.specs.declared.diagnostics.Place.{Place}
use Rattle.cc_base.specs.declared.diagnostics.Rule.{Rule}
use Rattle.c_layout.specs.Types.{Ty}
use Rattle.c_layout.specs.CheckedUnits.{FunctionView, LiteralView}
use Rattle.c_layout.specs.declared.checked_tree.checked_terms.ObjectRef.{ObjectRef}
use Rattle.c_layout.specs.declared.checked_tree.checked_terms.ObjectRef.TheVariants as object
use Rattle.memory_model.specs.Memory.Bytes.{into}
use Rattle.memory_model.specs.Memory.Instances.{Memory}
use Rattle.memory_model.specs.Memory.Scalars.{Scalar, pointer}
use Rattle.lower_functions.specs.Functions.Functions.{local_type}
use Rattle.memory_model.specs.Effects.NumberedTables.{put_at, clear_at}
use Rattle.memory_model.specs.Effects.Accesses.{store}
use Rattle.memory_model.specs.Effects.ObjectEffects.{next_instance, entered, left}
use Rattle.memory_model.specs.Effects.Worlds.{World, Why, Reply, goes, stops, behind, Violation}
use Rattle.lower_templates.specs.Worklist.Acts as act
use Rattle.lower_templates.specs.Worklist.Acts.{Act}
use Rattle.lower_templates.specs.Worklist.Pieces.{PieceView, Local, Outcome, Literal}
use Rattle.lower_templates.specs.Worklist.Plans.{name_of_object}
use Rattle.lower_templates.specs.Worklist.TermKinds.{scalar_of}
use Rattle.semantics.specs.CfgMachine.FlowStates as flow
use Rattle.semantics.specs.CfgMachine.FlowActs.{storing}
use Rattle.semantics.specs.SourceMachine.Items.{Item, Drop, Change, Forget, Clear, Spell}
use Rattle.semantics.specs.SourceMachine.Operations.{size_of, leaves}
use Rattle.semantics.specs.SourceMachine.SourceStates as states
use Rattle.semantics.specs.SourceMachine.SourceStates.{State, pushed, function_at, type_of, result_object}
use Rattle.semantics.specs.SourceMachine.ObjectSteps as steps
use Rattle.semantics.specs.SourceMachine.CallSteps as calls
use Rattle.semantics.specs.SourceMachine.SourceRuns as source
use Rattle.semantics.specs.TemplateMachine.TemplateStates as template
use Rattle.semantics.specs.TemplateMachine.TemplateStates.{Templates, TemplateState, scene}
use Rattle.semantics.specs.TemplateMachine.TemplateActs.{perform, in_flow, from_flow, pointed, addressed, on_local, from_scene, changed}
use Rattle.semantics.specs.TemplateMachine.TemplateSteps as runs
use Rattle.semantics.specs.TemplateMachine.TemplateSteps.{steps_from}
use Rattle.simulation_terms.specs.Instructions.Acts as acts
use Rattle.simulation_terms.specs.Instructions.Acts.{Holds, SameReply, SameStore}
use Rattle.simulation_terms.proofs.instructions.HeldValues.{holds_put}
use Rattle.simulation_terms.specs.SimulationRelation.Activations.{Activation, templates_of}
use Rattle.simulation_terms.specs.SimulationRelation.Simulates.{Names, Simulates, Reached, change_act}
use Rattle.simulation_terms.specs.SmallSteps.Alike as alike
use Rattle.simulation_terms.specs.SmallSteps.Alike.{Lined, Waits, Related, Alike, Next, moves_next, rest_of}
use Rattle.simulation_terms.proofs.small_steps.ValuesBelow.{raised}

-- what stands below the function that runs, in both machines
pub record Below (t : Activation) (n : ℕ) : Type 0 where
  pub values : List Scalar
  pub waiting : List template.Frame
  pub reached : Reached (templates_of t) t.function
  pub waits : Waits (templates_of t) n t.callers values waiting

-- a value that is pending, by its depth below the newest one and by its temporary
record Pending (vs below : List Scalar) (temps : ℕ → Option Scalar) (number depth : ℕ) : Type 0 where
  value : Scalar
  in_values : slice_get (vs ++ below) depth ≡ Some value
  in_temps : temps number ≡ Some value

pending_there : (vs : List Scalar) (temps : ℕ → Option Scalar) (below : List Scalar) (number depth : ℕ) → Holds vs temps → number + suc depth ≡ length vs → Pending vs below temps number depth
pending_there [] temps below number depth holds e = absurd (none number depth e)
  where
    none : (number depth : ℕ) → number + suc depth ≡ 0 → ⊥
    none number depth e = omega (arith, e)
pending_there (v ∷ vs) temps below number zero (here, rest) e = record { value = v; in_values = refl; in_temps = subst (λ k. temps k ≡ Some v) (newest number (length vs) e) here }
  where
    newest : (number m : ℕ) → number + 1 ≡ suc m → m ≡ number
    newest number m e = omega (arith, e)
pending_there (v ∷ vs) temps below number (suc k) (here, rest) e =
    let x = pending_there vs temps below number k rest (older number k (length vs) e) in
    record { value = x.value; in_values = x.in_values; in_temps = x.in_temps }
  where
    older : (number k m : ℕ) → number + suc (suc k) ≡ suc m → number + suc k ≡ m
    older number k m e = omega (arith, e)

-- the lifetime of an object that has none begins
abbrev entered_by : Activation → State → ℕ → Option FunctionView → Reply State
entered_by t s local f = states.if_some s f (λ f. steps.on (steps.enter_fresh t.unit s local f))

-- one piece more before some
pub first_then : (t : Templates) (n : ℕ) (before : source.SourceRun) (b : template.TemplateRun) (steps : ℕ) → Alike t n before b → ((j : ℕ) → j < steps → Alike t n before (steps_from t j (runs.next t b))) → (j : ℕ) → j < suc steps → Alike t n before (steps_from t j b)
first_then t n before b steps start later zero less = start
first_then t n before b steps start later (suc j) less = later j (omega (arith, less))

-- a turn that is one piece
pub one_piece : (t : Templates) (n : ℕ) (before after : source.SourceRun) (b : template.TemplateRun) → (rest_of b ≡ [] → moves_next before ≡ true) → Alike t n before b → Alike t n after (runs.next t b) → Next t n before after b
one_piece t n before after b some start same = record {
  steps = 1;
  both = same;
  between = first_then t n before b 0 start (λ j less. absurd (never j less));
  moved = λ none. absurd (no_step none);
  rests = λ no_move none. absurd (both_ways (some none) no_move);
}
  where
    never : (j : ℕ) → j < 0 → ⊥
    never j less = omega (arith, less)

    no_step : 1 ≡ zero → ⊥
    no_step e = omega (arith, e)

    both_ways : moves_next before ≡ true → moves_next before ≡ false → ⊥
    both_ways one other = cc

-- pieces are left
pub some_left : {A : Type 0} (p : PieceView) (ps : List PieceView) → p ∷ ps ≡ [] → A
some_left p ps e = absurd (no e)
  where
    no : p ∷ ps ≡ [] → ⊥
    no e = cc

module _ (t : Activation) (n : ℕ) (c : Below t n) where
  abbrev u : Templates
  u = templates_of t

  abbrev entered_if : State → ℕ → Option FunctionView → Option ℕ → Reply State
  entered_if s local f None = entered_by t s local f
  entered_if s local f (Some i) = states.stuck_at s

  pub lined : (d : ℕ) (items : List Item) (vs : List Scalar) (temps : ℕ → Option Scalar) (ps : List PieceView) → Simulates t n d items ps → Holds vs temps → length vs ≡ d → Lined t n items vs temps ps
  lined d items vs temps ps f holds e = alike.plain items vs temps ps (subst (λ k. Simulates t n k items ps) (sym e) f) holds

  -- where both machines stand, behind the head of a turn
  abbrev pub src : (ℕ → Option ℕ) → List Item → List Scalar → Memory → List ℤ → State
  src names items vs memory draws = record { function = t.function; names = names; control = items; values = vs ++ c.values; frames = t.callers; world = record { memory = memory; draws = draws; violated = [] } }

  -- the objects of the function that runs
  abbrev scn : (ℕ → Option ℕ) → Memory → List ℤ → State
  scn names memory draws = record { function = t.function; names = names; control = []; values = []; frames = []; world = record { memory = memory; draws = draws; violated = [] } }

  abbrev pub std : (ℕ → Option ℕ) → List PieceView → (ℕ → Option Scalar) → Memory → List ℤ → List Rule → TemplateState
  std names ps temps memory draws new = record { function = t.function; rest = ps; temps = temps; names = names; frames = c.waiting; world = record { memory = memory; draws = draws; violated = new } }

  -- a turn that is no step
  pub stay : (before : source.SourceRun) → moves_next before ≡ false → (names : ℕ → Option ℕ) (items : List Item) (vs : List Scalar) (temps : ℕ → Option Scalar) (ps : List PieceView) (memory : Memory) (draws : List ℤ) (new : List Rule) (found also : List Violation) (count : ℕ) → Lined t n items vs temps ps → found ≡ also → Next u n before (source.running (src names items vs memory draws) (found ++ []) count) (template.running (std names ps temps memory draws new) also)
  stay before still names items vs temps ps memory draws new found also count l e = record {
    steps = 0;
    both = alike.both_run _ _ (found ++ []) also count (alike.related t.function names items vs temps ps memory draws [] new t.callers c.values c.waiting c.reached l c.waits) (append-nil found ∙ e);
    between = λ j less. absurd (never j less);
    moved = λ none. still;
    rests = λ no_move none. refl;
  }
    where
      never : (j : ℕ) → j < 0 → ⊥
      never j less = omega (arith, less)

  -- where the turn begins
  pub starts : (names : ℕ → Option ℕ) (items : List Item) (vs : List Scalar) (temps : ℕ → Option Scalar) (ps : List PieceView) (memory : Memory) (draws : List ℤ) (old new : List Rule) (found also : List Violation) (count : ℕ) → Lined t n items vs temps ps → found ≡ also
      → Alike u n (source.running (record (src names items vs memory draws) { world = record { memory = memory; draws = draws; violated = old } }) found count) (template.running (std names ps temps memory draws new) also)
  starts names items vs temps ps memory draws old new found also count l e = alike.both_run _ _ found also count (alike.related t.function names items vs temps ps memory draws old new t.callers c.values c.waiting c.reached l c.waits) e

  -- ---- one instruction

  module _ (names : ℕ → Option ℕ) (memory : Memory) (draws : List ℤ) (found also : List Violation) (count : ℕ) (same : found ≡ also) (at : Place) where
    pub ran : (items : List Item) (vs : List Scalar) (temps : ℕ → Option Scalar) (ps : List PieceView) (others : ℕ → Option ℕ) (w : World) → Lined t n items vs temps ps → Alike u n (source.run_by found count (Some at) (goes (record (src others items vs memory draws) { world = w }) w)) (runs.run_by also (Some at) (goes (record (std others ps temps memory draws []) { world = w }) w))
    ran items vs temps ps others w l = alike.both_run _ _ _ _ _ (alike.related t.function others items vs temps ps w.memory w.draws w.violated w.violated t.callers c.values c.waiting c.reached l c.waits) (ap (λ vs. vs ++ source.violations (Some at) w) same)

    pub halted : (why : Why) (w : World) → Alike u n (source.run_by found count (Some at) (stops why w)) (runs.run_by also (Some at) (stops why w))
    halted why w = alike.both_stopped why w.memory w.draws w.violated w.violated _ _ _ (ap (λ vs. vs ++ source.violations (Some at) w) same)

    pub operated : (next : ℕ) (items : List Item) (vs : List Scalar) (temps : ℕ → Option Scalar) (ps : List PieceView) (one : Reply (List Scalar)) (other : Reply TemplateState) → SameReply (std names ps temps memory draws []) next one other → Simulates t n next items ps
        → Alike u n (source.run_by found count (Some at) (behind (raised c.values one) (λ vs w. steps.on (record (src names items [] memory draws) { values = vs; world = w })))) (runs.run_by also (Some at) other)
    operated next items vs temps ps _ _ (acts.both_go xs ts w holds e) f = ran items xs ts ps names w (lined next items xs ts ps f holds e)
    operated next items vs temps ps _ _ (acts.both_stop why w) f = halted why w

    pub stored : (items : List Item) (vs all : List Scalar) (temps : ℕ → Option Scalar) (ps : List PieceView) (one : Reply (List Scalar)) (other : Reply TemplateState) → SameStore (std names ps temps memory draws []) vs one other → Simulates t n (length vs) items ps → Holds vs temps
        → Alike u n (source.run_by found count (Some at) (behind (raised c.values one) (λ vs w. steps.on (record (src names (Drop ∷ items) all memory draws) { values = vs; world = w })))) (runs.run_by also (Some at) other)
    stored items vs all temps ps _ _ (acts.both_go v w) f holds = ran (Drop ∷ items) (v ∷ vs) temps ps names w (alike.loose v items vs temps ps f holds)
    stored items vs all temps ps _ _ (acts.both_stop why w) f holds = halted why w

    -- ---- objects

    pointing : (items : List Item) (vs : List Scalar) (temps : ℕ → Option Scalar) (ps : List PieceView) (offset : ℕ) (kind : Option Ty) (instance : Option ℕ) → Simulates t n (suc (length vs)) items ps → Holds vs temps
        → Alike u n
        (source.run_by found count (Some at) (states.if_some (src names items vs memory draws) kind (λ ctype. states.if_some (src names items vs memory draws) instance (λ i. steps.on (pushed (pointer (into i offset 0 (size_of t.unit ctype))) (src names items vs memory draws))))))
        (runs.run_by also (Some at) (behind (states.if_some (scn names memory draws) kind (λ ctype. states.if_some (scn names memory draws) instance (λ i. steps.on (pushed (pointer (into i offset 0 (size_of t.unit ctype))) (scn names memory draws))))) (pointed (std names ps temps memory draws []) (length vs))))
    pointing items vs temps ps offset None instance f holds = halted _ _
    pointing items vs temps ps offset (Some ctype) None f holds = halted _ _
    pointing items vs temps ps offset (Some ctype) (Some i) f holds =
        let p = pointer (into i offset 0 (size_of t.unit ctype)) in
        ran items (p ∷ vs) (put_at temps (length vs) p) ps names (record { memory = memory; draws = draws; violated = [] }) (alike.plain items (p ∷ vs) (put_at temps (length vs) p) ps f (holds_put p vs temps holds))

    pub pointed_to : (items : List Item) (vs : List Scalar) (temps : ℕ → Option Scalar) (ps : List PieceView) (base offset : ℕ) (o : ObjectRef) → Names t base (name_of_object o) → Simulates t n (suc (length vs)) items ps → Holds vs temps
        → Alike u n (source.run_by found count (Some at) (steps.point_to t.unit (src names items vs memory draws) o offset)) (runs.run_by also (Some at) (perform u (act.Address (length vs) base offset) (std names ps temps memory draws [])))
    pointed_to items vs temps ps base offset o named f holds =
        subst (λ name. Alike u n (source.run_by found count (Some at) (steps.point_to t.unit (src names items vs memory draws) o offset)) (runs.run_by also (Some at) (template.if_some (std names ps temps memory draws []) name (addressed u (std names ps temps memory draws []) (length vs) offset)))) (sym named) (by o)
      where
        by : (o : ObjectRef) → Alike u n (source.run_by found count (Some at) (steps.point_to t.unit (src names items vs memory draws) o offset)) (runs.run_by also (Some at) (addressed u (std names ps temps memory draws []) (length vs) offset (name_of_object o)))
        by (object.Static m) = pointing items vs temps ps offset (type_of t.unit (src names items vs memory draws) (object.Static m)) (Some m) f holds
        by (object.Local m) = pointing items vs temps ps offset (type_of t.unit (src names items vs memory draws) (object.Local m)) (names m) f holds

    literal_taken : (items : List Item) (vs : List Scalar) (temps : ℕ → Option Scalar) (ps : List PieceView) (i : ℕ) (there : Option LiteralView) → Simulates t n (suc (length vs)) items ps → Holds vs temps
        → Alike u n
        (source.run_by found count (Some at) (states.if_some (src names items vs memory draws) there (λ l. steps.on (pushed (steps.literal_pointer t.unit i l) (src names items vs memory draws)))))
        (runs.run_by also (Some at) (behind (states.if_some (scn names memory draws) there (λ l. steps.on (pushed (steps.literal_pointer t.unit i l) (scn names memory draws)))) (pointed (std names ps temps memory draws []) (length vs))))
    literal_taken items vs temps ps i None f holds = halted _ _
    literal_taken items vs temps ps i (Some l) f holds =
        let p = steps.literal_pointer t.unit i l in
        ran items (p ∷ vs) (put_at temps (length vs) p) ps names (record { memory = memory; draws = draws; violated = [] }) (alike.plain items (p ∷ vs) (put_at temps (length vs) p) ps f (holds_put p vs temps holds))

    pub pointed_to_literal : (items : List Item) (vs : List Scalar) (temps : ℕ → Option Scalar) (ps : List PieceView) (base i : ℕ) → Names t base (Literal i) → Simulates t n (suc (length vs)) items ps → Holds vs temps
        → Alike u n (source.run_by found count (Some at) (steps.point_to_literal t.unit (src names items vs memory draws) i)) (runs.run_by also (Some at) (perform u (act.Address (length vs) base 0) (std names ps temps memory draws [])))
    pointed_to_literal items vs temps ps base i named f holds =
        subst (λ name. Alike u n (source.run_by found count (Some at) (steps.point_to_literal t.unit (src names items vs memory draws) i)) (runs.run_by also (Some at) (template.if_some (std names ps temps memory draws []) name (addressed u (std names ps temps memory draws []) (length vs) 0)))) (sym named)
        (literal_taken items vs temps ps i (slice_get t.unit.literals i) f holds)

    -- what is done to a local object, by its name
    on_named : (base local : ℕ) (ps : List PieceView) (temps : ℕ → Option Scalar) (one : source.SourceRun) (effect : ℕ → Reply State) → Names t base (Local local)
        → Alike u n one (runs.run_by also (Some at) (behind (effect local) (from_scene (std names ps temps memory draws []))))
        → Alike u n one (runs.run_by also (Some at) (on_local u (std names ps temps memory draws []) base effect))
    on_named base local ps temps one effect named same =
        subst (λ name. Alike u n one (runs.run_by also (Some at) (template.if_some (std names ps temps memory draws []) name (λ x. template.if_some (std names ps temps memory draws []) (template.local_of u (std names ps temps memory draws []) x) (λ m. behind (effect m) (from_scene (std names ps temps memory draws []))))))) (sym named) same

    -- a name that is there and one that is not
    changing : (items : List Item) (vs : List Scalar) (temps : ℕ → Option Scalar) (ps : List PieceView) (how : Change) (instance : Option ℕ) → Lined t n items vs temps ps
        → Alike u n
        (source.run_by found count (Some at) (states.if_some (src names items vs memory draws) instance (λ i. steps.on (states.with_world (src names items vs memory draws) (steps.changed how i (record { memory = memory; draws = draws; violated = [] }))))))
        (runs.run_by also (Some at) (behind (states.if_some (scn names memory draws) instance (λ i. steps.on (states.with_world (scn names memory draws) (steps.changed how i (record { memory = memory; draws = draws; violated = [] }))))) (from_scene (std names ps temps memory draws []))))
    changing items vs temps ps how None l = halted _ _
    changing items vs temps ps how (Some i) l = ran items vs temps ps names (steps.changed how i (record { memory = memory; draws = draws; violated = [] })) l

    pub changed_alike : (items : List Item) (vs : List Scalar) (temps : ℕ → Option Scalar) (ps : List PieceView) (base local : ℕ) (how : Change) → Names t base (Local local) → Lined t n items vs temps ps
        → Alike u n (source.run_by found count (Some at) (steps.change (src names items vs memory draws) local how)) (runs.run_by also (Some at) (perform u (change_act base how) (std names ps temps memory draws [])))
    changed_alike items vs temps ps base local how named l = by how (on_named base local ps temps _ (λ m. steps.change (scene (std names ps temps memory draws [])) m how) named (changing items vs temps ps how (names local) l))
      where
        by : (how : Change) → Alike u n (source.run_by found count (Some at) (steps.change (src names items vs memory draws) local how)) (runs.run_by also (Some at) (changed u (std names ps temps memory draws []) base how)) → Alike u n (source.run_by found count (Some at) (steps.change (src names items vs memory draws) local how)) (runs.run_by also (Some at) (perform u (change_act base how) (std names ps temps memory draws [])))
        by Forget same = same
        by Clear same = same
        by (Spell offset room text) same = same

    -- an object's lifetime begins, where it has none
    entering : (items : List Item) (vs : List Scalar) (temps : ℕ → Option Scalar) (ps : List PieceView) (local : ℕ) (instance : Option ℕ) (f : Option FunctionView) → Lined t n items vs temps ps
        → Alike u n
        (source.run_by found count (Some at) (entered_if (src names items vs memory draws) local f instance))
        (runs.run_by also (Some at) (behind (entered_if (scn names memory draws) local f instance) (from_scene (std names ps temps memory draws []))))
    entering items vs temps ps local (Some i) f l = halted _ _
    entering items vs temps ps local None None l = halted _ _
    entering items vs temps ps local None (Some f) l =
        let w : World = record { memory = memory; draws = draws; violated = [] } in
        ran items vs temps ps (put_at names local (next_instance w)) (entered t.unit.model (leaves t.unit (local_type f local)) (size_of t.unit (local_type f local)) w) l

    pub entered_alike : (items : List Item) (vs : List Scalar) (temps : ℕ → Option Scalar) (ps : List PieceView) (base local : ℕ) → Names t base (Local local) → Lined t n items vs temps ps
        → Alike u n (source.run_by found count (Some at) (steps.enter t.unit (src names items vs memory draws) local)) (runs.run_by also (Some at) (perform u (act.Enter base) (std names ps temps memory draws [])))
    entered_alike items vs temps ps base local named l = on_named base local ps temps _ (steps.enter t.unit (scene (std names ps temps memory draws []))) named (by (names local))
      where
        by : (instance : Option ℕ) → Alike u n (source.run_by found count (Some at) (steps.enter_if t.unit (src names items vs memory draws) local instance)) (runs.run_by also (Some at) (behind (steps.enter_if t.unit (scn names memory draws) local instance) (from_scene (std names ps temps memory draws []))))
        by (Some i) = entering items vs temps ps local (Some i) (function_at t.unit t.function) l
        by None = entering items vs temps ps local None (function_at t.unit t.function) l

    leaving : (items : List Item) (vs : List Scalar) (temps : ℕ → Option Scalar) (ps : List PieceView) (local : ℕ) (instance : Option ℕ) → Lined t n items vs temps ps
        → Alike u n
        (source.run_by found count (Some at) (states.if_some (src names items vs memory draws) instance (λ i. steps.on (record (src names items vs memory draws) { names = clear_at names local; world = left i (record { memory = memory; draws = draws; violated = [] }) }))))
        (runs.run_by also (Some at) (behind (states.if_some (scn names memory draws) instance (λ i. steps.on (record (scn names memory draws) { names = clear_at names local; world = left i (record { memory = memory; draws = draws; violated = [] }) }))) (from_scene (std names ps temps memory draws []))))
    leaving items vs temps ps local None l = halted _ _
    leaving items vs temps ps local (Some i) l = ran items vs temps ps (clear_at names local) (left i (record { memory = memory; draws = draws; violated = [] })) l

    pub left_alike : (items : List Item) (vs : List Scalar) (temps : ℕ → Option Scalar) (ps : List PieceView) (base local : ℕ) → Names t base (Local local) → Lined t n items vs temps ps
        → Alike u n (source.run_by found count (Some at) (steps.leave (src names items vs memory draws) local)) (runs.run_by also (Some at) (perform u (act.Leave base) (std names ps temps memory draws [])))
    left_alike items vs temps ps base local named l = on_named base local ps temps _ (steps.leave (scene (std names ps temps memory draws []))) named (leaving items vs temps ps local (names local) l)

    -- ---- the object of the result

    -- what is done to it, by its name
    on_result : (base : ℕ) (ps : List PieceView) (temps : ℕ → Option Scalar) (f : FunctionView) (one : source.SourceRun) (place : Place) (effect : ℕ → Reply State) → function_at t.unit t.function ≡ Some f → Names t base Outcome
        → Alike u n one (runs.run_by also (Some place) (behind (effect (result_object f)) (from_scene (std names ps temps memory draws []))))
        → Alike u n one (runs.run_by also (Some place) (on_local u (std names ps temps memory draws []) base effect))
    on_result base ps temps f one place effect is named go =
        let r = std names ps temps memory draws [] in
        subst (λ name. Alike u n one (runs.run_by also (Some place) (template.if_some r name (λ x. template.if_some r (template.local_of u r x) (λ m. behind (effect m) (from_scene r)))))) (sym named)
        (subst (λ g. Alike u n one (runs.run_by also (Some place) (template.if_some r (template.outcome_of g) (λ m. behind (effect m) (from_scene r))))) (sym is) go)

    pub outcome_pointed_to : (items : List Item) (vs : List Scalar) (temps : ℕ → Option Scalar) (ps : List PieceView) (base : ℕ) (f : FunctionView) → function_at t.unit t.function ≡ Some f → Names t base Outcome → Simulates t n (suc (length vs)) items ps → Holds vs temps
        → Alike u n (source.run_by found count (Some at) (steps.point_to_outcome t.unit (src names items vs memory draws))) (runs.run_by also (Some at) (perform u (act.Address (length vs) base 0) (std names ps temps memory draws [])))
    outcome_pointed_to items vs temps ps base f is named go holds =
        let s = src names items vs memory draws in
        let r = std names ps temps memory draws [] in
        let o = object.Local (result_object f) in
        subst (λ name. Alike u n (source.run_by found count (Some at) (steps.point_to_outcome t.unit s)) (runs.run_by also (Some at) (template.if_some r name (addressed u r (length vs) 0)))) (sym named)
        (subst (λ g. Alike u n (source.run_by found count (Some at) (states.if_some s g (λ f. steps.point_to t.unit s (object.Local (result_object f)) 0))) (runs.run_by also (Some at) (template.if_some r (template.as_local (template.outcome_of g)) (λ o. behind (steps.point_to t.unit (scn names memory draws) o 0) (pointed r (length vs)))))) (sym is)
        (pointing items vs temps ps 0 (type_of t.unit s o) (names (result_object f)) go holds))

    pub outcome_entered : (items : List Item) (vs : List Scalar) (temps : ℕ → Option Scalar) (ps : List PieceView) (base : ℕ) (f : FunctionView) → function_at t.unit t.function ≡ Some f → Names t base Outcome → Lined t n items vs temps ps
        → Alike u n (source.run_by found count (Some at) (steps.enter t.unit (src names items vs memory draws) (result_object f))) (runs.run_by also (Some at) (perform u (act.Enter base) (std names ps temps memory draws [])))
    outcome_entered items vs temps ps base f is named l = on_result base ps temps f _ at (steps.enter t.unit (scene (std names ps temps memory draws []))) is named (by (names (result_object f)))
      where
        by : (instance : Option ℕ) → Alike u n (source.run_by found count (Some at) (steps.enter_if t.unit (src names items vs memory draws) (result_object f) instance)) (runs.run_by also (Some at) (behind (steps.enter_if t.unit (scn names memory draws) (result_object f) instance) (from_scene (std names ps temps memory draws []))))
        by (Some i) = entering items vs temps ps (result_object f) (Some i) (function_at t.unit t.function) l
        by None = entering items vs temps ps (result_object f) None (function_at t.unit t.function) l

    -- it is left at the call's place, and at the function's in the template: nothing is violated there
    pub outcome_left : (items : List Item) (vs : List Scalar) (temps : ℕ → Option Scalar) (ps : List PieceView) (base : ℕ) (place : Place) (f : FunctionView) → function_at t.unit t.function ≡ Some f → Names t base Outcome → Lined t n items vs temps ps
        → Alike u n (source.run_by found count (Some at) (calls.leave_outcome t.unit (src names items vs memory draws))) (runs.run_by also (Some place) (perform u (act.Leave base) (std names ps temps memory draws [])))
    outcome_left items vs temps ps base place f is named l =
        let s = src names items vs memory draws in
        on_result base ps temps f _ place (steps.leave (scene (std names ps temps memory draws []))) is named
        (subst (λ g. Alike u n (source.run_by found count (Some at) (states.if_some s g (λ f. steps.leave s (result_object f)))) (runs.run_by also (Some place) (behind (steps.leave (scn names memory draws) (result_object f)) (from_scene (std names ps temps memory draws []))))) (sym is)
        (by (names (result_object f))))
      where
        by : (instance : Option ℕ) → Alike u n
            (source.run_by found count (Some at) (states.if_some (src names items vs memory draws) instance (λ i. steps.on (record (src names items vs memory draws) { names = clear_at names (result_object f); world = left i (record { memory = memory; draws = draws; violated = [] }) }))))
            (runs.run_by also (Some place) (behind (states.if_some (scn names memory draws) instance (λ i. steps.on (record (scn names memory draws) { names = clear_at names (result_object f); world = left i (record { memory = memory; draws = draws; violated = [] }) }))) (from_scene (std names ps temps memory draws []))))
        by None = halted _ _
        by (Some i) = ran items vs temps ps (clear_at names (result_object f)) (left i (record { memory = memory; draws = draws; violated = [] })) l

    -- ---- parameters

    stored_there : (items : List Item) (vs : List Scalar) (temps : ℕ → Option Scalar) (ps : List PieceView) (reply : Reply Scalar) → Lined t n items vs temps ps
        → Alike u n (source.run_by found count (Some at) (behind reply (λ _ w. steps.on (record (src names items vs memory draws) { world = w })))) (runs.run_by also (Some at) (behind (storing (in_flow (std names ps temps memory draws [])) None reply) (from_flow (std names ps temps memory draws []))))
    stored_there items vs temps ps (goes v w) l = ran items vs temps ps names w l
    stored_there items vs temps ps (stops why w) l = halted why w

    pub bound : (items : List Item) (p : Scalar) (vs : List Scalar) (temps : ℕ → Option Scalar) (ps : List PieceView) (number depth : ℕ) (f : FunctionView) → function_at t.unit t.function ≡ Some f → number + suc depth ≡ length vs → Simulates t n (length vs) items ps → Holds (p ∷ vs) temps
        → Alike u n (source.run_by found count (Some at) (calls.bind_parameter t.unit (src names items (p ∷ vs) memory draws) number depth)) (runs.run_by also (Some at) (perform u (act.Store (length vs) number (scalar_of (local_type f number)) None) (std names ps temps memory draws [])))
    bound items p vs temps ps number depth f is where_it_is go (top, holds) =
        let s = src names items (p ∷ vs) memory draws in
        let r = std names ps temps memory draws [] in
        let kind = scalar_of (local_type f number) in
        let w : World = record { memory = memory; draws = draws; violated = [] } in
        let x = pending_there vs temps c.values number depth holds where_it_is in
        let one = source.run_by found count (Some at) (calls.bind_parameter t.unit s number depth) in
        subst (λ o. Alike u n one (runs.run_by also (Some at) (behind (flow.if_some (in_flow r) o (λ p. flow.with_temp (in_flow r) number (λ v. storing (in_flow r) None (store t.unit.model kind p v w)))) (from_flow r)))) (sym top)
        (subst (λ o. Alike u n one (runs.run_by also (Some at) (behind (flow.if_some (in_flow r) o (λ v. storing (in_flow r) None (store t.unit.model kind p v w))) (from_flow r)))) (sym x.in_temps)
        (subst (λ g. Alike u n (source.run_by found count (Some at) (states.if_some s g (λ f. calls.bind_value t.unit s f number depth (p ∷ (vs ++ c.values))))) (runs.run_by also (Some at) (behind (storing (in_flow r) None (store t.unit.model kind p x.value w)) (from_flow r)))) (sym is)
        (subst (λ o. Alike u n (source.run_by found count (Some at) (states.if_some s o (λ v. behind (store t.unit.model kind p v w) (λ _ w. steps.on (record s { values = vs ++ c.values; world = w }))))) (runs.run_by also (Some at) (behind (storing (in_flow r) None (store t.unit.model kind p x.value w)) (from_flow r)))) (sym x.in_values)
        (stored_there items vs temps ps (store t.unit.model kind p x.value w) (alike.plain items vs temps ps go holds)))))
