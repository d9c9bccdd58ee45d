-- Each turn of a run goes on to where values have their marks, or stops at a step that is defined.
use Rattle.std.proofs.Common.{◌≡◌, ℕ, Bool, true, false, List, [], ◌∷◌, ◌++◌, drop, Option, Some, None, is_some, refl, ap, sym, subst, ◌∙◌}
use Rattle.std.specs.List.{slice_get}
use Rattle.cc_base.specs.declared.diagnostics.Place.{Place}
use Rattle.c_layout.specs.CheckedUnits.{UnitView, FunctionView}
use Rattle.lower_templates.specs.Worklist.TermKinds.{scalar_of}
use Rattle.lower_functions.specs.Functions.Functions.{local_type}
use Rattle.cfg.specs.declared.machine_instructions.Scalar as declared
use Rattle.memory_model.specs.Memory.Instances.{Memory}
use Rattle.memory_model.specs.Memory.Scalars.{Scalar}
use Rattle.memory_model.specs.Effects.IntegerEffects.{truth}
use Rattle.memory_model.specs.Effects.Worlds.{Reply, goes, stops, unviolated}
use Rattle.memory_model.specs.Effects.Accesses.{store}
use Rattle.semantics.specs.SourceMachine.Operations as op
use Rattle.semantics.specs.SourceMachine.Operations.{Operation, perform, pushing}
use Rattle.semantics.specs.SourceMachine.Items as item
use Rattle.semantics.specs.SourceMachine.Items.{Item}
use Rattle.semantics.specs.SourceMachine.TermItems.{address_items}
use Rattle.semantics.specs.SourceMachine.ConditionItems.{term_items}
use Rattle.semantics.specs.SourceMachine.StatementItems.{of_statement, while_iteration, do_iteration, for_iteration}
use Rattle.semantics.specs.SourceMachine.Scopes.{all_of, open_scopes, jump, past_loop, past_iteration}
use Rattle.semantics.specs.SourceMachine.LabelSearch.{from_label}
use Rattle.semantics.specs.SourceMachine.SourceStates.{Frame, State, function_at}
use Rattle.semantics.specs.SourceMachine.CallSteps.{behind_body, bind_value, bind_parameter, leave_function, end_body}
use Rattle.semantics.specs.SourceMachine.SourceSteps.{is_entry, operate, again, go_to, act, return_to, turn_by}
use Rattle.source_items.specs.Returns.StandingJumps.{UnitJumpsStand}
use Rattle.source_items.specs.StackKinds.KindedItems.{called_by}
use Rattle.source_items.specs.Liveness.Lives.{lives}
use Rattle.source_items.specs.Liveness.Livings.{Sits, Living}
use Rattle.source_preservation.specs.ValueTyping.Marks.{Mark, Ranged, Exactly, Pointing, mark_of, Has}
use Rattle.source_preservation.specs.ValueTyping.MarkOperations as stores
use Rattle.source_preservation.specs.ValueTyping.ProperMemory.{Evolves}
use Rattle.source_preservation.specs.ValueTyping.MarkLaws.{Comes, Leaves, OperationsKeepMarks, LinesKeepMarks}
use Rattle.source_preservation.specs.WellTyped.WellTypedTerms.{local_mark}
use Rattle.source_preservation.specs.WellTyped.WellTypedStatements.{WellTypedUnit}
use Rattle.source_preservation.specs.WellTyped.WellTypedItems.{left_marks, Does}
use Rattle.source_preservation.specs.WellTyped.WellTypedStates.{Runs}
use Rattle.source_preservation.specs.SmallSteps.KeptMarks.{RunsOn, TurnsKeepMarks}
use Rattle.source_items.proofs.stack_kinds.ItemWalks.{Through, does_from}
use Rattle.source_preservation.proofs.items.Leading.{marks}
use Rattle.source_preservation.proofs.items.LeadingTerms.{value_leads, unused_leads, address_leads}
use Rattle.source_preservation.proofs.items.LeadingStatements.{while_through, do_through, for_through, statement_through}
use Rattle.source_preservation.proofs.items.Loops.{does_behind_loop, does_behind_turn}
use Rattle.source_preservation.proofs.items.Labels.{label_does}
use Rattle.source_preservation.proofs.items.Calls.{behind_does}
use Rattle.source_preservation.proofs.small_steps.Replies.{comes_behind, comes_at}
use Rattle.source_preservation.proofs.small_steps.Keeping.{room_kept, stables_kept, Newest, newest, Found, found_at}
use Rattle.source_preservation.proofs.small_steps.Changes as changes
use Rattle.source_preservation.proofs.small_steps.Changes.{RunsBy, RunsAt, renewed, revalued, instead_of, expanded, passed, resting, jumped}
use Rattle.source_preservation.proofs.small_steps.Calls.{back, begun}
use Rattle.source_preservation.proofs.small_steps.Objects.{pointing, pointing_to_literal, pointing_to_outcome, changing, entering, leaving, leaving_outcome}
use Rattle.source_preservation.proofs.small_steps.Conditions.{chosen, chosen_by_test, line_chosen}
use Rattle.source_preservation.proofs.small_steps.Switches.{such_some, selected, selected_on}

-- the laws of operations
pub record Laws : Type 0 where
  pub operations : OperationsKeepMarks
  pub lines : LinesKeepMarks

-- the running function before an item, where it names what lives
record Before (u : UnitView) (i : Item) (s : State) : Type 0 where
  pub runs : RunsAt u i s
  pub named : (n : ℕ) → is_some (s.names n) ≡ lives runs.goes.function (is_entry s.frames) (i ∷ s.control) n
  pub sits : Sits runs.goes.function (is_entry s.frames) i s.control

-- ---- numbers

constant_has : (u : UnitView) (s : State) (b : Bool) (mark : Mark) → stores.IsConstant (stores.number_of_truth b) mark → Has u.model s.names s.world.memory mark (truth b)
constant_has u s b (Ranged kind) is = is
constant_has u s b (Exactly k) is = sym is
constant_has u s b other is = absurd is

module _ (u : UnitView) where
  -- ---- values

  again_runs : (s : State) → RunsAt u item.Again s → Comes (RunsOn u) (again s s.values)
  again_runs s r =
      let n : Newest u.model s.names s.world.memory r.goes.does.1.0 r.goes.does.1.1 r.own = newest u.model s.names s.world.memory r.goes.does.1.0 r.goes.does.1.1 r.marks r.own r.goes.does.1.2 r.are in
      subst (λ vs. Comes (RunsOn u) (again s vs)) (sym (r.values ∙ ap (λ vs. vs ++ r.rest) n.is)) (changes.pushing u item.Again s r r.goes.does.1.0 n.value n.has r.goes.does.1.3)

  drop_runs : (s : State) → RunsAt u item.Drop s → Runs u (record s { values = drop 1 s.values })
  drop_runs s r =
      let n : Newest u.model s.names s.world.memory r.goes.does.1.0 r.goes.does.0 r.own = newest u.model s.names s.world.memory r.goes.does.1.0 r.goes.does.0 r.marks r.own r.goes.does.1.1 r.are in
      revalued u (item.Drop ∷ s.control) s r s.control (drop 1 s.values) (record { marks = r.goes.does.0; own = n.others; is = ap (drop 1) (r.values ∙ ap (λ vs. vs ++ r.rest) n.is); are = n.are; does = r.goes.does.2 })

  operating : OperationsKeepMarks → (at : Place) (operation : Operation) (s : State) → RunsAt u (item.Do at operation) s → Comes (RunsOn u) (operate u operation s)
  operating keep at operation s r =
      let after : List Mark = r.goes.does.0 in
      let given : Comes (Leaves u s.names s.world.memory after r.rest) (perform u operation s.values s.world) = subst (λ vs. Comes (Leaves u s.names s.world.memory after r.rest) (perform u operation vs s.world)) (sym r.values) (keep u s.names operation r.marks after r.own r.rest s.world r.proper r.goes.does.1 r.are) in
      comes_behind (RunsOn u) (Leaves u s.names s.world.memory after r.rest) (perform u operation s.values s.world) _ given (λ vs w l. renewed u (item.Do at operation ∷ s.control) s r s.names s.control vs w l.evolves (room_kept u s.world.memory w.memory l.evolves.grows r.goes.function s.names r.goes.room) (record { marks = after; own = l.own; is = l.is; are = l.well_typed; does = r.goes.does.2 }))

  -- ---- arguments

  -- a store alone
  stored : (names : ℕ → Option ℕ) (before : Memory) (marks : List Mark) (reply : Reply Scalar) → Comes (Leaves u names before marks []) (pushing [] reply) → Comes (λ x w. Evolves u.model before w.memory) reply
  stored names before marks (goes v w) l = l.evolves
  stored names before marks (stops why w) l = l

  binding : OperationsKeepMarks → (at : Place) (s : State) (n depth : ℕ) → RunsAt u (item.Bind at n depth) s → Comes (RunsOn u) (bind_parameter u s n depth)
  binding keep at s n depth r =
      let f : FunctionView = r.goes.function in
      let after : List Mark = r.goes.does.0 in
      let kind : declared.Scalar = scalar_of (local_type f n) in
      let p : Newest u.model s.names s.world.memory Pointing after r.own = newest u.model s.names s.world.memory Pointing after r.marks r.own r.goes.does.1.0 r.are in
      let v : Found u.model s.names s.world.memory (local_mark f n) (p.others ++ r.rest) depth = found_at u.model s.names s.world.memory (local_mark f n) after p.others r.rest depth r.goes.does.1.3 p.are in
      let gives : Comes (λ x w. Evolves u.model s.world.memory w.memory) (store u.model kind p.value v.value s.world) = stored s.names s.world.memory (mark_of kind ∷ []) (store u.model kind p.value v.value s.world) (keep u s.names (op.Store kind) (mark_of kind ∷ (Pointing ∷ [])) (mark_of kind ∷ []) (v.value ∷ (p.value ∷ [])) [] s.world r.proper (r.goes.does.1.2, stores.any ([], tt, refl, refl)) (v.has, (p.has, tt))) in
      let bound : Comes (RunsOn u) (bind_value u s f n depth (p.value ∷ (p.others ++ r.rest))) = comes_at (RunsOn u) s (slice_get (p.others ++ r.rest) depth) v.value _ v.is (comes_behind (RunsOn u) (λ x w. Evolves u.model s.world.memory w.memory) (store u.model kind p.value v.value s.world) _ gives (λ x w evolves. renewed u (item.Bind at n depth ∷ s.control) s r s.names s.control (p.others ++ r.rest) w evolves (room_kept u s.world.memory w.memory evolves.grows f s.names r.goes.room) (record { marks = after; own = p.others; is = refl; are = stables_kept u.model s.names s.world.memory w.memory after p.others evolves.grows r.goes.does.1.1 p.are; does = r.goes.does.2 }))) in
      comes_at (RunsOn u) s (function_at u s.function) f _ r.goes.is (subst (λ vs. Comes (RunsOn u) (bind_value u s f n depth vs)) (sym (r.values ∙ ap (λ vs. vs ++ r.rest) p.is)) bound)

  -- ---- jumps

  -- no value is pending, and other items lead to what the function leaves
  moved : (items : List Item) (s : State) (r : RunsBy u items s) (others : List Item) → r.marks ≡ [] → Does u r.goes.function (called_by s.frames) others [] r.left → RunsBy u others s
  moved items s r others none does = instead_of u items s r others (does_from (marks u r.goes.function (called_by s.frames)) others r.marks [] r.left none does)

  ended : (items : List Item) (s : State) (r : RunsBy u items s) (others : List Item) → r.marks ≡ [] → Does u r.goes.function (called_by s.frames) others [] (left_marks r.goes.function (called_by s.frames)) → RunsBy u others s
  ended items s r others none does = moved items s r others none (subst (λ ks. Does u r.goes.function (called_by s.frames) others [] ks) (sym r.goes.leaves) does)

  module _ (laws : Laws) (well_typed : WellTypedUnit u) (stand : UnitJumpsStand u) where
    going_to : (s : State) (n : ℕ) → RunsAt u (item.GoTo n) s → Comes (RunsOn u) (go_to u s n)
    going_to s n r =
        let f : FunctionView = r.goes.function in
        let called : Option Bool = called_by s.frames in
        let to : List Item = r.goes.does.1.0.0 in
        let reached : Does u f called to [] (left_marks f called) = such_some (λ to. Does u f called to [] (left_marks f called)) (from_label u f n) to r.goes.does.1.0.1 (label_does u f called (well_typed.functions s.function f r.goes.is) (stand s.function f r.goes.is) n) in
        comes_at (RunsOn u) s (function_at u s.function) f _ r.goes.is (comes_at (RunsOn u) s (from_label u f n) to _ r.goes.does.1.0.1 (ended (item.GoTo n ∷ s.control) s r (jump s.control to) r.goes.does.1.1.0 (jumped u f called s.control to (left_marks f called) reached)))

    ending : (s : State) → RunsAt u item.EndBody s → Comes (RunsOn u) (end_body u s)
    ending s r =
        let f : FunctionView = r.goes.function in
        comes_at (RunsOn u) s (function_at u s.function) f _ r.goes.is (ended (item.EndBody ∷ s.control) s r (behind_body f [] s.frames) r.goes.does.1.0 (behind_does u f [] (well_typed.functions s.function f r.goes.is) (λ called rest. refl) s.frames))

    returning : (s : State) → RunsAt u item.LeaveFunction s → Comes (RunsOn u) (leave_function u s)
    returning s r =
        let f : FunctionView = r.goes.function in
        let others : List Item = behind_body f (item.Hop ∷ []) s.frames in
        comes_at (RunsOn u) s (function_at u s.function) f _ r.goes.is (ended (item.LeaveFunction ∷ s.control) s r (item.Leaves (all_of (open_scopes s.control)) ∷ others) r.goes.does.1.0 ([], (tt, refl), behind_does u f (item.Hop ∷ []) (well_typed.functions s.function f r.goes.is) (λ called rest. ([], refl, refl)) s.frames))

    -- ---- turns

    acts : (i : Item) (s : State) → Before u i s → Comes (RunsOn u) (act u i s).reply
    acts (item.Value e) s b = let r = b.runs in expanded u (item.Value e) s r (term_items u true e) (value_leads u r.goes.function (called_by s.frames) e r.marks r.goes.does.0 r.goes.does.1 s.control)
    acts (item.Unused e) s b = let r = b.runs in expanded u (item.Unused e) s r (term_items u false e) (subst (λ ks. Through (marks u r.goes.function (called_by s.frames)) (term_items u false e) s.control r.marks ks) (sym r.goes.does.1.2) (unused_leads u r.goes.function (called_by s.frames) e r.marks r.goes.does.1.0 r.goes.does.1.1 s.control))
    acts (item.Address l) s b = let r = b.runs in expanded u (item.Address l) s r (address_items u l) (address_leads u r.goes.function (called_by s.frames) l r.marks r.goes.does.0 r.goes.does.1 s.control)
    acts (item.Do at operation) s b = operating laws.operations at operation s b.runs
    acts (item.Truth holds) s b = let r = b.runs in changes.pushing u (item.Truth holds) s r r.goes.does.1.0 (truth holds) (constant_has u s holds r.goes.does.1.0 r.goes.does.1.1) r.goes.does.1.2
    acts item.Again s b = again_runs s b.runs
    acts item.Drop s b = drop_runs s b.runs
    acts (item.Object at o offset) s b = pointing u well_typed (item.Object at o offset) s b.runs (lives b.runs.goes.function (is_entry s.frames) s.control) b.named o offset b.runs.goes.does.1.0 b.sits b.runs.goes.does.1.1
    acts (item.Literal at n) s b = pointing_to_literal u well_typed (item.Literal at n) s b.runs n b.runs.goes.does.1.0 b.runs.goes.does.1.1
    acts (item.Outcome at) s b = pointing_to_outcome u well_typed (item.Outcome at) s b.runs (lives b.runs.goes.function (is_entry s.frames) s.control) b.named b.sits b.runs.goes.does.1.1
    acts (item.OnObject at n how) s b = changing u s at n how b.runs (b.named n ∙ b.sits)
    acts (item.Choose at None held failed) s b = chosen u at held failed s b.runs
    acts (item.Choose at (Some test) held failed) s b = chosen_by_test u at held failed s test b.runs
    acts (item.ReadLine at none some) s b = line_chosen u laws.lines at none some s b.runs
    acts (item.Statement statement) s b = let r = b.runs in expanded u (item.Statement statement) s r (of_statement u (is_entry s.frames) statement) (resting u r.goes.function (called_by s.frames) (of_statement u (is_entry s.frames) statement) s.control r.marks r.goes.does.0 r.goes.does.1.1 (statement_through u r.goes.function (called_by s.frames) (is_entry s.frames) statement s.control r.goes.does.1.0))
    acts (item.WhileIteration c statement) s b = let r = b.runs in expanded u (item.WhileIteration c statement) s r (while_iteration u c statement) (resting u r.goes.function (called_by s.frames) (while_iteration u c statement) s.control r.marks r.goes.does.0 r.goes.does.1.1 (while_through u r.goes.function (called_by s.frames) c statement s.control r.goes.does.1.0))
    acts (item.DoIteration statement c) s b = let r = b.runs in expanded u (item.DoIteration statement c) s r (do_iteration u statement c) (resting u r.goes.function (called_by s.frames) (do_iteration u statement c) s.control r.marks r.goes.does.0 r.goes.does.1.1 (do_through u r.goes.function (called_by s.frames) c statement s.control r.goes.does.1.0))
    acts (item.ForIteration c clause statement) s b = let r = b.runs in expanded u (item.ForIteration c clause statement) s r (for_iteration u c clause statement) (resting u r.goes.function (called_by s.frames) (for_iteration u c clause statement) s.control r.marks r.goes.does.0 r.goes.does.1.1 (for_through u r.goes.function (called_by s.frames) c clause statement s.control r.goes.does.1.0))
    acts item.IterationEnd s b = passed u item.IterationEnd s b.runs (b.runs.goes.does.1.0 ∙ sym b.runs.goes.does.1.1)
    acts item.LoopEnd s b = passed u item.LoopEnd s b.runs (b.runs.goes.does.1.0 ∙ sym b.runs.goes.does.1.1)
    acts (item.Select at None labels statement) s b = selected u at labels statement s b.runs
    acts (item.Select at (Some o) labels statement) s b = selected_on u at labels statement s o b.runs
    acts (item.Enters objects) s b = entering u s (lives b.runs.goes.function (is_entry s.frames) s.control) objects b.runs b.named
    acts (item.Leaves objects) s b = leaving u s (lives b.runs.goes.function (is_entry s.frames) s.control) objects b.runs b.named
    acts item.Hop s b = passed u item.Hop s b.runs (sym b.runs.goes.does.1)
    acts (item.GoTo n) s b = going_to s n b.runs
    acts item.BreakOut s b =
        let r = b.runs in
        let behind : Does u r.goes.function (called_by s.frames) (past_loop s.control) [] r.left = does_behind_loop u r.goes.function (called_by s.frames) s.control r.goes.does.0 r.left r.goes.does.1.0 r.goes.does.2 in
        moved (item.BreakOut ∷ s.control) s r (jump s.control (past_loop s.control)) r.goes.does.1.1.0 (jumped u r.goes.function (called_by s.frames) s.control (past_loop s.control) r.left behind)
    acts item.NextIteration s b =
        let r = b.runs in
        let behind : Does u r.goes.function (called_by s.frames) (past_iteration s.control) [] r.left = does_behind_turn u r.goes.function (called_by s.frames) s.control r.goes.does.0 r.left r.goes.does.1.0 r.goes.does.2 in
        moved (item.NextIteration ∷ s.control) s r (jump s.control (past_iteration s.control)) r.goes.does.1.1.0 (jumped u r.goes.function (called_by s.frames) s.control (past_iteration s.control) r.left behind)
    acts item.LeaveFunction s b = returning s b.runs
    acts item.EndBody s b = ending s b.runs
    acts (item.Invoke at g count used) s b = comes_at (RunsOn u) s (function_at u g) b.runs.goes.does.1.function _ b.runs.goes.does.1.is (begun u well_typed stand s at g count used b.runs)
    acts (item.Bind at n depth) s b = binding laws.operations at s n depth b.runs
    acts (item.LeaveOutcome at) s b = leaving_outcome u s at b.runs (lives b.runs.goes.function (is_entry s.frames) s.control) b.named

    returned_to : (s : State) (frames : List Frame) → Runs u (record s { control = []; frames = frames }) → Comes (RunsOn u) (return_to u s frames).reply
    returned_to s [] r = tt
    returned_to s (c ∷ cs) r = back u s c cs r

    turned_by : (s : State) (items : List Item) (r : RunsBy u items s) → Living r.goes.function (is_entry s.frames) s.names items → Comes (RunsOn u) (turn_by u s items).reply
    turned_by s [] r living = returned_to s s.frames r
    turned_by s (i ∷ items) r living = acts i (record s { control = items }) (record { runs = r; named = living.named; sits = living.sit.0 })

-- ---- the law

same_function : (f g : FunctionView) (o : Option FunctionView) → o ≡ Some f → o ≡ Some g → f ≡ g
same_function f g o one other = some_same (sym one ∙ other)
  where
    some_same : Some f ≡ Some g → f ≡ g
    some_same e = cc

pub turns_keep : Laws → TurnsKeepMarks
turns_keep laws u well_typed stand s r living = turned_by u laws well_typed stand (record s { world = unviolated s.world }) s.control here there
  where
    here : Runs u (record s { world = unviolated s.world })
    here = record { marks = r.marks; left = r.left; own = r.own; rest = r.rest; values = r.values; are = r.are; goes = r.goes; wait = r.wait; proper = r.proper; statics = r.statics }

    there : Living r.goes.function (is_entry s.frames) s.names s.control
    there = subst (λ f. Living f (is_entry s.frames) s.names s.control) (same_function living.0.function r.goes.function (function_at u s.function) living.0.is r.goes.is) living.0.living
