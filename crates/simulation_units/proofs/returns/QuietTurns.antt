-- Turns of the source that are no step, no call and no return end.
use Rattle.std.proofs.Common.{◌≡◌, ℕ, suc, Bool, true, false, cond, List, [], ◌∷◌, ◌++◌, Option, Some, None, refl}
use Rattle.cc_base.specs.declared.diagnostics.Place.{Place}
use Rattle.c_layout.specs.CheckedUnits.{UnitView, FunctionView}
use Rattle.c_layout.specs.CheckedTrees as tree
use Rattle.c_layout.specs.CheckedTrees.{TermTree, StatementTree, StatementTrees, StoreTree, StoreValue, StoreCopy, StoreText}
use Rattle.c_layout.specs.Types.{Ty}
use Rattle.lower_functions.specs.Functions.Functions.{numbers_from}
use Rattle.lower_templates.specs.Worklist.TermKinds.{is_void}
use Rattle.memory_model.specs.Memory.Scalars.{Scalar}
use Rattle.memory_model.specs.Effects.Worlds.{World, Reply, Violation}
use Rattle.semantics.specs.SourceMachine.CallSteps.{behind_body, epilogue, result_loaded}
use Rattle.semantics.specs.SourceMachine.Items as item
use Rattle.semantics.specs.SourceMachine.Items.{Item}
use Rattle.semantics.specs.SourceMachine.LabelSearch.{from_label}
use Rattle.semantics.specs.SourceMachine.ObjectSteps as steps_of
use Rattle.semantics.specs.SourceMachine.Scopes.{jump, past_loop, past_iteration, all_of, open_scopes, left_between, entered_between}
use Rattle.semantics.specs.SourceMachine.SourceRuns as source
use Rattle.semantics.specs.SourceMachine.SourceRuns.{SourceRun, running}
use Rattle.semantics.specs.SourceMachine.SourceStates as states
use Rattle.semantics.specs.SourceMachine.SourceStates.{Frame, State, function_at}
use Rattle.semantics.specs.SourceMachine.SourceSteps as turns
use Rattle.semantics.specs.SourceMachine.SourceSteps.{is_entry}
use Rattle.semantics.specs.SourceMachine.StatementItems.{of_statement, statements, while_iteration, do_iteration, for_iteration, clause, stored, all_stored, returned, body}
use Rattle.simulation_units.specs.Returns.QuietTurns as quiet_turns
use Rattle.simulation_units.specs.Returns.QuietTurns.{Comes}
use Rattle.simulation_units.proofs.returns.QuietLists as quiet
use Rattle.simulation_units.proofs.returns.QuietLists.{Ends, Normalized, AllSettle, state, one_turn, at_once, settle, both, value, unused, address, drop, again}
use Rattle.simulation_units.proofs.returns.QuietTerms.{terms, places}

module _ (u : UnitView) (g : ℕ) (callers : List Frame) where
  nothing_left : Ends u g callers []
  nothing_left = at_once u g callers [] refl

  -- ---- items that give way

  no_enters : Normalized u g callers (item.Enters [])
  no_enters rest ends = λ names values w found steps. one_turn u g callers (item.Enters [] ∷ rest) refl names values w found steps (ends names _ _ _ _)

  no_leaves : Normalized u g callers (item.Leaves [])
  no_leaves rest ends = λ names values w found steps. one_turn u g callers (item.Leaves [] ∷ rest) refl names values w found steps (ends names _ _ _ _)

  enters : (xs : List ℕ) → Normalized u g callers (item.Enters xs)
  enters [] rest ends = no_enters rest ends
  enters (x ∷ xs) rest ends = at_once u g callers (item.Enters (x ∷ xs) ∷ rest) refl

  leaves : (xs : List ℕ) → Normalized u g callers (item.Leaves xs)
  leaves [] rest ends = no_leaves rest ends
  leaves (x ∷ xs) rest ends = at_once u g callers (item.Leaves (x ∷ xs) ∷ rest) refl

  truth : (b : Bool) → Normalized u g callers (item.Truth b)
  truth b rest ends = λ names values w found steps. one_turn u g callers (item.Truth b ∷ rest) refl names values w found steps (ends names _ _ _ _)

  turn_end : Normalized u g callers item.IterationEnd
  turn_end rest ends = λ names values w found steps. one_turn u g callers (item.IterationEnd ∷ rest) refl names values w found steps (ends names _ _ _ _)

  loop_end : Normalized u g callers item.LoopEnd
  loop_end rest ends = λ names values w found steps. one_turn u g callers (item.LoopEnd ∷ rest) refl names values w found steps (ends names _ _ _ _)

  -- ---- jumps

  jump_ends : (from to : List Item) → Ends u g callers (jump from to)
  jump_ends from to = leaves (left_between from to) _ (enters (entered_between from to) _ (at_once u g callers (item.Hop ∷ to) refl))

  break_out : Normalized u g callers item.BreakOut
  break_out rest ends = λ names values w found steps. one_turn u g callers (item.BreakOut ∷ rest) refl names values w found steps (jump_ends rest (past_loop rest) names _ _ _ _)

  next_turn : Normalized u g callers item.NextIteration
  next_turn rest ends = λ names values w found steps. one_turn u g callers (item.NextIteration ∷ rest) refl names values w found steps (jump_ends rest (past_iteration rest) names _ _ _ _)

  go_to : (l : ℕ) → Normalized u g callers (item.GoTo l)
  go_to l rest ends = λ names values w found steps. one_turn u g callers (item.GoTo l ∷ rest) refl names values w found steps (by (function_at u g) names values _ found steps)
    where
      there : (o : Option (List Item)) (names : ℕ → Option ℕ) (values : List Scalar) (w : World) (found : List Violation) (steps : ℕ) → (n : ℕ) × Comes u n (source.run_by found steps None (states.if_some (state u g callers rest names values w) o (λ to. steps_of.on (turns.jump_to (state u g callers rest names values w) to))))
      there None names values w found steps = (0, quiet_turns.has_stopped _ _ _ _)
      there (Some to) names values w found steps = jump_ends rest to names _ _ _ _

      by : (o : Option FunctionView) (names : ℕ → Option ℕ) (values : List Scalar) (w : World) (found : List Violation) (steps : ℕ) → (n : ℕ) × Comes u n (source.run_by found steps None (states.if_some (state u g callers rest names values w) o (λ f. states.if_some (state u g callers rest names values w) (from_label u f l) (λ to. steps_of.on (turns.jump_to (state u g callers rest names values w) to)))))
      by None names values w found steps = (0, quiet_turns.has_stopped _ _ _ _)
      by (Some f) names values w found steps = there (from_label u f l) names values w found steps

  loaded : (f : FunctionView) (caller : Frame) (used : Bool) → Ends u g callers (result_loaded f caller.at used ++ item.LeaveOutcome caller.at ∷ [])
  loaded f caller true = at_once u g callers _ refl
  loaded f caller false = at_once u g callers _ refl

  epilogue_ends : (f : FunctionView) (caller : Frame) → Ends u g callers (epilogue f caller)
  epilogue_ends f caller = by (is_void f.returns)
    where
      by : (b : Bool) → Ends u g callers (cond b [] (result_loaded f caller.at caller.used ++ item.LeaveOutcome caller.at ∷ []))
      by true = nothing_left
      by false = loaded f caller caller.used

  behind_ends : (f : FunctionView) (hop : List Item) (cs : List Frame) → AllSettle u g callers hop → Ends u g callers (behind_body f hop cs)
  behind_ends f hop [] all = nothing_left
  behind_ends f hop (caller ∷ cs) all = leaves (numbers_from 0 f.parameters) _ (settle u g callers hop all (epilogue f caller) (epilogue_ends f caller))

  leave_function : Normalized u g callers item.LeaveFunction
  leave_function rest ends = λ names values w found steps. one_turn u g callers (item.LeaveFunction ∷ rest) refl names values w found steps (by (function_at u g) names values _ found steps)
    where
      by : (o : Option FunctionView) (names : ℕ → Option ℕ) (values : List Scalar) (w : World) (found : List Violation) (steps : ℕ)
          → (n : ℕ) × Comes u n (source.run_by found steps None (states.if_some (state u g callers rest names values w) o (λ f. steps_of.on (state u g callers (item.Leaves (all_of (open_scopes rest)) ∷ behind_body f (item.Hop ∷ []) callers) names values w))))
      by None names values w found steps = (0, quiet_turns.has_stopped _ _ _ _)
      by (Some f) names values w found steps = leaves (all_of (open_scopes rest)) _ (behind_ends f (item.Hop ∷ []) callers (quiet.first item.Hop [] refl)) names _ _ _ _

  end_body : Normalized u g callers item.EndBody
  end_body rest ends = λ names values w found steps. one_turn u g callers (item.EndBody ∷ rest) refl names values w found steps (by (function_at u g) names values _ found steps)
    where
      by : (o : Option FunctionView) (names : ℕ → Option ℕ) (values : List Scalar) (w : World) (found : List Violation) (steps : ℕ)
          → (n : ℕ) × Comes u n (source.run_by found steps None (states.if_some (state u g callers rest names values w) o (λ f. steps_of.on (state u g callers (behind_body f [] callers) names values w))))
      by None names values w found steps = (0, quiet_turns.has_stopped _ _ _ _)
      by (Some f) names values w found steps = behind_ends f [] callers quiet.none names _ _ _ _

  -- ---- loops

  gives_value : (e : TermTree) (items : List Item) → AllSettle u g callers items → AllSettle u g callers (item.Value e ∷ items)
  gives_value e items later = quiet.more (item.Value e) items (value u g callers e (terms u g callers e).used) later

  gives_unused : (e : TermTree) (items : List Item) → AllSettle u g callers items → AllSettle u g callers (item.Unused e ∷ items)
  gives_unused e items later = quiet.more (item.Unused e) items (unused u g callers e (terms u g callers e).only) later

  while_loop : (e : TermTree) (i : StatementTree) → Normalized u g callers (item.WhileIteration e i)
  while_loop e i rest ends = λ names values w found steps. one_turn u g callers (item.WhileIteration e i ∷ rest) refl names values w found steps (settle u g callers (while_iteration u e i) ((terms u g callers e).decided true _ _) rest ends names _ _ _ _)

  do_loop : (i : StatementTree) (e : TermTree) → Normalized u g callers (item.Statement i) → Normalized u g callers (item.DoIteration i e)
  do_loop i e normalized rest ends = λ names values w found steps. one_turn u g callers (item.DoIteration i e ∷ rest) refl names values w found steps
      (settle u g callers (do_iteration u i e) (quiet.more (item.Statement i) _ normalized (quiet.more item.IterationEnd _ turn_end ((terms u g callers e).decided true _ _))) rest ends names _ _ _ _)

  clause_settles : (step : Option TermTree) (items : List Item) → AllSettle u g callers items → AllSettle u g callers (clause step ++ items)
  clause_settles None items all = all
  clause_settles (Some e) items all = gives_unused e items all

  for_settles : (c step : Option TermTree) (i : StatementTree) → Normalized u g callers (item.Statement i) → AllSettle u g callers (for_iteration u c step i)
  for_settles None step i normalized = quiet.more (item.Statement i) _ normalized (quiet.more item.IterationEnd _ turn_end (clause_settles step _ (quiet.first _ _ refl)))
  for_settles (Some c) step i normalized = (terms u g callers c).decided true _ _

  for_loop : (c step : Option TermTree) (i : StatementTree) → Normalized u g callers (item.Statement i) → Normalized u g callers (item.ForIteration c step i)
  for_loop c step i normalized rest ends = λ names values w found steps. one_turn u g callers (item.ForIteration c step i ∷ rest) refl names values w found steps (settle u g callers (for_iteration u c step i) (for_settles c step i normalized) rest ends names _ _ _ _)

  -- ---- statements

  one_stored : (at : Place) (x : ℕ) (y : StoreTree) → AllSettle u g callers (stored at x y)
  one_stored at x (StoreValue offset e) = quiet.first _ _ refl
  one_stored at x (StoreCopy offset l) = quiet.first _ _ refl
  one_stored at x (StoreText offset room text) = quiet.first _ _ refl

  given_settles : (is_entry : Bool) (at : Place) (e : Option TermTree) (items : List Item) → AllSettle u g callers items → AllSettle u g callers (returned is_entry at e ++ items)
  given_settles b at None items all = all
  given_settles true at (Some e) items all = gives_value e _ (quiet.more item.Drop _ (drop u g callers) all)
  given_settles false at (Some e) items all = quiet.first _ _ refl

  gives_way : (i : StatementTree) → AllSettle u g callers (of_statement u (is_entry callers) i) → Normalized u g callers (item.Statement i)
  gives_way i all rest ends = λ names values w found steps. one_turn u g callers (item.Statement i ∷ rest) refl names values w found steps (settle u g callers (of_statement u (is_entry callers) i) all rest ends names _ _ _ _)

  one : (i : Item) → Normalized u g callers i → AllSettle u g callers (i ∷ [])
  one i normalized = quiet.more i [] normalized quiet.none

  mutual
    pub statement : (i : StatementTree) → Normalized u g callers (item.Statement i)
    statement (tree.Value e) = gives_way (tree.Value e) (gives_unused e [] quiet.none)
    statement tree.Nothing = gives_way tree.Nothing quiet.none
    statement (tree.Forget at local) = gives_way (tree.Forget at local) (quiet.first _ _ refl)
    statement (tree.Start at local e) = gives_way (tree.Start at local e) (quiet.first _ _ refl)
    statement (tree.StartCopy at local l) = gives_way (tree.StartCopy at local l) (quiet.first _ _ refl)
    statement (tree.StartList at local stores) = gives_way (tree.StartList at local stores) (quiet.first _ _ refl)
    statement (tree.Block objects items) = gives_way (tree.Block objects items) (quiet.more (item.Enters objects) _ (enters objects) (both u g callers (statements items) _ (all_statements items) (one (item.Leaves objects) (leaves objects))))
    statement (tree.If e i) = gives_way (tree.If e i) ((terms u g callers e).decided true _ _)
    statement (tree.IfElse e i j) = gives_way (tree.IfElse e i j) ((terms u g callers e).decided true _ _)
    statement (tree.While e i) = gives_way (tree.While e i) (quiet.more (item.WhileIteration e i) _ (while_loop e i) (one item.LoopEnd loop_end))
    statement (tree.Do i e) = gives_way (tree.Do i e) (quiet.more (item.DoIteration i e) _ (do_loop i e (statement i)) (one item.LoopEnd loop_end))
    statement (tree.For objects first c step i) = gives_way (tree.For objects first c step i) (quiet.more (item.Enters objects) _ (enters objects) (both u g callers (statements first) _ (all_statements first) (quiet.more (item.ForIteration c step i) _ (for_loop c step i (statement i)) (quiet.more item.LoopEnd _ loop_end (one (item.Leaves objects) (leaves objects))))))
    statement (tree.Switch at e labels has_default values i) = gives_way (tree.Switch at e labels has_default values i) (gives_value e _ (quiet.first _ _ refl))
    statement (tree.Case n i) = gives_way (tree.Case n i) (one (item.Statement i) (statement i))
    statement (tree.Default i) = gives_way (tree.Default i) (one (item.Statement i) (statement i))
    statement (tree.Label n i) = gives_way (tree.Label n i) (one (item.Statement i) (statement i))
    statement (tree.Goto n) = gives_way (tree.Goto n) (one (item.GoTo n) (go_to n))
    statement tree.Break = gives_way tree.Break (one item.BreakOut break_out)
    statement tree.Continue = gives_way tree.Continue (one item.NextIteration next_turn)
    statement (tree.Return at e) = gives_way (tree.Return at e) (given_settles (is_entry callers) at e (item.LeaveFunction ∷ []) (one item.LeaveFunction leave_function))

    pub all_statements : (items : StatementTrees) → AllSettle u g callers (statements items)
    all_statements tree.NoMore = quiet.none
    all_statements (tree.And i rest) = quiet.more (item.Statement i) (statements rest) (statement i) (all_statements rest)

  -- ---- all items

  first_ends : (i : Item) → Normalized u g callers i
  first_ends (item.Value e) = value u g callers e (terms u g callers e).used
  first_ends (item.Unused e) = unused u g callers e (terms u g callers e).only
  first_ends (item.Address l) = address u g callers l (places u g callers l)
  first_ends (item.Truth b) = truth b
  first_ends item.Again = again u g callers
  first_ends item.Drop = drop u g callers
  first_ends (item.Statement i) = statement i
  first_ends (item.WhileIteration e i) = while_loop e i
  first_ends (item.DoIteration i e) = do_loop i e (statement i)
  first_ends (item.ForIteration c step i) = for_loop c step i (statement i)
  first_ends item.IterationEnd = turn_end
  first_ends item.LoopEnd = loop_end
  first_ends (item.Enters xs) = enters xs
  first_ends (item.Leaves xs) = leaves xs
  first_ends (item.GoTo l) = go_to l
  first_ends item.BreakOut = break_out
  first_ends item.NextIteration = next_turn
  first_ends item.LeaveFunction = leave_function
  first_ends item.EndBody = end_body
  first_ends other = λ rest ends. at_once u g callers _ refl

  pub all_end : (items : List Item) → Ends u g callers items
  all_end [] = nothing_left
  all_end (i ∷ items) = first_ends i items (all_end items)

pub quiet_turns_end : (u : UnitView) (r : SourceRun) → (n : ℕ) × Comes u n r
quiet_turns_end u (source.stopped why w found steps) = (0, quiet_turns.has_stopped why w found steps)
quiet_turns_end u (running s found steps) = all_end u s.function s.frames s.control s.names s.values s.world found steps
