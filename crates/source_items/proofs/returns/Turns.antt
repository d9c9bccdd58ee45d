-- Each turn of a run keeps that functions which were called leave what they name.
use Rattle.std.proofs.Common.{◌≡◌, ℕ, ℤ, ◌==◌, ◌||◌, Bool, true, false, not, cond, List, [], ◌∷◌, ◌++◌, Option, Some, None, refl, ap, sym, subst, ◌∙◌}
use Rattle.std.specs.List.{slice_get}
use Rattle.cc_base.specs.declared.diagnostics.Place.{Place}
use Rattle.c_layout.specs.CheckedTrees.{StatementTree}
use Rattle.c_layout.specs.CheckedUnits.{UnitView, FunctionView}
use Rattle.c_layout.specs.declared.checked_tree.checked_terms.ObjectRef.{ObjectRef}
use Rattle.c_layout.specs.declared.checked_tree.checked_terms.ObjectRef.TheVariants.{Local}
use Rattle.c_layout.specs.declared.checked_tree.checked_statements.CaseLabel.{CaseLabel}
use Rattle.cfg.specs.declared.machine_instructions.Scalar as declared
use Rattle.cfg.specs.declared.machine_instructions.Scalar.TheVariants as of
use Rattle.lower_templates.specs.Worklist.TermKinds.{scalar_of}
use Rattle.lower_conditions.specs.declared.branch_tests.NamedObject.{NamedObject}
use Rattle.lower_functions.specs.Functions.Functions.{local_type}
use Rattle.memory_model.specs.Memory.Scalars.{Scalar, is_false}
use Rattle.memory_model.specs.Effects.NumberedTables.{put_at, clear_at}
use Rattle.memory_model.specs.Effects.Worlds.{behind, unviolated}
use Rattle.memory_model.specs.Effects.ObjectEffects.{next_instance}
use Rattle.memory_model.specs.Effects.Accesses.{store}
use Rattle.memory_model.specs.Effects.LibraryCalls.{fgets}
use Rattle.semantics.specs.SourceMachine.Operations.{Operation, perform}
use Rattle.semantics.specs.SourceMachine.Items as item
use Rattle.semantics.specs.SourceMachine.Items.{NamedTest, Item, Items, listed, Change}
use Rattle.semantics.specs.SourceMachine.TermItems.{address_items}
use Rattle.semantics.specs.SourceMachine.ConditionItems.{term_items}
use Rattle.semantics.specs.SourceMachine.StatementItems.{of_statement, while_iteration, do_iteration, for_iteration}
use Rattle.semantics.specs.SourceMachine.Scopes.{is_in, all_of, open_scopes, jump, leap_in, past_loop, past_iteration}
use Rattle.semantics.specs.SourceMachine.LabelSearch as sought
use Rattle.semantics.specs.SourceMachine.LabelSearch.{Sought, found, from_label, case_of}
use Rattle.semantics.specs.SourceMachine.SourceStates.{Frame, State, first_do, function_at, result_object, type_of, instance_of}
use Rattle.semantics.specs.SourceMachine.ObjectSteps.{on, point_to, point_to_literal, point_to_outcome, enter_if}
use Rattle.semantics.specs.SourceMachine.ObjectSteps as objects
use Rattle.semantics.specs.SourceMachine.BranchSteps.{testing, choose_by, choose, read_line, on_case, landing, land, select_label, select}
use Rattle.semantics.specs.SourceMachine.CallSteps.{behind_body, invoke, bind_value, bind_parameter, leave_outcome}
use Rattle.semantics.specs.SourceMachine.SourceSteps.{is_entry, operate, again, enter_all, leave_all, go_to, act, return_to, turn_by, turn}
use Rattle.source_items.specs.Returns.StandingJumps.{UnitJumpsStand}
use Rattle.source_items.specs.Returns.EndedObjects.{own_objects, ended_by, ended}
use Rattle.source_items.specs.Returns.Leavings.{Selects, Fits, AllFit, Fit, Leaving, AllLeaving, IsLeaving}
use Rattle.source_items.proofs.returns.Fitting.{listed_fit, fit_behind_loop}
use Rattle.source_items.proofs.returns.FittingTerms.{address_adds, term_adds}
use Rattle.source_items.proofs.returns.FittingStatements.{while_fits, do_fits, for_fits, statement_fits}
use Rattle.source_items.proofs.returns.Labels.{Reached, found_fits, label_found}
use Rattle.source_items.proofs.stack_kinds.FoundItems.{IfSome}
use Rattle.source_items.specs.Operations.GoingReplies.{IfGoes}
use Rattle.source_items.proofs.returns.TestReplies.{test_goes, case_goes}
use Rattle.source_items.proofs.returns.Replies.{goes_behind, goes_on, goes_if_some, goes_if_such, goes_with_number}
use Rattle.source_items.proofs.returns.Jumps.{change_all, change_for, gone, in_place, jumping, breaking, continuing, leaping, entering_one, leaving_one}
use Rattle.source_items.proofs.returns.Calls.{beginning, at_end, at_return, leaving_outcome}

-- the function that runs has such items to do, and all leave what they name
abbrev pub IsLeavingBy : UnitView → List Item → State → Type 0
IsLeavingBy u items s = AllLeaving u s.function s.names items s.frames

-- it has one item more to do, before the others
abbrev pub IsLeavingAt : UnitView → Item → State → Type 0
IsLeavingAt u i s = IsLeavingBy u (i ∷ s.control) s

module _ (u : UnitView) where
  -- ---- one item with others in its place

  change : (s : State) (i : Item) (names : ℕ → Option ℕ) (items : List Item) → ((f : FunctionView) → Leaving f s.names (i ∷ s.control) → Leaving f names items) → IsLeavingAt u i s → AllLeaving u s.function names items s.frames
  change s i names items how all = change_all u s.function s.names names (i ∷ s.control) items s.frames (λ f is. how f) all

  expanded : (s : State) (i : Item) (items : List Item) → ((f : FunctionView) → ended_by f i ≡ []) → ((f : FunctionView) → Fits f i s.control → Fit f s.control → Fit f (items ++ s.control)) → IsLeavingAt u i s → IsLeavingBy u (items ++ s.control) s
  expanded s i items none fit all = change s i s.names (items ++ s.control) (λ f leaving. in_place f s.names i items s.control (none f) (fit f) leaving) all

  passed : (s : State) (i : Item) → ((f : FunctionView) → ended_by f i ≡ []) → IsLeavingAt u i s → IsLeaving u s
  passed s i none all = expanded s i [] none (λ f fits fit. fit) all

  -- ---- values and objects

  operating : (operation : Operation) (s : State) → IsLeaving u s → IfGoes (IsLeaving u) (operate u operation s)
  operating operation s all = goes_on (IsLeaving u) (perform u operation s.values s.world) _ (λ vs w. all)

  again_goes : (s : State) (vs : List Scalar) → IsLeaving u s → IfGoes (IsLeaving u) (again s vs)
  again_goes s [] all = tt
  again_goes s (v ∷ vs) all = all

  pointing : (s : State) (o : ObjectRef) (offset : ℕ) → IsLeaving u s → IfGoes (IsLeaving u) (point_to u s o offset)
  pointing s o offset all = goes_if_some (IsLeaving u) s (type_of u s o) _ (λ t is. goes_if_some (IsLeaving u) s (instance_of s.names o) _ (λ i is. all))

  pointing_to_literal : (s : State) (n : ℕ) → IsLeaving u s → IfGoes (IsLeaving u) (point_to_literal u s n)
  pointing_to_literal s n all = goes_if_some (IsLeaving u) s (slice_get u.literals n) _ (λ l is. all)

  pointing_to_outcome : (s : State) → IsLeaving u s → IfGoes (IsLeaving u) (point_to_outcome u s)
  pointing_to_outcome s all = goes_if_some (IsLeaving u) s (function_at u s.function) _ (λ f is. pointing s (Local (result_object f)) 0 all)

  changing : (s : State) (n : ℕ) (how : Change) → IsLeaving u s → IfGoes (IsLeaving u) (objects.change s n how)
  changing s n how all = goes_if_some (IsLeaving u) s (s.names n) _ (λ i is. all)

  -- ---- lifetimes

  entering_if : (s : State) (n : ℕ) (ns : List ℕ) (o : Option ℕ) → IsLeavingAt u (item.Enters (n ∷ ns)) s → IfGoes (IsLeaving u) (enter_if u (first_do (item.Enters ns ∷ []) s) n o)
  entering_if s n ns (Some i) all = tt
  entering_if s n ns None all =
      let new : ℕ = next_instance s.world in
      goes_if_some (IsLeaving u) (first_do (item.Enters ns ∷ []) s) (function_at u s.function) _ (λ g is. change s (item.Enters (n ∷ ns)) (put_at s.names n new) (item.Enters ns ∷ s.control) (λ f l. entering_one f s.names n new ns s.control l) all)

  entering : (s : State) (ns : List ℕ) → IsLeavingAt u (item.Enters ns) s → IfGoes (IsLeaving u) (enter_all u s ns).reply
  entering s [] all = passed s (item.Enters []) (λ f. refl) all
  entering s (n ∷ ns) all = entering_if s n ns (s.names n) all

  others_left : (n : ℕ) (ns xs : List ℕ) (m : ℕ) → (m == n) ≡ false → is_in m ((n ∷ ns) ++ xs) ≡ true → is_in m (ns ++ xs) ≡ true
  others_left n ns xs m other e = ap (λ b. b || is_in m (ns ++ xs)) (sym other) ∙ e

  leaving : (s : State) (ns : List ℕ) → IsLeavingAt u (item.Leaves ns) s → IfGoes (IsLeaving u) (leave_all u s ns).reply
  leaving s [] all = passed s (item.Leaves []) (λ f. refl) all
  leaving s (n ∷ ns) all = goes_if_some (IsLeaving u) (first_do (item.Leaves ns ∷ []) s) (s.names n) _ (λ i is. change s (item.Leaves (n ∷ ns)) (clear_at s.names n) (item.Leaves ns ∷ s.control) how all)
    where
      how : (f : FunctionView) → Leaving f s.names (item.Leaves (n ∷ ns) ∷ s.control) → Leaving f (clear_at s.names n) (item.Leaves ns ∷ s.control)
      how f l = leaving_one f s.names n (item.Leaves (n ∷ ns) ∷ s.control) (item.Leaves ns ∷ s.control) (others_left n ns (ended f s.control)) (tt, l.fit.1) l

  -- ---- conditions

  module _ (at : Place) (test : Option NamedTest) (held failed : Items) where
    abbrev IsChoosing : State → Type 0
    IsChoosing = IsLeavingAt u (item.Choose at test held failed)

    tested : (s : State) (b : Bool) (items : Items) → ((f : FunctionView) (rest : List Item) → Fits f (item.Choose at test held failed) rest → AllFit f items rest) → IsChoosing s → IfGoes (IsLeaving u) (behind (testing u s test b) (λ s w. on (first_do (listed items) s)))
    tested s b items one all = goes_behind (IsLeaving u) IsChoosing (testing u s test b) _ (test_goes u IsChoosing s (λ w. all) test b) (λ t w all. expanded t (item.Choose at test held failed) (listed items) (λ f. refl) (λ f fits fit. listed_fit f items t.control (one f t.control fits) fit) all)

    chosen_by : (s : State) (b : Bool) → IsChoosing s → IfGoes (IsLeaving u) (choose_by u test b held failed s)
    chosen_by s true all = tested s true held (λ f rest fits. fits.0) all
    chosen_by s false all = tested s false failed (λ f rest fits. fits.1) all

    chosen : (s : State) (vs : List Scalar) → IsChoosing s → IfGoes (IsLeaving u) (choose u test held failed s vs)
    chosen s [] all = tt
    chosen s (v ∷ vs) all = chosen_by (record s { values = vs }) (not (is_false v)) all

  read : (at : Place) (none some : Items) (s : State) (vs : List Scalar) → IsLeavingAt u (item.ReadLine at none some) s → IfGoes (IsLeaving u) (read_line u none some s vs)
  read at none some s (stream ∷ (count ∷ (text ∷ vs))) all = goes_on (IsLeaving u) (fgets u.model (text ∷ (count ∷ (stream ∷ []))) s.world) _ (λ v w. by (is_false v))
    where
      by : (b : Bool) → IsLeavingBy u (listed (cond b none some) ++ s.control) s
      by true = expanded s (item.ReadLine at none some) (listed none) (λ f. refl) (λ f fits fit. listed_fit f none s.control fits.0 fit) all
      by false = expanded s (item.ReadLine at none some) (listed some) (λ f. refl) (λ f fits fit. listed_fit f some s.control fits.1 fit) all
  read at none some s [] all = tt
  read at none some s (stream ∷ []) all = tt
  read at none some s (stream ∷ (count ∷ [])) all = tt

  -- ---- switches

  lands : (f : FunctionView) (objects : List ℕ) (l : Sought) (o : Option (List Item)) (rest : List Item) → IfSome (Reached f objects) o → Reached f objects (past_loop rest) → IfSome (Reached f objects) (landing l o rest)
  lands f objects l (Some to) rest reached behind = reached
  lands f objects sought.other None rest reached behind = behind
  lands f objects (sought.label n) None rest reached behind = tt
  lands f objects (sought.case n) None rest reached behind = tt

  landed : (f : FunctionView) (statement : StatementTree) (l : Sought) (rest : List Item) → Selects f statement rest → Fit f rest → IfSome (Reached f (ended f rest)) (landing l (found u l statement rest) rest)
  landed f statement l rest selects fit = lands f (ended f rest) l (found u l statement rest) rest (found_fits u l f statement rest selects.stands.breaks selects.stands.continues selects.stands.jumps selects.stands.enclosed fit) (record { fit = fit_behind_loop f rest fit; ends = selects.lands })

  such_some : {A : Type 0} (P : A → Type 0) (o : Option A) (x : A) → o ≡ Some x → IfSome P o → P x
  such_some P o x is h = let family : Option _ → Type 0 = IfSome P in subst family is h

  module _ (at : Place) (o : Option NamedObject) (labels : List CaseLabel) (statement : StatementTree) where
    abbrev IsSelecting : State → Type 0
    IsSelecting = IsLeavingAt u (item.Select at o labels statement)

    land_goes : (l : Sought) (s : State) → IsSelecting s → IfGoes (IsLeaving u) (land u statement l s)
    land_goes l s all = goes_if_some (IsLeaving u) s (landing l (found u l statement s.control) s.control) _ (λ to is. change s (item.Select at o labels statement) s.names (leap_in s.control to) (how to is) all)
      where
        reached : (f : FunctionView) (to : List Item) → landing l (found u l statement s.control) s.control ≡ Some to → Fit f (item.Select at o labels statement ∷ s.control) → Reached f (ended f s.control) to
        reached f to is fit = such_some (Reached f (ended f s.control)) (landing l (found u l statement s.control) s.control) to is (landed f statement l s.control fit.0 fit.1)

        how : (to : List Item) → landing l (found u l statement s.control) s.control ≡ Some to → (f : FunctionView) → Leaving f s.names (item.Select at o labels statement ∷ s.control) → Leaving f s.names (leap_in s.control to)
        how to is f leaving = leaping f s.names s.control to (reached f to is leaving.fit) (gone f s.names (item.Select at o labels statement) s.control refl leaving)

    matched : (l : Sought) (value : ℤ) (s : State) → IsSelecting s → IfGoes (IsLeaving u) (select_label u o statement l value s)
    matched l value s all = goes_behind (IsLeaving u) IsSelecting (on_case u o l value s) _ (case_goes u IsSelecting s (λ w. all) o l value) (λ t w all. land_goes l t all)

    selected : (s : State) (vs : List Scalar) → IsSelecting s → IfGoes (IsLeaving u) (select u o labels statement s vs)
    selected s [] all = tt
    selected s (v ∷ vs) all = goes_with_number (IsLeaving u) v s.world _ (λ n labelled w. matched (case_of labels 0 n) n (record s { values = vs }) all)

  -- ---- jumps

  module _ (stand : UnitJumpsStand u) where
    goes_to : (s : State) (n : ℕ) → IsLeavingAt u (item.GoTo n) s → IfGoes (IsLeaving u) (go_to u s n)
    goes_to s n all = goes_if_some (IsLeaving u) s (function_at u s.function) _ (λ f is. goes_if_such (IsLeaving u) (Reached f (own_objects f)) s (from_label u f n) _ (label_found u f n (stand s.function f is)) (λ to reached. there f is to reached))
      where
        there : (f : FunctionView) → function_at u s.function ≡ Some f → (to : List Item) → Reached f (own_objects f) to → IsLeavingBy u (jump s.control to) s
        there f is to reached = change_for u s.function f is s.names s.names (item.GoTo n ∷ s.control) (jump s.control to) s.frames (λ leaving. jumping f s.names s.control to reached.ends reached.fit (gone f s.names (item.GoTo n) s.control refl leaving)) all

    broken : (s : State) → IsLeavingAt u item.BreakOut s → IsLeavingBy u (jump s.control (past_loop s.control)) s
    broken s all = change s item.BreakOut s.names (jump s.control (past_loop s.control)) (λ f l. breaking f s.names s.control l) all

    continued : (s : State) → IsLeavingAt u item.NextIteration s → IsLeavingBy u (jump s.control (past_iteration s.control)) s
    continued s all = change s item.NextIteration s.names (jump s.control (past_iteration s.control)) (λ f l. continuing f s.names s.control l) all

    -- ---- calls and returns

    invoked : (s : State) (at : Place) (g count : ℕ) (used : Bool) → IsLeavingAt u (item.Invoke at g count used) s → IfGoes (IsLeaving u) (invoke u s at g count used)
    invoked s at g count used all = goes_if_some (IsLeaving u) s (function_at u g) _ (λ f is. (record { function = f; is = is; leaving = beginning f count (stand g f is) }, passed s (item.Invoke at g count used) (λ f. refl) all))

    bound_value : (s : State) (f : FunctionView) (n depth : ℕ) (vs : List Scalar) → IsLeaving u s → IfGoes (IsLeaving u) (bind_value u s f n depth vs)
    bound_value s f n depth [] all = tt
    bound_value s f n depth (p ∷ vs) all = goes_if_some (IsLeaving u) s (slice_get vs depth) _ (λ v is. goes_on (IsLeaving u) (store u.model (scalar_of (local_type f n)) p v s.world) _ (λ x w. all))

    bound : (s : State) (n depth : ℕ) → IsLeaving u s → IfGoes (IsLeaving u) (bind_parameter u s n depth)
    bound s n depth all = goes_if_some (IsLeaving u) s (function_at u s.function) _ (λ f is. bound_value s f n depth s.values all)

    ending : (s : State) (f : FunctionView) (frames : List Frame) → function_at u s.function ≡ Some f → AllLeaving u s.function s.names (item.EndBody ∷ s.control) frames → AllLeaving u s.function s.names (behind_body f [] frames) frames
    ending s f [] is all = tt
    ending s f (c ∷ cs) is all = change_for u s.function f is s.names s.names (item.EndBody ∷ s.control) (behind_body f [] (c ∷ cs)) (c ∷ cs) (λ l. at_end f s.names s.control c cs l) all

    returning : (s : State) (f : FunctionView) (frames : List Frame) → function_at u s.function ≡ Some f → AllLeaving u s.function s.names (item.LeaveFunction ∷ s.control) frames → AllLeaving u s.function s.names (item.Leaves (all_of (open_scopes s.control)) ∷ behind_body f (item.Hop ∷ []) frames) frames
    returning s f [] is all = tt
    returning s f (c ∷ cs) is all =
        let others : List Item = item.Leaves (all_of (open_scopes s.control)) ∷ behind_body f (item.Hop ∷ []) (c ∷ cs) in
        change_for u s.function f is s.names s.names (item.LeaveFunction ∷ s.control) others (c ∷ cs) (λ l. at_return f s.names s.control c cs l) all

    outcome_left : (s : State) (at : Place) → IsLeavingAt u (item.LeaveOutcome at) s → IfGoes (IsLeaving u) (leave_outcome u s)
    outcome_left s at all = goes_if_some (IsLeaving u) s (function_at u s.function) _ (λ f is. goes_if_some (IsLeaving u) s (s.names (result_object f)) _ (λ i named. there f is))
      where
        there : (f : FunctionView) → function_at u s.function ≡ Some f → AllLeaving u s.function (clear_at s.names (result_object f)) s.control s.frames
        there f is = change_for u s.function f is s.names (clear_at s.names (result_object f)) (item.LeaveOutcome at ∷ s.control) s.control s.frames (λ l. leaving_outcome f s.names at s.control l) all

    -- ---- turns

    acts : (i : Item) (s : State) → IsLeavingAt u i s → IfGoes (IsLeaving u) (act u i s).reply
    acts (item.Value e) s all = expanded s (item.Value e) (term_items u true e) (λ f. refl) (λ f fits fit. term_adds u f true e s.control fit) all
    acts (item.Unused e) s all = expanded s (item.Unused e) (term_items u false e) (λ f. refl) (λ f fits fit. term_adds u f false e s.control fit) all
    acts (item.Address l) s all = expanded s (item.Address l) (address_items u l) (λ f. refl) (λ f fits fit. address_adds u f l s.control fit) all
    acts (item.Do at operation) s all = operating operation s (passed s (item.Do at operation) (λ f. refl) all)
    acts (item.Truth b) s all = passed s (item.Truth b) (λ f. refl) all
    acts item.Again s all = again_goes s s.values (passed s item.Again (λ f. refl) all)
    acts item.Drop s all = passed s item.Drop (λ f. refl) all
    acts (item.Object at o offset) s all = pointing s o offset (passed s (item.Object at o offset) (λ f. refl) all)
    acts (item.Literal at n) s all = pointing_to_literal s n (passed s (item.Literal at n) (λ f. refl) all)
    acts (item.Outcome at) s all = pointing_to_outcome s (passed s (item.Outcome at) (λ f. refl) all)
    acts (item.OnObject at n how) s all = changing s n how (passed s (item.OnObject at n how) (λ f. refl) all)
    acts (item.Choose at test held failed) s all = chosen at test held failed s s.values all
    acts (item.ReadLine at none some) s all = read at none some s s.values all
    acts (item.Statement statement) s all = expanded s (item.Statement statement) (of_statement u (is_entry s.frames) statement) (λ f. refl) (λ f fits fit. statement_fits u f (is_entry s.frames) statement s.control fits fit) all
    acts (item.WhileIteration c statement) s all = expanded s (item.WhileIteration c statement) (while_iteration u c statement) (λ f. refl) (λ f fits fit. while_fits u f c statement s.control fits fit) all
    acts (item.DoIteration statement c) s all = expanded s (item.DoIteration statement c) (do_iteration u statement c) (λ f. refl) (λ f fits fit. do_fits u f c statement s.control fits fit) all
    acts (item.ForIteration c clause statement) s all = expanded s (item.ForIteration c clause statement) (for_iteration u c clause statement) (λ f. refl) (λ f fits fit. for_fits u f c clause statement s.control fits fit) all
    acts item.IterationEnd s all = passed s item.IterationEnd (λ f. refl) all
    acts item.LoopEnd s all = passed s item.LoopEnd (λ f. refl) all
    acts (item.Select at o labels statement) s all = selected at o labels statement s s.values all
    acts (item.Enters objects) s all = entering s objects all
    acts (item.Leaves objects) s all = leaving s objects all
    acts item.Hop s all = passed s item.Hop (λ f. refl) all
    acts (item.GoTo n) s all = goes_to s n all
    acts item.BreakOut s all = broken s all
    acts item.NextIteration s all = continued s all
    acts item.LeaveFunction s all = goes_if_some (IsLeaving u) s (function_at u s.function) _ (λ f is. returning s f s.frames is all)
    acts item.EndBody s all = goes_if_some (IsLeaving u) s (function_at u s.function) _ (λ f is. ending s f s.frames is all)
    acts (item.Invoke at g count used) s all = invoked s at g count used all
    acts (item.Bind at n depth) s all = bound s n depth (passed s (item.Bind at n depth) (λ f. refl) all)
    acts (item.LeaveOutcome at) s all = outcome_left s at all

    returned_to : (s : State) (items : List Item) (frames : List Frame) → AllLeaving u s.function s.names items frames → IfGoes (IsLeaving u) (return_to u s frames).reply
    returned_to s items [] all = tt
    returned_to s items (c ∷ cs) all = all.1

    turned_by : (s : State) (items : List Item) → IsLeavingBy u items s → IfGoes (IsLeaving u) (turn_by u s items).reply
    turned_by s [] all = returned_to s [] s.frames all
    turned_by s (i ∷ items) all = acts i (record s { control = items }) all

    pub turn_leaves : (s : State) → IsLeaving u s → IfGoes (IsLeaving u) (turn u s).reply
    turn_leaves s all = turned_by (record s { world = unviolated s.world }) s.control all
