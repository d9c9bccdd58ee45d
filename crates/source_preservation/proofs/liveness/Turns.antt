-- Each turn of a run keeps that functions name just what lives.
use Rattle.std.proofs.Common.{◌≡◌, ℕ, ℤ, ◌==◌, ◌||◌, Bool, true, false, not, cond, ◌&&◌, List, [], ◌∷◌, ◌++◌, Option, Some, None, refl, ap, sym, subst, ◌∙◌}
use Rattle.std.specs.List.{slice_get}
use Rattle.cc_base.specs.declared.diagnostics.Place.{Place}
use Rattle.c_layout.specs.CheckedTrees.{StatementTree}
use Rattle.c_layout.specs.CheckedUnits.{UnitView, FunctionView}
use Rattle.c_layout.specs.declared.checked_tree.checked_terms.ObjectRef.{ObjectRef}
use Rattle.c_layout.specs.declared.checked_tree.checked_terms.ObjectRef.TheVariants.{Local}
use Rattle.c_layout.specs.declared.checked_tree.checked_statements.CaseLabel.{CaseLabel}
use Rattle.cfg.specs.declared.machine_instructions.Scalar as declared
use Rattle.cfg.specs.declared.machine_instructions.Scalar.TheVariants as of
use Rattle.lower_templates.specs.Worklist.TermKinds.{scalar_of}
use Rattle.lower_conditions.specs.declared.branch_tests.NamedObject.{NamedObject}
use Rattle.lower_functions.specs.Functions.Functions.{local_type}
use Rattle.memory_model.specs.Memory.Scalars.{Scalar, is_false}
use Rattle.memory_model.specs.Effects.NumberedTables.{put_at, clear_at}
use Rattle.memory_model.specs.Effects.Worlds.{behind, unviolated}
use Rattle.memory_model.specs.Effects.ObjectEffects.{next_instance}
use Rattle.memory_model.specs.Effects.Accesses.{store}
use Rattle.memory_model.specs.Effects.LibraryCalls.{fgets}
use Rattle.semantics.specs.SourceMachine.Operations.{Operation, perform}
use Rattle.semantics.specs.SourceMachine.Items as item
use Rattle.semantics.specs.SourceMachine.Items.{NamedTest, Item, Items, listed, Change}
use Rattle.semantics.specs.SourceMachine.TermItems.{address_items}
use Rattle.semantics.specs.SourceMachine.ConditionItems.{term_items}
use Rattle.semantics.specs.SourceMachine.StatementItems.{of_statement, while_iteration, do_iteration, for_iteration}
use Rattle.semantics.specs.SourceMachine.Scopes.{is_in, all_of, open_scopes, jump, leap_in, past_loop, past_iteration}
use Rattle.semantics.specs.SourceMachine.LabelSearch as sought
use Rattle.semantics.specs.SourceMachine.LabelSearch.{Sought, found, from_label, case_of}
use Rattle.semantics.specs.SourceMachine.SourceStates.{Frame, State, first_do, function_at, result_object, type_of, instance_of}
use Rattle.semantics.specs.SourceMachine.ObjectSteps.{on, point_to, point_to_literal, point_to_outcome, enter_if}
use Rattle.semantics.specs.SourceMachine.ObjectSteps as objects
use Rattle.semantics.specs.SourceMachine.BranchSteps.{testing, choose_by, choose, read_line, on_case, landing, land, select_label, select}
use Rattle.semantics.specs.SourceMachine.CallSteps.{behind_body, invoke, bind_value, bind_parameter, leave_outcome}
use Rattle.semantics.specs.SourceMachine.SourceSteps.{is_entry, operate, again, enter_all, leave_all, go_to, act, return_to, turn_by, turn}
use Rattle.source_items.specs.Returns.StandingJumps.{UnitJumpsStand}
use Rattle.source_items.specs.Liveness.Lives.{lives, AreNew, AreAlive, IsInBody}
use Rattle.source_items.specs.Liveness.ScopedStatements.{ScopedFunction, ScopedUnit}
use Rattle.source_items.specs.Liveness.Livings.{Keeps, Selects, Sits, AllSit, Sit, Living, LivingAt, AllWait, IsLiving}
use Rattle.source_items.proofs.liveness.Members.{right_or, neither, self_in}
use Rattle.source_items.proofs.liveness.Sitting.{listed_sit, sit_behind_loop, sit_behind_turn}
use Rattle.source_items.proofs.liveness.SittingTerms.{address_adds, term_adds}
use Rattle.source_items.proofs.liveness.SittingStatements.{Replaces, replacing}
use Rattle.source_items.proofs.liveness.SittingLoops.{while_leads, do_leads, for_leads, statement_replaces}
use Rattle.source_items.proofs.liveness.Labels.{Reached, found_sits}
use Rattle.source_preservation.proofs.liveness.Bodies.{label_found}
use Rattle.source_preservation.proofs.liveness.Calls.{beginning, ended_replaces, hopped_replaces, return_replaces}
use Rattle.source_items.proofs.stack_kinds.FoundItems.{IfSome}
use Rattle.source_items.specs.Operations.GoingReplies.{IfGoes}
use Rattle.source_items.proofs.returns.TestReplies.{test_goes, case_goes}
use Rattle.source_items.proofs.returns.Replies.{goes_behind, goes_on, goes_if_some, goes_if_such, goes_with_number}
use Rattle.source_preservation.proofs.liveness.Jumps.{change_at, change_for, in_place, jump_replaces, leap_replaces, landed_behind, entering_one, leaving_one}

-- the function that runs has such items to do and names what lives there, and so it is of those that wait
abbrev pub IsLivingBy : UnitView → List Item → State → Type 0
IsLivingBy u items s = LivingAt u s.function (is_entry s.frames) s.names items × AllWait u s.frames

-- it has one item more to do, before the others
abbrev pub IsLivingAt : UnitView → Item → State → Type 0
IsLivingAt u i s = IsLivingBy u (i ∷ s.control) s

module _ (u : UnitView) where
  -- ---- one item with others in its place

  change : (s : State) (i : Item) (names : ℕ → Option ℕ) (items : List Item) → ((f : FunctionView) → function_at u s.function ≡ Some f → Living f (is_entry s.frames) s.names (i ∷ s.control) → Living f (is_entry s.frames) names items) → IsLivingAt u i s → LivingAt u s.function (is_entry s.frames) names items × AllWait u s.frames
  change s i names items how all = (change_at u s.function (is_entry s.frames) s.names names (i ∷ s.control) items how all.0, all.1)

  replaced : (s : State) (i : Item) (items : List Item) → ((f : FunctionView) → lives f (is_entry s.frames) (i ∷ s.control) ≡ lives f (is_entry s.frames) s.control) → ((f : FunctionView) → function_at u s.function ≡ Some f → Sits f (is_entry s.frames) i s.control → Sit f (is_entry s.frames) s.control → Replaces f (is_entry s.frames) items s.control) → IsLivingAt u i s → IsLivingBy u items s
  replaced s i items none replaces all = change s i s.names items (λ f is living. in_place f (is_entry s.frames) s.names i items s.control (none f) (replaces f is) living) all

  passed : (s : State) (i : Item) → ((f : FunctionView) → lives f (is_entry s.frames) (i ∷ s.control) ≡ lives f (is_entry s.frames) s.control) → IsLivingAt u i s → IsLiving u s
  passed s i none all = replaced s i s.control none (λ f is sits sit. ((λ n. refl), sit)) all

  -- ---- values and objects

  operating : (operation : Operation) (s : State) → IsLiving u s → IfGoes (IsLiving u) (operate u operation s)
  operating operation s all = goes_on (IsLiving u) (perform u operation s.values s.world) _ (λ vs w. all)

  again_goes : (s : State) (vs : List Scalar) → IsLiving u s → IfGoes (IsLiving u) (again s vs)
  again_goes s [] all = tt
  again_goes s (v ∷ vs) all = all

  pointing : (s : State) (o : ObjectRef) (offset : ℕ) → IsLiving u s → IfGoes (IsLiving u) (point_to u s o offset)
  pointing s o offset all = goes_if_some (IsLiving u) s (type_of u s o) _ (λ t is. goes_if_some (IsLiving u) s (instance_of s.names o) _ (λ i is. all))

  pointing_to_literal : (s : State) (n : ℕ) → IsLiving u s → IfGoes (IsLiving u) (point_to_literal u s n)
  pointing_to_literal s n all = goes_if_some (IsLiving u) s (slice_get u.literals n) _ (λ l is. all)

  pointing_to_outcome : (s : State) → IsLiving u s → IfGoes (IsLiving u) (point_to_outcome u s)
  pointing_to_outcome s all = goes_if_some (IsLiving u) s (function_at u s.function) _ (λ f is. pointing s (Local (result_object f)) 0 all)

  changing : (s : State) (n : ℕ) (how : Change) → IsLiving u s → IfGoes (IsLiving u) (objects.change s n how)
  changing s n how all = goes_if_some (IsLiving u) s (s.names n) _ (λ i is. all)

  -- ---- lifetimes

  others_entered : (n m : ℕ) (ns : List ℕ) (alive : Bool) → (m == n) ≡ false → (not (is_in m (n ∷ ns)) && alive) ≡ (not (is_in m ns) && alive)
  others_entered n m ns alive other = ap (λ b. not (b || is_in m ns) && alive) other

  others_left : (n m : ℕ) (ns : List ℕ) (alive : Bool) → (m == n) ≡ false → (is_in m (n ∷ ns) || alive) ≡ (is_in m ns || alive)
  others_left n m ns alive other = ap (λ b. (b || is_in m ns) || alive) other

  one_entered : (f : FunctionView) (first : Bool) (names : ℕ → Option ℕ) (n x : ℕ) (ns : List ℕ) (rest : List Item) → Living f first names (item.Enters (n ∷ ns) ∷ rest) → Living f first (put_at names n x) (item.Enters ns ∷ rest)
  one_entered f first names n x ns rest living =
      let alive : AreAlive (n ∷ ns) (lives f first rest) = living.sit.0 in
      let here : (not (is_in n ns) && lives f first rest n) ≡ true = ap (λ b. not b && lives f first rest n) alive.0.0 ∙ alive.1 n (self_in n ns) in
      let later : AreAlive ns (lives f first rest) = (alive.0.1, (λ m e. alive.1 m (right_or (m == n) (is_in m ns) e))) in
      entering_one f first names n (item.Enters (n ∷ ns) ∷ rest) (item.Enters ns ∷ rest) (λ m other. others_entered n m ns (lives f first rest m) other) (later, living.sit.1) living x here

  one_left : (f : FunctionView) (first : Bool) (names : ℕ → Option ℕ) (n : ℕ) (ns : List ℕ) (rest : List Item) → Living f first names (item.Leaves (n ∷ ns) ∷ rest) → Living f first (clear_at names n) (item.Leaves ns ∷ rest)
  one_left f first names n ns rest living =
      let new : AreNew (n ∷ ns) (lives f first rest) = living.sit.0 in
      let here : (is_in n ns || lives f first rest n) ≡ false = neither (is_in n ns) (lives f first rest n) new.0.0 (new.1 n (self_in n ns)) in
      let later : AreNew ns (lives f first rest) = (new.0.1, (λ m e. new.1 m (right_or (m == n) (is_in m ns) e))) in
      leaving_one f first names n (item.Leaves (n ∷ ns) ∷ rest) (item.Leaves ns ∷ rest) (λ m other. others_left n m ns (lives f first rest m) other) (later, living.sit.1) living here

  entering_if : (s : State) (n : ℕ) (ns : List ℕ) (o : Option ℕ) → IsLivingAt u (item.Enters (n ∷ ns)) s → IfGoes (IsLiving u) (enter_if u (first_do (item.Enters ns ∷ []) s) n o)
  entering_if s n ns (Some i) all = tt
  entering_if s n ns None all =
      let new : ℕ = next_instance s.world in
      goes_if_some (IsLiving u) (first_do (item.Enters ns ∷ []) s) (function_at u s.function) _ (λ g is. change s (item.Enters (n ∷ ns)) (put_at s.names n new) (item.Enters ns ∷ s.control) (λ f is l. one_entered f (is_entry s.frames) s.names n new ns s.control l) all)

  entering : (s : State) (ns : List ℕ) → IsLivingAt u (item.Enters ns) s → IfGoes (IsLiving u) (enter_all u s ns).reply
  entering s [] all = passed s (item.Enters []) (λ f. refl) all
  entering s (n ∷ ns) all = entering_if s n ns (s.names n) all

  leaving : (s : State) (ns : List ℕ) → IsLivingAt u (item.Leaves ns) s → IfGoes (IsLiving u) (leave_all u s ns).reply
  leaving s [] all = passed s (item.Leaves []) (λ f. refl) all
  leaving s (n ∷ ns) all = goes_if_some (IsLiving u) (first_do (item.Leaves ns ∷ []) s) (s.names n) _ (λ i is. change s (item.Leaves (n ∷ ns)) (clear_at s.names n) (item.Leaves ns ∷ s.control) (λ f is l. one_left f (is_entry s.frames) s.names n ns s.control l) all)

  -- ---- conditions

  -- the items that are chosen
  chosen_replaces : (f : FunctionView) (first : Bool) (items : Items) (rest : List Item) → Keeps f first items rest → AllSit f first items rest → Sit f first rest → Replaces f first (listed items ++ rest) rest
  chosen_replaces f first items rest keeps all sit = ((λ n. ap (λ alive. alive n) keeps), listed_sit f first items rest all sit)

  module _ (at : Place) (test : Option NamedTest) (held failed : Items) where
    abbrev IsChoosing : State → Type 0
    IsChoosing = IsLivingAt u (item.Choose at test held failed)

    tested : (s : State) (b : Bool) (items : Items) → ((f : FunctionView) (first : Bool) (rest : List Item) → Sits f first (item.Choose at test held failed) rest → Keeps f first items rest × AllSit f first items rest) → IsChoosing s → IfGoes (IsLiving u) (behind (testing u s test b) (λ s w. on (first_do (listed items) s)))
    tested s b items one all = goes_behind (IsLiving u) IsChoosing (testing u s test b) _ (test_goes u IsChoosing s (λ w. all) test b) (λ t w all. replaced t (item.Choose at test held failed) (listed items ++ t.control) (λ f. refl) (λ f is sits sit. let chosen = one f (is_entry t.frames) t.control sits in chosen_replaces f (is_entry t.frames) items t.control chosen.0 chosen.1 sit) all)

    chosen_by : (s : State) (b : Bool) → IsChoosing s → IfGoes (IsLiving u) (choose_by u test b held failed s)
    chosen_by s true all = tested s true held (λ f first rest sits. (sits.0, sits.1)) all
    chosen_by s false all = tested s false failed (λ f first rest sits. (sits.2, sits.3)) all

    chosen : (s : State) (vs : List Scalar) → IsChoosing s → IfGoes (IsLiving u) (choose u test held failed s vs)
    chosen s [] all = tt
    chosen s (v ∷ vs) all = chosen_by (record s { values = vs }) (not (is_false v)) all

  read : (at : Place) (none some : Items) (s : State) (vs : List Scalar) → IsLivingAt u (item.ReadLine at none some) s → IfGoes (IsLiving u) (read_line u none some s vs)
  read at none some s (stream ∷ (count ∷ (text ∷ vs))) all = goes_on (IsLiving u) (fgets u.model (text ∷ (count ∷ (stream ∷ []))) s.world) _ (λ v w. by (is_false v))
    where
      by : (b : Bool) → IsLivingBy u (listed (cond b none some) ++ s.control) s
      by true = replaced s (item.ReadLine at none some) (listed none ++ s.control) (λ f. refl) (λ f is sits sit. chosen_replaces f (is_entry s.frames) none s.control sits.0 sits.1 sit) all
      by false = replaced s (item.ReadLine at none some) (listed some ++ s.control) (λ f. refl) (λ f is sits sit. chosen_replaces f (is_entry s.frames) some s.control sits.2 sits.3 sit) all
  read at none some s [] all = tt
  read at none some s (stream ∷ []) all = tt
  read at none some s (stream ∷ (count ∷ [])) all = tt

  -- ---- switches

  lands : (P : List Item → Type 0) (l : Sought) (o : Option (List Item)) (rest : List Item) → IfSome P o → P (past_loop rest) → IfSome P (landing l o rest)
  lands P l (Some to) rest reached behind = reached
  lands P sought.other None rest reached behind = behind
  lands P (sought.label n) None rest reached behind = tt
  lands P (sought.case n) None rest reached behind = tt

  landed : (f : FunctionView) (first : Bool) (statement : StatementTree) (l : Sought) (rest : List Item) → Selects f first statement rest → Sit f first rest → IfSome (Reached f first (open_scopes rest)) (landing l (found u l statement rest) rest)
  landed f first statement l rest selects sit =
      let stands = selects.stands in
      lands (Reached f first (open_scopes rest)) l (found u l statement rest) rest (found_sits u l f first statement rest stands.breaks stands.continues stands.jumps stands.scoped stands.enclosed sit) (landed_behind f first statement rest selects sit)

  such_some : {A : Type 0} (P : A → Type 0) (o : Option A) (x : A) → o ≡ Some x → IfSome P o → P x
  such_some P o x is h = let family : Option _ → Type 0 = IfSome P in subst family is h

  module _ (at : Place) (o : Option NamedObject) (labels : List CaseLabel) (statement : StatementTree) where
    abbrev IsSelecting : State → Type 0
    IsSelecting = IsLivingAt u (item.Select at o labels statement)

    land_goes : (l : Sought) (s : State) → IsSelecting s → IfGoes (IsLiving u) (land u statement l s)
    land_goes l s all = goes_if_some (IsLiving u) s (landing l (found u l statement s.control) s.control) _ (λ to is. replaced s (item.Select at o labels statement) (leap_in s.control to) (λ f. refl) (λ f is_f sits sit. leap_replaces f (is_entry s.frames) s.control to sits.stands.enclosed.here (such_some (Reached f (is_entry s.frames) (open_scopes s.control)) (landing l (found u l statement s.control) s.control) to is (landed f (is_entry s.frames) statement l s.control sits sit))) all)

    matched : (l : Sought) (value : ℤ) (s : State) → IsSelecting s → IfGoes (IsLiving u) (select_label u o statement l value s)
    matched l value s all = goes_behind (IsLiving u) IsSelecting (on_case u o l value s) _ (case_goes u IsSelecting s (λ w. all) o l value) (λ t w all. land_goes l t all)

    selected : (s : State) (vs : List Scalar) → IsSelecting s → IfGoes (IsLiving u) (select u o labels statement s vs)
    selected s [] all = tt
    selected s (v ∷ vs) all = goes_with_number (IsLiving u) v s.world _ (λ n labelled w. matched (case_of labels 0 n) n (record s { values = vs }) all)

  -- ---- jumps

  module _ (stand : UnitJumpsStand u) (scoped : ScopedUnit u) where
    -- the function that runs, as the entry or as one that was called
    scoped_at : (s : State) (f : FunctionView) → function_at u s.function ≡ Some f → ScopedFunction f (is_entry s.frames)
    scoped_at s f is = scoped.functions s.function f is (is_entry s.frames)

    goes_to : (s : State) (n : ℕ) → IsLivingAt u (item.GoTo n) s → IfGoes (IsLiving u) (go_to u s n)
    goes_to s n all = goes_if_some (IsLiving u) s (function_at u s.function) _ (λ f is. goes_if_such (IsLiving u) _ s (from_label u f n) _ (label_found f (is_entry s.frames) (scoped_at s f is) (stand s.function f is) u n) (λ to reached. there f is to reached.here reached.sit))
      where
        there : (f : FunctionView) → function_at u s.function ≡ Some f → (to : List Item) → IsInBody f (is_entry s.frames) to → Sit f (is_entry s.frames) to → IsLivingBy u (jump s.control to) s
        there f is to here sit = (change_for u s.function (is_entry s.frames) s.names s.names (item.GoTo n ∷ s.control) (jump s.control to) f is (λ living. in_place f (is_entry s.frames) s.names (item.GoTo n) (jump s.control to) s.control refl (λ sits _. jump_replaces f (is_entry s.frames) s.control to sits here sit) living) all.0, all.1)

    broken : (s : State) → IsLivingAt u item.BreakOut s → IsLivingBy u (jump s.control (past_loop s.control)) s
    broken s all = replaced s item.BreakOut (jump s.control (past_loop s.control)) (λ f. refl) (λ f is sits sit. jump_replaces f (is_entry s.frames) s.control (past_loop s.control) sits.0 sits.1 (sit_behind_loop f (is_entry s.frames) s.control sit)) all

    continued : (s : State) → IsLivingAt u item.NextIteration s → IsLivingBy u (jump s.control (past_iteration s.control)) s
    continued s all = replaced s item.NextIteration (jump s.control (past_iteration s.control)) (λ f. refl) (λ f is sits sit. jump_replaces f (is_entry s.frames) s.control (past_iteration s.control) sits.0 sits.1 (sit_behind_turn f (is_entry s.frames) s.control sit)) all

    -- ---- calls and returns

    invoked : (s : State) (at : Place) (g count : ℕ) (used : Bool) → IsLivingAt u (item.Invoke at g count used) s → IfGoes (IsLiving u) (invoke u s at g count used)
    invoked s at g count used all = goes_if_some (IsLiving u) s (function_at u g) _ (λ f is. (record { function = f; is = is; living = beginning f (scoped.functions g f is false) (stand g f is) count }, passed s (item.Invoke at g count used) (λ f. refl) all))

    bound_value : (s : State) (f : FunctionView) (n depth : ℕ) (vs : List Scalar) → IsLiving u s → IfGoes (IsLiving u) (bind_value u s f n depth vs)
    bound_value s f n depth [] all = tt
    bound_value s f n depth (p ∷ vs) all = goes_if_some (IsLiving u) s (slice_get vs depth) _ (λ v is. goes_on (IsLiving u) (store u.model (scalar_of (local_type f n)) p v s.world) _ (λ x w. all))

    bound : (s : State) (n depth : ℕ) → IsLiving u s → IfGoes (IsLiving u) (bind_parameter u s n depth)
    bound s n depth all = goes_if_some (IsLiving u) s (function_at u s.function) _ (λ f is. bound_value s f n depth s.values all)

    ending : (s : State) (f : FunctionView) → function_at u s.function ≡ Some f → IsLivingAt u item.EndBody s → IsLivingBy u (behind_body f [] s.frames) s
    ending s f is all = (change_for u s.function (is_entry s.frames) s.names s.names (item.EndBody ∷ s.control) (behind_body f [] s.frames) f is how all.0, all.1)
      where
        how : Living f (is_entry s.frames) s.names (item.EndBody ∷ s.control) → Living f (is_entry s.frames) s.names (behind_body f [] s.frames)
        how living = let behind = ended_replaces f (scoped_at s f is).parameters s.frames in record { named = λ n. living.named n ∙ sym (behind.0 n); sit = behind.1 }

    returning : (s : State) (f : FunctionView) → function_at u s.function ≡ Some f → IsLivingAt u item.LeaveFunction s → IsLivingBy u (item.Leaves (all_of (open_scopes s.control)) ∷ behind_body f (item.Hop ∷ []) s.frames) s
    returning s f is all = (change_for u s.function (is_entry s.frames) s.names s.names (item.LeaveFunction ∷ s.control) (item.Leaves (all_of (open_scopes s.control)) ∷ behind_body f (item.Hop ∷ []) s.frames) f is how all.0, all.1)
      where
        how : Living f (is_entry s.frames) s.names (item.LeaveFunction ∷ s.control) → Living f (is_entry s.frames) s.names (item.Leaves (all_of (open_scopes s.control)) ∷ behind_body f (item.Hop ∷ []) s.frames)
        how living = in_place f (is_entry s.frames) s.names item.LeaveFunction (item.Leaves (all_of (open_scopes s.control)) ∷ behind_body f (item.Hop ∷ []) s.frames) s.control refl (λ here sit. return_replaces f (is_entry s.frames) (behind_body f (item.Hop ∷ []) s.frames) s.control here (hopped_replaces f (scoped_at s f is).parameters s.frames)) living

    outcome_left : (s : State) (at : Place) → IsLivingAt u (item.LeaveOutcome at) s → IfGoes (IsLiving u) (leave_outcome u s)
    outcome_left s at all = goes_if_some (IsLiving u) s (function_at u s.function) _ (λ f is. goes_if_some (IsLiving u) s (s.names (result_object f)) _ (λ i named. (change_for u s.function (is_entry s.frames) s.names (clear_at s.names (result_object f)) (item.LeaveOutcome at ∷ s.control) s.control f is (how f) all.0, all.1)))
      where
        how : (f : FunctionView) → Living f (is_entry s.frames) s.names (item.LeaveOutcome at ∷ s.control) → Living f (is_entry s.frames) (clear_at s.names (result_object f)) s.control
        how f living = leaving_one f (is_entry s.frames) s.names (result_object f) (item.LeaveOutcome at ∷ s.control) s.control (λ m other. others_left (result_object f) m [] (lives f (is_entry s.frames) s.control m) other) living.sit.1 living living.sit.0

    -- ---- turns

    acts : (i : Item) (s : State) → IsLivingAt u i s → IfGoes (IsLiving u) (act u i s).reply
    acts (item.Value e) s all = replaced s (item.Value e) (term_items u true e ++ s.control) (λ f. refl) (λ f is sits sit. replacing f (is_entry s.frames) (term_items u true e) s.control (term_adds u f (is_entry s.frames) true e s.control sits sit)) all
    acts (item.Unused e) s all = replaced s (item.Unused e) (term_items u false e ++ s.control) (λ f. refl) (λ f is sits sit. replacing f (is_entry s.frames) (term_items u false e) s.control (term_adds u f (is_entry s.frames) false e s.control sits sit)) all
    acts (item.Address l) s all = replaced s (item.Address l) (address_items u l ++ s.control) (λ f. refl) (λ f is sits sit. replacing f (is_entry s.frames) (address_items u l) s.control (address_adds u f (is_entry s.frames) l s.control sits sit)) all
    acts (item.Do at operation) s all = operating operation s (passed s (item.Do at operation) (λ f. refl) all)
    acts (item.Truth b) s all = passed s (item.Truth b) (λ f. refl) all
    acts item.Again s all = again_goes s s.values (passed s item.Again (λ f. refl) all)
    acts item.Drop s all = passed s item.Drop (λ f. refl) all
    acts (item.Object at o offset) s all = pointing s o offset (passed s (item.Object at o offset) (λ f. refl) all)
    acts (item.Literal at n) s all = pointing_to_literal s n (passed s (item.Literal at n) (λ f. refl) all)
    acts (item.Outcome at) s all = pointing_to_outcome s (passed s (item.Outcome at) (λ f. refl) all)
    acts (item.OnObject at n how) s all = changing s n how (passed s (item.OnObject at n how) (λ f. refl) all)
    acts (item.Choose at test held failed) s all = chosen at test held failed s s.values all
    acts (item.ReadLine at none some) s all = read at none some s s.values all
    acts (item.Statement statement) s all = replaced s (item.Statement statement) (of_statement u (is_entry s.frames) statement ++ s.control) (λ f. refl) (λ f is sits sit. statement_replaces u f (is_entry s.frames) statement s.control sits sit) all
    acts (item.WhileIteration c statement) s all = replaced s (item.WhileIteration c statement) (while_iteration u c statement ++ s.control) (λ f. refl) (λ f is sits sit. replacing f (is_entry s.frames) (while_iteration u c statement) s.control (while_leads u f (is_entry s.frames) c statement s.control sits sit)) all
    acts (item.DoIteration statement c) s all = replaced s (item.DoIteration statement c) (do_iteration u statement c ++ s.control) (λ f. refl) (λ f is sits sit. replacing f (is_entry s.frames) (do_iteration u statement c) s.control (do_leads u f (is_entry s.frames) c statement s.control sits sit)) all
    acts (item.ForIteration c clause statement) s all = replaced s (item.ForIteration c clause statement) (for_iteration u c clause statement ++ s.control) (λ f. refl) (λ f is sits sit. replacing f (is_entry s.frames) (for_iteration u c clause statement) s.control (for_leads u f (is_entry s.frames) c clause statement s.control sits sit)) all
    acts item.IterationEnd s all = passed s item.IterationEnd (λ f. refl) all
    acts item.LoopEnd s all = passed s item.LoopEnd (λ f. refl) all
    acts (item.Select at o labels statement) s all = selected at o labels statement s s.values all
    acts (item.Enters objects) s all = entering s objects all
    acts (item.Leaves objects) s all = leaving s objects all
    acts item.Hop s all = passed s item.Hop (λ f. refl) all
    acts (item.GoTo n) s all = goes_to s n all
    acts item.BreakOut s all = broken s all
    acts item.NextIteration s all = continued s all
    acts item.LeaveFunction s all = goes_if_some (IsLiving u) s (function_at u s.function) _ (λ f is. returning s f is all)
    acts item.EndBody s all = goes_if_some (IsLiving u) s (function_at u s.function) _ (λ f is. ending s f is all)
    acts (item.Invoke at g count used) s all = invoked s at g count used all
    acts (item.Bind at n depth) s all = bound s n depth (passed s (item.Bind at n depth) (λ f. refl) all)
    acts (item.LeaveOutcome at) s all = outcome_left s at all

    returned_to : (s : State) (items : List Item) (frames : List Frame) → AllWait u frames → IfGoes (IsLiving u) (return_to u s frames).reply
    returned_to s items [] all = tt
    returned_to s items (c ∷ cs) all = all

    turned_by : (s : State) (items : List Item) → IsLivingBy u items s → IfGoes (IsLiving u) (turn_by u s items).reply
    turned_by s [] all = returned_to s [] s.frames all.1
    turned_by s (i ∷ items) all = acts i (record s { control = items }) all

    pub turn_lives : (s : State) → IsLiving u s → IfGoes (IsLiving u) (turn u s).reply
    turn_lives s all = turned_by (record s { world = unviolated s.world }) s.control all
