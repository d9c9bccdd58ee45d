-- Each turn of a run keeps that values have the kinds that what is left to do takes.
use Rattle.std.proofs.Common.{◌≡◌, ℕ, ℤ, Bool, true, false, not, cond, List, [], ◌∷◌, ◌++◌, append_assoc, drop, Option, Some, None, refl, sym, subst, ◌∙◌}
use Rattle.std.specs.List.{slice_get}
use Rattle.cc_base.specs.declared.diagnostics.Place.{Place}
use Rattle.c_layout.specs.CheckedTrees.{StatementTree}
use Rattle.c_layout.specs.CheckedUnits.{UnitView, FunctionView}
use Rattle.c_layout.specs.declared.checked_tree.checked_terms.ObjectRef.{ObjectRef}
use Rattle.c_layout.specs.declared.checked_tree.checked_terms.ObjectRef.TheVariants.{Local}
use Rattle.c_layout.specs.declared.checked_tree.checked_statements.CaseLabel.{CaseLabel}
use Rattle.cfg.specs.declared.machine_instructions.Scalar as declared
use Rattle.cfg.specs.declared.machine_instructions.Scalar.TheVariants as of
use Rattle.lower_templates.specs.Worklist.TermKinds.{scalar_of}
use Rattle.lower_conditions.specs.declared.branch_tests.NamedObject.{NamedObject}
use Rattle.lower_functions.specs.Functions.Functions.{local_type}
use Rattle.memory_model.specs.Memory.Scalars.{Scalar, is_false}
use Rattle.memory_model.specs.Effects.IntegerEffects.{truth}
use Rattle.memory_model.specs.Effects.Worlds.{unviolated}
use Rattle.memory_model.specs.Effects.Accesses.{store}
use Rattle.memory_model.specs.Effects.LibraryCalls.{fgets}
use Rattle.semantics.specs.SourceMachine.Operations.{Operation, perform}
use Rattle.semantics.specs.SourceMachine.Items as item
use Rattle.semantics.specs.SourceMachine.Items.{NamedTest, Item, Items, listed, Change}
use Rattle.semantics.specs.SourceMachine.TermItems.{address_items}
use Rattle.semantics.specs.SourceMachine.ConditionItems.{term_items}
use Rattle.semantics.specs.SourceMachine.StatementItems.{of_statement, while_iteration, do_iteration, for_iteration, body}
use Rattle.semantics.specs.SourceMachine.Scopes.{all_of, open_scopes, jump, leap_in, past_loop, past_iteration}
use Rattle.semantics.specs.SourceMachine.LabelSearch as sought
use Rattle.semantics.specs.SourceMachine.LabelSearch.{Sought, found, from_label, case_of}
use Rattle.semantics.specs.SourceMachine.SourceStates.{Frame, State, first_do, pushed, function_at, result_object, type_of, instance_of}
use Rattle.semantics.specs.SourceMachine.ObjectSteps.{point_to, point_to_literal, point_to_outcome, enter_if}
use Rattle.semantics.specs.SourceMachine.ObjectSteps as objects
use Rattle.semantics.specs.SourceMachine.BranchSteps.{testing, choose_by, choose, read_line, on_case, landing, select_label, select}
use Rattle.semantics.specs.SourceMachine.CallSteps.{prologue, waiting, behind_body, invoke, bind_value, bind_parameter, leave_function, end_body, leave_outcome}
use Rattle.semantics.specs.SourceMachine.SourceSteps.{is_entry, operate, again, enter_all, leave_all, go_to, act, return_to, turn_by, turn}
use Rattle.source_items.specs.Operations.Kinds.{Kind, Number, Address, IsOf, AreOf}
use Rattle.source_items.specs.Operations.GoingReplies.{IfGoes}
use Rattle.source_items.specs.Operations.OperationLaws.{OperationsKeepKinds}
use Rattle.source_items.specs.Returns.StandingJumps.{UnitJumpsStand}
use Rattle.source_items.specs.StackKinds.KindedStatements.{KindedUnit}
use Rattle.source_items.specs.StackKinds.KindedItems.{called_by, left_kinds, parameter_kinds, Invokes, Selects, AtRest, Effect, AllDo, Does}
use Rattle.source_items.specs.StackKinds.KindedStates.{Runs, HasKinds}
use Rattle.source_items.proofs.stack_kinds.Loops.{does_behind_loop, does_behind_turn}
use Rattle.source_items.proofs.stack_kinds.ItemWalks.{Through, does_from, through_does, listed_does}
use Rattle.source_items.proofs.stack_kinds.Leading.{kinds}
use Rattle.source_items.proofs.stack_kinds.FoundItems.{IfSome, some_map}
use Rattle.source_items.proofs.stack_kinds.LeadingTerms.{address_leads, term_leads}
use Rattle.source_items.proofs.stack_kinds.LeadingStatements.{while_through, do_through, for_through, statement_through}
use Rattle.source_items.proofs.stack_kinds.Labels.{found_does, label_does}
use Rattle.source_items.proofs.returns.TestReplies.{test_goes, case_goes}
use Rattle.source_items.proofs.returns.Replies.{goes_behind, goes_on, goes_if_some, goes_if_such, goes_if_known, goes_with_number}
use Rattle.source_progress.proofs.stack_kinds.Changes.{newest_of, one_less, revalued, instead_of, resting, jumped, leapt}
use Rattle.source_progress.proofs.stack_kinds.Calls.{prologue_does, behind_does, back}

-- the function that runs has such items to do, and one item more before the others
abbrev pub RunsBy : UnitView → List Item → State → Type 0
RunsBy u items s = Runs u s.function items s.frames s.values

abbrev pub RunsAt : UnitView → Item → State → Type 0
RunsAt u i s = RunsBy u (i ∷ s.control) s

-- it follows from what an item before others does, from kinds to others
abbrev Follows : UnitView → Item → List Item → (FunctionView → Option Bool → List Kind → List Kind → Type 0) → Type 0
Follows u i rest P = (f : FunctionView) (called : Option Bool) (ks mid : List Kind) → Effect u f called i rest ks mid → P f called ks mid

module _ (u : UnitView) where
  -- ---- one item with others in its place

  expanded : (s : State) (i : Item) (items : List Item) → Follows u i s.control (λ f called ks mid. Through (kinds u f called) items s.control ks mid) → RunsAt u i s → RunsBy u (items ++ s.control) s
  expanded s i items how r = instead_of u s.function (i ∷ s.control) (items ++ s.control) s.frames s.values (λ f is ks left leaves does. through_does (kinds u f (called_by s.frames)) items s.control ks does.0 left (how f (called_by s.frames) ks does.0 does.1) does.2) r

  passed : (s : State) (i : Item) → Follows u i s.control (λ f called ks mid. ks ≡ mid) → RunsAt u i s → HasKinds u s
  passed s i same r = expanded s i [] same r

  rested : (s : State) (i : Item) (items : List Item) → Follows u i s.control (λ f called ks mid. AtRest ks mid × Through (kinds u f called) items s.control [] []) → RunsAt u i s → RunsBy u (items ++ s.control) s
  rested s i items how r = expanded s i items (λ f called ks mid e. resting u f called items s.control ks mid (how f called ks mid e).0 (how f called ks mid e).1) r

  -- ---- values and objects

  pushing : (s : State) (i : Item) (k : Kind) (v : Scalar) → IsOf k v → Follows u i s.control (λ f called ks mid. mid ≡ k ∷ ks) → RunsAt u i s → HasKinds u (pushed v s)
  pushing s i k v is_of same r = revalued u s.function (i ∷ s.control) s.control s.frames s.values (v ∷ s.values) (λ f is ks left below leaves does are. record {
    kinds = k ∷ ks;
    does = does_from (kinds u f (called_by s.frames)) s.control (k ∷ ks) does.0 left (sym (same f (called_by s.frames) ks does.0 does.1)) does.2;
    are = (is_of, are);
  }) r

  again_goes : (s : State) (vs : List Scalar) → Runs u s.function (item.Again ∷ s.control) s.frames vs → IfGoes (HasKinds u) (again (record s { values = vs }) vs)
  again_goes s [] r = tt
  again_goes s (v ∷ vs) r = revalued u s.function (item.Again ∷ s.control) s.control s.frames (v ∷ vs) (v ∷ (v ∷ vs)) (λ f is ks left below leaves does are. record {
    kinds = does.1.0 ∷ ks;
    does = does_from (kinds u f (called_by s.frames)) s.control (does.1.0 ∷ ks) does.0 left (sym does.1.3) does.2;
    are = ((newest_of ks does.1.0 does.1.1 below v vs does.1.2 are).0, are);
  }) r

  dropping : (s : State) → RunsAt u item.Drop s → HasKinds u (record s { values = drop 1 s.values })
  dropping s r = revalued u s.function (item.Drop ∷ s.control) s.control s.frames s.values (drop 1 s.values) (λ f is ks left below leaves does are. record { kinds = does.0; does = does.2; are = one_less ks does.1.0 does.0 below s.values does.1.1 are }) r

  operating : OperationsKeepKinds → (at : Place) (operation : Operation) (s : State) → RunsAt u (item.Do at operation) s → IfGoes (HasKinds u) (operate u operation s)
  operating kept at operation s r =
      let given : IfGoes (AreOf (r.goes.does.0 ++ r.below)) (perform u operation s.values s.world) = kept u operation r.kinds r.goes.does.0 r.below s.values s.world r.goes.does.1 r.are in
      goes_behind (HasKinds u) (AreOf (r.goes.does.0 ++ r.below)) (perform u operation s.values s.world) _ given (λ vs w are. record {
        kinds = r.goes.does.0;
        left = r.left;
        below = r.below;
        goes = record { function = r.goes.function; is = r.goes.is; leaves = r.goes.leaves; does = r.goes.does.2 };
        wait = r.wait;
        are = are;
      })

  pointing : (s : State) (i : Item) (o : ObjectRef) (offset : ℕ) → Follows u i s.control (λ f called ks mid. mid ≡ Address ∷ ks) → RunsAt u i s → IfGoes (HasKinds u) (point_to u s o offset)
  pointing s i o offset same r = goes_if_some (HasKinds u) s (type_of u s o) _ (λ t is. goes_if_some (HasKinds u) s (instance_of s.names o) _ (λ n is. pushing s i Address _ tt same r))

  pointing_to_literal : (at : Place) (s : State) (n : ℕ) → RunsAt u (item.Literal at n) s → IfGoes (HasKinds u) (point_to_literal u s n)
  pointing_to_literal at s n r = goes_if_some (HasKinds u) s (slice_get u.literals n) _ (λ l is. pushing s (item.Literal at n) Address _ tt (λ f called ks mid e. e.1) r)

  pointing_to_outcome : (at : Place) (s : State) → RunsAt u (item.Outcome at) s → IfGoes (HasKinds u) (point_to_outcome u s)
  pointing_to_outcome at s r = goes_if_some (HasKinds u) s (function_at u s.function) _ (λ f is. pointing s (item.Outcome at) (Local (result_object f)) 0 (λ f called ks mid e. e.1) r)

  changing : (at : Place) (s : State) (n : ℕ) (how : Change) → RunsAt u (item.OnObject at n how) s → IfGoes (HasKinds u) (objects.change s n how)
  changing at s n how r = goes_if_some (HasKinds u) s (s.names n) _ (λ i is. passed s (item.OnObject at n how) (λ f called ks mid e. sym e) r)

  -- ---- lifetimes

  entering_if : (s : State) (n : ℕ) (ns : List ℕ) (o : Option ℕ) → RunsAt u (item.Enters (n ∷ ns)) s → IfGoes (HasKinds u) (enter_if u (first_do (item.Enters ns ∷ []) s) n o)
  entering_if s n ns (Some i) r = tt
  entering_if s n ns None r = goes_if_some (HasKinds u) (first_do (item.Enters ns ∷ []) s) (function_at u s.function) _ (λ g is. instead_of u s.function (item.Enters (n ∷ ns) ∷ s.control) (item.Enters ns ∷ s.control) s.frames s.values (λ f is ks left leaves does. does) r)

  entering : (s : State) (ns : List ℕ) → RunsAt u (item.Enters ns) s → IfGoes (HasKinds u) (enter_all u s ns).reply
  entering s [] r = passed s (item.Enters []) (λ f called ks mid e. sym e) r
  entering s (n ∷ ns) r = entering_if s n ns (s.names n) r

  leaving : (s : State) (ns : List ℕ) → RunsAt u (item.Leaves ns) s → IfGoes (HasKinds u) (leave_all u s ns).reply
  leaving s [] r = passed s (item.Leaves []) (λ f called ks mid e. sym e) r
  leaving s (n ∷ ns) r = goes_if_some (HasKinds u) (first_do (item.Leaves ns ∷ []) s) (s.names n) _ (λ i is. instead_of u s.function (item.Leaves (n ∷ ns) ∷ s.control) (item.Leaves ns ∷ s.control) s.frames s.values (λ f is ks left leaves does. does) r)

  -- ---- conditions

  -- items that are chosen by a value
  one_chosen : (g : ℕ) (i : Item) (items : Items) (rest : List Item) (frames : List Frame) (v : Scalar) (vs : List Scalar) → Follows u i rest (λ f called ks mid. (k : Kind) × (others : List Kind) × (ks ≡ k ∷ others) × AllDo u f called items rest others mid) → Runs u g (i ∷ rest) frames (v ∷ vs) → Runs u g (listed items ++ rest) frames vs
  one_chosen g i items rest frames v vs how r = revalued u g (i ∷ rest) (listed items ++ rest) frames (v ∷ vs) vs (λ f is ks left below leaves does are.
      let taken = how f (called_by frames) ks does.0 does.1 in
      record {
        kinds = taken.1;
        does = listed_does (kinds u f (called_by frames)) items rest taken.1 does.0 left taken.3 does.2;
        are = (newest_of ks taken.0 taken.1 below v vs taken.2 are).1;
      }) r

  chosen_by : (test : Option NamedTest) (held failed : Items) (s : State) (b : Bool) → HasKinds u (first_do (listed held) s) → HasKinds u (first_do (listed failed) s) → IfGoes (HasKinds u) (choose_by u test b held failed s)
  chosen_by test held failed s true one other = goes_behind (HasKinds u) (λ t. HasKinds u (first_do (listed held) t)) (testing u s test true) _ (test_goes u (λ t. HasKinds u (first_do (listed held) t)) s (λ w. one) test true) (λ t w r. r)
  chosen_by test held failed s false one other = goes_behind (HasKinds u) (λ t. HasKinds u (first_do (listed failed) t)) (testing u s test false) _ (test_goes u (λ t. HasKinds u (first_do (listed failed) t)) s (λ w. other) test false) (λ t w r. r)

  chosen : (at : Place) (test : Option NamedTest) (held failed : Items) (s : State) (vs : List Scalar) → Runs u s.function (item.Choose at test held failed ∷ s.control) s.frames vs → IfGoes (HasKinds u) (choose u test held failed s vs)
  chosen at test held failed s [] r = tt
  chosen at test held failed s (v ∷ vs) r =
      let choice : Item = item.Choose at test held failed in
      let one : Runs u s.function (listed held ++ s.control) s.frames vs = one_chosen s.function choice held s.control s.frames v vs (λ f called ks mid e. (e.0, e.1, e.2, e.3)) r in
      let other : Runs u s.function (listed failed ++ s.control) s.frames vs = one_chosen s.function choice failed s.control s.frames v vs (λ f called ks mid e. (e.0, e.1, e.2, e.4)) r in
      chosen_by test held failed (record s { values = vs }) (not (is_false v)) one other

  read_chosen : (g : ℕ) (i : Item) (items : Items) (rest : List Item) (frames : List Frame) (stream count text : Scalar) (vs : List Scalar) → Follows u i rest (λ f called ks mid. (others : List Kind) × (ks ≡ Address ∷ (Number ∷ (Address ∷ others))) × AllDo u f called items rest others mid) → Runs u g (i ∷ rest) frames (stream ∷ (count ∷ (text ∷ vs))) → Runs u g (listed items ++ rest) frames vs
  read_chosen g i items rest frames stream count text vs how r = revalued u g (i ∷ rest) (listed items ++ rest) frames (stream ∷ (count ∷ (text ∷ vs))) vs (λ f is ks left below leaves does are.
      let taken = how f (called_by frames) ks does.0 does.1 in
      record {
        kinds = taken.0;
        does = listed_does (kinds u f (called_by frames)) items rest taken.0 does.0 left taken.2 does.2;
        are = (newest_of ks Address (Number ∷ (Address ∷ taken.0)) below stream (count ∷ (text ∷ vs)) taken.1 are).1.1.1;
      }) r

  read : (at : Place) (none some : Items) (s : State) (vs : List Scalar) → Runs u s.function (item.ReadLine at none some ∷ s.control) s.frames vs → IfGoes (HasKinds u) (read_line u none some s vs)
  read at none some s (stream ∷ (count ∷ (text ∷ vs))) r = goes_on (HasKinds u) (fgets u.model (text ∷ (count ∷ (stream ∷ []))) s.world) _ (λ v w. by (is_false v))
    where
      by : (b : Bool) → Runs u s.function (listed (cond b none some) ++ s.control) s.frames vs
      by true = read_chosen s.function (item.ReadLine at none some) none s.control s.frames stream count text vs (λ f called ks mid e. (e.0, e.1, e.2)) r
      by false = read_chosen s.function (item.ReadLine at none some) some s.control s.frames stream count text vs (λ f called ks mid e. (e.0, e.1, e.3)) r
  read at none some s [] r = tt
  read at none some s (stream ∷ []) r = tt
  read at none some s (stream ∷ (count ∷ [])) r = tt

  -- ---- switches

  landed : (f : FunctionView) (called : Option Bool) (labels : List CaseLabel) (statement : StatementTree) (l : Sought) (rest : List Item) (left : List Kind) → Selects u f labels statement rest → Does u f called rest [] left → IfSome (λ to. Does u f called to [] left) (landing l (found u l statement rest) rest)
  landed f called labels statement l rest left selects does = by l (found u l statement rest) (found_does u l f called left statement rest selects.stands.breaks selects.stands.continues selects.stands.kinded selects.stands.jumps selects.stands.enclosed does)
    where
      Lands : Option (List Item) → Type 0
      Lands = IfSome (λ to. Does u f called to [] left)

      by : (l : Sought) (o : Option (List Item)) → Lands o → Lands (landing l o rest)
      by l (Some to) h = h
      by sought.other None h = does_behind_loop u f called rest [] left selects.ends does
      by (sought.label n) None h = tt
      by (sought.case n) None h = tt

  module _ (at : Place) (o : Option NamedObject) (labels : List CaseLabel) (statement : StatementTree) where
    -- wherever a label leads, values have their kinds
    abbrev MayLand : State → Type 0
    MayLand s = (l : Sought) → IfSome (λ to. RunsBy u (leap_in s.control to) s) (landing l (found u l statement s.control) s.control)

    may_land : (s : State) (v : Scalar) (vs : List Scalar) → Runs u s.function (item.Select at o labels statement ∷ s.control) s.frames (v ∷ vs) → MayLand (record s { values = vs })
    may_land s v vs r l = some_map (λ to. Does u f called to [] r.left) (λ to. Runs u s.function (leap_in s.control to) s.frames vs) (landing l (found u l statement s.control) s.control) there (landed f called labels statement l s.control r.left does.1.0 (does_from (kinds u f called) s.control [] does.0 r.left (sym does.1.2) does.2))
      where
        f : FunctionView
        f = r.goes.function

        called : Option Bool
        called = called_by s.frames

        does : Does u r.goes.function (called_by s.frames) (item.Select at o labels statement ∷ s.control) r.kinds r.left
        does = r.goes.does

        there : (to : List Item) → Does u r.goes.function (called_by s.frames) to [] r.left → Runs u s.function (leap_in s.control to) s.frames vs
        there to reached = record {
          kinds = [];
          left = r.left;
          below = r.below;
          goes = record { function = r.goes.function; is = r.goes.is; leaves = r.goes.leaves; does = leapt u r.goes.function (called_by s.frames) s.control to r.left reached };
          wait = r.wait;
          are = (newest_of r.kinds Number [] r.below v vs does.1.1 r.are).1;
        }

    matched : (l : Sought) (value : ℤ) (s : State) → MayLand s → IfGoes (HasKinds u) (select_label u o statement l value s)
    matched l value s may = goes_behind (HasKinds u) MayLand (on_case u o l value s) _ (case_goes u MayLand s (λ w. may) o l value) (λ t w may. goes_if_such (HasKinds u) (λ to. RunsBy u (leap_in t.control to) t) t (landing l (found u l statement t.control) t.control) _ (may l) (λ to r. r))

    selected : (s : State) (vs : List Scalar) → Runs u s.function (item.Select at o labels statement ∷ s.control) s.frames vs → IfGoes (HasKinds u) (select u o labels statement s vs)
    selected s [] r = tt
    selected s (v ∷ vs) r = goes_with_number (HasKinds u) v s.world _ (λ n labelled w. matched (case_of labels 0 n) n (record s { values = vs }) (may_land s v vs r))

  -- ---- jumps

  jumping : (s : State) (i : Item) (to : List Item) → ((f : FunctionView) (called : Option Bool) (ks mid left : List Kind) → Effect u f called i s.control ks mid → Does u f called s.control mid left → (ks ≡ []) × Does u f called to [] left) → RunsAt u i s → RunsBy u (jump s.control to) s
  jumping s i to how r = instead_of u s.function (i ∷ s.control) (jump s.control to) s.frames s.values (λ f is ks left leaves does.
      let there = how f (called_by s.frames) ks does.0 left does.1 does.2 in
      does_from (kinds u f (called_by s.frames)) (jump s.control to) ks [] left there.0 (jumped u f (called_by s.frames) s.control to left there.1)) r

  module _ (kept : OperationsKeepKinds) (kinded : KindedUnit u) (stand : UnitJumpsStand u) where
    goes_to : (s : State) (n : ℕ) → RunsAt u (item.GoTo n) s → IfGoes (HasKinds u) (go_to u s n)
    goes_to s n r =
        let f : FunctionView = r.goes.function in
        let called : Option Bool = called_by s.frames in
        goes_if_known (HasKinds u) s (function_at u s.function) f _ r.goes.is (goes_if_such (HasKinds u) (λ to. Does u f called to [] (left_kinds f called)) s (from_label u f n) _ (label_does u f called (kinded.functions s.function f r.goes.is) (stand s.function f r.goes.is) n) (λ to reached. record {
          kinds = [];
          left = r.left;
          below = r.below;
          goes = record { function = f; is = r.goes.is; leaves = r.goes.leaves; does = jumped u f called s.control to r.left (subst (λ ks. Does u f called to [] ks) (sym r.goes.leaves) reached) };
          wait = r.wait;
          are = subst (λ ks. AreOf (ks ++ r.below) s.values) r.goes.does.1.1.0 r.are;
        }))

    -- ---- calls and returns

    begun : (s : State) (at : Place) (g count : ℕ) (used : Bool) (r : RunsAt u (item.Invoke at g count used) s) → Runs u g (prologue r.goes.does.1.function count ++ body r.goes.does.1.function) (waiting s at used ∷ s.frames) s.values
    begun s at g count used r =
        let i : Invokes u g count used r.kinds r.goes.does.0 = r.goes.does.1 in
        let given : List Kind = left_kinds i.function (Some used) in
        record {
          kinds = parameter_kinds i.function count;
          left = given;
          below = i.below ++ r.below;
          goes = record { function = i.function; is = i.is; leaves = refl; does = prologue_does u i.function (Some used) count i.counted (kinded.functions g i.function i.is) (stand g i.function i.is) };
          wait = (i.below, r.left, r.below, refl, record { function = r.goes.function; is = r.goes.is; leaves = r.goes.leaves; does = does_from (kinds u r.goes.function (called_by s.frames)) s.control (given ++ i.below) r.goes.does.0 r.left (sym i.given) r.goes.does.2 }, r.wait);
          are = subst (λ ks. AreOf ks s.values) (append_assoc (parameter_kinds i.function count) i.below r.below) (subst (λ ks. AreOf (ks ++ r.below) s.values) i.taken r.are);
        }

    invoked : (s : State) (at : Place) (g count : ℕ) (used : Bool) → RunsAt u (item.Invoke at g count used) s → IfGoes (HasKinds u) (invoke u s at g count used)
    invoked s at g count used r = goes_if_known (HasKinds u) s (function_at u g) r.goes.does.1.function _ r.goes.does.1.is (begun s at g count used r)

    bound_value : (at : Place) (s : State) (f : FunctionView) (n depth : ℕ) (vs : List Scalar) → Runs u s.function (item.Bind at n depth ∷ s.control) s.frames vs → IfGoes (HasKinds u) (bind_value u s f n depth vs)
    bound_value at s f n depth [] r = tt
    bound_value at s f n depth (p ∷ vs) r = goes_if_some (HasKinds u) s (slice_get vs depth) _ (λ v is. goes_on (HasKinds u) (store u.model (scalar_of (local_type f n)) p v s.world) _ (λ x w. revalued u s.function (item.Bind at n depth ∷ s.control) s.control s.frames (p ∷ vs) vs (λ f is ks left below leaves does are. record { kinds = does.0; does = does.2; are = (newest_of ks Address does.0 below p vs does.1.0 are).1 }) r))

    bound : (at : Place) (s : State) (n depth : ℕ) → RunsAt u (item.Bind at n depth) s → IfGoes (HasKinds u) (bind_parameter u s n depth)
    bound at s n depth r = goes_if_some (HasKinds u) s (function_at u s.function) _ (λ f is. bound_value at s f n depth s.values r)

    -- the rest of a function is what is behind its body
    ended : (s : State) (i : Item) (others : List Item) → Follows u i s.control (λ f called ks mid. ks ≡ []) → (r : RunsAt u i s) → Does u r.goes.function (called_by s.frames) others [] (left_kinds r.goes.function (called_by s.frames)) → RunsBy u others s
    ended s i others none r does =
        let f : FunctionView = r.goes.function in
        let called : Option Bool = called_by s.frames in
        record {
          kinds = [];
          left = r.left;
          below = r.below;
          goes = record { function = f; is = r.goes.is; leaves = r.goes.leaves; does = subst (λ ks. Does u f called others [] ks) (sym r.goes.leaves) does };
          wait = r.wait;
          are = subst (λ ks. AreOf (ks ++ r.below) s.values) (none f called r.kinds r.goes.does.0 r.goes.does.1) r.are;
        }

    ending : (s : State) → RunsAt u item.EndBody s → IfGoes (HasKinds u) (end_body u s)
    ending s r =
        let f : FunctionView = r.goes.function in
        goes_if_known (HasKinds u) s (function_at u s.function) f _ r.goes.is (ended s item.EndBody (behind_body f [] s.frames) (λ f called ks mid e. e.0) r (behind_does u f [] (λ called rest. refl) s.frames))

    returning : (s : State) → RunsAt u item.LeaveFunction s → IfGoes (HasKinds u) (leave_function u s)
    returning s r =
        let f : FunctionView = r.goes.function in
        let others : List Item = behind_body f (item.Hop ∷ []) s.frames in
        goes_if_known (HasKinds u) s (function_at u s.function) f _ r.goes.is (ended s item.LeaveFunction (item.Leaves (all_of (open_scopes s.control)) ∷ others) (λ f called ks mid e. e.0) r ([], refl, behind_does u f (item.Hop ∷ []) (λ called rest. ([], refl, refl)) s.frames))

    outcome_left : (at : Place) (s : State) → RunsAt u (item.LeaveOutcome at) s → IfGoes (HasKinds u) (leave_outcome u s)
    outcome_left at s r = goes_if_some (HasKinds u) s (function_at u s.function) _ (λ f is. goes_if_some (HasKinds u) s (s.names (result_object f)) _ (λ i is. passed s (item.LeaveOutcome at) (λ f called ks mid e. sym e) r))

    -- ---- turns

    acts : (i : Item) (s : State) → RunsAt u i s → IfGoes (HasKinds u) (act u i s).reply
    acts (item.Value e) s r = expanded s (item.Value e) (term_items u true e) (λ f called ks mid is. subst (λ ms. Through (kinds u f called) (term_items u true e) s.control ks ms) (sym is.1) (term_leads u f called true e ks is.0 s.control)) r
    acts (item.Unused e) s r = expanded s (item.Unused e) (term_items u false e) (λ f called ks mid is. subst (λ ms. Through (kinds u f called) (term_items u false e) s.control ks ms) (sym is.1) (term_leads u f called false e ks is.0 s.control)) r
    acts (item.Address l) s r = expanded s (item.Address l) (address_items u l) (λ f called ks mid is. subst (λ ms. Through (kinds u f called) (address_items u l) s.control ks ms) (sym is.1) (address_leads u f called l ks is.0 s.control)) r
    acts (item.Do at operation) s r = operating kept at operation s r
    acts (item.Truth b) s r = pushing s (item.Truth b) Number (truth b) tt (λ f called ks mid e. e) r
    acts item.Again s r = again_goes s s.values r
    acts item.Drop s r = dropping s r
    acts (item.Object at o offset) s r = pointing s (item.Object at o offset) o offset (λ f called ks mid e. e.1) r
    acts (item.Literal at n) s r = pointing_to_literal at s n r
    acts (item.Outcome at) s r = pointing_to_outcome at s r
    acts (item.OnObject at n how) s r = changing at s n how r
    acts (item.Choose at test held failed) s r = chosen at test held failed s s.values r
    acts (item.ReadLine at none some) s r = read at none some s s.values r
    acts (item.Statement statement) s r = rested s (item.Statement statement) (of_statement u (is_entry s.frames) statement) (λ f called ks mid e. (e.1, statement_through u f called (is_entry s.frames) statement s.control e.0)) r
    acts (item.WhileIteration c statement) s r = rested s (item.WhileIteration c statement) (while_iteration u c statement) (λ f called ks mid e. (e.1, while_through u f called c statement s.control e.0)) r
    acts (item.DoIteration statement c) s r = rested s (item.DoIteration statement c) (do_iteration u statement c) (λ f called ks mid e. (e.1, do_through u f called c statement s.control e.0)) r
    acts (item.ForIteration c clause statement) s r = rested s (item.ForIteration c clause statement) (for_iteration u c clause statement) (λ f called ks mid e. (e.1, for_through u f called c clause statement s.control e.0)) r
    acts item.IterationEnd s r = passed s item.IterationEnd (λ f called ks mid e. e.0 ∙ sym e.1) r
    acts item.LoopEnd s r = passed s item.LoopEnd (λ f called ks mid e. e.0 ∙ sym e.1) r
    acts (item.Select at o labels statement) s r = selected at o labels statement s s.values r
    acts (item.Enters objects) s r = entering s objects r
    acts (item.Leaves objects) s r = leaving s objects r
    acts item.Hop s r = passed s item.Hop (λ f called ks mid e. sym e) r
    acts (item.GoTo n) s r = goes_to s n r
    acts item.BreakOut s r = jumping s item.BreakOut (past_loop s.control) (λ f called ks mid left e does. (e.1.0, does_behind_loop u f called s.control mid left e.0 does)) r
    acts item.NextIteration s r = jumping s item.NextIteration (past_iteration s.control) (λ f called ks mid left e does. (e.1.0, does_behind_turn u f called s.control mid left e.0 does)) r
    acts item.LeaveFunction s r = returning s r
    acts item.EndBody s r = ending s r
    acts (item.Invoke at g count used) s r = invoked s at g count used r
    acts (item.Bind at n depth) s r = bound at s n depth r
    acts (item.LeaveOutcome at) s r = outcome_left at s r

    returned_to : (s : State) (frames : List Frame) → Runs u s.function [] frames s.values → IfGoes (HasKinds u) (return_to u s frames).reply
    returned_to s [] r = tt
    returned_to s (c ∷ cs) r = back u s.function c cs s.values r

    turned_by : (s : State) (items : List Item) → RunsBy u items s → IfGoes (HasKinds u) (turn_by u s items).reply
    turned_by s [] r = returned_to s s.frames r
    turned_by s (i ∷ items) r = acts i (record s { control = items }) r

    pub turn_keeps : (s : State) → HasKinds u s → IfGoes (HasKinds u) (turn u s).reply
    turn_keeps s r = turned_by (record s { world = unviolated s.world }) s.control r
