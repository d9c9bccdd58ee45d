-- A turn of the source is no piece or one of the templates, and the marks before it.
use Rattle.std.proofs.Common.{◌≡◌, ◌<◌, ℕ, zero, suc, ◌+◌, ℤ, Bool, true, false, not, cond, List, [], ◌∷◌, ◌++◌, length, Option, Some, None, refl, arith, ap, sym, subst, ◌∙◌}
use Rattle.std.proofs.lemmas.List.{append-nil}
use Rattle.cc_base.specs.declared.diagnostics.Place.{Place}
use Rattle.cc_base.specs.declared.diagnostics.Rule.{Rule}
use Rattle.c_layout.specs.CheckedTrees.{StatementTree}
use Rattle.c_layout.specs.declared.checked_tree.checked_statements.CaseLabel.{CaseLabel}
use Rattle.c_layout.specs.declared.library_functions.LibFn.TheVariants.{Fgets}
use Rattle.cfg.specs.declared.flow_edges.Test.{Test}
use Rattle.lower_templates.specs.Worklist.Acts as act
use Rattle.lower_templates.specs.Worklist.Pieces.{PieceView, ExitView, DoIfUsed, End, Mark, When, NoLine, Line}
use Rattle.lower_templates.specs.Worklist.TermKinds.{scalar_of}
use Rattle.lower_functions.specs.Functions.Functions.{local_type}
use Rattle.lower_expressions.specs.Calls.{result_temp}
use Rattle.lower_conditions.specs.declared.branch_tests.NamedObject.{NamedObject}
use Rattle.memory_model.specs.Memory.Instances.{Memory}
use Rattle.memory_model.specs.Memory.Labels.{no_labels}
use Rattle.memory_model.specs.Memory.Scalars.{Scalar, integer, pointer, is_false}
use Rattle.memory_model.specs.Effects.IntegerEffects.{truth}
use Rattle.memory_model.specs.Effects.Operands.{with_number}
use Rattle.memory_model.specs.Effects.LibraryCalls.{fgets, with_result}
use Rattle.memory_model.specs.Effects.NumberedTables.{put_at}
use Rattle.memory_model.specs.Effects.UnitStarts.{start_world}
use Rattle.memory_model.specs.Effects.Worlds.{World, Ended, Reply, goes, stops, behind, Violation}
use Rattle.semantics.specs.SourceMachine.Items as item
use Rattle.semantics.specs.SourceMachine.Items.{Item, Items, listed, NamedTest}
use Rattle.semantics.specs.SourceMachine.Scopes.{jump, leap_in, past_loop, past_iteration, all_of, open_scopes}
use Rattle.semantics.specs.SourceMachine.LabelSearch as labels
use Rattle.semantics.specs.SourceMachine.LabelSearch.{Sought, case_of, from_label}
use Rattle.semantics.specs.SourceMachine.TermItems.{address_items}
use Rattle.semantics.specs.SourceMachine.ConditionItems.{term_items}
use Rattle.semantics.specs.SourceMachine.StatementItems.{of_statement, while_iteration, do_iteration, for_iteration}
use Rattle.semantics.specs.SourceMachine.SourceStates as states
use Rattle.semantics.specs.SourceMachine.SourceStates.{Frame, State, function_at, first_do}
use Rattle.semantics.specs.SourceMachine.ObjectSteps as steps
use Rattle.semantics.specs.SourceMachine.CallSteps.{behind_body}
use Rattle.semantics.specs.SourceMachine.BranchSteps as branch
use Rattle.semantics.specs.SourceMachine.SourceSteps as turns
use Rattle.semantics.specs.SourceMachine.SourceRuns as source
use Rattle.semantics.specs.SourceMachine.SourceRuns.{SourceRun, Run, body_of}
use Rattle.semantics.specs.SourceMachine.Operations as op
use Rattle.semantics.specs.SourceMachine.Operations.{pushing_result}
use Rattle.semantics.specs.CfgMachine.FlowStates.{and_value, values_of}
use Rattle.semantics.specs.TemplateMachine.TemplateStates as template
use Rattle.semantics.specs.TemplateMachine.TemplateStates.{Templates, TemplateState, TemplateRun}
use Rattle.semantics.specs.TemplateMachine.TemplateActs as template_acts
use Rattle.semantics.specs.TemplateMachine.TemplateExits as exits
use Rattle.semantics.specs.TemplateMachine.TemplateSteps as runs
use Rattle.semantics.specs.TemplateMachine.TemplateSteps.{template_begin, steps_from}
use Rattle.simulation_terms.specs.Instructions.Acts as acts
use Rattle.simulation_terms.specs.Instructions.Acts.{Holds, IsActBehind, temps_from, behind_call}
use Rattle.simulation_terms.proofs.instructions.HeldValues.{holds_put}
use Rattle.simulation_terms.proofs.instructions.OperationsAgree.{agree, stores_agree, copies_agree}
use Rattle.simulation_terms.proofs.instructions.CallsAgree.{calls_agree}
use Rattle.simulation_terms.specs.SimulationRelation.Activations.{Activation, templates_of, activation, entry_of, of_entry}
use Rattle.simulation_terms.specs.SimulationRelation.Simulates as simulates
use Rattle.simulation_terms.specs.SimulationRelation.Simulates.{pieces, own, Leads, SameTest, IsEdge, Selected, Simulates, Reached, AllSimulate, at_place}
use Rattle.simulation_terms.specs.SmallSteps.Alike as alike
use Rattle.simulation_terms.specs.SmallSteps.Alike.{Lined, Waits, Related, Alike, Next, Agree, moves_next, rest_of}
use Rattle.simulation_terms.proofs.simulation_relation.FewerTurns.{less}
use Rattle.simulation_terms.proofs.small_steps.ValuesBelow.{performed_above, copied_above, library_above}
use Rattle.simulation_terms.proofs.small_steps.CallsAlike.{wait_less, no_callers, parted_at, called, done_if_used, returned}
use Rattle.simulation_terms.proofs.small_steps.StepsAlike.{Below, first_then, one_piece, some_left, starts, lined, src, std, stay, ran, halted, operated, stored, pointed_to, pointed_to_literal, changed_alike, entered_alike, left_alike, outcome_pointed_to, outcome_entered, outcome_left, bound}
use Rattle.simulation_terms.proofs.small_steps.TestsAlike as testing
use Rattle.simulation_terms.proofs.small_steps.TestsAlike.{SameTesting, held_alike, failed_alike, cases_alike}

no_value : (n : ℕ) → 0 ≡ suc n → ⊥
no_value n e = omega (arith, e)

one_less : (m n : ℕ) → suc m ≡ suc n → m ≡ n
one_less m n e = omega (arith, e)

three_less : (m n : ℕ) → suc (suc (suc m)) ≡ suc (suc (suc n)) → m ≡ n
three_less m n e = omega (arith, e)

module _ (t : Activation) (n : ℕ) (under : Below t n) (all : AllSimulate (templates_of t)) (names : ℕ → Option ℕ) (memory : Memory) (draws : List ℤ) (found : List Violation) (count : ℕ) (old : List Rule) where
  abbrev u : Templates
  u = templates_of t

  -- where a turn begins, and where the pieces stand
  abbrev before : List Item → List Scalar → SourceRun
  before items vs = source.running (record (src t n under names items vs memory draws) { world = record { memory = memory; draws = draws; violated = old } }) found count

  abbrev From : List Item → List Scalar → (ℕ → Option Scalar) → List PieceView → List Rule → List Violation → Type 0
  From items vs temps ps new also = Next u n (before items vs) (source.turned_on found count (turns.turn_by t.unit (src t n under names items vs memory draws) items)) (template.running (std t n under names ps temps memory draws new) also)

  abbrev Start : List Item → List Scalar → (ℕ → Option Scalar) → List PieceView → List Rule → List Violation → Type 0
  Start items vs temps ps new also = Alike u n (before items vs) (template.running (std t n under names ps temps memory draws new) also)

  -- ---- edges

  abbrev put_by : Option (ℕ × ℤ) → (ℕ → Option Scalar) → ℕ → Option Scalar
  put_by None temps = temps
  put_by (Some p) temps = put_at temps p.0 (integer p.1 no_labels)

  -- what follows on an edge
  edge_lined : (d first : ℕ) (all go : List Item) (puts : Option (ℕ × ℤ)) (vs : List Scalar) (temps : ℕ → Option Scalar) (there : List PieceView) → IsEdge d all puts first go → Simulates t n first go there → Holds vs temps → length vs ≡ d → Lined t n all vs (put_by puts temps) there
  edge_lined _ _ _ _ _ vs temps there (simulates.plain d items) f holds e = lined t n under d items vs temps there f holds e
  edge_lined _ _ _ _ _ vs temps there (simulates.truth d b items) f holds e =
      alike.put b items vs (put_at temps d (truth b)) there (subst (λ k. Simulates t n (suc k) items there) (sym e) f) (subst (λ k. Holds (truth b ∷ vs) (put_at temps k (truth b))) e (holds_put (truth b) vs temps holds))

  -- behind a test the source goes on with items, and the templates behind a label
  taken : (at : Place) (also : List Violation) (items chosen : List Item) (vs : List Scalar) (temps : ℕ → Option Scalar) (ps there : List PieceView) (l : ℕ) (puts : Option (ℕ × ℤ)) (one : Reply State) (other : Reply TemplateState) → found ≡ also → Leads t l there → Lined t n (chosen ++ items) vs (put_by puts temps) there → SameTesting (src t n under names items vs memory draws) (std t n under names ps temps memory draws []) one other
      → Alike u n (source.run_by found count (Some at) (behind one (λ s w. steps.on (first_do chosen s)))) (runs.run_by also (Some at) (behind (behind other (λ s w. template.on (exits.with_put puts s))) (λ s w. exits.at_label u s l)))
  taken at also items chosen vs temps ps there l None _ _ same to go (testing.both_go w) =
      subst (λ o. Alike u n (source.run_by found count (Some at) (steps.on (first_do chosen (record (src t n under names items vs memory draws) { world = w })))) (runs.run_by also (Some at) (template.if_some (record (std t n under names ps temps memory draws []) { world = w }) o (λ rest. template.on (template.going_on (record (std t n under names ps temps memory draws []) { world = w }) rest))))) (sym to)
      (ran t n under names memory draws found also count same at (chosen ++ items) vs temps there names w go)
  taken at also items chosen vs temps ps there l (Some p) _ _ same to go (testing.both_go w) =
      let others = put_at temps p.0 (integer p.1 no_labels) in
      subst (λ o. Alike u n (source.run_by found count (Some at) (steps.on (first_do chosen (record (src t n under names items vs memory draws) { world = w })))) (runs.run_by also (Some at) (template.if_some (record (std t n under names ps others memory draws []) { world = w }) o (λ rest. template.on (template.going_on (record (std t n under names ps others memory draws []) { world = w }) rest))))) (sym to)
      (ran t n under names memory draws found also count same at (chosen ++ items) vs others there names w go)
  taken at also items chosen vs temps ps there l puts _ _ same to go (testing.both_stop why w) = halted t n under names memory draws found also count same at why w

  chosen : (at : Place) (also : List Violation) (hit miss : ℕ) (test : Option NamedTest) (if_held if_failed : Option Test) (yes_puts no_puts : Option (ℕ × ℤ)) (held failed : Items) (items : List Item) (vs : List Scalar) (temps : ℕ → Option Scalar) (ps on_yes on_no : List PieceView) (b : Bool) → found ≡ also → SameTest t test if_held if_failed → Leads t hit on_yes → Leads t miss on_no
      → Lined t n (listed held ++ items) vs (put_by yes_puts temps) on_yes
      → Lined t n (listed failed ++ items) vs (put_by no_puts temps) on_no
      → Alike u n (source.run_by found count (Some at) (branch.choose_by t.unit test b held failed (src t n under names items vs memory draws)))
      (runs.run_by also (Some at) (exits.along u (std t n under names ps temps memory draws []) (cond b (Some (record { to = hit; taken = When true if_held yes_puts })) (cond (not b) (Some (record { to = miss; taken = When false if_failed no_puts })) None))))
  chosen at also hit miss test if_held if_failed yes_puts no_puts held failed items vs temps ps on_yes on_no true same tests to_yes to_no go stay_on =
      taken at also items (listed held) vs temps ps on_yes hit yes_puts _ _ same to_yes go (held_alike t (src t n under names items vs memory draws) (std t n under names ps temps memory draws []) refl refl test if_held if_failed refl tests)
  chosen at also hit miss test if_held if_failed yes_puts no_puts held failed items vs temps ps on_yes on_no false same tests to_yes to_no go stay_on =
      taken at also items (listed failed) vs temps ps on_no miss no_puts _ _ same to_no stay_on (failed_alike t (src t n under names items vs memory draws) (std t n under names ps temps memory draws []) refl refl test if_held if_failed refl tests)

  -- ---- switches

  -- behind a case label and its edge
  landed : (at : Place) (also : List Violation) (body : StatementTree) (sought : Sought) (items to : List Item) (vs : List Scalar) (temps : ℕ → Option Scalar) (ps there : List PieceView) (l : ℕ) (one : Reply State) (other : Reply TemplateState) → found ≡ also → branch.landing sought (labels.found t.unit sought body items) items ≡ Some to → Leads t l there → Lined t n (leap_in items to) vs temps there → SameTesting (src t n under names items vs memory draws) (std t n under names ps temps memory draws []) one other
      → Alike u n (source.run_by found count (Some at) (behind one (λ s w. branch.land t.unit body sought s))) (runs.run_by also (Some at) (behind other (λ s w. exits.at_label u s l)))
  landed at also body sought items to vs temps ps there l _ _ same lands leads go (testing.both_go w) =
      let s : State = record (src t n under names items vs memory draws) { world = w } in
      let r : TemplateState = record (std t n under names ps temps memory draws []) { world = w } in
      subst (λ o. Alike u n (source.run_by found count (Some at) (states.if_some s o (λ to. steps.on (record s { control = leap_in s.control to })))) (runs.run_by also (Some at) (exits.at_label u r l))) (sym lands)
      (subst (λ o. Alike u n (source.run_by found count (Some at) (steps.on (record s { control = leap_in items to }))) (runs.run_by also (Some at) (template.if_some r o (λ rest. template.on (template.going_on r rest))))) (sym leads)
      (ran t n under names memory draws found also count same at (leap_in items to) vs temps there names w go))
  landed at also body sought items to vs temps ps there l _ _ same lands leads go (testing.both_stop why w) = halted t n under names memory draws found also count same at why w

  -- a value that is switched on
  selected : (at : Place) (also : List Violation) (object : Option NamedObject) (cases : List CaseLabel) (body : StatementTree) (items : List Item) (out : List ExitView) (v : Scalar) (vs : List Scalar) (temps : ℕ → Option Scalar) (ps : List PieceView) (arms : (value : ℤ) → Selected t object cases body items out value) → found ≡ also → ((value : ℤ) → Lined t n (leap_in items (arms value).to) vs temps (arms value).there)
      → Alike u n (source.run_by found count (Some at) (branch.select t.unit object cases body (src t n under names items (v ∷ vs) memory draws) (v ∷ (vs ++ under.values)))) (runs.run_by also (Some at) (with_number v (std t n under names ps temps memory draws []).world (λ k marks w. exits.on_exit u (std t n under names ps temps memory draws []) out v)))
  selected at also object cases body items out (integer value marks) vs temps ps arms same go =
      let x = arms value in
      let r = std t n under names ps temps memory draws [] in
      let l = case_of cases 0 value in
      subst (λ e. Alike u n (source.run_by found count (Some at) (branch.select_label t.unit object body l value (src t n under names items vs memory draws))) (runs.run_by also (Some at) (exits.along u r e))) (sym (x.takes marks))
      (landed at also body l items x.to vs temps ps x.there x.label _ _ same x.lands x.leads (go value) (cases_alike t (src t n under names items vs memory draws) r refl refl object value l x.way refl x.same))
  selected at also object cases body items out (pointer p) vs temps ps arms same go = halted t n under names memory draws found also count same at _ _

  -- ---- lines that are read

  -- behind a label, in a world
  led : (at : Place) (also : List Violation) (items : List Item) (vs : List Scalar) (temps : ℕ → Option Scalar) (ps there : List PieceView) (l : ℕ) (w : World) → found ≡ also → Leads t l there → Lined t n items vs temps there
      → Alike u n (source.run_by found count (Some at) (steps.on (record (src t n under names items vs memory draws) { world = w }))) (runs.run_by also (Some at) (exits.at_label u (record (std t n under names ps temps memory draws []) { world = w }) l))
  led at also items vs temps ps there l w same to go =
      let r : TemplateState = record (std t n under names ps temps memory draws []) { world = w } in
      subst (λ o. Alike u n (source.run_by found count (Some at) (steps.on (record (src t n under names items vs memory draws) { world = w }))) (runs.run_by also (Some at) (template.if_some r o (λ rest. template.on (template.going_on r rest))))) (sym to)
      (ran t n under names memory draws found also count same at items vs temps there names w go)

  line_chosen : (at : Place) (also : List Violation) (none some : ℕ) (unread read : Items) (items : List Item) (vs : List Scalar) (temps : ℕ → Option Scalar) (ps on_none on_some : List PieceView) (w : World) (b : Bool) → found ≡ also → Leads t none on_none → Leads t some on_some
      → Lined t n (listed unread ++ items) vs temps on_none
      → Lined t n (listed read ++ items) vs temps on_some
      → Alike u n (source.run_by found count (Some at) (steps.on (first_do (listed (cond b unread read)) (record (src t n under names items vs memory draws) { world = w }))))
      (runs.run_by also (Some at) (exits.along u (record (std t n under names ps temps memory draws []) { world = w }) (cond b (Some (record { to = none; taken = NoLine })) (cond (not b) (Some (record { to = some; taken = Line })) None))))
  line_chosen at also none some unread read items vs temps ps on_none on_some w true same to_none to_some f g = led at also (listed unread ++ items) vs temps ps on_none none w same to_none f
  line_chosen at also none some unread read items vs temps ps on_none on_some w false same to_none to_some f g = led at also (listed read ++ items) vs temps ps on_some some w same to_some g

  line_read : (at : Place) (also : List Violation) (none some : ℕ) (unread read : Items) (items : List Item) (vs : List Scalar) (temps : ℕ → Option Scalar) (ps on_none on_some : List PieceView) (reply : Reply Scalar) → found ≡ also → Leads t none on_none → Leads t some on_some
      → Lined t n (listed unread ++ items) vs temps on_none
      → Lined t n (listed read ++ items) vs temps on_some
      → Alike u n (source.run_by found count (Some at) (behind reply (λ v w. steps.on (first_do (listed (cond (is_false v) unread read)) (record (src t n under names items vs memory draws) { world = w })))))
      (runs.run_by also (Some at) (behind reply (λ v w. exits.on_exit u (record (std t n under names ps temps memory draws []) { world = w }) (record { to = none; taken = NoLine } ∷ (record { to = some; taken = Line } ∷ [])) v)))
  line_read at also none some unread read items vs temps ps on_none on_some (goes v w) same to_none to_some f g = line_chosen at also none some unread read items vs temps ps on_none on_some w (is_false v) same to_none to_some f g
  line_read at also none some unread read items vs temps ps on_none on_some (stops why w) same to_none to_some f g = halted t n under names memory draws found also count same at why w

  value_led : (at : Place) (also : List Violation) (l : ℕ) (v : Scalar) (items : List Item) (vs : List Scalar) (temps : ℕ → Option Scalar) (ps there : List PieceView) (w : World) (b : Bool) → found ≡ also → Leads t l there → Lined t n items (v ∷ vs) temps there
      → Alike u n (source.run_by found count (Some at) (steps.on (record (src t n under names items (v ∷ vs) memory draws) { world = w })))
      (runs.run_by also (Some at) (exits.along u (record (std t n under names ps temps memory draws []) { world = w }) (cond b (Some (record { to = l; taken = NoLine })) (cond (not b) (Some (record { to = l; taken = Line })) None))))
  value_led at also l v items vs temps ps there w true same to go = led at also items (v ∷ vs) temps ps there l w same to go
  value_led at also l v items vs temps ps there w false same to go = led at also items (v ∷ vs) temps ps there l w same to go

  value_read : (at : Place) (also : List Violation) (l : ℕ) (items : List Item) (vs : List Scalar) (temps : ℕ → Option Scalar) (ps there : List PieceView) (reply : Reply Scalar) → found ≡ also → Leads t l there → Simulates t n (suc (length vs)) items there → Holds vs temps
      → Alike u n (source.run_by found count (Some at) (behind (pushing_result (vs ++ under.values) (with_result reply)) (λ vs w. steps.on (record (src t n under names items [] memory draws) { values = vs; world = w }))))
      (runs.run_by also (Some at) (behind reply (λ v w. exits.on_exit u (record (std t n under names ps (put_at temps (length vs) v) memory draws []) { world = w }) (record { to = l; taken = NoLine } ∷ (record { to = l; taken = Line } ∷ [])) v)))
  value_read at also l items vs temps ps there (goes v w) same to f holds = value_led at also l v items vs (put_at temps (length vs) v) ps there w (is_false v) same to (alike.plain items (v ∷ vs) (put_at temps (length vs) v) there f (holds_put v vs temps holds))
  value_read at also l items vs temps ps there (stops why w) same to f holds = halted t n under names memory draws found also count same at why w

  -- the three arguments
  three_there : (stream count_of text : Scalar) (vs : List Scalar) (temps : ℕ → Option Scalar) → Holds (stream ∷ (count_of ∷ (text ∷ vs))) temps → values_of temps (length vs ∷ (suc (length vs) ∷ (suc (suc (length vs)) ∷ []))) ≡ Some (text ∷ (count_of ∷ (stream ∷ [])))
  three_there stream count_of text vs temps holds =
      ap (λ o. and_value o (and_value (temps (suc (length vs))) (and_value (temps (suc (suc (length vs)))) (Some [])))) holds.1.1.0
      ∙ ap (λ o. and_value (Some text) (and_value o (and_value (temps (suc (suc (length vs)))) (Some [])))) holds.1.0
      ∙ ap (λ o. and_value (Some text) (and_value (Some count_of) (and_value o (Some [])))) holds.0

  -- ---- turns

  -- a piece that is no part of the turn comes before it
  passed : (items : List Item) (vs : List Scalar) (b : TemplateRun) (a : SourceRun) → (rest_of b ≡ [] → moves_next (before items vs) ≡ true) → Alike u n (before items vs) b → Next u n (before items vs) a (runs.next u b) → Next u n (before items vs) a b
  passed items vs b a some start later = record {
    steps = suc later.steps;
    both = later.both;
    between = first_then u n (before items vs) b later.steps start later.between;
    moved = λ none. absurd (no_step later.steps none);
    rests = λ no_move none. absurd (both_ways (some none) no_move);
  }
    where
      no_step : (k : ℕ) → suc k ≡ 0 → ⊥
      no_step k e = omega (arith, e)

      both_ways : moves_next (before items vs) ≡ true → moves_next (before items vs) ≡ false → ⊥
      both_ways one other = cc

  turn : (d : ℕ) (items : List Item) (vs : List Scalar) (temps : ℕ → Option Scalar) (ps : List PieceView) (new : List Rule) (also : List Violation) → Simulates t (suc n) d items ps → Holds vs temps → length vs ≡ d → found ≡ also → Start items vs temps ps new also → From items vs temps ps new also
  turn _ _ vs temps _ new also (simulates.by_mark _ d l items ps f) holds e same start =
      let later = turn d items vs temps ps [] (also ++ []) f holds e (same ∙ sym (append-nil also)) (starts t n under names items vs temps ps memory draws old [] found (also ++ []) count (lined t n under d items vs temps ps (less n d items ps f) holds e) (same ∙ sym (append-nil also))) in
      passed items vs (template.running (std t n under names (Mark l ∷ ps) temps memory draws new) also) _ (some_left _ _) start later
  turn _ _ vs temps _ new also (simulates.value _ d x items ps f) holds e same start = stay t n under _ refl names (term_items t.unit true x ++ items) vs temps ps memory draws new found also _ (lined t n under d (term_items t.unit true x ++ items) vs temps ps f holds e) same
  turn _ _ vs temps _ new also (simulates.unused _ d x items ps f) holds e same start = stay t n under _ refl names (term_items t.unit false x ++ items) vs temps ps memory draws new found also _ (lined t n under d (term_items t.unit false x ++ items) vs temps ps f holds e) same
  turn _ _ vs temps _ new also (simulates.address _ d l items ps f) holds e same start = stay t n under _ refl names (address_items t.unit l ++ items) vs temps ps memory draws new found also _ (lined t n under d (address_items t.unit l ++ items) vs temps ps f holds e) same
  turn _ _ vs temps _ new also (simulates.statement _ d i items ps f) holds e same start = stay t n under _ refl names (of_statement t.unit (of_entry t) i ++ items) vs temps ps memory draws new found also _ (lined t n under d (of_statement t.unit (of_entry t) i ++ items) vs temps ps f holds e) same
  turn _ _ vs temps _ new also (simulates.in_while _ d x body items ps f) holds e same start = stay t n under _ refl names (while_iteration t.unit x body ++ items) vs temps ps memory draws new found also _ (lined t n under d (while_iteration t.unit x body ++ items) vs temps ps f holds e) same
  turn _ _ vs temps _ new also (simulates.in_do _ d body x items ps f) holds e same start = stay t n under _ refl names (do_iteration t.unit body x ++ items) vs temps ps memory draws new found also _ (lined t n under d (do_iteration t.unit body x ++ items) vs temps ps f holds e) same
  turn _ _ vs temps _ new also (simulates.in_for _ d x step body items ps f) holds e same start = stay t n under _ refl names (for_iteration t.unit x step body ++ items) vs temps ps memory draws new found also _ (lined t n under d (for_iteration t.unit x step body ++ items) vs temps ps f holds e) same
  turn _ _ vs temps _ new also (simulates.turn_end _ d items ps f) holds e same start = stay t n under _ refl names (items) vs temps ps memory draws new found also _ (lined t n under d (items) vs temps ps f holds e) same
  turn _ _ vs temps _ new also (simulates.loop_end _ d items ps f) holds e same start = stay t n under _ refl names (items) vs temps ps memory draws new found also _ (lined t n under d (items) vs temps ps f holds e) same
  turn _ _ vs temps _ new also (simulates.break_out _ d items ps f) holds e same start = stay t n under _ refl names (jump items (past_loop items)) vs temps ps memory draws new found also _ (lined t n under d (jump items (past_loop items)) vs temps ps f holds e) same
  turn _ _ vs temps _ new also (simulates.next_turn _ d items ps f) holds e same start = stay t n under _ refl names (jump items (past_iteration items)) vs temps ps memory draws new found also _ (lined t n under d (jump items (past_iteration items)) vs temps ps f holds e) same
  turn _ _ vs temps _ new also (simulates.go_to _ d l f items to ps is to_label go) holds e same start =
      let s = src t n under names items vs memory draws in
      subst (λ o. Next u n (before (item.GoTo l ∷ items) vs) (source.turned_on found count (turns.quiet (states.if_some s o (λ f. states.if_some s (from_label t.unit f l) (λ to. steps.on (turns.jump_to s to)))))) (template.running (std t n under names ps temps memory draws new) also)) (sym is)
      (subst (λ o. Next u n (before (item.GoTo l ∷ items) vs) (source.turned_on found count (turns.quiet (states.if_some s o (λ to. steps.on (turns.jump_to s to))))) (template.running (std t n under names ps temps memory draws new) also)) (sym to_label)
      (stay t n under _ refl names (jump items to) vs temps ps memory draws new found also _ (lined t n under d (jump items to) vs temps ps go holds e) same))
  turn _ _ vs temps _ new also (simulates.leave_function _ d f items ps is go) holds e same start =
      let s = src t n under names items vs memory draws in
      let left = item.Leaves (all_of (open_scopes items)) ∷ behind_body f (item.Hop ∷ []) t.callers in
      subst (λ o. Next u n (before (item.LeaveFunction ∷ items) vs) (source.turned_on found count (turns.quiet (states.if_some s o (λ f. steps.on (record s { control = item.Leaves (all_of (open_scopes items)) ∷ behind_body f (item.Hop ∷ []) t.callers }))))) (template.running (std t n under names ps temps memory draws new) also)) (sym is)
      (stay t n under _ refl names left vs temps ps memory draws new found also _ (lined t n under d left vs temps ps go holds e) same)
  turn _ _ vs temps _ new also (simulates.end_body _ d f items ps is go) holds e same start =
      let s = src t n under names items vs memory draws in
      subst (λ o. Next u n (before (item.EndBody ∷ items) vs) (source.turned_on found count (turns.quiet (states.if_some s o (λ f. steps.on (record s { control = behind_body f [] t.callers }))))) (template.running (std t n under names ps temps memory draws new) also)) (sym is)
      (stay t n under _ refl names (behind_body f [] t.callers) vs temps ps memory draws new found also _ (lined t n under d (behind_body f [] t.callers) vs temps ps go holds e) same)
  turn _ _ vs temps _ new also (simulates.does _ d next at operation a items ps is go) holds e same start =
      one_piece u n _ _ _ (some_left _ _) start
      (subst (λ reply. Alike u n (source.run_by found count (Some at) (behind reply (λ xs w. steps.on (record (src t n under names items [] memory draws) { values = xs; world = w })))) (runs.run_by also (Some at) (template_acts.perform u a (std t n under names ps temps memory draws [])))) (sym (performed_above under.values t.unit operation a d next vs (record { memory = memory; draws = draws; violated = [] }) is e))
      (operated t n under names memory draws found also count same at next items vs temps ps _ _ (agree u operation a d next vs (std t n under names ps temps memory draws []) is holds e) go))
  turn _ _ [] temps _ new also (simulates.stores _ d at kind items ps go) holds e same start = absurd (no_value (suc d) e)
  turn _ _ (v ∷ []) temps _ new also (simulates.stores _ d at kind items ps go) holds e same start = absurd (no_value d (one_less 0 (suc d) e))
  turn _ _ (v ∷ (p ∷ vs)) temps _ new also (simulates.stores _ d at kind items ps go) holds e same start =
      let is = one_less (length vs) d (one_less (suc (length vs)) (suc d) e) in
      subst (λ k. Start (item.Do at (op.Store kind) ∷ (item.Drop ∷ items)) (v ∷ (p ∷ vs)) temps (at_place at (act.Store k (suc k) kind None) ∷ ps) new also → From (item.Do at (op.Store kind) ∷ (item.Drop ∷ items)) (v ∷ (p ∷ vs)) temps (at_place at (act.Store k (suc k) kind None) ∷ ps) new also) is
      (λ start. one_piece u n _ _ _ (some_left _ _) start
      (subst (λ reply. Alike u n (source.run_by found count (Some at) (behind reply (λ xs w. steps.on (record (src t n under names (item.Drop ∷ items) [] memory draws) { values = xs; world = w })))) (runs.run_by also (Some at) (template_acts.perform u (act.Store (length vs) (suc (length vs)) kind None) (std t n under names ps temps memory draws [])))) (sym (performed_above under.values t.unit (op.Store kind) _ _ _ (v ∷ (p ∷ vs)) (record { memory = memory; draws = draws; violated = [] }) (acts.store (length vs) kind) refl))
      (stored t n under names memory draws found also count same at items vs (v ∷ (p ∷ vs)) temps ps _ _ (stores_agree u kind v p vs (std t n under names ps temps memory draws []) holds) (subst (λ k. Simulates t n k items ps) (sym is) go) holds.1.1))) start
  turn _ _ [] temps _ new also (simulates.drop _ d items ps go) holds e same start = absurd (no_value d e)
  turn _ _ (v ∷ vs) temps _ new also (simulates.drop _ d items ps go) holds e same start = stay t n under _ refl names items vs temps ps memory draws new found also _ (lined t n under d items vs temps ps go holds.1 (one_less (length vs) d e)) same
  turn _ _ vs temps _ new also (simulates.object _ d base at o offset items ps named go) holds e same start =
      subst (λ k. Start (item.Object at o offset ∷ items) vs temps (at_place at (act.Address k base offset) ∷ ps) new also → From (item.Object at o offset ∷ items) vs temps (at_place at (act.Address k base offset) ∷ ps) new also) e
      (λ start. one_piece u n _ _ _ (some_left _ _) start (pointed_to t n under names memory draws found also count same at items vs temps ps base offset o named (subst (λ k. Simulates t n (suc k) items ps) (sym e) go) holds)) start
  turn _ _ vs temps _ new also (simulates.on_object _ d base local at how items ps named go) holds e same start =
      one_piece u n _ _ _ (some_left _ _) start (changed_alike t n under names memory draws found also count same at items vs temps ps base local how named (lined t n under d items vs temps ps go holds e))
  turn _ _ vs temps _ new also (simulates.enters_none _ d items ps f) holds e same start = stay t n under _ refl names items vs temps ps memory draws new found also _ (lined t n under d items vs temps ps f holds e) same
  turn _ _ vs temps _ new also (simulates.enters _ d base local locals items ps named go) holds e same start =
      one_piece u n _ _ _ (some_left _ _) start (entered_alike t n under names memory draws found also count same (own t) (item.Enters locals ∷ items) vs temps ps base local named (lined t n under d (item.Enters locals ∷ items) vs temps ps go holds e))
  turn _ _ vs temps _ new also (simulates.leaves_none _ d items ps f) holds e same start = stay t n under _ refl names items vs temps ps memory draws new found also _ (lined t n under d items vs temps ps f holds e) same
  turn _ _ vs temps _ new also (simulates.leaves _ d base local locals items ps named go) holds e same start =
      one_piece u n _ _ _ (some_left _ _) start (left_alike t n under names memory draws found also count same (own t) (item.Leaves locals ∷ items) vs temps ps base local named (lined t n under d (item.Leaves locals ∷ items) vs temps ps go holds e))
  turn _ _ [] temps _ new also (simulates.choose _ d hit miss first second at kind test if_held if_failed yes_puts no_puts held failed items go stay_on ps on_yes on_no tests to_yes to_no is_go is_stay f g) holds e same start = absurd (no_value d e)
  turn _ _ (v ∷ vs) temps _ new also (simulates.choose _ d hit miss first second at kind test if_held if_failed yes_puts no_puts held failed items go stay_on ps on_yes on_no tests to_yes to_no is_go is_stay f g) holds e same start =
      let is = one_less (length vs) d e in
      let r = std t n under names ps temps memory draws [] in
      let out = record { to = hit; taken = When true if_held yes_puts } ∷ (record { to = miss; taken = When false if_failed no_puts } ∷ []) in
      let here : temps d ≡ Some v = subst (λ k. temps k ≡ Some v) is holds.0 in
      one_piece u n _ _ _ (some_left _ _) start
      (subst (λ o. Alike u n (source.run_by found count (Some at) (branch.choose_by t.unit test (not (is_false v)) held failed (src t n under names items vs memory draws))) (runs.run_by also (Some at) (template.if_some r o (exits.on_exit u r out)))) (sym here)
      (chosen at also hit miss test if_held if_failed yes_puts no_puts held failed items vs temps ps on_yes on_no (not (is_false v)) same tests to_yes to_no
      (edge_lined d first (listed held ++ items) go yes_puts vs temps on_yes is_go f holds.1 is) (edge_lined d second (listed failed ++ items) stay_on no_puts vs temps on_no is_stay g holds.1 is)))
  turn _ _ [] temps _ new also (simulates.read_line _ d none some at unread read items ps on_none on_some to_none to_some f g) holds e same start = absurd (no_value (suc (suc d)) e)
  turn _ _ (a ∷ []) temps _ new also (simulates.read_line _ d none some at unread read items ps on_none on_some to_none to_some f g) holds e same start = absurd (no_value (suc d) (one_less 0 (suc (suc d)) e))
  turn _ _ (a ∷ (b ∷ [])) temps _ new also (simulates.read_line _ d none some at unread read items ps on_none on_some to_none to_some f g) holds e same start = absurd (no_value d (one_less 0 (suc d) (one_less 1 (suc (suc d)) e)))
  turn _ _ (a ∷ (b ∷ (c ∷ vs))) temps _ new also (simulates.read_line _ d none some at unread read items ps on_none on_some to_none to_some f g) holds e same start =
      let is = three_less (length vs) d e in
      subst (λ k. Start (item.ReadLine at unread read ∷ items) (a ∷ (b ∷ (c ∷ vs))) temps (End (record { at = at; does = act.ReadLine None k (suc k) (suc (suc k)) }) (record { to = none; taken = NoLine } ∷ (record { to = some; taken = Line } ∷ [])) ∷ ps) new also → From (item.ReadLine at unread read ∷ items) (a ∷ (b ∷ (c ∷ vs))) temps (End (record { at = at; does = act.ReadLine None k (suc k) (suc (suc k)) }) (record { to = none; taken = NoLine } ∷ (record { to = some; taken = Line } ∷ [])) ∷ ps) new also) is
      (λ start. one_piece u n _ _ _ (some_left _ _) start
      (subst (λ o. Alike u n (source.run_by found count (Some at) (branch.read_line t.unit unread read (src t n under names items (a ∷ (b ∷ (c ∷ vs))) memory draws) (a ∷ (b ∷ (c ∷ (vs ++ under.values)))))) (runs.run_by also (Some at) (template.if_some (std t n under names ps temps memory draws []) o (exits.line_read u (record { to = none; taken = NoLine } ∷ (record { to = some; taken = Line } ∷ [])) None (std t n under names ps temps memory draws []))))) (sym (three_there a b c vs temps holds))
      (line_read at also none some unread read items vs temps ps on_none on_some (fgets t.unit.model (c ∷ (b ∷ (a ∷ []))) (record { memory = memory; draws = draws; violated = [] })) same to_none to_some (lined t n under d (listed unread ++ items) vs temps on_none f holds.1.1.1 is) (lined t n under d (listed read ++ items) vs temps on_some g holds.1.1.1 is)))) start
  turn _ _ [] temps _ new also (simulates.read_value _ d l at target items ps there to f) holds e same start = absurd (no_value (suc (suc d)) e)
  turn _ _ (a ∷ []) temps _ new also (simulates.read_value _ d l at target items ps there to f) holds e same start = absurd (no_value (suc d) (one_less 0 (suc (suc d)) e))
  turn _ _ (a ∷ (b ∷ [])) temps _ new also (simulates.read_value _ d l at target items ps there to f) holds e same start = absurd (no_value d (one_less 0 (suc d) (one_less 1 (suc (suc d)) e)))
  turn _ _ (a ∷ (b ∷ (c ∷ vs))) temps _ new also (simulates.read_value _ d l at target items ps there to f) holds e same start =
      let is = three_less (length vs) d e in
      let out = record { to = l; taken = NoLine } ∷ (record { to = l; taken = Line } ∷ []) in
      subst (λ k. Start (item.Do at (op.Library Fgets 3 target) ∷ items) (a ∷ (b ∷ (c ∷ vs))) temps (End (record { at = at; does = act.ReadLine (Some k) k (suc k) (suc (suc k)) }) out ∷ ps) new also → From (item.Do at (op.Library Fgets 3 target) ∷ items) (a ∷ (b ∷ (c ∷ vs))) temps (End (record { at = at; does = act.ReadLine (Some k) k (suc k) (suc (suc k)) }) out ∷ ps) new also) is
      (λ start. one_piece u n _ _ _ (some_left _ _) start
      (subst (λ o. Alike u n (source.run_by found count (Some at) (turns.operate t.unit (op.Library Fgets 3 target) (src t n under names items (a ∷ (b ∷ (c ∷ vs))) memory draws))) (runs.run_by also (Some at) (template.if_some (std t n under names ps temps memory draws []) o (exits.line_read u out (Some (length vs)) (std t n under names ps temps memory draws []))))) (sym (three_there a b c vs temps holds))
      (value_read at also l items vs temps ps there (fgets t.unit.model (c ∷ (b ∷ (a ∷ []))) (record { memory = memory; draws = draws; violated = [] })) same to (subst (λ k. Simulates t n (suc k) items there) (sym is) f) holds.1.1.1))) start
  turn _ _ [] temps _ new also (simulates.again _ d at operation a items ps is go) holds e same start = absurd (no_value d e)
  turn _ _ (v ∷ vs) temps _ new also (simulates.again _ d at operation a items ps is go) holds e same start =
      let less = sym (one_less (length vs) d e) in
      stay t n under _ refl names (item.Do at operation ∷ items) (v ∷ (v ∷ vs)) temps (at_place at a ∷ ps) memory draws new found also _ (alike.twice v at operation a items vs temps ps (subst (λ k. IsActBehind operation a k) less is) (subst (λ k. Simulates t n (suc (suc k)) items ps) less go) holds) same
  turn _ _ vs temps _ new also (simulates.calls_library _ d many at function target site items ps go) holds e same start =
      let a = act.Library (result_temp function d) function (temps_from d many) site (op.target_size t.unit target) in
      one_piece u n _ _ _ (some_left _ _) start
      (subst (λ reply. Alike u n (source.run_by found count (Some at) (behind reply (λ xs w. steps.on (record (src t n under names items [] memory draws) { values = xs; world = w })))) (runs.run_by also (Some at) (template_acts.perform u a (std t n under names ps temps memory draws [])))) (sym (library_above under.values t.unit function d many target vs (record { memory = memory; draws = draws; violated = [] }) e))
      (operated t n under names memory draws found also count same at (behind_call function d) items vs temps ps _ _ (calls_agree u function d many target site vs (std t n under names ps temps memory draws []) holds e) go))
  turn _ _ vs temps _ new also (simulates.literal _ d base i at items ps named go) holds e same start =
      subst (λ k. Start (item.Literal at i ∷ items) vs temps (at_place at (act.Address k base 0) ∷ ps) new also → From (item.Literal at i ∷ items) vs temps (at_place at (act.Address k base 0) ∷ ps) new also) e
      (λ start. one_piece u n _ _ _ (some_left _ _) start (pointed_to_literal t n under names memory draws found also count same at items vs temps ps base i named (subst (λ k. Simulates t n (suc k) items ps) (sym e) go) holds)) start
  turn _ _ [] temps _ new also (simulates.select _ d at kind object cases body items out ps arms go) holds e same start = absurd (no_value d e)
  turn _ _ (v ∷ vs) temps _ new also (simulates.select _ d at kind object cases body items out ps arms go) holds e same start =
      let is = one_less (length vs) d e in
      let r = std t n under names ps temps memory draws [] in
      let here : temps d ≡ Some v = subst (λ k. temps k ≡ Some v) is holds.0 in
      one_piece u n _ _ _ (some_left _ _) start
      (subst (λ o. Alike u n (source.run_by found count (Some at) (branch.select t.unit object cases body (src t n under names items (v ∷ vs) memory draws) (v ∷ (vs ++ under.values)))) (runs.run_by also (Some at) (template.if_some r o (λ v. with_number v r.world (λ k marks w. exits.on_exit u r out v))))) (sym here)
      (selected at also object cases body items out v vs temps ps arms same (λ value. lined t n under d (leap_in items (arms value).to) vs temps (arms value).there (go value) holds.1 is)))
  turn _ _ vs temps _ new also (simulates.hop _ d l items ps there to go) holds e same start =
      let r = std t n under names ps temps memory draws [] in
      one_piece u n _ _ _ (some_left _ _) start
      (subst (λ o. Alike u n (source.run_by found count (Some (own t)) (steps.on (src t n under names items vs memory draws))) (runs.run_by also (Some (own t)) (template.if_some r o (λ rest. template.on (template.going_on r rest))))) (sym to)
      (ran t n under names memory draws found also count same (own t) items vs temps there names (record { memory = memory; draws = draws; violated = [] }) (lined t n under d items vs temps there go holds e)))
  turn _ _ vs temps _ new also (simulates.finish _ d at ps entry) holds e same start =
      let s = src t n under names [] vs memory draws in
      subst (λ callers. Next u n (before [] vs) (source.turned_on found count (turns.return_to t.unit s callers)) (template.running (std t n under names (End (record { at = at; does = act.Stop }) [] ∷ ps) temps memory draws new) also)) (sym (no_callers t.callers entry))
      (one_piece u n _ _ _ (some_left _ _) start (alike.both_stopped Ended memory draws [] [] _ _ _ (ap (λ xs. xs ++ []) same)))
  turn _ _ vs temps _ new also (simulates.calls _ d g at used f items ps is stands go) holds e same start = called t n under all names memory draws found also count old new same g at used f items temps ps vs d f.parameters (parted_at vs d f.parameters e) refl is stands go holds start
  turn _ _ [] temps _ new also (simulates.binds _ d number depth at f items ps is where_it_is go) holds e same start = absurd (no_value d e)
  turn _ _ (p ∷ vs) temps _ new also (simulates.binds _ d number depth at f items ps is where_it_is go) holds e same start =
      let less = one_less (length vs) d e in
      subst (λ k. Start (item.Bind at number depth ∷ items) (p ∷ vs) temps (at_place at (act.Store k number (scalar_of (local_type f number)) None) ∷ ps) new also → From (item.Bind at number depth ∷ items) (p ∷ vs) temps (at_place at (act.Store k number (scalar_of (local_type f number)) None) ∷ ps) new also) less
      (λ start. one_piece u n _ _ _ (some_left _ _) start (bound t n under names memory draws found also count same at items p vs temps ps number depth f is (where_it_is ∙ sym less) (subst (λ k. Simulates t n k items ps) (sym less) go) holds)) start
  turn _ _ vs temps _ new also (simulates.enters_outcome _ d base f locals items ps is named go) holds e same start =
      one_piece u n _ _ _ (some_left _ _) start (outcome_entered t n under names memory draws found also count same (own t) (item.Enters locals ∷ items) vs temps ps base f is named (lined t n under d (item.Enters locals ∷ items) vs temps ps go holds e))
  turn _ _ vs temps _ new also (simulates.outcome _ d base at f items ps is named go) holds e same start =
      subst (λ k. Start (item.Outcome at ∷ items) vs temps (at_place at (act.Address k base 0) ∷ ps) new also → From (item.Outcome at ∷ items) vs temps (at_place at (act.Address k base 0) ∷ ps) new also) e
      (λ start. one_piece u n _ _ _ (some_left _ _) start (outcome_pointed_to t n under names memory draws found also count same at items vs temps ps base f is named (subst (λ k. Simulates t n (suc k) items ps) (sym e) go) holds)) start
  turn _ _ vs temps _ new also (simulates.leaves_outcome _ d base at place f items ps is named go) holds e same start =
      one_piece u n _ _ _ (some_left _ _) start (outcome_left t n under names memory draws found also count same at items vs temps ps base place f is named (lined t n under d items vs temps ps go holds e))
  turn _ _ vs temps _ new also (simulates.used_outcome _ d base caller callers place f items ps is used is_f named go) holds e same start =
      subst (λ k. Start (item.Outcome caller.at ∷ items) vs temps (DoIfUsed (record { at = place; does = act.Address k base 0 }) ∷ ps) new also → From (item.Outcome caller.at ∷ items) vs temps (DoIfUsed (record { at = place; does = act.Address k base 0 }) ∷ ps) new also) e
      (λ start. one_piece u n _ _ _ (some_left _ _) start
      (subst (λ x. Alike u n (source.run_by found count (Some caller.at) (steps.point_to_outcome t.unit (src t n under names items vs memory draws))) (runs.stepped_on also x)) (sym (done_if_used t n under caller callers is (act.Address (length vs) base 0) (std t n under names ps temps memory draws []) ∙ ap (λ b. cond b (runs.instruction caller.at (template_acts.perform u (act.Address (length vs) base 0) (std t n under names ps temps memory draws []))) (runs.quiet (std t n under names ps temps memory draws []))) used))
      (outcome_pointed_to t n under names memory draws found also count same caller.at items vs temps ps base f is_f named (subst (λ k. Simulates t n (suc k) items ps) (sym e) go) holds))) start
  turn _ _ vs temps _ new also (simulates.does_if_used _ d next caller callers place operation a items ps is used does go) holds e same start =
      one_piece u n _ _ _ (some_left _ _) start
      (subst (λ x. Alike u n (source.run_by found count (Some caller.at) (turns.operate t.unit operation (src t n under names items vs memory draws))) (runs.stepped_on also x)) (sym (done_if_used t n under caller callers is a (std t n under names ps temps memory draws []) ∙ ap (λ b. cond b (runs.instruction caller.at (template_acts.perform u a (std t n under names ps temps memory draws []))) (runs.quiet (std t n under names ps temps memory draws []))) used))
      (subst (λ reply. Alike u n (source.run_by found count (Some caller.at) (behind reply (λ xs w. steps.on (record (src t n under names items [] memory draws) { values = xs; world = w })))) (runs.run_by also (Some caller.at) (template_acts.perform u a (std t n under names ps temps memory draws [])))) (sym (performed_above under.values t.unit operation a d next vs (record { memory = memory; draws = draws; violated = [] }) does e))
      (operated t n under names memory draws found also count same caller.at next items vs temps ps _ _ (agree u operation a d next vs (std t n under names ps temps memory draws []) does holds e) go)))
  turn _ items vs temps _ new also (simulates.by_unused _ d caller callers i _ ps is unused f) holds e same start =
      let r = std t n under names ps temps memory draws [] in
      let skips : runs.if_used u i.does r under.waiting ≡ runs.quiet r = done_if_used t n under caller callers is i.does r ∙ ap (λ b. cond b (runs.instruction caller.at (template_acts.perform u i.does r)) (runs.quiet r)) unused in
      let there : runs.next u (template.running (std t n under names (DoIfUsed i ∷ ps) temps memory draws new) also) ≡ template.running r (also ++ []) = ap (λ x. runs.stepped_on also x) skips in
      let later = turn d items vs temps ps [] (also ++ []) f holds e (same ∙ sym (append-nil also)) (starts t n under names items vs temps ps memory draws old [] found (also ++ []) count (lined t n under d items vs temps ps (less n d items ps f) holds e) (same ∙ sym (append-nil also))) in
      passed items vs (template.running (std t n under names (DoIfUsed i ∷ ps) temps memory draws new) also) _ (some_left _ _) start (subst (λ b. Next u n (before items vs) (source.turned_on found count (turns.turn_by t.unit (src t n under names items vs memory draws) items)) b) (sym there) later)
  turn _ _ vs temps _ new also (simulates.goes_back _ caller callers is) holds e same start =
      returned u n t.function names memory draws found also count old new same t.callers under.values under.waiting under.waits caller callers is vs temps holds e start

-- ---- runs

module _ (t : Templates) (all : AllSimulate t) (n g : ℕ) (names : ℕ → Option ℕ) (memory : Memory) (draws : List ℤ) (found also : List Violation) (count : ℕ) (old new : List Rule) (callers : List Frame) (below : List Scalar) (waiting : List template.Frame) (reached : Reached t g) (waits : Waits t n callers below waiting) (same : found ≡ also) where
  abbrev here : Activation
  here = activation t g callers

  abbrev kept : Below here n
  kept = record { values = below; waiting = waiting; reached = reached; waits = waits }

  abbrev begins : List Item → List Scalar → SourceRun
  begins items vs = source.running (record (src here n kept names items vs memory draws) { world = record { memory = memory; draws = draws; violated = old } }) found count

  lined_turn : {items : List Item} {vs : List Scalar} {temps : ℕ → Option Scalar} {ps : List PieceView} → Lined here (suc n) items vs temps ps → Next t n (begins items vs) (source.turned_on found count (turns.turn_by t.unit (src here n kept names items vs memory draws) items)) (template.running (std here n kept names ps temps memory draws new) also)
  lined_turn (alike.plain items vs temps ps f holds) = turn here n kept all names memory draws found count old (length vs) items vs temps ps new also f holds refl same (starts here n kept names items vs temps ps memory draws old new found also count (alike.plain items vs temps ps (less n (length vs) items ps f) holds) same)
  lined_turn (alike.put b items vs temps ps f holds) = stay here n kept _ refl names items (truth b ∷ vs) temps ps memory draws new found also _ (alike.plain items (truth b ∷ vs) temps ps (less n _ items ps f) holds) same
  lined_turn (alike.twice v at operation does items vs temps ps is f holds) =
      one_piece t n _ _ _ (some_left _ _) (starts here n kept names (item.Do at operation ∷ items) (v ∷ (v ∷ vs)) temps (at_place at does ∷ ps) memory draws old new found also count (alike.twice v at operation does items vs temps ps is (less n _ items ps f) holds) same)
      (subst (λ reply. Alike t n (source.run_by found count (Some at) (behind reply (λ xs w. steps.on (record (src here n kept names items [] memory draws) { values = xs; world = w })))) (runs.run_by also (Some at) (template_acts.perform t does (std here n kept names ps temps memory draws [])))) (sym (copied_above below t.unit operation does v vs (record { memory = memory; draws = draws; violated = [] }) is))
      (operated here n kept names memory draws found also count same at (suc (suc (length vs))) items (v ∷ (v ∷ vs)) temps ps _ _ (copies_agree t operation does v vs (std here n kept names ps temps memory draws []) is holds) (less n _ items ps f)))
  lined_turn (alike.loose v items vs temps ps f holds) = stay here n kept _ refl names items vs temps ps memory draws new found also _ (alike.plain items vs temps ps (less n (length vs) items ps f) holds) same

pub simulate : (t : Templates) → AllSimulate t → (n : ℕ) (a : SourceRun) (b : TemplateRun) → Alike t (suc n) a b → Next t n a (source.next t.unit a) b
simulate t all n _ _ (alike.both_run _ _ found also count (alike.related g names items vs temps ps memory draws old new callers below waiting reached l waits) same) = lined_turn t all n g names memory draws found also count old new callers below waiting reached (wait_less n waits) same l
simulate t all n _ _ (alike.both_stopped why memory draws old new found also count same) = record {
  steps = 0;
  both = alike.both_stopped why memory draws old new found also count same;
  between = λ j less. absurd (never j less);
  moved = λ none. refl;
  rests = λ no_move none. refl;
}
  where
    never : (j : ℕ) → j < 0 → ⊥
    never j less = omega (arith, less)

pub steps_on : (t : Templates) (m k : ℕ) (r : TemplateRun) → steps_from t k (steps_from t m r) ≡ steps_from t (m + k) r
steps_on t zero k r = ap (λ j. steps_from t j r) (is k)
  where
    is : (k : ℕ) → k ≡ 0 + k
    is k = omega arith
steps_on t (suc m) k r = steps_on t m k (runs.next t r) ∙ ap (λ j. steps_from t j r) (is m k)
  where
    is : (m k : ℕ) → suc (m + k) ≡ suc m + k
    is m k = omega arith

agreed : (t : Templates) (n : ℕ) (a : SourceRun) (b : TemplateRun) → Alike t n a b → Agree a b
agreed t n _ _ (alike.both_run _ _ found also count (alike.related g names items vs temps ps memory draws old new callers below waiting reached l waits) same) = record { memory = refl; draws = refl; found = same; why = refl }
agreed t n _ _ (alike.both_stopped why memory draws old new found also count same) = record { memory = refl; draws = refl; found = same; why = refl }

-- both stand alike after so many turns and so many pieces
record Both (t : Templates) (n : ℕ) (a : SourceRun) (b : TemplateRun) : Type 0 where
  steps : ℕ
  both : Alike t n a (steps_from t steps b)

module _ (t : Templates) (all : AllSimulate t) (start : (n : ℕ) → Simulates (entry_of t) n 0 (body_of (function_at t.unit t.unit.entry)) (pieces (entry_of t))) (draws : List ℤ) where
  pub begun : (n : ℕ) → Alike t n (source.source_begin t.unit draws) (template_begin t draws)
  begun n = by (start_world t.unit draws)
    where
      by : (reply : Reply (Unit {0})) → Alike t n (source.begun_by t.unit reply) (runs.begun_by t reply)
      by (goes x w) = alike.both_run _ _ [] [] 0 (alike.related t.unit.entry _ _ [] _ _ w.memory w.draws w.violated w.violated [] [] [] simulates.entry (alike.plain _ [] _ _ (start n) tt) alike.none) refl
      by (stops why w) = alike.both_stopped why w.memory w.draws w.violated w.violated [] [] 0 refl

  after : (turns n : ℕ) → Both t n (Run t.unit draws turns) (template_begin t draws)
  after zero n = record { steps = 0; both = begun n }
  after (suc k) n =
      let before = after k (suc n) in
      let next = simulate t all n (Run t.unit draws k) (steps_from t before.steps (template_begin t draws)) before.both in
      record { steps = before.steps + next.steps; both = subst (λ r. Alike t n (Run t.unit draws (suc k)) r) (steps_on t before.steps next.steps (template_begin t draws)) next.both }

  pub runs_agree : (turns : ℕ) → (k : ℕ) × Agree (Run t.unit draws turns) (steps_from t k (template_begin t draws))
  runs_agree turns = let x = after turns 0 in (x.steps, agreed t 0 _ _ x.both)
