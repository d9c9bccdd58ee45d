-- What follows, one item after the other, for any number of turns.
use Rattle.std.specs.Prelude.{◌≡◌, ℕ, zero, suc, ◌+◌, ℤ, Bool, true, false, List, [], ◌∷◌, ◌++◌, Option, Some, None}
use Rattle.cc_base.specs.declared.diagnostics.Place.{Place}
use Rattle.c_layout.specs.CheckedTrees.{TermTree, LvalueTree, StatementTree}
use Rattle.cc_base.specs.declared.int_types.IntType.{IntType}
use Rattle.c_layout.specs.CheckedUnits.{FunctionView}
use Rattle.c_layout.specs.declared.checked_tree.checked_statements.CaseLabel.{CaseLabel}
use Rattle.c_layout.specs.Types.{Ty}
use Rattle.c_layout.specs.declared.library_functions.LibFn.{LibFn}
use Rattle.c_layout.specs.declared.library_functions.LibFn.TheVariants.{Fgets}
use Rattle.c_layout.specs.declared.checked_tree.checked_terms.ObjectRef.{ObjectRef}
use Rattle.cfg.specs.declared.flow_edges.Test.{Test}
use Rattle.cfg.specs.declared.machine_instructions.Scalar as declared
use Rattle.lower_expressions.specs.Calls.{result_temp}
use Rattle.lower_templates.specs.Worklist.Acts as act
use Rattle.lower_templates.specs.Worklist.Acts.{Act}
use Rattle.lower_templates.specs.Worklist.Pieces.{Local, Literal, Outcome, PieceView, ExitView, DoIfUsed, End, Call, When, Always, NoLine, Line}
use Rattle.lower_templates.specs.Worklist.Plans.{name_of_object}
use Rattle.lower_templates.specs.Worklist.TermKinds.{scalar_of}
use Rattle.lower_functions.specs.Functions.Functions.{local_type}
use Rattle.lower_conditions.specs.declared.branch_tests.NamedObject.{NamedObject}
use Rattle.semantics.specs.SourceMachine.Items as item
use Rattle.semantics.specs.SourceMachine.Items.{Item, Items, listed, NamedTest, Change}
use Rattle.semantics.specs.SourceMachine.Operations as op
use Rattle.semantics.specs.SourceMachine.Operations.{Operation}
use Rattle.semantics.specs.SourceMachine.Scopes.{leap_in, all_of, open_scopes}
use Rattle.semantics.specs.SourceMachine.TermItems.{address_items}
use Rattle.semantics.specs.SourceMachine.ConditionItems.{term_items}
use Rattle.semantics.specs.SourceMachine.StatementItems.{of_statement}
use Rattle.semantics.specs.SourceMachine.CallSteps.{behind_body}
use Rattle.semantics.specs.SourceMachine.SourceStates.{Frame, function_at, result_object}
use Rattle.simulation_terms.specs.SimulationRelation.Activations.{Activation, of_entry}
use Rattle.simulation_terms.specs.Instructions.Acts.{IsAct, IsActBehind, temps_from, behind_call}
use Rattle.simulation_terms.specs.SimulationRelation.Simulates as simulates
use Rattle.simulation_terms.specs.SimulationRelation.Simulates.{own, Names, Leads, SameTest, IsEdge, Selected, Simulates, IsCalled, CallsThere, behind_own, pieces, at_place, change_act}
use Rattle.simulation_terms.proofs.simulation_relation.FewerTurns.{less}

pub gives_value : {t : Activation} (n : ℕ) (d : ℕ) (e : TermTree) (items : List Item) (ps : List PieceView) → Simulates t n d (term_items t.unit true e ++ items) ps → Simulates t n d (item.Value e ∷ items) ps
gives_value zero d e items ps f = simulates.enough _ _ _
gives_value (suc n) d e items ps f = simulates.value n d e items ps (less n _ _ ps f)

pub gives_unused : {t : Activation} (n : ℕ) (d : ℕ) (e : TermTree) (items : List Item) (ps : List PieceView) → Simulates t n d (term_items t.unit false e ++ items) ps → Simulates t n d (item.Unused e ∷ items) ps
gives_unused zero d e items ps f = simulates.enough _ _ _
gives_unused (suc n) d e items ps f = simulates.unused n d e items ps (less n _ _ ps f)

pub gives_address : {t : Activation} (n : ℕ) (d : ℕ) (l : LvalueTree) (items : List Item) (ps : List PieceView) → Simulates t n d (address_items t.unit l ++ items) ps → Simulates t n d (item.Address l ∷ items) ps
gives_address zero d l items ps f = simulates.enough _ _ _
gives_address (suc n) d l items ps f = simulates.address n d l items ps (less n _ _ ps f)

pub gives_statement : {t : Activation} (n : ℕ) (d : ℕ) (i : StatementTree) (items : List Item) (ps : List PieceView) → Simulates t n d (of_statement t.unit (of_entry t) i ++ items) ps → Simulates t n d (item.Statement i ∷ items) ps
gives_statement zero d i items ps f = simulates.enough _ _ _
gives_statement (suc n) d i items ps f = simulates.statement n d i items ps (less n _ _ ps f)

pub gives_turn_end : {t : Activation} (n : ℕ) (d : ℕ) (items : List Item) (ps : List PieceView) → Simulates t n d items ps → Simulates t n d (item.IterationEnd ∷ items) ps
gives_turn_end zero d items ps f = simulates.enough _ _ _
gives_turn_end (suc n) d items ps f = simulates.turn_end n d items ps (less n _ _ ps f)

pub gives_loop_end : {t : Activation} (n : ℕ) (d : ℕ) (items : List Item) (ps : List PieceView) → Simulates t n d items ps → Simulates t n d (item.LoopEnd ∷ items) ps
gives_loop_end zero d items ps f = simulates.enough _ _ _
gives_loop_end (suc n) d items ps f = simulates.loop_end n d items ps (less n _ _ ps f)

pub gives_drop : {t : Activation} (n : ℕ) (d : ℕ) (items : List Item) (ps : List PieceView) → Simulates t n d items ps → Simulates t n (suc d) (item.Drop ∷ items) ps
gives_drop zero d items ps f = simulates.enough _ _ _
gives_drop (suc n) d items ps f = simulates.drop n d items ps (less n _ _ ps f)

pub gives_no_enters : {t : Activation} (n : ℕ) (d : ℕ) (items : List Item) (ps : List PieceView) → Simulates t n d items ps → Simulates t n d (item.Enters [] ∷ items) ps
gives_no_enters zero d items ps f = simulates.enough _ _ _
gives_no_enters (suc n) d items ps f = simulates.enters_none n d items ps (less n _ _ ps f)

pub gives_no_leaves : {t : Activation} (n : ℕ) (d : ℕ) (items : List Item) (ps : List PieceView) → Simulates t n d items ps → Simulates t n d (item.Leaves [] ∷ items) ps
gives_no_leaves zero d items ps f = simulates.enough _ _ _
gives_no_leaves (suc n) d items ps f = simulates.leaves_none n d items ps (less n _ _ ps f)

pub gives_step : {t : Activation} (n : ℕ) (d next : ℕ) (at : Place) (operation : Operation) (a : Act) (items : List Item) (ps : List PieceView) → IsAct operation a d next → Simulates t n next items ps → Simulates t n d (item.Do at operation ∷ items) (at_place at a ∷ ps)
gives_step zero d next at operation a items ps is f = simulates.enough _ _ _
gives_step (suc n) d next at operation a items ps is f = simulates.does n d next at operation a items ps is (less n _ _ _ f)

pub gives_store : {t : Activation} (n : ℕ) (d : ℕ) (at : Place) (kind : declared.Scalar) (items : List Item) (ps : List PieceView) → Simulates t n d items ps → Simulates t n (suc (suc d)) (item.Do at (op.Store kind) ∷ (item.Drop ∷ items)) (at_place at (act.Store d (suc d) kind None) ∷ ps)
gives_store zero d at kind items ps f = simulates.enough _ _ _
gives_store (suc n) d at kind items ps f = simulates.stores n d at kind items ps (less n _ _ _ f)

pub gives_object : {t : Activation} (n : ℕ) (d base : ℕ) (at : Place) (o : ObjectRef) (offset : ℕ) (items : List Item) (ps : List PieceView) → Names t base (name_of_object o) → Simulates t n (suc d) items ps → Simulates t n d (item.Object at o offset ∷ items) (at_place at (act.Address d base offset) ∷ ps)
gives_object zero d base at o offset items ps named f = simulates.enough _ _ _
gives_object (suc n) d base at o offset items ps named f = simulates.object n d base at o offset items ps named (less n _ _ _ f)

pub gives_change : {t : Activation} (n : ℕ) (d base local : ℕ) (at : Place) (how : Change) (items : List Item) (ps : List PieceView) → Names t base (Local local) → Simulates t n d items ps → Simulates t n d (item.OnObject at local how ∷ items) (at_place at (change_act base how) ∷ ps)
gives_change zero d base local at how items ps named f = simulates.enough _ _ _
gives_change (suc n) d base local at how items ps named f = simulates.on_object n d base local at how items ps named (less n _ _ _ f)

pub gives_enter : {t : Activation} (n : ℕ) (d base local : ℕ) (locals : List ℕ) (items : List Item) (ps : List PieceView) → Names t base (Local local) → Simulates t n d (item.Enters locals ∷ items) ps → Simulates t n d (item.Enters (local ∷ locals) ∷ items) (at_place (own t) (act.Enter base) ∷ ps)
gives_enter zero d base local locals items ps named f = simulates.enough _ _ _
gives_enter (suc n) d base local locals items ps named f = simulates.enters n d base local locals items ps named (less n _ _ _ f)

pub gives_leave : {t : Activation} (n : ℕ) (d base local : ℕ) (locals : List ℕ) (items : List Item) (ps : List PieceView) → Names t base (Local local) → Simulates t n d (item.Leaves locals ∷ items) ps → Simulates t n d (item.Leaves (local ∷ locals) ∷ items) (at_place (own t) (act.Leave base) ∷ ps)
gives_leave zero d base local locals items ps named f = simulates.enough _ _ _
gives_leave (suc n) d base local locals items ps named f = simulates.leaves n d base local locals items ps named (less n _ _ _ f)

pub gives_return : {t : Activation} (n : ℕ) (d : ℕ) (f : FunctionView) (items : List Item) (ps : List PieceView) → function_at t.unit t.function ≡ Some f → Simulates t n d (item.Leaves (all_of (open_scopes items)) ∷ behind_body f (item.Hop ∷ []) t.callers) ps → Simulates t n d (item.LeaveFunction ∷ items) ps
gives_return zero d f items ps is go = simulates.enough _ _ _
gives_return (suc n) d f items ps is go = simulates.leave_function n d f items ps is (less n _ _ _ go)

pub gives_hop : {t : Activation} (n : ℕ) (d l : ℕ) (items : List Item) (ps there : List PieceView) → Leads t l there → Simulates t n d items there → Simulates t n d (item.Hop ∷ items) (End (record { at = own t; does = act.Jump }) (record { to = l; taken = Always } ∷ []) ∷ ps)
gives_hop zero d l items ps there to f = simulates.enough _ _ _
gives_hop (suc n) d l items ps there to f = simulates.hop n d l items ps there to (less n _ _ _ f)

pub gives_edges : {t : Activation} (n : ℕ) (d hit miss first second : ℕ) (at : Place) (kind : declared.Scalar) (test : Option NamedTest) (if_held if_failed : Option Test) (yes_puts no_puts : Option (ℕ × ℤ)) (held failed : Items) (items go stay : List Item) (ps on_yes on_no : List PieceView) → SameTest t test if_held if_failed → Leads t hit on_yes → Leads t miss on_no → IsEdge d (listed held ++ items) yes_puts first go → IsEdge d (listed failed ++ items) no_puts second stay → Simulates t n first go on_yes → Simulates t n second stay on_no
    → Simulates t n (suc d) (item.Choose at test held failed ∷ items) (End (record { at = at; does = act.Branch d kind }) (record { to = hit; taken = When true if_held yes_puts } ∷ (record { to = miss; taken = When false if_failed no_puts } ∷ [])) ∷ ps)
gives_edges zero d hit miss first second at kind test if_held if_failed yes_puts no_puts held failed items go stay ps on_yes on_no same to_yes to_no is_go is_stay f g = simulates.enough _ _ _
gives_edges (suc n) d hit miss first second at kind test if_held if_failed yes_puts no_puts held failed items go stay ps on_yes on_no same to_yes to_no is_go is_stay f g =
    simulates.choose n d hit miss first second at kind test if_held if_failed yes_puts no_puts held failed items go stay ps on_yes on_no same to_yes to_no is_go is_stay (less n _ _ _ f) (less n _ _ _ g)

pub gives_choice : {t : Activation} (n : ℕ) (d hit miss : ℕ) (at : Place) (kind : declared.Scalar) (test : Option NamedTest) (if_held if_failed : Option Test) (held failed : Items) (items : List Item) (ps on_yes on_no : List PieceView) → SameTest t test if_held if_failed → Leads t hit on_yes → Leads t miss on_no → Simulates t n d (listed held ++ items) on_yes → Simulates t n d (listed failed ++ items) on_no
    → Simulates t n (suc d) (item.Choose at test held failed ∷ items) (End (record { at = at; does = act.Branch d kind }) (record { to = hit; taken = When true if_held None } ∷ (record { to = miss; taken = When false if_failed None } ∷ [])) ∷ ps)
gives_choice n d hit miss at kind test if_held if_failed held failed items ps on_yes on_no same to_yes to_no f g =
    gives_edges n d hit miss d d at kind test if_held if_failed None None held failed items _ _ ps on_yes on_no same to_yes to_no (simulates.plain d _) (simulates.plain d _) f g

pub gives_line : {t : Activation} (n : ℕ) (d none some : ℕ) (at : Place) (unread read : Items) (items : List Item) (ps on_none on_some : List PieceView) → Leads t none on_none → Leads t some on_some → Simulates t n d (listed unread ++ items) on_none → Simulates t n d (listed read ++ items) on_some
    → Simulates t n (suc (suc (suc d))) (item.ReadLine at unread read ∷ items) (End (record { at = at; does = act.ReadLine None d (suc d) (suc (suc d)) }) (record { to = none; taken = NoLine } ∷ (record { to = some; taken = Line } ∷ [])) ∷ ps)
gives_line zero d none some at unread read items ps on_none on_some to_none to_some f g = simulates.enough _ _ _
gives_line (suc n) d none some at unread read items ps on_none on_some to_none to_some f g = simulates.read_line n d none some at unread read items ps on_none on_some to_none to_some (less n _ _ _ f) (less n _ _ _ g)

pub gives_select : {t : Activation} (n : ℕ) (d : ℕ) (at : Place) (kind : IntType) (object : Option NamedObject) (labels : List CaseLabel) (body : StatementTree) (items : List Item) (exits : List ExitView) (ps : List PieceView) (arms : (value : ℤ) → Selected t object labels body items exits value) → ((value : ℤ) → Simulates t n d (leap_in items (arms value).to) (arms value).there)
    → Simulates t n (suc d) (item.Select at object labels body ∷ items) (End (record { at = at; does = act.Switch d kind }) exits ∷ ps)
gives_select zero d at kind object labels body items exits ps arms go = simulates.enough _ _ _
gives_select (suc n) d at kind object labels body items exits ps arms go = simulates.select n d at kind object labels body items exits ps arms (λ value. less n d _ _ (go value))

pub gives_read : {t : Activation} (n : ℕ) (d l : ℕ) (at : Place) (target : Option Ty) (items : List Item) (ps there : List PieceView) → Leads t l there → Simulates t n (suc d) items there
    → Simulates t n (suc (suc (suc d))) (item.Do at (op.Library Fgets 3 target) ∷ items) (End (record { at = at; does = act.ReadLine (Some d) d (suc d) (suc (suc d)) }) (record { to = l; taken = NoLine } ∷ (record { to = l; taken = Line } ∷ [])) ∷ ps)
gives_read zero d l at target items ps there to f = simulates.enough _ _ _
gives_read (suc n) d l at target items ps there to f = simulates.read_value n d l at target items ps there to (less n _ _ _ f)

pub gives_again : {t : Activation} (n : ℕ) (d : ℕ) (at : Place) (operation : Operation) (a : Act) (items : List Item) (ps : List PieceView) → IsActBehind operation a d → Simulates t n (suc (suc d)) items ps → Simulates t n (suc d) (item.Again ∷ (item.Do at operation ∷ items)) (at_place at a ∷ ps)
gives_again zero d at operation a items ps is f = simulates.enough _ _ _
gives_again (suc n) d at operation a items ps is f = simulates.again n d at operation a items ps is (less n _ _ _ f)

pub gives_call : {t : Activation} (n : ℕ) (d count : ℕ) (at : Place) (function : LibFn) (target : Option Ty) (site : Option ℕ) (items : List Item) (ps : List PieceView) → Simulates t n (behind_call function d) items ps → Simulates t n (d + count) (item.Do at (op.Library function count target) ∷ items) (at_place at (act.Library (result_temp function d) function (temps_from d count) site (op.target_size t.unit target)) ∷ ps)
gives_call zero d count at function target site items ps f = simulates.enough _ _ _
gives_call (suc n) d count at function target site items ps f = simulates.calls_library n d count at function target site items ps (less n _ _ _ f)

pub gives_literal : {t : Activation} (n : ℕ) (d base i : ℕ) (at : Place) (items : List Item) (ps : List PieceView) → Names t base (Literal i) → Simulates t n (suc d) items ps → Simulates t n d (item.Literal at i ∷ items) (at_place at (act.Address d base 0) ∷ ps)
gives_literal zero d base i at items ps named f = simulates.enough _ _ _
gives_literal (suc n) d base i at items ps named f = simulates.literal n d base i at items ps named (less n _ _ _ f)

pub gives_end : {t : Activation} (n d : ℕ) (at : Place) (ps : List PieceView) → of_entry t ≡ true → Simulates t n d [] (End (record { at = at; does = act.Stop }) [] ∷ ps)
gives_end zero d at ps entry = simulates.enough _ _ _
gives_end (suc n) d at ps entry = simulates.finish n d at ps entry

pub gives_end_body : {t : Activation} (n d : ℕ) (f : FunctionView) (items : List Item) (ps : List PieceView) → function_at t.unit t.function ≡ Some f → Simulates t n d (behind_body f [] t.callers) ps → Simulates t n d (item.EndBody ∷ items) ps
gives_end_body zero d f items ps is go = simulates.enough _ _ _
gives_end_body (suc n) d f items ps is go = simulates.end_body n d f items ps is (less n _ _ _ go)

-- ---- calls

pub gives_own_call : {t : Activation} (n d g : ℕ) (at : Place) (used : Bool) (f : FunctionView) (items : List Item) (ps : List PieceView) → IsCalled t.unit g used f → CallsThere (pieces t) g → Simulates t n (behind_own used d) items ps → Simulates t n (d + f.parameters) (item.Invoke at g f.parameters used ∷ items) (Call (record { place = at; function = g; depth = d; used = used }) ∷ ps)
gives_own_call zero d g at used f items ps is stands go = simulates.enough _ _ _
gives_own_call (suc n) d g at used f items ps is stands go = simulates.calls n d g at used f items ps is stands (less n _ _ _ go)

pub gives_bind : {t : Activation} (n d number depth : ℕ) (at : Place) (f : FunctionView) (items : List Item) (ps : List PieceView) → function_at t.unit t.function ≡ Some f → number + suc depth ≡ d → Simulates t n d items ps → Simulates t n (suc d) (item.Bind at number depth ∷ items) (at_place at (act.Store d number (scalar_of (local_type f number)) None) ∷ ps)
gives_bind zero d number depth at f items ps is where_it_is go = simulates.enough _ _ _
gives_bind (suc n) d number depth at f items ps is where_it_is go = simulates.binds n d number depth at f items ps is where_it_is (less n _ _ _ go)

pub gives_enter_outcome : {t : Activation} (n d base : ℕ) (f : FunctionView) (locals : List ℕ) (items : List Item) (ps : List PieceView) → function_at t.unit t.function ≡ Some f → Names t base Outcome → Simulates t n d (item.Enters locals ∷ items) ps → Simulates t n d (item.Enters (result_object f ∷ locals) ∷ items) (at_place (own t) (act.Enter base) ∷ ps)
gives_enter_outcome zero d base f locals items ps is named go = simulates.enough _ _ _
gives_enter_outcome (suc n) d base f locals items ps is named go = simulates.enters_outcome n d base f locals items ps is named (less n _ _ _ go)

pub gives_outcome : {t : Activation} (n d base : ℕ) (at : Place) (f : FunctionView) (items : List Item) (ps : List PieceView) → function_at t.unit t.function ≡ Some f → Names t base Outcome → Simulates t n (suc d) items ps → Simulates t n d (item.Outcome at ∷ items) (at_place at (act.Address d base 0) ∷ ps)
gives_outcome zero d base at f items ps is_f named go = simulates.enough _ _ _
gives_outcome (suc n) d base at f items ps is_f named go = simulates.outcome n d base at f items ps is_f named (less n _ _ _ go)

pub gives_leave_outcome : {t : Activation} (n d base : ℕ) (at place : Place) (f : FunctionView) (items : List Item) (ps : List PieceView) → function_at t.unit t.function ≡ Some f → Names t base Outcome → Simulates t n d items ps → Simulates t n d (item.LeaveOutcome at ∷ items) (at_place place (act.Leave base) ∷ ps)
gives_leave_outcome zero d base at place f items ps is_f named go = simulates.enough _ _ _
gives_leave_outcome (suc n) d base at place f items ps is_f named go = simulates.leaves_outcome n d base at place f items ps is_f named (less n _ _ _ go)

pub gives_used_outcome : {t : Activation} (n d base : ℕ) (caller : Frame) (callers : List Frame) (place : Place) (f : FunctionView) (items : List Item) (ps : List PieceView) → t.callers ≡ caller ∷ callers → caller.used ≡ true → function_at t.unit t.function ≡ Some f → Names t base Outcome → Simulates t n (suc d) items ps → Simulates t n d (item.Outcome caller.at ∷ items) (DoIfUsed (record { at = place; does = act.Address d base 0 }) ∷ ps)
gives_used_outcome zero d base caller callers place f items ps is used is_f named go = simulates.enough _ _ _
gives_used_outcome (suc n) d base caller callers place f items ps is used is_f named go = simulates.used_outcome n d base caller callers place f items ps is used is_f named (less n _ _ _ go)

pub gives_if_used : {t : Activation} (n d next : ℕ) (caller : Frame) (callers : List Frame) (place : Place) (operation : Operation) (a : Act) (items : List Item) (ps : List PieceView) → t.callers ≡ caller ∷ callers → caller.used ≡ true → IsAct operation a d next → Simulates t n next items ps → Simulates t n d (item.Do caller.at operation ∷ items) (DoIfUsed (record { at = place; does = a }) ∷ ps)
gives_if_used zero d next caller callers place operation a items ps is used does go = simulates.enough _ _ _
gives_if_used (suc n) d next caller callers place operation a items ps is used does go = simulates.does_if_used n d next caller callers place operation a items ps is used does (less n _ _ _ go)

pub gives_back : {t : Activation} (n : ℕ) (caller : Frame) (callers : List Frame) → t.callers ≡ caller ∷ callers → Simulates t n (behind_own caller.used 0) [] []
gives_back zero caller callers is = simulates.enough _ _ _
gives_back (suc n) caller callers is = simulates.goes_back n caller callers is
