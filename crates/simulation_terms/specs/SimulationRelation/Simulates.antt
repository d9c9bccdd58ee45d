-- How what the source still has to do stands in the pieces that are still to be done, for so many turns: an item that
-- is a step stands there as an instruction, and one that only leads to others stands there as these. So many turns
-- are enough for so many turns of a run, and make the relation finite where there are loops.
use Rattle.std.specs.Prelude.{◌≡◌, ℕ, zero, suc, ◌+◌, ℤ, pos, Bool, true, false, cond, List, [], ◌∷◌, ◌++◌, Option, Some, None, slice_get}
use Rattle.cc_base.specs.declared.diagnostics.Place.{Place}
use Rattle.c_layout.specs.CheckedTrees.{TermTree, LvalueTree, StatementTree}
use Rattle.c_layout.specs.CheckedUnits.{FunctionView, UnitView}
use Rattle.c_layout.specs.declared.checked_tree.checked_statements.CaseLabel.{CaseLabel}
use Rattle.c_layout.specs.Types.{Ty}
use Rattle.c_layout.specs.declared.library_functions.LibFn.{LibFn}
use Rattle.c_layout.specs.declared.library_functions.LibFn.TheVariants.{Fgets}
use Rattle.c_layout.specs.declared.checked_tree.checked_terms.ObjectRef.{ObjectRef}
use Rattle.c_layout.specs.declared.checked_tree.checked_terms.ObjectRef.TheVariants as ref
use Rattle.cc_base.specs.declared.int_types.IntType.{IntType}
use Rattle.cfg.specs.declared.flow_edges.Side.{Side}
use Rattle.cfg.specs.declared.flow_edges.Side.TheVariants as side
use Rattle.cfg.specs.declared.flow_edges.Test.{Test}
use Rattle.cfg.specs.declared.machine_instructions.Scalar as declared
use Rattle.cfg.specs.declared.machine_instructions.Scalar.TheVariants as scalar
use Rattle.lower_conditions.specs.declared.branch_tests.NamedObject.{NamedObject}
use Rattle.lower_expressions.specs.Calls.{result_temp}
use Rattle.lower_templates.specs.Worklist.Acts as act
use Rattle.lower_templates.specs.Worklist.Acts.{Act, Step}
use Rattle.lower_templates.specs.Worklist.Pieces.{NameView, Local, Outcome, Literal, PieceView, Do, DoIfUsed, End, Mark, Call, ExitView, Way, When, Always, Case, Other, NoLine, Line}
use Rattle.lower_templates.specs.declared.worklist.template_pieces.OwnCall.{OwnCall}
use Rattle.lower_templates.specs.Worklist.Plans.{name_of_object}
use Rattle.lower_templates.specs.Worklist.TermKinds.{integer_type, is_void, scalar_of}
use Rattle.lower_functions.specs.Functions.Functions.{local_type}
use Rattle.memory_model.specs.Memory.Labels.{Labels}
use Rattle.memory_model.specs.Memory.Scalars.{integer}
use Rattle.semantics.specs.SourceMachine.Items as item
use Rattle.semantics.specs.SourceMachine.Items.{Item, Items, listed, NamedSide, NamedTest, Change, Forget, Clear, Spell}
use Rattle.semantics.specs.SourceMachine.Operations as op
use Rattle.semantics.specs.SourceMachine.Operations.{Operation}
use Rattle.semantics.specs.SourceMachine.Scopes.{jump, leap_in, past_loop, past_iteration, all_of, open_scopes}
use Rattle.semantics.specs.SourceMachine.LabelSearch.{Sought, case, other, found, case_of, from_label}
use Rattle.semantics.specs.SourceMachine.BranchSteps.{landing}
use Rattle.semantics.specs.SourceMachine.TermItems.{address_items}
use Rattle.semantics.specs.SourceMachine.ConditionItems.{term_items}
use Rattle.semantics.specs.SourceMachine.StatementItems.{of_statement, while_iteration, do_iteration, for_iteration, body}
use Rattle.semantics.specs.SourceMachine.CallSteps.{prologue, behind_body}
use Rattle.semantics.specs.SourceMachine.SourceStates.{Frame, function_at, static_type, local_of, result_object}
use Rattle.semantics.specs.SourceMachine.SourceSteps.{place_of}
use Rattle.memory_model.specs.Effects.Tests.{opposite}
use Rattle.semantics.specs.TemplateMachine.TemplateStates.{Templates}
use Rattle.semantics.specs.TemplateMachine.TemplateExits.{behind_mark, exit_taken}
use Rattle.simulation_terms.specs.Instructions.Acts.{IsAct, IsActBehind, temps_from, behind_call}
use Rattle.simulation_terms.specs.SimulationRelation.Activations.{Activation, of_entry, activation}

-- ---- what the template of the function that runs has

abbrev pub pieces : Activation → List PieceView
pieces t = (t.of t.function).pieces

-- a base has a name
abbrev pub Names : Activation → ℕ → NameView → Type 0
Names t base name = slice_get (t.of t.function).names base ≡ Some name

-- behind a label such pieces stand
abbrev pub Leads : Activation → ℕ → List PieceView → Type 0
Leads t l ps = behind_mark l (pieces t) ≡ Some ps

-- the place of steps that have none in the source
abbrev pub own : Activation → Place
own t = place_of (function_at t.unit t.function)

-- ---- tests

pub data SameSide (t : Activation) : NamedSide → Side → Type 0 where
  object : (o : NamedObject) (base : ℕ) → Names t base (name_of_object o.object) → SameSide t (item.named o) (side.Object base o.kind)
  number : (n : ℤ) → SameSide t (item.number n) (side.Number n)
  nothing : SameSide t item.nothing side.Null

-- a test, and those of the edges on which it holds or not
pub data SameTest (t : Activation) : Option NamedTest → Option Test → Option Test → Type 0 where
  none : SameTest t None None None
  some : (test : NamedTest) (left right : Side) → SameSide t test.left left → SameSide t test.right right → SameTest t (Some test) (Some (record { left = left; rel = test.rel; right = right; common = test.common })) (Some (record { left = left; rel = opposite test.rel; right = right; common = test.common }))

-- ---- edges

-- the number that is put for a truth
abbrev pub number_of : Bool → ℤ
number_of b = cond b (pos 1) (pos 0)

-- what follows on an edge: the items as they are, or a truth comes first, which the edge has put into the next temporary
pub data IsEdge : ℕ → List Item → Option (ℕ × ℤ) → ℕ → List Item → Type 0 where
  plain : (d : ℕ) (items : List Item) → IsEdge d items None d items
  truth : (d : ℕ) (b : Bool) (items : List Item) → IsEdge d (item.Truth b ∷ items) (Some (d, number_of b)) (suc d) items

-- ---- switches

-- the type of an object in the function that runs
abbrev pub type_in : Activation → ObjectRef → Option Ty
type_in t (ref.Static m) = static_type (slice_get t.unit.objects m)
type_in t (ref.Local m) = local_of (function_at t.unit t.function) m

-- the object that is switched on has a base, where it is an integer
pub data SameSwitched (t : Activation) : Option NamedObject → Option ℕ → Type 0 where
  unnamed : SameSwitched t None None
  no_integer : (o : ObjectRef) → SameSwitched t (Some (record { object = o; kind = scalar.Pointer })) None
  integers : (o : ObjectRef) (base : ℕ) (ctype : Ty) → Names t base (name_of_object o) → type_in t o ≡ Some ctype → SameSwitched t (Some (record { object = o; kind = scalar.Int (integer_type ctype) })) (Some base)

-- a value has its case label and its edge in both, or in neither
pub data SameCase (t : Activation) (object : Option NamedObject) (value : ℤ) : Sought → Way → Type 0 where
  matched : (number : ℕ) (base : Option ℕ) → SameSwitched t object base → SameCase t object value (case number) (Case (record { value = value; object = base }))
  unmatched : (values : List ℤ) → SameCase t object value other (Other values)

-- where a value leads: the source from a label on, the pieces along an edge and behind its label
pub record Selected (t : Activation) (object : Option NamedObject) (labels : List CaseLabel) (body : StatementTree) (items : List Item) (exits : List ExitView) (value : ℤ) : Type 0 where
  pub way : Way
  pub label : ℕ
  pub to : List Item
  pub there : List PieceView
  pub same : SameCase t object value (case_of labels 0 value) way
  pub lands : landing (case_of labels 0 value) (found t.unit (case_of labels 0 value) body items) items ≡ Some to
  pub takes : (marks : Labels) → exit_taken (integer value marks) exits ≡ Some (record { to = label; taken = way })
  pub leads : Leads t label there

-- ---- calls

-- a function of the unit is called, and gives a value where one is used
pub record IsCalled (u : UnitView) (g : ℕ) (used : Bool) (f : FunctionView) : Type 0 where
  pub is : function_at u g ≡ Some f
  pub gives : used ≡ true → is_void f.returns ≡ false

-- a call of a function stands among pieces
pub record CallsThere (ps : List PieceView) (g : ℕ) : Type 0 where
  pub at : ℕ
  pub call : OwnCall
  pub there : slice_get ps at ≡ Some (Call call)
  pub is : call.function ≡ g

-- the entry is reached, and what the template of a function calls that is reached
pub data Reached (t : Templates) : ℕ → Type 0 where
  entry : Reached t t.unit.entry
  called : (h g : ℕ) → Reached t h → CallsThere (t.of h).pieces g → Reached t g

-- how many values are pending behind a call
abbrev pub behind_own : Bool → ℕ → ℕ
behind_own used d = cond used (suc d) d

-- ---- items and pieces

abbrev pub change_act : ℕ → Change → Act
change_act base Forget = act.Forget base
change_act base Clear = act.Clear base
change_act base (Spell offset room text) = act.Spell base offset room text

abbrev pub at_place : Place → Act → PieceView
at_place at a = Do (record { at = at; does = a })

-- so many turns, so many values pending
pub data Simulates (t : Activation) : ℕ → ℕ → List Item → List PieceView → Type 0 where
  enough : (d : ℕ) (items : List Item) (ps : List PieceView) → Simulates t zero d items ps
  by_mark : (n d l : ℕ) (items : List Item) (ps : List PieceView) → Simulates t n d items ps → Simulates t n d items (Mark l ∷ ps)
  -- items that give way to others
  value : (n d : ℕ) (e : TermTree) (items : List Item) (ps : List PieceView) → Simulates t n d (term_items t.unit true e ++ items) ps → Simulates t (suc n) d (item.Value e ∷ items) ps
  unused : (n d : ℕ) (e : TermTree) (items : List Item) (ps : List PieceView) → Simulates t n d (term_items t.unit false e ++ items) ps → Simulates t (suc n) d (item.Unused e ∷ items) ps
  address : (n d : ℕ) (l : LvalueTree) (items : List Item) (ps : List PieceView) → Simulates t n d (address_items t.unit l ++ items) ps → Simulates t (suc n) d (item.Address l ∷ items) ps
  statement : (n d : ℕ) (i : StatementTree) (items : List Item) (ps : List PieceView) → Simulates t n d (of_statement t.unit (of_entry t) i ++ items) ps → Simulates t (suc n) d (item.Statement i ∷ items) ps
  in_while : (n d : ℕ) (e : TermTree) (body : StatementTree) (items : List Item) (ps : List PieceView) → Simulates t n d (while_iteration t.unit e body ++ items) ps → Simulates t (suc n) d (item.WhileIteration e body ∷ items) ps
  in_do : (n d : ℕ) (body : StatementTree) (e : TermTree) (items : List Item) (ps : List PieceView) → Simulates t n d (do_iteration t.unit body e ++ items) ps → Simulates t (suc n) d (item.DoIteration body e ∷ items) ps
  in_for : (n d : ℕ) (e step : Option TermTree) (body : StatementTree) (items : List Item) (ps : List PieceView) → Simulates t n d (for_iteration t.unit e step body ++ items) ps → Simulates t (suc n) d (item.ForIteration e step body ∷ items) ps
  turn_end : (n d : ℕ) (items : List Item) (ps : List PieceView) → Simulates t n d items ps → Simulates t (suc n) d (item.IterationEnd ∷ items) ps
  loop_end : (n d : ℕ) (items : List Item) (ps : List PieceView) → Simulates t n d items ps → Simulates t (suc n) d (item.LoopEnd ∷ items) ps
  -- jumps
  break_out : (n d : ℕ) (items : List Item) (ps : List PieceView) → Simulates t n d (jump items (past_loop items)) ps → Simulates t (suc n) d (item.BreakOut ∷ items) ps
  next_turn : (n d : ℕ) (items : List Item) (ps : List PieceView) → Simulates t n d (jump items (past_iteration items)) ps → Simulates t (suc n) d (item.NextIteration ∷ items) ps
  go_to : (n d l : ℕ) (f : FunctionView) (items to : List Item) (ps : List PieceView) → function_at t.unit t.function ≡ Some f → from_label t.unit f l ≡ Some to → Simulates t n d (jump items to) ps → Simulates t (suc n) d (item.GoTo l ∷ items) ps
  leave_function : (n d : ℕ) (f : FunctionView) (items : List Item) (ps : List PieceView) → function_at t.unit t.function ≡ Some f → Simulates t n d (item.Leaves (all_of (open_scopes items)) ∷ behind_body f (item.Hop ∷ []) t.callers) ps → Simulates t (suc n) d (item.LeaveFunction ∷ items) ps
  end_body : (n d : ℕ) (f : FunctionView) (items : List Item) (ps : List PieceView) → function_at t.unit t.function ≡ Some f → Simulates t n d (behind_body f [] t.callers) ps → Simulates t (suc n) d (item.EndBody ∷ items) ps
  -- values
  does : (n d next : ℕ) (at : Place) (operation : Operation) (a : Act) (items : List Item) (ps : List PieceView) → IsAct operation a d next → Simulates t n next items ps → Simulates t (suc n) d (item.Do at operation ∷ items) (at_place at a ∷ ps)
  stores : (n d : ℕ) (at : Place) (kind : declared.Scalar) (items : List Item) (ps : List PieceView) → Simulates t n d items ps → Simulates t (suc n) (suc (suc d)) (item.Do at (op.Store kind) ∷ (item.Drop ∷ items)) (at_place at (act.Store d (suc d) kind None) ∷ ps)
  again : (n d : ℕ) (at : Place) (operation : Operation) (a : Act) (items : List Item) (ps : List PieceView) → IsActBehind operation a d → Simulates t n (suc (suc d)) items ps → Simulates t (suc n) (suc d) (item.Again ∷ (item.Do at operation ∷ items)) (at_place at a ∷ ps)
  calls_library : (n d count : ℕ) (at : Place) (function : LibFn) (target : Option Ty) (site : Option ℕ) (items : List Item) (ps : List PieceView) → Simulates t n (behind_call function d) items ps → Simulates t (suc n) (d + count) (item.Do at (op.Library function count target) ∷ items) (at_place at (act.Library (result_temp function d) function (temps_from d count) site (op.target_size t.unit target)) ∷ ps)
  drop : (n d : ℕ) (items : List Item) (ps : List PieceView) → Simulates t n d items ps → Simulates t (suc n) (suc d) (item.Drop ∷ items) ps
  -- objects
  object : (n d base : ℕ) (at : Place) (o : ObjectRef) (offset : ℕ) (items : List Item) (ps : List PieceView) → Names t base (name_of_object o) → Simulates t n (suc d) items ps → Simulates t (suc n) d (item.Object at o offset ∷ items) (at_place at (act.Address d base offset) ∷ ps)
  literal : (n d base i : ℕ) (at : Place) (items : List Item) (ps : List PieceView) → Names t base (Literal i) → Simulates t n (suc d) items ps → Simulates t (suc n) d (item.Literal at i ∷ items) (at_place at (act.Address d base 0) ∷ ps)
  on_object : (n d base local : ℕ) (at : Place) (how : Change) (items : List Item) (ps : List PieceView) → Names t base (Local local) → Simulates t n d items ps → Simulates t (suc n) d (item.OnObject at local how ∷ items) (at_place at (change_act base how) ∷ ps)
  enters_none : (n d : ℕ) (items : List Item) (ps : List PieceView) → Simulates t n d items ps → Simulates t (suc n) d (item.Enters [] ∷ items) ps
  enters : (n d base local : ℕ) (locals : List ℕ) (items : List Item) (ps : List PieceView) → Names t base (Local local) → Simulates t n d (item.Enters locals ∷ items) ps → Simulates t (suc n) d (item.Enters (local ∷ locals) ∷ items) (at_place (own t) (act.Enter base) ∷ ps)
  leaves_none : (n d : ℕ) (items : List Item) (ps : List PieceView) → Simulates t n d items ps → Simulates t (suc n) d (item.Leaves [] ∷ items) ps
  leaves : (n d base local : ℕ) (locals : List ℕ) (items : List Item) (ps : List PieceView) → Names t base (Local local) → Simulates t n d (item.Leaves locals ∷ items) ps → Simulates t (suc n) d (item.Leaves (local ∷ locals) ∷ items) (at_place (own t) (act.Leave base) ∷ ps)
  -- ends of blocks
  choose : (n d yes no first second : ℕ) (at : Place) (kind : declared.Scalar) (test : Option NamedTest) (if_held if_failed : Option Test) (yes_puts no_puts : Option (ℕ × ℤ)) (held failed : Items) (items go stay : List Item) (ps on_yes on_no : List PieceView)
      → SameTest t test if_held if_failed
      → Leads t yes on_yes
      → Leads t no on_no
      → IsEdge d (listed held ++ items) yes_puts first go
      → IsEdge d (listed failed ++ items) no_puts second stay
      → Simulates t n first go on_yes
      → Simulates t n second stay on_no
      → Simulates t (suc n) (suc d) (item.Choose at test held failed ∷ items) (End (record { at = at; does = act.Branch d kind }) (record { to = yes; taken = When true if_held yes_puts } ∷ (record { to = no; taken = When false if_failed no_puts } ∷ [])) ∷ ps)
  read_line : (n d none some : ℕ) (at : Place) (unread read : Items) (items : List Item) (ps on_none on_some : List PieceView)
      → Leads t none on_none
      → Leads t some on_some
      → Simulates t n d (listed unread ++ items) on_none
      → Simulates t n d (listed read ++ items) on_some
      → Simulates t (suc n) (suc (suc (suc d))) (item.ReadLine at unread read ∷ items) (End (record { at = at; does = act.ReadLine None d (suc d) (suc (suc d)) }) (record { to = none; taken = NoLine } ∷ (record { to = some; taken = Line } ∷ [])) ∷ ps)
  -- both edges lead to one label
  read_value : (n d l : ℕ) (at : Place) (target : Option Ty) (items : List Item) (ps there : List PieceView)
      → Leads t l there
      → Simulates t n (suc d) items there
      → Simulates t (suc n) (suc (suc (suc d))) (item.Do at (op.Library Fgets 3 target) ∷ items) (End (record { at = at; does = act.ReadLine (Some d) d (suc d) (suc (suc d)) }) (record { to = l; taken = NoLine } ∷ (record { to = l; taken = Line } ∷ [])) ∷ ps)
  -- each value has its label
  select : (n d : ℕ) (at : Place) (kind : IntType) (object : Option NamedObject) (labels : List CaseLabel) (body : StatementTree) (items : List Item) (exits : List ExitView) (ps : List PieceView) (arms : (value : ℤ) → Selected t object labels body items exits value)
      → ((value : ℤ) → Simulates t n d (leap_in items (arms value).to) (arms value).there)
      → Simulates t (suc n) (suc d) (item.Select at object labels body ∷ items) (End (record { at = at; does = act.Switch d kind }) exits ∷ ps)
  hop : (n d l : ℕ) (items : List Item) (ps there : List PieceView) → Leads t l there → Simulates t n d items there → Simulates t (suc n) d (item.Hop ∷ items) (End (record { at = own t; does = act.Jump }) (record { to = l; taken = Always } ∷ []) ∷ ps)
  finish : (n d : ℕ) (at : Place) (ps : List PieceView) → of_entry t ≡ true → Simulates t (suc n) d [] (End (record { at = at; does = act.Stop }) [] ∷ ps)
  -- calls: the arguments are the newest values
  calls : (n d g : ℕ) (at : Place) (used : Bool) (f : FunctionView) (items : List Item) (ps : List PieceView) → IsCalled t.unit g used f → CallsThere (pieces t) g → Simulates t n (behind_own used d) items ps → Simulates t (suc n) (d + f.parameters) (item.Invoke at g f.parameters used ∷ items) (Call (record { place = at; function = g; depth = d; used = used }) ∷ ps)
  binds : (n d number depth : ℕ) (at : Place) (f : FunctionView) (items : List Item) (ps : List PieceView) → function_at t.unit t.function ≡ Some f → number + suc depth ≡ d → Simulates t n d items ps → Simulates t (suc n) (suc d) (item.Bind at number depth ∷ items) (at_place at (act.Store d number (scalar_of (local_type f number)) None) ∷ ps)
  -- the object of the result
  enters_outcome : (n d base : ℕ) (f : FunctionView) (locals : List ℕ) (items : List Item) (ps : List PieceView) → function_at t.unit t.function ≡ Some f → Names t base Outcome → Simulates t n d (item.Enters locals ∷ items) ps → Simulates t (suc n) d (item.Enters (result_object f ∷ locals) ∷ items) (at_place (own t) (act.Enter base) ∷ ps)
  outcome : (n d base : ℕ) (at : Place) (f : FunctionView) (items : List Item) (ps : List PieceView) → function_at t.unit t.function ≡ Some f → Names t base Outcome → Simulates t n (suc d) items ps → Simulates t (suc n) d (item.Outcome at ∷ items) (at_place at (act.Address d base 0) ∷ ps)
  leaves_outcome : (n d base : ℕ) (at place : Place) (f : FunctionView) (items : List Item) (ps : List PieceView) → function_at t.unit t.function ≡ Some f → Names t base Outcome → Simulates t n d items ps → Simulates t (suc n) d (item.LeaveOutcome at ∷ items) (at_place place (act.Leave base) ∷ ps)
  -- what is done only where the call's value is used
  used_outcome : (n d base : ℕ) (caller : Frame) (callers : List Frame) (place : Place) (f : FunctionView) (items : List Item) (ps : List PieceView) → t.callers ≡ caller ∷ callers → caller.used ≡ true → function_at t.unit t.function ≡ Some f → Names t base Outcome → Simulates t n (suc d) items ps → Simulates t (suc n) d (item.Outcome caller.at ∷ items) (DoIfUsed (record { at = place; does = act.Address d base 0 }) ∷ ps)
  does_if_used : (n d next : ℕ) (caller : Frame) (callers : List Frame) (place : Place) (operation : Operation) (a : Act) (items : List Item) (ps : List PieceView) → t.callers ≡ caller ∷ callers → caller.used ≡ true → IsAct operation a d next → Simulates t n next items ps → Simulates t (suc n) d (item.Do caller.at operation ∷ items) (DoIfUsed (record { at = place; does = a }) ∷ ps)
  by_unused : (n d : ℕ) (caller : Frame) (callers : List Frame) (step : Step) (items : List Item) (ps : List PieceView) → t.callers ≡ caller ∷ callers → caller.used ≡ false → Simulates t n d items ps → Simulates t n d items (DoIfUsed step ∷ ps)
  -- the function that waits goes on
  goes_back : (n : ℕ) (caller : Frame) (callers : List Frame) → t.callers ≡ caller ∷ callers → Simulates t (suc n) (behind_own caller.used 0) [] []

-- each function that a reached one calls follows in its template, whoever waits: its arguments are pending, and it
-- begins with its prologue
abbrev pub AllSimulate : Templates → Type 0
AllSimulate t = (h g : ℕ) (f : FunctionView) (caller : Frame) (callers : List Frame) → Reached t h → CallsThere (t.of h).pieces g → IsCalled t.unit g caller.used f → (n : ℕ) → Simulates (activation t g (caller ∷ callers)) n f.parameters (prologue f f.parameters ++ body f) (t.of g).pieces
