-- Calls of functions of the unit, and returns from them.
use Rattle.std.specs.Prelude.{ℕ, suc, ◌-◌, Bool, true, false, cond, List, [], ◌∷◌, ◌++◌, replicate, slice_get}
use Rattle.cc_base.specs.declared.diagnostics.Place.{Place}
use Rattle.c_layout.specs.CheckedUnits.{FunctionView, UnitView}
use Rattle.c_layout.specs.declared.checked_tree.checked_terms.ObjectRef.TheVariants.{Local}
use Rattle.lower_templates.specs.Worklist.TermKinds.{is_void, scalar_of}
use Rattle.lower_functions.specs.Functions.Functions.{numbers_from, local_type}
use Rattle.memory_model.specs.Memory.Scalars.{Scalar}
use Rattle.memory_model.specs.Effects.NumberedTables.{empty_table}
use Rattle.memory_model.specs.Effects.Worlds.{Reply, behind}
use Rattle.memory_model.specs.Effects.Accesses.{store}
use Rattle.semantics.specs.SourceMachine.Items as item
use Rattle.semantics.specs.SourceMachine.Items.{Item}
use Rattle.semantics.specs.SourceMachine.Operations as op
use Rattle.semantics.specs.SourceMachine.StatementItems.{body}
use Rattle.semantics.specs.SourceMachine.Scopes.{open_scopes, all_of}
use Rattle.semantics.specs.SourceMachine.SourceStates.{Frame, State, stuck_at, if_some, function_at, with_function, result_object}
use Rattle.semantics.specs.SourceMachine.ObjectSteps.{on, leave}

-- ---- calls

abbrev pub with_result : FunctionView → List ℕ → List ℕ
with_result f objects = cond (is_void f.returns) objects (objects ++ result_object f ∷ [])

-- the newest of so many arguments is at depth 0 and belongs to the last parameter
abbrev pub bind : FunctionView → ℕ → ℕ → List Item
bind f count n = item.Object f.at (Local n) 0 ∷ (item.Bind f.at n (count - suc n) ∷ [])

abbrev pub bind_all : FunctionView → ℕ → List ℕ → List Item
bind_all f count [] = []
bind_all f count (n ∷ ns) = bind f count n ++ bind_all f count ns

-- all parameters and the result are entered, then the arguments are stored, then the body is done
abbrev pub prologue : FunctionView → ℕ → List Item
prologue f count = item.Enters (with_result f (numbers_from 0 f.parameters)) ∷ (bind_all f count (numbers_from 0 f.parameters) ++ replicate count item.Drop)

abbrev pub waiting : State → Place → Bool → Frame
waiting s at used = record { function = s.function; names = s.names; control = s.control; at = at; used = used }

abbrev pub invoke : UnitView → State → Place → ℕ → ℕ → Bool → Reply State
invoke u s at g count used = if_some s (function_at u g) (λ f. on (record {
  function = g;
  names = empty_table;
  control = prologue f count ++ body f;
  values = s.values;
  frames = waiting s at used ∷ s.frames;
  world = s.world;
}))

-- the newest value is the pointer to a parameter
abbrev pub bind_value : UnitView → State → FunctionView → ℕ → ℕ → List Scalar → Reply State
bind_value u s f n depth [] = stuck_at s
bind_value u s f n depth (p ∷ vs) = if_some s (slice_get vs depth) (λ v. behind (store u.model (scalar_of (local_type f n)) p v s.world) (λ _ w. on (record s { values = vs; world = w })))

abbrev pub bind_parameter : UnitView → State → ℕ → ℕ → Reply State
bind_parameter u s n depth = with_function u s (λ f. bind_value u s f n depth s.values)

-- ---- returns

-- the result is loaded where the call's value is used
abbrev pub result_loaded : FunctionView → Place → Bool → List Item
result_loaded f at true = item.Outcome at ∷ (item.Do at (op.Load (scalar_of f.returns)) ∷ [])
result_loaded f at false = []

-- and its object is left in any case
abbrev pub epilogue : FunctionView → Frame → List Item
epilogue f caller = cond (is_void f.returns) [] (result_loaded f caller.at caller.used ++ item.LeaveOutcome caller.at ∷ [])

-- a function that was called leaves its parameters; a return goes to the end of the function
abbrev pub behind_body : FunctionView → List Item → List Frame → List Item
behind_body f hop [] = []
behind_body f hop (caller ∷ callers) = item.Leaves (numbers_from 0 f.parameters) ∷ (hop ++ epilogue f caller)

-- at a return all blocks are left, innermost first
abbrev pub leave_function : UnitView → State → Reply State
leave_function u s = with_function u s (λ f. on (record s { control = item.Leaves (all_of (open_scopes s.control)) ∷ behind_body f (item.Hop ∷ []) s.frames }))

abbrev pub end_body : UnitView → State → Reply State
end_body u s = with_function u s (λ f. on (record s { control = behind_body f [] s.frames }))

abbrev pub leave_outcome : UnitView → State → Reply State
leave_outcome u s = with_function u s (λ f. leave s (result_object f))

-- the function that waits goes on
abbrev pub back_to : State → Frame → List Frame → State
back_to s caller callers = record s { function = caller.function; names = caller.names; control = caller.control; frames = callers }
