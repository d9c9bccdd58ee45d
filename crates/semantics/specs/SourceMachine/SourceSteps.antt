-- Turns of the source: one item after the other. Those that are steps are counted; the others lead to them.
use Rattle.std.specs.Prelude.{ℕ, Bool, true, false, List, [], ◌∷◌, drop, Option, Some, None}
use Rattle.cc_base.specs.declared.diagnostics.Place.{Place}
use Rattle.c_layout.specs.CheckedUnits.{FunctionView, UnitView}
use Rattle.memory_model.specs.Memory.Scalars.{Scalar}
use Rattle.memory_model.specs.Effects.IntegerEffects.{truth}
use Rattle.memory_model.specs.Effects.Worlds.{Ended, Reply, stops, behind, unviolated}
use Rattle.semantics.specs.SourceMachine.Items as item
use Rattle.semantics.specs.SourceMachine.Items.{Item}
use Rattle.semantics.specs.SourceMachine.Operations.{Operation, perform}
use Rattle.semantics.specs.SourceMachine.TermItems.{address_items}
use Rattle.semantics.specs.SourceMachine.ConditionItems.{term_items}
use Rattle.semantics.specs.SourceMachine.StatementItems.{of_statement, while_iteration, do_iteration, for_iteration}
use Rattle.semantics.specs.SourceMachine.Scopes.{jump, past_loop, past_iteration}
use Rattle.semantics.specs.SourceMachine.LabelSearch.{from_label}
use Rattle.semantics.specs.SourceMachine.SourceStates.{Frame, State, first_do, pushed, stuck_at, if_some, function_at, with_function}
use Rattle.semantics.specs.SourceMachine.ObjectSteps.{on, point_to, point_to_literal, point_to_outcome, enter, leave, change}
use Rattle.semantics.specs.SourceMachine.BranchSteps.{choose, read_line, select}
use Rattle.semantics.specs.SourceMachine.CallSteps.{invoke, bind_parameter, leave_function, end_body, leave_outcome, back_to}

-- what a turn comes to, and the place of its step, where it is one
pub record Turned : Type 0 where
  pub reply : Reply State
  pub counted : Option Place

abbrev pub quiet : Reply State → Turned
quiet reply = record { reply = reply; counted = None }

abbrev pub step : Place → Reply State → Turned
step at reply = record { reply = reply; counted = Some at }

-- other items in the place of one
abbrev pub instead : List Item → State → Turned
instead items s = quiet (on (first_do items s))

-- ---- values

abbrev pub operate : UnitView → Operation → State → Reply State
operate u operation s = behind (perform u operation s.values s.world) (λ vs w. on (record s { values = vs; world = w }))

abbrev pub again : State → List Scalar → Reply State
again s [] = stuck_at s
again s (v ∷ vs) = on (pushed v s)

-- ---- objects

abbrev pub place_of : Option FunctionView → Place
place_of None = record { file = 0; line = 0; col = 0 }
place_of (Some f) = f.at

-- steps that have no place in the source have that of their function
abbrev pub own_place : UnitView → State → Place
own_place u s = place_of (function_at u s.function)

abbrev pub enter_all : UnitView → State → List ℕ → Turned
enter_all u s [] = quiet (on s)
enter_all u s (n ∷ ns) = step (own_place u s) (enter u (first_do (item.Enters ns ∷ []) s) n)

abbrev pub leave_all : UnitView → State → List ℕ → Turned
leave_all u s [] = quiet (on s)
leave_all u s (n ∷ ns) = step (own_place u s) (leave (first_do (item.Leaves ns ∷ []) s) n)

-- ---- jumps

abbrev pub jump_to : State → List Item → State
jump_to s to = record s { control = jump s.control to }

abbrev pub go_to : UnitView → State → ℕ → Reply State
go_to u s n = with_function u s (λ f. if_some s (from_label u f n) (λ to. on (jump_to s to)))

-- ---- turns

abbrev pub is_entry : List Frame → Bool
is_entry [] = true
is_entry (f ∷ fs) = false

-- what an item does; the state has what follows it
abbrev pub act : UnitView → Item → State → Turned
act u (item.Value e) s = instead (term_items u true e) s
act u (item.Unused e) s = instead (term_items u false e) s
act u (item.Address l) s = instead (address_items u l) s
act u (item.Do at operation) s = step at (operate u operation s)
act u (item.Truth b) s = quiet (on (pushed (truth b) s))
act u item.Again s = quiet (again s s.values)
act u item.Drop s = quiet (on (record s { values = drop 1 s.values }))
act u (item.Object at o offset) s = step at (point_to u s o offset)
act u (item.Literal at n) s = step at (point_to_literal u s n)
act u (item.Outcome at) s = step at (point_to_outcome u s)
act u (item.OnObject at n how) s = step at (change s n how)
act u (item.Choose at test held failed) s = step at (choose u test held failed s s.values)
act u (item.ReadLine at none some) s = step at (read_line u none some s s.values)
act u (item.Statement statement) s = instead (of_statement u (is_entry s.frames) statement) s
act u (item.WhileIteration c statement) s = instead (while_iteration u c statement) s
act u (item.DoIteration statement c) s = instead (do_iteration u statement c) s
act u (item.ForIteration c clause statement) s = instead (for_iteration u c clause statement) s
act u item.IterationEnd s = quiet (on s)
act u item.LoopEnd s = quiet (on s)
act u (item.Select at o labels statement) s = step at (select u o labels statement s s.values)
act u (item.Enters objects) s = enter_all u s objects
act u (item.Leaves objects) s = leave_all u s objects
act u item.Hop s = step (own_place u s) (on s)
act u (item.GoTo n) s = quiet (go_to u s n)
act u item.BreakOut s = quiet (on (jump_to s (past_loop s.control)))
act u item.NextIteration s = quiet (on (jump_to s (past_iteration s.control)))
act u item.LeaveFunction s = quiet (leave_function u s)
act u item.EndBody s = quiet (end_body u s)
act u (item.Invoke at g count used) s = quiet (invoke u s at g count used)
act u (item.Bind at n depth) s = step at (bind_parameter u s n depth)
act u (item.LeaveOutcome at) s = step at (leave_outcome u s)

-- a function has nothing left to do: the one that waits goes on, and the run ends where none waits
abbrev pub return_to : UnitView → State → List Frame → Turned
return_to u s [] = step (own_place u s) (stops Ended s.world)
return_to u s (f ∷ fs) = quiet (on (back_to s f fs))

abbrev pub turn_by : UnitView → State → List Item → Turned
turn_by u s [] = return_to u s s.frames
turn_by u s (i ∷ items) = act u i (record s { control = items })

-- a turn begins with no violation of its own
abbrev pub turn : UnitView → State → Turned
turn u s = turn_by u (record s { world = unviolated s.world }) s.control
