-- Runs of the source under some numbers of the outside.
use Rattle.std.specs.Prelude.{ℕ, zero, suc, ◌+◌, ℤ, List, [], ◌∷◌, ◌++◌, map, Option, Some, None}
use Rattle.cc_base.specs.declared.diagnostics.Place.{Place}
use Rattle.c_layout.specs.CheckedUnits.{FunctionView, UnitView}
use Rattle.memory_model.specs.Effects.NumberedTables.{put_at, empty_table}
use Rattle.memory_model.specs.Effects.Worlds.{World, Why, Reply, goes, stops, Violation}
use Rattle.memory_model.specs.Effects.UnitStarts.{parameter_instance, entry_parameters, start_world}
use Rattle.semantics.specs.SourceMachine.StatementItems.{body}
use Rattle.semantics.specs.SourceMachine.Items.{Item}
use Rattle.semantics.specs.SourceMachine.SourceStates.{State, with_world, function_at}
use Rattle.semantics.specs.SourceMachine.SourceSteps.{Turned, turn}

-- a run with what it has violated so far and how many steps it has made: it goes on in a state, or has stopped,
-- with the world behind its last turn
pub data SourceRun : Type 0 where
  running : (state : State) (found : List Violation) (steps : ℕ) → SourceRun
  stopped : (why : Why) (world : World) (found : List Violation) (steps : ℕ) → SourceRun

abbrev pub world_of : SourceRun → World
world_of (running s found steps) = s.world
world_of (stopped why w found steps) = w

abbrev pub found_in : SourceRun → List Violation
found_in (running s found steps) = found
found_in (stopped why w found steps) = found

abbrev pub steps_of : SourceRun → ℕ
steps_of (running s found steps) = steps
steps_of (stopped why w found steps) = steps

abbrev pub why_of : SourceRun → Option Why
why_of (running s found steps) = None
why_of (stopped why w found steps) = Some why

-- ---- turns

abbrev pub counted : Option Place → ℕ
counted None = 0
counted (Some at) = 1

abbrev pub at_place : Option Place → Place
at_place None = record { file = 0; line = 0; col = 0 }
at_place (Some at) = at

abbrev pub violations : Option Place → World → List Violation
violations at w = map (λ r. record { at = at_place at; rule = r }) w.violated

abbrev pub run_by : List Violation → ℕ → Option Place → Reply State → SourceRun
run_by found steps at (goes s w) = running (with_world s w) (found ++ violations at w) (steps + counted at)
run_by found steps at (stops why w) = stopped why w (found ++ violations at w) (steps + counted at)

abbrev pub turned_on : List Violation → ℕ → Turned → SourceRun
turned_on found steps t = run_by found steps t.counted t.reply

-- one turn more; a run that has stopped stays as it is
abbrev pub next : UnitView → SourceRun → SourceRun
next u (running s found steps) = turned_on found steps (turn u s)
next u (stopped why w found steps) = stopped why w found steps

abbrev pub turns_from : UnitView → SourceRun → ℕ → SourceRun
turns_from u r zero = r
turns_from u r (suc n) = next u (turns_from u r n)

-- ---- the start

-- the entry's parameters, from one on, name their instances
abbrev pub name_parameters : {A : Type 0} → UnitView → ℕ → List A → ℕ → Option ℕ
name_parameters u n [] = empty_table
name_parameters u n (p ∷ ps) = put_at (name_parameters u (suc n) ps) n (parameter_instance u n)

abbrev pub body_of : Option FunctionView → List Item
body_of None = []
body_of (Some f) = body f

abbrev pub first_state : UnitView → World → State
first_state u w = record { function = u.entry; names = name_parameters u 0 (entry_parameters u); control = body_of (function_at u u.entry); values = []; frames = []; world = w }

abbrev pub begun_by : UnitView → Reply (Unit {0}) → SourceRun
begun_by u (goes _ w) = running (first_state u w) [] 0
begun_by u (stops why w) = stopped why w [] 0

-- a run before its first turn
abbrev pub source_begin : UnitView → List ℤ → SourceRun
source_begin u draws = begun_by u (start_world u draws)

-- the run of so many turns
abbrev pub Run : UnitView → List ℤ → ℕ → SourceRun
Run u draws n = turns_from u (source_begin u draws) n
