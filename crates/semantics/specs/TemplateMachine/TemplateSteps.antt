-- Steps of templates: one piece after the other. Instructions are steps of the program; a label, a call and a return
-- only lead to them.
use Rattle.std.specs.Prelude.{ℕ, zero, suc, ◌+◌, ◌-◌, ℤ, cond, nat_lt, true, false, Bool, List, [], ◌∷◌, ◌++◌, map, Option, Some, None}
use Rattle.cc_base.specs.declared.diagnostics.Place.{Place}
use Rattle.c_layout.specs.CheckedUnits.{UnitView}
use Rattle.memory_model.specs.Memory.Scalars.{Scalar}
use Rattle.memory_model.specs.Effects.NumberedTables.{empty_table}
use Rattle.memory_model.specs.Effects.UnitStarts.{entry_parameters, start_world}
use Rattle.memory_model.specs.Effects.Worlds.{World, Reply, goes, stops, behind, unviolated, Violation}
use Rattle.lower_templates.specs.Worklist.Acts.{Act, Step}
use Rattle.lower_templates.specs.Worklist.Pieces.{PieceView, Do, DoIfUsed, End, Mark, Call, ExitView}
use Rattle.lower_templates.specs.declared.worklist.template_pieces.OwnCall.{OwnCall}
use Rattle.semantics.specs.SourceMachine.SourceRuns.{violations, name_parameters}
use Rattle.semantics.specs.TemplateMachine.TemplateStates.{Templates, Frame, TemplateState, stuck_at, on, with_world, TemplateRun, running, stopped}
use Rattle.semantics.specs.TemplateMachine.TemplateActs.{perform}
use Rattle.semantics.specs.TemplateMachine.TemplateExits.{end_block}

-- what a step comes to, and the place of its instruction, where it is one
pub record Stepped : Type 0 where
  pub reply : Reply TemplateState
  pub at : Option Place

abbrev pub quiet : TemplateState → Stepped
quiet s = record { reply = on s; at = None }

abbrev pub instruction : Place → Reply TemplateState → Stepped
instruction at reply = record { reply = reply; at = Some at }

-- ---- calls

-- the temporaries from the call's first one on
abbrev pub from_temp : ℕ → (ℕ → Option Scalar) → ℕ → Option Scalar
from_temp depth temps n = temps (depth + n)

abbrev pub up_to : ℕ → (ℕ → Option Scalar) → (ℕ → Option Scalar) → ℕ → Option Scalar
up_to depth old new n = elim (nat_lt n depth) [ true ↦ old n | false ↦ new (n - depth) ]

abbrev pub waiting : TemplateState → OwnCall → Frame
waiting s c = record { function = s.function; rest = s.rest; temps = s.temps; names = s.names; depth = c.depth; at = c.place; used = c.used }

abbrev pub call : Templates → OwnCall → TemplateState → TemplateState
call t c s = record { function = c.function; rest = (t.of c.function).pieces; temps = from_temp c.depth s.temps; names = empty_table; frames = waiting s c ∷ s.frames; world = s.world }

-- the function that waits goes on with what the call has left in the temporaries
abbrev pub back_to : TemplateState → Frame → List Frame → TemplateState
back_to s f fs = record { function = f.function; rest = f.rest; temps = up_to f.depth f.temps s.temps; names = f.names; frames = fs; world = s.world }

abbrev pub return_to : TemplateState → List Frame → Stepped
return_to s [] = record { reply = stuck_at s; at = None }
return_to s (f ∷ fs) = quiet (back_to s f fs)

-- what is done only where the call's value is used, at the call's place
abbrev pub if_used : Templates → Act → TemplateState → List Frame → Stepped
if_used t a s [] = record { reply = stuck_at s; at = None }
if_used t a s (f ∷ fs) = cond f.used (instruction f.at (perform t a s)) (quiet s)

-- ---- steps

-- what a piece does; the state has what follows it
abbrev pub piece : Templates → PieceView → TemplateState → Stepped
piece t (Do i) s = instruction i.at (perform t i.does s)
piece t (DoIfUsed i) s = if_used t i.does s s.frames
piece t (End i exits) s = instruction i.at (end_block t i.does exits s)
piece t (Mark l) s = quiet s
piece t (Call c) s = quiet (call t c s)

abbrev pub step_by : Templates → TemplateState → List PieceView → Stepped
step_by t s [] = return_to s s.frames
step_by t s (p ∷ ps) = piece t p (record s { rest = ps })

-- a step begins with no violation of its own
abbrev pub step : Templates → TemplateState → Stepped
step t s = step_by t (with_world s (unviolated s.world)) s.rest

-- ---- runs

abbrev pub run_by : List Violation → Option Place → Reply TemplateState → TemplateRun
run_by found at (goes s w) = running (with_world s w) (found ++ violations at w)
run_by found at (stops why w) = stopped why w (found ++ violations at w)

abbrev pub stepped_on : List Violation → Stepped → TemplateRun
stepped_on found x = run_by found x.at x.reply

-- one step more; a run that has stopped stays as it is
abbrev pub next : Templates → TemplateRun → TemplateRun
next t (running s found) = stepped_on found (step t s)
next t (stopped why w found) = stopped why w found

abbrev pub steps_from : Templates → ℕ → TemplateRun → TemplateRun
steps_from t zero r = r
steps_from t (suc n) r = steps_from t n (next t r)

-- ---- the start

abbrev pub first_standing : Templates → World → TemplateState
first_standing t w = record { function = t.unit.entry; rest = (t.of t.unit.entry).pieces; temps = empty_table; names = name_parameters t.unit 0 (entry_parameters t.unit); frames = []; world = w }

abbrev pub begun_by : Templates → Reply (Unit {0}) → TemplateRun
begun_by t (goes _ w) = running (first_standing t w) []
begun_by t (stops why w) = stopped why w []

-- a run before its first step
abbrev pub template_begin : Templates → List ℤ → TemplateRun
template_begin t draws = begun_by t (start_world t.unit draws)
