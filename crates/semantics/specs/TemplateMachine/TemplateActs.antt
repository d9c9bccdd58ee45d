-- What the instructions of templates do that do not end their block: those on objects do what the source does to
-- the object that is named, all others what they do in a control-flow program.
use Rattle.std.specs.Prelude.{ℕ, [], ◌∷◌, List, Option, Some, None}
use Rattle.c_layout.specs.CheckedUnits.{UnitView}
use Rattle.memory_model.specs.Memory.Scalars.{Scalar}
use Rattle.memory_model.specs.Effects.NumberedTables.{empty_table}
use Rattle.memory_model.specs.Effects.Worlds.{World, Reply, goes, stops, behind, Stuck}
use Rattle.lower_templates.specs.Worklist.Acts as act
use Rattle.lower_templates.specs.Worklist.Acts.{Act}
use Rattle.lower_templates.specs.Worklist.Pieces.{NameView, Local, Outcome, Static, Literal, Allocation}
use Rattle.lower_templates.specs.Views.ProgramViews.{FlowView}
use Rattle.semantics.specs.CfgMachine.FlowStates as flow
use Rattle.semantics.specs.CfgMachine.FlowActs as flow_acts
use Rattle.semantics.specs.SourceMachine.Items.{Change, Forget, Clear, Spell}
use Rattle.semantics.specs.SourceMachine.SourceStates.{State}
use Rattle.semantics.specs.SourceMachine.ObjectSteps as source
use Rattle.semantics.specs.TemplateMachine.TemplateStates.{Templates, TemplateState, stuck_at, if_some, put, with_name, local_of, object_of, scene}

-- ---- values

-- a program without blocks and bases, for acts that name none
abbrev pub no_program : UnitView → FlowView
no_program u = record { blocks = []; edges = []; bases = []; temps = 0; initial = []; parameters = []; entry = record { file = 0; line = 0; col = 0 }; structs = u.structs; width = 0; model = u.model }

abbrev pub in_flow : TemplateState → flow.ProgramState
in_flow s = record { block = 0; at = 0; temps = s.temps; bases = empty_table; world = s.world }

abbrev pub from_flow : TemplateState → flow.ProgramState → World → Reply TemplateState
from_flow s f w = goes (record s { temps = f.temps; world = w }) w

abbrev pub operated : Templates → TemplateState → Act → Reply TemplateState
operated t s a = behind (flow_acts.perform (no_program t.unit) a (in_flow s)) (from_flow s)

-- ---- objects

-- the pointer that the source pushes
abbrev pub taken : TemplateState → ℕ → List Scalar → World → Reply TemplateState
taken s to [] w = stops Stuck w
taken s to (v ∷ vs) w = goes (put s to v w) w

abbrev pub pointed : TemplateState → ℕ → State → World → Reply TemplateState
pointed s to made w = taken s to made.values w

abbrev pub addressed : Templates → TemplateState → ℕ → ℕ → NameView → Reply TemplateState
addressed t s to offset (Literal n) = behind (source.point_to_literal t.unit (scene s) n) (pointed s to)
addressed t s to offset name = if_some s (object_of t s name) (λ o. behind (source.point_to t.unit (scene s) o offset) (pointed s to))

abbrev pub from_scene : TemplateState → State → World → Reply TemplateState
from_scene s made w = goes (record s { names = made.names; world = w }) w

abbrev pub on_local : Templates → TemplateState → ℕ → (ℕ → Reply State) → Reply TemplateState
on_local t s base effect = with_name t s base (λ name. if_some s (local_of t s name) (λ n. behind (effect n) (from_scene s)))

abbrev pub changed : Templates → TemplateState → ℕ → Change → Reply TemplateState
changed t s base how = on_local t s base (λ n. source.change (scene s) n how)

-- ---- acts

abbrev pub perform : Templates → Act → TemplateState → Reply TemplateState
perform t (act.Address to base offset) s = with_name t s base (addressed t s to offset)
perform t (act.Enter base) s = on_local t s base (source.enter t.unit (scene s))
perform t (act.Leave base) s = on_local t s base (source.leave (scene s))
perform t (act.Forget base) s = changed t s base Forget
perform t (act.Clear base) s = changed t s base Clear
perform t (act.Spell base offset room text) s = changed t s base (Spell offset room text)
perform t a s = operated t s a
