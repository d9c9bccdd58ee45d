-- Runs of templates, and of a program in which they are laid out.
use Rattle.std.specs.Prelude.{◌≡◌, ◌<◌, ◌⊎◌, ℕ, ℤ, List, [], ◌∷◌, Option, Some, None}
use Rattle.c_layout.specs.CheckedUnits.{UnitView}
use Rattle.memory_model.specs.Effects.Worlds.{Stuck}
use Rattle.lower_templates.specs.Views.ProgramViews.{FlowView}
use Rattle.semantics.specs.CfgMachine.FlowStates as flow
use Rattle.semantics.specs.CfgMachine.FlowStates.{FlowRun}
use Rattle.semantics.specs.CfgMachine.FlowSteps.{flow_steps}
use Rattle.semantics.specs.CfgMachine.FlowStarts.{flow_begin}
use Rattle.semantics.specs.TemplateMachine.TemplateStates as template
use Rattle.semantics.specs.TemplateMachine.TemplateStates.{Templates, Frame, TemplateState, TemplateRun, running}
use Rattle.semantics.specs.TemplateMachine.TemplateSteps.{template_begin, steps_from}
use Rattle.simulation_layout.specs.InlinedLayout.Copies.{Inlined, Copy}
use Rattle.simulation_layout.specs.InlinedLayout.Layouts.{IsLaidOut}

abbrev pub templates : Inlined → Templates
templates o = record { unit = o.unit; of = o.of }

-- a program with the structs and the model of its unit
abbrev pub of_unit : UnitView → FlowView → FlowView
of_unit u f = record f { structs = u.structs; model = u.model }

-- a function that is about to return names no object any more
abbrev pub HasLeft : List Frame → (ℕ → Option ℕ) → Type 0
HasLeft [] names = Unit {0}
HasLeft (f ∷ fs) names = (slot : ℕ) → names slot ≡ None

abbrev pub LeavesAll : TemplateRun → Type 0
LeavesAll (running s found) = s.rest ≡ [] → HasLeft s.frames s.names
LeavesAll r = Unit {0}

-- both have come to the same memory with the same draws left, have violated the same, and have stopped for the same
-- cause or not at all
pub record Agree (a : TemplateRun) (b : FlowRun) : Type 0 where
  pub memory : (template.world_of a).memory ≡ (flow.world_of b).memory
  pub draws : (template.world_of a).draws ≡ (flow.world_of b).draws
  pub found : template.found_in a ≡ flow.found_in b
  pub why : template.why_of a ≡ flow.why_of b

-- nothing is said of a run that is stuck: where a template looks for what is not there, the program may find what is
-- another one's
abbrev pub AgreeUnlessStuck : TemplateRun → FlowRun → Type 0
AgreeUnlessStuck a b = (template.why_of a ≡ Some Stuck) ⊎ Agree a b

-- each run of the templates in which each called function leaves what it enters is one of the program
abbrev pub LaidRunsAreTheSame : Type 0
LaidRunsAreTheSame = (o : Inlined) (c : Copy) → IsLaidOut o c → (draws : List ℤ) (n : ℕ) → ((j : ℕ) → j < n → LeavesAll (steps_from (templates o) j (template_begin (templates o) draws)))
    → (m : ℕ) × AgreeUnlessStuck (steps_from (templates o) n (template_begin (templates o) draws)) (flow_steps (of_unit o.unit o.program) m (flow_begin o.unit (of_unit o.unit o.program) draws))
