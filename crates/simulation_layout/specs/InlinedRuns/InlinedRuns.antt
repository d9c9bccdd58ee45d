-- Runs of the settled templates of a unit, and of the program that it is lowered to.
use Rattle.std.specs.Prelude.{◌≡◌, ◌≤◌, ◌<◌, ℕ, ℤ, List, [], length, Option, Some, None}
use Rattle.cc_base.specs.declared.limit_table.Limits.{Limits}
use Rattle.c_layout.specs.CheckedUnits.{FunctionView, UnitView}
use Rattle.lower_templates.specs.Worklist.Pieces.{TemplateView}
use Rattle.lower_tables.specs.Counts.Preparations.{IsTemplateOf, Reaches}
use Rattle.lower_templates.specs.Views.ProgramViews.{FlowView}
use Rattle.semantics.specs.CfgMachine.FlowSteps.{flow_steps}
use Rattle.semantics.specs.CfgMachine.FlowStarts.{flow_begin}
use Rattle.lower.specs.Inlining.Lowerings.{IsLowering}
use Rattle.lower.specs.Inlining.Inlinings.{template_at}
use Rattle.semantics.specs.TemplateMachine.TemplateStates.{Templates}
use Rattle.semantics.specs.TemplateMachine.TemplateSteps.{template_begin, steps_from}
use Rattle.simulation_layout.specs.Normalized.NormalizedRuns.{LabelsStandOnce, templates, ReturnsWith, NamesNothing}
use Rattle.simulation_layout.specs.InlinedLayout.LaidRuns.{LeavesAll, AgreeUnlessStuck}
use Rattle.simulation_layout.specs.Copies.LowTemporaries.{HasLowTemps}
use Rattle.simulation_layout.specs.Copies.FitTemplates.{IsFit}

-- the template of a function as it is made: its labels stand once, and it names what is there
pub record IsMade (u : UnitView) (n : ℕ) (t : TemplateView) : Type 0 where
  pub function : FunctionView
  pub is_template : IsTemplateOf u n function t
  pub once : LabelsStandOnce t
  pub fit : IsFit u function t

-- a function that has no template is not reached
abbrev pub template_or : Option TemplateView → TemplateView
template_or None = record { pieces = []; names = []; labels = 0 }
template_or (Some t) = t

abbrev pub normalized_of : List (Option TemplateView) → ℕ → TemplateView
normalized_of ts n = template_or (template_at ts n)

-- a program that a unit is lowered to, and what is asked of the unit: how its templates are made, no more parameters of
-- its entry than local objects, and temporaries below the last number
pub record IsInlined (u : UnitView) (limits : Limits) (f : FlowView) : Type 0 where
  pub is : IsLowering u limits f
  pub made : ℕ → TemplateView
  pub are_made : (n : ℕ) → Reaches u n → IsMade u n (made n)
  pub few : is.entry.parameters ≤ length is.entry.locals
  pub low : HasLowTemps f

-- the settled templates of a unit that is lowered
abbrev pub normalized_templates : (u : UnitView) (limits : Limits) (f : FlowView) → IsInlined u limits f → Templates
normalized_templates u limits f o = templates u (normalized_of o.is.templates)

-- each run of the settled templates in which each called function leaves what it enters is one of the program
abbrev pub InlinedRunsAreTheSame : Type 0
InlinedRunsAreTheSame = (u : UnitView) (limits : Limits) (f : FlowView) (o : IsInlined u limits f) (draws : List ℤ) (n : ℕ) → ((j : ℕ) → j < n → LeavesAll (steps_from (normalized_templates u limits f o) j (template_begin (normalized_templates u limits f o) draws)))
    → (m : ℕ) × AgreeUnlessStuck (steps_from (normalized_templates u limits f o) n (template_begin (normalized_templates u limits f o) draws)) (flow_steps f m (flow_begin u f draws))

-- the templates of a unit as they are made
abbrev pub made_templates : (u : UnitView) (limits : Limits) (f : FlowView) → IsInlined u limits f → Templates
made_templates u limits f o = templates u o.made

-- each run of the templates as they are made in which each called function leaves what it enters is one of the program
abbrev pub LoweredRunsAreTheSame : Type 0
LoweredRunsAreTheSame = (u : UnitView) (limits : Limits) (f : FlowView) (o : IsInlined u limits f) (draws : List ℤ) → ((n : ℕ) → ReturnsWith NamesNothing (steps_from (made_templates u limits f o) n (template_begin (made_templates u limits f o) draws)))
    → (n : ℕ) → (m : ℕ) × AgreeUnlessStuck (steps_from (made_templates u limits f o) n (template_begin (made_templates u limits f o) draws)) (flow_steps f m (flow_begin u f draws))
