-- Checked units that are lowered to well-formed programs, and what is asked of them still.
use Rattle.std.specs.Prelude.{◌≡◌, ◌≤◌, ℕ, ◌-◌, ◌^◌, ℤ, true, List, Some, Ok}
use Rattle.cc_base.specs.declared.limit_table.Limits.{Limits}
use Rattle.c_layout.specs.DeclarationTrees.{ExternalTree}
use Rattle.c_layout.specs.CheckedTrees.{statement_trees}
use Rattle.c_layout.specs.CheckedUnits.{FunctionView, UnitView}
use Rattle.c_layout.specs.declared.data_model.Model.{Model}
use Rattle.c_types_theorems.specs.UnitChecks.{check}
use Rattle.cfg.specs.declared.programs.Flow.{Flow}
use Rattle.cfg.specs.WellFormed.{is_well_formed}
use Rattle.lower_templates.specs.Views.ProgramViews.{flow_view}
use Rattle.semantics.specs.CfgMachine.FlowSteps.{flow_steps}
use Rattle.semantics.specs.CfgMachine.FlowStarts.{flow_begin}
use Rattle.lower_templates.specs.Worklist.Pieces.{NameView, TemplateView}
use Rattle.lower_tables.specs.Counts.Preparations.{IsTemplateOf, Reaches}
use Rattle.lower_template_theorems.specs.PendingLabels.Marks.{IsLabelled}
use Rattle.lower_template_theorems.specs.Names.NamedTrees.{NamesFunction}
use Rattle.lower_template_theorems.specs.Switches.SwitchedTrees.{SwitchesStatements}
use Rattle.lower.specs.Inlining.Lowerings.{IsLowering}
use Rattle.semantics.specs.TemplateMachine.TemplateStates.{Templates}
use Rattle.semantics.specs.TemplateMachine.TemplateSteps.{template_begin, steps_from}
use Rattle.simulation_layout.specs.Normalized.NormalizedRuns.{templates, ReturnsWith, NamesNothing}
use Rattle.simulation_layout.specs.InlinedLayout.LaidRuns.{AgreeUnlessStuck}
use Rattle.simulation_layout.specs.Copies.FitTemplates.{type_named, IsInteger}
use Rattle.simulation_layout.specs.Inlining.NameRanges.{IsNameThere}

-- an object that is named has an integer type
abbrev pub IsIntegerNamed : UnitView → FunctionView → NameView → Type 0
IsIntegerNamed u f x = IsInteger (type_named u f (Some x))

-- the template of a function whose labels stand once, and whose trees name what is there and switch on integers; it has
-- no more labels than numbers of 32 bits
pub record IsPlainlyMade (u : UnitView) (n : ℕ) (t : TemplateView) : Type 0 where
  pub function : FunctionView
  pub is_template : IsTemplateOf u n function t
  pub labelled : IsLabelled function
  pub few : t.labels ≤ 2 ^ 32 - 1
  pub named : NamesFunction (IsNameThere u function) function
  pub switches : SwitchesStatements (IsIntegerNamed u function) (statement_trees function.body)

-- a checked unit that is lowered to a well-formed program, with no more temporaries than numbers
pub record IsProgramOf (u : UnitView) (limits : Limits) (flow : Flow) : Type 0 where
  pub is : IsLowering u limits (flow_view flow)
  pub model : Model
  pub name : List ℕ
  pub tree : List ExternalTree
  pub checked : check model name tree ≡ Ok u
  pub good : is_well_formed limits flow ≡ true
  pub room : limits.temps ≤ 2 ^ 32 - 1
  pub made : ℕ → TemplateView
  pub are_made : (n : ℕ) → Reaches u n → IsPlainlyMade u n (made n)

abbrev pub templates_of : (u : UnitView) (limits : Limits) (flow : Flow) → IsProgramOf u limits flow → Templates
templates_of u limits flow o = templates u o.made

-- each run of the templates in which each called function leaves what it enters is one of the program
abbrev pub CheckedRunsAreTheSame : Type 0
CheckedRunsAreTheSame = (u : UnitView) (limits : Limits) (flow : Flow) (o : IsProgramOf u limits flow) (draws : List ℤ) → ((n : ℕ) → ReturnsWith NamesNothing (steps_from (templates_of u limits flow o) n (template_begin (templates_of u limits flow o) draws)))
    → (n : ℕ) → (m : ℕ) × AgreeUnlessStuck (steps_from (templates_of u limits flow o) n (template_begin (templates_of u limits flow o) draws)) (flow_steps (flow_view flow) m (flow_begin u (flow_view flow) draws))
