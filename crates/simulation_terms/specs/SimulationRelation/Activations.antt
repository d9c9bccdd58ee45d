-- A function that runs, among the templates of its unit.
use Rattle.std.specs.Prelude.{ℕ, Bool, List, []}
use Rattle.c_layout.specs.CheckedUnits.{UnitView}
use Rattle.lower_templates.specs.Worklist.Pieces.{TemplateView}
use Rattle.semantics.specs.SourceMachine.SourceStates.{Frame}
use Rattle.semantics.specs.SourceMachine.SourceSteps.{is_entry}
use Rattle.semantics.specs.TemplateMachine.TemplateStates.{Templates}

-- a unit, the template of each of its functions, the function that runs, and those that wait for it in the source
pub record Activation : Type 0 where
  pub unit : UnitView
  pub of : ℕ → TemplateView
  pub function : ℕ
  pub callers : List Frame

abbrev pub templates_of : Activation → Templates
templates_of t = record { unit = t.unit; of = t.of }

-- a function runs for others
abbrev pub activation : Templates → ℕ → List Frame → Activation
activation t g callers = record { unit = t.unit; of = t.of; function = g; callers = callers }

-- the entry runs
abbrev pub entry_of : Templates → Activation
entry_of t = activation t t.unit.entry []

-- nobody has called the function that runs
abbrev pub of_entry : Activation → Bool
of_entry t = is_entry t.callers
