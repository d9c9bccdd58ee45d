-- What it is that a run refuses templates.
use Rattle.std.specs.Prelude.{ℕ, suc, ◌==◌, ℤ, List, [], ◌∷◌}
use Rattle.c_layout.specs.CheckedUnits.{FunctionView, UnitView}
use Rattle.lower_templates.specs.Worklist.Pieces.{TemplateView}
use Rattle.lower_functions.specs.Functions.Functions.{IsTemplate}
use Rattle.semantics.specs.SourceMachine.SourceRuns.{Run}
use Rattle.semantics.specs.TemplateMachine.TemplateStates.{Templates, TemplateRun}
use Rattle.semantics.specs.TemplateMachine.TemplateSteps.{template_begin, steps_from}
use Rattle.simulation_terms.specs.SmallSteps.Alike.{Agree}

-- a unit with the templates of its functions
abbrev pub with_templates : UnitView → (ℕ → TemplateView) → Templates
with_templates u of = record { unit = u; of = of }

-- the run of templates after so many steps
abbrev pub run_of : Templates → List ℤ → ℕ → TemplateRun
run_of t draws steps = steps_from t steps (template_begin t draws)

-- they are the templates of functions, of which the first one has that number, in a unit without structs and with pointers
-- of 8 bytes; function 0 is the entry
abbrev pub AreTemplates : (ℕ → TemplateView) → ℕ → List FunctionView → Type 0
AreTemplates of n [] = Unit {0}
AreTemplates of n (f ∷ fs) = IsTemplate [] 8 4 f (n == 0) (of n) × AreTemplates of (suc n) fs

-- after so many turns the run of a unit agrees with a state of its own templates' run, and with none of the wrong ones'
pub record IsRefused (u : UnitView) (right wrong : ℕ → TemplateView) : Type 0 where
  pub own : AreTemplates right 0 u.functions
  pub draws : List ℤ
  pub turns : ℕ
  pub steps : ℕ
  pub agrees : Agree (Run u draws turns) (run_of (with_templates u right) draws steps)
  pub agrees_with_none : (n : ℕ) → Agree (Run u draws turns) (run_of (with_templates u wrong) draws n) → ⊥
