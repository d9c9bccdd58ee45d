-- Each run of a checked unit is one of the templates of its functions, with the same memory, the same draws left, the same
-- violations and the same end.
use Rattle.std.specs.Prelude.{◌≡◌, ◌≤◌, ℕ, ◌-◌, ◌^◌, ℤ, Bool, true, false, List, [], ◌++◌, Some}
use Rattle.c_layout.specs.CheckedTrees.{statement_trees}
use Rattle.c_layout.specs.CheckedUnits.{FunctionView}
use Rattle.lower_template_theorems.specs.PendingLabels.Marks.{IsLabelled}
use Rattle.lower_functions.specs.Functions.Functions.{IsTemplate, setting_of}
use Rattle.semantics.specs.SourceMachine.SourceRuns.{Run}
use Rattle.semantics.specs.SourceMachine.SourceStates.{function_at}
use Rattle.semantics.specs.TemplateMachine.TemplateStates.{Templates}
use Rattle.semantics.specs.TemplateMachine.TemplateSteps.{template_begin, steps_from}
use Rattle.simulation_terms.specs.SmallSteps.Alike.{Agree}
use Rattle.simulation_terms.specs.SimulationRelation.Simulates.{CallsThere, Reached, AllSimulate}
use Rattle.simulation_terms.specs.Scopes.Chains.{AreApart}
use Rattle.simulation_terms.specs.Scopes.SuitedStatements.{not_enclosed, AllSuitIn}

-- a function has that number, its template is that of lowering, and of both is known what the laws ask
pub record IsMade (t : Templates) (g : ℕ) (is_entry : Bool) (f : FunctionView) : Type 0 where
  pub is : function_at t.unit g ≡ Some f
  pub template : IsTemplate t.unit.structs t.unit.model.pointer t.unit.model.int f is_entry (t.of g)
  pub labelled : IsLabelled f
  pub few_labels : (t.of g).labels ≤ 2 ^ 32 - 1
  pub apart : AreApart (setting_of t.unit.structs t.unit.model.pointer t.unit.model.int f is_entry)
  pub suits : AllSuitIn t.unit f not_enclosed (f.scope ++ []) (statement_trees f.body)

abbrev pub IsEntry : Templates → FunctionView → Type 0
IsEntry t f = IsMade t t.unit.entry true f

-- so it is with each function that is reached and is not the entry
abbrev pub AreMade : Templates → Type 0
AreMade t = (g : ℕ) (f : FunctionView) → Reached t g → function_at t.unit g ≡ Some f → (g ≡ t.unit.entry → ⊥) → IsMade t g false f

-- no function that is reached calls the entry
abbrev pub EntryIsNotCalled : Templates → Type 0
EntryIsNotCalled t = (h : ℕ) → Reached t h → CallsThere (t.of h).pieces t.unit.entry → ⊥

-- each function that a reached one calls follows in its template
abbrev pub FunctionsAreSimulated : Type 0
FunctionsAreSimulated = (t : Templates) → EntryIsNotCalled t → AreMade t → AllSimulate t

-- each run of the unit is one of the templates of its functions
abbrev pub EntriesAreSimulated : Type 0
EntriesAreSimulated = (t : Templates) (f : FunctionView) → IsEntry t f → EntryIsNotCalled t → AreMade t → (draws : List ℤ) (turns : ℕ) → (steps : ℕ) × Agree (Run t.unit draws turns) (steps_from t steps (template_begin t draws))
