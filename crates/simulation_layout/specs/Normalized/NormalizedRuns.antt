-- Runs over the templates of a unit as they are made, and over its settled ones.
use Rattle.std.specs.Prelude.{◌≡◌, ◌≤◌, ◌<◌, ◌⊎◌, ℕ, ℤ, true, List, [], ◌∷◌, Option, Some, None}
use Rattle.c_layout.specs.CheckedUnits.{FunctionView, UnitView}
use Rattle.memory_model.specs.Effects.Worlds.{Stuck}
use Rattle.lower_templates.specs.Worklist.Pieces.{TemplateView}
use Rattle.lower_objects.specs.declared.counts.function_counts.FunctionCounts.{FunctionCounts}
use Rattle.lower_tables.specs.Counts.Preparations.{IsTemplateOf, Reaches, are_counted, AreCounts}
use Rattle.lower_tables.specs.Counts.NormalizedTemplates.{normalized}
use Rattle.lower_template_theorems.specs.PendingLabels.Marks.{below, all_marked}
use Rattle.semantics.specs.TemplateMachine.TemplateStates.{Templates, Frame, TemplateRun, running, world_of, found_in, why_of}
use Rattle.semantics.specs.TemplateMachine.TemplateSteps.{template_begin, steps_from}

-- each label is marked at most once, and only where the template has a label of that number
abbrev pub LabelsStandOnce : TemplateView → Type 0
LabelsStandOnce t = (l : ℕ) → all_marked l t.pieces ≤ below l t.labels

-- the template of a function as it is made, and settled by the counts of the functions that it calls
pub record Settles (u : UnitView) (n : ℕ) (made settles : TemplateView) : Type 0 where
  pub function : FunctionView
  pub table : List (Option FunctionCounts)
  pub is_template : IsTemplateOf u n function made
  pub all_counted : are_counted table made.pieces ≡ true
  pub are_counts : AreCounts u table
  pub is_normalized : settles ≡ normalized table made
  pub once : LabelsStandOnce made

abbrev pub templates : UnitView → (ℕ → TemplateView) → Templates
templates u of = record { unit = u; of = of }

-- both have come to the same memory with the same draws left, have violated the same, and have stopped for the same
-- cause or not at all
pub record Agree (a b : TemplateRun) : Type 0 where
  pub memory : (world_of a).memory ≡ (world_of b).memory
  pub draws : (world_of a).draws ≡ (world_of b).draws
  pub found : found_in a ≡ found_in b
  pub why : why_of a ≡ why_of b

-- nothing is said of a run that is stuck: one that is led to a label that its template does not mark is stuck before
-- settling alone, since a label that is not marked gets the number of another one
abbrev pub AgreeUnlessStuck : TemplateRun → TemplateRun → Type 0
AgreeUnlessStuck a b = (why_of a ≡ Some Stuck) ⊎ Agree a b

-- each run over the templates as they are made is one over the settled ones
abbrev pub NormalizedRunsAreTheSame : Type 0
NormalizedRunsAreTheSame = (u : UnitView) (made settles : ℕ → TemplateView) → ((n : ℕ) → Reaches u n → Settles u n (made n) (settles n)) → (draws : List ℤ) (n : ℕ) → (m : ℕ) × AgreeUnlessStuck (steps_from (templates u made) n (template_begin (templates u made) draws)) (steps_from (templates u settles) m (template_begin (templates u settles) draws))

-- something holds of the names of a called function that is about to return
abbrev pub AtReturn : ((ℕ → Option ℕ) → Type 0) → List Frame → (ℕ → Option ℕ) → Type 0
AtReturn Q [] names = Unit {0}
AtReturn Q (f ∷ fs) names = Q names

abbrev pub ReturnsWith : ((ℕ → Option ℕ) → Type 0) → TemplateRun → Type 0
ReturnsWith Q (running s found) = s.rest ≡ [] → AtReturn Q s.frames s.names
ReturnsWith Q r = Unit {0}

-- a run and one over settled templates, whose functions return with what those of the first one return with
pub record Simulates (Q : (ℕ → Option ℕ) → Type 0) (a : TemplateRun) (t : Templates) (b : TemplateRun) : Type 0 where
  pub steps : ℕ
  pub agree : AgreeUnlessStuck a (steps_from t steps b)
  pub returns : (j : ℕ) → j < steps → ReturnsWith Q (steps_from t j b)

-- no object is named
abbrev pub NamesNothing : (ℕ → Option ℕ) → Type 0
NamesNothing names = (slot : ℕ) → names slot ≡ None

-- where called functions leave what they enter in the runs over templates as they are made, they do so over settled ones
abbrev pub NormalizedRunsReturnAlike : Type 0
NormalizedRunsReturnAlike = (u : UnitView) (made settles : ℕ → TemplateView) → ((n : ℕ) → Reaches u n → Settles u n (made n) (settles n)) → (draws : List ℤ) → ((n : ℕ) → ReturnsWith NamesNothing (steps_from (templates u made) n (template_begin (templates u made) draws)))
    → (n : ℕ) → Simulates NamesNothing (steps_from (templates u made) n (template_begin (templates u made) draws)) (templates u settles) (template_begin (templates u settles) draws)
