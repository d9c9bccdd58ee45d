-- What called functions name where they return.
use Rattle.std.specs.Prelude.{◌≡◌, ℕ, ℤ, List, [], ◌∷◌, Option}
use Rattle.semantics.specs.SourceMachine.SourceStates.{Frame, function_at}
use Rattle.semantics.specs.SourceMachine.SourceRuns.{SourceRun, Run, running, body_of}
use Rattle.semantics.specs.TemplateMachine.TemplateStates.{Templates}
use Rattle.semantics.specs.TemplateMachine.TemplateSteps.{template_begin, steps_from}
use Rattle.simulation_layout.specs.Normalized.NormalizedRuns.{ReturnsWith, NamesNothing}
use Rattle.simulation_terms.specs.SimulationRelation.Activations.{entry_of}
use Rattle.simulation_terms.specs.SimulationRelation.Simulates.{Simulates, AllSimulate, pieces}

-- something holds of the names of a called function that has nothing left to do
abbrev pub AtEnd : ((ℕ → Option ℕ) → Type 0) → List Frame → (ℕ → Option ℕ) → Type 0
AtEnd Q [] names = Unit {0}
AtEnd Q (f ∷ fs) names = Q names

abbrev pub EndsWith : ((ℕ → Option ℕ) → Type 0) → SourceRun → Type 0
EndsWith Q (running s found steps) = s.control ≡ [] → AtEnd Q s.frames s.names
EndsWith Q r = Unit {0}

-- where it is so in the source, it is so where the templates return
abbrev pub ReturnsAreSimulated : Type 0
ReturnsAreSimulated = (t : Templates) → AllSimulate t → ((n : ℕ) → Simulates (entry_of t) n 0 (body_of (function_at t.unit t.unit.entry)) (pieces (entry_of t))) → (draws : List ℤ) → ((n : ℕ) → EndsWith NamesNothing (Run t.unit draws n)) → (j : ℕ) → ReturnsWith NamesNothing (steps_from t j (template_begin t draws))
