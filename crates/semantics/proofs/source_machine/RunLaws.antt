-- How runs go on.
use Rattle.std.specs.Prelude.{◌≡◌, refl, ℕ, suc, ℤ, false, true, List, [], ◌++◌, Option}
use Rattle.std.proofs.Common.{sym}
use Rattle.std.proofs.lemmas.List.{append-nil}
use Rattle.cc_base.specs.declared.diagnostics.Place.{Place}
use Rattle.c_layout.specs.CheckedUnits.{UnitView}
use Rattle.memory_model.specs.Effects.Worlds.{Reply, goes, stops, Violation}
use Rattle.semantics.specs.SourceMachine.SourceStates.{State}
use Rattle.semantics.specs.SourceMachine.SourceSteps.{turn}
use Rattle.semantics.specs.SourceMachine.SourceRuns.{SourceRun, running, stopped, found_in, violations, run_by, next, Run}
use Rattle.semantics.specs.SourceMachine.RunFacts.{has_stopped}

-- the run of one turn more begins with the run before
begins : (u : UnitView) (draws : List ℤ) (n : ℕ) → Run u draws (suc n) ≡ next u (Run u draws n)
begins u draws n = refl

not_true : false ≡ true → ⊥
not_true e = cc

-- a run that has stopped stays as it is
stays : (u : UnitView) (r : SourceRun) → has_stopped r ≡ true → next u r ≡ r
stays u (running s found steps) e = absurd (not_true e)
stays u (stopped why w found steps) e = refl

-- what has been violated stays violated
grows_by : (found : List Violation) (steps : ℕ) (at : Option Place) (reply : Reply State) → (more : List Violation) × (found_in (run_by found steps at reply) ≡ found ++ more)
grows_by found steps at (goes s w) = (violations at w, refl)
grows_by found steps at (stops why w) = (violations at w, refl)

grows : (u : UnitView) (r : SourceRun) → (more : List Violation) × (found_in (next u r) ≡ found_in r ++ more)
grows u (running s found steps) = grows_by found steps (turn u s).counted (turn u s).reply
grows u (stopped why w found steps) = ([], sym (append-nil found))
