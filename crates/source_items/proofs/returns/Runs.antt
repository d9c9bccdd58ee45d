-- In each run functions that were called leave what they name.
use Rattle.std.proofs.Common.{◌≡◌, ℕ, zero, suc, true, false, List, [], ◌∷◌, Option, Some, None, refl, ap, sym, subst, ◌∙◌}
use Rattle.cc_base.specs.declared.diagnostics.Place.{Place}
use Rattle.c_layout.specs.CheckedUnits.{UnitView, FunctionView}
use Rattle.memory_model.specs.Effects.Worlds.{Reply, goes, stops, Violation}
use Rattle.memory_model.specs.Effects.UnitStarts.{start_world}
use Rattle.semantics.specs.SourceMachine.Items.{Item}
use Rattle.semantics.specs.SourceMachine.Scopes.{is_in}
use Rattle.semantics.specs.SourceMachine.SourceStates.{Frame, State}
use Rattle.semantics.specs.SourceMachine.SourceSteps.{is_entry, turn}
use Rattle.semantics.specs.SourceMachine.SourceRuns.{SourceRun, running, stopped, run_by, next, begun_by, source_begin, turns_from}
use Rattle.source_items.specs.Returns.StandingJumps.{UnitJumpsStand}
use Rattle.source_items.specs.Returns.EndedObjects.{ended}
use Rattle.source_items.specs.Returns.Leavings.{Leaving, AllLeaving, IsLeaving}
use Rattle.source_items.specs.Returns.ReturnedFunctions.{CalledFunctionsLeaveAll}
use Rattle.source_items.proofs.liveness.Members.{apart, other_apart}
use Rattle.source_items.specs.Operations.GoingReplies.{IfGoes}
use Rattle.source_items.proofs.returns.Turns.{turn_leaves}

-- it holds of the state in which a run is, if it goes on
abbrev IfRuns : (State → Type 0) → SourceRun → Type 0
IfRuns P (running s found steps) = P s
IfRuns P (stopped why w found steps) = Unit {0}

module _ (u : UnitView) (stand : UnitJumpsStand u) where
  runs_by : (found : List Violation) (steps : ℕ) (at : Option Place) (reply : Reply State) → IfGoes (IsLeaving u) reply → IfRuns (IsLeaving u) (run_by found steps at reply)
  runs_by found steps at (goes s w) all = all
  runs_by found steps at (stops why w) all = tt

  next_runs : (r : SourceRun) → IfRuns (IsLeaving u) r → IfRuns (IsLeaving u) (next u r)
  next_runs (running s found steps) all = runs_by found steps (turn u s).counted (turn u s).reply (turn_leaves u stand s all)
  next_runs (stopped why w found steps) all = tt

  begun : (reply : Reply (Unit {0})) → IfRuns (IsLeaving u) (begun_by u reply)
  begun (goes x w) = tt
  begun (stops why w) = tt

  runs : (r : SourceRun) (n : ℕ) → IfRuns (IsLeaving u) r → IfRuns (IsLeaving u) (turns_from u r n)
  runs r zero all = all
  runs r (suc n) all = next_runs (turns_from u r n) (runs r n all)

-- with nothing to do, nothing is ended, and so nothing was named
nothing_named : (f : FunctionView) (names : ℕ → Option ℕ) (items : List Item) → items ≡ [] → Leaving f names items → (slot : ℕ) → names slot ≡ None
nothing_named f names items none leaving slot = by (names slot) refl
  where
    no : (i : ℕ) → names slot ≡ Some i → false ≡ true
    no i is = ap (λ xs. is_in slot (ended f xs)) (sym none) ∙ leaving.covered slot i is

    by : (o : Option ℕ) → names slot ≡ o → names slot ≡ None
    by None is = is
    by (Some i) is = absurd (apart (no i is))

left_all : (u : UnitView) (g : ℕ) (names : ℕ → Option ℕ) (items : List Item) (frames : List Frame) → AllLeaving u g names items frames → items ≡ [] → is_entry frames ≡ false → (slot : ℕ) → names slot ≡ None
left_all u g names items [] all none called = absurd (other_apart called)
left_all u g names items (c ∷ cs) all none called = nothing_named all.0.function names items none all.0.leaving

pub leave_all : CalledFunctionsLeaveAll
leave_all u stand draws n s found steps is = left_all u s.function s.names s.control s.frames here
  where
    here : IsLeaving u s
    here = subst (IfRuns (IsLeaving u)) is (runs u stand (source_begin u draws) n (begun u stand (start_world u draws)))
