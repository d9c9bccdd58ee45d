-- Runs are stuck at most at open steps.
use Rattle.std.proofs.Common.{◌≡◌, ℕ, zero, suc, ℤ, Bool, true, false, List, [], ◌∷◌, Option, refl, ap, subst, ◌∙◌}
use Rattle.cc_base.specs.IntegerTypes.{least_of, greatest_of}
use Rattle.cc_base.specs.declared.diagnostics.Place.{Place}
use Rattle.c_layout.specs.Types.{Ty, Int}
use Rattle.c_layout.specs.CheckedUnits.{LocalView, UnitView}
use Rattle.memory_model.specs.Effects.Worlds.{World, Why, Stuck, Reply, goes, stops, Violation, drawn_in, drawn_from, drawn}
use Rattle.memory_model.specs.Effects.UnitStarts.{with_parameter, with_parameters, entry_parameters, world_before, start_world}
use Rattle.semantics.specs.SourceMachine.SourceStates.{State}
use Rattle.semantics.specs.SourceMachine.SourceSteps.{turn}
use Rattle.semantics.specs.SourceMachine.SourceRuns.{SourceRun, running, stopped, run_by, next, begun_by, Run}
use Rattle.source_items.specs.Operations.GoingReplies.{IsDefined, NotStuck}
use Rattle.source_progress.specs.StackKinds.KeptKinds.{RunsKeepKinds}
use Rattle.source_preservation.specs.Liveness.NamedObjects.{ObjectsLiveWhereNamed}
use Rattle.source_progress.specs.Progress.OpenSteps.{stands_open}
use Rattle.source_progress.specs.Progress.Progress.{TurnsHaveSteps, IsInteger, AreIntegers, RunsHaveSteps, StandsOpen, RunsAreStuckAtOpenSteps}
use Rattle.source_progress.proofs.progress.Replies.{steps_behind}

-- ---- the start

drawn_in_steps : (b : Bool) (n : ℤ) (w : World) → NotStuck (drawn_in b n w)
drawn_in_steps true n w = tt
drawn_in_steps false n w = tt

drawn_from_steps : (w : World) (least most : ℤ) (ns : List ℤ) → NotStuck (drawn_from w least most ns)
drawn_from_steps w least most [] = tt
drawn_from_steps w least most (n ∷ ns) = drawn_in_steps _ n _

parameter_steps : (u : UnitView) (t : Ty) (w : World) → IsInteger t → NotStuck (with_parameter u t w)
parameter_steps u (Int kind) w is = steps_behind (drawn w (least_of kind) (greatest_of kind)) _ (drawn_from_steps w (least_of kind) (greatest_of kind) w.draws) (λ n w. tt)
parameter_steps u t w is = absurd is

parameters_steps : (u : UnitView) (ls : List LocalView) (w : World) → AreIntegers ls → NotStuck (with_parameters u ls w)
parameters_steps u [] w are = tt
parameters_steps u (l ∷ ls) w are = steps_behind (with_parameter u l.ctype w) _ (parameter_steps u l.ctype w are.0) (λ _ w. parameters_steps u ls w are.1)

-- ---- replies that are stuck

no_run : (s : State) (f g : List Violation) (m n : ℕ) (why : Why) (w : World) → running s f m ≡ stopped why w g n → ⊥
no_run s f g m n why w e = cc

same_why : (why : Why) (w x : World) (f g : List Violation) (m n : ℕ) → stopped why w f m ≡ stopped Stuck x g n → why ≡ Stuck
same_why why w x f g m n e = cc

undefined : (why : Why) → why ≡ Stuck → IsDefined why → ⊥
undefined why is defined = subst IsDefined is defined

begun_steps : (u : UnitView) (reply : Reply (Unit {0})) → NotStuck reply → (w : World) (found : List Violation) (steps : ℕ) → begun_by u reply ≡ stopped Stuck w found steps → ⊥
begun_steps u (goes x v) not w found steps is = no_run _ [] found 0 steps Stuck w is
begun_steps u (stops why v) not w found steps is = undefined why (same_why why v w [] found 0 steps is) not

module _ (u : UnitView) (draws : List ℤ) (have : (n : ℕ) (s : State) (found : List Violation) (steps : ℕ) → Run u draws n ≡ running s found steps → stands_open s ≡ false → NotStuck (turn u s).reply) where
  -- ---- the turn at which a run is stuck

  module _ (n : ℕ) (s : State) (found : List Violation) (steps : ℕ) (is : Run u draws n ≡ running s found steps) where
    stuck_open : (w : World) → (turn u s).reply ≡ stops Stuck w → StandsOpen u draws
    stuck_open w stuck = by (stands_open s) refl
      where
        by : (b : Bool) → stands_open s ≡ b → StandsOpen u draws
        by true open_there = record { turns = n; state = s; found = found; steps = steps; is = is; open_there = open_there; stuck = w; there = stuck }
        by false shut = absurd (subst NotStuck stuck (have n s found steps is shut))

    stuck_by : (at : Option Place) (reply : Reply State) → (turn u s).reply ≡ reply → (w : World) (others : List Violation) (m : ℕ) → run_by found steps at reply ≡ stopped Stuck w others m → StandsOpen u draws
    stuck_by at (goes t v) here w others m stuck = absurd (no_run _ _ others _ m Stuck w stuck)
    stuck_by at (stops why v) here w others m stuck = stuck_open v (here ∙ ap (λ why. stops why v) (same_why why v w _ others _ m stuck))

  stands : (n : ℕ) (r : SourceRun) → Run u draws n ≡ r → ((w : World) (found : List Violation) (steps : ℕ) → r ≡ stopped Stuck w found steps → StandsOpen u draws) → (w : World) (found : List Violation) (steps : ℕ) → next u r ≡ stopped Stuck w found steps → StandsOpen u draws
  stands n (running s found steps) is before w others m stuck = stuck_by n s found steps is (turn u s).counted (turn u s).reply refl w others m stuck
  stands n (stopped why v found steps) is before w others m stuck = before w others m stuck

  stuck_before : NotStuck (start_world u draws) → (n : ℕ) (w : World) (found : List Violation) (steps : ℕ) → Run u draws n ≡ stopped Stuck w found steps → StandsOpen u draws
  stuck_before starts zero w found steps stuck = absurd (begun_steps u (start_world u draws) starts w found steps stuck)
  stuck_before starts (suc n) w found steps stuck = stands n (Run u draws n) refl (λ w found steps. stuck_before starts n w found steps) w found steps stuck

-- ---- the laws

module _ (turns : TurnsHaveSteps) (kinds : RunsKeepKinds) (lives : ObjectsLiveWhereNamed) where
  pub runs_steps : RunsHaveSteps
  runs_steps u typed draws n s found steps is shut = turns u s (kinds u typed.kinded typed.jumps draws n s found steps is) (lives u typed.jumps typed.scoped draws n s found steps is) shut

  pub stuck_at_open : RunsAreStuckAtOpenSteps
  stuck_at_open u typed draws n w found steps is = stuck_before u draws (λ n s found steps. runs_steps u typed draws n s found steps) (parameters_steps u (entry_parameters u) (world_before u draws) typed.entered) n w found steps is
