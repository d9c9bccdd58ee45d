-- Runs before their first turn.
use Rattle.std.proofs.Common.{◌≡◌, ℕ, ◌-◌, ◌<◌, ◌≤◌, ℤ, List, [], ◌∷◌, ◌++◌, length, map, Some, Result, Ok, Err, IfOk, refl, sym, ap, subst, ◌∙◌, append_assoc, arith}
use Rattle.std.proofs.lemmas.Bool.{lt-ltb}
use Rattle.std.proofs.lemmas.List.{append-nil}
use Rattle.cc_base.specs.DiagnosticOrder.{IsOrderedSet}
use Rattle.cc_base.specs.declared.diagnostics.Diag.{Diag}
use Rattle.c_layout.specs.CheckedUnits.{UnitView, StaticView, LiteralView}
use Rattle.memory_model.specs.Memory.Instances.{Memory, total_size}
use Rattle.memory_model.specs.Effects.ObjectEffects.{with_instance}
use Rattle.memory_model.specs.Effects.UnitStarts.{static_instance, literal_made, with_parameters, entry_parameters, world_before, start_world}
use Rattle.memory_model.specs.Effects.Worlds.{World, Reply, goes, stops, done, with_memory}
use Rattle.memory_model.specs.Effects.Worlds as worlds
use Rattle.interp_accesses.specs.WorldViews.{world_view, why_view}
use Rattle.interp_accesses.specs.declared.worlds.Cause.{Cause}
use Rattle.interp_starts.specs.Starts.Rewrites.{objects_made, literals_made}
use Rattle.interp_starts.specs.Inputs.Starts.{started, StopsStart}
use Rattle.interp_starts.specs.Inputs.Sums.{most_bytes, IsPassed}
use Rattle.interp_starts.specs.declared.inputs.instance_sums.StartStop.{StartStop}
use Rattle.interp_starts.specs.declared.inputs.instance_sums.StartStop.TheVariants as stop
use Rattle.semantics.specs.SourceMachine.RunFacts.{end_by, size}
use Rattle.semantics.specs.SourceMachine.SourceRuns.{SourceRun, running, stopped, world_of, first_state, begun_by, source_begin}
use Rattle.semantics.specs.SourceMachine.SourceStates.{State}
use Rattle.interp_steps.specs.MachineItems.MachineViews.{state_view}
use Rattle.interp_steps.specs.declared.machine_items.machines.Machine.{Machine}
use Rattle.interp.specs.Runs.Following.{run_view, EndsAs, Followed}
use Rattle.interp.specs.Runs.OutcomeViews.{OutcomeView, end_view}
use Rattle.interp.specs.Runs.Replays.{is_large, Reaches, IsOutcome, IsTooLarge, IsStop, pair_of}
use Rattle.interp.specs.declared.runs.outcomes.End.{End}
use Rattle.interp.specs.declared.runs.outcomes.ReplayStop.{ReplayStop}
use Rattle.interp.specs.declared.runs.outcomes.ReplayStop.TheVariants as replay
use Rattle.interp.proofs.runs.Turns.{small, or_last, pairs_back}

-- ---- the world in which a run begins

more_memory : (w : World) (m n : Memory) → with_memory w ((w.memory ++ m) ++ n) ≡ with_memory w (w.memory ++ (m ++ n))
more_memory w m n = ap (with_memory w) (append_assoc w.memory m n)

objects_all : (u : UnitView) (os : List StaticView) (w : World) → objects_made u os w ≡ with_memory w (w.memory ++ map (static_instance u) os)
objects_all u [] w = ap (with_memory w) (sym (append-nil w.memory))
objects_all u (o ∷ os) w = objects_all u os (with_instance w (static_instance u o)) ∙ more_memory w (static_instance u o ∷ []) (map (static_instance u) os)

literals_all : (ls : List LiteralView) (w : World) → literals_made ls w ≡ with_memory w (w.memory ++ map literal_made ls)
literals_all [] w = ap (with_memory w) (sym (append-nil w.memory))
literals_all (l ∷ ls) w = literals_all ls (with_instance w (literal_made l)) ∙ more_memory w (literal_made l ∷ []) (map literal_made ls)

made_before : (u : UnitView) (draws : List ℤ) → literals_made u.literals (objects_made u u.objects (record { memory = []; draws = draws; violated = [] })) ≡ world_before u draws
made_before u draws =
    ap (literals_made u.literals) (objects_all u u.objects (record { memory = []; draws = draws; violated = [] }))
    ∙ literals_all u.literals (record { memory = map (static_instance u) u.objects; draws = draws; violated = [] })

-- what is made one after the other before a run is the world in which it begins
started_before : (u : UnitView) (draws : List ℤ) (w : World) → w ≡ record { memory = []; draws = draws; violated = [] } → started u w ≡ start_world u draws
started_before u draws w e = ap (started u) e ∙ ap (with_parameters u (entry_parameters u)) (made_before u draws)

pub begun_before : (u : UnitView) (draws : List ℤ) (w v : World) → w ≡ record { memory = []; draws = draws; violated = [] } → started u w ≡ done v → source_begin u draws ≡ begun_by u (done v)
begun_before u draws w v e f = ap (begun_by u) (sym (started_before u draws w e) ∙ f)

pub stopped_before : (u : UnitView) (draws : List ℤ) (w v : World) (why : StartStop) → w ≡ record { memory = []; draws = draws; violated = [] } → StopsStart (started u w) why v → StopsStart (start_world u draws) why v
stopped_before u draws w v why e p = subst (λ r. StopsStart r why v) (started_before u draws w e) p

-- ---- runs of no turn

reaches_none : (u : UnitView) (draws : List ℤ) (steps : ℕ) (r : SourceRun) → source_begin u draws ≡ r → Reaches u draws steps r
reaches_none u draws steps r e = record { turns = 0; is = e; first = λ n h. absurd (omega arith) }

-- a run that goes on before its first turn
pub reaches_first : (u : UnitView) (draws : List ℤ) (steps : ℕ) (m : Machine) (w : World) (found : List Diag) → source_begin u draws ≡ begun_by u (done w) → state_view u m ≡ first_state u w → found ≡ [] → Reaches u draws steps (run_view u m found 0)
reaches_first u draws steps m w found begun first none = reaches_none u draws steps (run_view u m found 0) (begun ∙ ap (λ (s : State). running s [] 0) (sym first) ∙ ap (λ ds. run_view u m ds 0) (sym none))

-- ---- runs that stop before their first turn

-- one that stops
stops_first : (u : UnitView) (draws : List ℤ) (steps : ℕ) (why : Cause) (w : World) (o : OutcomeView) → start_world u draws ≡ stops (why_view why) w → total_size w.memory ≤ most_bytes → IsOrderedSet [] o.diags → o.end ≡ end_by (Some (why_view why)) → o.used ≡ length draws - length w.draws → IsOutcome u draws steps o
stops_first u draws steps why w o e k d end used =
    let r : SourceRun = stopped (why_view why) w [] 0 in
    record {
      run = r;
      replayed = record { reached = reaches_none u draws steps r (ap (begun_by u) e); over = refl };
      small = small r k;
      diags = d;
      end = end;
      used = used;
    }

begun_world : (u : UnitView) (r : Reply (Unit {0})) → world_of (begun_by u r) ≡ worlds.world_of r
begun_world u (goes x w) = refl
begun_world u (stops why w) = refl

-- one that is too large
large_first : (u : UnitView) (draws : List ℤ) (steps count : ℕ) → IsPassed count (worlds.world_of (start_world u draws)).memory → IsTooLarge u draws steps count most_bytes
large_first u draws steps count p =
    let r : SourceRun = source_begin u draws in
    let passed : IsPassed count (world_of r).memory = subst (λ (w : World). IsPassed count w.memory) (sym (begun_world u (start_world u draws))) p in
    let large : most_bytes < size r = passed.large in
    record {
      run = r;
      replayed = record { reached = reaches_none u draws steps r refl; over = or_last _ _ (is_large r) (lt-ltb most_bytes (size r) large) };
      passed = passed;
      most = refl;
    }

-- its outcome
told_first : (u : UnitView) (draws : List ℤ) (steps : ℕ) (why : StartStop) (w : World) (end : End) (o : OutcomeView) → StopsStart (start_world u draws) why w → EndsAs why (Ok end) → total_size w.memory ≤ most_bytes → IsOrderedSet [] o.diags → o.end ≡ end_view end → o.used ≡ length draws - length w.draws → IsOutcome u draws steps o
told_first u draws steps (stop.Stops why) w end o p q k d e f = stops_first u draws steps why w o p k d (e ∙ q) f
told_first u draws steps (stop.Large count) w end o p q k d e f = absurd (cc)
told_first u draws steps stop.Memory w end o p q k d e f = absurd (cc)

pub told_small_first : (u : UnitView) (draws : List ℤ) (steps : ℕ) (why : StartStop) (w : World) (end : End) (r : Result OutcomeView ReplayStop) → StopsStart (start_world u draws) why w → EndsAs why (Ok end) → IfOk r (λ o. total_size w.memory ≤ most_bytes) → IfOk r (λ o. IsOrderedSet [] o.diags) → IfOk r (λ o. o.end ≡ end_view end) → IfOk r (λ o. o.used ≡ length draws - length w.draws) → IfOk r (λ o. IsOutcome u draws steps o)
told_small_first u draws steps why w end (Ok o) p q k d e f = told_first u draws steps why w end o p q k d e f
told_small_first u draws steps why w end (Err stop) p q k d e f = tt

-- why it has none
pub untold_first : (u : UnitView) (draws : List ℤ) (steps : ℕ) (why : StartStop) (w : World) (e : ReplayStop) → StopsStart (start_world u draws) why w → EndsAs why (Err e) → IsStop u draws steps e
untold_first u draws steps (stop.Stops why) w e p q = absurd q
untold_first u draws steps (stop.Large count) w e p q =
    let same : replay.Large count most_bytes ≡ e = cc in
    subst (λ s. IsStop u draws steps s) same (large_first u draws steps count p)
untold_first u draws steps stop.Memory w e p q =
    let same : replay.Memory ≡ e = cc in
    subst (λ s. IsStop u draws steps s) same tt

-- ---- outcomes

-- a run that is followed to its end has the outcome that tells it
pub outcome_told : (u : UnitView) (draws : List ℤ) (steps : ℕ) (end : End) (m : Machine) (found : List Diag) (o : OutcomeView) → Followed u draws steps end m found → IsOrderedSet found o.diags → o.end ≡ end_view end → o.used ≡ length draws - length (world_view m.world).draws → IsOutcome u draws steps o
outcome_told u draws steps end m found o f d e used = record {
  run = f.run;
  replayed = f.replayed;
  small = f.small;
  diags = subst (λ ds. IsOrderedSet ds o.diags) (sym (ap (map pair_of) f.found ∙ pairs_back found)) d;
  end = e ∙ f.end;
  used = used ∙ ap (λ (w : World). length draws - length w.draws) (sym f.world);
}
