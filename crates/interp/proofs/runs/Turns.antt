-- Runs that are followed turn by turn.
use Rattle.std.proofs.Common.{◌≡◌, ℕ, suc, ◌+◌, ◌<◌, ◌≤◌, ℤ, Bool, true, false, ◌||◌, nat_le, List, [], ◌∷◌, map, Some, Result, Ok, Err, refl, sym, ap, subst, ◌∙◌, arith, ⊎_elim}
use Rattle.std.proofs.lemmas.Bool.{cases_lt, lt-ltb, le-ltb, le-leb, lt-leb}
use Rattle.cc_base.specs.declared.diagnostics.Diag.{Diag}
use Rattle.c_layout.specs.CheckedUnits.{UnitView}
use Rattle.memory_model.specs.Memory.Instances.{total_size}
use Rattle.interp_accesses.specs.WorldViews.{why_view}
use Rattle.interp_accesses.specs.declared.worlds.Cause.{Cause}
use Rattle.interp_starts.specs.Inputs.Sums.{most_bytes, IsPassed}
use Rattle.interp_starts.specs.declared.inputs.instance_sums.StartStop.{StartStop}
use Rattle.interp_starts.specs.declared.inputs.instance_sums.StartStop.TheVariants as stop
use Rattle.semantics.specs.SourceMachine.RunFacts.{has_stopped, end_by, end_of, size}
use Rattle.semantics.specs.SourceMachine.SourceRuns.{SourceRun, world_of, steps_of, found_in, next, Run}
use Rattle.interp_steps.specs.declared.machine_items.machines.Machine.{Machine}
use Rattle.interp.specs.Runs.Following.{violation_of, run_view, stopped_view, counted_if, StopsWith, GoesOn, StaysWithin, EndsAs, Followed, FollowsTo}
use Rattle.interp.specs.Runs.OutcomeViews.{end_view}
use Rattle.interp.specs.Runs.Replays.{is_large, is_over, Reaches, IsTooLarge, pair_of}
use Rattle.interp.specs.declared.runs.outcomes.End.{End}
use Rattle.interp.specs.declared.runs.outcomes.End.TheVariants as end
use Rattle.interp.specs.declared.runs.outcomes.ReplayStop.{ReplayStop}

pub small : (r : SourceRun) → size r ≤ most_bytes → is_large r ≡ false
small r h = le-ltb most_bytes (size r) h

pub not_over : (steps : ℕ) (r : SourceRun) → has_stopped r ≡ false → nat_le steps (steps_of r) ≡ false → is_large r ≡ false → is_over steps r ≡ false
not_over steps r a b c = ap (λ x. x || (nat_le steps (steps_of r) || is_large r)) a ∙ ap (λ x. x || is_large r) b ∙ c

pub over_by_stop : (steps : ℕ) (r : SourceRun) → has_stopped r ≡ true → is_over steps r ≡ true
over_by_stop steps r a = ap (λ x. x || (nat_le steps (steps_of r) || is_large r)) a

earlier : (P : ℕ → Type 0) (n : ℕ) → ((k : ℕ) → k < n → P k) → P n → (k : ℕ) → k < suc n → P k
earlier P n before here k h =
    ⊎_elim
    (λ (lt : k < n). before k lt)
    (λ (ge : n ≤ k). let same : n ≡ k = omega arith in subst P same here)
    (cases_lt k n)

-- a run that is not over goes on
pub reaches_next : (u : UnitView) (draws : List ℤ) (steps : ℕ) (r : SourceRun) → Reaches u draws steps r → is_over steps r ≡ false → Reaches u draws steps (next u r)
reaches_next u draws steps r p e = record {
  turns = suc p.turns;
  is = ap (next u) p.is;
  first = earlier (λ k. is_over steps (Run u draws k) ≡ false) p.turns p.first (subst (λ z. is_over steps z ≡ false) (sym p.is) e);
}

-- pairs of what is found
pub pairs_back : (ds : List Diag) → map pair_of (map violation_of ds) ≡ ds
pairs_back [] = refl
pairs_back (d ∷ ds) = ap (λ rest. d ∷ rest) (pairs_back ds)

-- ---- a run that goes on

going : (steps : ℕ) (u : UnitView) (m : Machine) (found : List Diag) (made : ℕ) → made < steps → total_size m.world.memory.memory ≤ most_bytes → is_over steps (run_view u m found made) ≡ false
going steps u m found made h k = not_over steps (run_view u m found made) refl (lt-leb steps made h) (small (run_view u m found made) k)

pub goes_further : (u : UnitView) (draws : List ℤ) (steps : ℕ) (m n : Machine) (found noted : List Diag) (made : ℕ) (b : Bool) → Reaches u draws steps (run_view u m found made) → made < steps → total_size m.world.memory.memory ≤ most_bytes → GoesOn u (run_view u m found made) made (Ok b) n noted → Reaches u draws steps (run_view u n noted (made + counted_if b))
goes_further u draws steps m n found noted made b p h k e = subst (λ r. Reaches u draws steps r) e (reaches_next u draws steps (run_view u m found made) p (going steps u m found made h k))

-- ---- a run that is over

pub made_all : (u : UnitView) (draws : List ℤ) (steps : ℕ) (m : Machine) (found : List Diag) (made : ℕ) → Reaches u draws steps (run_view u m found made) → steps ≤ made → total_size m.world.memory.memory ≤ most_bytes → Followed u draws steps end.Steps m found
made_all u draws steps m found made p h k = record {
  run = run_view u m found made;
  replayed = record { reached = p; over = ap (λ x. x || is_large (run_view u m found made)) (le-leb steps made h) };
  small = small (run_view u m found made) k;
  found = refl;
  end = refl;
  world = refl;
}

pub or_last : (a b c : Bool) → c ≡ true → a || (b || c) ≡ true
or_last true b c e = refl
or_last false true c e = refl
or_last false false c e = e

stopped_at : (u : UnitView) (draws : List ℤ) (steps : ℕ) (r : SourceRun) (why : Cause) (n : Machine) (noted : List Diag) (told : End) → Reaches u draws steps r → StopsWith r why n noted → total_size n.world.memory.memory ≤ most_bytes → end_view told ≡ end_by (Some (why_view why)) → Followed u draws steps told n noted
stopped_at u draws steps r why n noted told p s k e = record {
  run = r;
  replayed = record { reached = p; over = over_by_stop steps r (ap has_stopped s.is) };
  small = ap is_large s.is ∙ small (stopped_view why n noted s.steps) k;
  found = ap found_in s.is;
  end = e ∙ sym (ap end_of s.is);
  world = ap world_of s.is;
}

too_large : (u : UnitView) (draws : List ℤ) (steps count : ℕ) (r : SourceRun) → Reaches u draws steps r → IsPassed count (world_of r).memory → IsTooLarge u draws steps count most_bytes
too_large u draws steps count r p q =
    let large = q.large in
    record {
      run = r;
      replayed = record { reached = p; over = or_last (has_stopped r) (nat_le steps (steps_of r)) (is_large r) (lt-ltb most_bytes (size r) large) };
      passed = q;
      most = refl;
    }

-- a turn behind which the run is followed no further
pub ends : (u : UnitView) (draws : List ℤ) (steps : ℕ) (m n : Machine) (found noted : List Diag) (made : ℕ) (why : StartStop) (result : Result End ReplayStop) → Reaches u draws steps (run_view u m found made) → made < steps → total_size m.world.memory.memory ≤ most_bytes → GoesOn u (run_view u m found made) made (Err why) n noted → StaysWithin (Err why) n.world.memory.memory → EndsAs why result → FollowsTo u draws steps result n noted
ends u draws steps m n found noted made (stop.Stops why) (Ok told) p h k e w q = stopped_at u draws steps (next u (run_view u m found made)) why n noted told (reaches_next u draws steps (run_view u m found made) p (going steps u m found made h k)) e w q
ends u draws steps m n found noted made (stop.Stops why) (Err why_not) p h k e w q = absurd q
ends u draws steps m n found noted made (stop.Large count) result p h k e w q = subst (λ r. FollowsTo u draws steps r n noted) (sym q) (too_large u draws steps count (next u (run_view u m found made)) (reaches_next u draws steps (run_view u m found made) p (going steps u m found made h k)) e)
ends u draws steps m n found noted made stop.Memory result p h k e w q = subst (λ r. FollowsTo u draws steps r n noted) (sym q) tt
