-- One turn of a run that is followed.
use Rattle.std.proofs.Common.{◌≡◌, ℕ, List, [], ◌∷◌, map, Option, Some, None, Err, refl, sym, subst, ⊎_elim}
use Rattle.cc_base.specs.declared.diagnostics.Diag.{Diag}
use Rattle.cc_base.specs.declared.diagnostics.Place.{Place}
use Rattle.c_layout.specs.CheckedUnits.{UnitView}
use Rattle.memory_model.specs.Memory.Instances.{Memory, total_size}
use Rattle.memory_model.specs.Effects.Worlds.{World, Violation, Reply, goes, stops}
use Rattle.memory_model.specs.Effects.Worlds as worlds
use Rattle.interp_starts.specs.Inputs.Sums.{most_bytes, IsPassed, PassesBy, PassesWith}
use Rattle.interp_starts.specs.declared.inputs.instance_sums.StartStop.{StartStop}
use Rattle.interp_starts.specs.declared.inputs.instance_sums.StartStop.TheVariants as stop
use Rattle.semantics.specs.SourceMachine.Items as item
use Rattle.semantics.specs.SourceMachine.Items.{Item}
use Rattle.semantics.specs.SourceMachine.Operations as op
use Rattle.semantics.specs.SourceMachine.SourceRuns.{running, world_of, counted, run_by, next}
use Rattle.semantics.specs.SourceMachine.SourceStates.{State}
use Rattle.semantics.specs.SourceMachine.SourceSteps.{turn}
use Rattle.interp_steps.specs.MachineItems.Asked.{named_size, made_by, IsMadeBy}
use Rattle.interp_steps.specs.MachineItems.MachineViews.{state_view}
use Rattle.interp_steps.specs.declared.machine_items.machines.Machine.{Machine}
use Rattle.interp.specs.Runs.Following.{violation_of, run_view, GoesOn}
use Rattle.interp.proofs.runs.Allocations.{nothing_passes}
use Rattle.interp.proofs.runs.Growth.{turn_passes, made_anyway}

-- ---- a turn that is not made

run_world : (found : List Violation) (k : ℕ) (at : Option Place) (r : Reply State) → world_of (run_by found k at r) ≡ worlds.world_of r
run_world found k at (goes s w) = refl
run_world found k at (stops why w) = refl

-- what is still to be done does not say how large things are
sized_anyway : (u : UnitView) (s : State) (control : List Item) (n : ℕ) (o : Option ℕ) → named_size u (record s { control = control }) n o ≡ named_size u s n o
sized_anyway u s control n None = refl
sized_anyway u s control n (Some i) = refl

made_with : (u : UnitView) (s : State) (control items : List Item) → made_by u (record s { control = control }) items ≡ made_by u s items
made_with u s control (item.Enters [] ∷ items) = refl
made_with u s control (item.Enters (n ∷ ns) ∷ items) = sized_anyway u s control n (s.names n)
made_with u s control (item.Do at (op.Library function n target) ∷ items) = refl
made_with u s control items = refl

passes_run : (u : UnitView) (s : State) (found : List Violation) (k count : ℕ) → PassesWith most_bytes (total_size s.world.memory) (made_by u s s.control) count → IsPassed count (world_of (next u (running s found k))).memory
passes_run u s found k count p =
    subst (λ (w : World). IsPassed count w.memory) (sym (run_world found k (turn u s).counted (turn u s).reply))
    (turn_passes u s count (subst (λ size. PassesWith most_bytes (total_size s.world.memory) size count) (sym (made_anyway u s s.control)) p))

passes_some : (u : UnitView) (s t : State) (items : List Item) (found : List Violation) (k asked count : ℕ) → s ≡ record t { control = items } → IsMadeBy u t items asked → PassesWith most_bytes (total_size t.world.memory) asked count → IsPassed count (world_of (next u (running s found k))).memory
passes_some u s t items found k asked count same made p =
    subst (λ z. IsPassed count (world_of (next u (running z found k))).memory) (sym same)
    (passes_run u (record t { control = items }) found k count
    (subst (λ size. PassesWith most_bytes (total_size t.world.memory) size count) (sym (made_with u t items items))
    (⊎_elim
    (λ (none : asked ≡ 0). absurd (nothing_passes most_bytes (total_size t.world.memory) count (subst (λ size. PassesWith most_bytes (total_size t.world.memory) size count) none p)))
    (λ (is : asked ≡ made_by u t items). subst (λ size. PassesWith most_bytes (total_size t.world.memory) size count) is p)
    made)))

-- what would be too large is
pub turn_passed : (u : UnitView) (s t : State) (items : List Item) (found : List Diag) (k asked : ℕ) (m n : Machine) (noted : List Diag) (why : StartStop) → state_view u m ≡ record t { control = items } → IsMadeBy u t items asked → PassesBy (total_size t.world.memory) asked why → GoesOn u (run_view u m found k) k (Err why) n noted
turn_passed u s t items found k asked m n noted (stop.Stops why) same made p = absurd p
turn_passed u s t items found k asked m n noted (stop.Large count) same made p = passes_some u (state_view u m) t items (map violation_of found) k asked count same made p
turn_passed u s t items found k asked m n noted stop.Memory same made p = tt
