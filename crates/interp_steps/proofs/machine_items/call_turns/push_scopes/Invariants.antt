use Rattle.std.proofs.Common.{◌≡◌, ℕ, ◌≤◌, ◌++◌, length, drop, map, Vec, Global}
use Rattle.c_layout.specs.CheckedUnits.{UnitView}
use Rattle.semantics.specs.SourceMachine.Scopes.{all_of}
use Rattle.interp_stack.specs.StackViews.{standing}
use Rattle.interp_steps.proofs.machine_items.call_turns.push_scopes.Given as goal

abbrev pub invariant-back : goal.invariant-back
invariant-back l = (l.k ≤ length l.scopes) × ((u : UnitView) → ((standing u l.control.items).items ≡ (standing u l.initial.control.items).items) × ((standing u l.control.items).objects ≡ all_of (map (λ (v : Vec ℕ Global). v.items) (drop l.k l.scopes)) ++ (standing u l.initial.control.items).objects))

abbrev pub decreases-back : goal.decreases-back
decreases-back l = l.k
