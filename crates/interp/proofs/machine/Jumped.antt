-- Lists of items that a jump or a label leads to.
use Rattle.std.proofs.Common.{◌≡◌, ℕ, false, List, Option, Some, None, is_some, Result, Ok, Err, MatchResult, refl, sym, ap, ◌∙◌}
use Rattle.c_layout.specs.CheckedUnits.{UnitView}
use Rattle.memory_model.specs.Effects.Worlds.{Reply, goes}
use Rattle.interp_accesses.specs.declared.worlds.Cause.TheVariants as cause
use Rattle.interp_accesses.specs.declared.worlds.Halt.{Halt}
use Rattle.interp_accesses.specs.declared.worlds.Halt.TheVariants as halt
use Rattle.semantics.specs.SourceMachine.BranchSteps.{landing}
use Rattle.semantics.specs.SourceMachine.Items.{Item}
use Rattle.semantics.specs.SourceMachine.LabelSearch.{Sought}
use Rattle.semantics.specs.SourceMachine.ObjectSteps.{on}
use Rattle.semantics.specs.SourceMachine.Scopes.{open_scopes, leap_in}
use Rattle.semantics.specs.SourceMachine.SourceStates.{State, if_some, stuck_at}
use Rattle.interp_stack.specs.Jumps.{jump_from, entering_from}
use Rattle.interp_statements.specs.LabelViews.{Finds}
use Rattle.interp_steps.specs.MachineItems.MachineViews.{state_view}
use Rattle.interp_steps.specs.MachineItems.Moves.{JumpsTo, LandsOn}
use Rattle.interp_steps.specs.declared.machine_items.machines.Machine.{Machine}

-- ---- jumps

pub jumped_to : (to : Option (List Item)) (scopes : List (List ℕ)) (from items now : List Item) → Finds to items → scopes ≡ open_scopes from → now ≡ jump_from scopes items → JumpsTo to from now
jumped_to None scopes from items now f s j = tt
jumped_to (Some to) scopes from items now f s j = j ∙ ap (λ z. jump_from z items) s ∙ ap (jump_from (open_scopes from)) f

pub no_jump : (s : State) (to : Option (List Item)) (use_it : List Item → Reply State) → is_some to ≡ false → if_some s to use_it ≡ stuck_at s
no_jump s None use_it none = refl
no_jump s (Some to) use_it none = absurd cc

-- ---- labels of switches

pub landing_behind : (l : Sought) (to : Option (List Item)) (items : List Item) → is_some to ≡ false → landing l to items ≡ landing l None items
landing_behind l None items none = refl
landing_behind l (Some to) items none = absurd cc

-- what is landed on behind a switch's body
pub lands_behind : (to other : Option (List Item)) (r : Result (Unit {0}) Halt) (now : List Item) → to ≡ other → LandsOn other r now → LandsOn to r now
lands_behind to other (Ok x) now e p = e ∙ p
lands_behind to other (Err (halt.Stops why)) now e p = (p.0, e ∙ p.1)
lands_behind to other (Err halt.Memory) now e p = tt

pub landed : (u : UnitView) (s : State) (to : Option (List Item)) (scopes : List (List ℕ)) (items now : List Item) (m : Machine) → to ≡ Some items → scopes ≡ open_scopes s.control → now ≡ entering_from scopes items → state_view u m ≡ record s { control = now } → if_some s to (λ is. on (record s { control = leap_in s.control is })) ≡ goes (state_view u m) s.world
landed u s to scopes items now m e o j same =
    ap (λ z. if_some s z (λ is. on (record s { control = leap_in s.control is }))) e
    ∙ ap (λ is. goes (record s { control = is }) s.world) (sym (j ∙ ap (λ z. entering_from z items) o))
    ∙ ap (λ t. goes t s.world) (sym same)

pub lands_as : (to : Option (List Item)) (r : Result (Unit {0}) Halt) (now : List Item) → MatchResult r (λ _. to ≡ Some now) (λ h. (h ≡ halt.Stops cause.Stuck) × (to ≡ None)) → LandsOn to r now
lands_as to (Ok x) now p = p
lands_as to (Err (halt.Stops why)) now p = let e : halt.Stops why ≡ halt.Stops cause.Stuck = p.0 in let same : why ≡ cause.Stuck = cc in (same, p.1)
lands_as to (Err halt.Memory) now p = tt
