-- Turns that are others with other words.
use Rattle.std.proofs.Common.{◌≡◌, ℕ, suc, ◌-◌, ◌<◌, List, [], ◌∷◌, ◌++◌, replicate, Bool, true, false, Option, Some, None, Result, Ok, Err, IfOk, refl, sym, ap, subst, ◌∙◌, arith}
use Rattle.std.specs.Option.{option_map}
use Rattle.cc_base.specs.declared.diagnostics.Place.{Place}
use Rattle.c_layout.specs.CheckedUnits.{UnitView}
use Rattle.c_layout.specs.declared.checked_tree.checked_terms.ObjectRef.{ObjectRef}
use Rattle.memory_model.specs.Effects.Tests.{TestedSide, object}
use Rattle.memory_model.specs.Effects.Worlds.{Reply, goes, stops, Stuck}
use Rattle.interp_accesses.specs.WorldViews.{world_view, HaltsAs, ComesTo, nothing_view}
use Rattle.interp_accesses.specs.declared.worlds.Cause.TheVariants as cause
use Rattle.interp_accesses.specs.declared.worlds.Halt.{Halt}
use Rattle.interp_accesses.specs.declared.worlds.Halt.TheVariants as halt
use Rattle.semantics.specs.SourceMachine.BranchSteps.{with_side, in_world}
use Rattle.semantics.specs.SourceMachine.Items as item
use Rattle.semantics.specs.SourceMachine.Items.{NamedSide, Item}
use Rattle.c_layout.specs.CheckedTrees as tree
use Rattle.c_layout.specs.CheckedTrees.{StatementTree}
use Rattle.interp_stack.specs.ItemViews.{loop_item, loop_turn}
use Rattle.interp_stack.specs.StackViews.{StackView, on_line}
use Rattle.semantics.specs.SourceMachine.ObjectSteps.{on}
use Rattle.semantics.specs.SourceMachine.SourceStates.{State, with_world, stuck_at, if_some, with_object, instance_of, first_do}
use Rattle.semantics.specs.SourceMachine.SourceSteps.{Turned, quiet, turn_by, enter_all, leave_all}
use Rattle.interp_steps.proofs.operations.Operating.{halted}
use Rattle.interp_steps.specs.MachineItems.MachineViews.{state_view}
use Rattle.interp_steps.specs.MachineItems.Moves.{Moves, CountsAs, TurnsTo, HeldAs, tested_as, turn_with}
use Rattle.interp_steps.specs.declared.machine_items.machines.Machine.{Machine}
use Rattle.interp_steps.specs.declared.machine_items.item_turns.Turned7.{Turned7}

pub counts_exact : (a b : Option Place) (r : Result (Unit {0}) Halt) → a ≡ b → CountsAs a r b
counts_exact a b (Ok x) e = e
counts_exact a b (Err (halt.Stops why)) e = e
counts_exact a b (Err halt.Memory) e = tt

-- a turn by its parts
pub turns_by : (u : UnitView) (turned : Turned) (t : Turned7) (m : Machine) (reply : Result (Unit {0}) Halt) (at : Option Place) → t ≡ record { reply = reply; counted = at } → Moves u turned.reply reply m → turned.counted ≡ at → TurnsTo u turned t m
turns_by u turned t m reply at e p q = record {
  reply = subst (λ (x : Turned7). Moves u turned.reply x.reply m) (sym e) p;
  counted = subst (λ (x : Turned7). CountsAs turned.counted x.reply x.counted) (sym e) (counts_exact turned.counted at reply q);
}

-- a turn is told of the same one
pub turns_same : (u : UnitView) (a b : Turned) (t : Turned7) (m : Machine) → a ≡ b → TurnsTo u a t m → TurnsTo u b t m
turns_same u a b t m e p = subst (λ x. TurnsTo u x t m) e p

pub moves_same : (u : UnitView) (a b : Reply State) (r : Result (Unit {0}) Halt) (m : Machine) → a ≡ b → Moves u a r m → Moves u b r m
moves_same u a b r m e p = subst (λ x. Moves u x r m) e p

-- other items in the place of one, or want of memory
pub moves_held : {E : Type 0} (u : UnitView) (m : Machine) (s : State) (items : List Item) (more : List Item) (pushed : Result (Unit {0}) E) (r : Result (Unit {0}) Halt) → state_view u m ≡ record s { control = items } → IfOk pushed (λ _. items ≡ more ++ s.control) → HeldAs pushed r → Moves u (on (first_do more s)) r m
moves_held u m s items more (Ok x) r same p q =
    subst (λ k. Moves u (on (first_do more s)) k m) (sym q)
    (ap on (ap (λ is. record s { control = is }) (sym p) ∙ sym same))
moves_held u m s items more (Err x) r same p q = subst (λ k. Moves u (on (first_do more s)) k m) (sym q) tt

pub turns_held : {E : Type 0} (u : UnitView) (turned : Turned) (t : Turned7) (m : Machine) (s : State) (items more : List Item) (pushed : Result (Unit {0}) E) → turned ≡ quiet (on (first_do more s)) → state_view u m ≡ record s { control = items } → IfOk pushed (λ _. items ≡ more ++ s.control) → HeldAs pushed t.reply → t.counted ≡ None → TurnsTo u turned t m
turns_held u turned t m s items more pushed e same p held none = turns_same u (quiet (on (first_do more s))) turned t m (sym e) (record {
  reply = moves_held u m s items more pushed t.reply same p held;
  counted = counts_exact None t.counted t.reply (sym none);
})

-- ---- runs that are stuck, and steps in the world

pub moves_stuck : (u : UnitView) (s : State) (reply : Reply State) (h : Halt) (m : Machine) → h ≡ halt.Stops cause.Stuck → reply ≡ stuck_at s → world_view m.world ≡ s.world → Moves u reply (Err h) m
moves_stuck u s reply h m e p w = subst (λ k. HaltsAs reply k (world_view m.world)) (sym e) (p ∙ ap (λ v. stops Stuck v) (sym w))

pub moves_in_world : (u : UnitView) (s : State) (reply : Reply (Unit {0})) (r : Result (Unit {0}) Halt) (m : Machine) → state_view u m ≡ with_world s (world_view m.world) → ComesTo nothing_view reply r (world_view m.world) → Moves u (in_world s reply) r m
moves_in_world u s reply (Ok x) m same p = ap (in_world s) p ∙ ap (λ t. goes t (world_view m.world)) (sym same)
moves_in_world u s reply (Err h) m same p = halted reply (λ _ w. on (with_world s w)) h (world_view m.world) p

-- ---- objects

pub enters_none : (u : UnitView) (s : State) (objects : List ℕ) → objects ≡ [] → enter_all u s objects ≡ record { reply = on s; counted = None }
enters_none u s objects e = ap (enter_all u s) e

pub leaves_none : (u : UnitView) (s : State) (objects : List ℕ) → objects ≡ [] → leave_all u s objects ≡ record { reply = on s; counted = None }
leaves_none u s objects e = ap (leave_all u s) e

pub dropped_first : (u : UnitView) (m n : Machine) (count : ℕ) → 0 < count → state_view u n ≡ record (state_view u m) { control = replicate (count - 1) item.Drop ++ (state_view u m).control } → turn_with u (item.Drop ∷ []) n ≡ turn_with u (replicate count item.Drop) m
dropped_first u m n count h e =
    let one : suc (count - 1) ≡ count = omega arith in
    ap (λ (s : State). turn_by u s (item.Drop ∷ s.control)) e
    ∙ ap (λ k. turn_by u (state_view u m) (replicate k item.Drop ++ (state_view u m).control)) one

-- ---- sides of tests

object_there : (s : State) (o : Option ℕ) (make : ℕ → TestedSide) (use_it : TestedSide → Reply State) (x : TestedSide) → option_map make o ≡ Some x → if_some s o (λ i. use_it (make i)) ≡ use_it x
object_there s None make use_it x e = absurd cc
object_there s (Some i) make use_it x e = let same : make i ≡ x = cc in ap use_it same

pub named_there : (s : State) (o : ObjectRef) (make : ℕ → TestedSide) (use_it : TestedSide → Reply State) (x : TestedSide) → option_map make (instance_of s.names o) ≡ Some x → with_object s o (λ i. use_it (make i)) ≡ use_it x
named_there s o make use_it x e = object_there s (instance_of s.names o) make use_it x e

pub side_there : (s : State) (side : NamedSide) (use_it : TestedSide → Reply State) (x : TestedSide) → tested_as s.names side ≡ Some x → with_side s side use_it ≡ use_it x
side_there s (item.named o) use_it x e = object_there s (instance_of s.names o.object) (λ i. object i o.kind) use_it x e
side_there s (item.number n) use_it x e = let same : _ ≡ x = cc in ap use_it same
side_there s item.nothing use_it x e = let same : _ ≡ x = cc in ap use_it same

object_lost : (s : State) (o : Option ℕ) (make : ℕ → TestedSide) (use_it : TestedSide → Reply State) → option_map make o ≡ None → if_some s o (λ i. use_it (make i)) ≡ stuck_at s
object_lost s None make use_it e = refl
object_lost s (Some i) make use_it e = absurd cc

pub named_lost : (s : State) (o : ObjectRef) (use_it : ℕ → Reply State) → instance_of s.names o ≡ None → with_object s o use_it ≡ stuck_at s
named_lost s o use_it e = ap (λ i. if_some s i use_it) e

pub side_lost : (s : State) (side : NamedSide) (use_it : TestedSide → Reply State) → tested_as s.names side ≡ None → with_side s side use_it ≡ stuck_at s
side_lost s (item.named o) use_it e = object_lost s (instance_of s.names o.object) (λ i. object i o.kind) use_it e
side_lost s (item.number n) use_it e = absurd cc
side_lost s item.nothing use_it e = absurd cc

-- ---- lines and loops

pub line_counted : (u : UnitView) (at : Place) (wants : Bool) (st : StackView) (s : State) → (turn_by u s (on_line at wants st).items).counted ≡ Some at
line_counted u at true st s = refl
line_counted u at false st s = refl

pub loop_turned : (u : UnitView) (s : State) (items : List Item) (x : StatementTree) → quiet (on (first_do (loop_turn u x) (record s { control = items }))) ≡ turn_by u s (loop_item x ∷ items)
loop_turned u s items (tree.While c body) = refl
loop_turned u s items (tree.Do body c) = refl
loop_turned u s items (tree.For objects first c step body) = refl
loop_turned u s items x = refl
