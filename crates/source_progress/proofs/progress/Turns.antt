-- Each turn has a step, unless it stands before an open one.
use Rattle.std.proofs.Common.{◌≡◌, ℕ, Bool, true, false, List, [], ◌∷◌, ◌++◌, Option, Some, None, is_some, sym, subst, ◌∙◌}
use Rattle.c_layout.specs.CheckedUnits.{FunctionView, UnitView}
use Rattle.memory_model.specs.Effects.Worlds.{unviolated}
use Rattle.semantics.specs.SourceMachine.Items as item
use Rattle.semantics.specs.SourceMachine.Items.{Item}
use Rattle.semantics.specs.SourceMachine.Operations.{perform}
use Rattle.semantics.specs.SourceMachine.LabelSearch.{from_label}
use Rattle.semantics.specs.SourceMachine.SourceStates.{Frame, State, function_at, result_object}
use Rattle.semantics.specs.SourceMachine.SourceSteps.{is_entry, act, return_to, turn_by}
use Rattle.source_items.specs.Operations.Kinds.{Kind, Number, Address, AreOf}
use Rattle.source_items.specs.Operations.GoingReplies.{NotStuck}
use Rattle.source_items.specs.Operations.OperationLaws.{OperationsHaveSteps, StoresHaveSteps, LinesHaveSteps}
use Rattle.source_items.specs.StackKinds.KindedItems.{Effect, Does}
use Rattle.source_items.specs.Liveness.Lives.{lives, with_those}
use Rattle.source_items.specs.Liveness.Livings.{Sits, Living}
use Rattle.source_progress.specs.Progress.OpenSteps.{is_open, opens}
use Rattle.source_progress.specs.Progress.Progress.{TurnsHaveSteps}
use Rattle.source_progress.proofs.progress.Replies.{apart, steps_behind, step_there}
use Rattle.source_progress.proofs.progress.Conversions.{operation_steps}
use Rattle.source_progress.proofs.progress.Values.{again_steps, choose_steps, line_steps, bind_steps}
use Rattle.source_progress.proofs.progress.Switches.{select_steps}
use Rattle.source_progress.proofs.progress.Objects.{first_left, in_function, point_steps, outcome_steps, change_steps, leave_outcome_steps, enter_steps, leave_steps, literal_steps}

-- the three laws of operations
pub record Laws : Type 0 where
  pub operations : OperationsHaveSteps
  pub stores : StoresHaveSteps
  pub lines : LinesHaveSteps

-- the running function before an item: its values have the kinds from which the item leads, and it names what lives before it
pub record Before (u : UnitView) (f : FunctionView) (called : Option Bool) (first : Bool) (i : Item) (s : State) : Type 0 where
  pub is : function_at u s.function ≡ Some f
  pub before : List Kind
  pub after : List Kind
  pub below : List Kind
  pub effect : Effect u f called i s.control before after
  pub are : AreOf (before ++ below) s.values
  pub named : (n : ℕ) → is_some (s.names n) ≡ lives f first (i ∷ s.control) n
  pub sits : Sits f first i s.control

module _ (laws : Laws) (u : UnitView) (f : FunctionView) (called : Option Bool) (first : Bool) where
  abbrev At : Item → State → Type 0
  At = Before u f called first

  -- values of kinds that are known by an equation
  such : (s : State) (i : Item) (b : At i s) (ks : List Kind) → b.before ≡ ks → AreOf (ks ++ b.below) s.values
  such s i b ks is = subst (λ ks. AreOf (ks ++ b.below) s.values) is b.are

  acts : (i : Item) (s : State) → At i s → is_open s.values i ≡ false → NotStuck (act u i s).reply
  acts (item.Do at operation) s b shut = steps_behind (perform u operation s.values s.world) _ (operation_steps u s.world laws.operations operation b.before b.after b.below s.values shut b.effect b.are) (λ vs w. tt)
  acts item.Again s b shut = again_steps s b.effect.0 (b.effect.1 ++ b.below) s.values (such s item.Again b (b.effect.0 ∷ b.effect.1) b.effect.2)
  acts (item.Object at o offset) s b shut = point_steps u s f b.is (lives f first s.control) b.named o offset b.effect.0 b.sits
  acts (item.Literal at n) s b shut = literal_steps u s n b.effect.0
  acts (item.Outcome at) s b shut = outcome_steps u s f b.is (lives f first s.control) b.named b.sits
  acts (item.OnObject at n how) s b shut = change_steps u s f b.is (lives f first s.control) b.named n how b.sits
  acts (item.Choose at None held failed) s b shut = choose_steps u s held failed b.effect.0 (b.effect.1 ++ b.below) s.values (such s (item.Choose at None held failed) b (b.effect.0 ∷ b.effect.1) b.effect.2)
  acts (item.Choose at (Some test) held failed) s b shut = absurd (apart shut)
  acts (item.ReadLine at none some) s b shut = line_steps u s laws.lines none some (b.effect.0 ++ b.below) s.values (such s (item.ReadLine at none some) b (Address ∷ (Number ∷ (Address ∷ b.effect.0))) b.effect.1)
  acts (item.Select at None labels statement) s b shut = select_steps u labels statement b.effect.0.cases s b.below s.values (such s (item.Select at None labels statement) b (Number ∷ []) b.effect.1)
  acts (item.Select at (Some o) labels statement) s b shut = absurd (apart shut)
  acts (item.Enters objects) s b shut = enter_steps u s f b.is (lives f first s.control) objects b.named
  acts (item.Leaves objects) s b shut = leave_steps u s f b.is (lives f first s.control) objects b.named
  acts (item.GoTo n) s b shut = in_function u s f b.is _ (step_there s (from_label u f n) _ b.effect.0 (λ to. tt))
  acts item.LeaveFunction s b shut = in_function u s f b.is _ tt
  acts item.EndBody s b shut = in_function u s f b.is _ tt
  acts (item.Invoke at g count used) s b shut = step_there s (function_at u g) _ (b.effect.function, b.effect.is) (λ called. tt)
  acts (item.Bind at n depth) s b shut = in_function u s f b.is _ (bind_steps u s laws.stores f n depth b.after b.below s.values b.effect.1 (such s (item.Bind at n depth) b (Address ∷ b.after) b.effect.0))
  acts (item.LeaveOutcome at) s b shut = leave_outcome_steps u s f b.is (with_those (result_object f ∷ []) (lives f first s.control)) b.named (left (result_object f))
    where
      left : (n : ℕ) → with_those (n ∷ []) (lives f first s.control) n ≡ true
      left n = first_left n [] (lives f first s.control)
  acts other s b shut = tt

-- ---- turns

returned : (u : UnitView) (s : State) (frames : List Frame) → NotStuck (return_to u s frames).reply
returned u s [] = tt
returned u s (c ∷ cs) = tt

same_function : (f g : FunctionView) (o : Option FunctionView) → o ≡ Some f → o ≡ Some g → f ≡ g
same_function f g o one other = some_same (sym one ∙ other)
  where
    some_same : Some f ≡ Some g → f ≡ g
    some_same e = cc

turned_by : (laws : Laws) (u : UnitView) (f : FunctionView) (called : Option Bool) (first : Bool) (items : List Item) (s : State) (before after below : List Kind) → function_at u s.function ≡ Some f → Does u f called items before after → AreOf (before ++ below) s.values → Living f first s.names items → opens s.values items ≡ false → NotStuck (turn_by u s items).reply
turned_by laws u f called first [] s before after below is does are living shut = returned u s s.frames
turned_by laws u f called first (i ∷ items) s before after below is does are living shut = acts laws u f called first i (record s { control = items }) here shut
  where
    here : Before u f called first i (record s { control = items })
    here = record {
      is = is;
      before = before;
      after = does.0;
      below = below;
      effect = does.1;
      are = are;
      named = living.named;
      sits = living.sit.0;
    }

pub turn_steps : Laws → TurnsHaveSteps
turn_steps laws u s kinds living shut = turned_by laws u kinds.goes.function _ (is_entry s.frames) s.control (record s { world = unviolated s.world }) kinds.kinds kinds.left kinds.below kinds.goes.is kinds.goes.does kinds.are there shut
  where
    there : Living kinds.goes.function (is_entry s.frames) s.names s.control
    there = subst (λ f. Living f (is_entry s.frames) s.names s.control) (same_function living.0.function kinds.goes.function (function_at u s.function) living.0.is kinds.goes.is) living.0.living
