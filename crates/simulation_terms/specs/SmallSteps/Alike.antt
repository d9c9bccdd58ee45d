-- Runs of a unit and of its templates that stand alike.
use Rattle.std.specs.Prelude.{◌≡◌, ◌<◌, ℕ, suc, ℤ, Bool, true, false, List, [], ◌∷◌, ◌++◌, length, Option}
use Rattle.cc_base.specs.declared.diagnostics.Place.{Place}
use Rattle.cc_base.specs.declared.diagnostics.Rule.{Rule}
use Rattle.memory_model.specs.Memory.Instances.{Memory}
use Rattle.memory_model.specs.Memory.Scalars.{Scalar}
use Rattle.memory_model.specs.Effects.IntegerEffects.{truth}
use Rattle.memory_model.specs.Effects.Worlds.{Why, Violation}
use Rattle.lower_templates.specs.Worklist.Acts.{Act}
use Rattle.lower_templates.specs.Worklist.Pieces.{PieceView}
use Rattle.semantics.specs.SourceMachine.Items as item
use Rattle.semantics.specs.SourceMachine.Items.{Item, Do, Drop, Truth}
use Rattle.semantics.specs.SourceMachine.Operations.{Operation}
use Rattle.semantics.specs.SourceMachine.SourceStates as states
use Rattle.semantics.specs.SourceMachine.SourceStates.{State, function_at}
use Rattle.semantics.specs.SourceMachine.SourceRuns as source
use Rattle.semantics.specs.SourceMachine.SourceRuns.{SourceRun, Run, body_of}
use Rattle.semantics.specs.TemplateMachine.TemplateStates as template
use Rattle.semantics.specs.TemplateMachine.TemplateStates.{Templates, TemplateState, TemplateRun}
use Rattle.semantics.specs.TemplateMachine.TemplateSteps.{template_begin, steps_from}
use Rattle.simulation_terms.specs.Instructions.Acts.{Holds, IsActBehind}
use Rattle.simulation_terms.specs.SimulationRelation.Activations.{Activation, activation, entry_of}
use Rattle.simulation_terms.specs.SimulationRelation.Simulates.{pieces, Simulates, Reached, AllSimulate, behind_own, at_place}

-- the items follow in the pieces, and the values stand in the temporaries; or the newest value does not, and is dropped
-- next; or a truth that is pushed next stands there already; or the newest value is there twice and stands in one
-- temporary, and an operation takes it next
pub data Lined (t : Activation) (n : ℕ) : List Item → List Scalar → (ℕ → Option Scalar) → List PieceView → Type 0 where
  plain : (items : List Item) (vs : List Scalar) (temps : ℕ → Option Scalar) (ps : List PieceView) → Simulates t n (length vs) items ps → Holds vs temps → Lined t n items vs temps ps
  loose : (v : Scalar) (items : List Item) (vs : List Scalar) (temps : ℕ → Option Scalar) (ps : List PieceView) → Simulates t n (length vs) items ps → Holds vs temps → Lined t n (Drop ∷ items) (v ∷ vs) temps ps
  put : (b : Bool) (items : List Item) (vs : List Scalar) (temps : ℕ → Option Scalar) (ps : List PieceView) → Simulates t n (suc (length vs)) items ps → Holds (truth b ∷ vs) temps → Lined t n (Truth b ∷ items) vs temps ps
  twice : (v : Scalar) (at : Place) (operation : Operation) (a : Act) (items : List Item) (vs : List Scalar) (temps : ℕ → Option Scalar) (ps : List PieceView) → IsActBehind operation a (length vs) → Simulates t n (suc (suc (length vs))) items ps → Holds (v ∷ vs) temps → Lined t n (Do at operation ∷ items) (v ∷ (v ∷ vs)) temps (at_place at a ∷ ps)

-- the functions that wait, the newest first, with all values that are pending in them: in each its items follow behind
-- the call, and its own values stand in the temporaries before the call's first one
pub data Waits (t : Templates) (n : ℕ) : List states.Frame → List Scalar → List template.Frame → Type 0 where
  none : Waits t n [] [] []
  more : (g : ℕ) (names : ℕ → Option ℕ) (items : List Item) (vs : List Scalar) (temps : ℕ → Option Scalar) (ps : List PieceView) (at : Place) (used : Bool) (callers : List states.Frame) (below : List Scalar) (waiting : List template.Frame)
      → Reached t g
      → Simulates (activation t g callers) n (behind_own used (length vs)) items ps
      → Holds vs temps
      → Waits t n callers below waiting
      → Waits t n (record { function = g; names = names; control = items; at = at; used = used } ∷ callers) (vs ++ below)
      (record { function = g; rest = ps; temps = temps; names = names; depth = length vs; at = at; used = used } ∷ waiting)

-- the same function runs, the same ones wait, objects name the same instances, and the worlds are the same, but for what
-- the last step has violated
pub data Related (t : Templates) (n : ℕ) : State → TemplateState → Type 0 where
  related : (g : ℕ) (names : ℕ → Option ℕ) (items : List Item) (vs : List Scalar) (temps : ℕ → Option Scalar) (ps : List PieceView) (memory : Memory) (draws : List ℤ) (old new : List Rule) (callers : List states.Frame) (below : List Scalar) (waiting : List template.Frame)
      → Reached t g
      → Lined (activation t g callers) n items vs temps ps
      → Waits t n callers below waiting
      → Related t n
      (record { function = g; names = names; control = items; values = vs ++ below; frames = callers; world = record { memory = memory; draws = draws; violated = old } })
      (record { function = g; rest = ps; temps = temps; names = names; frames = waiting; world = record { memory = memory; draws = draws; violated = new } })

-- both go on alike for so many turns, or have stopped alike
pub data Alike (t : Templates) (n : ℕ) : SourceRun → TemplateRun → Type 0 where
  both_run : (s : State) (r : TemplateState) (found also_found : List Violation) (steps : ℕ) → Related t n s r → found ≡ also_found → Alike t n (source.running s found steps) (template.running r also_found)
  both_stopped : (why : Why) (memory : Memory) (draws : List ℤ) (old new : List Rule) (found also_found : List Violation) (steps : ℕ) → found ≡ also_found → Alike t n (source.stopped why (record { memory = memory; draws = draws; violated = old }) found steps) (template.stopped why (record { memory = memory; draws = draws; violated = new }) also_found)

-- an item is a step, or calls
abbrev pub moves_first : Item → Bool
moves_first (item.Do at operation) = true
moves_first (item.Object at o offset) = true
moves_first (item.Literal at i) = true
moves_first (item.Outcome at) = true
moves_first (item.OnObject at local how) = true
moves_first (item.Choose at test held failed) = true
moves_first (item.ReadLine at unread read) = true
moves_first (item.Select at o labels body) = true
moves_first (item.Enters (x ∷ xs)) = true
moves_first (item.Leaves (x ∷ xs)) = true
moves_first item.Hop = true
moves_first (item.Invoke at g count used) = true
moves_first (item.Bind at n depth) = true
moves_first (item.LeaveOutcome at) = true
moves_first other = false

-- a step or a call comes next, or nothing is left to do
abbrev pub moves : List Item → Bool
moves [] = true
moves (i ∷ items) = moves_first i

abbrev pub moves_next : SourceRun → Bool
moves_next (source.running s found steps) = moves s.control
moves_next (source.stopped why w found steps) = false

-- the pieces that are still to be done
abbrev pub rest_of : TemplateRun → List PieceView
rest_of (template.running r found) = r.rest
rest_of (template.stopped why w found) = []

-- behind a turn of the source and so many pieces both stand alike; until then the templates stand where the source stood
-- before; a turn that is a step, a call or a return is a piece, and one that is none of these takes no piece where none is left
pub record Next (t : Templates) (n : ℕ) (before after : SourceRun) (b : TemplateRun) : Type 0 where
  pub steps : ℕ
  pub both : Alike t n after (steps_from t steps b)
  pub between : (j : ℕ) → j < steps → Alike t n before (steps_from t j b)
  pub moved : steps ≡ 0 → moves_next before ≡ false
  pub rests : moves_next before ≡ false → rest_of b ≡ [] → steps ≡ 0

-- a turn of the source is so many pieces, where all functions that are called follow
abbrev pub TurnsAreSimulated : Type 0
TurnsAreSimulated = (t : Templates) → AllSimulate t → (n : ℕ) (a : SourceRun) (b : TemplateRun) → Alike t (suc n) a b → Next t n a (source.next t.unit a) b

-- both have come to the same memory with the same draws left, have violated the same, and have stopped for the same
-- cause or not at all
pub record Agree (s : SourceRun) (r : TemplateRun) : Type 0 where
  pub memory : (source.world_of s).memory ≡ (template.world_of r).memory
  pub draws : (source.world_of s).draws ≡ (template.world_of r).draws
  pub found : source.found_in s ≡ template.found_in r
  pub why : source.why_of s ≡ template.why_of r

-- where the body of the entry follows in the pieces of its template, and each function that is called in those of its own,
-- each run of the unit is one of the templates
abbrev pub RunsAreSimulated : Type 0
RunsAreSimulated = (t : Templates) → AllSimulate t → ((n : ℕ) → Simulates (entry_of t) n 0 (body_of (function_at t.unit t.unit.entry)) (pieces (entry_of t))) → (draws : List ℤ) (turns : ℕ) → (steps : ℕ) × Agree (Run t.unit draws turns) (steps_from t steps (template_begin t draws))
