-- Items that come to a step, a call or nothing, one after the other.
use Rattle.std.proofs.Common.{◌≡◌, ℕ, suc, Bool, true, false, List, [], ◌∷◌, ◌++◌, Option, refl}
use Rattle.c_layout.specs.CheckedUnits.{UnitView}
use Rattle.c_layout.specs.CheckedTrees.{TermTree, LvalueTree}
use Rattle.memory_model.specs.Memory.Scalars.{Scalar}
use Rattle.memory_model.specs.Effects.Worlds.{World, Violation}
use Rattle.semantics.specs.SourceMachine.Items as item
use Rattle.semantics.specs.SourceMachine.Items.{Item}
use Rattle.semantics.specs.SourceMachine.TermItems.{address_items, if_used}
use Rattle.semantics.specs.SourceMachine.ConditionItems.{term_items}
use Rattle.semantics.specs.SourceMachine.SourceStates.{Frame, State}
use Rattle.semantics.specs.SourceMachine.SourceRuns.{running, next}
use Rattle.simulation_terms.specs.SmallSteps.Alike.{moves, moves_first}
use Rattle.simulation_units.specs.Returns.QuietTurns as quiet_turns
use Rattle.simulation_units.specs.Returns.QuietTurns.{Comes}

module _ (u : UnitView) (g : ℕ) (callers : List Frame) where
  -- where a function stands
  abbrev pub state : List Item → (ℕ → Option ℕ) → List Scalar → World → State
  state items names values w = record { function = g; names = names; control = items; values = values; frames = callers; world = w }

  -- turns that are no step end, whatever is pending
  abbrev pub Ends : List Item → Type 0
  Ends items = (names : ℕ → Option ℕ) (values : List Scalar) (w : World) (found : List Violation) (steps : ℕ) → (n : ℕ) × Comes u n (running (state items names values w) found steps)

  pub one_turn : (items : List Item) → moves items ≡ false → (names : ℕ → Option ℕ) (values : List Scalar) (w : World) (found : List Violation) (steps : ℕ) → (n : ℕ) × Comes u n (next u (running (state items names values w) found steps)) → (n : ℕ) × Comes u n (running (state items names values w) found steps)
  one_turn items still names values w found steps x = (suc x.0, quiet_turns.quiet x.0 (running (state items names values w) found steps) still x.1)

  pub at_once : (items : List Item) → moves items ≡ true → Ends items
  at_once items now names values w found steps = (0, quiet_turns.there (state items names values w) found steps now)

  -- an item behind which they end where they do without it
  abbrev pub Normalized : Item → Type 0
  Normalized i = (rest : List Item) → Ends rest → Ends (i ∷ rest)

  pub data AllSettle : List Item → Type 0 where
    none : AllSettle []
    first : (i : Item) (items : List Item) → moves_first i ≡ true → AllSettle (i ∷ items)
    more : (i : Item) (items : List Item) → Normalized i → AllSettle items → AllSettle (i ∷ items)

  pub settle : (items : List Item) → AllSettle items → (rest : List Item) → Ends rest → Ends (items ++ rest)
  settle _ none rest ends = ends
  settle _ (first i items now) rest ends = at_once (i ∷ (items ++ rest)) now
  settle _ (more i items normalized later) rest ends = normalized (items ++ rest) (settle items later rest ends)

  pub both : (xs ys : List Item) → AllSettle xs → AllSettle ys → AllSettle (xs ++ ys)
  both _ ys none b = b
  both _ ys (first i items now) b = first i (items ++ ys) now
  both _ ys (more i items normalized later) b = more i (items ++ ys) normalized (both items ys later b)

  -- ---- items that give way to others

  pub value : (e : TermTree) → AllSettle (term_items u true e) → Normalized (item.Value e)
  value e all rest ends = λ names values w found steps. one_turn (item.Value e ∷ rest) refl names values w found steps (settle (term_items u true e) all rest ends names values _ _ _)

  pub unused : (e : TermTree) → AllSettle (term_items u false e) → Normalized (item.Unused e)
  unused e all rest ends = λ names values w found steps. one_turn (item.Unused e ∷ rest) refl names values w found steps (settle (term_items u false e) all rest ends names values _ _ _)

  pub address : (l : LvalueTree) → AllSettle (address_items u l) → Normalized (item.Address l)
  address l all rest ends = λ names values w found steps. one_turn (item.Address l ∷ rest) refl names values w found steps (settle (address_items u l) all rest ends names values _ _ _)

  pub drop : Normalized item.Drop
  drop rest ends = λ names values w found steps. one_turn (item.Drop ∷ rest) refl names values w found steps (ends names _ _ _ _)

  pub again : Normalized item.Again
  again rest ends = by
    where
      by : Ends (item.Again ∷ rest)
      by names [] w found steps = one_turn (item.Again ∷ rest) refl names [] w found steps (0, quiet_turns.has_stopped _ _ _ _)
      by names (v ∷ vs) w found steps = one_turn (item.Again ∷ rest) refl names (v ∷ vs) w found steps (ends names _ _ _ _)

  pub if_is_used : (used : Bool) (items : List Item) → AllSettle items → AllSettle (if_used used items)
  if_is_used true items all = all
  if_is_used false items all = both items (item.Drop ∷ []) all (more item.Drop [] drop none)
