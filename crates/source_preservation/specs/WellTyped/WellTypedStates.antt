-- States whose pending values have the marks that what is left to do takes, and whose memory is proper.
use Rattle.std.specs.Prelude.{◌≡◌, ◌≤◌, ℕ, Bool, List, [], ◌∷◌, ◌++◌, length, Option, Some, slice_get}
use Rattle.c_layout.specs.CheckedUnits.{FunctionView, StaticView, UnitView}
use Rattle.lower_functions.specs.Functions.Functions.{local_type}
use Rattle.memory_model.specs.Memory.Instances.{Memory, bytes_at}
use Rattle.memory_model.specs.Memory.Scalars.{Scalar}
use Rattle.semantics.specs.SourceMachine.Items.{Item}
use Rattle.semantics.specs.SourceMachine.Operations.{size_of}
use Rattle.semantics.specs.SourceMachine.SourceStates.{Frame, State, function_at}
use Rattle.source_items.specs.StackKinds.KindedItems.{called_by}
use Rattle.source_preservation.specs.ValueTyping.Marks.{Mark, AreStable, AreWellTyped}
use Rattle.source_preservation.specs.ValueTyping.ProperMemory.{IsProperMemory}
use Rattle.source_preservation.specs.WellTyped.WellTypedItems.{left_marks, Does}

-- the objects that a function names have their sizes
abbrev pub HaveRoom : UnitView → Memory → FunctionView → (ℕ → Option ℕ) → Type 0
HaveRoom u memory f names = (n i : ℕ) → names n ≡ Some i → size_of u (local_type f n) ≤ length (bytes_at memory i)

-- and so have those of static storage
abbrev pub StaticsHaveRoom : UnitView → Memory → Type 0
StaticsHaveRoom u memory = (n : ℕ) (o : StaticView) → slice_get u.objects n ≡ Some o → size_of u o.ctype ≤ length (bytes_at memory n)

-- a function that was called or not goes from the marks of its values to those that it leaves
pub record Goes (u : UnitView) (memory : Memory) (g : ℕ) (called : Option Bool) (names : ℕ → Option ℕ) (items : List Item) (marks left : List Mark) : Type 0 where
  pub function : FunctionView
  pub is : function_at u g ≡ Some function
  pub room : HaveRoom u memory function names
  pub leaves : left ≡ left_marks function called
  pub does : Does u function called items marks left

-- functions that wait, the first one for values of such marks, with all values below
pub data Wait (u : UnitView) (memory : Memory) : List Mark → List Frame → List Scalar → Type 0 where
  none : Wait u memory [] [] []
  caller : {given : List Mark} {values : List Scalar} (c : Frame) (cs : List Frame) (marks left : List Mark) (own rest : List Scalar) → values ≡ own ++ rest → AreStable marks → AreWellTyped u.model c.names memory marks own → Goes u memory c.function (called_by cs) c.names c.control (given ++ marks) left → Wait u memory left cs rest → Wait u memory given (c ∷ cs) values

-- where a function runs, with others that wait, and all values
pub record Runs (u : UnitView) (s : State) : Type 0 where
  pub marks : List Mark
  pub left : List Mark
  pub own : List Scalar
  pub rest : List Scalar
  pub values : s.values ≡ own ++ rest
  pub are : AreWellTyped u.model s.names s.world.memory marks own
  pub goes : Goes u s.world.memory s.function (called_by s.frames) s.names s.control marks left
  pub wait : Wait u s.world.memory left s.frames rest
  pub proper : IsProperMemory u.model s.world.memory
  pub statics : StaticsHaveRoom u s.world.memory
