-- States whose pending values have the kinds that what is left to do takes.
use Rattle.std.specs.Prelude.{◌≡◌, ℕ, Bool, List, [], ◌∷◌, ◌++◌, Option, Some}
use Rattle.c_layout.specs.CheckedUnits.{FunctionView, UnitView}
use Rattle.memory_model.specs.Memory.Scalars.{Scalar}
use Rattle.semantics.specs.SourceMachine.Items.{Item}
use Rattle.semantics.specs.SourceMachine.SourceStates.{Frame, State, function_at}
use Rattle.source_items.specs.Operations.Kinds.{Kind, AreOf}
use Rattle.source_items.specs.StackKinds.KindedItems.{called_by, left_kinds, Does}

-- a function that was called or not goes from the kinds of its values to those that it leaves
pub record Goes (u : UnitView) (g : ℕ) (called : Option Bool) (items : List Item) (kinds left : List Kind) : Type 0 where
  pub function : FunctionView
  pub is : function_at u g ≡ Some function
  pub leaves : left ≡ left_kinds function called
  pub does : Does u function called items kinds left

-- functions that wait, the first one for values of such kinds, go on so from kinds of all values below
abbrev pub Wait : UnitView → List Kind → List Frame → List Kind → Type 0
Wait u given [] all = all ≡ []
Wait u given (c ∷ cs) all = (kinds : List Kind) × (left : List Kind) × (below : List Kind) × (all ≡ kinds ++ below) × Goes u c.function (called_by cs) c.control (given ++ kinds) left × Wait u left cs below

-- where a function runs, with others that wait, and all values
pub record Runs (u : UnitView) (g : ℕ) (items : List Item) (frames : List Frame) (values : List Scalar) : Type 0 where
  pub kinds : List Kind
  pub left : List Kind
  pub below : List Kind
  pub goes : Goes u g (called_by frames) items kinds left
  pub wait : Wait u left frames below
  pub are : AreOf (kinds ++ below) values

abbrev pub HasKinds : UnitView → State → Type 0
HasKinds u s = Runs u s.function s.control s.frames s.values
