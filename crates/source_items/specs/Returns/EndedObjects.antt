-- The objects whose lives a list of items ends.
use Rattle.std.specs.Prelude.{◌≡◌, ℕ, true, List, [], ◌∷◌, ◌++◌}
use Rattle.c_layout.specs.CheckedUnits.{FunctionView}
use Rattle.lower_functions.specs.Functions.Functions.{numbers_from}
use Rattle.semantics.specs.SourceMachine.Items as item
use Rattle.semantics.specs.SourceMachine.Items.{Item}
use Rattle.semantics.specs.SourceMachine.Scopes.{is_in}
use Rattle.semantics.specs.SourceMachine.CallSteps.{with_result}

-- the parameters of a function, and the object of its result, if it has one
abbrev pub own_objects : FunctionView → List ℕ
own_objects f = with_result f (numbers_from 0 f.parameters)

-- the objects of a function that was called which an item ends, there or by what it leads to
abbrev pub ended_by : FunctionView → Item → List ℕ
ended_by f (item.Leaves objects) = objects
ended_by f item.EndBody = own_objects f
ended_by f (item.LeaveOutcome at) = with_result f []
ended_by f i = []

-- the objects that items end, one after the other
abbrev pub ended : FunctionView → List Item → List ℕ
ended f [] = []
ended f (i ∷ items) = ended_by f i ++ ended f items

-- each of some objects is one of others
abbrev pub AreAmong : List ℕ → List ℕ → Type 0
AreAmong xs ys = (n : ℕ) → is_in n xs ≡ true → is_in n ys ≡ true

-- items end the parameters and the result
abbrev pub EndOwn : FunctionView → List Item → Type 0
EndOwn f items = AreAmong (own_objects f) (ended f items)
