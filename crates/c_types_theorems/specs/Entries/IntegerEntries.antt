-- What typing says of the entry of a unit: its parameters are the first ones of its local objects, and have integer types.
use Rattle.std.specs.Prelude.{◌≡◌, ◌<◌, ℕ, Some, List, Ok, slice_get}
use Rattle.cc_base.specs.declared.int_types.IntType.{IntType}
use Rattle.c_layout.specs.Types.{Int}
use Rattle.c_layout.specs.DeclarationTrees.{ExternalTree}
use Rattle.c_layout.specs.CheckedUnits.{LocalView, FunctionView, UnitView}
use Rattle.c_layout.specs.declared.data_model.Model.{Model}
use Rattle.c_types.specs.Units.UnitChecks.{check}

abbrev pub IsInteger : FunctionView → ℕ → Type 0
IsInteger f k = (l : LocalView) × (kind : IntType) × (slice_get f.locals k ≡ Some l) × (l.ctype ≡ Int kind)

abbrev pub TakesIntegers : UnitView → Type 0
TakesIntegers u = (f : FunctionView) → slice_get u.functions u.entry ≡ Some f → (k : ℕ) → k < f.parameters → IsInteger f k

-- of each unit that is checked
abbrev pub EntriesTakeIntegers : Type 0
EntriesTakeIntegers = (m : Model) (name : List ℕ) (es : List ExternalTree) (u : UnitView) → check m name es ≡ Ok u → TakesIntegers u
