-- At the end of an accepted unit all functions and objects that were declared with a number are there.
use Rattle.std.specs.Prelude.{◌≡◌, ℕ, List, Ok}
use Rattle.c_layout.specs.CheckedUnits.{FunctionView}
use Rattle.c_layout.specs.DeclarationTrees.{ExternalTree}
use Rattle.c_layout.specs.declared.data_model.Model.{Model}
use Rattle.c_types_scopes.specs.States.{State, first_state}
use Rattle.c_types.specs.Units.UnitChecks.{typed_unit, unit_of}
use Rattle.c_types_well_formed.specs.WellFormed.UnitParts.{IsPartOf}

abbrev pub UnitsHaveHeads : Type 0
UnitsHaveHeads = (m : Model) (es : List ExternalTree) (functions : List FunctionView) (s : State) (entry : ℕ) → typed_unit (first_state m) es ≡ Ok (functions, s) → IsPartOf s (unit_of m functions s entry)
