-- The parameters of the entry of a checked unit are among its local objects.
use Rattle.std.specs.Prelude.{◌≡◌, ◌≤◌, ℕ, Some, List, Ok, length, slice_get}
use Rattle.c_layout.specs.DeclarationTrees.{ExternalTree}
use Rattle.c_layout.specs.CheckedUnits.{FunctionView, UnitView}
use Rattle.c_layout.specs.declared.data_model.Model.{Model}
use Rattle.c_types_theorems.specs.UnitChecks.{check}

-- the entry of a checked unit has no more parameters than local objects
abbrev pub EntriesHaveLocals : Type 0
EntriesHaveLocals = (m : Model) (name : List ℕ) (es : List ExternalTree) (u : UnitView) → check m name es ≡ Ok u → (f : FunctionView) → slice_get u.functions u.entry ≡ Some f → f.parameters ≤ length f.locals
