-- The functions of a unit that was looked at.
use Rattle.std.specs.Prelude.{◌≡◌, ℕ, true, Some, slice_get}
use Rattle.c_layout.specs.CheckedUnits.{FunctionView, UnitView}
use Rattle.lower_preconditions.specs.Units.RegularUnits.{is_regular_function, is_regular_unit}

-- each function of a regular unit is regular
abbrev pub FunctionsAreRegular : Type 0
FunctionsAreRegular = (u : UnitView) (n : ℕ) (f : FunctionView) → is_regular_unit u ≡ true → slice_get u.functions n ≡ Some f → is_regular_function u f ≡ true
