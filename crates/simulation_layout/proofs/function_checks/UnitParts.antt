-- What holds of all functions holds of each.
use Rattle.std.proofs.Common.{◌≡◌, ℕ, zero, suc, Bool, true, false, ◌&&◌, List, [], ◌∷◌, Option, Some, None, slice_get, refl, subst}
use Rattle.std.specs.List.{list_all}
use Rattle.c_layout.specs.CheckedUnits.{FunctionView, UnitView}
use Rattle.lower_preconditions.specs.Units.RegularUnits.{is_regular_function, is_regular_unit}
use Rattle.simulation_layout.proofs.function_checks.CountedLabels.{both_true}

all_at : (P : FunctionView → Bool) (fs : List FunctionView) (n : ℕ) (f : FunctionView) → list_all P fs ≡ true → slice_get fs n ≡ Some f → P f ≡ true
all_at P [] n f all is = absurd (no is)
  where
    no : slice_get [] n ≡ Some f → ⊥
    no is = cc
all_at P (g ∷ gs) zero f all is = subst (λ h. P h ≡ true) (some_is g f is) (both_true (P g) (list_all P gs) all).0
  where
    some_is : (x y : FunctionView) → Some x ≡ Some y → x ≡ y
    some_is x y e = cc
all_at P (g ∷ gs) (suc n) f all is = all_at P gs n f (both_true (P g) (list_all P gs) all).1 is

pub function_regular : (u : UnitView) (n : ℕ) (f : FunctionView) → is_regular_unit u ≡ true → slice_get u.functions n ≡ Some f → is_regular_function u f ≡ true
function_regular u n f all is = all_at (is_regular_function u) u.functions n f all is
