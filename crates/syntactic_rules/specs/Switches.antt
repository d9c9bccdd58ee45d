-- Whether a switch has a label for each value that it may meet.
use Rattle.std.specs.Prelude.{ℤ, Bool, false, ◌&&◌, not, List, Option, Some, None, Vec}
use Rattle.std.specs.List.{list_any, list_all}
use Rattle.std.specs.Ordering.{int_eq}
use Rattle.std.specs.Global.{Global}
use Rattle.c_layout.specs.declared.checked_tree.checked_statements.CaseLabel.{CaseLabel}

-- whether a value is a case label
abbrev pub is_label : List CaseLabel → ℤ → Bool
is_label cases value = list_any (λ c. int_eq c.value value) cases

abbrev pub are_labels : List CaseLabel → List ℤ → Bool
are_labels cases values = list_all (is_label cases) values

-- whether each enumerator's value is one, where the controlling expression is declared with an
-- enumerated type
abbrev pub is_covered : List CaseLabel → Option (Vec ℤ Global) → Bool
is_covered cases None = false
is_covered cases (Some values) = are_labels cases values.items

abbrev pub lacks_default : List CaseLabel → Bool → Option (Vec ℤ Global) → Bool
lacks_default cases has_default values = not has_default && not (is_covered cases values)
