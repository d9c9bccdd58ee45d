-- Types from declarators (6.7.6).
use Rattle.std.specs.Prelude.{ℕ, Bool, true, false, ◌*◌, cond, nat_le, List, [], ◌∷◌, Option, Some, None}
use Rattle.c_layout.specs.Types.{Ty, Pointer, Array}
use Rattle.c_layout.specs.StructViews.{StructView}
use Rattle.c_types_rules.specs.Rules.TypeSizes.{sized}
use Rattle.c_types_scopes.specs.Known.{Known}
use Rattle.c_types_scopes.specs.declared.type_steps.TypeStep.{TypeStep}
use Rattle.c_types_scopes.specs.declared.type_steps.TypeStep.TheVariants as step

-- the most bytes that a type may have
abbrev pub most_bytes : ℕ
most_bytes = 1073741824

abbrev pub may_repeat : ℕ → Option ℕ → Bool
may_repeat count None = false
may_repeat count (Some size) = nat_le (size * count) most_bytes

-- whether an array of so many elements of a type is not too large, and the type complete
abbrev pub may_be_element : List StructView → ℕ → Ty → ℕ → Bool
may_be_element structs pointer element count = may_repeat count (sized structs pointer element)

abbrev pub array_of : List StructView → ℕ → Ty → ℕ → Option Ty
array_of structs pointer element count = cond (may_be_element structs pointer element count) (Some (Array element count)) None

-- the type that a step makes of a type
abbrev pub step_of : List StructView → ℕ → Ty → TypeStep → Option Ty
step_of structs pointer t step.Pointer = Some (Pointer t)
step_of structs pointer t (step.Array count) = array_of structs pointer t count

abbrev pub then_step : List StructView → ℕ → TypeStep → Option Ty → Option Ty
then_step structs pointer s None = None
then_step structs pointer s (Some t) = step_of structs pointer t s

-- the type that steps make, read from the name outwards: the last one is the first to be made
unfoldable pub stepped : List StructView → ℕ → Ty → List TypeStep → Option Ty
stepped structs pointer t [] = Some t
stepped structs pointer t (s ∷ steps) = then_step structs pointer s (stepped structs pointer t steps)

abbrev pub declarator_type : Known → Ty → List TypeStep → Option Ty
declarator_type k t steps = stepped k.structs k.numbers.pointer t steps
