-- The initializers of each unit that is checked are typed, where its objects are plain and its structs stand in no circle, with
-- members that stand apart.
use Rattle.std.specs.Prelude.{◌≡◌, true, ℕ, List, Ok}
use Rattle.c_layout.specs.declared.data_model.Model.{Model}
use Rattle.c_layout.specs.CheckedUnits.{UnitView}
use Rattle.c_layout.specs.DeclarationTrees.{ExternalTree}
use Rattle.c_layout.specs.Models.{is_model}
use Rattle.c_types_theorems.specs.UnitChecks.{check}
use Rattle.lower_preconditions.specs.Objects.PlainObjects.{has_plain_objects}
use Rattle.store_structs.specs.LaidApart.{are_laid_apart}
use Rattle.analysis_preconditions.specs.StructNesting.OrderedStructs.{are_ordered}
use Rattle.entry_sound.specs.Tables.TypedInitializers.{HasTypedInitializers}

abbrev pub CheckedInitializersAreTyped : Type 0
CheckedInitializersAreTyped = (m : Model) (name : List ℕ) (es : List ExternalTree) (u : UnitView) → check m name es ≡ Ok u
    → is_model u.model ≡ true → has_plain_objects u ≡ true → are_laid_apart u.model u.structs ≡ true → are_ordered u.structs ≡ true → HasTypedInitializers u
