-- The types of a data model: each integer type in them is one of a rank of the model.
use Rattle.std.specs.Prelude.{◌≡◌, ℕ, true, List, Option, Some, slice_get}
use Rattle.cc_base.specs.declared.int_types.IntType.{IntType}
use Rattle.c_layout.specs.Models.{is_model}
use Rattle.c_layout.specs.Types.{Ty, Int, Pointer, Array, Struct, Void}
use Rattle.c_layout.specs.CheckedUnits.{UnitView}
use Rattle.c_layout.specs.declared.data_model.Model.{Model}
use Rattle.c_types_rules.specs.Rules.IntegerKinds.{kind_of}
use Rattle.c_types_rules.specs.declared.rules.integer_kinds.Rank.{Rank}
use Rattle.c_types_scopes.specs.Known.{Known}

abbrev pub IsKindOf : Model → IntType → Type 0
IsKindOf m kind = (r : Rank) × (kind ≡ kind_of m r kind.signed)

abbrev pub IsTypeOf : Model → Ty → Type 0
IsTypeOf m (Int kind) = IsKindOf m kind
IsTypeOf m (Pointer t) = IsTypeOf m t
IsTypeOf m (Array t n) = IsTypeOf m t
IsTypeOf m (Struct i) = Unit {0}
IsTypeOf m Void = Unit {0}

-- a property of each element of a list
abbrev pub Each : {A : Type 0} → (A → Type 0) → List A → Type 0
Each P xs = (i : ℕ) (x : _) → slice_get xs i ≡ Some x → P x

-- typing and the unit have one data model
pub record IsGround (u : UnitView) (k : Known) : Type 0 where
  pub same : u.model ≡ k.numbers
  pub proper : is_model u.model ≡ true
