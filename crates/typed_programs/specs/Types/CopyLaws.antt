-- Places of a structure in one object.
use Rattle.std.specs.Prelude.{◌≡◌, ℕ, ◌+◌, ◌<◌, ◌≤◌, List, length}
use Rattle.c_layout.specs.Layout.{size_of_type}
use Rattle.c_layout.specs.StructViews.{StructView}
use Rattle.c_layout.specs.Types.{Ty, Struct}
use Rattle.typed_programs.specs.Types.StandingTypes.{Stands}

-- two places of one structure are one, or share no byte
abbrev pub StructuresAreApart : Type 0
StructuresAreApart = (structs : List StructView) (pointer_size : ℕ) (outer : Ty) (index a b x : ℕ) → Stands structs pointer_size outer (Struct index) a → Stands structs pointer_size outer (Struct index) b
    → index < length structs → a ≤ x → x < a + size_of_type structs pointer_size (Struct index) → b ≤ x → x < b + size_of_type structs pointer_size (Struct index) → a ≡ b
