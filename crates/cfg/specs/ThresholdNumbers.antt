-- The numbers to which bounds are rounded: the ends of types, and what the program speaks of.
use Rattle.std.specs.Prelude.{ℕ, ℤ, pos, ◌+◌, ◌^◌, ◌+ℤ◌, ◌-ℤ◌, Bool, true, false, List, [], ◌∷◌, ◌++◌, zero}
use Rattle.cc_base.specs.declared.int_types.IntType.{IntType}
use Rattle.cc_base.specs.IntegerTypes.{least_of, greatest_of}
use Rattle.c_layout.specs.declared.data_model.Model.{Model}

-- END, the offset of a first zero byte that is not there
abbrev pub end_number : ℤ
end_number = pos (2 ^ 64)

abbrev type_of : ℕ → Bool → IntType
type_of bytes signed = record { bytes = bytes; signed = signed; rank = 0 }

abbrev pub ends_of : IntType → List ℤ
ends_of kind = least_of kind ∷ (greatest_of kind ∷ [])

-- the ends of the signed and the unsigned type of a size
abbrev pub size_ends : ℕ → List ℤ
size_ends bytes = ends_of (type_of bytes true) ++ ends_of (type_of bytes false)

-- the ends of each integer type, and END
abbrev pub limits_of : Model → List ℤ
limits_of m = size_ends 1 ++ (size_ends m.short ++ (size_ends m.int ++ (size_ends m.long ++ (size_ends m.long_long ++ end_number ∷ []))))

-- a number with its two neighbours
abbrev pub neighbours : ℤ → List ℤ
neighbours n = (n -ℤ pos 1) ∷ (n ∷ ((n +ℤ pos 1) ∷ []))
