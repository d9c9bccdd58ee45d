-- Which types convert to which (6.3.2, 6.5.4, 6.5.9, 6.5.15, 6.5.16.1).
use Rattle.std.specs.Prelude.{Bool, true, false, cond}
use Rattle.c_layout.specs.Types.{Ty, Int, Pointer, Void, same_type, same_kind}
use Rattle.c_types_rules.specs.declared.rules.type_conversions.Conversion.{Conversion}
use Rattle.c_types_rules.specs.declared.rules.type_conversions.Conversion.TheVariants.{Same, Converted, Crossing, Nothing}
use Rattle.c_types_rules.specs.declared.rules.type_conversions.Pairing.{Pairing}
use Rattle.c_types_rules.specs.declared.rules.type_conversions.Pairing.TheVariants.{Integers, AsLeft, AsRight, Crosses, Apart}

abbrev pub is_void : Ty → Bool
is_void Void = true
is_void _ = false

-- a pointer to another one: the same type, or a pointer to void on one side
abbrev pub pointer_conversion : Ty → Ty → Conversion
pointer_conversion from to = cond (same_type from to) Same (cond (is_void from) Converted (cond (is_void to) Converted Nothing))

-- a value that is assigned, passed or returned; whether it is a null pointer constant
abbrev pub assigned : Ty → Bool → Ty → Conversion
assigned (Int a) null (Int b) = cond (same_kind a b) Same Converted
assigned (Int a) null (Pointer t) = cond null Converted Crossing
assigned (Pointer t) null (Int b) = Crossing
assigned (Pointer t) null (Pointer u) = pointer_conversion t u
assigned _ null _ = Nothing

-- a cast to a scalar type
abbrev pub cast : Ty → Bool → Ty → Conversion
cast (Int a) null (Int b) = Converted
cast (Int a) null (Pointer t) = cond null Converted Crossing
cast (Pointer t) null (Int b) = Crossing
cast (Pointer t) null (Pointer u) = Converted
cast _ null _ = Nothing

-- two pointers whose types differ: a null pointer constant takes the other's type, and a pointer to void draws the other one
abbrev pub pointers_paired : Ty → Bool → Ty → Bool → Pairing
pointers_paired t left_null u right_null =
    cond (same_type t u) AsLeft (cond left_null AsRight (cond right_null AsLeft (cond (is_void t) AsLeft (cond (is_void u) AsRight Apart))))

-- the operands of `==` and `!=` and the arms of `?:`, where both are scalars
abbrev pub paired_types : Ty → Bool → Ty → Bool → Pairing
paired_types (Int a) left_null (Int b) right_null = Integers
paired_types (Int a) left_null (Pointer u) right_null = cond left_null AsRight Crosses
paired_types (Pointer t) left_null (Int b) right_null = cond right_null AsLeft Crosses
paired_types (Pointer t) left_null (Pointer u) right_null = pointers_paired t left_null u right_null
paired_types _ left_null _ right_null = Apart
