-- Worked rows of the tables.
use Rattle.std.specs.Prelude.{◌≡◌, refl, pos, negsuc, true, false, Some, None}
use Rattle.c_layout.specs.declared.syntax_tree.expressions.BinaryOp.TheVariants as op
use Rattle.c_layout.specs.Models.{lp64, ilp32}
use Rattle.c_layout.specs.Types as ty
use Rattle.c_types_rules.specs.declared.rules.integer_kinds.Rank.TheVariants as rank
use Rattle.c_types_rules.specs.declared.rules.type_conversions.Conversion.TheVariants as conversion
use Rattle.c_types_rules.specs.declared.rules.type_conversions.Pairing.TheVariants as pairing
use Rattle.c_types_rules.specs.Rules.IntegerKinds.{kind_of, promoted, common}
use Rattle.c_types_rules.specs.Rules.ConstantFolding.{converted, folded, shifted}
use Rattle.c_types_rules.specs.Rules.TypeConversions.{assigned, paired_types}

-- unsigned short is promoted to int
short_to_int : promoted lp64 (kind_of lp64 rank.Short false) ≡ kind_of lp64 rank.Int true
short_to_int = refl

-- long and unsigned int: long where it is longer, else unsigned long
long_common : common lp64 (kind_of lp64 rank.Long true) (kind_of lp64 rank.Int false) ≡ kind_of lp64 rank.Long true
long_common = refl

unsigned_common : common ilp32 (kind_of ilp32 rank.Long true) (kind_of ilp32 rank.Int false) ≡ kind_of ilp32 rank.Long false
unsigned_common = refl

-- 200 as a signed char is -56
char_of_200 : converted (kind_of lp64 rank.Char true) (pos 200) ≡ negsuc 55
char_of_200 = refl

-- the least int has no remainder by -1, and no division by 0 has a result
least_remainder : folded op.Remainder (kind_of lp64 rank.Int true) (negsuc 2147483647) (negsuc 0) ≡ None
least_remainder = refl

by_zero : folded op.Divide (kind_of lp64 rank.Int true) (pos 1) (pos 0) ≡ None
by_zero = refl

-- -1 is not below 0u
minus_one_below : folded op.Less (kind_of lp64 rank.Int false) (negsuc 0) (pos 0) ≡ Some (pos 0)
minus_one_below = refl

-- 1 << 31 does not fit an int,
high_shift : shifted op.ShiftLeft (kind_of lp64 rank.Int true) (pos 1) (pos 31) ≡ None
high_shift = refl

-- the constant 0 comes to a pointer, and no other integer does
null_assigned : assigned (ty.Int (kind_of lp64 rank.Int true)) true (ty.Pointer ty.Void) ≡ conversion.Converted
null_assigned = refl

integer_assigned : assigned (ty.Int (kind_of lp64 rank.Int true)) false (ty.Pointer ty.Void) ≡ conversion.Crossing
integer_assigned = refl

-- pointers to int and to void come together as pointers to void
with_void : paired_types (ty.Pointer (ty.Int (kind_of lp64 rank.Int true))) false (ty.Pointer ty.Void) false ≡ pairing.AsRight
with_void = refl
