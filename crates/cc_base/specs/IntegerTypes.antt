-- The range of an integer type, and conversion into it (6.2.6.2 and 6.3.1.3).
use Rattle.std.specs.Prelude.{ℕ, ◌-◌, ◌*◌, ◌^◌, ℤ, pos, negsuc, ◌+ℤ◌, ◌-ℤ◌, Bool, cond, ◌&&◌, ◌||◌, ◌==◌, int_le}
use Rattle.std.specs.Int.{int_rem_euclid, int_div_euclid}
use Rattle.cc_base.specs.declared.int_types.IntType.{IntType}

-- the sizes that an integer type can have, in bytes
abbrev pub is_size : ℕ → Bool
is_size n = (n == 1) || ((n == 2) || ((n == 4) || (n == 8)))

-- how many numbers a type has
abbrev pub modulus : IntType → ℕ
modulus kind = 2 ^ (8 * kind.bytes)

-- the least number of a type: -2^(width-1), or 0 if unsigned
abbrev pub least_of : IntType → ℤ
least_of kind = cond kind.signed (negsuc (2 ^ (8 * kind.bytes - 1) - 1)) (pos 0)

-- the greatest number of a type: 2^(width-1) - 1, or 2^width - 1 if unsigned
abbrev pub greatest_of : IntType → ℤ
greatest_of kind = cond kind.signed (pos (2 ^ (8 * kind.bytes - 1) - 1)) (pos (2 ^ (8 * kind.bytes) - 1))

-- whether a type has a number
abbrev pub in_type : IntType → ℤ → Bool
in_type kind z = int_le (least_of kind) z && int_le z (greatest_of kind)

-- the number of the type that is equal to z modulo 2^width
abbrev pub wrap_into : IntType → ℤ → ℤ
wrap_into kind z = least_of kind +ℤ int_rem_euclid (z -ℤ least_of kind) (pos (modulus kind))

-- which block of as many numbers as the type has holds z, where the type itself is block 0
abbrev pub block_of : IntType → ℤ → ℤ
block_of kind z = int_div_euclid (z -ℤ least_of kind) (pos (modulus kind))
