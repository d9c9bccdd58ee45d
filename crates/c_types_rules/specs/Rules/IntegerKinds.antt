-- The integer types of a data model, promotions and the usual arithmetic conversions (6.2.5, 6.3.1.1, 6.3.1.8).
use Rattle.std.specs.Prelude.{ℕ, ◌==◌, Bool, true, false, not, ◌||◌, cond, nat_le, nat_lt}
use Rattle.cc_base.specs.declared.int_types.IntType.{IntType}
use Rattle.c_layout.specs.declared.data_model.Model.{Model}
use Rattle.c_types_rules.specs.declared.rules.integer_kinds.Rank.{Rank}
use Rattle.c_types_rules.specs.declared.rules.integer_kinds.Rank.TheVariants.{Char, Short, Int, Long, LongLong}

-- the size of a type by its rank
abbrev pub bytes_of : Model → Rank → ℕ
bytes_of m Char = 1
bytes_of m Short = m.short
bytes_of m Int = m.int
bytes_of m Long = m.long
bytes_of m LongLong = m.long_long

-- a rank as a number
abbrev pub number_of : Rank → ℕ
number_of Char = 1
number_of Short = 2
number_of Int = 3
number_of Long = 4
number_of LongLong = 5

-- the type of a rank, signed or not
abbrev pub kind_of : Model → Rank → Bool → IntType
kind_of m r signed = record { bytes = bytes_of m r; signed = signed; rank = number_of r }

-- the integer promotion: to int where int has each number of the type, else to unsigned int
abbrev pub promoted : Model → IntType → IntType
promoted m k = cond (nat_lt k.rank 3) (kind_of m Int (k.signed || nat_lt k.bytes m.int)) k

abbrev same_sign : Bool → Bool → Bool
same_sign true b = b
same_sign false b = not b

-- of a signed and an unsigned type: the unsigned one where its rank is not less, else the signed one where it has
-- each number of the other, else the unsigned type of its rank
abbrev pub mixed : IntType → IntType → IntType
mixed s u = cond (nat_le s.rank u.rank) u (cond (nat_lt u.bytes s.bytes) s (record { bytes = s.bytes; signed = false; rank = s.rank }))

-- the common type of two promoted types
abbrev pub joined : IntType → IntType → IntType
joined a b = cond (same_sign a.signed b.signed) (cond (nat_le b.rank a.rank) a b) (cond a.signed (mixed a b) (mixed b a))

-- the usual arithmetic conversions
abbrev pub common : Model → IntType → IntType → IntType
common m a b = joined (promoted m a) (promoted m b)

-- the rank of the first of long, int and long long that has the size of a pointer
abbrev pub size_rank : Model → Rank
size_rank m = cond (m.long == m.pointer) Long (cond (m.int == m.pointer) Int LongLong)
