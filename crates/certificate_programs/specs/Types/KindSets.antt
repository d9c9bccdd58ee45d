-- Sets of types of scalars, as numbers: a bit for the integers of each size and sign, and one for pointers.
use Rattle.std.specs.Prelude.{ℕ, ◌+◌, ◌*◌, ◌^◌, ℤ, Bool, true, false, not, cond, ◌==◌, bit_and, List, [], ◌∷◌, Some, None}
use Rattle.std.specs.Int.{int_min, int_max}
use Rattle.cc_base.specs.IntegerTypes.{least_of, greatest_of}
use Rattle.cc_base.specs.NumberRanges.{Range}
use Rattle.cc_base.specs.declared.int_types.IntType.{IntType}
use Rattle.c_layout.specs.declared.data_model.Model.{Model}
use Rattle.c_layout.specs.declared.leaf_lists.Class.{Class}
use Rattle.c_layout.specs.declared.leaf_lists.Class.TheVariants.{Char, Short, Int, Long, LongLong, Pointer}
use Rattle.c_layout.specs.LibrarySignatures.{signature_of}
use Rattle.c_layout.specs.declared.library_functions.LibFn.{LibFn}
use Rattle.c_layout.specs.declared.library_signatures.Slot.{Slot}
use Rattle.c_layout.specs.declared.library_signatures.Slot.TheVariants as slot
use Rattle.cfg.specs.declared.machine_instructions.Scalar.{Scalar}
use Rattle.cfg.specs.declared.machine_instructions.Scalar.TheVariants as scalar

-- ---- sets of one type

abbrev pub no_kinds : ℕ
no_kinds = 0

abbrev pub pointers : ℕ
pointers = 2 ^ 8

-- the number of a size among the sizes of integers: 1, 2, 4, and 8 for any other one
abbrev pub size_number : ℕ → ℕ
size_number bytes = cond (bytes == 1) 0 (cond (bytes == 2) 1 (cond (bytes == 4) 2 3))

-- the integers of a size, signed or not
abbrev pub integers_of : ℕ → Bool → ℕ
integers_of bytes signed = 2 ^ (2 * size_number bytes + cond signed 0 1)

abbrev pub integers : IntType → ℕ
integers kind = integers_of kind.bytes kind.signed

abbrev pub scalars : Scalar → ℕ
scalars (scalar.Int kind) = integers kind
scalars scalar.Pointer = pointers

abbrev pub int : Model → ℕ
int m = integers_of m.int true

-- the differences of pointers
abbrev pub differences : Model → ℕ
differences m = integers_of m.pointer true

abbrev pub sizes : Model → ℕ
sizes m = integers_of m.pointer false

-- the leaves of a class
abbrev pub leaves : Model → Class → Bool → ℕ
leaves m Char signed = integers_of 1 signed
leaves m Short signed = integers_of m.short signed
leaves m Int signed = integers_of m.int signed
leaves m Long signed = integers_of m.long signed
leaves m LongLong signed = integers_of m.long_long signed
leaves m Pointer signed = pointers

-- what a library function gives
abbrev pub of_slot : Model → Slot → ℕ
of_slot m slot.Memory = pointers
of_slot m slot.Text = pointers
of_slot m slot.Stream = pointers
of_slot m slot.Size = sizes m
of_slot m slot.Int = int m
of_slot m slot.Void = int m

abbrev pub results : Model → LibFn → ℕ
results m function = of_slot m (signature_of function).result

-- ---- what is among the types

abbrev pub has_pointers : ℕ → Bool
has_pointers kinds = not (bit_and kinds pointers == 0)

abbrev pub has_integers : ℕ → IntType → Bool
has_integers kinds kind = not (bit_and kinds (integers kind) == 0)

-- the integer types, each told by its size and its sign
abbrev pub sized : ℕ → Bool → IntType
sized bytes signed = record { bytes = bytes; signed = signed; rank = 0 }

abbrev pub integer_types : List IntType
integer_types = sized 1 true ∷ (sized 1 false ∷ (sized 2 true ∷ (sized 2 false ∷ (sized 4 true ∷ (sized 4 false ∷ (sized 8 true ∷ (sized 8 false ∷ [])))))))

-- ---- the numbers of the types

-- the least range with two
abbrev pub ranges_joined : Range → ℤ × ℤ → Range
ranges_joined None q = Some q
ranges_joined (Some p) q = Some (int_min p.0 q.0, int_max p.1 q.1)

-- the least range with another one and, where they are among the types, with the integers of a type
abbrev pub with_integers : ℕ → Range → IntType → Range
with_integers kinds range kind = cond (has_integers kinds kind) (ranges_joined range (least_of kind, greatest_of kind)) range

abbrev pub with_all : ℕ → Range → List IntType → Range
with_all kinds range [] = range
with_all kinds range (k ∷ ks) = with_all kinds (with_integers kinds range k) ks

-- the least range with all integers among the types
abbrev pub numbers : ℕ → Range
numbers kinds = with_all kinds None integer_types
