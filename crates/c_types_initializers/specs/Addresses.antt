-- Constant expressions of static initializers: numbers, null pointers and addresses (6.6p7 to p9).
use Rattle.std.specs.Prelude.{ℕ, ℤ, pos, ◌+◌, ◌+ℤ◌, ◌-ℤ◌, ◌*ℤ◌, ◌==◌, Bool, true, false, cond, nat_le, unsigned_abs, int_lt, Option, Some, None, option_map}
use Rattle.std.specs.Ordering.{int_eq}
use Rattle.cc_base.specs.declared.int_types.IntType.{IntType}
use Rattle.c_layout.specs.Types.{Ty, Int, Array}
use Rattle.c_layout.specs.CheckedTrees as tree
use Rattle.c_layout.specs.CheckedTrees.{TermTree, FormTree, LvalueTree, LvalueFormTree}
use Rattle.c_layout.specs.declared.checked_tree.checked_terms.ObjectRef.TheVariants as object
use Rattle.c_layout.specs.declared.checked_tree.checked_units.StaticBase.{StaticBase}
use Rattle.c_layout.specs.declared.checked_tree.checked_units.StaticBase.TheVariants as base
use Rattle.c_layout.specs.declared.checked_tree.checked_units.StaticValue.{StaticValue}
use Rattle.c_layout.specs.declared.checked_tree.checked_units.StaticValue.TheVariants as value
use Rattle.c_types_rules.specs.Rules.ConstantFolding.{converted}
use Rattle.c_types_scopes.specs.Known.{Known, size_of}
use Rattle.c_types_operands.specs.Operands.{term_type, term_constant, is_integer}
use Rattle.c_types_initializers.specs.declared.address_constants.Address.{Address}
use Rattle.c_types_initializers.specs.declared.address_constants.PointerConstant.{PointerConstant}
use Rattle.c_types_initializers.specs.declared.address_constants.PointerConstant.TheVariants as pointer

abbrev pub part_between : Address → ℕ → ℕ → Option Address
part_between a low high = cond (nat_le high a.high) (Some (record { base = a.base; offset = low; low = low; high = high })) None

-- the part of so many bytes at a distance, where it stands within what the address may reach
abbrev pub part : Address → ℕ → ℕ → Option Address
part a distance size = part_between a (a.offset + distance) (a.offset + distance + size)

abbrev pub within : Address → ℤ → Option Address
within a n = cond (int_lt n (pos a.low)) None (cond (int_lt (pos a.high) n) None (Some (record a { offset = unsigned_abs n })))

abbrev pub displaced : Bool → ℤ → ℤ → ℤ
displaced true offset distance = offset -ℤ distance
displaced false offset distance = offset +ℤ distance

-- an address moved by a number of elements of a size: it stays within what it may reach, or points just behind it (6.5.6p8)
abbrev pub moved : Address → Bool → ℕ → ℤ → Option Address
moved a down size n = within a (displaced down (pos a.offset) (n *ℤ pos size))

abbrev pub from_0 : StaticBase → ℕ → Address
from_0 b size = record { base = b; offset = 0; low = 0; high = size }

abbrev pub most : ℕ
most = 18446744073709551615

-- an array of unknown length
abbrev pub is_unbounded : Ty → Bool
is_unbounded (Array t count) = count == 0
is_unbounded _ = false

-- the size of an object; one of unknown size has no bound
abbrev pub reach : Known → Ty → Option ℕ
reach k t = cond (is_unbounded t) (Some most) (size_of k t)

-- a whole object
abbrev pub whole : Known → ℕ → Ty → Option Address
whole k n t = option_map (from_0 (base.Object n)) (reach k t)

-- a whole literal, whose size is known
abbrev pub whole_literal : Known → ℕ → Ty → Option Address
whole_literal k n t = option_map (from_0 (base.Literal n)) (size_of k t)

abbrev pub address_in : PointerConstant → Option Address
address_in pointer.Null = None
address_in (pointer.Address a) = Some a

abbrev pub address : Option PointerConstant → Option Address
address None = None
address (Some p) = address_in p

abbrev pub pointing : Option Address → Option PointerConstant
pointing None = None
pointing (Some a) = Some (pointer.Address a)

abbrev pub part_of_size : Address → ℕ → Option ℕ → Option Address
part_of_size a distance None = None
part_of_size a distance (Some size) = part a distance size

abbrev pub member_at : Option Address → ℕ → Option ℕ → Option Address
member_at None distance size = None
member_at (Some a) distance size = part_of_size a distance size

abbrev pub first_of_size : Address → Option ℕ → Option Address
first_of_size a None = Some a
first_of_size a (Some size) = part a 0 size

-- an array of known size may be reached as a whole
abbrev pub first_at : Option Address → Option ℕ → Option Address
first_at None size = None
first_at (Some a) size = first_of_size a size

abbrev pub null_if : Option ℤ → Option PointerConstant
null_if None = None
null_if (Some n) = cond (int_eq n (pos 0)) (Some pointer.Null) None

abbrev pub shifted_of : PointerConstant → Bool → ℕ → ℤ → Option PointerConstant
shifted_of pointer.Null down size n = None
shifted_of (pointer.Address a) down size n = pointing (moved a down size n)

abbrev pub shifted_by : PointerConstant → Bool → ℕ → Option ℤ → Option PointerConstant
shifted_by p down size None = None
shifted_by p down size (Some n) = shifted_of p down size n

-- a pointer moved by a number of elements of a size
abbrev pub shifted : Option PointerConstant → Bool → ℕ → Option ℤ → Option PointerConstant
shifted None down size n = None
shifted (Some p) down size n = shifted_by p down size n

-- of the operands of a sum with a pointer one is an integer
abbrev pub if_integer : Ty → Option PointerConstant → Option PointerConstant → Option PointerConstant
if_integer t p q = cond (is_integer t) p q

abbrev mutual
  -- the address of what an lvalue designates
  pub located : Known → LvalueTree → Option Address
  located k (tree.Designates at t parens f) = located_form k t f

  pub located_form : Known → Ty → LvalueFormTree → Option Address
  located_form k t (tree.Object (object.Static n)) = whole k n t
  located_form k t (tree.Object (object.Local n)) = None
  located_form k t (tree.Literal n) = whole_literal k n t
  located_form k t (tree.Target e) = address (pointed k e)
  located_form k t (tree.Member l distance) = member_at (located k l) distance (size_of k t)
  located_form k t (tree.Copied target source) = None
  located_form k t (tree.Then first last) = None

  -- the address of the first element of an array
  pub decayed : Known → LvalueTree → Option PointerConstant
  decayed k (tree.Designates at t parens f) = pointing (first_at (located_form k t f) (size_of k t))

  -- a null constant, or a pointer that is converted
  pub converted_pointer : Known → TermTree → Option PointerConstant
  converted_pointer k (tree.Typed at t parens constant f) = if_integer t (null_if constant) (pointed_form k f)

  -- the value of a term of pointer type, where it is a constant
  pub pointed : Known → TermTree → Option PointerConstant
  pointed k (tree.Typed at t parens constant f) = pointed_form k f

  pub pointed_form : Known → FormTree → Option PointerConstant
  pointed_form k (tree.Convert kind e) = converted_pointer k e
  pointed_form k (tree.Decay l) = decayed k l
  pointed_form k (tree.AddressOf l) = pointing (located k l)
  pointed_form k (tree.Shift down size a b) = if_integer (term_type b) (shifted (pointed k a) down size (term_constant b)) (shifted (pointed k b) down size (term_constant a))
  pointed_form k _ = None

abbrev pub number_as : IntType → ℤ → StaticValue
number_as kind n = value.Number (converted kind n) kind

-- an integer constant in its type
abbrev pub number : Option ℤ → IntType → Option StaticValue
number constant kind = option_map (number_as kind) constant

abbrev pub pointer_value : PointerConstant → StaticValue
pointer_value pointer.Null = value.Null
pointer_value (pointer.Address a) = value.Address a.base a.offset a.low a.high

abbrev pub pointer_constant : Known → TermTree → Option StaticValue
pointer_constant k e = option_map pointer_value (pointed k e)

abbrev pub value_of_type : Known → Ty → Option ℤ → TermTree → Option StaticValue
value_of_type k (Int kind) constant e = number constant kind
value_of_type k _ constant e = pointer_constant k e

-- the value of a constant
abbrev pub static_value : Known → TermTree → Option StaticValue
static_value k e = value_of_type k (term_type e) (term_constant e) e
