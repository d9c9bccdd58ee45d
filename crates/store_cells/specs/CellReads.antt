-- What a load of a type gets from a cell.
use Rattle.std.specs.Prelude.{Bool, cond, not, ◌||◌, Option, Some, None}
use Rattle.cc_base.specs.Lattices.{LatticeOf}
use Rattle.cc_base.specs.IntegerTypes.{least_of, greatest_of}
use Rattle.cc_base.specs.IntegerDomains.{IntegersOf, between_or_least}
use Rattle.cc_base.specs.declared.int_types.IntType.{IntType}
use Rattle.c_layout.specs.declared.data_model.Model.{Model}
use Rattle.c_layout.specs.declared.leaf_lists.Class.{Class}
use Rattle.c_layout.specs.declared.leaf_lists.Class.TheVariants.{Char}
use Rattle.pointer_domain.specs.PointerLattice.{no_pointer}
use Rattle.value_domain.specs.declared.values.values.Value.{Value}
use Rattle.value_domain.specs.declared.values.label_sets.Labels.{Labels}
use Rattle.value_domain.specs.Values.Values.{value_lattice}
use Rattle.value_domain.specs.Values.ValueTables.{blank_value}
use Rattle.store_cells.specs.ScalarTypes.{kind_of}
use Rattle.store_cells.specs.ClassNumbers.{is_pointer}

abbrev pub same_sign : Bool → Bool → Bool
same_sign a b = cond a b (not b)

module _ {I : Type 0} where
  -- the join of what two places give, of which each may give nothing
  abbrev pub joined_with : LatticeOf I → Value I → Option (Value I) → Value I
  joined_with l x None = x
  joined_with l x (Some y) = (value_lattice l).join x y

  abbrev pub joined : LatticeOf I → Option (Value I) → Option (Value I) → Option (Value I)
  joined l None b = b
  joined l (Some x) b = Some (joined_with l x b)

  -- all numbers of a type
  abbrev pub whole_range : LatticeOf I → IntegersOf I → IntType → Labels → Bool → Value I
  whole_range l n kind labels blank = record { num = between_or_least l n (least_of kind) (greatest_of kind); pointer = no_pointer l; indeterminate = blank; labels = labels }

  -- the value of a cell of one signedness under the other: its numbers are converted; pointers have no sign
  abbrev pub as_read : IntegersOf I → Model → Value I → Class → Bool → Bool → Value I
  as_read n m v class from to = cond (is_pointer class || same_sign from to) v (record v { num = n.convert v.num (kind_of m class to) })

  -- a value that is stored into a cell of a signedness: its numbers are converted; pointers have no sign
  abbrev pub as_stored : IntegersOf I → Model → Value I → Class → Bool → Value I
  as_stored n m v class to = cond (is_pointer class) v (record v { num = n.convert v.num (kind_of m class to) })

  abbrev pub only_flag : LatticeOf I → Bool → Value I
  only_flag l blank = cond blank (blank_value l) ((value_lattice l).least)

  -- a character of a cell of another class: of an integer any, and of a pointer where it may be null
  abbrev pub byte_read : LatticeOf I → IntegersOf I → Model → Value I → Class → Bool → Value I
  byte_read l n m v class signed = cond (not (is_pointer class) || v.pointer.null) (whole_range l n (kind_of m Char signed) v.labels v.indeterminate) (only_flag l v.indeterminate)
