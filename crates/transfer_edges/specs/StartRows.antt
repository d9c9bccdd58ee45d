-- The row of the entry.
use Rattle.std.specs.Prelude.{ℕ, ◌==◌, pos, ◌-ℤ◌, Bool, true, false, cond, not, ◌||◌, Option, Some, None, List, [], ◌∷◌, map, slice_get}
use Rattle.cc_base.specs.Lattices.{LatticeOf}
use Rattle.cc_base.specs.IntegerDomains.{IntegersOf}
use Rattle.cc_base.specs.IntegerTypes.{is_size}
use Rattle.cc_base.specs.declared.int_types.IntType.{IntType}
use Rattle.c_layout.specs.declared.shapes.BaseInfo.{BaseInfo}
use Rattle.c_layout.specs.declared.leaf_lists.Class.{Class}
use Rattle.c_layout.specs.declared.leaf_lists.Class.TheVariants as class
use Rattle.c_layout.specs.declared.checked_tree.checked_units.StaticBase.{StaticBase}
use Rattle.c_layout.specs.declared.checked_tree.checked_units.StaticBase.TheVariants.{Object, Literal}
use Rattle.c_layout.specs.declared.checked_tree.checked_units.StaticValue.{StaticValue}
use Rattle.c_layout.specs.declared.checked_tree.checked_units.StaticValue.TheVariants.{Number, Null, Address}
use Rattle.c_layout.specs.declared.checked_tree.checked_units.StaticStore.{StaticStore}
use Rattle.c_layout.specs.declared.checked_tree.checked_units.StaticStore.TheVariants as one
use Rattle.cfg.specs.declared.programs.Flow.{Flow}
use Rattle.cfg.specs.declared.programs.InitialObject.{InitialObject}
use Rattle.cfg.specs.declared.programs.InitialValue.{InitialValue}
use Rattle.cfg.specs.declared.programs.InitialValue.TheVariants as initial
use Rattle.cfg.specs.declared.programs.ParameterInput.{ParameterInput}
use Rattle.pointer_domain.specs.declared.pointer_sets.Pointers.{Pointers}
use Rattle.value_domain.specs.Strings.FirstZeros.{zero_lattice}
use Rattle.value_domain.specs.declared.values.values.Value as values
use Rattle.value_domain.specs.declared.values.row_cells.Cell.{Cell}
use Rattle.value_domain.specs.declared.values.row_cells.Cell.TheVariants.{Value}
use Rattle.value_domain.specs.Values.Values.{value_lattice}
use Rattle.value_domain.specs.Values.AllocStates.{state_lattice}
use Rattle.value_domain.specs.Values.LabelSets.{no_labels, input_labels}
use Rattle.value_domain.specs.Values.ValueTables.{number_value, pointer_value}
use Rattle.store_cells.specs.Walks.{walk}
use Rattle.store_cells.specs.NearValues.{near_pointer, near_value}
use Rattle.store_cells.specs.RowPositions.{leaf_position, state_position, put_value, put_state}
use Rattle.store_cells.specs.ByteWrites.{null_pointer}
use Rattle.store_cells.specs.CellReads.{whole_range}
use Rattle.store.specs.LiveBases.{only_base}
use Rattle.store_cells.specs.FirstZeroWrites.{set_zeros}
use Rattle.store.specs.ObjectLives.{clear}
use Rattle.store.specs.Spelling.{spell}
use Rattle.store.specs.Stores.{store}
use Rattle.transfer_instructions.specs.Values.Scalars.{class_of_kind}

-- ---- objects of static storage, and literals

abbrev pub same_object : StaticBase → StaticBase → Bool
same_object (Object m) (Object n) = m == n
same_object (Object m) (Literal n) = false
same_object (Literal m) (Object n) = false
same_object (Literal m) (Literal n) = m == n

abbrev pub with_size : Option ℕ → ℕ → Option (ℕ × ℕ)
with_size None size = None
with_size (Some base) size = Some (base, size)

-- the number of an object's base, and its size
abbrev pub base_in : List InitialObject → StaticBase → Option (ℕ × ℕ)
base_in [] object = None
base_in (o ∷ os) object = cond (same_object o.object object) (with_size o.base o.size) (base_in os object)

-- the class of a static initializer, and whether it is signed
abbrev pub static_class : StaticValue → Class × Bool
static_class (Number n kind) = (class_of_kind kind, kind.signed)
static_class Null = (class.Pointer, false)
static_class (Address object offset lo hi) = (class.Pointer, false)

module _ {I : Type 0} where
  -- ---- the row in which nothing is

  abbrev pub no_value : LatticeOf I → Cell I → Cell I
  no_value l cell = Value (value_lattice l).least

  unfoldable pub empty_state : LatticeOf I → BaseInfo → List (Cell I) → List (Cell I)
  empty_state l base row = cond base.shape.heap (put_state row (state_position base) (state_lattice l).least) row

  -- the first zeros and the state of a base
  unfoldable pub empty_base : LatticeOf I → BaseInfo → List (Cell I) → List (Cell I)
  empty_base l base row = empty_state l base (set_zeros base (zero_lattice l).least row)

  abbrev pub empty_base_at : LatticeOf I → BaseInfo → ℕ → List (Cell I) → List (Cell I)
  empty_base_at l base number row = empty_base l base row

  unfoldable pub empty_bases : LatticeOf I → List BaseInfo → List (Cell I) → List (Cell I)
  empty_bases l bases row = walk (empty_base_at l) 0 bases row

  unfoldable pub empty_row : LatticeOf I → Flow → List (Cell I) → List (Cell I)
  empty_row l flow row = empty_bases l flow.bases.items (map (no_value l) row)

  -- ---- static initializers

  -- an offset of a base of a size, within bounds
  abbrev pub pointer_into : IntegersOf I → ℕ → ℕ → ℕ → ℕ → ℕ → Pointers I
  pointer_into n base size offset lo hi = record {
    bases = only_base base;
    lo = n.one (pos lo);
    rel = n.one (pos offset -ℤ pos lo);
    len = n.one (pos hi -ℤ pos lo);
    part = not (lo == 0) || not (hi == size);
    null = false;
    ended = false;
  }

  -- an address constant; null where its object has no base
  abbrev pub static_pointer : LatticeOf I → IntegersOf I → Option (ℕ × ℕ) → ℕ → ℕ → ℕ → Pointers I
  static_pointer l n None offset lo hi = null_pointer l
  static_pointer l n (Some p) offset lo hi = pointer_into n p.0 p.1 offset lo hi

  abbrev pub static_value : LatticeOf I → IntegersOf I → List InitialObject → StaticValue → values.Value I
  static_value l n objects (Number number kind) = number_value l (n.one number) no_labels
  static_value l n objects Null = pointer_value l (null_pointer l)
  static_value l n objects (Address object offset lo hi) = pointer_value l (static_pointer l n (base_in objects object) offset lo hi)

  -- at an offset of a base of a size
  unfoldable pub store_static : LatticeOf I → IntegersOf I → Flow → ℕ → ℕ → ℕ → StaticValue → List (Cell I) → Option (List (Cell I))
  store_static l n flow base size offset v row =
      store l n flow.model flow.bases.items (near_pointer l n (pointer_into n base size offset 0 size)) (static_class v).0 (static_class v).1 (near_value l n (static_value l n flow.initial.items v)) row

  unfoldable pub start_store : LatticeOf I → IntegersOf I → Flow → ℕ → ℕ → StaticStore → List (Cell I) → Option (List (Cell I))
  start_store l n flow base size (one.Value offset v) row = store_static l n flow base size offset v row
  start_store l n flow base size (one.Spell offset room text) row = Some (spell l n flow.bases.items base offset room text row)

  -- a row that is reached
  abbrev pub reached_row : Bool → List (Cell I) → Option (List (Cell I))
  reached_row reached row = cond reached (Some row) None

  abbrev pub store_behind : LatticeOf I → IntegersOf I → Flow → ℕ → ℕ → StaticStore → Option (List (Cell I)) → Option (List (Cell I))
  store_behind l n flow base size s None = None
  store_behind l n flow base size s (Some row) = start_store l n flow base size s row

  abbrev pub store_at : LatticeOf I → IntegersOf I → Flow → ℕ → ℕ → StaticStore → ℕ → Option (List (Cell I)) → Option (List (Cell I))
  store_at l n flow base size s number reached = store_behind l n flow base size s reached

  unfoldable pub start_stores : LatticeOf I → IntegersOf I → Flow → ℕ → ℕ → List StaticStore → List (Cell I) → Option (List (Cell I))
  start_stores l n flow base size stores row = walk (store_at l n flow base size) 0 stores (Some row)

  -- all zero and then the stores in order, or a literal's characters
  unfoldable pub start_value : LatticeOf I → IntegersOf I → Flow → ℕ → ℕ → InitialValue → List (Cell I) → Option (List (Cell I))
  start_value l n flow base size (initial.Stores stores) row = start_stores l n flow base size stores.items (clear l n flow.bases.items base row)
  start_value l n flow base size (initial.Literal text) row = Some (spell l n flow.bases.items base 0 size text row)

  -- an object that has a base
  unfoldable pub start_object : LatticeOf I → IntegersOf I → Flow → Option ℕ → ℕ → InitialValue → List (Cell I) → Option (List (Cell I))
  start_object l n flow None size value row = Some row
  start_object l n flow (Some base) size value row = start_value l n flow base size value row

  abbrev pub object_behind : LatticeOf I → IntegersOf I → Flow → InitialObject → Option (List (Cell I)) → Option (List (Cell I))
  object_behind l n flow o None = None
  object_behind l n flow o (Some row) = start_object l n flow o.base o.size o.value row

  abbrev pub object_at : LatticeOf I → IntegersOf I → Flow → InitialObject → ℕ → Option (List (Cell I)) → Option (List (Cell I))
  object_at l n flow o number reached = object_behind l n flow o reached

  unfoldable pub start_objects : LatticeOf I → IntegersOf I → Flow → List InitialObject → List (Cell I) → Option (List (Cell I))
  start_objects l n flow objects row = walk (object_at l n flow) 0 objects (Some row)

  -- ---- parameters of the entry

  abbrev pub put_parameter : LatticeOf I → IntegersOf I → IntType → Option BaseInfo → List (Cell I) → List (Cell I)
  put_parameter l n kind None row = row
  put_parameter l n kind (Some base) row = cond (is_size kind.bytes) (put_value row (leaf_position base 0) (whole_range l n kind (input_labels kind) false)) row

  -- any number of its type, with the labels of input
  unfoldable pub start_parameter : LatticeOf I → IntegersOf I → Flow → ParameterInput → List (Cell I) → List (Cell I)
  start_parameter l n flow p row = put_parameter l n p.kind (slice_get flow.bases.items p.base) row

  abbrev pub parameter_at : LatticeOf I → IntegersOf I → Flow → ParameterInput → ℕ → List (Cell I) → List (Cell I)
  parameter_at l n flow p number row = start_parameter l n flow p row

  unfoldable pub start_parameters : LatticeOf I → IntegersOf I → Flow → List (Cell I) → List (Cell I)
  start_parameters l n flow row = walk (parameter_at l n flow) 0 flow.parameters.items row

  -- ---- the row of the entry

  abbrev pub started : LatticeOf I → IntegersOf I → Flow → Option (List (Cell I)) → Option (List (Cell I))
  started l n flow None = None
  started l n flow (Some row) = Some (start_parameters l n flow row)

  -- in a row of this length; None where a static initializer has no place
  unfoldable pub start_row : LatticeOf I → IntegersOf I → Flow → List (Cell I) → Option (List (Cell I))
  start_row l n flow row = started l n flow (start_objects l n flow flow.initial.items (empty_row l flow row))
