-- Loads.
use Rattle.std.specs.Prelude.{ℕ, ◌+◌, Bool, true, false, cond, not, ◌&&◌, Option, Some, None, List}
use Rattle.cc_base.specs.Lattices.{LatticeOf}
use Rattle.cc_base.specs.IntegerDomains.{IntegersOf}
use Rattle.c_layout.specs.declared.data_model.Model.{Model}
use Rattle.c_layout.specs.declared.leaf_lists.Class.{Class}
use Rattle.c_layout.specs.declared.leaf_lists.Class.TheVariants.{Char}
use Rattle.c_layout.specs.declared.leaf_lists.Leaf.{Leaf}
use Rattle.c_layout.specs.declared.shapes.BaseInfo.{BaseInfo}
use Rattle.pointer_domain.specs.declared.base_sets.Bases.{Bases}
use Rattle.pointer_domain.specs.declared.pointer_sets.Pointers.{Pointers}
use Rattle.value_domain.specs.declared.values.values.Value.{Value}
use Rattle.value_domain.specs.declared.values.label_sets.Labels.{Labels}
use Rattle.value_domain.specs.declared.values.row_cells.Cell.{Cell}
use Rattle.value_domain.specs.Values.LabelSets.{no_labels, all_labels}
use Rattle.store_cells.specs.declared.access_windows.Window.{Window}
use Rattle.store_cells.specs.declared.cell_reads.Access.{Access}
use Rattle.store_cells.specs.ScalarTypes.{kind_of, class_bytes}
use Rattle.store_cells.specs.ClassNumbers.{class_number, class_at, same_class, is_pointer}
use Rattle.store_cells.specs.Walks.{walk, turns}
use Rattle.store_cells.specs.RowPositions.{leaf_position, class_position, zero_position, value_at, zero_at}
use Rattle.store_cells.specs.AccessWindows.{window_of}
use Rattle.store.specs.LeafSelection.{is_selected, is_other, has_stray, meets_padding}
use Rattle.store_cells.specs.CellReads.{joined, whole_range, as_read, byte_read}
use Rattle.store_cells.specs.FirstZeroWrites.{covering_part, is_determinate_before}
use Rattle.store_objects.specs.LiveBases.{is_live_in}

-- the access reaches the class cell of a heap base
abbrev pub reaches_class : BaseInfo → Access → Bool
reaches_class base access = base.shape.heap && has_stray base.shape.cells access.class access.window

-- a pointer has no labels
abbrev pub labels_of : Class → Labels → Labels
labels_of class labels = cond (is_pointer class) no_labels labels

module _ {I : Type 0} where
  -- joined with one more, where there is one
  abbrev pub joined_if : LatticeOf I → Bool → Option (Value I) → Value I → Option (Value I)
  joined_if l wanted found v = cond wanted (joined l found (Some v)) found

  abbrev pub joined_leaf : LatticeOf I → IntegersOf I → Model → Access → Leaf → Value I → Option (Value I) → Option (Value I)
  joined_leaf l n m access leaf v found = joined_if l (is_selected leaf access.class access.window) found (as_read n m v access.class leaf.signed access.signed)

  abbrev pub read_leaf : LatticeOf I → IntegersOf I → Model → BaseInfo → List (Cell I) → Access → Leaf → ℕ → Option (Value I) → Option (Value I)
  read_leaf l n m base row access leaf at found = joined_leaf l n m access leaf (value_at l n row (leaf_position base at)) found

  -- the leaves of the access's class that it reaches
  unfoldable pub load_leaves : LatticeOf I → IntegersOf I → Model → BaseInfo → List (Cell I) → Access → Option (Value I)
  load_leaves l n m base row access = walk (read_leaf l n m base row access) 0 base.shape.cells None

  -- the class cell of a heap base, which is signed
  unfoldable pub load_class_cell : LatticeOf I → IntegersOf I → Model → BaseInfo → List (Cell I) → Access → Option (Value I)
  load_class_cell l n m base row access = cond (reaches_class base access)
      (Some (as_read n m (value_at l n row (class_position base (class_number access.class))) access.class true access.signed)) None

  abbrev pub joined_other_leaf : LatticeOf I → IntegersOf I → Model → Access → Leaf → Value I → Option (Value I) → Option (Value I)
  joined_other_leaf l n m access leaf v found = joined_if l (is_other m leaf access.window) found (byte_read l n m v leaf.class access.signed)

  abbrev pub read_other_leaf : LatticeOf I → IntegersOf I → Model → BaseInfo → List (Cell I) → Access → Leaf → ℕ → Option (Value I) → Option (Value I)
  read_other_leaf l n m base row access leaf at found = joined_other_leaf l n m access leaf (value_at l n row (leaf_position base at)) found

  -- the leaves of other classes that a character load reaches
  unfoldable pub load_other_leaves : LatticeOf I → IntegersOf I → Model → BaseInfo → List (Cell I) → Access → Option (Value I)
  load_other_leaves l n m base row access = walk (read_other_leaf l n m base row access) 0 base.shape.cells None

  abbrev pub read_class_cell : LatticeOf I → IntegersOf I → Model → BaseInfo → List (Cell I) → Access → ℕ → Option (Value I) → Option (Value I)
  read_class_cell l n m base row access at found = joined l found (Some (byte_read l n m (value_at l n row (class_position base (at + 1))) (class_at (at + 1)) access.signed))

  -- the class cells of all classes but that of characters, which is the first
  unfoldable pub load_other_class_cells : LatticeOf I → IntegersOf I → Model → BaseInfo → List (Cell I) → Access → Option (Value I)
  load_other_class_cells l n m base row access = turns (read_class_cell l n m base row access) 5 None

  -- a byte of no leaf: anything
  unfoldable pub load_padding : LatticeOf I → IntegersOf I → Model → BaseInfo → Access → Option (Value I)
  load_padding l n m base access = cond (meets_padding m base.shape.cells access.window base.size) (Some (whole_range l n (kind_of m Char access.signed) all_labels true)) None

  unfoldable pub load_other_bytes : LatticeOf I → IntegersOf I → Model → BaseInfo → List (Cell I) → Access → Option (Value I)
  load_other_bytes l n m base row access = cond base.shape.heap (load_other_class_cells l n m base row access) (load_padding l n m base access)

  abbrev pub is_text_in : LatticeOf I → IntegersOf I → BaseInfo → List (Cell I) → Option (ℕ × Window) → Bool
  is_text_in l n base row None = false
  is_text_in l n base row (Some p) = is_determinate_before n (zero_at l n row (zero_position base p.0)) p.1

  -- the window lies in one array of characters, up to its first zero
  unfoldable pub is_text : LatticeOf I → IntegersOf I → BaseInfo → List (Cell I) → Window → Bool
  is_text l n base row w = is_text_in l n base row (covering_part base w)

  abbrev pub determinate_if : Bool → Option (Value I) → Option (Value I)
  determinate_if text None = None
  determinate_if text (Some v) = Some (record v { indeterminate = v.indeterminate && not text })

  -- what the access gets from the cells of its own class
  unfoldable pub load_own : LatticeOf I → IntegersOf I → Model → BaseInfo → List (Cell I) → Access → Option (Value I)
  load_own l n m base row access = joined l (load_leaves l n m base row access) (load_class_cell l n m base row access)

  -- what a character load gets besides
  unfoldable pub load_others : LatticeOf I → IntegersOf I → Model → BaseInfo → List (Cell I) → Access → Option (Value I)
  load_others l n m base row access = joined l (load_other_leaves l n m base row access) (load_other_bytes l n m base row access)

  -- a character, whatever is known of first zeros
  unfoldable pub load_character : LatticeOf I → IntegersOf I → Model → BaseInfo → List (Cell I) → Access → Option (Value I)
  load_character l n m base row access = joined l (load_own l n m base row access) (load_others l n m base row access)

  unfoldable pub load_base : LatticeOf I → IntegersOf I → Model → BaseInfo → List (Cell I) → Access → Option (Value I)
  load_base l n m base row access = cond (same_class access.class Char)
      (determinate_if (is_text l n base row access.window) (load_character l n m base row access))
      (load_own l n m base row access)

  abbrev pub read_base_if : LatticeOf I → IntegersOf I → Model → List (Cell I) → Bool → Access → BaseInfo → Option (Value I) → Option (Value I)
  read_base_if l n m row wanted access base found = cond wanted (joined l found (load_base l n m base row access)) found

  abbrev pub read_base : LatticeOf I → IntegersOf I → Model → List (Cell I) → Bases → Access → BaseInfo → ℕ → Option (Value I) → Option (Value I)
  read_base l n m row set access base number found = read_base_if l n m row (is_live_in l n row set base number) access base found

  -- over the bases of the set that may be live
  unfoldable pub load_bases : LatticeOf I → IntegersOf I → Model → List BaseInfo → List (Cell I) → Bases → Access → Option (Value I)
  load_bases l n m bases row set access = walk (read_base l n m row set access) 0 bases None

  abbrev pub loaded : Class → Option (Value I) → Option (Value I)
  loaded class None = None
  loaded class (Some v) = Some (record v { labels = labels_of class v.labels })

  abbrev pub load_within : LatticeOf I → IntegersOf I → Model → List BaseInfo → List (Cell I) → Bases → Class → Bool → Option Window → Option (Value I)
  load_within l n m bases row set class signed None = None
  load_within l n m bases row set class signed (Some w) = loaded class (load_bases l n m bases row set (record { class = class; signed = signed; window = w }))

  -- the value that a load gets through pointers; None where it reaches nothing
  unfoldable pub load : LatticeOf I → IntegersOf I → Model → List BaseInfo → List (Cell I) → Pointers I → Class → Bool → Option (Value I)
  load l n m bases row p class signed = load_within l n m bases row p.bases class signed (window_of n p (class_bytes m class))
