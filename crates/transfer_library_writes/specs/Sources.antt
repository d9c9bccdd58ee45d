-- The characters that a call reads.
use Rattle.std.specs.Prelude.{ℕ, Bool, true, false, cond, ◌&&◌, ◌||◌, Option, Some, None, List}
use Rattle.cc_base.specs.Lattices.{LatticeOf}
use Rattle.cc_base.specs.IntegerDomains.{IntegersOf}
use Rattle.c_layout.specs.declared.data_model.Model.{Model}
use Rattle.c_layout.specs.declared.leaf_lists.Class.TheVariants.{Char}
use Rattle.c_layout.specs.declared.shapes.BaseInfo.{BaseInfo}
use Rattle.pointer_domain.specs.declared.base_sets.Bases.{Bases}
use Rattle.value_domain.specs.declared.values.label_sets.Labels.{Labels}
use Rattle.value_domain.specs.declared.values.values.Value.{Value}
use Rattle.value_domain.specs.declared.values.row_cells.Cell.{Cell}
use Rattle.value_domain.specs.Values.LabelSets.{no_labels}
use Rattle.store_cells.specs.declared.access_windows.Window.{Window}
use Rattle.store_cells.specs.declared.cell_reads.Access.{Access}
use Rattle.store_cells.specs.CellReads.{joined}
use Rattle.store.specs.LiveBases.{has_base}
use Rattle.store.specs.Loads.{load_base, load_character}
use Rattle.store_cells.specs.Walks.{walk}
use Rattle.transfer_library_writes.specs.declared.source_bytes.Characters.{Characters}

abbrev pub character_access : Bool → Window → Access
character_access signed window = record { class = Char; signed = signed; window = window }

module _ {I : Type 0} where
  abbrev pub read_characters_if : LatticeOf I → IntegersOf I → Model → List (Cell I) → Bool → Access → BaseInfo → Option (Value I) → Option (Value I)
  read_characters_if l n m row wanted access base found = cond wanted (joined l found (load_base l n m base row access)) found

  abbrev pub read_characters : LatticeOf I → IntegersOf I → Model → List (Cell I) → Bases → Access → BaseInfo → ℕ → Option (Value I) → Option (Value I)
  read_characters l n m row set access base number found = read_characters_if l n m row (has_base set number) access base found

  -- what a character load of any byte of a window gets, over the bases of a set
  unfoldable pub characters_read : LatticeOf I → IntegersOf I → Model → List BaseInfo → List (Cell I) → Bases → Window → Bool → Option (Value I)
  characters_read l n m bases row set window signed = walk (read_characters l n m row set (character_access signed window)) 0 bases None

  abbrev pub is_blank : Option (Value I) → Bool
  is_blank None = false
  is_blank (Some v) = v.indeterminate

  abbrev pub is_blank_in : LatticeOf I → IntegersOf I → Model → List (Cell I) → Window → BaseInfo → Bool
  is_blank_in l n m row window base = is_blank (load_character l n m base row (character_access true window))

  abbrev pub is_blank_or : LatticeOf I → IntegersOf I → Model → List (Cell I) → Bases → Window → BaseInfo → ℕ → Bool → Bool
  is_blank_or l n m row set window base number found = found || (has_base set number && is_blank_in l n m row window base)

  -- a byte of the window may be indeterminate in some base of the set, whatever is known of its first zero
  unfoldable pub reads_blank : LatticeOf I → IntegersOf I → Model → List BaseInfo → List (Cell I) → Bases → Window → Bool
  reads_blank l n m bases row set window = walk (is_blank_or l n m row set window) 0 bases false

  abbrev pub reads_blank_in : LatticeOf I → IntegersOf I → Model → List BaseInfo → List (Cell I) → Bases → Option Window → Bool
  reads_blank_in l n m bases row set None = false
  reads_blank_in l n m bases row set (Some window) = reads_blank l n m bases row set window

  abbrev pub no_characters : LatticeOf I → Characters I
  no_characters l = record { signed = l.least; unsigned = l.least; labels = no_labels }

  abbrev pub number_of : LatticeOf I → Option (Value I) → I
  number_of l None = l.least
  number_of l (Some v) = v.num

  abbrev pub labels_of : Option (Value I) → Labels
  labels_of None = no_labels
  labels_of (Some v) = v.labels

  -- the characters of a text as signed and as unsigned characters, and their labels
  abbrev pub characters_of : LatticeOf I → IntegersOf I → Model → List BaseInfo → List (Cell I) → Bases → Option Window → Characters I
  characters_of l n m bases row set None = no_characters l
  characters_of l n m bases row set (Some w) = record {
    signed = number_of l (characters_read l n m bases row set w true);
    unsigned = number_of l (characters_read l n m bases row set w false);
    labels = labels_of (characters_read l n m bases row set w true);
  }
