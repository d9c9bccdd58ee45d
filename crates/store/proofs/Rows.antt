-- Worked rows of the definitions.
use Rattle.std.specs.Prelude.{◌≡◌, refl, ℕ, pos, negsuc, ◌^◌, Bool, true, false, Some, None, List, [], ◌∷◌}
use Rattle.cc_base.specs.Lattices.{LatticeOf}
use Rattle.cc_base.specs.IntegerDomains.{IntegersOf}
use Rattle.c_layout.specs.Models.{lp64}
use Rattle.c_layout.specs.declared.leaf_lists.Class.TheVariants as class
use Rattle.c_layout.specs.declared.leaf_lists.Leaf.{Leaf}
use Rattle.c_layout.specs.declared.shapes.BaseInfo.{BaseInfo}
use Rattle.c_layout.specs.declared.shapes.BaseKind.TheVariants as kind
use Rattle.c_layout.specs.declared.shapes.ZeroPart.{ZeroPart}
use Rattle.value_domain.specs.declared.strings.first_zeros.FirstZero.{FirstZero}
use Rattle.value_domain.specs.declared.values.values.Value as values
use Rattle.value_domain.specs.declared.values.row_cells.Cell.TheVariants.{Value, First}
use Rattle.value_domain.specs.Values.ValueTables.{blank_value}
use Rattle.store.specs.declared.stores.Write.{Write}
use Rattle.store_cells.specs.AccessWindows.{window_between, window_within}
use Rattle.store.specs.LeafSelection.{has_place_in, is_overlapped, has_stray, meets_padding}
use Rattle.store_cells.specs.RowPositions.{join_value, write_value}
use Rattle.store_cells.specs.FirstZeroWrites.{zero_target, set_zeros, no_zero}
use Rattle.store_cells.specs.ScalarTypes.{kind_of}
use Rattle.store.specs.Stores.{cell_value, store_leaf_at}
use Rattle.store_objects.specs.ObjectLives.{forget, blank_object, set_values}
use Rattle.store.specs.Spelling.{character_number, text_length}
use Rattle.store_objects.specs.Freeing.{freed_state}

-- ---- windows and leaves

-- offsets below 0 are none
from_zero : window_within (Some (negsuc 2, pos 5)) ≡ Some (window_between 0 5)
from_zero = refl

none_below : window_within (Some (negsuc 9, negsuc 2)) ≡ None
none_below = refl

abbrev places : ℕ → ℕ → ℕ → Leaf
places offset stride count = record { offset = offset; class = class.Int; signed = true; stride = stride; count = count }

-- the places at 4, 8 and 12
at_eight : has_place_in (places 4 4 3) (window_between 8 8) ≡ true
at_eight = refl

between_places : has_place_in (places 4 4 3) (window_between 5 7) ≡ false
between_places = refl

behind_places : has_place_in (places 4 4 3) (window_between 13 90) ≡ false
behind_places = refl

-- the last byte of an int at 4 is at 7
last_byte : is_overlapped lp64 (places 4 4 1) (window_between 7 7) ≡ true
last_byte = refl

next_byte : is_overlapped lp64 (places 4 4 1) (window_between 8 8) ≡ false
next_byte = refl

-- one offset, at which a leaf begins, is no stray; two offsets have one
no_stray : has_stray (places 4 4 1 ∷ []) class.Int (window_between 4 4) ≡ false
no_stray = refl

stray : has_stray (places 4 4 1 ∷ []) class.Int (window_between 4 5) ≡ true
stray = refl

-- struct { char c; int i; }
abbrev padded : List Leaf
padded = record { offset = 0; class = class.Char; signed = true; stride = 1; count = 1 } ∷ places 4 4 1 ∷ []

in_padding : meets_padding lp64 padded (window_between 2 2) 8 ≡ true
in_padding = refl

in_leaves : meets_padding lp64 padded (window_between 4 7) 8 ≡ false
in_leaves = refl

-- an array of 4 characters at 8
abbrev part : ZeroPart
part = record { offset = 8; size = Some 4 }

half_in : zero_target part (window_between 10 20) ≡ Some (record { local = window_between 2 3; whole = false })
half_in = refl

all_in : zero_target part (window_between 8 11) ≡ Some (record { local = window_between 0 3; whole = true })
all_in = refl

outside : zero_target part (window_between 12 20) ≡ None
outside = refl

-- ---- characters

high_character : character_number 200 true ≡ negsuc 55
high_character = refl

length_to_zero : text_length (97 ∷ 98 ∷ 0 ∷ 99 ∷ []) ≡ 2
length_to_zero = refl

-- ---- rows

abbrev one_int : BaseInfo
one_int = record { kind = kind.Automatic; size = 4; first = 0; shape = record { cells = places 0 4 1 ∷ []; zeros = []; heap = false } }

abbrev text : BaseInfo
text = record { kind = kind.Automatic; size = 2; first = 0; shape = record { cells = []; zeros = part ∷ []; heap = false } }

module _ {I : Type 0} (l : LatticeOf I) (n : IntegersOf I) (v w : values.Value I) where
  abbrev int_write : Bool → Write I
  int_write alone = record { access = record { class = class.Int; signed = true; window = window_between 0 0 }; value = w; alone = alone }

  -- what is stored is of the type of the cell, also where the signs are the same
  abbrev stored : values.Value I
  stored = record w { num = n.convert w.num (kind_of lp64 class.Int true) }

  -- a store to the one place replaces the value; one that may be elsewhere, or to a leaf of two places, joins
  strong_store : store_leaf_at l n lp64 (int_write true) (places 0 4 1) 0 (Value v ∷ []) ≡ Value stored ∷ []
  unfolding store_leaf_at write_value
  strong_store = refl

  weak_store : store_leaf_at l n lp64 (int_write false) (places 0 4 1) 0 (Value v ∷ []) ≡ join_value l n (Value v ∷ []) 0 stored
  unfolding store_leaf_at write_value
  weak_store = refl

  folded_store : store_leaf_at l n lp64 (int_write true) (places 0 4 2) 0 (Value v ∷ []) ≡ join_value l n (Value v ∷ []) 0 stored
  unfolding store_leaf_at write_value
  folded_store = refl

  abbrev char_write : Write I
  char_write = record { access = record { class = class.Char; signed = true; window = window_between 0 0 }; value = w; alone = true }

  -- 256 is 0 in a character: the number that is compared with 0 is the converted one
  stored_character : (cell_value n lp64 char_write true).num ≡ n.convert w.num (kind_of lp64 class.Char true)
  stored_character = refl

  entered : forget l n (one_int ∷ []) 0 (Value v ∷ []) ≡ Value (blank_value l) ∷ []
  unfolding forget blank_object set_values set_zeros
  entered = refl

  -- a number of no base changes nothing
  no_base : forget l n (one_int ∷ []) 1 (Value v ∷ []) ≡ Value v ∷ []
  unfolding forget
  no_base = refl

  first_zeros_set : (f : FirstZero I) → set_zeros text (no_zero n) (First f ∷ []) ≡ First (record { at = n.one (pos (2 ^ 64)) }) ∷ []
  unfolding set_zeros
  first_zeros_set f = refl

-- surely freed is live no more, perhaps freed may be
surely_freed : {I : Type 0} (x : I) → freed_state true (record { size = x; live = true; freed = false }) ≡ record { size = x; live = false; freed = true }
surely_freed x = refl

perhaps_freed : {I : Type 0} (x : I) → freed_state false (record { size = x; live = true; freed = false }) ≡ record { size = x; live = true; freed = true }
perhaps_freed x = refl
