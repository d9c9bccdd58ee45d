-- Writing the characters of a literal into an array.
use Rattle.std.specs.Prelude.{ℕ, suc, ◌+◌, ◌-◌, min, ℤ, pos, ◌-ℤ◌, Bool, cond, not, ◌&&◌, ◌==◌, nat_lt, nat_le, List, [], ◌∷◌, length, get_or, slice_get}
use Rattle.cc_base.specs.Lattices.{LatticeOf}
use Rattle.cc_base.specs.IntegerDomains.{IntegersOf}
use Rattle.c_layout.specs.declared.leaf_lists.Class.TheVariants.{Char}
use Rattle.c_layout.specs.declared.leaf_lists.Leaf.{Leaf}
use Rattle.c_layout.specs.declared.shapes.BaseInfo.{BaseInfo}
use Rattle.c_layout.specs.declared.shapes.ZeroPart.{ZeroPart}
use Rattle.value_domain.specs.declared.strings.first_zeros.FirstZero.{FirstZero}
use Rattle.value_domain.specs.Strings.FirstZeros.{zero_of}
use Rattle.value_domain.specs.declared.values.values.Value as values
use Rattle.value_domain.specs.declared.values.row_cells.Cell.{Cell}
use Rattle.value_domain.specs.Values.LabelSets.{no_labels}
use Rattle.value_domain.specs.Values.ValueTables.{number_value}
use Rattle.store_cells.specs.declared.access_windows.Window.{Window}
use Rattle.store_cells.specs.Walks.{walk, turns}
use Rattle.store_cells.specs.RowPositions.{capped, leaf_position, zero_position, put_value, join_value, put_zero}
use Rattle.store_cells.specs.AccessWindows.{window_between}
use Rattle.store.specs.LeafSelection.{has_place_in, is_selected}
use Rattle.store_cells.specs.FirstZeroWrites.{no_zero}
use Rattle.store_objects.specs.ObjectLives.{at_base}

-- how many characters are written: the text and the closing zero, as far as they fit
abbrev pub written_count : ℕ → List ℕ → ℕ
written_count room text = min room (length text + 1)

-- the character at a place of the text and its closing zero
abbrev pub character : List ℕ → ℕ → ℕ
character text at = get_or text at 0

-- the number of a byte in a signed or unsigned character type
abbrev pub character_number : ℕ → Bool → ℤ
character_number byte signed = cond (signed && nat_le 128 byte) (pos byte -ℤ pos 256) (pos byte)

abbrev pub written_window : ℕ → ℕ → Window
written_window offset count = window_between offset (capped (offset + (count - 1)))

-- a place of the leaf begins at the offset
abbrev pub begins_at : Leaf → ℕ → Bool
begins_at leaf offset = has_place_in leaf (window_between offset offset)

abbrev pub is_one_place : Leaf → Bool
is_one_place leaf = leaf.count == 1

-- some characters are written, and the leaf is reached
abbrev pub is_spelled : Leaf → ℕ → ℕ → Bool
is_spelled leaf offset count = not (count == 0) && is_selected leaf Char (written_window offset count)

-- how many characters stand before the first zero
abbrev pub text_length : List ℕ → ℕ
text_length [] = 0
text_length (byte ∷ text) = cond (byte == 0) 0 (suc (text_length text))

module _ {I : Type 0} where
  abbrev pub number_of : IntegersOf I → ℕ → Bool → I
  number_of n byte signed = n.one (character_number byte signed)

  abbrev pub hull_more : LatticeOf I → IntegersOf I → Leaf → ℕ → List ℕ → ℕ → I → I
  hull_more l n leaf offset text at found = cond (begins_at leaf (capped (offset + at))) (l.join found (number_of n (character text at) leaf.signed)) found

  -- the characters that are written to places of the leaf
  unfoldable pub hull : LatticeOf I → IntegersOf I → Leaf → ℕ → ℕ → List ℕ → I
  hull l n leaf offset count text = turns (hull_more l n leaf offset text) count l.least

  unfoldable pub one_character : LatticeOf I → IntegersOf I → Leaf → ℕ → List ℕ → values.Value I
  one_character l n leaf offset text = number_value l (number_of n (character text (leaf.offset - offset)) leaf.signed) no_labels

  unfoldable pub characters : LatticeOf I → IntegersOf I → Leaf → ℕ → ℕ → List ℕ → values.Value I
  characters l n leaf offset count text = number_value l (hull l n leaf offset count text) no_labels

  -- the one character of a leaf, or those at its places joined into it
  unfoldable pub spell_cell : LatticeOf I → IntegersOf I → List (Cell I) → ℕ → Leaf → ℕ → ℕ → List ℕ → List (Cell I)
  spell_cell l n row at leaf offset count text = cond (is_one_place leaf) (put_value row at (one_character l n leaf offset text)) (join_value l n row at (characters l n leaf offset count text))

  unfoldable pub spell_leaf_at : LatticeOf I → IntegersOf I → ℕ → ℕ → List ℕ → Leaf → ℕ → List (Cell I) → List (Cell I)
  spell_leaf_at l n offset count text leaf position row = cond (is_spelled leaf offset count) (spell_cell l n row position leaf offset count text) row

  abbrev pub spell_leaf : LatticeOf I → IntegersOf I → BaseInfo → ℕ → ℕ → List ℕ → Leaf → ℕ → List (Cell I) → List (Cell I)
  spell_leaf l n base offset count text leaf at row = spell_leaf_at l n offset count text leaf (leaf_position base at) row

  unfoldable pub spell_leaves : LatticeOf I → IntegersOf I → BaseInfo → ℕ → ℕ → List ℕ → List (Cell I) → List (Cell I)
  spell_leaves l n base offset count text row = walk (spell_leaf l n base offset count text) 0 base.shape.cells row

  -- the first zero of an array: where the text ends; none where it fills the array
  abbrev pub first_zero_of : IntegersOf I → ℕ → List ℕ → FirstZero I
  first_zero_of n room text = cond (nat_lt (text_length text) room) (zero_of (n.one (pos (text_length text)))) (no_zero n)

  abbrev pub spell_part_at : ℕ → FirstZero I → ZeroPart → ℕ → List (Cell I) → List (Cell I)
  spell_part_at offset zero part position row = cond (part.offset == offset) (put_zero row position zero) row

  abbrev pub spell_part : BaseInfo → ℕ → FirstZero I → ZeroPart → ℕ → List (Cell I) → List (Cell I)
  spell_part base offset zero part at row = spell_part_at offset zero part (zero_position base at) row

  -- the array that begins at the offset gets this first zero
  unfoldable pub spell_zero : BaseInfo → ℕ → FirstZero I → List (Cell I) → List (Cell I)
  spell_zero base offset zero row = walk (spell_part base offset zero) 0 base.shape.zeros row

  unfoldable pub spell_object : LatticeOf I → IntegersOf I → ℕ → ℕ → List ℕ → BaseInfo → List (Cell I) → List (Cell I)
  spell_object l n offset room text base row = spell_zero base offset (first_zero_of n room text) (spell_leaves l n base offset (written_count room text) text row)

  -- the text and its closing zero, written into the array of `room` characters at an offset of a base
  unfoldable pub spell : LatticeOf I → IntegersOf I → List BaseInfo → ℕ → ℕ → ℕ → List ℕ → List (Cell I) → List (Cell I)
  spell l n bases number offset room text row = at_base (spell_object l n offset room text) (slice_get bases number) row
