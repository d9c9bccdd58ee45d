-- What the law asks of a text that is spelled it needs: well-formed programs may spell into no room, over numbers of other
-- classes, and numbers that are no bytes; each time the row behind says what memory does not have.
use Rattle.std.proofs.Common.{◌≡◌, true, Some, List, [], ◌∷◌, arith, refl}
use Rattle.cc_base.specs.Lattices.{LatticeOf}
use Rattle.cc_base.specs.IntegerDomains.{IntegersOf}
use Rattle.c_layout.specs.declared.leaf_lists.Class.TheVariants.{Char, Int}
use Rattle.c_layout.specs.declared.leaf_lists.Leaf.{Leaf}
use Rattle.c_layout.specs.declared.shapes.ZeroPart.{ZeroPart}
use Rattle.cfg.specs.BaseShapes.{is_room_or_apart}
use Rattle.value_domain.specs.declared.values.row_cells.Cell.{Cell}
use Rattle.store_cells.specs.FirstZeroWrites.{no_zero}
use Rattle.store.specs.Spelling.{first_zero_of, spell_part_at, spell_leaf_at}
use Rattle.store_cells.specs.RowPositions.{put_zero}
use Rattle.memory_model.specs.Memory.Labels.{no_labels}
use Rattle.memory_model.specs.Memory.Bytes.{number}
use Rattle.memory_model.specs.Memory.Instances.{Memory}
use Rattle.memory_model.specs.Memory.Tags.{tag_of}
use Rattle.store_sound.specs.Concretization.FirstZeroBytes.{first_zero}
use Rattle.store_sound.specs.Concretization.SoundMemory.{IsContentIn}
use Rattle.library_sound.proofs.spelling.Texts.{contents}

-- ---- no room: nothing is written, and the array at that offset is said to have no zero, though it begins with one

abbrev part : ZeroPart
part = record { offset = 0; size = Some 1 }

no_room_is_well_formed : is_room_or_apart 0 0 part ≡ true
no_room_is_well_formed = refl

nothing_is_written : contents 0 (97 ∷ []) ≡ []
nothing_is_written = refl

memory_has_a_zero : first_zero (record { content = number 0 no_labels; tag = tag_of Char 0 } ∷ []) ≡ Some 0
memory_has_a_zero = refl

module _ {I : Type 0} (l : LatticeOf I) (n : IntegersOf I) (row : List (Cell I)) where
  row_has_none : spell_part_at 0 (first_zero_of n 0 (97 ∷ [])) part 0 row ≡ put_zero row 0 (no_zero n)
  row_has_none = refl

  -- ---- a leaf of another class: its bytes are written, and its cell stays

  abbrev leaf : Leaf
  leaf = record { offset = 0; class = Int; signed = true; stride = 4; count = 1 }

  its_bytes_are_written : contents 4 (97 ∷ []) ≡ number 97 no_labels ∷ number 0 no_labels ∷ []
  its_bytes_are_written = refl

  its_cell_stays : spell_leaf_at l n 0 2 (97 ∷ []) leaf 0 row ≡ row
  unfolding spell_leaf_at
  its_cell_stays = refl

-- ---- a number that is no byte: memory is no memory of bytes any more

it_is_written : contents 1 (300 ∷ []) ≡ number 300 no_labels ∷ []
it_is_written = refl

it_is_no_byte : (memory : Memory) → IsContentIn memory (number 300 no_labels) (tag_of Char 0) → ⊥
it_is_no_byte memory h = omega (arith, h)
