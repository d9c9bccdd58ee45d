-- A store, and a spelled literal, keeps the length of a row.
use Rattle.std.specs.Prelude.{◌≡◌, ℕ, ◌+◌, pos, Bool, true, Option, Some, None, ◌==◌, List, length, set, slice_get}
use Rattle.std.proofs.Common.{◌∙◌, refl}
use Rattle.std.proofs.lemmas.List.{length-set}
use Rattle.cc_base.specs.Lattices.{LatticeOf}
use Rattle.cc_base.specs.IntegerDomains.{IntegersOf}
use Rattle.cc_base.specs.declared.integer_operators.Rel.TheVariants.{Eq}
use Rattle.c_layout.specs.declared.data_model.Model.{Model}
use Rattle.c_layout.specs.declared.leaf_lists.Class.{Class}
use Rattle.c_layout.specs.declared.leaf_lists.Class.TheVariants.{Char}
use Rattle.c_layout.specs.declared.leaf_lists.Leaf.{Leaf}
use Rattle.c_layout.specs.declared.shapes.BaseInfo.{BaseInfo}
use Rattle.pointer_domain.specs.declared.base_sets.Bases.{Bases}
use Rattle.pointer_domain.specs.declared.pointer_sets.Pointers.{Pointers}
use Rattle.value_domain.specs.declared.strings.first_zeros.FirstZero.{FirstZero}
use Rattle.value_domain.specs.declared.values.label_sets.Labels.{Labels}
use Rattle.value_domain.specs.declared.values.values.Value as values
use Rattle.value_domain.specs.declared.values.row_cells.Cell.{Cell}
use Rattle.value_domain.specs.declared.values.row_cells.Cell.TheVariants.{Value, First}
use Rattle.store_cells.specs.declared.access_windows.Window.{Window}
use Rattle.store_cells.specs.declared.cell_reads.Access.{Access}
use Rattle.store_cells.specs.ScalarTypes.{class_bytes}
use Rattle.store_cells.specs.AccessWindows.{window_of}
use Rattle.store.specs.declared.stores.Write.{Write}
use Rattle.store_cells.specs.ClassNumbers.{class_number, class_at, same_class}
use Rattle.store_cells.specs.RowPositions.{leaf_position, class_position, zero_position, join_value, write_value, put_value}
use Rattle.store.specs.LeafSelection.{is_selected, is_other}
use Rattle.store_cells.specs.ByteWrites.{byte_written}
use Rattle.store_cells.specs.FirstZeroWrites.{forget_zeros}
use Rattle.store_objects.specs.LiveBases.{has_base}
use Rattle.store.specs.Loads.{reaches_class}
use Rattle.store.specs.Stores.{cell_value, is_strong, store_leaf_at, store_leaf, store_leaves, store_class_cell, store_other_leaf_at, store_other_leaf, store_other_leaves, store_other_class, store_other_classes, store_other_bytes, store_own, store_character, store_wider, store_base, store_if, store_to, store_all, write_to, can_store, store_access, reached_of, store_within, store}
use Rattle.store.specs.Spelling.{is_one_place, one_character, characters, is_spelled, written_count, spell_cell, spell_leaf_at, spell_leaf, spell_leaves, first_zero_of, spell_part, spell_zero, spell_object, spell}
use Rattle.store_cells.specs.RowLengths.{walk_keeps, turns_keep, cond_keeps, some_keeps, join_value_keeps, write_value_keeps, put_character_keeps, forget_zeros_keeps}
use Rattle.store_objects.specs.ObjectLengths.{base_keeps}

module _ {I : Type 0} (l : LatticeOf I) (n : IntegersOf I) where
  -- ---- stores

  store_leaf_keeps : (m : Model) (base : BaseInfo) (write : Write I) (leaf : Leaf) (at : ℕ) (row : List (Cell I)) → length (store_leaf l n m base write leaf at row) ≡ length row
  unfolding store_leaf_at
  store_leaf_keeps m base write leaf at row = cond_keeps (is_selected leaf write.access.class write.access.window)
      (write_value l n row (leaf_position base at) (cell_value n m write leaf.signed) (is_strong leaf write)) row row
      (write_value_keeps l n row (leaf_position base at) (cell_value n m write leaf.signed) (is_strong leaf write)) refl

  store_leaves_keeps : (m : Model) (base : BaseInfo) (write : Write I) (row : List (Cell I)) → length (store_leaves l n m base write row) ≡ length row
  unfolding store_leaves
  store_leaves_keeps m base write row = walk_keeps (store_leaf l n m base write) (λ leaf at r. store_leaf_keeps m base write leaf at r) 0 base.shape.cells row

  store_class_cell_keeps : (m : Model) (base : BaseInfo) (write : Write I) (row : List (Cell I)) → length (store_class_cell l n m base write row) ≡ length row
  unfolding store_class_cell
  store_class_cell_keeps m base write row = cond_keeps (reaches_class base write.access)
      (join_value l n row (class_position base (class_number write.access.class)) (cell_value n m write true)) row row
      (join_value_keeps l n row (class_position base (class_number write.access.class)) (cell_value n m write true)) refl

  store_other_leaf_keeps : (m : Model) (base : BaseInfo) (write : Write I) (leaf : Leaf) (at : ℕ) (row : List (Cell I)) → length (store_other_leaf l n m base write leaf at row) ≡ length row
  unfolding store_other_leaf_at
  store_other_leaf_keeps m base write leaf at row = cond_keeps (is_other m leaf write.access.window)
      (join_value l n row (leaf_position base at) (byte_written l n m leaf.class leaf.signed write.value.labels)) row row
      (join_value_keeps l n row (leaf_position base at) (byte_written l n m leaf.class leaf.signed write.value.labels)) refl

  store_other_leaves_keeps : (m : Model) (base : BaseInfo) (write : Write I) (row : List (Cell I)) → length (store_other_leaves l n m base write row) ≡ length row
  unfolding store_other_leaves
  store_other_leaves_keeps m base write row = walk_keeps (store_other_leaf l n m base write) (λ leaf at r. store_other_leaf_keeps m base write leaf at r) 0 base.shape.cells row

  store_other_class_keeps : (m : Model) (base : BaseInfo) (labels : Labels) (at : ℕ) (row : List (Cell I)) → length (store_other_class l n m base labels at row) ≡ length row
  unfolding store_other_class
  store_other_class_keeps m base labels at row = join_value_keeps l n row (class_position base (at + 1)) (byte_written l n m (class_at (at + 1)) true labels)

  store_other_classes_keeps : (m : Model) (base : BaseInfo) (labels : Labels) (row : List (Cell I)) → length (store_other_classes l n m base labels row) ≡ length row
  unfolding store_other_classes
  store_other_classes_keeps m base labels row = turns_keep (store_other_class l n m base labels) (λ at r. store_other_class_keeps m base labels at r) 5 row

  store_other_bytes_keeps : (m : Model) (base : BaseInfo) (write : Write I) (row : List (Cell I)) → length (store_other_bytes l n m base write row) ≡ length row
  unfolding store_other_bytes
  store_other_bytes_keeps m base write row =
      let leaves = store_other_leaves l n m base write row in
      cond_keeps base.shape.heap (store_other_classes l n m base write.value.labels leaves) leaves row
      (store_other_classes_keeps m base write.value.labels leaves ∙ store_other_leaves_keeps m base write row) (store_other_leaves_keeps m base write row)

  store_own_keeps : (m : Model) (base : BaseInfo) (write : Write I) (row : List (Cell I)) → length (store_own l n m base write row) ≡ length row
  unfolding store_own
  store_own_keeps m base write row = store_class_cell_keeps m base write (store_leaves l n m base write row) ∙ store_leaves_keeps m base write row

  store_character_keeps : (m : Model) (base : BaseInfo) (write : Write I) (row : List (Cell I)) → length (store_character l n m base write row) ≡ length row
  unfolding store_character
  store_character_keeps m base write row = put_character_keeps l n base write.access.window (n.compare Eq (cell_value n m write write.access.signed).num (n.one (pos 0))) write.alone (store_other_bytes l n m base write row) ∙ store_other_bytes_keeps m base write row

  store_wider_keeps : (base : BaseInfo) (w : Window) (row : List (Cell I)) → length (store_wider l n base w row) ≡ length row
  unfolding store_wider
  store_wider_keeps base w row = cond_keeps base.shape.heap (forget_zeros l n base w row) row row (forget_zeros_keeps l n base w row) refl

  pub store_base_keeps : (m : Model) (base : BaseInfo) (write : Write I) (row : List (Cell I)) → length (store_base l n m base write row) ≡ length row
  unfolding store_base
  store_base_keeps m base write row =
      let own = store_own l n m base write row in
      cond_keeps (same_class write.access.class Char) (store_character l n m base write own) (store_wider l n base write.access.window own) row
      (store_character_keeps m base write own ∙ store_own_keeps m base write row) (store_wider_keeps base write.access.window own ∙ store_own_keeps m base write row)

  store_to_keeps : (m : Model) (set : Bases) (write : Write I) (base : BaseInfo) (number : ℕ) (row : List (Cell I)) → length (store_to l n m set write base number row) ≡ length row
  unfolding store_if
  store_to_keeps m set write base number row = cond_keeps (has_base set number) (store_base l n m base write row) row row (store_base_keeps m base write row) refl

  pub store_all_keeps : (m : Model) (bases : List BaseInfo) (set : Bases) (write : Write I) (row : List (Cell I)) → length (store_all l n m bases set write row) ≡ length row
  unfolding store_all
  store_all_keeps m bases set write row = walk_keeps (store_to l n m set write) (λ base number r. store_to_keeps m set write base number r) 0 bases row

  store_within_keeps : (m : Model) (bases : List BaseInfo) (set : Bases) (class : Class) (signed : Bool) (v : values.Value I) (row after : List (Cell I)) (w : Option Window)
      → store_within l n m bases set class signed v row w ≡ Some after → length after ≡ length row
  unfolding store_access
  store_within_keeps m bases set class signed v row after None e = absurd (let k : ⊥ = cc in k)
  store_within_keeps m bases set class signed v row after (Some w) e =
      let reached = reached_of l n bases row set in
      let access : Access = record { class = class; signed = signed; window = w } in
      let all = store_all l n m bases reached (write_to bases reached access v) row in
      some_keeps (can_store n m bases reached access v) all after row e (store_all_keeps m bases reached (write_to bases reached access v) row)

  pub store_keeps : (m : Model) (bases : List BaseInfo) (p : Pointers I) (class : Class) (signed : Bool) (v : values.Value I) (row after : List (Cell I))
      → store l n m bases p class signed v row ≡ Some after → length after ≡ length row
  unfolding store
  store_keeps m bases p class signed v row after e = store_within_keeps m bases p.bases class signed v row after (window_of n p (class_bytes m class)) e

  -- ---- spelling

  spell_cell_keeps : (row : List (Cell I)) (at : ℕ) (leaf : Leaf) (offset count : ℕ) (text : List ℕ) → length (spell_cell l n row at leaf offset count text) ≡ length row
  unfolding spell_cell
  spell_cell_keeps row at leaf offset count text = cond_keeps (is_one_place leaf) (put_value row at (one_character l n leaf offset text)) (join_value l n row at (characters l n leaf offset count text)) row
      (length-set row at (Value (one_character l n leaf offset text))) (join_value_keeps l n row at (characters l n leaf offset count text))

  spell_leaf_keeps : (base : BaseInfo) (offset count : ℕ) (text : List ℕ) (leaf : Leaf) (at : ℕ) (row : List (Cell I)) → length (spell_leaf l n base offset count text leaf at row) ≡ length row
  unfolding spell_leaf_at
  spell_leaf_keeps base offset count text leaf at row = cond_keeps (is_spelled leaf offset count) (spell_cell l n row (leaf_position base at) leaf offset count text) row row (spell_cell_keeps row (leaf_position base at) leaf offset count text) refl

  spell_leaves_keeps : (base : BaseInfo) (offset count : ℕ) (text : List ℕ) (row : List (Cell I)) → length (spell_leaves l n base offset count text row) ≡ length row
  unfolding spell_leaves
  spell_leaves_keeps base offset count text row = walk_keeps (spell_leaf l n base offset count text) (λ leaf at r. spell_leaf_keeps base offset count text leaf at r) 0 base.shape.cells row

  spell_zero_keeps : (base : BaseInfo) (offset : ℕ) (first : FirstZero I) (row : List (Cell I)) → length (spell_zero base offset first row) ≡ length row
  unfolding spell_zero
  spell_zero_keeps base offset first row = walk_keeps (spell_part base offset first)
      (λ part at r. cond_keeps (part.offset == offset) (set r (zero_position base at) (First first)) r r (length-set r (zero_position base at) (First first)) refl) 0 base.shape.zeros row

  spell_object_keeps : (offset room : ℕ) (text : List ℕ) (base : BaseInfo) (row : List (Cell I)) → length (spell_object l n offset room text base row) ≡ length row
  unfolding spell_object
  spell_object_keeps offset room text base row =
      let count = written_count room text in
      spell_zero_keeps base offset (first_zero_of n room text) (spell_leaves l n base offset count text row) ∙ spell_leaves_keeps base offset count text row

  pub spell_keeps : (bases : List BaseInfo) (number offset room : ℕ) (text : List ℕ) (row : List (Cell I)) → length (spell l n bases number offset room text row) ≡ length row
  unfolding spell
  spell_keeps bases number offset room text row = base_keeps (spell_object l n offset room text) (λ base r. spell_object_keeps offset room text base r) (slice_get bases number) row
