-- What a text that is written makes of each cell stands for the bytes of the text.
use Rattle.std.proofs.Common.{◌≡◌, ℕ, ◌+◌, ◌<◌, ◌≤◌, Bool, true, false, cond, Some, List, [], ◌∷◌, length, arith, subst, sym, refl, ap}
use Rattle.std.specs.Prelude.{slice_get, ℤ}
use Rattle.std.proofs.lemmas.Option.{slice_get_within}
use Rattle.cc_base.specs.Lattices.{LatticeOf, OrderLaws}
use Rattle.cc_base.specs.IntegerDomains.{IntegersOf, BoundLaws}
use Rattle.c_layout.specs.declared.leaf_lists.Class.{Class}
use Rattle.c_layout.specs.declared.leaf_lists.Class.TheVariants.{Char, Short, Int, Long, LongLong, Pointer}
use Rattle.c_layout.specs.declared.leaf_lists.Leaf.{Leaf}
use Rattle.c_layout.specs.declared.shapes.BaseInfo.{BaseInfo}
use Rattle.cfg.specs.declared.programs.Flow.{Flow}
use Rattle.value_domain.specs.Values.Values.{value_lattice, value_order}
use Rattle.value_domain.specs.declared.values.values.Value as values
use Rattle.value_domain.specs.declared.values.row_cells.Cell.{Cell}
use Rattle.store_cells.specs.ByteWrites.{byte_written}
use Rattle.store_cells.specs.ClassNumbers.{is_pointer, class_at}
use Rattle.store.specs.LeafSelection.{is_overlapped, has_stray}
use Rattle.store_cells.specs.NearValues.{near_value}
use Rattle.store_cells.specs.RowPositions.{leaf_position, class_position, value_at, join_value}
use Rattle.store_cells.specs.ScalarTypes.{kind_of}
use Rattle.transfer_library_writes.specs.TextWrites.{character_value, value_of_class, leaf_value, write_leaf, write_leaf_of, write_stray, write_class}
use Rattle.transfer_library_writes.specs.declared.text_writes.TextWrite.{TextWrite}
use Rattle.memory_model.specs.Memory.ScalarSizes.{class_bytes}
use Rattle.memory_model.specs.Memory.Bytes.{Content, indeterminate, number, part, Byte}
use Rattle.memory_model.specs.Memory.Instances.{Memory, bytes_at, byte_at}
use Rattle.memory_model.specs.Memory.Numbers.{Labelled, number_of}
use Rattle.memory_model.specs.Memory.Scalars.{pointer}
use Rattle.store_sound.specs.Concretization.Matching.{Matched, number_in, Holds}
use Rattle.store_sound.specs.Concretization.Places.{IsPlaceOf, OwnedByLeaf, OwnedByClass, IsClassPlace}
use Rattle.store_sound.specs.Concretization.SoundMemory.{IsPointerIn, IsContentIn, IsMemoryOf}
use Rattle.store_sound.specs.Concretization.ValueMeaning.{Naming, InGammaContent}
use Rattle.store_sound.specs.Concretization.RowMeaning.{IsLiveOf, InGammaCell, InGammaLeaf, InGammaClass}
use Rattle.store_sound.specs.Operations.Shapes.{IsShaped}
use Rattle.store_sound.proofs.operations.Classes.{class_size}
use Rattle.store_sound.proofs.operations.FreshValues.{type_near}
use Rattle.store_sound.proofs.operations.Larger.{value_below, content_larger}
use Rattle.store_sound.proofs.operations.Near.{IsNearValue, value_at_near}
use Rattle.store_sound.proofs.operations.StoreValues.{written, join_is}
use Rattle.store_sound.proofs.chars.ByteValues.{number_within}
use Rattle.store_sound.specs.Regions.RegionWrites.{IsRegion}
use Rattle.store_sound.proofs.regions.Regions.{cell_rewritten, cell_numbers}
use Rattle.store_sound.proofs.regions.ByteRegions.{leaf_missed, char_missed}
use Rattle.library_sound.specs.Texts.TextWrites.{IsTextWrite}
use Rattle.transfer_sound.proofs.values.NearScalars.{near_number_stands, near_scalar_stands}

one_list : (ns : List Labelled) → length ns ≡ 1 → (y : Labelled) × (ns ≡ y ∷ [])
one_list [] e = cc
one_list (y ∷ []) e = (y, refl)
one_list (y ∷ (z ∷ zs)) e = absurd (omega (arith, e))

-- ---- near bounds

module _ {I : Type 0} {l : LatticeOf I} {n : IntegersOf I} {gamma : I → ℤ → Type 0} (q : BoundLaws l n gamma) (flow : Flow) (naming : Naming) (memory : Memory) (sane : IsMemoryOf flow.model flow.bases.items naming memory) where
  content_near : (x : values.Value I) (d : Class) (content : Content) (i o : ℕ) (b : Byte) → byte_at memory i o ≡ Some b → b.content ≡ content → InGammaContent gamma naming memory x d content → InGammaContent gamma naming memory (near_value l n x) d content
  content_near x d indeterminate i o b e f h = h
  content_near x d (number k la) i o b e f h = h
  content_near x d (part p k) i o b e f h = near_scalar_stands q flow.model flow.bases.items naming memory sane x (pointer p) (by_content b.content f (sane.bytes i o b e)) tt h
    where
      by_content : (c : Content) → c ≡ part p k → IsContentIn memory c b.tag → IsPointerIn memory p
      by_content c g w = (subst (λ z. IsContentIn memory z b.tag) g w).0

  -- a cell that stands for something does so with near bounds
  cell_near : (b : ℕ) (d : Class) (signed : Bool) (Place Owns : ℕ → ℕ → Type 0) (x : values.Value I) → InGammaCell gamma flow naming memory b d signed Place Owns x → InGammaCell gamma flow naming memory b d signed Place Owns (near_value l n x)
  cell_near b d signed Place Owns x cell = record {
    whole = λ i o ns alive place plain held.
        let lies = number_within flow.model d signed ns held.size (λ k y e. let m = held.each k y (slice_get_within ns k y e) e in sane.bytes i (o + k) _ m.here) in
        let near = type_near (kind_of flow.model d signed) (number_of signed ns) (number_of signed ns) (class_size flow.model d) lies.0 lies.1 in
        near_number_stands q x.num (number_of signed ns) (record { from = near.0; to = near.1 }) (cell.whole i o ns alive place plain held);
    byte = λ i o k content alive owns m. content_near x d content i o (record { content = content; tag = m.tag }) m.here refl (cell.byte i o k content alive owns m);
  }

-- ---- a value that is joined with a cell

module _ {I : Type 0} {l : LatticeOf I} {n : IntegersOf I} {gamma : I → ℤ → Type 0} (o : OrderLaws l) (q : BoundLaws l n gamma) (flow : Flow) (naming : Naming) {old new : Memory} {i offset size : ℕ} (s : IsRegion old new i offset size) (sane : IsMemoryOf flow.model flow.bases.items naming new) where
  pub cell_with : (b : ℕ) (d : Class) (signed : Bool) (Place Owns : ℕ → ℕ → Type 0) (v : values.Value I)
      → ((a : ℕ) (ns : List Labelled) → IsLiveOf naming old b i → Place (length (bytes_at old i)) a → 0 < size → a < offset + size → offset < a + class_bytes flow.model d → is_pointer d ≡ false → Holds flow.model new i a d ns → gamma v.num (number_of signed ns))
      → ((a k : ℕ) (content : Content) → IsLiveOf naming old b i → Owns a k → offset ≤ a → a < offset + size → Matched new i a d k content → InGammaContent gamma naming new v d content)
      → (y : values.Value I) → InGammaCell gamma flow naming old b d signed Place Owns y → InGammaCell gamma flow naming new b d signed Place Owns (written l n flow.model y v false)
  cell_with b d signed Place Owns v place byte y cell =
      let x : values.Value I = (value_lattice l).join y v in
      let left = value_below l y x ((value_order o).join_left y v) in
      let right = value_below l v x ((value_order o).join_right y v) in
      cell_near q flow naming new sane b d signed Place Owns x
      (cell_rewritten q flow naming s b d signed Place Owns y x cell
      (λ j a u p e. left)
      (λ j a k u p e. left)
      (λ a ns u p z from to e h. q.larger v.num x.num (number_of signed ns) right.num (place a ns u p z from to e h))
      (λ a k content u w from to m. content_larger q naming new v x d content right (byte a k content u w from to m)))

  module _ (write : TextWrite I) (k : IsTextWrite l n gamma write new i offset size) where
    -- a cell of characters
    char_joined : (b : ℕ) (signed : Bool) (Place Owns : ℕ → ℕ → Type 0) (y : values.Value I) → InGammaCell gamma flow naming old b Char signed Place Owns y → InGammaCell gamma flow naming new b Char signed Place Owns (written l n flow.model y (character_value l n write.characters signed) false)
    char_joined b signed Place Owns y cell = cell_with b Char signed Place Owns (character_value l n write.characters signed)
        (λ a ns u p z from to e h.
        let one = one_list ns h.size in
        let m = h.each 0 one.0 (let d = h.size in omega (arith, d)) (ap (λ t. slice_get t 0) one.1) in
        let x : Byte = record { content = number_in one.0; tag = m.tag } in
        let here : a + 0 ≡ a = omega arith in
        subst (λ t. gamma (character_value l n write.characters signed).num (number_of signed t)) (sym one.1)
        (k.characters a one.0 x (omega (arith, to)) from (subst (λ t. byte_at new i t ≡ Some x) here m.here) refl signed))
        (λ a j content u w from to m.
        let x : Byte = record { content = content; tag = m.tag } in
        let r = k.numbers a x from to m.here in
        subst (InGammaContent gamma naming new (character_value l n write.characters signed) Char) (sym r.2) (r.3, λ (f : is_pointer Char ≡ true). cc))
        y cell

    -- a cell of any class
    class_joined : (d : Class) (b : ℕ) (signed : Bool) (Place Owns : ℕ → ℕ → Type 0) (y : values.Value I) → IsNearValue l n y → InGammaCell gamma flow naming old b d signed Place Owns y → InGammaCell gamma flow naming new b d signed Place Owns (written l n flow.model y (value_of_class l n flow.model d signed write.characters) false)
    class_joined Char b signed Place Owns y fine cell = char_joined b signed Place Owns y cell
    class_joined Short b signed Place Owns y fine cell = cell_numbers o q flow naming s sane write.characters.labels k.numbers Short signed b Place Owns y fine cell
    class_joined Int b signed Place Owns y fine cell = cell_numbers o q flow naming s sane write.characters.labels k.numbers Int signed b Place Owns y fine cell
    class_joined Long b signed Place Owns y fine cell = cell_numbers o q flow naming s sane write.characters.labels k.numbers Long signed b Place Owns y fine cell
    class_joined LongLong b signed Place Owns y fine cell = cell_numbers o q flow naming s sane write.characters.labels k.numbers LongLong signed b Place Owns y fine cell
    class_joined Pointer b signed Place Owns y fine cell = cell_numbers o q flow naming s sane write.characters.labels k.numbers Pointer signed b Place Owns y fine cell

    module _ (b : ℕ) (base : BaseInfo) (shape : IsShaped base) where
      -- ---- leaves

      pub leaf_written : (j : ℕ) (leaf : Leaf) → slice_get base.shape.cells j ≡ Some leaf → (row : List (Cell I)) → leaf_position base j < length row → InGammaLeaf gamma flow naming old b leaf (value_at l n row (leaf_position base j)) → InGammaLeaf gamma flow naming new b leaf (value_at l n (write_leaf_of l n flow.model base write leaf j row) (leaf_position base j))
      unfolding write_leaf
      leaf_written j leaf at row there cell = by_hit (is_overlapped flow.model leaf write.window) refl
        where
          by_hit : (hit : Bool) → is_overlapped flow.model leaf write.window ≡ hit → InGammaLeaf gamma flow naming new b leaf (value_at l n (cond hit (join_value l n row (leaf_position base j) (leaf_value l n flow.model leaf write.characters)) row) (leaf_position base j))
          by_hit true e = subst (InGammaLeaf gamma flow naming new b leaf) (sym (join_is l n flow.model row (leaf_position base j) (leaf_value l n flow.model leaf write.characters) there))
              (class_joined leaf.class b leaf.signed (λ size a. IsPlaceOf leaf a) (OwnedByLeaf flow.model leaf) (value_at l n row (leaf_position base j)) (value_at_near o q row (leaf_position base j)) cell)
          by_hit false e = leaf_missed o q flow naming s b leaf write.window (shape.strides j leaf at) k.window e (value_at l n row (leaf_position base j)) cell

      -- ---- class cells

      pub char_written : (row : List (Cell I)) → base.shape.heap ≡ true → class_position base 0 < length row → InGammaClass gamma flow naming old b base Char (value_at l n row (class_position base 0)) → InGammaClass gamma flow naming new b base Char (value_at l n (write_stray l n base write row) (class_position base 0))
      char_written row heap there cell = by_stray (has_stray base.shape.cells Char write.window) refl
        where
          by_stray : (stray : Bool) → has_stray base.shape.cells Char write.window ≡ stray → InGammaClass gamma flow naming new b base Char (value_at l n (cond stray (join_value l n row (class_position base 0) (character_value l n write.characters true)) row) (class_position base 0))
          by_stray true f = subst (InGammaClass gamma flow naming new b base Char) (sym (join_is l n flow.model row (class_position base 0) (character_value l n write.characters true) there))
              (char_joined b true (IsClassPlace flow.model base.shape.cells Char) (OwnedByClass flow.model base.shape.cells Char) (value_at l n row (class_position base 0)) cell)
          by_stray false f = char_missed o q flow naming s b base write.window shape heap k.window f (value_at l n row (class_position base 0)) cell

      pub class_written : (c : ℕ) (row : List (Cell I)) → class_position base (c + 1) < length row → InGammaClass gamma flow naming old b base (class_at (c + 1)) (value_at l n row (class_position base (c + 1))) → InGammaClass gamma flow naming new b base (class_at (c + 1)) (value_at l n (write_class l n flow.model base write c row) (class_position base (c + 1)))
      class_written c row there cell = subst (InGammaClass gamma flow naming new b base (class_at (c + 1))) (sym (join_is l n flow.model row (class_position base (c + 1)) (byte_written l n flow.model (class_at (c + 1)) true write.characters.labels) there))
          (cell_numbers o q flow naming s sane write.characters.labels k.numbers (class_at (c + 1)) true b (IsClassPlace flow.model base.shape.cells (class_at (c + 1))) (OwnedByClass flow.model base.shape.cells (class_at (c + 1))) (value_at l n row (class_position base (c + 1))) (value_at_near o q row (class_position base (c + 1))) cell)
