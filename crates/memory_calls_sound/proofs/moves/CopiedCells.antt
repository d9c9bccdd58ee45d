-- What a copy of bytes makes of each cell stands for the bytes that came.
use Rattle.std.proofs.Common.{◌≡◌, ℕ, ◌+◌, ◌<◌, ◌≤◌, Bool, true, false, cond, ◌||◌, Some, None, List, length, subst, sym, refl, ap}
use Rattle.std.specs.Prelude.{slice_get, ℤ, ◌==◌, not}
use Rattle.std.proofs.lemmas.Bool.{or_right, eqb-true}
use Rattle.std.proofs.lemmas.Option.{slice_get_within}
use Rattle.cc_base.specs.Lattices.{LatticeOf, OrderLaws}
use Rattle.cc_base.specs.IntegerDomains.{IntegersOf, BoundLaws}
use Rattle.c_layout.specs.declared.data_model.Model.{Model}
use Rattle.c_layout.specs.declared.leaf_lists.Class.{Class}
use Rattle.c_layout.specs.declared.leaf_lists.Class.TheVariants.{Char}
use Rattle.c_layout.specs.declared.leaf_lists.Leaf.{Leaf}
use Rattle.c_layout.specs.declared.shapes.BaseInfo.{BaseInfo}
use Rattle.cfg.specs.declared.programs.Flow.{Flow}
use Rattle.pointer_domain.specs.PointerLattice.{pointer_order}
use Rattle.pointer_domain.specs.declared.pointer_sets.Pointers.{Pointers}
use Rattle.value_domain.specs.Values.LabelSets.{labels_leq}
use Rattle.value_domain.specs.Values.ValueTables.{pointer_value}
use Rattle.value_domain.specs.declared.values.values.Value as values
use Rattle.value_domain.specs.declared.values.row_cells.Cell.{Cell}
use Rattle.store_cells.specs.ByteWrites.{null_pointer, labelled_null, byte_written}
use Rattle.store_cells.specs.CellReads.{whole_range}
use Rattle.store_cells.specs.ClassNumbers.{class_at, is_pointer}
use Rattle.store.specs.LeafSelection.{is_overlapped, has_stray}
use Rattle.store_cells.specs.RowPositions.{leaf_position, class_position, value_at, join_value}
use Rattle.store_cells.specs.ScalarTypes.{kind_of}
use Rattle.transfer_library_writes.specs.CopyWrites.{is_read_class, with_null, copied_value, copy_leaf, copy_leaf_of, copy_class, copy_class_of}
use Rattle.transfer_library_writes.specs.declared.copied_bytes.CopiedBytes.{CopiedBytes}
use Rattle.transfer_library_writes.specs.declared.copied_bytes.CopyWrite.{CopyWrite}
use Rattle.memory_model.specs.Memory.ScalarSizes.{class_bytes}
use Rattle.memory_model.specs.Memory.Bytes.{Content, indeterminate, number, part, Byte}
use Rattle.memory_model.specs.Memory.Instances.{Memory, byte_at}
use Rattle.memory_model.specs.Memory.Numbers.{Labelled, number_of}
use Rattle.store_sound.specs.Concretization.Matching.{Fits, Matched, Holds}
use Rattle.store_sound.specs.Concretization.Places.{IsPlaceOf, OwnedByLeaf, OwnedByClass, IsClassPlace}
use Rattle.store_sound.specs.Concretization.SeenLabels.{as_set}
use Rattle.store_sound.specs.Concretization.SoundMemory.{IsMemoryOf, IsContentIn}
use Rattle.store_sound.specs.Concretization.ValueMeaning.{Naming, InGammaPointer, InGammaContent}
use Rattle.store_sound.specs.Concretization.RowMeaning.{InGammaCell, InGammaLeaf, InGammaClass}
use Rattle.store_sound.specs.Operations.Shapes.{IsShaped}
use Rattle.store_sound.proofs.operations.Larger.{pointer_below, pointer_larger}
use Rattle.store_sound.proofs.operations.Near.{IsNearValue, value_at_near, join_near, near_number_none}
use Rattle.store_sound.proofs.operations.StoreValues.{written, join_is}
use Rattle.store_sound.proofs.chars.ByteValues.{written_number, written_near}
use Rattle.store_sound.specs.Regions.RegionWrites.{IsRegion}
use Rattle.store_sound.proofs.regions.Regions.{cell_joined}
use Rattle.store_sound.proofs.regions.ByteRegions.{leaf_missed, char_missed}
use Rattle.memory_calls_sound.proofs.moves.ReadBytes.{IsOwnPart, tagged_part, untagged_part, IsRead, IsNearRead}

-- what the analysis knows of a copy, of bytes that came
pub record IsCopy {I : Type 0} {l : LatticeOf I} {n : IntegersOf I} {gamma : I → ℤ → Type 0} (o : OrderLaws l) (q : BoundLaws l n gamma) (naming : Naming) (write : CopyWrite I) (new : Memory) (i offset size : ℕ) : Type 0 where
  pub window : (x : ℕ) → offset ≤ x → x < offset + size → (write.window.lo ≤ x) × (x ≤ write.window.hi)
  pub bytes : (a : ℕ) (x : Byte) → offset ≤ a → a < offset + size → byte_at new i a ≡ Some x → IsRead gamma naming new write.bytes x.content
  pub near : IsNearRead o q write.bytes

-- ---- the value with which a cell is joined

module _ {I : Type 0} {l : LatticeOf I} {n : IntegersOf I} {gamma : I → ℤ → Type 0} (o : OrderLaws l) (q : BoundLaws l n gamma) (m : Model) (d : Class) (t : Bool) (bytes : CopiedBytes I) where
  number_is : (copied_value l n m d t bytes).num ≡ (byte_written l n m d t bytes.labels).num
  number_is = by_class (is_pointer d)
    where
      by_class : (p : Bool) → (cond p (record { num = l.least; pointer = with_null l bytes.pointers bytes.numbers; indeterminate = bytes.indeterminate; labels = bytes.labels }) (whole_range l n (kind_of m d t) bytes.labels bytes.indeterminate)).num ≡ (cond p (labelled_null l bytes.labels) (whole_range l n (kind_of m d t) bytes.labels false)).num
      by_class true = refl
      by_class false = refl

  pub copied_number : (ns : List Labelled) → is_pointer d ≡ false → length ns ≡ class_bytes m d → ((k : ℕ) (y : Labelled) → slice_get ns k ≡ Some y → y.number < 256) → gamma (copied_value l n m d t bytes).num (number_of t ns)
  copied_number ns p e h = subst (λ z. gamma z (number_of t ns)) (sym number_is) (written_number o q m d t bytes.labels ns p e h)

  with_null_is : (numbers : Bool) (p : Pointers I) → (numbers || p.null) ≡ true → (with_null l p numbers).null ≡ true
  with_null_is true p h = or_right p.null true refl
  with_null_is false p h = h

  module _ (naming : Naming) (memory : Memory) where
    with_null_larger : (numbers : Bool) (p : Pointers I) (x : _) → InGammaPointer gamma naming memory p x → InGammaPointer gamma naming memory (with_null l p numbers) x
    with_null_larger true p x h = pointer_larger q naming memory p _ x (pointer_below l p _ ((pointer_order o).join_left p (null_pointer l))) h
    with_null_larger false p x h = h

    pub copied_content : (c : Content) → IsOwnPart d c → IsRead gamma naming memory bytes c → InGammaContent gamma naming memory (copied_value l n m d t bytes) d c
    copied_content indeterminate own h = by_class (is_pointer d)
      where
        by_class : (p : Bool) → (cond p (record { num = l.least; pointer = with_null l bytes.pointers bytes.numbers; indeterminate = bytes.indeterminate; labels = bytes.labels }) (whole_range l n (kind_of m d t) bytes.labels bytes.indeterminate)).indeterminate ≡ true
        by_class true = h
        by_class false = h
    copied_content (number k la) own h = (by_class (is_pointer d), λ e. of_pointer (is_pointer d) e)
      where
        by_class : (p : Bool) → labels_leq (as_set la) (cond p (record { num = l.least; pointer = with_null l bytes.pointers bytes.numbers; indeterminate = bytes.indeterminate; labels = bytes.labels }) (whole_range l n (kind_of m d t) bytes.labels bytes.indeterminate)).labels ≡ true
        by_class true = h.0
        by_class false = h.0

        of_pointer : (p : Bool) → p ≡ true → (cond p (record { num = l.least; pointer = with_null l bytes.pointers bytes.numbers; indeterminate = bytes.indeterminate; labels = bytes.labels }) (whole_range l n (kind_of m d t) bytes.labels bytes.indeterminate)).pointer.null ≡ true
        of_pointer true e = with_null_is bytes.numbers bytes.pointers h.1
        of_pointer false e = cc
    copied_content (part x k) own h = of_pointer (is_pointer d) own
      where
        of_pointer : (p : Bool) → p ≡ true → InGammaPointer gamma naming memory (cond p (record { num = l.least; pointer = with_null l bytes.pointers bytes.numbers; indeterminate = bytes.indeterminate; labels = bytes.labels }) (whole_range l n (kind_of m d t) bytes.labels bytes.indeterminate)).pointer x
        of_pointer true e = with_null_larger bytes.numbers bytes.pointers x h
        of_pointer false e = cc

  pub copied_near : IsNearRead o q bytes → IsNearValue l n (copied_value l n m d t bytes)
  copied_near h = by_class (is_pointer d) (written_near o q m d t bytes.labels)
    where
      null_near : (numbers : Bool) → IsNearValue l n (record { num = l.least; pointer = with_null l bytes.pointers numbers; indeterminate = bytes.indeterminate; labels = bytes.labels })
      null_near false = record { num = h.num; lo = h.lo; rel = h.rel; len = h.len }
      null_near true =
          let none = near_number_none o q l.least q.least_bounds in
          let r = join_near o q (pointer_value l bytes.pointers) (pointer_value l (null_pointer l)) h (record { num = none; lo = none; rel = none; len = none }) in
          record { num = none; lo = r.lo; rel = r.rel; len = r.len }

      by_class : (p : Bool) → IsNearValue l n (cond p (labelled_null l bytes.labels) (whole_range l n (kind_of m d t) bytes.labels false))
          → IsNearValue l n (cond p (record { num = l.least; pointer = with_null l bytes.pointers bytes.numbers; indeterminate = bytes.indeterminate; labels = bytes.labels }) (whole_range l n (kind_of m d t) bytes.labels bytes.indeterminate))
      by_class true g = null_near bytes.numbers
      by_class false g = record { num = g.num; lo = g.lo; rel = g.rel; len = g.len }

-- ---- cells

module _ {I : Type 0} {l : LatticeOf I} {n : IntegersOf I} {gamma : I → ℤ → Type 0} (o : OrderLaws l) (q : BoundLaws l n gamma) (flow : Flow) (naming : Naming) {old new : Memory} {i offset size : ℕ} (s : IsRegion old new i offset size) (sane : IsMemoryOf flow.model flow.bases.items naming new) (write : CopyWrite I) (k : IsCopy o q naming write new i offset size) where
  module _ (d : Class) (t : Bool) where
    abbrev copied : values.Value I
    copied = copied_value l n flow.model d t write.bytes

    came_number : (a : ℕ) (ns : List Labelled) → is_pointer d ≡ false → Holds flow.model new i a d ns → gamma copied.num (number_of t ns)
    came_number a ns p h = copied_number o q flow.model d t write.bytes ns p h.size (λ j y e. let m = h.each j y (slice_get_within ns j y e) e in sane.bytes i (a + j) _ m.here)

    own_part : (tag : _) (c : Content) (j : ℕ) → Fits d j tag → IsContentIn new c tag → IsOwnPart d c
    own_part None c j f h = untagged_part new c d h
    own_part (Some tag) c j f h = subst (λ z. IsOwnPart z c) f.0 (tagged_part new c tag h)

    came_content : (a j : ℕ) (c : Content) → offset ≤ a → a < offset + size → Matched new i a d j c → InGammaContent gamma naming new copied d c
    came_content a j c from to m =
        let one : Byte = record { content = c; tag = m.tag } in
        copied_content o q flow.model d t write.bytes naming new c (own_part m.tag c j m.fits (sane.bytes i a one m.here)) (k.bytes a one from to m.here)

    -- any cell that has bytes of the region
    came_cell : (b : ℕ) (Place Owns : ℕ → ℕ → Type 0) (y : values.Value I) → IsNearValue l n y → InGammaCell gamma flow naming old b d t Place Owns y → InGammaCell gamma flow naming new b d t Place Owns (written l n flow.model y copied false)
    came_cell b Place Owns y fine cell = cell_joined o q flow naming s b d t Place Owns copied (copied_near o q flow.model d t write.bytes k.near)
        (λ a ns u p z from to e h. came_number a ns e h)
        (λ a j c u w from to m. came_content a j c from to m) y fine cell

  module _ (b : ℕ) (base : BaseInfo) (shape : IsShaped base) where
    pub leaf_copied : (j : ℕ) (leaf : Leaf) → slice_get base.shape.cells j ≡ Some leaf → (row : List (Cell I)) → leaf_position base j < length row → InGammaLeaf gamma flow naming old b leaf (value_at l n row (leaf_position base j)) → InGammaLeaf gamma flow naming new b leaf (value_at l n (copy_leaf_of l n flow.model base write leaf j row) (leaf_position base j))
    unfolding copy_leaf
    leaf_copied j leaf at row there cell = by_hit (is_overlapped flow.model leaf write.window) refl
      where
        p : ℕ
        p = leaf_position base j

        by_hit : (hit : Bool) → is_overlapped flow.model leaf write.window ≡ hit → InGammaLeaf gamma flow naming new b leaf (value_at l n (cond hit (join_value l n row (leaf_position base j) (copied_value l n flow.model leaf.class leaf.signed write.bytes)) row) (leaf_position base j))
        by_hit true e = subst (InGammaLeaf gamma flow naming new b leaf) (sym (join_is l n flow.model row (leaf_position base j) (copied_value l n flow.model leaf.class leaf.signed write.bytes) there))
            (came_cell leaf.class leaf.signed b (λ size a. IsPlaceOf leaf a) (OwnedByLeaf flow.model leaf) (value_at l n row (leaf_position base j)) (value_at_near o q row (leaf_position base j)) cell)
        by_hit false e = leaf_missed o q flow naming s b leaf write.window (shape.strides j leaf at) k.window e (value_at l n row (leaf_position base j)) cell

    joined_class : (slot : ℕ) (row : List (Cell I)) → class_position base slot < length row → InGammaClass gamma flow naming old b base (class_at slot) (value_at l n row (class_position base slot)) → InGammaClass gamma flow naming new b base (class_at slot) (value_at l n (copy_class l n flow.model write (class_position base slot) (class_at slot) row) (class_position base slot))
    joined_class slot row there cell = subst (InGammaClass gamma flow naming new b base (class_at slot)) (sym (join_is l n flow.model row (class_position base slot) (copied_value l n flow.model (class_at slot) true write.bytes) there))
        (came_cell (class_at slot) true b (IsClassPlace flow.model base.shape.cells (class_at slot)) (OwnedByClass flow.model base.shape.cells (class_at slot)) (value_at l n row (class_position base slot)) (value_at_near o q row (class_position base slot)) cell)

    unread : (stray : Bool) (slot : ℕ) → is_read_class stray slot ≡ false → (slot ≡ 0) × (stray ≡ false)
    unread stray slot e = by_test (slot == 0) refl e
      where
        by_test : (first : Bool) → (slot == 0) ≡ first → (not first || stray) ≡ false → (slot ≡ 0) × (stray ≡ false)
        by_test true z f = (eqb-true slot 0 z, f)
        by_test false z f = cc

    pub class_copied : base.shape.heap ≡ true → (slot : ℕ) (row : List (Cell I)) → class_position base slot < length row → InGammaClass gamma flow naming old b base (class_at slot) (value_at l n row (class_position base slot)) → InGammaClass gamma flow naming new b base (class_at slot) (value_at l n (copy_class_of l n flow.model base write (has_stray base.shape.cells Char write.window) slot row) (class_position base slot))
    class_copied heap slot row there cell = by_read (is_read_class (has_stray base.shape.cells Char write.window) slot) refl
      where
        by_read : (read : Bool) → is_read_class (has_stray base.shape.cells Char write.window) slot ≡ read → InGammaClass gamma flow naming new b base (class_at slot) (value_at l n (cond read (copy_class l n flow.model write (class_position base slot) (class_at slot) row) row) (class_position base slot))
        by_read true e = joined_class slot row there cell
        by_read false e =
            let r = unread (has_stray base.shape.cells Char write.window) slot e in
            let char : class_at slot ≡ Char = ap class_at r.0 in
            subst (λ z. InGammaClass gamma flow naming new b base z (value_at l n row (class_position base slot))) (sym char)
            (char_missed o q flow naming s b base write.window shape heap k.window r.1 (value_at l n row (class_position base slot))
            (subst (λ z. InGammaClass gamma flow naming old b base z (value_at l n row (class_position base slot))) char cell))
