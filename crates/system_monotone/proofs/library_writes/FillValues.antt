-- Values of cells whose bytes are set, and the leaves that are covered.
use Rattle.std.specs.Prelude.{◌≡◌, ℕ, ◌-◌, ◌*◌, ◌^◌, ◌≤◌, ◌==◌, nat_lt, nat_le, ℤ, pos, negsuc, ◌≤ℤ◌, int_le, Bool, true, false, cond, ◌&&◌, ◌||◌, Option, Some, None, [], refl}
use Rattle.std.proofs.Common.{arith, sym, subst}
use Rattle.std.proofs.lemmas.Int.{ints}
use Rattle.std.proofs.lemmas.Bool.{and_from, and_parts, cond_both, leb-true, le-leb, eqb-true}
use Rattle.std.proofs.lemmas.Bool.Decides.{nat_tests}
use Rattle.cc_base.specs.Lattices.{LatticeOf, OrderLaws}
use Rattle.cc_base.specs.IntegerDomains.{IntegersOf, BoundLaws}
use Rattle.cc_base.specs.IntegerTypes.{least_of, greatest_of}
use Rattle.cc_base.specs.declared.int_types.IntType.{IntType}
use Rattle.c_layout.specs.declared.data_model.Model.{Model}
use Rattle.c_layout.specs.declared.leaf_lists.Class.{Class}
use Rattle.c_layout.specs.declared.leaf_lists.Class.TheVariants.{Pointer}
use Rattle.c_layout.specs.declared.leaf_lists.Leaf.{Leaf}
use Rattle.pointer_domain.specs.declared.base_sets.Bases.{Bases}
use Rattle.pointer_domain.specs.BaseSets.{no_base}
use Rattle.pointer_domain.specs.PointerLattice.{no_pointer, pointer_order}
use Rattle.value_domain.specs.declared.values.label_sets.Labels.{Labels}
use Rattle.value_domain.specs.declared.values.values.Value.{Value}
use Rattle.value_domain.specs.Values.LabelSets.{labels_leq, labels_order}
use Rattle.value_domain.specs.Values.Values.{value_lattice, value_order}
use Rattle.value_domain.specs.Values.ValueTables.{number_value}
use Rattle.domain_theorems.proofs.values.Flags.{Sets}
use Rattle.domain_theorems.proofs.values.Parts.{value_below}
use Rattle.store_cells.specs.declared.access_windows.Window.{Window}
use Rattle.store_cells.specs.AccessWindows.{last_offset, window_between}
use Rattle.store_cells.specs.ByteWrites.{labelled_null, byte_written}
use Rattle.store_cells.specs.CellReads.{whole_range}
use Rattle.store_cells.specs.ClassNumbers.{is_pointer}
use Rattle.store.specs.LeafSelection.{has_place_in, is_overlapped, turns_into}
use Rattle.store_cells.specs.ScalarTypes.{class_bytes, kind_of}
use Rattle.store_monotone.specs.Operations.TopCells.{top_value}
use Rattle.store_monotone.proofs.operations.CellReads.{written_monotone, written_top}
use Rattle.store_monotone.proofs.operations.Consistent.{IsEven, even_bare}
use Rattle.store_monotone.proofs.operations.Windows.{WindowsBelow}
use Rattle.transfer_library_writes.specs.declared.fill_writes.FillWrite.{FillWrite}
use Rattle.transfer_library_writes.specs.FillWrites.{last_byte, is_covered_by, is_covered, zeroed, covered_value}
use Rattle.system_monotone.proofs.library_writes.WrittenCells.{bytes_even}
use Rattle.system_monotone.proofs.library_writes.FillOrder.{IsWeak, FillStarts, FillBelow}

least_low : (s : Bool) (m : ℕ) → cond s (negsuc m) (pos 0) ≤ℤ pos 0
least_low true m = omega (arith, ints)
least_low false m = omega (arith, ints)

greatest_high : (s : Bool) (c d : ℕ) → pos 0 ≤ℤ cond s (pos c) (pos d)
greatest_high true c d = omega (arith, ints)
greatest_high false c d = omega (arith, ints)

module _ {I : Type 0} {l : LatticeOf I} {n : IntegersOf I} {stands : I → ℤ → Type 0} (o : OrderLaws l) (b : BoundLaws l n stands) where
  -- 0 is a number of each type
  number_whole : (k : IntType) (s : Labels) → (value_lattice l).leq (number_value l (n.one (pos 0)) s) (whole_range l n k s false) ≡ true
  number_whole k s = value_below l (number_value l (n.one (pos 0)) s) (whole_range l n k s false) (record {
    num = cond_both (int_le (least_of k) (greatest_of k)) (n.between (least_of k) (greatest_of k)) l.least (λ x. l.leq (n.one (pos 0)) x ≡ true)
        (λ e. b.below_between (n.one (pos 0)) (pos 0) (pos 0) (least_of k) (greatest_of k) (b.one_bounds (pos 0)) low high)
        (λ e. absurd (in_order (least_of k) (greatest_of k) low high e));
    pointer = (pointer_order o).reflexive (no_pointer l);
    indeterminate = refl;
    labels = labels_order.reflexive s;
  })
    where
      low : least_of k ≤ℤ pos 0
      low = least_low k.signed (2 ^ (8 * k.bytes - 1) - 1)

      high : pos 0 ≤ℤ greatest_of k
      high = greatest_high k.signed (2 ^ (8 * k.bytes - 1) - 1) (2 ^ (8 * k.bytes) - 1)

      in_order : (a c : ℤ) → a ≤ℤ pos 0 → pos 0 ≤ℤ c → int_le a c ≡ false → ⊥
      in_order a c h k e = grind (arith, ints)

  module _ (m : Model) (class : Class) (signed : Bool) where
    -- a cell of numbers that is set to 0 or to any of its numbers
    abbrev number_set : Bool → Labels → Value I
    number_set zero s = cond zero (number_value l (n.one (pos 0)) s) (byte_written l n m class signed s)

    module _ (plain : is_pointer class ≡ false) where
      set_less : (zero : Bool) (s : Labels) → (value_lattice l).leq (number_set zero s) (byte_written l n m class signed s) ≡ true
      set_less true s = subst (λ p. (value_lattice l).leq (number_value l (n.one (pos 0)) s) (cond p (labelled_null l s) (whole_range l n (kind_of m class signed) s false)) ≡ true) (sym plain) (number_whole (kind_of m class signed) s)
      set_less false s = (value_order o).reflexive (byte_written l n m class signed s)

      set_monotone : (a c : Bool) → Sets c a → (s t : Labels) → labels_leq s t ≡ true → (value_lattice l).leq (number_set a s) (number_set c t) ≡ true
      set_monotone true true z s t h = value_below l (number_value l (n.one (pos 0)) s) (number_value l (n.one (pos 0)) t) (record { num = o.reflexive (n.one (pos 0)); pointer = (pointer_order o).reflexive (no_pointer l); indeterminate = refl; labels = h })
      set_monotone false true z s t h = absurd (let y : false ≡ true = z refl in cc)
      set_monotone a false z s t h = (value_order o).transitive (number_set a s) (byte_written l n m class signed s) (byte_written l n m class signed t) (set_less a s) (written_monotone o b m class signed s t h)

      set_even : (a : Bool) (s : Labels) → IsEven n (number_set a s).pointer
      set_even true s = even_bare o b false false
      set_even false s = bytes_even o b no_base [] m class signed s

    -- what is known of a cell that surely is covered, below what is of one that may be
    pub covered_less : (w : FillWrite) → (value_lattice l).leq (covered_value l n m class signed w) (byte_written l n m class signed w.labels) ≡ true
    covered_less w = by_pointer (is_pointer class) refl
      where
        by_pointer : (p : Bool) → is_pointer class ≡ p → (value_lattice l).leq (cond p (labelled_null l w.labels) (zeroed l n m class signed w)) (byte_written l n m class signed w.labels) ≡ true
        by_pointer true e = subst (λ p. (value_lattice l).leq (labelled_null l w.labels) (cond p (labelled_null l w.labels) (whole_range l n (kind_of m class signed) w.labels false)) ≡ true) (sym e) ((value_order o).reflexive (labelled_null l w.labels))
        by_pointer false e = set_less e w.zero w.labels

    pub covered_monotone : (w v : FillWrite) → Sets v.zero w.zero → labels_leq w.labels v.labels ≡ true → (value_lattice l).leq (covered_value l n m class signed w) (covered_value l n m class signed v) ≡ true
    covered_monotone w v z h = by_pointer (is_pointer class) refl
      where
        by_pointer : (p : Bool) → is_pointer class ≡ p → (value_lattice l).leq (cond p (labelled_null l w.labels) (zeroed l n m class signed w)) (cond p (labelled_null l v.labels) (zeroed l n m class signed v)) ≡ true
        by_pointer true e = written_monotone o b m Pointer signed w.labels v.labels h
        by_pointer false e = set_monotone e w.zero v.zero z w.labels v.labels h

    pub covered_even : (w : FillWrite) → IsEven n (covered_value l n m class signed w).pointer
    covered_even w = by_pointer (is_pointer class) refl
      where
        by_pointer : (p : Bool) → is_pointer class ≡ p → IsEven n (cond p (labelled_null l w.labels) (zeroed l n m class signed w)).pointer
        by_pointer true e = even_bare o b true false
        by_pointer false e = set_even e w.zero w.labels

    -- what a cell is set to, where it may be known that it is covered
    abbrev pub set_value : Bool → FillWrite → Value I
    set_value covered w = cond covered (covered_value l n m class signed w) (byte_written l n m class signed w.labels)

    pub value_monotone : (a c : Bool) → Sets c a → (w v : FillWrite) → Sets v.zero w.zero → labels_leq w.labels v.labels ≡ true → (value_lattice l).leq (set_value a w) (set_value c v) ≡ true
    value_monotone true true y w v z h = covered_monotone w v z h
    value_monotone false true y w v z h = absurd (let x : false ≡ true = y refl in cc)
    value_monotone true false y w v z h = (value_order o).transitive (covered_value l n m class signed w) (byte_written l n m class signed w.labels) (byte_written l n m class signed v.labels) (covered_less w) (written_monotone o b m class signed w.labels v.labels h)
    value_monotone false false y w v z h = written_monotone o b m class signed w.labels v.labels h

    pub value_top : (all : Bases) (c : Bool) (v : FillWrite) → (value_lattice l).leq (set_value c v) (top_value n all) ≡ true
    value_top all true v = (value_order o).transitive (covered_value l n m class signed v) (byte_written l n m class signed v.labels) (top_value n all) (covered_less v) (written_top o b all m class signed v.labels)
    value_top all false v = written_top o b all m class signed v.labels

    pub value_even : (a : Bool) (w : FillWrite) → IsEven n (set_value a w).pointer
    value_even true w = covered_even w
    value_even false w = bytes_even o b no_base [] m class signed w.labels

-- ---- leaves that are covered

some_stride : (leaf : Leaf) (x : Window) → has_place_in leaf x ≡ true → ((leaf.stride == 0) ≡ false) × (nat_lt x.hi leaf.offset ≡ false)
some_stride leaf x h = by_tests (leaf.stride == 0) (nat_lt x.hi leaf.offset) h
  where
    by_tests : (a c : Bool) → cond (a || c) false (turns_into leaf x) ≡ true → (a ≡ false) × (c ≡ false)
    by_tests true c h = absurd (cc)
    by_tests false true h = absurd (cc)
    by_tests false false h = (refl, refl)

place_of : (leaf : Leaf) (lo hi : ℕ) → (leaf.stride == 0) ≡ false → leaf.count ≡ 1 → lo ≤ leaf.offset → leaf.offset ≤ hi → has_place_in leaf (window_between lo hi) ≡ true
place_of leaf lo hi e f h k = grind (arith, nat_tests)

-- a leaf that is covered, and that a larger write reaches, is reached
covered_reached : (m : Model) (leaf : Leaf) (u : Window) → u.hi ≤ last_offset → is_overlapped m leaf u ≡ true → (c w : Window) → leaf.count ≡ 1 → c.lo ≤ leaf.offset → last_byte m leaf ≤ c.hi → w.lo ≤ c.lo → c.hi ≤ w.hi → is_overlapped m leaf w ≡ true
covered_reached m leaf u near h c w one lo hi i j =
    let size = class_bytes m leaf.class - 1 in
    let s = some_stride leaf (window_between (u.lo - size) u.hi) h in
    let t : leaf.offset ≤ u.hi = not_above u.hi leaf.offset s.1 in
    place_of leaf (w.lo - size) w.hi s.0 one (omega arith) (omega arith)
  where
    not_above : (a c : ℕ) → nat_lt a c ≡ false → c ≤ a
    not_above a c h = grind (arith, nat_tests)

-- a leaf that the larger write surely covers, the smaller one covers too, and reaches
pub covered_too : (m : Model) (leaf : Leaf) (w v : FillWrite) → FillBelow w v → FillStarts w v → (on one two : Bool) → (two ≡ true → (on ≡ true) × (one ≡ true)) → is_overlapped m leaf v.window ≡ true → is_covered m leaf v two ≡ true
    → (on ≡ true) × (is_overlapped m leaf w.window ≡ true) × (is_covered m leaf w one ≡ true)
covered_too m leaf w v k s on one two alone reached covered = by_sure v.sure w.sure refl k.sure covered
  where
    by_sure : (d c : Option Window) → w.sure ≡ c → WindowsBelow d c → is_covered_by m leaf two d ≡ true → (on ≡ true) × (is_overlapped m leaf w.window ≡ true) × (is_covered_by m leaf one c ≡ true)
    by_sure None c e h f = absurd (cc)
    by_sure (Some d) None e h f = absurd h
    by_sure (Some d) (Some c) e h f =
        let p = and_parts two ((leaf.count == 1) && (nat_le d.lo leaf.offset && nat_le (last_byte m leaf) d.hi)) f in
        let q = and_parts (leaf.count == 1) (nat_le d.lo leaf.offset && nat_le (last_byte m leaf) d.hi) p.1 in
        let r = and_parts (nat_le d.lo leaf.offset) (nat_le (last_byte m leaf) d.hi) q.1 in
        let lo = leb-true d.lo leaf.offset r.0 in
        let hi = leb-true (last_byte m leaf) d.hi r.1 in
        let within = s.sure c e in
        let a = alone p.0 in
        let x = h.lo in let y = h.hi in (
          a.0,
          covered_reached m leaf v.window k.window.near reached c w.window (eqb-true leaf.count 1 q.0) (omega arith) (omega arith) within.0 within.1,
          and_from one _ a.1 (and_from (leaf.count == 1) _ q.0 (and_from (nat_le c.lo leaf.offset) _ (le-leb c.lo leaf.offset (omega arith)) (le-leb (last_byte m leaf) c.hi (omega arith)))),
        )

-- nothing is covered where nothing surely is written
pub weak_covers : (m : Model) (leaf : Leaf) (v : FillWrite) (two : Bool) → IsWeak v → is_covered m leaf v two ≡ false
weak_covers m leaf v two h = subst (λ d. is_covered_by m leaf two d ≡ false) (sym h.sure) refl
