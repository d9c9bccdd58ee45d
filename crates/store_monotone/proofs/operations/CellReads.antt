-- What is read from larger cells is larger.
use Rattle.std.specs.Prelude.{◌≡◌, ℕ, ◌-◌, ◌^◌, ◌==◌, ℤ, pos, negsuc, ◌≤ℤ◌, Bool, true, false, cond, not, ◌||◌, int_le, Option, Some, None, refl}
use Rattle.std.proofs.Common.{arith}
use Rattle.std.proofs.lemmas.Int.{ints}
use Rattle.std.proofs.lemmas.Bool.{cond_both, and_from}
use Rattle.cc_base.specs.Lattices.{LatticeOf, OrderLaws}
use Rattle.cc_base.specs.LatticeParts.{flag_leq}
use Rattle.cc_base.specs.NumberRanges.{Range}
use Rattle.cc_base.specs.IntegerTypes.{is_size, least_of, greatest_of}
use Rattle.cc_base.specs.IntegerDomains.{IntegersOf, BoundLaws, RangeLaws, between_or_least}
use Rattle.cc_base.specs.declared.int_types.IntType.{IntType}
use Rattle.c_layout.specs.declared.data_model.Model.{Model}
use Rattle.c_layout.specs.declared.leaf_lists.Class.{Class}
use Rattle.c_layout.specs.declared.leaf_lists.Class.TheVariants.{Char, Short, Int, Long, LongLong, Pointer}
use Rattle.pointer_domain.specs.declared.base_sets.Bases.{Bases}
use Rattle.pointer_domain.specs.BaseLattice.{bases_order}
use Rattle.pointer_domain.specs.PointerLattice.{no_pointer, pointer_order}
use Rattle.value_domain.specs.declared.values.values.Value.{Value}
use Rattle.value_domain.specs.declared.values.label_sets.Labels.{Labels}
use Rattle.value_domain.specs.Values.LabelSets.{no_labels, all_labels, labels_leq, labels_order}
use Rattle.value_domain.specs.Values.Values.{value_lattice, value_order}
use Rattle.value_domain.specs.Values.ValueTables.{blank_value}
use Rattle.store_cells.specs.ScalarTypes.{kind_of, class_bytes}
use Rattle.store_cells.specs.ClassNumbers.{is_pointer}
use Rattle.store.specs.Loads.{labels_of}
use Rattle.store_cells.specs.CellReads.{same_sign, joined, whole_range, as_read, as_stored, only_flag, byte_read}
use Rattle.store_cells.specs.ByteWrites.{null_pointer, labelled_null, byte_written}
use Rattle.cc_base.specs.IntegerLaws.{MonotoneLaws}
use Rattle.domain_theorems.proofs.values.Ranges.{RangeBelow}
use Rattle.store_monotone.proofs.operations.AddedRanges.{below_of_bounds}
use Rattle.domain_theorems.proofs.values.Parts.{ValueBelow, value_parts, value_below, pointer_parts, pointers_below}
use Rattle.domain_theorems.proofs.values.Flags.{flag_sets}
use Rattle.store_monotone.specs.Operations.TopCells.{top_number, top_value}
use Rattle.store_monotone.specs.Operations.RowsBelow.{ReadBelow}

-- ---- all numbers of a type lie from -2^64 to 2^64

pub size_is : (m : Model) (c : Class) → is_size (class_bytes m c) ≡ true
size_is m Char = refl
size_is m Short = refl
size_is m Int = cond_both (m.int == 2) 2 4 (λ b. is_size b ≡ true) (λ e. refl) (λ e. refl)
size_is m Long = cond_both (m.long == 4) 4 8 (λ b. is_size b ≡ true) (λ e. refl) (λ e. refl)
size_is m LongLong = refl
size_is m Pointer = cond_both (m.pointer == 4) 4 8 (λ b. is_size b ≡ true) (λ e. refl) (λ e. refl)

abbrev HasNearEnds : IntType → Type 0
HasNearEnds k = (negsuc (2 ^ 64 - 1) ≤ℤ least_of k) × (greatest_of k ≤ℤ pos (2 ^ 64))

abbrev of_size : ℕ → ℕ → Bool → IntType
of_size bytes rank s = record { bytes = bytes; signed = s; rank = rank }

ends1 : (rank : ℕ) (s : Bool) → HasNearEnds (of_size 1 rank s)
ends1 rank true = (omega (arith, ints), omega (arith, ints))
ends1 rank false = (omega (arith, ints), omega (arith, ints))

ends2 : (rank : ℕ) (s : Bool) → HasNearEnds (of_size 2 rank s)
ends2 rank true = (omega (arith, ints), omega (arith, ints))
ends2 rank false = (omega (arith, ints), omega (arith, ints))

ends4 : (rank : ℕ) (s : Bool) → HasNearEnds (of_size 4 rank s)
ends4 rank true = (omega (arith, ints), omega (arith, ints))
ends4 rank false = (omega (arith, ints), omega (arith, ints))

ends8 : (rank : ℕ) (s : Bool) → HasNearEnds (of_size 8 rank s)
ends8 rank true = (omega (arith, ints), omega (arith, ints))
ends8 rank false = (omega (arith, ints), omega (arith, ints))

kind_ends : (m : Model) (c : Class) (s : Bool) → HasNearEnds (kind_of m c s)
kind_ends m Char s = ends1 1 s
kind_ends m Short s = ends2 2 s
kind_ends m Int s = cond_both (m.int == 2) 2 4 (λ b. HasNearEnds (of_size b 3 s)) (λ e. ends2 3 s) (λ e. ends4 3 s)
kind_ends m Long s = cond_both (m.long == 4) 4 8 (λ b. HasNearEnds (of_size b 4 s)) (λ e. ends4 4 s) (λ e. ends8 4 s)
kind_ends m LongLong s = ends8 5 s
kind_ends m Pointer s = cond_both (m.pointer == 4) 4 8 (λ b. HasNearEnds (of_size b 0 s)) (λ e. ends4 0 s) (λ e. ends8 0 s)

flag_top : (p : Bool) → flag_leq p true ≡ true
flag_top true = refl
flag_top false = refl

pub labels_top : (s : Labels) → labels_leq s all_labels ≡ true
labels_top s = and_from _ _ (flag_top s.lo) (and_from _ _ (flag_top s.hi) (flag_top s.mutated))

module _ {I : Type 0} {l : LatticeOf I} {n : IntegersOf I} {stands : I → ℤ → Type 0} (o : OrderLaws l) (b : BoundLaws l n stands) where
  join_monotone : (v w x y : Value I) → (value_lattice l).leq v x ≡ true → (value_lattice l).leq w y ≡ true → (value_lattice l).leq ((value_lattice l).join v w) ((value_lattice l).join x y) ≡ true
  join_monotone v w x y h k = (value_order o).join_least v w ((value_lattice l).join x y) ((value_order o).transitive v x ((value_lattice l).join x y) h ((value_order o).join_left x y)) ((value_order o).transitive w y ((value_lattice l).join x y) k ((value_order o).join_right x y))

  pub joined_monotone : (a c x y : Option (Value I)) → ReadBelow l a x → ReadBelow l c y → ReadBelow l (joined l a c) (joined l x y)
  joined_monotone None None x y h k = tt
  joined_monotone None (Some w) None y h k = k
  joined_monotone None (Some w) (Some v) None h k = absurd k
  joined_monotone None (Some w) (Some v) (Some u) h k = (value_order o).transitive w u ((value_lattice l).join v u) k ((value_order o).join_right v u)
  joined_monotone (Some v) c None y h k = absurd h
  joined_monotone (Some v) None (Some x) None h k = h
  joined_monotone (Some v) None (Some x) (Some y) h k = (value_order o).transitive v x ((value_lattice l).join x y) h ((value_order o).join_left x y)
  joined_monotone (Some v) (Some w) (Some x) None h k = absurd k
  joined_monotone (Some v) (Some w) (Some x) (Some y) h k = join_monotone v w x y h k

  -- joined with one more
  pub joined_above : (a x y : Option (Value I)) → ReadBelow l a x → ReadBelow l a (joined l x y)
  joined_above None x y h = tt
  joined_above (Some v) None y h = absurd h
  joined_above (Some v) (Some x) None h = h
  joined_above (Some v) (Some x) (Some y) h = (value_order o).transitive v x ((value_lattice l).join x y) h ((value_order o).join_left x y)

  -- ---- all numbers of a type

  pub whole_monotone : (k : IntType) (s t : Labels) (p q : Bool) → labels_leq s t ≡ true → flag_leq p q ≡ true → (value_lattice l).leq (whole_range l n k s p) (whole_range l n k t q) ≡ true
  whole_monotone k s t p q h j = value_below l (whole_range l n k s p) (whole_range l n k t q) (record {
    num = o.reflexive (between_or_least l n (least_of k) (greatest_of k));
    pointer = (pointer_order o).reflexive (no_pointer l);
    indeterminate = j;
    labels = h;
  })

  -- a cell of one signedness under the other
  pub read_monotone : MonotoneLaws l n → (m : Model) (class : Class) (from to : Bool) (v w : Value I) → (value_lattice l).leq v w ≡ true → (value_lattice l).leq (as_read n m v class from to) (as_read n m w class from to) ≡ true
  read_monotone g m class from to v w h = same_way (is_pointer class || same_sign from to)
    where
      same_way : (t : Bool) → (value_lattice l).leq (cond t v (record v { num = n.convert v.num (kind_of m class to) })) (cond t w (record w { num = n.convert w.num (kind_of m class to) })) ≡ true
      same_way true = h
      same_way false = let p = value_parts l v w h in value_below l (record v { num = n.convert v.num (kind_of m class to) }) (record w { num = n.convert w.num (kind_of m class to) })
          (record { num = g.convert_monotone (kind_of m class to) v.num w.num (size_is m class) p.num; pointer = p.pointer; indeterminate = p.indeterminate; labels = p.labels })

  -- a value that is stored into a cell of a signedness
  pub stored_in_monotone : MonotoneLaws l n → (m : Model) (class : Class) (to : Bool) (v w : Value I) → (value_lattice l).leq v w ≡ true → (value_lattice l).leq (as_stored n m v class to) (as_stored n m w class to) ≡ true
  stored_in_monotone g m class to v w h = same_way (is_pointer class)
    where
      same_way : (t : Bool) → (value_lattice l).leq (cond t v (record v { num = n.convert v.num (kind_of m class to) })) (cond t w (record w { num = n.convert w.num (kind_of m class to) })) ≡ true
      same_way true = h
      same_way false = let p = value_parts l v w h in value_below l (record v { num = n.convert v.num (kind_of m class to) }) (record w { num = n.convert w.num (kind_of m class to) })
          (record { num = g.convert_monotone (kind_of m class to) v.num w.num (size_is m class) p.num; pointer = p.pointer; indeterminate = p.indeterminate; labels = p.labels })

  flag_monotone : (p q : Bool) → flag_leq p q ≡ true → (value_lattice l).leq (only_flag l p) (only_flag l q) ≡ true
  flag_monotone true true h = (value_order o).reflexive (blank_value l)
  flag_monotone true false h = cc
  flag_monotone false q h = (value_order o).least_below (only_flag l q)

  flag_below : (p : Bool) (w : Value I) → flag_leq p w.indeterminate ≡ true → (value_lattice l).leq (only_flag l p) w ≡ true
  flag_below true w h = value_below l (blank_value l) w (record { num = o.least_below w.num; pointer = (pointer_order o).least_below w.pointer; indeterminate = h; labels = labels_order.least_below w.labels })
  flag_below false w h = (value_order o).least_below w

  -- a character of a cell of another class
  pub byte_monotone : (m : Model) (class : Class) (signed : Bool) (v w : Value I) → (value_lattice l).leq v w ≡ true → (value_lattice l).leq (byte_read l n m v class signed) (byte_read l n m w class signed) ≡ true
  byte_monotone m class signed v w h = split (not (is_pointer class)) v.pointer.null w.pointer.null (flag_sets v.pointer.null w.pointer.null (pointer_parts l v.pointer w.pointer p.pointer).null)
    where
      p : ValueBelow l v w
      p = value_parts l v w h

      split : (c x y : Bool) → (x ≡ true → y ≡ true) → (value_lattice l).leq (cond (c || x) (whole_range l n (kind_of m Char signed) v.labels v.indeterminate) (only_flag l v.indeterminate)) (cond (c || y) (whole_range l n (kind_of m Char signed) w.labels w.indeterminate) (only_flag l w.indeterminate)) ≡ true
      split true x y e = whole_monotone (kind_of m Char signed) v.labels w.labels v.indeterminate w.indeterminate p.labels p.indeterminate
      split false true true e = whole_monotone (kind_of m Char signed) v.labels w.labels v.indeterminate w.indeterminate p.labels p.indeterminate
      split false true false e = absurd (let t : false ≡ true = e refl in cc)
      split false false true e = flag_below v.indeterminate (whole_range l n (kind_of m Char signed) w.labels w.indeterminate) p.indeterminate
      split false false false e = flag_monotone v.indeterminate w.indeterminate p.indeterminate

  pub labels_monotone : (class : Class) (s t : Labels) → labels_leq s t ≡ true → labels_leq (labels_of class s) (labels_of class t) ≡ true
  labels_monotone class s t h = same_way (is_pointer class)
    where
      same_way : (c : Bool) → labels_leq (cond c no_labels s) (cond c no_labels t) ≡ true
      same_way true = refl
      same_way false = h

  -- ---- what is read or written lies below the greatest value

  bounded_at : (x : I) (c d : ℤ) → ((a e : ℤ) → n.bounds x ≡ Some (a, e) → (c ≤ℤ a) × (e ≤ℤ d)) → (r : Range) → n.bounds x ≡ r → RangeBelow r (Some (c, d))
  bounded_at x c d h None e = tt
  bounded_at x c d h (Some p) e = h p.0 p.1 e

  fits_top : (x : I) (c d : ℤ) → negsuc (2 ^ 64 - 1) ≤ℤ c → d ≤ℤ pos (2 ^ 64) → ((a e : ℤ) → n.bounds x ≡ Some (a, e) → (c ≤ℤ a) × (e ≤ℤ d)) → l.leq x (top_number n) ≡ true
  fits_top x c d j k h = below_of_bounds o b x (negsuc (2 ^ 64 - 1)) (pos (2 ^ 64))
      (bounded_at x (negsuc (2 ^ 64 - 1)) (pos (2 ^ 64)) (λ a e q. let t = h a e q in (omega (arith, ints), omega (arith, ints))) (n.bounds x) refl)

  whole_num_top : (k : IntType) → HasNearEnds k → l.leq (between_or_least l n (least_of k) (greatest_of k)) (top_number n) ≡ true
  whole_num_top k h = cond_both (int_le (least_of k) (greatest_of k)) (n.between (least_of k) (greatest_of k)) l.least (λ x. l.leq x (top_number n) ≡ true)
      (λ e. b.below_between (n.between (least_of k) (greatest_of k)) (least_of k) (greatest_of k) (negsuc (2 ^ 64 - 1)) (pos (2 ^ 64)) (b.between_bounds (least_of k) (greatest_of k) (omega (arith, ints))) h.0 h.1)
      (λ e. o.least_below (top_number n))

  pub whole_top : (all : Bases) (m : Model) (c : Class) (signed : Bool) (s : Labels) (p : Bool) → (value_lattice l).leq (whole_range l n (kind_of m c signed) s p) (top_value n all) ≡ true
  whole_top all m c signed s p = value_below l (whole_range l n (kind_of m c signed) s p) (top_value n all) (record {
    num = whole_num_top (kind_of m c signed) (kind_ends m c signed);
    pointer = (pointer_order o).least_below (top_value n all).pointer;
    indeterminate = flag_top p;
    labels = labels_top s;
  })

  pub read_top : RangeLaws l n → (all : Bases) (m : Model) (class : Class) (from to : Bool) (v : Value I) → (value_lattice l).leq v (top_value n all) ≡ true → (value_lattice l).leq (as_read n m v class from to) (top_value n all) ≡ true
  read_top g all m class from to v h = cond_both (is_pointer class || same_sign from to) v (record v { num = n.convert v.num (kind_of m class to) }) (λ x. (value_lattice l).leq x (top_value n all) ≡ true)
      (λ e. h)
      (λ e. let p = value_parts l v (top_value n all) h in
      let k = kind_ends m class to in
      value_below l (record v { num = n.convert v.num (kind_of m class to) }) (top_value n all)
      (record { num = fits_top (n.convert v.num (kind_of m class to)) (least_of (kind_of m class to)) (greatest_of (kind_of m class to)) k.0 k.1 (λ a c q. g.convert_fits v.num (kind_of m class to) a c (size_is m class) q); pointer = p.pointer; indeterminate = p.indeterminate; labels = p.labels }))

  pub stored_in_top : RangeLaws l n → (all : Bases) (m : Model) (class : Class) (to : Bool) (v : Value I) → (value_lattice l).leq v (top_value n all) ≡ true → (value_lattice l).leq (as_stored n m v class to) (top_value n all) ≡ true
  stored_in_top g all m class to v h = cond_both (is_pointer class) v (record v { num = n.convert v.num (kind_of m class to) }) (λ x. (value_lattice l).leq x (top_value n all) ≡ true)
      (λ e. h)
      (λ e. let p = value_parts l v (top_value n all) h in
      let k = kind_ends m class to in
      value_below l (record v { num = n.convert v.num (kind_of m class to) }) (top_value n all)
      (record { num = fits_top (n.convert v.num (kind_of m class to)) (least_of (kind_of m class to)) (greatest_of (kind_of m class to)) k.0 k.1 (λ a c q. g.convert_fits v.num (kind_of m class to) a c (size_is m class) q); pointer = p.pointer; indeterminate = p.indeterminate; labels = p.labels }))

  -- ---- what is written byte by byte

  pub written_monotone : (m : Model) (class : Class) (signed : Bool) (s t : Labels) → labels_leq s t ≡ true → (value_lattice l).leq (byte_written l n m class signed s) (byte_written l n m class signed t) ≡ true
  written_monotone m class signed s t h = same_way (is_pointer class)
    where
      same_way : (c : Bool) → (value_lattice l).leq (cond c (labelled_null l s) (whole_range l n (kind_of m class signed) s false)) (cond c (labelled_null l t) (whole_range l n (kind_of m class signed) t false)) ≡ true
      same_way true = value_below l (labelled_null l s) (labelled_null l t) (record { num = o.reflexive l.least; pointer = (pointer_order o).reflexive (null_pointer l); indeterminate = refl; labels = h })
      same_way false = whole_monotone (kind_of m class signed) s t false false h refl

  pub written_top : (all : Bases) (m : Model) (class : Class) (signed : Bool) (s : Labels) → (value_lattice l).leq (byte_written l n m class signed s) (top_value n all) ≡ true
  written_top all m class signed s = cond_both (is_pointer class) (labelled_null l s) (whole_range l n (kind_of m class signed) s false) (λ x. (value_lattice l).leq x (top_value n all) ≡ true)
      (λ e. value_below l (labelled_null l s) (top_value n all) (record {
        num = o.least_below (top_number n);
        pointer = pointers_below l (null_pointer l) (top_value n all).pointer (record { bases = bases_order.least_below all; lo = o.least_below (top_number n); rel = o.least_below (top_number n); len = o.least_below (top_number n); part = refl; null = refl; ended = refl });
        indeterminate = refl;
        labels = labels_top s;
      }))
      (λ e. whole_top all m class signed s false)
