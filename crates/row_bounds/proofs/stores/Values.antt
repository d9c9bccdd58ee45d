-- Values from a floor on, and what is read, stored and made of them.
use Rattle.std.specs.Prelude.{◌≡◌, ◌==◌, ◌||◌, ℕ, zero, suc, ℤ, pos, Bool, true, false, cond, not, nat_lt, Option, Some, None, List, [], ◌∷◌, refl}
use Rattle.std.proofs.Common.{arith}
use Rattle.std.proofs.lemmas.Int.{ints}
use Rattle.std.proofs.lemmas.Bool.{cond_both}
use Rattle.cc_base.specs.Lattices.{LatticeOf}
use Rattle.cc_base.specs.IntegerTypes.{is_size}
use Rattle.cc_base.specs.IntegerDomains.{IntegersOf}
use Rattle.cc_base.specs.declared.int_types.IntType.{IntType}
use Rattle.c_layout.specs.declared.data_model.Model.{Model}
use Rattle.c_layout.specs.declared.leaf_lists.Class.{Class}
use Rattle.c_layout.specs.declared.leaf_lists.Class.TheVariants.{Char, Short, Int, Long, LongLong, Pointer}
use Rattle.pointer_domain.specs.declared.pointer_sets.Pointers.{Pointers}
use Rattle.pointer_domain.specs.BaseSets.{bases_has, bases_without, bases_empty}
use Rattle.pointer_domain.specs.PointerLattice.{no_pointer, pointer_lattice}
use Rattle.pointer_domain.specs.PointerTables.{if_any_base}
use Rattle.value_domain.specs.declared.values.label_sets.Labels.{Labels}
use Rattle.value_domain.specs.declared.values.values.Value as values
use Rattle.value_domain.specs.declared.values.row_cells.Cell.{Cell}
use Rattle.value_domain.specs.declared.values.row_cells.Cell.TheVariants.{Nothing, Value, First, State, Mixed}
use Rattle.value_domain.specs.Values.LabelSets.{no_labels}
use Rattle.value_domain.specs.Values.Values.{value_lattice}
use Rattle.value_domain.specs.Values.ValueTables.{blank_value, number_value, pointer_value}
use Rattle.store_cells.specs.ByteWrites.{null_pointer, labelled_null, byte_written}
use Rattle.store_cells.specs.CellReads.{same_sign, joined, whole_range, as_read, as_stored, only_flag, byte_read}
use Rattle.store_cells.specs.ClassNumbers.{is_pointer}
use Rattle.store.specs.Loads.{joined_if}
use Rattle.store_objects.specs.LiveBases.{most_bases}
use Rattle.store_cells.specs.NearValues.{near_pointer, near_value}
use Rattle.store_objects.specs.ObjectLives.{zero_value, ended_pointer, ended_cell}
use Rattle.store_cells.specs.RowPositions.{cell_at, value_in, value_at}
use Rattle.store_cells.specs.ScalarTypes.{class_bytes, kind_of}
use Rattle.row_bounds.specs.Stores.Floors.{IsFrom, IsPointerFrom, IsValueFrom, IsReadFrom, IsCellFrom, AreFrom}
use Rattle.row_bounds.proofs.stores.Ranges.{FloorLaws, least_from, join_from, near_from, convert_from, whole_from, low_from}

-- the scalars of a model have sizes of types
pub class_size : (m : Model) (class : Class) → is_size (class_bytes m class) ≡ true
class_size m Char = refl
class_size m Short = refl
class_size m Int = cond_both (m.int == 2) 2 4 (λ b. is_size b ≡ true) (λ e. refl) (λ e. refl)
class_size m Long = cond_both (m.long == 4) 4 8 (λ b. is_size b ≡ true) (λ e. refl) (λ e. refl)
class_size m LongLong = refl
class_size m Pointer = cond_both (m.pointer == 4) 4 8 (λ b. is_size b ≡ true) (λ e. refl) (λ e. refl)

module _ {I : Type 0} {l : LatticeOf I} {n : IntegersOf I} {stands : I → ℤ → Type 0} {floor : ℤ} (k : FloorLaws l n stands floor) where
  abbrev PointerFrom : Pointers I → Type 0
  PointerFrom p = IsPointerFrom n floor p

  abbrev ValueFrom : values.Value I → Type 0
  ValueFrom v = IsValueFrom n floor v

  -- ---- pointers

  pub no_pointer_from : IsPointerFrom n floor (no_pointer l)
  no_pointer_from = (least_from k (pos 0), least_from k floor, least_from k (pos 0))

  pub pointers_join_from : (p q : Pointers I) → IsPointerFrom n floor p → IsPointerFrom n floor q → IsPointerFrom n floor ((pointer_lattice l).join p q)
  pointers_join_from p q h j = (join_from k (pos 0) p.lo q.lo h.0 j.0, join_from k floor p.rel q.rel h.1 j.1, join_from k (pos 0) p.len q.len h.2 j.2)

  pub near_pointer_from : (p : Pointers I) → IsPointerFrom n floor p → IsPointerFrom n floor (near_pointer l n p)
  near_pointer_from p h = (near_from k (pos 0) p.lo h.0, near_from k floor p.rel h.1, near_from k (pos 0) p.len h.2)

  ended_from : (number : ℕ) (p : Pointers I) → IsPointerFrom n floor p → IsPointerFrom n floor (ended_pointer l number p)
  ended_from number p h = cond_both (nat_lt number most_bases) (cond (bases_has p.bases number) (if_any_base l (record p { bases = bases_without p.bases number; ended = true })) p) p PointerFrom
      (λ e. cond_both (bases_has p.bases number) (if_any_base l (record p { bases = bases_without p.bases number; ended = true })) p PointerFrom
      (λ f. cond_both (bases_empty (bases_without p.bases number)) (record (no_pointer l) { null = p.null; ended = true }) (record p { bases = bases_without p.bases number; ended = true }) PointerFrom (λ g. no_pointer_from) (λ g. h))
      (λ f. h))
      (λ e. h)

  -- ---- values

  pub least_value_from : IsValueFrom n floor ((value_lattice l).least)
  least_value_from = (least_from k floor, no_pointer_from)

  pub join_value_from : (v w : values.Value I) → IsValueFrom n floor v → IsValueFrom n floor w → IsValueFrom n floor ((value_lattice l).join v w)
  join_value_from v w h j = (join_from k floor v.num w.num h.0 j.0, pointers_join_from v.pointer w.pointer h.1 j.1)

  pub near_value_from : (v : values.Value I) → IsValueFrom n floor v → IsValueFrom n floor (near_value l n v)
  near_value_from v h = (near_from k floor v.num h.0, near_pointer_from v.pointer h.1)

  -- whatever the labels
  pub number_from : (x : I) → IsFrom floor (n.bounds x) → IsValueFrom n floor (number_value l x no_labels)
  number_from x h = (h, no_pointer_from)

  pub pointer_from : (p : Pointers I) → IsPointerFrom n floor p → IsValueFrom n floor (pointer_value l p)
  pointer_from p h = (least_from k floor, h)

  pub whole_range_from : (kind : IntType) (labels : Labels) (blank : Bool) → is_size kind.bytes ≡ true → IsValueFrom n floor (whole_range l n kind labels blank)
  whole_range_from kind labels blank s = (whole_from k kind s, no_pointer_from)

  pub whole_class_from : (m : Model) (class : Class) (signed : Bool) (labels : Labels) (blank : Bool) → IsValueFrom n floor (whole_range l n (kind_of m class signed) labels blank)
  whole_class_from m class signed labels blank = whole_range_from (kind_of m class signed) labels blank (class_size m class)

  converted_from : (m : Model) (class : Class) (to : Bool) (v : values.Value I) → IsValueFrom n floor v → IsValueFrom n floor (record v { num = n.convert v.num (kind_of m class to) })
  converted_from m class to v h = (convert_from k v.num (kind_of m class to) (class_size m class), h.1)

  pub read_from : (m : Model) (v : values.Value I) (class : Class) (from to : Bool) → IsValueFrom n floor v → IsValueFrom n floor (as_read n m v class from to)
  read_from m v class from to h = cond_both (is_pointer class || same_sign from to) v (record v { num = n.convert v.num (kind_of m class to) }) ValueFrom (λ e. h) (λ e. converted_from m class to v h)

  pub stored_from : (m : Model) (v : values.Value I) (class : Class) (to : Bool) → IsValueFrom n floor v → IsValueFrom n floor (as_stored n m v class to)
  stored_from m v class to h = cond_both (is_pointer class) v (record v { num = n.convert v.num (kind_of m class to) }) ValueFrom (λ e. h) (λ e. converted_from m class to v h)

  pub byte_read_from : (m : Model) (v : values.Value I) (class : Class) (signed : Bool) → IsValueFrom n floor (byte_read l n m v class signed)
  byte_read_from m v class signed = cond_both (not (is_pointer class) || v.pointer.null) (whole_range l n (kind_of m Char signed) v.labels v.indeterminate) (only_flag l v.indeterminate) ValueFrom
      (λ e. whole_class_from m Char signed v.labels v.indeterminate)
      (λ e. cond_both v.indeterminate (blank_value l) ((value_lattice l).least) ValueFrom (λ f. least_value_from) (λ f. least_value_from))

  pub byte_written_from : (m : Model) (class : Class) (signed : Bool) (labels : Labels) → IsValueFrom n floor (byte_written l n m class signed labels)
  byte_written_from m class signed labels = cond_both (is_pointer class) (labelled_null l labels) (whole_range l n (kind_of m class signed) labels false) ValueFrom (λ e. least_value_from) (λ e. whole_class_from m class signed labels false)

  pub zero_from : IsFrom floor (n.bounds (n.one (pos 0)))
  zero_from = low_from k (pos 0) (omega (arith, ints))

  pub zero_value_from : (class : Class) → IsValueFrom n floor (zero_value l n class)
  zero_value_from class = cond_both (is_pointer class) (pointer_value l (null_pointer l)) (number_value l (n.one (pos 0)) _) ValueFrom (λ e. least_value_from) (λ e. (zero_from, no_pointer_from))

  -- ---- what is read of several places

  pub joined_from : (x y : Option (values.Value I)) → IsReadFrom n floor x → IsReadFrom n floor y → IsReadFrom n floor (joined l x y)
  joined_from None y h j = j
  joined_from (Some v) None h j = h
  joined_from (Some v) (Some w) h j = join_value_from v w h j

  pub joined_if_from : (wanted : Bool) (x : Option (values.Value I)) (v : values.Value I) → IsReadFrom n floor x → IsValueFrom n floor v → IsReadFrom n floor (joined_if l wanted x v)
  joined_if_from true x v h j = joined_from x (Some v) h j
  joined_if_from false x v h j = h

  -- ---- cells

  in_from : (c : Cell I) → IsCellFrom n floor c → IsValueFrom n floor (value_in l c)
  in_from Nothing h = least_value_from
  in_from (Value v) h = h
  in_from (First f) h = least_value_from
  in_from (State s) h = least_value_from
  in_from Mixed h = least_value_from

  cell_from : (row : List (Cell I)) (i : ℕ) → AreFrom n floor row → IsCellFrom n floor (cell_at row i)
  cell_from [] i h = tt
  cell_from (c ∷ cs) zero h = h.0
  cell_from (c ∷ cs) (suc i) h = cell_from cs i h.1

  -- what stands at a position of a row
  pub at_from : (row : List (Cell I)) (i : ℕ) → AreFrom n floor row → IsValueFrom n floor (value_at l n row i)
  unfolding value_at
  at_from row i h = near_value_from (value_in l (cell_at row i)) (in_from (cell_at row i) (cell_from row i h))

  pub ended_cell_from : (number : ℕ) (c : Cell I) → IsCellFrom n floor c → IsCellFrom n floor (ended_cell l number c)
  ended_cell_from number Nothing h = tt
  ended_cell_from number (Value v) h = (h.0, ended_from number v.pointer h.1)
  ended_cell_from number (First f) h = tt
  ended_cell_from number (State s) h = tt
  ended_cell_from number Mixed h = tt
