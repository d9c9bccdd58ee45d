-- What is known of bytes that are read stands for each of them, and grows with further cells.
use Rattle.std.proofs.Common.{◌≡◌, ℕ, Bool, true, false, cond, not, ◌||◌, Some, None, refl, ap}
use Rattle.std.specs.Prelude.{ℤ}
use Rattle.std.proofs.lemmas.Bool.{or_left, or_right}
use Rattle.std.proofs.lemmas.Option.{same_Some}
use Rattle.cc_base.specs.Lattices.{LatticeOf, OrderLaws}
use Rattle.cc_base.specs.IntegerDomains.{IntegersOf, BoundLaws}
use Rattle.c_layout.specs.declared.leaf_lists.Class.{Class}
use Rattle.c_layout.specs.declared.leaf_lists.Class.TheVariants.{Pointer}
use Rattle.pointer_domain.specs.PointerLattice.{pointer_lattice, pointer_order}
use Rattle.pointer_domain.specs.declared.pointer_sets.Pointers.{Pointers}
use Rattle.value_domain.specs.Values.LabelSets.{labels_leq, labels_order}
use Rattle.value_domain.specs.Values.ValueTables.{pointer_value}
use Rattle.value_domain.specs.declared.values.values.Value.{Value}
use Rattle.store_cells.specs.ClassNumbers.{is_pointer}
use Rattle.transfer_library_writes.specs.CopyWrites.{no_bytes, with_cell, with_padding}
use Rattle.transfer_library_writes.specs.declared.copied_bytes.CopiedBytes.{CopiedBytes}
use Rattle.memory_model.specs.Memory.Bytes.{Content, indeterminate, number, part, Tag}
use Rattle.memory_model.specs.Memory.Instances.{Memory}
use Rattle.memory_model.specs.Memory.Tags.{tag_of}
use Rattle.store_sound.specs.Concretization.SeenLabels.{as_set}
use Rattle.store_sound.specs.Concretization.SoundMemory.{IsContentIn}
use Rattle.store_sound.specs.Concretization.ValueMeaning.{Naming, InGammaPointer, InGammaContent}
use Rattle.store_sound.proofs.operations.Larger.{pointer_below, pointer_larger}
use Rattle.store_sound.proofs.operations.Frames.{IsAlike, pointer_moves}
use Rattle.store_sound.proofs.operations.Near.{IsNearValue, join_near, near_number_none}

-- ---- which cells own parts of pointers

-- a part of a pointer is a byte of a pointer alone
abbrev pub IsOwnPart : Class → Content → Type 0
IsOwnPart class indeterminate = Unit {0}
IsOwnPart class (number k labels) = Unit {0}
IsOwnPart class (part p k) = is_pointer class ≡ true

pointer_class : (t : Tag) (k : ℕ) → Some t ≡ tag_of Pointer k → is_pointer t.class ≡ true
pointer_class t k e = ap (λ z. is_pointer z.class) (same_Some t (record { class = Pointer; at = k }) e)

pub tagged_part : (memory : Memory) (c : Content) (t : Tag) → IsContentIn memory c (Some t) → IsOwnPart t.class c
tagged_part memory indeterminate t h = tt
tagged_part memory (number k labels) t h = tt
tagged_part memory (part p k) t h = pointer_class t k h.1

-- a byte without tag is no part of a pointer
pub untagged_part : (memory : Memory) (c : Content) (class : Class) → IsContentIn memory c None → IsOwnPart class c
untagged_part memory indeterminate class h = tt
untagged_part memory (number k labels) class h = tt
untagged_part memory (part p k) class h = let e = h.1 in cc

-- ---- what stands for a byte

module _ {I : Type 0} (gamma : I → ℤ → Type 0) (naming : Naming) (memory : Memory) where
  abbrev pub IsRead : CopiedBytes I → Content → Type 0
  IsRead found indeterminate = found.indeterminate ≡ true
  IsRead found (number k labels) = (labels_leq (as_set labels) found.labels ≡ true) × ((found.numbers || found.pointers.null) ≡ true)
  IsRead found (part p k) = InGammaPointer gamma naming memory found.pointers p

  pub if_read : (b : Bool) (x y : CopiedBytes I) (c : Content) → IsRead x c → IsRead y c → IsRead (cond b x y) c
  if_read true x y c h k = h
  if_read false x y c h k = k

  pub is_read : (b : Bool) (x y : CopiedBytes I) (c : Content) → b ≡ true → IsRead x c → IsRead (cond b x y) c
  is_read true x y c e h = h
  is_read false x y c e h = cc

pub read_moves : {I : Type 0} {old new : Memory} (s : IsAlike old new) (gamma : I → ℤ → Type 0) (naming : Naming) (found : CopiedBytes I) (c : Content) → IsRead gamma naming old found c → IsRead gamma naming new found c
read_moves s gamma naming found indeterminate h = h
read_moves s gamma naming found (number k labels) h = h
read_moves s gamma naming found (part p k) h = pointer_moves s gamma naming found.pointers p h

module _ {I : Type 0} {l : LatticeOf I} {n : IntegersOf I} {gamma : I → ℤ → Type 0} (o : OrderLaws l) (q : BoundLaws l n gamma) (naming : Naming) (memory : Memory) where
  null_or : (p : Bool) (a : Bool) (f v : Pointers I) → (a || f.null) ≡ true → ((a || not p) || (cond p ((pointer_lattice l).join f v) f).null) ≡ true
  null_or true true f v h = refl
  null_or false true f v h = refl
  null_or true false f v h = or_left f.null v.null h
  null_or false false f v h = refl

  larger_or : (p : Bool) (f v : Pointers I) (m : _) → InGammaPointer gamma naming memory f m → InGammaPointer gamma naming memory (cond p ((pointer_lattice l).join f v) f) m
  larger_or true f v m h = pointer_larger q naming memory f _ m (pointer_below l f _ ((pointer_order o).join_left f v)) h
  larger_or false f v m h = h

  -- further cells leave what is known
  pub cell_keeps : (found : CopiedBytes I) (v : Value I) (class : Class) (c : Content) → IsRead gamma naming memory found c → IsRead gamma naming memory (with_cell l found v class) c
  cell_keeps found v class indeterminate h = or_left found.indeterminate v.indeterminate h
  cell_keeps found v class (number k labels) h = (labels_order.transitive (as_set labels) found.labels _ h.0 (labels_order.join_left found.labels v.labels), null_or (is_pointer class) found.numbers found.pointers v.pointer h.1)
  cell_keeps found v class (part p k) h = larger_or (is_pointer class) found.pointers v.pointer p h

  null_of : (p : Bool) (a : Bool) (f v : Pointers I) → (p ≡ true → v.null ≡ true) → ((a || not p) || (cond p ((pointer_lattice l).join f v) f).null) ≡ true
  null_of true a f v h = or_right (a || false) (f.null || v.null) (or_right f.null v.null (h refl))
  null_of false a f v h = or_left (a || true) f.null (or_right a true refl)

  larger_of : (p : Bool) (f v : Pointers I) (m : _) → p ≡ true → InGammaPointer gamma naming memory v m → InGammaPointer gamma naming memory (cond p ((pointer_lattice l).join f v) f) m
  larger_of true f v m e h = pointer_larger q naming memory v _ m (pointer_below l v _ ((pointer_order o).join_right f v)) h
  larger_of false f v m e h = cc

  -- what a cell stands for is known with it
  pub cell_shows : (found : CopiedBytes I) (v : Value I) (class : Class) (c : Content) → IsOwnPart class c → InGammaContent gamma naming memory v class c → IsRead gamma naming memory (with_cell l found v class) c
  cell_shows found v class indeterminate own h = or_right found.indeterminate v.indeterminate h
  cell_shows found v class (number k labels) own h = (labels_order.transitive (as_set labels) v.labels _ h.0 (labels_order.join_right found.labels v.labels), null_of (is_pointer class) found.numbers found.pointers v.pointer h.1)
  cell_shows found v class (part p k) own h = larger_of (is_pointer class) found.pointers v.pointer p own h

-- ---- bounds

module _ {I : Type 0} {l : LatticeOf I} {n : IntegersOf I} {gamma : I → ℤ → Type 0} (o : OrderLaws l) (q : BoundLaws l n gamma) where
  abbrev pub IsNearRead : CopiedBytes I → Type 0
  IsNearRead found = IsNearValue l n (pointer_value l found.pointers)

  pub if_near : (b : Bool) (x y : CopiedBytes I) → IsNearRead x → IsNearRead y → IsNearRead (cond b x y)
  if_near true x y h k = h
  if_near false x y h k = k

  pub none_near : IsNearRead (no_bytes l)
  none_near = let none = near_number_none o q l.least q.least_bounds in record { num = none; lo = none; rel = none; len = none }

  pub cell_near : (found : CopiedBytes I) (v : Value I) (class : Class) → IsNearRead found → IsNearValue l n v → IsNearRead (with_cell l found v class)
  cell_near found v class h k = by_class (is_pointer class)
    where
      by_class : (p : Bool) → IsNearValue l n (pointer_value l (cond p ((pointer_lattice l).join found.pointers v.pointer) found.pointers))
      by_class true = let r = join_near o q (pointer_value l found.pointers) v h k in record { num = h.num; lo = r.lo; rel = r.rel; len = r.len }
      by_class false = h

  pub padding_near : (found : CopiedBytes I) (met : Bool) → IsNearRead found → IsNearRead (with_padding found met)
  padding_near found true h = h
  padding_near found false h = h
