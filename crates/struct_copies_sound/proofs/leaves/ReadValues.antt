-- What cells give of numbers and of bytes where they are read, and where what was read is stored.
use Rattle.std.proofs.Common.{◌≡◌, ℕ, ◌<◌, Bool, true, false, cond, not, ◌||◌, Option, Some, None, List, length, arith, subst, sym, refl, inl, inr}
use Rattle.std.specs.Prelude.{slice_get, ℤ}
use Rattle.std.proofs.lemmas.Bool.{cases_Bool, true≢false}
use Rattle.cc_base.specs.Lattices.{LatticeOf, OrderLaws}
use Rattle.cc_base.specs.IntegerDomains.{IntegersOf, BoundLaws, RangeLaws}
use Rattle.cc_base.specs.IntegerLaws.{SoundLaws}
use Rattle.cc_base.specs.IntegerTypes.{is_size}
use Rattle.cc_base.specs.NumberRanges.{Range}
use Rattle.cc_base.specs.declared.int_types.IntType.{IntType}
use Rattle.c_layout.specs.declared.data_model.Model.{Model}
use Rattle.c_layout.specs.declared.leaf_lists.Class.{Class}
use Rattle.c_layout.specs.declared.leaf_lists.Class.TheVariants.{Char}
use Rattle.value_domain.specs.Values.LabelSets.{all_labels, labels_leq}
use Rattle.value_domain.specs.declared.values.label_sets.Labels as sets
use Rattle.value_domain.specs.declared.values.values.Value.{Value}
use Rattle.store_cells.specs.ByteWrites.{byte_written}
use Rattle.store_cells.specs.CellReads.{joined_with, joined, whole_range, as_read, as_stored, byte_read, only_flag, same_sign}
use Rattle.store_cells.specs.ClassNumbers.{is_pointer}
use Rattle.store.specs.Loads.{joined_if}
use Rattle.store_cells.specs.NearValues.{near_number}
use Rattle.store_cells.specs.ScalarTypes.{kind_of}
use Rattle.memory_model.specs.Memory.ScalarSizes.{class_bytes}
use Rattle.memory_model.specs.Memory.Bytes.{Content, indeterminate, number, part}
use Rattle.memory_model.specs.Memory.Instances.{Memory}
use Rattle.memory_model.specs.Memory.Labels.{Labels}
use Rattle.memory_model.specs.Memory.Numbers.{Labelled, number_of}
use Rattle.store_sound.specs.Concretization.SeenLabels.{as_set}
use Rattle.store_sound.specs.Concretization.ValueMeaning.{Naming, InGammaContent}
use Rattle.store_sound.proofs.operations.Classes.{class_above, class_size}
use Rattle.store_sound.proofs.operations.FreshValues.{type_near}
use Rattle.store_sound.proofs.operations.Near.{IsNearValue, join_near, near_number_from, near_number_none}
use Rattle.store_sound.proofs.operations.Rereading.{reread}
use Rattle.store_sound.proofs.operations.Texts.{byte_flag}
use Rattle.store_sound.proofs.chars.ByteValues.{written_near}

-- no part of a pointer
abbrev pub IsNoPart : Content → Type 0
IsNoPart (part p k) = ⊥
IsNoPart c = Unit {0}

-- numbers of bytes
abbrev pub AreBytes : List Labelled → Type 0
AreBytes ns = (k : ℕ) (y : Labelled) → slice_get ns k ≡ Some y → y.number < 256

same_signs : (s t : Bool) → same_sign s t ≡ true → s ≡ t
same_signs true true h = refl
same_signs true false h = cc
same_signs false true h = cc
same_signs false false h = refl

not_or : (p q : Bool) → (p ≡ true → q ≡ true) → (not p || q) ≡ true
not_or true q h = h refl
not_or false q h = refl

all_above : (labels : Labels) → labels_leq (as_set labels) all_labels ≡ true
all_above labels = grind arith

module _ {I : Type 0} {l : LatticeOf I} {n : IntegersOf I} {gamma : I → ℤ → Type 0} (c : SoundLaws l n gamma) (m : Model) (class : Class) (ns : List Labelled) (size : length ns ≡ class_bytes m class) (bytes : AreBytes ns) where
  converted : (s t : Bool) (x : I) → gamma x (number_of s ns) → gamma (n.convert x (kind_of m class t)) (number_of t ns)
  converted s t x h =
      let a = class_above m class in
      subst (gamma (n.convert x (kind_of m class t))) (reread s t ns (kind_of m class t) refl (sym size) (omega (arith, a, size)) bytes)
      (c.convert_stands (kind_of m class t) x (number_of s ns) (class_size m class) h)

  pub number_read : (s t : Bool) (v : Value I) → is_pointer class ≡ false → gamma v.num (number_of s ns) → gamma (as_read n m v class s t).num (number_of t ns)
  number_read s t v p h = elim (cases_Bool (same_sign s t)) [
    | inl e ↦ rw (p, e) (subst (λ u. gamma v.num (number_of u ns)) (same_signs s t e) h)
    | inr e ↦ rw (p, e) (converted s t v.num h)
  ]

  pub number_stored : (s t : Bool) (v : Value I) → is_pointer class ≡ false → gamma v.num (number_of s ns) → gamma (as_stored n m v class t).num (number_of t ns)
  number_stored s t v p h = rw p (converted s t v.num h)

module _ {I : Type 0} (gamma : I → ℤ → Type 0) (naming : Naming) (memory : Memory) where
  -- another number leaves what is known of bytes
  with_number : (v : Value I) (x : I) (d : Class) (c : Content) → InGammaContent gamma naming memory v d c → InGammaContent gamma naming memory (record v { num = x }) d c
  with_number v x d indeterminate h = h
  with_number v x d (number k labels) h = h
  with_number v x d (part p k) h = h

  pub content_read : (n : IntegersOf I) (m : Model) (v : Value I) (d class : Class) (s t : Bool) (c : Content) → InGammaContent gamma naming memory v d c → InGammaContent gamma naming memory (as_read n m v class s t) d c
  content_read n m v d class s t c h = by_test (is_pointer class || same_sign s t)
    where
      by_test : (b : Bool) → InGammaContent gamma naming memory (cond b v (record v { num = n.convert v.num (kind_of m class t) })) d c
      by_test true = h
      by_test false = with_number v (n.convert v.num (kind_of m class t)) d c h

  pub content_stored : (n : IntegersOf I) (m : Model) (v : Value I) (d class : Class) (t : Bool) (c : Content) → InGammaContent gamma naming memory v d c → InGammaContent gamma naming memory (as_stored n m v class t) d c
  content_stored n m v d class t c h = by_test (is_pointer class)
    where
      by_test : (b : Bool) → InGammaContent gamma naming memory (cond b v (record v { num = n.convert v.num (kind_of m class t) })) d c
      by_test true = h
      by_test false = with_number v (n.convert v.num (kind_of m class t)) d c h

  -- a character of a cell of another class
  pub content_byte : (l : LatticeOf I) (n : IntegersOf I) (m : Model) (v : Value I) (d : Class) (t : Bool) (c : Content) → IsNoPart c → InGammaContent gamma naming memory v d c → InGammaContent gamma naming memory (byte_read l n m v d t) Char c
  content_byte l n m v d t indeterminate none h = byte_flag l n m v d t h
  content_byte l n m v d t (number k labels) none h = let e : (not (is_pointer d) || v.pointer.null) ≡ true = not_or (is_pointer d) v.pointer.null h.1 in rw e (h.0, λ (f : false ≡ true). absurd (true≢false (sym f)))
  content_byte l n m v d t (part p k) none h = absurd none

  -- a byte of no leaf
  pub content_padding : (l : LatticeOf I) (n : IntegersOf I) (m : Model) (t : Bool) (c : Content) → IsNoPart c → InGammaContent gamma naming memory (whole_range l n (kind_of m Char t) all_labels true) Char c
  content_padding l n m t indeterminate none = refl
  content_padding l n m t (number k labels) none = (all_above labels, λ (f : false ≡ true). absurd (true≢false (sym f)))
  content_padding l n m t (part p k) none = absurd none

-- ---- bounds

module _ {I : Type 0} {l : LatticeOf I} {n : IntegersOf I} {gamma : I → ℤ → Type 0} (o : OrderLaws l) (q : BoundLaws l n gamma) where
  abbrev pub Near : Value I → Type 0
  Near v = IsNearValue l n v

  -- what is found, if anything, is near
  abbrev pub NearFound : Option (Value I) → Type 0
  NearFound None = Unit {0}
  NearFound (Some v) = Near v

  with_near : (x : Value I) (b : Option (Value I)) → Near x → NearFound b → Near (joined_with l x b)
  with_near x None h k = h
  with_near x (Some y) h k = join_near o q x y h k

  pub joined_near : (a b : Option (Value I)) → NearFound a → NearFound b → NearFound (joined l a b)
  joined_near None b h k = k
  joined_near (Some x) b h k = with_near x b h k

  pub if_near : (wanted : Bool) (found : Option (Value I)) (v : Value I) → NearFound found → Near v → NearFound (joined_if l wanted found v)
  if_near true found v h k = joined_near found (Some v) h k
  if_near false found v h k = h

  none : near_number l n l.least ≡ l.least
  none = near_number_none o q l.least q.least_bounds

  module _ (r : RangeLaws l n) (m : Model) where
    convert_near : (x : I) (k : IntType) (b : Range) → is_size k.bytes ≡ true → n.bounds (n.convert x k) ≡ b → near_number l n (n.convert x k) ≡ n.convert x k
    convert_near x k None h e = near_number_none o q (n.convert x k) e
    convert_near x k (Some p) h e = let f = r.convert_fits x k p.0 p.1 h e in let g = type_near k p.0 p.1 h f.0 f.1 in near_number_from o q (n.convert x k) p.0 p.1 e g.0 g.1

    pub read_near : (v : Value I) (class : Class) (s t : Bool) → Near v → Near (as_read n m v class s t)
    read_near v class s t h = by_test (is_pointer class || same_sign s t)
      where
        by_test : (b : Bool) → Near (cond b v (record v { num = n.convert v.num (kind_of m class t) }))
        by_test true = h
        by_test false = record { num = convert_near v.num (kind_of m class t) _ (class_size m class) refl; lo = h.lo; rel = h.rel; len = h.len }

    pub stored_near : (v : Value I) (class : Class) (t : Bool) → Near v → Near (as_stored n m v class t)
    stored_near v class t h = by_test (is_pointer class)
      where
        by_test : (b : Bool) → Near (cond b v (record v { num = n.convert v.num (kind_of m class t) }))
        by_test true = h
        by_test false = record { num = convert_near v.num (kind_of m class t) _ (class_size m class) refl; lo = h.lo; rel = h.rel; len = h.len }

    pub range_near : (t : Bool) (labels : sets.Labels) (blank : Bool) → Near (whole_range l n (kind_of m Char t) labels blank)
    range_near t labels blank = let w : Near (byte_written l n m Char t labels) = written_near o q m Char t labels in record { num = w.num; lo = w.lo; rel = w.rel; len = w.len }

    flag_near : (blank : Bool) → Near (only_flag l blank)
    flag_near true = record { num = none; lo = none; rel = none; len = none }
    flag_near false = record { num = none; lo = none; rel = none; len = none }

    pub byte_near : (v : Value I) (d : Class) (t : Bool) → Near (byte_read l n m v d t)
    byte_near v d t = by_test (not (is_pointer d) || v.pointer.null)
      where
        by_test : (b : Bool) → Near (cond b (whole_range l n (kind_of m Char t) v.labels v.indeterminate) (only_flag l v.indeterminate))
        by_test true = range_near t v.labels v.indeterminate
        by_test false = flag_near v.indeterminate
