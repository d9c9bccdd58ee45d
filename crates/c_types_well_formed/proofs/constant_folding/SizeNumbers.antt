-- The sizes of complete types are numbers of the type of sizes.
use Rattle.std.proofs.Common.{◌≡◌, ◌⊎◌, inl, inr, ℕ, ◌*◌, ◌^◌, ◌≤◌, ◌==◌, pos, Bool, true, false, ◌&&◌, ◌||◌, cond, nat_le, nat_lt, Option, Some, None, List, length, refl, sym, subst, arith}
use Rattle.std.specs.Option.{option_and_then}
use Rattle.std.proofs.lemmas.Bool.{eqb-true, eq-eqb, leb-true, both_ways}
use Rattle.std.proofs.lemmas.Int.{ints}
use Rattle.cc_base.specs.IntegerTypes.{in_type}
use Rattle.c_layout.specs.Layout.{most_bytes}
use Rattle.c_layout.specs.Models.{is_model, short_fits, int_fits, long_fits, long_long_fits, pointer_fits}
use Rattle.c_layout.specs.StructViews.{StructView, struct_at}
use Rattle.c_layout.specs.Types.{Ty, Int, Pointer, Array, Struct, Void}
use Rattle.c_layout.specs.declared.data_model.Model.{Model}
use Rattle.c_types_rules.specs.Rules.IntegerKinds.{bytes_of, number_of, kind_of, size_rank}
use Rattle.c_types_rules.specs.Rules.TypeSizes.{array_size, sized}
use Rattle.c_types_rules.specs.declared.rules.integer_kinds.Rank.TheVariants as rank
use Rattle.source_preservation.proofs.checks.Truths.{no_some, some_is, both_true, either_true}

-- ---- pointers

pub record PointerSize (m : Model) : Type 0 where
  pub pointer : (m.pointer ≡ 4) ⊎ (m.pointer ≡ 8)
  pub size : bytes_of m (size_rank m) ≡ m.pointer

pub one_of_two : (n a b : ℕ) → (n == a || n == b) ≡ true → (n ≡ a) ⊎ (n ≡ b)
one_of_two n a b h = by (either_true (n == a) (n == b) h)
  where
    by : ((n == a) ≡ true) ⊎ ((n == b) ≡ true) → (n ≡ a) ⊎ (n ≡ b)
    by (inl e) = inl (eqb-true n a e)
    by (inr e) = inr (eqb-true n b e)

-- an integer type as large as a pointer
size_bytes : (m : Model) (b c : Bool) → (m.long == m.pointer) ≡ b → (m.int == m.pointer) ≡ c → ((m.pointer == m.int || m.pointer == m.long) || m.pointer == m.long_long) ≡ true → bytes_of m (cond b rank.Long (cond c rank.Int rank.LongLong)) ≡ m.pointer
size_bytes m true c is other h = eqb-true m.long m.pointer is
size_bytes m false true is other h = eqb-true m.int m.pointer other
size_bytes m false false is other h = by (either_true (m.pointer == m.int || m.pointer == m.long) (m.pointer == m.long_long) h)
  where
    early : (m.pointer ≡ m.int) ⊎ (m.pointer ≡ m.long) → m.long_long ≡ m.pointer
    early (inl e) = absurd (both_ways (m.int == m.pointer) other (eq-eqb m.int m.pointer (sym e)))
    early (inr e) = absurd (both_ways (m.long == m.pointer) is (eq-eqb m.long m.pointer (sym e)))

    by : ((m.pointer == m.int || m.pointer == m.long) ≡ true) ⊎ ((m.pointer == m.long_long) ≡ true) → m.long_long ≡ m.pointer
    by (inl e) = early (one_of_two m.pointer m.int m.long e)
    by (inr e) = sym (eqb-true m.pointer m.long_long e)

pub pointer_size : (m : Model) → is_model m ≡ true → PointerSize m
pointer_size m h =
    let a = both_true (short_fits m.short) (int_fits m.int && (long_fits m.long && (long_long_fits m.long_long && pointer_fits m.int m.long m.long_long m.pointer))) h in
    let b = both_true (int_fits m.int) (long_fits m.long && (long_long_fits m.long_long && pointer_fits m.int m.long m.long_long m.pointer)) a.1 in
    let c = both_true (long_fits m.long) (long_long_fits m.long_long && pointer_fits m.int m.long m.long_long m.pointer) b.1 in
    let d = both_true (long_long_fits m.long_long) (pointer_fits m.int m.long m.long_long m.pointer) c.1 in
    let e = both_true (m.pointer == 4 || m.pointer == 8) ((m.pointer == m.int || m.pointer == m.long) || m.pointer == m.long_long) d.1 in
    record { pointer = one_of_two m.pointer 4 8 e.0; size = size_bytes m (m.long == m.pointer) (m.int == m.pointer) refl refl e.1 }

-- of a size that an index has
fits_unsigned : (n p r : ℕ) → (p ≡ 4) ⊎ (p ≡ 8) → n ≤ 2 ^ 30 → in_type (record { bytes = p; signed = false; rank = r }) (pos n) ≡ true
fits_unsigned n p r (inl e) h = rw e (fits4 n h)
  where
    fits4 : (n : ℕ) → n ≤ 2 ^ 30 → in_type (record { bytes = 4; signed = false; rank = r }) (pos n) ≡ true
    fits4 n h = grind (arith, ints)
fits_unsigned n p r (inr e) h = rw e (fits8 n h)
  where
    fits8 : (n : ℕ) → n ≤ 2 ^ 30 → in_type (record { bytes = 8; signed = false; rank = r }) (pos n) ≡ true
    fits8 n h = grind (arith, ints)

module _ (m : Model) (proper : is_model m ≡ true) where
  pub size_fits : (n : ℕ) → n ≤ most_bytes → in_type (kind_of m (size_rank m) false) (pos n) ≡ true
  size_fits n h = let p = pointer_size m proper in subst (λ b. in_type (record { bytes = b; signed = false; rank = number_of (size_rank m) }) (pos n) ≡ true) (sym p.size) (fits_unsigned n m.pointer (number_of (size_rank m)) p.pointer h)

  -- ---- sizes

  if_small : (b : Bool) (size n : ℕ) → (b ≡ true → size ≤ most_bytes) → cond b (Some size) None ≡ Some n → n ≤ most_bytes
  if_small true size n small h = subst (λ k. k ≤ most_bytes) (some_is size n h) (small refl)
  if_small false size n small h = no_some n h

  array_small : (count : ℕ) (o : Option ℕ) (n : ℕ) → option_and_then (array_size count) o ≡ Some n → n ≤ most_bytes
  array_small count (Some size) n h = if_small (nat_lt 0 count && nat_le (count * size) most_bytes) (count * size) n (λ e. leb-true (count * size) most_bytes (both_true (nat_lt 0 count) (nat_le (count * size) most_bytes) e).1) h
  array_small count None n h = no_some n h

  pointer_small : (m.pointer ≡ 4) ⊎ (m.pointer ≡ 8) → m.pointer ≤ most_bytes
  pointer_small (inl e) = omega arith
  pointer_small (inr e) = omega arith

  pub sized_small : (structs : List StructView) (t : Ty) (n : ℕ) → sized structs m.pointer t ≡ Some n → n ≤ most_bytes
  sized_small structs (Int k) n h = if_small (nat_lt 0 k.bytes && nat_le k.bytes 8) k.bytes n (λ e. small (leb-true k.bytes 8 (both_true (nat_lt 0 k.bytes) (nat_le k.bytes 8) e).1)) h
    where
      small : k.bytes ≤ 8 → k.bytes ≤ most_bytes
      small e = omega arith
  sized_small structs (Pointer t) n h = subst (λ k. k ≤ most_bytes) (some_is m.pointer n h) (pointer_small (pointer_size m proper).pointer)
  sized_small structs (Array t count) n h = array_small count (sized structs m.pointer t) n h
  sized_small structs (Struct i) n h =
      let laid : Bool = (struct_at structs i).complete && nat_lt 0 (struct_at structs i).align in
      if_small (nat_lt i (length structs) && (laid && nat_le (struct_at structs i).size most_bytes)) (struct_at structs i).size n
      (λ e. leb-true (struct_at structs i).size most_bytes (both_true laid (nat_le (struct_at structs i).size most_bytes) (both_true (nat_lt i (length structs)) (laid && nat_le (struct_at structs i).size most_bytes) e).1).1) h
  sized_small structs Void n h = no_some n h
