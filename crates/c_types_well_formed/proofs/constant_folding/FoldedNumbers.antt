-- What typing folds is what operators give.
use Rattle.std.proofs.Common.{◌≡◌, inl, inr, ℕ, suc, ◌+◌, ◌-◌, ◌*◌, ◌/◌, ◌%◌, ◌^◌, ◌<◌, ◌≤◌, ◌==◌, Bool, true, false, ◌&&◌, cond, nat_lt, Option, Some, None, option_map, is_some, arith, refl, ap, sym, subst, subst₂, ◌∙◌}
use Rattle.std.specs.Prelude.{ℤ, pos, negsuc, ◌+ℤ◌, ◌-ℤ◌, ◌*ℤ◌, neg_ℤ, ◌≤ℤ◌, ◌<ℤ◌, unsigned_abs, int_le, int_lt, int_div, int_rem, bit_and, bit_or, bit_xor}
use Rattle.std.specs.Int.{w64, cast_signed, bit_not, int_rem_euclid, int_bit_and, int_bit_or, int_bit_xor, int_bit_not, int_shr}
use Rattle.std.specs.Option.{option_and_then}
use Rattle.std.specs.Ordering.{int_eq}
use Rattle.std.proofs.lemmas.Int.{ints, to_z_pos}
use Rattle.std.proofs.lemmas.Nat.{pow_pos, and_mod, or_mod, xor_mod}
use Rattle.std.proofs.Math.Nat.{div-le_self, mod-le}
use Rattle.std.proofs.lemmas.Bool.{cases_Bool, ltb-true, ltb-false, eq-eqb, and_parts, and_from, cond-true, cond-false}
use Rattle.cc_base.specs.IntegerTypes.{is_size, modulus, least_of, greatest_of, in_type, wrap_into}
use Rattle.cc_base.specs.MachineArithmetic.{result_of, is_count, is_quotient_overflow, binary_result}
use Rattle.cc_base.specs.declared.int_types.IntType.{IntType}
use Rattle.cc_base.specs.declared.integer_operators.IntOp.TheVariants.{Div, Rem, Shl, Shr}
use Rattle.c_layout.specs.declared.syntax_tree.expressions.BinaryOp.{BinaryOp}
use Rattle.c_layout.specs.declared.syntax_tree.expressions.BinaryOp.TheVariants as op
use Rattle.c_types_rules.specs.Rules.ConstantFolding.{modulus_of, converted, has_number, if_has, in_64, unless_zero, related, signed_result, unsigned_result, signed_64, unsigned_64, bits_of, signed_folded, unsigned_folded, related_or, folded, count_of, shifted_left, signed_shift, unsigned_shift, counted_shift, shifted}
use Rattle.lower_templates.specs.Worklist.TermKinds.{meaning}
use Rattle.interval_domain.specs.Intervals.Best.{le_true, true_le}
use Rattle.interval_domain.specs.Intervals.IntervalNumbers.{by_size}
use Rattle.interval_domain.proofs.intervals.Ranges.{range_facts, tight}
use Rattle.domain_theorems.specs.Intervals.Kit.{of_type, in_type_between}
use Rattle.domain_theorems.proofs.intervals.BestResults.{own_result, quotient_comes}
use Rattle.memory_model.specs.Effects.ScalarBytes.{bits_in}
use Rattle.store_sound.proofs.operations.Fresh.{wrap_bits}
use Rattle.store_sound.proofs.operations.Rereading.{wrapped_signed, wrapped_unsigned, halves}
use Rattle.source_preservation.specs.Checks.LookedTerms.{result}
use Rattle.source_preservation.proofs.checks.DecidedTests.{number_is}
use Rattle.source_preservation.proofs.checks.Truths.{never, there, some_is, no_some, if_true}
use Rattle.source_preservation.proofs.ranges.ReadBack.{bits_below}
use Rattle.source_preservation.proofs.ranges.TypeRanges.{between_ends, zero_in, wrapped_in, wrapped_own}
use Rattle.c_types_well_formed.specs.ConstantFolding.FoldingLaws.{FoldsAsComputed}
use Rattle.c_types_well_formed.proofs.constant_folding.SameBits.{signed_high, same_wrapped, bits_of_sum, low_bits, bits_of_whole, bits_and, bits_or, bits_xor}

-- ---- tests and options

true_lt : (a b : ℤ) → a <ℤ b → int_lt a b ≡ true
true_lt a b h = grind (arith, ints)

false_le : (a b : ℤ) → b <ℤ a → int_le a b ≡ false
false_le a b h = grind (arith, ints)

false_lt : (a b : ℤ) → b ≤ℤ a → int_lt a b ≡ false
false_lt a b h = grind (arith, ints)

-- an option that is there only where a test fails
unless : {A : Type 0} (b : Bool) (o : Option A) (x : A) → cond b None o ≡ Some x → (b ≡ false) × (o ≡ Some x)
unless true o x e = no_some x e
unless false o x e = (refl, e)

mapped : (f : ℕ → ℤ) (o : Option ℕ) (n : ℤ) → option_map f o ≡ Some n → (x : ℕ) × (o ≡ Some x) × (f x ≡ n)
mapped f None n e = no_some n e
mapped f (Some x) n e = (x, refl, some_is (f x) n e)

apart : (b : ℤ) → int_eq b (pos 0) ≡ false → b ≡ pos 0 → ⊥
apart b h e = never (sym h ∙ ap (λ x. int_eq x (pos 0)) e)

divisor_there : (b : ℕ) (t : Bool) → int_eq (pos b) (pos 0) ≡ t → (b == 0) ≡ false → t ≡ false
divisor_there b true is h = never (sym h ∙ eq-eqb b 0 (ap unsigned_abs (number_is (pos b) (pos 0) is)))
divisor_there b false is h = refl

in_64_is : (x n : ℤ) → in_64 x ≡ Some n → x ≡ n
in_64_is x n e = if_true (int_le (negsuc (2 ^ 63 - 1)) x && int_lt x (pos (2 ^ 63))) (Some x) n (λ h s. some_is x n s) e

-- the bits of a number, all turned
turned_high : (n m : ℕ) → n + suc m ≡ 2 ^ 64 → m < 2 ^ 63 → cast_signed w64 n ≡ (negsuc 0 -ℤ pos m)
turned_high n m e h = let d : negsuc m ≡ (negsuc 0 -ℤ pos m) = omega (arith, ints) in signed_high n m e h ∙ d

turned_low : (n m : ℕ) → n ≡ m → m < 2 ^ 63 → cast_signed w64 n ≡ (negsuc 0 -ℤ negsuc m)
turned_low n m e h = let d : pos m ≡ (negsuc 0 -ℤ negsuc m) = omega (arith, ints) in ap (cast_signed w64) e ∙ (to_z_pos w64 m h ∙ d)

not_64 : (a : ℤ) → negsuc (2 ^ 63 - 1) ≤ℤ a → a <ℤ pos (2 ^ 63) → int_bit_not w64 a ≡ (negsuc 0 -ℤ a)
not_64 (pos m) p q = let h : m < 2 ^ 63 = omega (arith, ints, q) in turned_high (2 ^ 64 - 1 - m) m (omega (arith, h)) h
not_64 (negsuc m) p q = let h : m < 2 ^ 63 = omega (arith, ints, p) in turned_low (2 ^ 64 - 1 - (2 ^ 64 - suc m)) m (omega (arith, h)) h

-- ---- conversion

-- a number below a modulus as one of a type
abbrev turned_by : Bool → ℕ → ℤ → ℤ
turned_by s m n = cond (s && int_le (pos (m / 2)) n) (n -ℤ pos m) n

rem_natural : (z d : ℤ) → int_rem_euclid z d ≡ pos (unsigned_abs (int_rem_euclid z d))
rem_natural (pos n) d = refl
rem_natural (negsuc n) d = refl

upper_half : (m half u : ℕ) → m ≡ 2 * half → turned_by true m (pos u) ≡ cond (nat_lt (2 * u) m) (pos u) (pos u -ℤ pos m)
upper_half m half u e = elim (cases_Bool (nat_lt (2 * u) m)) [
  | inl f ↦ (let k = ltb-true (2 * u) m f in rw (f, false_le (pos (m / 2)) (pos u) (omega (arith, ints, k, e))) refl)
  | inr f ↦ (let k = ltb-false (2 * u) m f in rw (f, true_le (pos (m / 2)) (pos u) (omega (arith, ints, k, e))) refl)
]

size_some : (n : ℕ) → is_size n ≡ true → 0 < n
size_some n h = by_size (λ n. 0 < n) (omega arith) (omega arith) (omega arith) (omega arith) n h

turned_wraps : (s : Bool) (k : IntType) (u : ℕ) → k.signed ≡ s → 0 < k.bytes → u < modulus k → turned_by s (modulus k) (pos u) ≡ wrap_into k (pos u)
turned_wraps true k u e p h =
    let half : modulus k ≡ 2 * 2 ^ (8 * k.bytes - 1) = halves (8 * k.bytes) (omega (arith, p)) in
    let w : wrap_into k (pos u) ≡ cond (nat_lt (2 * u) (modulus k)) (pos u) (pos u -ℤ pos (modulus k)) = rw e (wrapped_signed (modulus k) (2 ^ (8 * k.bytes - 1)) u (pos u) half (pow_pos (8 * k.bytes - 1)) h (inl refl)) in
    upper_half (modulus k) (2 ^ (8 * k.bytes - 1)) u half ∙ sym w
turned_wraps false k u e p h =
    let w : wrap_into k (pos u) ≡ pos u = rw e (wrapped_unsigned (modulus k) u (pos u) h (inl refl)) in
    sym w

-- the least number over -1 is no number of a type
least_at : (n : ℕ) → is_size n ≡ true → in_type (record { bytes = n; signed = true; rank = 0 }) (int_div (negsuc (2 ^ (8 * n - 1) - 1)) (negsuc 0)) ≡ false
least_at n h = by_size (λ n. in_type (record { bytes = n; signed = true; rank = 0 }) (int_div (negsuc (2 ^ (8 * n - 1) - 1)) (negsuc 0)) ≡ false) refl refl refl refl n h

module _ (k : IntType) (size : is_size k.bytes ≡ true) where
  modulus_is : modulus_of k ≡ modulus k
  modulus_is = by_size (λ n. cond (n == 1) 256 (cond (n == 2) 65536 (cond (n == 4) 4294967296 18446744073709551616)) ≡ 2 ^ (8 * n)) refl refl refl refl k.bytes size

  converts : (n : ℤ) → converted k n ≡ wrap_into k n
  converts n =
      ap (λ m. turned_by k.signed m (int_rem_euclid n (pos m))) modulus_is
      ∙ (ap (turned_by k.signed (modulus k)) (rem_natural n (pos (modulus k)))
      ∙ (turned_wraps k.signed k (bits_in k.bytes n) refl (size_some k.bytes size) (bits_below k.bytes n) ∙ sym (wrap_bits k n)))

  has_in : (n : ℤ) → has_number k n ≡ true → in_type k n ≡ true
  has_in n h = subst (λ z. in_type k z ≡ true) (sym (converts n) ∙ number_is (converted k n) n h) (wrapped_in k n size)

  kept : (o : Option ℤ) (n : ℤ) → option_and_then (if_has k) o ≡ Some n → (o ≡ Some n) × (in_type k n ≡ true)
  kept None n e = no_some n e
  kept (Some x) n e = if_true (has_number k x) (Some x) n (λ h s. (s, subst (λ z. in_type k z ≡ true) (some_is x n s) (has_in x h))) e

  -- a mathematical result that the type has
  comes : (z n : ℤ) → z ≡ n → in_type k n ≡ true → result_of k z ≡ Some n
  comes z n e i = subst (λ x. result_of k x ≡ Some n) (sym e) (own_result k n size i)

  -- ---- signed types

  module _ (e : k.signed ≡ true) where
    below_zero : least_of k ≡ pos 0 → ⊥
    below_zero is =
        let l : least_of k ≡ negsuc (2 ^ (8 * k.bytes - 1) - 1) = rw e refl in
        let n : negsuc (2 ^ (8 * k.bytes - 1) - 1) ≡ pos 0 = sym l ∙ is in
        cc

    signed_ends : (a : ℤ) → in_type k a ≡ true → (negsuc (2 ^ 63 - 1) ≤ℤ a) × (a <ℤ pos (2 ^ 63))
    signed_ends a i =
        let o = of_type k a i in
        let lo = o.0 in
        let hi = o.1 in
        let low = (range_facts k size).least_low in
        elim (tight k size) [ inl none ↦ absurd (below_zero none) | inr high ↦ (omega (arith, ints, lo, low), omega (arith, ints, hi, high)) ]

    signed_same : (a : ℤ) → in_type k a ≡ true → signed_64 a ≡ a
    signed_same a i =
        let o = signed_ends a i in
        cond-true (int_le (negsuc (2 ^ 63 - 1)) a && int_lt a (pos (2 ^ 63))) a (pos 0) (and_from (int_le (negsuc (2 ^ 63 - 1)) a) (int_lt a (pos (2 ^ 63))) (true_le _ _ o.0) (true_lt _ _ o.1))

    least_over : in_type k (int_div (least_of k) (negsuc 0)) ≡ true → ⊥
    least_over i =
        let l : least_of k ≡ negsuc (2 ^ (8 * k.bytes - 1) - 1) = rw e refl in
        let j : in_type k (int_div (negsuc (2 ^ (8 * k.bytes - 1) - 1)) (negsuc 0)) ≡ true = subst (λ x. in_type k (int_div x (negsuc 0)) ≡ true) l i in
        let n : in_type k (int_div (negsuc (2 ^ (8 * k.bytes - 1) - 1)) (negsuc 0)) ≡ false = subst (λ s. in_type (record { bytes = k.bytes; signed = s; rank = 0 }) (int_div (negsuc (2 ^ (8 * k.bytes - 1) - 1)) (negsuc 0)) ≡ false) (sym e) (least_at k.bytes size) in
        never (sym n ∙ j)

    no_overflow : (a b : ℤ) → in_type k (int_div a b) ≡ true → (over : Bool) → is_quotient_overflow k a b ≡ over → over ≡ false
    no_overflow a b i false is = refl
    no_overflow a b i true is =
        let p = and_parts k.signed (int_eq a (least_of k) && int_eq b (negsuc 0)) is in
        let q = and_parts (int_eq a (least_of k)) (int_eq b (negsuc 0)) p.1 in
        absurd (least_over (subst₂ (λ x y. in_type k (int_div x y) ≡ true) (number_is a (least_of k) q.0) (number_is b (negsuc 0) q.1) i))

    -- ---- operators on signed numbers

    module _ (a b n : ℤ) (i : in_type k a ≡ true) (j : in_type k b ≡ true) where
      -- a result in 64 bits that the type has
      fits : (z : ℤ) → option_and_then (if_has k) (in_64 z) ≡ Some n → result_of k z ≡ Some n
      fits z h = let x = kept (in_64 z) n h in comes z n (in_64_is z n x.0) x.1

      -- the bits of a result
      has_bits : (z : ℤ) (bits : ℕ) → bits_in k.bytes z ≡ bits → option_and_then (if_has k) (Some z) ≡ Some n → Some (wrap_into k (pos bits)) ≡ Some n
      has_bits z bits same h =
          let x = kept (Some z) n h in
          let is : z ≡ n = some_is z n x.0 in
          ap Some (ap (λ m. wrap_into k (pos m)) (sym same) ∙ (sym (wrap_bits k z) ∙ (ap (wrap_into k) is ∙ wrapped_own k n size x.1)))

      divided : option_and_then (if_has k) (unless_zero b (int_div a b)) ≡ Some n → binary_result Div k a b ≡ Some n
      divided h =
          let x = kept (unless_zero b (int_div a b)) n h in
          let y = unless (int_eq b (pos 0)) (in_64 (int_div a b)) n x.0 in
          let is : int_div a b ≡ n = in_64_is (int_div a b) n y.1 in
          quotient_comes k a b (apart b y.0) (subst (λ z. in_type k z ≡ true) (sym is) x.1) ∙ ap Some is

      quotient_in : is_some (option_and_then (if_has k) (unless_zero b (int_div a b))) ≡ true → in_type k (int_div a b) ≡ true
      quotient_in h =
          let t = there (option_and_then (if_has k) (unless_zero b (int_div a b))) h in
          let x = kept (unless_zero b (int_div a b)) t.0 t.1 in
          let y = unless (int_eq b (pos 0)) (in_64 (int_div a b)) t.0 x.0 in
          subst (λ z. in_type k z ≡ true) (sym (in_64_is (int_div a b) t.0 y.1)) x.1

      remains : in_type k (int_div a b) ≡ true → option_and_then (if_has k) (signed_result op.Remainder a b) ≡ Some n → binary_result Rem k a b ≡ Some n
      remains quotient h =
          let x = kept (signed_result op.Remainder a b) n h in
          let y = unless (int_eq b (pos 0)) (cond (int_lt (int_div a b) (pos (2 ^ 63))) (Some (int_rem a b)) None) n x.0 in
          let z : Some (int_rem a b) ≡ Some n = if_true (int_lt (int_div a b) (pos (2 ^ 63))) (Some (int_rem a b)) n (λ f s. s) y.1 in
          cond-false (int_eq b (pos 0)) None (cond (is_quotient_overflow k a b) None (Some (int_rem a b))) y.0 ∙ (cond-false (is_quotient_overflow k a b) None (Some (int_rem a b)) (no_overflow a b quotient (is_quotient_overflow k a b) refl) ∙ z)

      signed_computes : (sign : BinaryOp) → signed_folded sign k a b ≡ Some n → result (meaning sign) k a b ≡ Some n
      signed_computes op.Multiply h = fits (a *ℤ b) h
      signed_computes op.Divide h = divided h
      signed_computes op.Remainder h = if_true (is_some (option_and_then (if_has k) (unless_zero b (int_div a b)))) (option_and_then (if_has k) (signed_result op.Remainder a b)) n (λ q r. remains (quotient_in q) r) h
      signed_computes op.Add h = fits (a +ℤ b) h
      signed_computes op.Subtract h = fits (a -ℤ b) h
      signed_computes op.And h = let p = signed_ends a i in let q = signed_ends b j in has_bits (int_bit_and w64 a b) _ (bits_and k.bytes size a b p.0 p.1 q.0 q.1) h
      signed_computes op.Xor h = let p = signed_ends a i in let q = signed_ends b j in has_bits (int_bit_xor w64 a b) _ (bits_xor k.bytes size a b p.0 p.1 q.0 q.1) h
      signed_computes op.Or h = let p = signed_ends a i in let q = signed_ends b j in has_bits (int_bit_or w64 a b) _ (bits_or k.bytes size a b p.0 p.1 q.0 q.1) h
      signed_computes op.ShiftLeft h = no_some n h
      signed_computes op.ShiftRight h = no_some n h
      signed_computes op.Less h = no_some n h
      signed_computes op.Greater h = no_some n h
      signed_computes op.LessEqual h = no_some n h
      signed_computes op.GreaterEqual h = no_some n h
      signed_computes op.Equal h = no_some n h
      signed_computes op.NotEqual h = no_some n h

  -- ---- unsigned types

  module _ (e : k.signed ≡ false) where
    -- results wrap
    wraps : (z : ℤ) → result_of k z ≡ Some (wrap_into k z)
    wraps z = rw e refl

    -- a number that has the bits of a result
    wraps_as : (z n : ℤ) (m : ℕ) → bits_in k.bytes z ≡ m % 2 ^ (8 * k.bytes) → Some (converted k (pos (m % 2 ^ 64))) ≡ Some n → result_of k z ≡ Some n
    wraps_as z n m same h =
        let low : bits_in k.bytes z ≡ bits_in k.bytes (pos (m % 2 ^ 64)) = same ∙ sym (low_bits k.bytes size m) in
        wraps z ∙ ap Some (same_wrapped k z (pos (m % 2 ^ 64)) low ∙ (sym (converts (pos (m % 2 ^ 64))) ∙ some_is (converted k (pos (m % 2 ^ 64))) n h))

    least_zero : least_of k ≡ pos 0
    least_zero = rw e refl

    -- a number of the type is a natural one
    natural : (P : ℤ → Type 0) → ((m : ℕ) → m < 2 ^ 64 → P (pos m)) → (a : ℤ) → in_type k a ≡ true → P a
    natural P f (pos m) i = let hi = (of_type k (pos m) i).1 in let high = (range_facts k size).greatest_high in f m (omega (arith, ints, hi, high))
    natural P f (negsuc m) i = let lo = (of_type k (negsuc m) i).0 in absurd (omega (arith, ints, lo, least_zero))

    unsigned_same : (m : ℕ) → m < 2 ^ 64 → unsigned_64 (pos m) ≡ m
    unsigned_same m h = cond-true (int_le (pos 0) (pos m) && int_lt (pos m) (pos (2 ^ 64))) m 0 (and_from (int_le (pos 0) (pos m)) (int_lt (pos m) (pos (2 ^ 64))) (true_le (pos 0) (pos m) (omega (arith, ints))) (true_lt (pos m) (pos (2 ^ 64)) (omega (arith, ints, h))))

    -- a natural number that is not above one of the type
    own : (m a : ℕ) (n : ℤ) → m ≤ a → in_type k (pos a) ≡ true → converted k (pos m) ≡ n → (in_type k (pos m) ≡ true) × (pos m ≡ n)
    own m a n le i h =
        let j : in_type k (pos m) ≡ true = between_ends k (pos 0) (pos m) (pos a) (zero_in k size) i (omega (arith, ints)) (omega (arith, ints, le)) in
        (j, sym (wrapped_own k (pos m) size j) ∙ (sym (converts (pos m)) ∙ h))

    module _ (a b : ℕ) (n : ℤ) (i : in_type k (pos a) ≡ true) (small : b < 2 ^ 64) where
      unsigned_divided : unsigned_folded op.Divide k a b ≡ Some n → binary_result Div k (pos a) (pos b) ≡ Some n
      unsigned_divided h =
          let x = mapped (λ m. converted k (pos m)) (unsigned_result op.Divide a b) n h in
          let y = unless (b == 0) (Some (a / b)) x.0 x.1 in
          let q : a / b ≡ x.0 = some_is (a / b) x.0 y.1 in
          let c = own (a / b) a n (div-le_self a b) i (ap (λ m. converted k (pos m)) q ∙ x.2) in
          quotient_comes k (pos a) (pos b) (apart (pos b) (divisor_there b (int_eq (pos b) (pos 0)) refl y.0)) c.0 ∙ ap Some c.1

      unsigned_remains : unsigned_folded op.Remainder k a b ≡ Some n → binary_result Rem k (pos a) (pos b) ≡ Some n
      unsigned_remains h =
          let x = mapped (λ m. converted k (pos m)) (unsigned_result op.Remainder a b) n h in
          let y = unless (b == 0) (Some (a % b)) x.0 x.1 in
          let q : a % b ≡ x.0 = some_is (a % b) x.0 y.1 in
          let c = own (a % b) a n (mod-le a b) i (ap (λ m. converted k (pos m)) q ∙ x.2) in
          let o : is_quotient_overflow k (pos a) (pos b) ≡ false = rw e refl in
          cond-false (int_eq (pos b) (pos 0)) None (cond (is_quotient_overflow k (pos a) (pos b)) None (Some (int_rem (pos a) (pos b)))) (divisor_there b (int_eq (pos b) (pos 0)) refl y.0) ∙ (cond-false (is_quotient_overflow k (pos a) (pos b)) None (Some (int_rem (pos a) (pos b))) o ∙ ap Some c.1)

      -- the bits of a result
      takes_bits : (m bits : ℕ) → m % 2 ^ (8 * k.bytes) ≡ bits → Some (converted k (pos m)) ≡ Some n → Some (wrap_into k (pos bits)) ≡ Some n
      takes_bits m bits same h = ap Some (ap (λ x. wrap_into k (pos x)) (sym same) ∙ (sym (wrap_bits k (pos m)) ∙ (sym (converts (pos m)) ∙ some_is (converted k (pos m)) n h)))

      unsigned_computes : (sign : BinaryOp) → unsigned_folded sign k a b ≡ Some n → result (meaning sign) k (pos a) (pos b) ≡ Some n
      unsigned_computes op.Multiply h = wraps_as (pos a *ℤ pos b) n (a * b) refl h
      unsigned_computes op.Divide h = unsigned_divided h
      unsigned_computes op.Remainder h = unsigned_remains h
      unsigned_computes op.Add h = wraps_as (pos a +ℤ pos b) n (a + b) refl h
      unsigned_computes op.Subtract h = wraps_as (pos a -ℤ pos b) n (a + (2 ^ 64 - b)) (bits_of_whole k.bytes size (pos a -ℤ pos b) (a + (2 ^ 64 - b)) (omega (arith, ints, small))) h
      unsigned_computes op.And h = takes_bits (bit_and a b) _ (and_mod a b (8 * k.bytes)) h
      unsigned_computes op.Xor h = takes_bits (bit_xor a b) _ (xor_mod a b (8 * k.bytes)) h
      unsigned_computes op.Or h = takes_bits (bit_or a b) _ (or_mod a b (8 * k.bytes)) h
      unsigned_computes op.ShiftLeft h = no_some n h
      unsigned_computes op.ShiftRight h = no_some n h
      unsigned_computes op.Less h = no_some n h
      unsigned_computes op.Greater h = no_some n h
      unsigned_computes op.LessEqual h = no_some n h
      unsigned_computes op.GreaterEqual h = no_some n h
      unsigned_computes op.Equal h = no_some n h
      unsigned_computes op.NotEqual h = no_some n h

  -- ---- any type

  arithmetic_computes : (s : Bool) → k.signed ≡ s → (sign : BinaryOp) (a b n : ℤ) → in_type k a ≡ true → in_type k b ≡ true → cond s (signed_folded sign k (signed_64 a) (signed_64 b)) (unsigned_folded sign k (unsigned_64 a) (unsigned_64 b)) ≡ Some n → result (meaning sign) k a b ≡ Some n
  arithmetic_computes true e sign a b n i j h = signed_computes e a b n i j sign (subst₂ (λ x y. signed_folded sign k x y ≡ Some n) (signed_same e a i) (signed_same e b j) h)
  arithmetic_computes false e sign a b n i j h =
      natural e (λ x. in_type k x ≡ true → unsigned_folded sign k (unsigned_64 x) (unsigned_64 b) ≡ Some n → result (meaning sign) k x b ≡ Some n)
      (λ x p. natural e (λ y. in_type k (pos x) ≡ true → unsigned_folded sign k (unsigned_64 (pos x)) (unsigned_64 y) ≡ Some n → result (meaning sign) k (pos x) y ≡ Some n)
      (λ y q i h. unsigned_computes e x y n i q sign (subst₂ (λ v w. unsigned_folded sign k v w ≡ Some n) (unsigned_same e x p) (unsigned_same e y q) h)) b j) a i i h

  computes : (sign : BinaryOp) (a b n : ℤ) → in_type k a ≡ true → in_type k b ≡ true → related_or sign k a b (related sign a b) ≡ Some n → result (meaning sign) k a b ≡ Some n
  computes op.Less a b n i j h = h
  computes op.Greater a b n i j h = h
  computes op.LessEqual a b n i j h = h
  computes op.GreaterEqual a b n i j h = h
  computes op.Equal a b n i j h = h
  computes op.NotEqual a b n i j h = h
  computes op.Multiply a b n i j h = arithmetic_computes k.signed refl op.Multiply a b n i j h
  computes op.Divide a b n i j h = arithmetic_computes k.signed refl op.Divide a b n i j h
  computes op.Remainder a b n i j h = arithmetic_computes k.signed refl op.Remainder a b n i j h
  computes op.Add a b n i j h = arithmetic_computes k.signed refl op.Add a b n i j h
  computes op.Subtract a b n i j h = arithmetic_computes k.signed refl op.Subtract a b n i j h
  computes op.ShiftLeft a b n i j h = arithmetic_computes k.signed refl op.ShiftLeft a b n i j h
  computes op.ShiftRight a b n i j h = arithmetic_computes k.signed refl op.ShiftRight a b n i j h
  computes op.And a b n i j h = arithmetic_computes k.signed refl op.And a b n i j h
  computes op.Xor a b n i j h = arithmetic_computes k.signed refl op.Xor a b n i j h
  computes op.Or a b n i j h = arithmetic_computes k.signed refl op.Or a b n i j h

  operates : (sign : BinaryOp) (a b n : ℤ) → folded sign k a b ≡ Some n → result (meaning sign) k (wrap_into k a) (wrap_into k b) ≡ Some n
  operates sign a b n h = computes sign (wrap_into k a) (wrap_into k b) n (wrapped_in k a size) (wrapped_in k b size) (subst₂ (λ x y. related_or sign k x y (related sign x y) ≡ Some n) (converts a) (converts b) h)

  -- ---- shifts

  width_is : bits_of k ≡ 8 * k.bytes
  width_is = by_size (λ n. cond (n == 1) 8 (cond (n == 2) 16 (cond (n == 4) 32 64)) ≡ 8 * n) refl refl refl refl k.bytes size

  counted : (b : ℤ) (c : ℕ) → count_of k b ≡ Some c → (is_count k b ≡ true) × (unsigned_abs b ≡ c)
  counted b c h = if_true (int_le (pos 0) b && int_lt b (pos (bits_of k))) (Some (unsigned_abs b)) c (λ f s. (subst (λ w. (int_le (pos 0) b && int_lt b (pos w)) ≡ true) width_is f, some_is (unsigned_abs b) c s)) h

  by_count : (P : Type 0) (f : ℕ → Option ℤ) (b n : ℤ) → ((c : ℕ) → is_count k b ≡ true → unsigned_abs b ≡ c → f c ≡ Some n → P) → option_and_then f (count_of k b) ≡ Some n → P
  by_count P f b n g h = by (count_of k b) refl h
    where
      by : (o : Option ℕ) → count_of k b ≡ o → option_and_then f o ≡ Some n → P
      by None is h = no_some n h
      by (Some c) is h = let x = counted b c is in g c x.0 x.1 h

  -- a natural number is shifted to the left
  left_shift : (a b n : ℤ) (c : ℕ) → is_count k b ≡ true → unsigned_abs b ≡ c → int_lt a (pos 0) ≡ false → result_of k (a *ℤ pos (2 ^ c)) ≡ Some n → binary_result Shl k a b ≡ Some n
  left_shift a b n c count is above h =
      cond-true (is_count k b) (cond (int_lt a (pos 0)) None (result_of k (a *ℤ pos (2 ^ unsigned_abs b)))) None count
      ∙ (cond-false (int_lt a (pos 0)) None (result_of k (a *ℤ pos (2 ^ unsigned_abs b))) above ∙ subst (λ m. result_of k (a *ℤ pos (2 ^ m)) ≡ Some n) (sym is) h)

  right_shift : (a b n : ℤ) (c : ℕ) → is_count k b ≡ true → unsigned_abs b ≡ c → Some (int_shr a c) ≡ Some n → binary_result Shr k a b ≡ Some n
  right_shift a b n c count is h = cond-true (is_count k b) (Some (int_shr a (unsigned_abs b))) None count ∙ subst (λ m. Some (int_shr a m) ≡ Some n) (sym is) h

  signed_left : k.signed ≡ true → (a b n : ℤ) (c : ℕ) → in_type k a ≡ true → is_count k b ≡ true → unsigned_abs b ≡ c → option_and_then (if_has k) (shifted_left a c) ≡ Some n → binary_result Shl k a b ≡ Some n
  signed_left e a b n c i count is h =
      let x = kept (shifted_left a c) n h in
      if_true (nat_lt c 64 && int_le (pos 0) a) (in_64 (a *ℤ pos (2 ^ c))) n
      (λ f s. let p = and_parts (nat_lt c 64) (int_le (pos 0) a) f in left_shift a b n c count is (false_lt a (pos 0) (le_true (pos 0) a p.1)) (comes (a *ℤ pos (2 ^ c)) n (in_64_is (a *ℤ pos (2 ^ c)) n s) x.1)) x.0

  unsigned_left : k.signed ≡ false → (a : ℕ) (b n : ℤ) (c : ℕ) → is_count k b ≡ true → unsigned_abs b ≡ c → Some (converted k (pos (a * 2 ^ c % 2 ^ 64))) ≡ Some n → binary_result Shl k (pos a) b ≡ Some n
  unsigned_left e a b n c count is h = left_shift (pos a) b n c count is (false_lt (pos a) (pos 0) (omega (arith, ints))) (wraps_as e (pos a *ℤ pos (2 ^ c)) n (a * 2 ^ c) refl h)

  module _ (a b n : ℤ) (i : in_type k a ≡ true) where
    left_by : (s : Bool) → k.signed ≡ s → (c : ℕ) → is_count k b ≡ true → unsigned_abs b ≡ c → cond s (signed_shift op.ShiftLeft k (signed_64 a) c) (Some (unsigned_shift op.ShiftLeft k (unsigned_64 a) c)) ≡ Some n → binary_result Shl k a b ≡ Some n
    left_by true e c count is h = signed_left e a b n c i count is (subst (λ x. signed_shift op.ShiftLeft k x c ≡ Some n) (signed_same e a i) h)
    left_by false e c count is h =
        natural e (λ x. Some (unsigned_shift op.ShiftLeft k (unsigned_64 x) c) ≡ Some n → binary_result Shl k x b ≡ Some n)
        (λ x p h. unsigned_left e x b n c count is (subst (λ v. Some (unsigned_shift op.ShiftLeft k v c) ≡ Some n) (unsigned_same e x p) h)) a i h

    shifts_left : shifted op.ShiftLeft k a b ≡ Some n → binary_result Shl k a b ≡ Some n
    shifts_left h = by_count (binary_result Shl k a b ≡ Some n) (counted_shift op.ShiftLeft k a) b n (λ c count is h. left_by k.signed refl c count is h) h

    right_by : (s : Bool) → k.signed ≡ s → (c : ℕ) → is_count k b ≡ true → unsigned_abs b ≡ c → cond s (signed_shift op.ShiftRight k (signed_64 a) c) (Some (unsigned_shift op.ShiftRight k (unsigned_64 a) c)) ≡ Some n → binary_result Shr k a b ≡ Some n
    right_by true e c count is h = right_shift a b n c count is (subst (λ x. signed_shift op.ShiftRight k x c ≡ Some n) (signed_same e a i) h)
    right_by false e c count is h =
        natural e (λ x. Some (unsigned_shift op.ShiftRight k (unsigned_64 x) c) ≡ Some n → binary_result Shr k x b ≡ Some n)
        (λ x p h. right_shift (pos x) b n c count is (subst (λ v. Some (unsigned_shift op.ShiftRight k v c) ≡ Some n) (unsigned_same e x p) h)) a i h

    shifts_right : shifted op.ShiftRight k a b ≡ Some n → binary_result Shr k a b ≡ Some n
    shifts_right h = by_count (binary_result Shr k a b ≡ Some n) (counted_shift op.ShiftRight k a) b n (λ c count is h. right_by k.signed refl c count is h) h

  -- ---- one operand

  negates_by : (s : Bool) → k.signed ≡ s → (a n : ℤ) → in_type k a ≡ true → cond s (option_and_then (if_has k) (in_64 (neg_ℤ (signed_64 a)))) (Some (converted k (pos ((2 ^ 64 - unsigned_64 a) % 2 ^ 64)))) ≡ Some n → result_of k (neg_ℤ a) ≡ Some n
  negates_by true e a n i h = fits e a a n i i (neg_ℤ a) (subst (λ x. option_and_then (if_has k) (in_64 (neg_ℤ x)) ≡ Some n) (signed_same e a i) h)
  negates_by false e a n i h =
      natural e (λ x. Some (converted k (pos ((2 ^ 64 - unsigned_64 x) % 2 ^ 64))) ≡ Some n → result_of k (neg_ℤ x) ≡ Some n)
      (λ x p h. wraps_as e (neg_ℤ (pos x)) n (2 ^ 64 - x) (bits_of_whole k.bytes size (neg_ℤ (pos x)) (2 ^ 64 - x) (less x p)) (subst (λ v. Some (converted k (pos ((2 ^ 64 - v) % 2 ^ 64))) ≡ Some n) (unsigned_same e x p) h)) a i h
    where
      less : (x : ℕ) → x < 2 ^ 64 → neg_ℤ (pos x) +ℤ pos (2 ^ 64) ≡ pos (2 ^ 64 - x)
      less x p = omega (arith, ints, p)

  unsigned_complement : k.signed ≡ false → (x : ℕ) → x < 2 ^ 64 → in_type k (pos x) ≡ true → ((least_of k +ℤ greatest_of k) -ℤ pos x) ≡ converted k (pos (bit_not w64 x))
  unsigned_complement e x p i =
      let m : ℕ = modulus k in
      let g : greatest_of k ≡ pos (m - 1) = rw e refl in
      let l : least_of k ≡ pos 0 = least_zero e in
      let hi : pos x ≤ℤ greatest_of k = (of_type k (pos x) i).1 in
      let some : 0 < m = pow_pos (8 * k.bytes) in
      let within : x < m = omega (arith, ints, hi, g, some) in
      let far : bits_in k.bytes (negsuc x) ≡ (2 ^ 64 - suc x) % m = bits_of_whole k.bytes size (negsuc x) (2 ^ 64 - suc x) (omega (arith, ints, p)) in
      let near : bits_in k.bytes (negsuc x) ≡ (m - suc x) % m = bits_of_sum k.bytes (negsuc x) 1 (m - suc x) (omega (arith, ints, within)) in
      let written : bit_not w64 x ≡ 2 ^ 64 - suc x = omega arith in
      let same : bits_in k.bytes (pos (bit_not w64 x)) ≡ bits_in k.bytes (pos (m - suc x)) = ap (λ v. v % m) written ∙ (sym far ∙ near) in
      let j : in_type k (pos (m - suc x)) ≡ true = in_type_between k (pos (m - suc x)) (omega (arith, ints, l)) (omega (arith, ints, g)) in
      let r : ((least_of k +ℤ greatest_of k) -ℤ pos x) ≡ pos (m - suc x) = omega (arith, ints, l, g, within) in
      r ∙ (sym (wrapped_own k (pos (m - suc x)) size j) ∙ (sym (same_wrapped k (pos (bit_not w64 x)) (pos (m - suc x)) same) ∙ sym (converts (pos (bit_not w64 x)))))

  signed_complement : k.signed ≡ true → (a : ℤ) → in_type k a ≡ true → ((least_of k +ℤ greatest_of k) -ℤ a) ≡ int_bit_not w64 a
  signed_complement e a i =
      let half : ℕ = 2 ^ (8 * k.bytes - 1) in
      let some : 0 < half = pow_pos (8 * k.bytes - 1) in
      let g : greatest_of k ≡ pos (half - 1) = rw e refl in
      let l : least_of k ≡ negsuc (half - 1) = rw e refl in
      let ends = signed_ends e a i in
      let is : int_bit_not w64 a ≡ (negsuc 0 -ℤ a) = not_64 a ends.0 ends.1 in
      omega (arith, ints, g, l, some, is)

  complements_by : (s : Bool) → k.signed ≡ s → (a : ℤ) → in_type k a ≡ true → ((least_of k +ℤ greatest_of k) -ℤ a) ≡ cond s (int_bit_not w64 (signed_64 a)) (converted k (pos (bit_not w64 (unsigned_64 a))))
  complements_by true e a i = signed_complement e a i ∙ ap (int_bit_not w64) (sym (signed_same e a i))
  complements_by false e a i =
      natural e (λ x. in_type k x ≡ true → ((least_of k +ℤ greatest_of k) -ℤ x) ≡ converted k (pos (bit_not w64 (unsigned_64 x))))
      (λ x p i. unsigned_complement e x p i ∙ ap (λ v. converted k (pos (bit_not w64 v))) (sym (unsigned_same e x p))) a i i

pub computed : FoldsAsComputed
computed kind size = record {
  converts = converts kind size;
  operates = operates kind size;
  shifts_left = shifts_left kind size;
  shifts_right = shifts_right kind size;
  negates = λ a n i h. negates_by kind size kind.signed refl a n i h;
  complements = λ a i. ap Some (complements_by kind size kind.signed refl a i);
}
