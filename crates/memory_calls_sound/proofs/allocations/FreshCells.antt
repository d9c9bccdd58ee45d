-- The cells of a fresh instance of indeterminate bytes, or of zeros, stand for it.
use Rattle.std.proofs.Common.{◌≡◌, ℕ, zero, suc, ◌+◌, ◌-◌, ◌*◌, ◌^◌, ◌<◌, ◌≤◌, Bool, true, false, cond, Some, None, List, length, arith, subst, sym, refl, ap, ◌∙◌}
use Rattle.std.specs.Prelude.{slice_get, ℤ, pos, ◌≤ℤ◌, int_le, nat_lt}
use Rattle.std.proofs.lemmas.Int.{ints}
use Rattle.std.proofs.lemmas.Bool.{lt-ltb}
use Rattle.std.proofs.lemmas.Nat.{pow_pos}
use Rattle.std.proofs.lemmas.Option.{same_Some, slice_get_within}
use Rattle.cc_base.specs.Lattices.{LatticeOf, OrderLaws}
use Rattle.cc_base.specs.IntegerDomains.{IntegersOf, BoundLaws}
use Rattle.c_layout.specs.declared.leaf_lists.Class.{Class}
use Rattle.cfg.specs.declared.programs.Flow.{Flow}
use Rattle.value_domain.specs.Values.LabelSets.{labels_leq}
use Rattle.value_domain.specs.Values.LabelSets as set
use Rattle.value_domain.specs.Values.ValueTables.{blank_value, pointer_value, number_value}
use Rattle.store_cells.specs.ByteWrites.{null_pointer}
use Rattle.store_cells.specs.ClassNumbers.{is_pointer}
use Rattle.store_cells.specs.FirstZeroWrites.{any_zero, no_zero, zero_first}
use Rattle.store_objects.specs.Allocations.{zero_if_any}
use Rattle.store_cells.specs.NearValues.{near_number, near_value}
use Rattle.store_objects.specs.ObjectLives.{zero_value}
use Rattle.value_domain.specs.Strings.FirstZeros.{the_end}
use Rattle.memory_model.specs.Memory.Labels.{no_labels}
use Rattle.memory_model.specs.Memory.Bytes.{Content, indeterminate, number, Byte}
use Rattle.memory_model.specs.Memory.Instances.{Memory, byte_at}
use Rattle.memory_model.specs.Memory.Numbers.{Labelled, number_of, unsigned_of}
use Rattle.memory_model.specs.Effects.AllocationCalls.{untyped}
use Rattle.store_sound.specs.Concretization.FirstZeroBytes.{first_zero, zero_offset}
use Rattle.store_sound.specs.Concretization.Matching.{Matched, number_in}
use Rattle.store_sound.specs.Concretization.SeenLabels.{as_set}
use Rattle.store_sound.specs.Concretization.ValueMeaning.{Naming, InGammaContent, InGammaZero}
use Rattle.store_sound.specs.Concretization.RowMeaning.{IsLiveOf, InGammaCell}
use Rattle.store_sound.proofs.operations.Classes.{class_above}
use Rattle.store_sound.proofs.operations.Slices.{get_there}
use Rattle.store_sound.proofs.operations.StoreZeros.{zero_small, offset_near}
use Rattle.store_sound.proofs.operations.TouchedRest.{near_stands}
use Rattle.store_sound.proofs.regions.RegionArrays.{any_zero_stands}
use Rattle.store_sound.proofs.operations.Reading.{nil_unsigned}

-- ---- bytes without a type

pub untyped_long : (c : Content) (size : ℕ) → length (untyped c size) ≡ size
untyped_long c zero = refl
untyped_long c (suc size) = ap suc (untyped_long c size)

pub untyped_byte : (c : Content) (size k : ℕ) (x : Byte) → slice_get (untyped c size) k ≡ Some x → x ≡ record { content = c; tag = None }
untyped_byte c zero k x e = cc
untyped_byte c (suc size) zero x e = sym (same_Some (record { content = c; tag = None }) x e)
untyped_byte c (suc size) (suc k) x e = untyped_byte c size k x e

no_first_zero : (size : ℕ) → first_zero (untyped indeterminate size) ≡ None
no_first_zero zero = refl
no_first_zero (suc size) = refl

at_first : (size : ℕ) → 0 < size → first_zero (untyped (number 0 no_labels) size) ≡ Some 0
at_first zero h = absurd (omega (arith, h))
at_first (suc size) h = refl

-- ---- numbers that are 0

nil_number : (signed : Bool) (ns : List Labelled) → unsigned_of ns ≡ 0 → number_of signed ns ≡ pos 0
nil_number true ns e = let h : nat_lt 0 (2 ^ (8 * length ns)) ≡ true = lt-ltb 0 (2 ^ (8 * length ns)) (pow_pos (8 * length ns)) in rw (e, h) refl
nil_number false ns e = ap pos e

number_or : Content → ℕ
number_or (number k la) = k
number_or _ = 0

number_is_nil : (y : Labelled) → number_in y ≡ number 0 no_labels → y.number ≡ 0
unfolding number_or
number_is_nil y e = ap number_or e

module _ {I : Type 0} {l : LatticeOf I} {n : IntegersOf I} {gamma : I → ℤ → Type 0} (o : OrderLaws l) (q : BoundLaws l n gamma) (flow : Flow) (naming : Naming) (memory : Memory) (b i : ℕ) (sole : (j : ℕ) → IsLiveOf naming memory b j → j ≡ i) (c : Content) (each : (x : ℕ) (byte : Byte) → byte_at memory i x ≡ Some byte → byte.content ≡ c) where
  module _ (class : Class) (signed : Bool) (Place Owns : ℕ → ℕ → Type 0) where
    content_is : (j x k : ℕ) (d : Content) → IsLiveOf naming memory b j → Matched memory j x class k d → d ≡ c
    content_is j x k d h m =
        let mine = sole j h in
        let one : Byte = record { content = d; tag = m.tag } in
        each x one (subst (λ z. byte_at memory z x ≡ Some one) mine m.here)

    -- indeterminate bytes
    pub blank_cell : c ≡ indeterminate → InGammaCell gamma flow naming memory b class signed Place Owns (near_value l n (blank_value l))
    blank_cell is = record {
      whole = λ j x ns h place plain held.
          let size = held.size in
          let above = class_above flow.model class in
          let y = get_there ns 0 (omega (arith, size, above)) in
          let m = held.each 0 y.0 (omega (arith, size, above)) y.1 in
          let z : number_in y.0 ≡ indeterminate = content_is j (x + 0) 0 (number_in y.0) h m ∙ is in
          cc;
      byte = λ j x k d h owns m. subst (InGammaContent gamma naming memory (near_value l n (blank_value l)) class) (sym (content_is j x k d h m ∙ is)) refl;
    }

    zero_number : (z : ℤ) → z ≡ pos 0 → is_pointer class ≡ false → gamma (near_value l n (zero_value l n class)).num z
    zero_number z is plain = by_class (is_pointer class) plain
      where
        by_class : (p : Bool) → p ≡ false → gamma (near_value l n (cond p (pointer_value l (null_pointer l)) (number_value l (n.one (pos 0)) set.no_labels))).num z
        by_class true e = cc
        by_class false e = subst (gamma (near_number l n (n.one (pos 0)))) (sym is) (near_stands o q (n.one (pos 0)) (pos 0) (omega (arith, ints)) (omega (arith, ints)) (q.one_stands (pos 0)))

    zero_content : InGammaContent gamma naming memory (near_value l n (zero_value l n class)) class (number 0 no_labels)
    zero_content = (by_labels (is_pointer class), λ e. by_null (is_pointer class) e)
      where
        by_labels : (p : Bool) → labels_leq (as_set no_labels) (near_value l n (cond p (pointer_value l (null_pointer l)) (number_value l (n.one (pos 0)) set.no_labels))).labels ≡ true
        by_labels true = refl
        by_labels false = refl

        by_null : (p : Bool) → p ≡ true → (near_value l n (cond p (pointer_value l (null_pointer l)) (number_value l (n.one (pos 0)) set.no_labels))).pointer.null ≡ true
        by_null true e = refl
        by_null false e = cc

    -- zeros
    pub zero_cell : c ≡ number 0 no_labels → InGammaCell gamma flow naming memory b class signed Place Owns (near_value l n (zero_value l n class))
    zero_cell is = record {
      whole = λ j x ns h place plain held. zero_number (number_of signed ns) (nil_number signed ns (nil_unsigned ns (λ k y e. number_is_nil y (content_is j (x + k) k (number_in y) h (held.each k y (slice_get_within ns k y e) e) ∙ is)))) plain;
      byte = λ j x k d h owns m. subst (InGammaContent gamma naming memory (near_value l n (zero_value l n class)) class) (sym (content_is j x k d h m ∙ is)) zero_content;
    }

-- ---- first zeros

module _ {I : Type 0} {l : LatticeOf I} {n : IntegersOf I} {gamma : I → ℤ → Type 0} (o : OrderLaws l) (q : BoundLaws l n gamma) (naming : Naming) (memory : Memory) (size : ℕ) (small : size ≤ 2 ^ 64 - 1) where
  pub blank_zero : InGammaZero gamma naming memory (record { at = near_number l n (no_zero n).at }) (untyped indeterminate size)
  blank_zero = subst (λ z. gamma (near_number l n (no_zero n).at) (zero_offset z)) (sym (no_first_zero size)) (near_stands o q (n.one the_end) the_end (omega (arith, ints)) (omega (arith, ints)) (q.one_stands the_end))

  pub zeros_zero : (least : ℤ) → least ≤ℤ pos size → InGammaZero gamma naming memory (record { at = near_number l n (zero_if_any l n least).at }) (untyped (number 0 no_labels) size)
  zeros_zero least below = by_least (int_le (pos 1) least) refl
    where
      by_least : (some : Bool) → int_le (pos 1) least ≡ some → InGammaZero gamma naming memory (record { at = near_number l n (cond some (zero_first n) (any_zero l n)).at }) (untyped (number 0 no_labels) size)
      by_least true e =
          let above : pos 1 ≤ℤ least = grind (arith, ints) in
          subst (λ z. gamma (near_number l n (n.one (pos 0))) (zero_offset z)) (sym (at_first size (omega (arith, ints, above, below)))) (near_stands o q (n.one (pos 0)) (pos 0) (omega (arith, ints)) (omega (arith, ints)) (q.one_stands (pos 0)))
      by_least false e =
          let long = untyped_long (number 0 no_labels) size in
          let a = offset_near (first_zero (untyped (number 0 no_labels) size)) (λ k f. let w = zero_small (untyped (number 0 no_labels) size) k f in omega (arith, w, small, long)) in
          let a0 = a.0 in
          let a1 = a.1 in
          near_stands o q (any_zero l n).at (zero_offset (first_zero (untyped (number 0 no_labels) size))) (omega (arith, ints, a0)) (omega (arith, ints, a1)) (any_zero_stands o q naming memory (untyped (number 0 no_labels) size) (omega (arith, long, small)))
