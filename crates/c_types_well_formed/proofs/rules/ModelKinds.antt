-- The numbers of a data model, and what types of it hold.
use Rattle.std.proofs.Common.{◌≡◌, ◌⊎◌, inl, inr, ℕ, ◌-◌, ◌*◌, ◌^◌, pos, negsuc, Bool, true, false, ◌&&◌, ◌||◌, cond, nat_lt, refl}
use Rattle.std.proofs.lemmas.Bool.{eqb-true}
use Rattle.cc_base.specs.IntegerTypes.{in_type}
use Rattle.cc_base.specs.declared.int_types.IntType.{IntType}
use Rattle.c_layout.specs.Models.{is_model, short_fits, int_fits, long_fits, long_long_fits, pointer_fits}
use Rattle.c_layout.specs.Types.{Ty, Int, Pointer, Array, Struct, Void}
use Rattle.c_layout.specs.declared.data_model.Model.{Model}
use Rattle.c_types_rules.specs.Rules.IntegerKinds.{bytes_of, number_of, kind_of, promoted, size_rank}
use Rattle.c_types_rules.specs.declared.rules.integer_kinds.Rank.{Rank}
use Rattle.c_types_rules.specs.declared.rules.integer_kinds.Rank.TheVariants as rank
use Rattle.memory_model.specs.Effects.LibraryChecks.{most_size}
use Rattle.source_preservation.specs.Checks.LookedTypes.{same_mark}
use Rattle.source_preservation.proofs.checks.Truths.{both_true}
use Rattle.c_types_well_formed.specs.WellFormed.ModelTypes.{IsKindOf}
use Rattle.c_types_well_formed.proofs.constant_folding.SizeNumbers.{PointerSize, one_of_two, pointer_size}
use Rattle.c_types_well_formed.proofs.decided_tests.ModelKinds.{same_kind_self}

-- ---- the numbers of a model

pub record ModelNumbers (m : Model) : Type 0 where
  pub short : m.short ≡ 2
  pub int : (m.int ≡ 2) ⊎ (m.int ≡ 4)
  pub long : (m.long ≡ 4) ⊎ (m.long ≡ 8)
  pub long_long : m.long_long ≡ 8
  pub pointer : (m.pointer ≡ 4) ⊎ (m.pointer ≡ 8)
  pub size : bytes_of m (size_rank m) ≡ m.pointer

pub model_numbers : (m : Model) → is_model m ≡ true → ModelNumbers m
model_numbers m h =
    let a = both_true (short_fits m.short) (int_fits m.int && (long_fits m.long && (long_long_fits m.long_long && pointer_fits m.int m.long m.long_long m.pointer))) h in
    let b = both_true (int_fits m.int) (long_fits m.long && (long_long_fits m.long_long && pointer_fits m.int m.long m.long_long m.pointer)) a.1 in
    let c = both_true (long_fits m.long) (long_long_fits m.long_long && pointer_fits m.int m.long m.long_long m.pointer) b.1 in
    let d = both_true (long_long_fits m.long_long) (pointer_fits m.int m.long m.long_long m.pointer) c.1 in
    let p : PointerSize m = pointer_size m h in
    record {
      short = eqb-true m.short 2 a.0;
      int = one_of_two m.int 2 4 b.0;
      long = one_of_two m.long 4 8 c.0;
      long_long = eqb-true m.long_long 8 d.0;
      pointer = p.pointer;
      size = p.size;
    }

-- ---- types

pub mark_same : (t : Ty) → same_mark t t ≡ true
mark_same (Int k) = same_kind_self k
mark_same (Pointer t) = refl
mark_same (Array t n) = refl
mark_same (Struct i) = refl
mark_same Void = refl

pub kind_known : (m : Model) (r : Rank) (signed : Bool) → IsKindOf m (kind_of m r signed)
kind_known m r signed = (r, refl)

pub promoted_known : (m : Model) (k : IntType) → IsKindOf m k → IsKindOf m (promoted m k)
promoted_known m k known = by (nat_lt k.rank 3)
  where
    by : (b : Bool) → IsKindOf m (cond b (kind_of m rank.Int (k.signed || nat_lt k.bytes m.int)) k)
    by true = kind_known m rank.Int (k.signed || nat_lt k.bytes m.int)
    by false = known

differences_fit : (n p r : ℕ) → n ≡ p → (p ≡ 4) ⊎ (p ≡ 8) → (in_type (record { bytes = n; signed = true; rank = r }) (pos (2 ^ (8 * p - 1) - 1)) && in_type (record { bytes = n; signed = true; rank = r }) (negsuc (2 ^ (8 * p - 1) - 1))) ≡ true
differences_fit n p r same (inl e) = rw (same, e) refl
differences_fit n p r same (inr e) = rw (same, e) refl

-- the type of differences of pointers
pub difference_fits : (m : Model) → ModelNumbers m → (in_type (kind_of m (size_rank m) true) (pos (most_size m)) && in_type (kind_of m (size_rank m) true) (negsuc (most_size m))) ≡ true
difference_fits m numbers = differences_fit (bytes_of m (size_rank m)) m.pointer (number_of (size_rank m)) numbers.size numbers.pointer
