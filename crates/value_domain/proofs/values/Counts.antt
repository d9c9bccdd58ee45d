-- Shift counts below the width lie from 0 to 63.
use Rattle.std.proofs.Common.{◌≡◌, ℕ, ◌*◌, ◌≤◌, ℤ, pos, ◌-ℤ◌, ◌≤ℤ◌, Bool, true, false, cond, Option, Some, None, int_le, arith, sym, subst, ◌⊎◌, inl, inr}
use Rattle.std.specs.Int.{int_min, int_max}
use Rattle.std.proofs.lemmas.Int.{ints, clamps}
use Rattle.std.proofs.lemmas.Bool.{cond_both}
use Rattle.cc_base.specs.IntegerTypes.{is_size}
use Rattle.cc_base.specs.NumberRanges.{Range, range_met}
use Rattle.value_domain.specs.Values.ValueTables.{AreShiftCounts}

met_counts : (q : ℤ × ℤ) (w : ℤ) → w ≤ℤ pos 63 → AreShiftCounts (range_met (Some q) (pos 0) w)
met_counts q w h = cond_both (int_le (int_max q.0 (pos 0)) (int_min q.1 w)) (Some (int_max q.0 (pos 0), int_min q.1 w)) None AreShiftCounts
    (λ e. (omega (arith, ints, clamps), grind (arith, ints, clamps), omega (arith, ints, clamps))) (λ e. tt)

pub are_shift_counts : (q : ℤ × ℤ) (w : ℤ) (r : Range) → r ≡ range_met (Some q) (pos 0) w → w ≤ℤ pos 63 → AreShiftCounts r
are_shift_counts q w r e h = subst AreShiftCounts (sym e) (met_counts q w h)

pub width_small : (n : ℕ) → is_size n ≡ true → 8 * n ≤ 64
width_small n h =
    let s : (n ≡ 1) ⊎ ((n ≡ 2) ⊎ ((n ≡ 4) ⊎ (n ≡ 8))) = grind arith in
    elim s [ inl e ↦ omega arith | inr t ↦ elim t [ inl e ↦ omega arith | inr u ↦ elim u [ inl e ↦ omega arith | inr e ↦ omega arith ] ] ]
