-- The first zero of an array behind a store of a character.
use Rattle.std.proofs.Common.{◌≡◌, ℕ, zero, suc, ◌-◌, ◌^◌, ◌<◌, ◌≤◌, Bool, true, false, List, length, arith, subst, sym, refl, ap, ◌∙◌, ◌&&◌}
use Rattle.std.specs.Prelude.{set, ℤ, pos, neg_ℤ}
use Rattle.std.proofs.lemmas.Int.{ints}
use Rattle.cc_base.specs.Lattices.{LatticeOf, OrderLaws}
use Rattle.cc_base.specs.IntegerDomains.{IntegersOf, BoundLaws, IsNear, between_or_least}
use Rattle.cc_base.specs.Truths.{can_hold, can_fail}
use Rattle.cc_base.specs.declared.integer_operators.Tri.{Tri}
use Rattle.value_domain.specs.Strings.FirstZeros.{the_end, zero_of, zero_lattice}
use Rattle.value_domain.specs.Strings.ZeroTables as zeros
use Rattle.value_domain.specs.declared.strings.first_zeros.FirstZero.{FirstZero}
use Rattle.store_cells.specs.NearValues.{near_number}
use Rattle.store_cells.specs.declared.access_windows.Window.{Window}
use Rattle.store_cells.specs.declared.first_zero_writes.ZeroTarget.{ZeroTarget}
use Rattle.store_cells.specs.FirstZeroWrites.{offsets_of, sure_or_joined, put_at}
use Rattle.memory_model.specs.Memory.Bytes.{Content, number, Byte}
use Rattle.memory_model.specs.Memory.Labels.{Labels}
use Rattle.store_sound.specs.Concretization.FirstZeroBytes.{first_zero, zero_offset}
use Rattle.store_sound.proofs.operations.Near.{near_number_from}
use Rattle.store_sound.proofs.operations.StoreZeros.{between_stands, some_between}
use Rattle.domain_theorems.specs.Values.ZeroLaws.{IsCount}
use Rattle.domain_theorems.proofs.values.ZeroStands.{zero_meaning}
use Rattle.store_sound.proofs.chars.ByteTexts.{wrote_zero, wrote_other}

module _ {I : Type 0} {l : LatticeOf I} {n : IntegersOf I} {gamma : I → ℤ → Type 0} (o : OrderLaws l) (q : BoundLaws l n gamma) where
  offsets_are : (w : Window) → w.lo ≤ w.hi → w.hi ≤ 2 ^ 64 - 1 → offsets_of l n w ≡ n.between (pos w.lo) (pos w.hi)
  offsets_are w h k =
      let e = some_between o q (pos w.lo) (pos w.hi) (omega (arith, ints)) in
      ap (near_number l n) e ∙ near_number_from o q (n.between (pos w.lo) (pos w.hi)) (pos w.lo) (pos w.hi) (q.between_bounds (pos w.lo) (pos w.hi) (omega (arith, ints))) (omega (arith, ints)) (omega (arith, ints))

  offsets_count : (w : Window) → w.lo ≤ w.hi → w.hi ≤ 2 ^ 64 - 1 → IsCount l n (offsets_of l n w)
  offsets_count w h k = subst (IsCount l n) (sym (offsets_are w h k)) (q.below_between (n.between (pos w.lo) (pos w.hi)) (pos w.lo) (pos w.hi) (pos 0) the_end (q.between_bounds (pos w.lo) (pos w.hi) (omega (arith, ints))) (omega (arith, ints)) (omega (arith, ints)))

  pub offsets_stand : (w : Window) (k : ℕ) → w.lo ≤ k → k ≤ w.hi → w.hi ≤ 2 ^ 64 - 1 → gamma (offsets_of l n w) (pos k)
  offsets_stand w k h g s = subst (λ y. gamma y (pos k)) (sym (offsets_are w (omega arith) s)) (between_stands o q (pos w.lo) (pos w.hi) (pos k) (omega (arith, ints)) (omega (arith, ints)))

  -- the table, for a byte at one of the offsets
  byte_zero : (f : FirstZero I) (at : I) (t : Tri) (bytes : List Byte) (k d : ℕ) (labels : Labels) (was : Byte) → IsNear (n.bounds f.at) → IsCount l n at → gamma f.at (zero_offset (first_zero bytes)) → gamma at (pos k) → k < length bytes → length bytes ≤ 2 ^ 64 - 1 → (d ≡ 0 → can_hold t ≡ true) → ((d ≡ 0 → ⊥) → can_fail t ≡ true)
      → gamma (zeros.put_at l n f at t).at (zero_offset (first_zero (set bytes k (record was { content = number d labels }))))
  byte_zero f at t bytes k zero labels was near count sf sk inside small hold fail =
      (zero_meaning o q).put_zero f at t _ (pos k) _ near count sf sk (hold refl) (wrote_zero bytes k (record was { content = number 0 labels }) inside small refl)
  byte_zero f at t bytes k (suc d) labels was near count sf sk inside small hold fail =
      (zero_meaning o q).put_other f at t _ (pos k) _ near count sf sk (fail (λ (e : suc d ≡ 0). absurd (omega arith))) (wrote_other bytes k (record was { content = number (suc d) labels }) inside small refl)

  -- where the byte is one of the array's
  pub put_inside : (f : FirstZero I) (target : ZeroTarget) (t : Tri) (alone : Bool) (bytes : List Byte) (k d : ℕ) (labels : Labels) (was : Byte) → IsNear (n.bounds f.at) → gamma f.at (zero_offset (first_zero bytes)) → target.local.lo ≤ k → k ≤ target.local.hi → target.local.hi ≤ 2 ^ 64 - 1 → k < length bytes → length bytes ≤ 2 ^ 64 - 1 → (d ≡ 0 → can_hold t ≡ true) → ((d ≡ 0 → ⊥) → can_fail t ≡ true)
      → gamma (put_at l n f target t alone).at (zero_offset (first_zero (set bytes k (record was { content = number d labels }))))
  put_inside f target t alone bytes k d labels was near sf from to fits inside small hold fail =
      let new : FirstZero I = zeros.put_at l n f (offsets_of l n target.local) t in
      let r = byte_zero f (offsets_of l n target.local) t bytes k d labels was near (offsets_count target.local (omega arith) fits) sf (offsets_stand target.local k from to fits) inside small hold fail in
      by_sure (alone && target.whole) f new _ r
    where
      by_sure : (sure : Bool) (old new : FirstZero I) (c : ℤ) → gamma new.at c → gamma (sure_or_joined l sure old new).at c
      by_sure true old new c h = h
      by_sure false old new c h = q.larger new.at (l.join old.at new.at) c (o.join_right old.at new.at) h

  -- where the array stays
  pub put_outside : (f : FirstZero I) (target : ZeroTarget) (t : Tri) (alone : Bool) (c : ℤ) → (alone && target.whole) ≡ false → gamma f.at c → gamma (put_at l n f target t alone).at c
  put_outside f target t alone c e h = rw e (q.larger f.at (l.join f.at (zeros.put_at l n f (offsets_of l n target.local) t).at) c (o.join_left f.at (zeros.put_at l n f (offsets_of l n target.local) t).at) h)
