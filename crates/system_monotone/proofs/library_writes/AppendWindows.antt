-- The bytes behind a text that is there, in rising rows.
use Rattle.std.specs.Prelude.{◌≡◌, ℕ, ◌≤◌, ◌^◌, min, max, ℤ, pos, negsuc, ◌+ℤ◌, ◌≤ℤ◌, nat_lt, nat_le, int_lt, Bool, true, false, cond, Option, Some, None, refl}
use Rattle.std.specs.Int.{w128, saturate_signed, int_max}
use Rattle.std.proofs.Common.{arith, ap}
use Rattle.std.proofs.lemmas.Int.{ints, clamps}
use Rattle.std.proofs.lemmas.Bool.{leb-true, leb-false}
use Rattle.std.proofs.lemmas.Bool.Decides.{nat_tests}
use Rattle.cc_base.specs.Lattices.{LatticeOf, OrderLaws}
use Rattle.cc_base.specs.IntegerDomains.{IntegersOf, BoundLaws}
use Rattle.cc_base.specs.NumberRanges.{Range, upper_or}
use Rattle.pointer_domain.specs.declared.base_sets.Bases.{Bases}
use Rattle.pointer_domain.specs.declared.pointer_sets.Pointers.{Pointers}
use Rattle.pointer_domain.specs.PointerTables.{offsets}
use Rattle.value_domain.specs.Strings.FirstZeros.{the_end}
use Rattle.domain_theorems.proofs.values.Flags.{Sets}
use Rattle.domain_theorems.proofs.values.Parts.{PointersBelow}
use Rattle.domain_theorems.proofs.values.Ranges.{RangeBelow}
use Rattle.store_cells.specs.declared.access_windows.Window.{Window}
use Rattle.store_cells.specs.AccessWindows.{last_offset, window_between, window_within, window_met, added_ranges}
use Rattle.store_monotone.specs.Operations.Placements.{WindowWithin}
use Rattle.store_monotone.specs.Operations.TopCells.{top_value}
use Rattle.store_monotone.proofs.operations.Windows.{WindowsBelow}
use Rattle.transfer_checks.specs.LibraryArguments.{touched_from, end_of, touched_window}
use Rattle.transfer_library.specs.StringCalls.{window_from_place, window_from_offset, window_behind, append_start, append_window}
use Rattle.system_monotone.proofs.library_writes.WriteTargets.{window_is_of, touched_first}
use Rattle.system_monotone.proofs.library_writes.CallTargets.{offsets_near}

-- ---- larger windows

-- the bytes from a place on, and those of the same window
met_within : (w u : Window) → WindowWithin w u → (lo : ℕ) → WindowsBelow (window_met w lo last_offset) (Some u)
met_within w u h lo = by_met (nat_le (max w.lo lo) (min w.hi last_offset)) refl
  where
    by_met : (z : Bool) → nat_le (max w.lo lo) (min w.hi last_offset) ≡ z → WindowsBelow (cond z (Some (window_between (max w.lo lo) (min w.hi last_offset))) None) (Some u)
    by_met false e = tt
    by_met true e = let t = leb-true (max w.lo lo) (min w.hi last_offset) e in let a = h.lo in let c = h.hi in let d = h.near in record { lo = omega arith; some = t; hi = omega arith; near = d }

met_more : (w u : Window) → WindowWithin w u → (lo first : ℕ) → first ≤ lo → WindowsBelow (window_met w lo last_offset) (window_met u first last_offset)
met_more w u h lo first k = by_met (nat_le (max w.lo lo) (min w.hi last_offset)) refl (nat_le (max u.lo first) (min u.hi last_offset)) refl
  where
    by_met : (y : Bool) → nat_le (max w.lo lo) (min w.hi last_offset) ≡ y → (z : Bool) → nat_le (max u.lo first) (min u.hi last_offset) ≡ z
        → WindowsBelow (cond y (Some (window_between (max w.lo lo) (min w.hi last_offset))) None) (cond z (Some (window_between (max u.lo first) (min u.hi last_offset))) None)
    by_met false d z e = tt
    by_met true d true e = let t = leb-true (max w.lo lo) (min w.hi last_offset) d in let a = h.lo in let c = h.hi in record { lo = omega arith; some = t; hi = omega arith; near = omega arith }
    by_met true d false e = let t = leb-true (max w.lo lo) (min w.hi last_offset) d in let s = leb-false (max u.lo first) (min u.hi last_offset) e in let a = h.lo in let c = h.hi in absurd (omega arith)

place_within : (w u : Window) → WindowWithin w u → (lo : ℤ) → WindowsBelow (window_from_place w lo) (Some u)
place_within w u h (negsuc m) = tt
place_within w u h (pos lo) = by_far (nat_lt last_offset lo)
  where
    by_far : (z : Bool) → WindowsBelow (cond z None (window_met w lo last_offset)) (Some u)
    by_far true = tt
    by_far false = met_within w u h lo

place_more : (w u : Window) → WindowWithin w u → (lo first : ℤ) → pos 0 ≤ℤ first → first ≤ℤ lo → WindowsBelow (window_from_place w lo) (window_from_place u first)
place_more w u h (negsuc m) first i k = tt
place_more w u h (pos lo) (negsuc m) i k = absurd (omega (arith, ints))
place_more w u h (pos lo) (pos first) i k = by_far (nat_lt last_offset lo) (nat_lt last_offset first) (far lo first (omega (arith, ints)))
  where
    far : (a c : ℕ) → c ≤ a → Sets (nat_lt last_offset c) (nat_lt last_offset a)
    far a c h e = grind (arith, nat_tests)

    by_far : (y z : Bool) → Sets z y → WindowsBelow (cond y None (window_met w lo last_offset)) (cond z None (window_met u first last_offset))
    by_far true z s = tt
    by_far false true s = absurd (let t : false ≡ true = s refl in cc)
    by_far false false s = met_more w u h lo first (omega (arith, ints))

not_below : (a : ℤ) → int_lt a (pos 0) ≡ false → pos 0 ≤ℤ a
not_below a h = grind (arith, ints)

below_zero : (a : ℤ) → int_lt a (pos 0) ≡ true → a ≤ℤ negsuc 0
below_zero a h = grind (arith, ints)

offset_more : (w u : Window) → WindowWithin w u → (lo first : ℤ) → first ≤ℤ lo → WindowsBelow (window_from_offset w lo) (window_from_offset u first)
offset_more w u h lo first k = by_sign (int_lt lo (pos 0)) refl (int_lt first (pos 0)) refl
  where
    by_sign : (y : Bool) → int_lt lo (pos 0) ≡ y → (z : Bool) → int_lt first (pos 0) ≡ z → WindowsBelow (cond y (Some w) (window_from_place w lo)) (cond z (Some u) (window_from_place u first))
    by_sign true d true e = h
    by_sign true d false e = let a = below_zero lo d in let c = not_below first e in absurd (omega (arith, ints))
    by_sign false d true e = place_within w u h lo
    by_sign false d false e = place_more w u h lo first (not_below first e) k

-- the bytes behind more starts
pub behind_more : (w u : Option Window) → WindowsBelow w u → (x y : Range) → RangeBelow x y → WindowsBelow (window_behind w x) (window_behind u y)
behind_more None u h x y i = tt
behind_more (Some w) None h x y i = absurd h
behind_more (Some w) (Some u) h None y i = tt
behind_more (Some w) (Some u) h (Some x) None i = absurd i
behind_more (Some w) (Some u) h (Some x) (Some y) i = offset_more w u h x.0 y.0 i.0

-- ---- the first byte

-- a window that begins at the least of the starts
record BeginsAt (lo : ℤ) (w : Window) : Type 0 where
  least : pos w.lo ≤ℤ int_max lo (pos 0)
  most : int_max lo (pos 0) ≤ℤ pos w.lo

begins_at : (t : Window) (lo : ℤ) (w : Window) → pos t.lo ≤ℤ int_max lo (pos 0) → window_from_offset t lo ≡ Some w → BeginsAt lo w
begins_at t lo w h e = by_sign (int_lt lo (pos 0)) refl e
  where
    same_window : (a c : Window) → Some a ≡ Some c → a ≡ c
    same_window a c f = cc

    from_place : (lo : ℤ) → pos 0 ≤ℤ lo → pos t.lo ≤ℤ int_max lo (pos 0) → window_from_place t lo ≡ Some w → BeginsAt lo w
    from_place (negsuc m) i h f = absurd (omega (arith, ints))
    from_place (pos m) i h f = by_far (nat_lt last_offset m) f
      where
        by_met : (z : Bool) → cond z (Some (window_between (max t.lo m) (min t.hi last_offset))) None ≡ Some w → BeginsAt (pos m) w
        by_met false f = absurd (cc)
        by_met true f = let g : max t.lo m ≡ w.lo = ap (λ (x : Window). x.lo) (same_window (window_between (max t.lo m) (min t.hi last_offset)) w f) in record { least = omega (arith, ints, clamps); most = omega (arith, ints, clamps) }

        by_far : (z : Bool) → cond z None (window_met t m last_offset) ≡ Some w → BeginsAt (pos m) w
        by_far true f = absurd (cc)
        by_far false f = by_met (nat_le (max t.lo m) (min t.hi last_offset)) f

    by_sign : (z : Bool) → int_lt lo (pos 0) ≡ z → cond z (Some t) (window_from_place t lo) ≡ Some w → BeginsAt lo w
    by_sign true d f = let a = below_zero lo d in let g : t.lo ≡ w.lo = ap (λ (x : Window). x.lo) (same_window t w f) in record { least = omega (arith, ints, clamps); most = omega (arith, ints, clamps) }
    by_sign false d f = from_place lo (not_below lo d) h f

-- starts behind a text that is there are not before its offsets
behind_offset : (a c : ℤ) → negsuc (2 ^ 99) ≤ℤ a → a ≤ℤ pos (2 ^ 99) → pos 0 ≤ℤ c → a ≤ℤ saturate_signed w128 (a +ℤ c)
behind_offset a c h i k = above (a +ℤ c) (omega (arith, ints))
  where
    above : (z : ℤ) → a ≤ℤ z → a ≤ℤ saturate_signed w128 z
    above (pos z) j = omega (arith, ints)
    above (negsuc z) j = omega (arith, ints)

module _ {I : Type 0} {l : LatticeOf I} {n : IntegersOf I} {stands : I → ℤ → Type 0} (o : OrderLaws l) (b : BoundLaws l n stands) (all : Bases) where
  -- the first byte that is written is where the text may begin
  pub append_first : (p : Pointers I) → PointersBelow l p (top_value n all).pointer → (there : I) → RangeBelow (n.bounds there) (Some (pos 0, the_end)) → (count : Range) (s w : Window) → window_within (append_start n p there) ≡ Some s → append_window n p there count ≡ Some w → w.lo ≡ s.lo
  unfolding touched_window
  append_first p d there lengths count s w e f = by_parts (offsets n p) refl (n.bounds there) lengths e f
    where
      by_parts : (x : Range) → offsets n p ≡ x → (y : Range) → RangeBelow y (Some (pos 0, the_end)) → window_within (added_ranges x y) ≡ Some s → window_behind (touched_from x (upper_or (pos 0) count) (end_of n p)) (added_ranges x y) ≡ Some w → w.lo ≡ s.lo
      by_parts None z y i e f = absurd (cc)
      by_parts (Some x) z None i e f = absurd (cc)
      by_parts (Some x) z (Some y) i e f = by_touched (touched_from (Some x) (upper_or (pos 0) count) (end_of n p)) refl f
        where
          starts : Range
          starts = Some (saturate_signed w128 (x.0 +ℤ y.0), saturate_signed w128 (x.1 +ℤ y.1))

          by_touched : (t : Option Window) → touched_from (Some x) (upper_or (pos 0) count) (end_of n p) ≡ t → window_behind t (added_ranges (Some x) (Some y)) ≡ Some w → w.lo ≡ s.lo
          by_touched None g f = absurd (cc)
          by_touched (Some t) g f =
              let near = offsets_near o b all p d x z in
              let first = touched_first x (upper_or (pos 0) count) (end_of n p) t g in
              let behind = behind_offset x.0 y.0 near.low (let a = near.order in let c = near.high in omega (arith, ints)) i.0 in
              let at = begins_at t (saturate_signed w128 (x.0 +ℤ y.0)) w (omega (arith, ints, clamps)) f in
              let is = window_is_of (saturate_signed w128 (x.0 +ℤ y.0), saturate_signed w128 (x.1 +ℤ y.1)) s e in
              let a = at.least in let c = at.most in let u = is.lo_least in let v = is.lo_most in
              omega (arith, ints)
