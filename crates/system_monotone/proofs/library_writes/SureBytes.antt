-- The bytes that a call surely sets, in rising rows.
use Rattle.std.specs.Prelude.{◌≡◌, ℕ, ◌≤◌, ◌^◌, ◌-◌, ℤ, pos, negsuc, ◌+ℤ◌, ◌-ℤ◌, ◌≤ℤ◌, int_le, int_lt, Bool, true, false, cond, Some, None, is_some, refl}
use Rattle.std.specs.Int.{w128, saturate_signed, int_min, int_max}
use Rattle.std.proofs.Common.{arith, sym, subst}
use Rattle.std.proofs.lemmas.Int.{ints, clamps}
use Rattle.cc_base.specs.Lattices.{LatticeOf, OrderLaws}
use Rattle.cc_base.specs.IntegerDomains.{IntegersOf, BoundLaws}
use Rattle.cc_base.specs.NumberRanges.{Range, range_sum, range_difference, range_clamped, range_met, upper_or}
use Rattle.pointer_domain.specs.declared.base_sets.Bases.{Bases}
use Rattle.pointer_domain.specs.declared.pointer_sets.Pointers.{Pointers}
use Rattle.pointer_domain.specs.PointerLattice.{no_pointer}
use Rattle.pointer_domain.specs.PointerTables.{offsets, rooms}
use Rattle.value_domain.specs.Strings.FirstZeros.{the_end}
use Rattle.domain_theorems.proofs.values.Flags.{Sets}
use Rattle.domain_theorems.proofs.values.Parts.{PointersBelow}
use Rattle.domain_theorems.proofs.values.Ranges.{RangeBelow}
use Rattle.store_cells.specs.declared.access_windows.Window.{Window}
use Rattle.store_cells.specs.AccessWindows.{last_offset, window_within}
use Rattle.store_cells.specs.NearValues.{near_number, near_pointer}
use Rattle.store_monotone.specs.Operations.TopCells.{top_number, top_value}
use Rattle.store_monotone.proofs.operations.AddedRanges.{saturate_monotone}
use Rattle.store_monotone.proofs.operations.NearCells.{near_is}
use Rattle.store_monotone.proofs.operations.Windows.{WindowsBelow, within_monotone}
use Rattle.transfer_checks.specs.LibraryArguments.{within_bases, last_touched, touched_from, touched_window, cut_by}
use Rattle.transfer_checks.specs.Touches.{is_nowhere}
use Rattle.transfer_library.specs.MemoryCalls.{last_sure, sure_between, sure_window, lower_of}
use Rattle.transfer_monotone.proofs.values.Touches.{near_bounds}
use Rattle.system_monotone.proofs.library_writes.WriteTargets.{window_is_of, between_of}
use Rattle.system_monotone.proofs.library_writes.CallTargets.{NearOffsets}

-- ---- fewer bytes surely, of more places and counts

between_more : (hi more last less : ℤ) → hi ≤ℤ more → less ≤ℤ last → WindowsBelow (sure_between more less) (sure_between hi last)
between_more hi more last less h k = by_order (int_le more less) (int_le hi last) within
  where
    within : Sets (int_le more less) (int_le hi last)
    within e = grind (arith, ints)

    by_order : (a c : Bool) → Sets a c → WindowsBelow (cond a (window_within (Some (more, less))) None) (cond c (window_within (Some (hi, last))) None)
    by_order false c s = tt
    by_order true false s = absurd (let z : false ≡ true = s refl in cc)
    by_order true true s = within_monotone (Some (more, less)) (Some (hi, last)) (h, k)

last_less : (a c d e : ℤ) → a ≤ℤ c → d ≤ℤ e → last_sure a d ≤ℤ last_sure c e
last_less a c d e h k =
    let sums : saturate_signed w128 (a +ℤ d) ≤ℤ saturate_signed w128 (c +ℤ e) = saturate_monotone (a +ℤ d) (c +ℤ e) (omega (arith, ints)) in
    saturate_monotone (saturate_signed w128 (a +ℤ d) -ℤ pos 1) (saturate_signed w128 (c +ℤ e) -ℤ pos 1) (omega (arith, ints))

pub sure_more : (x y u v : Range) → is_some x ≡ true → is_some y ≡ true → RangeBelow x u → RangeBelow y v → WindowsBelow (sure_window u v) (sure_window x y)
sure_more None y u v d e h k = absurd (cc)
sure_more (Some p) None u v d e h k = absurd (cc)
sure_more (Some p) (Some q) None v d e h k = absurd h
sure_more (Some p) (Some q) (Some s) None d e h k = absurd k
sure_more (Some p) (Some q) (Some s) (Some t) d e h k = between_more p.1 s.1 (last_sure p.0 q.0) (last_sure s.0 t.0) h.1 (last_less s.0 p.0 t.0 q.0 h.0 k.0)

-- ---- no byte surely

near_sum : (z : ℤ) → negsuc (2 ^ 110) ≤ℤ z → z ≤ℤ pos (2 ^ 110) → (z ≤ℤ saturate_signed w128 z) × (saturate_signed w128 z ≤ℤ z)
near_sum (pos z) h k = (omega (arith, ints), omega (arith, ints))
near_sum (negsuc z) h k = (omega (arith, ints), omega (arith, ints))

-- the last byte of so many from an offset on
last_is : (a c : ℤ) → negsuc (2 ^ 100) ≤ℤ a → a ≤ℤ pos (2 ^ 100) → negsuc (2 ^ 100) ≤ℤ c → c ≤ℤ pos (2 ^ 100) → (last_sure a c ≤ℤ ((a +ℤ c) -ℤ pos 1)) × (((a +ℤ c) -ℤ pos 1) ≤ℤ last_sure a c)
last_is a c h i j k =
    let sum = near_sum (a +ℤ c) (omega (arith, ints)) (omega (arith, ints)) in
    let s0 = sum.0 in let s1 = sum.1 in
    let last = near_sum (saturate_signed w128 (a +ℤ c) -ℤ pos 1) (omega (arith, ints)) (omega (arith, ints)) in
    let l0 = last.0 in let l1 = last.1 in
    (omega (arith, ints), omega (arith, ints))

-- counts that are cut by rooms
pub record IsCount (c : ℤ × ℤ) : Type 0 where
  pub least : pos 0 ≤ℤ c.0
  pub order : c.0 ≤ℤ c.1
  pub most : c.1 ≤ℤ pos (2 ^ 64)

idle_none : (p c : ℤ × ℤ) → NearOffsets p → IsCount c → int_le (pos 1) c.0 ≡ false → sure_between p.1 (last_sure p.0 c.0) ≡ None
idle_none p c near count e = by_order (int_le p.1 (last_sure p.0 c.0)) refl
  where
    none : p.1 ≤ℤ last_sure p.0 c.0 → ⊥
    none h =
        let a = near.low in let d = near.order in let f = near.high in
        let u = count.least in let v = count.order in let w = count.most in
        let last = last_is p.0 c.0 (omega (arith, ints)) (omega (arith, ints)) (omega (arith, ints)) (omega (arith, ints)) in
        let last0 = last.0 in
        let z : c.0 ≤ℤ pos 0 = at_most c.0 e in
        absurd (omega (arith, ints))
      where
        at_most : (a : ℤ) → int_le (pos 1) a ≡ false → a ≤ℤ pos 0
        at_most a h = grind (arith, ints)

    in_order : (a c : ℤ) → int_le a c ≡ true → a ≤ℤ c
    in_order a c h = grind (arith, ints)

    by_order : (z : Bool) → int_le p.1 (last_sure p.0 c.0) ≡ z → cond z (window_within (Some (p.1, last_sure p.0 c.0))) None ≡ None
    by_order true q = absurd (none (in_order p.1 (last_sure p.0 c.0) q))
    by_order false q = refl

pub idle_sure : (x y : Range) → ((p : ℤ × ℤ) → x ≡ Some p → NearOffsets p) → ((c : ℤ × ℤ) → y ≡ Some c → IsCount c) → int_le (pos 1) (lower_of y) ≡ false → sure_window x y ≡ None
idle_sure None y near count e = refl
idle_sure (Some p) None near count e = refl
idle_sure (Some p) (Some c) near count e = idle_none p c (near p refl) (count c refl) e

-- ---- counts that are cut

met_count : (need : ℤ × ℤ) (room : ℤ) → room ≤ℤ pos (2 ^ 64) → (z : Bool) → int_le (int_max need.0 (pos 0)) (int_min need.1 room) ≡ z → (c : ℤ × ℤ) → cond {A = Range} z (Some (int_max need.0 (pos 0), int_min need.1 room)) None ≡ Some c → IsCount c × (c.1 ≤ℤ room)
met_count need room h false e c f = absurd (cc)
met_count need room h true e c f = subst (λ d. IsCount d × (d.1 ≤ℤ room)) (same (int_max need.0 (pos 0), int_min need.1 room) c f)
    (record { least = omega (arith, ints, clamps); order = in_order (int_max need.0 (pos 0)) (int_min need.1 room) e; most = omega (arith, ints, clamps) }, omega (arith, ints, clamps))
  where
    same : (x y : ℤ × ℤ) → Some x ≡ Some y → x ≡ y
    same x y e = cc

    in_order : (a c : ℤ) → int_le a c ≡ true → a ≤ℤ c
    in_order a c h = grind (arith, ints)

-- a count that is cut is none of more than the room
cut_count : (need : Range) (room : ℤ × ℤ) → RangeBelow (Some room) (Some (pos 0, the_end)) → (c : ℤ × ℤ) → cut_by need (Some room) ≡ Some c → IsCount c × (c.1 ≤ℤ room.1)
cut_count None room h c e = absurd (cc)
cut_count (Some need) room h c e = met_count need room.1 h.1 (int_le (int_max need.0 (pos 0)) (int_min need.1 room.1)) refl c e

pub cut_is_count : (need room : Range) → RangeBelow room (Some (pos 0, the_end)) → (c : ℤ × ℤ) → cut_by need room ≡ Some c → IsCount c
cut_is_count need None h c e = absurd (cc)
cut_is_count need (Some room) h c e = (cut_count need room h c e).0

-- ---- sure bytes are among those that may be touched

-- the numbers: offsets, a count, and the end behind which there is nothing
last_within : (p c : ℤ × ℤ) (end : ℤ) → NearOffsets p → IsCount c → negsuc (2 ^ 100) ≤ℤ end → end ≤ℤ pos (2 ^ 100) → (p.0 +ℤ c.0) ≤ℤ end → last_sure p.0 c.0 ≤ℤ last_touched p.1 c.1 end
last_within p c end near count h k fits =
    let a = near.low in let d = near.order in let f = near.high in
    let u = count.least in let v = count.order in let w = count.most in
    let last = last_is p.0 c.0 (omega (arith, ints)) (omega (arith, ints)) (omega (arith, ints)) (omega (arith, ints)) in
    let last0 = last.0 in
    let less = near_sum (c.1 -ℤ pos 1) (omega (arith, ints)) (omega (arith, ints)) in
    let less0 = less.0 in let less1 = less.1 in
    let sum = near_sum (p.1 +ℤ saturate_signed w128 (c.1 -ℤ pos 1)) (omega (arith, ints)) (omega (arith, ints)) in
    let sum0 = sum.0 in
    let ends = near_sum (end -ℤ pos 1) (omega (arith, ints)) (omega (arith, ints)) in
    let ends0 = ends.0 in
    omega (arith, ints, clamps)

-- the window of the sure bytes, in that of the bytes that may be touched
sure_within : (p c : ℤ × ℤ) (end : ℤ) (a w : Window) → NearOffsets p → (p.1 ≤ℤ last_sure p.0 c.0 → last_sure p.0 c.0 ≤ℤ last_touched p.1 c.1 end) → sure_between p.1 (last_sure p.0 c.0) ≡ Some a → touched_from (Some p) c.1 end ≡ Some w → (w.lo ≤ a.lo) × (a.hi ≤ w.hi)
sure_within p c end a w near last e f = by_order (int_le p.1 (last_sure p.0 c.0)) refl e (int_lt c.1 (pos 1)) f
  where
    in_order : (a c : ℤ) → int_le a c ≡ true → a ≤ℤ c
    in_order a c h = grind (arith, ints)

    by_order : (z : Bool) → int_le p.1 (last_sure p.0 c.0) ≡ z → cond z (window_within (Some (p.1, last_sure p.0 c.0))) None ≡ Some a
        → (y : Bool) → cond y None (window_within (range_met (Some (p.0, last_touched p.1 c.1 end)) p.0 (last_touched p.1 c.1 end))) ≡ Some w → (w.lo ≤ a.lo) × (a.hi ≤ w.hi)
    by_order false q e y f = absurd (cc)
    by_order true q e true f = absurd (cc)
    by_order true q e false f =
        let sure = window_is_of (p.1, last_sure p.0 c.0) a e in
        let touched = between_of p.0 (last_touched p.1 c.1 end) w f in
        let less = last (in_order p.1 (last_sure p.0 c.0) q) in
        let order = near.order in
        let s0 = sure.lo_least in let s1 = sure.lo_most in let s2 = sure.hi_least in let s3 = sure.hi_most in
        let t0 = touched.lo_least in let t1 = touched.lo_most in let t2 = touched.hi_least in let t3 = touched.hi_most in
        (below_lo w.lo a.lo (int_max p.0 (pos 0)) (int_max p.1 (pos 0)) t0 s1 (omega (arith, ints, clamps)), below_lo a.hi w.hi (int_min (last_sure p.0 c.0) (pos last_offset)) (int_min (last_touched p.1 c.1 end) (pos last_offset)) s2 t3 (omega (arith, ints, clamps)))
      where
        below_lo : (x y : ℕ) (u v : ℤ) → pos x ≤ℤ u → v ≤ℤ pos y → u ≤ℤ v → x ≤ y
        below_lo x y u v h i j = omega (arith, ints)

module _ {I : Type 0} {l : LatticeOf I} {n : IntegersOf I} {stands : I → ℤ → Type 0} (o : OrderLaws l) (b : BoundLaws l n stands) (all : Bases) where
  -- the offsets and the end of an own pointer, where a count is cut by its room
  room_fits : (lo rel len : ℤ × ℤ) → RangeBelow (Some lo) (Some (negsuc (2 ^ 64 - 1), pos (2 ^ 64))) → lo.0 ≤ℤ lo.1 → RangeBelow (Some rel) (Some (negsuc (2 ^ 64 - 1), pos (2 ^ 64))) → rel.0 ≤ℤ rel.1 → RangeBelow (Some len) (Some (negsuc (2 ^ 64 - 1), pos (2 ^ 64))) → len.0 ≤ℤ len.1
      → (c : ℤ × ℤ) → IsCount c → c.1 ≤ℤ int_min (int_max (len.1 -ℤ rel.0) (pos 0)) the_end → (lo.1 +ℤ rel.1) ≤ℤ last_sure (lo.0 +ℤ rel.0) c.0 → last_sure (lo.0 +ℤ rel.0) c.0 ≤ℤ last_touched (lo.1 +ℤ rel.1) c.1 (saturate_signed w128 (lo.1 +ℤ len.1))
  room_fits lo rel len near_lo order_lo near_rel order_rel near_len order_len c count most some =
      let a = near_lo.0 in let a1 = near_lo.1 in let d = near_rel.0 in let d1 = near_rel.1 in let f = near_len.0 in let f1 = near_len.1 in
      let u = count.least in let v = count.order in let w = count.most in
      let near : NearOffsets (lo.0 +ℤ rel.0, lo.1 +ℤ rel.1) = record { low = omega (arith, ints); order = omega (arith, ints); high = omega (arith, ints) } in
      let last = last_is (lo.0 +ℤ rel.0) c.0 (omega (arith, ints)) (omega (arith, ints)) (omega (arith, ints)) (omega (arith, ints)) in
      let last0 = last.0 in
      let end = near_sum (lo.1 +ℤ len.1) (omega (arith, ints)) (omega (arith, ints)) in
      let end0 = end.0 in let end1 = end.1 in
      last_within (lo.0 +ℤ rel.0, lo.1 +ℤ rel.1) c (saturate_signed w128 (lo.1 +ℤ len.1)) near count (omega (arith, ints)) (omega (arith, ints)) (omega (arith, ints, clamps))

  -- what a call surely sets is what it may touch
  pub sure_in : (p : Pointers I) → PointersBelow l p (top_value n all).pointer → (need : Range) (a w : Window) → sure_window (offsets n p) (cut_by need (rooms n p)) ≡ Some a → touched_window n p (cut_by need (rooms n p)) ≡ Some w → (w.lo ≤ a.lo) × (a.hi ≤ w.hi)
  unfolding touched_window
  sure_in p d need a w e f = by_bounds (n.bounds p.lo) (n.bounds p.rel) (n.bounds p.len) refl refl refl e f
    where
      near : (x : I) → l.leq x (top_number n) ≡ true → (r : ℤ × ℤ) → n.bounds x ≡ Some r → RangeBelow (Some r) (Some (negsuc (2 ^ 64 - 1), pos (2 ^ 64)))
      near x h r g = subst (λ z. RangeBelow z (Some (negsuc (2 ^ 64 - 1), pos (2 ^ 64)))) g (near_bounds o b all x h)

      by_count : (lo rel len : ℤ × ℤ) → n.bounds p.lo ≡ Some lo → n.bounds p.rel ≡ Some rel → n.bounds p.len ≡ Some len → (x : Range) → cut_by need (range_clamped (range_difference (Some len) (Some rel)) (pos 0) the_end) ≡ x
          → sure_window (Some (lo.0 +ℤ rel.0, lo.1 +ℤ rel.1)) x ≡ Some a → touched_from (Some (lo.0 +ℤ rel.0, lo.1 +ℤ rel.1)) (upper_or (pos 0) x) (saturate_signed w128 (lo.1 +ℤ len.1)) ≡ Some w → (w.lo ≤ a.lo) × (a.hi ≤ w.hi)
      by_count lo rel len g h i None c e f = absurd (cc)
      by_count lo rel len g h i (Some x) c e f =
          let cut = cut_count need (int_min (int_max (len.0 -ℤ rel.1) (pos 0)) the_end, int_min (int_max (len.1 -ℤ rel.0) (pos 0)) the_end) (omega (arith, ints, clamps), omega (arith, ints, clamps)) x c in
          let near_lo = near p.lo d.lo lo g in
          let near_rel = near p.rel d.rel rel h in
          let order_lo = b.proper p.lo lo.0 lo.1 g in
          let order_rel = b.proper p.rel rel.0 rel.1 h in
          let a0 = near_lo.0 in let a1 = near_lo.1 in let r0 = near_rel.0 in let r1 = near_rel.1 in
          sure_within (lo.0 +ℤ rel.0, lo.1 +ℤ rel.1) x (saturate_signed w128 (lo.1 +ℤ len.1)) a w (record { low = omega (arith, ints); order = omega (arith, ints); high = omega (arith, ints) })
          (λ some. room_fits lo rel len near_lo order_lo near_rel order_rel (near p.len d.len len i) (b.proper p.len len.0 len.1 i) x cut.0 cut.1 some) e f

      by_bounds : (lo rel len : Range) → n.bounds p.lo ≡ lo → n.bounds p.rel ≡ rel → n.bounds p.len ≡ len → sure_window (range_sum lo rel) (cut_by need (range_clamped (range_difference len rel) (pos 0) the_end)) ≡ Some a
          → touched_from (range_sum lo rel) (upper_or (pos 0) (cut_by need (range_clamped (range_difference len rel) (pos 0) the_end))) (saturate_signed w128 (upper_or (pos 0) lo +ℤ upper_or (pos 0) len)) ≡ Some w → (w.lo ≤ a.lo) × (a.hi ≤ w.hi)
      by_bounds None rel len g h i e f = absurd (cc)
      by_bounds (Some lo) None len g h i e f = absurd (cc)
      by_bounds (Some lo) (Some rel) None g h i e f = absurd (cc)
      by_bounds (Some lo) (Some rel) (Some len) g h i e f = by_count lo rel len g h i (cut_by need (range_clamped (range_difference (Some len) (Some rel)) (pos 0) the_end)) refl e f

  -- ---- pointers into a set of bases have the room of all

  none_offsets : (x y : I) → n.bounds x ≡ None → is_some (range_sum (n.bounds x) (n.bounds y)) ≡ true → ⊥
  none_offsets x y e h = let f : is_some (range_sum None (n.bounds y)) ≡ true = subst (λ r. is_some (range_sum r (n.bounds y)) ≡ true) e h in absurd (cc)

  pub same_room : (q : Pointers I) → PointersBelow l q (top_value n all).pointer → (set : Bases) → is_some (offsets n (within_bases l n q set)) ≡ true → rooms n (within_bases l n q set) ≡ rooms n q
  same_room q d set = by_places (is_nowhere n set q.rel)
    where
      least_near : n.bounds (near_number l n l.least) ≡ None
      least_near = subst (λ x. n.bounds x ≡ None) (sym (near_is o b l.least (o.least_below (top_number n)))) b.least_bounds

      by_places : (z : Bool) → is_some (offsets n (near_pointer l n (cond z (no_pointer l) (record q { bases = set; rel = q.rel; null = false; ended = false })))) ≡ true
          → rooms n (near_pointer l n (cond z (no_pointer l) (record q { bases = set; rel = q.rel; null = false; ended = false }))) ≡ rooms n q
      by_places true h = absurd (none_offsets (near_number l n l.least) (near_number l n l.least) least_near h)
      by_places false h = let rel = near_is o b q.rel d.rel in let len = near_is o b q.len d.len in λ i. range_clamped (range_difference (n.bounds (len i)) (n.bounds (rel i))) (pos 0) the_end
