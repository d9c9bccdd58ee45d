-- Targets of calls and plans, in rising rows.
use Rattle.std.specs.Prelude.{◌≡◌, ℕ, ◌≤◌, ◌^◌, ◌-◌, ℤ, pos, negsuc, ◌+ℤ◌, ◌≤ℤ◌, int_le, int_lt, Bool, true, false, cond, not, Option, Some, None, is_some, List, refl}
use Rattle.std.proofs.Common.{arith, subst, subst₂}
use Rattle.std.proofs.lemmas.Int.{ints}
use Rattle.cc_base.specs.Lattices.{LatticeOf, OrderLaws}
use Rattle.cc_base.specs.IntegerDomains.{IntegersOf, BoundLaws, RangeLaws}
use Rattle.cc_base.specs.IntegerLaws.{MonotoneLaws}
use Rattle.cc_base.specs.NumberRanges.{Range, range_sum, range_met, upper_or}
use Rattle.cfg.specs.declared.programs.Flow.{Flow}
use Rattle.pointer_domain.specs.declared.base_sets.Bases.{Bases}
use Rattle.pointer_domain.specs.declared.pointer_sets.Pointers.{Pointers}
use Rattle.pointer_domain.specs.BaseSets.{bases_empty}
use Rattle.pointer_domain.specs.PointerTables.{offsets}
use Rattle.value_domain.specs.declared.values.row_cells.Cell.{Cell}
use Rattle.domain_theorems.proofs.values.Flags.{Sets}
use Rattle.domain_theorems.proofs.values.Parts.{PointersBelow, pointer_parts}
use Rattle.domain_theorems.proofs.values.Ranges.{RangeBelow, range_refl}
use Rattle.store_cells.specs.declared.access_windows.Window.{Window}
use Rattle.store_cells.specs.AccessWindows.{window_within}
use Rattle.store_objects.specs.LiveBases.{writable_of}
use Rattle.store_monotone.specs.Operations.Placements.{WindowWithin}
use Rattle.store_monotone.specs.Operations.TopCells.{top_value}
use Rattle.store_monotone.specs.Operations.TopRows.{top_row}
use Rattle.store_monotone.proofs.operations.Windows.{WindowsBelow, within_monotone}
use Rattle.transfer_checks.specs.LibraryArguments.{after_write, writes_literal, last_touched, touched_from, end_of, touched_window, passes_room, cut_by_room}
use Rattle.transfer_library_plans.specs.declared.call_plans.Effect.{Effect}
use Rattle.transfer_library_plans.specs.declared.call_plans.Effect.TheVariants as effect
use Rattle.transfer_library_plans.specs.declared.call_plans.Trail.{Trail}
use Rattle.transfer_library.specs.declared.memory_calls.Target.{Target}
use Rattle.transfer_library_plans.specs.Plans.{planned}
use Rattle.transfer_library.specs.MemoryCalls.{lower_of, is_one_byte, room_trail, target_of}
use Rattle.transfer_library_plans.specs.Arguments.{room_violations, literal_violations}
use Rattle.transfer_library.specs.Effects.{apply}
use Rattle.transfer_system.specs.CallSteps.{call_of, goes_on}
use Rattle.transfer_monotone.specs.Values.RisingRows.{LeftRise, PointersRise}
use Rattle.transfer_monotone.specs.Values.LaidOut.{IsLaidOut}
use Rattle.transfer_monotone.proofs.values.Results.{smaller_own}
use Rattle.transfer_monotone.proofs.values.Touches.{near_bounds}
use Rattle.transfer_monotone.proofs.library.Scans.{same_range}
use Rattle.transfer_monotone.proofs.library.Trails.{TrailsBelow, checked_on}
use Rattle.system_monotone.specs.LibraryWrites.TextOrder.{StartsBelow}
use Rattle.system_monotone.proofs.library_writes.WriteTargets.{TargetsRise, target_rises, from_start, one_from_start, cut_rises, room_below}
use Rattle.system_monotone.proofs.library_writes.WrittenBases.{some_base_of, target_written}

-- ---- windows

pub some_of_window : (r : Range) (w : Window) → window_within r ≡ Some w → is_some r ≡ true
some_of_window None w e = absurd (cc)
some_of_window (Some p) w e = refl

-- the windows that are there
pub windows_at : (x u : Option Window) → WindowsBelow x u → (w v : Window) → x ≡ Some w → u ≡ Some v → WindowWithin w v
windows_at x u h w v e f = subst₂ (λ y z. WindowsBelow y z) e f h

pub within_same : (r : Range) → WindowsBelow (window_within r) (window_within r)
within_same r = within_monotone r r (range_refl r)

-- a larger count is of one byte at most only where a smaller one is
one_less : (x u : Range) → RangeBelow x u → Sets (is_one_byte u) (is_one_byte x)
one_less None u h e = refl
one_less (Some p) None h e = absurd h
one_less (Some p) (Some q) h e = less p.1 q.1 h.1 e
  where
    less : (a c : ℤ) → a ≤ℤ c → int_le c (pos 1) ≡ true → int_le a (pos 1) ≡ true
    less a c h e = grind (arith, ints)

one_count : (x : Range) → is_one_byte x ≡ true → upper_or (pos 0) x ≤ℤ pos 1
one_count x h = at_most (upper_or (pos 0) x) h
  where
    at_most : (a : ℤ) → int_le a (pos 1) ≡ true → a ≤ℤ pos 1
    at_most a h = grind (arith, ints)

module _ {I : Type 0} (n : IntegersOf I) where
  pub touched_same : (p : Pointers I) (x : Range) → WindowsBelow (touched_window n p x) (touched_window n p x)
  unfolding touched_window
  touched_same p x = by_offsets (offsets n p)
    where
      by_count : (c : Bool) (r : Range) → WindowsBelow (cond c None (window_within r)) (cond c None (window_within r))
      by_count true r = tt
      by_count false r = within_same r

      by_offsets : (z : Range) → WindowsBelow (touched_from z (upper_or (pos 0) x) (end_of n p)) (touched_from z (upper_or (pos 0) x) (end_of n p))
      by_offsets None = tt
      by_offsets (Some z) = by_count (int_lt (upper_or (pos 0) x) (pos 1)) (range_met (Some (z.0, last_touched z.1 (upper_or (pos 0) x) (end_of n p))) z.0 (last_touched z.1 (upper_or (pos 0) x) (end_of n p)))

  -- the first byte is where the target begins
  first_byte : (p : Pointers I) (x : Range) (s w : Window) → window_within (offsets n p) ≡ Some s → touched_window n p x ≡ Some w → w.lo ≡ s.lo
  unfolding touched_window
  first_byte p x s w e f = by_offsets (offsets n p) e f
    where
      by_offsets : (z : Range) → window_within z ≡ Some s → touched_from z (upper_or (pos 0) x) (end_of n p) ≡ Some w → w.lo ≡ s.lo
      by_offsets None e f = absurd (cc)
      by_offsets (Some z) e f = from_start z (upper_or (pos 0) x) (end_of n p) s w e f

-- offsets of own pointers, in order
pub record NearOffsets (a : ℤ × ℤ) : Type 0 where
  pub low : negsuc (2 ^ 99) ≤ℤ a.0
  pub order : a.0 ≤ℤ a.1
  pub high : a.1 ≤ℤ pos (2 ^ 99)

module _ {I : Type 0} {l : LatticeOf I} {n : IntegersOf I} {stands : I → ℤ → Type 0} (o : OrderLaws l) (b : BoundLaws l n stands) (all : Bases) where
  pub offsets_near : (p : Pointers I) → PointersBelow l p (top_value n all).pointer → (a : ℤ × ℤ) → offsets n p ≡ Some a → NearOffsets a
  offsets_near p d a e = by_bounds (n.bounds p.lo) (n.bounds p.rel) refl refl e
    where
      by_bounds : (x y : Range) → n.bounds p.lo ≡ x → n.bounds p.rel ≡ y → range_sum x y ≡ Some a → NearOffsets a
      by_bounds None y f h e = absurd (cc)
      by_bounds (Some x) None f h e = absurd (cc)
      by_bounds (Some x) (Some y) f h e =
          let lo : RangeBelow (Some x) (Some (negsuc (2 ^ 64 - 1), pos (2 ^ 64))) = subst (λ z. RangeBelow z (Some (negsuc (2 ^ 64 - 1), pos (2 ^ 64)))) f (near_bounds o b all p.lo d.lo) in
          let rel : RangeBelow (Some y) (Some (negsuc (2 ^ 64 - 1), pos (2 ^ 64))) = subst (λ z. RangeBelow z (Some (negsuc (2 ^ 64 - 1), pos (2 ^ 64)))) h (near_bounds o b all p.rel d.rel) in
          let u = b.proper p.lo x.0 x.1 f in
          let v = b.proper p.rel y.0 y.1 h in
          let l0 = lo.0 in let l1 = lo.1 in let r0 = rel.0 in let r1 = rel.1 in
          subst NearOffsets (same_range (x.0 +ℤ y.0, x.1 +ℤ y.1) a e) (record { low = omega (arith, ints); order = omega (arith, ints); high = omega (arith, ints) })

  -- one byte is where the target begins
  one_byte : (p : Pointers I) → PointersBelow l p (top_value n all).pointer → (x : Range) (s w : Window) → is_one_byte x ≡ true → window_within (offsets n p) ≡ Some s → touched_window n p x ≡ Some w → w.hi ≤ s.hi
  unfolding touched_window
  one_byte p d x s w one e f = by_offsets (offsets n p) refl e f
    where
      by_offsets : (z : Range) → offsets n p ≡ z → window_within z ≡ Some s → touched_from z (upper_or (pos 0) x) (end_of n p) ≡ Some w → w.hi ≤ s.hi
      by_offsets None a e f = absurd (cc)
      by_offsets (Some z) a e f = let near = offsets_near p d z a in one_from_start z (upper_or (pos 0) x) (end_of n p) s w (let c = near.low in let t = near.order in omega (arith, ints)) (one_count x one) e f

module _ {I : Type 0} {l : LatticeOf I} {n : IntegersOf I} {stands : I → ℤ → Type 0} (o : OrderLaws l) (b : BoundLaws l n stands) (g : MonotoneLaws l n) (r : RangeLaws l n) (all : Bases) (flow : Flow) (k : IsLaidOut all flow) where
  -- ---- plans

  module _ (to newest : Option ℕ) (p q : List (Cell I)) where
    pub planned_left : (s t : Trail) → TrailsBelow s t → (e d : Effect I) → (s.goes_on ≡ true → LeftRise l n (top_row n all flow.bases.items flow.temps) (apply l n flow to newest e p) (apply l n flow to newest d q))
        → LeftRise l n (top_row n all flow.bases.items flow.temps) (apply l n flow to newest (planned s e).effect p) (apply l n flow to newest (planned t d).effect q)
    unfolding apply
    planned_left s t h e d j = by_way s.goes_on t.goes_on refl h.on
      where
        by_way : (a c : Bool) → s.goes_on ≡ a → Sets a c → LeftRise l n (top_row n all flow.bases.items flow.temps) (apply l n flow to newest (cond a e effect.Unreached) p) (apply l n flow to newest (cond c d effect.Unreached) q)
        by_way true true f m = j f
        by_way true false f m = absurd (let z : false ≡ true = m refl in cc)
        by_way false c f m = tt

  pub planned_on : (s t : Trail) → TrailsBelow s t → (e d : Effect I) → (s.goes_on ≡ true → Sets (goes_on e) (goes_on d)) → Sets (goes_on (planned s e).effect) (goes_on (planned t d).effect)
  planned_on s t h e d j = by_way s.goes_on t.goes_on refl h.on
    where
      by_way : (a c : Bool) → s.goes_on ≡ a → Sets a c → Sets (goes_on (cond a e effect.Unreached)) (goes_on (cond c d effect.Unreached))
      by_way true true f m = j f
      by_way true false f m = absurd (let z : false ≡ true = m refl in cc)
      by_way false c f m = λ z. absurd (cc)

  -- ---- targets

  module _ (arguments : List ℕ) (wanted : Option ℕ) (s t : Trail) (below : TrailsBelow s t) (p q : Pointers I) (j : PointersRise l n all p q) (x u : Range) (i : RangeBelow x u) where
    abbrev pub small : Target I
    small = target_of l n (call_of flow arguments wanted) (room_trail n s p x) p (cut_by_room n x p)

    abbrev pub large : Target I
    large = target_of l n (call_of flow arguments wanted) (room_trail n t q u) q (cut_by_room n u q)

    pub targets : TargetsRise l n all small large
    targets = target_rises o b all p q j flow k arguments wanted (room_trail n s p x) (room_trail n t q u) (room_below o b all p q j s t below x u i) (cut_by_room n x p) (cut_by_room n u q) (cut_rises o b all p q j x u i)

    -- the call goes on only where there is room for some count
    pub counted : small.trail.goes_on ≡ true → is_some small.count ≡ true
    counted on = (checked_on s (room_violations (passes_room n x p)) (is_some small.count) (checked_on (room_trail n s p x) (literal_violations (writes_literal flow.bases.items p.bases small.count)) (not (bases_empty (after_write flow.bases.items p.bases small.count))) on).0).1

    pub small_own : PointersBelow l small.rest (top_value n all).pointer
    small_own = pointer_parts l small.rest (top_value n all).pointer (smaller_own o b all small.rest large.rest targets.rest)

    -- a target of at least a byte that begins somewhere is into bases that are written
    pub small_written : int_le (pos 1) (lower_of small.count) ≡ true → is_some (offsets n small.rest) ≡ true → bases_empty (writable_of flow.bases.items small.rest.bases) ≡ false
    small_written e some = target_written l n flow.bases.items p small.count e (some_base_of l n small.rest targets.rest.even some)

    -- where the smaller write is from, and that it begins there
    pub starts : int_le (pos 1) (lower_of small.count) ≡ true → (start window : Window) → window_within (offsets n small.rest) ≡ Some start → touched_window n small.rest small.count ≡ Some window
        → StartsBelow (writable_of flow.bases.items small.rest.bases) start window (is_one_byte small.count) (is_one_byte large.count)
    starts e start window is_start is_window =
        let begin = windows_at _ _ (within_same (offsets n small.rest)) start start is_start is_start in
        let bytes = windows_at _ _ (touched_same n small.rest small.count) window window is_window is_window in
        let lo = first_byte n small.rest small.count start window is_start is_window in
        record {
          some = small_written e (some_of_window (offsets n small.rest) start is_start);
          first = lo;
          narrow = one_less small.count large.count targets.count;
          single = λ one. record {
            lo = omega arith;
            some = bytes.some;
            hi = one_byte o b all small.rest small_own small.count start window one is_start is_window;
            near = begin.near;
          };
        }
