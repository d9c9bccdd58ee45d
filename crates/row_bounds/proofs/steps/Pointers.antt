-- Pointers from a floor on: moved, narrowed, touched and given to calls.
use Rattle.std.specs.Prelude.{ℕ, ◌≤ℤ◌, ℤ, pos, ◌-ℤ◌, Bool, false, Some, None, List}
use Rattle.std.proofs.Common.{arith}
use Rattle.std.proofs.lemmas.Int.{ints}
use Rattle.std.proofs.lemmas.Bool.{cond_both}
use Rattle.cc_base.specs.Lattices.{LatticeOf}
use Rattle.cc_base.specs.NumberRanges.{Range, range_sum, range_times, range_met}
use Rattle.cc_base.specs.IntegerDomains.{IntegersOf}
use Rattle.c_layout.specs.declared.shapes.BaseInfo.{BaseInfo}
use Rattle.pointer_domain.specs.declared.base_sets.Bases.{Bases}
use Rattle.pointer_domain.specs.declared.pointer_sets.Pointers.{Pointers}
use Rattle.pointer_domain.specs.PointerLattice.{no_pointer}
use Rattle.pointer_domain.specs.PointerTables.{the_end, moved_to, length_above, shifted, part_at, part_starts, narrowed}
use Rattle.value_domain.specs.declared.values.row_cells.Cell.{Cell}
use Rattle.store_objects.specs.LiveBases.{live_of}
use Rattle.transfer_checks.specs.LibraryArguments.{within_bases, check_argument}
use Rattle.transfer_checks.specs.Touches.{kept_of, is_nowhere, into_bases, places_within, touched_inside, touch}
use Rattle.row_bounds.specs.Stores.Floors.{IsFrom, IsPointerFrom}
use Rattle.row_bounds.proofs.stores.Ranges.{FloorLaws, met_from, range_from, between_from, one_from, low_from, count_low}
use Rattle.row_bounds.proofs.stores.Values.{no_pointer_from, near_pointer_from}

module _ {I : Type 0} {l : LatticeOf I} {n : IntegersOf I} {stands : I → ℤ → Type 0} {floor : ℤ} (k : FloorLaws l n stands floor) where
  abbrev PointerFrom : Pointers I → Type 0
  PointerFrom p = IsPointerFrom n floor p

  pub count_from : (c : ℕ) → IsFrom (pos 0) (n.bounds (n.one (pos c)))
  count_from c = one_from k (pos 0) (pos c) (omega (arith, ints))

  pub count_floor : (c : ℕ) → IsFrom floor (n.bounds (n.one (pos c)))
  count_floor c = low_from k (pos c) (omega (arith, ints))

  -- at other places
  moved_from : (p : Pointers I) → IsPointerFrom n floor p → (r : Range) → IsFrom floor r → IsPointerFrom n floor (moved_to l n p r)
  moved_from p h None j = no_pointer_from k
  moved_from p h (Some r) j = (h.0, between_from k floor r.0 r.1 j, h.2)

  zero_low : pos 0 ≤ℤ pos 0
  zero_low = omega (arith, ints)

  pub shifted_from : (p : Pointers I) (by : I) (scale : ℕ) → IsPointerFrom n floor p → IsPointerFrom n floor (shifted l n p by scale)
  shifted_from p by scale h =
      let sums = range_sum (n.bounds p.rel) (range_times (n.bounds by) scale) in
      let end = length_above n p in
      moved_from p h (range_met sums (pos 0) end) (count_low k (range_met sums (pos 0) end) (met_from (pos 0) sums (pos 0) end zero_low))

  part_from : (p : Pointers I) (size : ℕ) (r : Range) → IsFrom (pos 0) r → IsPointerFrom n floor (part_at l n p size r)
  part_from p size None h = no_pointer_from k
  part_from p size (Some r) h = (between_from k (pos 0) r.0 r.1 h, count_floor 0, count_from size)

  pub narrowed_from : (p : Pointers I) (offset size : ℕ) → IsPointerFrom n floor (narrowed l n p offset size)
  narrowed_from p offset size =
      let starts = range_sum (range_sum (n.bounds p.lo) (range_met (n.bounds p.rel) (pos 0) ((length_above n p -ℤ pos offset) -ℤ pos size))) (Some (pos offset, pos offset)) in
      part_from p size (part_starts n p offset size) (met_from (pos 0) starts (pos 0) the_end zero_low)

  -- ---- touches

  pub into_from : (p : Pointers I) (bases : Bases) (rel : I) → IsPointerFrom n floor p → IsFrom floor (n.bounds rel) → IsPointerFrom n floor (into_bases l n p bases rel)
  into_from p bases rel h j = cond_both (is_nowhere n bases rel) (no_pointer l) (record p { bases = bases; rel = rel; null = false; ended = false }) PointerFrom (λ e. no_pointer_from k) (λ e. (h.0, j, h.2))

  -- the last place from which the bytes lie within the bounds
  abbrev last : Pointers I → ℕ → ℕ → ℤ
  last p offset size = (length_above n p -ℤ pos offset) -ℤ pos size

  inside_from : (p : Pointers I) (live : Bases) (offset size : ℕ) → IsPointerFrom n floor p → IsPointerFrom n floor (touched_inside l n p live offset size)
  inside_from p live offset size h = into_from p live (places_within l n p offset size) h (range_from k floor (range_met (n.bounds p.rel) (pos 0) (last p offset size)) (count_low k (range_met (n.bounds p.rel) (pos 0) (last p offset size)) (met_from (pos 0) (n.bounds p.rel) (pos 0) (last p offset size) zero_low)))

  -- what goes on behind a touch
  pub touch_from : (bases : List BaseInfo) (row : List (Cell I)) (p : Pointers I) (offset size : ℕ) (write : Bool) → IsPointerFrom n floor p → IsPointerFrom n floor (touch l n bases row p offset size write).rest
  unfolding touch
  touch_from bases row p offset size write h =
      let inside = touched_inside l n p (live_of l n bases row p.bases) offset size in
      let j = inside_from p (live_of l n bases row p.bases) offset size h in
      near_pointer_from k (into_bases l n inside (kept_of bases write inside.bases) inside.rel) (into_from inside (kept_of bases write inside.bases) inside.rel j j.1)

  -- ---- arguments

  pub within_from : (p : Pointers I) (bases : Bases) → IsPointerFrom n floor p → IsPointerFrom n floor (within_bases l n p bases)
  within_from p bases h = near_pointer_from k (into_bases l n p bases p.rel) (into_from p bases p.rel h h.1)

  pub argument_from : (bases : List BaseInfo) (row : List (Cell I)) (p : Pointers I) → IsPointerFrom n floor p → IsPointerFrom n floor (check_argument l n bases row p).rest
  unfolding check_argument
  argument_from bases row p h = within_from p (live_of l n bases row p.bases) h
