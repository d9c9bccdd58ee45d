-- The operations on pointer parts. `l` and `n` are the lattice and the integers of the bounds' domain.
use Rattle.std.specs.Prelude.{ℕ, ◌^◌, ℤ, pos, ◌-ℤ◌, Bool, true, false, cond, not, ◌&&◌, ◌||◌, ◌==◌, Some, None}
use Rattle.cc_base.specs.Lattices.{LatticeOf}
use Rattle.cc_base.specs.IntegerTypes.{least_of, greatest_of}
use Rattle.cc_base.specs.IntegerDomains.{IntegersOf, IsNear, between_or_least, of_range}
use Rattle.cc_base.specs.Truths.{tri_of}
use Rattle.cc_base.specs.NumberRanges.{Range, range_sum, range_difference, range_times, range_over, range_met, range_clamped, ranges_meet, ranges_same_one, upper_or}
use Rattle.cc_base.specs.declared.int_types.IntType.{IntType}
use Rattle.cc_base.specs.declared.integer_operators.Rel.{Rel}
use Rattle.cc_base.specs.declared.integer_operators.Tri.{Tri}
use Rattle.cc_base.specs.declared.integer_operators.Tri.TheVariants.{Never}
use Rattle.pointer_domain.specs.BaseSets.{bases_has, bases_with, bases_without, bases_empty, bases_count, bases_within, bases_meet}
use Rattle.pointer_domain.specs.declared.base_sets.Bases.{Bases}
use Rattle.pointer_domain.specs.declared.pointer_sets.Pointers.{Pointers}
use Rattle.pointer_domain.specs.PointerLattice.{no_pointer}

-- above every offset: 2^64
abbrev pub the_end : ℤ
the_end = pos (2 ^ 64)

-- the greatest offset, size or factor: 2^30
abbrev pub longest : ℕ
longest = 2 ^ 30

module _ {I : Type 0} where
  -- the bounds of the three intervals lie from -2^64 to 2^64
  pub record IsNearPointer (n : IntegersOf I) (p : Pointers I) : Type 0 where
    pub lo : IsNear (n.bounds p.lo)
    pub rel : IsNear (n.bounds p.rel)
    pub len : IsNear (n.bounds p.len)

  -- the offsets: the lower bound and what is above it
  abbrev pub offsets : IntegersOf I → Pointers I → Range
  offsets n p = range_sum (n.bounds p.lo) (n.bounds p.rel)

  -- how many bytes stand from the offset to the upper bound, from 0 to the end
  abbrev pub rooms : IntegersOf I → Pointers I → Range
  rooms n p = range_clamped (range_difference (n.bounds p.len) (n.bounds p.rel)) (pos 0) the_end

  -- p at other places above its lower bound, neither null nor ended; without a place there is no pointer
  abbrev pub moved_to : LatticeOf I → IntegersOf I → Pointers I → Range → Pointers I
  moved_to l n p None = no_pointer l
  moved_to l n p (Some r) = record p { rel = between_or_least l n r.0 r.1; null = false; ended = false }

  -- the greatest length, which bounds the place from above
  abbrev pub length_above : IntegersOf I → Pointers I → ℤ
  length_above n p = upper_or (pos 0) (n.bounds p.len)

  -- p moved by a number times a scale, as far as it stays within its bounds
  abbrev pub shifted : LatticeOf I → IntegersOf I → Pointers I → I → ℕ → Pointers I
  shifted l n p by scale = moved_to l n p (range_met (range_sum (n.bounds p.rel) (range_times (n.bounds by) scale)) (pos 0) (length_above n p))

  -- the lower bounds of the part at `offset` of `size` bytes
  abbrev pub part_starts : IntegersOf I → Pointers I → ℕ → ℕ → Range
  part_starts n p offset size = range_met (range_sum (range_sum (n.bounds p.lo) (range_met (n.bounds p.rel) (pos 0) ((length_above n p -ℤ pos offset) -ℤ pos size))) (Some (pos offset, pos offset))) (pos 0) the_end

  -- a pointer to the start of a part
  abbrev pub part_at : LatticeOf I → IntegersOf I → Pointers I → ℕ → Range → Pointers I
  part_at l n p size None = no_pointer l
  part_at l n p size (Some r) = record { bases = p.bases; lo = between_or_least l n r.0 r.1; rel = n.one (pos 0); len = n.one (pos size); part = true; null = false; ended = false }

  -- p with its bounds narrowed to the `size` bytes at `offset`
  abbrev pub narrowed : LatticeOf I → IntegersOf I → Pointers I → ℕ → ℕ → Pointers I
  narrowed l n p offset size = part_at l n p size (part_starts n p offset size)

  -- the pointers into base `from` are into `to` instead
  abbrev pub renamed : Pointers I → ℕ → ℕ → Pointers I
  renamed p from to = cond (bases_has p.bases from) (record p { bases = bases_with (bases_without p.bases from) to }) p

  -- without a base there is no interval and no part
  abbrev pub without_bases : LatticeOf I → Pointers I → Pointers I
  without_bases l p = record (no_pointer l) { null = p.null; ended = p.ended }

  abbrev pub if_any_base : LatticeOf I → Pointers I → Pointers I
  if_any_base l p = cond (bases_empty p.bases) (without_bases l p) p

  -- the pointers into the base have ended
  abbrev pub ended_at : LatticeOf I → Pointers I → ℕ → Pointers I
  ended_at l p base = cond (bases_has p.bases base) (if_any_base l (record p { bases = bases_without p.bases base; ended = true })) p

  -- ---- equality, comparison, difference

  -- a base or null is there
  abbrev pub is_any : Pointers I → Bool
  is_any p = not (bases_empty p.bases) || p.null

  abbrev pub is_only_null : Pointers I → Bool
  is_only_null p = bases_empty p.bases && p.null

  -- both may be null, or a base is common and the offsets meet
  abbrev pub can_equal : IntegersOf I → Pointers I → Pointers I → Bool
  can_equal n p q = (p.null && q.null) || (bases_meet p.bases q.bases && ranges_meet (offsets n p) (offsets n q))

  -- both have the same one base, which stands for at most one instance
  abbrev pub same_one_base : Pointers I → Pointers I → Bases → Bool
  same_one_base p q single = (bases_count p.bases == 1) && (bases_within p.bases q.bases && (bases_within q.bases p.bases && bases_within p.bases single))

  abbrev pub must_equal : IntegersOf I → Pointers I → Pointers I → Bases → Bool
  must_equal n p q single = same_one_base p q single && (not (p.null || q.null) && ranges_same_one (offsets n p) (offsets n q))

  abbrev pub can_differ : IntegersOf I → Pointers I → Pointers I → Bases → Bool
  can_differ n p q single = not (is_only_null p && is_only_null q) && not (must_equal n p q single)

  abbrev pub pointers_equal : IntegersOf I → Pointers I → Pointers I → Bases → Tri
  pointers_equal n p q single = cond (is_any p && is_any q) (tri_of (can_equal n p q) (can_differ n p q single)) Never

  -- the comparison of the two offsets
  abbrev pub pointers_compare : LatticeOf I → IntegersOf I → Rel → Pointers I → Pointers I → Tri
  pointers_compare l n rel p q = n.compare rel (of_range l n (offsets n p)) (of_range l n (offsets n q))

  -- the difference of the two offsets in elements of `size` bytes, in the range of a type
  abbrev pub pointers_difference : LatticeOf I → IntegersOf I → Pointers I → Pointers I → ℕ → IntType → I
  pointers_difference l n p q size kind = of_range l n (range_met (range_over (range_difference (offsets n p) (offsets n q)) size) (least_of kind) (greatest_of kind))
