-- The touch of some bytes through a pointer.
use Rattle.std.specs.Prelude.{ℕ, ◌+◌, pos, ◌-ℤ◌, int_lt, Bool, false, cond, not, ◌&&◌, ◌||◌, Some, None, is_none, List}
use Rattle.cc_base.specs.Lattices.{LatticeOf}
use Rattle.cc_base.specs.IntegerDomains.{IntegersOf, of_range}
use Rattle.cc_base.specs.NumberRanges.{Range, range_sum, range_met}
use Rattle.c_layout.specs.declared.shapes.BaseInfo.{BaseInfo}
use Rattle.pointer_domain.specs.declared.base_sets.Bases.{Bases}
use Rattle.pointer_domain.specs.declared.pointer_sets.Pointers.{Pointers}
use Rattle.pointer_domain.specs.BaseSets.{bases_empty}
use Rattle.pointer_domain.specs.PointerLattice.{no_pointer}
use Rattle.pointer_domain.specs.PointerTables.{length_above}
use Rattle.value_domain.specs.declared.values.row_cells.Cell.{Cell}
use Rattle.store.specs.NearValues.{near_pointer}
use Rattle.store.specs.LiveBases.{is_literal_kind, has_base, writable_of, live_of, any_freed}
use Rattle.store.specs.Walks.{walk}
use Rattle.transfer_checks.specs.declared.touches.Touched.{Touched}
use Rattle.transfer_checks.specs.declared.violation_sets.Violations.{Violations}
use Rattle.transfer_checks.specs.ViolationSets.{no_violations}

-- some place lies before the bounds, or behind their length
abbrev pub leaves_bounds_at : Range → Range → Bool
leaves_bounds_at None len = false
leaves_bounds_at (Some p) None = false
leaves_bounds_at (Some p) (Some len) = int_lt p.0 (pos 0) || int_lt len.0 p.1

-- from the first byte at an offset to behind the last one of a size
abbrev pub span_of : ℕ → ℕ → Range
span_of offset size = Some (pos offset, pos (offset + size))

abbrev pub is_literal_or : Bases → BaseInfo → ℕ → Bool → Bool
is_literal_or set base number found = found || (has_base set number && is_literal_kind base.kind)

-- the set has a literal
unfoldable pub any_literal : List BaseInfo → Bases → Bool
any_literal bases set = walk (is_literal_or set) 0 bases false

-- the bases that go on; for a write they are no literals
abbrev pub kept_of : List BaseInfo → Bool → Bases → Bases
kept_of bases write set = cond write (writable_of bases set) set

module _ {I : Type 0} where
  -- the set has no base, or the value no number
  abbrev pub is_nowhere : IntegersOf I → Bases → I → Bool
  is_nowhere n bases rel = bases_empty bases || is_none (n.bounds rel)

  -- the pointers into these bases alone, at places above their lower bound
  abbrev pub into_bases : LatticeOf I → IntegersOf I → Pointers I → Bases → I → Pointers I
  into_bases l n p bases rel = cond (is_nowhere n bases rel) (no_pointer l) (record p { bases = bases; rel = rel; null = false; ended = false })

  -- the bytes may lie outside the bounds
  abbrev pub leaves_bounds : IntegersOf I → Pointers I → ℕ → ℕ → Bool
  leaves_bounds n p offset size = leaves_bounds_at (range_sum (n.bounds p.rel) (span_of offset size)) (n.bounds p.len)

  -- the places from which the bytes can lie within the bounds
  abbrev pub places_within : LatticeOf I → IntegersOf I → Pointers I → ℕ → ℕ → I
  places_within l n p offset size = of_range l n (range_met (n.bounds p.rel) (pos 0) ((length_above n p -ℤ pos offset) -ℤ pos size))

  -- into the bases that may be live, at those places
  abbrev pub touched_inside : LatticeOf I → IntegersOf I → Pointers I → Bases → ℕ → ℕ → Pointers I
  touched_inside l n p live offset size = into_bases l n p live (places_within l n p offset size)

  unfoldable pub touch_violations : LatticeOf I → IntegersOf I → List BaseInfo → List (Cell I) → Pointers I → ℕ → ℕ → Bool → Bases → Bases → Violations
  touch_violations l n bases row p offset size write live inside = record no_violations {
    nullref = p.null || p.ended;
    accfree = any_freed l n bases row p.bases;
    invptr = not (bases_empty live) && leaves_bounds n p offset size;
    strmod = write && any_literal bases inside;
  }

  abbrev pub touched_rest : LatticeOf I → IntegersOf I → List BaseInfo → Bool → Pointers I → Pointers I
  touched_rest l n bases write inside = near_pointer l n (into_bases l n inside (kept_of bases write inside.bases) inside.rel)

  -- the same, where the bases that may be live are known
  abbrev pub touch_live : LatticeOf I → IntegersOf I → List BaseInfo → List (Cell I) → Pointers I → ℕ → ℕ → Bool → Bases → Touched I
  touch_live l n bases row p offset size write live = record {
    violations = touch_violations l n bases row p offset size write live (touched_inside l n p live offset size).bases;
    rest = touched_rest l n bases write (touched_inside l n p live offset size);
  }

  -- what the touch may violate, and the pointers that go on
  unfoldable pub touch : LatticeOf I → IntegersOf I → List BaseInfo → List (Cell I) → Pointers I → ℕ → ℕ → Bool → Touched I
  touch l n bases row p offset size write = touch_live l n bases row p offset size write (live_of l n bases row p.bases)
