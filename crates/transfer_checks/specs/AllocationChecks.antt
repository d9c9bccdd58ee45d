-- Rules on allocation and release.
use Rattle.std.specs.Prelude.{ℕ, pos, int_le, int_lt, Bool, false, cond, not, ◌&&◌, ◌||◌, Option, Some, None, List}
use Rattle.std.specs.Ordering.{int_eq}
use Rattle.cc_base.specs.Lattices.{LatticeOf}
use Rattle.cc_base.specs.IntegerDomains.{IntegersOf}
use Rattle.cc_base.specs.NumberRanges.{Range}
use Rattle.c_layout.specs.declared.shapes.BaseInfo.{BaseInfo}
use Rattle.pointer_domain.specs.declared.base_sets.Bases.{Bases}
use Rattle.pointer_domain.specs.declared.pointer_sets.Pointers.{Pointers}
use Rattle.pointer_domain.specs.BaseSets.{no_base, bases_empty, bases_within}
use Rattle.pointer_domain.specs.PointerLattice.{no_pointer}
use Rattle.pointer_domain.specs.PointerTables.{offsets}
use Rattle.value_domain.specs.declared.values.label_sets.Labels.{Labels}
use Rattle.value_domain.specs.declared.values.row_cells.Cell.{Cell}
use Rattle.value_domain.specs.Values.LabelSets.{is_unlabelled}
use Rattle.store.specs.NearValues.{near_pointer}
use Rattle.store.specs.LiveBases.{with_base_if, live_of, any_freed}
use Rattle.store.specs.Freeing.{is_heap_in}
use Rattle.store.specs.Walks.{walk}
use Rattle.transfer_checks.specs.declared.allocation_checks.Released.{Released}
use Rattle.transfer_checks.specs.declared.violation_sets.Violations.{Violations}
use Rattle.transfer_checks.specs.ViolationSets.{no_violations}
use Rattle.transfer_checks.specs.Touches.{into_bases}

-- fewer bytes than wanted may be asked for
abbrev pub is_too_small : Range → Option ℕ → Bool
is_too_small None wanted = false
is_too_small (Some size) None = false
is_too_small (Some size) (Some bytes) = int_lt size.0 (pos bytes)

-- an allocation of a size with labels, whose result becomes a pointer to a type of `wanted` bytes
abbrev pub allocation_violations : Range → Labels → Option ℕ → Violations
allocation_violations size labels wanted = record no_violations { taintsink = not (is_unlabelled labels); insufmem = is_too_small size wanted }

abbrev pub with_heap : Bases → BaseInfo → ℕ → Bases → Bases
with_heap set base number found = with_base_if (is_heap_in set base number) number found

-- the heap bases of a set
unfoldable pub heap_of : List BaseInfo → Bases → Bases
heap_of bases set = walk (with_heap set) 0 bases no_base

abbrev pub may_be_zero : Range → Bool
may_be_zero None = false
may_be_zero (Some p) = int_le p.0 (pos 0) && int_le (pos 0) p.1

abbrev pub may_differ : Range → Bool
may_differ None = false
may_differ (Some p) = not (int_eq p.0 (pos 0)) || not (int_eq p.1 (pos 0))

-- some base is no heap base, or some offset is not 0
abbrev pub is_misplaced : Bases → Bases → Range → Bool
is_misplaced live heap places = not (bases_empty live) && (not (bases_within live heap) || may_differ places)

module _ {I : Type 0} where
  abbrev pub release_violations : LatticeOf I → IntegersOf I → List BaseInfo → List (Cell I) → Pointers I → Bases → Violations
  release_violations l n bases row p live = record no_violations {
    dblfree = any_freed l n bases row p.bases;
    xfree = p.ended || is_misplaced live (heap_of bases live) (offsets n p);
  }

  -- those to the start of instances of heap bases
  abbrev pub to_starts : LatticeOf I → IntegersOf I → Pointers I → Bases → Pointers I
  to_starts l n p heap = cond (may_be_zero (offsets n p)) (into_bases l n p heap p.rel) (no_pointer l)

  -- and null
  abbrev pub released_rest : LatticeOf I → IntegersOf I → Pointers I → Bases → Pointers I
  released_rest l n p heap = near_pointer l n (record (to_starts l n p heap) { null = p.null; ended = false })

  -- what a release may violate, and the pointers that go on
  unfoldable pub check_release : LatticeOf I → IntegersOf I → List BaseInfo → List (Cell I) → Pointers I → Released I
  check_release l n bases row p = record {
    violations = release_violations l n bases row p (live_of l n bases row p.bases);
    rest = released_rest l n p (heap_of bases (live_of l n bases row p.bases));
  }
