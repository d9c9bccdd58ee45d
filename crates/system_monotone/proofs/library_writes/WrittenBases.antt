-- Bases that a call writes to.
use Rattle.std.specs.Prelude.{◌≡◌, ℕ, ◌+◌, nat_lt, ℤ, pos, int_le, Bool, true, false, cond, not, Some, None, is_none, is_some, List, [], ◌∷◌, refl}
use Rattle.std.proofs.Common.{arith, sym, subst}
use Rattle.std.proofs.lemmas.Int.{ints}
use Rattle.std.proofs.lemmas.Bool.{and_from, and_parts, cond-true, false_from_ne_true}
use Rattle.cc_base.specs.Lattices.{LatticeOf}
use Rattle.cc_base.specs.IntegerDomains.{IntegersOf}
use Rattle.cc_base.specs.NumberRanges.{Range, range_sum}
use Rattle.c_layout.specs.declared.shapes.BaseInfo.{BaseInfo}
use Rattle.pointer_domain.specs.declared.base_sets.Bases.{Bases}
use Rattle.pointer_domain.specs.declared.pointer_sets.Pointers.{Pointers}
use Rattle.pointer_domain.specs.BaseFacts.{within_has, with_has_same}
use Rattle.pointer_domain.specs.BaseLattice.{bases_order}
use Rattle.pointer_domain.specs.BaseSets.{no_base, bases_has, bases_with, bases_within, bases_empty, bases_union}
use Rattle.pointer_domain.specs.PointerLattice.{no_pointer}
use Rattle.pointer_domain.specs.PointerTables.{offsets}
use Rattle.domain_theorems.specs.Values.Consistency as consistency
use Rattle.domain_theorems.specs.Values.Consistency.{is_consistent}
use Rattle.domain_theorems.proofs.values.Bases.{empty_below}
use Rattle.domain_theorems.proofs.values.Flags.{Sets}
use Rattle.store_objects.specs.LiveBases.{most_bases, only_base, has_base, with_base_if, is_literal_kind, is_writable_in, add_writable, writable_of}
use Rattle.store_cells.specs.NearValues.{near_pointer}
use Rattle.store_cells.specs.Walks.{walk}
use Rattle.store_monotone.specs.Operations.Placements.{EachFrom}
use Rattle.store_monotone.proofs.operations.LiveSets.{has_monotone, with_if_monotone}
use Rattle.store_monotone.proofs.operations.PairedSteps.{walk_pair}
use Rattle.transfer_checks.specs.LibraryArguments.{kept_after, after_write, within_bases}
use Rattle.transfer_checks.specs.Touches.{is_nowhere}
use Rattle.transfer_library.specs.MemoryCalls.{lower_of}

-- ---- sets that are made base by base

with_if_grows : (wanted : Bool) (number : ℕ) (found : Bases) → bases_within found (with_base_if wanted number found) ≡ true
with_if_grows true number found = bases_order.join_left found (only_base number)
with_if_grows false number found = bases_order.reflexive found

only_has : (number : ℕ) → nat_lt number most_bases ≡ true → bases_has (only_base number) number ≡ true
only_has number h = subst (λ s. bases_has s number ≡ true) (sym (cond-true (nat_lt number most_bases) (bases_with no_base number) no_base h)) (with_has_same no_base number)

with_if_has : (wanted : Bool) (number : ℕ) (found : Bases) → nat_lt number most_bases ≡ true → wanted ≡ true → has_base (with_base_if wanted number found) number ≡ true
with_if_has true number found h e = and_from (nat_lt number most_bases) (bases_has (bases_union found (only_base number)) number) h
    (within_has (only_base number) (bases_union found (only_base number)) number (bases_order.join_right found (only_base number)) (only_has number h))
with_if_has false number found h e = absurd (cc)

module _ (set : Bases) where
  grows : (at : ℕ) (bases : List BaseInfo) (found : Bases) → bases_within found (walk (add_writable set) at bases found) ≡ true
  grows at [] found = bases_order.reflexive found
  grows at (base ∷ bases) found = bases_order.transitive found (add_writable set base at found) (walk (add_writable set) (at + 1) bases (add_writable set base at found))
      (with_if_grows (is_writable_in set base at) at found) (grows (at + 1) bases (add_writable set base at found))

  -- what may be written is found
  found_each : (at : ℕ) (bases : List BaseInfo) (found : Bases) → EachFrom (λ base number. Sets (is_writable_in set base number) (has_base (walk (add_writable set) at bases found) number)) at bases
  found_each at [] found = tt
  found_each at (base ∷ bases) found = (
    λ e.
        let p = and_parts (has_base set at) (not (is_literal_kind base.kind)) e in
        has_monotone (add_writable set base at found) (walk (add_writable set) (at + 1) bases (add_writable set base at found)) at (grows (at + 1) bases (add_writable set base at found))
        (with_if_has (is_writable_in set base at) at found (and_parts (nat_lt at most_bases) (bases_has set at) p.0).0 e),
    found_each (at + 1) bases (add_writable set base at found),
  )

  -- what may be written of a set that may be is all of it
  writable_again : (bases : List BaseInfo) → bases_within (writable_of bases set) (writable_of bases (writable_of bases set)) ≡ true
  writable_again bases = walk_pair (λ base number. Sets (is_writable_in set base number) (has_base (writable_of bases set) number)) (λ x y. bases_within x y ≡ true) (add_writable set) (add_writable (writable_of bases set))
      (λ base number x y p j. with_if_monotone (is_writable_in set base number) (is_writable_in (writable_of bases set) base number) number x y
      (λ e. and_from (has_base (writable_of bases set) number) (not (is_literal_kind base.kind)) (p e) (and_parts (has_base set number) (not (is_literal_kind base.kind)) e).1) j)
      0 bases no_base no_base (found_each 0 bases no_base) (bases_order.reflexive no_base)

  still_some : (bases : List BaseInfo) → bases_empty (writable_of bases set) ≡ false → bases_empty (writable_of bases (writable_of bases set)) ≡ false
  still_some bases h = false_from_ne_true (bases_empty (writable_of bases (writable_of bases set))) (λ (e : bases_empty (writable_of bases (writable_of bases set)) ≡ true).
      let f = empty_below (writable_of bases set) (writable_of bases (writable_of bases set)) (writable_again bases) e in cc)

-- ---- targets

no_sum : (x y : Range) → is_none x ≡ true → is_some (range_sum x y) ≡ true → ⊥
no_sum None y h k = absurd (cc)
no_sum (Some p) y h k = absurd (cc)

surely_none : (c : ℤ) → int_le (pos 1) c ≡ true → int_le c (pos 0) ≡ true → ⊥
surely_none c h k = grind (arith, ints)

module _ {I : Type 0} (l : LatticeOf I) (n : IntegersOf I) where
  -- consistent pointers that have an offset have a base
  pub some_base_of : (p : Pointers I) → is_consistent n p ≡ true → is_some (offsets n p) ≡ true → bases_empty p.bases ≡ false
  some_base_of p h some = false_from_ne_true (bases_empty p.bases) (λ (e : bases_empty p.bases ≡ true).
      let f : consistency.is_nowhere n p ≡ true = subst (λ c. cond c (consistency.is_nowhere n p) (consistency.is_somewhere n p) ≡ true) e h in
      no_sum (n.bounds p.lo) (n.bounds p.rel) (and_parts (is_none (n.bounds p.lo)) _ f).0 some)

  -- the bases of a target of at least a byte may be written
  pub target_written : (bases : List BaseInfo) (p : Pointers I) (need : Range) → int_le (pos 1) (lower_of need) ≡ true → bases_empty (within_bases l n p (after_write bases p.bases need)).bases ≡ false
      → bases_empty (writable_of bases (within_bases l n p (after_write bases p.bases need)).bases) ≡ false
  target_written bases p None h e = absurd (cc)
  target_written bases p (Some c) h e = by_none (int_le c.0 (pos 0)) refl e
    where
      by_places : (z : Bool) → bases_empty (near_pointer l n (cond z (no_pointer l) (record p { bases = writable_of bases p.bases; rel = p.rel; null = false; ended = false }))).bases ≡ false
          → bases_empty (writable_of bases (near_pointer l n (cond z (no_pointer l) (record p { bases = writable_of bases p.bases; rel = p.rel; null = false; ended = false }))).bases) ≡ false
      by_places true e = absurd (let z : true ≡ false = e in cc)
      by_places false e = still_some p.bases bases e

      by_none : (z : Bool) → int_le c.0 (pos 0) ≡ z → bases_empty (within_bases l n p (kept_after bases p.bases z)).bases ≡ false → bases_empty (writable_of bases (within_bases l n p (kept_after bases p.bases z)).bases) ≡ false
      by_none true q e = absurd (surely_none c.0 h q)
      by_none false q e = by_places (is_nowhere n (writable_of bases p.bases) p.rel) e
