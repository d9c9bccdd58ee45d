-- Which bases of a set may be live, freed or literals, in rising rows.
use Rattle.std.specs.Prelude.{◌≡◌, ℕ, ◌<◌, ℤ, Bool, true, false, ◌&&◌, List, length, refl}
use Rattle.std.proofs.Common.{arith}
use Rattle.std.proofs.lemmas.Bool.{and_parts, false_from_ne_true}
use Rattle.cc_base.specs.Lattices.{LatticeOf, OrderLaws}
use Rattle.cc_base.specs.IntegerDomains.{IntegersOf, BoundLaws}
use Rattle.cc_base.specs.LatticeParts.{flag_leq}
use Rattle.c_layout.specs.declared.shapes.BaseInfo.{BaseInfo}
use Rattle.pointer_domain.specs.declared.base_sets.Bases.{Bases}
use Rattle.pointer_domain.specs.BaseSets.{no_base, bases_within, bases_empty, bases_has}
use Rattle.pointer_domain.specs.BaseLattice.{bases_order}
use Rattle.value_domain.specs.declared.values.row_cells.Cell.{Cell}
use Rattle.store_cells.specs.RowPositions.{state_at, state_position}
use Rattle.store_objects.specs.LiveBases.{only_base, has_base, with_base_if, is_literal_kind, is_live_in, add_live, live_of, is_writable_in, add_writable, writable_of, may_be_freed, is_freed_or, any_freed}
use Rattle.store_monotone.specs.Operations.Placements.{EachFrom, IsPlaced}
use Rattle.store_monotone.specs.Operations.RowsBelow.{RowsBelow}
use Rattle.store_monotone.proofs.operations.PairedSteps.{walk_pair, numbers_below, any_each}
use Rattle.store_monotone.proofs.operations.LiveSets.{has_monotone}
use Rattle.store_monotone.proofs.operations.Freeing.{state_at_monotone}
use Rattle.domain_theorems.proofs.values.BaseChanges.{has_none}
use Rattle.domain_theorems.proofs.values.Flags.{Sets, flag_sets, or_sets, and_sets}
use Rattle.transfer_checks.specs.Touches.{is_literal_or, any_literal}

-- ---- sets that are made base by base

-- within the set of all, where each base of the program is
module _ (all : Bases) where
  pub with_if_within : (wanted : Bool) (number : ℕ) (found : Bases) → bases_within (only_base number) all ≡ true → bases_within found all ≡ true → bases_within (with_base_if wanted number found) all ≡ true
  with_if_within true number found h k = bases_order.join_least found (only_base number) all k h
  with_if_within false number found h k = k

-- no base is found that is not wanted
pub with_if_empty : (wanted : Bool) (number : ℕ) (found : Bases) → wanted ≡ false → bases_empty found ≡ true → bases_empty (with_base_if wanted number found) ≡ true
with_if_empty true number found h k = absurd (cc)
with_if_empty false number found h k = k

-- an empty set has no base
none_has : (set : Bases) → bases_empty set ≡ true → (number : ℕ) → has_base set number ≡ false
none_has set h number = false_from_ne_true _ (λ (e : has_base set number ≡ true). has_none set number h (and_parts _ (bases_has set number) e).1)

and_none : (a b : Bool) → a ≡ false → (a && b) ≡ false
and_none true b h = cc
and_none false b h = refl

module _ (all : Bases) (bases : List BaseInfo) (named : (number : ℕ) → number < length bases → bases_within (only_base number) all ≡ true) where
  each_named : EachFrom (λ (base : BaseInfo) number. number < length bases) 0 bases
  each_named = numbers_below (length bases) 0 bases (omega arith)

  pub writable_own : (set : Bases) → bases_within (writable_of bases set) all ≡ true
  writable_own set = walk_pair (λ base number. number < length bases) (λ x y. bases_within x all ≡ true) (add_writable set) (add_writable set)
      (λ base number x y e h. with_if_within all (is_writable_in set base number) number x (named number e) h) 0 bases no_base no_base each_named (bases_order.least_below all)

  module _ {I : Type 0} (l : LatticeOf I) (n : IntegersOf I) where
    pub live_own : (row : List (Cell I)) (set : Bases) → bases_within (live_of l n bases row set) all ≡ true
    live_own row set = walk_pair (λ base number. number < length bases) (λ x y. bases_within x all ≡ true) (add_live l n row set) (add_live l n row set)
        (λ base number x y e h. with_if_within all (is_live_in l n row set base number) number x (named number e) h) 0 bases no_base no_base each_named (bases_order.least_below all)

pub writable_empty : (bases : List BaseInfo) (set : Bases) → bases_empty set ≡ true → bases_empty (writable_of bases set) ≡ true
writable_empty bases set z = walk_pair (λ base number. Unit {0}) (λ x y. bases_empty x ≡ true) (add_writable set) (add_writable set)
    (λ base number x y e h. with_if_empty (is_writable_in set base number) number x (and_none (has_base set number) _ (none_has set z number)) h) 0 bases no_base no_base (any_each 0 bases) refl

pub literal_more : (bases : List BaseInfo) (set more : Bases) → bases_within set more ≡ true → Sets (any_literal bases set) (any_literal bases more)
unfolding any_literal
literal_more bases set more h = walk_pair (λ base number. Unit {0}) (λ s t. Sets s t) (is_literal_or set) (is_literal_or more)
    (λ base number s t e k. or_sets s _ t _ k (and_sets (has_base set number) (is_literal_kind base.kind) (has_base more number) (is_literal_kind base.kind) (has_monotone set more number h) (λ f. f)))
    0 bases false false (any_each 0 bases) (λ e. e)

module _ {I : Type 0} (l : LatticeOf I) (n : IntegersOf I) where
  pub live_empty : (bases : List BaseInfo) (row : List (Cell I)) (set : Bases) → bases_empty set ≡ true → bases_empty (live_of l n bases row set) ≡ true
  live_empty bases row set z = walk_pair (λ base number. Unit {0}) (λ x y. bases_empty x ≡ true) (add_live l n row set) (add_live l n row set)
      (λ base number x y e h. with_if_empty (is_live_in l n row set base number) number x (and_none (has_base set number) _ (none_has set z number)) h) 0 bases no_base no_base (any_each 0 bases) refl

module _ {I : Type 0} {l : LatticeOf I} {n : IntegersOf I} {stands : I → ℤ → Type 0} (o : OrderLaws l) (b : BoundLaws l n stands) (all : Bases) (top r s : List (Cell I)) (h : RowsBelow l top r s) where
  freed_monotone : (base : BaseInfo) → IsPlaced n all top base → Sets (may_be_freed l n base r) (may_be_freed l n base s)
  freed_monotone base p = by_heap base.shape.heap refl
    where
      by_heap : (heap : Bool) → base.shape.heap ≡ heap → Sets (heap && (state_at l n r (state_position base)).freed) (heap && (state_at l n s (state_position base)).freed)
      by_heap false e f = f
      by_heap true e f =
          let m = state_at_monotone o b top r s (state_position base) h (p.state e) in
          flag_sets _ _ (and_parts (flag_leq (state_at l n r (state_position base)).live (state_at l n s (state_position base)).live) _ (and_parts (l.leq (state_at l n r (state_position base)).size (state_at l n s (state_position base)).size) _ m).1).1 f

  pub freed_more : (bases : List BaseInfo) → EachFrom (λ base number. IsPlaced n all top base) 0 bases → (set more : Bases) → bases_within set more ≡ true → Sets (any_freed l n bases r set) (any_freed l n bases s more)
  freed_more bases each set more k = walk_pair (λ base number. IsPlaced n all top base) (λ x y. Sets x y) (is_freed_or l n r set) (is_freed_or l n s more)
      (λ base number x y p j. or_sets x _ y _ j (and_sets (has_base set number) (may_be_freed l n base r) (has_base more number) (may_be_freed l n base s) (has_monotone set more number k) (freed_monotone base p)))
      0 bases false false each (λ e. e)
