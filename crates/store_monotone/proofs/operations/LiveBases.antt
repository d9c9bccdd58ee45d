-- Larger rows and sets have more live bases.
use Rattle.std.specs.Prelude.{◌≡◌, ℕ, Bool, true, false, not, ◌&&◌, ◌||◌, List, refl}
use Rattle.std.proofs.Common.{sym, subst}
use Rattle.std.proofs.lemmas.Bool.{and_parts, and_from}
use Rattle.cc_base.specs.Lattices.{LatticeOf}
use Rattle.cc_base.specs.IntegerDomains.{IntegersOf}
use Rattle.cc_base.specs.LatticeParts.{flag_leq}
use Rattle.c_layout.specs.declared.shapes.BaseInfo.{BaseInfo}
use Rattle.pointer_domain.specs.declared.base_sets.Bases.{Bases}
use Rattle.pointer_domain.specs.BaseSets.{no_base, bases_within}
use Rattle.pointer_domain.specs.BaseLattice.{bases_order}
use Rattle.value_domain.specs.declared.values.alloc_states.AllocState.{AllocState}
use Rattle.value_domain.specs.declared.values.row_cells.Cell.{Cell}
use Rattle.value_domain.specs.declared.values.row_cells.Cell.TheVariants.{Nothing, Value, First, State, Mixed}
use Rattle.value_domain.specs.Values.Cells.{cell_leq}
use Rattle.store_cells.specs.RowPositions.{cell_at, state_in, state_at, state_position}
use Rattle.store_objects.specs.LiveBases.{has_base, is_literal_kind, may_be_live, is_live_in, add_live, live_of, is_writable_in, add_writable, writable_of}
use Rattle.store_monotone.specs.Operations.Placements.{EachFrom, IsPlaced}
use Rattle.store_monotone.proofs.operations.PairedSteps.{walk_pair, any_each}
use Rattle.domain_theorems.proofs.values.Flags.{flag_sets}
use Rattle.store_monotone.proofs.operations.Rows.{at_monotone}
use Rattle.store_monotone.specs.Operations.TopCells.{top_state}
use Rattle.store_monotone.proofs.operations.LiveSets.{has_monotone, with_if_monotone}
use Rattle.store_monotone.specs.Operations.RowsBelow.{RowsBelow}

module _ {I : Type 0} (l : LatticeOf I) where
  live_in_monotone : (t : AllocState I) (x y : Cell I) → cell_leq l x y ≡ true → cell_leq l y (State t) ≡ true → (state_in l x).live ≡ true → (state_in l y).live ≡ true
  live_in_monotone t Nothing y h k e = cc
  live_in_monotone t (Value v) y h k e = cc
  live_in_monotone t (First v) y h k e = cc
  live_in_monotone t Mixed y h k e = cc
  live_in_monotone t (State s) Nothing h k e = cc
  live_in_monotone t (State s) (Value w) h k e = cc
  live_in_monotone t (State s) (First w) h k e = cc
  live_in_monotone t (State s) Mixed h k e = cc
  live_in_monotone t (State s) (State u) h k e =
      flag_sets s.live u.live (and_parts (flag_leq s.live u.live) (flag_leq s.freed u.freed) (and_parts (l.leq s.size u.size) (flag_leq s.live u.live && flag_leq s.freed u.freed) h).1).0 e

  may_live_monotone : (n : IntegersOf I) (top : List (Cell I)) (i : ℕ) (r s : List (Cell I)) → RowsBelow l top r s → cell_at top i ≡ State (top_state n) → (state_at l n r i).live ≡ true → (state_at l n s i).live ≡ true
  unfolding state_at
  may_live_monotone n top i r s h e k =
      live_in_monotone (top_state n) (cell_at r i) (cell_at s i) (at_monotone l r s i h.small) (subst (λ c. cell_leq l (cell_at s i) c ≡ true) e (at_monotone l s top i h.large)) k

  pub live_monotone : (n : IntegersOf I) (all : Bases) (top : List (Cell I)) (base : BaseInfo) (r s : List (Cell I)) → IsPlaced n all top base → RowsBelow l top r s → may_be_live l n base r ≡ true → may_be_live l n base s ≡ true
  live_monotone n all top base r s p h k = by_heap base.shape.heap refl k
    where
      by_heap : (heap : Bool) → base.shape.heap ≡ heap → (not heap || (state_at l n r (state_position base)).live) ≡ true → (not base.shape.heap || (state_at l n s (state_position base)).live) ≡ true
      by_heap true e k = subst (λ b. (not b || (state_at l n s (state_position base)).live) ≡ true) (sym e) (may_live_monotone n top (state_position base) r s h (p.state e) k)
      by_heap false e k = subst (λ b. (not b || (state_at l n s (state_position base)).live) ≡ true) (sym e) refl

  pub live_in_set_monotone : (n : IntegersOf I) (all : Bases) (top : List (Cell I)) (base : BaseInfo) (number : ℕ) (set more : Bases) (r s : List (Cell I)) → IsPlaced n all top base → RowsBelow l top r s → bases_within set more ≡ true → is_live_in l n r set base number ≡ true → is_live_in l n s more base number ≡ true
  live_in_set_monotone n all top base number set more r s p h k e =
      let a = and_parts (has_base set number) (may_be_live l n base r) e in
      and_from _ _ (has_monotone set more number k a.0) (live_monotone n all top base r s p h a.1)

  -- the bases of the set that may be live
  pub live_of_monotone : (n : IntegersOf I) (all : Bases) (top : List (Cell I)) (bases : List BaseInfo) (set more : Bases) (r s : List (Cell I)) → EachFrom (λ base number. IsPlaced n all top base) 0 bases → RowsBelow l top r s → bases_within set more ≡ true → bases_within (live_of l n bases r set) (live_of l n bases s more) ≡ true
  live_of_monotone n all top bases set more r s p h k =
      walk_pair (λ base number. IsPlaced n all top base) (λ x y. bases_within x y ≡ true) (add_live l n r set) (add_live l n s more)
      (λ base number x y q j. with_if_monotone (is_live_in l n r set base number) (is_live_in l n s more base number) number x y (live_in_set_monotone n all top base number set more r s q h k) j)
      0 bases no_base no_base p (bases_order.reflexive no_base)

-- those that are no literals
pub writable_monotone : (bases : List BaseInfo) (set more : Bases) → bases_within set more ≡ true → bases_within (writable_of bases set) (writable_of bases more) ≡ true
writable_monotone bases set more k =
    walk_pair (λ base number. Unit {0}) (λ x y. bases_within x y ≡ true) (add_writable set) (add_writable more)
    (λ base number x y q j. with_if_monotone (is_writable_in set base number) (is_writable_in more base number) number x y
    (λ e. let a = and_parts (has_base set number) (not (is_literal_kind base.kind)) e in and_from _ _ (has_monotone set more number k a.0) a.1) j)
    0 bases no_base no_base (any_each 0 bases) (bases_order.reflexive no_base)
