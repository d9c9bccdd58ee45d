-- Pointer arguments, in rising rows.
use Rattle.std.specs.Prelude.{◌≡◌, ℕ, ℤ, Bool, true, false, cond, not, ◌||◌, Option, Some, None, is_some, List, refl}
use Rattle.std.proofs.Common.{subst}
use Rattle.cc_base.specs.Lattices.{LatticeOf, OrderLaws}
use Rattle.cc_base.specs.IntegerDomains.{IntegersOf, BoundLaws, RangeLaws}
use Rattle.cc_base.specs.IntegerLaws.{MonotoneLaws}
use Rattle.cfg.specs.declared.programs.Flow.{Flow}
use Rattle.pointer_domain.specs.declared.base_sets.Bases.{Bases}
use Rattle.pointer_domain.specs.declared.pointer_sets.Pointers.{Pointers}
use Rattle.pointer_domain.specs.BaseSets.{no_base, bases_within, bases_empty}
use Rattle.pointer_domain.specs.PointerLattice.{no_pointer, pointer_order}
use Rattle.pointer_domain.specs.PointerTables.{offsets}
use Rattle.value_domain.specs.declared.values.values.Value.{Value}
use Rattle.value_domain.specs.declared.values.row_cells.Cell.{Cell}
use Rattle.domain_theorems.proofs.values.Bases.{empty_below}
use Rattle.domain_theorems.proofs.values.Flags.{Sets, or_sets, not_sets, flag_sets}
use Rattle.domain_theorems.proofs.values.Parts.{PointersBelow, pointer_parts}
use Rattle.store_cells.specs.declared.access_windows.Window.{Window}
use Rattle.store_cells.specs.AccessWindows.{window_within}
use Rattle.store_objects.specs.LiveBases.{live_of, any_freed}
use Rattle.store_monotone.specs.Operations.TopCells.{top_value}
use Rattle.store_monotone.specs.Operations.TopRows.{top_row}
use Rattle.store_monotone.proofs.operations.LiveBases.{live_of_monotone}
use Rattle.store_monotone.proofs.operations.NearCells.{near_pointer_is}
use Rattle.store_monotone.proofs.operations.Windows.{WindowsBelow, within_monotone}
use Rattle.transfer_checks.specs.declared.library_arguments.Argument.{Argument}
use Rattle.transfer_checks.specs.LibraryArguments.{within_bases, check_argument}
use Rattle.transfer_checks.specs.Touches.{into_bases}
use Rattle.transfer_library_plans.specs.declared.call_plans.Trail.{Trail}
use Rattle.transfer_library_plans.specs.Arguments.{argument_value}
use Rattle.transfer_library_plans.specs.Outputs.{has_place, placed, argument_at, given_trail}
use Rattle.transfer_system.specs.CallSteps.{call_of}
use Rattle.transfer_monotone.specs.Values.RisingRows.{PointersRise}
use Rattle.transfer_monotone.specs.Values.LaidOut.{IsLaidOut}
use Rattle.transfer_monotone.specs.Values.StepLaws.{FlowRows}
use Rattle.transfer_monotone.specs.Values.ViolationsBelow.{ViolationsBelow}
use Rattle.transfer_monotone.proofs.values.LiveParts.{live_own, live_empty, freed_more}
use Rattle.domain_theorems.proofs.values.Moves.{offsets_monotone}
use Rattle.transfer_monotone.proofs.values.Results.{none_rises, of_pointer}
use Rattle.transfer_monotone.proofs.values.Touches.{near_rises, into_rises, placed_bases}
use Rattle.transfer_monotone.proofs.values.ViolationOrder.{arguments_below}
use Rattle.transfer_monotone.proofs.library.ResultCalls.{argument_rises}
use Rattle.transfer_monotone.proofs.library.Trails.{TrailsBelow, checked_below}

-- a window that lies below a window is one
pub window_more : (w u : Option Window) → WindowsBelow w u → Sets (is_some w) (is_some u)
window_more None u h e = absurd (cc)
window_more (Some w) None h e = absurd h
window_more (Some w) (Some u) h e = refl

module _ {I : Type 0} (l : LatticeOf I) (n : IntegersOf I) (all : Bases) where
  -- a larger argument may violate all that the smaller one may, and of it more goes on
  pub record ArgumentsRise (x y : Argument I) : Type 0 where
    pub checks : ViolationsBelow x.violations y.violations
    pub rest : PointersRise l n all x.rest y.rest

module _ {I : Type 0} {l : LatticeOf I} {n : IntegersOf I} {stands : I → ℤ → Type 0} (o : OrderLaws l) (b : BoundLaws l n stands) (all : Bases) where
  -- the pointers into larger sets of bases
  pub within_rises : (p q : Pointers I) → PointersRise l n all p q → (s t : Bases) → bases_within s t ≡ true → bases_within t all ≡ true → Sets (bases_empty p.bases) (bases_empty s) → PointersRise l n all (within_bases l n p s) (within_bases l n q t)
  within_rises p q h s t i j z =
      let c = pointer_parts l p q h.below in
      let d = pointer_parts l q (top_value n all).pointer h.own in
      near_rises o b all (into_bases l n p s p.rel) (into_bases l n q t q.rel) (into_rises o b all p q h s t i j z p.rel q.rel c.rel d.rel)

  -- into no base is no pointer
  no_base_rises : (p q : Pointers I) → PointersRise l n all p q → PointersRise l n all (within_bases l n p no_base) q
  no_base_rises p q h =
      let none = none_rises o b all q h.own in
      subst (λ z. PointersRise l n all (within_bases l n p no_base) z) (near_pointer_is o b q all (pointer_parts l q (top_value n all).pointer h.own))
      (near_rises o b all (no_pointer l) q none)

  pub placed_rises : (x y : Argument I) → ArgumentsRise l n all x y → ArgumentsRise l n all (placed l n x) (placed l n y)
  placed_rises x y h = by_place (has_place n x.rest) (has_place n y.rest)
      (window_more (window_within (offsets n x.rest)) (window_within (offsets n y.rest)) (within_monotone (offsets n x.rest) (offsets n y.rest) (offsets_monotone o b x.rest y.rest (pointer_parts l x.rest y.rest h.rest.below))))
    where
      by_place : (a c : Bool) → Sets a c → ArgumentsRise l n all (cond a x (record x { rest = within_bases l n x.rest no_base })) (cond c y (record y { rest = within_bases l n y.rest no_base }))
      by_place true true s = h
      by_place true false s = absurd (let z : false ≡ true = s refl in cc)
      by_place false true s = record { checks = h.checks; rest = no_base_rises x.rest y.rest h.rest }
      by_place false false s = record { checks = h.checks; rest = near_rises o b all (no_pointer l) (no_pointer l) (none_rises o b all (no_pointer l) ((pointer_order o).least_below (top_value n all).pointer)) }

  -- what goes on has a place, or is none
  pub placed_has : (x : Argument I) → bases_empty (placed l n x).rest.bases ≡ false → is_some (window_within (offsets n (placed l n x).rest)) ≡ true
  placed_has x = by_place (has_place n x.rest) refl
    where
      by_place : (a : Bool) → has_place n x.rest ≡ a → bases_empty (cond a x (record x { rest = within_bases l n x.rest no_base })).rest.bases ≡ false → is_some (window_within (offsets n (cond a x (record x { rest = within_bases l n x.rest no_base })).rest)) ≡ true
      by_place true e h = e
      by_place false e h = absurd (let z : true ≡ false = h in cc)

module _ {I : Type 0} {l : LatticeOf I} {n : IntegersOf I} {stands : I → ℤ → Type 0} (o : OrderLaws l) (b : BoundLaws l n stands) (g : MonotoneLaws l n) (r : RangeLaws l n) (all : Bases) (flow : Flow) (k : IsLaidOut all flow) where
  module _ (x y : List (Cell I)) (h : FlowRows l n all flow x y) (p q : Pointers I) (j : PointersRise l n all p q) where
    c : PointersBelow l p q
    c = pointer_parts l p q j.below

    checked_rest : PointersRise l n all (check_argument l n flow.bases.items x p).rest (check_argument l n flow.bases.items y q).rest
    unfolding check_argument
    checked_rest = within_rises o b all p q j (live_of l n flow.bases.items x p.bases) (live_of l n flow.bases.items y q.bases)
        (live_of_monotone l n all (top_row n all flow.bases.items flow.temps) flow.bases.items p.bases q.bases x y (placed_bases o b all flow k) h.below c.bases)
        (live_own all flow.bases.items k.named l n y q.bases) (live_empty l n flow.bases.items x p.bases)

    checked_more : ViolationsBelow (check_argument l n flow.bases.items x p).violations (check_argument l n flow.bases.items y q).violations
    unfolding check_argument
    checked_more = arguments_below (p.null || p.ended) (any_freed l n flow.bases.items x p.bases) (q.null || q.ended) (any_freed l n flow.bases.items y q.bases)
        (or_sets p.null p.ended q.null q.ended (flag_sets p.null q.null c.null) (flag_sets p.ended q.ended c.ended))
        (freed_more o b all (top_row n all flow.bases.items flow.temps) x y h.below flow.bases.items (placed_bases o b all flow k) p.bases q.bases c.bases)

  -- the argument at a place
  pub given_rises : (arguments : List ℕ) (wanted : Option ℕ) (x y : List (Cell I)) → FlowRows l n all flow x y → (at : ℕ) → ArgumentsRise l n all (argument_at l n (call_of flow arguments wanted) x at) (argument_at l n (call_of flow arguments wanted) y at)
  given_rises arguments wanted x y h at =
      let v : Value I = argument_value l n (call_of flow arguments wanted) x at in
      let w : Value I = argument_value l n (call_of flow arguments wanted) y at in
      let j = of_pointer o b all (argument_rises o b g r all flow k arguments wanted x y h at) in
      placed_rises o b all (check_argument l n flow.bases.items x v.pointer) (check_argument l n flow.bases.items y w.pointer)
      (record { checks = checked_more x y h v.pointer w.pointer j; rest = checked_rest x y h v.pointer w.pointer j })

  pub some_base_more : (p q : Pointers I) → PointersRise l n all p q → Sets (not (bases_empty p.bases)) (not (bases_empty q.bases))
  some_base_more p q j = not_sets (bases_empty p.bases) (bases_empty q.bases) (empty_below p.bases q.bases (pointer_parts l p q j.below).bases)

  -- the trail behind the check of an argument
  pub given_below : (s t : Trail) → TrailsBelow s t → (x y : Argument I) → ArgumentsRise l n all x y → TrailsBelow (given_trail s x) (given_trail t y)
  given_below s t h x y j = checked_below s t h x.violations y.violations j.checks (not (bases_empty x.rest.bases)) (not (bases_empty y.rest.bases)) (some_base_more x.rest y.rest j.rest)
