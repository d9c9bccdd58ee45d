-- Where the ends of a list are -2^64 and 2^64, what is made of a number by the fit stands for what its near part stands for.
use Rattle.std.proofs.Common.{◌≡◌, ◌-◌, ◌^◌, ◌&&◌, Some, List, arith, sym, subst, ap}
use Rattle.std.specs.Prelude.{ℤ, pos, negsuc, ◌≤ℤ◌}
use Rattle.std.proofs.lemmas.Int.{ints}
use Rattle.std.proofs.lemmas.Bool.{cond_both}
use Rattle.cc_base.specs.Lattices.{LatticeOf}
use Rattle.cc_base.specs.NumberRanges.{range_met}
use Rattle.cc_base.specs.IntegerDomains.{IntegersOf, BoundLaws, of_range}
use Rattle.value_domain.specs.Strings.FirstZeros.{the_end}
use Rattle.store_cells.specs.NearValues.{near_number}
use Rattle.transfer_system.specs.declared.bounded_rows.own_cells.Reach.{Reach}
use Rattle.transfer_system.specs.BoundedRows.FittedRows.{list_ends, count_ends, ranges_both, cut_to, number_fit, count_fit}
use Rattle.transfer_sound.proofs.invariant_maps.NearBounds.{near_in, met_stands}

module _ {I : Type 0} {l : LatticeOf I} {n : IntegersOf I} {gamma : I → ℤ → Type 0} (q : BoundLaws l n gamma) (list : List ℤ) (wide : list_ends list ≡ Some (negsuc (2 ^ 64 - 1), pos (2 ^ 64))) where
  counts_are : count_ends list ≡ Some (pos 0, the_end)
  counts_are = ap (λ r. range_met r (pos 0) the_end) wide

  pub number_told : (x : I) (z : ℤ) → gamma (near_number l n x) z → gamma (near_number l n (number_fit l n list x)) z
  number_told x z h =
      let near = (near_in q x z h).near in
      let from = near.from in
      cond_both (l.within list x) x (cut_to l n (list_ends list) x) (λ y. gamma (near_number l n y) z) (λ t. h)
      (λ t. subst (λ r. gamma (near_number l n (of_range l n (ranges_both (n.bounds x) r))) z) (sym wide) (met_stands q x (negsuc (2 ^ 64 - 1)) (pos (2 ^ 64)) z h (omega (arith, ints, from)) near.to))

  -- a count is none that is below 0
  pub count_told : (r : Reach I) (x : I) (z : ℤ) → pos 0 ≤ℤ z → gamma (near_number l n x) z → gamma (near_number l n (count_fit l n list r x)) z
  count_told r x z from h =
      cond_both (l.within list x && l.leq x r.counts) x (cut_to l n (count_ends list) x) (λ y. gamma (near_number l n y) z) (λ t. h)
      (λ t. subst (λ e. gamma (near_number l n (of_range l n (ranges_both (n.bounds x) e))) z) (sym counts_are) (met_stands q x (pos 0) the_end z h from (near_in q x z h).near.to))
