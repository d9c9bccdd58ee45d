-- Intervals within the ends of a list.
use Rattle.std.proofs.Common.{◌≡◌, pos, ℤ, true, int_le, List, Option, Some, None, refl, ap, sym, subst, arith}
use Rattle.std.specs.List.{list_any}
use Rattle.std.proofs.lemmas.Int.{ints}
use Rattle.std.proofs.lemmas.Bool.{and_from, and_parts}
use Rattle.interval_domain.specs.declared.intervals.intervals.Interval.{Interval}
use Rattle.interval_domain.specs.declared.intervals.intervals.Interval.TheVariants.{Bottom, Of}
use Rattle.interval_domain.specs.Intervals.Spans.{interval_bounds}
use Rattle.interval_domain.specs.Intervals.IntervalOrder.{interval_leq}
use Rattle.interval_domain.specs.Intervals.IntervalRound.{interval_within}
use Rattle.interval_domain.specs.Intervals.IntervalLattice.{interval_lattice}
use Rattle.interval_domain.specs.Intervals.IntervalNumbers.{interval_numbers}
use Rattle.transfer_system.specs.BoundedRows.Ends.{any_below, any_above}
use Rattle.transfer_system.specs.BoundedRows.EndLaws.{HasEnds, EndLaws}

abbrev first_of : Option (ℤ × ℤ) → ℤ
first_of None = pos 0
first_of (Some p) = p.0

abbrev second_of : Option (ℤ × ℤ) → ℤ
second_of None = pos 0
second_of (Some p) = p.1

within_ends : (list : List ℤ) (x : Interval) (a b : ℤ) → interval_bounds x ≡ Some (a, b) → interval_within list x ≡ true → HasEnds list a b
within_ends list Bottom a b e h = cc
within_ends list (Of s) a b e h =
    let p : s.lo ≡ a = ap first_of e in
    let q : s.hi ≡ b = ap second_of e in
    let k = and_parts (list_any (λ m. int_le m s.lo) list) (list_any (λ m. int_le s.hi m) list) h in
    record { lower = subst (λ z. list_any (λ m. int_le m z) list ≡ true) p k.0; upper = subst (λ z. list_any (λ m. int_le z m) list ≡ true) q k.1 }

ends_within : (list : List ℤ) (x : Interval) (a b : ℤ) → interval_bounds x ≡ Some (a, b) → HasEnds list a b → interval_within list x ≡ true
ends_within list Bottom a b e h = cc
ends_within list (Of s) a b e h =
    let p : s.lo ≡ a = ap first_of e in
    let q : s.hi ≡ b = ap second_of e in
    and_from _ _ (subst (λ z. list_any (λ m. int_le m z) list ≡ true) (sym p) h.lower) (subst (λ z. list_any (λ m. int_le z m) list ≡ true) (sym q) h.upper)

smaller_within : (list : List ℤ) (x y : Interval) → interval_leq x y ≡ true → interval_within list y ≡ true → interval_within list x ≡ true
smaller_within list Bottom y h k = refl
smaller_within list (Of s) Bottom h k = cc
smaller_within list (Of s) (Of t) h k =
    let u = and_parts (list_any (λ m. int_le m t.lo) list) (list_any (λ m. int_le t.hi m) list) k in
    and_from _ _ (any_below list t.lo s.lo (grind (arith, ints)) u.0) (any_above list t.hi s.hi (grind (arith, ints)) u.1)

pub interval_ends : EndLaws interval_lattice interval_numbers
interval_ends = record { within_ends = within_ends; ends_within = ends_within; smaller_within = smaller_within }
