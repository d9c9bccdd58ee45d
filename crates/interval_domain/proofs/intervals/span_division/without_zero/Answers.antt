use Rattle.std.proofs.Common.{arith, sym, subst, rules, FitsSigned}
use Rattle.std.specs.Int.{w128}
use Rattle.std.proofs.lemmas.Int.{ints, to_z-of_z}
use Rattle.interval_domain.proofs.intervals.Made.{are_apart, is_near}
use Rattle.interval_domain.specs.Numbers.SingleNumbers.{ApartFromZero}
use Rattle.interval_domain.proofs.intervals.span_division.without_zero.Goals as goal

pub returns-clause-ends : goal.returns-clause-ends
returns-clause-ends c =
    let f : FitsSigned w128 c.above_zero.result = search rules in
    let g : FitsSigned w128 c.below_zero.result = search rules in
    are_apart _ _ _ c.between_or_empty.ensures (subst ApartFromZero (sym (to_z-of_z w128 _ f)) c.above_zero.ensures.apart) (subst ApartFromZero (sym (to_z-of_z w128 _ g)) c.below_zero.ensures.apart)

pub returns-clause-near : goal.returns-clause-near
returns-clause-near c = is_near _ _ _ c.between_or_empty.ensures (omega (arith, ints)) (omega (arith, ints))
