use Rattle.std.proofs.Common.{arith, sym, ◌∙◌, ◌^◌, Some}
use Rattle.std.proofs.lemmas.Int.{ints}
use Rattle.cc_base.specs.NumberRanges.{LiesWithin}
use Rattle.value_domain.proofs.strings.Lies.{bounds_lie}
use Rattle.value_domain.proofs.strings.first_zeros.FirstZero.text.Goals as goal

pub ends_text-requires-clause-at_lo : goal.ends_text-requires-clause-at_lo
ends_text-requires-clause-at_lo g c =
    let h : LiesWithin (2 ^ 64) (Some c.in-Some-Some-Some.o) = bounds_lie g.met.I.IntDomain.bounding c.args.at _ (sym c.in-Some-Some-Some.is-1 ∙ c.bounds-2.ensures) c.requires.at_near in
    let k : LiesWithin (2 ^ 64) (Some c.in-Some-Some-Some.t) = bounds_lie g.met.I.IntDomain.bounding c.args.len _ (sym c.in-Some-Some-Some.is-2 ∙ c.bounds-3.ensures) c.requires.len_near in
    omega (arith, ints)

pub ends_text-requires-clause-at_hi : goal.ends_text-requires-clause-at_hi
ends_text-requires-clause-at_hi g c =
    let h : LiesWithin (2 ^ 64) (Some c.in-Some-Some-Some.o) = bounds_lie g.met.I.IntDomain.bounding c.args.at _ (sym c.in-Some-Some-Some.is-1 ∙ c.bounds-2.ensures) c.requires.at_near in
    let k : LiesWithin (2 ^ 64) (Some c.in-Some-Some-Some.t) = bounds_lie g.met.I.IntDomain.bounding c.args.len _ (sym c.in-Some-Some-Some.is-2 ∙ c.bounds-3.ensures) c.requires.len_near in
    omega (arith, ints)
