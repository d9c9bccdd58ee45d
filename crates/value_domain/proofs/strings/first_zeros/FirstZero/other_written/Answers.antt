use Rattle.std.proofs.Common.{arith, sym, ◌∙◌, ◌^◌, Some}
use Rattle.std.proofs.lemmas.Int.{ints}
use Rattle.cc_base.specs.NumberRanges.{LiesWithin}
use Rattle.value_domain.proofs.strings.Lies.{bounds_lie}
use Rattle.value_domain.proofs.strings.first_zeros.FirstZero.other_written.Goals as goal

pub cannot_be_zero-requires : goal.cannot_be_zero-requires
cannot_be_zero-requires g c = let h : LiesWithin (2 ^ 64) (Some c.in-Some-Some.o) = bounds_lie g.met.I.IntDomain.bounding c.args.at _ (sym c.in-Some-Some.is-1 ∙ c.bounds-2.ensures) c.requires in omega (arith, ints)
