use Rattle.std.proofs.Common.{◌≡◌, arith, ap₂, sym, subst, ◌∙◌, rules, FitsSigned, to_z, of_z, ◌≤ℤ◌, ◌*ℤ◌, ◌*◌, ◌^◌, pos, unsigned_abs}
use Rattle.std.specs.Int.{w128}
use Rattle.std.proofs.lemmas.Int.{ints, to_z-of_z}
use Rattle.interval_domain.proofs.numbers.Powers.{Scaling, scaling}
use Rattle.interval_domain.specs.Numbers.SingleNumbers.{scaled}
use Rattle.interval_domain.proofs.numbers.scaled_numbers.scaled.Goals as goal

pub overflow_mul-result : goal.overflow_mul-result
overflow_mul-result c =
    let z = to_z w128 (of_z w128 c.args.z) in
    let n = to_z w128 (of_z w128 c.args.n) in
    let p = to_z w128 (of_z w128 c.power_of_two.result) in
    let f : FitsSigned w128 c.power_of_two.result = search rules in
    let s : Scaling z p n = scaling z p n (omega (arith, ints)) (omega (arith, ints)) (omega (arith, ints)) (omega (arith, ints)) (to_z-of_z w128 _ f ∙ c.power_of_two.ensures) in
    s.fits

pub returns-clause-value : goal.returns-clause-value
returns-clause-value c =
    let z = to_z w128 (of_z w128 c.args.z) in
    let n = to_z w128 (of_z w128 c.args.n) in
    let p = to_z w128 (of_z w128 c.power_of_two.result) in
    let f : FitsSigned w128 c.power_of_two.result = search rules in
    let s : Scaling z p n = scaling z p n (omega (arith, ints)) (omega (arith, ints)) (omega (arith, ints)) (omega (arith, ints)) (to_z-of_z w128 _ f ∙ c.power_of_two.ensures) in
    to_z-of_z w128 _ s.fits ∙ s.value ∙ ap₂ scaled (to_z-of_z w128 _ c.ranges.z) (to_z-of_z w128 _ c.ranges.n)

pub returns-clause-nonnegative : goal.returns-clause-nonnegative
returns-clause-nonnegative c =
    let z = to_z w128 (of_z w128 c.args.z) in
    let n = to_z w128 (of_z w128 c.args.n) in
    let p = to_z w128 (of_z w128 c.power_of_two.result) in
    let f : FitsSigned w128 c.power_of_two.result = search rules in
    let s : Scaling z p n = scaling z p n (omega (arith, ints)) (omega (arith, ints)) (omega (arith, ints)) (omega (arith, ints)) (to_z-of_z w128 _ f ∙ c.power_of_two.ensures) in
    let e = to_z-of_z w128 _ s.fits in let h = s.nonnegative in omega (arith, ints)

pub returns-clause-bound : goal.returns-clause-bound
returns-clause-bound c =
    let z = to_z w128 (of_z w128 c.args.z) in
    let n = to_z w128 (of_z w128 c.args.n) in
    let p = to_z w128 (of_z w128 c.power_of_two.result) in
    let f : FitsSigned w128 c.power_of_two.result = search rules in
    let s : Scaling z p n = scaling z p n (omega (arith, ints)) (omega (arith, ints)) (omega (arith, ints)) (omega (arith, ints)) (to_z-of_z w128 _ f ∙ c.power_of_two.ensures) in
    let e = to_z-of_z w128 _ s.fits in
    let k : z ≡ c.args.z = to_z-of_z w128 _ c.ranges.z in
    subst (λ r. r ≤ℤ pos (unsigned_abs c.args.z * 2 ^ 63)) (sym e) (subst (λ y. (z *ℤ p) ≤ℤ pos (unsigned_abs y * 2 ^ 63)) k s.bound)
