use Rattle.std.proofs.Common.{◌≡◌, arith, sym, subst, ◌∙◌, ◌^◌, ◌≤ℤ◌, ◌-ℤ◌, pos, neg_ℤ, refl}
use Rattle.std.proofs.lemmas.Int.{ints}
use Rattle.transfer_checks.proofs.Lies.{length_lies}
use Rattle.transfer_checks.proofs.touches.last_place.Goals as goal

pub overflow_sub-result : goal.overflow_sub-result
overflow_sub-result g c =
    let h : (neg_ℤ (pos (2 ^ 64)) ≤ℤ c.length_above.result) × (c.length_above.result ≤ℤ pos (2 ^ 64)) = subst (λ z. (neg_ℤ (pos (2 ^ 64)) ≤ℤ z) × (z ≤ℤ pos (2 ^ 64))) (sym c.length_above.ensures) (length_lies g.met.I.IntDomain.bounding c.args.p c.requires.near) in
    omega (arith, ints)

pub overflow_sub-result-2 : goal.overflow_sub-result-2
overflow_sub-result-2 g c =
    let h : (neg_ℤ (pos (2 ^ 64)) ≤ℤ c.length_above.result) × (c.length_above.result ≤ℤ pos (2 ^ 64)) = subst (λ z. (neg_ℤ (pos (2 ^ 64)) ≤ℤ z) × (z ≤ℤ pos (2 ^ 64))) (sym c.length_above.ensures) (length_lies g.met.I.IntDomain.bounding c.args.p c.requires.near) in
    omega (arith, ints)

pub returns : goal.returns
returns g c =
    let h : (neg_ℤ (pos (2 ^ 64)) ≤ℤ c.length_above.result) × (c.length_above.result ≤ℤ pos (2 ^ 64)) = subst (λ z. (neg_ℤ (pos (2 ^ 64)) ≤ℤ z) × (z ≤ℤ pos (2 ^ 64))) (sym c.length_above.ensures) (length_lies g.met.I.IntDomain.bounding c.args.p c.requires.near) in
    let e = c.length_above.ensures in
    let k = subst (λ z. ((c.length_above.result -ℤ pos c.args.offset) -ℤ pos c.args.size) ≡ ((z -ℤ pos c.args.offset) -ℤ pos c.args.size)) e refl in
    let j : _ ≡ ((c.length_above.result -ℤ pos c.args.offset) -ℤ pos c.args.size) = omega (arith, ints) in j ∙ k
