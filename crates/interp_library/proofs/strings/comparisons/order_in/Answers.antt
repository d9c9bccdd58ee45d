use Rattle.std.proofs.Common.{◌≡◌, ◌<◌, ◌≤◌, min, length, inl, inr, ⊎_elim, sym, ◌∙◌, arith}
use Rattle.std.proofs.lemmas.Bool.{cases_lt}
use Rattle.std.proofs.lemmas.Int.{clamps}
use Rattle.interp_library.proofs.strings.Texts.{order_end}
use Rattle.interp_library.proofs.strings.comparisons.order_in.Goals as goal

pub returns : goal.returns
returns c =
    let least : c.min-count.result ≡ min (length c.args.left.now) (length c.args.right.now) = c.min-count.ensures in
    let past = c.loop-k-test.false in
    sym (order_end c.args.left.now c.args.right.now c.loop-k.k
    (⊎_elim
    (λ (short : c.loop-k.k < length c.args.right.now). inl (omega (arith, clamps)))
    (λ (all : length c.args.right.now ≤ c.loop-k.k). inr all)
    (cases_lt c.loop-k.k (length c.args.right.now))))
    ∙ c.loop-k.invariant
