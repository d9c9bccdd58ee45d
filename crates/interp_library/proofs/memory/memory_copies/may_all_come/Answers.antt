use Rattle.std.proofs.Common.{◌≡◌, ◌<◌, ◌≤◌, min, length, inl, inr, ⊎_elim, sym, ◌∙◌, arith}
use Rattle.std.proofs.lemmas.Bool.{cases_lt}
use Rattle.std.proofs.lemmas.Int.{clamps}
use Rattle.interp_library.proofs.memory.Copies.{come_end}
use Rattle.interp_library.proofs.memory.memory_copies.may_all_come.Goals as goal

pub returns : goal.returns
returns c =
    let least : c.min-count.result ≡ min (length c.args.tos.now) (length c.args.froms.now) = c.min-count.ensures in
    let past = c.loop-k-test.false in
    sym (come_end c.args.tos.now c.args.froms.now c.loop-k.k
    (⊎_elim
    (λ (short : c.loop-k.k < length c.args.froms.now). inl (omega (arith, clamps)))
    (λ (all : length c.args.froms.now ≤ c.loop-k.k). inr all)
    (cases_lt c.loop-k.k (length c.args.froms.now))))
    ∙ c.loop-k.invariant
