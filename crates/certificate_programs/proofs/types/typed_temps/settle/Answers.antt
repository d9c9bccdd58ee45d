use Rattle.std.proofs.Common.{◌∙◌, ◌+◌, length, sym, ap, arith}
use Rattle.certificate_programs.specs.Types.TypedTemps.{spread}
use Rattle.certificate_programs.proofs.types.KindSteps.{settle_more}
use Rattle.certificate_programs.proofs.types.typed_temps.settle.Goals as goal

pub loop-pass-preserved : goal.loop-pass-preserved
loop-pass-preserved c =
    let temps = c.loop-pass.auto.kinds in
    settle_more c.args.flow.now (length c.args.kinds.now) (length c.args.flow.now.blocks.items + 1) c.loop-pass._pass c.loop-pass.all c.spread.new.all _
    (omega (arith, c.loop-pass-test.true, c.len-pass-end.ensures))
    (sym (ap (λ n. (spread c.args.flow.now n c.loop-pass.all).grew) temps) ∙ sym c.spread.ensures.grew ∙ c.if-not-spread.false)
    (c.spread.ensures.all ∙ ap (λ n. (spread c.args.flow.now n c.loop-pass.all).all) temps)
    c.loop-pass.invariant
